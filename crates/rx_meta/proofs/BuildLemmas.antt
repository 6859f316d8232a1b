-- From what the strategy's maker answers to what a build answers.
use Rattle.std.proofs.Common.{◌≡◌, ℕ, ◌≤◌, ◌<◌, List, [], ◌∷◌, length, Option, Ok, refl, sym, ap, ◌∙◌, subst, inl, inr, arith, true≢false}
use Rattle.std.proofs.lemmas.Bool.{and_parts}
use Rattle.std.proofs.lemmas.Bool.Decides.{nat_tests}
use Rattle.std.proofs.lemmas.List.{take_all}
use Rattle.std.proofs.lemmas.Option.{none-some, same_Some}
use Rattle.std.specs.Prelude.{◌+◌, ◌-◌, ◌*◌, ◌^◌, ◌/◌, ◌&&◌, ◌||◌, not, min, nat_le, Bool, true, false, Some, None, is_some, option_map, IfSome, IsSomeAnd, slice_get, if◌then◌else◌}
use Rattle.rx_search.specs.Limits.{id_limit}
use Rattle.rx_search.specs.Needles.{BeginsEachMatch}
use Rattle.rx_model.specs.Expression.{Expression, alternation, AreOrdered}
use Rattle.rx_model.proofs.lemmas.runs.FirstLemmas.{none-is-some}
use Rattle.rx_search.specs.declared.anchored.MatchKind.{MatchKind}
use Rattle.rx_search.specs.declared.anchored.MatchKind.TheVariants.{All, LeftmostFirst}
use Rattle.rx_hir.specs.Normal.{expressions}
use Rattle.rx_hir.specs.Cost.{state_size, nfa_states, slots_of}
use Rattle.rx_nfa.specs.Compiled.{IsCompiled, patterns_of, AreAllowed as AreAllowedStates, AreFew as AreFewStates, IsRefusal as IsRefusalOfNfa}
use Rattle.rx_nfa.specs.Config.{terminator_of as nfa_terminator_of, captures_of as nfa_captures_of}
use Rattle.rx_nfa.specs.Nfa.{Nfa, HasReverseRuns}
use Rattle.rx_nfa.specs.declared.compiler.config.Config.{Config as CompilerConfig}
use Rattle.rx_nfa.specs.declared.error.BuildError.{BuildError as NfaError}
use Rattle.rx_nfa.specs.declared.error.BuildError.TheVariants.{TooManyPatterns as ManyPatterns, TooManyGroups as ManyGroups, TooManyStates as ManyStates}
use Rattle.rx_nfa.specs.declared.error.BuildError.TheVariants.{ExceededSizeLimit as ExceededLimit, Memory as NoMemory}
use Rattle.rx_engines.specs.Engine.{accounted_memory}
use Rattle.rx_reader.specs.declared.config.Config.{Config as Grammar}
use Rattle.rx_dfa.specs.Lazy.{minimum}
use Rattle.rx_dfa.specs.declared.lazy.lazy_cache.LazyCache.{LazyCache}
use Rattle.rx_order.specs.Inner.{inner_of}
use Rattle.rx_order.specs.Tests.{inner_has_no_earlier}
use Rattle.rx_strategy.specs.Attempts.{HasSuffix, HasInner}
use Rattle.rx_onepass.specs.Dfa.{Dfa as OnceDfa, explicit_slots}
use Rattle.rx_strategy.specs.Availability.{is_within, may_be_lazy, table_memory, AreDfasBeside}
use Rattle.rx_strategy.specs.Config.{kind_of, prefilter_of, auto_prefilter_of, utf8_of, compiler_of, reverse_compiler_of, prefix_compiler_of, asks_for_dfas, dfa_of, hybrid_of, onepass_of, is_leftmost}
use Rattle.rx_strategy.specs.Config.{dfa_size_limit_of, dfa_state_limit_of, hybrid_cache_capacity_of}
use Rattle.rx_strategy.specs.Core.{CoreValue, IsCoreFor, IsCoreOf, core_memory, reverse_memory}
use Rattle.rx_strategy.specs.Dfas.{pair_of, tables_memory as full_memory, are_lazy, FitsLazies, states_memory as lazy_memory}
use Rattle.rx_strategy.specs.Impossible.{is_always_anchored_start}
use Rattle.rx_strategy.specs.Prefix.{PrefixValue, dfa_in, dfa_of as prefix_dfa_of, prefix_limit, IsSortOf, HasNoPrefix, table_of, is_lazy_sort, prefix_states, FitsSort}
use Rattle.rx_strategy.specs.OnePass.{IsOnePassOf, wants_onepass, accounted_onepass, onepass_memory as once_memory}
use Rattle.rx_strategy.specs.declared.dfas.Dfas.{Dfas}
use Rattle.rx_strategy.specs.declared.dfas.Dfas.TheVariants.{Absent, Full, Lazy}
use Rattle.rx_strategy.specs.declared.lazies.Lazies.{Lazies}
use Rattle.rx_strategy.specs.declared.prefix.Sort.{Sort}
use Rattle.rx_strategy.specs.declared.prefix.Sort.TheVariants.{Full as FullSort, Lazy as LazySort}
use Rattle.rx_strategy.specs.Prefilter.{prefilter_for, prefilter_memory}
use Rattle.rx_strategy.proofs.NeedleLemmas.{chosen-begins}
use Rattle.rx_strategy.specs.declared.config.Config.{Config}
use Rattle.rx_strategy.specs.declared.strategy.Strategy.{Strategy as CoreStrategy}
use Rattle.rx_strategy.specs.declared.strategy.Strategy.TheVariants.{Core as TheCore}
use Rattle.rx_strategy.specs.Cache.{CacheValue as RoomsValue, Fits as FitsIn, accounted_core}
use Rattle.rx_pre.specs.Literals.{literal_needles}
use Rattle.rx_pre.specs.Pre.{PreValue, IsPreFor}
use Rattle.rx_pre.specs.Whole.{AreWhole, AreWholeOf}
use Rattle.rx_strategies.specs.Attempts.{InnerValue, IsSuffixOf, IsInnerOf, HasNoInner}
use Rattle.rx_strategies.specs.Cache.{CacheValue as StrategyCache, FitsInner, rooms_states, states_in}
use Rattle.rx_strategies.specs.Choice.{is_automatic, literals_for, is_from_end, may_attempt, suffix_for, inner_for, suffix_of_one, if_in_order, if_inner_in_order}
use Rattle.rx_strategies.specs.Strategy.{IsMadeOf, IsPlainOf, IsForwardsOf, IsEndlessOf, IsPreOf, literal_name, name_of as strategy_name}
use Rattle.rx_strategies.specs.declared.strategy.Strategy.{Strategy}
use Rattle.rx_strategies.specs.declared.strategy.Strategy.TheVariants.{Pre, Core, ReverseAnchored, ReverseSuffix, ReverseInner}
use Rattle.rx_strategies.proofs.StrategyLemmas.{pre-ordered}
use Rattle.rx_syntax.specs.Patterns.{all_read}
use Rattle.rx_thompson.specs.Error.{error_of as compiler_error_of}
use Rattle.rx_meta.specs.Cache.{CacheValue, Fits, IsAsMadeFor, accounted_for, states_memory}
use Rattle.rx_meta.specs.Impossible.{IsKnownImpossible}
use Rattle.rx_meta.specs.Build.{patterns_for, AreFew, AreAllowed, engine_memory, onepass_cache, cache_memory, nfas_memory, memory_beside, memory_by, cache_memory_by, prefilter_by, least_capacity, HasRoom, HaveNoDfa, IsBuilt, IsBuiltOf, IsRefusal, IsRefused, IsRefusedFor}
use Rattle.rx_meta.specs.Error.{error_of}
use Rattle.rx_meta.specs.Name.{Way, by_literals, from_end, by_suffix, by_inner, plain, chosen, accounted, is_fast, end_alone, suffix_by, inner_by, literals_or, from_end_or, suffix_or, inner_or_plain, way_for, way_name, accelerated_by, is_fast_by}
use Rattle.rx_meta.specs.Reading.{reading_of}
use Rattle.rx_meta.specs.Regex.{RegexValue, Serves, kind_in, groups_in, pattern_count, properties_in, prefilter_in, regex_memory, onepass_memory, tables_memory, has_onepass, has_lazy, has_dfas, reads_prefix, is_all_lazy, name_of, is_accelerated, IsMadeUnder}
use Rattle.rx_meta.specs.declared.error.BuildError.{BuildError}
use Rattle.rx_meta.specs.declared.error.BuildError.TheVariants.{Syntax, NFA, Memory}
use Rattle.rx_meta.proofs.NameLemmas.{not-inner, same-prefix, none-reads}
use Rattle.rx_meta.proofs.PrefixLemmas.{inner-slots}

pub few-of : (hs : List Expression) → AreFewStates hs → AreFew hs
few-of hs few = record { patterns = few.patterns; slots = few.slots }

allowed-of : (c : Config) (hs : List Expression) → AreAllowedStates (compiler_of c) hs → AreAllowed c hs
allowed-of c hs allowed = record { few = few-of hs allowed.few; states = allowed.states; size = allowed.size }

-- a part that was cut at the greatest number of 64 bits cuts no more than the whole
min-once : (a b c d o e : ℕ) → min (2 ^ 64 - 1) (a + min (2 ^ 64 - 1) (b + c + d + o + e)) ≡ min (2 ^ 64 - 1) (a + b + (c + d) + (o + e))
min-once a b c d o e = omega arith

-- likewise of what is beside it
min-more : (a b more : ℕ) → min (2 ^ 64 - 1) (min (2 ^ 64 - 1) (a + b) + more) ≡ min (2 ^ 64 - 1) (a + (b + more))
min-more a b more = omega arith

min-prefixed : (a o b needles states table : ℕ)
    → min (2 ^ 64 - 1) (min (2 ^ 64 - 1) (a + (o + b)) + needles + (states + table)) ≡ min (2 ^ 64 - 1) (a + (o + (b + table) + needles + states))
min-prefixed a o b needles states table = omega arith

-- what is accounted for the NFA that reads backwards
back-memory : (k : CompilerConfig) (hs : List Expression) (o : Option Nfa) (b : Bool) → is_some o ≡ b → IfSome o (IsCompiled k hs)
    → reverse_memory o ≡ (if b then state_size * nfa_states hs else 0)
back-memory k hs None b is made = rw (sym is) refl
back-memory k hs (Some back) b is made = rw (sym is) (ap (λ n. state_size * n) made.accounted)

-- which leads back over what the patterns mean
back-runs : (c : Config) (hs : List Expression) (o : Option Nfa) → IfSome o (IsCompiled (reverse_compiler_of c) hs)
    → IfSome o (λ back. HasReverseRuns back (patterns_for c hs))
back-runs c hs None made = tt
back-runs c hs (Some back) made =
    let runs = made.reverse_runs refl (utf8_of c) in
    record { patterns = runs.patterns; each = runs.each; all = runs.all }

-- the cache of a one-pass DFA, where there is one
once-cache : (c : Config) (nfa : Nfa) (h : Expression) (o : Option OnceDfa) (hs : List Expression) → IsOnePassOf c nfa h o → nfa.slots ≡ slots_of hs
    → length nfa.starts ≡ length hs → accounted_onepass o ≡ (if is_some o then onepass_cache hs else 0)
once-cache c nfa h None hs is slots count = refl
once-cache c nfa h (Some d) hs is slots count =
    ap (λ (n : Nfa). 8 * explicit_slots n) is.1.nfa_is ∙ (λ i. 8 * (slots i - 2 * count i))

-- which is there only where one may be used
once-gone : (c : Config) (nfa : Nfa) (h : Expression) (o : Option OnceDfa) → IsOnePassOf c nfa h o → onepass_of c ≡ false → is_some o ≡ false
once-gone c nfa h None is off = refl
once-gone c nfa h (Some d) is off = absurd (true≢false (sym (and_parts (onepass_of c) (wants_onepass h) is.0).0 ∙ off))

-- the tables of full DFAs, which are there only where they are asked for
dfas-tables : (c : Config) (nfa : Nfa) (reverse : Option Nfa) (dfas : Dfas) → AreDfasBeside c nfa reverse dfas → dfa_of c ≡ false → full_memory dfas ≡ 0
dfas-tables c nfa None dfas are off = ap full_memory are
dfas-tables c nfa (Some back) Absent are off = refl
dfas-tables c nfa (Some back) (Full forward backward) are off =
    absurd (true≢false (sym (and_parts (dfa_of c) (is_within nfa.accounted (dfa_state_limit_of c)) are.0).0 ∙ off))
dfas-tables c nfa (Some back) (Lazy forward backward) are off = refl

two-quarters : (o : Option ℕ) (one other : ℕ) → IfSome (option_map (λ limit. limit / 4) o) (λ limit. one ≤ limit)
    → IfSome (option_map (λ limit. limit / 4) o) (λ limit. other ≤ limit) → IfSome o (λ limit. one + other ≤ limit / 2)
two-quarters None one other first second = tt
two-quarters (Some limit) one other first second = omega arith

no-quarter : (o : Option ℕ) → IfSome o (λ limit. 0 ≤ limit / 2)
no-quarter None = tt
no-quarter (Some limit) = omega arith

-- each within a quarter of the limit
dfas-small : (c : Config) (nfa : Nfa) (reverse : Option Nfa) (dfas : Dfas) → AreDfasBeside c nfa reverse dfas
    → IfSome (dfa_size_limit_of c) (λ limit. full_memory dfas ≤ limit / 2)
dfas-small c nfa None dfas are =
    subst (λ (d : Dfas). IfSome (dfa_size_limit_of c) (λ limit. full_memory d ≤ limit / 2)) (sym are) (no-quarter (dfa_size_limit_of c))
dfas-small c nfa (Some back) Absent are = no-quarter (dfa_size_limit_of c)
dfas-small c nfa (Some back) (Full forward backward) are =
    two-quarters (dfa_size_limit_of c) (table_memory forward) (table_memory backward) are.1.0.full.within are.1.1.full.within
dfas-small c nfa (Some back) (Lazy forward backward) are = no-quarter (dfa_size_limit_of c)

-- and lazy DFAs, likewise
dfas-lazy : (c : Config) (nfa : Nfa) (reverse : Option Nfa) (dfas : Dfas) → AreDfasBeside c nfa reverse dfas → hybrid_of c ≡ false → are_lazy dfas ≡ false
dfas-lazy c nfa None dfas are off = ap are_lazy are
dfas-lazy c nfa (Some back) Absent are off = refl
dfas-lazy c nfa (Some back) (Full forward backward) are off = refl
dfas-lazy c nfa (Some back) (Lazy forward backward) are off =
    absurd (true≢false (sym (and_parts (hybrid_of c) (nat_le (minimum nfa) (hybrid_cache_capacity_of c)) are.1.0).0 ∙ off))

-- whose states are within the capacity of each
dfas-states : (c : Config) (nfa : Nfa) (reverse : Option Nfa) (dfas : Dfas) → AreDfasBeside c nfa reverse dfas → are_lazy dfas ≡ true
    → (lazies : Option Lazies) → FitsLazies dfas lazies → lazy_memory lazies ≤ 2 * hybrid_cache_capacity_of c
dfas-states c nfa None dfas are on lazies fits = absurd (true≢false (sym on ∙ ap are_lazy are))
dfas-states c nfa (Some back) Absent are on lazies fits = absurd (true≢false (sym on))
dfas-states c nfa (Some back) (Full forward backward) are on lazies fits = absurd (true≢false (sym on))
dfas-states c nfa (Some back) (Lazy forward backward) are on None fits = absurd fits
dfas-states c nfa (Some back) (Lazy forward backward) are on (Some both) fits =
    let most = hybrid_cache_capacity_of c in
    let first : both.forward.rows.size ≤ most = subst (λ n. both.forward.rows.size ≤ n) are.1.1.0.capacity_is fits.0.rows.fits in
    let second : both.backward.rows.size ≤ most = subst (λ n. both.backward.rows.size ≤ n) are.1.1.1.capacity_is fits.1.rows.fits in
    omega arith

or-true : (b : Bool) → (b || true) ≡ true
or-true true = refl
or-true false = refl

lazy-may : (c : Config) (nfa : Nfa) → hybrid_of c ≡ true → minimum nfa ≤ hybrid_cache_capacity_of c → may_be_lazy c nfa ≡ true
lazy-may c nfa on fits =
    let test : nat_le (minimum nfa) (hybrid_cache_capacity_of c) ≡ true = grind (arith, nat_tests) in
    λ i. on i && test i

le-not : (a b : ℕ) → b < a → nat_le a b ≡ true → ⊥
le-not a b lt test = grind (arith, nat_tests)

-- caches that serve a core serve its lazy DFAs
lazies-fit : (core : CoreValue) (o : Option RoomsValue) → IsSomeAnd o (FitsIn (TheCore core)) → IsSomeAnd o (λ rooms. FitsLazies core.dfas rooms.lazies)
lazies-fit core None fits = absurd fits
lazies-fit core (Some rooms) fits = fits.lazies

-- DFAs are there where lazy ones are asked for, and have room
dfas-there : (c : Config) (nfa : Nfa) (reverse : Option Nfa) (dfas : Dfas) → AreDfasBeside c nfa reverse dfas → is_some reverse ≡ asks_for_dfas c
    → hybrid_of c ≡ true → minimum nfa ≤ hybrid_cache_capacity_of c → is_some (pair_of dfas) ≡ true
dfas-there c nfa None dfas are asked on fits = absurd (true≢false (sym (asked ∙ ap (λ b. dfa_of c || b) on ∙ or-true (dfa_of c))))
dfas-there c nfa (Some back) Absent are asked on fits = absurd (true≢false (sym (lazy-may c nfa on fits) ∙ are.1))
dfas-there c nfa (Some back) (Full forward backward) are asked on fits = refl
dfas-there c nfa (Some back) (Lazy forward backward) are asked on fits = refl

within-not : (n : ℕ) (o : Option ℕ) → IsSomeAnd o (λ limit. limit < n) → is_within n o ≡ true → ⊥
within-not n None above is = above
within-not n (Some limit) above is = let test = is in let lt : limit < n = above in grind (arith, nat_tests)

-- and none where those that are asked for have no room, and too many states are accounted for full ones
dfas-gone : (c : Config) (nfa : Nfa) (reverse : Option Nfa) (dfas : Dfas) → AreDfasBeside c nfa reverse dfas
    → (hybrid_of c ≡ true → hybrid_cache_capacity_of c < minimum nfa)
    → (dfa_of c ≡ true → IsSomeAnd (dfa_state_limit_of c) (λ limit. limit < nfa.accounted)) → is_some (pair_of dfas) ≡ false
dfas-gone c nfa None dfas are small many = ap (λ (d : Dfas). is_some (pair_of d)) are
dfas-gone c nfa (Some back) Absent are small many = refl
dfas-gone c nfa (Some back) (Full forward backward) are small many =
    let parts = and_parts (dfa_of c) (is_within nfa.accounted (dfa_state_limit_of c)) are.0 in
    absurd (within-not nfa.accounted (dfa_state_limit_of c) (many parts.0) parts.1)
dfas-gone c nfa (Some back) (Lazy forward backward) are small many =
    let parts = and_parts (hybrid_of c) (nat_le (minimum nfa) (hybrid_cache_capacity_of c)) are.1.0 in
    absurd (le-not (minimum nfa) (hybrid_cache_capacity_of c) (small parts.0) parts.1)

-- what is known of the core of these expressions
module _ (c : Config) (hs : List Expression) (core : CoreValue) (made : IsCoreOf c hs core) where
  states : ℕ
  states = state_size * nfa_states hs

  core-serves : IsCoreFor core (patterns_for c hs) × (BeginsEachMatch (prefilter_of c) (patterns_for c hs) → BeginsEachMatch core.pre (patterns_for c hs))
  core-serves = (
    record {
      nfa = record { runs = made.compiled.runs refl (utf8_of c); utf8 = sym made.compiled.utf8 };
      which_captures = sym made.which_captures;
      ordered = made.compiled.ordered;
      reverse = back-runs c hs core.reverse made.reverse;
      properties = made.properties;
    },
    λ given. subst (λ (pre : Option (List (List ℕ))). BeginsEachMatch pre (patterns_for c hs)) (sym made.pre) (chosen-begins (patterns_for c hs) c given),
  )

  core-count : length core.nfa.starts ≡ length hs
  core-count = (made.compiled.runs refl (utf8_of c)).patterns

  -- what a cache of it accounts for states is within the capacities of both, beside those of what reads a prefix
  core-states : are_lazy core.dfas ≡ true → (b : Bool) (o : Option RoomsValue) → IsSomeAnd o (λ rooms. FitsLazies core.dfas rooms.lazies)
      → (more : ℕ) → (if b then rooms_states o + more else 0) ≤ 2 * hybrid_cache_capacity_of c + more
  core-states on b None fits more = absurd fits
  core-states on true (Some rooms) fits more =
      let both = dfas-states c core.nfa core.reverse core.dfas made.dfas on rooms.lazies fits in omega arith
  core-states on false (Some rooms) fits more = omega arith

  core-accounted : min (2 ^ 64 - 1) (64 * (length core.nfa.starts + 1) + core_memory core)
      ≡ memory_beside c hs (once_memory core.onepass.dfa + full_memory core.dfas)
  unfolding states
  core-accounted =
      let back : reverse_memory core.reverse ≡ (if asks_for_dfas c then states else 0) =
      back-memory (reverse_compiler_of c) hs core.reverse (asks_for_dfas c) made.asked made.reverse in
      ap (min (2 ^ 64 - 1))
      (λ i. 64 * (core-count i + 1)
      + min (2 ^ 64 - 1) (prefilter_memory (made.pre i) + state_size * made.compiled.accounted i + back i + once_memory core.onepass.dfa
      + full_memory core.dfas))
      ∙ min-once (64 * (length hs + 1)) (prefilter_memory (prefilter_for c hs)) states (if asks_for_dfas c then states else 0)
      (once_memory core.onepass.dfa) (full_memory core.dfas)

  core-cache : accounted_core core ≡ cache_memory c hs (is_some core.onepass.dfa)
  core-cache =
      let one : accounted_memory core.nfa ≡ engine_memory hs = (λ i. min (2 ^ 64 - 1) (16 * made.compiled.accounted i * made.compiled.slots i)) in
      let once = once-cache c core.nfa (alternation (expressions hs)) core.onepass.dfa hs made.onepass.dfa made.compiled.slots core-count in
      λ i. min (2 ^ 64 - 1) (one i + once i + (if made.backtracks i then one i else 0))

  -- .. and beside it for a search for literals, and for what reads their prefix
  core-beside : (more : ℕ) → min (2 ^ 64 - 1) (min (2 ^ 64 - 1) (64 * (length core.nfa.starts + 1) + core_memory core) + more)
      ≡ memory_beside c hs (once_memory core.onepass.dfa + full_memory core.dfas + more)
  core-beside more =
      ap (λ n. min (2 ^ 64 - 1) (n + more)) core-accounted
      ∙ min-more (64 * (length hs + 1) + prefilter_memory (prefilter_for c hs) + nfas_memory c hs) (once_memory core.onepass.dfa + full_memory core.dfas) more

  core-prefixed : (needles table states : ℕ)
      → min (2 ^ 64 - 1) (min (2 ^ 64 - 1) (64 * (length core.nfa.starts + 1) + core_memory core) + needles + (states + table))
      ≡ memory_beside c hs (once_memory core.onepass.dfa + (full_memory core.dfas + table) + needles + states)
  core-prefixed needles table states =
      ap (λ n. min (2 ^ 64 - 1) (n + needles + (states + table))) core-accounted
      ∙ min-prefixed (64 * (length hs + 1) + prefilter_memory (prefilter_for c hs) + nfas_memory c hs) (once_memory core.onepass.dfa) (full_memory core.dfas) needles
      states table

  core-there : hybrid_of c ≡ true → least_capacity hs ≤ hybrid_cache_capacity_of c → is_some (pair_of core.dfas) ≡ true
  core-there on fits =
      dfas-there c core.nfa core.reverse core.dfas made.dfas made.asked on
      (subst (λ n. 16384 + 16 * n ≤ hybrid_cache_capacity_of c) (sym made.compiled.accounted) fits)

  core-gone : HaveNoDfa c hs → is_some (pair_of core.dfas) ≡ false
  core-gone none =
      dfas-gone c core.nfa core.reverse core.dfas made.dfas
      (λ on. subst (λ n. hybrid_cache_capacity_of c < 16384 + 16 * n) (sym made.compiled.accounted) (none.lazy on))
      (λ on. subst (λ n. IsSomeAnd (dfa_state_limit_of c) (λ limit. limit < n)) (sym made.compiled.accounted) (none.full on))

-- where no literals stand for all that the expressions are
without : {A : Type 0} (f : Option (List (List ℕ)) → A) (c : Config) (hs : List Expression) → literals_for c hs ≡ None → f None ≡ f (literals_for c hs)
without f c hs none = ap f (sym none)

-- which strategy applies to the expressions of a core, by which DFAs it has

module _ (c : Config) (hs : List Expression) (core : CoreValue) (made : IsPlainOf c hs (TheCore core)) where
  has : Bool
  has = is_some (pair_of core.dfas)

  -- they may be searched by candidates, with this prefilter
  tries : Option (List (List ℕ)) → Bool
  tries pre =
      auto_prefilter_of c
      && (is_leftmost (kind_of c) && (has && (not (is_fast_by pre) && not (is_always_anchored_start (alternation (expressions hs))))))

  suffix-same : suffix_by c hs has ≡ suffix_for c (TheCore core) hs
  unfolding has tries
  suffix-same = ap (λ (pre : Option (List (List ℕ))). if tries pre then if_in_order hs (suffix_of_one hs) else None) (sym made.core.pre)

  inner-same : inner_by c hs has ≡ inner_for c (TheCore core) hs
  unfolding has tries
  inner-same = ap (λ (pre : Option (List (List ℕ))). if tries pre then if_inner_in_order (inner_of hs) else None) (sym made.core.pre)

  module _ (reads : Expression → Bool) where
    way-from-end : is_from_end (TheCore core) (alternation (expressions hs)) ≡ true → way_for c hs has reads ≡ from_end
    unfolding has
    way-from-end is =
        λ i. literals_or (made.literals i) (from_end_or (is i) (suffix_or (suffix_by c hs has) (inner_or_plain (inner_by c hs has) reads)))

    module _ (forwards : is_from_end (TheCore core) (alternation (expressions hs)) ≡ false) where
      way-by-suffix : (suffix : List ℕ) → suffix_for c (TheCore core) hs ≡ Some suffix → way_for c hs has reads ≡ by_suffix suffix
      unfolding has
      way-by-suffix suffix is =
          let there : suffix_by c hs has ≡ Some suffix = suffix-same ∙ is in
          λ i. literals_or (made.literals i) (from_end_or (forwards i) (suffix_or (there i) (inner_or_plain (inner_by c hs has) reads)))

      way-endless : suffix_for c (TheCore core) hs ≡ None → (o : Option (Expression × List (List ℕ))) → inner_for c (TheCore core) hs ≡ o
          → way_for c hs has reads ≡ inner_or_plain o reads
      unfolding has
      way-endless none o is =
          let gone : suffix_by c hs has ≡ None = suffix-same ∙ none in
          let there : inner_by c hs has ≡ o = inner-same ∙ is in
          λ i. literals_or (made.literals i) (from_end_or (forwards i) (suffix_or (gone i) (inner_or_plain (there i) reads)))

-- a search for literals is leftmost-first
literals-kind : (c : Config) (hs : List Expression) (needles : List (List ℕ)) → literals_for c hs ≡ Some needles → LeftmostFirst ≡ kind_of c
literals-kind c hs needles is = by-kind (is_automatic c) (kind_of c) is
  where
    by-kind : (b : Bool) (k : MatchKind) → (if b then literal_needles k hs else None) ≡ Some needles → LeftmostFirst ≡ k
    by-kind true LeftmostFirst e = refl
    by-kind true All e = none-is-some e
    by-kind false k e = none-is-some e

-- of one expression
one-of : (needles : List (List ℕ)) (hs : List Expression) → AreWholeOf needles hs → (h : Expression) × (hs ≡ h ∷ []) × AreWhole needles h
one-of needles [] whole = absurd whole
one-of needles (h ∷ []) whole = (h, refl, whole)
one-of needles (h ∷ g ∷ hs) whole = absurd whole

with-literals : {A : Type 0} (f : Option (List (List ℕ)) → A) (c : Config) (hs : List Expression) (needles : List (List ℕ)) → literals_for c hs ≡ Some needles
    → f (Some needles) ≡ f (literals_for c hs)
with-literals f c hs needles is = ap f (sym is)

-- they are looked for
way-literals : (c : Config) (hs : List Expression) (needles : List (List ℕ)) → literals_for c hs ≡ Some needles → (dfas : Bool) (reads : Expression → Bool)
    → way_for c hs dfas reads ≡ by_literals needles
way-literals c hs needles is dfas reads =
    ap (λ (o : Option (List (List ℕ))). literals_or o
    (from_end_or (dfas && end_alone hs) (suffix_or (suffix_by c hs dfas) (inner_or_plain (inner_by c hs dfas) reads)))) is

some-not-none : {P : Type 0} (o : Option (List (List ℕ))) (needles : List (List ℕ)) → o ≡ Some needles → o ≡ None → P
some-not-none o needles some none = none-is-some (sym none ∙ some)

built-pre : (c : Config) (hs : List Expression) (p : PreValue) → IsPreOf c hs p → AreAllowedStates (compiler_of c) hs
    → IsBuilt c hs (record { config = c; strategy = Pre p })
unfolding kind_in Serves pattern_count groups_in regex_memory onepass_memory tables_memory has_onepass has_lazy has_dfas reads_prefix is_all_lazy name_of is_accelerated IsMadeUnder accounted_for Fits IsAsMadeFor states_memory properties_in prefilter_in IsKnownImpossible strategy_name
built-pre c hs p made allowed =
    let one = one-of p.needles hs made.whole in
    let of : IsPreFor p (patterns_for c hs) =
    record { expression = one.0; one = one.1; whole = one.2; told = sym made.tells; properties = made.properties } in
    let way = way-literals c hs p.needles made.literals false (λ prefix. false) in
    record {
      config = refl;
      made = made;
      no_onepass = λ off. refl;
      no_tables = λ off. refl;
      small_tables = no-quarter (dfa_size_limit_of c);
      no_lazy = λ off. refl;
      small_states = λ on cache fits own. absurd (true≢false (sym on));
      kind = literals-kind c hs p.needles made.literals;
      serves = (of, λ given. tt);
      count = sym (ap length one.1);
      groups = made.groups;
      ordered = pre-ordered p (patterns_for c hs) of;
      allowed = allowed-of c hs allowed;
      memory = ap (λ w. memory_by w c hs 0) (sym way);
      cache = with-literals (λ o. cache_memory_by o c hs false) c hs p.needles made.literals;
      properties = made.properties;
      impossible = λ v known. (hs, made.properties, known);
      pre = with-literals (λ o. prefilter_by o c hs) c hs p.needles made.literals;
      named = record {
        name = ap way_name (sym way);
        dfas = λ none. some-not-none (literals_for c hs) p.needles made.literals none;
        no_dfas = λ none. some-not-none (literals_for c hs) p.needles made.literals none;
        prefix = λ q needles inner.
            not-inner (by_literals p.needles) _ (way-literals c hs p.needles made.literals false (λ prefix. true)) refl q needles inner;
        no_prefix = λ q needles inner gone. refl;
      };
      accelerated = ap (λ w. accelerated_by w (prefilter_for c hs)) (sym way);
    }

-- what is known of a DFA that reads a prefix

module _ (c : Config) (nfa : Nfa) where
  sort-tables : (sort : Sort) → IsSortOf c nfa sort → dfa_of c ≡ false → table_of sort ≡ 0
  sort-tables (FullSort d) is off = absurd (true≢false (sym (and_parts (dfa_of c) (is_within nfa.accounted (dfa_state_limit_of c)) is.0).0 ∙ off))
  sort-tables (LazySort l) is off = refl

  sort-small : (sort : Sort) → IsSortOf c nfa sort → IfSome (prefix_limit c) (λ limit. table_of sort ≤ limit)
  sort-small (FullSort d) is = is.1.full.within
  sort-small (LazySort l) is = from-zero (prefix_limit c)
    where
      from-zero : (o : Option ℕ) → IfSome o (λ limit. 0 ≤ limit)
      from-zero None = tt
      from-zero (Some limit) = omega arith

  sort-lazy : (sort : Sort) → IsSortOf c nfa sort → hybrid_of c ≡ false → is_lazy_sort sort ≡ false
  sort-lazy (FullSort d) is off = refl
  sort-lazy (LazySort l) is off =
      absurd (true≢false (sym (and_parts (hybrid_of c) (nat_le (minimum nfa) (hybrid_cache_capacity_of c)) is.1).0 ∙ off))

  sort-states : (sort : Sort) → IsSortOf c nfa sort → is_lazy_sort sort ≡ true → (o : Option LazyCache) → FitsSort sort o
      → prefix_states o ≤ hybrid_cache_capacity_of c
  sort-states (FullSort d) is on o fits = absurd (true≢false (sym on))
  sort-states (LazySort l) is on None fits = absurd fits
  sort-states (LazySort l) is on (Some cache) fits = subst (λ n. cache.rows.size ≤ n) is.2.capacity_is fits.rows.fits

  -- it is not there where neither sort may be made
  sort-gone : (sort : Sort) → IsSortOf c nfa sort → (hybrid_of c ≡ true → hybrid_cache_capacity_of c < minimum nfa)
      → (dfa_of c ≡ true → IsSomeAnd (dfa_state_limit_of c) (λ limit. limit < nfa.accounted)) → ⊥
  sort-gone (FullSort d) is small many =
      let parts = and_parts (dfa_of c) (is_within nfa.accounted (dfa_state_limit_of c)) is.0 in
      within-not nfa.accounted (dfa_state_limit_of c) (many parts.0) parts.1
  sort-gone (LazySort l) is small many =
      let parts = and_parts (hybrid_of c) (nat_le (minimum nfa) (hybrid_cache_capacity_of c)) is.1 in
      le-not (minimum nfa) (hybrid_cache_capacity_of c) (small parts.0) parts.1

  -- its automaton is of the NFA, and of the kind `All`
  sort-nfa : (sort : Sort) → IsSortOf c nfa sort → (dfa_in sort).nfa ≡ nfa
  sort-nfa (FullSort d) is = is.1.dfa.nfa
  sort-nfa (LazySort l) is = is.2.nfa_is

  sort-kind : (sort : Sort) → IsSortOf c nfa sort → (dfa_in sort).kind ≡ All
  sort-kind (FullSort d) is = is.1.dfa.kind
  sort-kind (LazySort l) is = is.2.kind_is

half-beside : (o : Option ℕ) (tables table : ℕ) → IfSome o (λ limit. tables ≤ limit / 2) → IfSome (option_map (λ limit. limit / 2) o) (λ limit. table ≤ limit)
    → IfSome o (λ limit. tables + table ≤ limit)
half-beside None tables table first second = tt
half-beside (Some limit) tables table first second = omega arith

-- the DFA of the prefix has the runs of it, read backwards, and tells each of them
inner-order : (c : Config) (hs : List Expression) (k : CoreStrategy) (i : InnerValue) → IsInnerOf c hs k i
    → ((p : ℕ) (h : Expression) → slice_get hs p ≡ Some h → AreOrdered h) → HasInner (prefix_dfa_of i.prefix) i.needles (patterns_for c hs)
inner-order c hs k i of ordered =
    let nfa = sort-nfa c i.prefix.nfa i.prefix.sort of.reads.sort in
    let prefixes = patterns_of (of.prefix ∷ []) (utf8_of c) (nfa_terminator_of (prefix_compiler_of c)) (nfa_captures_of (prefix_compiler_of c)) in
    record {
      expression = of.order.0;
      prefix = of.prefix;
      is = of.order.1;
      ordered = ordered 0 of.order.0 (ap (λ (es : List Expression). slice_get es 0) of.order.1);
      order = of.order.2;
      prefixes = prefixes;
      prefix_is = refl;
      terminator = refl;
      runs = subst (λ n. HasReverseRuns n prefixes) (sym nfa) (of.reads.compiled.reverse_runs refl (utf8_of c));
      kind = sort-kind c i.prefix.nfa i.prefix.sort of.reads.sort;
      anywhere = ap (λ (n : Nfa). n.utf8) nfa ∙ of.reads.compiled.utf8;
    }

-- where there is room for a DFA of the prefix, there is one
prefix-there : (c : Config) (prefix : Expression) → HasNoPrefix c prefix → slots_of (prefix ∷ []) ≡ 2 → HasRoom c prefix → ⊥
prefix-there c prefix (inl not) slots room =
    not (record { few = record { patterns = omega arith; slots = omega arith }; states = room.states; size = room.size })
prefix-there c prefix (inr gone) slots room =
    let fits : minimum gone.0 ≤ hybrid_cache_capacity_of c =
    subst (λ n. 16384 + 16 * n ≤ hybrid_cache_capacity_of c) (sym gone.1.accounted) room.capacity in
    true≢false (sym (lazy-may c gone.0 room.hybrid fits) ∙ gone.3)

-- what is found in order is found
found-in-order : (o : Option (Expression × List (List ℕ))) (found : Expression × List (List ℕ)) → if_inner_in_order o ≡ Some found → o ≡ Some found
found-in-order None found e = absurd (none-some found e)
found-in-order (Some f) found e = by-answer (inner_has_no_earlier f.0 f.1) e
  where
    by-answer : (b : Bool) → (if b then Some f else None) ≡ Some found → Some f ≡ Some found
    by-answer true e = e
    by-answer false e = absurd (none-some found e)

found-there : (b : Bool) (o : Option (Expression × List (List ℕ))) (found : Expression × List (List ℕ)) → (if b then if_inner_in_order o else None) ≡ Some found
    → o ≡ Some found
found-there true o found e = found-in-order o found e
found-there false o found e = absurd (none-some found e)

-- so where none is there, nothing is searched for that has room
none-there : (c : Config) (hs : List Expression) (o : Option (Expression × List (List ℕ))) → HasNoInner c o
    → ((found : Expression × List (List ℕ)) → o ≡ Some found → slots_of (found.0 ∷ []) ≡ 2) → (p : Expression) (needles : List (List ℕ))
    → inner_or_plain o (λ prefix. true) ≡ by_inner p needles → HasRoom c p → ⊥
none-there c hs None gone slots p needles is room = not-inner plain plain refl refl p needles is
none-there c hs (Some found) gone slots p needles is room =
    let same = same-prefix found.0 p found.1 needles is in
    prefix-there c found.0 gone (slots found refl) (subst (HasRoom c) (sym same) room)

module _ (c : Config) (hs : List Expression) (core : CoreValue) (plainly : IsPlainOf c hs (TheCore core)) (allowed : AreAllowedStates (compiler_of c) hs) where
  made : IsCoreOf c hs core
  made = plainly.core

  -- whether DFAs are there
  core-named : (literals_for c hs ≡ None → hybrid_of c ≡ true → least_capacity hs ≤ hybrid_cache_capacity_of c → is_some (pair_of core.dfas) ≡ true)
      × (literals_for c hs ≡ None → HaveNoDfa c hs → is_some (pair_of core.dfas) ≡ false)
  core-named = (λ none. core-there c hs core made, λ none. core-gone c hs core made)

  own-states : are_lazy core.dfas ≡ true → (cache : CacheValue) → IsSomeAnd cache.rooms.rooms (FitsIn (TheCore core)) → cache.rooms.reads_prefix ≡ false
      → states_in cache.rooms ≤ 2 * hybrid_cache_capacity_of c
  own-states on cache fits none =
      let within = core-states c hs core made on cache.rooms.in_use cache.rooms.rooms (lazies-fit core cache.rooms.rooms fits) 0 in
      subst (λ b. (if cache.rooms.in_use then rooms_states cache.rooms.rooms + (if b then prefix_states cache.rooms.prefix else 0) else 0)
      ≤ 2 * hybrid_cache_capacity_of c) (sym none) (omega arith)

  built-anchored : is_from_end (TheCore core) (alternation (expressions hs)) ≡ true
      → IsBuilt c hs (record { config = c; strategy = ReverseAnchored (TheCore core) })
  unfolding kind_in Serves pattern_count groups_in regex_memory onepass_memory tables_memory has_onepass has_lazy has_dfas reads_prefix is_all_lazy name_of is_accelerated IsMadeUnder accounted_for Fits IsAsMadeFor states_memory properties_in prefilter_in IsKnownImpossible strategy_name has
  built-anchored is =
      let way = way-from-end c hs core plainly (λ prefix. false) is in
      record {
        config = refl;
        made = (plainly, is);
        no_onepass = once-gone c core.nfa (alternation (expressions hs)) core.onepass.dfa made.onepass.dfa;
        no_tables = dfas-tables c core.nfa core.reverse core.dfas made.dfas;
        small_tables = dfas-small c core.nfa core.reverse core.dfas made.dfas;
        no_lazy = dfas-lazy c core.nfa core.reverse core.dfas made.dfas;
        small_states = λ on cache fits own. own-states on cache fits own;
        kind = made.kind;
        serves = core-serves c hs core made;
        count = core-count c hs core made;
        groups = made.compiled.groups;
        ordered = made.compiled.ordered;
        allowed = allowed-of c hs allowed;
        memory = core-accounted c hs core made ∙ ap (λ w. memory_by w c hs (once_memory core.onepass.dfa + full_memory core.dfas)) (sym way);
        cache = core-cache c hs core made ∙ without (λ o. cache_memory_by o c hs (is_some core.onepass.dfa)) c hs plainly.literals;
        properties = made.properties;
        impossible = λ v known. (hs, made.properties, known);
        pre = made.pre ∙ without (λ o. prefilter_by o c hs) c hs plainly.literals;
        named = record {
          name = ap way_name (sym way);
          dfas = core-named.0;
          no_dfas = core-named.1;
          prefix = λ p needles inner. not-inner from_end _ (way-from-end c hs core plainly (λ prefix. true) is) refl p needles inner;
          no_prefix = λ p needles inner none. refl;
        };
        accelerated = ap (λ w. accelerated_by w (prefilter_for c hs)) (sym way);
      }

  module _ (forwards : is_from_end (TheCore core) (alternation (expressions hs)) ≡ false) where
    core-forwards : IsForwardsOf c hs (TheCore core)
    core-forwards = record { plain = plainly; not_from_end = forwards }

    built-core : suffix_for c (TheCore core) hs ≡ None → HasNoInner c (inner_for c (TheCore core) hs)
        → IsBuilt c hs (record { config = c; strategy = Core (TheCore core) })
    unfolding kind_in Serves pattern_count groups_in regex_memory onepass_memory tables_memory has_onepass has_lazy has_dfas reads_prefix is_all_lazy name_of is_accelerated IsMadeUnder accounted_for Fits IsAsMadeFor states_memory properties_in prefilter_in IsKnownImpossible strategy_name has
    built-core none gone =
        let found = inner_for c (TheCore core) hs in
        let way = way-endless c hs core plainly (λ prefix. false) forwards none found refl ∙ none-reads found in
        let slots : (f : Expression × List (List ℕ)) → found ≡ Some f → slots_of (f.0 ∷ []) ≡ 2 =
        λ f e. inner-slots hs f (found-there (may_attempt c (TheCore core) (alternation (expressions hs))) (inner_of hs) f e) in
        record {
          config = refl;
          made = (record { forwards = core-forwards; no_suffix = none }, gone);
          no_onepass = once-gone c core.nfa (alternation (expressions hs)) core.onepass.dfa made.onepass.dfa;
          no_tables = dfas-tables c core.nfa core.reverse core.dfas made.dfas;
          small_tables = dfas-small c core.nfa core.reverse core.dfas made.dfas;
          no_lazy = dfas-lazy c core.nfa core.reverse core.dfas made.dfas;
          small_states = λ on cache fits own. own-states on cache fits own;
          kind = made.kind;
          serves = core-serves c hs core made;
          count = core-count c hs core made;
          groups = made.compiled.groups;
          ordered = made.compiled.ordered;
          allowed = allowed-of c hs allowed;
          memory = core-accounted c hs core made ∙ ap (λ w. memory_by w c hs (once_memory core.onepass.dfa + full_memory core.dfas)) (sym way);
          cache = core-cache c hs core made ∙ without (λ o. cache_memory_by o c hs (is_some core.onepass.dfa)) c hs plainly.literals;
          properties = made.properties;
          impossible = λ v known. (hs, made.properties, known);
          pre = made.pre ∙ without (λ o. prefilter_by o c hs) c hs plainly.literals;
          named = record {
            name = ap way_name (sym way);
            dfas = core-named.0;
            no_dfas = core-named.1;
            prefix = λ p needles inner room.
                absurd (none-there c hs found gone slots p needles
                (sym (way-endless c hs core plainly (λ prefix. true) forwards none found refl) ∙ inner) room);
            no_prefix = λ p needles inner none. refl;
          };
          accelerated = ap is_fast_by made.pre ∙ ap (λ w. accelerated_by w (prefilter_for c hs)) (sym way);
        }

    built-by-suffix : (needles : List (List ℕ)) → IsSuffixOf c hs (TheCore core) (record { core = TheCore core; needles = needles })
        → IsBuilt c hs (record { config = c; strategy = ReverseSuffix (record { core = TheCore core; needles = needles }) })
    unfolding kind_in Serves pattern_count groups_in regex_memory onepass_memory tables_memory has_onepass has_lazy has_dfas reads_prefix is_all_lazy name_of is_accelerated IsMadeUnder accounted_for Fits IsAsMadeFor states_memory properties_in prefilter_in IsKnownImpossible strategy_name has
    built-by-suffix needles of =
        let way = way-by-suffix c hs core plainly (λ prefix. false) forwards of.suffix of.chosen in
        let served = core-serves c hs core made in
        let order : HasSuffix needles (patterns_for c hs) =
        record { expression = of.order.0; suffix = of.suffix; is = of.order.1; needle = of.needle; order = of.order.2 } in
        record {
          config = refl;
          made = (core-forwards, of);
          no_onepass = once-gone c core.nfa (alternation (expressions hs)) core.onepass.dfa made.onepass.dfa;
          no_tables = dfas-tables c core.nfa core.reverse core.dfas made.dfas;
          small_tables = dfas-small c core.nfa core.reverse core.dfas made.dfas;
          no_lazy = dfas-lazy c core.nfa core.reverse core.dfas made.dfas;
          small_states = λ on cache fits own. own-states on cache fits own;
          kind = made.kind;
          serves = ((served.0, order), served.1);
          count = core-count c hs core made;
          groups = made.compiled.groups;
          ordered = made.compiled.ordered;
          allowed = allowed-of c hs allowed;
          memory = core-beside c hs core made (accounted (chosen needles) needles)
              ∙ ap (λ (ns : List (List ℕ)). memory_beside c hs (once_memory core.onepass.dfa + full_memory core.dfas + accounted (chosen ns) ns)) of.needle
              ∙ ap (λ w. memory_by w c hs (once_memory core.onepass.dfa + full_memory core.dfas)) (sym way);
          cache = core-cache c hs core made ∙ without (λ o. cache_memory_by o c hs (is_some core.onepass.dfa)) c hs plainly.literals;
          properties = made.properties;
          impossible = λ v known. (hs, made.properties, known);
          pre = made.pre ∙ without (λ o. prefilter_by o c hs) c hs plainly.literals;
          named = record {
            name = ap way_name (sym way);
            dfas = core-named.0;
            no_dfas = core-named.1;
            prefix = λ p ns inner.
                not-inner (by_suffix of.suffix) _ (way-by-suffix c hs core plainly (λ prefix. true) forwards of.suffix of.chosen) refl p ns inner;
            no_prefix = λ p ns inner none. refl;
          };
          accelerated = ap (λ (ns : List (List ℕ)). is_fast (chosen ns) ns) of.needle ∙ ap (λ w. accelerated_by w (prefilter_for c hs)) (sym way);
        }

    built-by-inner : suffix_for c (TheCore core) hs ≡ None → (needles : List (List ℕ)) (prefix : PrefixValue)
        → IsInnerOf c hs (TheCore core) (record { core = TheCore core; needles = needles; prefix = prefix })
        → IsBuilt c hs (record { config = c; strategy = ReverseInner (record { core = TheCore core; needles = needles; prefix = prefix }) })
    unfolding kind_in Serves pattern_count groups_in regex_memory onepass_memory tables_memory has_onepass has_lazy has_dfas reads_prefix is_all_lazy name_of is_accelerated IsMadeUnder accounted_for Fits IsAsMadeFor states_memory properties_in prefilter_in IsKnownImpossible strategy_name has
    built-by-inner none needles prefix of =
        let way = way-endless c hs core plainly (λ p. true) forwards none (Some (of.prefix, needles)) of.chosen in
        let sort = of.reads.sort in
        let states = of.reads.compiled.accounted in
        let table = table_of prefix.sort in
        let served = core-serves c hs core made in
        let order = inner-order c hs (TheCore core) _ of made.compiled.ordered in
        record {
          config = refl;
          made = (record { forwards = core-forwards; no_suffix = none }, of);
          no_onepass = once-gone c core.nfa (alternation (expressions hs)) core.onepass.dfa made.onepass.dfa;
          no_tables = λ off i. dfas-tables c core.nfa core.reverse core.dfas made.dfas off i + sort-tables c prefix.nfa prefix.sort sort off i;
          small_tables = half-beside (dfa_size_limit_of c) (full_memory core.dfas) table
              (dfas-small c core.nfa core.reverse core.dfas made.dfas) (sort-small c prefix.nfa prefix.sort sort);
          no_lazy = λ off i. dfas-lazy c core.nfa core.reverse core.dfas made.dfas off i || sort-lazy c prefix.nfa prefix.sort sort off i;
          small_states = λ on cache fits own. inner-states on cache.rooms fits own;
          kind = made.kind;
          serves = ((served.0, order), served.1);
          count = core-count c hs core made;
          groups = made.compiled.groups;
          ordered = made.compiled.ordered;
          allowed = allowed-of c hs allowed;
          memory = core-prefixed c hs core made (accounted (chosen needles) needles) table (state_size * prefix.nfa.accounted)
              ∙ ap (λ n. memory_beside c hs (once_memory core.onepass.dfa + (full_memory core.dfas + table) + accounted (chosen needles) needles + state_size * n)) states
              ∙ ap (λ w. memory_by w c hs (once_memory core.onepass.dfa + (full_memory core.dfas + table))) (sym way);
          cache = core-cache c hs core made ∙ without (λ o. cache_memory_by o c hs (is_some core.onepass.dfa)) c hs plainly.literals;
          properties = made.properties;
          impossible = λ v known. (hs, made.properties, known);
          pre = made.pre ∙ without (λ o. prefilter_by o c hs) c hs plainly.literals;
          named = record {
            name = ap way_name (sym way);
            dfas = core-named.0;
            no_dfas = core-named.1;
            prefix = λ p ns inner room. refl;
            no_prefix = λ p ns inner gone. absurd (prefix-gone p ns (sym way ∙ inner) gone);
          };
          accelerated = ap (λ w. accelerated_by w (prefilter_for c hs)) (sym way);
        }
      where
        inner-states : (are_lazy core.dfas && is_lazy_sort prefix.sort) ≡ true → (rooms : StrategyCache)
            → FitsInner (record { core = TheCore core; needles = needles; prefix = prefix }) rooms → rooms.reads_prefix ≡ true
            → states_in rooms ≤ 3 * hybrid_cache_capacity_of c
        inner-states on rooms fits reads =
            let both = and_parts (are_lazy core.dfas) (is_lazy_sort prefix.sort) on in
            let few = sort-states c prefix.nfa prefix.sort of.reads.sort both.1 rooms.prefix fits.prefix in
            let within = core-states c hs core made both.0 rooms.in_use rooms.rooms (lazies-fit core rooms.rooms fits.core) (prefix_states rooms.prefix) in
            subst (λ b. (if rooms.in_use then rooms_states rooms.rooms + (if b then prefix_states rooms.prefix else 0) else 0)
            ≤ 3 * hybrid_cache_capacity_of c) (sym reads) (omega arith)

        prefix-gone : (p : Expression) (ns : List (List ℕ)) → by_inner of.prefix needles ≡ by_inner p ns → HaveNoDfa c (p ∷ []) → ⊥
        prefix-gone p ns is gone =
            let states : nfa_states (p ∷ []) ≡ prefix.nfa.accounted =
            ap (λ (h : Expression). nfa_states (h ∷ [])) (sym (same-prefix of.prefix p needles ns is)) ∙ sym of.reads.compiled.accounted in
            sort-gone c prefix.nfa prefix.sort of.reads.sort
            (λ on. subst (λ n. hybrid_cache_capacity_of c < 16384 + 16 * n) states (gone.lazy on))
            (λ on. subst (λ n. IsSomeAnd (dfa_state_limit_of c) (λ limit. limit < n)) states (gone.full on))

built-suffix : (c : Config) (hs : List Expression) (k : CoreStrategy) (needles : List (List ℕ)) → IsForwardsOf c hs k
    → IsSuffixOf c hs k (record { core = k; needles = needles }) → AreAllowedStates (compiler_of c) hs
    → IsBuilt c hs (record { config = c; strategy = ReverseSuffix (record { core = k; needles = needles }) })
built-suffix c hs (TheCore core) needles forwards of allowed = built-by-suffix c hs core forwards.plain allowed forwards.not_from_end needles of

built-inner : (c : Config) (hs : List Expression) (k : CoreStrategy) (needles : List (List ℕ)) (prefix : PrefixValue) → IsEndlessOf c hs k
    → IsInnerOf c hs k (record { core = k; needles = needles; prefix = prefix }) → AreAllowedStates (compiler_of c) hs
    → IsBuilt c hs (record { config = c; strategy = ReverseInner (record { core = k; needles = needles; prefix = prefix }) })
built-inner c hs (TheCore core) needles prefix endless of allowed =
    built-by-inner c hs core endless.forwards.plain allowed endless.forwards.not_from_end endless.no_suffix needles prefix of

pub built : (c : Config) (hs : List Expression) (s : Strategy) (regex : RegexValue) → IsMadeOf c hs s → AreAllowedStates (compiler_of c) hs
    → regex ≡ record { config = c; strategy = s } → IsBuilt c hs regex
built c hs (Pre p) regex made allowed is = subst (IsBuilt c hs) (sym is) (built-pre c hs p made allowed)
built c hs (Core (TheCore core)) regex made allowed is =
    subst (IsBuilt c hs) (sym is) (built-core c hs core made.0.forwards.plain allowed made.0.forwards.not_from_end made.0.no_suffix made.1)
built c hs (ReverseAnchored (TheCore core)) regex made allowed is = subst (IsBuilt c hs) (sym is) (built-anchored c hs core made.0 allowed made.1)
built c hs (ReverseSuffix s) regex made allowed is = subst (IsBuilt c hs) (sym is) (built-suffix c hs s.core s.needles made.0 made.1 allowed)
built c hs (ReverseInner i) regex made allowed is = subst (IsBuilt c hs) (sym is) (built-inner c hs i.core i.needles i.prefix made.0 made.1 allowed)

-- what is refused of an NFA is refused of the regex
pub refused-nfa : (c : Config) (hs : List Expression) (e : NfaError) → IsRefusalOfNfa (compiler_of c) hs e → IsRefused c hs (error_of (compiler_error_of e))
refused-nfa c hs (ManyPatterns given limit) is = is
refused-nfa c hs (ManyGroups given limit) is = is
refused-nfa c hs (ManyStates given limit) is = (is.0.patterns, few-of hs is.0, is.1, is.2, is.3)
refused-nfa c hs (ExceededLimit limit size) is = (is.0.patterns, few-of hs is.0, is.1, is.2, is.3, is.4)
refused-nfa c hs NoMemory is = allowed-of c hs is

-- of as many patterns as were read
pub refused-for : (syntax : Grammar) (c : Config) (texts : List (List ℕ)) (hs : List Expression) → reading_of syntax texts ≡ Ok hs → length hs ≡ length texts
    → (e : BuildError) → IsRefused c hs e → IsRefusedFor syntax c texts e
refused-for syntax c texts hs read same (Syntax pid err) is = absurd is
refused-for syntax c texts hs read same (NFA cause) is = (hs, read, subst (λ n. IsRefusal c n hs cause) same is)
refused-for syntax c texts hs read same Memory is = tt

-- all of the patterns are read, where there are few enough
all-of : (syntax : Grammar) (texts : List (List ℕ)) → length texts ≤ id_limit → reading_of syntax texts ≡ all_read syntax texts
unfolding reading_of
all-of syntax texts few = ap (all_read syntax) (take_all id_limit texts few)

pub built-of : (syntax : Grammar) (c : Config) (texts : List (List ℕ)) (hs given : List Expression) → length texts ≤ id_limit → reading_of syntax texts ≡ Ok hs
    → given ≡ hs → (regex : RegexValue) → IsBuilt c given regex → IsBuiltOf syntax c texts regex
built-of syntax c texts hs given few read same regex is =
    (hs, sym (all-of syntax texts few) ∙ read, subst (λ es. IsBuilt c es regex) same is)
