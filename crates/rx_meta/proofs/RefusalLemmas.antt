-- What was met where an attempt of a regex gave up is of a candidate before which none is confirmed.
use Rattle.std.proofs.Common.{◌≡◌, ℕ, ◌<◌, List, refl, sym, ◌∙◌, subst, inl, inr, true≢false}
use Rattle.std.proofs.lemmas.Bool.{and_parts}
use Rattle.std.proofs.lemmas.Option.{none-some}
use Rattle.std.specs.Prelude.{◌⊎◌, Bool, true, false, Option, Some, None, IfSome, IsSomeAnd, is_some, codes, if◌then◌else◌}
use Rattle.rx_model.specs.Expression.{Expression, alternation}
use Rattle.rx_model.specs.Search.{Patterns}
use Rattle.rx_model.specs.Utf8.{MeansUtf8}
use Rattle.rx_search.specs.Input.{InputValue}
use Rattle.rx_search.specs.Promise.{Premises}
use Rattle.rx_search.specs.declared.anchored.MatchKind.{MatchKind}
use Rattle.rx_search.specs.declared.anchored.MatchKind.TheVariants.{All, LeftmostFirst}
use Rattle.rx_search.specs.declared.span.Span.{Span}
use Rattle.rx_hir.specs.Normal.{expressions}
use Rattle.rx_nfa.specs.Compiled.{IsCompiled}
use Rattle.rx_nfa.specs.Nfa.{Nfa, IsNfaOf}
use Rattle.rx_dfa.specs.Automaton.{Dfa}
use Rattle.rx_dfa.specs.Search.{TellsStarts}
use Rattle.rx_dfa.specs.declared.lazy.lazy_cache.LazyCache.{LazyCache}
use Rattle.rx_limited.specs.declared.retry_error.Quadratic.{Quadratic as Met}
use Rattle.rx_limited.specs.declared.retry_error.Quadratic.TheVariants.{Below, AtStart, Candidate}
use Rattle.rx_limited.specs.declared.retry_error.RetryError.TheVariants.{Quadratic}
use Rattle.rx_order.specs.Order.{IsConfirmedInner}
use Rattle.rx_attempts.specs.Candidates.{IsLeastRead}
use Rattle.rx_attempts.specs.Premises.{IsBySuffix, IsByInner, NoSuffixBefore, NoInnerBefore}
use Rattle.rx_attempts.specs.Refusals as lower
use Rattle.rx_strategy.specs.Attempts.{HasSuffix, HasInner, SuffixFailsIn, InnerFailsIn}
use Rattle.rx_strategy.specs.Cache.{CacheValue as RoomsValue}
use Rattle.rx_strategy.specs.Config.{kind_of, reverse_compiler_of, asks_for_dfas, is_leftmost, auto_prefilter_of}
use Rattle.rx_strategy.specs.Core.{CoreValue, IsCoreOf, IsCoreFor}
use Rattle.rx_strategy.specs.Dfas.{ServeNfa, SearchFor}
use Rattle.rx_strategy.specs.Prefix.{PrefixValue, dfa_of}
use Rattle.rx_strategy.specs.Strategy as core
use Rattle.rx_strategy.specs.declared.config.Config.{Config}
use Rattle.rx_strategy.specs.declared.dfas.Dfas.{Dfas}
use Rattle.rx_strategy.specs.declared.dfas.Dfas.TheVariants.{Absent, Full, Lazy}
use Rattle.rx_strategy.specs.declared.lazies.Lazies.{Lazies}
use Rattle.rx_strategy.specs.declared.strategy.Strategy.{Strategy as CoreStrategy}
use Rattle.rx_strategy.specs.declared.strategy.Strategy.TheVariants.{Core as TheCore}
use Rattle.rx_strategy.proofs.CoreLemmas.{IsCompiledBack, dfas-serve, reads-back}
use Rattle.rx_strategy.proofs.DfaLemmas.{core-searches}
use Rattle.rx_strategies.specs.Attempting.{is_by_suffix, is_by_inner}
use Rattle.rx_strategies.specs.Attempting as strategy
use Rattle.rx_strategies.specs.Choice.{may_attempt}
use Rattle.rx_strategies.specs.Strategy as strategies
use Rattle.rx_strategies.specs.Strategy.{IsFor, IsMadeOf}
use Rattle.rx_strategies.specs.declared.strategy.Strategy.{Strategy}
use Rattle.rx_strategies.specs.declared.strategy.Strategy.TheVariants.{Pre, Core, ReverseAnchored, ReverseSuffix, ReverseInner}
use Rattle.rx_meta.specs.Attempts.{IsMetAt, IsMetFirst, IsMetBySuffix, IsMetByInner, literals_of, literals_in, SuffixFails, InnerFails}
use Rattle.rx_meta.specs.Cache.{CacheValue}
use Rattle.rx_meta.specs.Regex.{RegexValue, Serves, IsMadeUnder, name_of, kind_in}
use Rattle.rx_meta.proofs.NameLemmas.{named-suffix, named-inner}

-- of any automata

met-at : (rev : Dfa) (needles : List (List ℕ)) (v : InputValue) (place : Span → ℕ) (NoneBefore : ℕ → Type 0) (met : Met)
    → (is : lower.IsRefusedBack rev needles v place NoneBefore met) → IsMetAt needles v is.now (place is.now) met
met-at rev needles v place NoneBefore (Below at min_start) is =
    (is.refused.1.read, subst (λ n. IsLeastRead needles v n is.now.start) (sym is.refused.0) is.least)
met-at rev needles v place NoneBefore (AtStart found) is = is.refused.lies.0.1
met-at rev needles v place NoneBefore (Candidate start stopped) is = absurd is.refused

module _ (fwd rev : Dfa) (needles : List (List ℕ)) (r : Patterns) (v : InputValue) (met : Met) (utf8 : r.utf8_empty ≡ true → MeansUtf8 r v.haystack) where
  abbrev by-suffix : TellsStarts rev r → HasSuffix needles r → IsBySuffix rev needles r v
  by-suffix starts has = record {
    expression = has.expression;
    suffix = has.suffix;
    is = has.is;
    needle = has.needle;
    order = has.order;
    starts = starts;
    utf8 = utf8;
  }

  abbrev by-inner : HasInner rev needles r → IsByInner rev needles r v
  by-inner has = record {
    expression = has.expression;
    prefix = has.prefix;
    is = has.is;
    ordered = has.ordered;
    order = has.order;
    prefixes = has.prefixes;
    prefix_is = has.prefix_is;
    terminator = has.terminator;
    runs = has.runs;
    kind = has.kind;
    anywhere = has.anywhere;
    utf8 = utf8;
  }

  suffix-first : TellsStarts rev r → (has : HasSuffix needles r)
      → lower.IsRefusedBack rev needles v (λ (s : Span). s.end) (NoSuffixBefore rev needles v) met → IsMetBySuffix needles r v met
  suffix-first starts has is = record {
    expression = has.expression;
    suffix = has.suffix;
    is = has.is;
    literal = has.needle;
    order = has.order;
    first = record {
      now = is.now;
      candidate = is.taken;
      is_met = met-at rev needles v (λ (s : Span). s.end) (NoSuffixBefore rev needles v) met is;
      none = is.none r (by-suffix starts has);
    };
  }

  inner-first : IsNfaOf fwd.nfa r → (has : HasInner rev needles r)
      → lower.IsRefusedBack rev needles v (λ (s : Span). s.start) (NoInnerBefore fwd rev needles v) met ⊎ lower.RereadsBy fwd rev needles v met
      → IsMetByInner needles r v met
  inner-first nfa has is = record {
    expression = has.expression;
    prefix = has.prefix;
    is = has.is;
    order = has.order;
    first = elim is [ inl back ↦ first-back back | inr again ↦ first-again met again ];
  }
    where
      Confirmed : (c i : ℕ) → Type 0
      Confirmed = IsConfirmedInner r.terminator v.haystack v.start v.end has.prefix has.expression needles

      first-back : lower.IsRefusedBack rev needles v (λ (s : Span). s.start) (NoInnerBefore fwd rev needles v) met
          → IsMetFirst needles v (λ (s : Span). s.start) Confirmed met
      first-back back = record {
        now = back.now;
        candidate = back.taken;
        is_met = met-at rev needles v (λ (s : Span). s.start) (NoInnerBefore fwd rev needles v) met back;
        none = back.none r nfa (by-inner has);
      }

      first-again : (m : Met) → lower.RereadsBy fwd rev needles v m → IsMetFirst needles v (λ (s : Span). s.start) Confirmed m
      first-again (Below at min_start) again = absurd again
      first-again (AtStart found) again = absurd again
      first-again (Candidate start stopped) again = record {
        now = again.now;
        candidate = again.taken;
        is_met = again.start_is;
        none = λ c i lt. again.none r nfa (by-inner has) c i (subst (λ n. c < n) (sym again.start_is) lt);
      }

-- of the DFAs of a core that is made of expressions

module _ (config : Config) (hs : List Expression) (c : CoreValue) (made : IsCoreOf config hs c) where
  back : IsCompiledBack config hs c.reverse
  back = by-option c.reverse made.asked made.reverse
    where
      by-option : (o : Option Nfa) → is_some o ≡ asks_for_dfas config → IfSome o (IsCompiled (reverse_compiler_of config) hs) → IsCompiledBack config hs o
      by-option None asked compiled = sym asked
      by-option (Some nfa) asked compiled = (sym asked, compiled)

  serve : ServeNfa c.nfa c.kind c.reverse c.dfas
  serve =
      let both = reads-back config hs c.nfa c.reverse made.compiled back in
      subst (λ (kind : MatchKind). ServeNfa c.nfa kind c.reverse c.dfas) (sym made.kind)
      (dfas-serve config c.nfa c.reverse c.dfas made.dfas both.0 both.1)

  module _ (r : Patterns) (v : InputValue) (for : IsCoreFor c r) (utf8 : r.utf8_empty ≡ true → MeansUtf8 r v.haystack) (met : Met) where
    search : SearchFor c.dfas None c.kind r v
    search = core-searches c c.dfas serve None r v (record { is_for = for; begins = λ loose. tt; utf8 = utf8 })

    suffix-in : (needles : List (List ℕ)) → HasSuffix needles r → (lazies : Option Lazies) → SuffixFailsIn c.dfas needles v lazies (Quadratic met)
        → IsMetBySuffix needles r v met
    suffix-in needles has lazies is = by-dfas c.dfas search lazies is
      where
        by-dfas : (dfas : Dfas) → SearchFor dfas None c.kind r v → (lazies : Option Lazies) → SuffixFailsIn dfas needles v lazies (Quadratic met)
            → IsMetBySuffix needles r v met
        by-dfas Absent s lazies is = absurd is
        by-dfas (Full f b) s lazies is = suffix-first f.dfa b.dfa needles r v met utf8 s.starts has is
        by-dfas (Lazy f b) s None is = absurd is
        by-dfas (Lazy f b) s (Some both) is = suffix-first f.dfa b.dfa needles r v met utf8 s.starts has is

    inner-in : (rev : Dfa) (needles : List (List ℕ)) → HasInner rev needles r → (rev_gives_up rev_wants : Type 0) (lazies : Option Lazies)
        → InnerFailsIn c.dfas rev needles v lazies rev_gives_up rev_wants (Quadratic met) → IsMetByInner needles r v met
    inner-in rev needles has rev_gives_up rev_wants lazies is = by-dfas c.dfas search lazies is
      where
        by-dfas : (dfas : Dfas) → SearchFor dfas None c.kind r v → (lazies : Option Lazies)
            → InnerFailsIn dfas rev needles v lazies rev_gives_up rev_wants (Quadratic met) → IsMetByInner needles r v met
        by-dfas Absent s lazies is = absurd is
        by-dfas (Full f b) s lazies is = inner-first f.dfa rev needles r v met utf8 s.premises.is_for has is
        by-dfas (Lazy f b) s None is = absurd is
        by-dfas (Lazy f b) s (Some both) is = inner-first f.dfa rev needles r v met utf8 s.premises.is_for has is

-- of a strategy

module _ (config : Config) (hs : List Expression) (r : Patterns) (v : InputValue) (utf8 : r.utf8_empty ≡ true → MeansUtf8 r v.haystack) (met : Met) where
  suffix-by-core : (c : CoreStrategy) (needles : List (List ℕ)) → core.IsMadeOf config hs c → core.IsFor c r → HasSuffix needles r
      → (rooms : Option RoomsValue) → IsSomeAnd rooms (λ cache. core.SuffixFailsFor c needles v cache (Quadratic met)) → IsMetBySuffix needles r v met
  suffix-by-core c needles made for has None is = absurd is
  suffix-by-core (TheCore c) needles made for has (Some cache) is = suffix-in config hs c made r v for utf8 met needles has cache.lazies is

  inner-by-core : (c : CoreStrategy) (prefix : PrefixValue) (needles : List (List ℕ)) → core.IsMadeOf config hs c → core.IsFor c r
      → HasInner (dfa_of prefix) needles r → (rooms : Option RoomsValue) (states : Option LazyCache)
      → IsSomeAnd rooms (λ cache. core.InnerFailsFor c prefix needles v cache states (Quadratic met)) → IsMetByInner needles r v met
  inner-by-core c prefix needles made for has None states is = absurd is
  inner-by-core (TheCore c) prefix needles made for has (Some cache) states is =
      inner-in config hs c made r v for utf8 met (dfa_of prefix) needles has _ _ cache.lazies is

pub suffix-refused : (config : Config) (hs : List Expression) (regex : RegexValue) → IsMadeUnder config hs regex → (r : Patterns) (v : InputValue)
    → Premises (Serves regex r) None r v → (cache : CacheValue) (met : Met) → SuffixFails regex v cache (Quadratic met)
    → IsMetBySuffix (literals_in regex) r v met
unfolding IsMadeUnder Serves SuffixFails literals_in
suffix-refused config hs regex made r v p cache met is = by-strategy regex.strategy made p.is_for.0 is
  where
    by-strategy : (s : Strategy) → IsMadeOf config hs s → IsFor s r → strategy.SuffixFails s v cache.rooms (Quadratic met)
        → IsMetBySuffix (literals_of s) r v met
    by-strategy (Pre l) made for is = absurd is
    by-strategy (Core c) made for is = absurd is
    by-strategy (ReverseAnchored c) made for is = absurd is
    by-strategy (ReverseSuffix s) made for is =
        suffix-by-core config hs r v p.utf8 met s.core s.needles made.0.plain.core for.0 for.1 cache.rooms.rooms is
    by-strategy (ReverseInner i) made for is = absurd is

pub inner-refused : (config : Config) (hs : List Expression) (regex : RegexValue) → IsMadeUnder config hs regex → (r : Patterns) (v : InputValue)
    → Premises (Serves regex r) None r v → (cache : CacheValue) (met : Met) → InnerFails regex v cache (Quadratic met)
    → IsMetByInner (literals_in regex) r v met
unfolding IsMadeUnder Serves InnerFails literals_in
inner-refused config hs regex made r v p cache met is = by-strategy regex.strategy made p.is_for.0 is
  where
    by-strategy : (s : Strategy) → IsMadeOf config hs s → IsFor s r → strategy.InnerFails s v cache.rooms (Quadratic met)
        → IsMetByInner (literals_of s) r v met
    by-strategy (Pre l) made for is = absurd is
    by-strategy (Core c) made for is = absurd is
    by-strategy (ReverseAnchored c) made for is = absurd is
    by-strategy (ReverseSuffix s) made for is = absurd is
    by-strategy (ReverseInner i) made for is =
        inner-by-core config hs r v p.utf8 met i.core i.prefix i.needles made.0.forwards.plain.core for.0 for.1 cache.rooms.rooms cache.rooms.prefix is

-- an attempt is made under leftmost-first alone

leftmost : (kind : MatchKind) → is_leftmost kind ≡ true → kind ≡ LeftmostFirst
leftmost All e = absurd (true≢false (sym e))
leftmost LeftmostFirst e = refl

-- what is chosen under a test, and under one of its parts
chosen-if : {A : Type 0} (b : Bool) (o : Option A) (x : A) → (if b then o else None) ≡ Some x → b ≡ true
chosen-if true o x e = refl
chosen-if false o x e = absurd (none-some x e)

kind-chosen : {A : Type 0} (config : Config) (c : CoreStrategy) (hs : List Expression) → core.IsMadeOf config hs c → (o : Option A) (x : A)
    → (if may_attempt config c (alternation (expressions hs)) then o else None) ≡ Some x → core.kind_in c ≡ LeftmostFirst
kind-chosen config (TheCore c) hs made o x e =
    let all = chosen-if (may_attempt config (TheCore c) (alternation (expressions hs))) o x e in
    let rest = and_parts (auto_prefilter_of config) _ all in
    made.kind ∙ leftmost (kind_of config) (and_parts (is_leftmost (kind_of config)) _ rest.1).0

pub suffix-leftmost : (config : Config) (hs : List Expression) (regex : RegexValue) → IsMadeUnder config hs regex → name_of regex ≡ codes "reverse suffix"
    → kind_in regex ≡ LeftmostFirst
unfolding IsMadeUnder name_of kind_in
suffix-leftmost config hs regex made named = by-strategy regex.strategy made (named-suffix regex.strategy named)
  where
    by-strategy : (s : Strategy) → IsMadeOf config hs s → is_by_suffix s ≡ true → strategies.kind_in s ≡ LeftmostFirst
    by-strategy (Pre l) made by = absurd (true≢false (sym by))
    by-strategy (Core c) made by = absurd (true≢false (sym by))
    by-strategy (ReverseAnchored c) made by = absurd (true≢false (sym by))
    by-strategy (ReverseSuffix s) made by = kind-chosen config s.core hs made.0.plain.core _ made.1.suffix made.1.chosen
    by-strategy (ReverseInner i) made by = absurd (true≢false (sym by))

pub inner-leftmost : (config : Config) (hs : List Expression) (regex : RegexValue) → IsMadeUnder config hs regex → name_of regex ≡ codes "reverse inner"
    → kind_in regex ≡ LeftmostFirst
unfolding IsMadeUnder name_of kind_in
inner-leftmost config hs regex made named = by-strategy regex.strategy made (named-inner regex.strategy named)
  where
    by-strategy : (s : Strategy) → IsMadeOf config hs s → is_by_inner s ≡ true → strategies.kind_in s ≡ LeftmostFirst
    by-strategy (Pre l) made by = absurd (true≢false (sym by))
    by-strategy (Core c) made by = absurd (true≢false (sym by))
    by-strategy (ReverseAnchored c) made by = absurd (true≢false (sym by))
    by-strategy (ReverseSuffix s) made by = absurd (true≢false (sym by))
    by-strategy (ReverseInner i) made by = kind-chosen config i.core hs made.0.forwards.plain.core _ _ made.1.chosen
