-- What the one-pass DFA of a core tells, and which one it has.
use Rattle.std.proofs.Common.{◌≡◌, ℕ, zero, suc, ◌≤◌, List, length, refl, sym, ap, ◌∙◌, subst, inl, inr, arith, true≢false}
use Rattle.std.proofs.lemmas.Bool.{and_parts}
use Rattle.std.proofs.lemmas.Bool.Decides.{nat_tests}
use Rattle.std.proofs.lemmas.List.{get_or_past}
use Rattle.std.specs.Prelude.{Bool, true, false, ◌&&◌, ◌||◌, ◌<◌, ◌⊎◌, nat_lt, Option, Some, None, option_map, is_some, IfSome, IfNone, IsSomeAnd, MatchOption, replicate, slice_index_or}
use Rattle.rx_model.specs.Expression.{Expression, alternation}
use Rattle.rx_model.specs.Matches.{IsMatch}
use Rattle.rx_model.specs.Runs.{Trace}
use Rattle.rx_model.specs.Search.{Patterns, Anchor, free, anchored, anchored_to, is_anchored, Match, told_of, next_match}
use Rattle.rx_model.proofs.lemmas.runs.FirstLemmas.{none-is-some}
use Rattle.rx_model.proofs.lemmas.runs.RunLemmas.{by_test}
use Rattle.rx_search.specs.Input.{InputValue, next_in}
use Rattle.rx_search.specs.Matches.{MatchValue, match_value}
use Rattle.rx_search.specs.Told.{tells, AreWithin, IsMatchWith, HasSlots}
use Rattle.rx_search.specs.declared.match_error.MatchError.{MatchError}
use Rattle.rx_search.specs.declared.match_error.MatchError.TheVariants.{Quit, GaveUp, HaystackTooLong, UnsupportedAnchored, Memory}
use Rattle.rx_search.specs.declared.anchored.MatchKind.{MatchKind}
use Rattle.rx_search.specs.declared.anchored.MatchKind.TheVariants.{LeftmostFirst}
use Rattle.rx_hir.specs.Normal.{expressions}
use Rattle.rx_hir.specs.PropertiesViews.{AreOf}
use Rattle.rx_hir.specs.declared.hir.properties.Properties.{Properties}
use Rattle.rx_nfa.specs.Nfa.{Nfa, IsInRange, IsNfaOf}
use Rattle.rx_onepass_build.specs.Config.{kind_of, each_of}
use Rattle.rx_onepass.specs.Dfa.{Dfa, Fits}
use Rattle.rx_onepass.specs.Patterns.{IsBuiltFrom}
use Rattle.rx_onepass.specs.Search.{run_in, match_from, started_at, AreSlotsOf, IsFound, IsRefusal, IsUnsupported, taken_as}
use Rattle.rx_onepass.proofs.lemmas.AgreeLemmas.{exists-told, next-told, match-told, slot-left}
use Rattle.rx_onepass.proofs.lemmas.PlaceLemmas.{told-pattern, told-places}
use Rattle.rx_strategy.specs.Config as configs
use Rattle.rx_strategy.specs.Core.{CoreValue, IsCoreFor, IsToldFor}
use Rattle.rx_strategy.specs.Impossible.{is_always_anchored_start}
use Rattle.rx_strategy.specs.OnePass.{asks_for_onepass, onepass_config, HasNoOnePass, IsOnePassOf, IsOnePassBeside, IsOnePassOver, ServesOnce, onepass_serves, FitsOnePass, begun}
use Rattle.rx_strategy.specs.declared.config.Config.{Config}
use Rattle.rx_strategy.specs.declared.onepass.OnePass.{OnePass}
use Rattle.rx_strategy.proofs.AnchorLemmas.{is-free, same-next, unanchored}
use Rattle.rx_strategy.proofs.AnswerLemmas.{told_of-whole, told-whole, is_some-map}

-- an input that was begun is anchored
pub begun-anchored : (anchor : Anchor) → taken_as (taken_as anchor) ≡ taken_as anchor
begun-anchored free = refl
begun-anchored anchored = refl
begun-anchored (anchored_to p) = refl

-- so it is refused only where a pattern has no start of its own
pub begun-served : (d : Dfa) (anchor : Anchor) → each_of d.config ≡ true → IsUnsupported d (taken_as anchor) → ⊥
begun-served d free each refused = refused
begun-served d anchored each refused = refused
begun-served d (anchored_to p) each refused = true≢false (sym each ∙ refused)

none-left : (n k : ℕ) → ◌≡◌ {A = Option ℕ} (slice_index_or (replicate n None) k None) None
none-left zero k = refl
none-left (suc n) zero = refl
none-left (suc n) (suc k) = none-left n k

pub never-refused : (d : Dfa) (v : InputValue) → each_of d.config ≡ true → (e : MatchError) → IsRefusal d (begun v) e → ⊥
never-refused d v each (Quit byte offset) refused = refused
never-refused d v each (GaveUp offset) refused = refused
never-refused d v each (HaystackTooLong len) refused = refused
never-refused d v each (UnsupportedAnchored mode) refused = begun-served d v.anchor each refused.2
never-refused d v each Memory refused = refused

-- What it finds in an anchored input.
module _ (d : Dfa) (v : InputValue) (on : taken_as v.anchor ≡ v.anchor) (slots : List (Option ℕ)) (found : Option MatchValue) (is : IsFound d v found slots)
    (range : IsInRange d.nfa) where
  same : record v { anchor = taken_as v.anchor } ≡ v
  same = λ i. record v { anchor = on i }

  left : (t : Trace) → run_in d v ≡ Some t → AreSlotsOf d.nfa v.start slots t
  left t e = subst (λ o. IfSome o (AreSlotsOf d.nfa v.start slots)) e is.slots_are

  by-run : (P : Option MatchValue → Type 0) → (run_in d v ≡ None → P None) → ((t : Trace) → run_in d v ≡ Some t → P (Some (match_from v.start t))) → P found
  by-run P none some = subst P (sym is.value) (by (run_in d v) refl)
    where
      by : (o : Option Trace) → run_in d v ≡ o → P (option_map (match_from v.start) o)
      by None e = none e
      by (Some t) e = some t e

  pub found-in-range : IfSome found (λ m. m.pattern < length d.nfa.starts)
  found-in-range = by-run (λ o. IfSome o (λ m. m.pattern < length d.nfa.starts)) (λ e. tt) (λ t e. told-pattern d v range t e)

  -- each place in the slots lies in the span
  pub found-places : AreWithin v slots
  found-places k place at = by-run (λ (o : Option MatchValue). (v.start ≤ place) × (place ≤ v.end)) none some
    where
      none : run_in d v ≡ None → (v.start ≤ place) × (place ≤ v.end)
      none e =
          let gone : found ≡ None = is.value ∙ ap (option_map (match_from v.start)) e in
          let empty : slots ≡ replicate (length slots) None = subst (λ o. IfNone o (slots ≡ replicate (length slots) None)) gone is.none in
          none-is-some (sym (none-left (length slots) k) ∙ ap (λ (s : List (Option ℕ)). slice_index_or s k None) (sym empty) ∙ at)

      some : (t : Trace) → run_in d v ≡ Some t → (v.start ≤ place) × (place ≤ v.end)
      some t e =
          by_test (nat_lt k (length slots))
          (λ below. let lt : k < length slots = grind (arith, nat_tests) in told-places d v range t e k place (sym (left t e k lt) ∙ at))
          (λ past. let le : length slots ≤ k = grind (arith, nat_tests) in none-is-some (sym (get_or_past slots k None le) ∙ at))

  -- What it tells of the patterns.
  module _ (within : v.end ≤ length v.haystack) (r : Patterns) (of : IsNfaOf d.nfa r) (asked : tells r.which_captures ≡ true) where
    has : (t : Trace) → run_in d v ≡ Some t → HasSlots slots (started_at v.start t)
    has t e = λ k lt. left t e k lt ∙ slot-left d r v of within asked t e range k

    next : kind_of d.config ≡ LeftmostFirst → option_map (started_at v.start) (run_in d v) ≡ next_in r v
    next leftmost = next-told d r v of within asked leftmost ∙ ap (next_in r) same

    spans : (o : Option Trace) → option_map (match_from v.start) o ≡ option_map match_value (option_map (started_at v.start) o)
    spans None = refl
    spans (Some t) = refl

    with-slots : (o : Option Trace) → run_in d v ≡ o → IfSome (option_map (started_at v.start) o) (HasSlots slots)
    with-slots None e = tt
    with-slots (Some t) e = has t e

    one : (t : Trace) → run_in d v ≡ Some t → IsMatchWith r v (λ n. (match_from v.start t ≡ match_value n) × HasSlots slots n)
    one t e =
        let m = started_at v.start t in
        let whole : told_of r.which_captures m ≡ m = told_of-whole r.which_captures asked m in
        let match : IsMatch r v.haystack v.anchor v.end v.start m =
        subst (λ (a : Anchor). IsMatch r v.haystack a v.end v.start m) on (match-told d r v of within asked t e) in
        (m, match, subst (λ (n : Match). (match_from v.start t ≡ match_value n) × HasSlots slots n) (sym whole) (refl, has t e))

    pub found-told : IsToldFor (kind_of d.config) r v slots found
    found-told = record {
      value = λ leftmost whole. is.value ∙ spans (run_in d v) ∙ ap (option_map match_value) (next leftmost);
      exists = ap is_some is.value ∙ is_some-map (match_from v.start) (run_in d v) ∙ exists-told d r v of within ∙ ap (λ w. is_some (next_in r w)) same;
      is_match = by-run (λ o. IfSome o (λ m. IsMatchWith r v (λ n. (m ≡ match_value n) × HasSlots slots n))) (λ e. tt) one;
      slots = λ leftmost whole.
          subst (λ (o : Option Match). IfSome o (HasSlots slots)) (next leftmost ∙ sym (told-whole r.which_captures asked (next_in r v)))
          (with-slots (run_in d v) refl);
    }

-- Where it serves an input, the input begun is as good as the input itself.
either : (anchor : Anchor) → (taken_as anchor ≡ anchor) ⊎ (is_anchored anchor ≡ false)
either free = inr refl
either anchored = inl refl
either (anchored_to p) = inl refl

module _ (c : CoreValue) (v : InputValue) (serves : onepass_serves c.onepass v ≡ true) (once : ServesOnce c.nfa c.kind c.properties c.onepass) (r : Patterns)
    (of : IsCoreFor c r) where
  abbrev h : Expression
  h = alternation (expressions r.expressions)

  -- where it is not anchored, each match begins at the start of the text
  begins : is_anchored v.anchor ≡ false → is_always_anchored_start h ≡ true
  begins off =
      let some : (c.onepass.begins_once || is_anchored v.anchor) ≡ true = (and_parts (is_some c.onepass.dfa) (c.onepass.begins_once || is_anchored v.anchor) serves).1 in
      once.once (left-true c.onepass.begins_once (ap (λ b. c.onepass.begins_once || b) (sym off) ∙ some)) h of.properties
    where
      left-true : (b : Bool) → (b || false) ≡ true → b ≡ true
      left-true true e = refl
      left-true false e = e

  begun-same : taken_as v.anchor ≡ v.anchor → begun v ≡ v
  begun-same on = λ i. record v { anchor = on i }

  begun-free : is_anchored v.anchor ≡ false → begun v ≡ record v { anchor = anchored }
  begun-free off = λ i. record v { anchor = ap taken_as (is-free v.anchor off) i }

  next-free : is_anchored v.anchor ≡ false → next_in r (record v { anchor = anchored }) ≡ next_in r v
  next-free off =
      subst (λ (anchor : Anchor). next_match r v.haystack anchored v.end v.start ≡ next_match r v.haystack anchor v.end v.start)
      (sym (is-free v.anchor off)) (same-next r v.haystack v.end v.start of.ordered (begins off))

  pub begun-next : next_in r (begun v) ≡ next_in r v
  begun-next = elim (either v.anchor) [
    | inl on ↦ ap (next_in r) (begun-same on)
    | inr off ↦ ap (next_in r) (begun-free off) ∙ next-free off
  ]

  begun-match : (m : Match) → IsMatch r v.haystack (taken_as v.anchor) v.end v.start m → IsMatch r v.haystack v.anchor v.end v.start m
  begun-match m is = elim (either v.anchor) [
    | inl on ↦ subst (λ (a : Anchor). IsMatch r v.haystack a v.end v.start m) on is
    | inr off ↦
        let is_free = is-free v.anchor off in
        subst (λ (a : Anchor). IsMatch r v.haystack a v.end v.start m) (sym is_free)
        (unanchored r v.haystack v.end v.start m (subst (λ (a : Anchor). IsMatch r v.haystack (taken_as a) v.end v.start m) is_free is))
  ]

  module _ (slots : List (Option ℕ)) where
    begun-found : (found : Option MatchValue) → IfSome found (λ x. IsMatchWith r (begun v) (λ n. (x ≡ match_value n) × HasSlots slots n))
        → IfSome found (λ x. IsMatchWith r v (λ n. (x ≡ match_value n) × HasSlots slots n))
    begun-found None known = tt
    begun-found (Some x) known = (known.0, begun-match known.0 known.1, known.2)

    pub begun-told : (kind : MatchKind) (found : Option MatchValue) → IsToldFor kind r (begun v) slots found → IsToldFor kind r v slots found
    begun-told kind found is = record {
      value = λ leftmost whole. is.value leftmost whole ∙ ap (option_map match_value) begun-next;
      exists = is.exists ∙ ap is_some begun-next;
      is_match = begun-found found is.is_match;
      slots = λ leftmost whole.
          subst (λ (o : Option Match). IfSome (option_map (told_of r.which_captures) o) (HasSlots slots)) begun-next (is.slots leftmost whole);
    }

-- the one that a core is made with serves its searches
pub serves-once : (config : Config) (nfa : Nfa) (p : Properties) (o : OnePass) → ((h : Expression) → AreOf h p → IsOnePassBeside config nfa h o)
    → (h : Expression) → AreOf h p → ServesOnce nfa (configs.kind_of config) p o
serves-once config nfa p o beside h of = record {
  over = over o.dfa (beside h of).dfa;
  once = λ yes k is. sym (beside k is).once ∙ yes;
}
  where
    over : (d : Option Dfa) → IsOnePassOf config nfa h d → IfSome d (IsOnePassOver nfa (configs.kind_of config))
    over None is = tt
    over (Some d) is =
        let built = is.1 in
        record { nfa_is = built.nfa_is; kind_is = ap kind_of built.config_is; each = ap each_of built.config_is }

-- Which one there is.
module _ (config : Config) (nfa : Nfa) (h : Expression) where
  pub of-unasked : asks_for_onepass config h ≡ false → IsOnePassOf config nfa h None
  of-unasked off = λ on. absurd (true≢false (sym on ∙ off))

  pub of-asked : asks_for_onepass config h ≡ true → (made : Option Dfa)
      → MatchOption made (HasNoOnePass (onepass_config config) nfa) (IsBuiltFrom (onepass_config config) nfa) → IsOnePassOf config nfa h made
  of-asked on None none = λ _. none
  of-asked on (Some d) is = (on, is)

-- whether it serves
module _ (o : OnePass) (v : InputValue) where
  abbrev once : Bool
  once = o.begins_once || is_anchored v.anchor

  pub got : once ≡ true → (d : Option Dfa) → d ≡ o.dfa → MatchOption d (onepass_serves o v ≡ false) (λ x. (onepass_serves o v ≡ true) × (o.dfa ≡ Some x))
  got on None is = ap (λ x. is_some x && once) (sym is)
  got on (Some d) is = (ap (λ x. is_some x && once) (sym is) ∙ on, sym is)

  pub not-got : once ≡ false → onepass_serves o v ≡ false
  not-got off = ap (λ b. is_some o.dfa && b) off ∙ and-false (is_some o.dfa)
    where
      and-false : (b : Bool) → (b && false) ≡ false
      and-false true = refl
      and-false false = refl

-- a cache with more room serves as well
pub more-room : (o : OnePass) (old new : ℕ) → old ≤ new → FitsOnePass o (Some old) → FitsOnePass o (Some new)
more-room o old new le fits = by o.dfa fits
  where
    by : (d : Option Dfa) → IfSome d (λ x. IsSomeAnd (Some old) (Fits x.nfa)) → IfSome d (λ x. IsSomeAnd (Some new) (Fits x.nfa))
    by None fits = tt
    by (Some d) fits = omega arith

-- and any one, where there was none
pub some-room : (o : OnePass) (new : ℕ) → FitsOnePass o None → FitsOnePass o (Some new)
some-room o new fits = by o.dfa fits
  where
    by : (d : Option Dfa) → IfSome d (λ x. IsSomeAnd None (Fits x.nfa)) → IfSome d (λ x. IsSomeAnd (Some new) (Fits x.nfa))
    by None fits = tt
    by (Some d) fits = absurd fits

-- a cache that serves where there is one serves it
pub one-fits : (o : OnePass) (d : Dfa) → o.dfa ≡ Some d → (room : Option ℕ) → FitsOnePass o room → IsSomeAnd room (Fits d.nfa)
one-fits o d is room fits = subst (λ (x : Option Dfa). IfSome x (λ y. IsSomeAnd room (Fits y.nfa))) is fits

-- and back
pub fits-one : (o : OnePass) (d : Dfa) → o.dfa ≡ Some d → (room : Option ℕ) → IsSomeAnd room (Fits d.nfa) → FitsOnePass o room
fits-one o d is room fits = subst (λ (x : Option Dfa). IfSome x (λ y. IsSomeAnd room (Fits y.nfa))) (sym is) fits

-- what serves is over the core's NFA
pub one-over : (c : CoreValue) (d : Dfa) → c.onepass.dfa ≡ Some d → ServesOnce c.nfa c.kind c.properties c.onepass → IsOnePassOver c.nfa c.kind d
one-over c d is serves = subst (λ (x : Option Dfa). IfSome x (IsOnePassOver c.nfa c.kind)) is serves.over
