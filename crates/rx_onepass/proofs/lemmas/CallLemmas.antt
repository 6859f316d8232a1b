-- What a search answers, by what it calls: whether any match will do does not matter, nor whether it was taken as anchored.
use Rattle.std.proofs.Common.{◌≡◌, ℕ, List, length, sym, refl, ◌∙◌, ap, subst, true≢false}
use Rattle.std.specs.Prelude.{Bool, true, Option, Some, None, option_map, IfSome, IfNone, replicate, if◌then◌else◌}
use Rattle.rx_model.specs.Runs.{Trace}
use Rattle.rx_model.specs.Search.{Anchor, free, anchored, anchored_to}
use Rattle.rx_search.specs.Input.{InputValue}
use Rattle.rx_search.specs.Matches.{MatchValue}
use Rattle.rx_search.specs.Told.{LiesIn}
use Rattle.rx_search.specs.declared.match_error.MatchError.{MatchError}
use Rattle.rx_search.specs.declared.match_error.MatchError.TheVariants.{Quit, GaveUp, HaystackTooLong, UnsupportedAnchored, Memory}
use Rattle.rx_nfa.specs.NextMatch.{start_of}
use Rattle.rx_onepass_build.specs.Config.{kind_of, each_of}
use Rattle.rx_onepass.specs.Dfa.{Dfa}
use Rattle.rx_onepass.specs.Search.{taken_as, run_of, may_start, run_in, match_from, AreSlotsOf, IsFound, IsTold, IsUnsupported, IsRefusal}

-- the input, if any match will do or not
pub found-exact : (d : Dfa) (v : InputValue) (any : Bool) (found : Option MatchValue) (slots : List (Option ℕ))
    → IsFound d (record v { earliest = any }) found slots → IsFound d v found slots
found-exact d v any found slots x = record { value = x.value; slots_are = x.slots_are; none = x.none; within = x.within }

pub taken-twice : (a : Anchor) → taken_as (taken_as a) ≡ taken_as a
taken-twice free = refl
taken-twice anchored = refl
taken-twice (anchored_to p) = refl

module _ (d : Dfa) (v : InputValue) where
  -- the input, anchored where it is not
  abbrev pub taken : InputValue
  taken = record v { anchor = taken_as v.anchor }

  pub run-taken : run_in d taken ≡ run_in d v
  run-taken =
      ap (λ a. if may_start d v then run_of (kind_of d.config) d.nfa v.haystack v.end (start_of d.nfa a) v.start else None) (taken-twice v.anchor)

  pub value-taken : (found : Option MatchValue) → found ≡ option_map (match_from v.start) (run_in d taken)
      → found ≡ option_map (match_from v.start) (run_in d v)
  value-taken found is = is ∙ ap (option_map (match_from v.start)) run-taken

  pub within-taken : (found : Option MatchValue) → IfSome found (LiesIn taken) → IfSome found (LiesIn v)
  within-taken None within = tt
  within-taken (Some m) within = within

  pub told-taken : (pattern : Option ℕ) (slots : List (Option ℕ)) → IsTold d taken pattern slots → IsTold d v pattern slots
  told-taken pattern slots x = record {
    value = x.value ∙ ap (option_map (λ (t : Trace). t.pattern)) run-taken;
    slots_are = subst (λ o. IfSome o (AreSlotsOf d.nfa v.start slots)) run-taken x.slots_are;
    none = x.none;
  }

  -- one that is taken as anchored is not refused, where there are starts for the pattern that is asked for
  pub not-unsupported : ((p : ℕ) → v.anchor ≡ anchored_to p → each_of d.config ≡ true) → IsUnsupported d (taken_as v.anchor) → ⊥
  not-unsupported each = by v.anchor each
    where
      by : (a : Anchor) → ((p : ℕ) → a ≡ anchored_to p → each_of d.config ≡ true) → IsUnsupported d (taken_as a) → ⊥
      by free each h = h
      by anchored each h = h
      by (anchored_to p) each h = absurd (true≢false (sym (each p refl) ∙ h))

  pub not-refused : ((p : ℕ) → v.anchor ≡ anchored_to p → each_of d.config ≡ true) → (e : MatchError) → IsRefusal d taken e → ⊥
  not-refused each (Quit byte offset) h = h
  not-refused each (GaveUp offset) h = h
  not-refused each (HaystackTooLong len) h = h
  not-refused each (UnsupportedAnchored mode) h = not-unsupported each h.2
  not-refused each Memory h = h

-- the pattern of what was found
pub told-found : (d : Dfa) (v : InputValue) (found : Option MatchValue) (slots : List (Option ℕ)) → IsFound d v found slots
    → IsTold d v (option_map (λ (m : MatchValue). m.pattern) found) slots
told-found d v found slots x = record {
  value = ap (option_map (λ (m : MatchValue). m.pattern)) x.value ∙ patterns (run_in d v);
  slots_are = x.slots_are;
  none = none found x.none;
}
  where
    patterns : (o : Option Trace) → option_map (λ (m : MatchValue). m.pattern) (option_map (match_from v.start) o) ≡ option_map (λ (t : Trace). t.pattern) o
    patterns None = refl
    patterns (Some t) = refl

    none : (o : Option MatchValue) → IfNone o (slots ≡ replicate (length slots) None)
        → IfNone (option_map (λ (m : MatchValue). m.pattern) o) (slots ≡ replicate (length slots) None)
    none None h = h
    none (Some m) h = tt
