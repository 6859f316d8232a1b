-- The first on an ordered list of states, and a list that is being closed.
use Rattle.std.proofs.Common.{◌≡◌, ℕ, List, [], ◌∷◌, ◌++◌, refl, sym, ◌∙◌, ap, inl, inr}
use Rattle.std.specs.Prelude.{true, false, Option, None, option_map, if◌then◌else◌}
use Rattle.std.specs.Option.{option_or}
use Rattle.std.proofs.lemmas.Bool.{or_right}
use Rattle.std.proofs.lemmas.Bool.Decides.{Decides-eqb}
use Rattle.rx_model.specs.Runs.{PriorityGraph, Passed, and_at, Trace, found}
use Rattle.rx_model.proofs.lemmas.runs.RunLemmas.{by_test}
use Rattle.rx_model.proofs.lemmas.runs.FirstLemmas.{tells}
use Rattle.rx_model.proofs.lemmas.runs.FoundLemmas.{found-passed}
use Rattle.rx_model.proofs.lemmas.runs.OptionLemmas.{or-assoc, or-none_right}
use Rattle.rx_nfa.specs.Automaton.{at, state_at}
use Rattle.rx_nfa.specs.Ordered.{has, passed_at, first_told, first_then, IsStable, is_resting, at_rest, resting}
use Rattle.rx_nfa.specs.declared.state.State.{State}
use Rattle.rx_nfa.proofs.lemmas.lists.PlaceLemmas.{passed_at-has, passed_at-push}

pub first_told-append : {A : Type 0} (tell : ℕ → Option A) (xs ys : List ℕ) → first_told tell (xs ++ ys) ≡ option_or (first_told tell xs) (first_told tell ys)
first_told-append tell [] ys = refl
first_told-append tell (x ∷ xs) ys = ap (option_or (tell x)) (first_told-append tell xs ys) ∙ sym (or-assoc (tell x) (first_told tell xs) (first_told tell ys))

pub first_told-push : {A : Type 0} (tell : ℕ → Option A) (xs : List ℕ) (q : ℕ) → first_told tell (xs ++ q ∷ []) ≡ option_or (first_told tell xs) (tell q)
first_told-push tell xs q = first_told-append tell xs (q ∷ []) ∙ ap (option_or (first_told tell xs)) (or-none_right (tell q))

-- where the states on the list tell the same
pub first_told-alike : {A : Type 0} (tell tell' : ℕ → Option A) (qs : List ℕ) → ((q : ℕ) → has qs q ≡ true → tell q ≡ tell' q)
    → first_told tell qs ≡ first_told tell' qs
first_told-alike tell tell' [] alike = refl
first_told-alike tell tell' (q ∷ qs) alike =
    let here : has (q ∷ qs) q ≡ true = rw ((Decides-eqb q q).1 refl) refl in
    λ k. option_or (alike q here k) (first_told-alike tell tell' qs (λ x h. alike x (or_right _ _ h)) k)

pub first_told-none : {A : Type 0} (tell : ℕ → Option A) (qs : List ℕ) → ((q : ℕ) → tell q ≡ None) → first_told tell qs ≡ None
first_told-none tell [] none = refl
first_told-none tell (q ∷ qs) none = rw (none q, first_told-none tell qs none) refl

-- those that rest tell what is told at rest
pub first_told-resting : {A : Type 0} (states : List State) (tell : ℕ → Option A) (qs : List ℕ)
    → first_told tell (resting states qs) ≡ first_told (at_rest states tell) qs
first_told-resting states tell [] = refl
first_told-resting states tell (q ∷ qs) =
    by_test (is_resting (state_at states q))
    (λ e. rw (e, first_told-resting states tell qs) refl)
    (λ e. rw (e, first_told-resting states tell qs) refl)

-- A list that is being closed: what its threads tell, and then what comes later. On top is the state q, of which f tells what
-- a run from it has; `later` is what is below it.
module _ {A : Type 0} (states : List State) (g : PriorityGraph) (at_place : ℕ → Option A) (items : List ℕ) (i q : ℕ) (f : Trace → A)
    (later : Passed → Option A) where
  abbrev front : Option A
  front = first_told (at_rest states at_place) items

  abbrev looked : Passed → Option A
  looked p = option_map f (found g p (at q i))

  abbrev passed : Passed
  passed = passed_at items i

  -- what was seen before tells nothing more
  pub first_then-seen : has items q ≡ true
      → first_then (at_rest states at_place) items i (λ p. option_or (looked p) (later p)) ≡ first_then (at_rest states at_place) items i later
  first_then-seen seen =
      ap (λ o. option_or front (option_or (option_map f o) (later passed))) (found-passed g passed (at q i) (passed_at-has items i q ∙ seen))

  -- below a state that was looked at, it may count as passed
  below : IsStable g later → option_or (looked passed) (later (and_at (at q i) passed)) ≡ option_or (looked passed) (later passed)
  below stable =
      elim (tells (found g passed (at q i))) [
        | inl none ↦ ap (option_or (looked passed)) (sym (stable passed (at q i) none))
        | inr some ↦ rw some.1 refl
      ]

  -- a state that doesn't rest gives way to what it goes on to
  pub first_then-moves : IsStable g later → is_resting (state_at states q) ≡ false → (further : Passed → Option A)
      → further (and_at (at q i) passed) ≡ option_or (looked passed) (later (and_at (at q i) passed))
      → first_then (at_rest states at_place) (items ++ q ∷ []) i further ≡ first_then (at_rest states at_place) items i (λ p. option_or (looked p) (later p))
  first_then-moves stable moves further goes =
      (λ k. option_or (kept k) (further (passed_at-push items i q k)))
      ∙ ap (option_or front) (goes ∙ below stable)
    where
      kept : first_told (at_rest states at_place) (items ++ q ∷ []) ≡ front
      kept = first_told-push (at_rest states at_place) items q ∙ rw moves (or-none_right front)

  -- a state that rests comes onto the list
  pub first_then-rests : IsStable g later → is_resting (state_at states q) ≡ true → (at_place' : ℕ → Option A)
      → ((x : ℕ) → has items x ≡ true → at_place' x ≡ at_place x) → at_place' q ≡ looked passed
      → first_then (at_rest states at_place') (items ++ q ∷ []) i later ≡ first_then (at_rest states at_place) items i (λ p. option_or (looked p) (later p))
  first_then-rests stable rests at_place' alike here =
      (λ k. option_or (pushed k) (later (passed_at-push items i q k)))
      ∙ or-assoc front (looked passed) (later (and_at (at q i) passed))
      ∙ ap (option_or front) (below stable)
    where
      pushed : first_told (at_rest states at_place') (items ++ q ∷ []) ≡ option_or front (looked passed)
      pushed =
          let last : at_rest states at_place' q ≡ looked passed = rw rests here in
          let before : first_told (at_rest states at_place') items ≡ front =
          first_told-alike (at_rest states at_place') (at_rest states at_place) items
          (λ x h. ap (λ o. if is_resting (state_at states x) then o else None) (alike x h)) in
          first_told-push (at_rest states at_place') items q ∙ (λ k. option_or (before k) (last k))
