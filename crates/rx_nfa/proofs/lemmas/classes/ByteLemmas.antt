-- The transitions of a class of bytes, one for each range.
use Rattle.std.proofs.Common.{◌≡◌, ℕ, ◌+◌, ◌≤◌, ◌<◌, List, [], ◌∷◌, ◌++◌, refl, sym, ◌∙◌, ap, subst, inr, arith, length, get_or, take, map}
use Rattle.std.specs.Prelude.{Bool, true, false, Some, None, if◌then◌else◌, nat_le, ◌&&◌, ◌||◌}
use Rattle.std.proofs.lemmas.Option.{none-some, same_Some}
use Rattle.std.proofs.lemmas.List.{map-append}
use Rattle.rx_model.specs.Text.{is_member}
use Rattle.rx_nfa.specs.Automaton.{route}
use Rattle.rx_nfa.specs.Ranges.{RisesFrom, StaysBelow}
use Rattle.rx_nfa.specs.Row.{transition_to, Ascends, RoutesBelow}
use Rattle.rx_nfa.specs.Trie.{IsByteClass}
use Rattle.rx_nfa.specs.declared.state.Transition.{Transition}
use Rattle.rx_nfa.proofs.lemmas.classes.RowLemmas.{route-outside}
use Rattle.rx_nfa.proofs.lemmas.classes.RangesLemmas.{take-next}

module _ (next : ℕ) where
  pub transitions-ascend : (low : ℕ) (rs : List (ℕ × ℕ)) → low ≤ 256 → RisesFrom low rs → StaysBelow 255 rs → Ascends low 256 (map (transition_to next) rs)
  transitions-ascend low [] le rises below = le
  transitions-ascend low (r ∷ rs) le rises below =
      let last = below.0 in (rises.0, rises.1, transitions-ascend (r.1 + 1) rs (omega arith) rises.2 below.1)

  pub transitions-route : (rs : List (ℕ × ℕ)) (b : ℕ) → route (map (transition_to next) rs) b ≡ (if is_member rs b then Some next else None)
  transitions-route [] b = refl
  transitions-route (r ∷ rs) b = by_first (nat_le r.0 b && nat_le b r.1) (transitions-route rs b)
    where
      by_first : (t : Bool) → route (map (transition_to next) rs) b ≡ (if is_member rs b then Some next else None)
          → (if t then Some next else route (map (transition_to next) rs) b) ≡ (if t || is_member rs b then Some next else None)
      by_first true later = refl
      by_first false later = later

  pub transitions-below : (n : ℕ) (rs : List (ℕ × ℕ)) → next < n → RoutesBelow n (map (transition_to next) rs)
  unfolding RoutesBelow
  transitions-below n rs lt b q e = leads (is_member rs b) (sym (transitions-route rs b) ∙ e)
    where
      leads : (t : Bool) → (if t then Some next else None) ≡ Some q → q < n
      leads true h = let is = same_Some _ _ h in omega arith
      leads false h = absurd (none-some q h)

  -- one range more
  pub transitions-push : (k : ℕ) (rs : List (ℕ × ℕ)) (old new : List Transition) (t : Transition) → k < length rs → new ≡ old ++ t ∷ []
      → old ≡ map (transition_to next) (take k rs) → t ≡ transition_to next (get_or rs k (0, 0)) → new ≡ map (transition_to next) (take (k + 1) rs)
  transitions-push k rs old new t lt pushed before last =
      let more = ap (map (transition_to next)) (take-next k rs lt) in
      let split = map-append (transition_to next) (take k rs) (get_or rs k (0, 0) ∷ []) in
      rw (pushed, before, last) (sym (more ∙ split))

  pub IsByteClass-from : (A : ℕ → List Transition → Type 0) (rs : List (ℕ × ℕ)) (q : ℕ) → RisesFrom 0 rs → StaysBelow 255 rs → A q (map (transition_to next) rs)
      → IsByteClass A next rs q
  IsByteClass-from A rs q rises below reads = record {
    row = map (transition_to next) rs;
    reads = reads;
    each = λ b lt. transitions-route rs b;
    of_none = λ b past. route-outside 0 256 (map (transition_to next) rs) b (transitions-ascend 0 rs (omega arith) rises below) (inr past);
  }

pub StaysBelow-next : (high k : ℕ) (rs : List (ℕ × ℕ)) → k < length rs → StaysBelow high (take k rs) → (get_or rs k (0, 0)).1 ≤ high
    → StaysBelow high (take (k + 1) rs)
StaysBelow-next high k rs lt below last = subst (StaysBelow high) (sym (take-next k rs lt)) (pushed (take k rs) (get_or rs k (0, 0)) below last)
  where
    pushed : (xs : List (ℕ × ℕ)) (r : ℕ × ℕ) → StaysBelow high xs → r.1 ≤ high → StaysBelow high (xs ++ r ∷ [])
    pushed [] r h le = (le, tt)
    pushed (x ∷ xs) r h le = (h.0, pushed xs r h.1 le)
