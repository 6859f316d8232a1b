-- What cannot be reached from a configuration doesn't matter to its first run.
use Rattle.std.proofs.Common.{◌≡◌, ℕ, refl, sym, ap, subst}
use Rattle.std.specs.Prelude.{option_map}
use Rattle.rx_model.specs.Runs.{Configuration, PriorityGraph, Passed, and_at, same, IsClosed, trace, found}
use Rattle.rx_model.proofs.lemmas.runs.RunLemmas.{by_test, same-true, past-alike}

module _ (g : PriorityGraph) (Set : ℕ → Type 0) (closed : IsClosed g Set) where
  -- only what was passed in the states of a closed set matters
  pub found-reach : (p q : Passed) (c : Configuration) → Set c.state → ((d : Configuration) → Set d.state → p d ≡ q d) → found g p c ≡ found g q c
  found-reach p q c in_set alike = ap (option_map (trace g c)) (past-alike g (λ d. Set d.state) closed p q c in_set alike)

  -- a configuration with a state outside may count as passed
  pub found-outside : (u : Configuration) → (Set u.state → ⊥) → (p : Passed) (c : Configuration) → Set c.state → found g (and_at u p) c ≡ found g p c
  found-outside u out p c in_set = found-reach (and_at u p) p c in_set (λ d in_set'. apart d in_set')
    where
      apart : (d : Configuration) → Set d.state → and_at u p d ≡ p d
      apart d in_set' =
          by_test (same u d)
          (λ e. absurd (out (subst (λ (x : Configuration). Set x.state) (sym (same-true u d e)) in_set')))
          (λ e. rw e refl)
