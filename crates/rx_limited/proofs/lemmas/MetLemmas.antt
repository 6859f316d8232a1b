-- The last match that was met, of all that a search of rx_dfa keeps.
use Rattle.std.proofs.Common.{◌≡◌, ℕ, ◌≤◌, List, [], ◌∷◌, refl, sym, ◌∙◌, subst, arith}
use Rattle.std.specs.Prelude.{Bool, true, false, Option, Some, None, IfSome}
use Rattle.rx_search.specs.Matches.{HalfMatchValue}
use Rattle.rx_determinize.specs.Permitted.{Progress, recorded, met_within}
use Rattle.rx_limited.specs.Parts.{best_recorded, best_within}

best-here : (b : Bool) (p place : ℕ) (r : Progress) → (recorded b p place r).best ≡ best_recorded b p place r.best
best-here true p place r = refl
best-here false p place r = refl

pub best-met : (may : ℕ → Bool) (ms : List ℕ) (place : ℕ) (r : Progress) → (met_within may ms place r).best ≡ best_within may ms place r.best
best-met may [] place r = refl
best-met may (p ∷ ps) place r = best-here (may place) p place r

-- with what is kept beside it
abbrev pub beside : (may : ℕ → Bool) (ms : List ℕ) (place : ℕ) (best : Option HalfMatchValue) (refused : Option ℕ) → Option ℕ
beside may ms place best refused = (met_within may ms place (record { best = best; refused = refused })).refused

pub met-is : (may : ℕ → Bool) (ms : List ℕ) (place : ℕ) (best best' : Option HalfMatchValue) (refused : Option ℕ)
    → best' ≡ best_within may ms place best
    → record { best = best'; refused = beside may ms place best refused } ≡ met_within may ms place (record { best = best; refused = refused })
met-is may ms place best best' refused is = λ j. record {
  best = (is ∙ sym (best-met may ms place (record { best = best; refused = refused }))) j;
  refused = beside may ms place best refused;
}

-- it lies at the place, or where it lay before
recorded-near : (b : Bool) (p place low : ℕ) (best : Option HalfMatchValue) → low ≤ place → IfSome best (λ h. low ≤ h.offset)
    → IfSome (best_recorded b p place best) (λ h. low ≤ h.offset)
recorded-near true p place low best le near = le
recorded-near false p place low best le near = near

pub best-near : (may : ℕ → Bool) (ms : List ℕ) (place low : ℕ) (best best' : Option HalfMatchValue) → low ≤ place → IfSome best (λ h. low ≤ h.offset)
    → best' ≡ best_within may ms place best → IfSome best' (λ h. low ≤ h.offset)
best-near may [] place low best best' le near is = subst (λ (o : Option HalfMatchValue). IfSome o (λ h. low ≤ h.offset)) (sym is) near
best-near may (p ∷ ps) place low best best' le near is =
    subst (λ (o : Option HalfMatchValue). IfSome o (λ h. low ≤ h.offset)) (sym is) (recorded-near (may place) p place low best le near)

pub nearer : (low lower : ℕ) → lower ≤ low → (best : Option HalfMatchValue) → IfSome best (λ h. low ≤ h.offset) → IfSome best (λ h. lower ≤ h.offset)
nearer low lower le None near = tt
nearer low lower le (Some h) near = omega arith
