-- Worked rows of where first runs end, part by part, by evaluation of the definitions.
use Rattle.std.proofs.Common.{◌≡◌, ℕ, [], ◌∷◌, Some, None, refl}
use Rattle.std.specs.Prelude.{true, false, Option, codes}
use Prim.Native.String.{String}
use Rattle.rx_model.specs.Text.{stands_at}
use Rattle.rx_model.specs.Expression.{Expression, repetition}
use Rattle.rx_model.specs.Onward.{onward, within}
use Rattle.rx_model.proofs.worked.RowWords.{text, turn, either, star, plus}

-- where the first run from 0 ends on four letters, in all of them
abbrev ends_at : Expression → String → Option ℕ
ends_at h s = onward 10 (codes s) 4 h (within 4) 0

abbrev counted : ℕ → Option ℕ → Expression
counted least most = repetition least most true (text "a")

abbrev lazy : ℕ → Option ℕ → Expression
lazy least most = repetition least most false (text "a")

-- `a*`, `a*?`, `a+`, `a+?`, `a{2,}`, `a{1,3}`, `a{1,3}?`, `a{0,2}`, and what comes after them: `a*ab`, `a*?b`, `(a|ab){2}`
counts :
    (ends_at (star (text "a")) "aaab" ≡ Some 3)
    × (ends_at (lazy 0 None) "aaab" ≡ Some 0)
    × (ends_at (plus (text "a")) "aaab" ≡ Some 3)
    × (ends_at (lazy 1 None) "aaab" ≡ Some 1)
    × (ends_at (counted 2 None) "aaab" ≡ Some 3)
    × (ends_at (counted 4 None) "aaab" ≡ None)
    × (ends_at (counted 1 (Some 3)) "aaaa" ≡ Some 3)
    × (ends_at (lazy 1 (Some 3)) "aaaa" ≡ Some 1)
    × (ends_at (counted 0 (Some 2)) "aaaa" ≡ Some 2)
    × (ends_at (turn (star (text "a") ∷ text "ab" ∷ [])) "aaab" ≡ Some 4)
    × (ends_at (turn (lazy 0 None ∷ text "b" ∷ [])) "aaab" ≡ Some 4)
    × (ends_at (repetition 2 (Some 2) true (either (text "a" ∷ text "ab" ∷ []))) "abaa" ≡ Some 3)
unfolding onward stands_at
counts = (refl, refl, refl, refl, refl, refl, refl, refl, refl, refl, refl, refl)
