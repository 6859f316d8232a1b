-- Sums and products that are capped at each step are those that are capped at the end.
use Rattle.std.proofs.Common.{◌≡◌, ℕ, zero, suc, ◌+◌, ◌-◌, ◌*◌, ◌^◌, ◌<◌, ◌≤◌, ◌≢◌, List, length, get_or, drop, Option, Some, None, refl, ap, sym, ◌∙◌, arith, inl, inr}
use Rattle.std.specs.Prelude.{min}
use Rattle.std.proofs.lemmas.Bool.{cases_lt}
use Rattle.std.proofs.lemmas.List.{at_drop_more}
use Rattle.rx_model.specs.Expression.{Expression}
use Rattle.rx_hir.specs.Cost.{states_of_range, states_of_ranges, states_of_copies, accounted_states, accounted_in, capped}
use Rattle.rx_hir.specs.Normal.{expressions}
use Rattle.rx_hir.proofs.JoinedLemmas.{expressions-drop, drop-past}

-- the body is at the cap: one copy is enough
product-capped-great : (c k n r : ℕ) → c < n → min (k * min n c + r) c ≡ min (k * n + r) c
product-capped-great c zero n r lt = omega arith
product-capped-great c (suc k) n r lt = let e : min n c ≡ c = omega arith in rw e (omega arith)

product-capped : (c k n r : ℕ) → min (k * min n c + r) c ≡ min (k * n + r) c
product-capped c k n r = elim (cases_lt c n) [
  | inl lt ↦ product-capped-great c k n r lt
  | inr le ↦ let e : min n c ≡ n = omega arith in rw e
]

some-copies : (greatest options n : ℕ) → capped (greatest * capped n + options + 1) ≡ capped (greatest * n + options + 1)
some-copies greatest options n =
    let e : greatest * capped n + options + 1 ≡ greatest * capped n + (options + 1) = omega arith in
    let f : greatest * n + options + 1 ≡ greatest * n + (options + 1) = omega arith in
    ap capped e ∙ product-capped (2 ^ 64 - 1) greatest n (options + 1) ∙ ap capped (sym f)

pub capped-copies : (least : ℕ) (greatest : Option ℕ) (n : ℕ) → capped (states_of_copies least greatest (capped n)) ≡ capped (states_of_copies least greatest n)
capped-copies zero None n = omega arith
capped-copies (suc least) None n = product-capped (2 ^ 64 - 1) (suc least) n 1
capped-copies zero (Some greatest) n = some-copies greatest (greatest - 0) n
capped-copies (suc least) (Some greatest) n = some-copies greatest (greatest - suc least) n

pub copies-from : (least n : ℕ) → least ≢ 0 → states_of_copies least None n ≡ least * n + 1
copies-from zero n h = absurd (h refl)
copies-from (suc least) n h = refl

pub capped-product : (k n : ℕ) → capped (k * capped n) ≡ capped (k * n)
capped-product k n =
    let e : k * capped n ≡ k * capped n + 0 = omega arith in
    let f : k * n ≡ k * n + 0 = omega arith in
    ap capped e ∙ product-capped (2 ^ 64 - 1) k n 0 ∙ ap capped (sym f)

pub accounted_in-drop : (hs : List Expression) (i : ℕ) (h : Expression) → i < length hs → h ≡ get_or hs i h
    → accounted_in (expressions (drop i hs)) ≡ accounted_states h + accounted_in (expressions (drop (i + 1) hs))
accounted_in-drop hs i h lt at = ap accounted_in (expressions-drop hs i h lt at)

pub accounted_in-past : (hs : List Expression) (i : ℕ) → length hs ≤ i → accounted_in (expressions (drop i hs)) ≡ 0
accounted_in-past hs i le = ap (λ ys. accounted_in (expressions ys)) (drop-past hs i le)

pub states_of_ranges-drop : (rs : List (ℕ × ℕ)) (i : ℕ) (d : ℕ × ℕ) → i < length rs
    → states_of_ranges (drop i rs) ≡ states_of_range (get_or rs i d) + states_of_ranges (drop (i + 1) rs)
states_of_ranges-drop rs i d lt = at_drop_more states_of_ranges rs i d lt

pub states_of_ranges-past : (rs : List (ℕ × ℕ)) (i : ℕ) → length rs ≤ i → states_of_ranges (drop i rs) ≡ 0
states_of_ranges-past rs i le = ap states_of_ranges (drop-past rs i le)
