-- What is crossed in turn, from each part on.
use Rattle.std.proofs.Common.{◌≡◌, ℕ, zero, suc, ◌+◌, ◌-◌, ◌<◌, ◌≤◌, false, true, List, [], ◌∷◌, length, drop, get_or, refl, sym, ap, ◌∙◌, arith}
use Rattle.rx_model.specs.Expression.{Expression, Expressions, nil, cons}
use Rattle.rx_hir.specs.Normal.{expressions}
use Rattle.rx_hir.proofs.JoinedLemmas.{expressions-drop}
use Rattle.rx_literal.specs.Literals.{Seq, some_exact, cross, cross_on, cross_times, union}
use Rattle.rx_literal.specs.declared.side.Side.{Side}
use Rattle.rx_literal.specs.declared.side.Side.TheVariants.{Front as front, Back as back}
use Rattle.rx_literal.specs.Extract.{literals, in_turn, of_one}

pub cross_on-done : (side : Side) (ss ts : Seq) → some_exact ss ≡ false → cross_on side ss ts ≡ ss
unfolding cross_on
cross_on-done side ss ts e = rw e refl

pub cross_on-goes : (side : Side) (ss ts : Seq) → some_exact ss ≡ true → cross_on side ss ts ≡ cross side ss ts
unfolding cross_on
cross_on-goes side ss ts e = rw e refl

pub cross_times-done : (side : Side) (n : ℕ) (ss ts : Seq) → some_exact ss ≡ false → cross_times side n ss ts ≡ ss
cross_times-done side zero ss ts e = refl
cross_times-done side (suc n) ss ts e = ap (λ x. cross_times side n x ts) (cross_on-done side ss ts e) ∙ cross_times-done side n ss ts e

pub times-step : (side : Side) (n k : ℕ) (ss ts : Seq) → k < n → some_exact ss ≡ true
    → cross_times side (n - k) ss ts ≡ cross_times side (n - (k + 1)) (cross side ss ts) ts
times-step side n k ss ts lt e =
    let more : n - k ≡ suc (n - (k + 1)) = omega arith in
    rw more (ap (λ x. cross_times side (n - (k + 1)) x ts) (cross_on-goes side ss ts e))

pub times-end : (side : Side) (n k : ℕ) (ss ts : Seq) → n ≤ k → cross_times side (n - k) ss ts ≡ ss
times-end side n k ss ts le = let none : n - k ≡ 0 = omega arith in rw none refl

pub front-done : (ss : Seq) (hs : Expressions) → some_exact ss ≡ false → in_turn front ss hs ≡ ss
unfolding literals
front-done ss nil e = refl
front-done ss (cons h hs) e = ap (λ x. in_turn front x hs) (cross_on-done front ss (literals front h) e) ∙ front-done ss hs e

pub front-step : (ss : Seq) (hs : List Expression) (i : ℕ) (h : Expression) → i < length hs → h ≡ get_or hs i h → some_exact ss ≡ true
    → in_turn front ss (expressions (drop i hs)) ≡ in_turn front (cross front ss (literals front h)) (expressions (drop (i + 1) hs))
unfolding literals
front-step ss hs i h lt at e =
    ap (in_turn front ss) (expressions-drop hs i h lt at)
    ∙ ap (λ x. in_turn front x (expressions (drop (i + 1) hs))) (cross_on-goes front ss (literals front h) e)

pub back-step : (ss : Seq) (hs : List Expression) (i : ℕ) (h : Expression) → i < length hs → h ≡ get_or hs i h
    → some_exact (in_turn back ss (expressions (drop (i + 1) hs))) ≡ true
    → in_turn back ss (expressions (drop i hs)) ≡ cross back (in_turn back ss (expressions (drop (i + 1) hs))) (literals back h)
unfolding literals
back-step ss hs i h lt at e =
    ap (in_turn back ss) (expressions-drop hs i h lt at) ∙ cross_on-goes back (in_turn back ss (expressions (drop (i + 1) hs))) (literals back h) e

pub back-goes : (ss : Seq) (hs : List Expression) (i : ℕ) (h : Expression) (seq inner more : Seq) → 0 < i → i ≤ length hs → h ≡ get_or hs (i - 1) h
    → some_exact seq ≡ true
    → seq ≡ in_turn back ss (expressions (drop i hs)) → inner ≡ literals back h → more ≡ cross back seq inner
    → more ≡ in_turn back ss (expressions (drop (i - 1) hs))
back-goes ss hs i h seq inner more some within at exact so_far part is =
    let e : i ≡ i - 1 + 1 = omega arith in
    let before : seq ≡ in_turn back ss (expressions (drop (i - 1 + 1) hs)) = so_far ∙ ap (λ n. in_turn back ss (expressions (drop n hs))) e in
    is ∙ ap (cross back seq) part ∙ ap (λ x. cross back x (literals back h)) before
    ∙ sym (back-step ss hs (i - 1) h (omega arith) at (ap some_exact (sym before) ∙ exact))

-- what can't be extended is left as it is by the parts before it
pub back-done : (ss : Seq) (hs : List Expression) (i : ℕ) → some_exact (in_turn back ss (expressions (drop i hs))) ≡ false
    → in_turn back ss (expressions hs) ≡ in_turn back ss (expressions (drop i hs))
unfolding literals
back-done ss hs zero e = refl
back-done ss [] (suc i) e = refl
back-done ss (h ∷ hs) (suc i) e =
    let rest = in_turn back ss (expressions (drop i hs)) in
    ap (λ x. cross_on back x (literals back h)) (back-done ss hs i e) ∙ cross_on-done back rest (literals back h) e

pub one-step : (side : Side) (hs : List Expression) (i : ℕ) (h : Expression) → i < length hs → h ≡ get_or hs i h
    → of_one side (expressions (drop i hs)) ≡ union (literals side h) (of_one side (expressions (drop (i + 1) hs)))
unfolding literals
one-step side hs i h lt at = ap (of_one side) (expressions-drop hs i h lt at)
