-- The properties of patterns together, from each place on.
use Rattle.std.proofs.Common.{◌≡◌, ℕ, ◌+◌, ◌<◌, ◌≤◌, List, [], ◌∷◌, length, get_or, drop, sym, ap, ◌∙◌, subst, arith}
use Rattle.std.proofs.lemmas.List.{at_drop_more}
use Rattle.rx_model.specs.Expression.{Expression, Expressions, alternation, nil, cons}
use Rattle.rx_hir.specs.Normal.{expressions}
use Rattle.rx_hir.specs.PropertiesViews.{AreOf, AreOfEach}
use Rattle.rx_hir.specs.declared.hir.properties.Properties.{Properties}
use Rattle.rx_hir.proofs.JoinedLemmas.{drop-past}

-- without patterns there are no expressions
pub union-none : (hs : List Expression) (ps : List Properties) (p : Properties) → length ps ≤ 0 → AreOf (alternation nil) p → AreOfEach hs ps
    → AreOf (alternation (expressions hs)) p
union-none [] ps p le none each = none
union-none (h ∷ hs) [] p le none each = absurd each
union-none (h ∷ hs) (q ∷ ps) p le none each = absurd (omega arith)

-- the last
last-of : (hs : List Expression) (q : Properties) (ps : List Properties) (p : Properties) → ps ≡ []
    → ((h : Expression) → AreOf h q → AreOf (alternation (cons h nil)) p)
    → AreOfEach hs (q ∷ ps) → AreOf (alternation (expressions hs)) p
last-of [] q ps p none alone each = absurd each
last-of (h ∷ []) q ps p none alone each = alone h each.0
last-of (h ∷ i ∷ hs) q [] p none alone each = absurd each.1
last-of (h ∷ i ∷ hs) q (r ∷ ps) p none alone each = absurd (cc)

pub union-last : (hs : List Expression) (ps : List Properties) (i : ℕ) (q p : Properties) → length ps ≡ i + 1 → q ≡ get_or ps i q
    → ((h : Expression) → AreOf h q → AreOf (alternation (cons h nil)) p)
    → AreOfEach hs (drop i ps) → AreOf (alternation (expressions hs)) p
union-last hs ps i q p long at alone each =
    let seen : drop i ps ≡ q ∷ drop (i + 1) ps = at_drop_more (λ (xs : List Properties). xs) ps i q (omega arith) ∙ ap (λ x. x ∷ drop (i + 1) ps) (sym at) in
    last-of hs q (drop (i + 1) ps) p (drop-past ps (i + 1) (omega arith)) alone (subst (AreOfEach hs) seen each)

-- one before others
one-of : (hs : List Expression) (q r : Properties) (ps : List Properties) (p u : Properties)
    → ((rest : List Expression) → AreOfEach rest (r ∷ ps) → AreOf (alternation (expressions rest)) u)
    → ((h next : Expression) (ks : Expressions) → AreOf h q → AreOf (alternation (cons next ks)) u → AreOf (alternation (cons h (cons next ks))) p)
    → AreOfEach hs (q ∷ r ∷ ps) → AreOf (alternation (expressions hs)) p
one-of [] q r ps p u later step each = absurd each
one-of (h ∷ []) q r ps p u later step each = absurd each.1
one-of (h ∷ i ∷ hs) q r ps p u later step each = step h i (expressions hs) each.0 (later (i ∷ hs) each.1)

pub union-more : (hs : List Expression) (ps : List Properties) (i : ℕ) (q p u : Properties) → i + 1 < length ps → q ≡ get_or ps i q
    → ((rest : List Expression) → AreOfEach rest (drop (i + 1) ps) → AreOf (alternation (expressions rest)) u)
    → ((h next : Expression) (ks : Expressions) → AreOf h q → AreOf (alternation (cons next ks)) u → AreOf (alternation (cons h (cons next ks))) p)
    → AreOfEach hs (drop i ps) → AreOf (alternation (expressions hs)) p
union-more hs ps i q p u lt at later step each =
    let seen : drop i ps ≡ q ∷ drop (i + 1) ps = at_drop_more (λ (xs : List Properties). xs) ps i q (omega arith) ∙ ap (λ x. x ∷ drop (i + 1) ps) (sym at) in
    let next : drop (i + 1) ps ≡ get_or ps (i + 1) q ∷ drop (i + 1 + 1) ps = at_drop_more (λ (xs : List Properties). xs) ps (i + 1) q lt in
    one-of hs q (get_or ps (i + 1) q) (drop (i + 1 + 1) ps) p u
    (λ rest are. later rest (subst (AreOfEach rest) (sym next) are)) step
    (subst (AreOfEach hs) (seen ∙ ap (λ xs. q ∷ xs) next) each)
