-- Tests of the parts of an expression that a loop goes over: what the part at a place adds to those after it.
use Rattle.std.proofs.Common.{◌≡◌, ℕ, ◌+◌, ◌<◌, ◌≤◌, true, false, ◌||◌, ◌&&◌, List, length, drop, get_or, ap, ◌∙◌}
use Rattle.rx_model.specs.Text.{Class}
use Rattle.rx_model.specs.Expression.{Expression}
use Rattle.rx_hir.specs.Normal.{expressions}
use Rattle.rx_hir.proofs.JoinedLemmas.{expressions-drop, drop-past}
use Rattle.rx_order.specs.Tests.{can_consume, one_can_consume, is_apart, all_apart}

module _ (hs : List Expression) (i : ℕ) where
  pub one-yes : (b : ℕ) (h : Expression) → i < length hs → h ≡ get_or hs i h → can_consume b h ≡ true
      → one_can_consume b (expressions (drop i hs)) ≡ true
  unfolding can_consume
  one-yes b h lt is e = ap (one_can_consume b) (expressions-drop hs i h lt is) ∙ ap (λ c. c || one_can_consume b (expressions (drop (i + 1) hs))) e

  pub one-no : (b : ℕ) (h : Expression) → i < length hs → h ≡ get_or hs i h → can_consume b h ≡ false
      → one_can_consume b (expressions (drop i hs)) ≡ one_can_consume b (expressions (drop (i + 1) hs))
  unfolding can_consume
  one-no b h lt is e = ap (one_can_consume b) (expressions-drop hs i h lt is) ∙ ap (λ c. c || one_can_consume b (expressions (drop (i + 1) hs))) e

  pub one-past : (b : ℕ) → length hs ≤ i → one_can_consume b (expressions (drop i hs)) ≡ false
  unfolding can_consume
  one-past b le = ap (λ ys. one_can_consume b (expressions ys)) (drop-past hs i le)

  pub apart-no : (k : Class) (h : Expression) → i < length hs → h ≡ get_or hs i h → is_apart k h ≡ false
      → all_apart k (expressions (drop i hs)) ≡ false
  unfolding is_apart
  apart-no k h lt is e = ap (all_apart k) (expressions-drop hs i h lt is) ∙ ap (λ c. c && all_apart k (expressions (drop (i + 1) hs))) e

  pub apart-yes : (k : Class) (h : Expression) → i < length hs → h ≡ get_or hs i h → is_apart k h ≡ true
      → all_apart k (expressions (drop i hs)) ≡ all_apart k (expressions (drop (i + 1) hs))
  unfolding is_apart
  apart-yes k h lt is e = ap (all_apart k) (expressions-drop hs i h lt is) ∙ ap (λ c. c && all_apart k (expressions (drop (i + 1) hs))) e

  pub apart-past : (k : Class) → length hs ≤ i → all_apart k (expressions (drop i hs)) ≡ true
  unfolding is_apart
  apart-past k le = ap (λ ys. all_apart k (expressions ys)) (drop-past hs i le)
