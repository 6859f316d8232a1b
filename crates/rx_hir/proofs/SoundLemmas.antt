-- Expressions whose literals have bytes and whose counts are in order.
use Rattle.std.proofs.Common.{◌≡◌, ℕ, ◌+◌, ◌<◌, List, length, get_or, drop, sym, subst}
use Rattle.rx_model.specs.Expression.{Expression, Expressions, AreOrdered, AllOrdered, empty, literal, class, look, repetition, capture, concat, alternation, nil, cons}
use Rattle.rx_hir.specs.Normal.{expressions}
use Rattle.rx_hir.specs.Sound.{IsSound, AreSound}
use Rattle.rx_hir.proofs.JoinedLemmas.{expressions-drop}

-- one more, before the rest
pub AreSound-drop : (hs : List Expression) (i : ℕ) (h : Expression) → i < length hs → h ≡ get_or hs i h → IsSound h
    → AreSound (expressions (drop (i + 1) hs)) → AreSound (expressions (drop i hs))
AreSound-drop hs i h lt at first rest = subst AreSound (sym (expressions-drop hs i h lt at)) (first, rest)

mutual
  unfolding AreOrdered

  pub IsSound-ordered : (h : Expression) → IsSound h → AreOrdered h
  IsSound-ordered empty s = tt
  IsSound-ordered (literal bytes) s = tt
  IsSound-ordered (class members) s = tt
  IsSound-ordered (look kind) s = tt
  IsSound-ordered (repetition min max greedy sub) s = (s.0, IsSound-ordered sub s.1)
  IsSound-ordered (capture group name sub) s = IsSound-ordered sub s
  IsSound-ordered (concat subs) s = AreSound-ordered subs s
  IsSound-ordered (alternation subs) s = AreSound-ordered subs s

  AreSound-ordered : (subs : Expressions) → AreSound subs → AllOrdered subs
  AreSound-ordered nil s = tt
  AreSound-ordered (cons sub subs) s = (IsSound-ordered sub s.0, AreSound-ordered subs s.1)
