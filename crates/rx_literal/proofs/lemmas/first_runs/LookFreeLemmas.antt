-- Expressions without look-around have no kind of it.
use Rattle.std.proofs.Common.{◌≡◌, ℕ, zero, suc, ◌+◌, ◌<◌, ◌≤◌, false, List, [], ◌∷◌, length, drop, get_or, refl, sym, ◌∙◌, subst, arith, true≢false}
use Rattle.std.specs.Cmp.{unsigned_Decides}
use Rattle.std.proofs.lemmas.Bool.{or_parts}
use Rattle.rx_model.specs.Look.{Look, look_number}
use Rattle.rx_model.specs.Expression.{Expression, Expressions, empty, literal, class, look, repetition, capture, concat, alternation, nil, cons}
use Rattle.rx_hir.specs.Normal.{expressions}
use Rattle.rx_hir.specs.Properties.{has_look, has_look_among}
use Rattle.rx_hir.proofs.JoinedLemmas.{expressions-drop, drop-past}
use Rattle.rx_literal.specs.First.{IsLookFree, AreLookFree}

-- no kind of look-around stands in it
abbrev pub HasNone : Expression → Type 0
HasNone h = (k : Look) → has_look k h ≡ false

abbrev pub HaveNone : Expressions → Type 0
HaveNone hs = (k : Look) → has_look_among k hs ≡ false

mutual
  unfolding IsLookFree

  pub free-none : (h : Expression) → IsLookFree h → HasNone h
  free-none empty free k = refl
  free-none (literal bytes) free k = refl
  free-none (class members) free k = refl
  free-none (look kind) free k = absurd free
  free-none (repetition least most greedy sub) free k = free-none sub free k
  free-none (capture group name sub) free k = free-none sub free k
  free-none (concat subs) free k = frees-none subs free k
  free-none (alternation subs) free k = frees-none subs free k

  pub frees-none : (hs : Expressions) → AreLookFree hs → HaveNone hs
  frees-none nil free k = refl
  frees-none (cons h hs) free k = rw (free-none h free.0 k) (frees-none hs free.1 k)

each-none : (hs : List Expression) (i : ℕ) (d : Expression) → i < length hs → HaveNone (expressions hs) → HasNone (get_or hs i d)
each-none [] i d lt none k = absurd (omega arith)
each-none (h ∷ hs) zero d lt none k = (or_parts (has_look k h) (has_look_among k (expressions hs)) (none k)).0
each-none (h ∷ hs) (suc i) d lt none k =
    each-none hs i d (omega arith) (λ k. (or_parts (has_look k h) (has_look_among k (expressions hs)) (none k)).1) k

-- where the list has none, its member has none
pub none-at : (hs : List Expression) (i : ℕ) (h : Expression) → i < length hs → h ≡ get_or hs i h → HaveNone (expressions hs) → HasNone h
none-at hs i h lt at none = subst HasNone (sym at) (each-none hs i h lt none)

-- a look-around has one
pub look-some : (kind : Look) → HasNone (look kind) → ⊥
look-some kind none = true≢false (sym ((unsigned_Decides (look_number kind) (look_number kind)).1 refl) ∙ none kind)

-- a member in front of what is left of the list
pub free-on : (hs : List Expression) (i : ℕ) (h : Expression) → i < length hs → h ≡ get_or hs i h
    → IsLookFree h → AreLookFree (expressions (drop (i + 1) hs)) → AreLookFree (expressions (drop i hs))
unfolding IsLookFree
free-on hs i h lt at free rest = subst AreLookFree (sym (expressions-drop hs i h lt at)) (free, rest)

-- nothing is left
pub free-past : (hs : List Expression) (i : ℕ) → length hs ≤ i → AreLookFree (expressions (drop i hs))
unfolding IsLookFree
free-past hs i le = subst (λ ys. AreLookFree (expressions ys)) (sym (drop-past hs i le)) tt
