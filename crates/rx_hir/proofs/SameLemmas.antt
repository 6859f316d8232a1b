-- The test whether two expressions are one, kind by kind and place by place.
use Rattle.std.proofs.Common.{◌≡◌, ◌≢◌, ℕ, ◌+◌, ◌<◌, ◌≤◌, Bool, true, false, ◌&&◌, List, [], ◌∷◌, length, get_or, drop, Vec, Global, Option, refl, arith}
use Rattle.rx_model.specs.Text.{Class as Members}
use Rattle.rx_model.specs.Look.{Look as Kind}
use Rattle.rx_model.specs.Expression.{Expression, Expressions, empty, literal, class, look, repetition, capture, concat, alternation}
use Rattle.rx_hir.specs.HirViews.{kind_view}
use Rattle.rx_hir.specs.Normal.{expressions}
use Rattle.rx_hir.specs.Same.{is_same, are_same}
use Rattle.rx_hir.proofs.JoinedLemmas.{expressions-drop, drop-past}
use Rattle.rx_class.specs.declared.class.Class.{Class as HirClass}
use Rattle.rx_search.specs.declared.look.Look.{Look as HirLook}
use Rattle.rx_hir.specs.declared.hir.Repetition.{Repetition}
use Rattle.rx_hir.specs.declared.hir.Capture.{Capture}
use Rattle.rx_hir.specs.declared.hir.HirKind.{HirKind}
use Rattle.rx_hir.specs.declared.hir.HirKind.TheVariants.{Empty, Literal, Class as Set, Look as Assertion, Repetition as Copies, Capture as Group, Concat, Alternation}
use Rattle.std.proofs.lemmas.Bool.{and_right}

pub other-empty : (kind : HirKind) → (kind ≡ Empty → ⊥) → is_same empty (kind_view kind) ≡ false
unfolding is_same
other-empty Empty other = absurd (other refl)
other-empty kind other = refl

pub other-literal : (a : List ℕ) (kind : HirKind) → ((bytes : Vec ℕ Global) → kind ≡ Literal bytes → ⊥) → is_same (literal a) (kind_view kind) ≡ false
unfolding is_same
other-literal a (Literal bytes) other = absurd (other bytes refl)
other-literal a kind other = refl

pub other-class : (a : Members) (kind : HirKind) → ((members : HirClass) → kind ≡ Set members → ⊥) → is_same (class a) (kind_view kind) ≡ false
unfolding is_same
other-class a (Set members) other = absurd (other members refl)
other-class a kind other = refl

pub other-look : (a : Kind) (kind : HirKind) → ((k : HirLook) → kind ≡ Assertion k → ⊥) → is_same (look a) (kind_view kind) ≡ false
unfolding is_same
other-look a (Assertion k) other = absurd (other k refl)
other-look a kind other = refl

pub other-repetition : (least : ℕ) (greatest : Option ℕ) (greedy : Bool) (sub : Expression) (kind : HirKind) → ((r : Repetition) → kind ≡ Copies r → ⊥)
    → is_same (repetition least greatest greedy sub) (kind_view kind) ≡ false
unfolding is_same
other-repetition least greatest greedy sub (Copies r) other = absurd (other r refl)
other-repetition least greatest greedy sub kind other = refl

pub other-capture : (group : ℕ) (name : Option (List ℕ)) (sub : Expression) (kind : HirKind) → ((g : Capture) → kind ≡ Group g → ⊥)
    → is_same (capture group name sub) (kind_view kind) ≡ false
unfolding is_same
other-capture group name sub (Group g) other = absurd (other g refl)
other-capture group name sub kind other = refl

pub other-concat : (subs : Expressions) (kind : HirKind) → ((hs : Vec Expression Global) → kind ≡ Concat hs → ⊥)
    → is_same (concat subs) (kind_view kind) ≡ false
unfolding is_same
other-concat subs (Concat hs) other = absurd (other hs refl)
other-concat subs kind other = refl

pub other-alternation : (subs : Expressions) (kind : HirKind) → ((hs : Vec Expression Global) → kind ≡ Alternation hs → ⊥)
    → is_same (alternation subs) (kind_view kind) ≡ false
unfolding is_same
other-alternation subs (Alternation hs) other = absurd (other hs refl)
other-alternation subs kind other = refl

pub and-no : (a b : Bool) → a ≡ false → (a && b) ≡ false
and-no a b e = rw e refl

-- lists of other lengths
pub long-apart : (gs hs : List Expression) → length gs ≢ length hs → are_same (expressions gs) (expressions hs) ≡ false
unfolding is_same
long-apart [] [] apart = absurd (apart refl)
long-apart [] (h ∷ hs) apart = refl
long-apart (g ∷ gs) [] apart = refl
long-apart (g ∷ gs) (h ∷ hs) apart = and_right (is_same g h) (are_same (expressions gs) (expressions hs)) (long-apart gs hs (λ e. apart (omega arith)))

pub sames-drop : (gs hs : List Expression) (i : ℕ) (g h : Expression) → i < length gs → i < length hs → g ≡ get_or gs i g → h ≡ get_or hs i h
    → are_same (expressions (drop i gs)) (expressions (drop i hs)) ≡ (is_same g h && are_same (expressions (drop (i + 1) gs)) (expressions (drop (i + 1) hs)))
unfolding is_same
sames-drop gs hs i g h lt below at there = λ k. are_same (expressions-drop gs i g lt at k) (expressions-drop hs i h below there k)

pub sames-past : (gs hs : List Expression) (i : ℕ) → length gs ≤ i → length hs ≤ i → are_same (expressions (drop i gs)) (expressions (drop i hs)) ≡ true
unfolding is_same
sames-past gs hs i le few = λ k. are_same (expressions (drop-past gs i le k)) (expressions (drop-past hs i few k))
