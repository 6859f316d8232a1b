-- What is said of each strategy, case by case.
use Rattle.std.proofs.Common.{◌≡◌, ℕ, zero, suc, ◌≤◌, List, [], ◌∷◌, length, sym, ap, ◌∙◌, subst, true}
use Rattle.std.proofs.lemmas.Option.{none-some, same_Some}
use Rattle.std.specs.Prelude.{Some, None, slice_get}
use Rattle.rx_model.specs.Expression.{Expression, AreOrdered}
use Rattle.rx_model.specs.Search.{Patterns}
use Rattle.rx_search.specs.Input.{InputValue, next_in}
use Rattle.rx_search.specs.Promise.{Premises}
use Rattle.rx_search.specs.Told.{told_in}
use Rattle.rx_pre.specs.Pre.{PreValue, IsPreFor}
use Rattle.rx_pre.proofs.FoundLemmas as pre
use Rattle.rx_strategy.specs.Impossible.{is_impossible}
use Rattle.rx_strategy.proofs.ImpossibleLemmas.{no-next}
use Rattle.rx_strategy.proofs.StrategyLemmas as lower
use Rattle.rx_strategies.specs.Strategy.{IsFor, finds, prefilter_in}
use Rattle.rx_strategies.specs.declared.strategy.Strategy.{Strategy}
use Rattle.rx_strategies.specs.declared.strategy.Strategy.TheVariants.{Pre, Core, ReverseAnchored, ReverseSuffix, ReverseInner}

-- what a strategy finds is what its patterns tell
pub finds-told : (s : Strategy) (r : Patterns) (v : InputValue) → v.end ≤ length v.haystack → Premises (IsFor s r) (prefilter_in s) r v → finds s v ≡ told_in r v
finds-told (Pre p) r v within x = pre.finds-told p r v x.is_for within x.utf8
finds-told (Core c) r v within x = lower.finds-told c v within r x.is_for
finds-told (ReverseAnchored c) r v within x = lower.finds-told c v within r x.is_for
finds-told (ReverseSuffix s) r v within x = lower.finds-told s.core v within r x.is_for.0
finds-told (ReverseInner i) r v within x = lower.finds-told i.core v within r x.is_for.0

-- the only one of a list
only-one : (P : Expression → Type 0) (h : Expression) → P h → (p : ℕ) (g : Expression) → slice_get (h ∷ []) p ≡ Some g → P g
only-one P h given zero g e = subst P (same_Some h g e) given
only-one P h given (suc p) g e = absurd (none-some g e)

-- the counts of the only expression are in order
pub pre-ordered : (p : PreValue) (r : Patterns) → IsPreFor p r → (q : ℕ) (h : Expression) → slice_get r.expressions q ≡ Some h → AreOrdered h
pre-ordered p r of q h e =
    only-one AreOrdered of.expression of.whole.ordered q h (ap (λ (hs : List Expression). slice_get hs q) (sym of.one) ∙ e)

-- where it is known that there is no match, there is none
pub pre-none : (p : PreValue) (v : InputValue) → v.end ≤ length v.haystack → (r : Patterns) → IsPreFor p r → is_impossible r.expressions v ≡ true
    → next_in r v ≡ None
pre-none p v within r of known = no-next r v (pre-ordered p r of) within known
