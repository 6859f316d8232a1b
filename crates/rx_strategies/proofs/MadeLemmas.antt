-- Which strategy is made.
use Rattle.std.proofs.Common.{◌≡◌, ℕ, List, refl, sym, ap, ◌∙◌, subst, true, false}
use Rattle.std.specs.Prelude.{Bool, Some, None, ◌&&◌}
use Rattle.rx_model.specs.Expression.{Expression, alternation}
use Rattle.rx_search.specs.PatternGroups.{pattern_groups}
use Rattle.rx_search.specs.Told.{tells}
use Rattle.rx_search.specs.declared.anchored.MatchKind.{MatchKind}
use Rattle.rx_search.specs.declared.anchored.MatchKind.TheVariants.{All}
use Rattle.rx_hir.specs.Normal.{expressions}
use Rattle.rx_hir.specs.PropertiesViews.{AreOf}
use Rattle.rx_pre.specs.Pre.{PreValue}
use Rattle.rx_pre.specs.Whole.{AreWholeOf}
use Rattle.rx_strategy.specs.Config.{kind_of, captures_of, backtrack_of, is_leftmost}
use Rattle.rx_strategy.specs.Strategy as core
use Rattle.rx_strategy.specs.declared.config.Config.{Config}
use Rattle.rx_strategy.specs.declared.strategy.Strategy.{Strategy as CoreStrategy}
use Rattle.rx_strategy.specs.declared.strategy.Strategy.TheVariants.{Core as TheCore}
use Rattle.rx_strategies.specs.Attempts.{SuffixValue, InnerValue, IsSuffixOf, IsInnerOf, HasNoInner}
use Rattle.rx_strategies.specs.Choice.{literals_for, is_from_end, suffix_for, inner_for}
use Rattle.rx_strategies.specs.Strategy.{IsMadeOf, IsPlainOf, IsForwardsOf, IsEndlessOf, IsPreOf, backtracks}
use Rattle.rx_strategies.specs.declared.strategy.Strategy.{Strategy}
use Rattle.rx_strategies.specs.declared.strategy.Strategy.TheVariants.{Pre, Core, ReverseAnchored, ReverseSuffix, ReverseInner}

module _ (config : Config) (hs : List Expression) where
  pub made-properties : (c : CoreStrategy) → core.IsMadeOf config hs c → AreOf (alternation (expressions hs)) (core.properties_of c)
  made-properties (TheCore c) made = made.properties

  pub made-tells : (c : CoreStrategy) → core.IsMadeOf config hs c → core.tells_in c ≡ tells (captures_of config)
  made-tells (TheCore c) made = ap tells made.which_captures

  pub made-groups : (c : CoreStrategy) → core.IsMadeOf config hs c → core.groups_in c ≡ pattern_groups hs
  made-groups (TheCore c) made = made.compiled.groups

  -- the search for literals that is made of a core
  pub pre-made : (c : CoreStrategy) → core.IsMadeOf config hs c → (needles : List (List ℕ)) → literals_for config hs ≡ Some needles → AreWholeOf needles hs
      → (p : PreValue)
      → p ≡ record { needles = needles; tells = core.tells_in c; properties = core.properties_of c; groups = core.groups_in c } → IsPreOf config hs p
  pre-made c made needles literals whole p is =
      subst (IsPreOf config hs) (sym is) (record {
        literals = literals;
        whole = whole;
        tells = made-tells c made;
        properties = made-properties c made;
        groups = made-groups c made;
      })

  -- a search from the end over a core that is made so
  pub end-made : (c a : CoreStrategy) → (a ≡ c) × ((h : Expression) → AreOf h (core.properties_of c) → is_from_end c h ≡ true) → IsPlainOf config hs c
      → IsMadeOf config hs (ReverseAnchored a)
  end-made c a is plain =
      subst (λ (k : CoreStrategy). IsMadeOf config hs (ReverseAnchored k)) (sym is.0)
      (plain, is.1 (alternation (expressions hs)) (made-properties c plain.core))

  -- and where it is none
  pub forwards-made : (c a : CoreStrategy) → (a ≡ c) × ((h : Expression) → AreOf h (core.properties_of c) → is_from_end c h ≡ false)
      → IsPlainOf config hs c → IsForwardsOf config hs a
  forwards-made c a is plain =
      subst (IsForwardsOf config hs) (sym is.0)
      (record { plain = plain; not_from_end = is.1 (alternation (expressions hs)) (made-properties c plain.core) })

  -- a search by the literal that ends each match, and where it is none
  pub suffix-made : (c : CoreStrategy) (s : SuffixValue) → IsSuffixOf config hs c s → IsForwardsOf config hs c → IsMadeOf config hs (ReverseSuffix s)
  suffix-made c s is forwards =
      subst (λ (k : CoreStrategy). IsForwardsOf config hs k × IsSuffixOf config hs k s) (sym is.core_is) (forwards, is)

  pub endless-made : (c a : CoreStrategy) → (a ≡ c) × (suffix_for config c hs ≡ None) → IsForwardsOf config hs c → IsEndlessOf config hs a
  endless-made c a is forwards = subst (IsEndlessOf config hs) (sym is.0) (record { forwards = forwards; no_suffix = is.1 })

  -- a search by literals within each match, and where it is none
  pub inner-made : (c : CoreStrategy) (i : InnerValue) → IsInnerOf config hs c i → IsEndlessOf config hs c → IsMadeOf config hs (ReverseInner i)
  inner-made c i is endless =
      subst (λ (k : CoreStrategy). IsEndlessOf config hs k × IsInnerOf config hs k i) (sym is.core_is) (endless, is)

  pub core-made : (c a : CoreStrategy) → (a ≡ c) × HasNoInner config (inner_for config c hs) → IsEndlessOf config hs c → IsMadeOf config hs (Core a)
  core-made c a is endless =
      subst (λ (k : CoreStrategy). IsMadeOf config hs (Core k)) (sym is.0) (endless, is.1)

  no-backtracker : (kind : MatchKind) (b : Bool) → kind ≡ All → (b && is_leftmost kind) ≡ false
  no-backtracker kind b is = ap (λ (k : MatchKind). b && is_leftmost k) is ∙ and-no b
    where
      and-no : (b : Bool) → (b && false) ≡ false
      and-no true = refl
      and-no false = refl

  core-backtracks : (c : CoreStrategy) → core.IsMadeOf config hs c → kind_of config ≡ All → core.backtracks c ≡ false
  core-backtracks (TheCore c) made all = made.backtracks ∙ no-backtracker (kind_of config) (backtrack_of config) all

  -- under `All` there is no backtracker
  pub made-backtracks : (s : Strategy) → IsMadeOf config hs s → kind_of config ≡ All → backtracks s ≡ false
  made-backtracks (Pre p) made all = refl
  made-backtracks (Core c) made all = core-backtracks c made.0.forwards.plain.core all
  made-backtracks (ReverseAnchored c) made all = core-backtracks c made.0.core all
  made-backtracks (ReverseSuffix s) made all = core-backtracks s.core made.0.plain.core all
  made-backtracks (ReverseInner i) made all = core-backtracks i.core made.0.forwards.plain.core all
