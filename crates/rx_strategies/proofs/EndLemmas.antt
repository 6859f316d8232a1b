-- Where each match ends at the end of the haystack.
use Rattle.std.proofs.Common.{◌≡◌, ℕ, List, length, sym, ◌∙◌, true, arith}
use Rattle.std.proofs.lemmas.Bool.Decides.{nat_tests}
use Rattle.std.specs.Prelude.{◌==◌}
use Rattle.rx_model.specs.Expression.{Expression, alternation}
use Rattle.rx_model.specs.Look.{end_text, holds}
use Rattle.rx_model.specs.Search.{Patterns}
use Rattle.rx_search.specs.Input.{InputValue}
use Rattle.rx_hir.specs.Normal.{expressions}
use Rattle.rx_hir.specs.PropertiesViews.{AreOf}
use Rattle.rx_hir.proofs.LookLemmas.{last-holds}
use Rattle.rx_strategy.specs.Ending.{EndsWithSpan}
use Rattle.rx_strategy.specs.Strategy.{IsFor, properties_of}
use Rattle.rx_strategy.proofs.ImpossibleLemmas.{meant-among}
use Rattle.rx_strategy.specs.declared.strategy.Strategy.{Strategy}
use Rattle.rx_strategy.specs.declared.strategy.Strategy.TheVariants.{Core}
use Rattle.rx_strategies.specs.Choice.{EndsLast}

end-place : (t : ℕ) (text : List ℕ) (i : ℕ) → holds t text end_text i ≡ true → i ≡ length text
unfolding holds
end-place t text i e = let is : (i == length text) ≡ true = e in grind (arith, nat_tests)

-- the properties of a strategy's patterns
pub own-properties : (s : Strategy) (r : Patterns) → IsFor s r → AreOf (alternation (expressions r.expressions)) (properties_of s)
own-properties (Core c) r of = of.properties

-- where each match ends at the end of the haystack, each ends with a span that ends there
pub ends-with-span : (s : Strategy) → EndsLast s → (v : InputValue) → v.end ≡ length v.haystack → (r : Patterns) → IsFor s r → EndsWithSpan r v
ends-with-span s last v whole r of = record {
  ends = λ p h is i j low high means.
      let all : Expression = alternation (expressions r.expressions) in
      end-place r.terminator v.haystack j
      (last-holds r.terminator v.haystack end_text all (last.ends all (own-properties s r of)) i j
      (meant-among r.terminator v.haystack r.expressions p h is i j means))
      ∙ sym whole;
}
