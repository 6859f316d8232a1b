use Rattle.std.proofs.Common.{◌≡◌, ℕ, List, length, ap, subst}
use Rattle.std.specs.Prelude.{Option}
use Rattle.rx_model.specs.Search.{Match}
use Rattle.rx_search.specs.Captures.{CapturesValue}
use Rattle.rx_meta.specs.Captures.{emptied, AreTold}
use Rattle.rx_meta.specs.Regex.{RegexValue}
use Rattle.rx_meta.proofs.CapturingLemmas.{empty-captures, told-none}
use Rattle.rx_meta.proofs.ServeLemmas.{with_strategy, none-answers, none-slots}
use Rattle.rx_meta.proofs.regex.Regex.search_captures.Goals as goal

pub returns-then-is_impossible-clause-told : goal.returns-then-is_impossible-clause-told
returns-then-is_impossible-clause-told g c =
    let v = c.args.input.now in
    let none = c.is_impossible.ensures.none c.if-is_impossible.true in
    let empty : c.clear.new.self ≡ emptied c.clear.new.self =
    empty-captures c.clear.new.self (length c.args.captures.now.slots) (ap (λ (k : CapturesValue). k.pattern) c.clear.ensures)
    (ap (λ (k : CapturesValue). k.slots) c.clear.ensures) in
    subst (λ (regex : RegexValue). AreTold regex v c.clear.new.self) (with_strategy c.args.self.now c.strategy.ensures)
    (told-none _ v c.clear.new.self empty (λ (part : Match → ℕ). none-answers _ v none part)
    (λ (part : Match → ℕ) (slots : List (Option ℕ)). none-slots _ v none part slots))
