use Rattle.std.proofs.Common.{◌≡◌, ap, ◌∙◌, subst}
use Rattle.std.specs.Prelude.{false, Option, Some, Result}
use Rattle.rx_search.specs.Matches.{MatchValue}
use Rattle.rx_memory.specs.declared.memory.Memory.{Memory}
use Rattle.rx_meta.specs.Iterators.{IsOfSearch}
use Rattle.rx_meta.proofs.CountLemmas.{IsStep, count-begun, count-more, count-over}
use Rattle.rx_meta.proofs.find_matches.FindMatches.count_rest.Goals as goal

pub loop-item-init : goal.loop-item-init
loop-item-init c = count-begun c.args.self.now

pub loop-item-preserved : goal.loop-item-preserved
loop-item-preserved c =
    let e = c.next.ensures in
    let step : IsStep c.loop-item.self c.next.new.self c.next.result = record {
      gives = e.gives;
      goes_on = e.goes_on;
      within = e.within;
      any = e.any;
      moved = e.moved;
      ended = e.ended;
      none = e.none;
      fewer_left = e.fewer_left;
      regex = e.regex;
    } in
    count-more c.args.self.now c.loop-item.self c.next.new.self c.loop-item.count c.in_ok-_found._found c.loop-item.invariant
    (subst (IsStep c.loop-item.self c.next.new.self) (c.in-Some.is ∙ ap Some c.in_ok-_found.was) step)

pub returns-clause-any : goal.returns-clause-any
returns-clause-any c =
    count-over c.args.self.now c.loop-item.self c.loop-item.count c.loop-item.invariant
    (subst (λ (result : Option (Result MatchValue Memory)). c.loop-item.self.ended ≡ false → IsOfSearch c.loop-item.self result) c.in_default.is
    c.next.ensures.any)
