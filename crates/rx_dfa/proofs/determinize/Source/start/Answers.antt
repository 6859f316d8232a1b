use Rattle.std.proofs.Common.{◌≡◌, [], ◌∙◌, ap}
use Rattle.rx_determinize.specs.Key.{Key, settled, start_key}
use Rattle.rx_dfa.proofs.determinize.Source.start.Goals as goal

pub returns-clause-key : goal.returns-clause-key
unfolding start_key
returns-clause-key c =
    let s = c.args.self.now in
    let threads = c.in_ok-arrived.ensures.arrived in
    let matches : c.clear.new.key.matches.items ≡ [] = ap (λ (k : Key). k.matches) c.clear.ensures in
    c.settle.ensures.settled ∙ (λ j. settled s.kind s.states.now (threads j) c.args.loops (matches j) c.args.before)
