use Rattle.std.proofs.Common.{ℕ, ◌<◌, length, sym, subst, arith}
use Rattle.std.proofs.lemmas.List.{length-map, get_or_read}
use Rattle.std.proofs.lemmas.Option.{slice_get_within}
use Rattle.rx_dfa.specs.StateKey.{key_of}
use Rattle.rx_dfa.specs.Found.{keys_in, IsNumber}
use Rattle.rx_dfa.specs.Spread.{arrived_key}
use Rattle.rx_dfa.proofs.dense.known.Known.state_of.Goals as goal

pub returns-clause-some : goal.returns-clause-some
returns-clause-some c d f are =
    let s = c.args.self.now in
    let lt = slice_get_within (keys_in s.keys.keys) c.in-Some.row (key_of c.args.reached.now) c.in-Some.ensures.some in
    let mapped = length-map s.keys.keys key_of in
    let same = s.same in
    let inside : c.in-Some.row < length s.states.items = omega arith in
    subst (λ (n : ℕ). IsNumber f n (arrived_key d.kind d.nfa.states d.nfa.start_anchored (key_of c.args.reached.now)))
    (sym (get_or_read s.states.items c.in-Some.row c.index.result.now inside c.index.ensures 0))
    (are.each c.in-Some.row (key_of c.args.reached.now) c.in-Some.ensures.some)
