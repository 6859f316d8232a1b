use Rattle.std.proofs.Common.{length, ap, subst, arith}
use Rattle.rx_onepass.specs.Dfa.{Dfa, IsSound}
use Rattle.rx_onepass.proofs.lemmas.SizeLemmas.{few-starts}
use Rattle.rx_onepass.proofs.dfa.DFA.start_len.Goals as goal

pub returns-clause-small : goal.returns-clause-small
returns-clause-small c =
    let sound : IsSound c.args.self.now = subst IsSound c.self.view_is c.self.invariant in
    let few = few-starts c.args.self.now sound in
    let same = ap (λ (x : Dfa). length x.starts) c.self.view_is in
    omega (arith, c.self.inside.built.starts.ok.0, c.len.ensures)
