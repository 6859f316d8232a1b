use Rattle.std.proofs.Common.{[], sym, subst}
use Rattle.rx_scan.proofs.HaystackLemmas.{outcomes-put}
use Rattle.rx_scan.proofs.haystacks.WorksTask.put.Goals as goal

pub returns : goal.returns
returns g c =
    let holds = g.O.Outcome.holds c.args.self.now.outcome.now in
    let has = c.requires.answers in
    let hs = g.H.Haystacks.texts c.args.self.now.haystacks.now in
    outcomes-put (g.O.Outcome.are c.args.self.now.outcome.now) c.args.self.now.regex.now hs holds c.args._index c.args._count _ _
    c.args.value c.requires.before has c.put.result
    (c.put.ensures c.requires.before.all has.0 c.requires.before.are (subst (λ k. holds k has.0 [] c.args.value) (sym c.requires.before.count) has.1))
