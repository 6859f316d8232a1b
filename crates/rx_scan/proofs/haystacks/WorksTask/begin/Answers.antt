use Rattle.rx_scan.proofs.HaystackLemmas.{outcomes-none}
use Rattle.rx_scan.proofs.haystacks.WorksTask.begin.Goals as goal

pub returns : goal.returns
returns g c =
    let works = c.args.self.now in
    outcomes-none (g.O.Outcome.are works.outcome.now) works.regex.now (g.H.Haystacks.texts works.haystacks.now) _ c.nothing.ensures
