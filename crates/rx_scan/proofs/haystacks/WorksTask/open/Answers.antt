use Rattle.rx_scan.proofs.HaystackLemmas.{outcome-none}
use Rattle.rx_scan.proofs.OutcomeLemmas.{if-ok}
use Rattle.rx_scan.proofs.haystacks.WorksTask.open.Goals as goal

pub returns : goal.returns
returns g c =
    let regex = c.args.self.now.regex.now in
    let hs = g.H.Haystacks.texts c.args.self.now.haystacks.now in
    if-ok c.open.result (λ value opened i. outcome-none regex hs (g.O.Outcome.holds c.args.self.now.outcome.now) i value (opened i)) c.open.ensures
