use Rattle.std.proofs.Common.{◌≡◌, ap, refl, List, []}
use Rattle.rx_reader.specs.Syntax.{Syntax}
use Rattle.rx_reader.proofs.lemmas.branches.ItemLemmas.{with_run-ended}
use Rattle.rx_reader.proofs.level.Level.end_run.Goals as goal

pub returns-clause-same : goal.returns-clause-same
returns-clause-same c =
    let s = c.args.self.now in
    let empty : c.replace-run.new.dest.items ≡ [] = cc in
    let same : c.replace-run.result.items ≡ s.run.items = cc in
    ap (λ (items : List Syntax). record { branches = s.branches.items; items = items })
    (with_run-ended s.items.items c.push.new.self.items _ s.flags s.run.items c.replace-run.result.items _ c.in_ok-push.ensures.items empty refl same)
