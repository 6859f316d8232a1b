use Rattle.std.proofs.Common.{◌∙◌, ap, sym, List}
use Rattle.rx_reader.specs.Syntax.{Syntax}
use Rattle.rx_reader.proofs.lemmas.tokens.FlagsLemmas.{flags-same}
use Rattle.rx_reader.proofs.lemmas.branches.ItemLemmas.{with_run-none}
use Rattle.rx_reader.proofs.level.Level.begin_run.Goals as goal

pub returns-clause-same : goal.returns-clause-same
returns-clause-same c =
    let s = c.end_run.new.self in
    ap (λ (items : List Syntax). record { branches = s.branches.items; items = items })
    (with_run-none s.items.items c.args.flags s.flags s.run.items c.in_ok-end_run.ensures.ended)
    ∙ c.in_ok-end_run.ensures.same

pub returns-then-eq-clause-flags : goal.returns-then-eq-clause-flags
returns-then-eq-clause-flags c = flags-same c.args.self.now.flags c.args.flags (sym c.eq.ensures ∙ c.if-eq.true)
