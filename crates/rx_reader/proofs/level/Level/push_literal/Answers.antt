use Rattle.std.proofs.Common.{◌∙◌, ap, List}
use Rattle.rx_reader.specs.Syntax.{Syntax, literal}
use Rattle.rx_reader.specs.declared.flags.Flags.{Flags}
use Rattle.rx_reader.specs.Gathered.{Gathered, gathered, push_item}
use Rattle.rx_reader.proofs.lemmas.branches.ItemLemmas.{with_run-character}
use Rattle.rx_reader.proofs.level.Level.push_literal.Goals as goal

pub returns : goal.returns
returns c =
    let s = c.begin_run.new.self in
    ap (λ (items : List Syntax). record { branches = s.branches.items; items = items })
    (with_run-character s.items.items s.flags s.run.items c.push.new.self.items c.args.character c.in_ok-push.ensures.items)
    ∙ ap (λ (flags : Flags). push_item (gathered s) (literal flags c.args.character)) c.in_ok-begin_run.ensures.flags
    ∙ ap (λ (g : Gathered). push_item g (literal c.args.flags c.args.character)) c.in_ok-begin_run.ensures.same
