use Rattle.std.proofs.Common.{◌≡◌, sym, subst, length, arith}
use Rattle.std.proofs.lemmas.Grind.{common_steps}
use Rattle.rx_nfa.specs.Row.{AddsReaders, IsReader}
use Rattle.rx_nfa.specs.States.{AreClosed}
use Rattle.rx_nfa.proofs.lemmas.classes.RowLemmas.{AreClosed-reader, AddsReaders-push, IsReader-push}
use Rattle.rx_nfa.proofs.class.row.push_reader.Goals as goal

pub returns-clause-reads : goal.returns-clause-reads
returns-clause-reads c =
    let is : c.unwrap-id.result ≡ length c.args.states.now.items = grind (arith, common_steps) in
    subst (λ q. IsReader (length c.args.states.now.items) c.push.new.self.items q c.args.row.items) (sym is)
    (subst (λ states. IsReader (length c.args.states.now.items) states (length c.args.states.now.items) c.args.row.items) (sym c.in_ok-push.ensures.items)
    (IsReader-push c.args.states.now.items c.reader-state.result c.args.row.items c.reader-state.ensures c.requires.ascends))

pub returns-clause-grows : goal.returns-clause-grows
returns-clause-grows c =
    subst (AddsReaders c.args.states.now.items) (sym c.in_ok-push.ensures.items)
    (AddsReaders-push c.args.states.now.items c.reader-state.result c.args.row.items c.reader-state.ensures c.requires.ascends)

pub returns-clause-closed : goal.returns-clause-closed
returns-clause-closed c =
    λ below closed. subst AreClosed (sym c.in_ok-push.ensures.items)
    (AreClosed-reader c.args.states.now.items c.reader-state.result c.args.row.items c.reader-state.ensures c.requires.ascends below closed)
