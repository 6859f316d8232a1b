use Rattle.std.proofs.Common.{◌≤◌, ◌+◌, ◌*◌, ◌∙◌, sym, subst, length, arith}
use Rattle.std.proofs.lemmas.Result.{IfOk-from_err}
use Rattle.rx_model.specs.Text.{is_member}
use Rattle.rx_search.specs.Limits.{id_limit}
use Rattle.rx_nfa.specs.Row.{IsReader}
use Rattle.rx_nfa.specs.Trie.{IsRow, IsReady}
use Rattle.rx_nfa.specs.Ranges.{RisesFrom, StaysBelow, size_of_block, whole_depths, ends_in, clip}
use Rattle.rx_nfa.proofs.lemmas.classes.RowLemmas.{AddsReaders-trans}
use Rattle.rx_nfa.proofs.lemmas.classes.BlockLemmas.{IsReady-grows}
use Rattle.rx_nfa.proofs.lemmas.classes.ClassLemmas.{RisesFrom-clip, StaysBelow-clip, StaysBelow-more, parts_cost}
use Rattle.rx_nfa.proofs.class.add_band.Goals as goal

pub deepen-requires-clause-rises : goal.deepen-requires-clause-rises
deepen-requires-clause-rises c =
    let is = c.deref.ensures.value ∙ c.in_ok-parts.ensures in
    subst (RisesFrom 0) (sym is) (RisesFrom-clip c.args.band.low c.args.band.high c.requires.ordered.0 0 c.args.ranges.now c.requires.rises)

pub deepen-requires-clause-small : goal.deepen-requires-clause-small
deepen-requires-clause-small c =
    let is = c.deref.ensures.value ∙ c.in_ok-parts.ensures in
    subst (StaysBelow 0x10_FFFF) (sym is) (StaysBelow-more c.args.band.high 0x10_FFFF _ c.requires.ordered.1
    (StaysBelow-clip c.args.band.low c.args.band.high c.requires.ordered.0 c.args.ranges.now))

pub deepen-requires-clause-room : goal.deepen-requires-clause-room
deepen-requires-clause-room c =
    let is = c.deref.ensures.value ∙ c.in_ok-parts.ensures in
    let rises = RisesFrom-clip c.args.band.low c.args.band.high c.requires.ordered.0 0 c.args.ranges.now c.requires.rises in
    let cost = parts_cost c.args.band.children.depth 0 (clip c.args.band.low c.args.band.high c.args.ranges.now) c.args.band.children.start
    (c.args.band.children.start + c.args.band.children.len * size_of_block c.args.band.children.depth) c.requires.deep rises in
    let room = c.requires.room in
    subst (λ parts. length c.args.states.now.items + whole_depths c.args.band.children.depth parts ≤ id_limit) (sym is) (omega arith)

pub row-requires-clause-rises : goal.row-requires-clause-rises
row-requires-clause-rises c =
    let is = c.deref-2.ensures.value ∙ c.in_ok-parts.ensures in
    subst (RisesFrom 0) (sym is) (RisesFrom-clip c.args.band.low c.args.band.high c.requires.ordered.0 0 c.args.ranges.now c.requires.rises)

pub row-requires-clause-room : goal.row-requires-clause-room
row-requires-clause-room c =
    let parts = c.deref.ensures.value ∙ c.in_ok-parts.ensures in
    let is = c.deref-2.ensures.value ∙ c.in_ok-parts.ensures in
    let end = c.args.band.children.start + c.args.band.children.len * size_of_block c.args.band.children.depth in
    let rises = RisesFrom-clip c.args.band.low c.args.band.high c.requires.ordered.0 0 c.args.ranges.now c.requires.rises in
    let cost =
    parts_cost c.args.band.children.depth 0 (clip c.args.band.low c.args.band.high c.args.ranges.now) c.args.band.children.start end c.requires.deep rises in
    let deepened = rw parts at c.in_ok-deepen.ensures.count in
    let room = c.requires.room in
    subst (λ ps. length c.deepen.new.states.items + c.args.band.children.depth * ends_in ps c.args.band.children.start end ≤ id_limit) (sym is) (omega arith)

pub returns-clause-ready : goal.returns-clause-ready
returns-clause-ready c =
    λ base next ready. IsReady-grows c.deepen.new.states.items c.row.new.states.items base next c.deepen.new.whole.items c.in_ok-row.ensures.grows
    (c.in_ok-deepen.ensures.ready base next ready)

pub returns-clause-closed : goal.returns-clause-closed
returns-clause-closed c =
    λ base next ready lt closed.
    (let longer = c.in_ok-deepen.ensures.grows.longer in
    let whole = c.deref-3.ensures.value in
    c.in_ok-row.ensures.closed base next (subst (IsReady base c.deepen.new.states.items next) (sym whole) (c.in_ok-deepen.ensures.ready base next ready))
    (omega arith)
    (c.in_ok-deepen.ensures.closed base next ready lt closed))

pub returns-clause-built : goal.returns-clause-built
returns-clause-built c =
    let parts = c.deref-2.ensures.value ∙ c.in_ok-parts.ensures in
    λ base next ready.
    (let whole = c.deref-3.ensures.value in
    let children = c.args.band.children in
    subst (λ ps. IsRow (IsReader base c.row.new.states.items) next (is_member ps) children.depth children.start children.first children.len
    c.args.transitions.now.items c.row.new.transitions.items) parts
    (c.in_ok-row.ensures.built base next (subst (IsReady base c.deepen.new.states.items next) (sym whole) (c.in_ok-deepen.ensures.ready base next ready))))

pub returns-clause-count : goal.returns-clause-count
returns-clause-count c =
    let parts = c.deref.ensures.value ∙ c.in_ok-parts.ensures in
    let parts' = c.deref-2.ensures.value ∙ c.in_ok-parts.ensures in
    let children = c.args.band.children in
    let rises = RisesFrom-clip c.args.band.low c.args.band.high c.requires.ordered.0 0 c.args.ranges.now c.requires.rises in
    let cost = parts_cost children.depth 0 (clip c.args.band.low c.args.band.high c.args.ranges.now) children.start
    (children.start + children.len * size_of_block children.depth) c.requires.deep rises in
    let deepened = rw parts at c.in_ok-deepen.ensures.count in
    let added = rw parts' at c.in_ok-row.ensures.count in
    omega arith

pub returns-clause-grows : goal.returns-clause-grows
returns-clause-grows c = AddsReaders-trans _ _ _ c.in_ok-deepen.ensures.grows c.in_ok-row.ensures.grows

pub returns-in_err-parts-clause-some : goal.returns-in_err-parts-clause-some
returns-in_err-parts-clause-some c = IfOk-from_err c.from_residual.result _ c.from_residual.ensures.0

pub returns-in_err-parts-clause-grows : goal.returns-in_err-parts-clause-grows
returns-in_err-parts-clause-grows c = IfOk-from_err c.from_residual.result _ c.from_residual.ensures.0

pub returns-in_err-parts-clause-closed : goal.returns-in_err-parts-clause-closed
returns-in_err-parts-clause-closed c = IfOk-from_err c.from_residual.result _ c.from_residual.ensures.0

pub returns-in_err-parts-clause-ready : goal.returns-in_err-parts-clause-ready
returns-in_err-parts-clause-ready c = IfOk-from_err c.from_residual.result _ c.from_residual.ensures.0

pub returns-in_err-parts-clause-ascends : goal.returns-in_err-parts-clause-ascends
returns-in_err-parts-clause-ascends c = IfOk-from_err c.from_residual.result _ c.from_residual.ensures.0

pub returns-in_err-parts-clause-built : goal.returns-in_err-parts-clause-built
returns-in_err-parts-clause-built c = IfOk-from_err c.from_residual.result _ c.from_residual.ensures.0

pub returns-in_err-parts-clause-count : goal.returns-in_err-parts-clause-count
returns-in_err-parts-clause-count c = IfOk-from_err c.from_residual.result _ c.from_residual.ensures.0

pub returns-in_err-deepen-clause-some : goal.returns-in_err-deepen-clause-some
returns-in_err-deepen-clause-some c = IfOk-from_err c.from_residual-in_err-deepen.result _ c.from_residual-in_err-deepen.ensures.0

pub returns-in_err-deepen-clause-grows : goal.returns-in_err-deepen-clause-grows
returns-in_err-deepen-clause-grows c = IfOk-from_err c.from_residual-in_err-deepen.result _ c.from_residual-in_err-deepen.ensures.0

pub returns-in_err-deepen-clause-closed : goal.returns-in_err-deepen-clause-closed
returns-in_err-deepen-clause-closed c = IfOk-from_err c.from_residual-in_err-deepen.result _ c.from_residual-in_err-deepen.ensures.0

pub returns-in_err-deepen-clause-ready : goal.returns-in_err-deepen-clause-ready
returns-in_err-deepen-clause-ready c = IfOk-from_err c.from_residual-in_err-deepen.result _ c.from_residual-in_err-deepen.ensures.0

pub returns-in_err-deepen-clause-ascends : goal.returns-in_err-deepen-clause-ascends
returns-in_err-deepen-clause-ascends c = IfOk-from_err c.from_residual-in_err-deepen.result _ c.from_residual-in_err-deepen.ensures.0

pub returns-in_err-deepen-clause-built : goal.returns-in_err-deepen-clause-built
returns-in_err-deepen-clause-built c = IfOk-from_err c.from_residual-in_err-deepen.result _ c.from_residual-in_err-deepen.ensures.0

pub returns-in_err-deepen-clause-count : goal.returns-in_err-deepen-clause-count
returns-in_err-deepen-clause-count c = IfOk-from_err c.from_residual-in_err-deepen.result _ c.from_residual-in_err-deepen.ensures.0

pub returns-in_err-row-clause-some : goal.returns-in_err-row-clause-some
returns-in_err-row-clause-some c = IfOk-from_err c.from_residual-in_err-row.result _ c.from_residual-in_err-row.ensures.0

pub returns-in_err-row-clause-grows : goal.returns-in_err-row-clause-grows
returns-in_err-row-clause-grows c = IfOk-from_err c.from_residual-in_err-row.result _ c.from_residual-in_err-row.ensures.0

pub returns-in_err-row-clause-closed : goal.returns-in_err-row-clause-closed
returns-in_err-row-clause-closed c = IfOk-from_err c.from_residual-in_err-row.result _ c.from_residual-in_err-row.ensures.0

pub returns-in_err-row-clause-ready : goal.returns-in_err-row-clause-ready
returns-in_err-row-clause-ready c = IfOk-from_err c.from_residual-in_err-row.result _ c.from_residual-in_err-row.ensures.0

pub returns-in_err-row-clause-ascends : goal.returns-in_err-row-clause-ascends
returns-in_err-row-clause-ascends c = IfOk-from_err c.from_residual-in_err-row.result _ c.from_residual-in_err-row.ensures.0

pub returns-in_err-row-clause-built : goal.returns-in_err-row-clause-built
returns-in_err-row-clause-built c = IfOk-from_err c.from_residual-in_err-row.result _ c.from_residual-in_err-row.ensures.0

pub returns-in_err-row-clause-count : goal.returns-in_err-row-clause-count
returns-in_err-row-clause-count c = IfOk-from_err c.from_residual-in_err-row.result _ c.from_residual-in_err-row.ensures.0

pub returns-clause-some : goal.returns-clause-some
returns-clause-some c = c.in_ok-deepen.ensures.some

pub returns-clause-ascends : goal.returns-clause-ascends
returns-clause-ascends c = c.in_ok-row.ensures.ascends

pub deepen-requires-clause-deep : goal.deepen-requires-clause-deep
deepen-requires-clause-deep c = c.requires.deep

pub deepen-requires-clause-some : goal.deepen-requires-clause-some
deepen-requires-clause-some c = c.requires.some

pub row-requires-clause-deep : goal.row-requires-clause-deep
row-requires-clause-deep c = c.requires.deep

pub row-requires-clause-aligned : goal.row-requires-clause-aligned
row-requires-clause-aligned c = c.requires.aligned

pub row-requires-clause-small : goal.row-requires-clause-small
row-requires-clause-small c = c.requires.small

pub row-requires-clause-bytes : goal.row-requires-clause-bytes
row-requires-clause-bytes c = c.requires.bytes

pub row-requires-clause-before : goal.row-requires-clause-before
row-requires-clause-before c = c.requires.before
