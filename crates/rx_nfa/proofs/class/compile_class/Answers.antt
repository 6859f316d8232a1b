use Rattle.std.proofs.Common.{arith, length, refl}
use Rattle.std.proofs.lemmas.Result.{IfOk-from_err}
use Rattle.rx_nfa.specs.Ranges.{size_of_block, cost_of_class}
use Rattle.rx_nfa.specs.Row.{IsReader}
use Rattle.rx_nfa.specs.Trie.{IsReady}
use Rattle.rx_nfa.proofs.lemmas.classes.RowLemmas.{AddsReaders-trans, Ascends-more, IsReader-grows, IsReader-lower, RoutesBelow-none, RoutesBelow-more}
use Rattle.rx_nfa.proofs.lemmas.classes.BlockLemmas.{IsReady-one, IsRow-map, row-below}
use Rattle.rx_nfa.proofs.lemmas.classes.RangesLemmas.{AreScalarRanges-rise}
use Rattle.rx_nfa.proofs.lemmas.classes.ClassLemmas.{IsClass-from}
use Rattle.rx_nfa.proofs.class.compile_class.Goals as goal

pub add_band-requires-clause-rises : goal.add_band-requires-clause-rises
add_band-requires-clause-rises c = AreScalarRanges-rise c.args.ranges.now c.requires.fewest

pub add_band-requires-2-clause-rises : goal.add_band-requires-2-clause-rises
add_band-requires-2-clause-rises c = AreScalarRanges-rise c.args.ranges.now c.requires.fewest

pub add_band-requires-3-clause-rises : goal.add_band-requires-3-clause-rises
add_band-requires-3-clause-rises c = AreScalarRanges-rise c.args.ranges.now c.requires.fewest

pub add_band-requires-4-clause-rises : goal.add_band-requires-4-clause-rises
add_band-requires-4-clause-rises c = AreScalarRanges-rise c.args.ranges.now c.requires.fewest

pub add_band-requires-5-clause-rises : goal.add_band-requires-5-clause-rises
add_band-requires-5-clause-rises c = AreScalarRanges-rise c.args.ranges.now c.requires.fewest

pub add_band-requires-clause-small : goal.add_band-requires-clause-small
unfolding size_of_block
add_band-requires-clause-small c = omega arith

pub add_band-requires-clause-room : goal.add_band-requires-clause-room
unfolding cost_of_class
add_band-requires-clause-room c = let room = c.requires.room in omega arith

pub add_band-requires-2-clause-aligned : goal.add_band-requires-2-clause-aligned
unfolding size_of_block
add_band-requires-2-clause-aligned c = refl

pub add_band-requires-2-clause-small : goal.add_band-requires-2-clause-small
unfolding size_of_block
add_band-requires-2-clause-small c = omega arith

pub add_band-requires-2-clause-before : goal.add_band-requires-2-clause-before
add_band-requires-2-clause-before c = Ascends-more 0 128 194 _ (omega arith) c.in_ok-add_band.ensures.ascends

pub add_band-requires-2-clause-room : goal.add_band-requires-2-clause-room
unfolding cost_of_class
add_band-requires-2-clause-room c =
    let room = c.requires.room in
    let one = c.in_ok-add_band.ensures.count in
    omega arith

pub add_band-requires-3-clause-small : goal.add_band-requires-3-clause-small
unfolding size_of_block
add_band-requires-3-clause-small c = omega arith

pub add_band-requires-3-clause-room : goal.add_band-requires-3-clause-room
unfolding cost_of_class
add_band-requires-3-clause-room c =
    let room = c.requires.room in
    let one = c.in_ok-add_band.ensures.count in
    let two = c.in_ok-add_band-2.ensures.count in
    omega arith

pub add_band-requires-4-clause-aligned : goal.add_band-requires-4-clause-aligned
unfolding size_of_block
add_band-requires-4-clause-aligned c = refl

pub add_band-requires-4-clause-small : goal.add_band-requires-4-clause-small
unfolding size_of_block
add_band-requires-4-clause-small c = omega arith

pub add_band-requires-4-clause-room : goal.add_band-requires-4-clause-room
unfolding cost_of_class
add_band-requires-4-clause-room c =
    let room = c.requires.room in
    let one = c.in_ok-add_band.ensures.count in
    let two = c.in_ok-add_band-2.ensures.count in
    let three = c.in_ok-add_band-3.ensures.count in
    omega arith

pub add_band-requires-5-clause-small : goal.add_band-requires-5-clause-small
unfolding size_of_block
add_band-requires-5-clause-small c = omega arith

pub add_band-requires-5-clause-room : goal.add_band-requires-5-clause-room
unfolding cost_of_class
add_band-requires-5-clause-room c =
    let room = c.requires.room in
    let one = c.in_ok-add_band.ensures.count in
    let two = c.in_ok-add_band-2.ensures.count in
    let three = c.in_ok-add_band-3.ensures.count in
    let upper = c.in_ok-add_band-4.ensures.count in
    omega arith

pub push_reader-requires-clause-ascends : goal.push_reader-requires-clause-ascends
push_reader-requires-clause-ascends c = Ascends-more 0 245 256 _ (omega arith) c.in_ok-add_band-5.ensures.ascends

pub push_reader-requires-clause-room : goal.push_reader-requires-clause-room
unfolding cost_of_class
push_reader-requires-clause-room c =
    let room = c.requires.room in
    let one = c.in_ok-add_band.ensures.count in
    let two = c.in_ok-add_band-2.ensures.count in
    let three = c.in_ok-add_band-3.ensures.count in
    let upper = c.in_ok-add_band-4.ensures.count in
    let four = c.in_ok-add_band-5.ensures.count in
    omega arith

pub returns-clause-built : goal.returns-clause-built
returns-clause-built c =
    let id = c.in_ok-id.ensures in
    let base = length c.args.states.now.items in
    let next = c.args.next in
    let one = c.in_ok-add_band.ensures in
    let two = c.in_ok-add_band-2.ensures in
    let three = c.in_ok-add_band-3.ensures in
    let upper = c.in_ok-add_band-4.ensures in
    let four = c.in_ok-add_band-5.ensures in
    let from_four = id.grows in
    let from_upper = AddsReaders-trans _ _ _ four.grows from_four in
    let from_three = AddsReaders-trans _ _ _ upper.grows from_upper in
    let from_two = AddsReaders-trans _ _ _ three.grows from_three in
    let from_one = AddsReaders-trans _ _ _ two.grows from_two in
    let before = AddsReaders-trans _ _ _ one.grows (AddsReaders-trans _ _ _ two.grows
    (AddsReaders-trans _ _ _ three.grows (AddsReaders-trans _ _ _ upper.grows four.grows))) in
    let long = before.longer in
    let ready1 : IsReady base c.args.states.now.items next c.push.new.self.items =
    rw (c.in_ok-push.ensures.items, c.new-whole.ensures.items) (IsReady-one c.args.states.now.items next) in
    let ready2 = one.ready base next ready1 in
    let ready3 = two.ready base next ready2 in
    let ready4 = three.ready base next ready3 in
    let ready5 = upper.ready base next ready4 in
    IsClass-from (IsReader base c.push_reader.new.states.items) next c.args.ranges.now c.in_ok-id.id
    c.new-transitions.result.items c.add_band.new.transitions.items c.add_band-2.new.transitions.items c.add_band-3.new.transitions.items
    c.add_band-4.new.transitions.items c.add_band-5.new.transitions.items
    c.new-transitions.ensures.items (IsReader-lower base _ _ _ _ long id.reads)
    (IsRow-map _ _ _ (IsReader-grows base _ _ from_one) _ _ _ _ _ _ _ (one.built base next ready1))
    (IsRow-map _ _ _ (IsReader-grows base _ _ from_two) _ _ _ _ _ _ _ (two.built base next ready2))
    (IsRow-map _ _ _ (IsReader-grows base _ _ from_three) _ _ _ _ _ _ _ (three.built base next ready3))
    (IsRow-map _ _ _ (IsReader-grows base _ _ from_upper) _ _ _ _ _ _ _ (upper.built base next ready4))
    (IsRow-map _ _ _ (IsReader-grows base _ _ from_four) _ _ _ _ _ _ _ (four.built base next ready5))

pub returns-clause-count : goal.returns-clause-count
unfolding cost_of_class
returns-clause-count c =
    let one = c.in_ok-add_band.ensures.count in
    let two = c.in_ok-add_band-2.ensures.count in
    let three = c.in_ok-add_band-3.ensures.count in
    let upper = c.in_ok-add_band-4.ensures.count in
    let four = c.in_ok-add_band-5.ensures.count in
    let last = c.in_ok-id.ensures.count in
    omega arith

pub returns-clause-closed : goal.returns-clause-closed
returns-clause-closed c =
    λ lt closed.
    (let base = length c.args.states.now.items in
    let next = c.args.next in
    let one = c.in_ok-add_band.ensures in
    let two = c.in_ok-add_band-2.ensures in
    let three = c.in_ok-add_band-3.ensures in
    let upper = c.in_ok-add_band-4.ensures in
    let four = c.in_ok-add_band-5.ensures in
    let a = one.grows.longer in
    let b = two.grows.longer in
    let d = three.grows.longer in
    let e = upper.grows.longer in
    let f = four.grows.longer in
    let ready1 : IsReady base c.args.states.now.items next c.push.new.self.items =
    rw (c.in_ok-push.ensures.items, c.new-whole.ensures.items) (IsReady-one c.args.states.now.items next) in
    let ready2 = one.ready base next ready1 in
    let ready3 = two.ready base next ready2 in
    let ready4 = three.ready base next ready3 in
    let ready5 = upper.ready base next ready4 in
    let r1 = row-below c.add_band.new.states.items base next _ 0 0 0 128 c.new-transitions.result.items c.add_band.new.transitions.items (omega arith)
    (one.built base next ready1) (rw c.new-transitions.ensures.items (RoutesBelow-none (length c.add_band.new.states.items))) in
    let r2 = row-below c.add_band-2.new.states.items base next _ 1 128 194 30 c.add_band.new.transitions.items c.add_band-2.new.transitions.items (omega arith)
    (two.built base next ready2) (RoutesBelow-more _ _ _ b r1) in
    let r3 = row-below c.add_band-3.new.states.items base next _ 2 0 224 14 c.add_band-2.new.transitions.items c.add_band-3.new.transitions.items (omega arith)
    (three.built base next ready3) (RoutesBelow-more _ _ _ d r2) in
    let r4 = row-below c.add_band-4.new.states.items base next _ 2 57344 238 2 c.add_band-3.new.transitions.items c.add_band-4.new.transitions.items
    (omega arith) (upper.built base next ready4) (RoutesBelow-more _ _ _ e r3) in
    let r5 = row-below c.add_band-5.new.states.items base next _ 3 0 240 5 c.add_band-4.new.transitions.items c.add_band-5.new.transitions.items (omega arith)
    (four.built base next ready5) (RoutesBelow-more _ _ _ f r4) in
    let c1 = one.closed base next ready1 lt closed in
    let c2 = two.closed base next ready2 (omega arith) c1 in
    let c3 = three.closed base next ready3 (omega arith) c2 in
    let c4 = upper.closed base next ready4 (omega arith) c3 in
    let c5 = four.closed base next ready5 (omega arith) c4 in
    c.in_ok-id.ensures.closed r5 c5)

pub returns-clause-grows : goal.returns-clause-grows
returns-clause-grows c =
    AddsReaders-trans _ _ _ c.in_ok-add_band.ensures.grows
    (AddsReaders-trans _ _ _ c.in_ok-add_band-2.ensures.grows
    (AddsReaders-trans _ _ _ c.in_ok-add_band-3.ensures.grows
    (AddsReaders-trans _ _ _ c.in_ok-add_band-4.ensures.grows
    (AddsReaders-trans _ _ _ c.in_ok-add_band-5.ensures.grows c.in_ok-id.ensures.grows))))

pub add_band-requires-clause-ordered : goal.add_band-requires-clause-ordered
add_band-requires-clause-ordered c = (omega arith, omega arith)

pub add_band-requires-clause-deep : goal.add_band-requires-clause-deep
add_band-requires-clause-deep c = omega arith

pub add_band-requires-clause-aligned : goal.add_band-requires-clause-aligned
unfolding size_of_block
add_band-requires-clause-aligned c = refl

pub add_band-requires-clause-bytes : goal.add_band-requires-clause-bytes
add_band-requires-clause-bytes c = omega arith

pub add_band-requires-clause-before : goal.add_band-requires-clause-before
add_band-requires-clause-before c = rw c.new-transitions.ensures.items (omega arith)

pub add_band-requires-clause-some : goal.add_band-requires-clause-some
add_band-requires-clause-some c = rw (c.in_ok-push.ensures.items, c.new-whole.ensures.items) (omega arith)

pub add_band-requires-2-clause-ordered : goal.add_band-requires-2-clause-ordered
add_band-requires-2-clause-ordered c = (omega arith, omega arith)

pub add_band-requires-2-clause-deep : goal.add_band-requires-2-clause-deep
add_band-requires-2-clause-deep c = omega arith

pub add_band-requires-2-clause-bytes : goal.add_band-requires-2-clause-bytes
add_band-requires-2-clause-bytes c = omega arith

pub add_band-requires-2-clause-some : goal.add_band-requires-2-clause-some
add_band-requires-2-clause-some c = c.in_ok-add_band.ensures.some

pub add_band-requires-3-clause-ordered : goal.add_band-requires-3-clause-ordered
add_band-requires-3-clause-ordered c = (omega arith, omega arith)

pub add_band-requires-3-clause-deep : goal.add_band-requires-3-clause-deep
add_band-requires-3-clause-deep c = omega arith

pub add_band-requires-3-clause-aligned : goal.add_band-requires-3-clause-aligned
unfolding size_of_block
add_band-requires-3-clause-aligned c = refl

pub add_band-requires-3-clause-bytes : goal.add_band-requires-3-clause-bytes
add_band-requires-3-clause-bytes c = omega arith

pub add_band-requires-3-clause-before : goal.add_band-requires-3-clause-before
add_band-requires-3-clause-before c = c.in_ok-add_band-2.ensures.ascends

pub add_band-requires-3-clause-some : goal.add_band-requires-3-clause-some
add_band-requires-3-clause-some c = c.in_ok-add_band-2.ensures.some

pub add_band-requires-4-clause-ordered : goal.add_band-requires-4-clause-ordered
add_band-requires-4-clause-ordered c = (omega arith, omega arith)

pub add_band-requires-4-clause-deep : goal.add_band-requires-4-clause-deep
add_band-requires-4-clause-deep c = omega arith

pub add_band-requires-4-clause-bytes : goal.add_band-requires-4-clause-bytes
add_band-requires-4-clause-bytes c = omega arith

pub add_band-requires-4-clause-before : goal.add_band-requires-4-clause-before
add_band-requires-4-clause-before c = c.in_ok-add_band-3.ensures.ascends

pub add_band-requires-4-clause-some : goal.add_band-requires-4-clause-some
add_band-requires-4-clause-some c = c.in_ok-add_band-3.ensures.some

pub add_band-requires-5-clause-ordered : goal.add_band-requires-5-clause-ordered
add_band-requires-5-clause-ordered c = (omega arith, omega arith)

pub add_band-requires-5-clause-deep : goal.add_band-requires-5-clause-deep
add_band-requires-5-clause-deep c = omega arith

pub add_band-requires-5-clause-aligned : goal.add_band-requires-5-clause-aligned
unfolding size_of_block
add_band-requires-5-clause-aligned c = refl

pub add_band-requires-5-clause-bytes : goal.add_band-requires-5-clause-bytes
add_band-requires-5-clause-bytes c = omega arith

pub add_band-requires-5-clause-before : goal.add_band-requires-5-clause-before
add_band-requires-5-clause-before c = c.in_ok-add_band-4.ensures.ascends

pub add_band-requires-5-clause-some : goal.add_band-requires-5-clause-some
add_band-requires-5-clause-some c = c.in_ok-add_band-4.ensures.some

pub returns-in_err-push-clause-built : goal.returns-in_err-push-clause-built
returns-in_err-push-clause-built c = IfOk-from_err c.from_residual.result _ c.from_residual.ensures.0

pub returns-in_err-push-clause-grows : goal.returns-in_err-push-clause-grows
returns-in_err-push-clause-grows c = IfOk-from_err c.from_residual.result _ c.from_residual.ensures.0

pub returns-in_err-push-clause-closed : goal.returns-in_err-push-clause-closed
returns-in_err-push-clause-closed c = IfOk-from_err c.from_residual.result _ c.from_residual.ensures.0

pub returns-in_err-push-clause-count : goal.returns-in_err-push-clause-count
returns-in_err-push-clause-count c = IfOk-from_err c.from_residual.result _ c.from_residual.ensures.0

pub returns-in_err-add_band-clause-built : goal.returns-in_err-add_band-clause-built
returns-in_err-add_band-clause-built c = IfOk-from_err c.from_residual-in_err-add_band.result _ c.from_residual-in_err-add_band.ensures.0

pub returns-in_err-add_band-clause-grows : goal.returns-in_err-add_band-clause-grows
returns-in_err-add_band-clause-grows c = IfOk-from_err c.from_residual-in_err-add_band.result _ c.from_residual-in_err-add_band.ensures.0

pub returns-in_err-add_band-clause-closed : goal.returns-in_err-add_band-clause-closed
returns-in_err-add_band-clause-closed c = IfOk-from_err c.from_residual-in_err-add_band.result _ c.from_residual-in_err-add_band.ensures.0

pub returns-in_err-add_band-clause-count : goal.returns-in_err-add_band-clause-count
returns-in_err-add_band-clause-count c = IfOk-from_err c.from_residual-in_err-add_band.result _ c.from_residual-in_err-add_band.ensures.0

pub returns-in_err-add_band-2-clause-built : goal.returns-in_err-add_band-2-clause-built
returns-in_err-add_band-2-clause-built c = IfOk-from_err c.from_residual-in_err-add_band-2.result _ c.from_residual-in_err-add_band-2.ensures.0

pub returns-in_err-add_band-2-clause-grows : goal.returns-in_err-add_band-2-clause-grows
returns-in_err-add_band-2-clause-grows c = IfOk-from_err c.from_residual-in_err-add_band-2.result _ c.from_residual-in_err-add_band-2.ensures.0

pub returns-in_err-add_band-2-clause-closed : goal.returns-in_err-add_band-2-clause-closed
returns-in_err-add_band-2-clause-closed c = IfOk-from_err c.from_residual-in_err-add_band-2.result _ c.from_residual-in_err-add_band-2.ensures.0

pub returns-in_err-add_band-2-clause-count : goal.returns-in_err-add_band-2-clause-count
returns-in_err-add_band-2-clause-count c = IfOk-from_err c.from_residual-in_err-add_band-2.result _ c.from_residual-in_err-add_band-2.ensures.0

pub returns-in_err-add_band-3-clause-built : goal.returns-in_err-add_band-3-clause-built
returns-in_err-add_band-3-clause-built c = IfOk-from_err c.from_residual-in_err-add_band-3.result _ c.from_residual-in_err-add_band-3.ensures.0

pub returns-in_err-add_band-3-clause-grows : goal.returns-in_err-add_band-3-clause-grows
returns-in_err-add_band-3-clause-grows c = IfOk-from_err c.from_residual-in_err-add_band-3.result _ c.from_residual-in_err-add_band-3.ensures.0

pub returns-in_err-add_band-3-clause-closed : goal.returns-in_err-add_band-3-clause-closed
returns-in_err-add_band-3-clause-closed c = IfOk-from_err c.from_residual-in_err-add_band-3.result _ c.from_residual-in_err-add_band-3.ensures.0

pub returns-in_err-add_band-3-clause-count : goal.returns-in_err-add_band-3-clause-count
returns-in_err-add_band-3-clause-count c = IfOk-from_err c.from_residual-in_err-add_band-3.result _ c.from_residual-in_err-add_band-3.ensures.0

pub returns-in_err-add_band-4-clause-built : goal.returns-in_err-add_band-4-clause-built
returns-in_err-add_band-4-clause-built c = IfOk-from_err c.from_residual-in_err-add_band-4.result _ c.from_residual-in_err-add_band-4.ensures.0

pub returns-in_err-add_band-4-clause-grows : goal.returns-in_err-add_band-4-clause-grows
returns-in_err-add_band-4-clause-grows c = IfOk-from_err c.from_residual-in_err-add_band-4.result _ c.from_residual-in_err-add_band-4.ensures.0

pub returns-in_err-add_band-4-clause-closed : goal.returns-in_err-add_band-4-clause-closed
returns-in_err-add_band-4-clause-closed c = IfOk-from_err c.from_residual-in_err-add_band-4.result _ c.from_residual-in_err-add_band-4.ensures.0

pub returns-in_err-add_band-4-clause-count : goal.returns-in_err-add_band-4-clause-count
returns-in_err-add_band-4-clause-count c = IfOk-from_err c.from_residual-in_err-add_band-4.result _ c.from_residual-in_err-add_band-4.ensures.0

pub returns-in_err-add_band-5-clause-built : goal.returns-in_err-add_band-5-clause-built
returns-in_err-add_band-5-clause-built c = IfOk-from_err c.from_residual-in_err-add_band-5.result _ c.from_residual-in_err-add_band-5.ensures.0

pub returns-in_err-add_band-5-clause-grows : goal.returns-in_err-add_band-5-clause-grows
returns-in_err-add_band-5-clause-grows c = IfOk-from_err c.from_residual-in_err-add_band-5.result _ c.from_residual-in_err-add_band-5.ensures.0

pub returns-in_err-add_band-5-clause-closed : goal.returns-in_err-add_band-5-clause-closed
returns-in_err-add_band-5-clause-closed c = IfOk-from_err c.from_residual-in_err-add_band-5.result _ c.from_residual-in_err-add_band-5.ensures.0

pub returns-in_err-add_band-5-clause-count : goal.returns-in_err-add_band-5-clause-count
returns-in_err-add_band-5-clause-count c = IfOk-from_err c.from_residual-in_err-add_band-5.result _ c.from_residual-in_err-add_band-5.ensures.0

pub returns-in_err-id-clause-built : goal.returns-in_err-id-clause-built
returns-in_err-id-clause-built c = IfOk-from_err c.from_residual-in_err-id.result _ c.from_residual-in_err-id.ensures.0

pub returns-in_err-id-clause-grows : goal.returns-in_err-id-clause-grows
returns-in_err-id-clause-grows c = IfOk-from_err c.from_residual-in_err-id.result _ c.from_residual-in_err-id.ensures.0

pub returns-in_err-id-clause-closed : goal.returns-in_err-id-clause-closed
returns-in_err-id-clause-closed c = IfOk-from_err c.from_residual-in_err-id.result _ c.from_residual-in_err-id.ensures.0

pub returns-in_err-id-clause-count : goal.returns-in_err-id-clause-count
returns-in_err-id-clause-count c = IfOk-from_err c.from_residual-in_err-id.result _ c.from_residual-in_err-id.ensures.0
