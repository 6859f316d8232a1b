use Rattle.std.proofs.Common.{slice_index, ◌≡◌, ◌≤◌, ◌+◌, ◌*◌, ◌-◌, sym, subst, arith, true, length, mul-le-mul_right, []}
use Rattle.std.proofs.lemmas.Result.{IfOk-from_err}
use Rattle.std.specs.Prelude.{Some}
use Rattle.std.proofs.lemmas.Grind.{common_steps}
use Rattle.rx_model.specs.Text.{is_member}
use Rattle.rx_search.specs.Limits.{id_limit}
use Rattle.rx_nfa.specs.Ranges.{size_of_block, ends_in}
use Rattle.rx_nfa.specs.Row.{Ascends, IsReader}
use Rattle.rx_nfa.specs.Trie.{IsBlock, IsRow}
use Rattle.rx_nfa.proofs.lemmas.classes.RowLemmas.{Ascends-more, IsReader-grows, IsReader-lower, AddsReaders-same, AddsReaders-trans, RoutesBelow-none}
use Rattle.rx_nfa.proofs.lemmas.classes.RangesLemmas.{size_of_block-pos, size_of_block-suc, IsRest-same, IsRest-trans, IsRest-later}
use Rattle.rx_nfa.proofs.lemmas.classes.BlockLemmas.{IsRow-none, IsRow-map, IsBlock-same, IsBlock-none, IsBlock-row, IsRow-next, IsReady-grows, aligned-part, aligned-at, aligned-64, HasEnd-deep, HasEnd-counts, covered-depth, CoversUpTo-less, count-one, count-next, count-within, row-below}
use Rattle.rx_nfa.proofs.lemmas.parts.AccountedLemmas.{times-more}
use Rattle.rx_nfa.proofs.class.trie.+trie.Goals as goal

pub block-coverage_of-requires-clause-some : goal.block-coverage_of-requires-clause-some
block-coverage_of-requires-clause-some t c = rw c.block_size.ensures (size_of_block-pos c.args.depth)

pub block-bounds-whole-depth : goal.block-bounds-whole-depth
block-bounds-whole-depth t c =
    let covers = (rw c.block_size.ensures at c.in-Everything.ensures) in
    covered-depth (length c.args.whole.now) c.args.depth c.args.start c.args.ranges.now covers.1 covers.2 c.requires.enough covers.3 c.requires.aligned covers.4
    covers.5

pub block-overflow_sub-children : goal.block-overflow_sub-children
block-overflow_sub-children t c = HasEnd-deep c.args.ranges.now c.args.depth c.args.start (rw c.block_size.ensures at c.in-Part.ensures)

pub block-row-requires : goal.block-row-requires
block-row-requires t c =
    let part = (rw c.block_size.ensures at c.in-Part.ensures) in
    let deep = HasEnd-deep c.args.ranges.now c.args.depth c.args.start part in
    let size = size_of_block-suc c.args.depth deep in
    let small = c.requires.small in
    let deepest = c.requires.deep in
    let some = HasEnd-counts c.args.ranges.now c.args.start (c.args.start + size_of_block c.args.depth)
    (aligned-64 c.args.depth c.args.start deep c.requires.deep c.requires.aligned) part in
    let one = count-one c.args.depth (ends_in c.args.ranges.now c.args.start (c.args.start + size_of_block c.args.depth)) deep some in
    let room = c.requires.room in (
      omega arith,
      (
        c.requires.rises,
        (
          omega arith,
          (
            aligned-part c.args.depth c.args.start deep deepest c.requires.aligned,
            (
              omega arith,
              (
                omega arith,
                (
                  rw c.new-transitions.ensures.items (omega arith),
                  (
                    CoversUpTo-less (c.args.depth - 1) c.args.depth _ c.args.ranges.now (omega arith) c.requires.enough,
                    subst (λ s. length c.args.states.now.items + (c.args.depth - 1) * ends_in c.args.ranges.now c.args.start (c.args.start + s) ≤ id_limit) size
                        (omega arith),
                  ),
                ),
              ),
            ),
          ),
        ),
      ),
    )

pub block-push_reader-requires-clause-ascends : goal.block-push_reader-requires-clause-ascends
block-push_reader-requires-clause-ascends t c = Ascends-more 0 192 256 _ (omega arith) c.in_ok-row-in-Part.ensures.ascends

pub block-push_reader-requires-clause-room : goal.block-push_reader-requires-clause-room
block-push_reader-requires-clause-room t c =
    let part = (rw c.block_size.ensures at c.in-Part.ensures) in
    let deep = HasEnd-deep c.args.ranges.now c.args.depth c.args.start part in
    let size = size_of_block-suc c.args.depth deep in
    let some = HasEnd-counts c.args.ranges.now c.args.start (c.args.start + size_of_block c.args.depth)
    (aligned-64 c.args.depth c.args.start deep c.requires.deep c.requires.aligned) part in
    let one = count-one c.args.depth (ends_in c.args.ranges.now c.args.start (c.args.start + size_of_block c.args.depth)) deep some in
    let below = (rw (← size) at c.in_ok-row-in-Part.ensures.count) in
    let room = c.requires.room in
    omega arith

pub block-returns-in-Nothing-clause-built : goal.block-returns-in-Nothing-clause-built
block-returns-in-Nothing-clause-built t c base next ready =
    IsBlock-none (IsReader base c.args.states.now.items) next (is_member c.args.ranges.now) c.args.depth c.args.start
    (rw c.block_size.ensures at c.in-Nothing.ensures)

pub block-returns-in-Everything-clause-built : goal.block-returns-in-Everything-clause-built
block-returns-in-Everything-clause-built t c base next ready =
    let covers = (rw c.block_size.ensures at c.in-Everything.ensures) in
    let deep = covered-depth (length c.args.whole.now) c.args.depth c.args.start c.args.ranges.now covers.1 covers.2 c.requires.enough covers.3
    c.requires.aligned covers.4 covers.5 in
    let is : slice_index c.args.whole.now c.args.depth ≡ c.index-whole-depth.result = grind (arith, common_steps) in
    subst (λ q. IsBlock (IsReader base c.args.states.now.items) next (is_member c.args.ranges.now) c.args.depth c.args.start (Some q)) is
    (IsBlock-same (IsReader base c.args.states.now.items) next (λ x. true) (is_member c.args.ranges.now) c.args.depth c.args.start _ covers.0
    (ready.whole c.args.depth deep c.args.start))

pub block-returns-in_ok-id-in-Part-clause-built : goal.block-returns-in_ok-id-in-Part-clause-built
block-returns-in_ok-id-in-Part-clause-built t c base next ready =
    let deep = HasEnd-deep c.args.ranges.now c.args.depth c.args.start (rw c.block_size.ensures at c.in-Part.ensures) in
    let row = c.in_ok-row-in-Part.ensures in
    let id = c.in_ok-id-in-Part.ensures in
    let longer = row.grows.longer in
    let is = id.is in
    let based = ready.based in
    IsBlock-row (IsReader base c.push_reader.new.states.items) next (is_member c.args.ranges.now) c.args.depth c.args.start c.in_ok-id-in-Part.id
    c.row.new.transitions.items deep
    (IsReader-lower base (length c.row.new.states.items) _ _ _ (omega arith) id.reads)
    (IsRow-map (IsReader base c.row.new.states.items) (IsReader base c.push_reader.new.states.items) next (IsReader-grows base _ _ id.grows)
    (is_member c.args.ranges.now) (c.args.depth - 1) c.args.start 128 64 _ _
    (rw c.new-transitions.ensures.items at row.built base next ready))

pub block-returns-in_ok-id-in-Part-clause-count : goal.block-returns-in_ok-id-in-Part-clause-count
block-returns-in_ok-id-in-Part-clause-count t c =
    let part = (rw c.block_size.ensures at c.in-Part.ensures) in
    let deep = HasEnd-deep c.args.ranges.now c.args.depth c.args.start part in
    let size = size_of_block-suc c.args.depth deep in
    let some = HasEnd-counts c.args.ranges.now c.args.start (c.args.start + size_of_block c.args.depth)
    (aligned-64 c.args.depth c.args.start deep c.requires.deep c.requires.aligned) part in
    let below = (rw (← size) at c.in_ok-row-in-Part.ensures.count) in
    let one = count-one c.args.depth (ends_in c.args.ranges.now c.args.start (c.args.start + size_of_block c.args.depth)) deep some in
    let pushed = c.in_ok-id-in-Part.ensures.count in
    omega arith

pub block-returns-in_ok-id-in-Part-clause-closed : goal.block-returns-in_ok-id-in-Part-clause-closed
block-returns-in_ok-id-in-Part-clause-closed t c =
    λ base next ready lt closed.
    (let row = c.in_ok-row-in-Part.ensures in
    let id = c.in_ok-id-in-Part.ensures in
    let longer = row.grows.longer in
    id.closed (row-below c.row.new.states.items base next (is_member c.args.ranges.now) (c.args.depth - 1) c.args.start 128 64 [] c.row.new.transitions.items
    (omega arith)
    (rw c.new-transitions.ensures.items at row.built base next ready) (RoutesBelow-none (length c.row.new.states.items)))
    (row.closed base next ready lt closed))

pub row-loop-k-init : goal.row-loop-k-init
row-loop-k-init t c =
    let depth = c.args.children.depth in
    let start = c.args.children.start in
    let first = c.args.children.first in
    let at : start ≡ start + 0 * size_of_block depth = omega arith in
    let byte : first ≡ first + 0 = omega arith in
    record {
      grows = AddsReaders-same c.args.states.now.items;
      closed = λ base next ready lt closed. closed;
      rest = IsRest-same (start + 0 * size_of_block depth) c.args.ranges.now c.requires.rises;
      ascends = subst (λ n. Ascends 0 n c.args.transitions.now.items) byte c.requires.before;
      built = λ base next ready. IsRow-none (IsReader base c.args.states.now.items) next (is_member c.args.ranges.now) depth start first
          c.args.transitions.now.items;
      count = omega arith;
    }

pub row-block-requires : goal.row-block-requires
row-block-requires t c =
    let depth = c.args.children.depth in
    let start = c.args.children.start in
    let len = c.args.children.len in
    let size = c.block_size-size.ensures in
    let rest = (rw size at c.skip_below-rest.ensures.rest) in
    let before = c.loop-k.invariant.rest in
    let here = IsRest-trans (start + c.loop-k.k * size_of_block depth) (start + c.loop-k.k * size_of_block depth) c.args.ranges.now c.loop-k.rest.now
    c.skip_below-rest.result.now (omega arith) before rest in
    let lt = c.loop-k-test.true in
    let small = c.requires.small in
    let room = c.requires.room in
    let counted = c.loop-k.invariant.count in
    let more = count-next depth c.args.ranges.now c.skip_below-rest.result.now start c.loop-k.k (size_of_block depth) here in
    let within = count-within depth c.args.ranges.now start c.loop-k.k len (size_of_block depth) lt in
    let fits = mul-le-mul_right (size_of_block depth) (let more : c.loop-k.k + 1 ≤ len = omega arith in more) in (
      omega arith,
      (
        rest.rises,
        (
          c.skip_below-rest.ensures.first,
          (
            c.requires.deep,
            (
              rw size (aligned-at depth start c.loop-k.k c.requires.deep c.requires.aligned),
              (
                rw size (omega arith),
                (
                  here.covers _ _ c.requires.enough,
                  rw size (omega arith),
                ),
              ),
            ),
          ),
        ),
      ),
    )

pub row-loop-k-preserved : goal.row-loop-k-preserved
row-loop-k-preserved t c =
    let depth = c.args.children.depth in
    let start = c.args.children.start in
    let first = c.args.children.first in
    let size = c.block_size-size.ensures in
    let before = c.loop-k.invariant in
    let skipped = rw size at c.skip_below-rest.ensures.rest in
    let target = c.in_ok-target.ensures in
    let added = c.in_ok-add_target.ensures in
    let here = IsRest-trans (start + c.loop-k.k * size_of_block depth) (start + c.loop-k.k * size_of_block depth) c.args.ranges.now c.loop-k.rest.now
    c.skip_below-rest.result.now (omega arith) before.rest skipped in
    let more = count-next depth c.args.ranges.now c.skip_below-rest.result.now start c.loop-k.k (size_of_block depth) here in
    let count = rw size at target.count in
    let counted = before.count in
    let byte : first + c.loop-k.k + 1 ≡ first + (c.loop-k.k + 1) = omega arith in
    record {
      grows = AddsReaders-trans c.args.states.now.items c.loop-k.states.items c.block.new.states.items before.grows target.grows;
      closed = λ base next ready lt closed.
          (let states = before.grows.longer in
          target.closed base next (IsReady-grows c.args.states.now.items c.loop-k.states.items base next c.args.whole.now before.grows ready) (omega arith)
          (before.closed base next ready lt closed));
      rest = IsRest-later (start + c.loop-k.k * size_of_block depth) (start + (c.loop-k.k + 1) * size_of_block depth) c.args.ranges.now
          c.skip_below-rest.result.now (omega arith) here;
      ascends = subst (λ n. Ascends 0 n c.add_target.new.row.items) byte added.ascends;
      built = λ base next ready. IsRow-next (IsReader base c.loop-k.states.items) (IsReader base c.block.new.states.items) next
          (IsReader-grows base _ _ target.grows)
          (is_member c.args.ranges.now) depth start first c.loop-k.k c.args.transitions.now.items c.loop-k.transitions.items c.add_target.new.row.items
          c.in_ok-target.target
          (before.built base next ready)
          (IsBlock-same (IsReader base c.block.new.states.items) next (is_member c.skip_below-rest.result.now) (is_member c.args.ranges.now) depth
          (start + c.loop-k.k * size_of_block depth) c.in_ok-target.target
          (λ x from to. sym (here.same x from))
          (rw size at target.built base next (IsReady-grows c.args.states.now.items c.loop-k.states.items base next c.args.whole.now before.grows ready)))
          added.routes;
      count = omega arith;
    }

pub row-returns-clause-built : goal.row-returns-clause-built
row-returns-clause-built t c =
    let ended : c.loop-k.k ≡ c.args.children.len = grind (arith, common_steps) in
    λ base next ready. subst (λ n. IsRow (IsReader base c.loop-k.states.items) next (is_member c.args.ranges.now) c.args.children.depth c.args.children.start
    c.args.children.first n c.args.transitions.now.items c.loop-k.transitions.items) ended
    (c.loop-k.invariant.built base next ready)

pub block-returns-in_ok-id-in-Part-clause-grows : goal.block-returns-in_ok-id-in-Part-clause-grows
block-returns-in_ok-id-in-Part-clause-grows t c = AddsReaders-trans _ _ _ c.in_ok-row-in-Part.ensures.grows c.in_ok-id-in-Part.ensures.grows

pub row-returns-in_err-target-clause-grows : goal.row-returns-in_err-target-clause-grows
row-returns-in_err-target-clause-grows t c = IfOk-from_err c.from_residual.result _ c.from_residual.ensures.0

pub row-returns-in_err-target-clause-closed : goal.row-returns-in_err-target-clause-closed
row-returns-in_err-target-clause-closed t c = IfOk-from_err c.from_residual.result _ c.from_residual.ensures.0

pub row-returns-in_err-target-clause-ascends : goal.row-returns-in_err-target-clause-ascends
row-returns-in_err-target-clause-ascends t c = IfOk-from_err c.from_residual.result _ c.from_residual.ensures.0

pub row-returns-in_err-target-clause-built : goal.row-returns-in_err-target-clause-built
row-returns-in_err-target-clause-built t c = IfOk-from_err c.from_residual.result _ c.from_residual.ensures.0

pub row-returns-in_err-target-clause-count : goal.row-returns-in_err-target-clause-count
row-returns-in_err-target-clause-count t c = IfOk-from_err c.from_residual.result _ c.from_residual.ensures.0

pub row-returns-in_err-add_target-clause-grows : goal.row-returns-in_err-add_target-clause-grows
row-returns-in_err-add_target-clause-grows t c = IfOk-from_err c.from_residual-in_err-add_target.result _ c.from_residual-in_err-add_target.ensures.0

pub row-returns-in_err-add_target-clause-closed : goal.row-returns-in_err-add_target-clause-closed
row-returns-in_err-add_target-clause-closed t c = IfOk-from_err c.from_residual-in_err-add_target.result _ c.from_residual-in_err-add_target.ensures.0

pub row-returns-in_err-add_target-clause-ascends : goal.row-returns-in_err-add_target-clause-ascends
row-returns-in_err-add_target-clause-ascends t c = IfOk-from_err c.from_residual-in_err-add_target.result _ c.from_residual-in_err-add_target.ensures.0

pub row-returns-in_err-add_target-clause-built : goal.row-returns-in_err-add_target-clause-built
row-returns-in_err-add_target-clause-built t c = IfOk-from_err c.from_residual-in_err-add_target.result _ c.from_residual-in_err-add_target.ensures.0

pub row-returns-in_err-add_target-clause-count : goal.row-returns-in_err-add_target-clause-count
row-returns-in_err-add_target-clause-count t c = IfOk-from_err c.from_residual-in_err-add_target.result _ c.from_residual-in_err-add_target.ensures.0

pub row-overflow_mul-at : goal.row-overflow_mul-at
row-overflow_mul-at t c =
    let size = c.block_size-size.ensures in
    let small = c.requires.small in
    let fits = times-more c.loop-k.k c.args.children.len (size_of_block c.args.children.depth) c.loop-k-test.true in
    rw size (omega arith)

pub row-overflow_add-at : goal.row-overflow_add-at
row-overflow_add-at t c =
    let size = c.block_size-size.ensures in
    let small = c.requires.small in
    let fits = times-more c.loop-k.k c.args.children.len (size_of_block c.args.children.depth) c.loop-k-test.true in
    rw size (omega arith)

pub row-returns-clause-ascends : goal.row-returns-clause-ascends
row-returns-clause-ascends t c =
    let ended : c.loop-k.k ≡ c.args.children.len = grind (arith, common_steps) in
    subst (λ n. Ascends 0 (c.args.children.first + n) c.loop-k.transitions.items) ended c.loop-k.invariant.ascends

pub row-returns-clause-count : goal.row-returns-clause-count
row-returns-clause-count t c =
    let ended : c.loop-k.k ≡ c.args.children.len = grind (arith, common_steps) in
    subst (λ n. length c.loop-k.states.items ≤ length c.args.states.now.items
    + c.args.children.depth * ends_in c.args.ranges.now c.args.children.start (c.args.children.start + n * size_of_block c.args.children.depth)) ended
    c.loop-k.invariant.count

pub row-returns-clause-closed : goal.row-returns-clause-closed
row-returns-clause-closed t c = c.loop-k.invariant.closed

pub block-returns-in-Everything-clause-grows : goal.block-returns-in-Everything-clause-grows
block-returns-in-Everything-clause-grows t c = AddsReaders-same c.args.states.now.items

pub block-returns-in-Nothing-clause-grows : goal.block-returns-in-Nothing-clause-grows
block-returns-in-Nothing-clause-grows t c = AddsReaders-same c.args.states.now.items
