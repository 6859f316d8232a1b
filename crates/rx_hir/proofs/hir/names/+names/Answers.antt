use Rattle.std.proofs.Common.{◌≡◌, OnOk, arith, ap, sym, subst, ◌∙◌, option_map, string_bytes}
use Rattle.std.specs.Prelude.{max}
use Rattle.std.specs.Int.NonZero.{non_zero_usize_get}
use Rattle.std.specs.Option.{option_or}
use Rattle.rx_model.specs.Expression.{Expression}
use Rattle.rx_model.specs.Search.{greatest_group, greatest_in}
use Rattle.rx_search.specs.GroupInfo.{names_of}
use Rattle.rx_hir.specs.Depth.{depth, greatest_depth}
use Rattle.rx_hir.specs.HirViews.{kind_view}
use Rattle.rx_hir.specs.Names.{name_in, name_among, only_at, filled}
use Rattle.rx_hir.specs.Normal.{expressions}
use Rattle.rx_hir.proofs.DepthLemmas.{depth-below}
use Rattle.rx_hir.proofs.NamesLemmas.{filled-none, filled-twice, among-step, among-past, greatest-at}
use Rattle.rx_hir.proofs.hir.names.+names.Goals as goal

pub add_names_among-add_names-requires : goal.add_names_among-add_names-requires
add_names_among-add_names-requires t c =
    let hs = c.args.subs.now in
    let below = depth-below hs c.loop-sub.sub-index c.sub-item.result c.loop-sub-test.true c.sub-item.is in
    let most = greatest-at hs c.loop-sub.sub-index c.sub-item.result c.loop-sub-test.true c.sub-item.is in
    let count = c.loop-sub.invariant.count in
    let fits = c.requires in
    (omega arith, omega arith)

pub add_names_among-loop-sub-preserved : goal.add_names_among-loop-sub-preserved
add_names_among-loop-sub-preserved t c = record {
  added = among-step c.args.subs.now c.loop-sub.sub-index c.sub-item.result c.loop-sub-test.true c.sub-item.is (names_of c.loop-sub.names.items)
      (names_of c.add_names.new.names.items) c.in_ok-add_names.ensures.added ∙ c.loop-sub.invariant.added;
  count = c.in_ok-add_names.ensures.count ∙ c.loop-sub.invariant.count;
}

pub add_names_among-returns-clause-added : goal.add_names_among-returns-clause-added
add_names_among-returns-clause-added t c =
    sym (among-past c.args.subs.now c.loop-sub.sub-index c.loop-sub-test.false (names_of c.loop-sub.names.items)) ∙ c.loop-sub.invariant.added

pub add_names_of_kind-add_names-requires : goal.add_names_of_kind-add_names-requires
unfolding greatest_group
add_names_of_kind-add_names-requires t c =
    let deep = ap depth c.deref.ensures in
    let groups = ap greatest_group c.deref.ensures in
    let around : greatest_group (kind_view c.args.kind.now) ≡ greatest_group c.in-Repetition.repetition.sub.value =
    ap (λ k. greatest_group (kind_view k)) c.in-Repetition.is in
    let down = ap (λ k. depth (kind_view k)) c.in-Repetition.is in
    let fits = c.requires in
    (omega arith, omega arith)

pub add_names_of_kind-name_group-requires-clause-inside : goal.add_names_of_kind-name_group-requires-clause-inside
unfolding greatest_group
add_names_of_kind-name_group-requires-clause-inside t c =
    let around : greatest_group (kind_view c.args.kind.now)
    ≡ max (non_zero_usize_get c.in-Capture.capture.index) (greatest_group c.in-Capture.capture.sub.value) =
    ap (λ k. greatest_group (kind_view k)) c.in-Capture.is in
    let is = c.get.ensures.value in
    let fits = c.requires in
    omega arith

pub add_names_of_kind-add_names-requires-in-Capture : goal.add_names_of_kind-add_names-requires-in-Capture
unfolding greatest_group
add_names_of_kind-add_names-requires-in-Capture t c =
    let deep = ap depth c.deref-in-Capture.ensures in
    let groups = ap greatest_group c.deref-in-Capture.ensures in
    let around : greatest_group (kind_view c.args.kind.now)
    ≡ max (non_zero_usize_get c.in-Capture.capture.index) (greatest_group c.in-Capture.capture.sub.value) =
    ap (λ k. greatest_group (kind_view k)) c.in-Capture.is in
    let down = ap (λ k. depth (kind_view k)) c.in-Capture.is in
    let count = c.in_ok-name_group-in-Capture.ensures.count in
    let fits = c.requires in
    (omega arith, omega arith)

pub add_names_of_kind-add_names_among-requires : goal.add_names_of_kind-add_names_among-requires
unfolding greatest_group
add_names_of_kind-add_names_among-requires t c =
    let deep = ap (λ hs. greatest_depth (expressions hs)) c.deref-in-Concat.ensures.value in
    let groups = ap (λ hs. greatest_in (expressions hs)) c.deref-in-Concat.ensures.value in
    let around : greatest_group (kind_view c.args.kind.now) ≡ greatest_in (expressions c.in-Concat.subs.items) =
    ap (λ k. greatest_group (kind_view k)) c.in-Concat.is in
    let down = ap (λ k. depth (kind_view k)) c.in-Concat.is in
    let fits = c.requires in
    (omega arith, omega arith)

pub add_names_of_kind-add_names_among-requires-in-Alternation : goal.add_names_of_kind-add_names_among-requires-in-Alternation
unfolding greatest_group
add_names_of_kind-add_names_among-requires-in-Alternation t c =
    let deep = ap (λ hs. greatest_depth (expressions hs)) c.deref-in-Alternation.ensures.value in
    let groups = ap (λ hs. greatest_in (expressions hs)) c.deref-in-Alternation.ensures.value in
    let around : greatest_group (kind_view c.args.kind.now) ≡ greatest_in (expressions c.in-Alternation.subs.items) =
    ap (λ k. greatest_group (kind_view k)) c.in-Alternation.is in
    let down = ap (λ k. depth (kind_view k)) c.in-Alternation.is in
    let fits = c.requires in
    (omega arith, omega arith)

pub add_names_of_kind-returns-in-Empty-clause-added : goal.add_names_of_kind-returns-in-Empty-clause-added
unfolding name_in
add_names_of_kind-returns-in-Empty-clause-added t c =
    sym (filled-none (λ g. name_in g (kind_view c.args.kind.now)) 1 (names_of c.args.names.now.items) (λ g. ap (λ k. name_in g (kind_view k)) c.in-Empty.is))

pub add_names_of_kind-returns-in-Literal-clause-added : goal.add_names_of_kind-returns-in-Literal-clause-added
unfolding name_in
add_names_of_kind-returns-in-Literal-clause-added t c =
    sym (filled-none (λ g. name_in g (kind_view c.args.kind.now)) 1 (names_of c.args.names.now.items) (λ g. ap (λ k. name_in g (kind_view k)) c.in-Literal.is))

pub add_names_of_kind-returns-in-Class-clause-added : goal.add_names_of_kind-returns-in-Class-clause-added
unfolding name_in
add_names_of_kind-returns-in-Class-clause-added t c =
    sym (filled-none (λ g. name_in g (kind_view c.args.kind.now)) 1 (names_of c.args.names.now.items) (λ g. ap (λ k. name_in g (kind_view k)) c.in-Class.is))

pub add_names_of_kind-returns-in-Look-clause-added : goal.add_names_of_kind-returns-in-Look-clause-added
unfolding name_in
add_names_of_kind-returns-in-Look-clause-added t c =
    sym (filled-none (λ g. name_in g (kind_view c.args.kind.now)) 1 (names_of c.args.names.now.items) (λ g. ap (λ k. name_in g (kind_view k)) c.in-Look.is))

pub add_names_of_kind-returns-in-Repetition-clause-added : goal.add_names_of_kind-returns-in-Repetition-clause-added
unfolding name_in
add_names_of_kind-returns-in-Repetition-clause-added t c =
    let xs = names_of c.args.names.now.items in
    let same : filled (λ g. name_in g c.deref.result.now) 1 xs ≡ filled (λ g. name_in g (kind_view c.args.kind.now)) 1 xs =
    ap (λ h. filled (λ g. name_in g h) 1 xs) c.deref.ensures ∙ sym (ap (λ k. filled (λ g. name_in g (kind_view k)) 1 xs) c.in-Repetition.is) in
    subst (λ ys. OnOk c.add_names.result (names_of c.add_names.new.names.items ≡ ys)) same c.add_names.ensures.added

pub add_names_of_kind-returns-in_ok-name_group-in-Capture-clause-added : goal.add_names_of_kind-returns-in_ok-name_group-in-Capture-clause-added
unfolding name_in
add_names_of_kind-returns-in_ok-name_group-in-Capture-clause-added t c =
    let xs = names_of c.args.names.now.items in
    let capture = c.in-Capture.capture in
    let name = option_map string_bytes capture.name in
    let own : (h : Expression) → filled (λ g. name_in g h) 1 (names_of c.name_group.new.names.items)
    ≡ filled (λ g. option_or (only_at (non_zero_usize_get capture.index) name g) (name_in g h)) 1 xs =
    λ h. ap (filled (λ g. name_in g h) 1) (c.in_ok-name_group-in-Capture.ensures.added ∙ ap (λ n. filled (only_at n name) 1 xs) c.get.ensures.value)
    ∙ filled-twice (only_at (non_zero_usize_get capture.index) name) (λ g. name_in g h) 1 xs in
    let same : filled (λ g. name_in g c.deref-in-Capture.result.now) 1 (names_of c.name_group.new.names.items)
    ≡ filled (λ g. name_in g (kind_view c.args.kind.now)) 1 xs =
    ap (λ h. filled (λ g. name_in g h) 1 (names_of c.name_group.new.names.items)) c.deref-in-Capture.ensures
    ∙ own capture.sub.value
    ∙ sym (ap (λ k. filled (λ g. name_in g (kind_view k)) 1 xs) c.in-Capture.is) in
    subst (λ ys. OnOk c.add_names-in-Capture.result (names_of c.add_names-in-Capture.new.names.items ≡ ys)) same c.add_names-in-Capture.ensures.added

pub add_names_of_kind-returns-in-Concat-clause-added : goal.add_names_of_kind-returns-in-Concat-clause-added
unfolding name_in
add_names_of_kind-returns-in-Concat-clause-added t c =
    let xs = names_of c.args.names.now.items in
    let same : filled (λ g. name_among g (expressions c.deref-in-Concat.result.now)) 1 xs ≡ filled (λ g. name_in g (kind_view c.args.kind.now)) 1 xs =
    ap (λ hs. filled (λ g. name_among g (expressions hs)) 1 xs) c.deref-in-Concat.ensures.value
    ∙ sym (ap (λ k. filled (λ g. name_in g (kind_view k)) 1 xs) c.in-Concat.is) in
    subst (λ ys. OnOk c.add_names_among.result (names_of c.add_names_among.new.names.items ≡ ys)) same c.add_names_among.ensures.added

pub add_names_of_kind-returns-in-Alternation-clause-added : goal.add_names_of_kind-returns-in-Alternation-clause-added
unfolding name_in
add_names_of_kind-returns-in-Alternation-clause-added t c =
    let xs = names_of c.args.names.now.items in
    let same : filled (λ g. name_among g (expressions c.deref-in-Alternation.result.now)) 1 xs ≡ filled (λ g. name_in g (kind_view c.args.kind.now)) 1 xs =
    ap (λ hs. filled (λ g. name_among g (expressions hs)) 1 xs) c.deref-in-Alternation.ensures.value
    ∙ sym (ap (λ k. filled (λ g. name_in g (kind_view k)) 1 xs) c.in-Alternation.is) in
    subst (λ ys. OnOk c.add_names_among-in-Alternation.result (names_of c.add_names_among-in-Alternation.new.names.items ≡ ys)) same
    c.add_names_among-in-Alternation.ensures.added
