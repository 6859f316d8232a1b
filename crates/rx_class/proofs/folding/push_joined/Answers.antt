use Rattle.std.proofs.Common.{rules, of_calls, ◌≡◌, ℕ, Bool, true, false, List, ◌<◌, ◌++◌, length, get_or, append-nil, arith, ap, sym, ◌∙◌, subst}
use Rattle.std.specs.Prelude.{nat_lt}
use Rattle.std.specs.Char.{IsScalar}
use Rattle.std.specs.List.Sorted.{IsNonDecreasingBy, IsPartitionPoint}
use Rattle.std.proofs.lemmas.Bool.{ltb-true, ltb-false}
use Rattle.std.proofs.lemmas.Fn.{always_returns_same}
use Rattle.std.proofs.lemmas.List.Sorted.{IsPartitionedBy-ltb}
use Rattle.ucd_case.specs.CaseFolding.{fold_pairs}
use Rattle.rx_class.proofs.FoldLemmas.{fold_pairs-sorted, fold_pairs-scalars}
use Rattle.rx_class.proofs.JoinedLemmas.{joined-skip, joined-step, joined-done}
use Rattle.rx_class.proofs.folding.push_joined.Goals as goal

abbrev begins : ℕ → ℕ × ℕ → Bool
begins low p = nat_lt p.0 low

point : (c : goal.After-partition_point-start) → IsPartitionPoint (λ y. begins c.args.low y ≡ true) (λ y. begins c.args.low y ≡ false) fold_pairs
    c.partition_point-start.result
point c =
    let sorted = subst (IsNonDecreasingBy (λ (p : ℕ × ℕ). p.0)) (sym c.fold_pairs-pairs.ensures.table) fold_pairs-sorted in
    subst (λ xs. IsPartitionPoint (λ y. begins c.args.low y ≡ true) (λ y. begins c.args.low y ≡ false) xs c.partition_point-start.result)
    c.fold_pairs-pairs.ensures.table
    (c.partition_point-start.ensures.partitioned (begins c.args.low) (always_returns_same _ _ _ (λ a r f k. search (rules, of_calls)))
    (IsPartitionedBy-ltb (λ (p : ℕ × ℕ). p.0) c.fold_pairs-pairs.result.now c.args.low sorted))

pub loop-i-init : goal.loop-i-init
loop-i-init c = (
  (λ k d from within. ltb-false _ c.args.low ((point c).1 k d from within)),
  omega arith,
  ap (λ ys. c.args.found.now.items ++ ys)
      (joined-skip c.partition_point-start.result fold_pairs (c.args.low, c.args.high)
      (λ j d lt within. ltb-true _ c.args.low ((point c).0 j d (omega arith) lt))),
)

pub returns-then-from-member : goal.returns-then-from-member
returns-then-from-member c =
    let i = c.loop-i.i in
    let within : i < length fold_pairs = omega (arith, c.loop-i-test.true, ap length c.fold_pairs-pairs.ensures.table) in
    let here = ap (λ (ps : List (ℕ × ℕ)). (get_or ps i (0, 0)).0) c.fold_pairs-pairs.ensures.table in
    let done =
    joined-done fold_pairs i (c.args.low, c.args.high) (0, 0) fold_pairs-sorted within (omega (arith, here, c.if-from-member.true, c.from.ensures)) in
    sym (append-nil c.loop-i.found.items) ∙ ap (λ ys. c.loop-i.found.items ++ ys) (sym done) ∙ c.loop-i.invariant.2

pub push_scalar-requires : goal.push_scalar-requires
push_scalar-requires c =
    let i = c.loop-i.i in
    let within : i < length fold_pairs = omega (arith, c.loop-i-test.true, ap length c.fold_pairs-pairs.ensures.table) in
    subst (λ (ps : List (ℕ × ℕ)). IsScalar (get_or ps i (0, 0)).1) (sym c.fold_pairs-pairs.ensures.table) (fold_pairs-scalars i (0, 0) within)

pub loop-i-preserved : goal.loop-i-preserved
loop-i-preserved c =
    let i = c.loop-i.i in
    let table = c.fold_pairs-pairs.ensures.table in
    let within : i < length fold_pairs = omega (arith, c.loop-i-test.true, ap length table) in
    let pair = get_or c.fold_pairs-pairs.result.now i (0, 0) in
    let here : pair ≡ get_or fold_pairs i (0, 0) = ap (λ (ps : List (ℕ × ℕ)). get_or ps i (0, 0)) table in
    let first = ap (λ (p : ℕ × ℕ). p.0) here in
    let from = c.loop-i.invariant.0 i (0, 0) c.loop-i.invariant.1 within in (
      c.loop-i.invariant.0,
      omega (arith, c.loop-i.invariant.1),
      joined-step fold_pairs c.loop-i.found.items c.push_scalar.new.found.items i (c.args.low, c.args.high) pair (0, 0) within here
          (omega (arith, first, from)) (omega (arith, c.if-from-member.false, c.from.ensures)) c.in_ok-push_scalar.ensures
          ∙ c.loop-i.invariant.2,
    )
