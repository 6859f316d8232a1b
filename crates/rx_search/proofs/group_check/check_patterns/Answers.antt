use Rattle.std.proofs.Common.{ℕ, ◌≡◌, ◌<◌, [], Err, None, MatchResult, take, length, get_or, ap, sym, ◌∙◌, arith, subst, inl}
use Rattle.std.proofs.lemmas.Result.{err_from_is_err_and}
use Rattle.rx_search.specs.Limits.{id_limit}
use Rattle.rx_search.specs.GroupInfo.{groups_of, names_of, fault_of, first_fault, IsFault, IsRefusal}
use Rattle.rx_search.proofs.FaultLemmas.{group_at, length-groups_of, too_many_patterns, fault_is_refusal, no_fault-more, no_fault-all}
use Rattle.rx_search.proofs.group_check.check_patterns.Goals as goal

pub returns-in_default : goal.returns-in_default
returns-in_default c =
    let gs = groups_of c.args.patterns.now in
    let i = c.loop-index.index in
    let below : i < length gs = omega (arith, c.loop-index-test.true, length-groups_of c.args.patterns.now) in
    inl (too_many_patterns gs i (omega (arith, c.in_default.ensures, c.loop-index.invariant.1)) (omega arith) c.loop-index.invariant.0)

pub returns-in_err-check_pattern : goal.returns-in_err-check_pattern
returns-in_err-check_pattern c =
    let p = err_from_is_err_and c.from_residual.result c.from_residual.ensures.1 in
    let gs = groups_of c.args.patterns.now in
    let i = c.loop-index.index in
    let e = c.in_err-check_pattern.field-0.0 in
    let below : i < length gs = omega (arith, c.loop-index-test.true, length-groups_of c.args.patterns.now) in
    let item : get_or gs i [] ≡ names_of c.as_slice.result.now = group_at c.args.patterns.now i c.index-patterns-index.result c.loop-index-test.true
    c.index-patterns-index.is ∙ ap names_of (sym c.as_slice.ensures.value) in
    let fault : IsFault i (names_of c.as_slice.result.now) e =
    subst (λ (n : ℕ). IsFault n (names_of c.as_slice.result.now) e) c.in-Some.ensures.0 c.in_err-check_pattern.ensures in
    let refused : IsRefusal gs e = fault_is_refusal gs i (names_of c.as_slice.result.now) e c.loop-index.invariant.0 item below
    (omega (arith, c.in-Some.ensures.0, c.in-Some.ensures.1)) fault in
    subst (λ r. MatchResult r (λ _. first_fault 0 (take id_limit gs) ≡ None) (IsRefusal gs)) (sym (p.1 ∙ ap Err p.2)) refused

pub loop-index-preserved : goal.loop-index-preserved
loop-index-preserved c =
    let gs = groups_of c.args.patterns.now in
    let i = c.loop-index.index in
    let below : i < length gs = omega (arith, c.loop-index-test.true, length-groups_of c.args.patterns.now) in
    let item : get_or gs i [] ≡ names_of c.as_slice.result.now = group_at c.args.patterns.now i c.index-patterns-index.result c.loop-index-test.true
    c.index-patterns-index.is ∙ ap names_of (sym c.as_slice.ensures.value) in
    let none : fault_of i (names_of c.as_slice.result.now) ≡ None =
    subst (λ (n : ℕ). fault_of n (names_of c.as_slice.result.now) ≡ None) c.in-Some.ensures.0 c.in_ok-check_pattern.ensures in
    (no_fault-more gs i (names_of c.as_slice.result.now) c.loop-index.invariant.0 item below none, omega (arith, c.in-Some.ensures.0, c.in-Some.ensures.1))

pub returns : goal.returns
returns c =
    let gs = groups_of c.args.patterns.now in
    no_fault-all gs c.loop-index.index (omega (arith, c.loop-index-test.false, length-groups_of c.args.patterns.now)) c.loop-index.invariant.1
    c.loop-index.invariant.0
