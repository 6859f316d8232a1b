use Rattle.std.proofs.Common.{◌≡◌, ◌<◌, length, get_or, arith, ap, subst, nat_lt}
use Rattle.std.proofs.lemmas.Bool.Decides.{nat_tests}
use Rattle.std.proofs.lemmas.List.{get_or_default}
use Rattle.rx_model.proofs.lemmas.runs.RunLemmas.{by_test}
use Rattle.rx_nfa.specs.declared.state.Transition.{Transition}
use Rattle.rx_engines.specs.StartBytes.{HasRange}
use Rattle.rx_engines.proofs.lemmas.candidates.StartBytesLemmas.{marks-same, marks-more}
use Rattle.rx_engines.proofs.candidates.start_bytes.mark.mark_all.Goals as goal

pub loop-k-init : goal.loop-k-init
loop-k-init c = record { kept = marks-same c.args.has.now; marked = λ j t lt. absurd (omega arith) }

pub loop-k-preserved : goal.loop-k-preserved
loop-k-preserved c =
    let k = c.loop-k.k in
    let ts = c.args.transitions.now in
    let within : k < length ts = omega arith in
    let marked : (t : Transition) → HasRange c.mark_range.new.has (get_or ts k t).start (get_or ts k t).end =
    λ t b low high.
    let first = ap (λ (x : Transition). x.start) (get_or_default ts k t c.index-transitions-k.result within) in
    let last = ap (λ (x : Transition). x.end) (get_or_default ts k t c.index-transitions-k-in-loop-k.result within) in
    c.mark_range.ensures.marked b (omega arith) (omega arith) in
    record {
      kept = marks-more c.args.has.now c.loop-k.has c.mark_range.new.has c.loop-k.invariant.kept c.mark_range.ensures.kept;
      marked = λ j t lt b low high.
          by_test (nat_lt j k)
          (λ e. c.mark_range.ensures.kept.kept b (c.loop-k.invariant.marked j t (grind (arith, nat_tests)) b low high))
          (λ e.
          let same : k ≡ j = grind (arith, nat_tests) in
          subst (λ j. HasRange c.mark_range.new.has (get_or ts j t).start (get_or ts j t).end) same (marked t) b low high);
    }

pub returns-clause-marked : goal.returns-clause-marked
returns-clause-marked c = λ k t lt. c.loop-k.invariant.marked k t (omega arith)

pub returns-clause-kept : goal.returns-clause-kept
returns-clause-kept c = c.loop-k.invariant.kept
