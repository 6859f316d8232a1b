use Rattle.std.proofs.Common.{◌+◌, ◌∙◌, sym, refl}
use Rattle.std.proofs.lemmas.Option.{slice_get_read}
use Rattle.rx_search.proofs.PatternSetLemmas.{to_come, to_come-lacks, to_come-end, to_come-yields, progress-yields}
use Rattle.rx_search.proofs.pattern_set.PatternSetIterIterator.next.Goals as goal

pub returns-then-is_there-clause-steps : goal.returns-then-is_there-clause-steps
returns-then-is_there-clause-steps c =
    let it = c.loop-is_there.self-inside in
    let e = c.in-Some.ensures.lookup in
    to_come-yields it.which.now it.next c.in-Some.is_there.now c.new.result c.args.self.now c.loop-is_there.invariant.1
    (slice_get_read it.which.now _ it.next c.in-Some.is_there.now refl e.3.0 e.1) c.if-is_there.true c.new.ensures c.loop-is_there.invariant.0

pub returns-then-is_there-clause-goes : goal.returns-then-is_there-clause-goes
returns-then-is_there-clause-goes c =
    let it = c.loop-is_there.self-inside in
    progress-yields c.args.self.now c.new.result (to_come it.which.now (it.next + 1)) (returns-then-is_there-clause-steps c)

pub loop-is_there-preserved : goal.loop-is_there-preserved
loop-is_there-preserved c =
    let it = c.loop-is_there.self-inside in
    let e = c.in-Some.ensures.lookup in (
      sym (to_come-lacks it.which.now it.next c.in-Some.is_there.now (slice_get_read it.which.now _ it.next c.in-Some.is_there.now refl e.3.0 e.1) c.if-is_there.false)
          ∙ c.loop-is_there.invariant.0,
      c.loop-is_there.invariant.1,
    )

pub returns-clause-steps : goal.returns-clause-steps
returns-clause-steps c =
    let it = c.loop-is_there.self-inside in
    let none = to_come-end it.which.now it.next c.in_default.ensures.lookup.3 in
    (sym c.loop-is_there.invariant.0 ∙ none, none)

pub returns-clause-goes : goal.returns-clause-goes
returns-clause-goes c =
    progress-yields c.args.self.now _ (to_come c.loop-is_there.self-inside.which.now c.loop-is_there.self-inside.next) (returns-clause-steps c)
