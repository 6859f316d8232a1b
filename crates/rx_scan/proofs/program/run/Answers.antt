use Rattle.std.proofs.Common.{ℕ, List, map, [], refl, sym, subst, ◌∙◌, arith, lit≤, lit<}
use Rattle.std.specs.String.{string_bytes}
use Rattle.rx_scan.specs.Answer.{usage}
use Rattle.rx_scan.specs.Run.{Finished}
use Rattle.rx_scan.specs.declared.status.Status.TheVariants.{Usage}
use Rattle.rx_scan.proofs.AnswerLemmas.{answer-usage}
use Rattle.rx_scan.proofs.RunLemmas.{Gave-none, Answers-finished, BreaksOff-finished, finished-not, finished-complete, same-call, few-call}
use Rattle.rx_scan.proofs.program.run.Given.{Over}
use Rattle.rx_scan.proofs.program.run.Goals as goal
use Rattle.rx_scan.proofs.program.run.Goals.{After-finish}

-- the usage line was written, or the sink failed
usage_finished : (g : Over) (c : After-finish g)
    → Finished usage (g.K.Sink.held c.args.sink.now) (g.K.Sink.held c.finish.new.sink) (g.K.Sink.faults c.args.sink.now) (g.K.Sink.faults c.finish.new.sink)
    c.finish.result
usage_finished g c =
    let P : List ℕ → Type 0 =
    λ t. Finished (record { status = Usage; text = t }) (g.K.Sink.held c.args.sink.now) (g.K.Sink.held c.finish.new.sink) (g.K.Sink.faults c.args.sink.now)
    (g.K.Sink.faults c.finish.new.sink) c.finish.result in
    subst P c.as_bytes.ensures.value c.finish.ensures

pub returns-in_default-clause-answered : goal.returns-in_default-clause-answered
returns-in_default-clause-answered g c =
    Answers-finished (map string_bytes c.args.words.now) _ _ _ _ _ _ _ usage [] (answer-usage _ [] (sym c.call_of.ensures.value ∙ c.in_default.is))
    (Gave-none _ Usage refl) (lit≤ tt) (usage_finished g c)

pub returns-in_default-clause-sink_failed : goal.returns-in_default-clause-sink_failed
returns-in_default-clause-sink_failed g c =
    BreaksOff-finished (map string_bytes c.args.words.now) _ _ _ _ _ _ _ usage [] (answer-usage _ [] (sym c.call_of.ensures.value ∙ c.in_default.is))
    (Gave-none _ Usage refl) (lit≤ tt) (usage_finished g c)

pub returns-in-Ok-clause-answered : goal.returns-in-Ok-clause-answered
returns-in-Ok-clause-answered g c =
    let h = c.in-Ok.ensures.answered in
    Answers-finished (map string_bytes c.args.words.now) _ _ _ _ _ _ _ c.in-Ok.answer h.0
    (same-call _ h.0 _ c.in-Some.call (sym c.in-Some.is ∙ c.call_of.ensures.value) h.2) h.1 (few-call c.in-Some.call h.0 _ h.2) c.finish_answer.ensures

pub returns-in-Ok-clause-source_failed : goal.returns-in-Ok-clause-source_failed
returns-in-Ok-clause-source_failed g c =
    let h = c.in-Ok.ensures.answered in
    λ e. absurd (finished-not _ _ _ _ _ _ (few-call c.in-Some.call h.0 _ h.2) 6 (lit< tt) (omega arith) c.finish_answer.ensures e)

pub returns-in-Ok-clause-sink_failed : goal.returns-in-Ok-clause-sink_failed
returns-in-Ok-clause-sink_failed g c =
    let h = c.in-Ok.ensures.answered in
    BreaksOff-finished (map string_bytes c.args.words.now) _ _ _ _ _ _ _ c.in-Ok.answer h.0
    (same-call _ h.0 _ c.in-Some.call (sym c.in-Some.is ∙ c.call_of.ensures.value) h.2) h.1 (few-call c.in-Some.call h.0 _ h.2) c.finish_answer.ensures

pub returns-in-Ok-clause-out_of_memory : goal.returns-in-Ok-clause-out_of_memory
returns-in-Ok-clause-out_of_memory g c =
    let h = c.in-Ok.ensures.answered in
    λ e. absurd (finished-not _ _ _ _ _ _ (few-call c.in-Some.call h.0 _ h.2) 8 (lit< tt) (omega arith) c.finish_answer.ensures e)

pub returns-in-Ok-clause-complete : goal.returns-in-Ok-clause-complete
returns-in-Ok-clause-complete g c =
    let h = c.in-Ok.ensures.answered in
    λ _ none. finished-complete c.in-Ok.answer _ _ _ _ _ (few-call c.in-Some.call h.0 _ h.2) c.finish_answer.ensures none
