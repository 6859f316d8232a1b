use Rattle.std.proofs.Common.{inl, inr}
use Rattle.std.proofs.lemmas.Result.{IfOk-weaker}
use Rattle.rx_dfa.proofs.lemmas.AnswerLemmas.{by_kind, every-answer, leftmost-answer}
use Rattle.rx_dfa.proofs.search.forward.try_search_half_fwd.Goals as goal

pub returns-clause-told : goal.returns-clause-told
returns-clause-told g c = λ r p.
    let d = g.A.Automaton.dfa c.args.dfa.now in
    let v = c.args.input.now in
    let spanned = c.haystack-haystack.ensures.spanned.end in
    elim (by_kind d.kind) [
      | inl every ↦ IfOk-weaker c.find_end.result _ _ (λ found l. every-answer d.nfa r v spanned p d.kind every found l) (c.find_end.ensures.last every)
      | inr leftmost ↦ IfOk-weaker c.find_end.result _ _ (λ found f. leftmost-answer d.nfa r v spanned p d.kind found f)
          (c.find_end.ensures.answer r p leftmost)
    ]
