use Rattle.std.proofs.lemmas.Result.{IfOk-weaker}
use Rattle.rx_dfa.proofs.lemmas.AnswerLemmas.{leftmost-answer}
use Rattle.rx_dfa.proofs.lemmas.CandidateLemmas.{without}
use Rattle.rx_dfa.proofs.search.prefiltered.try_search_half_fwd_by.Goals as goal

pub returns-clause-told : goal.returns-clause-told
returns-clause-told g c = λ r p ordered.
    let d = g.A.Automaton.dfa c.args.dfa.now in
    let v = c.args.input.now in
    let spanned = c.haystack-haystack.ensures.spanned.end in
    IfOk-weaker c.find_end_by.result _ _ (λ found f. leftmost-answer d.nfa r v spanned (without d c.args.pre.now r v p) d.kind found f)
    (c.find_end_by.ensures.answer r p ordered)
