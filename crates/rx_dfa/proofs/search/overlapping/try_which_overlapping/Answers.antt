use Rattle.std.proofs.Common.{sym, ◌∙◌, true≢false}
use Rattle.std.proofs.lemmas.Result.{IfOk-weaker}
use Rattle.rx_dfa.proofs.lemmas.OverlapLemmas.{ends-match, ends-filled}
use Rattle.rx_dfa.proofs.search.overlapping.try_which_overlapping.Goals as goal

pub add_one-requires-clause-one : goal.add_one-requires-clause-one
add_one-requires-clause-one g c every whole =
    true≢false (sym (c.tells_every.ensures.1 (c.match_kind.ensures ∙ every)) ∙ c.if-not-tells_every.true)

pub fill-requires-clause-every : goal.fill-requires-clause-every
fill-requires-clause-every g c = sym c.match_kind.ensures ∙ c.tells_every.ensures.0 c.if-not-tells_every.false

pub returns-clause-kept : goal.returns-clause-kept
returns-clause-kept g c = c.fill.ensures.adds.kept

pub returns-clause-matching : goal.returns-clause-matching
returns-clause-matching g c r p =
    ends-match (g.A.Automaton.dfa c.args.dfa.now).nfa r c.args.input.now c.haystack-haystack.ensures.spanned.end p c.args.set.now c.fill.new.set
    c.fill.ensures.adds

pub returns-clause-filled : goal.returns-clause-filled
returns-clause-filled g c r p =
    let d = g.A.Automaton.dfa c.args.dfa.now in
    let v = c.args.input.now in
    IfOk-weaker c.fill.result _ _
    (λ _ ends.
    ends-filled d.nfa r v c.haystack-haystack.ensures.spanned.end p c.args.set.now c.fill.new.set ends d.kind
    (sym c.match_kind.ensures ∙ c.tells_every.ensures.0 c.if-not-tells_every.false))
    c.fill.ensures.each
