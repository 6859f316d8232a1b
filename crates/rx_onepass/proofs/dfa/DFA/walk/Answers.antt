use Rattle.std.proofs.Common.{◌≡◌, ◌+◌, ◌-◌, ◌≤◌, length, drop, min, length-drop, refl, ◌∙◌, ap, subst, arith}
use Rattle.std.proofs.lemmas.List.{length-take-le}
use Rattle.rx_model.specs.Runs.{everywhere}
use Rattle.rx_onepass_table.specs.Along.{walk}
use Rattle.rx_onepass_table.specs.Search.{IsAnswer}
use Rattle.rx_onepass_build.specs.Config.{kind_of}
use Rattle.rx_onepass.specs.Dfa.{Dfa}
use Rattle.rx_onepass.specs.Walked.{may_win}
use Rattle.rx_onepass.proofs.lemmas.RangeLemmas.{walked-of, range-empty}
use Rattle.rx_onepass.proofs.dfa.DFA.walk.Goals as goal

pub returns-clause-walked : goal.returns-clause-walked
returns-clause-walked c =
    let d = c.args.self.now in
    let v = c.args.input.now in
    let old = c.args.slots.now in
    let first = c.min-first.result in
    let count = c.min-count.result in
    let first_is : first ≡ min c.explicit_start.result (length old) = c.min-first.ensures in
    let count_is : count ≡ min c.explicit_slots.result (length old - first) = c.min-count.ensures in
    let inside : first + count ≤ length old = omega arith in
    let n_is : first + count - first ≡ count = omega arith in
    let dropped = length-drop first old in
    let enough : first + count - first ≤ length (drop first old) = omega arith in
    let long = c.walk.ensures.out ∙ length-take-le (first + count - first) (drop first old) enough ∙ n_is in
    let wins_is = c.may_win-may_win.ensures ∙ ap may_win (c.get_match_kind.ensures ∙ ap (λ (x : Dfa). kind_of x.config) c.self.view_is) in
    let answer = subst (λ (x : Dfa). IsAnswer x.nfa v.earliest (walk x.nfa x.table c.may_win-may_win.result everywhere v.haystack (v.end - v.start) v.start
    c.args.row) c.walk.result c.walk.new.out) c.self.view_is c.walk.ensures.answer in
    walked-of old c.walk.new.out _ first count (first + count - first) long inside n_is refl d v c.args.row c.may_win-may_win.result c.walk.result wins_is
    answer (first_is ∙ ap (λ n. min n (length old)) c.explicit_start.ensures) (count_is ∙ ap (λ n. min n (length old - first)) c.explicit_slots.ensures)

pub walk-requires-clause-empty : goal.walk-requires-clause-empty
walk-requires-clause-empty c = range-empty c.args.slots.now _ _ c.requires.empty
