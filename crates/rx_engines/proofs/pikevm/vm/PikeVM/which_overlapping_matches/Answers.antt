use Rattle.std.proofs.Common.{◌≡◌, length, sym, ◌∙◌, ap, true≢false}
use Rattle.std.specs.Prelude.{Bool, true, false, not, is_some, option_map}
use Rattle.rx_search.specs.Matches.{match_value}
use Rattle.rx_search.specs.declared.anchored.MatchKind.{MatchKind}
use Rattle.rx_search.specs.declared.anchored.MatchKind.TheVariants.{All}
use Rattle.rx_search.specs.Input.{next_in}
use Rattle.rx_engines.specs.Engine.{PikeVMValue}
use Rattle.rx_engines.proofs.lemmas.answers.OverlapLemmas.{filled-all, in-room, added-kept, added-gains, added-filled, whole-answer, some-told}
use Rattle.rx_engines.proofs.pikevm.vm.PikeVM.which_overlapping_matches.Goals as goal

pub returns-then-is_for_all-clause-filled : goal.returns-then-is_for_all-clause-filled
returns-then-is_for_all-clause-filled c r is begins =
    filled-all r c.args.input.now c.args.set.now c.fill.new.set c.args.self.now.kind (c.fill.ensures.each r is begins)

pub add-requires : goal.add-requires
add-requires c =
    in-room (length c.args.self.now.nfa.starts) (length c.args.set.now) c.find-found.result c.requires.room c.find-found.ensures.in_range

pub returns-clause-kept : goal.returns-clause-kept
returns-clause-kept c =
    added-kept c.args.set.now c.add.new.set c.find-found.result c.add.ensures
    (in-room (length c.args.self.now.nfa.starts) (length c.args.set.now) c.find-found.result c.requires.room c.find-found.ensures.in_range)

pub returns-clause-matching : goal.returns-clause-matching
returns-clause-matching c r is begins =
    added-gains c.args.set.now c.add.new.set r c.args.input.now c.find-found.result c.add.ensures (c.find-found.ensures.is_match r is begins)

pub returns-clause-filled : goal.returns-clause-filled
returns-clause-filled c r is begins =
    let vm = c.args.self.now in
    let v = c.args.input.now in
    let kind : c.self.inside.kind ≡ vm.kind = ap (λ (e : PikeVMValue). e.kind) c.self.view_is in
    added-filled c.args.set.now c.add.new.set r v c.find-found.result c.add.ensures
    (in-room (length vm.nfa.starts) (length c.args.set.now) c.find-found.result c.requires.room c.find-found.ensures.in_range)
    (c.find-found.ensures.is_match r is begins) vm.kind
    (λ all whole. true≢false (sym (c.is_for_all.ensures (kind ∙ all) ∙ ap not (c.get_earliest.ensures ∙ whole)) ∙ c.if-is_for_all.false))
    (λ whole.
    c.find-found.ensures.value begins
    ∙ ap (option_map match_value) (whole-answer vm v whole ∙ c.find-found.ensures.patterns r is))
    (c.find-found.ensures.any begins ∙ ap is_some (c.find-found.ensures.patterns r is) ∙ some-told r.which_captures (next_in r v))
