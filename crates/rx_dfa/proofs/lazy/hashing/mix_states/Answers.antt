use Rattle.std.proofs.Common.{◌≡◌, ◌+◌, ◌∙◌, sym, ap, drop, get_or}
use Rattle.std.proofs.lemmas.List.{at_drop_more, at_drop_all, get_or_read}
use Rattle.rx_dfa.specs.Hash.{mixed, mixed_all}
use Rattle.rx_dfa.proofs.lazy.hashing.mix_states.Goals as goal

pub loop-state-preserved : goal.loop-state-preserved
loop-state-preserved c =
    let xs = c.args.states.now in
    let i = c.loop-state.state-index in
    let lt = c.loop-state-test.true in
    let word : c.as_usize.result ≡ get_or xs i 0 = c.as_usize.ensures.value ∙ get_or_read xs i c.state-item.result lt c.state-item.is 0 in
    ap (λ h. mixed_all h (drop (i + 1) xs)) (c.mix-all.ensures ∙ ap (mixed c.loop-state.all) word)
    ∙ sym (at_drop_more (mixed_all c.loop-state.all) xs i 0 lt) ∙ c.loop-state.invariant

pub returns : goal.returns
returns c =
    sym (at_drop_all (mixed_all c.loop-state.all) c.args.states.now c.loop-state.state-index c.loop-state-test.false) ∙ c.loop-state.invariant
