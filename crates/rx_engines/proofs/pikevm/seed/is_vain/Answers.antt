use Rattle.std.proofs.Common.{sym, ◌∙◌, true≢false}
use Rattle.rx_nfa.proofs.lemmas.runs.StateLemmas.{state-known, names-known}
use Rattle.rx_engines.proofs.lemmas.threads.VainLemmas.{ends-here, ends-next, ends-vain}
use Rattle.rx_engines.proofs.pikevm.seed.is_vain.Goals as goal

pub loop-init : goal.loop-init
loop-init c = record { state = c.requires.from; ends = ends-here c.args.states.now c.args.from }

pub loop-preserved : goal.loop-preserved
loop-preserved c =
    let v = c.loop.invariant in
    let states = c.args.states.now in
    let is = state-known states _ c.loop.state _ _ c.as_usize.ensures.value v.state c.index-states-as_usize.is c.in-Capture.is in
    record {
      state = names-known states c.loop.state _ c.requires.names v.state is;
      ends = ends-next states c.args.from c.loop.state c.in-Capture.next _ _ v.state is v.ends;
    }

pub returns-in_default : goal.returns-in_default
returns-in_default c seen = ends-vain c.args.states.now c.args.set.now.items c.args.from c.loop.state c.loop.invariant.ends (sym c.contains.ensures ∙ seen)

pub returns : goal.returns
returns c seen = absurd (true≢false (sym seen))
