use Rattle.std.proofs.Common.{◌<◌, length, sym, subst, arith}
use Rattle.rx_nfa.specs.Automaton.{NamesBelow}
use Rattle.rx_nfa.specs.Prefixes.{IsBranch}
use Rattle.rx_nfa.proofs.lemmas.prefixes.SharingLemmas.{branch-leads, leads-names, branch-within, branch-own, branch-sorted, branch-silent, popped}
use Rattle.rx_nfa.proofs.lemmas.parts.BelowLemmas.{popped-below}
use Rattle.rx_nfa.proofs.prefixes.place.Goals as goal

branch : (c : goal.After-patch-arg-1) → IsBranch (λ q. q < length c.args.builder.now.states) c.in-Some.state
branch c =
    popped (IsBranch (λ q. q < length c.args.builder.now.states)) c.args.states.items c.loop-state.left.items c.pop.new.self.items c.loop-state.invariant.done
    c.in-Some.state c.loop-state.invariant.split c.in-Some.ensures.items c.requires.branches

pub patch-requires-clause-names : goal.patch-requires-clause-names
patch-requires-clause-names c =
    let n = length c.args.builder.now.states in
    subst (λ n. NamesBelow n c.in-Some.state) (sym c.loop-state.invariant.long)
    (leads-names n c.in-Some.state (branch-leads (λ q. q < n) c.in-Some.state (branch c)))

pub patch-requires-clause-within : goal.patch-requires-clause-within
patch-requires-clause-within c = branch-within (λ q. q < length c.args.builder.now.states) _ _ c.in-Some.state (branch c)

pub patch-requires-clause-own : goal.patch-requires-clause-own
patch-requires-clause-own c = branch-own (λ q. q < length c.args.builder.now.states) _ c.in-Some.state (branch c)

pub patch-requires-clause-sorted : goal.patch-requires-clause-sorted
patch-requires-clause-sorted c = branch-sorted (λ q. q < length c.args.builder.now.states) c.in-Some.state (branch c)

pub patch-requires-clause-silent : goal.patch-requires-clause-silent
patch-requires-clause-silent c = branch-silent (λ q. q < length c.args.builder.now.states) c.in-Some.state (branch c)

pub patch-requires-clause-inside : goal.patch-requires-clause-inside
patch-requires-clause-inside c =
    let known = rw c.unwrap-id.ensures at c.new.ensures in
    let id = known.0 in
    let less = popped-below c.args.states.items c.loop-state.left.items c.pop.new.self.items c.loop-state.invariant.done c.in-Some.state
    c.loop-state.invariant.split c.in-Some.ensures.items in
    let fits = c.requires.fits in
    let long = c.loop-state.invariant.long in
    let whole = c.pop.new.self.ok.0 in
    omega arith
