use Rattle.std.proofs.Common.{◌≡◌, ◌<◌, ◌-◌, ◌∷◌, ◌++◌, [], length, reverse, refl, sym, ◌∙◌, ap, subst, arith}
use Rattle.std.specs.Prelude.{true, false, if◌then◌else◌}
use Rattle.std.proofs.lemmas.List.{nil_from_length}
use Rattle.std.proofs.lemmas.List.Elements.{All-head, All-tail}
use Rattle.rx_nfa.specs.Automaton.{state_at}
use Rattle.rx_nfa.specs.Ordered.{AreBelow, has, close, epsilon_successors}
use Rattle.rx_nfa.specs.declared.state.State.{State}
use Rattle.rx_nfa.proofs.lemmas.runs.StateLemmas.{state-known}
use Rattle.rx_determinize.proofs.lemmas.ArrivedLemmas.{goes_on-below}
use Rattle.rx_dfa.specs.Beside.{known}
use Rattle.rx_dfa.proofs.lemmas.CloseLemmas.{close-full, close-done, takes-known, less-known, takes-new, less-new, on-top, not-true, not-false}
use Rattle.rx_dfa.proofs.close.close.Goals as goal

pub returns-in_default-clause-closed : goal.returns-in_default-clause-closed
returns-in_default-clause-closed c =
    let states = c.args.states.now in
    let holding = known c.args.matcher.now c.args.beside in
    let stack = c.loop-beside.walk.stack in
    let seen = c.loop-beside.walk.seen.items.items in
    let ok = stack.ok.0 in
    let zero = c.in_default.ensures.cases.0 in
    let none : stack.items ≡ [] = nil_from_length stack.items (omega arith) in
    sym (close-done states holding (length states - length seen) seen)
    ∙ ap (λ xs. close states holding (length states - length seen) (reverse xs) seen) (sym none)
    ∙ c.loop-beside.invariant.same

pub returns-clause-closed : goal.returns-clause-closed
returns-clause-closed c =
    let states = c.args.states.now in
    let seen = c.loop-beside.walk.seen.items in
    let ok = seen.ok.0 in
    sym (close-full states (known c.args.matcher.now c.args.beside) (length states) (length seen.items) (reverse c.loop-beside.walk.stack.items) seen.items
    (omega arith))
    ∙ c.loop-beside.invariant.same

pub insert-requires : goal.insert-requires
insert-requires c =
    let n = length c.args.states.now in
    let top = on-top c.loop-beside.walk.stack.items c.pop.new.self.items c.in-Some.state c.in-Some.ensures.items in
    let low = All-head (λ q. q < n) c.in-Some.state (reverse c.pop.new.self.items) (subst (AreBelow n) top c.loop-beside.invariant.below) in
    let room = c.loop-beside.invariant.room in
    omega arith

pub bounds-states-as_usize : goal.bounds-states-as_usize
bounds-states-as_usize c =
    let n = length c.args.states.now in
    let top = on-top c.loop-beside.walk.stack.items c.pop.new.self.items c.in-Some.state c.in-Some.ensures.items in
    let low = All-head (λ q. q < n) c.in-Some.state (reverse c.pop.new.self.items) (subst (AreBelow n) top c.loop-beside.invariant.below) in
    let same = c.as_usize.ensures.value in
    omega arith

pub loop-beside-smaller-in-Continue-branch-3 : goal.loop-beside-smaller-in-Continue-branch-3
loop-beside-smaller-in-Continue-branch-3 c =
    let states = c.args.states.now in
    let n = length states in
    let q = c.in-Some.state in
    let rest = c.pop.new.self.items in
    let seen = c.loop-beside.walk.seen.items in
    let ok = seen.ok.0 in
    let holding = known c.args.matcher.now c.args.beside in
    let top = on-top c.loop-beside.walk.stack.items rest q c.in-Some.ensures.items in
    let low = All-head (λ q. q < n) q (reverse rest) (subst (AreBelow n) top c.loop-beside.invariant.below) in
    let new : has seen.items q ≡ false = not-true (has seen.items q) (sym c.in_ok-insert.ensures.new ∙ c.if-branch.true) in
    let more : c.insert.new.self.items.items ≡ seen.items ++ q ∷ [] =
    c.in_ok-insert.ensures.items ∙ ap (λ b. if b then seen.items ++ q ∷ [] else seen.items) c.if-branch.true in
    let is : state_at states q ≡ c.index-states-as_usize.result =
    state-known states c.as_usize.result q c.index-states-as_usize.result c.index-states-as_usize.result c.as_usize.ensures.value low
    c.index-states-as_usize.is refl in
    let on : reverse c.go_on.new.stack.items ≡ epsilon_successors holding (state_at states q) ++ reverse rest =
    c.in_ok-go_on.ensures ∙ ap (λ (s : State). epsilon_successors holding s ++ reverse rest) (sym is) in
    less-new states holding n q (reverse rest) seen.items (reverse c.loop-beside.walk.stack.items) c.insert.new.self.items.items
    (reverse c.go_on.new.stack.items)
    (omega arith) top new more on

pub loop-beside-preserved-in-Continue-branch-3 : goal.loop-beside-preserved-in-Continue-branch-3
loop-beside-preserved-in-Continue-branch-3 c =
    let states = c.args.states.now in
    let n = length states in
    let q = c.in-Some.state in
    let rest = c.pop.new.self.items in
    let seen = c.loop-beside.walk.seen.items in
    let ok = seen.ok.0 in
    let holding = known c.args.matcher.now c.args.beside in
    let top = on-top c.loop-beside.walk.stack.items rest q c.in-Some.ensures.items in
    let whole = subst (AreBelow n) top c.loop-beside.invariant.below in
    let low = All-head (λ q. q < n) q (reverse rest) whole in
    let new : has seen.items q ≡ false = not-true (has seen.items q) (sym c.in_ok-insert.ensures.new ∙ c.if-branch.true) in
    let more : c.insert.new.self.items.items ≡ seen.items ++ q ∷ [] =
    c.in_ok-insert.ensures.items ∙ ap (λ b. if b then seen.items ++ q ∷ [] else seen.items) c.if-branch.true in
    let is : state_at states q ≡ c.index-states-as_usize.result =
    state-known states c.as_usize.result q c.index-states-as_usize.result c.index-states-as_usize.result c.as_usize.ensures.value low
    c.index-states-as_usize.is refl in
    let on : reverse c.go_on.new.stack.items ≡ epsilon_successors holding (state_at states q) ++ reverse rest =
    c.in_ok-go_on.ensures ∙ ap (λ (s : State). epsilon_successors holding s ++ reverse rest) (sym is) in
    record {
      same = takes-new states holding n q (reverse rest) seen.items (reverse c.loop-beside.walk.stack.items) c.insert.new.self.items.items
          (reverse c.go_on.new.stack.items) (omega arith) top new more on _ c.loop-beside.invariant.same;
      below = subst (AreBelow n) (sym on) (goes_on-below states c.requires.names holding q (reverse rest) whole);
      room = c.insert.ensures.room ∙ c.loop-beside.invariant.room;
    }

pub loop-beside-smaller : goal.loop-beside-smaller
loop-beside-smaller c =
    let states = c.args.states.now in
    let n = length states in
    let q = c.in-Some.state in
    let rest = c.pop.new.self.items in
    let seen = c.loop-beside.walk.seen.items in
    let ok = seen.ok.0 in
    let top = on-top c.loop-beside.walk.stack.items rest q c.in-Some.ensures.items in
    let old : has seen.items q ≡ true = not-false (has seen.items q) (sym c.in_ok-insert.ensures.new ∙ c.if-branch.false) in
    let same : c.insert.new.self.items.items ≡ seen.items =
    c.in_ok-insert.ensures.items ∙ ap (λ b. if b then seen.items ++ q ∷ [] else seen.items) c.if-branch.false in
    less-known states (known c.args.matcher.now c.args.beside) n q (reverse rest) seen.items (reverse c.loop-beside.walk.stack.items)
    c.insert.new.self.items.items [] (omega arith) top old same

pub loop-beside-preserved : goal.loop-beside-preserved
loop-beside-preserved c =
    let states = c.args.states.now in
    let n = length states in
    let q = c.in-Some.state in
    let rest = c.pop.new.self.items in
    let seen = c.loop-beside.walk.seen.items in
    let ok = seen.ok.0 in
    let top = on-top c.loop-beside.walk.stack.items rest q c.in-Some.ensures.items in
    let old : has seen.items q ≡ true = not-false (has seen.items q) (sym c.in_ok-insert.ensures.new ∙ c.if-branch.false) in
    let same : c.insert.new.self.items.items ≡ seen.items =
    c.in_ok-insert.ensures.items ∙ ap (λ b. if b then seen.items ++ q ∷ [] else seen.items) c.if-branch.false in
    record {
      same = takes-known states (known c.args.matcher.now c.args.beside) n q (reverse rest) seen.items (reverse c.loop-beside.walk.stack.items)
          c.insert.new.self.items.items [] (omega arith) top old same _ c.loop-beside.invariant.same;
      below = All-tail (λ q. q < n) q (reverse rest) (subst (AreBelow n) top c.loop-beside.invariant.below);
      room = c.insert.ensures.room ∙ c.loop-beside.invariant.room;
    }
