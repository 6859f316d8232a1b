-- The frames of a closure.
use Rattle.std.proofs.Common.{◌≡◌, ℕ, ◌<◌, ◌≤◌, List, [], ◌∷◌, ◌++◌, refl, sym, ◌∙◌, ap, subst, arith, true≢false}
use Rattle.std.specs.Prelude.{Bool, true, false, not, Option, Some, None, if◌then◌else◌}
use Rattle.rx_nfa.specs.Automaton.{at, automaton}
use Rattle.rx_engines.specs.Walk.{Slots, AllWithin, explore_all, going_to, Yields}
use Rattle.rx_engines.specs.Onward.{frames_of, onto}
use Rattle.rx_engines.specs.declared.frame.Frame.{Frame}
use Rattle.rx_nfa.specs.Automaton.{state_at}
use Rattle.rx_nfa.specs.declared.state.State.{State}
use Rattle.rx_engines.specs.declared.frame.Frame.TheVariants.{Explore}
use Rattle.rx_nfa.specs.Ordered.{is_resting}
use Rattle.rx_engines.specs.Simulation.{Visited, rests}

-- on to the state where the test holds
pub AllWithin-taken : (n i : ℕ) (b : Bool) (next : ℕ) (frames : List Frame) → next < n → AllWithin n i i frames
    → AllWithin n i i (explore_all (if b then at next i ∷ [] else []) ++ frames)
AllWithin-taken n i true next frames lt here = (lt, omega arith, omega arith, here)
AllWithin-taken n i false next frames lt here = here

-- the frame that was taken off
pub on_top : {n i : ℕ} {stack rest : List Frame} {frame : Frame} {q j : ℕ} → AllWithin n i i stack → stack ≡ frame ∷ rest → frame ≡ Explore q j
    → (stack ≡ Explore q i ∷ rest) × (q < n) × AllWithin n i i rest
on_top {n} {i} {stack} {rest} {frame} {q} {j} here off is =
    let popped : stack ≡ Explore q j ∷ rest = off ∙ ap (λ f. f ∷ rest) is in
    let all = subst (AllWithin n i i) popped here in
    let above = all.1 in
    let below = all.2 in
    let same : j ≡ i = omega arith in
    (popped ∙ ap (λ k. Explore q k ∷ rest) same, all.0, all.3)

pub not-true : (b : Bool) → true ≡ not b → b ≡ false
not-true true h = absurd (true≢false h)
not-true false h = refl

pub not-false : (b : Bool) → false ≡ not b → b ≡ true
not-false true h = refl
not-false false h = absurd (true≢false (sym h))

-- on to a state, or back to the stack
pub going-onto : (T : Type 0) (o : Option ℕ) (i : ℕ) (frames : List Frame) → frames_of {T = T} (onto o i) frames ≡ going_to o i frames
going-onto T None i frames = refl
going-onto T (Some q) i frames = refl

pub Visited-onward : (T : Type 0) (terminator : ℕ) (states : List State) (text : List ℕ) (q i : ℕ) (o : Option ℕ) (frames left : List Frame)
    (slots slots' : Slots) → is_resting (state_at states q) ≡ false
    → ((end : ℕ) → i ≤ end → Yields (automaton terminator states text end) (at q i) frames (frames_of {T = T} (onto o i) left) slots slots')
    → Visited terminator states text q i (rests {T = T} (onto o i)) frames (frames_of {T = T} (onto o i) left) slots slots'
Visited-onward T terminator states text q i None frames left slots slots' moves e = (moves, e)
Visited-onward T terminator states text q i (Some next) frames left slots slots' moves e = (moves, e)
