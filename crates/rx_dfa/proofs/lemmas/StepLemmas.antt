-- What a step of a lazy DFA answers.
use Rattle.std.proofs.Common.{◌≡◌, ℕ, ◌+◌, ◌*◌, ◌<◌, List, length, sym, ◌∙◌, subst, true≢false}
use Rattle.std.specs.Prelude.{false, Option, Result}
use Rattle.std.specs.Result.{IfErr}
use Rattle.std.proofs.lemmas.Result.{IfErr-weaker}
use Rattle.rx_determinize.specs.Key.{Key, is_dead}
use Rattle.rx_dfa.specs.Automaton.{StepFails}
use Rattle.rx_dfa.specs.Lazy.{LazyValue, StandsFor, dead_state}
use Rattle.rx_dfa.specs.LazyCache.{AreRowsOf, GaveUpOn, RoomFails}
use Rattle.rx_dfa.specs.declared.lazy.rows.Rows.{Rows}
use Rattle.rx_dfa.specs.declared.step_error.StepError.{StepError}
use Rattle.rx_dfa.specs.declared.step_error.StepError.TheVariants.{Quit as QuitsAt, GaveUp as GivesUp, Memory as WantsMemory}
use Rattle.rx_dfa.proofs.lemmas.HeldLemmas.{held-dead}
use Rattle.rx_dfa.proofs.lemmas.RowsLemmas.{inside}

-- the dead state stands for no key that is alive
pub dead-alive : (stride : ℕ) (keys : List Key) (state : ℕ) (k : Key) → StandsFor stride keys state k → state ≡ dead_state → is_dead k ≡ false
    → (P : Type 0) → P
dead-alive stride keys state k h same alive P = absurd (true≢false (sym (held-dead stride keys state k h same) ∙ alive))

room-fails : (l : LazyValue) (rows : Rows) (byte : Option ℕ) (e : StepError) → RoomFails l rows e
    → StepFails l.dfa.nfa byte (GaveUpOn l rows) (Unit {0}) e
room-fails l rows byte (QuitsAt quit) h = absurd h
room-fails l rows byte GivesUp h = h
room-fails l rows byte WantsMemory h = h

-- a step fails as the room for its state does
pub step-room : (l : LazyValue) (rows : Rows) (byte : Option ℕ) (r : Result ℕ StepError) → IfErr r (RoomFails l rows)
    → IfErr r (StepFails l.dfa.nfa byte (GaveUpOn l rows) (Unit {0}))
step-room l rows byte r h =
    IfErr-weaker r (RoomFails l rows) (StepFails l.dfa.nfa byte (GaveUpOn l rows) (Unit {0})) (λ e f. room-fails l rows byte e f) h

-- a cell of a row stands in the table
pub cell-inside : (l : LazyValue) (r : Rows) → AreRowsOf l r → (row column stride : ℕ) → stride ≡ l.stride → row < length r.keys → column < l.stride
    → row * stride + column < length r.cells.items
cell-inside l r h row column stride same below narrow =
    subst (λ n. row * n + column < length r.cells.items) (sym same) (inside (length r.keys) l.stride row column (length r.cells.items) h.len below narrow)
