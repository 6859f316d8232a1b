use Rattle.std.proofs.Common.{ℕ, length, refl, ◌∙◌, ap, arith}
use Rattle.rx_engines.proofs.lemmas.threads.SimulationLemmas.{Waits-vain, Waits-over}
use Rattle.std.proofs.lemmas.List.{length-replicate}
use Rattle.std.specs.Prelude.{Option, None}
use Rattle.rx_engines.specs.Threads.{Cells}
use Rattle.rx_engines.proofs.pikevm.seed.begin.Goals as goal

pub returns-then-is_vain-clause-closed : goal.returns-then-is_vain-clause-closed
returns-then-is_vain-clause-closed c end later goal le stable w =
    Waits-over (Waits-vain stable w (c.is_vain.ensures c.if-is_vain.true c.args.search.now.matcher c.args.search.now.text.now end c.args.place le))

pub returns-clause-closed : goal.returns-clause-closed
returns-clause-closed c end later goal le stable w = c.close.ensures.closed end later goal le stable (rw c.clear.ensures w)

pub clear-requires : goal.clear-requires
clear-requires c = tt

pub close-requires-clause-empty : goal.close-requires-clause-empty
close-requires-clause-empty c = c.requires.empty

pub close-requires-clause-place : goal.close-requires-clause-place
close-requires-clause-place c = omega arith

pub close-requires-clause-search : goal.close-requires-clause-search
close-requires-clause-search c = c.requires.search

pub close-requires-clause-set : goal.close-requires-clause-set
close-requires-clause-set c = c.requires.set

pub close-requires-clause-stack : goal.close-requires-clause-stack
close-requires-clause-stack c = c.requires.stack

pub close-requires-clause-state : goal.close-requires-clause-state
close-requires-clause-state c = c.requires.search.start

pub close-requires-clause-table : goal.close-requires-clause-table
close-requires-clause-table c = c.requires.table

pub is_vain-requires-clause-from : goal.is_vain-requires-clause-from
is_vain-requires-clause-from c = c.requires.search.start

pub is_vain-requires-clause-names : goal.is_vain-requires-clause-names
is_vain-requires-clause-names c = c.requires.search.names

pub is_vain-requires-clause-room : goal.is_vain-requires-clause-room
is_vain-requires-clause-room c = c.requires.set

pub returns-clause-capacity : goal.returns-clause-capacity
returns-clause-capacity c = c.close.ensures.capacity

pub returns-clause-empty : goal.returns-clause-empty
returns-clause-empty c = c.close.ensures.empty

pub returns-clause-set : goal.returns-clause-set
returns-clause-set c = c.close.ensures.set

pub returns-clause-stack : goal.returns-clause-stack
returns-clause-stack c = c.close.ensures.stack

pub returns-clause-table : goal.returns-clause-table
returns-clause-table c = c.close.ensures.table

pub returns-clause-width : goal.returns-clause-width
returns-clause-width c = c.close.ensures.width

pub returns-then-is_vain-clause-capacity : goal.returns-then-is_vain-clause-capacity
returns-then-is_vain-clause-capacity c = refl

pub returns-then-is_vain-clause-empty : goal.returns-then-is_vain-clause-empty
returns-then-is_vain-clause-empty c = c.requires.empty

pub returns-then-is_vain-clause-kept : goal.returns-then-is_vain-clause-kept
returns-then-is_vain-clause-kept c = refl

pub returns-then-is_vain-clause-set : goal.returns-then-is_vain-clause-set
returns-then-is_vain-clause-set c = refl

pub returns-then-is_vain-clause-slots : goal.returns-then-is_vain-clause-slots
returns-then-is_vain-clause-slots c = refl

pub returns-then-is_vain-clause-stack : goal.returns-then-is_vain-clause-stack
returns-then-is_vain-clause-stack c = refl

pub returns-then-is_vain-clause-table : goal.returns-then-is_vain-clause-table
returns-then-is_vain-clause-table c = refl

pub returns-then-is_vain-clause-width : goal.returns-then-is_vain-clause-width
returns-then-is_vain-clause-width c = refl

pub close-requires-clause-width : goal.close-requires-clause-width
close-requires-clause-width c =
    let same = length-replicate {A = Option ℕ} (length c.args.walk.now.slots.items) None in
    ap (λ (r : Cells). length r.items) c.clear.ensures ∙ same ∙ c.requires.width

pub returns-clause-slots : goal.returns-clause-slots
returns-clause-slots c =
    let same = length-replicate {A = Option ℕ} (length c.args.walk.now.slots.items) None in
    c.close.ensures.slots ∙ ap (λ (r : Cells). length r.items) c.clear.ensures ∙ same

pub returns-clause-kept : goal.returns-clause-kept
returns-clause-kept c = c.close.ensures.kept ∙ ap (λ (r : Cells). r.room) c.clear.ensures
