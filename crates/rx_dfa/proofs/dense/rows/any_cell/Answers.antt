use Rattle.std.proofs.lemmas.Result.{IfOk-weaker}
use Rattle.rx_dfa.specs.Job.{dfa_in}
use Rattle.rx_dfa.proofs.lemmas.KnownLemmas.{known-grows, on-ok}
use Rattle.rx_dfa.proofs.dense.rows.any_cell.Goals as goal

pub returns-clause-known : goal.returns-clause-known
returns-clause-known c =
    on-ok c.step_cell.result _
    (known-grows (dfa_in c.args.job.now) c.args.found.now c.step_cell.new.found c.args.spread.now.known c.step_cell.ensures.grows c.requires.known)

pub returns-clause-grows : goal.returns-clause-grows
returns-clause-grows c = c.step_cell.ensures.grows

pub returns-clause-made : goal.returns-clause-made
returns-clause-made c = c.step_cell.ensures.made

pub returns-clause-room : goal.returns-clause-room
returns-clause-room c = c.step_cell.ensures.room

pub returns-clause-row : goal.returns-clause-row
returns-clause-row c = c.step_cell.ensures.row

pub returns-then-is_spread-clause-grows : goal.returns-then-is_spread-clause-grows
returns-then-is_spread-clause-grows c = c.spread_cell.ensures.grows

pub returns-then-is_spread-clause-made : goal.returns-then-is_spread-clause-made
returns-then-is_spread-clause-made c = c.spread_cell.ensures.made

pub returns-then-is_spread-clause-room : goal.returns-then-is_spread-clause-room
returns-then-is_spread-clause-room c = c.spread_cell.ensures.room

pub returns-then-is_spread-clause-row : goal.returns-then-is_spread-clause-row
returns-then-is_spread-clause-row c = c.spread_cell.ensures.row

pub returns-then-is_spread-clause-count : goal.returns-then-is_spread-clause-count
returns-then-is_spread-clause-count c = c.spread_cell.ensures.count

pub returns-then-is_spread-clause-known : goal.returns-then-is_spread-clause-known
returns-then-is_spread-clause-known c = c.spread_cell.ensures.known

pub returns-clause-count : goal.returns-clause-count
returns-clause-count c = on-ok c.step_cell.result _ c.requires.count

pub returns-clause-spread : goal.returns-clause-spread
returns-clause-spread c = on-ok c.step_cell.result _ c.requires.spread

pub returns-then-is_spread-clause-spread : goal.returns-then-is_spread-clause-spread
returns-then-is_spread-clause-spread c = IfOk-weaker c.spread_cell.result _ _ (λ _ s _. s) c.spread_cell.ensures.spread

pub step_cell-requires-clause-class : goal.step_cell-requires-clause-class
step_cell-requires-clause-class c = c.requires.class

pub step_cell-requires-clause-found : goal.step_cell-requires-clause-found
step_cell-requires-clause-found c = c.requires.found

pub step_cell-requires-clause-job : goal.step_cell-requires-clause-job
step_cell-requires-clause-job c = c.requires.job

pub step_cell-requires-clause-room : goal.step_cell-requires-clause-room
step_cell-requires-clause-room c = c.requires.room

pub step_cell-requires-clause-state : goal.step_cell-requires-clause-state
step_cell-requires-clause-state c = c.requires.state

pub spread_cell-requires-clause-class : goal.spread_cell-requires-clause-class
spread_cell-requires-clause-class c = c.requires.class

pub spread_cell-requires-clause-count : goal.spread_cell-requires-clause-count
spread_cell-requires-clause-count c = c.requires.count

pub spread_cell-requires-clause-found : goal.spread_cell-requires-clause-found
spread_cell-requires-clause-found c = c.requires.found

pub spread_cell-requires-clause-job : goal.spread_cell-requires-clause-job
spread_cell-requires-clause-job c = c.requires.job

pub spread_cell-requires-clause-known : goal.spread_cell-requires-clause-known
spread_cell-requires-clause-known c = c.requires.known

pub spread_cell-requires-clause-room : goal.spread_cell-requires-clause-room
spread_cell-requires-clause-room c = c.requires.room

pub spread_cell-requires-clause-state : goal.spread_cell-requires-clause-state
spread_cell-requires-clause-state c = c.requires.state

pub spread_cell-requires-clause-spread : goal.spread_cell-requires-clause-spread
spread_cell-requires-clause-spread c = c.requires.spread c.if-is_spread.true
