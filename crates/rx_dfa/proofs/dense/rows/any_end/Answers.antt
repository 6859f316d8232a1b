use Rattle.rx_dfa.proofs.dense.rows.any_end.Goals as goal

pub returns-clause-grows : goal.returns-clause-grows
returns-clause-grows c = c.end_cell.ensures.grows

pub returns-then-is_spread-clause-grows : goal.returns-then-is_spread-clause-grows
returns-then-is_spread-clause-grows c = c.spread_end.ensures.grows

pub returns-clause-made : goal.returns-clause-made
returns-clause-made c = c.end_cell.ensures.made

pub returns-then-is_spread-clause-made : goal.returns-then-is_spread-clause-made
returns-then-is_spread-clause-made c = c.spread_end.ensures.made

pub returns-clause-room : goal.returns-clause-room
returns-clause-room c = c.end_cell.ensures.room

pub returns-then-is_spread-clause-room : goal.returns-then-is_spread-clause-room
returns-then-is_spread-clause-room c = c.spread_end.ensures.room

pub returns-clause-row : goal.returns-clause-row
returns-clause-row c = c.end_cell.ensures.row

pub returns-then-is_spread-clause-row : goal.returns-then-is_spread-clause-row
returns-then-is_spread-clause-row c = c.spread_end.ensures.row

pub end_cell-requires-clause-found : goal.end_cell-requires-clause-found
end_cell-requires-clause-found c = c.requires.found

pub spread_end-requires-clause-found : goal.spread_end-requires-clause-found
spread_end-requires-clause-found c = c.requires.found

pub end_cell-requires-clause-job : goal.end_cell-requires-clause-job
end_cell-requires-clause-job c = c.requires.job

pub spread_end-requires-clause-job : goal.spread_end-requires-clause-job
spread_end-requires-clause-job c = c.requires.job

pub end_cell-requires-clause-room : goal.end_cell-requires-clause-room
end_cell-requires-clause-room c = c.requires.room

pub spread_end-requires-clause-room : goal.spread_end-requires-clause-room
spread_end-requires-clause-room c = c.requires.room

pub end_cell-requires-clause-state : goal.end_cell-requires-clause-state
end_cell-requires-clause-state c = c.requires.state

pub spread_end-requires-clause-state : goal.spread_end-requires-clause-state
spread_end-requires-clause-state c = c.requires.state

pub spread_end-requires-clause-spread : goal.spread_end-requires-clause-spread
spread_end-requires-clause-spread c = c.requires.spread c.if-is_spread.true
