use Rattle.rx_dfa.proofs.search.overlapping.try_which_overlapping.Given as goal

-- the ledger is that of the blank one
abbrev pub ghosts-fill : goal.ghosts-fill
ghosts-fill g a = record { name = a.blank.name; parts = a.blank.parts }
