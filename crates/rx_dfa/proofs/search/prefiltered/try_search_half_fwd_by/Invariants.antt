use Rattle.rx_dfa.proofs.search.prefiltered.try_search_half_fwd_by.Given as goal

-- the ledger is that of the blank one
abbrev pub ghosts-find_end_by : goal.ghosts-find_end_by
ghosts-find_end_by g a = record { name = a.blank.name; parts = a.blank.parts }
