use Rattle.rx_dfa.proofs.search.reverse.try_search_half_rev.Given as goal

-- the ledger is that of the blank one
abbrev pub ghosts-find_start : goal.ghosts-find_start
ghosts-find_start g a = record { name = a.blank.name; parts = a.blank.parts }
