use Rattle.rx_dfa.proofs.search.forward.try_search_half_fwd.Given as goal

-- the ledger is that of the blank one
abbrev pub ghosts-find_end : goal.ghosts-find_end
ghosts-find_end g a = record { name = a.blank.name; parts = a.blank.parts }
