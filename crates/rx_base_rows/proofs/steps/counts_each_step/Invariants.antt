use Rattle.rx_base_rows.proofs.steps.counts_each_step.Given as goal

-- the ledger is that of the blank one
abbrev pub ghosts-none_and_three : goal.ghosts-none_and_three
ghosts-none_and_three g a = record { name = a.blank.name; parts = a.blank.parts }
