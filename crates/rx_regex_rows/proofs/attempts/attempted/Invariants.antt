use Rattle.rx_regex_rows.proofs.attempts.attempted.Given as goal

abbrev pub ghosts-attempt : goal.ghosts-attempt
ghosts-attempt g a = record { name = a.blank.name; parts = a.blank.parts }
