use Rattle.rx_strategies.proofs.suffix.ReverseSuffix.search_half.Given as goal

abbrev pub ghosts-attempt : goal.ghosts-attempt
ghosts-attempt a = record { name = a.blank.name; parts = a.blank.parts }
