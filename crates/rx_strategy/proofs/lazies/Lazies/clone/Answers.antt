use Rattle.rx_strategy.proofs.lazies.Lazies.clone.Goals as goal

pub returns-clause-fits : goal.returns-clause-fits
returns-clause-fits c pair given = (c.in_ok-clone.ensures.fits pair.0 given.0, c.in_ok-clone-2.ensures.fits pair.1 given.1)
