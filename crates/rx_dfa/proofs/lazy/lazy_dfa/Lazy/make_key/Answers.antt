use Rattle.rx_dfa.proofs.lazy.lazy_dfa.Lazy.make_key.Goals as goal

pub make_next-requires-clause-below : goal.make_next-requires-clause-below
make_next-requires-clause-below c = (c.requires.fits.rows.keys c.args.row _ c.in_ok-read.ensures).below
