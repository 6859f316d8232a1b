use Rattle.rx_dfa.proofs.dense.spread.Spread.take.Goals as goal

pub returns-clause-spread : goal.returns-clause-spread
returns-clause-spread c is = record {
  threads = c.stay_whatever.new.scratch.threads.items;
  stay = c.in_ok-stay.ensures.threads c.if-not-stay.false;
  below = c.in_ok-stay.ensures.below;
  parts = c.in_ok-spread_out.ensures.parts;
}
