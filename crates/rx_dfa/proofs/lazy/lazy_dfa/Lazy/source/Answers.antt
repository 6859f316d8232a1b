use Rattle.rx_dfa.proofs.lazy.lazy_dfa.Lazy.source.Goals as goal

pub returns-clause-whole : goal.returns-clause-whole
returns-clause-whole c = record {
  names = rw c.states.ensures.value c.states.ensures.in_range.names;
  start = rw (c.start_anchored.ensures.value, c.states.ensures.value) c.states.ensures.in_range.start_anchored;
}
