use Rattle.std.proofs.Common.{◌≡◌, ◌+◌, ◌-◌, ◌≤◌}
use Rattle.std.specs.Prelude.{false, slice_index}
use Rattle.rx_determinize.specs.Key.{Key, is_dead}
use Rattle.rx_dfa.proofs.lemmas.PassLemmas.{IsUnderWay}
use Rattle.rx_dfa.proofs.search.forward.pass.Given as goal

abbrev pub invariant-plain : goal.invariant-plain
invariant-plain g l = record {
  low : l.from ≤ l.at;
  high : l.at ≤ l.end;
  some : (key : Key) × g.A.Automaton.holds l.dfa l.cache l.here key;
  way : (key : Key) → g.A.Automaton.holds l.dfa l.fn.cache l.fn.state key → is_dead key ≡ false
      → IsUnderWay (g.A.Automaton.holds l.dfa l.cache) (g.A.Automaton.dfa l.dfa) (λ i. slice_index l.haystack (l.from + i)) key (l.at - l.from) l.here;
  fits : g.A.Automaton.fits l.dfa l.cache;
}

abbrev pub decreases-plain : goal.decreases-plain
decreases-plain g l = l.end - l.at
