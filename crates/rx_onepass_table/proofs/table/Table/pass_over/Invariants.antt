use Rattle.std.proofs.Common.{◌≡◌, ◌≤◌, ◌<◌, ◌-◌, length}
use Rattle.rx_model.specs.Runs.{everywhere}
use Rattle.rx_onepass_table.specs.Along.{walk}
use Rattle.rx_onepass_table.specs.Search.{IsSearching, IsSmall, shown}
use Rattle.rx_onepass_table.proofs.table.Table.pass_over.Given as goal

abbrev pub invariant-loop-at : goal.invariant-loop-at
invariant-loop-at l = record {
  inside : l.current < l.self.rows;
  room : length l.places ≡ length l.out;
  places_len : length l.places ≡ length l.initial.places;
  out_len : length l.out ≡ length l.initial.out;
  within : l.end ≤ length l.text;
  left : l.at ≤ l.end;
  small : IsSmall l.left;
  searching : IsSearching l.nfa l.self l.may_win l.text
      (walk l.nfa l.self l.may_win everywhere l.text (l.end - l.initial.at) l.initial.at l.row) (l.end - l.at) l.at l.current l.places l.best
      (shown l.left l.places l.out);
}

abbrev pub decreases-loop-at : goal.decreases-loop-at
decreases-loop-at l = l.end - l.at
