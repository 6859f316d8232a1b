use Rattle.std.proofs.Common.{◌≡◌, ◌+◌, ◌-◌, length}
use Rattle.rx_dfa.specs.ClassLists.{class_count}
use Rattle.rx_dfa.specs.Spread.{AreKnown}
use Rattle.rx_dfa.specs.Scratch.{room_of}
use Rattle.rx_dfa.specs.Found.{AreFound, Grows}
use Rattle.rx_dfa.specs.Job.{dfa_in}
use Rattle.rx_dfa.specs.Work.{AreFilled, AreWithin}
use Rattle.rx_dfa.proofs.dense.rows.fill.Given as goal

abbrev pub invariant-rows : goal.invariant-rows
invariant-rows l = record {
  room : room_of l.desk.scratch ≡ length l.job.source.states.now;
  grows : Grows l.fn.found l.found;
  found : AreFound (dfa_in l.job) l.found;
  count : class_count l.spread.lists ≡ length l.job.alphabet.now.bytes.items;
  known : AreKnown (dfa_in l.job) l.found l.spread.known;
  within : AreWithin l.found l.cells;
  filled : AreFilled (dfa_in l.job) l.found l.cells;
}

abbrev pub decreases-rows : goal.decreases-rows
decreases-rows l = 2147483648 - (l.cells.plain_rows + l.cells.special_rows)
