use Rattle.std.proofs.Common.{◌≡◌, length}
use Rattle.std.specs.Prelude.{true}
use Rattle.rx_dfa.specs.ClassLists.{class_count}
use Rattle.rx_dfa.specs.Spread.{IsSpread, AreKnown}
use Rattle.rx_dfa.specs.StateKey.{key_of}
use Rattle.rx_dfa.specs.Scratch.{room_of}
use Rattle.rx_dfa.specs.Found.{IsNumber, AreFound, Grows}
use Rattle.rx_dfa.specs.Job.{dfa_in}
use Rattle.rx_dfa.specs.Work.{IsPart}
use Rattle.rx_dfa.proofs.dense.rows.push_row.Given as goal

abbrev pub invariant-loop-class : goal.invariant-loop-class
invariant-loop-class l = record {
  room : room_of l.desk.scratch ≡ length l.job.source.states.now;
  row : l.desk.row ≡ l.fn.desk.row;
  grows : Grows l.fn.found l.found;
  found : AreFound (dfa_in l.job) l.found;
  count : class_count l.spread.lists ≡ length l.job.alphabet.now.bytes.items;
  known : AreKnown (dfa_in l.job) l.found l.spread.known;
  spread : l.is_spread ≡ true → IsSpread (dfa_in l.job) (key_of l.fn.desk.row) l.spread;
  part : IsPart (dfa_in l.job) (IsNumber l.found) (key_of l.fn.desk.row) l.class l.fn.cells.items l.cells.items;
}
