use Rattle.rx_dfa.specs.States.{IsState}
use Rattle.std.proofs.Common.{◌≡◌, ℕ, ◌+◌, ◌++◌, ◌∷◌, [], length, refl, sym, ◌∙◌, subst, arith}
use Rattle.std.specs.Prelude.{slice_index}
use Rattle.std.proofs.lemmas.Result.{err_from_is_err_and}
use Rattle.rx_dfa.specs.Automaton.{last_key}
use Rattle.rx_dfa.specs.StateKey.{key_of}
use Rattle.rx_dfa.specs.Job.{dfa_in}
use Rattle.rx_dfa.specs.Table.{quit, IsCell}
use Rattle.rx_dfa.specs.Found.{IsNumber}
use Rattle.rx_dfa.specs.Spread.{IsSpread, AreKnown}
use Rattle.rx_dfa.specs.Work.{IsPart}
use Rattle.rx_dfa.specs.declared.state_key.StateKey.{StateKey}
use Rattle.rx_dfa.proofs.lemmas.ErrorLemmas.{refused-before}
use Rattle.rx_dfa.proofs.lemmas.RowLemmas.{number-grows, grows-same, grows-on, part-none, part-push}
use Rattle.rx_dfa.proofs.lemmas.FindLemmas.{memory-refused}
use Rattle.rx_dfa.proofs.lemmas.FilledLemmas.{row-made, unmade}
use Rattle.rx_dfa.proofs.lemmas.KnownLemmas.{known-grows}
use Rattle.rx_dfa.proofs.dense.rows.push_row.Goals as goal

pub loop-class-init : goal.loop-class-init
loop-class-init c = record {
  room = c.in_ok-is_spread.ensures.room;
  row = refl;
  grows = grows-same c.args.found.now;
  found = c.requires.found;
  count = c.in_ok-is_spread.ensures.count ∙ c.requires.count;
  known = subst (AreKnown (dfa_in c.args.job.now) c.args.found.now) (sym c.in_ok-is_spread.ensures.known) c.requires.known;
  spread = c.in_ok-is_spread.ensures.spread;
  part = part-none (dfa_in c.args.job.now) (IsNumber c.args.found.now) (key_of c.args.desk.now.row) c.args.cells.now.items;
}

pub returns-in_err-is_spread-clause-grows : goal.returns-in_err-is_spread-clause-grows
returns-in_err-is_spread-clause-grows c = grows-same c.args.found.now

pub returns-in_err-is_spread-clause-made : goal.returns-in_err-is_spread-clause-made
returns-in_err-is_spread-clause-made c =
    let e = err_from_is_err_and c.from_residual.result c.from_residual.ensures.1 in
    record {
      found = c.requires.found;
      ok = rw (e.1) tt;
      err = rw (e.1) (memory-refused (dfa_in c.args.job.now) c.args.found.now.stride c.args.found.now.limit e.0 e.2);
    }

pub returns-clause-known : goal.returns-clause-known
returns-clause-known c =
    known-grows (dfa_in c.args.job.now) c.loop-class.found c.any_end.new.found c.loop-class.spread.known c.in_ok-last.ensures.grows c.loop-class.invariant.known

pub returns-in_err-cell-clause-grows : goal.returns-in_err-cell-clause-grows
returns-in_err-cell-clause-grows c = grows-on _ _ _ c.loop-class.invariant.grows c.in_err-cell.ensures.grows

pub returns-in_err-push-clause-grows : goal.returns-in_err-push-clause-grows
returns-in_err-push-clause-grows c = grows-on _ _ _ c.loop-class.invariant.grows c.in_ok-cell.ensures.grows

pub loop-class-preserved : goal.loop-class-preserved
loop-class-preserved c =
    let d = dfa_in c.args.job.now in
    let class = c.loop-class.class in
    let cell = c.in_ok-cell.cell in
    let items : c.push.new.self.items ≡ c.loop-class.cells.items ++ cell ∷ [] = c.in_ok-push.ensures.items in
    let is = c.in_ok-cell.ensures.made.ok in
    record {
      room = c.in_ok-cell.ensures.room;
      row = c.in_ok-cell.ensures.row ∙ c.loop-class.invariant.row;
      grows = grows-on _ _ _ c.loop-class.invariant.grows c.in_ok-cell.ensures.grows;
      found = c.in_ok-cell.ensures.made.found;
      count = c.in_ok-cell.ensures.count;
      known = c.in_ok-cell.ensures.known;
      spread = λ is. subst (λ (r : StateKey). IsSpread (dfa_in c.args.job.now) (key_of r) c.any_cell.new.spread) c.loop-class.invariant.row
          (c.in_ok-cell.ensures.spread is);
      part = subst (IsPart d (IsNumber c.any_cell.new.found) (key_of c.args.desk.now.row) (class + 1) c.args.cells.now.items) (sym items)
          (part-push d (IsNumber c.loop-class.found) (IsNumber c.any_cell.new.found) (number-grows _ _ c.in_ok-cell.ensures.grows)
          (key_of c.args.desk.now.row) class
          c.args.cells.now.items c.loop-class.cells.items cell c.loop-class.invariant.part
          (λ lt. subst (λ (r : StateKey). IsCell d (IsNumber c.any_cell.new.found) (slice_index d.bytes class) (key_of r) cell) c.loop-class.invariant.row
          is));
    }

pub returns-in_err-last-clause-grows : goal.returns-in_err-last-clause-grows
returns-in_err-last-clause-grows c = grows-on _ _ _ c.loop-class.invariant.grows c.in_err-last.ensures.grows

pub returns-in_err-push-2-clause-grows : goal.returns-in_err-push-2-clause-grows
returns-in_err-push-2-clause-grows c = grows-on _ _ _ c.loop-class.invariant.grows c.in_ok-last.ensures.grows

pub returns-in_err-resize-clause-grows : goal.returns-in_err-resize-clause-grows
returns-in_err-resize-clause-grows c = grows-on _ _ _ c.loop-class.invariant.grows c.in_ok-last.ensures.grows

pub returns-in_err-resize-clause-made : goal.returns-in_err-resize-clause-made
returns-in_err-resize-clause-made c =
    let e = err_from_is_err_and c.from_residual-in_err-resize.result c.from_residual-in_err-resize.ensures.1 in
    record {
      found = c.in_ok-last.ensures.made.found;
      ok = rw (e.1) tt;
      err = rw (e.1) (memory-refused (dfa_in c.args.job.now) c.args.found.now.stride c.args.found.now.limit e.0 e.2);
    }

pub returns-clause-grows : goal.returns-clause-grows
returns-clause-grows c = grows-on _ _ _ c.loop-class.invariant.grows c.in_ok-last.ensures.grows

pub returns-clause-made : goal.returns-clause-made
returns-clause-made c =
    let d = dfa_in c.args.job.now in
    let k = key_of c.args.desk.now.row in
    let last = c.in_ok-last.last in
    let here : c.push-2.new.self.items ≡ c.loop-class.cells.items ++ last ∷ [] = c.in_ok-push-2.ensures.items in
    let is = c.in_ok-last.ensures.made.ok in
    let part = c.loop-class.invariant.part in
    let all : c.loop-class.class ≡ length d.bytes =
    omega (arith, c.args.job.now.alphabet.now.bytes.ok.0, c.loop-class-test.false, c.loop-class.auto.class-end) in
    record {
      found = c.in_ok-last.ensures.made.found;
      ok = row-made d (IsNumber c.loop-class.found) (IsNumber c.any_end.new.found) (number-grows _ _ c.in_ok-last.ensures.grows) k c.args.found.now.stride
          c.args.cells.now.items c.loop-class.cells.items c.push-2.new.self.items c.resize.new.self.items last (c.len.result + c.args.found.now.stride)
          c.push-2.new.self.len quit c.requires.wide
          (subst (λ (n : ℕ). IsPart d (IsNumber c.loop-class.found) k n c.args.cells.now.items c.loop-class.cells.items) all part)
          (subst (λ (r : StateKey). IsNumber c.any_end.new.found last (last_key d (key_of r))) c.loop-class.invariant.row is) here
          (omega (arith, c.args.cells.now.ok.0)) c.push-2.new.self.ok.0 c.in_ok-resize.ensures.items;
      err = tt;
    }

pub returns-in_err-cell-clause-made : goal.returns-in_err-cell-clause-made
returns-in_err-cell-clause-made c =
    let e = err_from_is_err_and c.from_residual-in_err-cell.result c.from_residual-in_err-cell.ensures.1 in
    record {
      found = c.in_err-cell.ensures.made.found;
      ok = rw (e.1) tt;
      err = rw (e.1, e.2) (refused-before (dfa_in c.args.job.now) _ _ c.loop-class.invariant.grows _ c.in_err-cell.ensures.made.err);
    }

pub returns-in_err-push-clause-made : goal.returns-in_err-push-clause-made
returns-in_err-push-clause-made c =
    let e = err_from_is_err_and c.from_residual-in_err-push.result c.from_residual-in_err-push.ensures.1 in
    record {
      found = c.in_ok-cell.ensures.made.found;
      ok = rw (e.1) tt;
      err = rw (e.1) (memory-refused (dfa_in c.args.job.now) c.args.found.now.stride c.args.found.now.limit e.0 e.2);
    }

pub returns-in_err-last-clause-made : goal.returns-in_err-last-clause-made
returns-in_err-last-clause-made c =
    let e = err_from_is_err_and c.from_residual-in_err-last.result c.from_residual-in_err-last.ensures.1 in
    record {
      found = c.in_err-last.ensures.made.found;
      ok = rw (e.1) tt;
      err = rw (e.1, e.2) (refused-before (dfa_in c.args.job.now) _ _ c.loop-class.invariant.grows _ c.in_err-last.ensures.made.err);
    }

pub returns-in_err-push-2-clause-made : goal.returns-in_err-push-2-clause-made
returns-in_err-push-2-clause-made c =
    let e = err_from_is_err_and c.from_residual-in_err-push-2.result c.from_residual-in_err-push-2.ensures.1 in
    record {
      found = c.in_ok-last.ensures.made.found;
      ok = rw (e.1) tt;
      err = rw (e.1) (memory-refused (dfa_in c.args.job.now) c.args.found.now.stride c.args.found.now.limit e.0 e.2);
    }

pub any_cell-requires-clause-class : goal.any_cell-requires-clause-class
any_cell-requires-clause-class c = omega (arith, c.args.job.now.alphabet.now.bytes.ok.0, c.loop-class-test.true, c.loop-class.auto.class-end)

pub any_cell-requires-clause-count : goal.any_cell-requires-clause-count
any_cell-requires-clause-count c = c.loop-class.invariant.count

pub any_cell-requires-clause-known : goal.any_cell-requires-clause-known
any_cell-requires-clause-known c = c.loop-class.invariant.known

pub any_cell-requires-clause-found : goal.any_cell-requires-clause-found
any_cell-requires-clause-found c = c.loop-class.invariant.found

pub any_cell-requires-clause-job : goal.any_cell-requires-clause-job
any_cell-requires-clause-job c = c.requires.job

pub any_cell-requires-clause-room : goal.any_cell-requires-clause-room
any_cell-requires-clause-room c = c.loop-class.invariant.room

pub any_cell-requires-clause-spread : goal.any_cell-requires-clause-spread
any_cell-requires-clause-spread c is =
    subst (λ (r : StateKey). IsSpread (dfa_in c.args.job.now) (key_of r) c.loop-class.spread) (sym c.loop-class.invariant.row) (c.loop-class.invariant.spread is)

pub any_cell-requires-clause-state : goal.any_cell-requires-clause-state
any_cell-requires-clause-state c =
    subst (λ (r : StateKey). IsState (dfa_in c.args.job.now) (key_of r)) (sym c.loop-class.invariant.row) c.requires.state

pub any_end-requires-clause-found : goal.any_end-requires-clause-found
any_end-requires-clause-found c = c.loop-class.invariant.found

pub any_end-requires-clause-job : goal.any_end-requires-clause-job
any_end-requires-clause-job c = c.requires.job

pub any_end-requires-clause-room : goal.any_end-requires-clause-room
any_end-requires-clause-room c = c.loop-class.invariant.room

pub any_end-requires-clause-spread : goal.any_end-requires-clause-spread
any_end-requires-clause-spread c is =
    subst (λ (r : StateKey). IsSpread (dfa_in c.args.job.now) (key_of r) c.loop-class.spread) (sym c.loop-class.invariant.row) (c.loop-class.invariant.spread is)

pub any_end-requires-clause-state : goal.any_end-requires-clause-state
any_end-requires-clause-state c =
    subst (λ (r : StateKey). IsState (dfa_in c.args.job.now) (key_of r)) (sym c.loop-class.invariant.row) c.requires.state

pub invariant_of-resize : goal.invariant_of-resize
invariant_of-resize c = omega arith

pub take-requires-clause-below : goal.take-requires-clause-below
take-requires-clause-below c = c.requires.state.below

pub take-requires-clause-count : goal.take-requires-clause-count
take-requires-clause-count c = c.requires.count

pub take-requires-clause-job : goal.take-requires-clause-job
take-requires-clause-job c = c.requires.job

pub take-requires-clause-room : goal.take-requires-clause-room
take-requires-clause-room c = c.requires.room

pub returns-clause-count : goal.returns-clause-count
returns-clause-count c = c.loop-class.invariant.count

pub returns-clause-room : goal.returns-clause-room
returns-clause-room c = c.in_ok-last.ensures.room

pub returns-in_err-is_spread-clause-count : goal.returns-in_err-is_spread-clause-count
returns-in_err-is_spread-clause-count c = unmade _ _ c.from_residual.result c.from_residual.ensures.1

pub returns-in_err-is_spread-clause-known : goal.returns-in_err-is_spread-clause-known
returns-in_err-is_spread-clause-known c = unmade _ _ c.from_residual.result c.from_residual.ensures.1

pub returns-in_err-is_spread-clause-room : goal.returns-in_err-is_spread-clause-room
returns-in_err-is_spread-clause-room c = c.in_err-is_spread.ensures.room

pub returns-in_err-cell-clause-count : goal.returns-in_err-cell-clause-count
returns-in_err-cell-clause-count c = unmade _ _ c.from_residual-in_err-cell.result c.from_residual-in_err-cell.ensures.1

pub returns-in_err-cell-clause-known : goal.returns-in_err-cell-clause-known
returns-in_err-cell-clause-known c = unmade _ _ c.from_residual-in_err-cell.result c.from_residual-in_err-cell.ensures.1

pub returns-in_err-cell-clause-room : goal.returns-in_err-cell-clause-room
returns-in_err-cell-clause-room c = c.in_err-cell.ensures.room

pub returns-in_err-push-clause-count : goal.returns-in_err-push-clause-count
returns-in_err-push-clause-count c = unmade _ _ c.from_residual-in_err-push.result c.from_residual-in_err-push.ensures.1

pub returns-in_err-push-clause-known : goal.returns-in_err-push-clause-known
returns-in_err-push-clause-known c = unmade _ _ c.from_residual-in_err-push.result c.from_residual-in_err-push.ensures.1

pub returns-in_err-push-clause-room : goal.returns-in_err-push-clause-room
returns-in_err-push-clause-room c = c.in_ok-cell.ensures.room

pub returns-in_err-last-clause-count : goal.returns-in_err-last-clause-count
returns-in_err-last-clause-count c = unmade _ _ c.from_residual-in_err-last.result c.from_residual-in_err-last.ensures.1

pub returns-in_err-last-clause-known : goal.returns-in_err-last-clause-known
returns-in_err-last-clause-known c = unmade _ _ c.from_residual-in_err-last.result c.from_residual-in_err-last.ensures.1

pub returns-in_err-last-clause-room : goal.returns-in_err-last-clause-room
returns-in_err-last-clause-room c = c.in_err-last.ensures.room

pub returns-in_err-push-2-clause-count : goal.returns-in_err-push-2-clause-count
returns-in_err-push-2-clause-count c = unmade _ _ c.from_residual-in_err-push-2.result c.from_residual-in_err-push-2.ensures.1

pub returns-in_err-push-2-clause-known : goal.returns-in_err-push-2-clause-known
returns-in_err-push-2-clause-known c = unmade _ _ c.from_residual-in_err-push-2.result c.from_residual-in_err-push-2.ensures.1

pub returns-in_err-push-2-clause-room : goal.returns-in_err-push-2-clause-room
returns-in_err-push-2-clause-room c = c.in_ok-last.ensures.room

pub returns-in_err-resize-clause-count : goal.returns-in_err-resize-clause-count
returns-in_err-resize-clause-count c = unmade _ _ c.from_residual-in_err-resize.result c.from_residual-in_err-resize.ensures.1

pub returns-in_err-resize-clause-known : goal.returns-in_err-resize-clause-known
returns-in_err-resize-clause-known c = unmade _ _ c.from_residual-in_err-resize.result c.from_residual-in_err-resize.ensures.1

pub returns-in_err-resize-clause-room : goal.returns-in_err-resize-clause-room
returns-in_err-resize-clause-room c = c.in_ok-last.ensures.room
