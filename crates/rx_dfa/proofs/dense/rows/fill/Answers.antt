use Rattle.std.proofs.Common.{arith}
use Rattle.rx_dfa.proofs.lemmas.RowLemmas.{grows-on, grows-same}
use Rattle.rx_dfa.specs.Job.{dfa_in}
use Rattle.rx_dfa.proofs.lemmas.ErrorLemmas.{refused-before}
use Rattle.rx_dfa.proofs.lemmas.FindLemmas.{memory-refused}
use Rattle.std.proofs.lemmas.Result.{err_from_is_err_and}
use Rattle.rx_dfa.proofs.lemmas.FilledLemmas.{few-rows}
use Rattle.rx_dfa.proofs.dense.rows.fill.Goals as goal

pub returns-in_err-spread-clause-grows : goal.returns-in_err-spread-clause-grows
returns-in_err-spread-clause-grows c = grows-same c.args.found.now

pub returns-in_err-spread-clause-made : goal.returns-in_err-spread-clause-made
returns-in_err-spread-clause-made c =
    let e = err_from_is_err_and c.from_residual.result c.from_residual.ensures.1 in
    record {
      found = c.requires.found;
      ok = rw (e.1) tt;
      err = rw (e.1) (memory-refused (dfa_in c.args.job.now) c.args.found.now.stride c.args.found.now.limit e.0 e.2);
    }

pub returns-in_err-fill_next-clause-made : goal.returns-in_err-fill_next-clause-made
returns-in_err-fill_next-clause-made c =
    let e = err_from_is_err_and c.from_residual-in_err-fill_next.result c.from_residual-in_err-fill_next.ensures.1 in
    record {
      found = c.in_err-fill_next.ensures.made.found;
      ok = rw (e.1) tt;
      err = rw (e.1, e.2) (refused-before (dfa_in c.args.job.now) _ _ c.rows.invariant.grows _ c.in_err-fill_next.ensures.made.err);
    }

pub rows-init : goal.rows-init
rows-init c =
    let len = c.args.job.now.alphabet.now.bytes.ok.0 in
    let count = c.in_ok-spread.ensures.count in
    record {
      room = c.requires.room;
      grows = grows-same c.args.found.now;
      found = c.requires.found;
      count = omega arith;
      known = c.in_ok-spread.ensures.known (dfa_in c.args.job.now) c.args.found.now;
      within = c.requires.within;
      filled = c.requires.filled;
    }

pub returns-in_err-fill_next-clause-grows : goal.returns-in_err-fill_next-clause-grows
returns-in_err-fill_next-clause-grows c = grows-on _ _ _ c.rows.invariant.grows c.in_err-fill_next.ensures.grows

pub rows-smaller : goal.rows-smaller
rows-smaller c =
    let more = c.in_ok-fill_next.ensures.more c.if-branch.true in
    let few = few-rows c.fill_next.new.found c.fill_next.new.cells c.in_ok-fill_next.ensures.within in
    omega arith

pub rows-preserved : goal.rows-preserved
rows-preserved c = record {
  room = c.in_ok-fill_next.ensures.room;
  grows = grows-on _ _ _ c.rows.invariant.grows c.in_ok-fill_next.ensures.grows;
  found = c.in_ok-fill_next.ensures.made.found;
  count = c.in_ok-fill_next.ensures.count;
  known = c.in_ok-fill_next.ensures.known;
  within = c.in_ok-fill_next.ensures.within;
  filled = c.in_ok-fill_next.ensures.made.ok;
}

pub returns-clause-grows : goal.returns-clause-grows
returns-clause-grows c = grows-on _ _ _ c.rows.invariant.grows c.in_ok-fill_next.ensures.grows
