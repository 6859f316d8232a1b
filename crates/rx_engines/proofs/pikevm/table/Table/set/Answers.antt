use Rattle.std.proofs.Common.{◌≡◌, ◌+◌, ◌*◌, ◌-◌, length, ap, arith, rules, ◌++◌, take, drop, length-set}
use Rattle.std.proofs.lemmas.Nat.{row_fits}
use Rattle.std.proofs.lemmas.List.{take_at}
use Rattle.rx_engines.specs.Threads.{Rows}
use Rattle.rx_engines.proofs.lemmas.threads.TableLemmas.{length-used, used-set, length-row_put}
use Rattle.rx_engines.proofs.pikevm.table.Table.set.Goals as goal

pub overflow_mul-from : goal.overflow_mul-from
overflow_mul-from c =
    let n = length-used c.self.inside.rows c.self.inside.width c.self.inside.starts.items c.self.inside.cells.items c.self.invariant.0 in
    let same = ap (λ (r : Rows). length r.items) c.self.view_is in
    let fits = row_fits c.args.state c.self.inside.width c.self.inside.rows c.self.inside.width (omega arith) (omega arith) in
    search rules

pub overflow_add-from : goal.overflow_add-from
overflow_add-from c =
    let n = length-used c.self.inside.rows c.self.inside.width c.self.inside.starts.items c.self.inside.cells.items c.self.invariant.0 in
    let same = ap (λ (r : Rows). length r.items) c.self.view_is in
    let fits = row_fits c.args.state c.self.inside.width c.self.inside.rows c.self.inside.width (omega arith) (omega arith) in
    search rules

pub offset_bounds-deref_mut-from : goal.offset_bounds-deref_mut-from
offset_bounds-deref_mut-from c =
    let n = length-used c.self.inside.rows c.self.inside.width c.self.inside.starts.items c.self.inside.cells.items c.self.invariant.0 in
    let same = ap (λ (r : Rows). length r.items) c.self.view_is in
    let fits = row_fits c.args.state c.self.inside.width c.self.inside.rows c.self.inside.width (omega arith) (omega arith) in
    search rules

pub slice_bounds-copy-end : goal.slice_bounds-copy-end
slice_bounds-copy-end c =
    let n = length-used c.self.inside.rows c.self.inside.width c.self.inside.starts.items c.self.inside.cells.items c.self.invariant.0 in
    let same = ap (λ (r : Rows). length r.items) c.self.view_is in
    let fits = row_fits c.args.state c.self.inside.width c.self.inside.rows c.self.inside.width (omega arith) (omega arith) in
    search rules

pub index_mut-requires : goal.index_mut-requires
index_mut-requires c =
    let n = length-used c.self.inside.rows c.self.inside.width c.self.inside.starts.items c.self.inside.cells.items c.self.invariant.0 in
    let same = ap (λ (r : Rows). length r.items) c.self.view_is in
    omega arith

pub returns : goal.returns
returns c =
    let n = length-used c.self.inside.rows c.self.inside.width c.self.inside.starts.items c.self.inside.cells.items c.self.invariant.0 in
    let same = ap (λ (r : Rows). length r.items) c.self.view_is in
    let width = ap (λ (r : Rows). r.width) c.self.view_is in
    let wide : c.args.state * c.self.inside.width + c.self.inside.width - c.args.state * c.self.inside.width ≡ c.self.inside.width = omega arith in
    let starts = c.self.inside.starts.items in
    let cells = c.self.inside.cells.items in
    let rows = c.self.inside.rows in
    let w = c.self.inside.width in
    let ok = c.self.inside.cells.ok.0 in
    let put = take (c.args.state * w) cells ++ (c.args.slots.now ++ drop w (drop (c.args.state * w) cells)) in
    let fit = c.self.invariant.1 in
    let size = length-row_put w cells c.args.slots.now c.args.state rows (omega arith) fit (omega arith) in
    let sized = length-set starts c.args.state c.args.start in
    let whole = take_at put (drop (length put) cells) c.self.inside.cells.len (omega arith) in
    rw (
      c.as_usize.ensures.value,
      c.as_usize-2.ensures.value,
      wide,
      c.deref_mut.ensures.value,
      c.copy.ensures,
      ← c.self.view_is,
      whole,
      sized,
      size,
    )
    (ap (λ items. record { items = items; width = w; capacity = length starts; cells = length cells })
    (used-set rows w starts cells c.self.invariant.0 c.args.slots.now c.args.state c.args.start (omega arith) fit (omega arith)))
