use Rattle.std.proofs.Common.{◌≡◌, ◌+◌, refl, sym, ◌∙◌, ap, subst, arith, true≢false}
use Rattle.std.specs.Prelude.{Some, slice_get}
use Rattle.std.specs.Option.{option_map}
use Rattle.std.proofs.lemmas.Option.{slice_get-map}
use Rattle.rx_dfa.specs.StateKey.{key_of}
use Rattle.rx_dfa.specs.States.{IsState}
use Rattle.rx_dfa.specs.Dense.{IsRefused}
use Rattle.rx_dfa.specs.Job.{dfa_in}
use Rattle.rx_dfa.specs.Found.{plain_keys, special_keys}
use Rattle.rx_dfa.specs.declared.dense.rows.Cells.{Cells}
use Rattle.rx_dfa.proofs.lemmas.FilledLemmas.{few-rows, all-rows, unmade, made-refused, plain-filled, special-filled, plain-within, special-within}
use Rattle.rx_dfa.proofs.lemmas.FindLemmas.{memory-refused}
use Rattle.rx_dfa.proofs.lemmas.RowLemmas.{grows-same}
use Rattle.rx_dfa.proofs.dense.rows.fill_next.Goals as goal

pub push_row-requires-clause-state : goal.push_row-requires-clause-state
push_row-requires-clause-state c =
    let f = c.args.found.now in
    let rows = c.args.cells.now.plain_rows in
    let there : slice_get (plain_keys f) rows ≡ Some (key_of c.in-Some.plain.now) =
    slice_get-map key_of f.plain.keys rows ∙ ap (option_map key_of) (sym c.in-Some.ensures.key) in
    subst (IsState (dfa_in c.args.job.now)) (sym c.in_ok-copy.ensures) (c.requires.found.plain_states.each rows (key_of c.in-Some.plain.now) there)

pub returns-in-Some-clause-within : goal.returns-in-Some-clause-within
returns-in-Some-clause-within c =
    let f = c.args.found.now in
    let cells = c.args.cells.now in
    let k = key_of c.copy.new.into in
    let there : slice_get (plain_keys f) cells.plain_rows ≡ Some k =
    slice_get-map key_of f.plain.keys cells.plain_rows ∙ ap (option_map key_of) (sym c.in-Some.ensures.key) ∙ ap Some (sym c.in_ok-copy.ensures) in
    let later : Cells = record { plain = c.push_row.new.cells; special = cells.special; plain_rows = cells.plain_rows + 1; special_rows = cells.special_rows }
    in
    plain-within (dfa_in c.args.job.now) f c.push_row.new.found c.in_ok-push_row.ensures.grows cells later c.requires.within c.requires.filled k there refl refl

pub returns-in-Some-clause-made : goal.returns-in-Some-clause-made
returns-in-Some-clause-made c =
    let f = c.args.found.now in
    let cells = c.args.cells.now in
    let k = key_of c.copy.new.into in
    let there : slice_get (plain_keys f) cells.plain_rows ≡ Some k =
    slice_get-map key_of f.plain.keys cells.plain_rows ∙ ap (option_map key_of) (sym c.in-Some.ensures.key) ∙ ap Some (sym c.in_ok-copy.ensures) in
    let later : Cells = record { plain = c.push_row.new.cells; special = cells.special; plain_rows = cells.plain_rows + 1; special_rows = cells.special_rows }
    in
    record {
      found = c.in_ok-push_row.ensures.made.found;
      ok = plain-filled (dfa_in c.args.job.now) f c.push_row.new.found c.in_ok-push_row.ensures.grows cells later c.requires.within c.requires.filled k
          c.requires.wide there c.in_ok-push_row.ensures.made.ok refl refl refl;
      err = tt;
    }

pub push_row-requires-in-Some-get_index-clause-state : goal.push_row-requires-in-Some-get_index-clause-state
push_row-requires-in-Some-get_index-clause-state c =
    let f = c.args.found.now in
    let rows = c.args.cells.now.special_rows in
    let there : slice_get (special_keys f) rows ≡ Some (key_of c.in-Some-get_index.special.now) =
    slice_get-map key_of f.special.keys rows ∙ ap (option_map key_of) (sym c.in-Some-get_index.ensures.key) in
    subst (IsState (dfa_in c.args.job.now)) (sym c.in_ok-copy-2.ensures)
    (c.requires.found.special_states.each rows (key_of c.in-Some-get_index.special.now) there)

pub overflow_add-cells-in-Some-get_index : goal.overflow_add-cells-in-Some-get_index
overflow_add-cells-in-Some-get_index c =
    let few = few-rows c.args.found.now c.args.cells.now c.requires.within in
    omega arith

pub returns-in-Some-get_index-clause-within : goal.returns-in-Some-get_index-clause-within
returns-in-Some-get_index-clause-within c =
    let f = c.args.found.now in
    let cells = c.args.cells.now in
    let k = key_of c.copy-in-Some-get_index.new.into in
    let there : slice_get (special_keys f) cells.special_rows ≡ Some k =
    slice_get-map key_of f.special.keys cells.special_rows ∙ ap (option_map key_of) (sym c.in-Some-get_index.ensures.key) ∙ ap Some
    (sym c.in_ok-copy-2.ensures) in
    let later : Cells =
    record { plain = cells.plain; special = c.push_row-in-Some-get_index.new.cells; plain_rows = cells.plain_rows; special_rows = cells.special_rows + 1 } in
    special-within (dfa_in c.args.job.now) f c.push_row-in-Some-get_index.new.found c.in_ok-push_row-2.ensures.grows cells later c.requires.within
    c.requires.filled
    k there refl refl

pub returns-in-Some-get_index-clause-made : goal.returns-in-Some-get_index-clause-made
returns-in-Some-get_index-clause-made c =
    let f = c.args.found.now in
    let cells = c.args.cells.now in
    let k = key_of c.copy-in-Some-get_index.new.into in
    let there : slice_get (special_keys f) cells.special_rows ≡ Some k =
    slice_get-map key_of f.special.keys cells.special_rows ∙ ap (option_map key_of) (sym c.in-Some-get_index.ensures.key) ∙ ap Some
    (sym c.in_ok-copy-2.ensures) in
    let later : Cells =
    record { plain = cells.plain; special = c.push_row-in-Some-get_index.new.cells; plain_rows = cells.plain_rows; special_rows = cells.special_rows + 1 } in
    record {
      found = c.in_ok-push_row-2.ensures.made.found;
      ok = special-filled (dfa_in c.args.job.now) f c.push_row-in-Some-get_index.new.found c.in_ok-push_row-2.ensures.grows cells later c.requires.within
          c.requires.filled k c.requires.wide there c.in_ok-push_row-2.ensures.made.ok refl refl refl;
      err = tt;
    }

pub overflow_add-cells : goal.overflow_add-cells
overflow_add-cells c =
    let few = few-rows c.args.found.now c.args.cells.now c.requires.within in
    omega arith

pub returns-in_err-copy-clause-grows : goal.returns-in_err-copy-clause-grows
returns-in_err-copy-clause-grows c = grows-same c.args.found.now

pub returns-in_err-copy-clause-made : goal.returns-in_err-copy-clause-made
returns-in_err-copy-clause-made c =
    let d = dfa_in c.args.job.now in
    let f = c.args.found.now in
    made-refused d f f _ c.from_residual.result c.requires.found c.from_residual.ensures.1 (memory-refused d f.stride f.limit)

pub returns-in_err-push_row-clause-made : goal.returns-in_err-push_row-clause-made
returns-in_err-push_row-clause-made c =
    let d = dfa_in c.args.job.now in
    let f = c.args.found.now in
    made-refused d f c.push_row.new.found _ c.from_residual-in_err-push_row.result c.in_err-push_row.ensures.made.found
    c.from_residual-in_err-push_row.ensures.1
    (λ e same. subst (IsRefused d f.stride f.limit) (sym same) c.in_err-push_row.ensures.made.err)

pub returns-in_err-copy-2-clause-grows : goal.returns-in_err-copy-2-clause-grows
returns-in_err-copy-2-clause-grows c = grows-same c.args.found.now

pub returns-in_err-copy-2-clause-made : goal.returns-in_err-copy-2-clause-made
returns-in_err-copy-2-clause-made c =
    let d = dfa_in c.args.job.now in
    let f = c.args.found.now in
    made-refused d f f _ c.from_residual-in_err-copy-2.result c.requires.found c.from_residual-in_err-copy-2.ensures.1 (memory-refused d f.stride f.limit)

pub returns-in_err-push_row-2-clause-made : goal.returns-in_err-push_row-2-clause-made
returns-in_err-push_row-2-clause-made c =
    let d = dfa_in c.args.job.now in
    let f = c.args.found.now in
    made-refused d f c.push_row-in-Some-get_index.new.found _ c.from_residual-in_err-push_row-2.result c.in_err-push_row-2.ensures.made.found
    c.from_residual-in_err-push_row-2.ensures.1
    (λ e same. subst (IsRefused d f.stride f.limit) (sym same) c.in_err-push_row-2.ensures.made.err)

pub returns-clause-grows : goal.returns-clause-grows
returns-clause-grows c = grows-same c.args.found.now

pub returns-clause-all : goal.returns-clause-all
returns-clause-all c _ =
    let f = c.args.found.now in
    let cells = c.args.cells.now in (
      all-rows f.plain.keys cells.plain_rows c.in_default.ensures.found.1 c.requires.within.plain,
      all-rows f.special.keys cells.special_rows c.in_default-get_index.ensures.found.1 c.requires.within.special,
    )

pub returns-clause-made : goal.returns-clause-made
returns-clause-made c = record { found = c.requires.found; ok = c.requires.filled; err = tt }

pub returns-in_err-copy-clause-count : goal.returns-in_err-copy-clause-count
returns-in_err-copy-clause-count c = unmade _ _ c.from_residual.result c.from_residual.ensures.1

pub returns-in_err-copy-clause-known : goal.returns-in_err-copy-clause-known
returns-in_err-copy-clause-known c = unmade _ _ c.from_residual.result c.from_residual.ensures.1

pub returns-in_err-copy-clause-within : goal.returns-in_err-copy-clause-within
returns-in_err-copy-clause-within c = unmade _ _ c.from_residual.result c.from_residual.ensures.1

pub returns-in_err-copy-clause-more : goal.returns-in_err-copy-clause-more
returns-in_err-copy-clause-more c = unmade _ _ c.from_residual.result c.from_residual.ensures.1

pub returns-in_err-copy-clause-all : goal.returns-in_err-copy-clause-all
returns-in_err-copy-clause-all c = unmade _ _ c.from_residual.result c.from_residual.ensures.1

pub returns-in_err-push_row-clause-count : goal.returns-in_err-push_row-clause-count
returns-in_err-push_row-clause-count c = unmade _ _ c.from_residual-in_err-push_row.result c.from_residual-in_err-push_row.ensures.1

pub returns-in_err-push_row-clause-known : goal.returns-in_err-push_row-clause-known
returns-in_err-push_row-clause-known c = unmade _ _ c.from_residual-in_err-push_row.result c.from_residual-in_err-push_row.ensures.1

pub returns-in_err-push_row-clause-within : goal.returns-in_err-push_row-clause-within
returns-in_err-push_row-clause-within c = unmade _ _ c.from_residual-in_err-push_row.result c.from_residual-in_err-push_row.ensures.1

pub returns-in_err-push_row-clause-more : goal.returns-in_err-push_row-clause-more
returns-in_err-push_row-clause-more c = unmade _ _ c.from_residual-in_err-push_row.result c.from_residual-in_err-push_row.ensures.1

pub returns-in_err-push_row-clause-all : goal.returns-in_err-push_row-clause-all
returns-in_err-push_row-clause-all c = unmade _ _ c.from_residual-in_err-push_row.result c.from_residual-in_err-push_row.ensures.1

pub returns-in_err-copy-2-clause-count : goal.returns-in_err-copy-2-clause-count
returns-in_err-copy-2-clause-count c = unmade _ _ c.from_residual-in_err-copy-2.result c.from_residual-in_err-copy-2.ensures.1

pub returns-in_err-copy-2-clause-known : goal.returns-in_err-copy-2-clause-known
returns-in_err-copy-2-clause-known c = unmade _ _ c.from_residual-in_err-copy-2.result c.from_residual-in_err-copy-2.ensures.1

pub returns-in_err-copy-2-clause-within : goal.returns-in_err-copy-2-clause-within
returns-in_err-copy-2-clause-within c = unmade _ _ c.from_residual-in_err-copy-2.result c.from_residual-in_err-copy-2.ensures.1

pub returns-in_err-copy-2-clause-more : goal.returns-in_err-copy-2-clause-more
returns-in_err-copy-2-clause-more c = unmade _ _ c.from_residual-in_err-copy-2.result c.from_residual-in_err-copy-2.ensures.1

pub returns-in_err-copy-2-clause-all : goal.returns-in_err-copy-2-clause-all
returns-in_err-copy-2-clause-all c = unmade _ _ c.from_residual-in_err-copy-2.result c.from_residual-in_err-copy-2.ensures.1

pub returns-in_err-push_row-2-clause-count : goal.returns-in_err-push_row-2-clause-count
returns-in_err-push_row-2-clause-count c = unmade _ _ c.from_residual-in_err-push_row-2.result c.from_residual-in_err-push_row-2.ensures.1

pub returns-in_err-push_row-2-clause-known : goal.returns-in_err-push_row-2-clause-known
returns-in_err-push_row-2-clause-known c = unmade _ _ c.from_residual-in_err-push_row-2.result c.from_residual-in_err-push_row-2.ensures.1

pub returns-in_err-push_row-2-clause-within : goal.returns-in_err-push_row-2-clause-within
returns-in_err-push_row-2-clause-within c = unmade _ _ c.from_residual-in_err-push_row-2.result c.from_residual-in_err-push_row-2.ensures.1

pub returns-in_err-push_row-2-clause-more : goal.returns-in_err-push_row-2-clause-more
returns-in_err-push_row-2-clause-more c = unmade _ _ c.from_residual-in_err-push_row-2.result c.from_residual-in_err-push_row-2.ensures.1

pub returns-in_err-push_row-2-clause-all : goal.returns-in_err-push_row-2-clause-all
returns-in_err-push_row-2-clause-all c = unmade _ _ c.from_residual-in_err-push_row-2.result c.from_residual-in_err-push_row-2.ensures.1

pub returns-in-Some-clause-more : goal.returns-in-Some-clause-more
returns-in-Some-clause-more c _ = omega arith

pub returns-in-Some-clause-all : goal.returns-in-Some-clause-all
returns-in-Some-clause-all c is = absurd (true≢false is)

pub returns-in-Some-get_index-clause-more : goal.returns-in-Some-get_index-clause-more
returns-in-Some-get_index-clause-more c _ = omega arith

pub returns-in-Some-get_index-clause-all : goal.returns-in-Some-get_index-clause-all
returns-in-Some-get_index-clause-all c is = absurd (true≢false is)

pub push_row-requires-clause-count : goal.push_row-requires-clause-count
push_row-requires-clause-count c = c.requires.count

pub push_row-requires-clause-found : goal.push_row-requires-clause-found
push_row-requires-clause-found c = c.requires.found

pub push_row-requires-clause-job : goal.push_row-requires-clause-job
push_row-requires-clause-job c = c.requires.job

pub push_row-requires-clause-known : goal.push_row-requires-clause-known
push_row-requires-clause-known c = c.requires.known

pub push_row-requires-clause-room : goal.push_row-requires-clause-room
push_row-requires-clause-room c = c.requires.room

pub push_row-requires-clause-wide : goal.push_row-requires-clause-wide
push_row-requires-clause-wide c = c.requires.wide

pub push_row-requires-in-Some-get_index-clause-count : goal.push_row-requires-in-Some-get_index-clause-count
push_row-requires-in-Some-get_index-clause-count c = c.requires.count

pub push_row-requires-in-Some-get_index-clause-found : goal.push_row-requires-in-Some-get_index-clause-found
push_row-requires-in-Some-get_index-clause-found c = c.requires.found

pub push_row-requires-in-Some-get_index-clause-job : goal.push_row-requires-in-Some-get_index-clause-job
push_row-requires-in-Some-get_index-clause-job c = c.requires.job

pub push_row-requires-in-Some-get_index-clause-known : goal.push_row-requires-in-Some-get_index-clause-known
push_row-requires-in-Some-get_index-clause-known c = c.requires.known

pub push_row-requires-in-Some-get_index-clause-room : goal.push_row-requires-in-Some-get_index-clause-room
push_row-requires-in-Some-get_index-clause-room c = c.requires.room

pub push_row-requires-in-Some-get_index-clause-wide : goal.push_row-requires-in-Some-get_index-clause-wide
push_row-requires-in-Some-get_index-clause-wide c = c.requires.wide

pub returns-clause-count : goal.returns-clause-count
returns-clause-count c = c.requires.count

pub returns-clause-known : goal.returns-clause-known
returns-clause-known c = c.requires.known

pub returns-clause-room : goal.returns-clause-room
returns-clause-room c = c.requires.room

pub returns-clause-within : goal.returns-clause-within
returns-clause-within c = c.requires.within

pub returns-clause-more : goal.returns-clause-more
returns-clause-more c is = absurd (true≢false (sym is))

pub returns-in-Some-clause-count : goal.returns-in-Some-clause-count
returns-in-Some-clause-count c = c.in_ok-push_row.ensures.count

pub returns-in-Some-get_index-clause-count : goal.returns-in-Some-get_index-clause-count
returns-in-Some-get_index-clause-count c = c.in_ok-push_row-2.ensures.count

pub returns-in-Some-clause-grows : goal.returns-in-Some-clause-grows
returns-in-Some-clause-grows c = c.in_ok-push_row.ensures.grows

pub returns-in-Some-get_index-clause-grows : goal.returns-in-Some-get_index-clause-grows
returns-in-Some-get_index-clause-grows c = c.in_ok-push_row-2.ensures.grows

pub returns-in-Some-clause-known : goal.returns-in-Some-clause-known
returns-in-Some-clause-known c = c.in_ok-push_row.ensures.known

pub returns-in-Some-get_index-clause-known : goal.returns-in-Some-get_index-clause-known
returns-in-Some-get_index-clause-known c = c.in_ok-push_row-2.ensures.known

pub returns-in-Some-clause-room : goal.returns-in-Some-clause-room
returns-in-Some-clause-room c = c.in_ok-push_row.ensures.room

pub returns-in-Some-get_index-clause-room : goal.returns-in-Some-get_index-clause-room
returns-in-Some-get_index-clause-room c = c.in_ok-push_row-2.ensures.room

pub returns-in_err-push_row-clause-grows : goal.returns-in_err-push_row-clause-grows
returns-in_err-push_row-clause-grows c = c.in_err-push_row.ensures.grows

pub returns-in_err-push_row-2-clause-grows : goal.returns-in_err-push_row-2-clause-grows
returns-in_err-push_row-2-clause-grows c = c.in_err-push_row-2.ensures.grows

pub returns-in_err-push_row-clause-room : goal.returns-in_err-push_row-clause-room
returns-in_err-push_row-clause-room c = c.in_err-push_row.ensures.room

pub returns-in_err-push_row-2-clause-room : goal.returns-in_err-push_row-2-clause-room
returns-in_err-push_row-2-clause-room c = c.in_err-push_row-2.ensures.room

pub returns-in_err-copy-clause-room : goal.returns-in_err-copy-clause-room
returns-in_err-copy-clause-room c = c.requires.room

pub returns-in_err-copy-2-clause-room : goal.returns-in_err-copy-2-clause-room
returns-in_err-copy-2-clause-room c = c.requires.room
