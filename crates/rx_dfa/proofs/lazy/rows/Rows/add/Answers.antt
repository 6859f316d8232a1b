use Rattle.std.proofs.Common.{◌≡◌, ◌+◌, ◌*◌, ◌≤◌, ◌<◌, List, [], ◌∷◌, ◌++◌, length, take, replicate, refl, sym, ◌∙◌, ap, subst, arith}
use Rattle.std.proofs.lemmas.List.{take_at}
use Rattle.std.proofs.lemmas.Result.{err_from_is_err_and}
use Rattle.std.specs.Prelude.{Some, if◌then◌else◌, slice_get}
use Rattle.rx_determinize.specs.Key.{Key}
use Rattle.rx_dfa.specs.Lazy.{unknown, offsets, state_size}
use Rattle.rx_dfa.specs.StateKey.{key_of}
use Rattle.rx_dfa.proofs.lemmas.ChainLemmas.{got-new}
use Rattle.rx_dfa.proofs.lemmas.HeldLemmas.{stands-row}
use Rattle.rx_dfa.proofs.lemmas.RowsLemmas.{wide, ok-then, err-then, rows-same, rows-add}
use Rattle.rx_dfa.proofs.lazy.rows.Rows.add.Goals as goal

pub returns-then-is_err-clause-rows : goal.returns-then-is_err-clause-rows
returns-then-is_err-clause-rows c =
    let r = c.args.self.now in
    let more = replicate c.stride-stride.result unknown in
    let place : length r.cells.items ≡ c.len-place.result = omega (arith, r.cells.ok.0) in
    let cut : c.truncate.new.self.items ≡ r.cells.items =
    c.truncate.ensures.items ∙ ap (take c.len-place.result) c.in_ok-add_row.ensures.ok ∙ take_at r.cells.items more c.len-place.result place in
    let keys : c.insert.new.self ≡ r.keys = err-then c.insert.result _ (sym c.is_err.ensures.value ∙ c.if-is_err.true) c.insert.ensures.err in
    rows-same c.args.lazy.now r _ c.requires.rows cut keys refl refl

pub overflow_mul-self : goal.overflow_mul-self
overflow_mul-self c = omega (arith, c.words.ensures, c.requires.room, c.stride-stride.ensures.sound.small)

pub overflow_add-self : goal.overflow_add-self
overflow_add-self c = omega (arith, c.words.ensures, c.requires.room, c.stride-stride.ensures.sound.small)

pub returns-clause-rows : goal.returns-clause-rows
returns-clause-rows c =
    let l = c.args.lazy.now in
    let r = c.args.self.now in
    let k = key_of c.args.key.now in
    let cells : c.add_row.new.cells.items ≡ r.cells.items ++ replicate l.stride unknown =
    c.in_ok-add_row.ensures.ok ∙ ap (λ n. r.cells.items ++ replicate n unknown) c.stride-stride.ensures.value in
    let keys : c.insert.new.self ≡ r.keys ++ k ∷ [] = ok-then c.insert.result _ (sym c.is_err.ensures.value ∙ c.if-is_err.false) c.insert.ensures.ok in
    let size : r.size + 4 * c.words.result ≡ r.size + state_size l.stride k =
    ap (λ n. r.size + n) (c.words.ensures ∙ ap (λ n. state_size n k) c.stride-stride.ensures.value) in
    let few : length r.cells.items + l.stride ≤ offsets = omega (arith, r.cells.ok.0) in
    rows-add l c.stride-stride.ensures.sound r _ c.requires.rows k c.requires.live cells keys refl size c.requires.room few

pub returns-clause-state : goal.returns-clause-state
returns-clause-state c =
    let l = c.args.lazy.now in
    let r = c.args.self.now in
    let k = key_of c.args.key.now in
    let keys : c.insert.new.self ≡ r.keys ++ k ∷ [] = ok-then c.insert.result _ (sym c.is_err.ensures.value ∙ c.if-is_err.false) c.insert.ensures.ok in
    let count : c.len-place.result ≡ length r.cells.items = omega (arith, r.cells.ok.0) in
    let place : c.len-place.result ≡ length r.keys * l.stride = count ∙ c.requires.rows.len in
    let few : c.len-place.result + l.stride ≤ offsets = omega (arith, c.stride-stride.ensures.value) in
    let some : 0 < l.stride = wide l c.stride-stride.ensures.sound in
    let low : c.len-place.result < offsets = omega arith in
    stands-row l.stride some c.insert.new.self (length r.keys) k c.requires.live.alive
    (subst (λ (ks : List Key). slice_get ks (length r.keys) ≡ Some k) (sym keys) (got-new r.keys k)) (subst (λ n. n < offsets) place low) c.numbered.result
    (c.numbered.ensures ∙ (λ j. place j + (if c.is_plain_key.ensures j then 0 else offsets)))

pub overflow_add-place : goal.overflow_add-place
overflow_add-place c =
    omega (arith, c.args.self.now.cells.ok.0, c.requires.rows.few, c.stride-stride.ensures.value, c.stride-stride.ensures.sound.narrow)

pub add_row-requires : goal.add_row-requires
add_row-requires c = omega (arith, c.stride-stride.ensures.value, c.stride-stride.ensures.sound.narrow)

pub words-requires : goal.words-requires
words-requires c = omega (arith, c.stride-stride.ensures.value, c.stride-stride.ensures.sound.narrow)

pub numbered-requires : goal.numbered-requires
numbered-requires c =
    let l = c.args.lazy.now in
    let some : 0 < l.stride = wide l c.stride-stride.ensures.sound in
    let few : c.len-place.result + l.stride ≤ offsets = omega (arith, c.stride-stride.ensures.value) in
    omega arith

pub returns-then-place-stride-gt-OFFSETS-clause-rows : goal.returns-then-place-stride-gt-OFFSETS-clause-rows
returns-then-place-stride-gt-OFFSETS-clause-rows c = c.requires.rows

pub returns-in_err-add_row-clause-rows : goal.returns-in_err-add_row-clause-rows
returns-in_err-add_row-clause-rows c =
    let cells : c.add_row.new.cells.items ≡ c.args.self.now.cells.items = c.in_err-add_row.ensures.err in
    rows-same c.args.lazy.now c.args.self.now _ c.requires.rows cells refl refl refl

pub returns-in_err-add_row-clause-state : goal.returns-in_err-add_row-clause-state
returns-in_err-add_row-clause-state c =
    let e = err_from_is_err_and c.from_residual.result c.from_residual.ensures.1 in
    rw (e.1) tt

pub returns-in_err-add_row-clause-err : goal.returns-in_err-add_row-clause-err
returns-in_err-add_row-clause-err c =
    let e = err_from_is_err_and c.from_residual.result c.from_residual.ensures.1 in
    rw (e.1) refl

pub returns-then-is_err-clause-err : goal.returns-then-is_err-clause-err
returns-then-is_err-clause-err c = err-then c.insert.result _ (sym c.is_err.ensures.value ∙ c.if-is_err.true) c.insert.ensures.err

pub returns-clause-ok : goal.returns-clause-ok
returns-clause-ok c = ok-then c.insert.result _ (sym c.is_err.ensures.value ∙ c.if-is_err.false) c.insert.ensures.ok
