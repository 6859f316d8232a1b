use Rattle.std.proofs.Common.{◌+◌, ◌*◌, ◌<◌, inl, sym, ◌∙◌, arith}
use Rattle.std.proofs.lemmas.Option.{slice_get_within}
use Rattle.std.specs.Prelude.{if◌then◌else◌}
use Rattle.rx_dfa.specs.Lazy.{offsets}
use Rattle.rx_dfa.specs.StateKey.{key_of}
use Rattle.rx_dfa.proofs.lemmas.HeldLemmas.{found-small, stands-row}
use Rattle.rx_dfa.proofs.lemmas.RowsLemmas.{wide, row-small}
use Rattle.rx_dfa.proofs.lazy.rows.Rows.find.Goals as goal

pub returns-then-is_dead_key : goal.returns-then-is_dead_key
returns-then-is_dead_key c = inl (record { dead = sym c.is_dead_key.ensures ∙ c.if-is_dead_key.true; is = c.dead.ensures })

pub returns-in_err-row : goal.returns-in_err-row
returns-in_err-row c = rw c.from_residual.ensures (sym c.is_dead_key.ensures ∙ c.if-is_dead_key.false, c.in_err-row.ensures)

pub overflow_mul-row : goal.overflow_mul-row
overflow_mul-row c =
    let small : c.in_ok-row.row * c.stride.result < offsets =
    found-small c.args.lazy.now c.stride.ensures.sound c.args.self.now c.requires c.in_ok-row.row c.stride.result (key_of c.args.key.now)
    c.stride.ensures.value c.in_ok-row.ensures in
    omega arith

pub numbered-requires : goal.numbered-requires
numbered-requires c =
    found-small c.args.lazy.now c.stride.ensures.sound c.args.self.now c.requires c.in_ok-row.row c.stride.result (key_of c.args.key.now)
    c.stride.ensures.value c.in_ok-row.ensures

pub returns : goal.returns
returns c =
    let l = c.args.lazy.now in
    let r = c.args.self.now in
    let row = c.in_ok-row.row in
    let k = key_of c.args.key.now in
    let sound = c.stride.ensures.sound in
    stands-row l.stride (wide l sound) r.keys row k (sym c.is_dead_key.ensures ∙ c.if-is_dead_key.false) c.in_ok-row.ensures
    (row-small l sound r c.requires row (slice_get_within r.keys row k c.in_ok-row.ensures)) c.numbered.result
    (c.numbered.ensures ∙ (λ j. row * c.stride.ensures.value j + (if c.is_plain_key.ensures j then 0 else offsets)))
