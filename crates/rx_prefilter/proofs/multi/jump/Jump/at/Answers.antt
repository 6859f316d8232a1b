use Rattle.std.proofs.Common.{◌≡◌, ◌<◌, ℕ, List, length, map, take, slice_index, arith, sym, ap, ◌∙◌}
use Rattle.std.specs.Vec.{vec_items}
use Rattle.std.proofs.lemmas.List.{take_all, get_or_read}
use Rattle.std.proofs.lemmas.List.Elements.{All-same}
use Rattle.rx_prefilter.specs.Bytes.{is_one_of}
use Rattle.rx_prefilter.specs.Jumps.{few_bytes, HasAt}
use Rattle.rx_prefilter.proofs.ListLemmas.{All-at, map-take_more}
use Rattle.rx_prefilter.proofs.JumpLemmas.{all_at_more}
use Rattle.rx_prefilter.proofs.multi.jump.Jump.at.Goals as goal

pub index-requires-in-loop-needle : goal.index-requires-in-loop-needle
index-requires-in-loop-needle c =
    let x = c.needle-item.result in
    let P : List ℕ → Type 0 = λ n. c.args.offset < length n in
    let long = All-at P vec_items c.args.needles.now c.loop-needle.needle-index x (omega arith) c.needle-item.is c.requires in
    omega (arith, x.ok.0, long)

pub loop-needle-preserved : goal.loop-needle-preserved
loop-needle-preserved c =
    let x = c.needle-item.result in
    let i = c.loop-needle.needle-index in
    let needles = c.args.needles.now in
    let offset = c.args.offset in
    let P : List ℕ → Type 0 = λ n. offset < length n in
    let long : offset < length x.items = All-at P vec_items needles i x (omega arith) c.needle-item.is c.requires in
    let byte = c.index-in-loop-needle.result.now in
    let read : byte ≡ slice_index x.items offset = get_or_read x.items offset byte long c.index-in-loop-needle.ensures 0 in
    let more = c.in_ok-bytes.ensures in
    let new = few_bytes c.in_ok-bytes.bytes in
    all_at_more (few_bytes c.loop-needle.bytes) new offset (map vec_items (take i needles)) _ x.items more.0 long
    (ap (is_one_of new) (sym read) ∙ more.1) (map-take_more vec_items needles i x (omega arith) c.needle-item.is) c.loop-needle.invariant

pub returns : goal.returns
returns c =
    let needles = c.args.needles.now in
    All-same (HasAt (few_bytes c.loop-needle.bytes) c.args.offset) (map vec_items needles) (map vec_items (take c.loop-needle.needle-index needles))
    (ap (map vec_items) (sym (take_all c.loop-needle.needle-index needles c.loop-needle-test.false))) c.loop-needle.invariant
