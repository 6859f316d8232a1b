use Rattle.std.proofs.Common.{◌≡◌, ◌<◌, true, false, length, get_or, arith, ap, ◌∙◌, refl, take}
use Rattle.std.proofs.lemmas.List.{take_all, get_or-replicate, length-replicate, length-set}
use Rattle.rx_prefilter.specs.Bytes.{is_one_of}
use Rattle.rx_prefilter.proofs.ByteLemmas.{table_more}
use Rattle.rx_prefilter.proofs.byte_set.ByteSet.new.Goals as goal

pub loop-byte-init : goal.loop-byte-init
loop-byte-init c = (length-replicate 256 false, λ x fits. get_or-replicate 256 x false false fits)

pub loop-byte-preserved : goal.loop-byte-preserved
loop-byte-preserved c =
    let table = c.loop-byte.is_needle in
    let items = c.deref-byte-items.result.now in
    let i = c.loop-byte.byte-index in
    let invariant = c.loop-byte.invariant in
    let long : length table ≡ 256 = invariant.0 in
    let within : i < length items = omega arith in
    (length-set table (get_or items i 0) true ∙ long, table_more table items i (get_or items i 0) within long refl invariant.1)

pub invariant_of-result : goal.invariant_of-result
invariant_of-result c =
    let items = c.deref-byte-items.result.now in
    let all : take c.loop-byte.byte-index items ≡ c.args.bytes.items = take_all c.loop-byte.byte-index items (omega arith) ∙ c.deref-byte-items.ensures.value in
    record { each = λ x fits. c.loop-byte.invariant.1 x fits ∙ ap (λ bs. is_one_of bs x) all }
