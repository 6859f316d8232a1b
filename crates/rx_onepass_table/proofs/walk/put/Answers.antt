use Rattle.std.proofs.Common.{sym, ◌∙◌, ap, arith}
use Rattle.std.specs.Prelude.{None, slice_index_or}
use Rattle.rx_onepass_table.specs.Search.{shown}
use Rattle.rx_onepass_table.proofs.lemmas.ShownLemmas.{put-each, put-length}
use Rattle.rx_onepass_table.proofs.walk.put.Goals as goal

pub returns-in-Some-clause-value : goal.returns-in-Some-clause-value
returns-in-Some-clause-value c k lt =
    let long = put-length c.in-Some.told.slots c.in-Some.told.at 0 c.args.places.now in
    let room = c.requires.room in
    let len = c.put_slots.ensures.len in
    c.put_slots.ensures.value k lt ∙ sym (put-each c.in-Some.told.slots c.in-Some.told.at c.args.places.now k (omega arith))
    ∙ ap (λ l. slice_index_or (shown l c.args.places.now c.args.out.now) k None) (sym c.in-Some.is)
