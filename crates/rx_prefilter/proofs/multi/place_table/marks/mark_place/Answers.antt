use Rattle.rx_prefilter.proofs.PlaceLemmas.{marked_same, marked_kept}
use Rattle.rx_prefilter.proofs.multi.place_table.marks.mark_place.Goals as goal

pub returns-clause-marked : goal.returns-clause-marked
returns-clause-marked c = marked_same c.args.places.now c.args.pair c.args.j c.requires.whole c.requires.few

pub returns-clause-kept : goal.returns-clause-kept
returns-clause-kept c = marked_kept c.args.places.now c.args.pair _ c.requires.whole
