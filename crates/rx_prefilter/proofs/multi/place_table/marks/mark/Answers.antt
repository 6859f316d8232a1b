use Rattle.rx_prefilter.proofs.PlaceLemmas.{marked_more}
use Rattle.rx_prefilter.proofs.multi.place_table.marks.mark.Goals as goal

pub loop-j-preserved : goal.loop-j-preserved
loop-j-preserved c =
    let invariant = c.loop-j.invariant in
    let kept = c.mark_place.ensures.kept in (
      λ pair k e. kept pair k (invariant.0 pair k e),
      marked_more c.loop-j.places c.mark_place.new.places c.args.needle.now c.loop-j.j c.pair_at.result kept c.pair_at.ensures.value c.mark_place.ensures.marked
          invariant.1,
    )
