use Rattle.std.proofs.Common.{◌≡◌, ◌<◌, ◌+◌, ◌++◌, ℕ, List, All, length, map, take, drop, arith, sym, ap, subst, ◌∙◌}
use Rattle.std.specs.Vec.{vec_items}
use Rattle.std.proofs.lemmas.List.{take_all}
use Rattle.std.proofs.lemmas.List.Elements.{All-same}
use Rattle.rx_prefilter.specs.Places.{IsMarked, Keeps}
use Rattle.rx_prefilter.proofs.ListLemmas.{All-at, map-take_more, written_back}
use Rattle.rx_prefilter.proofs.PlaceLemmas.{all_marked_more}
use Rattle.rx_prefilter.proofs.multi.place_table.PlaceTable.new.Goals as goal

pub mark-requires-clause-short : goal.mark-requires-clause-short
mark-requires-clause-short c =
    let x = c.needle-item.result in
    let stride = c.stride_of-stride.result in
    let P : List ℕ → Type 0 = λ n. stride < length n in
    rw c.deref.ensures.value (All-at P vec_items c.args.needles.now c.loop-needle.needle-index x (omega arith) c.needle-item.is
    c.stride_of-stride.ensures.short)

pub loop-needle-preserved : goal.loop-needle-preserved
loop-needle-preserved c =
    let x = c.needle-item.result in
    let i = c.loop-needle.needle-index in
    let stride = c.stride_of-stride.result in
    let old = c.loop-needle.places.items in
    let new = c.mark.new.places in
    let len = c.loop-needle.places.len in
    let invariant = c.loop-needle.invariant in
    let long : len ≡ length old = c.loop-needle.places.ok.0 in
    let same : length new ≡ length old = omega (arith, c.deref_mut.ensures.len, long) in
    let back : new ≡ take len (new ++ drop (length new) old) = sym (written_back new old len long same) in
    let kept : Keeps old new = λ pair j e. c.mark.ensures.kept pair j (rw c.deref_mut.ensures.value e) in
    let marked : IsMarked new stride x.items = rw c.deref.ensures.value at c.mark.ensures.marked in
    let needles = map vec_items (take (i + 1) c.args.needles.now) in
    let more : All (IsMarked new stride) needles = all_marked_more old new stride (map vec_items (take i c.args.needles.now)) needles x.items kept
    (map-take_more vec_items c.args.needles.now i x (omega arith) c.needle-item.is) invariant.1 marked in
    let whole : length new ≡ 65536 = same ∙ invariant.0 in
    let Q : List ℕ → Type 0 = λ l. (length l ≡ 65536) × All (IsMarked l stride) needles in
    subst Q back (whole, more)

pub returns : goal.returns
returns c =
    let needles = c.args.needles.now in
    let invariant = c.loop-needle.invariant in
    let P = IsMarked c.loop-needle.places.items c.stride_of-stride.result in
    let all : map vec_items c.in_ok-copied.field-0.items ≡ map vec_items (take c.loop-needle.needle-index needles) =
    c.in_ok-copied.ensures ∙ ap (map vec_items) (sym (take_all c.loop-needle.needle-index needles c.loop-needle-test.false)) in (
      record {
        some = c.stride_of-stride.ensures.some;
        few = c.stride_of-stride.ensures.few;
        whole = invariant.0;
        marked = All-same P (map vec_items c.in_ok-copied.field-0.items) (map vec_items (take c.loop-needle.needle-index needles)) all invariant.1;
      },
      c.in_ok-copied.ensures,
    )
