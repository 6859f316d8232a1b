use Rattle.std.proofs.Common.{◌≡◌, ◌<◌, ◌++◌, ◌∷◌, [], false, length, map, slice_index_or, arith, sym, ◌∙◌}
use Rattle.std.specs.Vec.{vec_items}
use Rattle.std.proofs.lemmas.List.{get_or_read}
use Rattle.rx_prefilter.proofs.LinkLemmas.{queued_linked, child_low, failing_linked}
use Rattle.rx_prefilter.proofs.aho_corasick.links.Links.link.Goals as goal

pub returns-then-index-clause-linked : goal.returns-then-index-clause-linked
returns-then-index-clause-linked c =
    let old = c.args.self.now in
    let needles = map vec_items old.needles.items in
    let low = child_low needles old.next.items old.depths.items old.ends.items old.fails.items old.queue.items c.requires.linked c.args.state c.args.byte
    c.args.child c.requires.child in
    rw c.in_ok-push.ensures.items (queued_linked needles old.next.items old.depths.items old.ends.items old.fails.items old.queue.items c.requires.linked
    c.args.child low)

pub returns-clause-linked : goal.returns-clause-linked
returns-clause-linked c =
    let old = c.args.self.now in
    let needles = map vec_items old.needles.items in
    let wide = c.requires.linked.wide in
    let low = child_low needles old.next.items old.depths.items old.ends.items old.fails.items old.queue.items c.requires.linked c.args.state c.args.byte
    c.args.child c.requires.child in
    let within : c.args.child < length old.ends.items = omega (arith, wide, low) in
    let read : c.index.result.now ≡ slice_index_or old.ends.items c.args.child false =
    get_or_read old.ends.items c.args.child c.index.result.now within c.index.ensures false in
    let queued = queued_linked needles old.next.items old.depths.items old.ends.items old.fails.items old.queue.items c.requires.linked c.args.child low in
    rw c.in_ok-push.ensures.items (failing_linked needles old.next.items old.depths.items old.ends.items old.fails.items (old.queue.items ++ c.args.child ∷ [])
    queued
    c.args.state c.args.byte c.args.child c.later-later.result c.requires.state c.requires.byte c.requires.child c.requires.more c.later-later.ensures
    (sym read ∙ c.if-index.false))
