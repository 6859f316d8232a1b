use Rattle.std.proofs.Common.{◌+◌, ◌*◌, map, sym, ◌∙◌, arith}
use Rattle.std.specs.Vec.{vec_items}
use Rattle.std.proofs.lemmas.List.{get_or_read}
use Rattle.rx_prefilter.proofs.LinkLemmas.{place_within, stands_there, child_low}
use Rattle.rx_prefilter.proofs.aho_corasick.links.Links.fill_place.Goals as goal

pub index-next-requires : goal.index-next-requires
index-next-requires c =
    let old = c.args.self.now in
    let needles = map vec_items old.needles.items in
    let long = old.next.ok.0 in
    let within = place_within needles old.next.items old.depths.items old.ends.items old.fails.items old.queue.items c.requires.linked c.args.state c.args.byte
    c.requires.state c.requires.byte in
    omega (arith, long, within)

pub pass_on-requires-clause-empty : goal.pass_on-requires-clause-empty
pass_on-requires-clause-empty c =
    let old = c.args.self.now in
    let needles = map vec_items old.needles.items in
    let within = place_within needles old.next.items old.depths.items old.ends.items old.fails.items old.queue.items c.requires.linked c.args.state c.args.byte
    c.requires.state c.requires.byte in
    sym (get_or_read old.next.items (c.args.state * 256 + c.args.byte) c.index-next.result.now within c.index-next.ensures 0) ∙ c.if-next.true

pub index-requires : goal.index-requires
index-requires c =
    let old = c.args.self.now in
    let needles = map vec_items old.needles.items in
    let next = c.index-next.result.now in
    let long = old.depths.ok.0 in
    let stands = stands_there needles old.next.items old.depths.items old.ends.items old.fails.items old.queue.items c.requires.linked c.args.state c.args.byte next
    c.requires.state c.requires.byte c.index-next.ensures c.if-next.false in
    let low = child_low needles old.next.items old.depths.items old.ends.items old.fails.items old.queue.items c.requires.linked c.args.state c.args.byte next stands in
    omega (arith, long, low)

pub index-requires-2 : goal.index-requires-2
index-requires-2 c =
    let long = c.args.self.now.depths.ok.0 in
    let low = c.requires.state in
    omega (arith, long, low)

pub link-requires-clause-child : goal.link-requires-clause-child
link-requires-clause-child c =
    let old = c.args.self.now in
    let needles = map vec_items old.needles.items in
    stands_there needles old.next.items old.depths.items old.ends.items old.fails.items old.queue.items c.requires.linked c.args.state c.args.byte
    c.index-next.result.now c.requires.state c.requires.byte c.index-next.ensures c.if-next.false

pub link-requires-clause-more : goal.link-requires-clause-more
link-requires-clause-more c =
    let old = c.args.self.now in
    let needles = map vec_items old.needles.items in
    let next = c.index-next.result.now in
    let stands = stands_there needles old.next.items old.depths.items old.ends.items old.fails.items old.queue.items c.requires.linked c.args.state c.args.byte next
    c.requires.state c.requires.byte c.index-next.ensures c.if-next.false in
    let low = child_low needles old.next.items old.depths.items old.ends.items old.fails.items old.queue.items c.requires.linked c.args.state c.args.byte next stands in
    let here = get_or_read old.depths.items c.args.state c.index-2.result.now c.requires.state c.index-2.ensures 0 in
    let there = get_or_read old.depths.items next c.index.result.now low c.index.ensures 0 in
    rw (sym here, sym there) c.if-index.false
