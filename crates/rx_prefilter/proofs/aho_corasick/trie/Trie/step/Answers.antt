use Rattle.std.proofs.Common.{◌≡◌, ◌≢◌, ◌+◌, ◌*◌, ◌<◌, length, slice_index, sym, arith, ◌∙◌}
use Rattle.std.proofs.lemmas.List.{get_or_read}
use Rattle.rx_prefilter.specs.Tries.{stop}
use Rattle.rx_prefilter.proofs.TrieLemmas.{grows-same}
use Rattle.rx_prefilter.proofs.aho_corasick.trie.Trie.step.Goals as goal

pub returns-then-index : goal.returns-then-index
returns-then-index c =
    let t = c.requires.trie in
    let next = c.args.self.now.next.items in
    let rows = t.rows in
    let tall = t.tall in
    let place = c.args.state * 256 + c.args.byte in
    let within : place < length next = omega (arith, rows, tall) in
    let first : c.index.result.now ≡ slice_index next place = get_or_read next place c.index.result.now within c.index.ensures 0 in
    let second : c.index-then-index.result.now ≡ slice_index next place =
    get_or_read next place c.index-then-index.result.now within c.index-then-index.ensures 0 in
    let some : slice_index next place ≢ stop = λ e. c.if-index.true (first ∙ e) in
    let child = t.children place c.index-then-index.result.now (within, some, sym second) in
    let low = child.0 in
    (t, grows-same next c.args.self.now.ends.items, (within, some, sym second), omega (arith, tall, low))
