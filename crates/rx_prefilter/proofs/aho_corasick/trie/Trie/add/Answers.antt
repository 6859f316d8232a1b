use Rattle.std.proofs.Common.{◌≡◌, ◌<◌, length, slice_index, arith}
use Rattle.std.proofs.lemmas.List.{get_or_read}
use Rattle.std.proofs.lemmas.Result.{IfOk-from_err}
use Rattle.rx_prefilter.proofs.TrieLemmas.{added}
use Rattle.rx_prefilter.proofs.aho_corasick.trie.Trie.add.Goals as goal

pub returns : goal.returns
returns c =
    let old = c.args.self.now in
    let depths = old.depths.items in
    let t = c.requires.trie in
    let rows = t.rows in
    let tall = t.tall in
    let long = old.depths.ok.0 in
    let within : c.args.state < length depths = omega (arith, rows, tall, c.requires.row, c.requires.within) in
    let count : c.len-child.result ≡ length depths = omega (arith, long, c.len-child.ensures) in
    let read : c.index.result.now ≡ slice_index depths c.args.state = get_or_read depths c.args.state c.index.result.now within c.index.ensures 0 in
    added old.next.items depths old.ends.items t c.args.place c.args.state c.len-child.result c.index.result.now c.extend_from_slice.new.self.items
    c.push.new.self.items c.push-2.new.self.items
    c.requires.within c.requires.empty (omega (arith, count)) c.requires.row count read c.in_ok-extend_from_slice.ensures.items c.in_ok-push.ensures.items
    c.in_ok-push-2.ensures.items

pub returns-in_err-push : goal.returns-in_err-push
returns-in_err-push c = IfOk-from_err c.from_residual.result _ c.from_residual.ensures.0

pub returns-in_err-push-2 : goal.returns-in_err-push-2
returns-in_err-push-2 c = IfOk-from_err c.from_residual-in_err-push-2.result _ c.from_residual-in_err-push-2.ensures.0

pub returns-in_err-extend_from_slice : goal.returns-in_err-extend_from_slice
returns-in_err-extend_from_slice c = IfOk-from_err c.from_residual-in_err-extend_from_slice.result _ c.from_residual-in_err-extend_from_slice.ensures.0
