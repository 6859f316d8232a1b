use Rattle.std.proofs.Common.{◌≡◌, ◌+◌, ◌*◌, ◌<◌, false, length, slice_index, slice_index_or, refl, sym, ap, ◌∙◌, arith, inl, inr}
use Rattle.std.proofs.lemmas.List.{get_or_read}
use Rattle.rx_prefilter.proofs.aho_corasick.links.Links.later.Goals as goal

pub returns-then-index : goal.returns-then-index
returns-then-index c = inl refl

pub returns-then-state-eq0 : goal.returns-then-state-eq0
returns-then-state-eq0 c =
    let ends = c.args.self.now.ends.items in
    let wide = c.requires.linked.wide in
    let some : 0 < length ends = omega (arith, wide, c.requires.state) in
    let read : c.index.result.now ≡ slice_index_or ends 0 false = get_or_read ends 0 c.index.result.now some c.index.ensures false in
    inr (inl (c.if-state-eq0.true, sym read ∙ c.if-index.false, refl))

pub returns-then-fail : goal.returns-then-fail
returns-then-fail c = inl refl

pub returns : goal.returns
returns c =
    let l = c.requires.linked in
    let next = c.args.self.now.next.items in
    let fails = c.args.self.now.fails.items in
    let narrow = l.narrow in
    let rows = l.automaton.rows in
    let f = c.index-fail.result.now in
    let low : c.args.state < length fails = omega (arith, narrow, c.requires.state) in
    let fail : f ≡ slice_index fails c.args.state = get_or_read fails c.args.state f low c.index-fail.ensures 0 in
    let below = (l.failing c.args.state c.requires.state (λ e. c.if-fail.false (fail ∙ e))).0 in
    let within : f * 256 + c.args.byte < length next = omega (arith, rows, below, fail, c.requires.byte) in
    let value : c.index-2.result.now ≡ slice_index next (f * 256 + c.args.byte) =
    get_or_read next (f * 256 + c.args.byte) c.index-2.result.now within c.index-2.ensures 0 in
    inr (inr ((λ e. c.if-fail.false (fail ∙ e)), value ∙ ap (λ s. slice_index next (s * 256 + c.args.byte)) fail))
