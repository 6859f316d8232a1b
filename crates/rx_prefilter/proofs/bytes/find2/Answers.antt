use Rattle.std.proofs.Common.{◌<◌, ◌^◌, [], ◌∷◌, length, arith, sym, ◌∙◌}
use Rattle.std.proofs.lemmas.List.{take_rest}
use Rattle.memchr.specs.Find.{is_byte2}
use Rattle.rx_prefilter.proofs.ByteLemmas.{first_span-bytes, is_one_of-two, found_within}
use Rattle.rx_prefilter.proofs.bytes.find2.Goals as goal

pub returns : goal.returns
returns c =
    let text = c.args.text.now in
    let from = c.args.from in
    let first = rw (take_rest text from) at c.memchr2.ensures in
    c.found_from.ensures ∙ sym (first_span-bytes (c.args.a ∷ c.args.b ∷ []) (is_byte2 c.args.a c.args.b) (is_one_of-two c.args.a c.args.b) text from c.requires
    c.memchr2.result first)

pub found_from-requires : goal.found_from-requires
found_from-requires c =
    let text = c.args.text.now in
    let from = c.args.from in
    let fits : length text < 2 ^ 64 = omega arith in
    let first = rw (take_rest text from) at c.memchr2.ensures in
    found_within (is_byte2 c.args.a c.args.b) text from (2 ^ 64) c.requires fits c.memchr2.result first
