use Rattle.std.proofs.Common.{◌≡◌, ℕ, ◌++◌, Vec, Global, length, ap, arith, ◌∙◌}
use Rattle.std.specs.Prelude.{encode_utf8}
use Rattle.std.proofs.lemmas.Str.{length-encode, len_utf8_bounds}
use Rattle.rx_hir.proofs.hir.set.character.Goals as goal

pub bytes_in_row-requires : goal.bytes_in_row-requires
bytes_in_row-requires c =
    let text : c.into_bytes.result.items ≡ encode_utf8 c.args.c =
    ap (λ (v : Vec ℕ Global). v.items) c.into_bytes.ensures.value ∙ c.in_ok-push.ensures.bytes
    ∙ ap (λ bytes. bytes ++ encode_utf8 c.args.c) c.new-text.ensures.bytes in
    let long = ap length text ∙ length-encode c.args.c in
    let some = (len_utf8_bounds c.args.c).0 in
    omega arith
