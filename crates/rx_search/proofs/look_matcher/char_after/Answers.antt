use Rattle.std.proofs.Common.{◌≡◌, ◌-◌, length, take, drop, sym, ap, ◌∙◌, arith, take_all, length-drop}
use Rattle.bstr.specs.Utf8.{decoded}
use Rattle.rx_search.proofs.CharacterLemmas.{char_at-decoded}
use Rattle.rx_search.proofs.look_matcher.char_after.Goals as goal

pub returns : goal.returns
returns c =
    let hay = c.args.haystack.now in
    let at = c.args.at in
    let part : take (length hay - at) (drop at hay) ≡ drop at hay = take_all _ _ (omega (arith, length-drop at hay)) in
    c.decode.ensures.char ∙ ap (λ bs. (decoded bs).char) part ∙ sym (char_at-decoded hay at)
