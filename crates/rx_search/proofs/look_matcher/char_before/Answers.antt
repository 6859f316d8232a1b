use Rattle.std.proofs.Common.{sym}
use Rattle.rx_search.proofs.CharacterLemmas.{char_before-decoded}
use Rattle.rx_search.proofs.look_matcher.char_before.Goals as goal

pub returns : goal.returns
returns c =
    let last = c.decode_last in
    sym (char_before-decoded c.args.haystack.now c.args.at (record { char = last.result.0; size = last.result.1 }) c.requires
    (λ e. (last.ensures.empty e).0) last.ensures.last)
