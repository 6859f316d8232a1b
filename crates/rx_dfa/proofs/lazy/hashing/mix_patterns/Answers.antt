use Rattle.std.proofs.Common.{◌≡◌, ◌+◌, ◌∙◌, sym, ap, drop, get_or}
use Rattle.std.proofs.lemmas.List.{at_drop_more, at_drop_all, get_or_read}
use Rattle.rx_dfa.specs.Hash.{mixed, mixed_all}
use Rattle.rx_dfa.proofs.lazy.hashing.mix_patterns.Goals as goal

pub loop-pattern-preserved : goal.loop-pattern-preserved
loop-pattern-preserved c =
    let xs = c.args.patterns.now in
    let i = c.loop-pattern.pattern-index in
    let lt = c.loop-pattern-test.true in
    let word : c.as_usize.result ≡ get_or xs i 0 = c.as_usize.ensures.value ∙ get_or_read xs i c.pattern-item.result lt c.pattern-item.is 0 in
    ap (λ h. mixed_all h (drop (i + 1) xs)) (c.mix-all.ensures ∙ ap (mixed c.loop-pattern.all) word)
    ∙ sym (at_drop_more (mixed_all c.loop-pattern.all) xs i 0 lt) ∙ c.loop-pattern.invariant

pub returns : goal.returns
returns c =
    sym (at_drop_all (mixed_all c.loop-pattern.all) c.args.patterns.now c.loop-pattern.pattern-index c.loop-pattern-test.false) ∙ c.loop-pattern.invariant
