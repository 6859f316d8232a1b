use Rattle.std.proofs.Common.{◌≡◌, ap, ◌∙◌, arith}
use Rattle.rx_strategies.specs.Strategy as strategy
use Rattle.rx_meta.specs.Regex.{properties_in}
use Rattle.rx_hir.specs.declared.hir.properties.Properties.{Properties}
use Rattle.rx_meta.proofs.regex.Regex.captures_len.Goals as goal

pub returns : goal.returns
unfolding properties_in
returns c =
    let of : c.properties.result.now ≡ strategy.properties_of c.args.self.now.strategy =
    c.properties.ensures ∙ ap strategy.properties_of c.strategy.ensures in
    let explicit : c.explicit_captures_len-explicit.result ≡ (strategy.properties_of c.args.self.now.strategy).explicit_captures_len =
    c.explicit_captures_len-explicit.ensures ∙ ap (λ (p : Properties). p.explicit_captures_len) of in
    let count = c.pattern_len.ensures.value in
    let sum = c.saturating_add.ensures in
    omega (arith, explicit, count, sum)
