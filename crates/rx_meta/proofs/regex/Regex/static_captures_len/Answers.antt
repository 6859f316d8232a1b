use Rattle.std.proofs.Common.{◌≡◌, ℕ, ◌+◌, sym, ap, ◌∙◌, arith}
use Rattle.std.specs.Prelude.{◌-◌, ◌^◌, min, Some, None, option_map}
use Rattle.rx_strategies.specs.Strategy as strategy
use Rattle.rx_meta.specs.Regex.{properties_in}
use Rattle.rx_hir.specs.declared.hir.properties.Properties.{Properties}
use Rattle.rx_meta.proofs.regex.Regex.static_captures_len.Goals as goal

pub returns-in-Some : goal.returns-in-Some
unfolding properties_in
returns-in-Some c =
    let of : c.properties.result.now ≡ strategy.properties_of c.args.self.now.strategy =
    c.properties.ensures ∙ ap strategy.properties_of c.strategy.ensures in
    let known : Some c.in-Some.explicit ≡ (strategy.properties_of c.args.self.now.strategy).static_explicit_captures_len =
    sym c.in-Some.is ∙ c.static_explicit_captures_len-known.ensures ∙ ap (λ (p : Properties). p.static_explicit_captures_len) of in
    let least : c.saturating_add.result ≡ min (2 ^ 64 - 1) (c.in-Some.explicit + 1) = omega (arith, c.saturating_add.ensures) in
    ap Some least ∙ ap (option_map (λ (n : ℕ). min (2 ^ 64 - 1) (n + 1))) known

pub returns-in-None : goal.returns-in-None
unfolding properties_in
returns-in-None c =
    let of : c.properties.result.now ≡ strategy.properties_of c.args.self.now.strategy =
    c.properties.ensures ∙ ap strategy.properties_of c.strategy.ensures in
    let known : None ≡ (strategy.properties_of c.args.self.now.strategy).static_explicit_captures_len =
    sym c.in-None.is ∙ c.static_explicit_captures_len-known.ensures ∙ ap (λ (p : Properties). p.static_explicit_captures_len) of in
    ap (option_map (λ (n : ℕ). min (2 ^ 64 - 1) (n + 1))) known
