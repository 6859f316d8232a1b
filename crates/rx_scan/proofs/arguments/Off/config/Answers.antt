use Rattle.std.proofs.Common.{ap, ◌∙◌}
use Rattle.std.specs.Prelude.{Some, not}
use Rattle.rx_meta.specs.Config.{ConfigValue}
use Rattle.rx_scan.proofs.arguments.Off.config.Goals as goal

pub returns : goal.returns
returns c =
    let off = c.args.self.now in
    c.onepass.ensures
    ∙ ap (λ (k : ConfigValue). record k { onepass = Some (not off.onepass) }) (c.hybrid.ensures
    ∙ ap (λ (k : ConfigValue). record k { hybrid = Some (not off.hybrid) }) (c.dfa.ensures
    ∙ ap (λ (k : ConfigValue). record k { dfa = Some (not off.dfa) }) (c.backtrack.ensures
    ∙ ap (λ (k : ConfigValue). record k { backtrack = Some (not off.backtrack) }) (c.auto_prefilter.ensures
    ∙ ap (λ (k : ConfigValue). record k { auto_prefilter = Some (not off.auto_prefilter) }) c.new.ensures))))
