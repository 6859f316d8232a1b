use Rattle.std.proofs.Common.{ℕ, List, Bor, length, map, sym, subst}
use Rattle.std.proofs.lemmas.List.{length-map}
use Rattle.std.specs.Prelude.{take}
use Rattle.rx_search.specs.Limits.{id_limit}
use Rattle.rx_nfa.specs.declared.compiler.config.Config.{Config}
use Rattle.rx_syntax.specs.Patterns.{all_read}
use Rattle.rx_strategy.specs.Config.{compiler_of}
use Rattle.rx_thompson.specs.Build.{IsRefusedAfter}
use Rattle.rx_meta.specs.Build.{IsRefusedFor}
use Rattle.rx_meta.specs.Reading.{reading_of}
use Rattle.rx_meta.specs.declared.error.BuildError.{BuildError}
use Rattle.rx_meta.proofs.ReadingLemmas.{refused-within}
use Rattle.rx_meta.proofs.reading.read_patterns.Goals as goal

pub returns-in-Ok : goal.returns-in-Ok
unfolding reading_of
returns-in-Ok c = c.in-Ok.ensures

pub returns-in-Err : goal.returns-in-Err
returns-in-Err c =
    let syntax = c.args.syntax.now in
    let config = c.args.config.now in
    let ps = c.args.patterns.now in
    let texts = map (λ (p : Bor (List ℕ)). p.now) ps in
    let reading = all_read syntax (take id_limit texts) in
    let e = c.in-Err.error in
    let own = subst (λ (k : Config). IsRefusedAfter reading k (length ps) e) c.compiler.ensures c.in-Err.ensures in
    let all = subst (λ (n : ℕ). IsRefusedAfter reading (compiler_of config) n e) (sym (length-map ps (λ (p : Bor (List ℕ)). p.now))) own in
    subst (λ (b : BuildError). IsRefusedFor syntax config texts b) (sym c.from.ensures) (refused-within syntax config texts e all)
