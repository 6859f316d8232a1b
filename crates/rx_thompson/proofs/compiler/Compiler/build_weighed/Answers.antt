use Rattle.std.proofs.Common.{◌≡◌, ◌≤◌, ℕ, Bor, List, length, sym, ap, ◌∙◌, subst, arith}
use Rattle.std.proofs.lemmas.List.{length-map, take_all}
use Rattle.rx_search.specs.Limits.{id_limit}
use Rattle.rx_nfa.specs.declared.compiler.config.Config.{Config}
use Rattle.rx_thompson.specs.Build.{IsRefusedOf}
use Rattle.rx_thompson.proofs.BuildLemmas.{refused-for}
use Rattle.rx_thompson.proofs.ReadingLemmas.{texts_of}
use Rattle.rx_thompson.proofs.compiler.Compiler.build_weighed.Goals as goal

pub returns-in-Some-clause-refused : goal.returns-in-Some-clause-refused
returns-in-Some-clause-refused c =
    let self = c.args.self.now in
    let ps = c.args.patterns.now in
    let texts = texts_of ps in
    let own = c.requires in
    let hs = own.expressions in
    let counted : length ps ≡ length texts = sym (length-map ps (λ (p : Bor (List ℕ)). p.now)) in
    let every : length ps ≤ id_limit → length hs ≡ length ps =
    λ few. own.counted ∙ ap (λ (ts : List (List ℕ)). length ts) (take_all id_limit texts (omega (arith, few, counted))) ∙ sym counted in
    let refused = subst (λ (k : Config). IsRefusedOf k (length ps) hs c.in-Some.error) c.get_config.ensures (c.in-Some.ensures.some hs own.weights every) in
    refused-for self.syntax self.nfa.config texts (length ps) hs counted own.are c.in-Some.error refused
