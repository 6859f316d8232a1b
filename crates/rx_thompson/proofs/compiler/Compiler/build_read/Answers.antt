use Rattle.std.proofs.Common.{◌≡◌, ℕ, Bor, List, length, sym, ap, ◌∙◌, subst}
use Rattle.std.specs.Prelude.{Result, Ok}
use Rattle.std.proofs.lemmas.List.{length-map}
use Rattle.std.proofs.lemmas.Result.{IfErr-weaker}
use Rattle.rx_model.specs.Expression.{Expression}
use Rattle.rx_syntax.specs.Patterns.{Refusal, RefusesAll}
use Rattle.rx_thompson.specs.Build.{reading_of, IsRefusedFor}
use Rattle.rx_thompson.specs.declared.error.BuildError.{BuildError}
use Rattle.rx_thompson.proofs.BuildLemmas.{built-of, refused-for, refused-reading}
use Rattle.rx_thompson.proofs.ReadingLemmas.{first-read, texts_of}
use Rattle.rx_thompson.proofs.compiler.Compiler.build_read.Goals as goal

pub returns-in-Ok-clause-built : goal.returns-in-Ok-clause-built
returns-in-Ok-clause-built c =
    let syntax = c.args.self.now.syntax in
    let ps = c.args.patterns.now in
    let counted : length ps ≡ length (texts_of ps) = sym (length-map ps (λ (p : Bor (List ℕ)). p.now)) in
    let read = sym (first-read syntax ps c.min.result c.min.ensures) ∙ c.in-Ok.ensures.value ∙ ap Ok (sym c.deref.ensures.value) in
    built-of syntax c.args.self.now.nfa.config (texts_of ps) (length ps) c.deref.result.now counted read c.build_counted.result
    c.build_counted.ensures.few c.build_counted.ensures.compiled c.build_counted.ensures.allowed

pub returns-in-Ok-clause-refused : goal.returns-in-Ok-clause-refused
returns-in-Ok-clause-refused c =
    let syntax = c.args.self.now.syntax in
    let ps = c.args.patterns.now in
    let counted : length ps ≡ length (texts_of ps) = sym (length-map ps (λ (p : Bor (List ℕ)). p.now)) in
    let read = sym (first-read syntax ps c.min.result c.min.ensures) ∙ c.in-Ok.ensures.value ∙ ap Ok (sym c.deref.ensures.value) in
    IfErr-weaker c.build_counted.result _ _
    (refused-for syntax c.args.self.now.nfa.config (texts_of ps) (length ps) c.deref.result.now counted read) c.build_counted.ensures.refused

pub returns-in-Err-clause-refused : goal.returns-in-Err-clause-refused
returns-in-Err-clause-refused c =
    let syntax = c.args.self.now.syntax in
    let ps = c.args.patterns.now in
    let reading = reading_of syntax (texts_of ps) in
    let refused =
    subst (λ (r : Result (List Expression) Refusal). RefusesAll c.in-Err.error r) (first-read syntax ps c.min.result c.min.ensures) c.in-Err.ensures.value in
    subst (λ (e : BuildError). IsRefusedFor syntax c.args.self.now.nfa.config (texts_of ps) e) (sym c.of_patterns.ensures)
    (refused-reading reading c.args.self.now.nfa.config (length (texts_of ps)) c.in-Err.error refused)
