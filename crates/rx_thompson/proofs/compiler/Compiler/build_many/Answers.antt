use Rattle.std.proofs.Common.{List, length, sym, subst}
use Rattle.std.specs.Prelude.{Result}
use Rattle.rx_model.specs.Expression.{Expression}
use Rattle.rx_syntax.specs.Patterns.{Refusal, RefusesAll}
use Rattle.rx_thompson.specs.Build.{reading_of, IsRefusedFor}
use Rattle.rx_thompson.specs.declared.error.BuildError.{BuildError}
use Rattle.rx_thompson.proofs.BuildLemmas.{refused-reading}
use Rattle.rx_thompson.proofs.ReadingLemmas.{first-read, first-weighed, texts_of}
use Rattle.rx_thompson.proofs.compiler.Compiler.build_many.Goals as goal

pub build_weighed-requires : goal.build_weighed-requires
build_weighed-requires c =
    first-weighed c.args.self.now.syntax c.args.patterns.now c.min.result c.in-Ok.weights c.min.ensures c.in-Ok.ensures.value

pub returns-in-Err-clause-refused : goal.returns-in-Err-clause-refused
returns-in-Err-clause-refused c =
    let syntax = c.args.self.now.syntax in
    let ps = c.args.patterns.now in
    let reading = reading_of syntax (texts_of ps) in
    let refused =
    subst (λ (r : Result (List Expression) Refusal). RefusesAll c.in-Err.error r) (first-read syntax ps c.min.result c.min.ensures) c.in-Err.ensures.value in
    subst (λ (e : BuildError). IsRefusedFor syntax c.args.self.now.nfa.config (texts_of ps) e) (sym c.of_patterns.ensures)
    (refused-reading reading c.args.self.now.nfa.config (length (texts_of ps)) c.in-Err.error refused)
