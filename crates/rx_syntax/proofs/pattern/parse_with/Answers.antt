use Rattle.std.proofs.Common.{ap, sym, subst, refl}
use Rattle.std.proofs.lemmas.Result.{err_from_is_err_and}
use Rattle.std.specs.Prelude.{Result, chars}
use Rattle.rx_model.specs.Expression.{Expression}
use Rattle.rx_reader.specs.Reading.{◌>>=◌}
use Rattle.rx_reader.specs.Grammar.{read}
use Rattle.rx_reader.specs.declared.error.SyntaxError.{SyntaxError}
use Rattle.rx_syntax.specs.Answers.{Answers}
use Rattle.rx_syntax.specs.Pattern.{reads}
use Rattle.rx_syntax.specs.Translation.{translated}
use Rattle.rx_syntax.proofs.lemmas.patterns.RefusalLemmas.{refuses-then}
use Rattle.rx_syntax.proofs.pattern.parse_with.Goals as goal

pub returns-in_err-ast : goal.returns-in_err-ast
unfolding reads
returns-in_err-ast c =
    let config = c.args.config.now in
    let e = err_from_is_err_and c.from_residual.result c.from_residual.ensures.1 in
    rw (e.1, e.2) (refuses-then _ (read config (chars c.args.pattern.now)) (translated config) _ refl c.in_err-ast.ensures)

pub returns : goal.returns
unfolding reads
returns c =
    let same = ap (λ r. r >>= translated c.args.config.now) c.in_ok-ast.ensures in
    subst (λ (r : Result Expression SyntaxError). Answers c.translate_with-translated.result r) (sym same) c.translate_with-translated.ensures
