use Rattle.std.proofs.Common.{◌≡◌, length, take, sym, ap, ◌∙◌, subst}
use Rattle.rx_search.specs.Limits.{id_limit}
use Rattle.rx_syntax.specs.Patterns.{all_read, all_translated}
use Rattle.rx_thompson.specs.Build.{IsRefusedAfter}
use Rattle.rx_thompson.specs.declared.error.BuildError.{BuildError}
use Rattle.rx_thompson.proofs.BuildLemmas.{refused-reading}
use Rattle.rx_thompson.proofs.LimitsLemmas.{first-syntaxes, first-refused}
use Rattle.rx_thompson.proofs.ReadingLemmas.{texts_of}
use Rattle.rx_thompson.proofs.limits.read_within.Goals as goal

pub returns-in-Ok : goal.returns-in-Ok
returns-in-Ok c =
    let syntax = c.args.syntax.now in
    let ps = c.args.patterns.now in
    let e : all_translated syntax c.deref.result.now ≡ all_read syntax (take id_limit (texts_of ps)) =
    ap (all_translated syntax) c.deref.ensures.value ∙ first-syntaxes syntax ps c.min.result c.in-Ok.asts.items c.min.ensures c.in-Ok.ensures.value in
    rw (sym e) c.weighed.ensures

pub returns-in-Err : goal.returns-in-Err
returns-in-Err c =
    let syntax = c.args.syntax.now in
    let ps = c.args.patterns.now in
    let config = c.args.config.now in
    let reading = all_read syntax (take id_limit (texts_of ps)) in
    subst (λ (e : BuildError). IsRefusedAfter reading config (length ps) e) (sym c.of_patterns.ensures)
    (refused-reading reading config (length ps) c.in-Err.error (first-refused syntax ps c.min.result c.in-Err.error c.min.ensures c.in-Err.ensures.value))
