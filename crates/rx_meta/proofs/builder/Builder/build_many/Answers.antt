use Rattle.std.proofs.Common.{◌≡◌, ◌≤◌, length, map, sym, subst, arith}
use Rattle.std.proofs.lemmas.List.{length-map}
use Rattle.std.proofs.lemmas.Result.{IfOk-weaker, err_from_is_err_and}
use Rattle.rx_search.specs.Limits.{id_limit}
use Rattle.rx_meta.specs.Build.{IsRefusedFor}
use Rattle.rx_meta.specs.declared.error.BuildError.{BuildError}
use Rattle.rx_meta.proofs.BuildLemmas.{built-of}
use Rattle.rx_meta.proofs.builder.Builder.build_many.Goals as goal

pub returns-in_err-exprs-clause-refused : goal.returns-in_err-exprs-clause-refused
returns-in_err-exprs-clause-refused c =
    let p = err_from_is_err_and c.from_residual.result c.from_residual.ensures.1 in
    let texts = map (λ p. p.now) c.args.patterns.now in
    rw p.1 (subst (λ (e : BuildError). IsRefusedFor c.args.self.now.syntax c.args.self.now.config texts e) (sym p.2) c.in_err-exprs.ensures)

pub returns-clause-built : goal.returns-clause-built
returns-clause-built c =
    let ps = c.args.patterns.now in
    let texts = map (λ p. p.now) ps in
    let counted : length texts ≡ length ps = length-map ps (λ p. p.now) in
    let few : length texts ≤ id_limit = omega (arith, c.in_ok-exprs.ensures.1) in
    IfOk-weaker c.build_many_from_hir.result _ _
    (λ regex is.
    built-of c.args.self.now.syntax c.args.self.now.config texts c.in_ok-exprs.exprs.items c.deref.result.now few c.in_ok-exprs.ensures.0
    c.deref.ensures.value regex is)
    c.build_many_from_hir.ensures.built
