use Rattle.std.proofs.Common.{◌≡◌, List, [], ◌∷◌, ◌++◌, flat_map, sym, ap, ◌∙◌, subst}
use lib.Utf8.{encodes}
use Rattle.rx_model.specs.Expression.{Expression}
use Rattle.rx_hir.specs.Normal.{parts_of, literal_of}
use Rattle.rx_syntax.specs.ItemViews.{run_parts}
use Rattle.rx_syntax.specs.Row.{IsRow}
use Rattle.rx_syntax.specs.Weight.{IsAtom, IsNormal}
use Rattle.rx_syntax.specs.declared.weight.Weight.{Weight}
use Rattle.rx_syntax.proofs.lemmas.weights.WeighLemmas.{literal-atom, atom-normal, row-more, run-plain}
use Rattle.rx_syntax.proofs.weight.syntax.with_run.Goals as goal

pub of_made-requires : goal.of_made-requires
of_made-requires c = subst IsAtom (sym c.in_ok-hir.ensures) (literal-atom (encodes c.args.run.now))

pub returns : goal.returns
returns c = λ ps row.
    let flags = c.args.flags in
    let run = c.args.run.now in
    let h = c.in_ok-hir.hir in
    let same : h ∷ [] ≡ run_parts flags run = ap (λ (e : Expression). e ∷ []) c.in_ok-hir.ensures ∙ sym (run-plain flags run c.if-flags.false) in
    let normal = subst IsNormal (sym c.in_ok-hir.ensures) (atom-normal (literal_of (encodes run)) (literal-atom (encodes run))) in
    let more = row-more ps h c.args.before c.of_made.result normal c.of_made.ensures row in
    subst (λ (hs : List Expression). IsRow (ps ++ flat_map parts_of hs) c.followed.result) same
    (subst (λ (w : Weight). IsRow (ps ++ flat_map parts_of (h ∷ [])) w) (sym c.followed.ensures) more)
