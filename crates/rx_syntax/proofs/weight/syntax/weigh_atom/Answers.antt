use Rattle.std.proofs.Common.{◌≡◌, Ok, subst}
use Rattle.std.specs.Prelude.{Option, IfSome}
use Rattle.rx_syntax.specs.Classes.{scalar_class}
use Rattle.rx_syntax.specs.Named.{scalars_of}
use Rattle.rx_syntax.specs.Translation.{atom_of}
use Rattle.rx_syntax.specs.declared.named.SetKey.{SetKey}
use Rattle.rx_syntax.proofs.lemmas.weights.WeighLemmas.{atom-atom, weighs-atom}
use Rattle.rx_syntax.proofs.weight.syntax.weigh_atom.Goals as goal

pub of_made-requires : goal.of_made-requires
of_made-requires c = atom-atom c.args.config.now c.args.flags c.args.piece c.args.own.now c.in_ok-hir.hir c.in_ok-hir.ensures

pub returns-in-Some : goal.returns-in-Some
returns-in-Some c =
    let config = c.args.config.now in
    let asked = atom_of config c.args.flags c.args.piece c.args.own.now in
    let h = scalar_class (scalars_of c.in-Some.key) in
    let is : asked ≡ Ok h =
    subst (λ (found : Option SetKey). IfSome found (λ key. asked ≡ Ok (scalar_class (scalars_of key)))) c.in-Some.is (c.in_ok-key.ensures config) in
    weighs-atom asked h c.in_ok-weight.field-0 is (atom-atom config c.args.flags c.args.piece c.args.own.now h is) c.in_ok-weight.ensures

pub returns : goal.returns
returns c =
    let is = c.in_ok-hir.ensures in
    weighs-atom (atom_of c.args.config.now c.args.flags c.args.piece c.args.own.now) c.in_ok-hir.hir c.of_made.result is
    (atom-atom c.args.config.now c.args.flags c.args.piece c.args.own.now c.in_ok-hir.hir is) c.of_made.ensures
