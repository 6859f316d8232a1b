use Rattle.std.proofs.Common.{◌≡◌, true, ◌∙◌, ap, sym, arith}
use Rattle.std.proofs.lemmas.Grind.{common_steps}
use Rattle.std.proofs.lemmas.Result.{err_from_is_err_and}
use Rattle.rx_sets.specs.Property.{property}
use Rattle.rx_syntax.specs.Classes.{scalars_named}
use Rattle.rx_syntax.proofs.lemmas.translation.NamedLemmas.{perl-set, property-set, property-refused}
use Rattle.rx_syntax.proofs.set.named_set.Goals as goal

pub returns-in-Perl : goal.returns-in-Perl
returns-in-Perl c = λ config.
    let own = c.in-Perl in
    let on : c.args.flags.unicode ≡ true = grind (arith, common_steps) in
    perl-set config c.args.flags c.args.piece c.args.atom.now own.kind own.negated c.new.result on own.is c.new.ensures

pub returns-in_err-key-in-Property : goal.returns-in_err-key-in-Property
returns-in_err-key-in-Property c = λ config.
    let own = c.in-Property in
    let on : c.args.flags.unicode ≡ true = grind (arith, common_steps) in
    let e = err_from_is_err_and c.from_residual.result c.from_residual.ensures.1 in
    rw (e.1, e.2) (property-refused config c.args.flags c.args.piece c.args.atom.now own.name own.negated _ on own.is
    (rw c.as_slice.ensures at c.in_err-key-in-Property.ensures))

pub returns-in_ok-key-in-Property : goal.returns-in_ok-key-in-Property
returns-in_ok-key-in-Property c = λ config.
    let own = c.in-Property in
    let on : c.args.flags.unicode ≡ true = grind (arith, common_steps) in
    let named = ap (λ name. scalars_named c.args.flags c.args.piece own.negated (property name)) (sym c.as_slice.ensures) ∙ c.in_ok-key-in-Property.ensures in
    property-set config c.args.flags c.args.piece c.args.atom.now own.name own.negated c.in_ok-key-in-Property.key on own.is named
