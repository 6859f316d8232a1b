use Rattle.std.proofs.Common.{◌∙◌, sym, map}
use Rattle.std.specs.Vec.{vec_items}
use Rattle.rx_order.proofs.lemmas.Forms.{inner-from}
use Rattle.rx_order.proofs.lemmas.Yes.{inner-ordered}
use Rattle.rx_order.proofs.decision.inner_has_no_earlier_match.Goals as goal

pub returns-clause-order : goal.returns-clause-order
returns-clause-order c = λ given h q is begins.
    let ls = map vec_items c.args.literals.now in
    inner-from h c.args.prefix.now q ls is begins (inner-ordered c.args.prefix.now ls (sym c.passes_a_test.ensures ∙ given))
