use Rattle.std.proofs.Common.{ℕ, List, sym, ◌∙◌, subst}
use Rattle.std.specs.Prelude.{Option, IfSome}
use Rattle.rx_pre.specs.Whole.{AreWholeOf}
use Rattle.rx_strategies.proofs.MadeLemmas.{pre-made}
use Rattle.rx_strategies.proofs.literal.instead_of.Goals as goal

pub returns-in_ok-in_place_of-in-Some : goal.returns-in_ok-in_place_of-in-Some
returns-in_ok-in_place_of-in-Some c =
    let hs = c.args.exprs.now in
    pre-made c.args.config.now hs c.args.core.now c.requires c.in-Some.found (sym c.in_ok-found.ensures.value ∙ c.in-Some.is)
    (subst (λ (o : Option (List (List ℕ))). IfSome o (λ needles. AreWholeOf needles hs)) c.in-Some.is c.in_ok-found.ensures.whole)
    c.in_ok-in_place_of-in-Some.field-0 c.in_ok-in_place_of-in-Some.ensures
