use Rattle.std.proofs.Common.{map, ◌∙◌, subst, ℕ, Option}
use Rattle.std.specs.Vec.{vec_items}
use Rattle.rx_order.specs.Places.{IsFirstConsuming}
use Rattle.rx_order.proofs.lemmas.PlaceLemmas.{first-some, first-none}
use Rattle.rx_order.proofs.separator.first_separates.Goals as goal

pub returns-in-Some : goal.returns-in-Some
returns-in-Some c =
    let is = subst (λ (o : Option ℕ). IsFirstConsuming c.args.parts.now o) c.in-Some.is c.first_consuming.ensures in
    c.separates_at.ensures ∙ first-some c.args.parts.now (map vec_items c.args.literals.now) c.in-Some.at c.requires is

pub returns-in-None : goal.returns-in-None
returns-in-None c =
    let is = subst (λ (o : Option ℕ). IsFirstConsuming c.args.parts.now o) c.in-None.is c.first_consuming.ensures in
    first-none c.args.parts.now (map vec_items c.args.literals.now) c.requires is
