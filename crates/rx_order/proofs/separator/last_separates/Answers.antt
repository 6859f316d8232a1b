use Rattle.std.proofs.Common.{map, ◌∙◌, subst, ℕ, Option}
use Rattle.std.specs.Vec.{vec_items}
use Rattle.rx_order.specs.Places.{IsLastConsuming}
use Rattle.rx_order.proofs.lemmas.PlaceLemmas.{last-some, last-none}
use Rattle.rx_order.proofs.separator.last_separates.Goals as goal

pub returns-in-Some : goal.returns-in-Some
returns-in-Some c =
    let is = subst (λ (o : Option ℕ). IsLastConsuming c.args.parts.now o) c.in-Some.is c.last_consuming.ensures in
    c.separates_at.ensures ∙ last-some c.args.parts.now (map vec_items c.args.literals.now) c.in-Some.at c.requires is

pub returns-in-None : goal.returns-in-None
returns-in-None c =
    let is = subst (λ (o : Option ℕ). IsLastConsuming c.args.parts.now o) c.in-None.is c.last_consuming.ensures in
    last-none c.args.parts.now (map vec_items c.args.literals.now) c.requires is
