use Rattle.std.proofs.Common.{◌≡◌, ℕ, sym, ap, ◌∙◌, arith}
use Rattle.std.proofs.lemmas.Bool.Decides.{nat_tests}
use Rattle.rx_search.specs.LookSet.{has}
use Rattle.rx_search.proofs.LookSetLemmas.{has-none, no_bits}
use Rattle.rx_search.proofs.look_set.LookSet.is_empty.Goals as goal

pub returns : goal.returns
returns c =
    let bits : ℕ = c.self.inside.bits in (
      λ empty kind. (let none : bits ≡ 0 = grind (arith, nat_tests) in ap (λ s. has s kind) (sym c.self.view_is ∙ none) ∙ has-none kind),
      λ none. (let clear : bits ≡ 0 = no_bits bits c.self.invariant (λ kind. ap (λ s. has s kind) c.self.view_is ∙ none kind) in grind (arith, nat_tests)),
    )
