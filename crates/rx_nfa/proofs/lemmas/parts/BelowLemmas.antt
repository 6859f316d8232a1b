-- What was there is there still, and what is left is less.
use Rattle.std.proofs.Common.{◌≡◌, ℕ, ◌<◌, List, [], ◌∷◌, ◌++◌, ◌∙◌, sym, ap, subst, ⊎_elim, arith, length}
use Rattle.std.specs.Prelude.{All}
use Rattle.std.proofs.lemmas.List.{length-append, length_push}
use Rattle.std.proofs.lemmas.List.Elements.{All-weaker}
use Rattle.rx_nfa.specs.Built.{StartsAll}
use Rattle.rx_nfa.specs.Draft.{Draft}
use Rattle.rx_nfa.specs.declared.state.State.{State}
use Rattle.rx_nfa.specs.declared.state.State.TheVariants.{Union}

-- states that were there before a common start was added are there still
pub StartsAll-below : (old new : Draft) (starts qs : List ℕ) (q : ℕ) → StartsAll old new starts q → All (λ r. r < length old.states) qs
    → All (λ r. r < length new.states) qs
StartsAll-below old new starts qs q all inside =
    ⊎_elim
    (λ h. subst (λ (d : Draft). All (λ r. r < length d.states) qs) (sym h.1) inside)
    (λ h. let more = ap (λ (d : Draft). length d.states) h.1 ∙ length_push old.states (Union starts) in
    All-weaker (λ r. r < length old.states) (λ r. r < length new.states) (λ r lt. omega arith) qs inside)
    all

-- of the states that are left, one was taken
pub popped-below : (all left rest done : List State) (s : State) → all ≡ left ++ done → left ≡ rest ++ s ∷ [] → length rest < length all
popped-below all left rest done s split taken =
    let one = ap length split ∙ length-append left done in
    let other = ap length taken ∙ length_push rest s in
    omega arith
