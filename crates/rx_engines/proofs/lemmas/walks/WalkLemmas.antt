-- What frames lead to, and what a state leaves for itself.
use Rattle.std.proofs.Common.{◌≡◌, ℕ, ◌≤◌, List, [], ◌∷◌, ◌++◌, refl, sym, ◌∙◌, ap, set, length}
use Rattle.std.proofs.lemmas.List.{set_past}
use Rattle.std.specs.Prelude.{Option, Some, None, option_map}
use Rattle.std.specs.Option.{option_or}
use Rattle.rx_model.specs.Runs.{Configuration, Trace, with_write, first_some}
use Rattle.rx_engines.specs.Walk.{Slots, answer, pending, explore_all}
use Rattle.rx_engines.specs.declared.frame.Frame.{Frame}
use Rattle.rx_engines.specs.declared.frame.Frame.TheVariants.{Explore, Restore}
use Rattle.rx_model.proofs.lemmas.runs.OptionLemmas.{or-assoc}

answer-or : (slots : Slots) (a b : Option Trace) → answer slots (option_or a b) ≡ option_or (answer slots a) (answer slots b)
answer-or slots None b = refl
answer-or slots (Some t) b = refl

-- a search that writes nothing here
pub answer-unwritten : (slots : Slots) (i : ℕ) (o : Option Trace) → answer slots (option_map (with_write None i) o) ≡ answer slots o
answer-unwritten slots i None = refl
answer-unwritten slots i (Some t) = refl

pub answer-written : (slots : Slots) (k i : ℕ) (o : Option Trace) → answer slots (option_map (with_write (Some k) i) o) ≡ answer (set slots k (Some i)) o
answer-written slots k i None = refl
answer-written slots k i (Some t) = refl

-- a slot that is not there is written
pub answer-past : (slots : Slots) (w : Option ℕ) (i : ℕ) (o : Option Trace) → ((k : ℕ) → w ≡ Some k → length slots ≤ k)
    → answer slots (option_map (with_write w i) o) ≡ answer slots o
answer-past slots None i o past = answer-unwritten slots i o
answer-past slots (Some k) i o past = answer-written slots k i o ∙ ap (λ s. answer s o) (set_past slots k (Some i) (past k refl))

-- the successors on the stack, the preferred one on top
pub pending-explore_all : (go : Configuration → Option Trace) (ds : List Configuration) (rest : List Frame) (slots : Slots)
    → pending go (explore_all ds ++ rest) slots ≡ option_or (answer slots (first_some go ds)) (pending go rest slots)
unfolding pending
pending-explore_all go [] rest slots = refl
pending-explore_all go (d ∷ ds) rest slots =
    ap (option_or (answer slots (go d))) (pending-explore_all go ds rest slots)
    ∙ sym (or-assoc (answer slots (go d)) (answer slots (first_some go ds)) (pending go rest slots))
    ∙ ap (λ o. option_or o (pending go rest slots)) (sym (answer-or slots (go d) (first_some go ds)))

pub pending-alike : (f h : Configuration → Option Trace) → ((c : Configuration) → f c ≡ h c) → (frames : List Frame) (slots : Slots)
    → pending f frames slots ≡ pending h frames slots
unfolding pending
pending-alike f h each [] slots = refl
pending-alike f h each (Explore q i ∷ rest) slots = rw (each (record { state = q; place = i }), pending-alike f h each rest slots) refl
pending-alike f h each (Restore slot old ∷ rest) slots = pending-alike f h each rest (set slots slot old)
