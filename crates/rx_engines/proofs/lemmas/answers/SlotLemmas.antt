-- Slots, and the writes of a run.
use Rattle.std.proofs.Common.{◌≡◌, ℕ, zero, suc, ◌<◌, List, [], ◌∷◌, refl, sym, ◌∙◌, ap, arith, length, set, get_or, true≢false}
use Rattle.std.proofs.lemmas.List.{get_or-set_same, get_or-set_other, length-set, length-replicate}
use Rattle.std.proofs.lemmas.Bool.Decides.{Decides-eqb}
use Rattle.std.specs.Prelude.{Bool, true, false, Option, Some, None, ◌==◌, if◌then◌else◌, replicate}
use Rattle.std.specs.Option.{option_or}
use Rattle.rx_model.specs.Runs.{last_write}
use Rattle.rx_engines.specs.Walk.{Slots, write_all}
use Rattle.rx_model.proofs.lemmas.runs.OptionLemmas.{or-none_right}

-- a slot after the writes
pub slot-write_all : (ws : List (ℕ × ℕ)) (slots : Slots) (k : ℕ) → k < length slots
    → get_or (write_all ws slots) k None ≡ option_or (last_write ws k) (get_or slots k None)
slot-write_all [] slots k lt = refl
slot-write_all (w ∷ ws) slots k lt =
    slot-write_all ws (set slots w.0 (Some w.1)) k (let e = length-set slots w.0 (Some w.1) in omega arith)
    ∙ ap (option_or (last_write ws k)) (written (w.0 == k) refl) ∙ regroup (last_write ws k) (if w.0 == k then Some w.1 else None) (get_or slots k None)
  where
    regroup : (a b c : Option ℕ) → option_or a (option_or b c) ≡ option_or (option_or a b) c
    regroup None b c = refl
    regroup (Some x) b c = refl

    written : (b : Bool) → (w.0 == k) ≡ b → get_or (set slots w.0 (Some w.1)) k None ≡ option_or (if w.0 == k then Some w.1 else None) (get_or slots k None)
    written true e =
        let same : w.0 ≡ k = (Decides-eqb w.0 k).0 e in
        rw e (ap (λ n. get_or (set slots w.0 (Some w.1)) n None) (sym same) ∙ get_or-set_same slots w.0 (Some w.1) None (omega arith))
    written false e =
        rw e (get_or-set_other slots w.0 k (Some w.1) None (λ clash. true≢false (sym ((Decides-eqb w.0 k).1 (sym clash)) ∙ e)))

-- no slot is set at first
pub empty-slot : (n k : ℕ) → get_or (replicate {A = Option ℕ} n None) k None ≡ None
empty-slot zero k = refl
empty-slot (suc n) zero = refl
empty-slot (suc n) (suc k) = empty-slot n k

pub slot-of_match : (n k : ℕ) (ws : List (ℕ × ℕ)) → k < n → get_or (write_all ws (replicate n None)) k None ≡ last_write ws k
slot-of_match n k ws lt =
    slot-write_all ws (replicate n None) k (let e = length-replicate {A = Option ℕ} n None in omega arith)
    ∙ ap (option_or (last_write ws k)) (empty-slot n k) ∙ or-none_right (last_write ws k)

pub all-empty : (xs : Slots) → ((k : ℕ) → k < length xs → get_or xs k None ≡ None) → xs ≡ replicate (length xs) None
all-empty [] each = refl
all-empty (x ∷ xs) each = λ i. each 0 (omega arith) i ∷ all-empty xs (λ k lt. each (suc k) (omega arith)) i

pub length-write_all : (ws : List (ℕ × ℕ)) (slots : Slots) → length (write_all ws slots) ≡ length slots
length-write_all [] slots = refl
length-write_all (w ∷ ws) slots = length-write_all ws (set slots w.0 (Some w.1)) ∙ length-set slots w.0 (Some w.1)
