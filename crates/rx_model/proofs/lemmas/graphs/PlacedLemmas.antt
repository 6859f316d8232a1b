-- Where the states of a part stand in the whole list.
use Rattle.std.proofs.Common.{◌≡◌, ℕ, suc, ◌+◌, ◌≤◌, ◌<◌, List, [], ◌∷◌, ◌++◌, ◌∙◌, ap, arith, length, get_or}
use Rattle.rx_model.specs.Graph.{State, choice}
use Rattle.std.proofs.lemmas.List.{length-append, get_or_append_left, get_or-append-add}

-- the states stand in the whole list from the base on
pub record Placed (whole : List State) (base : ℕ) (states : List State) : Type 0 where
  pub within : base + length states ≤ length whole
  pub each : (k : ℕ) → k < length states → get_or whole (base + k) (choice []) ≡ get_or states k (choice [])

pub Placed-front : (whole : List State) (base : ℕ) (xs ys : List State) → Placed whole base (xs ++ ys) → Placed whole base xs
Placed-front whole base xs ys p = record {
  within = let h = p.within in let l = length-append xs ys in omega arith;
  each = λ k lt. p.each k (let l = length-append xs ys in omega arith) ∙ get_or_append_left xs ys (choice []) k lt;
}

pub Placed-back : (whole : List State) (base : ℕ) (xs ys : List State) → Placed whole base (xs ++ ys) → Placed whole (base + length xs) ys
Placed-back whole base xs ys p = record {
  within = let h = p.within in let l = length-append xs ys in omega arith;
  each = λ k lt.
      (let l = length-append xs ys in
      let moved : base + length xs + k ≡ base + (length xs + k) = omega arith in
      ap (λ n. get_or whole n (choice [])) moved ∙ p.each (length xs + k) (omega arith) ∙ get_or-append-add xs ys k (choice []));
}

pub Placed-first : (whole : List State) (base : ℕ) (s : State) (rest : List State) → Placed whole base (s ∷ rest)
    → (base < length whole) × (get_or whole base (choice []) ≡ s)
Placed-first whole base s rest p =
    let zero_more : base ≡ base + 0 = omega arith in
    ((let h = p.within in omega arith), ap (λ n. get_or whole n (choice [])) zero_more ∙ p.each 0 (omega arith))

pub Placed-rest : (whole : List State) (base : ℕ) (s : State) (rest : List State) → Placed whole base (s ∷ rest) → Placed whole (suc base) rest
Placed-rest whole base s rest p = record {
  within = let h = p.within in omega arith;
  each = λ k lt. (let moved : suc base + k ≡ base + suc k = omega arith in ap (λ n. get_or whole n (choice [])) moved ∙ p.each (suc k) (omega arith));
}
