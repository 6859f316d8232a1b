-- Literals in order: which of them come before another.
use Rattle.std.proofs.Common.{◌≡◌, ℕ, zero, suc, ◌<◌, Bool, true, false, ◌&&◌, List, [], ◌∷◌, length, take, drop, get_or, refl, sym, ap, ◌∙◌, arith}
use Rattle.std.specs.List.{list_any, list_all}
use Rattle.std.proofs.lemmas.Bool.{and_parts}
use Rattle.rx_model.proofs.lemmas.runs.RunLemmas.{by_test}
use Rattle.rx_literal.specs.declared.order.Order.{Order}
use Rattle.rx_literal.specs.Literals.{Literal, bytes_of}
use Rattle.rx_literal.specs.Order.{follows, InOrder}
use Rattle.rx_literal.proofs.lemmas.trimming.BeforeLemmas.{untrue, before-trans}

pub all-both : (a b : Bool) → a ≡ true → b ≡ true → (a && b) ≡ true
all-both a b p q = rw p q

pub all-all : (p q : Literal → Bool) → ((m : Literal) → p m ≡ true → q m ≡ true) → (ls : List Literal) → list_all p ls ≡ true → list_all q ls ≡ true
all-all p q to [] h = refl
all-all p q to (m ∷ ls) h = let both = and_parts (p m) (list_all p ls) h in all-both (q m) (list_all q ls) (to m both.0) (all-all p q to ls both.1)

pub all-none : (p q : Literal → Bool) → ((m : Literal) → p m ≡ true → q m ≡ false) → (ls : List Literal) → list_all p ls ≡ true → list_any q ls ≡ false
all-none p q to [] h = refl
all-none p q to (m ∷ ls) h = let both = and_parts (p m) (list_all p ls) h in rw (to m both.0) (all-none p q to ls both.1)

pub all-at : (p : Literal → Bool) (ls : List Literal) (i : ℕ) (m : Literal) → list_all p ls ≡ true → i < length ls → m ≡ get_or ls i m → p m ≡ true
all-at p [] i m h lt at = absurd (omega arith)
all-at p (x ∷ ls) zero m h lt at = ap p at ∙ (and_parts (p x) (list_all p ls) h).0
all-at p (x ∷ ls) (suc i) m h lt at = all-at p ls i m (and_parts (p x) (list_all p ls) h).1 (omega arith) at

module _ (order : Order) (l : Literal) where
  -- up to one that comes before l all do
  pub all-up_to : (ls : List Literal) (i : ℕ) (m : Literal) → InOrder order ls → i < length ls → m ≡ get_or ls i m → follows order l m ≡ true
      → list_all (follows order l) (take (suc i) ls) ≡ true
  all-up_to [] i m o lt at h = absurd (omega arith)
  all-up_to (x ∷ ls) zero m o lt at h = rw (ap (follows order l) (sym at) ∙ h) refl
  all-up_to (x ∷ ls) (suc i) m o lt at h =
      let here = before-trans order (bytes_of x) (bytes_of m) (bytes_of l) (all-at (λ y. follows order y x) ls i m o.0 (omega arith) at) h in
      all-both (follows order l x) (list_all (follows order l) (take (suc i) ls)) here (all-up_to ls i m o.1 (omega arith) at h)

  -- and from one on that doesn't none does
  none-from : (x : Literal) (ls : List Literal) → list_all (λ y. follows order y x) ls ≡ true → follows order l x ≡ false
      → list_any (follows order l) ls ≡ false
  none-from x ls all h =
      all-none (λ y. follows order y x) (follows order l)
      (λ y after. by_test (follows order l y) (λ e. untrue (follows order l x) (before-trans order (bytes_of x) (bytes_of y) (bytes_of l) after e) h) (λ e. e))
      ls all

  pub none-on : (ls : List Literal) (i : ℕ) (m : Literal) → InOrder order ls → i < length ls → m ≡ get_or ls i m → follows order l m ≡ false
      → list_any (follows order l) (drop i ls) ≡ false
  none-on [] i m o lt at h = absurd (omega arith)
  none-on (x ∷ ls) zero m o lt at h =
      let here : follows order l x ≡ false = ap (follows order l) (sym at) ∙ h in
      rw here (none-from x ls o.0 here)
  none-on (x ∷ ls) (suc i) m o lt at h = none-on ls i m o.1 (omega arith) at h
