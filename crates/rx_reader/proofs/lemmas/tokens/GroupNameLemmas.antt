-- On what reads the name of a group, or the letters of flags: how many there are, and what the tests tell.
use Rattle.std.proofs.Common.{arith, ◌≡◌, ◌∙◌, ap, sym, refl, true, false, not, ◌||◌, ◌==◌, Bool, ℕ, List, length, Vec}
use Rattle.std.proofs.lemmas.Bool.Decides.{nat_tests}
use Rattle.std.specs.Prelude.{◌≢◌, vec_len}
use Rattle.rx_reader.specs.Reading.{Place, past, has_name}

-- a vector has as many elements as the list that it holds
pub counted : {Z : Type 0} (v : Vec ℕ Z) (xs : List ℕ) (n : ℕ) → n ≡ vec_len v → v.items ≡ xs → n ≡ length xs
counted v xs n len is = omega (arith, v.ok.0, len, ap (λ (cs : List ℕ). length cs) is)

-- the test on a name that is empty or not closed, by its parts
pub fails_empty : (n : ℕ) (b : Bool) → n ≡ 0 → ((n == 0) || b) ≡ true
fails_empty n b is = ap (λ (k : ℕ). (k == 0) || b) is

or_true : (a : Bool) → (a || true) ≡ true
or_true true = refl
or_true false = refl

pub fails_open : (n : ℕ) (b : Bool) → b ≡ false → ((n == 0) || not b) ≡ true
fails_open n b is = rw is (or_true (n == 0))

pub passes_closed : (n : ℕ) (b : Bool) → n ≢ 0 → b ≡ true → ((n == 0) || not b) ≡ false
passes_closed n b some is =
    let no : (n == 0) ≡ false = grind (arith, nat_tests) in
    rw (no, is) refl

-- what a name that is added tells of those before: whether one of them is the same
pub had_before : (name cs : List ℕ) (q r : Place) (fresh : Bool) → fresh ≡ not (has_name cs r) → cs ≡ name → r ≡ past q → fresh ≡ false
    → has_name name q ≡ true
had_before name cs q r fresh told is there stale =
    known (has_name name q) (ap (λ (xs : List ℕ). not (has_name xs q)) (sym is) ∙ ap (λ (x : Place). not (has_name cs x)) (sym there) ∙ sym told ∙ stale)
  where
    known : (b : Bool) → not b ≡ false → b ≡ true
    known true e = refl
    known false e = sym e

pub not_before : (name cs : List ℕ) (q r : Place) (fresh : Bool) → fresh ≡ not (has_name cs r) → cs ≡ name → r ≡ past q → fresh ≡ true
    → has_name name q ≡ false
not_before name cs q r fresh told is there new =
    unknown (has_name name q) (ap (λ (xs : List ℕ). not (has_name xs q)) (sym is) ∙ ap (λ (x : Place). not (has_name cs x)) (sym there) ∙ sym told ∙ new)
  where
    unknown : (b : Bool) → not b ≡ true → b ≡ false
    unknown true e = sym e
    unknown false e = refl
