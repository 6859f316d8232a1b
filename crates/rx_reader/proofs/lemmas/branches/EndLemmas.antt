-- Where what is read ends.
use Rattle.std.proofs.Common.{◌≡◌, ℕ, ◌<◌, ◌≤◌, Bool, true, false, length, Ok, Err, refl, subst, arith}
use Rattle.std.proofs.lemmas.Grind.{common_steps}
use Rattle.std.proofs.lemmas.Bool.Decides.{nat_tests}
use Rattle.std.specs.Prelude.{if◌then◌else◌}
use Rattle.rx_reader.specs.declared.error.SyntaxError.{SyntaxError}
use Rattle.rx_reader.specs.Reading.{Place, Read, ◌>>=◌, at_end, past}

-- what is left to read is less than n
pub record EndsBelow {A : Type 0} (n : ℕ) (r : Read A) : Type 0 where
  pub below : (a : A) (q : Place) → r ≡ Ok (a, q) → length q.text < n

pub refused : {A : Type 0} (n : ℕ) (e : SyntaxError) → EndsBelow {A = A} n (Err e)
refused n e = record { below = λ a q is. cc }

pub reads : {A : Type 0} {n : ℕ} {a : A} {q : Place} → length q.text < n → EndsBelow {A = A} n (Ok (a, q))
reads {A} {n} {a} {q} h =
    record { below = λ b r is. let pairs : ◌≡◌ {A = A × Place} (a, q) (b, r) = cc in subst (λ (t : A × Place). length t.1.text < n) pairs h }

pub bind : {A B : Type 0} {n m : ℕ} {r : Read A} (f : A × Place → Read B) → EndsBelow m r → ((a : A) (q : Place) → length q.text < m → EndsBelow n (f (a, q)))
    → EndsBelow n (r >>= f)
bind {A} {B} {n} {m} {r} f h next = bind_at r h
  where
    bind_at : (r : Read A) → EndsBelow m r → EndsBelow n (r >>= f)
    bind_at (Ok (a, q)) h = next a q (h.below a q refl)
    bind_at (Err e) h = refused n e

pub test : {A : Type 0} {n : ℕ} (b : Bool) {x y : Read A} → (b ≡ true → EndsBelow n x) → (b ≡ false → EndsBelow n y) → EndsBelow n (if b then x else y)
test {A} {n} true {x} {y} then_x else_y = then_x refl
test {A} {n} false {x} {y} then_x else_y = else_y refl

pub same_bind : {A B : Type 0} {m : ℕ} (r : Read A) (f g : A × Place → Read B) → EndsBelow m r → ((a : A) (q : Place) → length q.text < m → f (a, q) ≡ g (a, q))
    → r >>= f ≡ r >>= g
same_bind (Ok (a, q)) f g h next = next a q (h.below a q refl)
same_bind (Err e) f g h next = refl

pub weaker : {A : Type 0} {m n : ℕ} {r : Read A} → m ≤ n → EndsBelow m r → EndsBelow n r
weaker le h = record { below = λ a q is. omega (arith, h.below a q is) }

pub at_end_of : (p : Place) → at_end p ≡ false → 0 < length p.text
at_end_of p h = grind (arith, nat_tests)

pub past_le : (p : Place) → length (past p).text ≤ length p.text
past_le p = grind (arith, common_steps)

pub past_lt : (p : Place) → 0 < length p.text → length (past p).text < length p.text
past_lt p h = grind (arith, common_steps)
