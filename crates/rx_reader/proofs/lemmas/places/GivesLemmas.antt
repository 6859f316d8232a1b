-- What is so of what is read, and of the place after it.
use Rattle.std.proofs.Common.{◌≡◌, ℕ, Bool, true, false, List, Ok, Err, refl, subst}
use Rattle.std.specs.Prelude.{if◌then◌else◌}
use Rattle.std.specs.Char.{IsScalar}
use Rattle.rx_reader.specs.declared.error.SyntaxError.{SyntaxError}
use Rattle.rx_reader.specs.Reading.{Place, Read, ◌>>=◌, first, past}

-- where something is read, this is so of it and of the place after it
pub record Gives {A : Type 0} (P : A → Place → Type 0) (r : Read A) : Type 0 where
  pub given : (a : A) (q : Place) → r ≡ Ok (a, q) → P a q

pub refused : {A : Type 0} {P : A → Place → Type 0} {e : SyntaxError} → Gives P (Err e)
refused = record { given = λ a q is. cc }

pub reads : {A : Type 0} {P : A → Place → Type 0} {a : A} {q : Place} → P a q → Gives P (Ok (a, q))
reads {A} {P} {a} {q} h = record { given = λ b r is. let pairs : ◌≡◌ {A = A × Place} (a, q) (b, r) = cc in subst (λ (t : A × Place). P t.0 t.1) pairs h }

pub bind : {A B : Type 0} {P : A → Place → Type 0} {Q : B → Place → Type 0} {r : Read A} (f : A × Place → Read B)
    → Gives P r → ((a : A) (q : Place) → P a q → Gives Q (f (a, q))) → Gives Q (r >>= f)
bind {A} {B} {P} {Q} {r} f h next = bind_at r h
  where
    bind_at : (r : Read A) → Gives P r → Gives Q (r >>= f)
    bind_at (Ok (a, q)) h = next a q (h.given a q refl)
    bind_at (Err e) h = refused

pub test : {A : Type 0} {P : A → Place → Type 0} (b : Bool) {x y : Read A} → (b ≡ true → Gives P x) → (b ≡ false → Gives P y) → Gives P (if b then x else y)
test true then_x else_y = then_x refl
test false then_x else_y = else_y refl

-- whatever is read
pub any : {A : Type 0} (r : Read A) → Gives (λ a q. Unit {0}) r
any r = record { given = λ a q is. tt }

pub both : {A : Type 0} {P Q : A → Place → Type 0} {r : Read A} → Gives P r → Gives Q r → Gives (λ a q. P a q × Q a q) r
both h k = record { given = λ a q is. (h.given a q is, k.given a q is) }

pub weaker : {A : Type 0} {P Q : A → Place → Type 0} {r : Read A} → Gives P r → ((a : A) (q : Place) → P a q → Q a q) → Gives Q r
weaker h leads = record { given = λ a q is. leads a q (h.given a q is) }

-- so many groups were opened at the place, and they have these names
abbrev pub IsAt : (groups : ℕ) (names : List (List ℕ)) → Place → Type 0
IsAt g ns q = (q.groups ≡ g) × (q.names ≡ ns)

-- this is so of the place after what is read
abbrev pub Keeps : {A : Type 0} (K : Place → Type 0) → Read A → Type 0
Keeps {A} K r = Gives {A = A} (λ a q. K q) r

-- What is so of a place is so of the one past a character too, and tells this of the character; it is so of each scalar.
pub record Carries (K : Place → Type 0) (S : ℕ → Type 0) : Type 0 where
  pub on : (p : Place) → K p → K (past p)
  pub first : (p : Place) → K p → S (first p)
  pub scalars : (c : ℕ) → IsScalar c → S c

-- no character that is passed opens a group
pub groups-carry : (g : ℕ) (ns : List (List ℕ)) → Carries (IsAt g ns) (λ c. Unit {0})
groups-carry g ns = record { on = λ p at. at; first = λ p at. tt; scalars = λ c is. tt }
