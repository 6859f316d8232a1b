-- What is so of what is given, if nothing is refused.
use Rattle.std.proofs.Common.{◌≡◌, ℕ, suc, ◌+◌, Bool, true, false, List, [], ◌∷◌, map, Result, Ok, Err, refl, subst, arith}
use Rattle.std.specs.Prelude.{if◌then◌else◌}
use Rattle.std.specs.List.{All}
use Rattle.std.proofs.lemmas.List.Elements.{All-nil, All-cons}
use Rattle.rx_reader.specs.declared.error.SyntaxError.{SyntaxError}
use Rattle.rx_reader.specs.Reading.{◌>>=◌}
use Rattle.rx_syntax.specs.Patterns.{Refusal, before, all_of}

-- where something is given, this is so of it
pub record Gives {A E : Type 0} (P : A → Type 0) (r : Result A E) : Type 0 where
  pub given : (a : A) → r ≡ Ok a → P a

pub refused : {A E : Type 0} {P : A → Type 0} {e : E} → Gives P (Err e)
refused = record { given = λ a is. cc }

pub gives : {A E : Type 0} {P : A → Type 0} {a : A} → P a → Gives {E = E} P (Ok a)
gives {A} {E} {P} {a} h = record { given = λ b is. let same : a ≡ b = cc in subst P same h }

pub bind : {A B : Type 0} {P : A → Type 0} {Q : B → Type 0} {r : Result A SyntaxError} (f : A → Result B SyntaxError)
    → Gives P r → ((a : A) → P a → Gives Q (f a)) → Gives Q (r >>= f)
bind {A} {B} {P} {Q} {r} f h next = bind_at r h
  where
    bind_at : (r : Result A SyntaxError) → Gives P r → Gives Q (r >>= f)
    bind_at (Ok a) h = next a (h.given a refl)
    bind_at (Err e) h = refused

pub test : {A E : Type 0} {P : A → Type 0} (b : Bool) {x y : Result A E} → (b ≡ true → Gives P x) → (b ≡ false → Gives P y) → Gives P (if b then x else y)
test true then_x else_y = then_x refl
test false then_x else_y = else_y refl

-- whatever is given
pub any : {A : Type 0} (r : Result A SyntaxError) → Gives (λ a. Unit {0}) r
any r = record { given = λ a is. tt }

-- Lists of patterns.

before-gives : {A : Type 0} (P : A → Type 0) (p : ℕ) (r : Result A SyntaxError) (others : Result (List A) Refusal) → Gives P r → Gives (All P) others
    → Gives (All P) (before p r others)
before-gives P p (Err e) others h rest = refused
before-gives P p (Ok a) (Err refusal) h rest = refused
before-gives P p (Ok a) (Ok others) h rest = gives (All-cons P a others (h.given a refl) (rest.given others refl))

pub all_of-gives : {I A : Type 0} (Q : I → Type 0) (P : A → Type 0) (f : I → Result A SyntaxError) → ((i : I) → Q i → Gives P (f i))
    → (p : ℕ) (is : List I) → All Q is → Gives (All P) (all_of p (map f is))
unfolding all_of
all_of-gives Q P f each p [] all = gives (All-nil P)
all_of-gives Q P f each p (i ∷ is) all =
    before-gives P p (f i) (all_of (p + 1) (map f is)) (each i (all 0 i (omega arith)))
    (all_of-gives Q P f each (p + 1) is (λ k d lt. all (suc k) d (omega arith)))
