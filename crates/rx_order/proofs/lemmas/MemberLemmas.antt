-- A number is a member of ranges just where no range of that number alone is clear of them.
use Rattle.std.proofs.Common.{◌≡◌, ℕ, Bool, true, false, List, [], ◌∷◌, length, map, get_or, ◌<◌, refl, sym, ap, subst, ◌∙◌, arith}
use Rattle.std.specs.Prelude.{nat_le, nat_lt, ◌&&◌, ◌||◌, not}
use Rattle.std.specs.List.{list_all}
use Rattle.std.proofs.lemmas.Bool.Decides.{nat_tests}
use Rattle.std.proofs.lemmas.List.{get_or-map, length-map}
use Rattle.rx_model.specs.Text.{is_member}
use Rattle.rx_model.proofs.lemmas.runs.RunLemmas.{by_test}
use Rattle.rx_order.specs.Tests.{is_clear, is_not_empty, are_literals}

le-not : (a c : ℕ) → nat_le a c ≡ not (nat_lt c a)
le-not a c =
    by_test (nat_lt c a)
    (λ e. let f : nat_le a c ≡ false = grind (arith, nat_tests) in rw (e, f) refl)
    (λ e. let f : nat_le a c ≡ true = grind (arith, nat_tests) in rw (e, f) refl)

both-not : (x y : Bool) → (not x && not y) ≡ not (y || x)
both-not true true = refl
both-not true false = refl
both-not false true = refl
both-not false false = refl

one-not : (x y : Bool) → (not x || not y) ≡ not (x && y)
one-not true true = refl
one-not true false = refl
one-not false y = refl

pub member-clear : (rs : List (ℕ × ℕ)) (c : ℕ) → is_member rs c ≡ not (is_clear rs (c, c))
member-clear [] c = refl
member-clear (r ∷ rs) c =
    let here : (nat_le r.0 c && nat_le c r.1) ≡ not (nat_lt r.1 c || nat_lt c r.0) =
    (λ i. le-not r.0 c i && le-not c r.1 i) ∙ both-not (nat_lt c r.0) (nat_lt r.1 c) in
    (λ i. here i || member-clear rs c i) ∙ one-not (nat_lt r.1 c || nat_lt c r.0) (is_clear rs (c, c))

-- a list without elements is empty, and one with some is not
pub empty-test : (bytes : List ℕ) → length bytes ≡ 0 → is_not_empty bytes ≡ false
empty-test [] e = refl
empty-test (b ∷ bytes) e = absurd (omega arith)

pub some-test : (bytes : List ℕ) → 0 < length bytes → is_not_empty bytes ≡ true
some-test [] lt = absurd (omega arith)
some-test (b ∷ bytes) lt = refl

-- of literals, of which there is one at least
pub some-literals : (ls : List (List ℕ)) → 0 < length ls → are_literals ls ≡ list_all is_not_empty ls
some-literals [] lt = absurd (omega arith)
some-literals (l ∷ ls) lt = refl

-- an element under a map
pub map-at : {X Y : Type 0} (f : X → Y) (xs : List X) (i : ℕ) (x : X) → i < length xs → x ≡ get_or xs i x
    → (i < length (map f xs)) × (f x ≡ get_or (map f xs) i (f x))
map-at f xs i x lt is = (subst (λ n. i < n) (sym (length-map xs f)) lt, sym (get_or-map f xs i x (f x) lt ∙ ap f (sym is)))
