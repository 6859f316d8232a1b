-- Each group with the name that stands at its number.
use Rattle.std.proofs.Common.{◌≡◌, ℕ, zero, suc, ◌+◌, ◌<◌, ◌⊎◌, true, false, ◌==◌, List, map, Option, Some, None, refl, sym, ap, ◌∙◌, inl, inr, arith}
use Rattle.std.specs.Prelude.{bytes_eq}
use Rattle.std.specs.List.{range_with_len, list_any}
use Rattle.std.specs.Option.{option_or}
use Rattle.std.proofs.lemmas.Bool.Decides.{nat_tests}
use Rattle.std.proofs.lemmas.Option.{none-some}
use Rattle.std.proofs.lemmas.Slice.Eq.{bytes_eq-Decides}
use Rattle.rx_model.specs.Expression.{Expression, Expressions, empty, literal, class, look, repetition, capture, concat, alternation, nil, cons}
use Rattle.rx_model.proofs.lemmas.runs.RunLemmas.{by_test}
use Rattle.rx_search.specs.GroupInfo.{is_named, has_duplicate}
use Rattle.rx_hir.specs.Names.{IsNamed, IsNamedAmong, HasOneNameEach, name_in, name_among, only_at, group_names}

or-parts : (a b : Option (List ℕ)) (name : List ℕ) → option_or a b ≡ Some name → (a ≡ Some name) ⊎ (b ≡ Some name)
or-parts None b name e = inr e
or-parts (Some x) b name e = inl e

only-is : (group : ℕ) (name : Option (List ℕ)) (g : ℕ) (x : List ℕ) → only_at group name g ≡ Some x → (g ≡ group) × (name ≡ Some x)
only-is group name g x e =
    by_test (g == group)
    (λ same. let is : g ≡ group = grind (arith, nat_tests) in (is, rw same at e))
    (λ other. absurd (none-some x (rw other at e)))

mutual
  unfolding name_in IsNamed

  -- the name that is told stands there
  pub told-stands : (h : Expression) (g : ℕ) (x : List ℕ) → name_in g h ≡ Some x → IsNamed g (Some x) h
  told-stands empty g x e = absurd (none-some x e)
  told-stands (literal bytes) g x e = absurd (none-some x e)
  told-stands (class members) g x e = absurd (none-some x e)
  told-stands (look kind) g x e = absurd (none-some x e)
  told-stands (repetition least greatest greedy sub) g x e = told-stands sub g x e
  told-stands (capture group name sub) g x e =
      elim (or-parts (only_at group name g) (name_in g sub) x e) [
        | inl here ↦ (let is = only-is group name g x here in inl (is.0, sym is.1))
        | inr inside ↦ inr (told-stands sub g x inside)
      ]
  told-stands (concat subs) g x e = told-among subs g x e
  told-stands (alternation subs) g x e = told-among subs g x e

  told-among : (hs : Expressions) (g : ℕ) (x : List ℕ) → name_among g hs ≡ Some x → IsNamedAmong g (Some x) hs
  told-among nil g x e = absurd (none-some x e)
  told-among (cons sub subs) g x e =
      elim (or-parts (name_in g sub) (name_among g subs) x e) [
        | inl now ↦ inl (told-stands sub g x now)
        | inr later ↦ inr (told-among subs g x later)
      ]

-- where a name stands, one is told
abbrev IsTold : Option (List ℕ) → Type 0
IsTold o = (y : List ℕ) × (o ≡ Some y)

or-left : (a b : Option (List ℕ)) → IsTold a → IsTold (option_or a b)
or-left None b h = absurd (none-some h.0 h.1)
or-left (Some x) b h = (x, refl)

or-right : (a b : Option (List ℕ)) → IsTold b → IsTold (option_or a b)
or-right None b h = h
or-right (Some x) b h = (x, refl)

only-told : (group : ℕ) (name : Option (List ℕ)) (g : ℕ) (x : List ℕ) → g ≡ group → Some x ≡ name → IsTold (only_at group name g)
only-told group name g x same is = let test : (g == group) ≡ true = grind (arith, nat_tests) in (x, rw test (sym is))

mutual
  unfolding name_in IsNamed

  stands-told : (h : Expression) (g : ℕ) (x : List ℕ) → IsNamed g (Some x) h → IsTold (name_in g h)
  stands-told empty g x s = absurd s
  stands-told (literal bytes) g x s = absurd s
  stands-told (class members) g x s = absurd s
  stands-told (look kind) g x s = absurd s
  stands-told (repetition least greatest greedy sub) g x s = stands-told sub g x s
  stands-told (capture group name sub) g x s =
      elim s [
        | inl here ↦ or-left (only_at group name g) (name_in g sub) (only-told group name g x here.0 here.1)
        | inr inside ↦ or-right (only_at group name g) (name_in g sub) (stands-told sub g x inside)
      ]
  stands-told (concat subs) g x s = among-told subs g x s
  stands-told (alternation subs) g x s = among-told subs g x s

  among-told : (hs : Expressions) (g : ℕ) (x : List ℕ) → IsNamedAmong g (Some x) hs → IsTold (name_among g hs)
  among-told nil g x s = absurd s
  among-told (cons sub subs) g x s =
      elim s [
        | inl now ↦ or-left (name_in g sub) (name_among g subs) (stands-told sub g x now)
        | inr later ↦ or-right (name_in g sub) (name_among g subs) (among-told subs g x later)
      ]

-- each name that stands at a number is told there
pub one-told : (h : Expression) → HasOneNameEach h → (g : ℕ) (x : List ℕ) → IsNamed g (Some x) h → name_in g h ≡ Some x
one-told h each g x s =
    let told = stands-told h g x s in
    told.1 ∙ each.one_name g (Some told.0) (Some x) (told-stands h g told.0 told.1) s

-- no name stands twice among the groups

option-cases : {P : Type 0} (o : Option (List ℕ)) → (o ≡ None → P) → ((x : List ℕ) → o ≡ Some x → P) → P
option-cases None none some = none refl
option-cases (Some x) none some = some x refl

module _ (f : ℕ → Option (List ℕ)) (apart : (g k : ℕ) (x : List ℕ) → f g ≡ Some x → f k ≡ Some x → g ≡ k) where
  not-later : (g : ℕ) (x : List ℕ) → f g ≡ Some x → (k n : ℕ) → g < k → list_any (is_named x) (map f (range_with_len k n)) ≡ false
  not-later g x here k zero lt = refl
  not-later g x here k (suc n) lt =
      option-cases (f k)
      (λ none. rw none (not-later g x here (k + 1) n (omega arith)))
      (λ y some. by_test (bytes_eq x y)
      (λ same.
      let is : x ≡ y = (bytes_eq-Decides x y).0 same in
      let clash = apart g k x here (some ∙ ap Some (sym is)) in
      absurd (omega arith))
      (λ other. rw (some, other) (not-later g x here (k + 1) n (omega arith))))

  pub no-duplicate : (k n : ℕ) → has_duplicate (map f (range_with_len k n)) ≡ false
  no-duplicate k zero = refl
  no-duplicate k (suc n) =
      option-cases (f k)
      (λ none. rw none (no-duplicate (k + 1) n))
      (λ y some.
      let first = not-later k y some (k + 1) n (omega arith) in
      let later = no-duplicate (k + 1) n in
      rw (some, first) later)

pub names-apart : (h : Expression) → HasOneNameEach h → has_duplicate (group_names h) ≡ false
names-apart h each = no-duplicate (λ g. name_in g h) (λ g k x here there. each.one_number g k x (told-stands h g x here) (told-stands h k x there)) 1 _
