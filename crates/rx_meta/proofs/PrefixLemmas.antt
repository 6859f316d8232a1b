-- What stands before literals within each match has no groups.
use Rattle.std.proofs.Common.{◌≡◌, ℕ, zero, suc, ◌≤◌, List, [], ◌∷◌, take, length, Option, Some, None, refl, sym, ap, subst, inl, inr, arith}
use Rattle.std.proofs.lemmas.Option.{none-some, same_Some}
use Rattle.std.specs.Prelude.{◌+◌, ◌*◌, max, drop}
use Rattle.std.specs.Option.{option_map, option_or}
use Rattle.rx_model.specs.Expression.{Expression, Expressions, empty, literal, class, look, repetition, capture, concat, alternation, nil, cons}
use Rattle.rx_model.specs.Search.{greatest_group, greatest_in, groups_before}
use Rattle.rx_hir.specs.Cost.{slots_of}
use Rattle.rx_hir.specs.Names.{IsNamed, IsNamedAmong}
use Rattle.rx_hir.specs.Normal.{list_of, expressions, concat_of}
use Rattle.rx_hir.proofs.NamedFormsLemmas.{repetition-named, concat-named, alternation-named}
use Rattle.rx_order.specs.Inner.{uncaptured, all_uncaptured, parts_in, top_parts, before_part, first_fast, inner_at, inner_in, inner_of}

-- no group stands in the expression, or in one of the list
record HasNoGroup (h : Expression) : Type 0 where
  none : (g : ℕ) (n : Option (List ℕ)) → IsNamed g n h → ⊥

record HaveNoGroup (hs : List Expression) : Type 0 where
  none : (g : ℕ) (n : Option (List ℕ)) → IsNamedAmong g n (expressions hs) → ⊥

mutual
  unfolding uncaptured IsNamed

  uncaptured-none : (h : Expression) (g : ℕ) (n : Option (List ℕ)) → IsNamed g n (uncaptured h) → ⊥
  uncaptured-none empty g n s = s
  uncaptured-none (literal bytes) g n s = s
  uncaptured-none (class members) g n s = s
  uncaptured-none (look kind) g n s = s
  uncaptured-none (repetition least greatest greedy sub) g n s = uncaptured-none sub g n (repetition-named g n least greatest greedy (uncaptured sub) s)
  uncaptured-none (capture group name sub) g n s = uncaptured-none sub g n s
  uncaptured-none (concat subs) g n s = all-none subs g n (concat-named g n (all_uncaptured subs) s)
  uncaptured-none (alternation subs) g n s = all-none subs g n (alternation-named g n (all_uncaptured subs) s)

  all-none : (hs : Expressions) (g : ℕ) (n : Option (List ℕ)) → IsNamedAmong g n (expressions (all_uncaptured hs)) → ⊥
  all-none nil g n s = s
  all-none (cons sub subs) g n s = elim s [ inl is ↦ uncaptured-none sub g n is | inr is ↦ all-none subs g n is ]

mutual
  unfolding greatest_group IsNamed

  -- without a group the greatest number is 0
  none-greatest : (h : Expression) → ((g : ℕ) (n : Option (List ℕ)) → IsNamed g n h → ⊥) → greatest_group h ≡ 0
  none-greatest empty none = refl
  none-greatest (literal bytes) none = refl
  none-greatest (class members) none = refl
  none-greatest (look kind) none = refl
  none-greatest (repetition least greatest greedy sub) none = none-greatest sub none
  none-greatest (capture group name sub) none = absurd (none group name (inl (refl, refl)))
  none-greatest (concat subs) none = none-among subs none
  none-greatest (alternation subs) none = none-among subs none

  none-among : (hs : Expressions) → ((g : ℕ) (n : Option (List ℕ)) → IsNamedAmong g n hs → ⊥) → greatest_in hs ≡ 0
  none-among nil none = refl
  none-among (cons sub subs) none =
      λ i. max (none-greatest sub (λ g n is. none g n (inl is)) i) (none-among subs (λ g n is. none g n (inr is)) i)

listed : (hs : Expressions) (g : ℕ) (n : Option (List ℕ)) → IsNamedAmong g n (expressions (list_of hs)) → IsNamedAmong g n hs
unfolding IsNamed
listed nil g n s = s
listed (cons h hs) g n s = elim s [ inl is ↦ inl is | inr is ↦ inr (listed hs g n is) ]

-- the parts of a concatenation without groups have none
parts-none : (h : Expression) → ((g : ℕ) (n : Option (List ℕ)) → IsNamed g n h → ⊥) → (parts : List Expression) → parts_in h ≡ Some parts → HaveNoGroup parts
unfolding IsNamed
parts-none (concat subs) none parts e = subst HaveNoGroup (same_Some (list_of subs) parts e) (record { none = λ g n is. none g n (listed subs g n is) })
parts-none (capture group name sub) none parts e = absurd (none-some parts e)
parts-none empty none parts e = absurd (none-some parts e)
parts-none (literal bytes) none parts e = absurd (none-some parts e)
parts-none (class members) none parts e = absurd (none-some parts e)
parts-none (look kind) none parts e = absurd (none-some parts e)
parts-none (repetition least greatest greedy sub) none parts e = absurd (none-some parts e)
parts-none (alternation subs) none parts e = absurd (none-some parts e)

top-none : (h : Expression) (parts : List Expression) → top_parts h ≡ Some parts → HaveNoGroup parts
unfolding top_parts
top-none (capture group name sub) parts e = top-none sub parts e
top-none (concat subs) parts e =
    parts-none (concat_of (all_uncaptured subs)) (λ g n s. all-none subs g n (concat-named g n (all_uncaptured subs) s)) parts e
top-none empty parts e = absurd (none-some parts e)
top-none (literal bytes) parts e = absurd (none-some parts e)
top-none (class members) parts e = absurd (none-some parts e)
top-none (look kind) parts e = absurd (none-some parts e)
top-none (repetition least greatest greedy sub) parts e = absurd (none-some parts e)
top-none (alternation subs) parts e = absurd (none-some parts e)

first-ones : (k : ℕ) (hs : List Expression) (g : ℕ) (n : Option (List ℕ)) → IsNamedAmong g n (expressions (take k hs)) → IsNamedAmong g n (expressions hs)
unfolding IsNamed
first-ones zero hs g n s = absurd s
first-ones (suc k) [] g n s = s
first-ones (suc k) (h ∷ hs) g n s = elim s [ inl is ↦ inl is | inr is ↦ inr (first-ones k hs g n is) ]

before-none : (k : ℕ) (parts : List Expression) → HaveNoGroup parts → HasNoGroup (before_part k parts)
before-none k parts none = record { none = λ g n s. none.none g n (first-ones k parts g n (concat-named g n (take k parts) s)) }

mapped-none : (parts : List Expression) → HaveNoGroup parts → (o : Option (ℕ × List (List ℕ))) (found : Expression × List (List ℕ))
    → option_map (inner_at parts) o ≡ Some found → HasNoGroup found.0
mapped-none parts none None found e = absurd (none-some found e)
mapped-none parts none (Some at) found e =
    subst (λ (f : Expression × List (List ℕ)). HasNoGroup f.0) (same_Some (inner_at parts at) found e) (before-none at.0 parts none)

inner-in-none : (o : Option (List Expression)) → ((parts : List Expression) → o ≡ Some parts → HaveNoGroup parts) → (found : Expression × List (List ℕ))
    → inner_in o ≡ Some found → HasNoGroup found.0
inner-in-none None none found e = absurd (none-some found e)
inner-in-none (Some parts) none found e = mapped-none parts (none parts refl) (first_fast 1 (drop 1 parts)) found e

inner-none : (hs : List Expression) (found : Expression × List (List ℕ)) → inner_of hs ≡ Some found → HasNoGroup found.0
inner-none [] found e = absurd (none-some found e)
inner-none (h ∷ []) found e = inner-in-none (top_parts h) (top-none h) found e
inner-none (h ∷ g ∷ hs) found e = absurd (none-some found e)

-- so its pattern has the slots of the whole match alone
pub inner-slots : (hs : List Expression) (found : Expression × List (List ℕ)) → inner_of hs ≡ Some found → slots_of (found.0 ∷ []) ≡ 2
inner-slots hs found e =
    let none : greatest_group found.0 ≡ 0 = none-greatest found.0 (inner-none hs found e).none in
    omega arith
