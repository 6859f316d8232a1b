-- The names in a normal form are names of its parts.
use Rattle.std.proofs.Common.{ℕ, zero, suc, ◌⊎◌, Bool, List, [], ◌∷◌, ◌++◌, flat_map, min, Option, Some, None, inl, inr}
use Rattle.rx_model.specs.Text.{Class, scalar_ranges, byte_ranges}
use Rattle.rx_model.specs.Expression.{Expression, Expressions, empty, literal, class, look, repetition, capture, concat, alternation, nil, cons}
use Rattle.rx_model.proofs.lemmas.runs.RunLemmas.{by_test}
use Rattle.rx_hir.specs.Length.{maximum_len}
use Rattle.rx_hir.specs.Names.{IsNamed, IsNamedAmong}
use Rattle.rx_hir.specs.Normal.{literal_of, literal_or, set_of, only_encoding, class_of, is_zero, at_most_one, copies_of, repetition_of, list_of, expressions, parts_of, join_literals, joined, sequence_of, concat_of, alternatives_of, choice_of, alternation_of}

module _ (g : ℕ) (n : Option (List ℕ)) where
  -- one of the list has it
  abbrev Some_has : List Expression → Type 0
  Some_has hs = IsNamedAmong g n (expressions hs)

  pub literal-unnamed : (bytes : List ℕ) → IsNamed g n (literal_of bytes) → ⊥
  unfolding IsNamed
  literal-unnamed [] s = s
  literal-unnamed (b ∷ bytes) s = s

  or-unnamed : (h : Expression) → (IsNamed g n h → ⊥) → (o : Option (List ℕ)) → IsNamed g n (literal_or h o) → ⊥
  unfolding IsNamed
  or-unnamed h none None s = none s
  or-unnamed h none (Some bytes) s = s

  set-unnamed : (members : Class) → IsNamed g n (set_of members) → ⊥
  unfolding IsNamed
  set-unnamed (scalar_ranges []) s = s
  set-unnamed (scalar_ranges (r ∷ rs)) s = s
  set-unnamed (byte_ranges rs) s = s

  pub class-unnamed : (members : Class) → IsNamed g n (class_of members) → ⊥
  class-unnamed members s = or-unnamed (set_of members) (set-unnamed members) (only_encoding members) s

  copies-named : (least : ℕ) (greatest : Option ℕ) (greedy : Bool) (sub : Expression) → IsNamed g n (copies_of least greatest greedy sub) → IsNamed g n sub
  unfolding IsNamed
  copies-named zero None greedy sub s = s
  copies-named zero (Some zero) greedy sub s = absurd s
  copies-named zero (Some (suc m)) greedy sub s = s
  copies-named (suc zero) None greedy sub s = s
  copies-named (suc zero) (Some zero) greedy sub s = s
  copies-named (suc zero) (Some (suc zero)) greedy sub s = s
  copies-named (suc zero) (Some (suc (suc m))) greedy sub s = s
  copies-named (suc (suc least)) greatest greedy sub s = s

  pub repetition-named : (least : ℕ) (greatest : Option ℕ) (greedy : Bool) (sub : Expression) → IsNamed g n (repetition_of least greatest greedy sub)
      → IsNamed g n sub
  repetition-named least greatest greedy sub s =
      by_test (is_zero (maximum_len sub))
      (λ e. copies-named (min least 1) (Some (at_most_one greatest)) greedy sub (rw e at s))
      (λ e. copies-named least greatest greedy sub (rw e at s))

  list-named : (subs : Expressions) → Some_has (list_of subs) → IsNamedAmong g n subs
  unfolding IsNamed
  list-named nil s = s
  list-named (cons h hs) s = elim s [ inl is ↦ inl is | inr is ↦ inr (list-named hs is) ]

  some-split : (xs ys : List Expression) → Some_has (xs ++ ys) → Some_has xs ⊎ Some_has ys
  unfolding IsNamed
  some-split [] ys s = inr s
  some-split (x ∷ xs) ys s =
      elim s [
        | inl is ↦ inl (inl is)
        | inr is ↦ elim (some-split xs ys is) [ inl a ↦ inl (inr a) | inr b ↦ inr b ]
      ]

  only-named : (h : Expression) → Some_has (h ∷ []) → IsNamed g n h
  unfolding IsNamed
  only-named h s = elim s [ inl is ↦ is | inr is ↦ absurd is ]

  parts-named : (h : Expression) → Some_has (parts_of h) → IsNamed g n h
  unfolding IsNamed
  parts-named empty s = s
  parts-named (concat subs) s = list-named subs s
  parts-named (literal bytes) s = only-named (literal bytes) s
  parts-named (class members) s = only-named (class members) s
  parts-named (look kind) s = only-named (look kind) s
  parts-named (repetition least greatest greedy sub) s = only-named (repetition least greatest greedy sub) s
  parts-named (capture group name sub) s = only-named (capture group name sub) s
  parts-named (alternation subs) s = only-named (alternation subs) s

  flat-named : (f : Expression → List Expression) → ((h : Expression) → Some_has (f h) → IsNamed g n h) → (hs : List Expression) → Some_has (flat_map f hs)
      → Some_has hs
  unfolding IsNamed
  flat-named f each [] s = s
  flat-named f each (h ∷ hs) s =
      elim (some-split (f h) (flat_map f hs) s) [ inl is ↦ inl (each h is) | inr is ↦ inr (flat-named f each hs is) ]

  join-named : (h : Expression) (hs : List Expression) → Some_has (join_literals h hs) → Some_has (h ∷ hs)
  unfolding IsNamed
  join-named (literal a) (literal b ∷ hs) s = inr s
  join-named h hs s = s

  joined-named : (hs : List Expression) → Some_has (joined hs) → Some_has hs
  unfolding IsNamed
  joined-named [] s = s
  joined-named (h ∷ hs) s = elim (join-named h (joined hs) s) [ inl is ↦ inl is | inr is ↦ inr (joined-named hs is) ]

  sequence-named : (hs : List Expression) → IsNamed g n (sequence_of hs) → Some_has hs
  unfolding IsNamed
  sequence-named [] s = s
  sequence-named (h ∷ []) s = inl s
  sequence-named (h ∷ i ∷ hs) s = s

  pub concat-named : (hs : List Expression) → IsNamed g n (concat_of hs) → IsNamedAmong g n (expressions hs)
  concat-named hs s =
      let parts = flat_map parts_of hs in
      flat-named parts_of parts-named hs (joined-named parts (sequence-named (joined parts) s))

  alternatives-named : (h : Expression) → Some_has (alternatives_of h) → IsNamed g n h
  unfolding IsNamed
  alternatives-named (alternation subs) s = list-named subs s
  alternatives-named empty s = only-named empty s
  alternatives-named (literal bytes) s = only-named (literal bytes) s
  alternatives-named (class members) s = only-named (class members) s
  alternatives-named (look kind) s = only-named (look kind) s
  alternatives-named (repetition least greatest greedy sub) s = only-named (repetition least greatest greedy sub) s
  alternatives-named (capture group name sub) s = only-named (capture group name sub) s
  alternatives-named (concat subs) s = only-named (concat subs) s

  choice-named : (hs : List Expression) → IsNamed g n (choice_of hs) → Some_has hs
  unfolding IsNamed
  choice-named [] s = s
  choice-named (h ∷ []) s = inl s
  choice-named (h ∷ i ∷ hs) s = s

  pub alternation-named : (hs : List Expression) → IsNamed g n (alternation_of hs) → IsNamedAmong g n (expressions hs)
  alternation-named hs s =
      let choices = flat_map alternatives_of hs in
      flat-named alternatives_of alternatives-named hs (choice-named choices s)
