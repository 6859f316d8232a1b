-- Where the name of a group is told.
use Rattle.std.proofs.Common.{◌≡◌, ℕ, zero, suc, ◌≤◌, List, length, map, Option, Some, None, inl, inr, ap, ◌∙◌, arith}
use Rattle.std.specs.Prelude.{slice_get}
use Rattle.std.specs.List.{range_with_len}
use Rattle.std.proofs.lemmas.Option.{slice_get-get_or}
use Rattle.std.proofs.lemmas.List.FromFn.{get_or-map-range_with_len, length-map-range_with_len}
use Rattle.rx_model.specs.Expression.{Expression, Expressions, empty, literal, class, look, repetition, capture, concat, alternation, nil, cons}
use Rattle.rx_model.specs.Search.{greatest_group, greatest_in}
use Rattle.rx_hir.specs.Names.{IsNamed, IsNamedAmong, name_in, group_names}

mutual
  unfolding greatest_group IsNamed

  -- a number that stands is at most the greatest one
  pub named-within : (h : Expression) (g : ℕ) (n : Option (List ℕ)) → IsNamed g n h → g ≤ greatest_group h
  named-within empty g n s = absurd s
  named-within (literal bytes) g n s = absurd s
  named-within (class members) g n s = absurd s
  named-within (look kind) g n s = absurd s
  named-within (repetition least greatest greedy sub) g n s = named-within sub g n s
  named-within (capture group name sub) g n s =
      elim s [
        | inl own ↦ (let same : g ≡ group = own.0 in omega arith)
        | inr inside ↦ (let le = named-within sub g n inside in omega arith)
      ]
  named-within (concat subs) g n s = among-within subs g n s
  named-within (alternation subs) g n s = among-within subs g n s

  among-within : (hs : Expressions) (g : ℕ) (n : Option (List ℕ)) → IsNamedAmong g n hs → g ≤ greatest_in hs
  among-within nil g n s = absurd s
  among-within (cons sub subs) g n s =
      elim s [
        | inl now ↦ (let le = named-within sub g n now in omega arith)
        | inr later ↦ (let le = among-within subs g n later in omega arith)
      ]

-- what is told of a number from 1 to the greatest one
pub told-at : (h : Expression) (g : ℕ) (name : Option (List ℕ)) → 1 ≤ g → g ≤ greatest_group h → name_in g h ≡ name → slice_get (group_names h) g ≡ Some name
told-at h zero name least most is = absurd (omega arith)
told-at h (suc i) name least most is =
    let f : ℕ → Option (List ℕ) = λ g. name_in g h in
    let m : ℕ = greatest_group h in
    let names : List (Option (List ℕ)) = map f (range_with_len 1 m) in
    let long : length names ≡ m = length-map-range_with_len f 1 m in
    slice_get-get_or names i None (omega arith) ∙ ap Some (get_or-map-range_with_len f 1 m i (suc i) None (omega arith) (omega arith) ∙ is)
