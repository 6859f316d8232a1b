-- A yes of the tests together.
use Rattle.std.proofs.Common.{◌≡◌, ℕ, true, List, [], ◌∷◌, inl, inr, sym, refl, true≢false, Option, None, Some}
use Rattle.std.specs.Prelude.{◌||◌}
use Rattle.std.proofs.lemmas.Bool.{and_parts, or_cases}
use Rattle.rx_model.specs.Expression.{Expression, AreOrdered}
use Rattle.rx_order.specs.Strip.{strip_literal_suffix, suffix_has_no_earlier_match, left_passes}
use Rattle.rx_order.proofs.lemmas.StripLemmas.{strip-then}
use Rattle.rx_order.specs.Order.{SuffixIsNoEarlier}
use Rattle.rx_order.specs.Tests.{has_fixed_length, cannot_consume_all, has_last_separator, has_first_separator, suffix_has_no_earlier, one_not_consumed, are_literals, inner_has_no_earlier, is_not_empty}
use Rattle.rx_order.proofs.lemmas.Core.{IsOrdered}
use Rattle.rx_order.proofs.lemmas.Forms.{suffix-from, fixed-ordered}
use Rattle.rx_order.proofs.lemmas.Consume.{byte-ordered}
use Rattle.rx_order.proofs.lemmas.Wider.{last-ordered, first-ordered}

pub suffix-ordered : (x : Expression) (s : List ℕ) → suffix_has_no_earlier x s ≡ true → (t : ℕ) (text : List ℕ) → IsOrdered t text x (s ∷ [])
suffix-ordered x s pass t text =
    elim (or_cases (has_fixed_length x) (has_last_separator x (s ∷ []) || (has_first_separator x (s ∷ []) || cannot_consume_all x s)) pass) [
      | inl e ↦ fixed-ordered x (s ∷ []) e t text
      | inr more ↦ elim (or_cases (has_last_separator x (s ∷ [])) (has_first_separator x (s ∷ []) || cannot_consume_all x s) more) [
        | inl e ↦ last-ordered t text x (s ∷ []) e
        | inr last ↦ elim (or_cases (has_first_separator x (s ∷ [])) (cannot_consume_all x s) last) [
          | inl e ↦ first-ordered t text x (s ∷ []) e
          | inr e ↦ byte-ordered x s e t text
        ]
      ]
    ]

one-ordered : (p : Expression) (ls : List (List ℕ)) → one_not_consumed p ls ≡ true → (t : ℕ) (text : List ℕ) → IsOrdered t text p ls
one-ordered p [] e t text = absurd (true≢false (sym e))
one-ordered p (l ∷ []) e t text = byte-ordered p l e t text
one-ordered p (l ∷ m ∷ ls) e t text = absurd (true≢false (sym e))

pub inner-ordered : (p : Expression) (ls : List (List ℕ)) → inner_has_no_earlier p ls ≡ true → (t : ℕ) (text : List ℕ) → IsOrdered t text p ls
inner-ordered p ls pass t text =
    let both = and_parts (are_literals ls) (one_not_consumed p ls || (has_fixed_length p || (has_last_separator p ls || has_first_separator p ls))) pass in
    elim (or_cases (one_not_consumed p ls) (has_fixed_length p || (has_last_separator p ls || has_first_separator p ls)) both.1) [
      | inl e ↦ one-ordered p ls e t text
      | inr more ↦ elim (or_cases (has_fixed_length p) (has_last_separator p ls || has_first_separator p ls) more) [
        | inl e ↦ fixed-ordered p ls e t text
        | inr last ↦ elim (or_cases (has_last_separator p ls) (has_first_separator p ls) last) [
          | inl e ↦ last-ordered t text p ls e
          | inr e ↦ first-ordered t text p ls e
        ]
      ]
    ]

pub suffix-passes : (h : Expression) (s : List ℕ) → AreOrdered h → suffix_has_no_earlier_match h s ≡ true → SuffixIsNoEarlier h s
suffix-passes h s ordered pass = left (strip_literal_suffix h s) refl (and_parts (is_not_empty s) (left_passes (strip_literal_suffix h s) s) pass).1
  where
    left : (o : Option Expression) → strip_literal_suffix h s ≡ o → left_passes o s ≡ true → SuffixIsNoEarlier h s
    left None is e = absurd (true≢false (sym e))
    left (Some x) is e = suffix-from h x s (strip-then h x s ordered is) (suffix-ordered x s e)
