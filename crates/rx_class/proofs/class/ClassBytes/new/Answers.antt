use Rattle.std.proofs.Common.{ℕ, [], ◌∙◌, rules, subst, sym, ap}
use Rattle.std.specs.List.Sorted.{IsNonDecreasingBy}
use Rattle.std.proofs.lemmas.List.Sorted.{IsNonDecreasingBy-from_sort, answers_always}
use Rattle.rx_class.specs.Merged.{add_all}
use Rattle.rx_class.specs.Ranges.{next_byte, AreByteRanges}
use Rattle.rx_class.proofs.SuccessorLemmas.{sorted-bytes}
use Rattle.rx_class.proofs.class.ClassBytes.new.Goals as goal

pub invariant_of-result : goal.invariant_of-result
invariant_of-result c =
    let up : IsNonDecreasingBy (λ (r : ℕ × ℕ). r.0) c.sort_unstable_by_key.new.self.items =
    IsNonDecreasingBy-from_sort (λ (r : ℕ × ℕ). r.0) _ (c.sort_unstable_by_key.ensures.sorted (λ (r : ℕ × ℕ). r.0)
    (answers_always _ _ _ (λ f a r g h. search rules))) in
    let moved = rw c.in_ok-sorted.ensures.items at c.sort_unstable_by_key.ensures.permutation in
    let held = sorted-bytes c.args.ranges.now c.sort_unstable_by_key.new.self.items moved up in
    let found = c.in_ok-ranges.ensures ∙ ap (add_all next_byte []) c.deref.ensures.value in
    subst AreByteRanges (sym found) held.0

pub returns : goal.returns
returns c =
    let up : IsNonDecreasingBy (λ (r : ℕ × ℕ). r.0) c.sort_unstable_by_key.new.self.items =
    IsNonDecreasingBy-from_sort (λ (r : ℕ × ℕ). r.0) _ (c.sort_unstable_by_key.ensures.sorted (λ (r : ℕ × ℕ). r.0)
    (answers_always _ _ _ (λ f a r g h. search rules))) in
    let moved = rw c.in_ok-sorted.ensures.items at c.sort_unstable_by_key.ensures.permutation in
    let held = sorted-bytes c.args.ranges.now c.sort_unstable_by_key.new.self.items moved up in
    let found = c.in_ok-ranges.ensures ∙ ap (add_all next_byte []) c.deref.ensures.value in
    found ∙ held.1
