use Rattle.std.proofs.Common.{ℕ, [], ◌∙◌, rules, subst, sym, ap}
use Rattle.std.specs.List.Sorted.{IsNonDecreasingBy}
use Rattle.std.proofs.lemmas.List.Sorted.{IsNonDecreasingBy-from_sort, answers_always}
use Rattle.rx_class.specs.Merged.{add_all}
use Rattle.rx_class.specs.Ranges.{next_scalar, AreScalarRanges, HaveScalarEnds}
use Rattle.rx_class.proofs.SuccessorLemmas.{sorted-scalars}
use Rattle.rx_class.proofs.scalars.merged.Goals as goal

pub returns-clause-value : goal.returns-clause-value
returns-clause-value c =
    let up : IsNonDecreasingBy (λ (r : ℕ × ℕ). r.0) c.sort_unstable_by_key.new.self.items =
    IsNonDecreasingBy-from_sort (λ (r : ℕ × ℕ). r.0) _ (c.sort_unstable_by_key.ensures.sorted (λ (r : ℕ × ℕ). r.0)
    (answers_always _ _ _ (λ f a r g h. search rules))) in
    let moved = rw c.in_ok-sorted.ensures.items at c.sort_unstable_by_key.ensures.permutation in
    let held = sorted-scalars c.args.ranges.now c.sort_unstable_by_key.new.self.items moved up
    (subst HaveScalarEnds c.deref.ensures.value c.in_ok-found.ensures.ends) in
    c.in_ok-found.ensures.value ∙ ap (add_all next_scalar []) c.deref.ensures.value ∙ held.1

pub returns-clause-fewest : goal.returns-clause-fewest
returns-clause-fewest c =
    let up : IsNonDecreasingBy (λ (r : ℕ × ℕ). r.0) c.sort_unstable_by_key.new.self.items =
    IsNonDecreasingBy-from_sort (λ (r : ℕ × ℕ). r.0) _ (c.sort_unstable_by_key.ensures.sorted (λ (r : ℕ × ℕ). r.0)
    (answers_always _ _ _ (λ f a r g h. search rules))) in
    let moved = rw c.in_ok-sorted.ensures.items at c.sort_unstable_by_key.ensures.permutation in
    let held = sorted-scalars c.args.ranges.now c.sort_unstable_by_key.new.self.items moved up
    (subst HaveScalarEnds c.deref.ensures.value c.in_ok-found.ensures.ends) in
    let found = c.in_ok-found.ensures.value ∙ ap (add_all next_scalar []) c.deref.ensures.value in
    subst AreScalarRanges (sym found) held.0
