-- The cells of rows that were put in order.
use Rattle.std.proofs.Common.{◌≡◌, ◌≢◌, ℕ, suc, ◌+◌, ◌-◌, ◌*◌, ◌<◌, ◌≤◌, ◌==◌, List, length, sym, ◌∙◌, ap, subst, arith, slice_index}
use Rattle.std.proofs.lemmas.Bool.Decides.{nat_tests}
use Rattle.std.proofs.lemmas.Nat.{mul-add-lt}
use Rattle.std.proofs.Math.Nat.{suc-mul, mul_comm}
use Rattle.rx_model.proofs.lemmas.runs.RunLemmas.{by_test}
use Rattle.rx_onepass_table.specs.Words.{Step, step_of, Final, final_of}
use Rattle.rx_onepass_build.specs.Settled.{AreCellsOf}

module _ (steps : List Step) (finals : List Final) (after : List ℕ) (classes row : ℕ) where
  -- a row stays, where its cells do
  pub cells-kept : (old new : List ℕ) (from stride : ℕ) → classes < stride → from + stride ≤ length old
      → ((i : ℕ) → i < length old → slice_index new i ≡ slice_index old i) → AreCellsOf steps finals after classes row old from
      → AreCellsOf steps finals after classes row new from
  cells-kept old new from stride wide within kept h = record {
    steps_are = λ class lt. ap step_of (kept (from + class) (omega arith)) ∙ h.steps_are class lt;
    final = ap final_of (kept (from + classes) (omega arith)) ∙ h.final;
  }

-- one row more
pub rows-placed : (steps : List Step) (finals : List Final) (after before : List ℕ) (classes stride row this : ℕ) (old new : List ℕ) → classes < stride
    → length old ≡ row * stride → this ≡ slice_index before row
    → ((i : ℕ) → i < length old → slice_index new i ≡ slice_index old i)
    → ((k : ℕ) → k < row → AreCellsOf steps finals after classes (slice_index before k) old (k * stride))
    → AreCellsOf steps finals after classes this new (length old)
    → (k : ℕ) → k < row + 1 → AreCellsOf steps finals after classes (slice_index before k) new (k * stride)
rows-placed steps finals after before classes stride row this old new wide len this_is kept each last k lt =
    by_test (k == row)
    (λ e.
    let same : k ≡ row = grind (arith, nat_tests) in
    let from : length old ≡ k * stride = len ∙ ap (λ n. n * stride) (sym same) in
    let is : this ≡ slice_index before k = this_is ∙ ap (λ n. slice_index before n) (sym same) in
    subst (λ i. AreCellsOf steps finals after classes (slice_index before k) new i) from
    (subst (λ r. AreCellsOf steps finals after classes r new (length old)) is last))
    (λ e.
    let apart : k ≢ row = grind (arith, nat_tests) in
    let less : k < row = omega arith in
    let comm = mul_comm stride row in
    let inside : k * stride + (stride - 1) < stride * row = mul-add-lt k stride (stride - 1) row less (omega arith) in
    cells-kept steps finals after classes (slice_index before k) old new (k * stride) stride wide (omega arith) kept (each k less))

pub length-placed : (row stride : ℕ) (old new : List ℕ) → length old ≡ row * stride → length new ≡ length old + stride → length new ≡ (row + 1) * stride
length-placed row stride old new len more =
    more ∙ ap (λ n. n + stride) len ∙ sym (suc-mul row stride) ∙ (let e : suc row ≡ row + 1 = omega arith in ap (λ n. n * stride) e)
