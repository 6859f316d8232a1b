-- A pattern that is put into an ascending list.
use Rattle.std.proofs.Common.{◌≡◌, ℕ, suc, ◌+◌, ◌≤◌, ◌<◌, List, [], ◌∷◌, ◌++◌, length, take, drop, get_or, sym, ◌∙◌, ap, arith, true≢false, Equal, Greater}
use Rattle.std.proofs.Math.Seq.{drop-cons}
use Rattle.std.proofs.lemmas.List.{take_all, drop_all, take-append-drop, get_or_default}
use Rattle.std.proofs.lemmas.Bool.Decides.{nat_tests}
use Rattle.std.specs.List.{insert}
use Rattle.std.specs.Ordering.{is_lt, nat_cmp}
use Rattle.std.specs.Cmp.{nat_cmp_is}
use Rattle.rx_model.proofs.lemmas.runs.RunLemmas.{by_test}
use Rattle.std.specs.Prelude.{true, false, ◌==◌, nat_lt}
use Rattle.rx_determinize.specs.Key.{with_pattern}

-- the list from place k on begins with what stands there
drop-at : (qs : List ℕ) (k q : ℕ) → k < length qs → q ≡ get_or qs k 0 → drop k qs ≡ q ∷ drop (k + 1) qs
drop-at qs k q lt is = let on : k + 1 ≡ suc k = omega arith in drop-cons qs k 0 lt ∙ (λ i. sym is i ∷ drop (sym on i) qs)

-- what is put in, by what stands at a place

lt-is : (p x : ℕ) → is_lt (nat_cmp p x) ≡ true → nat_lt p x ≡ true
lt-is p x less =
    by_test (nat_lt p x) (λ e. e)
    (λ e.
    by_test (p == x)
    (λ f.
    let even : p ≡ x = grind (arith, nat_tests) in
    absurd (true≢false (sym less ∙ ap is_lt (sym (nat_cmp_is p x Equal even)))))
    (λ f.
    let above : x < p = grind (arith, nat_tests) in
    absurd (true≢false (sym less ∙ ap is_lt (sym (nat_cmp_is p x Greater above))))))

module _ (p : ℕ) (ps : List ℕ) (k x : ℕ) (whole : List ℕ) (lt : k < length ps) (is : x ≡ get_or ps k x) where
  is_here : x ≡ get_or ps k 0
  is_here = is ∙ get_or_default ps k x 0 lt

  pub pattern-there : (x == p) ≡ true → take k ps ++ with_pattern p (drop k ps) ≡ whole → ps ≡ whole
  pattern-there same h =
      let above : nat_lt p x ≡ false = grind (arith, nat_tests) in
      let alike : (p == x) ≡ true = grind (arith, nat_tests) in
      let there : with_pattern p (drop k ps) ≡ drop k ps =
      ap (with_pattern p) (drop-at ps k x lt is_here) ∙ rw (above, alike) (sym (drop-at ps k x lt is_here)) in
      sym (take-append-drop k ps) ∙ ap (λ xs. take k ps ++ xs) (sym there) ∙ h

  pub pattern-before : is_lt (nat_cmp p x) ≡ true → take k ps ++ with_pattern p (drop k ps) ≡ whole → insert ps k p ≡ whole
  pattern-before less h =
      let below : nat_lt p x ≡ true = lt-is p x less in
      let before : with_pattern p (drop k ps) ≡ p ∷ drop k ps =
      ap (with_pattern p) (drop-at ps k x lt is_here) ∙ rw below (ap (λ xs. p ∷ xs) (sym (drop-at ps k x lt is_here))) in
      ap (λ xs. take k ps ++ xs) (sym before) ∙ h

pub pattern-end : (p : ℕ) (ps : List ℕ) (k : ℕ) (whole : List ℕ) → length ps ≤ k → take k ps ++ with_pattern p (drop k ps) ≡ whole → ps ++ p ∷ [] ≡ whole
pattern-end p ps k whole le h =
    ap (λ xs. xs ++ p ∷ []) (sym (take_all k ps le)) ∙ ap (λ xs. take k ps ++ with_pattern p xs) (sym (drop_all k ps le)) ∙ h
