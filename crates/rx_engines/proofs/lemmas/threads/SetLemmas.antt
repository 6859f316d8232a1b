-- Sparse sets.
use Rattle.std.proofs.Common.{◌≡◌, ◌≢◌, ℕ, zero, suc, ◌+◌, ◌-◌, ◌≤◌, ◌<◌, List, [], ◌∷◌, ◌++◌, length, take, refl, sym, ◌∙◌, ap, arith, set, get_or, true≢false, length-append}
use Rattle.std.proofs.lemmas.List.{get_or-set_same, get_or-set_other, take_more, get_or-take, take_all, length-take, get_or-append_right, get_or_append_left}
use Rattle.std.proofs.lemmas.Bool.Decides.{nat_tests, Decides-eqb}
use Rattle.std.specs.Prelude.{true, false, ◌==◌}
use Rattle.rx_model.proofs.lemmas.runs.RunLemmas.{by_test}
use Rattle.rx_nfa.specs.Ordered.{has, passed_at}
use Rattle.rx_engines.specs.Threads.{IsSparse}
use Rattle.rx_nfa.proofs.lemmas.lists.PlaceLemmas.{left_at, left-most, left-less}

pub has-get : (xs : List ℕ) (k q : ℕ) → k < length xs → get_or xs k 0 ≡ q → has xs q ≡ true
has-get [] k q lt e = absurd (omega arith)
has-get (x ∷ xs) zero q lt e = rw ((Decides-eqb x q).1 e) refl
has-get (x ∷ xs) (suc k) q lt e = by_test (x == q) (λ t. rw t refl) (λ t. rw t (has-get xs k q (omega arith) e))

pub has-where : (xs : List ℕ) (q : ℕ) → has xs q ≡ true → (k : ℕ) × (k < length xs) × (get_or xs k 0 ≡ q)
has-where [] q h = absurd (true≢false (sym h))
has-where (x ∷ xs) q h =
    by_test (x == q)
    (λ t. (0, omega arith, (Decides-eqb x q).0 t))
    (λ t. let rest = has-where xs q (rw t at h) in (suc rest.0, (let lt = rest.1 in omega arith), rest.2))

module _ (room : ℕ) (dense sparse : List ℕ) (ok : IsSparse room dense sparse) (q : ℕ) where
  -- where a member stands
  stands : has dense q ≡ true → (get_or sparse q 0 < length dense) × (get_or dense (get_or sparse q 0) 0 ≡ q)
  stands h =
      let w = has-where dense q h in
      let back : get_or sparse q 0 ≡ w.0 = ap (λ x. get_or sparse x 0) (sym w.2) ∙ (ok w.0 w.1).1 in
      ((let lt = w.1 in omega arith), ap (λ k. get_or dense k 0) back ∙ w.2)

  pub contains-inside : (place : ℕ) → place ≡ get_or sparse q 0 → place < length dense → (get_or dense place 0 == q) ≡ has dense q
  contains-inside place is lt =
      by_test (has dense q)
      (λ h. (Decides-eqb (get_or dense place 0) q).1 (ap (λ k. get_or dense k 0) is ∙ (stands h).1) ∙ sym h)
      (λ h. by_test (get_or dense place 0 == q)
      (λ t. absurd (true≢false (sym (has-get dense place q lt ((Decides-eqb (get_or dense place 0) q).0 t)) ∙ h)))
      (λ t. t ∙ sym h))

  pub contains-outside : (place : ℕ) → place ≡ get_or sparse q 0 → length dense ≤ place → false ≡ has dense q
  contains-outside place is le =
      by_test (has dense q)
      (λ h. absurd (let lt = (stands h).0 in omega arith))
      (λ h. sym h)

-- distinct numbers below n are at most n
few : (room : ℕ) (dense sparse : List ℕ) → IsSparse room dense sparse → (k : ℕ) → k ≤ length dense → left_at room 0 (passed_at (take k dense) 0) + k ≤ room
few room dense sparse ok zero le = let h = left-most room 0 (passed_at (take 0 dense) 0) in omega arith
few room dense sparse ok (suc k) le =
    let before = few room dense sparse ok k (omega arith) in
    let here = ok k (omega arith) in
    let new : has (take k dense) (get_or dense k 0) ≡ false = by_test (has (take k dense) (get_or dense k 0))
    (λ h. absurd (clash (has-where (take k dense) (get_or dense k 0) h))) (λ h. h) in
    let less = left-less room 0 (get_or dense k 0) (take k dense) here.0 new in
    let one : suc k ≡ k + 1 = omega arith in
    let longer : take (suc k) dense ≡ take k dense ++ get_or dense k 0 ∷ [] = ap (λ n. take n dense) one ∙ take_more dense k 0 (omega arith) in
    rw longer (omega arith)
  where
    clash : (j : ℕ) × (j < length (take k dense)) × (get_or (take k dense) j 0 ≡ get_or dense k 0) → ⊥
    clash w =
        let short = length-take k dense in
        let below : w.0 < k = let lt = w.1 in omega arith in
        let same : get_or dense w.0 0 ≡ get_or dense k 0 = sym (get_or-take k dense w.0 0 below) ∙ w.2 in
        let back : w.0 ≡ k = sym (ok w.0 (omega arith)).1 ∙ ap (λ x. get_or sparse x 0) same ∙ (ok k (omega arith)).1 in
        omega arith

-- there is room for a new number
pub sparse-room : (room : ℕ) (dense sparse : List ℕ) → IsSparse room dense sparse → (q : ℕ) → q < room → has dense q ≡ false → length dense < room
sparse-room room dense sparse ok q lt new =
    let all = few room dense sparse ok (length dense) (omega arith) in
    let whole : take (length dense) dense ≡ dense = take_all (length dense) dense (omega arith) in
    let less = left-less room 0 q dense lt new in
    let same = ap (λ (xs : List ℕ). left_at room 0 (passed_at xs 0)) whole in
    omega arith

pub sparse-push : (room : ℕ) (dense sparse : List ℕ) → IsSparse room dense sparse → room ≤ length sparse → (q : ℕ) → q < room → has dense q ≡ false
    → IsSparse room (dense ++ q ∷ []) (set sparse q (length dense))
sparse-push room dense sparse ok wide q lt new k below =
    let long = length-append dense (q ∷ []) in
    by_test (k == length dense)
    (λ e.
    let last : k ≡ length dense = (Decides-eqb k (length dense)).0 e in
    let gap : k - length dense ≡ 0 = omega arith in
    let here : get_or (dense ++ q ∷ []) k 0 ≡ q = get_or-append_right dense (q ∷ []) (length dense) k 0 refl (omega arith)
    ∙ ap (λ n. get_or (q ∷ []) n 0) gap in
    rw here (omega arith, get_or-set_same sparse q (length dense) 0 (omega arith) ∙ sym last))
    (λ e.
    let before : k < length dense = grind (arith, nat_tests) in
    let here : get_or (dense ++ q ∷ []) k 0 ≡ get_or dense k 0 = get_or_append_left dense (q ∷ []) 0 k before in
    let differ : get_or dense k 0 ≢ q = λ h. true≢false (sym (has-get dense k q before h) ∙ new) in
    let old = ok k before in
    let within = old.0 in
    rw here (omega arith, get_or-set_other sparse q (get_or dense k 0) (length dense) 0 differ ∙ old.1))
