-- The graph of a machine is bounded.
use Rattle.std.proofs.Common.{◌≡◌, ℕ, zero, suc, ◌<◌, List, [], ◌∷◌, ◌++◌, refl, sym, ◌∙◌, subst, arith, true≢false}
use Rattle.std.specs.Prelude.{true, false, ◌||◌, ◌==◌}
use Rattle.std.proofs.lemmas.Bool.Decides.{nat_tests}
use Rattle.rx_model.specs.Runs.{Configuration, same, is_among, IsBounded}
use Rattle.rx_model.specs.Machine.{column, grid, Machine, is_inside, graph_of}
use Rattle.rx_model.proofs.lemmas.runs.RunLemmas.{by_test}
use Rattle.std.proofs.lemmas.Bool.{or_left, or_right}
use Rattle.std.proofs.Math.Bool.{or_assoc}

pub is_among-append : (xs ys : List Configuration) (c : Configuration) → is_among (xs ++ ys) c ≡ (is_among xs c || is_among ys c)
is_among-append [] ys c = refl
is_among-append (x ∷ xs) ys c = rw (is_among-append xs ys c) (sym (or_assoc (same x c) (is_among xs c) (is_among ys c)))

abbrev at : ℕ → ℕ → Configuration
at q i = record { state = q; place = i }

column-has : (n q i : ℕ) → i < n → is_among (column q n) (record { state = q; place = i }) ≡ true
column-has zero q i lt = absurd (omega arith)
column-has (suc n) q i lt =
    by_test (n == i)
    (λ e. let here : same (at q n) (at q i) ≡ true = grind (arith, nat_tests) in rw here refl)
    (λ e. let below : i < n = grind (arith, nat_tests) in or_right _ _ (column-has n q i below))

pub grid-has : (k n q i : ℕ) → q < k → i < n → is_among (grid k n) (record { state = q; place = i }) ≡ true
grid-has zero n q i lt below = absurd (omega arith)
grid-has (suc k) n q i lt below =
    is_among-append (column k n) (grid k n) _ ∙
    by_test (k == q)
    (λ e. or_left _ _ (let e' : k ≡ q = grind (arith, nat_tests) in
    subst (λ x. is_among (column x n) (record { state = q; place = i }) ≡ true) (sym e') (column-has n q i below)))
    (λ e. let less : q < k = grind (arith, nat_tests) in or_right _ _ (grid-has k n q i less below))

outside : (m : Machine) (end : ℕ) (c : Configuration) → is_among (grid m.states (suc end)) c ≡ false → is_inside m end c ≡ false
outside m end c h =
    by_test (is_inside m end c)
    (λ there. absurd (true≢false (sym (grid-has m.states (suc end) c.state c.place (grind (arith, nat_tests)) (grind (arith, nat_tests))) ∙ h)))
    (λ gone. gone)

pub graph_of-bounded : (m : Machine) (end : ℕ) → IsBounded (graph_of m end)
unfolding graph_of
graph_of-bounded m end = record {
  goes_nowhere = λ c h. rw (outside m end c h) refl;
  accepts_nothing = λ c h. rw (outside m end c h) refl;
}
