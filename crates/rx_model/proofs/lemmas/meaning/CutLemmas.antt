-- A walk whose loops are cut out is a run with the same end.
use Rattle.std.proofs.Common.{◌≡◌, ℕ, zero, suc, ◌≤◌, ◌⊎◌, List, [], ◌∷◌, refl, sym, ◌∙◌, ap, subst, inl, inr, arith, length}
use Rattle.std.specs.Prelude.{true, false, Some, Contains, is_some}
use Rattle.rx_model.specs.Runs.{Configuration, PriorityGraph, Passed, nowhere, and_at, same, IsRun, Leads, last_of}
use Rattle.rx_model.proofs.lemmas.runs.RunLemmas.{by_test, same-true}

-- no configuration of the list was passed
abbrev Avoids : Passed → List Configuration → Type 0
Avoids p [] = Unit {0}
Avoids p (d ∷ run) = (p d ≡ false) × Avoids p run

abbrev IsWalk : PriorityGraph → Configuration → List Configuration → Type 0
IsWalk g c [] = is_some (g.accepted c) ≡ true
IsWalk g c (d ∷ run) = Contains (g.successors c) d × IsWalk g d run

-- the walk after its last visit of c
record Tail (g : PriorityGraph) (p : Passed) (c x : Configuration) (run : List Configuration) : Type 0 where
  pub tail : List Configuration
  pub walk : IsWalk g c tail
  pub fresh : Avoids (and_at c p) tail
  pub short : length tail ≤ length run
  pub same_end : last_of c tail ≡ last_of x run

-- c stands nowhere in the walk, or the walk after its last visit
tail_or_fresh : (g : PriorityGraph) (p : Passed) (c x : Configuration) (run : List Configuration) → IsWalk g x run → Avoids p run
    → Avoids (and_at c p) run ⊎ Tail g p c x run
tail_or_fresh g p c x [] w a = inl tt
tail_or_fresh g p c x (d ∷ run) w a =
    elim (tail_or_fresh g p c d run w.1 a.1) [
      | inl fresh ↦
          by_test (same c d)
          (λ e. inr (record {
            tail = run;
            walk = subst (λ y. IsWalk g y run) (sym (same-true c d e)) w.1;
            fresh = fresh;
            short = omega arith;
            same_end = ap (λ y. last_of y run) (same-true c d e);
          }))
          (λ e. inl (rw e a.0, fresh))
      | inr t ↦ inr (record { tail = t.tail; walk = t.walk; fresh = t.fresh; short = let s = t.short in omega arith; same_end = t.same_end })
    ]

-- a walk that never comes back to c
cut_fresh : (bound : ℕ) (g : PriorityGraph) (p : Passed) (c : Configuration) (run : List Configuration) → length run ≤ bound → p c ≡ false → IsWalk g c run
    → Avoids (and_at c p) run
    → (r : List Configuration) × IsRun g p c r × (last_of c r ≡ last_of c run)
cut_fresh bound g p c [] le new w a = ([], (new, w), refl)
cut_fresh zero g p c (d ∷ run) le new w a = absurd (omega arith)
cut_fresh (suc bound) g p c (d ∷ run) le new w a =
    elim (tail_or_fresh g (and_at c p) d d run w.1 a.1) [
      | inl fresh ↦
          let x = cut_fresh bound g (and_at c p) d run (omega arith) a.0 w.1 fresh in
          (d ∷ x.0, (new, w.0, x.1), x.2)
      | inr t ↦
          let s = t.short in
          let x = cut_fresh bound g (and_at c p) d t.tail (omega arith) a.0 t.walk t.fresh in
          (d ∷ x.0, (new, w.0, x.1), x.2 ∙ t.same_end)
    ]

cut : (g : PriorityGraph) (c : Configuration) (run : List Configuration) → IsWalk g c run
    → (r : List Configuration) × IsRun g nowhere c r × (last_of c r ≡ last_of c run)
cut g c run w =
    elim (tail_or_fresh g nowhere c c run w (avoids_nowhere run)) [
      | inl fresh ↦ cut_fresh (length run) g nowhere c run (omega arith) refl w fresh
      | inr t ↦ let x = cut_fresh (length t.tail) g nowhere c t.tail (omega arith) refl t.walk t.fresh in (x.0, x.1, x.2 ∙ t.same_end)
    ]
  where
    avoids_nowhere : (r : List Configuration) → Avoids nowhere r
    avoids_nowhere [] = tt
    avoids_nowhere (d ∷ r) = (refl, avoids_nowhere r)

walk-of : (g : PriorityGraph) (pattern place n : ℕ) (c : Configuration) → Leads g pattern place n c
    → (run : List Configuration) × IsWalk g c run × (g.accepted (last_of c run) ≡ Some pattern) × ((last_of c run).place ≡ place)
walk-of g pattern place zero c h = ([], ap is_some h.0, h.0, h.1)
walk-of g pattern place (suc n) c h = let x = walk-of g pattern place n h.0 h.2 in (h.0 ∷ x.0, (h.1, x.1), x.2, x.3)

-- a walk leads to an acceptance exactly where an accepting run does
pub Leads-run : (g : PriorityGraph) (pattern place n : ℕ) (c : Configuration) → Leads g pattern place n c
    → (run : List Configuration) × IsRun g nowhere c run × (g.accepted (last_of c run) ≡ Some pattern) × ((last_of c run).place ≡ place)
Leads-run g pattern place n c h =
    let x = walk-of g pattern place n c h in
    let r = cut g c x.0 x.1 in
    (r.0, r.1, ap (λ (d : Configuration). g.accepted d) r.2 ∙ x.2, ap (λ (d : Configuration). d.place) r.2 ∙ x.3)

pub run-Leads : (g : PriorityGraph) (pattern place : ℕ) (p : Passed) (c : Configuration) (run : List Configuration) → IsRun g p c run
    → g.accepted (last_of c run) ≡ Some pattern → (last_of c run).place ≡ place → (n : ℕ) × Leads g pattern place n c
run-Leads g pattern place p c [] r accepts ends = (0, (accepts, ends))
run-Leads g pattern place p c (d ∷ run) r accepts ends =
    let x = run-Leads g pattern place (and_at c p) d run r.2 accepts ends in
    (suc x.0, (d, r.1, x.1))
