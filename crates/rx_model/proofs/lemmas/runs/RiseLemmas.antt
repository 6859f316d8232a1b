-- A run ends no earlier than it begins.
use Rattle.std.proofs.Common.{◌≡◌, ℕ, zero, suc, ◌≤◌, List, [], ◌∷◌, refl, sym, ◌∙◌, ap, arith}
use Rattle.std.specs.Prelude.{true, Option, Some, None, option_map, is_some}
use Rattle.rx_model.specs.Runs.{Configuration, PriorityGraph, Passed, and_at, IsRun, IsBounded, NeverFalls, Trace, with_write, trace, last_of, found, first_past, Leads}
use Rattle.rx_model.proofs.lemmas.runs.FirstLemmas.{found-is_run, some-is}

pub trace-end : (g : PriorityGraph) (c : Configuration) (run : List Configuration) → (trace g c run).end ≡ (last_of c run).place
trace-end g c [] = refl
trace-end g c (d ∷ run) = kept (g.written c) ∙ trace-end g d run
  where
    kept : (o : Option ℕ) → (with_write o c.place (trace g d run)).end ≡ (trace g d run).end
    kept None = refl
    kept (Some slot) = refl

pub run-rises : (g : PriorityGraph) → NeverFalls g → (p : Passed) (c : Configuration) (run : List Configuration) → IsRun g p c run
    → c.place ≤ (last_of c run).place
run-rises g rises p c [] r = omega arith
run-rises g rises p c (d ∷ run) r = let up = rises c d r.1 in let later = run-rises g rises (and_at c p) d run r.2 in omega arith

-- nor does a walk
pub Leads-rises : (g : PriorityGraph) → NeverFalls g → (pattern end n : ℕ) (c : Configuration) → Leads g pattern end n c → c.place ≤ end
Leads-rises g rises pattern end zero c h = let same = h.1 in omega arith
Leads-rises g rises pattern end (suc n) c h = let up = rises c h.0 h.1 in let later = Leads-rises g rises pattern end n h.0 h.2 in omega arith

-- a run ends where it accepts
pub run-accepts : (g : PriorityGraph) (p : Passed) (c : Configuration) (run : List Configuration) → IsRun g p c run
    → is_some (g.accepted (last_of c run)) ≡ true
run-accepts g p c [] r = r.1
run-accepts g p c (d ∷ run) r = run-accepts g (and_at c p) d run r.2

pub mapped-some : {A B : Type 0} (f : A → B) (o : Option A) (y : B) → option_map f o ≡ Some y → (x : A) × (o ≡ Some x) × (f x ≡ y)
mapped-some f None y h = cc
mapped-some f (Some x) y h = (x, refl, some-is h)

-- where a run is found, its end is within the bounds
pub found-end : (g : PriorityGraph) → IsBounded g → NeverFalls g → (end : ℕ) → ((c : Configuration) → is_some (g.accepted c) ≡ true → c.place ≤ end)
    → (p : Passed) (c : Configuration) (t : Trace) → found g p c ≡ Some t → (c.place ≤ t.end) × (t.end ≤ end)
found-end g bounded rises end within p c t h =
    let x = mapped-some (trace g c) (first_past g p c) t h in
    let run = found-is_run g bounded x.0 p c x.1 in
    let ends : t.end ≡ (last_of c x.0).place = ap (λ (u : Trace). u.end) (sym x.2) ∙ trace-end g c x.0 in
    let up = run-rises g rises p c x.0 run in
    let stop = within (last_of c x.0) (run-accepts g p c x.0 run) in
    (omega arith, omega arith)
