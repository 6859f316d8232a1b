-- The laws of `found`, which are all that an engine needs.
use Rattle.std.proofs.Common.{◌≡◌, ℕ, ◌≤◌, List, [], ◌∷◌, refl, sym, ◌∙◌, ap}
use Rattle.std.specs.Prelude.{true, false, Option, Some, None, option_map, is_some}
use Rattle.std.specs.Option.{option_or}
use Rattle.rx_model.specs.Runs.{Configuration, PriorityGraph, Passed, and_at, first_some, first_past, IsBounded, NeverFalls, with_write, trace, found}
use Rattle.rx_model.proofs.lemmas.runs.RunLemmas.{go_past, map-none, past-passed, past-accepted, past-step, past-prune, past-forget}

pub option_map-or : {A B : Type 0} (f : A → B) (a b : Option A) → option_map f (option_or a b) ≡ option_or (option_map f a) (option_map f b)
option_map-or f None b = refl
option_map-or f (Some x) b = refl

-- the trace of the run taken
trace-taken : (g : PriorityGraph) (p : Passed) (c : Configuration) (ds : List Configuration)
    → option_map (trace g c) (first_some (go_past g p) ds) ≡ option_map (with_write (g.written c) c.place) (first_some (found g p) ds)
trace-taken g p c [] = refl
trace-taken g p c (d ∷ ds) =
    option_map-or (trace g c) (go_past g p d) (first_some (go_past g p) ds)
    ∙ (λ i. option_or (head (first_past g p d) i) (trace-taken g p c ds i))
    ∙ sym (option_map-or (with_write (g.written c) c.place) (found g p d) (first_some (found g p) ds))
  where
    head : (o : Option (List Configuration)) → option_map (trace g c) (option_map (λ run. d ∷ run) o) ≡ option_map (with_write (g.written c) c.place)
        (option_map (trace g d) o)
    head None = refl
    head (Some run) = refl

module _ (g : PriorityGraph) (p : Passed) where
  pub found-passed : (c : Configuration) → p c ≡ true → found g p c ≡ None
  found-passed c h = ap (option_map (trace g c)) (past-passed g p c h)

  -- where nothing is found from x, x may count as passed
  pub found-prune : (x c : Configuration) → found g p x ≡ None → found g p c ≡ found g (and_at x p) c
  found-prune x c h = ap (option_map (trace g c)) (past-prune g p x c (map-none (trace g x) _ h))

  module _ (bounded : IsBounded g) where
    pub found-accepted : (c : Configuration) (pattern : ℕ) → p c ≡ false → g.accepted c ≡ Some pattern
        → found g p c ≡ Some (record { pattern = pattern; end = c.place; writes = [] })
    found-accepted c pattern new h = ap (option_map (trace g c)) (past-accepted g p bounded c new (ap is_some h)) ∙ rw h refl

    pub found-step : (c : Configuration) → p c ≡ false → g.accepted c ≡ None
        → found g p c ≡ option_map (with_write (g.written c) c.place) (first_some (found g (and_at c p)) (g.successors c))
    found-step c new h = ap (option_map (trace g c)) (past-step g p bounded c new (ap is_some h)) ∙ trace-taken g (and_at c p) c (g.successors c)

-- only what was passed from the place of c on matters
pub found-forget : (g : PriorityGraph) → NeverFalls g → (p q : Passed) (c : Configuration) → ((d : Configuration) → c.place ≤ d.place → p d ≡ q d)
    → found g p c ≡ found g q c
found-forget g rises p q c alike = ap (option_map (trace g c)) (past-forget g rises p q c alike)
