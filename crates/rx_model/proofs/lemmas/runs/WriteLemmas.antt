-- What a graph writes has no part in which run is first.
use Rattle.std.proofs.Common.{◌≡◌, ℕ, zero, suc, List, [], ◌∷◌, length, Option, Some, None, refl, sym, ap, ◌∙◌}
use Rattle.std.specs.Prelude.{if◌then◌else◌, option_map, is_some, unwrap_or}
use Rattle.std.specs.Option.{option_or}
use Rattle.rx_model.specs.Runs.{Configuration, PriorityGraph, Passed, Trace, and_at, first_some, first_within, first_past, with_write, trace, found}
use Rattle.rx_model.specs.Refinement.{AgreesButForWrites}
use Rattle.rx_model.specs.Search.{WhichCaptures, all, implicit, none, told}

-- of one trace or another
pub told-or : (which : WhichCaptures) (a b : Option Trace) → option_map (told which) (option_or a b) ≡ option_or (option_map (told which) a)
    (option_map (told which) b)
told-or which None b = refl
told-or which (Some t) b = refl

-- all is told, but under `none`
pub told-all : (o : Option Trace) → option_map (told all) o ≡ o
told-all None = refl
told-all (Some t) = refl

pub told-implicit : (o : Option Trace) → option_map (told implicit) o ≡ o
told-implicit None = refl
told-implicit (Some t) = refl

-- where nothing is written
pub write-nothing : (place : ℕ) (o : Option Trace) → option_map (with_write None place) o ≡ o
write-nothing place None = refl
write-nothing place (Some t) = refl

pub write-nothing-alone : (place : ℕ) (o : Option Trace) → option_map (with_write None place) (option_or o None) ≡ o
write-nothing-alone place None = refl
write-nothing-alone place (Some t) = refl

told-write : (o : Option ℕ) (place : ℕ) (t : Trace) → told none (with_write o place t) ≡ told none t
told-write None place t = refl
told-write (Some slot) place t = refl

module _ (g m : PriorityGraph) (agrees : AgreesButForWrites g m) where
  within-alike : (n : ℕ) (p : Passed) (c : Configuration) → first_within m n p c ≡ first_within g n p c
  unfolding first_within
  within-alike zero p c = refl
  within-alike (suc n) p c =
      λ i.
      if p c then None
      else if is_some (agrees.accepted c i) then Some []
      else first_some (λ d. option_map (λ run. d ∷ run) (within-alike n (and_at c p) d i)) (agrees.successors c i)

  past-alike : (p : Passed) (c : Configuration) → first_past m p c ≡ first_past g p c
  unfolding first_past
  past-alike p c = ap (λ n. first_within m n p c) (ap length agrees.all) ∙ within-alike (length g.all) p c

  trace-alike : (c : Configuration) (run : List Configuration) → told none (trace m c run) ≡ told none (trace g c run)
  trace-alike c [] = ap (λ o. told none (record { pattern = unwrap_or o 0; end = c.place; writes = [] })) (agrees.accepted c)
  trace-alike c (d ∷ run) =
      told-write (m.written c) c.place (trace m d run) ∙ trace-alike d run ∙ sym (told-write (g.written c) c.place (trace g d run))

  -- the same is found, but for the writes
  pub found-alike : (p : Passed) (c : Configuration) → option_map (told none) (found m p c) ≡ option_map (told none) (found g p c)
  found-alike p c = of_runs (first_past m p c) (first_past g p c) (past-alike p c)
    where
      of_run : (o : Option (List Configuration)) → option_map (told none) (option_map (trace m c) o) ≡ option_map (told none) (option_map (trace g c) o)
      of_run None = refl
      of_run (Some run) = ap Some (trace-alike c run)

      of_runs : (a b : Option (List Configuration)) → a ≡ b → option_map (told none) (option_map (trace m c) a) ≡ option_map (told none)
          (option_map (trace g c) b)
      of_runs a b e = of_run a ∙ ap (λ o. option_map (told none) (option_map (trace g c) o)) e

-- a graph that writes nothing tells no writes
module _ (g : PriorityGraph) (silent : (c : Configuration) → g.written c ≡ None) where
  trace-silent : (c : Configuration) (run : List Configuration) → told none (trace g c run) ≡ trace g c run
  trace-silent c [] = refl
  trace-silent c (d ∷ run) =
      told-write (g.written c) c.place (trace g d run) ∙ trace-silent d run ∙ sym (ap (λ o. with_write o c.place (trace g d run)) (silent c))

  pub found-silent : (p : Passed) (c : Configuration) → option_map (told none) (found g p c) ≡ found g p c
  found-silent p c = of_run (first_past g p c)
    where
      of_run : (o : Option (List Configuration)) → option_map (told none) (option_map (trace g c) o) ≡ option_map (trace g c) o
      of_run None = refl
      of_run (Some run) = ap Some (trace-silent c run)
