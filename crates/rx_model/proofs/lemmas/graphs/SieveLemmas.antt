-- A sieve chooses where acceptance is permitted, and changes no step.
use Rattle.std.proofs.Common.{◌≡◌, ℕ, suc, List, [], ◌∷◌, refl, ap}
use Rattle.std.specs.Prelude.{Bool, true, false, ◌&&◌, Option, Some, None, is_some, if◌then◌else◌}
use Rattle.std.specs.Option.{option_or}
use Rattle.rx_model.specs.Runs.{Configuration, PriorityGraph, Sieve, everywhere, sifted, sieved, IsBounded, NeverFalls, first_trace}
use Rattle.rx_model.specs.Refinement.{AgreesButForWrites}
use Rattle.rx_model.specs.Expression.{Expression}
use Rattle.rx_model.specs.Graph.{at, build_pattern, runs_of}
use Rattle.rx_model.specs.Search.{Patterns, slot_of, first, first_where, first_of_patterns, first_of_patterns_where}

sifted-none : (ok : Sieve) (place : ℕ) (o : Option ℕ) → is_some o ≡ false → is_some (sifted ok place o) ≡ false
sifted-none ok place None h = refl
sifted-none ok place (Some pattern) h = cc

-- a sieved graph has the configurations and the steps of the graph
pub sieved-bounded : (ok : Sieve) (g : PriorityGraph) → IsBounded g → IsBounded (sieved ok g)
sieved-bounded ok g bounded = record {
  goes_nowhere = λ c gone. bounded.goes_nowhere c gone;
  accepts_nothing = λ c gone. sifted-none ok c.place (g.accepted c) (bounded.accepts_nothing c gone);
}

pub sieved-rises : (ok : Sieve) (g : PriorityGraph) → NeverFalls g → NeverFalls (sieved ok g)
sieved-rises ok g rises c d member = rises c d member

-- where nothing is accepted, nothing is in the sieved graph
pub sieved-none : (ok : Sieve) (g : PriorityGraph) (c : Configuration) → g.accepted c ≡ None → (sieved ok g).accepted c ≡ None
sieved-none ok g c none = ap (sifted ok c.place) none

-- the sieve that lets all through
sifted-everywhere : (place : ℕ) (o : Option ℕ) → sifted everywhere place o ≡ o
sifted-everywhere place None = refl
sifted-everywhere place (Some pattern) = refl

pub sieved-everywhere : (g : PriorityGraph) → sieved everywhere g ≡ g
sieved-everywhere g = λ i. record {
  successors = g.successors;
  accepted = λ c. sifted-everywhere c.place (g.accepted c) i;
  written = g.written;
  all = g.all;
}

-- one sieve after another
pub both : Sieve → Sieve → Sieve
both ok ok' pattern place = ok pattern place && ok' pattern place

sifted-twice : (ok ok' : Sieve) (place : ℕ) (o : Option ℕ) → sifted ok' place (sifted ok place o) ≡ sifted (both ok ok') place o
unfolding both
sifted-twice ok ok' place None = refl
sifted-twice ok ok' place (Some pattern) = tests (ok pattern place)
  where
    tests : (b : Bool) → sifted ok' place (if b then Some pattern else None) ≡ (if b && ok' pattern place then Some pattern else None)
    tests true = refl
    tests false = refl

pub sieved-twice : (ok ok' : Sieve) (g : PriorityGraph) → sieved ok' (sieved ok g) ≡ sieved (both ok ok') g
sieved-twice ok ok' g = λ i. record {
  successors = g.successors;
  accepted = λ c. sifted-twice ok ok' c.place (g.accepted c) i;
  written = g.written;
  all = g.all;
}

-- graphs that agree but for their writes do so when sieved
pub AgreesButForWrites-sieved : (ok : Sieve) (g m : PriorityGraph) → AgreesButForWrites g m → AgreesButForWrites (sieved ok g) (sieved ok m)
AgreesButForWrites-sieved ok g m agrees = record {
  successors = λ c. agrees.successors c;
  accepted = λ c. ap (sifted ok c.place) (agrees.accepted c);
  all = agrees.all;
}

-- with the sieve that lets all through, the first run of a pattern, and of the patterns in order, is the first run
pub first-everywhere : (r : Patterns) (text : List ℕ) (end p : ℕ) (h : Expression) (i : ℕ) → first_where everywhere r text end p h i ≡ first r text end p h i
unfolding first first_where
first-everywhere r text end p h i =
    ap (λ g. first_trace g (at (build_pattern (slot_of r p) p h).start i))
    (sieved-everywhere (runs_of r.terminator text end (build_pattern (slot_of r p) p h).states))

pub first_of_patterns-everywhere : (r : Patterns) (text : List ℕ) (end p : ℕ) (hs : List Expression) (i : ℕ)
    → first_of_patterns_where everywhere r text end p hs i ≡ first_of_patterns r text end p hs i
unfolding first_of_patterns first_of_patterns_where
first_of_patterns-everywhere r text end p [] i = refl
first_of_patterns-everywhere r text end p (h ∷ hs) i = λ j. option_or (first-everywhere r text end p h i j)
    (first_of_patterns-everywhere r text end (suc p) hs i j)
