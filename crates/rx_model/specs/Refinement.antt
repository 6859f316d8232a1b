-- Refinement: a graph whose states do what those of another do, some of them over several states, wherever acceptance is
-- permitted.
use Rattle.std.specs.Prelude.{◌≡◌, ℕ, ◌<◌, ◌⊎◌, true, false, [], ◌∷◌, None, Contains, map, is_some}
use Rattle.rx_model.specs.Runs.{Configuration, PriorityGraph, Passed, Sieve, sieved, found}

-- the same place in the state's image
abbrev pub moved : (ℕ → ℕ) → Configuration → Configuration
moved f c = record { state = f c.state; place = c.place }

-- c was not passed, nor anything later in the text
pub record IsFresh (p : Passed) (c : Configuration) : Type 0 where
  pub new : p c ≡ false
  pub ahead : (d : Configuration) → c.place < d.place → p d ≡ false

-- the two graphs do the same, but for what they write
pub record AgreesButForWrites (g m : PriorityGraph) : Type 0 where
  pub successors : (c : Configuration) → m.successors c ≡ g.successors c
  pub accepted : (c : Configuration) → m.accepted c ≡ g.accepted c
  pub all : m.all ≡ g.all

module _ (g m : PriorityGraph) (f : ℕ → ℕ) where
  -- c keeps its place in both graphs, and goes on alike
  pub record Stays (c : Configuration) : Type 0 where
    pub written : m.written (moved f c) ≡ g.written c
    pub successors : m.successors (moved f c) ≡ map (moved f) (g.successors c)
    pub places : (d : Configuration) → Contains (g.successors c) d → d.place ≡ c.place

  -- c goes on to one later configuration, which the other graph comes to over states of its own
  pub record Reads (c : Configuration) : Type 0 where
    pub target : Configuration
    pub written : g.written c ≡ None
    pub successors : g.successors c ≡ target ∷ []
    pub later : c.place < target.place
    pub reads : (ok : Sieve) (p : Passed) → IsFresh p (moved f c) → found (sieved ok m) p (moved f c) ≡ found (sieved ok m) p (moved f target)

  -- c goes nowhere in either
  pub record Fails (c : Configuration) : Type 0 where
    pub successors : g.successors c ≡ []
    pub fails : (ok : Sieve) (p : Passed) → IsFresh p (moved f c) → found (sieved ok m) p (moved f c) ≡ None

  -- f is the image of the states that are live
  pub record Refines (IsLive : ℕ → Type 0) : Type 0 where
    -- different states have different images
    pub apart : (a b : ℕ) → IsLive a → IsLive b → f a ≡ f b → a ≡ b
    -- steps lead to live states
    pub stays_live : (c d : Configuration) → IsLive c.state → Contains (g.successors c) d → IsLive d.state
    -- a state accepts what its image accepts
    pub accepted : (c : Configuration) → IsLive c.state → m.accepted (moved f c) ≡ g.accepted c
    -- and neither goes on where it accepts
    pub ends : (c : Configuration) → IsLive c.state → is_some (g.accepted c) ≡ true → (g.successors c ≡ []) × (m.successors (moved f c) ≡ [])
    -- elsewhere it goes on as its image does
    pub goes_on : (c : Configuration) → IsLive c.state → g.accepted c ≡ None → Stays c ⊎ Reads c ⊎ Fails c
