-- What a walk over the states does next.
use Rattle.std.specs.Prelude.{ℕ, ◌+◌, ◌≤◌, List, ◌∷◌, Option, Some, None}
use Rattle.rx_engines.specs.declared.frame.Frame.{Frame}
use Rattle.rx_engines.specs.declared.frame.Frame.TheVariants.{Explore}
use Rattle.rx_engines.specs.declared.onward.Onward.{Onward}
use Rattle.rx_engines.specs.declared.onward.Onward.TheVariants.{Stop, To, Back}

-- on to the state at the place, if there is one
abbrev pub onto : {T : Type 0} → Option ℕ → (place : ℕ) → Onward T
onto None i = Back
onto (Some q) i = To q i

-- the frames of a walk that does this next, above those of its stack
abbrev pub frames_of : {T : Type 0} → Onward T → List Frame → List Frame
frames_of (Stop told) rest = rest
frames_of (To q i) rest = Explore q i ∷ rest
frames_of Back rest = rest

-- a walk that goes on does so at place i or the next one
abbrev pub IsNear : {T : Type 0} → (i : ℕ) → Onward T → Type 0
IsNear i (Stop told) = Unit {0}
IsNear i (To q j) = (i ≤ j) × (j ≤ i + 1)
IsNear i Back = Unit {0}
