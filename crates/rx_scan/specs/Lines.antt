-- The lines of a text, by where they end.
use Rattle.std.specs.Prelude.{ℕ, zero, suc, ◌+◌, ◌-◌, ◌≤◌, List, [], ◌∷◌, drop, get_or, take, ◌==◌, if◌then◌else◌}
use Rattle.std.proofs.Props.{props}

-- the places of the newlines of a text that begins at this place
unfoldable pub newlines : (at : ℕ) → List ℕ → List ℕ
newlines at [] = []
newlines at (b ∷ bytes) = if b == 10 then at ∷ newlines (at + 1) bytes else newlines (at + 1) bytes

-- the pieces of a text from this place on that end at these places, with one byte between them
unfoldable pub cut_at : List ℕ → (from : ℕ) → (ends : List ℕ) → List (List ℕ)
cut_at text from [] = []
cut_at text from (end ∷ ends) = take (end - from) (drop from text) ∷ cut_at text (end + 1) ends

-- they are places, one after another, in a text that is so long
unfoldable pub AreEnds : (len from : ℕ) → (ends : List ℕ) → Type 0
AreEnds len from [] = Unit {0}
AreEnds len from (end ∷ ends) = (from ≤ end) × (end ≤ len) × AreEnds len (end + 1) ends

-- that they are has one proof at most
pub AreEnds-prop : (len from : ℕ) (ends : List ℕ) → IsProp (AreEnds len from ends)
unfolding AreEnds
AreEnds-prop len from [] = Prim.hlevel props
AreEnds-prop len from (end ∷ ends) = Prim.hlevel (AreEnds-prop len (end + 1) ends, props)

-- where the piece of this number begins
unfoldable pub line_start : (from : ℕ) → (ends : List ℕ) → (index : ℕ) → ℕ
line_start from ends zero = from
line_start from ends (suc index) = get_or ends index 0 + 1
