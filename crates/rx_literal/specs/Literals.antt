-- Literals and sequences of them, with the limits on both.
use Rattle.std.specs.Prelude.{ℕ, zero, suc, ◌-◌, Bool, true, false, Option, Some, None, List, [], ◌∷◌, ◌++◌, length, map, take, drop, if◌then◌else◌, nat_lt, nat_eq}
use Rattle.std.specs.List.{flat_map, list_any}
use Rattle.rx_literal.specs.declared.side.Side.{Side}
use Rattle.rx_literal.specs.declared.side.Side.TheVariants.{Front as front, Back as back}

-- What a match begins, or ends, with. An exact one is the whole of what it was taken from.
pub data Literal : Type 0 where
  exact : (bytes : List ℕ) → Literal
  inexact : (bytes : List ℕ) → Literal

-- An infinite sequence promises nothing.
pub data Seq : Type 0 where
  infinite : Seq
  finite : List Literal → Seq

-- the literal of these bytes, exact or not
abbrev pub literal_of : (exact : Bool) → List ℕ → Literal
literal_of true bytes = exact bytes
literal_of false bytes = inexact bytes

-- the sequence of these literals, or an infinite one
abbrev pub seq_of : Option (List Literal) → Seq
seq_of None = infinite
seq_of (Some ls) = finite ls

abbrev pub bytes_of : Literal → List ℕ
bytes_of (exact bytes) = bytes
bytes_of (inexact bytes) = bytes

abbrev pub is_exact : Literal → Bool
is_exact (exact bytes) = true
is_exact (inexact bytes) = false

abbrev pub is_empty : Literal → Bool
is_empty l = nat_eq (length (bytes_of l)) 0

abbrev pub is_finite : Seq → Bool
is_finite infinite = false
is_finite (finite ls) = true

-- the literal, inexact
abbrev pub loose : Literal → Literal
loose l = inexact (bytes_of l)

-- the first n bytes, or the last n
abbrev pub outer_bytes : Side → ℕ → List ℕ → List ℕ
outer_bytes front n bytes = take n bytes
outer_bytes back n bytes = drop (length bytes - n) bytes

-- a literal of more than n bytes keeps the outer n, inexact
unfoldable pub cut : Side → ℕ → Literal → Literal
cut side n l = if nat_lt n (length (bytes_of l)) then inexact (outer_bytes side n (bytes_of l)) else l

-- The sequence of one exact literal without bytes.
abbrev pub one_empty : Seq
one_empty = finite (exact [] ∷ [])

abbrev pub loosened : Seq → Seq
loosened infinite = infinite
loosened (finite ls) = finite (map loose ls)

-- a sequence of more than 250 literals is infinite
unfoldable pub limited : List Literal → Seq
limited ls = if nat_lt 250 (length ls) then infinite else finite ls

-- the literals of both, in order
abbrev pub union : Seq → Seq → Seq
union infinite ts = infinite
union (finite ss) infinite = infinite
union (finite ss) (finite ts) = limited (ss ++ ts)

-- t further inside than s
abbrev pub joined : Side → List ℕ → List ℕ → List ℕ
joined front s t = s ++ t
joined back s t = t ++ s

-- the bytes and then, further inside, the literal
abbrev pub extended : Side → List ℕ → Literal → Literal
extended side s (exact t) = exact (joined side s t)
extended side s (inexact t) = inexact (joined side s t)

-- an exact literal is extended by each of the list, and an inexact one stays
unfoldable pub extended_by_each : Side → List Literal → Literal → List Literal
extended_by_each side ts (exact s) = map (λ t. cut side 100 (extended side s t)) ts
extended_by_each side ts (inexact s) = inexact s ∷ []

-- what is left where the literals can't be extended
unfoldable pub stopped : List Literal → Seq
stopped ss = if list_any is_empty ss then infinite else finite (map loose ss)

-- each literal extended, where that gives no more than 250
unfoldable pub cross : Side → Seq → Seq → Seq
cross side infinite ts = infinite
cross side (finite ss) infinite = stopped ss
cross side (finite ss) (finite ts) =
    let all = flat_map (extended_by_each side ts) ss in
    if nat_lt 250 (length all) then stopped ss else finite all

abbrev pub some_exact : Seq → Bool
some_exact infinite = false
some_exact (finite ls) = list_any is_exact ls

-- the cross, where a literal is left to extend
unfoldable pub cross_on : Side → Seq → Seq → Seq
cross_on side ss ts = if some_exact ss then cross side ss ts else ss

-- crossed n times
abbrev pub cross_times : Side → ℕ → Seq → Seq → Seq
cross_times side zero ss ts = ss
cross_times side (suc n) ss ts = cross_times side n (cross_on side ss ts) ts
