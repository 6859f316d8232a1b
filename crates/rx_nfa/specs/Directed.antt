-- The parts of expressions, for an automaton that reads forwards, or backwards: then what comes last is read first.
use Rattle.std.specs.Prelude.{ℕ, zero, suc, ◌+◌, ◌-◌, ◌/◌, ◌%◌, Bool, true, false, ◌&&◌, List, [], ◌∷◌, ◌++◌, length, map, filter, flat_map, reverse, Option, Some, None, if◌then◌else◌, nat_le, ◌==◌}
use Rattle.std.specs.List.{list_any}
use Rattle.rx_model.specs.Text.{Class, scalar_ranges, byte_ranges}
use Rattle.rx_model.specs.Expression.{Expression, Expressions, empty, literal, class, look, repetition, capture, concat, alternation, nil, cons}
use Rattle.rx_model.specs.Length.{minimum_len, is_positive}
use Rattle.rx_model.specs.Graph.{State, text, set, assertion, choice, Part, Builder, build_nothing, build_state, build_then, build_group, build_repetition, Parts, no_parts, build_beside, build_choice}
use Rattle.rx_nfa.specs.Ranges.{clip}
use Rattle.rx_model.specs.Search.{Patterns, slot_of}
use Rattle.rx_nfa.specs.Built.{slot_from, whole_slot, compiled_pattern}
use Rattle.rx_nfa.specs.declared.backwards.Piece.{Piece}
use Rattle.rx_nfa.specs.declared.compiler.groups.Groups.{Groups}

-- the list in the order in which it is read
abbrev pub in_order : {A : Type 0} → (backwards : Bool) → List A → List A
in_order false xs = xs
in_order true xs = reverse xs

-- one part after another
abbrev pub build_row : List Builder → Builder
build_row [] = build_nothing
build_row (b ∷ bs) = build_then b (build_row bs)

-- Alternatives, which all go on to the next state.
abbrev pub PartsBuilder : Type 0
PartsBuilder = (next base : ℕ) → Parts

-- each of these parts is one
abbrev pub build_sides : List Builder → PartsBuilder
build_sides [] = no_parts
build_sides (b ∷ bs) = build_beside b (build_sides bs)

-- those of the first and those of the second
abbrev pub build_both : PartsBuilder → PartsBuilder → PartsBuilder
build_both first second next base =
    let f = first next base in
    let s = second next (base + length f.states) in
    record { starts = f.starts ++ s.starts; states = f.states ++ s.states }

-- those of each
abbrev pub build_all : List PartsBuilder → PartsBuilder
build_all [] = no_parts
build_all (p ∷ ps) = build_both p (build_all ps)

-- the part as the only alternative
abbrev pub build_one : Builder → PartsBuilder
build_one b next base = let p = b next base in record { starts = p.start ∷ []; states = p.states }

-- The only one of these alternatives; where there is not just one, a choice between them, which is built last.
abbrev pub join : (starts : List ℕ) → (states : List State) → (base : ℕ) → Part
join [] states base = record { start = base + length states; states = states ++ choice [] ∷ [] }
join (q ∷ []) states base = record { start = q; states = states }
join (q ∷ r ∷ qs) states base = record { start = base + length states; states = states ++ choice (q ∷ r ∷ qs) ∷ [] }

abbrev pub build_joined : PartsBuilder → Builder
build_joined parts next base = let p = parts next base in join p.starts p.states base

-- Encodings, read from the last byte to the first. A number is told by digits of 64; the number of digits that come
-- behind the first one is the depth. The byte of the first digit is `lead` more than it, and that of each other 0x80 more.

-- The numbers from low to high, by what stands before their rest (a number divided by the size), and by the rest: those
-- that stand behind the same as low, those behind the same as high, and between them those of all rests; or all in one.
abbrev pub has_one : (size low high : ℕ) → Bool
has_one size low high = low / size == high / size

-- the first quotient of which all numbers are there, and the one behind the last
abbrev pub whole_from : (size low : ℕ) → ℕ
whole_from size low = if low % size == 0 then low / size else low / size + 1

abbrev pub whole_to : (size high : ℕ) → ℕ
whole_to size high = if high % size + 1 == size then high / size + 1 else high / size

unfoldable pub low_piece : (size low high : ℕ) → Option Piece
low_piece size low high =
    if has_one size low high then Some (record { first = low / size; last = low / size; low = low % size; high = high % size })
    else if low % size == 0 then None
    else Some (record { first = low / size; last = low / size; low = low % size; high = size - 1 })

unfoldable pub middle_piece : (size low high : ℕ) → Option Piece
middle_piece size low high =
    if has_one size low high then None
    else if nat_le (whole_to size high) (whole_from size low) then None
    else Some (record { first = whole_from size low; last = whole_to size high - 1; low = 0; high = size - 1 })

unfoldable pub high_piece : (size low high : ℕ) → Option Piece
high_piece size low high =
    if has_one size low high then None
    else if high % size + 1 == size then None
    else Some (record { first = high / size; last = high / size; low = 0; high = high % size })

abbrev pub some_list : {A : Type 0} → Option A → List A
some_list None = []
some_list (Some x) = x ∷ []

abbrev pub pieces_of : (size low high : ℕ) → List Piece
pieces_of size low high = some_list (low_piece size low high) ++ (some_list (middle_piece size low high) ++ some_list (high_piece size low high))

-- the numbers of a range, if it has any, and of the ranges, by their last digits and by what stands before these
abbrev pub pieces_of_range : ℕ × ℕ → List Piece
pieces_of_range r = if nat_le r.0 r.1 then pieces_of 64 r.0 r.1 else []

abbrev pub pieces_in : List (ℕ × ℕ) → List Piece
pieces_in ranges = flat_map pieces_of_range ranges

-- the last digits of a piece, and what stands before them
abbrev pub last_of : Piece → ℕ × ℕ
last_of p = (p.low, p.high)

abbrev pub before_of : Piece → ℕ × ℕ
before_of p = (p.first, p.last)

abbrev pub is_range : (r s : ℕ × ℕ) → Bool
is_range r s = r.0 == s.0 && r.1 == s.1

-- the ranges of last digits, each of them once, in the order in which they come first
unfoldable pub lasts_from : List (ℕ × ℕ) → List Piece → List (ℕ × ℕ)
lasts_from found [] = found
lasts_from found (p ∷ ps) = lasts_from (if list_any (is_range (last_of p)) found then found else found ++ last_of p ∷ []) ps

abbrev pub lasts_of : List Piece → List (ℕ × ℕ)
lasts_of ps = lasts_from [] ps

-- what stands before these last digits
unfoldable pub before_last : (last : ℕ × ℕ) → List Piece → List (ℕ × ℕ)
before_last last ps = map before_of (filter (λ (p : Piece). is_range last (last_of p)) ps)

-- a state that reads a byte from one to the other
abbrev pub byte_between : (first last : ℕ) → (next : ℕ) → State
byte_between first last = set (byte_ranges ((first, last) ∷ []))

-- a last digit, and then one of the alternatives for what stands before it
abbrev pub build_last : ℕ × ℕ → PartsBuilder → Builder
build_last last parts = build_then (build_state (byte_between (0x80 + last.0) (0x80 + last.1))) (build_joined parts)

-- The bytes that tell the numbers of the ranges. Numbers with last digits of the same range share the state that reads
-- these.
unfoldable pub build_digits : (lead depth : ℕ) → List (ℕ × ℕ) → PartsBuilder
build_digits lead zero ranges = build_all (map (λ (r : ℕ × ℕ). build_one (build_state (byte_between (lead + r.0) (lead + r.1)))) ranges)
build_digits lead (suc depth) ranges =
    build_all (map (λ (last : ℕ × ℕ). build_one (build_last last (build_digits lead depth (before_last last (pieces_in ranges)))))
    (lasts_of (pieces_in ranges)))

-- these last digits, and what stands before them among the pieces
abbrev pub build_behind : (lead depth : ℕ) → List Piece → (last : ℕ × ℕ) → PartsBuilder
build_behind lead depth ps last = build_one (build_last last (build_digits lead depth (before_last last ps)))

-- The scalars of the ranges, by the length of their encodings.
abbrev pub scalar_digits : List (ℕ × ℕ) → List PartsBuilder
scalar_digits rs =
    build_digits 0 0 (clip 0 0x7F rs) ∷ build_digits 0xC0 1 (clip 0x80 0x7FF rs) ∷ build_digits 0xE0 2 (clip 0x800 0xD7FF rs)
    ∷ build_digits 0xE0 2 (clip 0xE000 0xFFFF rs) ∷ build_digits 0xF0 3 (clip 0x1_0000 0x10_FFFF rs) ∷ []

abbrev pub build_class : (backwards : Bool) → Class → Builder
build_class false members = build_state (set members)
build_class true (scalar_ranges ranges) = build_joined (build_all (scalar_digits ranges))
build_class true (byte_ranges ranges) = build_state (set (byte_ranges ranges))

module _ (backwards : Bool) (slot_of : ℕ → Option ℕ) where
  unfoldable mutual
    -- the part of an expression
    pub build_directed : Expression → Builder
    build_directed empty = build_nothing
    build_directed (literal bytes) = build_state (text (in_order backwards bytes))
    build_directed (class members) = build_class backwards members
    build_directed (look kind) = build_state (assertion kind)
    build_directed (repetition min max greedy sub) = build_repetition (is_positive (minimum_len sub)) min max greedy (build_directed sub)
    build_directed (capture group name sub) = build_group (slot_of group) (build_directed sub)
    build_directed (concat subs) = build_row (in_order backwards (each_directed subs))
    build_directed (alternation subs) = build_choice (build_sides (each_directed subs))

    -- the part of each
    pub each_directed : Expressions → List Builder
    each_directed nil = []
    each_directed (cons sub subs) = build_directed sub ∷ each_directed subs

-- the part of an expression, by the pattern's direction and slots
abbrev pub part_for : Groups → Expression → Builder
part_for groups h = build_directed groups.reverse (slot_from groups.first_slot) h

-- the part that stands for pattern p
abbrev pub directed_part : (backwards : Bool) → Patterns → (p : ℕ) → Expression → Part
directed_part backwards r p h = compiled_pattern (whole_slot r.which_captures p) (build_directed backwards (slot_of r p) h) p
