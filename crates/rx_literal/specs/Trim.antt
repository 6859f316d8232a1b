-- Sequences trimmed for a search, and the common suffix.
use Rattle.std.specs.Prelude.{ℕ, Bool, true, false, ◌&&◌, ◌||◌, List, [], ◌∷◌, length, map, reverse, Option, Some, None, if◌then◌else◌, nat_lt, nat_le, nat_eq}
use Rattle.std.specs.List.{list_any, list_all, starts_with}
use Rattle.rx_literal.specs.Literals.{Literal, exact, inexact, Seq, infinite, finite, bytes_of, is_exact, is_empty, cut}
use Rattle.rx_literal.specs.declared.side.Side.TheVariants.{Front as front}

-- one of the literals is a prefix of the literal
abbrev pub has_prefix_in : List Literal → Literal → Bool
has_prefix_in earlier l = list_any (λ e. starts_with nat_eq (bytes_of l) (bytes_of e)) earlier

-- the literals that have none before them as their prefix; `earlier` stand before them all
unfoldable pub preferred : (earlier : List Literal) → List Literal → List Literal
preferred earlier [] = []
preferred earlier (l ∷ ls) = let rest = preferred (l ∷ earlier) ls in if has_prefix_in earlier l then rest else l ∷ rest

-- the literals that are marked
abbrev pub picked : List Literal → (marks : List Bool) → List Literal
picked [] bs = []
picked (l ∷ ls) [] = []
picked (l ∷ ls) (b ∷ bs) = if b then l ∷ picked ls bs else picked ls bs

-- without those at the front that begin with the literal
abbrev pub past_longer : Literal → List Literal → List Literal
past_longer l [] = []
past_longer l (m ∷ ms) = if starts_with nat_eq (bytes_of m) (bytes_of l) then past_longer l ms else m ∷ ms

-- where more than n are left: those of 3 bytes, if they are no more than n; else all of them if they are exact
unfoldable pub few : (n : ℕ) → List Literal → Seq
few n ls =
    let short = preferred [] (map (cut front 3) ls) in
    if nat_le (length ls) n then finite ls
    else if nat_le (length short) n then finite short
    else if list_all is_exact ls then finite ls else infinite

-- trimmed for a search that prefers the first
unfoldable pub trimmed_by_preference : Seq → Seq
trimmed_by_preference infinite = infinite
trimmed_by_preference (finite ls) = if list_any is_empty ls then infinite else few 64 (preferred [] ls)

-- the first bytes come before the second ones
abbrev pub comes_before : List ℕ → List ℕ → Bool
comes_before xs [] = false
comes_before [] (y ∷ ys) = true
comes_before (x ∷ xs) (y ∷ ys) = nat_lt x y || (nat_eq x y && comes_before xs ys)

-- one for two literals with the same bytes: an inexact one, if there is one
abbrev pub one_of_both : Literal → Literal → Literal
one_of_both (exact s) m = m
one_of_both (inexact s) m = inexact s

-- a literal more among sorted ones
unfoldable pub insert : Literal → List Literal → List Literal
insert l [] = l ∷ []
insert l (m ∷ ms) =
    let rest = insert l ms in
    if comes_before (bytes_of l) (bytes_of m) then l ∷ m ∷ ms
    else if comes_before (bytes_of m) (bytes_of l) then m ∷ rest else one_of_both l m ∷ ms

unfoldable pub sorted : List Literal → List Literal
sorted [] = []
sorted (l ∷ ls) = insert l (sorted ls)

-- trimmed for a search of all
abbrev pub trimmed_for_all : Seq → Seq
trimmed_for_all infinite = infinite
trimmed_for_all (finite ls) = finite (sorted ls)

-- the longest prefix of both
abbrev pub common_prefix : List ℕ → List ℕ → List ℕ
common_prefix [] ys = []
common_prefix (x ∷ xs) [] = []
common_prefix (x ∷ xs) (y ∷ ys) = if nat_eq x y then x ∷ common_prefix xs ys else []

-- the longest prefix of all, where each is read backwards
abbrev pub common_from_behind : List ℕ → List Literal → List ℕ
common_from_behind bytes [] = bytes
common_from_behind bytes (l ∷ ls) = common_from_behind (common_prefix bytes (reverse (bytes_of l))) ls

-- the longest text that ends each literal; none where there are no literals, or infinitely many
abbrev pub longest_common_suffix : Seq → Option (List ℕ)
longest_common_suffix infinite = None
longest_common_suffix (finite []) = None
longest_common_suffix (finite (l ∷ ls)) = Some (reverse (common_from_behind (reverse (bytes_of l)) ls))
