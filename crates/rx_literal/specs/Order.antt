-- The orders in which literals stand while a sequence is trimmed.
use Rattle.std.specs.Prelude.{◌≡◌, ℕ, Bool, true, false, ◌&&◌, ◌||◌, List, [], ◌∷◌, nat_lt, nat_eq}
use Rattle.std.specs.List.{list_all}
use Rattle.rx_literal.specs.declared.order.Order.{Order}
use Rattle.rx_literal.specs.declared.order.Order.TheVariants.{Bytes as by_bytes, Branches as by_branches}
use Rattle.rx_literal.specs.Literals.{Literal, bytes_of}

-- a prefix comes before what it begins
abbrev pub has_prefix_first : Order → Bool
has_prefix_first by_bytes = true
has_prefix_first by_branches = false

-- the first bytes come before the second ones
abbrev pub before : Order → List ℕ → List ℕ → Bool
before order [] [] = false
before order [] (y ∷ ys) = has_prefix_first order
before order (x ∷ xs) [] = false
before order (x ∷ xs) (y ∷ ys) = nat_lt x y || (nat_eq x y && before order xs ys)

-- the second literal comes before the first one
abbrev pub follows : Order → Literal → Literal → Bool
follows order l m = before order (bytes_of m) (bytes_of l)

-- each comes before all after it
abbrev pub InOrder : Order → List Literal → Type 0
InOrder order [] = Unit {0}
InOrder order (l ∷ ls) = (list_all (λ m. follows order m l) ls ≡ true) × InOrder order ls
