-- The counts of each operator that is read are in order.
use Rattle.std.proofs.Common.{◌≡◌, ℕ, Bool, true, false, not, Ok, arith}
use Rattle.std.specs.Prelude.{Option, Some, None, if◌then◌else◌}
use Rattle.std.proofs.lemmas.Bool.Decides.{nat_tests}
use Rattle.rx_reader.specs.declared.flags.Flags.{Flags}
use Rattle.rx_reader.specs.declared.operator.Counts.{Counts}
use Rattle.rx_reader.specs.declared.operator.Operator.{Operator}
use Rattle.rx_reader.specs.Reading.{Place, first, past, is_at, begins, ◌∈◌}
use Rattle.rx_reader.specs.Ahead.{skip}
use Rattle.rx_reader.specs.Counts.{read_number, max_after, is_below, close_counts, read_counts, counts_of, operator_of, operator, AreInOrder}
use Rattle.rx_reader.proofs.lemmas.places.GivesLemmas.{Gives, refused, reads, bind, test, any}

abbrev CountsInOrder : Counts → Place → Type 0
CountsInOrder c q = AreInOrder c.min c.max

abbrev pub OperatorInOrder : Operator → Place → Type 0
OperatorInOrder o q = AreInOrder o.min o.max

not-below : (max : Option ℕ) (min : ℕ) → is_below max min ≡ false → AreInOrder min max
not-below None min is = tt
not-below (Some m) min is = grind (arith, nat_tests)

close-order : (from : Place) (min : ℕ) (max : Option ℕ) (q : Place) → Gives CountsInOrder (close_counts from min max q)
close-order from min max q =
    test (not (is_at "}" q)) (λ _. refused) (λ _. test (is_below max min) (λ _. refused) (λ least. reads (not-below max min least)))

read_counts-order : (flags : Flags) (p : Place) → Gives CountsInOrder (read_counts flags p)
unfolding read_counts
read_counts-order flags p =
    bind _ (any (read_number p flags (past p))) (λ min q _. bind _ (any (max_after p flags min q)) (λ max r _. close-order p min max r))

-- those that a sign stands for
sign-order : (plus question : Bool) → AreInOrder (if plus then 1 else 0) (if question then Some 1 else None)
sign-order true true = omega arith
sign-order true false = tt
sign-order false true = omega arith
sign-order false false = tt

operator_of-order : (flags : Flags) (counts : Counts) (q r : Place) → AreInOrder counts.min counts.max
    → Gives OperatorInOrder (Ok (operator_of flags counts q r))
operator_of-order flags counts q r in_order = reads in_order

pub operator-order : (flags : Flags) (p : Place) → Gives OperatorInOrder (operator flags p)
unfolding operator
operator-order flags p =
    test (is_at "*+?" p) (λ _. operator_of-order flags (counts_of (first p)) (past p) (past p) (sign-order (first p ∈ "+") (first p ∈ "?"))) (λ _.
    test (begins "{," p) (λ _. refused) (λ _.
    bind _ (read_counts-order flags p) (λ counts q in_order. operator_of-order flags counts q (skip flags q) in_order)))
