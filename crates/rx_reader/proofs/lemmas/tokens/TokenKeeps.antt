-- What is so of a place is so after flags, operators and what is skipped.
use Rattle.std.proofs.Common.{ℕ, Bool, true, false, not, ◌&&◌, List, length, Ok}
use Rattle.std.specs.Prelude.{Option, Some, None, if◌then◌else◌}
use Rattle.std.specs.List.{take_while}
use Rattle.std.specs.Char.{is_ascii_digit}
use Rattle.rx_reader.specs.declared.flags.Flags.{Flags}
use Rattle.rx_reader.specs.declared.operator.Counts.{Counts}
use Rattle.rx_reader.specs.declared.operator.Operator.{Operator}
use Rattle.rx_reader.specs.Reading.{Place, at_end, first, past, past_white, is_at, begins}
use Rattle.rx_reader.specs.Ahead.{past_n, skipped_len, skip}
use Rattle.rx_reader.specs.Flags.{letters, ends_with_hyphen, may_end_at, read_flags}
use Rattle.rx_reader.specs.Counts.{number_of, number_at, read_number, read_max, max_after, is_below, close_counts, read_counts, counts_of, operator_of, operator}
use Rattle.rx_reader.proofs.lemmas.tokens.EscapeKeeps.{past_n-keeps, past_white-keeps}
use Rattle.rx_reader.proofs.lemmas.places.GivesLemmas.{refused, reads, bind, test, Keeps, Carries}

module _ (K : Place → Type 0) (S : ℕ → Type 0) (go : Carries K S) where
  pub skip-keeps : (flags : Flags) (p : Place) → K p → K (skip flags p)
  skip-keeps flags p at = past_n-keeps K S go (skipped_len flags p.text) p at

  pub read_flags-keeps : (from : Place) (flags : Flags) (p : Place) → K p → Keeps K (read_flags from flags p)
  unfolding read_flags
  read_flags-keeps from flags p at =
      let q : Place = past_n (length (letters p.text)) p in
      test (at_end q) (λ _. refused) (λ _. test (not (ends_with_hyphen (letters p.text)) && may_end_at (length (letters p.text)) q)
      (λ _. reads (past_n-keeps K S go (length (letters p.text)) p at)) (λ _. refused))

  number_at-keeps : (from : Place) (flags : Flags) (found : Option ℕ) (q : Place) → K q → Keeps K (number_at from flags found q)
  number_at-keeps from flags None q at = refused
  number_at-keeps from flags (Some n) q at = reads (past_white-keeps K S go flags.ignore_whitespace q at)

  read_number-keeps : (from : Place) (flags : Flags) (p : Place) → K p → Keeps K (read_number from flags p)
  unfolding read_number
  read_number-keeps from flags p at =
      let begun : Place = past_white flags.ignore_whitespace p in
      let digits : List ℕ = take_while is_ascii_digit begun.text in
      let q : Place = past_n (length digits) begun in
      number_at-keeps from flags (number_of digits) q (past_n-keeps K S go (length digits) begun (past_white-keeps K S go flags.ignore_whitespace p at))

  read_max-keeps : (from : Place) (flags : Flags) (p : Place) → K p → Keeps K (read_max from flags p)
  unfolding read_max
  read_max-keeps from flags p at =
      let q : Place = past_white flags.ignore_whitespace p in
      let here : K q = past_white-keeps K S go flags.ignore_whitespace p at in
      test (is_at "}" q) (λ _. reads here) (λ _. bind _ (read_number-keeps from flags q here) (λ n r there. reads there))

  max_after-keeps : (from : Place) (flags : Flags) (min : ℕ) (p : Place) → K p → Keeps K (max_after from flags min p)
  max_after-keeps from flags min p at = test (is_at "," p) (λ _. read_max-keeps from flags (past p) (go.on p at)) (λ _. reads at)

  close_counts-keeps : (from : Place) (min : ℕ) (max : Option ℕ) (q : Place) → K q → Keeps K (close_counts from min max q)
  close_counts-keeps from min max q at =
      test (not (is_at "}" q)) (λ _. refused) (λ _. test (is_below max min) (λ _. refused) (λ _. reads (go.on q at)))

  read_counts-keeps : (flags : Flags) (p : Place) → K p → Keeps K (read_counts flags p)
  unfolding read_counts
  read_counts-keeps flags p at =
      bind _ (read_number-keeps p flags (past p) (go.on p at)) (λ min q here. bind _ (max_after-keeps p flags min q here) (λ max r there.
      close_counts-keeps p min max r there))

  lazy-keeps : (lazy : Bool) (o : Operator) (q r : Place) → K q → K r → Keeps K (Ok (o, if lazy then past r else q))
  lazy-keeps true o q r a b = reads (go.on r b)
  lazy-keeps false o q r a b = reads a

  operator_of-keeps : (flags : Flags) (counts : Counts) (q r : Place) → K q → K r → Keeps K (Ok (operator_of flags counts q r))
  operator_of-keeps flags counts q r a b = lazy-keeps (begins "?" r) _ q r a b

  pub operator-keeps : (flags : Flags) (p : Place) → K p → Keeps K (operator flags p)
  unfolding operator
  operator-keeps flags p at =
      test (is_at "*+?" p) (λ _. operator_of-keeps flags (counts_of (first p)) (past p) (past p) (go.on p at) (go.on p at)) (λ _.
      test (begins "{," p) (λ _. refused) (λ _.
      bind _ (read_counts-keeps flags p at) (λ counts q here. operator_of-keeps flags counts q (skip flags q) here (skip-keeps flags q here))))
