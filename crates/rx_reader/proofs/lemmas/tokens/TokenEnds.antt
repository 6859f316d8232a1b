-- Where tokens end.
use Rattle.std.proofs.Common.{◌≡◌, ℕ, suc, ◌<◌, ◌≤◌, Bool, true, false, not, ◌&&◌, List, ◌||◌, ◌==◌, length, Ok, arith}
use Rattle.std.specs.Prelude.{Option, Some, None, if◌then◌else◌}
use Rattle.std.specs.List.{take_while}
use Rattle.std.specs.Char.{is_ascii_digit}
use Rattle.rx_reader.specs.declared.config.Config.{Config}
use Rattle.rx_reader.specs.declared.flags.Flags.{Flags}
use Rattle.rx_reader.specs.declared.operator.Counts.{Counts}
use Rattle.rx_reader.specs.declared.operator.Operator.{Operator}
use Rattle.rx_reader.specs.Config.{octal_of}
use Rattle.rx_reader.specs.Reading.{Place, at_end, first, past, past_white, is_at, begins, has_name, ◌∈◌}
use Rattle.rx_reader.specs.Ahead.{past_n, skipped_len, skip}
use Rattle.rx_reader.specs.Flags.{letters, ends_with_hyphen, may_end_at, read_flags}
use Rattle.rx_reader.specs.Names.{name_of, read_name}
use Rattle.rx_reader.specs.Openings.{is_look_ahead, is_look_behind, is_reference, named, flagged, opening}
use Rattle.rx_reader.specs.Counts.{number_of, number_at, read_number, read_max, max_after, is_below, close_counts, read_counts, counts_of, operator_of, operator}
use Rattle.rx_reader.specs.Grammar.{opens, escaped, bracketed, is_operator, stray_operator, token_of, token}
use Rattle.rx_reader.proofs.lemmas.tokens.EscapeEnds.{past_n-le, past_n-lt, past_white-le, escape-ends, class-ends}
use Rattle.rx_reader.proofs.lemmas.branches.EndLemmas.{EndsBelow, refused, reads, bind, test, weaker, at_end_of, past_le, past_lt}

-- what is skipped

pub skip-le : (flags : Flags) (p : Place) → length (skip flags p).text ≤ length p.text
skip-le flags p = past_n-le (skipped_len flags p.text) p

-- openings

read_name-ends : (p : Place) → EndsBelow (suc (length p.text)) (read_name p)
unfolding read_name
read_name-ends p =
    let q : Place = past_n (length (name_of p.text)) p in
    let le : length (past q).text < suc (length p.text) = omega (arith, past_le q, past_n-le (length (name_of p.text)) p) in
    test (length (name_of p.text) == 0 || not (is_at ">" q)) (λ _. refused _ _) (λ _. test (has_name (name_of p.text) q) (λ _. refused _ _) (λ _. reads le))

named-ends : (flags : Flags) (p : Place) → EndsBelow (suc (length p.text)) (named flags p)
unfolding named
named-ends flags p = bind _ (read_name-ends p) (λ name q lt. reads lt)

read_flags-ends : (from : Place) (flags : Flags) (p : Place) → EndsBelow (suc (length p.text)) (read_flags from flags p)
unfolding read_flags
read_flags-ends from flags p =
    let q : Place = past_n (length (letters p.text)) p in
    test (at_end q) (λ _. refused _ _) (λ _. test (not (ends_with_hyphen (letters p.text)) && may_end_at (length (letters p.text)) q)
    (λ _. reads (omega (arith, past_n-le (length (letters p.text)) p))) (λ _. refused _ _))

flagged-ends : (flags : Flags) (p : Place) → 0 < length p.text → EndsBelow (length p.text) (flagged flags p)
unfolding flagged
flagged-ends flags p more =
    bind _ (read_flags-ends p flags (past_n 2 p)) (λ changed q lt. reads (omega (arith, past_le q, past_n-lt 1 p more)))

pub opening-ends : (flags : Flags) (p : Place) → 0 < length p.text → EndsBelow (length p.text) (opening flags p)
unfolding opening
opening-ends flags p more =
    test (is_look_ahead p) (λ _. refused _ _) (λ _.
    test (is_look_behind p) (λ _. refused _ _) (λ _.
    test (is_reference p) (λ _. refused _ _) (λ _.
    test (begins "(?P<" p) (λ _. weaker (omega (arith, past_n-lt 3 p more)) (named-ends flags (past_n 4 p))) (λ _.
    test (begins "(?<" p) (λ _. weaker (omega (arith, past_n-lt 2 p more)) (named-ends flags (past_n 3 p))) (λ _.
    test (begins "(?" p) (λ _. flagged-ends flags p more) (λ _. reads (past_lt p more)))))))

-- operators

number_at-ends : (from : Place) (flags : Flags) (found : Option ℕ) (q : Place) → EndsBelow (suc (length q.text)) (number_at from flags found q)
number_at-ends from flags None q = refused _ _
number_at-ends from flags (Some n) q = reads (omega (arith, past_white-le flags.ignore_whitespace q))

read_number-ends : (from : Place) (flags : Flags) (p : Place) → EndsBelow (suc (length p.text)) (read_number from flags p)
unfolding read_number
read_number-ends from flags p =
    let begun : Place = past_white flags.ignore_whitespace p in
    let digits : List ℕ = take_while is_ascii_digit begun.text in
    let q : Place = past_n (length digits) begun in
    weaker (omega (arith, past_white-le flags.ignore_whitespace p, past_n-le (length digits) begun)) (number_at-ends from flags (number_of digits) q)

read_max-ends : (from : Place) (flags : Flags) (p : Place) → EndsBelow (suc (length p.text)) (read_max from flags p)
unfolding read_max
read_max-ends from flags p =
    let q : Place = past_white flags.ignore_whitespace p in
    let le : length q.text ≤ length p.text = past_white-le flags.ignore_whitespace p in
    test (is_at "}" q) (λ _. reads (omega (arith, le))) (λ _. bind _ (read_number-ends from flags q) (λ n r lt. reads (omega (arith, le, lt))))

max_after-ends : (from : Place) (flags : Flags) (min : ℕ) (p : Place) → EndsBelow (suc (length p.text)) (max_after from flags min p)
max_after-ends from flags min p =
    test (is_at "," p) (λ _. weaker (omega (arith, past_le p)) (read_max-ends from flags (past p))) (λ _. reads (omega arith))

close_counts-ends : (from : Place) (min : ℕ) (max : Option ℕ) (q : Place) → EndsBelow (suc (length q.text)) (close_counts from min max q)
close_counts-ends from min max q =
    test (not (is_at "}" q)) (λ _. refused _ _) (λ _. test (is_below max min) (λ _. refused _ _) (λ _. reads (omega (arith, past_le q))))

read_counts-ends : (flags : Flags) (p : Place) → 0 < length p.text → EndsBelow (length p.text) (read_counts flags p)
unfolding read_counts
read_counts-ends flags p more =
    bind _ (read_number-ends p flags (past p)) (λ min q lt. bind _ (max_after-ends p flags min q) (λ max r le.
    weaker (omega (arith, past_lt p more, lt, le)) (close_counts-ends p min max r)))

lazy-ends : (n : ℕ) (lazy : Bool) (o : Operator) (q r : Place) → length q.text < n → length r.text < n → EndsBelow n (Ok (o, if lazy then past r else q))
lazy-ends n true o q r a b = reads (omega (arith, past_le r, b))
lazy-ends n false o q r a b = reads a

operator_of-ends : (n : ℕ) (flags : Flags) (counts : Counts) (q r : Place) → length q.text < n → length r.text < n
    → EndsBelow n (Ok (operator_of flags counts q r))
operator_of-ends n flags counts q r a b = lazy-ends n (begins "?" r) _ q r a b

pub operator-ends : (flags : Flags) (p : Place) → 0 < length p.text → EndsBelow (length p.text) (operator flags p)
unfolding operator
operator-ends flags p more =
    test (is_at "*+?" p) (λ _. operator_of-ends (length p.text) flags (counts_of (first p)) (past p) (past p) (past_lt p more) (past_lt p more)) (λ _.
    test (begins "{," p) (λ _. refused _ _) (λ _.
    bind _ (read_counts-ends flags p more) (λ counts q lt. operator_of-ends (length p.text) flags counts q (skip flags q) lt
    (omega (arith, skip-le flags q, lt)))))

-- tokens

opens-ends : (flags : Flags) (p : Place) → 0 < length p.text → EndsBelow (length p.text) (opens flags p)
unfolding opens
opens-ends flags p more = bind _ (opening-ends flags p more) (λ o q lt. reads lt)

module _ (config : Config) where
  escaped-ends : (flags : Flags) (p : Place) → 0 < length p.text → EndsBelow (length p.text) (escaped config flags p)
  unfolding escaped
  escaped-ends flags p more = bind _ (escape-ends (octal_of config) p more) (λ e q lt. reads lt)

  bracketed-ends : (flags : Flags) (p : Place) → 0 < length p.text → EndsBelow (length p.text) (bracketed config flags p)
  unfolding bracketed
  bracketed-ends flags p more = bind _ (class-ends (octal_of config) flags.ignore_whitespace p more) (λ a q lt. reads lt)

  token_of-ends : (c : ℕ) (flags : Flags) (p : Place) → 0 < length p.text → EndsBelow (length p.text) (token_of config c flags p)
  unfolding token_of
  token_of-ends c flags p more =
      test (c ∈ "|") (λ _. reads (past_lt p more)) (λ _.
      test (c ∈ ")") (λ _. reads (past_lt p more)) (λ _.
      test (c ∈ "(") (λ _. opens-ends flags p more) (λ _.
      test (c ∈ "[") (λ _. bracketed-ends flags p more) (λ _.
      test (c ∈ "\\") (λ _. escaped-ends flags p more) (λ _.
      test (c ∈ ".") (λ _. reads (past_lt p more)) (λ _.
      test (c ∈ "^") (λ _. reads (past_lt p more)) (λ _.
      test (c ∈ "$") (λ _. reads (past_lt p more)) (λ _. reads (past_lt p more)))))))))

  stray_operator-ends : (n : ℕ) (p : Place) → EndsBelow n (stray_operator p)
  stray_operator-ends n p = test (begins "{," p) (λ _. refused _ _) (λ _. refused _ _)

  pub token-ends : (flags : Flags) (p : Place) → at_end p ≡ false → EndsBelow (length p.text) (token config flags p)
  unfolding token
  token-ends flags p h =
      test (at_end p) (λ e. record { below = λ t q is. absurd (cc) }) (λ _.
      test (is_operator p) (λ _. stray_operator-ends (length p.text) p) (λ _. token_of-ends (first p) flags p (at_end_of p h)))
