-- The text of an operator of repetition reads as it.
use Rattle.std.proofs.Common.{◌≡◌, ℕ, ◌+◌, ◌-◌, ◌*◌, ◌<◌, ◌≤◌, ◌==◌, Bool, true, false, not, ◌&&◌, List, [], ◌∷◌, ◌++◌, length, Ok, refl, ◌∙◌, ap, sym, subst, append_assoc, arith}
use Rattle.std.proofs.lemmas.Bool.{and_parts}
use Rattle.std.proofs.lemmas.Bool.Decides.{nat_tests}
use Rattle.std.proofs.lemmas.Fmt.{digits_decimal, digits_value-decimal, decimal_nonempty}
use Rattle.std.proofs.lemmas.Str.Parse.{IsNumeralModel, numerals_by_fold, tells_all_ascii_digits}
use Rattle.std.specs.Bool.{beq}
use Rattle.std.specs.Prelude.{codes, decimal, fold, nat_eq, nat_lt, Option, Some, None, if◌then◌else◌}
use Rattle.std.specs.List.{list_all, starts_with, take_while}
use Rattle.std.specs.Char.{is_ascii_digit}
use Rattle.std.specs.Str.{all_ascii_digits}
use Rattle.rx_reader.specs.declared.flags.Flags.{Flags}
use Rattle.rx_reader.specs.declared.operator.Counts.{Counts}
use Rattle.rx_reader.specs.declared.operator.Operator.{Operator}
use Rattle.rx_reader.specs.declared.error.SyntaxErrorKind.TheVariants.{RepeatCount, Unsupported}
use Rattle.rx_reader.specs.Reading.{Place, Read, ◌>>=◌, refuse, first, past, past_white, ◌∈◌, is_at, begins}
use Rattle.rx_reader.specs.Ahead.{past_n, skip}
use Rattle.rx_reader.specs.Counts.{numeral, greatest_count, within, number_of, number_at, read_number, read_max, max_after, is_below, close_counts, read_counts, counts_of, with_greed, operator_of, operator, AreInOrder}
use Rattle.rx_reader.specs.Printable.{HasCountsText}
use Rattle.rx_reader.specs.Printed.{up_to, counts_text, sign_text}
use Rattle.rx_reader.proofs.lemmas.places.AheadLemmas.{skip_none}
use Rattle.rx_reader.proofs.lemmas.printed.TextLemmas.{onto, here, past-text, while-front, same-number, differ, calm, first-calm}

-- Numbers.

own : IsNumeralModel (λ ds. all_ascii_digits ds ≡ true) numeral
own =
    numerals_by_fold (λ ds. all_ascii_digits ds ≡ true) tells_all_ascii_digits (λ n ds. fold (λ m d. m * 10 + (d - 48)) n ds)
    (record { empty = λ n. refl; more = λ n c cs h. refl })

all-digits : (n : ℕ) → n ≤ greatest_count → all_ascii_digits (decimal n) ≡ true
all-digits n small = digits_decimal own n (omega arith)

-- digits in front of something else
digits-front : (ds : List ℕ) (c : ℕ) (more : List ℕ) → all_ascii_digits ds ≡ true → is_ascii_digit c ≡ false → take_while is_ascii_digit (ds ++ c ∷ more) ≡ ds
digits-front ds c more digits other = while-front is_ascii_digit ds c more (each ds ∙ digits) other
  where
    each : (xs : List ℕ) → list_all is_ascii_digit xs ≡ all_ascii_digits xs
    each [] = refl
    each (x ∷ xs) = ap (λ (b : Bool). is_ascii_digit x && b) (each xs)

number-is : (n : ℕ) → n ≤ greatest_count → number_of (decimal n) ≡ Some n
number-is n small =
    let some : 0 < length (decimal n) = decimal_nonempty n (omega arith) in
    let any : (length (decimal n) == 0) ≡ false = grind (arith, nat_tests, some) in
    let fits : nat_lt greatest_count n ≡ false = grind (arith, nat_tests) in
    ap (λ (b : Bool). if b then None else within (numeral (decimal n))) any
    ∙ ap within (digits_value-decimal own n (omega arith))
    ∙ ap (λ (b : Bool). if b then None else Some n) fits

-- what stands first among digits
no-brace : (ds : List ℕ) (more : List ℕ) (p : Place) → 0 < length ds → all_ascii_digits ds ≡ true → is_at "}" (onto (ds ++ more) p) ≡ false
no-brace [] more p some digits = absurd (omega arith)
no-brace (d ∷ ds) more p some digits =
    here "}" d (ds ++ more) p ∙ differ is_ascii_digit true d 125 (and_parts (is_ascii_digit d) (all_ascii_digits ds) digits).0 refl

no-comma : (ds : List ℕ) (more : List ℕ) → 0 < length ds → all_ascii_digits ds ≡ true → starts_with nat_eq (123 ∷ ds ++ more) (codes "{,") ≡ false
no-comma [] more some digits = absurd (omega arith)
no-comma (d ∷ ds) more some digits =
    rw (differ is_ascii_digit false 44 d refl (and_parts (is_ascii_digit d) (all_ascii_digits ds) digits).0) refl

module _ (flags : Flags) (solid : flags.ignore_whitespace ≡ false) where
  white : (p : Place) → past_white flags.ignore_whitespace p ≡ p
  white p = ap (λ (b : Bool). past_white b p) solid

  number-reads : (from p : Place) (n c : ℕ) (more : List ℕ) → n ≤ greatest_count → is_ascii_digit c ≡ false
      → (q : Place) × (read_number from flags (onto (decimal n ++ c ∷ more) p) ≡ Ok (n, onto (c ∷ more) q))
  unfolding read_number
  number-reads from p n c more small other =
      let start : Place = onto (decimal n ++ c ∷ more) p in
      let beyond = past-text (decimal n) (c ∷ more) p in (
        beyond.0,
        ap (λ (b : Place). number_at from flags (number_of (take_while is_ascii_digit b.text)) (past_n (length (take_while is_ascii_digit b.text)) b))
            (white start)
            ∙ ap (λ (ds : List ℕ). number_at from flags (number_of ds) (past_n (length ds) start)) (digits-front (decimal n) c more (all-digits n small) other)
            ∙ ap (λ (found : Option ℕ). number_at from flags found (past_n (length (decimal n)) start)) (number-is n small)
            ∙ ap (λ (q : Place). Ok (n, q)) (white (past_n (length (decimal n)) start))
            ∙ ap (λ (q : Place). Ok (n, q)) beyond.1,
      )

  -- the end of the counts
  abbrev ending : ℕ → Option ℕ → List ℕ → List ℕ
  ending min max rest = up_to min max ++ 125 ∷ rest

  -- what stands after the least count
  max-reads : (from p : Place) (min : ℕ) (max : Option ℕ) (rest : List ℕ) → HasCountsText min max
      → (q : Place) × (max_after from flags min (onto (ending min max rest) p) ≡ Ok (max, onto (125 ∷ rest) q))
  unfolding read_max
  max-reads from p min None rest h =
      let start : Place = onto (44 ∷ 125 ∷ rest) p in
      let q : Place = past start in (
        q,
        ap (λ (b : Bool). if b then read_max from flags q else Ok (Some min, start)) (here "," 44 (125 ∷ rest) p)
            ∙ ap (λ (r : Place). if is_at "}" r then Ok (None, r) else (read_number from flags r >>= λ (n, r). Ok (Some n, r))) (white q)
            ∙ ap (λ (b : Bool). if b then Ok (None, q) else (read_number from flags q >>= λ (n, r). Ok (Some n, r))) (here "}" 125 rest q),
      )
  max-reads from p min (Some max) rest h = by (min == max) refl
    where
      by : (b : Bool) → (min == max) ≡ b
          → (q : Place) × (max_after from flags min (onto ((if b then [] else codes "," ++ decimal max) ++ 125 ∷ rest) p) ≡ Ok (Some max, onto (125 ∷ rest) q))
      by true is =
          let start : Place = onto (125 ∷ rest) p in
          let same : min ≡ max = grind (arith, nat_tests, is) in (
            start,
            ap (λ (b : Bool). if b then read_max from flags (past start) else Ok (Some min, start)) (here "," 125 rest p)
                ∙ ap (λ (n : ℕ). Ok (Some n, start)) same,
          )
      by false is =
          let start : Place = onto (44 ∷ decimal max ++ 125 ∷ rest) p in
          let q : Place = past start in
          let number = number-reads from q max 125 rest h.2 refl in
          let some : 0 < length (decimal max) = decimal_nonempty max (omega (arith, h.2)) in (
            number.0,
            ap (λ (b : Bool). if b then read_max from flags q else Ok (Some min, start)) (here "," 44 (decimal max ++ 125 ∷ rest) p)
                ∙ ap (λ (r : Place). if is_at "}" r then Ok (None, r) else (read_number from flags r >>= λ (n, r). Ok (Some n, r))) (white q)
                ∙ ap (λ (b : Bool). if b then Ok (None, q) else (read_number from flags q >>= λ (n, r). Ok (Some n, r)))
                (no-brace (decimal max) (125 ∷ rest) q some (all-digits max h.2))
                ∙ ap (λ (r : Read ℕ). r >>= λ (n, r). Ok (Some n, r)) number.1,
          )

  in-order : (min : ℕ) (max : Option ℕ) → AreInOrder min max → is_below max min ≡ false
  in-order min None h = refl
  in-order min (Some m) h = grind (arith, nat_tests)

  close-reads : (from p : Place) (min : ℕ) (max : Option ℕ) (rest : List ℕ) → HasCountsText min max
      → (q : Place) × (close_counts from min max (onto (125 ∷ rest) p) ≡ Ok (record { min = min; max = max }, onto rest q))
  close-reads from p min max rest h =
      let start : Place = onto (125 ∷ rest) p in (
        past start,
        ap (λ (b : Bool). if not b then refuse RepeatCount from start else if is_below max min then refuse RepeatCount from (past start) else Ok
            (record { min = min; max = max }, past start)) (here "}" 125 rest p)
            ∙ ap (λ (b : Bool). if b then refuse RepeatCount from (past start) else Ok (record { min = min; max = max }, past start)) (in-order min max h.1),
      )

  -- a digit, a comma or a brace after the least count
  ending-splits : (min : ℕ) (max : Option ℕ) (rest : List ℕ) → (c : ℕ) × (more : List ℕ) × (ending min max rest ≡ c ∷ more) × (is_ascii_digit c ≡ false)
  ending-splits min None rest = (44, 125 ∷ rest, refl, refl)
  ending-splits min (Some max) rest = by (min == max)
    where
      by : (b : Bool) → (c : ℕ) × (more : List ℕ) × ((if b then [] else codes "," ++ decimal max) ++ 125 ∷ rest ≡ c ∷ more) × (is_ascii_digit c ≡ false)
      by true = (125, rest, refl, refl)
      by false = (44, decimal max ++ 125 ∷ rest, refl, refl)

  counts-read : (p : Place) (min : ℕ) (max : Option ℕ) (rest : List ℕ) → HasCountsText min max
      → (q : Place) × (read_counts flags (onto (123 ∷ decimal min ++ ending min max rest) p) ≡ Ok (record { min = min; max = max }, onto rest q))
  unfolding read_counts
  counts-read p min max rest h =
      let start : Place = onto (123 ∷ decimal min ++ ending min max rest) p in
      let split = ending-splits min max rest in
      let number = number-reads start (past start) min split.0 split.1 h.0 split.3 in
      let least : read_number start flags (past start) ≡ Ok (min, onto (ending min max rest) number.0) =
      ap (λ (t : List ℕ). read_number start flags (onto (decimal min ++ t) (past start))) split.2 ∙ number.1
      ∙ ap (λ (t : List ℕ). Ok (min, onto t number.0)) (sym split.2) in
      let most = max-reads start number.0 min max rest h in
      let close = close-reads start most.0 min max rest h in (
        close.0,
        ap (λ (r : Read ℕ). r >>= λ (n, q). max_after start flags n q >>= λ (m, r). close_counts start n m r) least
            ∙ ap (λ (r : Read (Option ℕ)). r >>= λ (m, r). close_counts start min m r) most.1
            ∙ close.1,
      )

  -- The greed.

  abbrev pub mark : Bool → List ℕ
  mark greedy = if beq greedy flags.swap_greed then codes "?" else []

  turns : (g s : Bool) → beq (beq g s) s ≡ g
  turns true true = refl
  turns true false = refl
  turns false true = refl
  turns false false = refl

  abbrev counted : Counts → Bool → Operator
  counted counts greedy = record { min = counts.min; max = counts.max; greedy = greedy }

  mark-reads : (counts : Counts) (greedy : Bool) (rest : List ℕ) (p : Place) → starts_with nat_eq rest (codes "?") ≡ false
      → (q : Place) × (operator_of flags counts (onto (mark greedy ++ rest) p) (onto (mark greedy ++ rest) p) ≡ (counted counts greedy, onto rest q))
  mark-reads counts greedy rest p none = by (beq greedy flags.swap_greed) refl
    where
      by : (b : Bool) → beq greedy flags.swap_greed ≡ b
          → (q : Place) × (operator_of flags counts (onto ((if b then codes "?" else []) ++ rest) p) (onto ((if b then codes "?" else []) ++ rest) p) ≡
          (counted counts greedy, onto rest q))
      by true is =
          let x : Place = onto (63 ∷ rest) p in
          let turned : beq true flags.swap_greed ≡ greedy = ap (λ (b : Bool). beq b flags.swap_greed) (sym is) ∙ turns greedy flags.swap_greed in
          (past x, ap (λ (g : Bool). (counted counts g, past x)) turned)
      by false is =
          let x : Place = onto rest p in
          let turned : beq false flags.swap_greed ≡ greedy = ap (λ (b : Bool). beq b flags.swap_greed) (sym is) ∙ turns greedy flags.swap_greed in
          (x, ap (λ (lazy : Bool). (with_greed counts lazy flags, if lazy then past x else x)) none ∙ ap (λ (g : Bool). (counted counts g, x)) turned)

  -- what the text reads as
  abbrev pub Operates : (text : List ℕ) (min : ℕ) (max : Option ℕ) (greedy : Bool) (rest : List ℕ) (p : Place) → Type 0
  Operates text min max greedy rest p =
      (q : Place) × (operator flags (onto text p) ≡ Ok (record { min = min; max = max; greedy = greedy }, onto rest q)) × (is_at "*+?{" (onto text p) ≡ true)

  operator_if : Place → (sign comma : Bool) → Read Operator
  operator_if p sign comma =
      if sign then Ok (operator_of flags (counts_of (first p)) (past p) (past p))
      else if comma then refuse Unsupported p (past_n 2 p)
      else (read_counts flags p >>= λ (counts, q). Ok (operator_of flags counts q (skip flags q)))

  sign-operates : (c : ℕ) (greedy : Bool) (rest : List ℕ) (p : Place) → starts_with nat_eq rest (codes "?") ≡ false → c ∈ "*+?" ≡ true → c ∈ "*+?{" ≡ true
      → Operates (c ∷ mark greedy ++ rest) (counts_of c).min (counts_of c).max greedy rest p
  unfolding operator operator_if
  sign-operates c greedy rest p none sign any =
      let start : Place = onto (c ∷ mark greedy ++ rest) p in
      let turned = mark-reads (counts_of c) greedy rest (past start) none in (
        turned.0,
        ap (λ (b : Bool). operator_if start b (begins "{," start)) (here "*+?" c (mark greedy ++ rest) p ∙ sign) ∙ ap Ok turned.1,
        here "*+?{" c (mark greedy ++ rest) p ∙ any,
      )

  counts-operate : (min : ℕ) (max : Option ℕ) (greedy : Bool) (rest : List ℕ) (p : Place) → starts_with nat_eq rest (codes "?") ≡ false → HasCountsText min max
      → Operates (123 ∷ decimal min ++ ending min max (mark greedy ++ rest)) min max greedy rest p
  unfolding operator operator_if
  counts-operate min max greedy rest p none h =
      let start : Place = onto (123 ∷ decimal min ++ ending min max (mark greedy ++ rest)) p in
      let some : 0 < length (decimal min) = decimal_nonempty min (omega (arith, h.0)) in
      let counts = counts-read p min max (mark greedy ++ rest) h in
      let turned = mark-reads (record { min = min; max = max }) greedy rest counts.0 none in (
        turned.0,
        ap (λ (b : Bool). operator_if start b (begins "{," start)) (here "*+?" 123 (decimal min ++ ending min max (mark greedy ++ rest)) p)
            ∙ ap (operator_if start false) (no-comma (decimal min) (ending min max (mark greedy ++ rest)) some (all-digits min h.0))
            ∙ ap (λ (r : Read Counts). r >>= λ (counts, q). Ok (operator_of flags counts q (skip flags q))) counts.1
            ∙ ap (λ (q : Place). Ok (operator_of flags (record { min = min; max = max }) (onto (mark greedy ++ rest) counts.0) q))
            (skip_none flags (onto (mark greedy ++ rest) counts.0) solid)
            ∙ ap Ok turned.1,
        here "*+?{" 123 (decimal min ++ ending min max (mark greedy ++ rest)) p,
      )

  -- The texts as they are printed.

  counts-grouped : (min : ℕ) (max : Option ℕ) (m rest : List ℕ) → (counts_text min max ++ m) ++ rest ≡ 123 ∷ decimal min ++ ending min max (m ++ rest)
  counts-grouped min max m rest =
      append_assoc (counts_text min max) m rest
      ∙ ap (λ (t : List ℕ). 123 ∷ t) (append_assoc (decimal min) (up_to min max ++ codes "}") (m ++ rest)
      ∙ ap (λ (t : List ℕ). decimal min ++ t) (append_assoc (up_to min max) (codes "}") (m ++ rest)))

  pub counts-say : (min : ℕ) (max : Option ℕ) (greedy : Bool) (rest : List ℕ) (p : Place) → starts_with nat_eq rest (codes "?") ≡ false → HasCountsText min max
      → Operates ((counts_text min max ++ mark greedy) ++ rest) min max greedy rest p
  counts-say min max greedy rest p none h =
      subst (λ (t : List ℕ). Operates t min max greedy rest p) (sym (counts-grouped min max (mark greedy) rest)) (counts-operate min max greedy rest p none h)

  pub sign-says : (min : ℕ) (max : Option ℕ) (greedy : Bool) (rest : List ℕ) (p : Place) → starts_with nat_eq rest (codes "?") ≡ false → HasCountsText min max
      → Operates ((sign_text min max ++ mark greedy) ++ rest) min max greedy rest p
  sign-says min None greedy rest p none h = star (min == 0) refl
    where
      plus : (b : Bool) → (min == 1) ≡ b → Operates (((if b then codes "+" else counts_text min None) ++ mark greedy) ++ rest) min None greedy rest p
      plus true is =
          subst (λ (n : ℕ). Operates (43 ∷ mark greedy ++ rest) n None greedy rest p) (sym (same-number min 1 is))
          (sign-operates 43 greedy rest p none refl refl)
      plus false is = counts-say min None greedy rest p none h

      star : (b : Bool) → (min == 0) ≡ b
          → Operates (((if b then codes "*" else if min == 1 then codes "+" else counts_text min None) ++ mark greedy) ++ rest) min None greedy rest p
      star true is =
          subst (λ (n : ℕ). Operates (42 ∷ mark greedy ++ rest) n None greedy rest p) (sym (same-number min 0 is))
          (sign-operates 42 greedy rest p none refl refl)
      star false is = plus (min == 1) refl
  sign-says min (Some max) greedy rest p none h = by (min == 0 && max == 1) refl
    where
      by : (b : Bool) → (min == 0 && max == 1) ≡ b
          → Operates (((if b then codes "?" else counts_text min (Some max)) ++ mark greedy) ++ rest) min (Some max) greedy rest p
      by true is =
          let both = and_parts (min == 0) (max == 1) is in
          subst (λ (n : ℕ). Operates (63 ∷ mark greedy ++ rest) n (Some max) greedy rest p) (sym (same-number min 0 both.0))
          (subst (λ (n : ℕ). Operates (63 ∷ mark greedy ++ rest) 0 (Some n) greedy rest p) (sym (same-number max 1 both.1))
          (sign-operates 63 greedy rest p none refl refl))
      by false is = counts-say min (Some max) greedy rest p none h

-- After an item with such an operator, or after a sign, no word in braces can be meant.

digits-calm : (ds xs m rest : List ℕ) → 0 < length ds → all_ascii_digits ds ≡ true → calm ((123 ∷ (ds ++ xs) ++ m) ++ rest) ≡ true
digits-calm [] xs m rest some digits = absurd (omega arith)
digits-calm (d ∷ ds) xs m rest some digits = (and_parts (is_ascii_digit d) (all_ascii_digits ds) digits).0

pub counts-calm : (min : ℕ) (max : Option ℕ) (m rest : List ℕ) → HasCountsText min max → calm ((counts_text min max ++ m) ++ rest) ≡ true
counts-calm min max m rest h =
    digits-calm (decimal min) (up_to min max ++ codes "}") m rest (decimal_nonempty min (omega (arith, h.0))) (all-digits min h.0)

pub sign-calm : (min : ℕ) (max : Option ℕ) (m rest : List ℕ) → HasCountsText min max → calm ((sign_text min max ++ m) ++ rest) ≡ true
sign-calm min None m rest h = star (min == 0)
  where
    plus : (b : Bool) → calm (((if b then codes "+" else counts_text min None) ++ m) ++ rest) ≡ true
    plus true = first-calm 43 (m ++ rest) refl
    plus false = counts-calm min None m rest h

    star : (b : Bool) → calm (((if b then codes "*" else if min == 1 then codes "+" else counts_text min None) ++ m) ++ rest) ≡ true
    star true = first-calm 42 (m ++ rest) refl
    star false = plus (min == 1)
sign-calm min (Some max) m rest h = by (min == 0 && max == 1)
  where
    by : (b : Bool) → calm (((if b then codes "?" else counts_text min (Some max)) ++ m) ++ rest) ≡ true
    by true = first-calm 63 (m ++ rest) refl
    by false = counts-calm min (Some max) m rest h
