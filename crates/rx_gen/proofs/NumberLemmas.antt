-- A word is the number that it is written as.
use Rattle.std.proofs.Common.{◌≡◌, ℕ, ◌<◌, ◌≤◌, ◌^◌, Bool, true, false, cond, ◌&&◌, List, Option, Some, None, Result, Ok, Err, refl, sym, ap, ◌∙◌, arith, decimal, bytes_eq, nat_le, is_ok}
use Rattle.std.specs.Str.Parse.{ParsesUnsigned, digits_value}
use Rattle.std.proofs.lemmas.Bool.{and_parts, le-leb, leb-true, true≢false}
use Rattle.std.proofs.lemmas.Bool.Decides.{nat_tests}
use Rattle.std.proofs.lemmas.Fmt.{decimal_is_IsNumeral, parse-decimal}
use Rattle.std.proofs.lemmas.Slice.Eq.{bytes_eq-Decides}
use Rattle.rx_gen.specs.Numbers.{written_up_to, number_up_to}

-- what was read
value_of : {E : Type 0} → Result ℕ E → ℕ
value_of (Ok n) = n
value_of (Err error) = 0

first-false : (a b : Bool) → a ≡ false → a && b ≡ false
first-false a b e = rw e refl

second-false : (a b : Bool) → b ≡ false → a && b ≡ false
second-false true b e = e
second-false false b e = refl

module _ (most : ℕ) (word : List ℕ) (fits : most < 2 ^ 64) where
  -- it is written so, and at most so much
  abbrev Is : ℕ → Bool
  Is n = bytes_eq word (decimal n) && nat_le n most

  Is-parts : (n : ℕ) → Is n ≡ true → (word ≡ decimal n) × (n ≤ most)
  Is-parts n is = let both = and_parts (bytes_eq word (decimal n)) (nat_le n most) is in ((bytes_eq-Decides word (decimal n)).0 both.0, leb-true n most both.1)

  -- the number that it is written as is the one that its digits tell
  pub number-found : (n : ℕ) → bytes_eq word (decimal n) ≡ true → n ≤ most → Some n ≡ number_up_to most word
  number-found n written le =
      let same : word ≡ decimal n = (bytes_eq-Decides word (decimal n)).0 written in
      let told : digits_value 10 word ≡ n = ap (digits_value 10) same ∙ (decimal_is_IsNumeral n (omega (arith, le, fits))).1 in
      let is : Is n ≡ true = rw (written, le-leb n most le) refl in
      sym (ap (λ m. written_up_to most m word) told ∙ ap (λ (b : Bool). cond b (Some n) None) is)

  module _ {E : Type 0} (r : Result ℕ E) (parses : ParsesUnsigned 64 10 word r) where
    none-by : (m : ℕ) (b : Bool) → Is m ≡ b → ((n : ℕ) → r ≡ Ok n → Is n ≡ false) → ◌≡◌ {A = Option ℕ} None (cond b (Some m) None)
    none-by m false is none = refl
    none-by m true is none =
        let parts = Is-parts m is in
        let found : r ≡ Ok m = parse-decimal 64 m word r (omega (arith, parts.1, fits)) (omega (arith, parts.1, fits)) parts.0 parses in
        absurd (true≢false (sym is ∙ none m found))

    -- what is no number at all
    pub number-none : (error : E) → r ≡ Err error → ◌≡◌ {A = Option ℕ} None (number_up_to most word)
    number-none error failed =
        none-by (digits_value 10 word) (Is (digits_value 10 word)) refl (λ n is. absurd (true≢false (ap is_ok (sym is ∙ failed))))

    number-other : (n : ℕ) → r ≡ Ok n → Is n ≡ false → ◌≡◌ {A = Option ℕ} None (number_up_to most word)
    unfolding value_of
    number-other n read other =
        none-by (digits_value 10 word) (Is (digits_value 10 word)) refl (λ m is. ap Is (ap value_of (sym is ∙ read)) ∙ other)

    -- a number that is written in another way, and one above the limit
    pub number-unwritten : (n : ℕ) → r ≡ Ok n → bytes_eq word (decimal n) ≡ false → ◌≡◌ {A = Option ℕ} None (number_up_to most word)
    number-unwritten n read other = number-other n read (first-false (bytes_eq word (decimal n)) (nat_le n most) other)

    pub number-above : (n : ℕ) → r ≡ Ok n → most < n → ◌≡◌ {A = Option ℕ} None (number_up_to most word)
    number-above n read big =
        let other : nat_le n most ≡ false = grind (arith, nat_tests) in
        number-other n read (second-false (bytes_eq word (decimal n)) (nat_le n most) other)
