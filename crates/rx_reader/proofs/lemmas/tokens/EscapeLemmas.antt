-- On the characters of names and numbers.
use Rattle.std.proofs.Common.{◌≡◌, ℕ, zero, suc, ◌+◌, ◌*◌, ◌^◌, ◌<◌, ◌≤◌, ◌==◌, ◌&&◌, not, Bool, true, false, List, [], ◌∷◌, length, drop, take, ◌++◌, mul-le-mul_left, refl, ap, sym, ◌∙◌, arith, cond, true≢false}
use Rattle.std.specs.Prelude.{slice_index}
use Rattle.std.specs.List.{prefix_len}
use Rattle.std.specs.Char.{is_digit, digit_value}
use Rattle.std.specs.Str.Parse.{digits_value_after}
use Rattle.std.proofs.lemmas.List.{append_assoc}
use Rattle.std.proofs.lemmas.Bool.Decides.{nat_tests}
use Rattle.rx_reader.specs.Reading.{Place, first, past, passes}
use Rattle.rx_reader.specs.Ahead.{past_n}
use Rattle.rx_reader.specs.Escapes.{leading, digits}

past_n-suc : (n : ℕ) (p : Place) → past_n (suc n) p ≡ past (past_n n p)
unfolding past_n
past_n-suc zero p = refl
past_n-suc (suc n) p = past_n-suc n (past p)

pub past_n-more : (n : ℕ) (p : Place) → past_n (n + 1) p ≡ past (past_n n p)
past_n-more n p = let e : n + 1 ≡ suc n = omega arith in ap (λ (k : ℕ). past_n k p) e ∙ past_n-suc n p

-- a character that passes the test stands first
passing : (ℕ → Bool) → List ℕ → Bool
passing test [] = false
passing test (c ∷ cs) = test c

text_passes : (test : ℕ → Bool) (t : List ℕ) → (not (length t == 0) && test (slice_index t 0)) ≡ passing test t
unfolding passing
text_passes test [] = refl
text_passes test (c ∷ cs) =
    let more : (suc (length cs) == 0) ≡ false = grind (arith, nat_tests) in ap (λ b. not b && test c) more

leading-step : (test : ℕ → Bool) (c : ℕ) (cs : List ℕ) → test c ≡ true → leading test (c ∷ cs) ≡ c ∷ leading test cs
leading-step test c cs h =
    let more : 1 + prefix_len test cs ≡ suc (prefix_len test cs) = omega arith in
    ap (λ b. take (cond b (1 + prefix_len test cs) 0) (c ∷ cs)) h ∙ ap (λ (n : ℕ). take n (c ∷ cs)) more

leading-stop : (test : ℕ → Bool) (c : ℕ) (cs : List ℕ) → test c ≡ false → leading test (c ∷ cs) ≡ []
leading-stop test c cs h = ap (λ b. take (cond b (1 + prefix_len test cs) 0) (c ∷ cs)) h

leading_text-goes : (test : ℕ → Bool) (t : List ℕ) → passing test t ≡ true → leading test t ≡ slice_index t 0 ∷ leading test (drop 1 t)
unfolding passing
leading_text-goes test [] h = absurd (true≢false (sym h))
leading_text-goes test (c ∷ cs) h = leading-step test c cs h

leading_text-stops : (test : ℕ → Bool) (t : List ℕ) → passing test t ≡ false → leading test t ≡ []
unfolding passing
leading_text-stops test [] h = refl
leading_text-stops test (c ∷ cs) h = leading-stop test c cs h

-- the characters at a place that pass the test: one and those after it, or none
pub leading-goes : (test : ℕ → Bool) (p : Place) → passes test p ≡ true → leading test p.text ≡ first p ∷ leading test (past p).text
leading-goes test p h = leading_text-goes test p.text (sym (text_passes test p.text) ∙ h)

pub leading-stops : (test : ℕ → Bool) (p : Place) → passes test p ≡ false → leading test p.text ≡ []
leading-stops test p h = leading_text-stops test p.text (sym (text_passes test p.text) ∙ h)

-- digits, so many at most
digits_text-goes : (test : ℕ → Bool) (n : ℕ) (t : List ℕ) → passing test t ≡ true
    → leading test (take (suc n) t) ≡ slice_index t 0 ∷ leading test (take n (drop 1 t))
unfolding passing
digits_text-goes test n [] h = absurd (true≢false (sym h))
digits_text-goes test n (c ∷ cs) h = leading-step test c (take n cs) h

digits_text-stops : (test : ℕ → Bool) (n : ℕ) (t : List ℕ) → passing test t ≡ false → leading test (take n t) ≡ []
unfolding passing
digits_text-stops test zero t h = refl
digits_text-stops test (suc n) [] h = refl
digits_text-stops test (suc n) (c ∷ cs) h = leading-stop test c (take n cs) h

pub digits-go : (radix n m : ℕ) (p : Place) → n ≡ suc m → passes (λ c. is_digit c radix) p ≡ true → digits radix n p ≡ first p ∷ digits radix m (past p)
unfolding digits
digits-go radix n m p e h =
    let test : ℕ → Bool = λ c. is_digit c radix in
    ap (λ (k : ℕ). leading test (take k p.text)) e ∙ digits_text-goes test m p.text (sym (text_passes test p.text) ∙ h)

pub digits-stop : (radix n : ℕ) (p : Place) → passes (λ c. is_digit c radix) p ≡ false → digits radix n p ≡ []
unfolding digits
digits-stop radix n p h =
    let test : ℕ → Bool = λ c. is_digit c radix in digits_text-stops test n p.text (sym (text_passes test p.text) ∙ h)

pub digits-none : (radix : ℕ) (p : Place) → digits radix 0 p ≡ []
unfolding digits
digits-none radix p = refl

-- more than any number that so many digits write
unfoldable pub room : ℕ → ℕ
room zero = 1
room (suc n) = room n * 16

pub room_within : (n : ℕ) → n ≤ 8 → room n ≤ 2 ^ 32
unfolding room
room_within zero le = omega arith
room_within (suc zero) le = omega arith
room_within (suc (suc zero)) le = omega arith
room_within (suc (suc (suc zero))) le = omega arith
room_within (suc (suc (suc (suc zero)))) le = omega arith
room_within (suc (suc (suc (suc (suc zero))))) le = omega arith
room_within (suc (suc (suc (suc (suc (suc zero)))))) le = omega arith
room_within (suc (suc (suc (suc (suc (suc (suc zero))))))) le = omega arith
room_within (suc (suc (suc (suc (suc (suc (suc (suc zero)))))))) le = omega arith
room_within (suc (suc (suc (suc (suc (suc (suc (suc (suc n))))))))) le = absurd (omega arith)

-- a digit more
pub digit_fits : (value radix digit n : ℕ) → value < room n → radix ≤ 16 → digit < radix → value * radix + digit < room (n + 1)
unfolding room
digit_fits value radix digit n lt le d =
    let e : n + 1 ≡ suc n = omega arith in
    let product : value * radix ≤ value * 16 = mul-le-mul_left value le in
    rw e (omega (arith, product))

-- what was read of a name, with one character more
pub push_leading : (test : ℕ → Bool) (p q : Place) (name more : List ℕ) (c : ℕ) → passes test p ≡ true → q ≡ past p → more ≡ name ++ (c ∷ []) → c ≡ first p
    → name ++ leading test p.text ≡ more ++ leading test q.text
push_leading test p q name more c goes next pushed here =
    let rest : leading test p.text ≡ c ∷ leading test q.text =
    leading-goes test p goes ∙ ap (λ d. d ∷ leading test (past p).text) (sym here) ∙ ap (λ (r : Place). c ∷ leading test r.text) (sym next) in
    ap (λ l. name ++ l) rest ∙ sym (append_assoc name (c ∷ []) (leading test q.text)) ∙ ap (λ l. l ++ leading test q.text) (sym pushed)

-- the digit at p, and those from q on
digit-first : (radix n m digit : ℕ) (p q : Place) → n ≡ suc m → passes (λ c. is_digit c radix) p ≡ true → q ≡ past p
    → digits radix n p ≡ first p ∷ digits radix m q
digit-first radix n m digit p q e h next = digits-go radix n m p e h ∙ ap (λ (r : Place). first p ∷ digits radix m r) (sym next)

pub digit-number : (radix n m value digit : ℕ) (p q : Place) → n ≡ suc m → passes (λ c. is_digit c radix) p ≡ true → digit ≡ digit_value (first p) → q ≡ past p
    → digits_value_after radix value (digits radix n p) ≡ digits_value_after radix (value * radix + digit) (digits radix m q)
digit-number radix n m value digit p q e h is next =
    ap (λ ds. digits_value_after radix value ds) (digit-first radix n m digit p q e h next)
    ∙ ap (λ (d : ℕ). digits_value_after radix (value * radix + d) (digits radix m q)) (sym is)

pub digit-many : (radix n m : ℕ) (p q : Place) → n ≡ suc m → passes (λ c. is_digit c radix) p ≡ true → q ≡ past p
    → length (digits radix n p) ≡ suc (length (digits radix m q))
digit-many radix n m p q e h next = ap length (digit-first radix n m 0 p q e h next)
