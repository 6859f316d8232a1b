-- Worked rows: what the tests answer, and expressions of which another match starts earlier.
use Rattle.std.proofs.Common.{◌≡◌, ℕ, zero, suc, ◌<◌, ◌≤◌, ◌⊎◌, [], ◌∷◌, List, length, Some, None, refl, sym, inl, inr, arith, true≢false, subst, ◌∙◌}
use Rattle.std.specs.Prelude.{true, false, codes}
use Rattle.std.specs.Str.{is_utf8, chars}
use Rattle.std.specs.Char.{encode_utf8}
use Rattle.std.proofs.lemmas.Option.{none-some}
use Rattle.rx_model.specs.Text.{Class, stands_at, char_at, member_len, scalar_ranges, byte_ranges}
use Rattle.rx_model.specs.Expression.{Expression, literal, class, repetition, concat, alternation, nil, cons}
use Rattle.rx_model.specs.Meaning.{Means, Pieces}
use Rattle.rx_model.proofs.lemmas.meaning.EmptyLemmas.{means-rises}
use Rattle.rx_model.proofs.lemmas.meaning.CharLemmas.{byte_len-is}
use Rattle.rx_order.proofs.lemmas.Apart.{class-long}
use Rattle.rx_order.specs.Order.{IsMatchStart, IsConfirmedSuffix, SuffixIsNoEarlier}
use Rattle.rx_order.specs.Tests.{can_consume, is_apart, plain_class, separator_class, last_class, are_apart_but_last, first_class, are_apart_but_first, has_last_separator, has_first_separator, cannot_consume_all}

abbrev letters : Expression
letters = class (scalar_ranges ((0x61, 0x63) ∷ []))

abbrev space : Expression
space = class (scalar_ranges ((0x20, 0x20) ∷ []))

abbrev plus : Expression → Expression
plus h = repetition 1 None true h

-- `[a-c]+ +` before `abc`: the last part separates
words_last : has_last_separator (concat (cons (plus letters) (cons (plus space) nil))) (codes "abc" ∷ []) ≡ true
unfolding has_last_separator last_class are_apart_but_last separator_class plain_class is_apart is_utf8 chars encode_utf8
words_last = refl

-- the first part shares members with the literal
words_first : has_first_separator (concat (cons (plus letters) (cons (plus space) nil))) (codes "abc" ∷ []) ≡ false
unfolding has_first_separator first_class are_apart_but_first separator_class plain_class is_apart is_utf8 chars encode_utf8
words_first = refl

-- ` [a-c]{0,3}` before `bc`: the first part separates
space_first : has_first_separator (concat (cons space (cons (repetition 0 (Some 3) true letters) nil))) (codes "bc" ∷ []) ≡ true
unfolding has_first_separator first_class are_apart_but_first separator_class plain_class is_apart is_utf8 chars encode_utf8
space_first = refl

-- .. and the last doesn't
space_last : has_last_separator (concat (cons space (cons (repetition 0 (Some 3) true letters) nil))) (codes "bc" ∷ []) ≡ false
unfolding has_last_separator last_class are_apart_but_last separator_class plain_class is_apart is_utf8 chars encode_utf8
space_last = refl

-- `[a-c]+` before `ax` can't consume the `x`
letters_byte : cannot_consume_all (plus letters) (codes "ax") ≡ true
unfolding can_consume
letters_byte = refl

-- Where the first confirmed candidate at c has the start i, and a match begins before i, some match is earlier.
refute : (h : Expression) (s text : List ℕ) (c i k : ℕ) → SuffixIsNoEarlier h s → IsConfirmedSuffix 10 text 0 (length text) h s c i
    → ((d : ℕ) → d < c → stands_at text d s ≡ false) → IsMatchStart 10 text (length text) h k → k < i → ⊥
refute h s text c i k holds is none m lt =
    let r = (holds 10 text 0 (length text)).some c i is (λ d j below z. true≢false (sym z.candidate.1 ∙ none d below)) in
    let up = r.least k (omega arith) m in
    omega arith

-- any scalar but the line feed
abbrev dots : Class
dots = scalar_ranges ((0, 9) ∷ (11, 0xD7FF) ∷ (0xE000, 0x10FFFF) ∷ [])

-- `.abb|b` on `xabb`: the `b` at 2 is confirmed, with the start 2; a match is 0..4
abbrev dot_or : Expression
dot_or = alternation (cons (concat (cons (class dots) (cons (literal (codes "abb")) nil))) (cons (literal (codes "b")) nil))

dot_or_earlier : SuffixIsNoEarlier dot_or (codes "b") → ⊥
unfolding Means stands_at member_len char_at chars encode_utf8
dot_or_earlier holds =
    refute dot_or (codes "b") (codes "xabb") 2 2 0 holds
    (record {
      candidate = (omega arith, refl, omega arith);
      start = record { inside = omega arith; has = inr (inl (refl, refl)); least = λ k low m. starts k m };
    })
    before (4, omega arith, inl (1, (1, refl, refl), (4, (refl, refl), refl))) (omega arith)
  where
    starts : (k : ℕ) → Means 10 (codes "xabb") dot_or k 3 → 2 ≤ k
    starts k m = elim m [
      | inl long ↦ let e =
          long.2.1.1 in let f = long.2.2 in let g = long.1.2 in let some = class-long (codes "xabb") dots k long.1.0 long.1.1 in absurd (omega arith)
      | inr more ↦ elim more [ inl b ↦ let e = b.1 in omega arith | inr none ↦ absurd none ]
    ]

    before : (d : ℕ) → d < 2 → stands_at (codes "xabb") d (codes "b") ≡ false
    before zero lt = refl
    before (suc zero) lt = refl
    before (suc (suc d)) lt = absurd (omega arith)

-- `a(?:zaby)?b` on `azabyb`: the class `a` stands first, but another part has an `a`. The `b` at 3 is confirmed, with
-- the start 2; a match is 0..6.
abbrev unchecked : Expression
unchecked =
    concat (cons (class (byte_ranges ((0x61, 0x61) ∷ []))) (cons (repetition 0 (Some 1) true (literal (codes "zaby"))) (cons (literal (codes "b")) nil)))

unchecked_earlier : SuffixIsNoEarlier unchecked (codes "b") → ⊥
unfolding Means stands_at member_len
unchecked_earlier holds =
    refute unchecked (codes "b") (codes "azabyb") 3 2 0 holds
    (record {
      candidate = (omega arith, refl, omega arith);
      start = record {
        inside = omega arith;
        has = (3, (1, refl, refl), (3, (0, (omega arith, omega arith), refl), (4, (refl, refl), refl)));
        least = λ k low m. starts k m;
      };
    })
    before (6, omega arith, (1, (1, refl, refl), (5, (1, (omega arith, omega arith), (5, (refl, refl), refl)), (6, (refl, refl), refl)))) (omega arith)
  where
    starts : (k : ℕ) → Means 10 (codes "azabyb") unchecked k 4 → 2 ≤ k
    starts k m =
        let one = (byte_len-is (codes "azabyb") ((0x61, 0x61) ∷ []) k m.1.0 m.1.1).0 in
        let first = m.1.2 in
        let last = m.2.2.1.1 in
        let end = m.2.2.2 in
        copies m.2.1.0 m.0 m.2.0 m.2.1.1.1 m.2.1.2 (omega arith, omega arith)
      where
        copies : (count i j : ℕ) → count ≤ 1 → Pieces (Means 10 (codes "azabyb") (literal (codes "zaby"))) count i j → (i ≡ suc k) × (j ≡ 3) → 2 ≤ k
        copies zero i j le e at = let x = at.0 in let y = at.1 in omega arith
        copies (suc zero) i j le h at = let x = at.0 in let y = at.1 in let z = h.1.1 in let w = h.2 in absurd (omega arith)
        copies (suc (suc count)) i j le h at = absurd (omega arith)

    before : (d : ℕ) → d < 3 → stands_at (codes "azabyb") d (codes "b") ≡ false
    before zero lt = refl
    before (suc zero) lt = refl
    before (suc (suc zero)) lt = refl
    before (suc (suc (suc d))) lt = absurd (omega arith)

-- `(?:xby)?s*b` on `xbyb`: the class `s` is apart from all else, but may be left out. The `b` at 1 is confirmed, with
-- the start 1; a match is 0..4.
abbrev xby : Expression
xby = literal (codes "xby")

abbrev only_s : Expression
only_s = class (byte_ranges ((0x73, 0x73) ∷ []))

abbrev left_out : Expression
left_out = concat (cons (repetition 0 (Some 1) true xby) (cons (repetition 0 None true only_s) (cons (literal (codes "b")) nil)))

left_out_earlier : SuffixIsNoEarlier left_out (codes "b") → ⊥
unfolding Means stands_at member_len
left_out_earlier holds =
    refute left_out (codes "b") (codes "xbyb") 1 1 0 holds
    (record {
      candidate = (omega arith, refl, omega arith);
      start = record {
        inside = omega arith;
        has = (1, (0, (omega arith, omega arith), refl), (1, (0, (omega arith, tt), refl), (2, (refl, refl), refl)));
        least = λ k low m. starts k m;
      };
    })
    before (
      4,
      omega arith,
      (
        3,
        (1, (omega arith, omega arith), (3, (refl, refl), refl)),
        (3, (0, (omega arith, tt), refl), (4, (refl, refl), refl)),
      ),
    ) (omega arith)
  where
    before : (d : ℕ) → d < 1 → stands_at (codes "xbyb") d (codes "b") ≡ false
    before zero lt = refl
    before (suc d) lt = absurd (omega arith)

    copies : (n j : ℕ) → n ≤ 1 → Pieces (Means 10 (codes "xbyb") xby) n 0 j → (0 ≡ j) ⊎ (3 ≡ j)
    copies zero j le h = inl h
    copies (suc zero) j le h = inr (let x = h.1.1 in let y = h.2 in omega arith)
    copies (suc (suc n)) j le h = absurd (omega arith)

    none : (n i j : ℕ) → 0 ≡ i → j ≡ 1 → Pieces (Means 10 (codes "xbyb") only_s) n i j → ⊥
    none zero i j at ends h = omega arith
    none (suc n) i j at ends h = none-some h.1.0 (subst (λ d. member_len (codes "xbyb") (byte_ranges ((0x73, 0x73) ∷ [])) d ≡ Some h.1.0) (sym at) h.1.1)

    starts : (k : ℕ) → Means 10 (codes "xbyb") left_out k 2 → 1 ≤ k
    starts zero m =
        let ends : m.2.0 ≡ 1 = (let x = m.2.2.1.1 in let y = m.2.2.2 in omega arith) in
        let up = means-rises 10 (codes "xbyb") (repetition 0 None true only_s) m.0 m.2.0 m.2.1 in
        elim (copies m.1.0 m.0 m.1.1.1 m.1.2) [
          | inl at ↦ absurd (none m.2.1.0 m.0 m.2.0 at ends m.2.1.2)
          | inr at ↦ absurd (omega arith)
        ]
    starts (suc k) m = omega arith

-- `(?:z[\xC3][\xA9]b)?éb`, with classes of bytes before one of scalars, on `zébéb`: no number stands in two of the classes.
-- The `b` at 3 is confirmed, with the start 1; a match is 0..7.
abbrev accent : List (ℕ × ℕ)
accent = (0xE9, 0xE9) ∷ []

abbrev zeb : Expression
zeb = concat (cons (literal (codes "z")) (cons (class (byte_ranges ((0xC3, 0xC3) ∷ [])))
    (cons (class (byte_ranges ((0xA9, 0xA9) ∷ []))) (cons (literal (codes "b")) nil))))

abbrev mixed : Expression
mixed = concat (cons (repetition 0 (Some 1) true zeb) (cons (class (scalar_ranges accent)) (cons (literal (codes "b")) nil)))

abbrev accents : List ℕ
accents = 0x7A ∷ 0xC3 ∷ 0xA9 ∷ 0x62 ∷ 0xC3 ∷ 0xA9 ∷ 0x62 ∷ []

mixed_earlier : SuffixIsNoEarlier mixed (codes "b") → ⊥
unfolding Means stands_at member_len char_at chars encode_utf8
mixed_earlier holds =
    refute mixed (codes "b") accents 3 1 0 holds
    (record {
      candidate = (omega arith, refl, omega arith);
      start = record {
        inside = omega arith;
        has = (1, (0, (omega arith, omega arith), refl), (3, (2, refl, refl), (4, (refl, refl), refl)));
        least = λ k low m. starts k m;
      };
    })
    before (
      7,
      omega arith,
      (
        4,
        (1, (omega arith, omega arith), (4, (1, (refl, refl), (2, (1, refl, refl), (3, (1, refl, refl), (4, (refl, refl), refl)))), refl)),
        (6, (2, refl, refl), (7, (refl, refl), refl)),
      ),
    ) (omega arith)
  where
    before : (d : ℕ) → d < 3 → stands_at accents d (codes "b") ≡ false
    before zero lt = refl
    before (suc zero) lt = refl
    before (suc (suc zero)) lt = refl
    before (suc (suc (suc d))) lt = absurd (omega arith)

    copies : (n j : ℕ) → n ≤ 1 → Pieces (Means 10 accents zeb) n 0 j → (0 ≡ j) ⊎ (4 ≤ j)
    copies zero j le h = inl h
    copies (suc zero) j le h = inr (let c3 = byte_len-is accents ((0xC3, 0xC3) ∷ []) h.1.0 h.1.2.1.0 h.1.2.1.1 in
        let a9 = byte_len-is accents ((0xA9, 0xA9) ∷ []) h.1.2.0 h.1.2.2.1.0 h.1.2.2.1.1 in
        let w = h.1.1.1 in let x = c3.0 in let y = a9.0 in let u = h.1.2.1.2 in let v = h.1.2.2.1.2 in let z = h.1.2.2.2.1.1 in let q = h.1.2.2.2.2 in
        let e = h.2 in omega arith)
    copies (suc (suc n)) j le h = absurd (omega arith)

    starts : (k : ℕ) → Means 10 accents mixed k 4 → 1 ≤ k
    starts zero m =
        let ends : m.2.0 ≡ 3 = (let x = m.2.2.1.1 in let y = m.2.2.2 in omega arith) in
        let up = means-rises 10 accents (class (scalar_ranges accent)) m.0 m.2.0 m.2.1 in
        elim (copies m.1.0 m.0 m.1.1.1 m.1.2) [
          | inl at ↦ absurd (none-some m.2.1.0 (subst (λ d. member_len accents (scalar_ranges accent) d ≡ Some m.2.1.0) (sym at) m.2.1.1))
          | inr at ↦ absurd (omega arith)
        ]
    starts (suc k) m = omega arith
