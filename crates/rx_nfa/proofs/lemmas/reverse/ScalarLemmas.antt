-- A scalar whose encoding is read backwards.
use Rattle.std.proofs.Common.{◌≡◌, ℕ, suc, ◌+◌, ◌-◌, ◌/◌, ◌%◌, ◌≤◌, ◌<◌, List, refl, sym, ◌∙◌, ap, inl, inr, ⊎_elim, arith, length}
use Rattle.std.specs.Prelude.{Some, slice_index}
use Rattle.std.specs.Char.{InScalarRange, len_utf8}
use Rattle.rx_model.specs.Text.{char_at}
use Rattle.rx_nfa.specs.Automaton.{byte_of}
use Rattle.rx_nfa.proofs.lemmas.classes.Utf8Lemmas.{char_at_cases, char_at_one, char_at_two, char_at_three, char_at_four, len_is, most-scalar}

module _ (text : List ℕ) (end : ℕ) (fits : end ≤ length text) where
  abbrev byte : ℕ → ℕ
  byte d = byte_of text (length text - suc d)

  -- a byte at a distance from the end stands at this place
  stands : (d k v : ℕ) → length text - suc d ≡ k → byte d ≡ v → slice_index text k ≡ v
  stands d k v at is = ap (slice_index text) (sym at) ∙ is

  lies : (d k v : ℕ) → length text - suc d ≡ k → slice_index text k ≡ v → byte d ≡ v
  lies d k v at is = ap (slice_index text) at ∙ is

  -- a byte is read, and the digits of a number, the last one first
  abbrev pub ReadsByte : (v : ℕ) → ℕ → ℕ → Type 0
  ReadsByte v i j = (i < end) × (byte i ≡ v) × (i + 1 ≡ j)

  abbrev pub ReadsTwo : (lead c : ℕ) → ℕ → ℕ → Type 0
  ReadsTwo lead c i j = (k : ℕ) × ReadsByte (0x80 + c % 64) i k × ReadsByte (lead + c / 64) k j

  abbrev pub ReadsThree : (lead c : ℕ) → ℕ → ℕ → Type 0
  ReadsThree lead c i j = (k : ℕ) × ReadsByte (0x80 + c % 64) i k × ReadsTwo lead (c / 64) k j

  abbrev pub ReadsFour : (lead c : ℕ) → ℕ → ℕ → Type 0
  ReadsFour lead c i j = (k : ℕ) × ReadsByte (0x80 + c % 64) i k × ReadsThree lead (c / 64) k j

  -- the character that ends at the distance i from the end, and begins at the distance j
  pub record Stands (c i j : ℕ) : Type 0 where
    pub is : char_at text (length text - j) ≡ Some c
    pub long : length text - j + len_utf8 c ≡ length text - i

  pub one-stands : (c i j : ℕ) → c ≤ 0x7F → ReadsByte (0 + c) i j → Stands c i j
  one-stands c i j small h =
      let lt = h.0 in
      let e = h.2 in
      let len = len_is c 1 (inl (omega arith, refl)) in
      record {
        is = char_at_one text (length text - j) c (
          omega arith,
          omega arith,
          stands i (length text - j) c (omega arith) (let plain : 0 + c ≡ c = omega arith in h.1 ∙ plain),
        );
        long = omega arith;
      }

  pub two-stands : (c i j : ℕ) → 0x80 ≤ c → c ≤ 0x7FF → ReadsTwo 0xC0 c i j → Stands c i j
  two-stands c i j low high h =
      let lt = h.2.0 in
      let e = h.1.2 in
      let e' = h.2.2 in
      let len = len_is c 2 (inr (inl (omega arith, omega arith, refl))) in
      record {
        is = char_at_two text (length text - j) c (
          omega arith,
          omega arith,
          omega arith,
          stands h.0 (length text - j) (192 + c / 64) (omega arith) h.2.1,
          stands i (length text - j + 1) (128 + c % 64) (omega arith) h.1.1,
        );
        long = omega arith;
      }

  pub three-stands : (c i j : ℕ) → 0x800 ≤ c → c ≤ 0xFFFF → InScalarRange c → ReadsThree 0xE0 c i j → Stands c i j
  three-stands c i j low high scalar h =
      let lt = h.2.2.0 in
      let e = h.1.2 in
      let e' = h.2.1.2 in
      let e'' = h.2.2.2 in
      let first : 0xE0 + c / 64 / 64 ≡ 224 + c / 4096 = omega arith in
      let len = len_is c 3 (inr (inr (inl (omega arith, omega arith, refl)))) in
      record {
        is = char_at_three text (length text - j) c scalar (
          omega arith,
          omega arith,
          omega arith,
          stands h.2.0 (length text - j) (224 + c / 4096) (omega arith) (h.2.2.1 ∙ first),
          stands h.0 (length text - j + 1) (128 + (c / 64) % 64) (omega arith) h.2.1.1,
          stands i (length text - j + 2) (128 + c % 64) (omega arith) h.1.1,
        );
        long = omega arith;
      }

  pub four-stands : (c i j : ℕ) → 0x1_0000 ≤ c → c ≤ 0x10_FFFF → ReadsFour 0xF0 c i j → Stands c i j
  four-stands c i j low high h =
      let lt = h.2.2.2.0 in
      let e = h.1.2 in
      let e' = h.2.1.2 in
      let e'' = h.2.2.1.2 in
      let last = h.2.2.2.2 in
      let first : 0xF0 + c / 64 / 64 / 64 ≡ 240 + c / 262144 = omega arith in
      let second : 0x80 + c / 64 / 64 % 64 ≡ 128 + (c / 4096) % 64 = omega arith in
      let len = len_is c 4 (inr (inr (inr (omega arith, refl)))) in
      record {
        is = char_at_four text (length text - j) c high (
          omega arith,
          omega arith,
          stands h.2.2.0 (length text - j) (240 + c / 262144) (omega arith) (h.2.2.2.1 ∙ first),
          stands h.2.0 (length text - j + 1) (128 + (c / 4096) % 64) (omega arith) (h.2.2.1.1 ∙ second),
          stands h.0 (length text - j + 2) (128 + (c / 64) % 64) (omega arith) h.2.1.1,
          stands i (length text - j + 3) (128 + c % 64) (omega arith) h.1.1,
        );
        long = omega arith;
      }

  -- A character by its bytes.
  pub data Read (c i j : ℕ) : Type 0 where
    one : c ≤ 0x7F → ReadsByte (0 + c) i j → Read c i j
    two : 0x80 ≤ c → c ≤ 0x7FF → ReadsTwo 0xC0 c i j → Read c i j
    three : 0x800 ≤ c → c ≤ 0xFFFF → InScalarRange c → ReadsThree 0xE0 c i j → Read c i j
    four : 0x1_0000 ≤ c → c ≤ 0x10_FFFF → ReadsFour 0xF0 c i j → Read c i j

  pub stands-read : (c i j : ℕ) → i ≤ j → j ≤ end → Stands c i j → Read c i j
  stands-read c i j le fits' s =
      let found = char_at_cases text (length text - j) c s.is in
      let long = s.long in
      ⊎_elim
      (λ h.
      let small = h.0 in
      let lt = h.1 in
      let len = len_is c 1 (inl (h.0, refl)) in
      one (omega arith) (omega arith, lies i (length text - j) (0 + c) (omega arith) (let plain : c ≡ 0 + c = omega arith in h.2 ∙ plain), omega arith))
      (λ more.
      ⊎_elim
      (λ h.
      let low = h.0 in
      let high = h.1 in
      let lt = h.2 in
      let len = len_is c 2 (inr (inl (h.0, h.1, refl))) in
      two h.0 (omega arith) (
        i + 1,
        (omega arith, lies i (length text - j + 1) (128 + c % 64) (omega arith) h.4, refl),
        (omega arith, lies (i + 1) (length text - j) (192 + c / 64) (omega arith) h.3, omega arith),
      ))
      (λ more'.
      ⊎_elim
      (λ h.
      let low = h.0 in
      let high = h.1 in
      let lt = h.2 in
      let first : 224 + c / 4096 ≡ 0xE0 + c / 64 / 64 = omega arith in
      let len = len_is c 3 (inr (inr (inl (h.0, h.1, refl)))) in
      three h.0 (omega arith) found.0 (
        i + 1,
        (omega arith, lies i (length text - j + 2) (128 + c % 64) (omega arith) h.5, refl),
        (
          i + 1 + 1,
          (omega arith, lies (i + 1) (length text - j + 1) (128 + (c / 64) % 64) (omega arith) h.4, refl),
          (omega arith, lies (i + 1 + 1) (length text - j) (0xE0 + c / 64 / 64) (omega arith) (h.3 ∙ first), omega arith),
        ),
      ))
      (λ h.
      let low = h.0 in
      let lt = h.1 in
      let first : 240 + c / 262144 ≡ 0xF0 + c / 64 / 64 / 64 = omega arith in
      let second : 128 + (c / 4096) % 64 ≡ 0x80 + c / 64 / 64 % 64 = omega arith in
      let len = len_is c 4 (inr (inr (inr (h.0, refl)))) in
      four h.0 (most-scalar c found.0) (
        i + 1,
        (omega arith, lies i (length text - j + 3) (128 + c % 64) (omega arith) h.5, refl),
        (
          i + 1 + 1,
          (omega arith, lies (i + 1) (length text - j + 2) (128 + (c / 64) % 64) (omega arith) h.4, refl),
          (
            i + 1 + 1 + 1,
            (omega arith, lies (i + 1 + 1) (length text - j + 1) (0x80 + c / 64 / 64 % 64) (omega arith) (h.3 ∙ second), refl),
            (omega arith, lies (i + 1 + 1 + 1) (length text - j) (0xF0 + c / 64 / 64 / 64) (omega arith) (h.2 ∙ first), omega arith),
          ),
        ),
      ))
      more')
      more)
      found.1
