-- A class's block reads the encodings of the members, and nothing else.
use Rattle.std.proofs.Common.{◌≡◌, ℕ, zero, suc, ◌+◌, ◌-◌, ◌*◌, ◌/◌, ◌≤◌, ◌<◌, ◌⊎◌, Bool, true, false, List, [], ◌∷◌, length, Option, Some, None, slice_index, refl, sym, ◌∙◌, ap, inl, inr, ⊎_elim, arith, true≢false, mul-le-mul_right}
use Rattle.std.specs.Prelude.{◌&&◌, if◌then◌else◌, nat_lt, nat_le, option_map, option_and_then}
use Rattle.std.proofs.lemmas.Bool.{cases_lt}
use Rattle.std.proofs.lemmas.Bool.Decides.{nat_tests}
use Rattle.std.proofs.lemmas.Option.{none-some, same_Some}
use Rattle.std.proofs.lemmas.Str.{len_utf8_bounds}
use Rattle.rx_model.specs.Text.{is_member, char_at, scalar_ranges, byte_ranges, member_len}
use Rattle.rx_model.specs.Runs.{PriorityGraph, Passed, and_at, IsBounded, NeverFalls, Trace, with_write, found, first_some}
use Rattle.rx_model.proofs.lemmas.runs.RunLemmas.{by_test}
use Rattle.rx_model.proofs.lemmas.runs.FoundLemmas.{found-step, found-forget}
use Rattle.rx_model.proofs.lemmas.meaning.CharLemmas.{member_len-some, member_len-none, byte_len-within, byte_len-past, by_option}
use Rattle.rx_model.proofs.lemmas.runs.WriteLemmas.{write-nothing-alone}
use Rattle.std.specs.Char.{InScalarRange, len_utf8}
use Rattle.rx_nfa.specs.Ranges.{size_of_block, clip, StaysBelow}
use Rattle.rx_nfa.specs.Automaton.{at, route, go_on, byte_of}
use Rattle.rx_nfa.specs.Trie.{IsBlock, IsClass, IsByteClass}
use Rattle.rx_nfa.specs.Reading.{ReadsByte, IsClean, found_after, ReadsClass}
use Rattle.rx_nfa.specs.declared.state.Transition.{Transition}
use Rattle.rx_nfa.proofs.lemmas.classes.ClassLemmas.{member-clip}
use Rattle.rx_nfa.proofs.lemmas.classes.Utf8Lemmas.{IsOneByteAt, IsTwoBytesAt, IsThreeBytesAt, IsFourBytesAt, char_at_cases, char_at_one, char_at_two, char_at_three, char_at_four, len_is, most-scalar}
use Rattle.rx_nfa.proofs.lemmas.runs.StateLemmas.{and_at-later}

module _ (byte : ℕ → ℕ) (end : ℕ) where
  -- the six bits of a continuation byte at i
  continuation : ℕ → Option ℕ
  continuation i =
      let b = byte i in
      if nat_lt i end && nat_le 0x80 b && nat_lt b 0xC0 then Some (b - 0x80) else None

  -- the number that `depth` continuation bytes at i pick
  picked : (depth start i : ℕ) → Option ℕ
  picked zero start i = Some start
  picked (suc depth) start i = option_and_then (λ bits. picked depth (start + bits * size_of_block depth) (i + 1)) (continuation i)

  continuation-is : (i : ℕ) → i < end → 0x80 ≤ byte i → byte i < 0xC0 → continuation i ≡ Some (byte i - 0x80)
  unfolding continuation
  continuation-is i lt low high =
      let x : (nat_lt i end && nat_le 0x80 (byte i) && nat_lt (byte i) 0xC0) ≡ true = grind (arith, nat_tests) in
      rw x refl

  continuation-none : (i : ℕ) → (end ≤ i) ⊎ ((byte i < 0x80) ⊎ (0xC0 ≤ byte i)) → continuation i ≡ None
  unfolding continuation
  continuation-none i out =
      let x : (nat_lt i end && nat_le 0x80 (byte i) && nat_lt (byte i) 0xC0) ≡ false = fails out in
      rw x refl
    where
      fails : (end ≤ i) ⊎ ((byte i < 0x80) ⊎ (0xC0 ≤ byte i)) → (nat_lt i end && nat_le 0x80 (byte i) && nat_lt (byte i) 0xC0) ≡ false
      fails (inl h) = grind (arith, nat_tests)
      fails (inr (inl h)) = grind (arith, nat_tests)
      fails (inr (inr h)) = grind (arith, nat_tests)

  -- a continuation byte stands at i, or none
  continuation_cases : {P : Type 0} (i : ℕ) → (i < end → 0x80 ≤ byte i → byte i < 0xC0 → P)
      → ((end ≤ i) ⊎ ((byte i < 0x80) ⊎ (0xC0 ≤ byte i)) → P) → P
  continuation_cases i is isnt =
      by_test (nat_lt i end)
      (λ a. by_test (nat_le 0x80 (byte i))
      (λ b. by_test (nat_lt (byte i) 0xC0)
      (λ c. is (grind (arith, nat_tests)) (grind (arith, nat_tests)) (grind (arith, nat_tests)))
      (λ c. isnt (inr (inr (grind (arith, nat_tests))))))
      (λ b. isnt (inr (inl (grind (arith, nat_tests))))))
      (λ a. isnt (inl (grind (arith, nat_tests))))

  -- one byte more
  picked-step : (depth start i : ℕ) → i < end → 0x80 ≤ byte i → byte i < 0xC0
      → picked (suc depth) start i ≡ picked depth (start + (byte i - 0x80) * size_of_block depth) (i + 1)
  unfolding picked
  picked-step depth start i lt low high = rw (continuation-is i lt low high) refl

  picked-none : (depth start i : ℕ) → (end ≤ i) ⊎ ((byte i < 0x80) ⊎ (0xC0 ≤ byte i)) → picked (suc depth) start i ≡ None
  unfolding picked
  picked-none depth start i out = rw (continuation-none i out) refl

  picked-zero : (start i : ℕ) → picked 0 start i ≡ Some start
  unfolding picked
  picked-zero start i = refl

  -- what was picked comes from a continuation byte
  picked-parts : (depth start i c : ℕ) → picked (suc depth) start i ≡ Some c
      → (i < end) × (0x80 ≤ byte i) × (byte i < 0xC0) × (picked depth (start + (byte i - 0x80) * size_of_block depth) (i + 1) ≡ Some c)
  picked-parts depth start i c e =
      continuation_cases i
      (λ lt low high. (lt, low, high, sym (picked-step depth start i lt low high) ∙ e))
      (λ out. absurd (none-some c (sym (picked-none depth start i out) ∙ e)))

  picked-within : (depth start i c : ℕ) → picked depth start i ≡ Some c → (start ≤ c) × (c < start + size_of_block depth)
  unfolding size_of_block
  picked-within zero start i c e = let is = same_Some _ _ (sym (picked-zero start i) ∙ e) in (omega arith, omega arith)
  picked-within (suc depth) start i c e =
      let parts = picked-parts depth start i c e in
      let low = parts.1 in
      let high = parts.2 in
      let later = picked-within depth (start + (byte i - 0x80) * size_of_block depth) (i + 1) c parts.3 in
      let a = later.0 in
      let b = later.1 in
      let most = mul-le-mul_right (size_of_block depth) (let m : byte i - 0x80 ≤ 63 = omega arith in m) in
      (omega arith, omega arith)

  module _ (m : PriorityGraph) (bounded : IsBounded m) (rises : NeverFalls m) (next : ℕ) where
    -- what is found from a target, if there is one
    found_target : Passed → Option ℕ → ℕ → Option Trace
    found_target p None i = None
    found_target p (Some q) i = found m p (at q i)

    -- what is found from `next` at the place, if a number was picked that passes
    outcome : Passed → (ℕ → Bool) → ℕ → Option ℕ → Option Trace
    outcome p member place None = None
    outcome p member place (Some c) = if member c then found m p (at next place) else None

    -- a state that reads a byte
    reader-found : (p : Passed) (q i : ℕ) (ts : List Transition) → ReadsByte m byte end q ts → p (at q i) ≡ false
        → found m p (at q i) ≡ (if nat_lt i end then found_target p (route ts (byte i)) (i + 1) else None)
    unfolding found_target
    reader-found p q i ts r new =
        found-step m p bounded (at q i) new (r.accepted i)
        ∙ (λ j. option_map (with_write (r.written i j) i) (first_some (found m (and_at (at q i) p)) (r.successors i j)))
        ∙ by_test (nat_lt i end)
        (λ e. rw e (targets (route ts (byte i))))
        (λ e. rw e refl)
      where
        targets : (o : Option ℕ) → option_map (with_write None i) (first_some (found m (and_at (at q i) p)) (go_on o (i + 1))) ≡ found_target p o (i + 1)
        targets None = refl
        targets (Some t) = write-nothing-alone i (found m (and_at (at q i) p) (at t (i + 1)))
            ∙ found-forget m rises (and_at (at q i) p) p (at t (i + 1)) (λ d later. and_at-later q i p d later)

    no_member : (p : Passed) (member : ℕ → Bool) (place depth start i : ℕ) → ((c : ℕ) → start ≤ c → c < start + size_of_block depth → member c ≡ false)
        → outcome p member place (picked depth start i) ≡ None
    unfolding outcome
    no_member p member place depth start i none =
        by_option (picked depth start i)
        (λ e. rw e refl)
        (λ c e. let within = picked-within depth start i c e in let fails = none c within.0 within.1 in rw (e, fails) refl)

    -- a block finds what is found from `next` after the number that the bytes pick, if that is a member
    block-found : (p : Passed) (member : ℕ → Bool) (depth start i : ℕ) (target : Option ℕ) → IsBlock (ReadsByte m byte end) next member depth start target
        → IsClean p i
        → found_target p target i ≡ outcome p member (i + depth) (picked depth start i)
    unfolding IsBlock found_target outcome size_of_block
    block-found p member zero start i target block clean = ap (λ o. found_target p o i) block ∙ rw (picked-zero start i) (chosen (member start))
      where
        chosen : (b : Bool) → found_target p (if b then Some next else None) i ≡ (if b then found m p (at next (i + 0)) else None)
        chosen true = let e : i ≡ i + 0 = omega arith in ap (λ n. found m p (at next n)) e
        chosen false = refl
    block-found p member (suc depth) start i None block clean = sym (no_member p member (i + suc depth) (suc depth) start i block)
    block-found p member (suc depth) start i (Some q) block clean =
        reader-found p q i block.0 block.1 (clean (at q i) (omega arith))
        ∙ continuation_cases i
        (λ lt low high.
        let inside : nat_lt i end ≡ true = grind (arith, nat_tests) in
        let k = byte i - 0x80 in
        let is : 0x80 + k ≡ byte i = omega arith in
        let place : i + 1 + depth ≡ i + suc depth = omega arith in
        rw inside (ap (λ b. found_target p (route block.0 b) (i + 1)) (sym is)
        ∙ block-found p member depth (start + k * size_of_block depth) (i + 1) (route block.0 (0x80 + k)) (block.3 k (omega arith))
        (λ d le. clean d (omega arith))
        ∙ ap (λ n. outcome p member n (picked depth (start + k * size_of_block depth) (i + 1))) place
        ∙ ap (outcome p member (i + suc depth)) (sym (picked-step depth start i lt low high))))
        (λ out. dead block.0 block.2 out ∙ ap (outcome p member (i + suc depth)) (sym (picked-none depth start i out)))
      where
        dead : (ts : List Transition) → ((b : ℕ) → (b < 0x80) ⊎ (0xC0 ≤ b) → route ts b ≡ None) → (end ≤ i) ⊎ ((byte i < 0x80) ⊎ (0xC0 ≤ byte i))
            → (if nat_lt i end then found_target p (route ts (byte i)) (i + 1) else None) ≡ None
        dead ts none (inl past) = let e : nat_lt i end ≡ false = grind (arith, nat_tests) in rw e refl
        dead ts none (inr out) = by_test (nat_lt i end) (λ e. rw e (ap (λ o. found_target p o (i + 1)) (none (byte i) out))) (λ e. rw e refl)

  -- as above, with the places as they come
  step-to : (depth start i j next c : ℕ) → j ≡ i + 1 → i < end → 0x80 ≤ byte i → byte i < 0xC0
      → next ≡ start + (byte i - 0x80) * size_of_block depth → picked depth next j ≡ Some c → picked (suc depth) start i ≡ Some c
  step-to depth start i j next c place lt low high value later =
      picked-step depth start i lt low high
      ∙ ap (λ s. picked depth s (i + 1)) (sym value) ∙ ap (λ n. picked depth next n) (sym place) ∙ later

  parts-to : (depth start i j c : ℕ) → j ≡ i + 1 → picked (suc depth) start i ≡ Some c
      → (i < end) × (0x80 ≤ byte i) × (byte i < 0xC0) × (picked depth (start + (byte i - 0x80) * size_of_block depth) j ≡ Some c)
  parts-to depth start i j c place e =
      let parts = picked-parts depth start i c e in
      (parts.0, parts.1, parts.2, ap (λ n. picked depth (start + (byte i - 0x80) * size_of_block depth) n) place ∙ parts.3)

  zero-to : (start i c : ℕ) → start ≡ c → picked 0 start i ≡ Some c
  zero-to start i c e = picked-zero start i ∙ ap Some e

  zero-from : (start i c : ℕ) → picked 0 start i ≡ Some c → start ≡ c
  zero-from start i c e = same_Some _ _ (sym (picked-zero start i) ∙ e)

clip-same : (low high : ℕ) (rs : List (ℕ × ℕ)) (c : ℕ) → low ≤ high → low ≤ c → c ≤ high → is_member (clip low high rs) c ≡ is_member rs c
clip-same low high rs c ordered above below = member-clip low high ordered rs c ∙ whole (is_member rs c)
  where
    whole : (b : Bool) → (b && nat_le low c && nat_le c high) ≡ b
    whole true = grind (arith, nat_tests)
    whole false = refl

clip-bounds : (low high : ℕ) (rs : List (ℕ × ℕ)) (c : ℕ) → low ≤ high → is_member (clip low high rs) c ≡ true → (low ≤ c) × (c ≤ high)
clip-bounds low high rs c ordered e = within (is_member rs c) (sym (member-clip low high ordered rs c) ∙ e)
  where
    within : (b : Bool) → (b && nat_le low c && nat_le c high) ≡ true → (low ≤ c) × (c ≤ high)
    within true h = (grind (arith, nat_tests), grind (arith, nat_tests))
    within false h = absurd (true≢false (sym h))

module _ (text : List ℕ) (end : ℕ) (inside : end ≤ length text) (m : PriorityGraph) (bounded : IsBounded m) (rises : NeverFalls m) (next : ℕ)
    (rs : List (ℕ × ℕ)) where
  -- A number is picked and tested. Each character is picked, and passes where it is a member; what passes is the character.
  same_outcome : (p : Passed) (i place : ℕ) (member : ℕ → Bool) (pick : Option ℕ)
      → ((c : ℕ) → char_at text i ≡ Some c → i + len_utf8 c ≤ end → (pick ≡ Some c) × (member c ≡ is_member rs c) × (place ≡ i + len_utf8 c))
      → ((c : ℕ) → pick ≡ Some c → member c ≡ true → (char_at text i ≡ Some c) × (i + len_utf8 c ≤ end))
      → outcome (byte_of text) end m bounded rises next p member place pick ≡ found_after m p end next i (member_len text (scalar_ranges rs) i)
  unfolding outcome
  same_outcome p i place member pick complete sound =
      by_option (char_at text i)
      (λ none. dead (λ c e passes. none-some c (sym none ∙ (sound c e passes).0)) ∙ sym (ap (found_after m p end next i) (member_len-none text rs i none)))
      (λ c some. ap (λ o. o) (by_test (nat_le (i + len_utf8 c) end)
      (λ fits.
      let h = complete c some (grind (arith, nat_tests)) in
      ap (outcome (byte_of text) end m bounded rises next p member place) h.0
      ∙ (λ j. if h.1 j then found m p (at next (h.2 j)) else None)
      ∙ sym (ap (found_after m p end next i) (member_len-some text rs i c some) ∙ lands c fits (is_member rs c)))
      (λ short.
      dead (λ c' e passes.
      let h = sound c' e passes in
      let same : c ≡ c' = same_Some _ _ (sym some ∙ h.0) in
      let fits = h.1 in
      let long : end < i + len_utf8 c = grind (arith, nat_tests) in
      let length_is : len_utf8 c ≡ len_utf8 c' = ap len_utf8 same in
      omega arith)
      ∙ sym (ap (found_after m p end next i) (member_len-some text rs i c some) ∙ misses c short (is_member rs c)))))
    where
      dead : ((c : ℕ) → pick ≡ Some c → member c ≡ true → ⊥) → outcome (byte_of text) end m bounded rises next p member place pick ≡ None
      dead none =
          by_option pick
          (λ e. rw e refl)
          (λ c e. by_test (member c) (λ passes. absurd (none c e passes)) (λ fails. rw (e, fails) refl))

      lands : (c : ℕ) → nat_le (i + len_utf8 c) end ≡ true → (b : Bool)
          → found_after m p end next i (if b then Some (len_utf8 c) else None) ≡ (if b then found m p (at next (i + len_utf8 c)) else None)
      lands c fits true = rw fits refl
      lands c fits false = refl

      misses : (c : ℕ) → nat_le (i + len_utf8 c) end ≡ false → (b : Bool) → found_after m p end next i (if b then Some (len_utf8 c) else None) ≡ None
      misses c short true = rw short refl
      misses c short false = refl

  -- the character that stands at i, by its first byte
  module _ (i c : ℕ) (found_c : char_at text i ≡ Some c) where
    one_byte : slice_index text i < 0x80 → IsOneByteAt text i c
    one_byte lead = ⊎_elim (λ h. h) (⊎_elim (λ h. absurd (omega arith)) (⊎_elim (λ h. absurd (omega arith)) (λ h. absurd (omega arith))))
        (char_at_cases text i c found_c).1

    two_bytes : 0x80 ≤ slice_index text i → slice_index text i < 0xE0 → IsTwoBytesAt text i c
    two_bytes low high = ⊎_elim (λ h. absurd (omega arith)) (⊎_elim (λ h. h) (⊎_elim (λ h. absurd (omega arith)) (λ h. absurd (omega arith))))
        (char_at_cases text i c found_c).1

    three_bytes : 0xE0 ≤ slice_index text i → slice_index text i < 0xF0 → IsThreeBytesAt text i c
    three_bytes low high = ⊎_elim (λ h. absurd (omega arith)) (⊎_elim (λ h. absurd (omega arith)) (⊎_elim (λ h. h) (λ h. absurd (omega arith))))
        (char_at_cases text i c found_c).1

    four_bytes : 0xF0 ≤ slice_index text i → IsFourBytesAt text i c
    four_bytes low = ⊎_elim (λ h. absurd (omega arith)) (⊎_elim (λ h. absurd (omega arith)) (⊎_elim (λ h. absurd (omega arith)) (λ h. h)))
        (char_at_cases text i c found_c).1

  Outcome : Passed → ℕ → ℕ → (ℕ → Bool) → Option ℕ → Type 0
  Outcome p i place member pick = outcome (byte_of text) end m bounded rises next p member place pick ≡ found_after m p end next i
      (member_len text (scalar_ranges rs) i)

  module _ (p : Passed) (i k : ℕ) (lt : i < end) where
    after_one : k < 0x80 → slice_index text i ≡ 0 + k → Outcome p i (i + 1 + 0) (is_member (clip 0 0x7F rs))
        (picked (byte_of text) end 0 (0 + k * size_of_block 0) (i + 1))
    unfolding Outcome size_of_block
    after_one small lead =
        same_outcome p i (i + 1 + 0) (is_member (clip 0 0x7F rs)) _
        (λ c found_c fits. let h = one_byte i c found_c (omega arith) in
        let a = h.0 in let b = h.2 in
        let n = len_is c 1 (inl (h.0, refl)) in
        (zero-to (byte_of text) end _ (i + 1) c (omega arith), clip-same 0 0x7F rs c (omega arith) (omega arith) (omega arith), omega arith))
        (λ c chosen passes.
        let range = clip-bounds 0 0x7F rs c (omega arith) passes in
        let top = range.1 in
        let value = zero-from (byte_of text) end _ (i + 1) c chosen in
        let n = len_is c 1 (inl (omega arith, refl)) in
        (char_at_one text i c (omega arith, omega arith, omega arith), omega arith))

    after_two : k < 30 → slice_index text i ≡ 0xC2 + k → Outcome p i (i + 1 + 1) (is_member (clip 0x80 0x7FF rs))
        (picked (byte_of text) end 1 (0x80 + k * size_of_block 1) (i + 1))
    unfolding Outcome size_of_block
    after_two small lead =
        same_outcome p i (i + 1 + 1) (is_member (clip 0x80 0x7FF rs)) _
        (λ c found_c fits. let h = two_bytes i c found_c (omega arith) (omega arith) in
        let low = h.0 in let high = h.1 in let first = h.3 in let second = h.4 in
        let n = len_is c 2 (inr (inl (h.0, h.1, refl))) in (
          step-to (byte_of text) end 0 _ (i + 1) (i + 2) c c (omega arith) (omega arith) (omega arith) (omega arith) (omega arith)
              (zero-to (byte_of text) end c (i + 2) c refl),
          clip-same 0x80 0x7FF rs c (omega arith) (omega arith) (omega arith),
          omega arith,
        ))
        (λ c chosen passes.
        let range = clip-bounds 0x80 0x7FF rs c (omega arith) passes in
        let bottom = range.0 in
        let top = range.1 in
        let x = parts-to (byte_of text) end 0 _ (i + 1) (i + 2) c (omega arith) chosen in
        let x0 = x.0 in let x1 = x.1 in let x2 = x.2 in
        let value = zero-from (byte_of text) end _ (i + 2) c x.3 in
        let n = len_is c 2 (inr (inl (omega arith, omega arith, refl))) in
        (char_at_two text i c (omega arith, omega arith, omega arith, omega arith, omega arith), omega arith))

    three : (first start low high : ℕ) → low ≤ high → 0x800 ≤ low → high < 0x1_0000 → 0xE0 ≤ first → (high < 0xD800) ⊎ (0xE000 ≤ low)
        → start ≡ (first - 0xE0) * 4096 → slice_index text i ≡ first + k → slice_index text i < 0xF0
        → ((c : ℕ) → InScalarRange c → 0x800 ≤ c → c < 0x1_0000 → slice_index text i ≡ 224 + c / 4096 → (low ≤ c) × (c ≤ high))
        → Outcome p i (i + 1 + 2) (is_member (clip low high rs)) (picked (byte_of text) end 2 (start + k * size_of_block 2) (i + 1))
    unfolding Outcome size_of_block
    three first start low high ordered least most above scalars base_is lead below in_band =
        same_outcome p i (i + 1 + 2) (is_member (clip low high rs)) _
        (λ c found_c fits. let h = three_bytes i c found_c (omega arith) (omega arith) in
        let a = h.0 in let b = h.1 in let b0 = h.3 in let b1 = h.4 in let b2 = h.5 in
        let n = len_is c 3 (inr (inr (inl (h.0, h.1, refl)))) in
        let band = in_band c (char_at_cases text i c found_c).0 h.0 h.1 h.3 in (
          step-to (byte_of text) end 1 _ (i + 1) (i + 2) (c / 64 * 64) c (omega arith) (omega arith) (omega arith) (omega arith) (omega arith)
              (step-to (byte_of text) end 0 _ (i + 2) (i + 3) c c (omega arith) (omega arith) (omega arith) (omega arith) (omega arith)
              (zero-to (byte_of text) end c (i + 3) c refl)),
          clip-same low high rs c ordered band.0 band.1,
          omega arith,
        ))
        (λ c chosen passes.
        let range = clip-bounds low high rs c ordered passes in
        let bottom = range.0 in
        let top = range.1 in
        let x = parts-to (byte_of text) end 1 _ (i + 1) (i + 2) c (omega arith) chosen in
        let x0 = x.0 in let x1 = x.1 in let x2 = x.2 in
        let y = parts-to (byte_of text) end 0 _ (i + 2) (i + 3) c (omega arith) x.3 in
        let y0 = y.0 in let y1 = y.1 in let y2 = y.2 in
        let value = zero-from (byte_of text) end _ (i + 3) c y.3 in
        let n = len_is c 3 (inr (inr (inl (omega arith, omega arith, refl)))) in
        let scalar : InScalarRange c = scalar_is c range.0 range.1 scalars in
        (char_at_three text i c scalar (omega arith, omega arith, omega arith, omega arith, omega arith, omega arith), omega arith))
      where
        scalar_is : (c : ℕ) → low ≤ c → c ≤ high → (high < 0xD800) ⊎ (0xE000 ≤ low) → InScalarRange c
        scalar_is c bottom top (inl x) = inl (omega arith)
        scalar_is c bottom top (inr x) = inr (omega arith, omega arith)

    after_four : k < 5 → slice_index text i ≡ 0xF0 + k → Outcome p i (i + 1 + 3) (is_member (clip 0x1_0000 0x10_FFFF rs))
        (picked (byte_of text) end 3 (0 + k * size_of_block 3) (i + 1))
    unfolding Outcome size_of_block
    after_four small lead =
        same_outcome p i (i + 1 + 3) (is_member (clip 0x1_0000 0x10_FFFF rs)) _
        (λ c found_c fits. let h = four_bytes i c found_c (omega arith) in
        let a = h.0 in let b0 = h.2 in let b1 = h.3 in let b2 = h.4 in let b3 = h.5 in
        let n = len_is c 4 (inr (inr (inr (h.0, refl)))) in
        let top : c ≤ 0x10_FFFF = most-scalar c (char_at_cases text i c found_c).0 in (
          step-to (byte_of text) end 2 _ (i + 1) (i + 2) (c / 4096 * 4096) c (omega arith) (omega arith) (omega arith) (omega arith) (omega arith)
              (step-to (byte_of text) end 1 _ (i + 2) (i + 3) (c / 64 * 64) c (omega arith) (omega arith) (omega arith) (omega arith) (omega arith)
              (step-to (byte_of text) end 0 _ (i + 3) (i + 4) c c (omega arith) (omega arith) (omega arith) (omega arith) (omega arith)
              (zero-to (byte_of text) end c (i + 4) c refl))),
          clip-same 0x1_0000 0x10_FFFF rs c (omega arith) (omega arith) (omega arith),
          omega arith,
        ))
        (λ c chosen passes.
        let range = clip-bounds 0x1_0000 0x10_FFFF rs c (omega arith) passes in
        let bottom = range.0 in
        let top = range.1 in
        let x = parts-to (byte_of text) end 2 _ (i + 1) (i + 2) c (omega arith) chosen in
        let x0 = x.0 in let x1 = x.1 in let x2 = x.2 in
        let y = parts-to (byte_of text) end 1 _ (i + 2) (i + 3) c (omega arith) x.3 in
        let y0 = y.0 in let y1 = y.1 in let y2 = y.2 in
        let z = parts-to (byte_of text) end 0 _ (i + 3) (i + 4) c (omega arith) y.3 in
        let z0 = z.0 in let z1 = z.1 in let z2 = z.2 in
        let value = zero-from (byte_of text) end _ (i + 4) c z.3 in
        let n = len_is c 4 (inr (inr (inr (omega arith, refl)))) in
        (char_at_four text i c range.1 (omega arith, omega arith, omega arith, omega arith, omega arith, omega arith), omega arith))

    after_three : k < 14 → slice_index text i ≡ 0xE0 + k → Outcome p i (i + 1 + 2) (is_member (clip 0x800 0xD7FF rs))
        (picked (byte_of text) end 2 (0 + k * size_of_block 2) (i + 1))
    after_three small lead =
        three 0xE0 0 0x800 0xD7FF (omega arith) (omega arith) (omega arith) (omega arith) (inl (omega arith)) refl lead (omega arith)
        (λ c scalar low high first. (low, below_surrogates c scalar (omega arith)))
      where
        below_surrogates : (c : ℕ) → InScalarRange c → c < 0xE000 → c ≤ 0xD7FF
        below_surrogates c (inl x) lt' = omega arith
        below_surrogates c (inr x) lt' = absurd (omega (arith, x.0))

    after_three_high : k < 2 → slice_index text i ≡ 0xEE + k → Outcome p i (i + 1 + 2) (is_member (clip 0xE000 0xFFFF rs))
        (picked (byte_of text) end 2 (0xE000 + k * size_of_block 2) (i + 1))
    after_three_high small lead =
        three 0xEE 0xE000 0xE000 0xFFFF (omega arith) (omega arith) (omega arith) (omega arith) (inr (omega arith)) refl lead (omega arith)
        (λ c scalar low high first. (omega arith, omega arith))

    -- no other byte begins a character
    after_none : ((0x80 ≤ slice_index text i) × (slice_index text i < 0xC2)) ⊎ (0xF5 ≤ slice_index text i)
        → None ≡ found_after m p end next i (member_len text (scalar_ranges rs) i)
    unfolding outcome
    after_none out =
        same_outcome p i i (λ c. false) None
        (λ c found_c fits. absurd (impossible c found_c out))
        (λ c e passes. absurd (none-some c e))
      where
        impossible : (c : ℕ) → char_at text i ≡ Some c → ((0x80 ≤ slice_index text i) × (slice_index text i < 0xC2)) ⊎ (0xF5 ≤ slice_index text i) → ⊥
        impossible c found_c (inl x) =
            let low = x.0 in let high = x.1 in let h = two_bytes i c found_c (omega arith) (omega arith) in let a = h.0 in let b = h.3 in omega arith
        impossible c found_c (inr x) =
            let h = four_bytes i c found_c (omega arith) in let b = h.2 in let top = most-scalar c (char_at_cases text i c found_c).0 in omega arith

  after_end : (p : Passed) (i : ℕ) → end ≤ i → None ≡ found_after m p end next i (member_len text (scalar_ranges rs) i)
  unfolding outcome
  after_end p i past =
      same_outcome p i i (λ c. false) None
      (λ c found_c fits. absurd (let n = len_utf8_bounds c in omega arith))
      (λ c e passes. absurd (none-some c e))

  -- by the first byte
  lead_cases : {P : Type 0} (b : ℕ) → (b < 0x80 → P) → ((k : ℕ) → k < 30 → b ≡ 0xC2 + k → P) → ((k : ℕ) → k < 14 → b ≡ 0xE0 + k → P)
      → ((k : ℕ) → k < 2 → b ≡ 0xEE + k → P) → ((k : ℕ) → k < 5 → b ≡ 0xF0 + k → P) → (((0x80 ≤ b) × (b < 0xC2)) ⊎ (0xF5 ≤ b) → P) → P
  lead_cases b one two three high four none =
      ⊎_elim one
      (λ a. ⊎_elim (λ x. none (inl (a, x)))
      (λ a. ⊎_elim (λ x. two (b - 0xC2) (omega arith) (omega arith))
      (λ a. ⊎_elim (λ x. three (b - 0xE0) (omega arith) (omega arith))
      (λ a. ⊎_elim (λ x. high (b - 0xEE) (omega arith) (omega arith))
      (λ a. ⊎_elim (λ x. four (b - 0xF0) (omega arith) (omega arith))
      (λ a. none (inr a))
      (cases_lt b 0xF5))
      (cases_lt b 0xF0))
      (cases_lt b 0xEE))
      (cases_lt b 0xE0))
      (cases_lt b 0xC2))
      (cases_lt b 0x80)

  -- the block of a class reads the class
  pub class-found : (q : ℕ) → IsClass (ReadsByte m (byte_of text) end) next rs q → ReadsClass m text end next q (scalar_ranges rs)
  unfolding found_target Outcome
  class-found q k p i new clean =
      reader-found (byte_of text) end m bounded rises next p q i k.row k.reads new
      ∙ by_test (nat_lt i end)
      (λ e. let lt : i < end = grind (arith, nat_tests) in rw e (by_lead lt))
      (λ e. let past : end ≤ i = grind (arith, nat_tests) in rw e (after_end p i past))
    where
      by_lead : i < end → found_target (byte_of text) end m bounded rises next p (route k.row (slice_index text i)) (i + 1) ≡ found_after m p end next i
          (member_len text (scalar_ranges rs) i)
      by_lead lt =
          lead_cases (slice_index text i)
          (λ small. let is : slice_index text i ≡ 0 + slice_index text i = omega arith in
          ap (λ b. found_target (byte_of text) end m bounded rises next p (route k.row b) (i + 1)) is
          ∙ block-found (byte_of text) end m bounded rises next p (is_member (clip 0 0x7F rs)) 0 _ (i + 1) _ (k.of_one (slice_index text i) small) clean
          ∙ after_one p i (slice_index text i) lt small is)
          (λ n small is.
          ap (λ b. found_target (byte_of text) end m bounded rises next p (route k.row b) (i + 1)) is
          ∙ block-found (byte_of text) end m bounded rises next p (is_member (clip 0x80 0x7FF rs)) 1 _ (i + 1) _ (k.of_two n small) clean
          ∙ after_two p i n lt small is)
          (λ n small is.
          ap (λ b. found_target (byte_of text) end m bounded rises next p (route k.row b) (i + 1)) is
          ∙ block-found (byte_of text) end m bounded rises next p (is_member (clip 0x800 0xD7FF rs)) 2 _ (i + 1) _ (k.of_three n small) clean
          ∙ after_three p i n lt small is)
          (λ n small is.
          ap (λ b. found_target (byte_of text) end m bounded rises next p (route k.row b) (i + 1)) is
          ∙ block-found (byte_of text) end m bounded rises next p (is_member (clip 0xE000 0xFFFF rs)) 2 _ (i + 1) _ (k.of_three_high n small) clean
          ∙ after_three_high p i n lt small is)
          (λ n small is.
          ap (λ b. found_target (byte_of text) end m bounded rises next p (route k.row b) (i + 1)) is
          ∙ block-found (byte_of text) end m bounded rises next p (is_member (clip 0x1_0000 0x10_FFFF rs)) 3 _ (i + 1) _ (k.of_four n small) clean
          ∙ after_four p i n lt small is)
          (λ out. ap (λ o. found_target (byte_of text) end m bounded rises next p o (i + 1)) (k.of_none (slice_index text i) out)
          ∙ after_none p i (slice_index text i) lt out)

member-above : (rs : List (ℕ × ℕ)) (n c : ℕ) → StaysBelow n rs → n < c → is_member rs c ≡ false
member-above [] n c h lt = refl
member-above (r ∷ rs) n c h lt =
    let a = h.0 in
    let x : (nat_le r.0 c && nat_le c r.1) ≡ false = grind (arith, nat_tests) in
    rw x (member-above rs n c h.1 lt)

-- the state of a class of bytes reads the class
pub byte_class-found : (text : List ℕ) (end : ℕ) → end ≤ length text → (m : PriorityGraph) → IsBounded m → NeverFalls m → (next : ℕ) (rs : List (ℕ × ℕ))
    → StaysBelow 255 rs
    → (q : ℕ) → IsByteClass (ReadsByte m (byte_of text) end) next rs q → ReadsClass m text end next q (byte_ranges rs)
unfolding found_target
byte_class-found text end inside m bounded rises next rs below q k p i new clean =
    reader-found (byte_of text) end m bounded rises next p q i k.row k.reads new
    ∙ by_test (nat_lt i end)
    (λ e. let lt : i < length text = grind (arith, nat_tests) in
    let fits : nat_le (i + 1) end ≡ true = grind (arith, nat_tests) in
    rw e (ap (λ o. found_target (byte_of text) end m bounded rises next p o (i + 1)) (routes (slice_index text i))
    ∙ lands fits (is_member rs (slice_index text i))
    ∙ ap (found_after m p end next i) (sym (byte_len-within text rs i lt))))
    (λ e. let short : nat_le (i + 1) end ≡ false = grind (arith, nat_tests) in
    rw e (⊎_elim
    (λ lt. sym (ap (found_after m p end next i) (byte_len-within text rs i lt) ∙ misses short (is_member rs (slice_index text i))))
    (λ past. sym (ap (found_after m p end next i) (byte_len-past text rs i past)))
    (cases_lt i (length text))))
  where
    routes : (b : ℕ) → route k.row b ≡ (if is_member rs b then Some next else None)
    routes b = ⊎_elim (k.each b) (λ past. k.of_none b past ∙ sym (ap (λ x. if x then Some next else None) (member-above rs 255 b below (omega arith))))
        (cases_lt b 256)

    lands : nat_le (i + 1) end ≡ true → (b : Bool) → found_target (byte_of text) end m bounded rises next p (if b then Some next else None)
        (i + 1) ≡ found_after m p end next i (if b then Some 1 else None)
    lands fits true = rw fits refl
    lands fits false = refl

    misses : nat_le (i + 1) end ≡ false → (b : Bool) → found_after m p end next i (if b then Some 1 else None) ≡ None
    misses short true = rw short refl
    misses short false = refl
