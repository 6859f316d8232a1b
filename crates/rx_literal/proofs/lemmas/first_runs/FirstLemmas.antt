-- The literals of a class: the first one that lies at a place is the encoding of the member that stands there.
use Rattle.std.proofs.Common.{◌≡◌, ℕ, zero, suc, ◌+◌, ◌≤◌, ◌<◌, ◌⊎◌, true, ◌&&◌, List, [], ◌∷◌, ◌++◌, length, map, drop, take, refl, sym, ap, ◌∙◌, subst, inl, inr, arith}
use Rattle.std.specs.Prelude.{nat_lt, nat_le, Option, Some, None, encode_utf8, All, slice_index}
use Rattle.std.specs.List.{flat_map}
use Rattle.std.specs.Option.{option_or}
use Rattle.std.specs.Char.{IsScalar}
use Rattle.std.proofs.lemmas.Bool.Decides.{nat_tests}
use Rattle.std.proofs.lemmas.List.{length-map, take-append-drop, drop_more, take_at, length-drop}
use Rattle.std.proofs.lemmas.Str.{length-encode}
use Rattle.rx_model.specs.Text.{Class, stands_at, scalar_ranges, byte_ranges, is_member, member_len}
use Rattle.rx_model.specs.Expression.{class}
use Rattle.rx_model.proofs.lemmas.runs.RunLemmas.{by_test}
use Rattle.rx_model.proofs.lemmas.meaning.CharLemmas.{stands_at_parts, stands_at_from, member_len-is, member_len-of, byte_len-is, byte_len-of}
use Rattle.rx_class.specs.Ranges.{next_scalar, next_byte}
use Rattle.rx_literal.specs.Literals.{exact}
use Rattle.rx_literal.specs.Extract.{numbers, members, each_exact, class_literals}
use Rattle.rx_literal.specs.First.{all_exact, listed, IsLookFree}
use Rattle.rx_model.specs.Onward.{after}
use Rattle.rx_literal.proofs.lemmas.prefixes.ClassLemmas.{IsIn, members-in, scalar_step, byte_step}
use Rattle.rx_literal.proofs.lemmas.first_runs.ExactLemmas.{one, first_end, no_exact}
use Rattle.std.proofs.lemmas.Bool.{or_right}

-- Q holds of each of the list
abbrev Each : (ℕ → Type 0) → List ℕ → Type 0
Each Q [] = Unit {0}
Each Q (x ∷ xs) = Q x × Each Q xs

each-append : (Q : ℕ → Type 0) (xs ys : List ℕ) → Each Q xs → Each Q ys → Each Q (xs ++ ys)
each-append Q [] ys a b = b
each-append Q (x ∷ xs) ys a b = (a.0, each-append Q xs ys a.1 b)

each-weaker : (P Q : ℕ → Type 0) → ((x : ℕ) → P x → Q x) → (xs : List ℕ) → Each P xs → Each Q xs
each-weaker P Q to [] h = tt
each-weaker P Q to (x ∷ xs) h = (to x h.0, each-weaker P Q to xs h.1)

module _ (next : ℕ → ℕ) (M : ℕ → Type 0) (rises : (low : ℕ) → low ≤ next low)
    (step : (low high : ℕ) → M low → M high → low ≤ high → M (next low) ⊎ (high < next low)) where
  -- what is listed lies in the range, and M holds of it
  numbers-each : (n low high : ℕ) → M low ⊎ (high < low) → M high → Each (λ d. M d × (low ≤ d) × (d ≤ high)) (numbers next n low high)
  numbers-each zero low high a b = tt
  numbers-each (suc n) low high a b =
      by_test (nat_le low high)
      (λ e.
      let le : low ≤ high = grind (arith, nat_tests) in
      let m : M low = elim a [ inl is ↦ is | inr past ↦ absurd (omega arith) ] in
      let up = rises low in
      let rest = numbers-each n (next low) high (step low high m b le) b in
      rw e (
        (m, omega arith, le),
        each-weaker (λ d. M d × (next low ≤ d) × (d ≤ high)) (λ d. M d × (low ≤ d) × (d ≤ high))
            (λ d h. (h.0, (let above = h.1 in omega arith), h.2)) (numbers next n (next low) high) rest,
      ))
      (λ e. rw e tt)

  -- and it is a member
  members-each : (n : ℕ) (rs : List (ℕ × ℕ)) → All (λ (r : ℕ × ℕ). M r.0 × M r.1) rs
      → Each (λ d. M d × (is_member rs d ≡ true)) (flat_map (λ (r : ℕ × ℕ). numbers next n r.0 r.1) rs)
  members-each n [] all = tt
  members-each n (r ∷ rs) all =
      let ends : M r.0 × M r.1 = all 0 r (omega arith) in
      each-append (λ d. M d × (is_member (r ∷ rs) d ≡ true)) (numbers next n r.0 r.1) (flat_map (λ (q : ℕ × ℕ). numbers next n q.0 q.1) rs)
      (each-weaker (λ d. M d × (r.0 ≤ d) × (d ≤ r.1)) (λ d. M d × (is_member (r ∷ rs) d ≡ true))
      (λ d h. let low = h.1 in let high = h.2 in let test : (nat_le r.0 d && nat_le d r.1) ≡ true = grind (arith, nat_tests) in (h.0, rw test refl))
      (numbers next n r.0 r.1) (numbers-each n r.0 r.1 (inl ends.0) ends.1))
      (each-weaker (λ d. M d × (is_member rs d ≡ true)) (λ d. M d × (is_member (r ∷ rs) d ≡ true))
      (λ d h. (h.0, or_right (nat_le r.0 d && nat_le d r.1) (is_member rs d) h.1))
      (flat_map (λ (q : ℕ × ℕ). numbers next n q.0 q.1) rs) (members-each n rs (λ k d lt. all (suc k) d (omega arith))))

scalar_next : (low high : ℕ) → IsScalar low → IsScalar high → low ≤ high → IsScalar (next_scalar low) ⊎ (high < next_scalar low)
scalar_next low high a b le =
    by_test (nat_lt high (next_scalar low))
    (λ e. inr (grind (arith, nat_tests)))
    (λ e. inl (grind (arith, nat_tests)))

scalar_rises : (low : ℕ) → low ≤ next_scalar low
scalar_rises low = grind (arith, nat_tests)

module _ (hay : List ℕ) where
  -- a class by the literals of its members
  module _ (M : ℕ → Type 0) (encode : ℕ → List ℕ) (rs : List (ℕ × ℕ)) (i : ℕ) (len : Option ℕ) (f : ℕ → Option ℕ)
      (of : (d : ℕ) → M d → is_member rs d ≡ true → stands_at hay i (encode d) ≡ true → len ≡ Some (length (encode d))) where
    literal-ends : (d : ℕ) → M d → is_member rs d ≡ true → (one hay (encode d) f i ≡ None) ⊎ (one hay (encode d) f i ≡ after f len i)
    literal-ends d m h =
        by_test (stands_at hay i (encode d))
        (λ e. inr (rw (e, of d m h e) refl))
        (λ e. inl (rw e refl))

    idem : (v x : Option ℕ) → (x ≡ None) ⊎ (x ≡ v) → option_or v x ≡ v
    idem None x h = elim h [ inl e ↦ e | inr e ↦ e ]
    idem (Some n) x h = refl

    or-either : (v x y : Option ℕ) → (x ≡ None) ⊎ (x ≡ v) → (y ≡ None) ⊎ (y ≡ v) → (option_or x y ≡ None) ⊎ (option_or x y ≡ v)
    or-either v None y a b = b
    or-either v (Some n) y a b = a

    class-either : (ms : List ℕ) → Each (λ d. M d × (is_member rs d ≡ true)) ms
        → (first_end hay f i (map exact (map encode ms)) ≡ None) ⊎ (first_end hay f i (map exact (map encode ms)) ≡ after f len i)
    class-either [] h = inl refl
    class-either (d ∷ ms) h =
        or-either (after f len i) (one hay (encode d) f i) (first_end hay f i (map exact (map encode ms))) (literal-ends d h.0.0 h.0.1) (class-either ms h.1)

    class-some : (ms : List ℕ) (c : ℕ) → Each (λ d. M d × (is_member rs d ≡ true)) ms → IsIn c ms → one hay (encode c) f i ≡ after f len i
        → first_end hay f i (map exact (map encode ms)) ≡ after f len i
    class-some [] c h there is = absurd there
    class-some (d ∷ ms) c h there is =
        elim there [
          | inl e ↦
              let now : one hay (encode d) f i ≡ after f len i = ap (λ x. one hay (encode x) f i) e ∙ is in
              ap (λ x. option_or x (first_end hay f i (map exact (map encode ms)))) now
              ∙ idem (after f len i) (first_end hay f i (map exact (map encode ms))) (class-either ms h.1)
          | inr later ↦
              let rest = class-some ms c h.1 later is in
              elim (literal-ends d h.0.0 h.0.1) [
                | inl none ↦ (λ k. option_or (none k) (rest k))
                | inr now ↦ (λ k. option_or (now k) (rest k)) ∙ idem (after f len i) (after f len i) (inr refl)
              ]
        ]

    class-none : (ms : List ℕ) → Each (λ d. M d × (is_member rs d ≡ true)) ms → len ≡ None → first_end hay f i (map exact (map encode ms)) ≡ None
    class-none ms h none = elim (class-either ms h) [ inl e ↦ e | inr e ↦ e ∙ ap (λ o. after f o i) none ]

    -- the encodings listed are no more than 10, so that one of them is the member's that stands there
    pub class-ends : (ms : List ℕ) → Each (λ d. M d × (is_member rs d ≡ true)) ms
        → ((n : ℕ) → len ≡ Some n → length ms ≤ 10 → (c : ℕ) × IsIn c ms × (stands_at hay i (encode c) ≡ true) × (n ≡ length (encode c)))
        → all_exact (each_exact (map encode ms)) ≡ true → after f len i ≡ first_end hay f i (listed (each_exact (map encode ms)))
    unfolding each_exact
    class-ends ms each known h =
        by_test (nat_lt 10 (length (map encode ms)))
        (λ e. no_exact (rw e at h))
        (λ e.
        let long : length (map encode ms) ≡ length ms = length-map ms encode in
        let few : length ms ≤ 10 = grind (arith, nat_tests) in
        rw e (by_value len refl few))
      where
        by_value : (o : Option ℕ) → len ≡ o → length ms ≤ 10 → after f len i ≡ first_end hay f i (map exact (map encode ms))
        by_value None e few = ap (λ o. after f o i) e ∙ sym (class-none ms each e)
        by_value (Some n) e few =
            let x = known n e few in
            let ends : one hay (encode x.0) f i ≡ after f len i = rw (x.2, e) (ap (λ k. f (i + k)) (sym x.3)) in
            sym (class-some ms x.0 each x.1 ends)

  pub class-first : (c : Class) → IsLookFree (class c) → all_exact (class_literals c) ≡ true → (f : ℕ → Option ℕ) (i : ℕ)
      → after f (member_len hay c i) i ≡ first_end hay f i (listed (class_literals c))
  unfolding class_literals IsLookFree members
  class-first (scalar_ranges rs) plain h f i =
      let ms = flat_map (λ (r : ℕ × ℕ). numbers next_scalar 11 r.0 r.1) rs in
      class-ends IsScalar encode_utf8 rs i (member_len hay (scalar_ranges rs) i) f
      (λ d m is stands.
      let long = length-encode d in
      let goes = stands_at_parts hay i (encode_utf8 d) stands in
      ap (λ o. o) (member_len-of hay rs i (length (encode_utf8 d)) (
        d,
        m,
        is,
        long,
        ap (take (length (encode_utf8 d))) goes
            ∙ take_at (encode_utf8 d) (drop (i + length (encode_utf8 d)) hay) (length (encode_utf8 d)) refl,
      )))
      ms (members-each next_scalar IsScalar scalar_rises scalar_next 11 rs plain)
      (λ n e few.
      let m = member_len-is hay rs i n e in
      let goes : drop i hay ≡ encode_utf8 m.0 ++ drop n (drop i hay) = sym (take-append-drop n (drop i hay)) ∙ ap (λ bs. bs ++ drop n (drop i hay)) m.4 in
      elim (members-in next_scalar IsScalar scalar_step 11 rs m.0 m.1 m.2) [
        | inl there ↦ (m.0, there, stands_at_from hay i (encode_utf8 m.0) (drop n (drop i hay)) goes, m.3 ∙ sym (length-encode m.0))
        | inr full ↦ absurd (omega arith)
      ])
      h
  class-first (byte_ranges rs) plain h f i =
      let ms = flat_map (λ (r : ℕ × ℕ). numbers next_byte 11 r.0 r.1) rs in
      class-ends (λ d. Unit {0}) (λ b. b ∷ []) rs i (member_len hay (byte_ranges rs) i) f
      (λ d m is stands. byte_of d is stands)
      ms (members-each next_byte (λ d. Unit {0}) (λ low. omega arith) (λ low high a b le. inl tt) 11 rs (λ k d lt. (tt, tt)))
      (λ n e few.
      let m = byte_len-is hay rs i n e in
      elim (members-in next_byte (λ d. Unit {0}) byte_step 11 rs (slice_index hay i) tt m.2) [
        | inl there ↦ (slice_index hay i, there, stands_at_from hay i (slice_index hay i ∷ []) (drop (i + 1) hay) (drop_more hay i _ m.1), m.0)
        | inr full ↦ absurd (omega arith)
      ])
      h
    where
      byte_of : (d : ℕ) → is_member rs d ≡ true → stands_at hay i (d ∷ []) ≡ true → member_len hay (byte_ranges rs) i ≡ Some 1
      byte_of d is stands =
          let goes = stands_at_parts hay i (d ∷ []) stands in
          let lt : i < length hay = omega (arith, length-drop i hay, ap length goes) in
          let e : (slice_index hay i ∷ drop (i + 1) hay) ≡ (d ∷ drop (i + 1) hay) = sym (drop_more hay i _ lt) ∙ goes in
          let head : slice_index hay i ≡ d = cc in
          byte_len-of hay rs i 1 (refl, lt, subst (λ x. is_member rs x ≡ true) (sym head) is)
