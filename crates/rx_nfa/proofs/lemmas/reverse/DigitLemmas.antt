-- Encodings that are read backwards, digit by digit.
use Rattle.std.proofs.Common.{◌≡◌, ℕ, zero, suc, ◌+◌, ◌-◌, ◌*◌, ◌/◌, ◌%◌, ◌≤◌, ◌<◌, List, [], ◌∷◌, refl, sym, ◌∙◌, ap, subst, ⊎_elim, arith, true≢false}
use Rattle.std.specs.Prelude.{true, false, ◌&&◌, ◌||◌, Contains, nat_le, map}
use Rattle.std.proofs.lemmas.Bool.Decides.{nat_tests}
use Rattle.rx_model.specs.Text.{is_member, byte_ranges}
use Rattle.rx_model.specs.Graph as graph
use Rattle.rx_model.proofs.lemmas.runs.RunLemmas.{by_test}
use Rattle.rx_model.proofs.lemmas.runs.MemberLemmas.{none-among, split-among}
use Rattle.rx_model.proofs.lemmas.meaning.PartLemmas.{Chooses, Spells, SpellsOne, SpellsOne-same, Spells-same, Spells-then}
use Rattle.rx_nfa.specs.Directed.{build_all, build_joined, build_last, build_behind, build_digits, byte_between, pieces_in, last_of, before_of, lasts_of, before_last}
use Rattle.rx_nfa.specs.declared.backwards.Piece.{Piece}
use Rattle.rx_nfa.proofs.lemmas.parts.DigitsBuilt.{build_first}
use Rattle.rx_nfa.proofs.lemmas.parts.PieceLemmas.{piece-sound, piece-complete, digit-of, rest-of, rest-small}
use Rattle.rx_nfa.proofs.lemmas.parts.LastLemmas.{piece-of-last, before-of-piece, piece-before, piece-in, in-pieces}
use Rattle.rx_nfa.proofs.lemmas.reverse.PartLemmas.{SpellsOne-one, SpellsOne-all, Spells-joined}
use Rattle.std.proofs.Math.Bool.{or-true}

-- Members of ranges.

pub ranged : (rs : List (ℕ × ℕ)) (c : ℕ) → is_member rs c ≡ true → (r : ℕ × ℕ) × Contains rs r × (r.0 ≤ c) × (c ≤ r.1)
ranged [] c e = absurd (true≢false (sym e))
ranged (r ∷ rs) c e =
    by_test (nat_le r.0 c && nat_le c r.1)
    (λ h. (r, (0, omega arith, refl), low-is r.0 r.1 c h, high-is r.0 r.1 c h))
    (λ h. let x = ranged rs c (subst (λ b. (b || is_member rs c) ≡ true) h e) in (x.0, (suc x.1.0, (let lt = x.1.1 in omega arith), x.1.2), x.2, x.3))
  where
    low-is : (low high c : ℕ) → (nat_le low c && nat_le c high) ≡ true → low ≤ c
    low-is low high c h = grind (arith, nat_tests)

    high-is : (low high c : ℕ) → (nat_le low c && nat_le c high) ≡ true → c ≤ high
    high-is low high c h = grind (arith, nat_tests)

pub is-ranged : (rs : List (ℕ × ℕ)) (r : ℕ × ℕ) (c : ℕ) → Contains rs r → r.0 ≤ c → c ≤ r.1 → is_member rs c ≡ true
is-ranged [] r c m le le' = absurd (none-among r m)
is-ranged (x ∷ rs) r c m le le' =
    ⊎_elim
    (λ e.
    let first = ap (λ (y : ℕ × ℕ). y.0) e in
    let last = ap (λ (y : ℕ × ℕ). y.1) e in
    ap (λ b. b || is_member rs c) (both x.0 x.1 c (omega arith) (omega arith)))
    (λ more. ap (λ b. (nat_le x.0 c && nat_le c x.1) || b) (is-ranged rs r c more le le') ∙ or-true (nat_le x.0 c && nat_le c x.1))
    (split-among x r rs m)
  where
    both : (low high c : ℕ) → low ≤ c → c ≤ high → (nat_le low c && nat_le c high) ≡ true
    both low high c le le' = grind (arith, nat_tests)

-- What the digits of numbers spell, of any walks that read a byte at a time.
module _ (whole : List graph.State) (Goes : ℕ → ℕ → ℕ → Type 0) (end : ℕ) (chooses : Chooses whole Goes end) (byte : ℕ → ℕ)
    (reads : (rs : List (ℕ × ℕ)) → Spells whole Goes end chooses (λ i j. (i < end) × (is_member rs (byte i) ≡ true) × (i + 1 ≡ j))
    (graph.build_state (graph.set (byte_ranges rs)))) where
  -- a byte from the one to the other is read
  abbrev Between : (first last : ℕ) → ℕ → ℕ → Type 0
  Between first last i j = (i < end) × (first ≤ byte i) × (byte i ≤ last) × (i + 1 ≡ j)

  Spells-between : (first last : ℕ) → Spells whole Goes end chooses (Between first last) (graph.build_state (byte_between first last))
  Spells-between first last =
      Spells-same whole Goes end chooses (λ i j. (i < end) × (is_member ((first, last) ∷ []) (byte i) ≡ true) × (i + 1 ≡ j)) (Between first last)
      (graph.build_state (byte_between first last)) (reads ((first, last) ∷ []))
      (λ i j h. let x = member-is (byte i) h.1 in (h.0, x.0, x.1, h.2)) (λ i j h. (h.0, is-member (byte i) h.1 h.2, h.3))
    where
      member-is : (b : ℕ) → ((nat_le first b && nat_le b last) || false) ≡ true → (first ≤ b) × (b ≤ last)
      member-is b e = (grind (arith, nat_tests), grind (arith, nat_tests))

      is-member : (b : ℕ) → first ≤ b → b ≤ last → ((nat_le first b && nat_le b last) || false) ≡ true
      is-member b le le' = grind (arith, nat_tests)

  -- the digits of the number c are read, the last one first
  abbrev pub ReadsDigits : (depth lead c : ℕ) → ℕ → ℕ → Type 0
  ReadsDigits zero lead c i j = (i < end) × (byte i ≡ lead + c) × (i + 1 ≡ j)
  ReadsDigits (suc depth) lead c i j = (k : ℕ) × ((i < end) × (byte i ≡ 0x80 + c % 64) × (i + 1 ≡ k)) × ReadsDigits depth lead (c / 64) k j

  -- those of one of the members
  abbrev pub DigitsMean : (depth lead : ℕ) → List (ℕ × ℕ) → ℕ → ℕ → Type 0
  DigitsMean depth lead rs i j = (c : ℕ) × (is_member rs c ≡ true) × ReadsDigits depth lead c i j

  -- one digit
  SpellsOne-first : (lead : ℕ) (rs : List (ℕ × ℕ)) → SpellsOne whole Goes end chooses (DigitsMean zero lead rs) (build_digits lead zero rs)
  unfolding build_digits
  SpellsOne-first lead rs =
      SpellsOne-same whole Goes end chooses (λ i j. (r : ℕ × ℕ) × Contains rs r × Between (lead + r.0) (lead + r.1) i j) (DigitsMean zero lead rs)
      (build_all (map (build_first lead) rs))
      (SpellsOne-all whole Goes end chooses (build_first lead) (λ (r : ℕ × ℕ). Between (lead + r.0) (lead + r.1)) rs
      (λ r m. SpellsOne-one whole Goes end chooses (Between (lead + r.0) (lead + r.1)) (graph.build_state (byte_between (lead + r.0) (lead + r.1)))
      (Spells-between (lead + r.0) (lead + r.1))))
      (λ i j h.
      (let le = h.2.1 in
      let le' = h.2.2 in
      (byte i - lead, is-ranged rs h.0 (byte i - lead) h.1 (omega arith) (omega arith), (h.2.0, omega arith, h.2.3))))
      (λ i j h.
      (let r = ranged rs h.0 h.1 in
      let is = h.2.1 in
      let le = r.2 in
      let le' = r.3 in
      (r.0, r.1, (h.2.0, omega arith, omega arith, h.2.2))))

  -- one digit more
  module _ (depth lead : ℕ) (rs : List (ℕ × ℕ))
      (before : (xs : List (ℕ × ℕ)) → SpellsOne whole Goes end chooses (DigitsMean depth lead xs) (build_digits lead depth xs)) where
    abbrev ps : List Piece
    ps = pieces_in rs

    abbrev LastMeans : ℕ × ℕ → ℕ → ℕ → Type 0
    LastMeans last i j = (k : ℕ) × Between (0x80 + last.0) (0x80 + last.1) i k × DigitsMean depth lead (before_last last (pieces_in rs)) k j

    each : (last : ℕ × ℕ) → Contains (lasts_of ps) last → SpellsOne whole Goes end chooses (LastMeans last) (build_behind lead depth ps last)
    each last m =
        let parts = build_digits lead depth (before_last last (pieces_in rs)) in
        SpellsOne-one whole Goes end chooses (LastMeans last) (build_last last parts)
        (Spells-then whole Goes end chooses (Between (0x80 + last.0) (0x80 + last.1)) (DigitsMean depth lead (before_last last (pieces_in rs)))
        (graph.build_state (byte_between (0x80 + last.0) (0x80 + last.1))) (build_joined parts)
        (Spells-between (0x80 + last.0) (0x80 + last.1))
        (Spells-joined whole Goes end chooses (DigitsMean depth lead (before_last last (pieces_in rs))) parts (before (before_last last (pieces_in rs)))))

    to : (last : ℕ × ℕ) (i j : ℕ) → LastMeans last i j → DigitsMean (suc depth) lead rs i j
    to last i j h =
        let c = h.2.0 in
        let d : ℕ = byte i - 0x80 in
        let r = ranged (before_last last (pieces_in rs)) c h.2.1 in
        let b = before-of-piece last (pieces_in rs) r.0 r.1 in
        let z = piece-in rs b.piece b.inside in
        let first = ap (λ (x : ℕ × ℕ). x.0) b.is in
        let top = ap (λ (x : ℕ × ℕ). x.1) b.is in
        let low = ap (λ (x : ℕ × ℕ). x.0) b.last_is in
        let high = ap (λ (x : ℕ × ℕ). x.1) b.last_is in
        let from = r.2 in
        let upto = r.3 in
        let least = h.1.1 in
        let most = h.1.2 in
        let small = rest-small 64 z.range.0 z.range.1 b.piece (omega arith) z.ordered z.is in
        let within = piece-sound 64 z.range.0 z.range.1 (omega arith) z.ordered b.piece c d z.is
        (record { from = omega arith; to = omega arith; least = omega arith; most = omega arith }) in
        let less : d < 64 = omega arith in
        let digit = digit-of 64 c d less in
        let rest = rest-of 64 c d less in (
          c * 64 + d,
          is-ranged rs z.range (c * 64 + d) z.inside within.0 within.1,
          (h.0, (h.1.0, omega arith, h.1.3), subst (λ n. ReadsDigits depth lead n h.0 j) (sym digit) h.2.2),
        )

    from : (i j : ℕ) → DigitsMean (suc depth) lead rs i j → (last : ℕ × ℕ) × Contains (lasts_of ps) last × LastMeans last i j
    from i j h =
        let c = h.0 in
        let r = ranged rs c h.1 in
        let low = r.2 in
        let high = r.3 in
        let x = piece-complete 64 r.0.0 r.0.1 (omega arith) (omega arith) c r.2 r.3 in
        let p = x.0 in
        let inside = in-pieces rs r.0 p r.1 (omega arith) x.1 in
        let is = h.2.1.1 in
        let least = x.2.least in
        let most = x.2.most in (
          last_of p,
          piece-of-last ps p inside,
          (
            h.2.0,
            (h.2.1.0, omega arith, omega arith, h.2.1.2),
            (c / 64, is-ranged (before_last (last_of p) (pieces_in rs)) (before_of p) (c / 64) (piece-before (pieces_in rs) p inside) x.2.from x.2.to, h.2.2),
          ),
        )

    SpellsOne-next : SpellsOne whole Goes end chooses (DigitsMean (suc depth) lead rs) (build_digits lead (suc depth) rs)
    unfolding build_digits
    SpellsOne-next =
        SpellsOne-same whole Goes end chooses (λ i j. (last : ℕ × ℕ) × Contains (lasts_of ps) last × LastMeans last i j) (DigitsMean (suc depth) lead rs)
        (build_all (map (build_behind lead depth ps) (lasts_of ps)))
        (SpellsOne-all whole Goes end chooses (build_behind lead depth ps) LastMeans (lasts_of ps) each)
        (λ i j h. to h.0 i j h.2)
        (λ i j h. from i j h)

  pub SpellsOne-digits : (depth lead : ℕ) (rs : List (ℕ × ℕ)) → SpellsOne whole Goes end chooses (DigitsMean depth lead rs) (build_digits lead depth rs)
  SpellsOne-digits zero lead rs = SpellsOne-first lead rs
  SpellsOne-digits (suc depth) lead rs = SpellsOne-next depth lead rs (λ xs. SpellsOne-digits depth lead xs)
