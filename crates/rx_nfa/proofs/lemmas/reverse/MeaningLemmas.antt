-- The parts of an NFA that reads backwards spell what their expressions mean.
use Rattle.std.proofs.Common.{◌≡◌, ℕ, suc, ◌+◌, ◌-◌, ◌≤◌, ◌<◌, ◌⊎◌, List, [], ◌∷◌, ◌++◌, refl, sym, ◌∙◌, ap, subst, inl, inr, ⊎_elim, arith, length, append_assoc}
use Rattle.std.specs.Prelude.{true, ◌&&◌, Option, Some, None, Contains, if◌then◌else◌, map, reverse, nat_le, slice_index}
use Rattle.std.specs.List.{AllZip}
use Rattle.std.specs.Char.{len_utf8}
use Rattle.std.proofs.lemmas.Bool.{and_parts, leb-true}
use Rattle.std.proofs.lemmas.Bool.Decides.{nat_tests}
use Rattle.std.proofs.lemmas.List.{append-nil, reverse-append}
use Rattle.std.proofs.lemmas.Option.{none-some, same_Some}
use Rattle.rx_model.specs.Text.{Class, scalar_ranges, byte_ranges, is_member, char_at, stands_at, member_len}
use Rattle.rx_model.specs.Look as model
use Rattle.rx_model.specs.Look.{holds}
use Rattle.rx_model.specs.Expression.{Expression, Expressions, AreOrdered, AllOrdered, empty, literal, class, look, repetition, capture, concat, alternation, nil, cons}
use Rattle.rx_model.specs.Length.{minimum_len, is_positive}
use Rattle.rx_model.specs.Meaning.{Pieces, IsCount, Means, MeansInTurn, MeansOne}
use Rattle.rx_model.specs.Graph as graph
use Rattle.rx_model.proofs.lemmas.runs.RunLemmas.{by_test}
use Rattle.rx_model.proofs.lemmas.meaning.CharLemmas.{member_len-some, member_len-none, byte_len-is, byte_len-of}
use Rattle.rx_model.proofs.lemmas.meaning.EmptyLemmas.{means-rises, in_turn-rise}
use Rattle.rx_nfa.specs.Automaton.{byte_of, backwards}
use Rattle.rx_nfa.specs.Built.{IsImage}
use Rattle.rx_nfa.specs.Directed.{PartsBuilder, build_row, build_sides, build_all, build_joined, build_digits, scalar_digits, build_class, build_directed, each_directed}
use Rattle.rx_nfa.specs.Ranges.{clip}
use Rattle.rx_nfa.specs.States.{Stands}
use Rattle.rx_nfa.specs.declared.state.State.{State}
use Rattle.rx_nfa.proofs.lemmas.classes.ClassLemmas.{member-clip}
use Rattle.rx_nfa.proofs.lemmas.runs.ImageLemmas.{image}
use Rattle.rx_nfa.proofs.lemmas.reverse.PartLemmas.{SpellsOne-all, Spells-joined}
use Rattle.rx_nfa.proofs.lemmas.reverse.WalkLemmas.{Goes, chooses, ReadsBytes, Spells-slot, Spells-look, Spells-member, Spells-bytes}
use Rattle.rx_nfa.proofs.lemmas.reverse.BackLemmas.{back, Pieces-back, back-Pieces, literal-stands, stands-literal}
use Rattle.rx_nfa.proofs.lemmas.reverse.DigitLemmas.{ReadsDigits, DigitsMean, SpellsOne-digits}
use Rattle.rx_nfa.proofs.lemmas.reverse.ScalarLemmas.{Read, one as one_byte, two as two_bytes, three as three_bytes, four as four_bytes, Stands as StandsAt, stands-read, one-stands, two-stands, three-stands, four-stands}
use Rattle.rx_model.proofs.lemmas.runs.MemberLemmas.{none-among, split-among}
use Rattle.rx_model.proofs.lemmas.meaning.PartLemmas.{Chooses, Spells, SpellsOne, Spells-nothing, Spells-then, Spells-same, Spells-within, Spells-repetition, SpellsOne-none, SpellsOne-beside, SpellsOne-same, Spells-choice}

-- Members of ranges.

-- a member within bounds
module _ (low high : ℕ) (ordered : low ≤ high) (rs : List (ℕ × ℕ)) (c : ℕ) where
  clipped-is : is_member (clip low high rs) c ≡ true → (is_member rs c ≡ true) × (low ≤ c) × (c ≤ high)
  clipped-is e =
      let parts = and_parts (is_member rs c && nat_le low c) (nat_le c high) (sym (member-clip low high ordered rs c) ∙ e) in
      let first = and_parts (is_member rs c) (nat_le low c) parts.0 in
      (first.0, leb-true low c first.1, leb-true c high parts.1)

  is-clipped : is_member rs c ≡ true → low ≤ c → c ≤ high → is_member (clip low high rs) c ≡ true
  is-clipped e above below =
      member-clip low high ordered rs c ∙ ap (λ b. b && nat_le low c && nat_le c high) e ∙ both low high c above below
    where
      both : (low high c : ℕ) → low ≤ c → c ≤ high → (true && nat_le low c && nat_le c high) ≡ true
      both low high c le le' = grind (arith, nat_tests)

-- Scalars by the length of their encodings.
record Band : Type 0 where
  lead : ℕ
  depth : ℕ
  low : ℕ
  high : ℕ

abbrev band : (lead depth low high : ℕ) → Band
band lead depth low high = record { lead = lead; depth = depth; low = low; high = high }

abbrev one_band : Band
one_band = band 0 0 0 0x7F

abbrev two_band : Band
two_band = band 0xC0 1 0x80 0x7FF

abbrev three_band : Band
three_band = band 0xE0 2 0x800 0xD7FF

abbrev upper_band : Band
upper_band = band 0xE0 2 0xE000 0xFFFF

abbrev four_band : Band
four_band = band 0xF0 3 0x1_0000 0x10_FFFF

abbrev bands : List Band
bands = one_band ∷ two_band ∷ three_band ∷ upper_band ∷ four_band ∷ []

abbrev build_band : List (ℕ × ℕ) → Band → PartsBuilder
build_band rs b = build_digits b.lead b.depth (clip b.low b.high rs)

bands-map : (rs : List (ℕ × ℕ)) → map (build_band rs) bands ≡ scalar_digits rs
bands-map rs = refl

-- a band is one of these
by_band : {P : Type 0} (b : Band) → Contains bands b → (one_band ≡ b → P) → (two_band ≡ b → P) → (three_band ≡ b → P) → (upper_band ≡ b → P)
    → (four_band ≡ b → P) → P
by_band b m one two three upper four =
    ⊎_elim one
    (λ m2.
    ⊎_elim two
    (λ m3.
    ⊎_elim three
    (λ m4.
    ⊎_elim upper
    (λ m5. ⊎_elim four (λ none. absurd (none-among b none)) (split-among four_band b [] m5))
    (split-among upper_band b (four_band ∷ []) m4))
    (split-among three_band b (upper_band ∷ four_band ∷ []) m3))
    (split-among two_band b (three_band ∷ upper_band ∷ four_band ∷ []) m2))
    (split-among one_band b (two_band ∷ three_band ∷ upper_band ∷ four_band ∷ []) m)

-- What a part spells.
module _ (terminator : ℕ) (text : List ℕ) (end : ℕ) (fits : end ≤ length text) (states : List State) (pattern final : ℕ) (whole : List graph.State)
    (images : List ℕ)
    (each : AllZip (IsImage (Stands 0 states) (image images (length states))) whole images) where
  abbrev walks : ℕ → ℕ → ℕ → Type 0
  walks = Goes (backwards terminator text) states end pattern final whole images each

  abbrev picks : Chooses whole (Goes (backwards terminator text) states end pattern final whole images each) end
  picks = chooses (backwards terminator text) states end pattern final whole images each

  abbrev pub Spelt : (ℕ → ℕ → Type 0) → graph.Builder → Type 0
  Spelt M b = Spells whole walks end picks M b

  abbrev SpeltOne : (ℕ → ℕ → Type 0) → PartsBuilder → Type 0
  SpeltOne M p = SpellsOne whole walks end picks M p

  abbrev n : ℕ
  n = length text

  abbrev byte : ℕ → ℕ
  byte d = byte_of text (length text - suc d)

  -- from what is spelt to what is meant
  meant : (M R : ℕ → ℕ → Type 0) (b : graph.Builder) → Spelt M b → ((d e : ℕ) → d ≤ e → e ≤ end → M d e → R (n - e) (n - d))
      → ((d e : ℕ) → d ≤ e → e ≤ end → R (n - e) (n - d) → M d e) → Spelt (back (length text) R) b
  meant M R b a to from =
      Spells-within whole walks end picks M (back (length text) R) b a (λ d e h. h.0) (λ d e le fits' h. (le, to d e le fits' h))
      (λ d e le fits' h. from d e le fits' h.1)

  spelt-literal : (bytes : List ℕ) → Spelt (back (length text) (λ i j. (stands_at text i bytes ≡ true) × (i + length bytes ≡ j)))
      (graph.build_state (graph.text (reverse bytes)))
  spelt-literal bytes =
      meant (ReadsBytes byte end (reverse bytes)) (λ i j. (stands_at text i bytes ≡ true) × (i + length bytes ≡ j))
      (graph.build_state (graph.text (reverse bytes)))
      (Spells-bytes (backwards terminator text) states end pattern final whole images each (reverse bytes))
      (λ d e le fits' h. literal-stands text end fits bytes d e fits' h)
      (λ d e le fits' h. stands-literal text end fits bytes d e le fits' h.0 h.1)

  spelt-look : (kind : model.Look) → Spelt (back (length text) (λ i j. (holds terminator text kind i ≡ true) × (i ≡ j)))
      (graph.build_state (graph.assertion kind))
  spelt-look kind =
      meant (λ d e. (holds terminator text kind (length text - d) ≡ true) × (d ≡ e)) (λ i j. (holds terminator text kind i ≡ true) × (i ≡ j))
      (graph.build_state (graph.assertion kind))
      (Spells-look (backwards terminator text) states end pattern final whole images each kind)
      (λ d e le fits' h. (ap (λ x. holds terminator text kind (length text - x)) (sym h.1) ∙ h.0, ap (λ x. length text - x) (sym h.1)))
      (λ d e le fits' h. (ap (holds terminator text kind) (sym h.1) ∙ h.0, (let same = h.1 in omega arith)))

  spelt-bytes : (rs : List (ℕ × ℕ)) → Spelt (back (length text) (λ i j. (m : ℕ) × (member_len text (byte_ranges rs) i ≡ Some m) × (i + m ≡ j)))
      (graph.build_state (graph.set (byte_ranges rs)))
  spelt-bytes rs =
      meant (λ d e. (d < end) × (is_member rs (byte d) ≡ true) × (d + 1 ≡ e)) (λ i j. (m : ℕ) × (member_len text (byte_ranges rs) i ≡ Some m) × (i + m ≡ j))
      (graph.build_state (graph.set (byte_ranges rs)))
      (Spells-member (backwards terminator text) states end pattern final whole images each rs)
      (λ d e le fits' h.
      let lt = h.0 in
      let on = h.2 in
      let at : length text - suc d ≡ length text - e = omega arith in
      (1, byte_len-of text rs (length text - e) 1 (refl, omega arith, ap (λ k. is_member rs (slice_index text k)) (sym at) ∙ h.1), omega arith))
      (λ d e le fits' h.
      let is = byte_len-is text rs (length text - e) h.0 h.1 in
      let one = is.0 in
      let sum = h.2 in
      let inside = is.1 in
      let at : length text - e ≡ length text - suc d = omega arith in
      (omega arith, ap (λ k. is_member rs (slice_index text k)) (sym at) ∙ is.2, omega arith))

  -- The bands of a class of scalars.
  module _ (rs : List (ℕ × ℕ)) where
    abbrev Digits : (depth lead c : ℕ) → ℕ → ℕ → Type 0
    Digits depth lead c d e = ReadsDigits whole walks end picks byte (Spells-member (backwards terminator text) states end pattern final whole images each)
        depth lead c d e

    abbrev BandMeans : Band → ℕ → ℕ → Type 0
    BandMeans b d e =
        DigitsMean whole walks end picks byte (Spells-member (backwards terminator text) states end pattern final whole images each) b.depth b.lead
        (clip b.low b.high rs) d e

    spelt-band : (b : Band) → Contains bands b → SpeltOne (BandMeans b) (build_band rs b)
    spelt-band b m =
        SpellsOne-digits whole walks end picks byte (Spells-member (backwards terminator text) states end pattern final whole images each) b.depth b.lead
        (clip b.low b.high rs)

    abbrev Meant : ℕ → ℕ → Type 0
    Meant i j = (m : ℕ) × (member_len text (scalar_ranges rs) i ≡ Some m) × (i + m ≡ j)

    -- a character that stands is meant, if it is a member
    stands-meant : (c d e : ℕ) → is_member rs c ≡ true → StandsAt text end fits c d e → Meant (n - e) (n - d)
    stands-meant c d e member s =
        (len_utf8 c, member_len-some text rs (length text - e) c s.is ∙ ap (λ b. if b then Some (len_utf8 c) else None) member, s.long)

    meant-stands : (d e : ℕ) → Meant (n - e) (n - d) → (c : ℕ) × (is_member rs c ≡ true) × StandsAt text end fits c d e
    meant-stands d e h = of (char_at text (length text - e)) refl
      where
        of : (o : Option ℕ) → char_at text (length text - e) ≡ o → (c : ℕ) × (is_member rs c ≡ true) × StandsAt text end fits c d e
        of None none = absurd (none-some h.0 (sym (member_len-none text rs (length text - e) none) ∙ h.1))
        of (Some c) is =
            by_test (is_member rs c)
            (λ member.
            let len : len_utf8 c ≡ h.0 =
            same_Some _ _ (sym (member_len-some text rs (length text - e) c is ∙ ap (λ b. if b then Some (len_utf8 c) else None) member) ∙ h.1) in
            (c, member, record { is = is; long = ap (λ k. length text - e + k) len ∙ h.2 }))
            (λ other. absurd
            (none-some h.0 (sym (member_len-some text rs (length text - e) c is ∙ ap (λ b. if b then Some (len_utf8 c) else None) other) ∙ h.1)))

    -- a number of a band is a member of the class
    band-member : (x b : Band) (d e : ℕ) → x ≡ b → x.low ≤ x.high → BandMeans b d e
        → (c : ℕ) × (is_member rs c ≡ true) × (x.low ≤ c) × (c ≤ x.high) × Digits x.depth x.lead c d e
    band-member x b d e is ordered h =
        let h' = subst (λ (y : Band). BandMeans y d e) (sym is) h in
        let m = clipped-is x.low x.high ordered rs h'.0 h'.1 in
        (h'.0, m.0, m.1, m.2, h'.2)

    member-band : (b : Band) (c d e : ℕ) → b.low ≤ b.high → is_member rs c ≡ true → b.low ≤ c → c ≤ b.high → Digits b.depth b.lead c d e → BandMeans b d e
    member-band b c d e ordered member above below h = (c, is-clipped b.low b.high ordered rs c member above below, h)

    abbrev OneMeans : ℕ → ℕ → Type 0
    OneMeans d e = (b : Band) × Contains bands b × BandMeans b d e

    band-meant : (d e : ℕ) → d ≤ e → e ≤ end → OneMeans d e → Meant (n - e) (n - d)
    band-meant d e le fits' h =
        by_band h.0 h.1
        (λ is. let m = band-member one_band h.0 d e is (omega arith) h.2 in stands-meant m.0 d e m.1 (one-stands text end fits m.0 d e m.3 m.4))
        (λ is. let m = band-member two_band h.0 d e is (omega arith) h.2 in stands-meant m.0 d e m.1 (two-stands text end fits m.0 d e m.2 m.3 m.4))
        (λ is.
        let m = band-member three_band h.0 d e is (omega arith) h.2 in
        let high = m.3 in
        stands-meant m.0 d e m.1 (three-stands text end fits m.0 d e m.2 (omega arith) (inl (omega arith)) m.4))
        (λ is.
        let m = band-member upper_band h.0 d e is (omega arith) h.2 in
        let low = m.2 in
        let high = m.3 in
        stands-meant m.0 d e m.1 (three-stands text end fits m.0 d e (omega arith) m.3 (inr (omega arith)) m.4))
        (λ is. let m = band-member four_band h.0 d e is (omega arith) h.2 in stands-meant m.0 d e m.1 (four-stands text end fits m.0 d e m.2 m.3 m.4))

    read-band : (k d e : ℕ) → is_member rs k ≡ true → Read text end fits k d e → OneMeans d e
    read-band k d e member (one_byte small read) =
        (one_band, (0, omega arith, refl), member-band one_band k d e (omega arith) member (omega arith) small read)
    read-band k d e member (two_bytes low high read) =
        (two_band, (1, omega arith, refl), member-band two_band k d e (omega arith) member low high read)
    read-band k d e member (three_bytes low high scalar read) =
        ⊎_elim
        (λ under. (three_band, (2, omega arith, refl), member-band three_band k d e (omega arith) member low (omega arith) read))
        (λ over. (upper_band, (3, omega arith, refl), member-band upper_band k d e (omega arith) member (omega arith) high read))
        scalar
    read-band k d e member (four_bytes low high read) =
        (four_band, (4, omega arith, refl), member-band four_band k d e (omega arith) member low high read)

    meant-band : (d e : ℕ) → d ≤ e → e ≤ end → Meant (n - e) (n - d) → OneMeans d e
    meant-band d e le fits' h = let s = meant-stands d e h in read-band s.0 d e s.1 (stands-read text end fits s.0 d e le fits' s.2)

    spelt-scalars : Spelt (back (length text) Meant) (build_joined (build_all (scalar_digits rs)))
    spelt-scalars =
        meant OneMeans Meant (build_joined (build_all (scalar_digits rs)))
        (Spells-joined whole walks end picks OneMeans (build_all (scalar_digits rs))
        (subst (λ ps. SpeltOne OneMeans (build_all ps)) (bands-map rs) (SpellsOne-all whole walks end picks (build_band rs) BandMeans bands spelt-band)))
        band-meant meant-band

  spelt-class : (members : Class) → Spelt (back (length text) (λ i j. (m : ℕ) × (member_len text members i ≡ Some m) × (i + m ≡ j))) (build_class true members)
  spelt-class (scalar_ranges rs) = spelt-scalars rs
  spelt-class (byte_ranges rs) = spelt-bytes rs

  abbrev means : Expression → ℕ → ℕ → Type 0
  means h = Means terminator text h

  turned : (b : graph.Builder) (bs rest : List graph.Builder) → reverse (b ∷ bs) ++ rest ≡ reverse bs ++ (b ∷ rest)
  turned b bs rest = ap (λ xs. xs ++ rest) (reverse-append (b ∷ []) bs) ∙ append_assoc (reverse bs) (b ∷ []) rest

  -- a part between its slots, if it has any
  pub spelt-between : (M : ℕ → ℕ → Type 0) (before after : ℕ → graph.State) (body : graph.Builder) → Spelt (λ d e. d ≡ e) (graph.build_state before)
      → Spelt (λ d e. d ≡ e) (graph.build_state after) → Spelt M body
      → Spelt M (graph.build_then (graph.build_state before) (graph.build_then body (graph.build_state after)))
  spelt-between M before after body a c b =
      Spells-same whole walks end picks (λ i j. (k : ℕ) × (i ≡ k) × ((x : ℕ) × M k x × (x ≡ j))) M
      (graph.build_then (graph.build_state before) (graph.build_then body (graph.build_state after)))
      (Spells-then whole walks end picks (λ i j. i ≡ j) (λ i j. (x : ℕ) × M i x × (x ≡ j)) (graph.build_state before)
      (graph.build_then body (graph.build_state after)) a
      (Spells-then whole walks end picks M (λ i j. i ≡ j) body (graph.build_state after) b c))
      (λ i j h. subst (λ x. M x j) (sym h.1) (subst (λ y. M h.0 y) h.2.2 h.2.1))
      (λ i j h. (i, refl, (j, h, refl)))

  pub spelt-group : (o : Option ℕ) (M : ℕ → ℕ → Type 0) (body : graph.Builder) → Spelt M body → Spelt M (graph.build_group o body)
  spelt-group None M body b = b
  spelt-group (Some number) M body b =
      spelt-between M (graph.slot number) (graph.slot (suc number)) body
      (Spells-slot (backwards terminator text) states end pattern final whole images each number)
      (Spells-slot (backwards terminator text) states end pattern final whole images each (suc number)) b

  module _ (slot : ℕ → Option ℕ) where
    -- the part of each spells what it means
    abbrev EachSpelt : Expressions → Type 0
    EachSpelt nil = Unit {0}
    EachSpelt (cons sub subs) = Spelt (back (length text) (Means terminator text sub)) (build_directed true slot sub) × EachSpelt subs

    -- the expressions from the last to the first, and then the rest
    spelt-row : (subs : Expressions) → EachSpelt subs → (rest : List graph.Builder) (M : ℕ → ℕ → Type 0) → Spelt M (build_row rest)
        → Spelt (λ d e. (k : ℕ) × back (length text) (MeansInTurn terminator text subs) d k × M k e)
        (build_row (reverse (each_directed true slot subs) ++ rest))
    unfolding Means build_directed
    spelt-row nil o rest M a =
        Spells-within whole walks end picks M (λ d e. (k : ℕ) × back (length text) (λ i j. i ≡ j) d k × M k e) (build_row rest) a
        (λ d e h. (let x = h.1.0 in let y = a.rises h.0 e h.2 in omega arith))
        (λ d e le fits' h. (d, (omega arith, refl), h))
        (λ d e le fits' h.
        let x = h.1.0 in
        let y = a.rises h.0 e h.2 in
        let z = h.1.1 in
        let same : h.0 ≡ d = omega arith in
        subst (λ k. M k e) same h.2)
    spelt-row (cons sub subs) o rest M a =
        let b = build_directed true slot sub in
        let first : ℕ → ℕ → Type 0 = λ d e. (k : ℕ) × back (length text) (Means terminator text sub) d k × M k e in
        let tail =
        spelt-row subs o.1 (b ∷ rest) first (Spells-then whole walks end picks (back (length text) (Means terminator text sub)) M b (build_row rest) o.0 a) in
        subst (λ bs. Spelt (λ d e. (k : ℕ) × back (length text) (MeansInTurn terminator text (cons sub subs)) d k × M k e) (build_row bs))
        (sym (turned b (each_directed true slot subs) rest))
        (Spells-within whole walks end picks (λ d e. (k : ℕ) × back (length text) (MeansInTurn terminator text subs) d k × first k e)
        (λ d e. (k : ℕ) × back (length text) (MeansInTurn terminator text (cons sub subs)) d k × M k e)
        (build_row (reverse (each_directed true slot subs) ++ (b ∷ rest))) tail
        (λ d e h. (let x = h.1.0 in let y = a.rises h.0 e h.2 in omega arith))
        (λ d e le fits' h.
        let k = h.0 in
        let x = h.1.0 in
        let y = h.2.1.0 in
        (h.2.0, (omega arith, (length text - h.0, h.2.1.1, h.1.1)), h.2.2))
        (λ d e le fits' h.
        let z = a.rises h.0 e h.2 in
        let x = h.1.0 in
        let first-rises = means-rises terminator text sub (length text - h.0) h.1.1.0 h.1.1.1 in
        let later-rises = in_turn-rise terminator text subs h.1.1.0 (length text - d) h.1.1.2 in
        let at : h.1.1.0 ≡ length text - (length text - h.1.1.0) = omega arith in (
          length text - h.1.1.0,
          (omega arith, subst (λ i. MeansInTurn terminator text subs i (length text - d)) at h.1.1.2),
          (h.0, (omega arith, subst (λ j. Means terminator text sub (length text - h.0) j) at h.1.1.1), h.2),
        )))

    spelt-sides : (subs : Expressions) → EachSpelt subs → SpeltOne (back (length text) (MeansOne terminator text subs))
        (build_sides (each_directed true slot subs))
    unfolding Means build_directed
    spelt-sides nil o = SpellsOne-same whole walks end picks (λ i j. ⊥) (back (length text) (λ i j. ⊥)) graph.no_parts (SpellsOne-none whole walks end picks)
        (λ d e h. absurd h) (λ d e h. h.1)
    spelt-sides (cons sub subs) o =
        SpellsOne-same whole walks end picks (λ d e. back (length text) (Means terminator text sub) d e
        ⊎ back (length text) (MeansOne terminator text subs) d e) (back (length text) (MeansOne terminator text (cons sub subs)))
        (graph.build_beside (build_directed true slot sub) (build_sides (each_directed true slot subs)))
        (SpellsOne-beside whole walks end picks (back (length text) (Means terminator text sub)) (back (length text) (MeansOne terminator text subs))
        (build_directed true slot sub) (build_sides (each_directed true slot subs)) o.0 (spelt-sides subs o.1))
        (λ d e h. ⊎_elim (λ x. (x.0, inl x.1)) (λ x. (x.0, inr x.1)) h)
        (λ d e h. ⊎_elim (λ x. inl (h.0, x)) (λ x. inr (h.0, x)) h.1)

    mutual
      unfolding Means build_directed AreOrdered

      pub spelt-directed : (h : Expression) → AreOrdered h → Spelt (back (length text) (Means terminator text h)) (build_directed true slot h)
      spelt-directed empty o = meant (λ d e. d ≡ e) (λ i j. i ≡ j) graph.build_nothing (Spells-nothing whole walks end picks)
          (λ d e le fits' h. ap (λ x. length text - x) (sym h)) (λ d e le fits' h. omega arith)
      spelt-directed (literal bytes) o = spelt-literal bytes
      spelt-directed (class members) o = spelt-class members
      spelt-directed (look kind) o = spelt-look kind
      spelt-directed (repetition least most greedy sub) o =
          meant (λ d e. (k : ℕ) × IsCount least most k × Pieces (back (length text) (Means terminator text sub)) k d e)
          (λ i j. (k : ℕ) × IsCount least most k × Pieces (Means terminator text sub) k i j)
          (graph.build_repetition (is_positive (minimum_len sub)) least most greedy (build_directed true slot sub))
          (Spells-repetition whole walks end picks (back (length text) (Means terminator text sub)) greedy (build_directed true slot sub)
          (spelt-directed sub o.1) (is_positive (minimum_len sub)) least most o.0)
          (λ d e le fits' h. (
            h.0,
            h.1,
            Pieces-back (Means terminator text sub) (λ i j m. means-rises terminator text sub i j m) (length text) h.0 d e le
                (omega arith) h.2,
          ))
          (λ d e le fits' h. (
            h.0,
            h.1,
            back-Pieces (Means terminator text sub) (λ i j m. means-rises terminator text sub i j m) (length text) h.0 d e le
                (omega arith) h.2,
          ))
      spelt-directed (capture group name sub) o = spelt-group (slot group) (back (length text) (Means terminator text sub)) (build_directed true slot sub)
          (spelt-directed sub o)
      spelt-directed (concat subs) o =
          subst (λ bs. Spelt (back (length text) (MeansInTurn terminator text subs)) (build_row bs)) (append-nil (reverse (each_directed true slot subs)))
          (meant (λ d e. (k : ℕ) × back (length text) (MeansInTurn terminator text subs) d k × (k ≡ e)) (MeansInTurn terminator text subs)
          (build_row (reverse (each_directed true slot subs) ++ []))
          (spelt-row subs (spelt-each subs o) [] (λ d e. d ≡ e) (Spells-nothing whole walks end picks))
          (λ d e le fits' h. subst (λ x. MeansInTurn terminator text subs (length text - x) (length text - d)) h.2 h.1.1)
          (λ d e le fits' h. (e, (le, h), refl)))
      spelt-directed (alternation subs) o =
          Spells-choice whole walks end picks (back (length text) (MeansOne terminator text subs)) (build_sides (each_directed true slot subs))
          (spelt-sides subs (spelt-each subs o))

      spelt-each : (subs : Expressions) → AllOrdered subs → EachSpelt subs
      spelt-each nil o = tt
      spelt-each (cons sub subs) o = (spelt-directed sub o.0, spelt-each subs o.1)
