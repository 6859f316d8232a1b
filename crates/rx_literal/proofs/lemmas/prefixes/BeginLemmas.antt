-- What an expression means begins with one of its prefixes.
use Rattle.std.proofs.Common.{◌≡◌, ℕ, zero, suc, ◌+◌, ◌≤◌, ◌<◌, min, true, ◌&&◌, List, [], ◌∷◌, ◌++◌, length, take, drop, Some, refl, sym, ap, ◌∙◌, subst, inl, inr, arith, length-append, append_assoc}
use Rattle.std.specs.Prelude.{nat_lt, nat_le, nat_eq, encode_utf8, slice_index}
use Rattle.std.specs.Char.{IsScalar, len_utf8}
use Rattle.std.proofs.lemmas.Bool.{and_parts}
use Rattle.std.proofs.lemmas.Bool.Decides.{nat_tests}
use Rattle.std.proofs.lemmas.List.{take-append-drop, length-take-le, drop_more}
use Rattle.std.proofs.lemmas.Str.{length-encode}
use Rattle.rx_model.specs.Text.{Class, stands_at, scalar_ranges, byte_ranges, member_len}
use Rattle.rx_model.specs.Expression.{Expression, Expressions, empty, literal, class, look, repetition, capture, concat, alternation, nil, cons}
use Rattle.rx_model.specs.Meaning.{Pieces, Means, MeansInTurn, MeansOne}
use Rattle.rx_model.proofs.lemmas.runs.RunLemmas.{by_test}
use Rattle.rx_model.proofs.lemmas.meaning.CharLemmas.{stands_at_parts, stands_at_from, member_len-is, byte_len-is}
use Rattle.rx_model.proofs.lemmas.meaning.EmptyLemmas.{means-rises}
use Rattle.rx_class.specs.Ranges.{next_scalar, next_byte}
use Rattle.rx_literal.specs.Literals.{Literal, exact, inexact, Seq, loose, cut, one_empty, loosened, extended, cross_on, cross_times}
use Rattle.rx_literal.specs.declared.side.Side.TheVariants.{Front as front}
use Rattle.rx_literal.specs.Extract.{literals, in_turn, of_one, prefixes, prefixes_of, class_literals, copies}
use Rattle.rx_literal.specs.Spans.{MeansSome, Begins, OneIn}
use Rattle.rx_literal.proofs.lemmas.prefixes.OneLemmas.{union-left, union-right, loosened-in, cross_on-in}
use Rattle.rx_literal.proofs.lemmas.prefixes.ClassLemmas.{class-in, scalar_step, byte_step}
use Rattle.rx_literal.proofs.lemmas.prefixes.PieceLemmas.{first-pieces, repeated-in}

module _ (text : List ℕ) where
  pub begins-loose : (i k j : ℕ) → k ≤ j → (l : Literal) → Begins text i k l → Begins text i j (loose l)
  begins-loose i k j le (exact s) b = let ends = b.1 in (b.0, omega arith)
  begins-loose i k j le (inexact s) b = let ends = b.1 in (b.0, omega arith)

  -- the first bytes of what stands there stand there
  pub stands-take : (i n : ℕ) (s : List ℕ) → stands_at text i s ≡ true → stands_at text i (take n s) ≡ true
  stands-take i n s h =
      let rest = drop (i + length s) text in
      stands_at_from text i (take n s) (drop n s ++ rest)
      (stands_at_parts text i s h ∙ ap (λ x. x ++ rest) (sym (take-append-drop n s)) ∙ append_assoc (take n s) (drop n s) rest)

  pub stands-append : (i : ℕ) (s t : List ℕ) → stands_at text i s ≡ true → stands_at text (i + length s) t ≡ true → stands_at text i (s ++ t) ≡ true
  stands-append i s t h g =
      let rest = drop (i + length s + length t) text in
      stands_at_from text i (s ++ t) rest
      (stands_at_parts text i s h ∙ ap (λ x. s ++ x) (stands_at_parts text (i + length s) t g) ∙ sym (append_assoc s t rest))

  pub stands-none : (i : ℕ) → stands_at text i [] ≡ true
  unfolding stands_at
  stands-none i = refl

  pub begins-cut : (n i j : ℕ) (l : Literal) → Begins text i j l → Begins text i j (cut front n l)
  unfolding cut
  begins-cut n i j (exact s) b =
      by_test (nat_lt n (length s))
      (λ e.
      let lt : n < length s = grind (arith, nat_tests) in
      let long : length (take n s) ≡ n = length-take-le n s (omega arith) in
      let ends = b.1 in
      rw e (stands-take i n s b.0, omega arith))
      (λ e. rw e b)
  begins-cut n i j (inexact s) b =
      by_test (nat_lt n (length s))
      (λ e.
      let lt : n < length s = grind (arith, nat_tests) in
      let long : length (take n s) ≡ n = length-take-le n s (omega arith) in
      let ends = b.1 in
      rw e (stands-take i n s b.0, omega arith))
      (λ e. rw e b)

  begins-extended : (i k j : ℕ) (s : List ℕ) (t : Literal) → Begins text i k (exact s) → Begins text k j t → Begins text i j (extended front s t)
  begins-extended i k j s (exact t) b c =
      let ends = c.1 in
      let met = b.1 in
      let long = length-append s t in
      (stands-append i s t b.0 (subst (λ x. stands_at text x t ≡ true) (sym b.1) c.0), omega arith)
  begins-extended i k j s (inexact t) b c =
      let ends = c.1 in
      let met = b.1 in
      let long = length-append s t in
      (stands-append i s t b.0 (subst (λ x. stands_at text x t ≡ true) (sym b.1) c.0), omega arith)

  begins-cross_on : (i k j : ℕ) → k ≤ j → (ss ts : Seq) → OneIn (Begins text i k) ss → OneIn (Begins text k j) ts
      → OneIn (Begins text i j) (cross_on front ss ts)
  begins-cross_on i k j le ss ts r q =
      cross_on-in front (Begins text i k) (Begins text k j) (Begins text i j)
      (λ s t b c. begins-cut 100 i j (extended front s t) (begins-extended i k j s t b c))
      (λ l b. begins-loose i k j le l b) ss ts r q

  pub begins-empty : (i j : ℕ) → i ≡ j → OneIn (Begins text i j) one_empty
  begins-empty i j e = inl (stands-none i, omega arith)

  -- one of a class is the whole of what the class means
  pub class-whole : (P : Literal → Type 0) (c : Class) (i j n : ℕ) → ((s : List ℕ) → stands_at text i s ≡ true → i + length s ≡ j → P (exact s))
      → member_len text c i ≡ Some n → i + n ≡ j → OneIn P (class_literals c)
  unfolding class_literals
  class-whole P (scalar_ranges rs) i j n whole h e =
      let m = member_len-is text rs i n h in
      let long : length (encode_utf8 m.0) ≡ len_utf8 m.0 = length-encode m.0 in
      let is = m.3 in
      let goes : drop i text ≡ encode_utf8 m.0 ++ drop n (drop i text) = sym (take-append-drop n (drop i text)) ∙ ap (λ bs. bs ++ drop n (drop i text)) m.4 in
      class-in next_scalar IsScalar scalar_step P encode_utf8 rs m.0 m.1 m.2
      (whole (encode_utf8 m.0) (stands_at_from text i (encode_utf8 m.0) (drop n (drop i text)) goes) (omega arith))
  class-whole P (byte_ranges rs) i j n whole h e =
      let m = byte_len-is text rs i n h in
      let is = m.0 in
      class-in next_byte (λ b. Unit {0}) byte_step P (λ b. b ∷ []) rs (slice_index text i) tt m.2
      (whole (slice_index text i ∷ []) (stands_at_from text i (slice_index text i ∷ []) (drop (i + 1) text) (drop_more text i _ m.1)) (omega arith))

  begins-times : (R : ℕ → ℕ → Type 0) → ((a b : ℕ) → R a b → a ≤ b) → (ts : Seq) → ((a b : ℕ) → R a b → OneIn (Begins text a b) ts)
      → (c at i j : ℕ) (ss : Seq) → OneIn (Begins text at i) ss → Pieces R c i j → OneIn (Begins text at j) (cross_times front c ss ts)
  begins-times R rises ts each zero at i j ss b p = subst (λ x. OneIn (Begins text at x) ss) p b
  begins-times R rises ts each (suc c) at i j ss b p =
      begins-times R rises ts each c at p.0 j (cross_on front ss ts) (begins-cross_on at i p.0 (rises i p.0 p.1) ss ts b (each i p.0 p.1)) p.2

  begins-copies : (R : ℕ → ℕ → Type 0) → ((a b : ℕ) → R a b → a ≤ b) → (ts : Seq) → ((a b : ℕ) → R a b → OneIn (Begins text a b) ts)
      → (least most n i j : ℕ) → least ≤ n → n ≤ most → Pieces R n i j → OneIn (Begins text i j) (copies front least most ts)
  unfolding copies
  begins-copies R rises ts each least most n i j low high p =
      by_test (nat_eq least most && nat_le least 10)
      (λ e.
      let both = and_parts (nat_eq least most) (nat_le least 10) e in
      let is : n ≡ min least 10 = grind (arith, nat_tests) in
      rw e (begins-times R rises ts each (min least 10) i i j one_empty (begins-empty i i refl) (subst (λ m. Pieces R m i j) is p)))
      (λ e.
      let few : min least 10 ≤ n = omega arith in
      let x = first-pieces R rises (min least 10) n i j few p in
      rw e (loosened-in (Begins text i x.0) (Begins text i j) (λ l b. begins-loose i x.0 j x.2 l b) (cross_times front (min least 10) one_empty ts)
      (begins-times R rises ts each (min least 10) i i x.0 one_empty (begins-empty i i refl) x.1)))

  -- the first piece's, loosened
  begins-first : (R : ℕ → ℕ → Type 0) → ((a b : ℕ) → R a b → a ≤ b) → (ts : Seq) → ((a b : ℕ) → R a b → OneIn (Begins text a b) ts)
      → (n i j : ℕ) → 1 ≤ n → Pieces R n i j → OneIn (Begins text i j) (loosened ts)
  begins-first R rises ts each n i j le p =
      let x = first-pieces R rises 1 n i j le p in
      let one : R i x.0 = subst (λ m. R i m) x.1.2 x.1.1 in
      loosened-in (Begins text i x.0) (Begins text i j) (λ l b. begins-loose i x.0 j x.2 l b) ts (each i x.0 one)

  module _ (terminator : ℕ) where
    mutual
      unfolding Means literals

      pub means-begins : (h : Expression) (i j : ℕ) → Means terminator text h i j → OneIn (Begins text i j) (literals front h)
      means-begins empty i j m = begins-empty i j m
      means-begins (literal bytes) i j m = inl (begins-cut 100 i j (exact bytes) m)
      means-begins (class members) i j m = class-whole (Begins text i j) members i j m.0 (λ s stands ends. (stands, ends)) m.1 m.2
      means-begins (look kind) i j m = begins-empty i j m.1
      means-begins (repetition least most greedy sub) i j m =
          let R = Means terminator text sub in
          let ts = literals front sub in
          let rises : (a b : ℕ) → R a b → a ≤ b = λ a b piece. means-rises terminator text sub a b piece in
          let each : (a b : ℕ) → R a b → OneIn (Begins text a b) ts = λ a b piece. means-begins sub a b piece in
          repeated-in front (Begins text i j) R ts i j (begins-empty i j) (λ n le p. begins-first R rises ts each n i j le p)
          (λ piece. each i j piece) (λ low high n le ge p. begins-copies R rises ts each low high n i j le ge p) least most greedy m.0 m.1 m.2
      means-begins (capture group name sub) i j m = means-begins sub i j m
      means-begins (concat subs) i j m = in_turn-begins subs i i j one_empty (begins-empty i i refl) m
      means-begins (alternation subs) i j m = one-begins subs i j m

      in_turn-begins : (hs : Expressions) (at i j : ℕ) (ss : Seq) → OneIn (Begins text at i) ss → MeansInTurn terminator text hs i j
          → OneIn (Begins text at j) (in_turn front ss hs)
      in_turn-begins nil at i j ss b m = subst (λ x. OneIn (Begins text at x) ss) m b
      in_turn-begins (cons sub subs) at i j ss b m =
          in_turn-begins subs at m.0 j (cross_on front ss (literals front sub))
          (begins-cross_on at i m.0 (means-rises terminator text sub i m.0 m.1) ss (literals front sub) b (means-begins sub i m.0 m.1)) m.2

      one-begins : (hs : Expressions) (i j : ℕ) → MeansOne terminator text hs i j → OneIn (Begins text i j) (of_one front hs)
      one-begins nil i j m = absurd m
      one-begins (cons sub subs) i j m = elim m [
        | inl is ↦ union-left (Begins text i j) (literals front sub) (of_one front subs) (means-begins sub i j is)
        | inr is ↦ union-right (Begins text i j) (literals front sub) (of_one front subs) (one-begins subs i j is)
      ]

    -- what one of several patterns means
    pub some-begins : (hs : List Expression) (i j : ℕ) → MeansSome terminator text hs i j → OneIn (Begins text i j) (prefixes_of hs)
    some-begins [] i j m = absurd m
    some-begins (h ∷ hs) i j m = elim m [
      | inl is ↦ union-left (Begins text i j) (prefixes h) (prefixes_of hs) (means-begins h i j is)
      | inr is ↦ union-right (Begins text i j) (prefixes h) (prefixes_of hs) (some-begins hs i j is)
    ]
