-- Needles of one byte, and one needle.
use Rattle.std.proofs.Common.{◌≡◌, ◌≢◌, if◌then◌else◌, slice_index_or, get_or, take, set, ℕ, ◌+◌, ◌<◌, ◌≤◌, Bool, true, false, ◌||◌, ◌==◌, List, [], ◌∷◌, Option, None, Some, length, drop, map, slice_index, refl, sym, ap, subst, ◌∙◌, arith, ⊎_elim, length-drop}
use Rattle.std.specs.Option.{option_map, IfSome}
use Rattle.std.proofs.lemmas.Bool.{cases_Bool, cases_lt, cond-true, cond-false, cases_eq, false≢true, eq-eqb, ne_eqb}
use Rattle.std.proofs.lemmas.List.{get_or-drop, get_or-set_same, get_or-set_other}
use Rattle.std.proofs.lemmas.List.Folds.{list_any_more}
use Rattle.memchr.specs.Find.{occurs_at, OccursAt, IsFirstByte, Passes, FindsNeedle}
use Rattle.memchr.proofs.lemmas.MatchLemmas.{occurs_at-true, OccursAt-true}
use Rattle.rx_search.specs.declared.span.Span.{Span}
use Rattle.rx_prefilter.specs.Needles.{needle_span, span_at, first_span, NoneLies}
use Rattle.rx_prefilter.specs.Bytes.{single, byte_span, is_one_of, HasTable, marks_at, NoneMarked}
use Rattle.rx_prefilter.specs.Choices.{greatest_length}
use Rattle.rx_prefilter.proofs.NeedleLemmas.{span_at-nil, span_at-here, span_at-next, first_span-first, first_span-skip, first_span-here, first_span-end}
use Rattle.std.proofs.Math.Bool.{or-true, or-false}

pub occurs_at-false : (text needle : List ℕ) (at : ℕ) → ¬ OccursAt text needle at → occurs_at text needle at ≡ false
occurs_at-false text needle at not = ⊎_elim (λ yes_is. absurd (not (OccursAt-true text needle at yes_is))) (λ no_is. no_is)
    (cases_Bool (occurs_at text needle at))

one_of-same : (bs : List ℕ) (x b : ℕ) → x ≡ b → is_one_of (b ∷ bs) x ≡ true
one_of-same bs x b e = ap (λ t. t || is_one_of bs x) (eq-eqb b x (sym e))

one_of-other : (bs : List ℕ) (x b : ℕ) → (x ≡ b → ⊥) → is_one_of (b ∷ bs) x ≡ is_one_of bs x
one_of-other bs x b other = ap (λ t. t || is_one_of bs x) (ne_eqb b x (λ e. other (sym e)))

module _ (text : List ℕ) (at : ℕ) where
  stands : (b : ℕ) → at < length text → slice_index text at ≡ b → occurs_at text (single b) at ≡ true
  stands b within e = occurs_at-true text (single b) at record {
    fits = omega arith;
    reads = λ j l. let z : j ≡ 0 = omega arith in rw z (let s : at + 0 ≡ at = omega arith in rw s e);
  }

  stands_not : (b : ℕ) → (at < length text → slice_index text at ≡ b → ⊥) → occurs_at text (single b) at ≡ false
  stands_not b not = occurs_at-false text (single b) at (λ o.
      let s : at + 0 ≡ at = omega arith in
      not (omega (arith, o.fits)) (rw s at (o.reads 0 (omega arith))))

  -- a byte of the list stands at the place
  pub span_at-byte : (bs : List ℕ) → at < length text → is_one_of bs (slice_index text at) ≡ true → span_at (map single bs) text at ≡ Some (byte_span at)
  span_at-byte [] within e = absurd (false≢true e)
  span_at-byte (b ∷ bs) within e =
      ⊎_elim
      (λ same. span_at-here text at (single b) (map single bs) (stands b within same))
      (λ other. span_at-next text at (single b) (map single bs) (stands_not b (λ _ same. other same))
      ∙ span_at-byte bs within (sym (one_of-other bs _ b other) ∙ e))
      (cases_eq (slice_index text at) b)

  -- none does
  pub span_at-no_byte : (bs : List ℕ) → (at < length text → is_one_of bs (slice_index text at) ≡ false) → span_at (map single bs) text at ≡ None
  span_at-no_byte [] e = span_at-nil text at
  span_at-no_byte (b ∷ bs) e =
      span_at-next text at (single b) (map single bs) (stands_not b (λ within same. false≢true (sym (e within) ∙ one_of-same bs _ b same)))
      ∙ span_at-no_byte bs (λ within. ⊎_elim
      (λ same. absurd (false≢true (sym (e within) ∙ one_of-same bs _ b same)))
      (λ other. sym (one_of-other bs _ b other) ∙ e within)
      (cases_eq (slice_index text at) b))

  -- it is one byte's test that tells
  pub span_at-bytes : (bs : List ℕ) → at < length text → span_at (map single bs) text
      at ≡ (if is_one_of bs (slice_index text at) then Some (byte_span at) else None)
  span_at-bytes bs within =
      let there : Option Span = Some (byte_span at) in
      ⊎_elim
      (λ yes_is. span_at-byte bs within yes_is ∙ sym (cond-true _ there None yes_is))
      (λ no_is. span_at-no_byte bs (λ _. no_is) ∙ sym (cond-false _ there None no_is))
      (cases_Bool (is_one_of bs (slice_index text at)))

  pub span_at-end : (bs : List ℕ) → length text ≤ at → span_at (map single bs) text at ≡ None
  span_at-end bs past = span_at-no_byte bs (λ within. absurd (omega arith))

-- a table takes one byte more of the list
pub table_more : (table : List Bool) (bytes : List ℕ) (i b : ℕ) → i < length bytes → length table ≡ 256 → b ≡ get_or bytes i 0
    → ((x : ℕ) → x < 256 → slice_index_or table x false ≡ is_one_of (take i bytes) x)
    → (x : ℕ) → x < 256 → slice_index_or (set table b true) x false ≡ is_one_of (take (i + 1) bytes) x
table_more table bytes i b l long is before x fits =
    let p : ℕ → Bool = λ y. y == x in
    let more : is_one_of (take (i + 1) bytes) x ≡ (is_one_of (take i bytes) x || b == x) =
    list_any_more p bytes i 0 l ∙ ap (λ y. is_one_of (take i bytes) x || y == x) (sym is) in
    let old = before x fits in
    ⊎_elim
    (λ same. let within : b < length table = omega arith in
    rw same (get_or-set_same table b true false within)
    ∙ sym (more ∙ ap (λ t. is_one_of (take i bytes) x || t) (eq-eqb b x (sym same)) ∙ or-true (is_one_of (take i bytes) x)))
    (λ other. get_or-set_other table b x true false other ∙ old
    ∙ sym (more ∙ ap (λ t. is_one_of (take i bytes) x || t) (ne_eqb b x (λ e. other (sym e))) ∙ or-false (is_one_of (take i bytes) x)))
    (cases_eq x b)

-- the tests of up to three bytes
turned : (a x : ℕ) → (x == a) ≡ (a == x)
turned a x = ⊎_elim (λ e. eq-eqb x a e ∙ sym (eq-eqb a x (sym e))) (λ e. ne_eqb x a e ∙ sym (ne_eqb a x (λ r. e (sym r)))) (cases_eq x a)

pub is_one_of-one : (a x : ℕ) → (x == a) ≡ is_one_of (a ∷ []) x
is_one_of-one a x = turned a x ∙ ⊎_elim (λ e. rw e refl) (λ e. rw e refl) (cases_Bool (a == x))

pub is_one_of-two : (a b x : ℕ) → (x == a || x == b) ≡ is_one_of (a ∷ b ∷ []) x
is_one_of-two a b x = ap (λ t. t || x == b) (turned a x) ∙ ap (λ t. a == x || t) (is_one_of-one b x)

pub is_one_of-three : (a b c x : ℕ) → (x == a || x == b || x == c) ≡ is_one_of (a ∷ b ∷ c ∷ []) x
is_one_of-three a b c x =
    let grouped : (p q r : Bool) → (p || q || r) ≡ (p || (q || r)) = λ p q r. elim p as (λ b. (b || q || r) ≡ (b || (q || r))) [ true ↦ refl | false ↦ refl ] in
    grouped (x == a) (x == b) (x == c) ∙ ap (λ t. t || (x == b || x == c)) (turned a x) ∙ ap (λ t. a == x || t) (is_one_of-two b c x)

-- the first byte of what stands from a place on that is one of the list's
pub first_span-bytes : (bs : List ℕ) (test : ℕ → Bool) → ((x : ℕ) → test x ≡ is_one_of bs x) → (text : List ℕ) (from : ℕ) → from ≤ length text
    → (r : Option ℕ) → IsFirstByte test (drop from text) r → first_span (map single bs) text from ≡ option_map (λ k. byte_span (from + k)) r
first_span-bytes bs test same text from le r first =
    let long = length-drop from text in
    let read : (k : ℕ) → slice_index (drop from text) k ≡ slice_index text (from + k) = λ k. get_or-drop from text k 0 in
    first_span-first (map single bs) text from (length (drop from text)) (Passes test (drop from text)) (λ k. byte_span (from + k)) le
    (λ k l. omega arith)
    (λ k l. span_at-no_byte text (from + k) bs (λ within. absurd (omega arith)))
    (λ k fails. span_at-no_byte text (from + k) bs (λ within. ⊎_elim
    (λ yes_is. absurd (fails (same _ ∙ ap (is_one_of bs) (read k) ∙ yes_is)))
    (λ no_is. no_is)
    (cases_Bool (is_one_of bs (slice_index text (from + k))))))
    (λ k l passes. span_at-byte text (from + k) bs (omega arith) (sym (same _ ∙ ap (is_one_of bs) (read k)) ∙ passes))
    r first

-- the first place from a place on at which the one needle occurs
pub first_span-needle : (needle text : List ℕ) (from : ℕ) → from ≤ length text → (r : Option ℕ) → FindsNeedle (drop from text) needle 0 r
    → first_span (needle ∷ []) text from ≡ option_map (λ k. needle_span needle (from + k)) r
first_span-needle needle text from le r first =
    let long = length-drop from text in
    let read : (k : ℕ) → slice_index (drop from text) k ≡ slice_index text (from + k) = λ k. get_or-drop from text k 0 in
    let there : (k : ℕ) → OccursAt text needle (from + k) → OccursAt (drop from text) needle k =
    λ k o. record {
      fits = omega (arith, o.fits, long);
      reads = λ j l. let s : from + (k + j) ≡ from + k + j = omega arith in read (k + j) ∙ ap (slice_index text) s ∙ o.reads j l;
    } in
    let back : (k : ℕ) → OccursAt (drop from text) needle k → OccursAt text needle (from + k) =
    λ k o. record {
      fits = omega (arith, o.fits, long);
      reads = λ j l. let s : from + k + j ≡ from + (k + j) = omega arith in ap (slice_index text) s ∙ sym (read (k + j)) ∙ o.reads j l;
    } in
    first_span-first (needle ∷ []) text from (length (drop from text) + 1) (OccursAt (drop from text) needle) (λ k. needle_span needle (from + k)) le
    (λ k l. omega arith)
    (λ k l. span_at-next text (from + k) needle [] (occurs_at-false text needle (from + k) (λ o. absurd (omega (arith, o.fits)))) ∙ span_at-nil text (from + k))
    (λ k fails. span_at-next text (from + k) needle [] (occurs_at-false text needle (from + k) (λ o. fails (there k o))) ∙ span_at-nil text (from + k))
    (λ k l o. span_at-here text (from + k) needle [] (occurs_at-true text needle (from + k) (back k o)))
    r first

-- a place that was found lies before the text's end
pub found_within : (test : ℕ → Bool) (text : List ℕ) (from bound : ℕ) → from ≤ length text → length text < bound → (r : Option ℕ)
    → IsFirstByte test (drop from text) r → IfSome r (λ k. from + k + 1 < bound)
found_within test text from bound le fits None first = tt
found_within test text from bound le fits (Some k) first = let high = first.0.high in omega (arith, length-drop from text)

pub greatest_length-single : (bs : List ℕ) → length bs ≢ 0 → greatest_length (map single bs) ≡ 1
greatest_length-single [] some = absurd (some refl)
greatest_length-single (b ∷ []) some = omega arith
greatest_length-single (b ∷ c ∷ bs) some = let rest = greatest_length-single (c ∷ bs) (λ e. absurd (omega arith)) in omega (arith, rest)

-- a table of bytes along a text
module _ (table : List Bool) (text : List ℕ) where
  pub none_yet : (from : ℕ) → NoneMarked table text from from
  unfolding NoneMarked
  none_yet from k a b = absurd (omega arith)

  pub none_more : (from at to : ℕ) → to ≡ at + 1 → NoneMarked table text from at → marks_at table text at ≡ false → NoneMarked table text from to
  unfolding NoneMarked
  none_more from at to e none here k a b =
      ⊎_elim
      (λ below. none k a below)
      (λ above. let same : at ≡ k = omega arith in subst (λ j. marks_at table text j ≡ false) same here)
      (cases_lt k at)

  pub none_both : (from middle to : ℕ) → NoneMarked table text from middle → NoneMarked table text middle to → NoneMarked table text from to
  unfolding NoneMarked
  none_both from middle to before after k a b = ⊎_elim (λ below. before k a below) (λ above. after k above b) (cases_lt k middle)

  none_at : (bytes : List ℕ) → HasTable table bytes → ((k : ℕ) → slice_index text k < 256) → (from to : ℕ) → NoneMarked table text from to
      → (k : ℕ) → from ≤ k → k < to → NoneLies (map single bytes) text k
  unfolding NoneMarked
  none_at bytes has fits from to none k a b =
      span_at-no_byte text k bytes (λ within. sym (has.each (slice_index text k) (fits k)) ∙ none k a b)

  -- the first byte that the table has
  pub first_span-marked : (bytes : List ℕ) → HasTable table bytes → ((k : ℕ) → slice_index text k < 256) → (from at : ℕ) → from ≤ at → at < length text
      → NoneMarked table text from at → marks_at table text at ≡ true → first_span (map single bytes) text from ≡ Some (byte_span at)
  first_span-marked bytes has fits from at order within none there =
      first_span-skip (map single bytes) text from at order (omega arith) (none_at bytes has fits from at none)
      ∙ first_span-here (map single bytes) text at (byte_span at) (omega arith)
      (span_at-byte text at bytes within (sym (has.each (slice_index text at) (fits at)) ∙ there))

  -- none before the end
  pub first_span-unmarked : (bytes : List ℕ) → HasTable table bytes → ((k : ℕ) → slice_index text k < 256) → (from at : ℕ) → from ≤ at → at ≡ length text
      → NoneMarked table text from at → first_span (map single bytes) text from ≡ None
  first_span-unmarked bytes has fits from at order end none =
      first_span-skip (map single bytes) text from at order (omega arith) (none_at bytes has fits from at none)
      ∙ first_span-end (map single bytes) text at end ∙ span_at-end text at bytes (omega arith)
