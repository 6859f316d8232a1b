-- What the cells of a lazy DFA hold.
use Rattle.std.proofs.Common.{◌≡◌, ◌≢◌, ℕ, zero, suc, ◌+◌, ◌-◌, ◌*◌, ◌%◌, ◌/◌, ◌≤◌, ◌<◌, inl, inr, List, [], ◌∷◌, ◌++◌, length, set, get_or, replicate, refl, sym, ◌∙◌, ap, subst, arith, true≢false}
use Rattle.std.proofs.lemmas.Bool.{cases_lt, cases_eq}
use Rattle.std.proofs.lemmas.List.{get_or-append_right}
use Rattle.std.proofs.lemmas.Nat.{div_below, div-mul-add, mod-mul-add}
use Rattle.std.proofs.lemmas.Option.{same_Some, get_or_from_slice_get}
use Rattle.std.proofs.Math.Logic.{∥∥₁_map}
use Rattle.std.specs.Prelude.{Bool, true, false, Option, Some, None, All, IfSome, IsTrue, slice_get, slice_index, nat_lt}
use Rattle.std.proofs.lemmas.Bool.Decides.{nat_tests}
use Rattle.rx_model.proofs.lemmas.runs.RunLemmas.{by_test}
use Rattle.rx_model.specs.Look as model
use Rattle.rx_model.specs.Look.{start_text, end_text, start_lf, end_lf, start_crlf, end_crlf, word_ascii, word_ascii_negate, word_unicode, word_unicode_negate, word_start_ascii, word_end_ascii, word_start_unicode, word_end_unicode, word_start_half_ascii, word_end_half_ascii, word_start_half_unicode, word_end_half_unicode}
use Rattle.rx_model.specs.Beside.{is_unicode_word, AreAlike}
use Rattle.rx_model.specs.Search.{Anchor}
use Rattle.rx_nfa.specs.ByteClasses.{AreOfOneClass}
use Rattle.rx_nfa.specs.Nfa.{Nfa}
use Rattle.rx_nfa.specs.NextMatch.{start_of}
use Rattle.rx_nfa.proofs.lemmas.classes.ApartLemmas.{one-class-looks}
use Rattle.rx_determinize.specs.Key.{Key, is_dead, step_key, end_key, start_key}
use Rattle.rx_determinize.specs.Sight.{class_kept, class_beside, stands_for}
use Rattle.rx_determinize.specs.Span.{loops_in}
use Rattle.rx_determinize.proofs.lemmas.OnceLemmas.{start-once, step-once}
use Rattle.rx_determinize.proofs.lemmas.SightLemmas.{class-steps}
use Rattle.rx_dfa.specs.Alphabet.{reads}
use Rattle.rx_dfa.specs.Automaton.{Dfa, IsSound, AsksForWords, MakesQuit, IsReadable, sight_of, key_from, first_key, next_key, last_key}
use Rattle.rx_dfa.specs.States.{IsReached}
use Rattle.rx_dfa.specs.Lazy.{LazyValue, StandsFor, row_of, IsNext, AreCells, IsLive, unknown, begun_key, key_after, column_of}
use Rattle.rx_dfa.proofs.lemmas.ChainLemmas.{got-old}
use Rattle.rx_dfa.proofs.lemmas.FitLemmas.{once-within}
use Rattle.rx_dfa.proofs.lemmas.ReachLemmas.{reached-first, reached-next, reached-last}

-- Lists.

pub got-left : {A : Type 0} (xs ys : List A) (i : ℕ) → i < length xs → slice_get (xs ++ ys) i ≡ slice_get xs i
got-left [] ys i lt = let no : ⊥ = omega arith in absurd no
got-left (x ∷ xs) ys zero lt = refl
got-left (x ∷ xs) ys (suc i) lt = got-left xs ys i (omega arith)

pub got-set_same : {A : Type 0} (xs : List A) (i : ℕ) (a : A) → i < length xs → slice_get (set xs i a) i ≡ Some a
got-set_same [] i a lt = let no : ⊥ = omega arith in absurd no
got-set_same (x ∷ xs) zero a lt = refl
got-set_same (x ∷ xs) (suc i) a lt = got-set_same xs i a (omega arith)

pub got-set_other : {A : Type 0} (xs : List A) (i j : ℕ) (a : A) → j ≢ i → slice_get (set xs i a) j ≡ slice_get xs j
got-set_other [] i j a apart = refl
got-set_other (x ∷ xs) zero zero a apart = absurd (apart refl)
got-set_other (x ∷ xs) zero (suc j) a apart = refl
got-set_other (x ∷ xs) (suc i) zero a apart = refl
got-set_other (x ∷ xs) (suc i) (suc j) a apart = got-set_other xs i j a (λ e. apart (ap suc e))

replicate-default : (n i u : ℕ) → get_or (replicate n u) i u ≡ u
replicate-default zero i u = refl
replicate-default (suc n) zero u = refl
replicate-default (suc n) (suc i) u = replicate-default n i u

replicated : (cells : List ℕ) (n u i x : ℕ) → length cells ≤ i → slice_get (cells ++ replicate n u) i ≡ Some x → x ≡ u
replicated cells n u i x past got =
    sym (get_or_from_slice_get (cells ++ replicate n u) i x u got)
    ∙ get_or-append_right cells (replicate n u) (length cells) i u refl past
    ∙ replicate-default n (i - length cells) u

-- More keys.

pub stands-grow : (stride : ℕ) (keys more : List Key) (state : ℕ) (k : Key) → StandsFor stride keys state k → StandsFor stride (keys ++ more) state k
stands-grow stride keys more state k (inl d) = inl d
stands-grow stride keys more state k (inr r) =
    inr (record { alive = r.alive; key = got-old keys more k (row_of stride state) r.key; small = r.small; is = r.is })

next-grows : (l : LazyValue) (keys more : List Key) (k : Key) (column state : ℕ) → IsNext l keys k column state → IsNext l (keys ++ more) k column state
next-grows l keys more k column state n = record {
  bytes = λ byte lt is. let b = n.bytes byte lt is in (b.0, stands-grow l.stride keys more state (next_key l.dfa k byte) b.1);
  end = λ is. stands-grow l.stride keys more state (last_key l.dfa k) (n.end is);
}

-- a row more, of which nothing is known
pub cells-grow : (l : LazyValue) (keys : List Key) (cells : List ℕ) (k : Key) → 0 < l.stride → length cells ≡ length keys * l.stride → AreCells l keys cells
    → AreCells l (keys ++ k ∷ []) (cells ++ replicate l.stride unknown)
cells-grow l keys cells k some len h i x row got known at =
    elim (cases_lt i (length cells)) [
      | inl old ↦
          let there : slice_get cells i ≡ Some x = sym (got-left cells (replicate l.stride unknown) i old) ∙ got in
          let within : i < length keys * l.stride = subst (λ n. i < n) len old in
          let below : i / l.stride < length keys = div_below i l.stride (length keys) some within in
          let key : slice_get keys (i / l.stride) ≡ Some row = sym (got-left keys (k ∷ []) (i / l.stride) below) ∙ at in
          next-grows l keys (k ∷ []) row (i % l.stride) x (h i x row there known key)
      | inr past ↦ absurd (known (replicated cells l.stride unknown i x past got))
    ]

-- a cell that is known now
pub cells-set : (l : LazyValue) (keys : List Key) (cells : List ℕ) (row column state : ℕ) → column < l.stride → row * l.stride + column < length cells
    → AreCells l keys cells → ((k : Key) → slice_get keys row ≡ Some k → IsNext l keys k column state)
    → AreCells l keys (set cells (row * l.stride + column) state)
cells-set l keys cells row column state narrow within h next i x k got known at =
    elim (cases_eq i (row * l.stride + column)) [
      | inl same ↦
          let own : slice_get (set cells (row * l.stride + column) state) i ≡ Some state =
          ap (slice_get (set cells (row * l.stride + column) state)) same ∙ got-set_same cells (row * l.stride + column) state within in
          let is : state ≡ x = same_Some state x (sym own ∙ got) in
          let on_row : i / l.stride ≡ row = ap (λ m. m / l.stride) same ∙ div-mul-add row l.stride column narrow in
          let in_column : i % l.stride ≡ column = ap (λ m. m % l.stride) same ∙ mod-mul-add row l.stride column narrow in
          subst (λ c. IsNext l keys k c x) (sym in_column)
          (subst (λ s. IsNext l keys k column s) is (next k (ap (slice_get keys) (sym on_row) ∙ at)))
      | inr apart ↦ h i x k (sym (got-set_other cells (row * l.stride + column) i state apart) ∙ got) known at
    ]

-- Bytes of one class.

alike-ascii : (terminator : ℕ) (kind : model.Look) (b c : ℕ) → IsTrue (is_unicode_word kind) → AreAlike terminator kind b c → nat_lt 127 b ≡ nat_lt 127 c
alike-ascii terminator start_text b c word h = absurd (true≢false (sym word))
alike-ascii terminator end_text b c word h = absurd (true≢false (sym word))
alike-ascii terminator start_lf b c word h = absurd (true≢false (sym word))
alike-ascii terminator end_lf b c word h = absurd (true≢false (sym word))
alike-ascii terminator start_crlf b c word h = absurd (true≢false (sym word))
alike-ascii terminator end_crlf b c word h = absurd (true≢false (sym word))
alike-ascii terminator word_ascii b c word h = absurd (true≢false (sym word))
alike-ascii terminator word_ascii_negate b c word h = absurd (true≢false (sym word))
alike-ascii terminator word_unicode b c word h = h.1
alike-ascii terminator word_unicode_negate b c word h = h.1
alike-ascii terminator word_start_ascii b c word h = absurd (true≢false (sym word))
alike-ascii terminator word_end_ascii b c word h = absurd (true≢false (sym word))
alike-ascii terminator word_start_unicode b c word h = h.1
alike-ascii terminator word_end_unicode b c word h = h.1
alike-ascii terminator word_start_half_ascii b c word h = absurd (true≢false (sym word))
alike-ascii terminator word_end_half_ascii b c word h = absurd (true≢false (sym word))
alike-ascii terminator word_start_half_unicode b c word h = h.1
alike-ascii terminator word_end_half_unicode b c word h = h.1

ascii-same : (b c : ℕ) → nat_lt 127 b ≡ nat_lt 127 c → b < 0x80 → c < 0x80
ascii-same b c h lt = grind (arith, nat_tests)

module _ (d : Dfa) (sound : IsSound d) where
  one-class : (b c : ℕ) → b < 256 → c < 256 → slice_index d.classes b ≡ slice_index d.classes c → AreOfOneClass d.nfa.classes b c
  one-class b c lb lc same = sound.serve.finer b c (record { first = lb; second = lc; same = same })

  readable-same : (b c : ℕ) → b < 256 → c < 256 → slice_index d.classes b ≡ slice_index d.classes c → IsReadable d.nfa (Some b) → IsReadable d.nfa (Some c)
  readable-same b c lb lc same readable kind asked word =
      ascii-same b c
      (alike-ascii d.nfa.terminator kind b c word (one-class-looks d.nfa sound.in_range b c kind (one-class b c lb lc same) asked))
      (readable kind asked word)

  next-same : (k : Key) → IsLive d k → (b c : ℕ) → b < 256 → c < 256 → slice_index d.classes b ≡ slice_index d.classes c → IsReadable d.nfa (Some b)
      → next_key d k b ≡ next_key d k c
  next-same k live b c lb lc same readable =
      class-steps d.nfa sound.in_range d.keeps d.classes d.bytes sound.serve b c (record { first = lb; second = lc; same = same }) d.nfa.reverse d.kind
      d.nfa.start_anchored k live.byte
      (λ look asked word. (live.readable look asked word, readable look asked word))

  kept-small : (o : ℕ) → o < 256 → IfSome (class_kept d.keeps d.classes d.bytes o) (λ b. b < 256)
  kept-small o lt =
      by_test d.keeps
      (λ e. rw e (sound.serve.stand.inside (slice_index d.classes o) (sound.serve.in_order o lt)))
      (λ e. rw e tt)

  kept-readable : (o : ℕ) → o < 256 → IsReadable d.nfa (Some o) → IsReadable d.nfa (class_kept d.keeps d.classes d.bytes o)
  kept-readable o lt readable kind asked word =
      let keeps : d.keeps ≡ true = sound.serve.kept kind asked in
      let least : stands_for d.classes d.bytes o ≤ o = sound.serve.stand.least (slice_index d.classes o) o (sound.serve.in_order o lt) lt refl in
      let small : o < 0x80 = readable kind asked word in
      rw keeps (ascii-below (stands_for d.classes d.bytes o) o least small)
    where
      ascii-below : (a b : ℕ) → a ≤ b → b < 0x80 → a < 0x80
      ascii-below a b le lt = omega arith

-- the key after a byte is one that a row may have, unless it is dead
pub live-next : (d : Dfa) → IsSound d → (k : Key) (byte : ℕ) → byte < 256 → IsReadable d.nfa (Some byte) → is_dead (next_key d k byte) ≡ false
    → All (λ q. q < length d.nfa.states) (next_key d k byte).threads → ∥ IsReached d k ∥₁ → IsLive d (next_key d k byte)
unfolding step_key
live-next d sound k byte lt readable alive below reached = record {
  alive = alive;
  reached = ∥∥₁_map reached (λ r. reached-next d k byte r (record { is_byte = lt; readable = readable }));
  below = below;
  few = once-within (length d.nfa.states) (next_key d k byte).threads (step-once d.kind d.nfa.states d.nfa.start_anchored (sight_of d) k byte) below;
  byte = kept-small d sound byte lt;
  readable = kept-readable d sound byte lt readable;
}

pub live-last : (d : Dfa) (k : Key) → is_dead (last_key d k) ≡ false → All (λ q. q < length d.nfa.states) (last_key d k).threads → ∥ IsReached d k ∥₁
    → IsLive d (last_key d k)
unfolding end_key
live-last d k alive below reached = record {
  alive = alive;
  reached = ∥∥₁_map reached (reached-last d k);
  below = below;
  few = omega arith;
  byte = tt;
  readable = λ kind asked word. tt;
}

pub live-start : (d : Dfa) (start : ℕ) (loops : Bool) (before : Option ℕ) → is_dead (start_key d.kind d.nfa.states start loops before) ≡ false
    → All (λ q. q < length d.nfa.states) (start_key d.kind d.nfa.states start loops before).threads → IfSome before (λ b. b < 256) → IsReadable d.nfa before
    → ∥ IsReached d (start_key d.kind d.nfa.states start loops before) ∥₁ → IsLive d (start_key d.kind d.nfa.states start loops before)
unfolding start_key
live-start d start loops before alive below byte readable reached = record {
  alive = alive;
  reached = reached;
  below = below;
  few = once-within (length d.nfa.states) (start_key d.kind d.nfa.states start loops before).threads (start-once d.kind d.nfa.states start loops before) below;
  byte = byte;
  readable = readable;
}

-- what a row may note of its column
pub next-of : (l : LazyValue) → IsSound l.dfa → (keys : List Key) (k : Key) → IsLive l.dfa k → (byte : Option ℕ) → IfSome byte (λ b. b < 256)
    → IsReadable l.dfa.nfa byte → (state : ℕ) → StandsFor l.stride keys state (key_after l.dfa k byte) → IsNext l keys k (column_of l.dfa byte) state
next-of l sound keys k live None small readable state stands = record {
  bytes = λ c lt is. absurd (not-end c lt is);
  end = λ is. stands;
}
  where
    not-end : (c : ℕ) → c < 256 → slice_index l.dfa.classes c ≡ length l.dfa.bytes → ⊥
    not-end c lt is = let low : slice_index l.dfa.classes c < length l.dfa.bytes = sound.serve.in_order c lt in omega arith
next-of l sound keys k live (Some b) small readable state stands = record {
  bytes = λ c lt is. (
    readable-same l.dfa sound b c small lt (sym is) readable,
    subst (StandsFor l.stride keys state) (next-same l.dfa sound k live b c small lt (sym is) readable) stands,
  );
  end = λ is. absurd (not-end is);
}
  where
    not-end : slice_index l.dfa.classes b ≡ length l.dfa.bytes → ⊥
    not-end is = let low : slice_index l.dfa.classes b < length l.dfa.bytes = sound.serve.in_order b small in omega arith

-- and what a known cell tells
pub next-told : (l : LazyValue) (keys : List Key) (k : Key) (byte : Option ℕ) → IfSome byte (λ b. b < 256) → (state : ℕ)
    → IsNext l keys k (column_of l.dfa byte) state → StandsFor l.stride keys state (key_after l.dfa k byte) × IsReadable l.dfa.nfa byte
next-told l keys k None small state n = (n.end refl, λ kind asked word. tt)
next-told l keys k (Some b) small state n = let told = n.bytes b small refl in (told.1, told.0)

-- the key after a byte, or after the end of input, is one that a row may have, unless it is dead
pub live-after : (d : Dfa) → IsSound d → (k : Key) (byte : Option ℕ) → IfSome byte (λ b. b < 256) → IsReadable d.nfa byte → is_dead (key_after d k byte) ≡ false
    → All (λ q. q < length d.nfa.states) (key_after d k byte).threads → ∥ IsReached d k ∥₁ → IsLive d (key_after d k byte)
live-after d sound k None small readable alive below reached = live-last d k alive below reached
live-after d sound k (Some b) small readable alive below reached = live-next d sound k b small readable alive below reached

-- Bytes that are read.

ascii-true : (b : ℕ) → nat_lt b 128 ≡ true → b < 0x80
ascii-true b h = grind (arith, nat_tests)

ascii-false : (b : ℕ) → nat_lt b 128 ≡ false → 0x7F < b
ascii-false b h = grind (arith, nat_tests)

pub reads-readable : (nfa : Nfa) (words : Bool) (b : ℕ) → (words ≡ false → AsksForWords nfa → ⊥)
    → reads words b ≡ true → IsReadable nfa (Some b)
reads-readable nfa true b none h kind asked word = ascii-true b h
reads-readable nfa false b none h kind asked word = absurd (none refl (kind, asked, word))

pub reads-quits : (nfa : Nfa) (words : Bool) (b : ℕ) → (words ≡ true → AsksForWords nfa) → reads words b ≡ false → MakesQuit nfa b
reads-quits nfa true b asks h = (asks refl, ascii-false b h)
reads-quits nfa false b asks h = absurd (true≢false h)

-- what is kept of a byte beside a start is readable as the byte is
pub beside-readable : (d : Dfa) → IsSound d → (o : Option ℕ) → IfSome o (λ b. b < 256) → IsReadable d.nfa o
    → IsReadable d.nfa (class_beside d.keeps d.classes d.bytes o)
beside-readable d sound None small readable kind asked word = tt
beside-readable d sound (Some b) small readable kind asked word = kept-readable d sound b small readable kind asked word

-- the key of a mode's start beside a byte that is read is one that is come to
pub begun-reached : (d : Dfa) (anchor : Anchor) (beside : Option ℕ) (start : ℕ) (loops : Bool) (before : Option ℕ)
    → Some start ≡ start_of d.nfa anchor → loops ≡ loops_in anchor → before ≡ class_beside d.keeps d.classes d.bytes beside
    → IfSome beside (λ b. b < 256) → IsReadable d.nfa beside → ∥ IsReached d (begun_key d start loops before) ∥₁
begun-reached d anchor beside start loops before begins mode kept small readable =
    let is : first_key d anchor beside ≡ begun_key d start loops before =
    (λ j. key_from d.kind d.nfa.states (sym mode j) (sym kept j) (sym begins j)) in
    ∣ subst (IsReached d) is (reached-first d anchor beside (record { is_byte = small; readable = readable })) ∣₁
