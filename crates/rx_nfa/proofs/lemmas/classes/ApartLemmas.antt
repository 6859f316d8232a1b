-- Bytes of one class are told apart by nothing.
use Rattle.std.proofs.Common.{◌≡◌, ℕ, zero, suc, ◌+◌, ◌-◌, ◌<◌, ◌≤◌, List, [], ◌∷◌, length, Some, None, refl, sym, ◌∙◌, ap, ⊎_elim, arith, true≢false}
use Rattle.std.specs.Prelude.{Bool, true, false, ◌||◌, ◌&&◌, ◌==◌, if◌then◌else◌, map, nat_le, nat_lt, slice_index}
use Rattle.std.specs.List.{list_any}
use Rattle.std.proofs.lemmas.Bool.{cases_lt, or_parts}
use Rattle.std.proofs.lemmas.Bool.Decides.{nat_tests}
use Rattle.std.proofs.lemmas.Option.{none-some, same_Some}
use Rattle.unicode.specs.Perl.{is_word_byte}
use Rattle.rx_model.specs.Look as model
use Rattle.rx_model.specs.Look.{look_number, look_of, look-back, start_text, end_text, start_lf, end_lf, start_crlf, end_crlf, word_ascii, word_ascii_negate, word_unicode, word_unicode_negate, word_start_ascii, word_end_ascii, word_start_unicode, word_end_unicode, word_start_half_ascii, word_end_half_ascii, word_start_half_unicode, word_end_half_unicode, holds, byte_before, byte_after}
use Rattle.rx_model.proofs.lemmas.runs.RunLemmas.{by_test}
use Rattle.rx_search.specs.ByteClasses.{class_of, is_edge}
use Rattle.rx_search.specs.Look.{kind_of, is_same_kind}
use Rattle.rx_search.specs.LookSet.{has}
use Rattle.rx_nfa.specs.Automaton.{at, route, target_of, Surroundings, onward, state_at, asks_for, automaton_over}
use Rattle.rx_nfa.specs.ByteClasses.{is_word_edge, is_char_edge, is_crlf_edge, look_ends, transitions_end, state_ends, class_ends, AreClassesOf, AreOfOneClass}
use Rattle.rx_nfa.specs.Nfa.{Nfa, IsInRange}
use Rattle.rx_nfa.specs.Row.{reading, transition_to}
use Rattle.rx_nfa.proofs.lemmas.runs.StepLemmas.{targets-alike}
use Rattle.rx_nfa.specs.declared.state.Transition.{Transition}
use Rattle.rx_nfa.specs.declared.state.State.{State}
use Rattle.rx_nfa.specs.declared.state.State.TheVariants.{ByteRange, Sparse, Look, Union, Capture, Fail, Match}
use Rattle.rx_model.specs.Beside.{IsTold, AreAlike, BothOrNone}
use Rattle.rx_model.proofs.lemmas.meaning.BesideLemmas.{both-weaker, holds-alike}

pub below-true : (a b : ℕ) → a < b → nat_lt a b ≡ true
below-true a b lt = grind (arith, nat_tests)

-- The class of a byte is the number of ends before it.

class-rises : (f : ℕ → Bool) (b c : ℕ) → b ≤ c → class_of f b ≤ class_of f c
unfolding class_of
class-rises f b zero le = let e : b ≡ 0 = omega arith in let same = ap (class_of f) e in omega arith
class-rises f b (suc c) le =
    ⊎_elim
    (λ lt. let r = class-rises f b c (omega arith) in omega arith)
    (λ ge. let e : b ≡ suc c = omega arith in let same = ap (class_of f) e in omega arith)
    (cases_lt b (suc c))

-- between two bytes of one class none ends a class
class-none : (f : ℕ → Bool) (b c : ℕ) → class_of f b ≡ class_of f c → (k : ℕ) → b ≤ k → k < c → f k ≡ false
unfolding class_of
class-none f b zero same k low high = absurd (omega arith)
class-none f b (suc c) same k low high =
    let r = class-rises f b c (omega arith) in
    by_test (f c)
    (λ e. let more : class_of f b ≡ class_of f c + (if f c then 1 else 0) = same in let one = ap (λ x. class_of f c + (if x then 1 else 0)) e in
    absurd (omega arith))
    (λ e.
    let more : class_of f b ≡ class_of f c + (if f c then 1 else 0) = same in
    let none = ap (λ x. class_of f c + (if x then 1 else 0)) e in
    ⊎_elim
    (λ lt. class-none f b c (omega arith) k low lt)
    (λ ge. let last : k ≡ c = omega arith in ap f last ∙ e)
    (cases_lt k c))

-- Two bytes, the lesser one first, between which nothing ends.
module _ (b c : ℕ) (le : b ≤ c) where
  -- no byte from b up to c ends what f tells
  abbrev Quiet : (ℕ → Bool) → Type 0
  Quiet f = (k : ℕ) → b ≤ k → k < c → f k ≡ false

  range-same : (start end : ℕ) → Quiet (is_edge start end) → (nat_le start b && nat_le b end) ≡ (nat_le start c && nat_le c end)
  range-same start end quiet =
      ⊎_elim
      (λ below.
      -- the range begins after b
      ⊎_elim
      (λ before. let x : (nat_le start b && nat_le b end) ≡ false = grind (arith, nat_tests) in
      let y : (nat_le start c && nat_le c end) ≡ false = grind (arith, nat_tests) in x ∙ sym y)
      (λ behind. let q = quiet (start - 1) (omega arith) (omega arith) in let e : start - 1 + 1 ≡ start = omega arith in grind (arith, nat_tests))
      (cases_lt c start))
      (λ above.
      ⊎_elim
      (λ past. let x : (nat_le start b && nat_le b end) ≡ false = grind (arith, nat_tests) in
      let y : (nat_le start c && nat_le c end) ≡ false = grind (arith, nat_tests) in x ∙ sym y)
      (λ within.
      ⊎_elim
      (λ cut. let q = quiet end within cut in grind (arith, nat_tests))
      (λ whole. let x : (nat_le start b && nat_le b end) ≡ true = grind (arith, nat_tests) in
      let y : (nat_le start c && nat_le c end) ≡ true = grind (arith, nat_tests) in x ∙ sym y)
      (cases_lt end c))
      (cases_lt end b))
      (cases_lt b start)

  route-same : (ts : List Transition) → Quiet (transitions_end ts) → route ts b ≡ route ts c
  route-same [] quiet = refl
  route-same (t ∷ ts) quiet =
      let first = range-same t.start t.end (λ k low high. (or_parts (is_edge t.start t.end k) (transitions_end ts k) (quiet k low high)).0) in
      let later = route-same ts (λ k low high. (or_parts (is_edge t.start t.end k) (transitions_end ts k) (quiet k low high)).1) in
      (λ i. if first i then Some t.next else later i)

  -- a state that reads a byte
  reading-same : (terminator : ℕ) (s : State) (ts : List Transition) → Quiet (state_ends terminator s) → reading s ≡ Some ts → route ts b ≡ route ts c
  reading-same terminator (ByteRange low high next) ts quiet is =
      let same = same_Some _ _ is in
      ap (λ xs. route xs b) (sym same)
      ∙ route-same (transition_to next (low, high) ∷ []) (λ k from to. ap (λ x. x || false) (quiet k from to))
      ∙ ap (λ xs. route xs c) same
  reading-same terminator (Sparse transitions) ts quiet is =
      let same = same_Some _ _ is in
      ap (λ xs. route xs b) (sym same) ∙ route-same transitions quiet ∙ ap (λ xs. route xs c) same
  reading-same terminator (Look look next) ts quiet is = absurd (none-some ts is)
  reading-same terminator (Union alternates) ts quiet is = absurd (none-some ts is)
  reading-same terminator (Capture next pattern slot) ts quiet is = absurd (none-some ts is)
  reading-same terminator Fail ts quiet is = let same = same_Some _ _ is in ap (λ xs. route xs b) (sym same) ∙ ap (λ xs. route xs c) same
  reading-same terminator (Match pattern) ts quiet is = absurd (none-some ts is)

  byte-same : (x : ℕ) → Quiet (is_edge x x) → (b == x) ≡ (c == x)
  byte-same x quiet =
      let r = range-same x x quiet in
      by_test (b == x)
      (λ e. by_test (c == x) (λ e'. e ∙ sym e') (λ n. grind (arith, nat_tests)))
      (λ n. by_test (c == x) (λ e. grind (arith, nat_tests)) (λ n'. n ∙ sym n'))

  above-same : Quiet (is_edge 128 255) → nat_lt 127 b ≡ nat_lt 127 c
  above-same quiet =
      by_test (nat_lt 127 b)
      (λ e. let high : nat_lt 127 c ≡ true = grind (arith, nat_tests) in e ∙ sym high)
      (λ e.
      ⊎_elim
      (λ low. let small : nat_lt 127 c ≡ false = grind (arith, nat_tests) in e ∙ sym small)
      (λ high. let q = quiet 127 (grind (arith, nat_tests)) (omega arith) in absurd (true≢false q))
      (cases_lt c 128))

  word-same : Quiet is_word_edge → is_word_byte b ≡ is_word_byte c
  word-same quiet =
      let lower = range-same 97 122 (λ k low high. (or_parts (is_edge 97 122 k) _ (quiet k low high)).0) in
      let rest : Quiet (λ k. is_edge 95 95 k || (is_edge 65 90 k || is_edge 48 57 k)) = λ k low high. (or_parts (is_edge 97 122 k) _ (quiet k low high)).1 in
      let line = byte-same 95 (λ k low high. (or_parts (is_edge 95 95 k) _ (rest k low high)).0) in
      let more : Quiet (λ k. is_edge 65 90 k || is_edge 48 57 k) = λ k low high. (or_parts (is_edge 95 95 k) _ (rest k low high)).1 in
      let upper = range-same 65 90 (λ k low high. (or_parts (is_edge 65 90 k) _ (more k low high)).0) in
      let digit = range-same 48 57 (λ k low high. (or_parts (is_edge 65 90 k) _ (more k low high)).1) in
      word-from lower upper digit line
    where
      word-from : (nat_le 97 b && nat_le b 122) ≡ (nat_le 97 c && nat_le c 122) → (nat_le 65 b && nat_le b 90) ≡ (nat_le 65 c && nat_le c 90)
          → (nat_le 48 b && nat_le b 57) ≡ (nat_le 48 c && nat_le c 57) → (b == 95) ≡ (c == 95) → is_word_byte b ≡ is_word_byte c
      word-from lower upper digit line = λ i. ((digit i || upper i) || lower i) || line i

  crlf-same : Quiet is_crlf_edge → ((b == 13) ≡ (c == 13)) × ((b == 10) ≡ (c == 10))
  crlf-same quiet = (
    byte-same 13 (λ k low high. (or_parts (is_edge 13 13 k) (is_edge 10 10 k) (quiet k low high)).0),
    byte-same 10 (λ k low high. (or_parts (is_edge 13 13 k) (is_edge 10 10 k) (quiet k low high)).1),
  )

  char-same : Quiet is_char_edge → (is_word_byte b ≡ is_word_byte c) × (nat_lt 127 b ≡ nat_lt 127 c)
  char-same quiet = (
    word-same (λ k low high. (or_parts (is_edge 128 255 k) (is_word_edge k) (quiet k low high)).1),
    above-same (λ k low high. (or_parts (is_edge 128 255 k) (is_word_edge k) (quiet k low high)).0),
  )

  alike : (terminator : ℕ) (kind : model.Look) → Quiet (look_ends terminator kind) → AreAlike terminator kind b c
  alike terminator start_text quiet = tt
  alike terminator end_text quiet = tt
  alike terminator start_lf quiet = byte-same terminator quiet
  alike terminator end_lf quiet = byte-same terminator quiet
  alike terminator start_crlf quiet = crlf-same quiet
  alike terminator end_crlf quiet = crlf-same quiet
  alike terminator word_ascii quiet = word-same quiet
  alike terminator word_ascii_negate quiet = word-same quiet
  alike terminator word_unicode quiet = char-same quiet
  alike terminator word_unicode_negate quiet = char-same quiet
  alike terminator word_start_ascii quiet = word-same quiet
  alike terminator word_end_ascii quiet = word-same quiet
  alike terminator word_start_unicode quiet = char-same quiet
  alike terminator word_end_unicode quiet = char-same quiet
  alike terminator word_start_half_ascii quiet = word-same quiet
  alike terminator word_end_half_ascii quiet = word-same quiet
  alike terminator word_start_half_unicode quiet = char-same quiet
  alike terminator word_end_half_unicode quiet = char-same quiet

-- The states of an NFA.

-- no state passes the test
state-none : (p : State → Bool) (states : List State) (q : ℕ) → list_any p states ≡ false → p Fail ≡ false → p (state_at states q) ≡ false
state-none p [] q none last = last
state-none p (s ∷ states) zero none last = (or_parts (p s) (list_any p states) none).0
state-none p (s ∷ states) (suc q) none last = state-none p states q ((or_parts (p s) (list_any p states) none).1) last

kind-same : (kind other : model.Look) → is_same_kind kind other ≡ true → kind ≡ other
kind-same kind other e =
    let n : look_number kind ≡ look_number other = grind (arith, nat_tests) in
    same_Some _ _ (sym (look-back kind) ∙ ap look_of n ∙ look-back other)

-- a state that asks for a kind ends what the kind tells apart
asks-ends : (terminator : ℕ) (kind : model.Look) (s : State) (k : ℕ) → asks_for kind s ≡ true → state_ends terminator s k ≡ false
    → look_ends terminator kind k ≡ false
asks-ends terminator kind (ByteRange low high next) k asks none = absurd (true≢false (sym asks))
asks-ends terminator kind (Sparse transitions) k asks none = absurd (true≢false (sym asks))
asks-ends terminator kind (Look look next) k asks none = ap (λ x. look_ends terminator x k) (kind-same kind (kind_of look) asks) ∙ none
asks-ends terminator kind (Union alternates) k asks none = absurd (true≢false (sym asks))
asks-ends terminator kind (Capture next pattern slot) k asks none = absurd (true≢false (sym asks))
asks-ends terminator kind Fail k asks none = absurd (true≢false (sym asks))
asks-ends terminator kind (Match pattern) k asks none = absurd (true≢false (sym asks))

asked-ends : (terminator : ℕ) (kind : model.Look) (states : List State) (k : ℕ) → list_any (asks_for kind) states ≡ true
    → class_ends terminator states k ≡ false → look_ends terminator kind k ≡ false
asked-ends terminator kind [] k asks none = absurd (true≢false (sym asks))
asked-ends terminator kind (s ∷ states) k asks none =
    by_test (asks_for kind s)
    (λ yes'. asks-ends terminator kind s k yes' ((or_parts (state_ends terminator s k) (class_ends terminator states k) none).0))
    (λ no'. asked-ends terminator kind states k (rw no' at asks) ((or_parts (state_ends terminator s k) (class_ends terminator states k) none).1))

module _ (nfa : Nfa) (range : IsInRange nfa) where
  classed : (b : ℕ) → b < 256 → slice_index nfa.classes b ≡ class_of (class_ends nfa.terminator nfa.states) b
  unfolding AreClassesOf
  classed b lt = range.classes.1 b (let are = range.classes.0 in let len = are.len in omega arith)

  -- between two bytes of one class no class ends
  apart : (b c : ℕ) → AreOfOneClass nfa.classes b c → (k : ℕ) → b ≤ k → k < c → class_ends nfa.terminator nfa.states k ≡ false
  apart b c of = class-none (class_ends nfa.terminator nfa.states) b c (sym (classed b of.first) ∙ of.same ∙ classed c of.second)

  turned : (b c : ℕ) → AreOfOneClass nfa.classes b c → AreOfOneClass nfa.classes c b
  turned b c of = record { first = of.second; second = of.first; same = sym of.same }

  routes-ordered : (b c : ℕ) → b ≤ c → AreOfOneClass nfa.classes b c → (q : ℕ) (ts : List Transition) → reading (state_at nfa.states q) ≡ Some ts
      → route ts b ≡ route ts c
  routes-ordered b c le of q ts is =
      reading-same b c le nfa.terminator (state_at nfa.states q) ts
      (λ k low high. state-none (λ s. state_ends nfa.terminator s k) nfa.states q (apart b c of k low high) refl) is

  pub one-class-routes : (b c q : ℕ) (ts : List Transition) → AreOfOneClass nfa.classes b c → reading (state_at nfa.states q) ≡ Some ts
      → route ts b ≡ route ts c
  one-class-routes b c q ts of is =
      ⊎_elim
      (λ lt. routes-ordered b c (omega arith) of q ts is)
      (λ ge. sym (routes-ordered c b ge (turned b c of) q ts is))
      (cases_lt b c)

  looks-ordered : (b c : ℕ) → b ≤ c → AreOfOneClass nfa.classes b c → (kind : model.Look) → has nfa.looks kind ≡ true → AreAlike nfa.terminator kind b c
  looks-ordered b c le of kind there =
      alike b c le nfa.terminator kind (λ k low high. asked-ends nfa.terminator kind nfa.states k (sym (range.looks kind) ∙ there) (apart b c of k low high))

  pub one-class-looks : (b c : ℕ) (kind : model.Look) → AreOfOneClass nfa.classes b c → has nfa.looks kind ≡ true → AreAlike nfa.terminator kind b c
  one-class-looks b c kind of there =
      ⊎_elim
      (λ lt. looks-ordered b c (omega arith) of kind there)
      (λ ge. alike-turned nfa.terminator kind c b (looks-ordered c b ge (turned b c of) kind there))
      (cases_lt b c)
    where
      alike-turned : (terminator : ℕ) (kind : model.Look) (x y : ℕ) → AreAlike terminator kind x y → AreAlike terminator kind y x
      alike-turned terminator start_text x y h = tt
      alike-turned terminator end_text x y h = tt
      alike-turned terminator start_lf x y h = sym h
      alike-turned terminator end_lf x y h = sym h
      alike-turned terminator start_crlf x y h = (sym h.0, sym h.1)
      alike-turned terminator end_crlf x y h = (sym h.0, sym h.1)
      alike-turned terminator word_ascii x y h = sym h
      alike-turned terminator word_ascii_negate x y h = sym h
      alike-turned terminator word_unicode x y h = (sym h.0, sym h.1)
      alike-turned terminator word_unicode_negate x y h = (sym h.0, sym h.1)
      alike-turned terminator word_start_ascii x y h = sym h
      alike-turned terminator word_end_ascii x y h = sym h
      alike-turned terminator word_start_unicode x y h = (sym h.0, sym h.1)
      alike-turned terminator word_end_unicode x y h = (sym h.0, sym h.1)
      alike-turned terminator word_start_half_ascii x y h = sym h
      alike-turned terminator word_end_half_ascii x y h = sym h
      alike-turned terminator word_start_half_unicode x y h = (sym h.0, sym h.1)
      alike-turned terminator word_end_half_unicode x y h = (sym h.0, sym h.1)

  -- a state goes on alike on two bytes of one class
  pub class-steps : (here there : Surroundings) (end last q i j : ℕ) → i < end → j < last → AreOfOneClass nfa.classes (here.byte i) (there.byte j)
      → ((kind : model.Look) → asks_for kind (state_at nfa.states q) ≡ true → here.looks kind i ≡ there.looks kind j)
      → map (onward i) ((automaton_over here nfa.states end).successors (at q i)) ≡ map (onward j) ((automaton_over there nfa.states last).successors (at q j))
  class-steps here there end last q i j lt lt' of looks =
      targets-alike here there end last i j nfa.states q (omega arith) (omega arith)
      (λ ts is.
      ap (λ x. target_of ts (if x then Some (here.byte i) else None)) (below-true i end lt)
      ∙ one-class-routes (here.byte i) (there.byte j) q ts of is
      ∙ ap (λ x. target_of ts (if x then Some (there.byte j) else None)) (sym (below-true j last lt')))
      looks

  -- a look-around that the states ask for holds alike beside bytes of one class
  pub beside-classes : (here there : List ℕ) (kind : model.Look) (i j : ℕ) → i ≤ length here → j ≤ length there → has nfa.looks kind ≡ true
      → BothOrNone (AreOfOneClass nfa.classes) (byte_before here i) (byte_before there j)
      → BothOrNone (AreOfOneClass nfa.classes) (byte_after here i) (byte_after there j)
      → IsTold kind (byte_before here i) (byte_after here i) → holds nfa.terminator here kind i ≡ holds nfa.terminator there kind j
  beside-classes here there kind i j within within' asked before after told =
      let weaker = both-weaker (AreOfOneClass nfa.classes) (AreAlike nfa.terminator kind) (λ b c of. one-class-looks b c kind of asked) in
      holds-alike here there i j within within' nfa.terminator kind (weaker (byte_before here i) (byte_before there j) before)
      (weaker (byte_after here i) (byte_after there j) after) told
