-- Where a step leads: to the target of the byte, and by the byte and the look-arounds alone.
use Rattle.std.proofs.Common.{◌≡◌, ℕ, suc, ◌+◌, ◌-◌, ◌<◌, ◌≤◌, List, [], ◌∷◌, length, Option, Some, None, refl, sym, ◌∙◌, ap, ⊎_elim, arith}
use Rattle.std.specs.Prelude.{Bool, true, false, ◌==◌, if◌then◌else◌, map, nat_lt}
use Rattle.std.proofs.lemmas.Bool.{cases_lt}
use Rattle.std.proofs.lemmas.Bool.Decides.{nat_tests}
use Rattle.std.proofs.lemmas.List.{get_or_past}
use Rattle.std.proofs.lemmas.Option.{slice_get-get_or}
use Rattle.rx_model.specs.Look as model
use Rattle.rx_model.proofs.lemmas.runs.RunLemmas.{by_test}
use Rattle.rx_search.specs.Look.{kind_of, is_same_kind}
use Rattle.rx_nfa.specs.Automaton.{at, byte_of, go_on, read_byte, target_of, byte_within, Surroundings, onward, state_step, state_at, asks_for, automaton_over}
use Rattle.rx_nfa.specs.Row.{reading}
use Rattle.rx_nfa.specs.declared.state.Transition.{Transition}
use Rattle.rx_nfa.specs.declared.state.State.{State}
use Rattle.rx_nfa.specs.declared.state.State.TheVariants.{ByteRange, Sparse, Look, Union, Capture, Fail, Match}
use Rattle.rx_nfa.proofs.lemmas.runs.AutomatonLemmas.{automaton-successors, automaton-accepted, automaton-successors-past, automaton-successors-beyond, automaton-accepted-beyond}
use Rattle.rx_nfa.proofs.lemmas.runs.RefinedLemmas.{reads-step}
use Rattle.rx_nfa.proofs.lemmas.classes.RowLemmas.{same_transitions}

-- a byte leads to its target
pub read_byte-target : (byte : ℕ → ℕ) (end : ℕ) (ts : List Transition) (i : ℕ) → read_byte byte end ts i ≡ go_on (target_of ts (byte_within byte end i)) (i + 1)
read_byte-target byte end ts i = by_test (nat_lt i end) (λ e. rw e refl) (λ e. rw e refl)

-- and where no byte is read nothing is a target
target-none : (ts : List Transition) (o : Option ℕ) (place : ℕ) → ts ≡ [] → [] ≡ go_on (target_of ts o) place
target-none ts None place empty = refl
target-none ts (Some b) place empty = ap (λ xs. go_on (target_of xs (Some b)) place) (sym empty)

pub target-reached : (around : Surroundings) (states : List State) (end q i : ℕ) (ts : List Transition) → reading (state_at states q) ≡ Some ts
    → (automaton_over around states end).successors (at q i) ≡ go_on (target_of ts (byte_within around.byte end i)) (i + 1)
target-reached around states end q i ts is =
    ⊎_elim
    (λ past. let none : nat_lt i end ≡ false = grind (arith, nat_tests) in automaton-successors-past around states end q i past ∙ rw none refl)
    (λ le.
    ⊎_elim
    (λ lt. automaton-successors around states end q i lt le ∙ reads-step around end (state_at states q) ts is i ∙ read_byte-target around.byte end ts i)
    (λ beyond.
    let empty : ts ≡ [] = sym (same_transitions [] ts (sym (ap reading (get_or_past states q Fail beyond)) ∙ is)) in
    automaton-successors-beyond around states end q i beyond ∙ target-none ts (byte_within around.byte end i) (i + 1) empty)
    (cases_lt q (length states)))
    (cases_lt end i)

-- Two places.

same-kind : (kind : model.Look) → is_same_kind kind kind ≡ true
same-kind kind = grind (arith, nat_tests)

module _ (i j : ℕ) where
  -- at the place
  stays : (b : Bool) (next : ℕ) → map (onward i) (if b then at next i ∷ [] else []) ≡ map (onward j) (if b then at next j ∷ [] else [])
  stays true next = let none : i - i ≡ j - j = omega arith in ap (λ n. (next, n) ∷ []) none
  stays false next = refl

  stay : (qs : List ℕ) → map (onward i) (map (λ q. at q i) qs) ≡ map (onward j) (map (λ q. at q j) qs)
  stay [] = refl
  stay (q ∷ qs) = let none : i - i ≡ j - j = omega arith in (λ k. (q, none k) ∷ stay qs k)

  -- one place on
  goes : (o : Option ℕ) → map (onward i) (go_on o (i + 1)) ≡ map (onward j) (go_on o (j + 1))
  goes None = refl
  goes (Some t) = let one : i + 1 - i ≡ j + 1 - j = omega arith in ap (λ n. (t, n) ∷ []) one

module _ (here there : Surroundings) (end last i j : ℕ) where
  -- the bytes at the places have one target
  abbrev HasTarget : List Transition → Type 0
  HasTarget ts = target_of ts (byte_within here.byte end i) ≡ target_of ts (byte_within there.byte last j)

  reads-alike : (ts : List Transition) → HasTarget ts → map (onward i) (read_byte here.byte end ts i) ≡ map (onward j) (read_byte there.byte last ts j)
  reads-alike ts same =
      ap (map (onward i)) (read_byte-target here.byte end ts i)
      ∙ goes i j (target_of ts (byte_within here.byte end i))
      ∙ ap (λ o. map (onward j) (go_on o (j + 1))) same
      ∙ ap (map (onward j)) (sym (read_byte-target there.byte last ts j))

  steps-alike : (s : State) → ((ts : List Transition) → reading s ≡ Some ts → HasTarget ts)
      → ((kind : model.Look) → asks_for kind s ≡ true → here.looks kind i ≡ there.looks kind j)
      → map (onward i) (state_step here end s i) ≡ map (onward j) (state_step there last s j)
  steps-alike (ByteRange low high next) targets looks =
      reads-alike (record { start = low; end = high; next = next } ∷ []) (targets (record { start = low; end = high; next = next } ∷ []) refl)
  steps-alike (Sparse transitions) targets looks = reads-alike transitions (targets transitions refl)
  steps-alike (Look look next) targets looks =
      stays i j (here.looks (kind_of look) i) next
      ∙ ap (λ b. map (onward j) (if b then at next j ∷ [] else [])) (looks (kind_of look) (same-kind (kind_of look)))
  steps-alike (Union alternates) targets looks = stay i j alternates
  steps-alike (Capture next pattern slot) targets looks = stays i j true next
  steps-alike Fail targets looks = refl
  steps-alike (Match pattern) targets looks = refl

  pub targets-alike : (states : List State) (q : ℕ) → i ≤ end → j ≤ last → ((ts : List Transition) → reading (state_at states q) ≡ Some ts → HasTarget ts)
      → ((kind : model.Look) → asks_for kind (state_at states q) ≡ true → here.looks kind i ≡ there.looks kind j)
      → map (onward i) ((automaton_over here states end).successors (at q i)) ≡ map (onward j) ((automaton_over there states last).successors (at q j))
  targets-alike states q le le' targets looks =
      ⊎_elim
      (λ lt.
      ap (map (onward i)) (automaton-successors here states end q i lt le)
      ∙ steps-alike (state_at states q) targets looks
      ∙ ap (map (onward j)) (sym (automaton-successors there states last q j lt le')))
      (λ beyond.
      ap (map (onward i)) (automaton-successors-beyond here states end q i beyond)
      ∙ ap (map (onward j)) (sym (automaton-successors-beyond there states last q j beyond)))
      (cases_lt q (length states))

  pub successors-alike : byte_within here.byte end i ≡ byte_within there.byte last j → (states : List State) (q : ℕ) → i ≤ end → j ≤ last
      → ((kind : model.Look) → asks_for kind (state_at states q) ≡ true → here.looks kind i ≡ there.looks kind j)
      → map (onward i) ((automaton_over here states end).successors (at q i)) ≡ map (onward j) ((automaton_over there states last).successors (at q j))
  successors-alike byte states q le le' looks = targets-alike states q le le' (λ ts is. ap (target_of ts) byte) looks

-- a state accepts at both places, or at neither
pub accepted-alike : (here there : Surroundings) (states : List State) (end last q i j : ℕ) → i ≤ end → j ≤ last
    → (automaton_over here states end).accepted (at q i) ≡ (automaton_over there states last).accepted (at q j)
accepted-alike here there states end last q i j le le' =
    ⊎_elim
    (λ lt. automaton-accepted here states end q i lt le ∙ sym (automaton-accepted there states last q j lt le'))
    (λ beyond. automaton-accepted-beyond here states end q i beyond ∙ sym (automaton-accepted-beyond there states last q j beyond))
    (cases_lt q (length states))

-- read backwards, the byte at a distance from the end is the one before that place
pub byte-read-backwards : (text : List ℕ) (place : ℕ) → place < length text
    → model.byte_before text (length text - place) ≡ Some (byte_of text (length text - suc place))
byte-read-backwards text place inside =
    let some : (length text - place == 0) ≡ false = grind (arith, nat_tests) in
    let one : length text - place - 1 ≡ length text - suc place = omega arith in
    let within : length text - suc place < length text = omega arith in
    rw (some, one) (slice_get-get_or text (length text - suc place) 0 within)
