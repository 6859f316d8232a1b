-- Rows of transitions, and lists of states that grow.
use Rattle.std.proofs.Common.{◌≡◌, ℕ, zero, suc, ◌+◌, ◌-◌, ◌≤◌, ◌<◌, ◌⊎◌, List, [], ◌∷◌, ◌++◌, refl, sym, ◌∙◌, ap, inl, inr, arith, length, set, get_or, subst}
use Rattle.std.specs.Prelude.{nat_lt, All, true, false, ◌&&◌, Option, Some, None, if◌then◌else◌, nat_le, ◌==◌, Bool}
use Rattle.std.proofs.lemmas.Bool.Decides.{nat_tests}
use Rattle.std.proofs.lemmas.List.{length-append, length_push, get_or_append_left, get_or-append_right}
use Rattle.std.proofs.lemmas.List.Elements.{All-append, All-nil, All-cons, All-head, All-from_get_or}
use Rattle.rx_model.proofs.lemmas.runs.RunLemmas.{by_test}
use Rattle.std.proofs.lemmas.Option.{none-some, same_Some}
use Rattle.rx_nfa.specs.Automaton.{route, state_at, NamesBelow, IsWithin}
use Rattle.rx_nfa.specs.Row.{Ascends, HasSortedTransitions, transition_to, reading, HasReader, IsReader, RoutesBelow, AddsReaders}
use Rattle.rx_nfa.specs.Slots.{WritesOwnSlots}
use Rattle.rx_nfa.specs.States.{AreClosed}
use Rattle.rx_nfa.specs.declared.state.Transition.{Transition}
use Rattle.rx_nfa.specs.declared.state.State.{State}
use Rattle.rx_nfa.specs.declared.state.State.TheVariants.{ByteRange, Sparse, Look, Union, Capture, Fail, Match}

pub Ascends-more : (low high more : ℕ) (ts : List Transition) → high ≤ more → Ascends low high ts → Ascends low more ts
Ascends-more low high more [] le a = omega arith
Ascends-more low high more (t ∷ ts) le a = (a.0, a.1, Ascends-more (t.end + 1) high more ts le a.2)

pub Ascends-bounds : (low high : ℕ) (ts : List Transition) → Ascends low high ts → low ≤ high
Ascends-bounds low high [] a = a
Ascends-bounds low high (t ∷ ts) a = let later = Ascends-bounds (t.end + 1) high ts a.2 in omega (arith, a.0, a.1)

pub Ascends-end : (low high n : ℕ) (ts : List Transition) (x : Transition) → Ascends low high ts → n < length ts → x ≡ get_or ts n x → x.end + 1 ≤ high
Ascends-end low high n [] x a lt is = absurd (omega arith)
Ascends-end low high zero (t ∷ ts) x a lt is = let e = ap (λ (y : Transition). y.end) is in omega (arith, Ascends-bounds (t.end + 1) high ts a.2)
Ascends-end low high (suc n) (t ∷ ts) x a lt is = Ascends-end (t.end + 1) high n ts x a.2 (omega arith) is

pub element-same : (n : ℕ) (ts : List Transition) (x y : Transition) → n < length ts → x ≡ get_or ts n x → y ≡ get_or ts n y → x ≡ y
element-same n [] x y lt is is' = absurd (omega arith)
element-same zero (t ∷ ts) x y lt is is' = is ∙ sym is'
element-same (suc n) (t ∷ ts) x y lt is is' = element-same n ts x y (omega arith) is is'

-- by whether the byte lies in the transition
takes : (t : Transition) (ts : List Transition) (b : ℕ) → t.start ≤ b → b ≤ t.end → route (t ∷ ts) b ≡ Some t.next
takes t ts b low high =
    let x : nat_le t.start b ≡ true = grind (arith, nat_tests) in
    let y : nat_le b t.end ≡ true = grind (arith, nat_tests) in
    rw (x, y) refl

passes : (t : Transition) (ts : List Transition) (b : ℕ) → (b < t.start) ⊎ (t.end < b) → route (t ∷ ts) b ≡ route ts b
passes t ts b out =
    let x : (nat_le t.start b && nat_le b t.end) ≡ false = grind (arith, nat_tests) in
    rw x refl

takes_or_passes : {P : Type 0} (t : Transition) (b : ℕ) → (t.start ≤ b → b ≤ t.end → P) → ((b < t.start) ⊎ (t.end < b) → P) → P
takes_or_passes t b inside outside =
    by_test (nat_le t.start b)
    (λ x. by_test (nat_le b t.end) (λ y. inside (grind (arith, nat_tests)) (grind (arith, nat_tests))) (λ y. outside (inr (grind (arith, nat_tests)))))
    (λ x. outside (inl (grind (arith, nat_tests))))

pub route-outside : (low high : ℕ) (ts : List Transition) (b : ℕ) → Ascends low high ts → (b < low) ⊎ (high ≤ b) → route ts b ≡ None
route-outside low high [] b a out = refl
route-outside low high (t ∷ ts) b a out =
    let later = Ascends-bounds (t.end + 1) high ts a.2 in
    elim out [
      | inl lt ↦ passes t ts b (inl (omega (arith, a.0))) ∙ route-outside (t.end + 1) high ts b a.2 (inl (omega (arith, a.0, a.1)))
      | inr ge ↦ passes t ts b (inr (omega arith)) ∙ route-outside (t.end + 1) high ts b a.2 (inr ge)
    ]

-- the byte leads to the target, and the others lead where they did
pub record Adds (old new : List Transition) (low byte : ℕ) (target : Option ℕ) : Type 0 where
  pub ascends : Ascends low (byte + 1) new
  pub routes : (b : ℕ) → route new b ≡ (if b == byte then target else route old b)

is_byte : (b byte : ℕ) → b ≡ byte → (b == byte) ≡ true
is_byte b byte e = grind (arith, nat_tests)

no_byte : (b byte : ℕ) → (b < byte) ⊎ (byte < b) → (b == byte) ≡ false
no_byte b byte e = grind (arith, nat_tests)

pub Adds-nothing : (low byte : ℕ) (ts : List Transition) → Ascends low byte ts → Adds ts ts low byte None
Adds-nothing low byte ts a = record {
  ascends = Ascends-more low byte (byte + 1) ts (omega arith) a;
  routes = λ b. by_test (b == byte)
      (λ e. let same : b ≡ byte = grind (arith, nat_tests) in rw e (route-outside low byte ts b a (inr (omega arith))))
      (λ e. rw e refl);
}

-- a transition before both rows
Adds-after : (t : Transition) (old new : List Transition) (low byte : ℕ) (target : Option ℕ) → low ≤ t.start → t.start ≤ t.end → t.end < byte
    → Adds old new (t.end + 1) byte target → Adds (t ∷ old) (t ∷ new) low byte target
Adds-after t old new low byte target above rises before a = record {
  ascends = (above, rises, a.ascends);
  routes = λ b. takes_or_passes t b
      (λ x y. takes t new b x y ∙ sym (rw (no_byte b byte (inl (omega arith))) (takes t old b x y)))
      (λ out. passes t new b out ∙ a.routes b ∙ (λ i. if b == byte then target else sym (passes t old b out) i));
}

pub Adds-push : (low byte next : ℕ) (ts : List Transition) → Ascends low byte ts
    → Adds ts (ts ++ record { start = byte; end = byte; next = next } ∷ []) low byte (Some next)
Adds-push low byte next [] a = record {
  ascends = (a, omega arith, omega arith);
  routes = λ b. by_test (b == byte)
      (λ e. let same : b ≡ byte = grind (arith, nat_tests) in rw e (takes (record { start = byte; end = byte; next = next }) [] b (omega arith) (omega arith)))
      (λ e. rw e (passes (record { start = byte; end = byte; next = next }) [] b (grind (arith, nat_tests))));
}
Adds-push low byte next (t ∷ ts) a =
    Adds-after t ts (ts ++ record { start = byte; end = byte; next = next } ∷ []) low byte (Some next) a.0 a.1
    (omega (arith, Ascends-bounds (t.end + 1) byte ts a.2)) (Adds-push (t.end + 1) byte next ts a.2)

either : (b byte start : ℕ) → (b < start) ⊎ (byte < b) → start ≤ byte → (b < byte) ⊎ (byte < b)
either b byte start (inl lt) le = inl (omega arith)
either b byte start (inr gt) le = inr gt

either_end : (b byte start end start' : ℕ) → (b < start') ⊎ (byte < b) → start' ≡ start → end < byte → (b < start) ⊎ (end < b)
either_end b byte start end start' (inl lt) e le = inl (omega arith)
either_end b byte start end start' (inr gt) e le = inr (omega arith)

pub Adds-extend : (low byte next n : ℕ) (ts : List Transition) (x : Transition) → Ascends low byte ts → suc n ≡ length ts → x ≡ get_or ts n x
    → x.next ≡ next → x.end + 1 ≡ byte → Adds ts (set ts n (record { start = x.start; end = byte; next = next })) low byte (Some next)
Adds-extend low byte next n [] x a long last to at = absurd (omega arith)
Adds-extend low byte next zero (t ∷ []) x a long last to at = record {
  ascends = (
    let s = ap (λ (y : Transition). y.start) last in
        omega (arith, a.0),
    (let s = ap (λ (y : Transition). y.start) last in let e = ap (λ (y : Transition). y.end) last in omega (arith, a.1)),
    omega arith,
  );
  routes = λ b.
      (let s = ap (λ (y : Transition). y.start) last in
      let e = ap (λ (y : Transition). y.end) last in
      let n = ap (λ (y : Transition). y.next) last in
      let new : Transition = record { start = x.start; end = byte; next = next } in
      takes_or_passes new b
      (λ above below. by_test (b == byte)
      (λ is. rw is (takes new [] b above below))
      (λ outside. takes new [] b above below ∙ sym (rw outside (takes t [] b (omega arith) (let ne : b < byte = grind (arith, nat_tests) in omega arith)
      ∙ ap Some (sym n ∙ to)))))
      (λ out. passes new [] b out ∙ sym (rw (no_byte b byte (either b byte x.start out (let rises = a.1 in omega arith)))
      (passes t [] b (either_end b byte t.start t.end x.start out (omega arith) (omega arith))))));
}
Adds-extend low byte next zero (t ∷ u ∷ us) x a long last to at = absurd (omega arith)
Adds-extend low byte next (suc n) (t ∷ ts) x a long last to at =
    Adds-after t ts (set ts n (record { start = x.start; end = byte; next = next })) low byte (Some next) a.0 a.1
    (omega (arith, Ascends-bounds (t.end + 1) byte ts a.2))
    (Adds-extend (t.end + 1) byte next n ts x a.2 (omega arith) last to at)

-- states

pub AddsReaders-same : (xs : List State) → AddsReaders xs xs
AddsReaders-same xs = record { longer = omega arith; kept = λ q lt. refl; readers = λ q le lt. absurd (omega arith) }

pub AddsReaders-trans : (xs ys zs : List State) → AddsReaders xs ys → AddsReaders ys zs → AddsReaders xs zs
AddsReaders-trans xs ys zs a b = record {
  longer = omega (arith, a.longer, b.longer);
  kept = λ q lt. b.kept q (omega (arith, a.longer)) ∙ a.kept q lt;
  readers = λ q le lt.
      by_test (nat_lt q (length ys))
      (λ e. let inside : q < length ys = grind (arith, nat_tests) in
      let r = a.readers q le inside in
      (r.0, ap reading (b.kept q inside) ∙ r.1, r.2))
      (λ e. b.readers q (grind (arith, nat_tests)) lt);
}

last-is : (xs : List State) (s : State) → state_at (xs ++ s ∷ []) (length xs) ≡ s
last-is xs s =
    let z : length xs - length xs ≡ 0 = omega arith in
    get_or-append_right xs (s ∷ []) (length xs) (length xs) Fail refl (omega arith) ∙ ap (λ n. get_or (s ∷ []) n Fail) z

pub AddsReaders-push : (xs : List State) (s : State) (ts : List Transition) → reading s ≡ Some ts → Ascends 0 256 ts → AddsReaders xs (xs ++ s ∷ [])
AddsReaders-push xs s ts is ascends = record {
  longer = (let l = length-append xs (s ∷ []) in omega arith);
  kept = λ q lt. get_or_append_left xs (s ∷ []) Fail q lt;
  readers = λ q le lt.
      (let l = length-append xs (s ∷ []) in
      let last : q ≡ length xs = omega arith in
      (ts, ap (λ n. reading (state_at (xs ++ s ∷ []) n)) last ∙ ap reading (last-is xs s) ∙ is, ascends));
}

pub IsReader-push : (xs : List State) (s : State) (ts : List Transition) → reading s ≡ Some ts → Ascends 0 256 ts
    → IsReader (length xs) (xs ++ s ∷ []) (length xs) ts
IsReader-push xs s ts is a = record {
  state = s;
  stands = record { above = omega arith; inside = (let l = length-append xs (s ∷ []) in omega arith); is = last-is xs s };
  reads = is;
  ascends = a;
}

pub IsReader-grows : (base : ℕ) (old new : List State) → AddsReaders old new → (q : ℕ) (ts : List Transition) → IsReader base old q ts → IsReader base new q ts
IsReader-grows base old new g q ts r = record {
  state = r.state;
  stands = record { above = r.stands.above; inside = omega (arith, g.longer, r.stands.inside); is = g.kept q r.stands.inside ∙ r.stands.is };
  reads = r.reads;
  ascends = r.ascends;
}

pub IsReader-lower : (lower base : ℕ) (states : List State) (q : ℕ) (ts : List Transition) → lower ≤ base → IsReader base states q ts
    → IsReader lower states q ts
IsReader-lower lower base states q ts le r = record {
  state = r.state;
  stands = record { above = omega (arith, r.stands.above); inside = r.stands.inside; is = r.stands.is };
  reads = r.reads;
  ascends = r.ascends;
}

-- where what stands is kept, as by a patch before the base
pub HasReader-map : (A B : ℕ → State → Type 0) → ((q : ℕ) (state : State) → A q state → B q state) → (q : ℕ) (ts : List Transition) → HasReader A q ts
    → HasReader B q ts
HasReader-map A B keep q ts r = record { state = r.state; stands = keep q r.state r.stands; reads = r.reads; ascends = r.ascends }

-- closed lists of states

pub RoutesBelow-more : (n more : ℕ) (ts : List Transition) → n ≤ more → RoutesBelow n ts → RoutesBelow more ts
unfolding RoutesBelow
RoutesBelow-more n more ts le h b q e = let lt = h b q e in omega arith

pub RoutesBelow-none : (n : ℕ) → RoutesBelow n []
unfolding RoutesBelow
RoutesBelow-none n b q e = absurd (none-some q e)

pub RoutesBelow-one : (n low high next : ℕ) → next < n → RoutesBelow n (record { start = low; end = high; next = next } ∷ [])
unfolding RoutesBelow
RoutesBelow-one n low high next lt b q e = only (nat_le low b && nat_le b high) e
  where
    only : (t : Bool) → (if t then Some next else None) ≡ Some q → q < n
    only true h = let is = same_Some _ _ h in omega arith
    only false h = absurd (none-some q h)

pub same_transitions : (a b : List Transition) → ◌≡◌ {A = Option (List Transition)} (Some a) (Some b) → a ≡ b
same_transitions a b e = ap value e
  where
    value : Option (List Transition) → List Transition
    value None = a
    value (Some c) = c

pub no_transitions : (ts : List Transition) → ◌≡◌ {A = Option (List Transition)} None (Some ts) → ⊥
no_transitions ts e = coe 0 1 (i. Empties (e i)) tt
  where
    Empties : Option (List Transition) → Type 0
    Empties None = Unit {0}
    Empties (Some c) = ⊥

-- each transition takes a byte
pub targets-below : (n low high : ℕ) (ts : List Transition) → Ascends low high ts → RoutesBelow n ts → All (λ (t : Transition). t.next < n) ts
unfolding RoutesBelow
targets-below n low high [] a below = All-nil (λ (t : Transition). t.next < n)
targets-below n low high (t ∷ ts) a below =
    All-cons (λ (t : Transition). t.next < n) t ts
    (below t.start t.next (takes t ts t.start (omega arith) a.1))
    (targets-below n (t.end + 1) high ts a.2
    (λ b q e. takes_or_passes t b
    (λ above under. absurd (none-some q (sym (route-outside (t.end + 1) high ts b a.2 (inl (omega arith))) ∙ e)))
    (λ out. below b q (passes t ts b out ∙ e))))

reading-below : (n : ℕ) (s : State) (ts : List Transition) → reading s ≡ Some ts → All (λ (t : Transition). t.next < n) ts → NamesBelow n s
reading-below n (ByteRange low high next) ts is h =
    let one = same_transitions (transition_to next (low, high) ∷ []) ts is in
    All-head (λ (t : Transition). t.next < n) (record { start = low; end = high; next = next }) [] (subst (All (λ (t : Transition). t.next < n)) (sym one) h)
reading-below n (Sparse transitions) ts is h = subst (All (λ (t : Transition). t.next < n)) (sym (same_transitions transitions ts is)) h
reading-below n (Look look next) ts is h = absurd (no_transitions ts is)
reading-below n (Union alternates) ts is h = absurd (no_transitions ts is)
reading-below n (Capture next pattern slot) ts is h = absurd (no_transitions ts is)
reading-below n Fail ts is h = tt
reading-below n (Match pattern) ts is h = tt

pub NamesBelow-more : (n more : ℕ) (s : State) → n ≤ more → NamesBelow n s → NamesBelow more s
NamesBelow-more n more (ByteRange low high next) le h = omega arith
NamesBelow-more n more (Sparse transitions) le h = λ k d lt. (let below = h k d lt in omega arith)
NamesBelow-more n more (Look look next) le h = omega arith
NamesBelow-more n more (Union alternates) le h = λ k d lt. (let below = h k d lt in omega arith)
NamesBelow-more n more (Capture next pattern slot) le h = omega arith
NamesBelow-more n more Fail le h = tt
NamesBelow-more n more (Match pattern) le h = tt

pub AreClosed-push : (xs : List State) (s : State) → NamesBelow (length xs + 1) s → AreClosed xs → AreClosed (xs ++ s ∷ [])
AreClosed-push xs s names closed =
    let long : length (xs ++ s ∷ []) ≡ length xs + 1 = length_push xs s in
    subst (λ n. All (NamesBelow n) (xs ++ s ∷ [])) (sym long) (All-append (NamesBelow (length xs + 1)) xs (s ∷ [])
    (λ k d lt. NamesBelow-more (length xs) (length xs + 1) _ (omega arith) (closed k d lt))
    (All-cons (NamesBelow (length xs + 1)) s [] names (All-nil (NamesBelow (length xs + 1)))))

pub AreClosed-reader : (xs : List State) (s : State) (ts : List Transition) → reading s ≡ Some ts → Ascends 0 256 ts → RoutesBelow (length xs) ts
    → AreClosed xs → AreClosed (xs ++ s ∷ [])
AreClosed-reader xs s ts is ascends below closed =
    AreClosed-push xs s
    (NamesBelow-more (length xs) (length xs + 1) s (omega arith) (reading-below (length xs) s ts is (targets-below (length xs) 0 256 ts ascends below)))
    closed

-- a state that only reads bytes names no pattern and no slot
pub reader-within : (patterns slots : ℕ) (s : State) (ts : List Transition) → reading s ≡ Some ts → IsWithin patterns slots s
reader-within patterns slots (ByteRange low high next) ts is = tt
reader-within patterns slots (Sparse transitions) ts is = tt
reader-within patterns slots (Look look next) ts is = tt
reader-within patterns slots (Union alternates) ts is = tt
reader-within patterns slots (Capture next pattern slot) ts is = absurd (no_transitions ts is)
reader-within patterns slots Fail ts is = tt
reader-within patterns slots (Match pattern) ts is = absurd (no_transitions ts is)

pub reader-own : (groups : List (List (Option (List ℕ)))) (s : State) (ts : List Transition) → reading s ≡ Some ts → WritesOwnSlots groups s
reader-own groups (ByteRange low high next) ts is = tt
reader-own groups (Sparse transitions) ts is = tt
reader-own groups (Look look next) ts is = tt
reader-own groups (Union alternates) ts is = tt
reader-own groups (Capture next pattern slot) ts is = absurd (no_transitions ts is)
reader-own groups Fail ts is = tt
reader-own groups (Match pattern) ts is = tt

pub reader-sorted : (s : State) (ts : List Transition) → reading s ≡ Some ts → Ascends 0 256 ts → HasSortedTransitions s
reader-sorted (ByteRange low high next) ts is a = subst (Ascends 0 256) (sym (same_transitions (record { start = low; end = high; next = next } ∷ []) ts is)) a
reader-sorted (Sparse transitions) ts is a = subst (Ascends 0 256) (sym (same_transitions transitions ts is)) a
reader-sorted (Look look next) ts is a = tt
reader-sorted (Union alternates) ts is a = tt
reader-sorted (Capture next pattern slot) ts is a = tt
reader-sorted Fail ts is a = tt
reader-sorted (Match pattern) ts is a = tt

-- what holds of each state that only reads bytes
pub AddsReaders-all : (P : State → Type 0) → ((s : State) (ts : List Transition) → reading s ≡ Some ts → Ascends 0 256 ts → P s) → (old new : List State)
    → AddsReaders old new → All P old → All P new
AddsReaders-all P each old new g h = All-from_get_or P new Fail (λ q lt.
    by_test (nat_lt q (length old))
    (λ e. let inside : q < length old = grind (arith, nat_tests) in
    subst P (sym (g.kept q inside)) (h q Fail inside))
    (λ e. let r = g.readers q (grind (arith, nat_tests)) lt in each (state_at new q) r.0 r.1 r.2))
