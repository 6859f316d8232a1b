-- The pattern of what is found is one of the NFA's.
use Rattle.std.proofs.Common.{◌≡◌, ℕ, zero, suc, ◌+◌, ◌-◌, ◌≤◌, ◌<◌, List, [], ◌∷◌, length, refl, sym, ◌∙◌, ap, subst, arith}
use Rattle.std.specs.Prelude.{Bool, true, false, Option, Some, None, IfSome, ◌==◌, nat_lt}
use Rattle.std.specs.Option.{option_or}
use Rattle.std.proofs.lemmas.Bool.Decides.{nat_tests}
use Rattle.std.proofs.lemmas.List.{get_or_past}
use Rattle.std.proofs.lemmas.List.Elements.{All-nil, All-cons, All-head, All-tail, All-get_or}
use Rattle.rx_model.specs.Look.{byte_before, byte_after}
use Rattle.rx_model.specs.Search.{is_permitted}
use Rattle.rx_model.proofs.lemmas.runs.RunLemmas.{by_test}
use Rattle.rx_model.proofs.lemmas.runs.FirstLemmas.{none-is-some, some-is}
use Rattle.rx_model.proofs.lemmas.runs.RiseLemmas.{mapped-some}
use Rattle.rx_search.specs.Input.{InputValue}
use Rattle.rx_search.specs.Matches.{HalfMatchValue}
use Rattle.rx_search.specs.declared.anchored.MatchKind.{MatchKind}
use Rattle.rx_search.specs.declared.anchored.MatchKind.TheVariants.{All, LeftmostFirst}
use Rattle.rx_nfa.specs.Automaton.{Surroundings, forwards, backwards, byte_within, state_at, state_accepts, IsWithin}
use Rattle.rx_nfa.specs.Nfa.{Nfa, IsInRange}
use Rattle.rx_nfa.specs.Ordered.{AreBelow, first_told, threads_from}
use Rattle.rx_nfa.specs.declared.state.State.{State}
use Rattle.rx_nfa.specs.declared.state.State.TheVariants.{ByteRange, Sparse, Look, Union, Capture, Fail, Match}
use Rattle.rx_determinize.specs.Key.{Key, accepts_in, listed, with_pattern, with_accepted, accepted_by, matching, step_key, end_key}
use Rattle.rx_determinize.specs.Permitted.{Progress, fresh, recorded, met_within, run_within}
use Rattle.rx_determinize.specs.Told.{at_place}
use Rattle.rx_dfa.specs.Automaton.{Dfa, IsSound, sight_of, first_key, next_key}
use Rattle.rx_dfa.specs.Course.{progress_of, end_of, IsMetAlong, IsMetForwards, IsMetBackwards}

-- a state names the pattern that it accepts
accepts-within : (patterns slots p : ℕ) (s : State) → IsWithin patterns slots s → state_accepts s ≡ Some p → p < patterns
accepts-within patterns slots p (ByteRange low high next) within accepts = none-is-some accepts
accepts-within patterns slots p (Sparse transitions) within accepts = none-is-some accepts
accepts-within patterns slots p (Look look next) within accepts = none-is-some accepts
accepts-within patterns slots p (Union alternates) within accepts = none-is-some accepts
accepts-within patterns slots p (Capture next pattern slot) within accepts = none-is-some accepts
accepts-within patterns slots p Fail within accepts = none-is-some accepts
accepts-within patterns slots p (Match pattern) within accepts =
    let lt : pattern < patterns = within in
    let same : pattern ≡ p = some-is accepts in
    omega arith

with_pattern-below : (n p : ℕ) (xs : List ℕ) → p < n → AreBelow n xs → AreBelow n (with_pattern p xs)
with_pattern-below n p [] lt below = All-cons (λ q. q < n) p [] lt (All-nil (λ q. q < n))
with_pattern-below n p (x ∷ xs) lt below =
    by_test (nat_lt p x)
    (λ e. rw e (All-cons (λ q. q < n) p (x ∷ xs) lt below))
    (λ e.
    by_test (p == x)
    (λ k. rw (e, k) below)
    (λ k.
    rw (e, k)
    (All-cons (λ q. q < n) x (with_pattern p xs) (All-head (λ q. q < n) x xs below)
    (with_pattern-below n p xs lt (All-tail (λ q. q < n) x xs below)))))

-- it is a pattern below this number, if there is one
abbrev HasBelow : ℕ → Option HalfMatchValue → Type 0
HasBelow n o = (h : HalfMatchValue) → o ≡ Some h → h.pattern < n

met-below : (n : ℕ) (may : ℕ → Bool) (ms : List ℕ) (place : ℕ) (r : Progress) → AreBelow n ms → HasBelow n r.best → HasBelow n (met_within may ms place r).best
met-below n may [] place r below before = before
met-below n may (q ∷ qs) place r below before = each (may place)
  where
    each : (t : Bool) → HasBelow n (recorded t q place r).best
    each true h is =
        let same : q ≡ h.pattern = ap (λ (x : HalfMatchValue). x.pattern) (some-is is) in
        let lt : q < n = All-head (λ z. z < n) q qs below in
        omega arith
    each false h is = before h is

module _ (nfa : Nfa) (range : IsInRange nfa) where
  accepted-within : (q p : ℕ) → accepts_in nfa.states q ≡ Some p → p < length nfa.starts
  accepted-within q p h =
      by_test (nat_lt q (length nfa.states))
      (λ e.
      let lt : q < length nfa.states = grind (arith, nat_tests) in
      accepts-within (length nfa.starts) nfa.slots p (state_at nfa.states q)
      (All-get_or (IsWithin (length nfa.starts) nfa.slots) nfa.states q Fail lt range.within) h)
      (λ e.
      let past : length nfa.states ≤ q = grind (arith, nat_tests) in
      none-is-some (ap state_accepts (sym (get_or_past nfa.states q Fail past)) ∙ h))

  with-below : (q : ℕ) (ps : List ℕ) → AreBelow (length nfa.starts) ps → (o : Option ℕ) → accepts_in nfa.states q ≡ o
      → AreBelow (length nfa.starts) (with_accepted o ps)
  with-below q ps below None is = below
  with-below q ps below (Some p) is = with_pattern-below (length nfa.starts) p ps (accepted-within q p is) below

  accepted-below : (qs : List ℕ) → AreBelow (length nfa.starts) (accepted_by nfa.states qs)
  accepted-below [] = All-nil (λ p. p < length nfa.starts)
  accepted-below (q ∷ qs) = with-below q (accepted_by nfa.states qs) (accepted-below qs) (accepts_in nfa.states q) refl

  or-below : (q : ℕ) (rest : Option ℕ) → AreBelow (length nfa.starts) (listed rest) → (o : Option ℕ) → accepts_in nfa.states q ≡ o
      → AreBelow (length nfa.starts) (listed (option_or o rest))
  or-below q rest below None is = below
  or-below q rest below (Some p) is =
      All-cons (λ x. x < length nfa.starts) p [] (accepted-within q p is) (All-nil (λ x. x < length nfa.starts))

  first-below : (qs : List ℕ) → AreBelow (length nfa.starts) (listed (first_told (accepts_in nfa.states) qs))
  first-below [] = All-nil (λ p. p < length nfa.starts)
  first-below (q ∷ qs) = or-below q (first_told (accepts_in nfa.states) qs) (first-below qs) (accepts_in nfa.states q) refl

  matching-below : (kind : MatchKind) (qs : List ℕ) → AreBelow (length nfa.starts) (matching kind nfa.states qs)
  matching-below All qs = accepted-below qs
  matching-below LeftmostFirst qs = first-below qs

-- Each pattern stands once.

-- each is greater than those before it, and none is below this number
abbrev AscendsFrom : ℕ → List ℕ → Type 0
AscendsFrom low [] = Unit {0}
AscendsFrom low (x ∷ xs) = (low ≤ x) × AscendsFrom (x + 1) xs

with_pattern-ascends : (low p : ℕ) (xs : List ℕ) → low ≤ p → AscendsFrom low xs → AscendsFrom low (with_pattern p xs)
with_pattern-ascends low p [] le h = (le, tt)
with_pattern-ascends low p (x ∷ xs) le h =
    by_test (nat_lt p x)
    (λ e. let lt : p + 1 ≤ x = grind (arith, nat_tests) in rw e (le, (lt, h.1)))
    (λ e.
    by_test (p == x)
    (λ k. rw (e, k) h)
    (λ k. let lt : x + 1 ≤ p = grind (arith, nat_tests) in rw (e, k) (h.0, with_pattern-ascends (x + 1) p xs lt h.1)))

with-ascends : (ps : List ℕ) → AscendsFrom 0 ps → (o : Option ℕ) → AscendsFrom 0 (with_accepted o ps)
with-ascends ps h None = h
with-ascends ps h (Some p) = with_pattern-ascends 0 p ps (omega arith) h

accepted-ascends : (states : List State) (qs : List ℕ) → AscendsFrom 0 (accepted_by states qs)
accepted-ascends states [] = tt
accepted-ascends states (q ∷ qs) = with-ascends (accepted_by states qs) (accepted-ascends states qs) (accepts_in states q)

listed-ascends : (o : Option ℕ) → AscendsFrom 0 (listed o)
listed-ascends None = tt
listed-ascends (Some p) = (omega arith, tt)

matching-ascends : (kind : MatchKind) (states : List State) (qs : List ℕ) → AscendsFrom 0 (matching kind states qs)
matching-ascends All states qs = accepted-ascends states qs
matching-ascends LeftmostFirst states qs = listed-ascends (first_told (accepts_in states) qs)

-- so there are no more than there are numbers for them
ascending-short : (n low : ℕ) (xs : List ℕ) → low ≤ n → AscendsFrom low xs → AreBelow n xs → length xs + low ≤ n
ascending-short n low [] le h below = omega arith
ascending-short n low (x ∷ xs) le h below =
    let lt : x < n = All-head (λ q. q < n) x xs below in
    let up : low ≤ x = h.0 in
    let rest = ascending-short n (x + 1) xs (omega arith) h.1 (All-tail (λ q. q < n) x xs below) in
    omega arith

matching-few : (nfa : Nfa) → IsInRange nfa → (kind : MatchKind) (qs : List ℕ) → length (matching kind nfa.states qs) ≤ length nfa.starts
matching-few nfa range kind qs =
    let short =
    ascending-short (length nfa.starts) 0 (matching kind nfa.states qs) (omega arith) (matching-ascends kind nfa.states qs) (matching-below nfa range kind qs)
    in
    omega arith

module _ (d : Dfa) (sound : IsSound d) where
  pub next-few : (k : Key) (byte : ℕ) → length (next_key d k byte).matches ≤ length d.nfa.starts
  unfolding step_key
  next-few k byte = matching-few d.nfa sound.in_range d.kind (threads_from d.nfa.states ((sight_of d).holds k.before (Some byte)) k.threads)

  pub end-few : (k : Key) (after : Option ℕ) → length (end_of d k after).matches ≤ length d.nfa.starts
  unfolding end_key
  end-few k after = matching-few d.nfa sound.in_range d.kind (threads_from d.nfa.states ((sight_of d).holds k.before after) k.threads)

  pub next-below : (k : Key) (byte : ℕ) → AreBelow (length d.nfa.starts) (next_key d k byte).matches
  unfolding step_key
  next-below k byte = matching-below d.nfa sound.in_range d.kind (threads_from d.nfa.states ((sight_of d).holds k.before (Some byte)) k.threads)

  pub end-below : (k : Key) (after : Option ℕ) → AreBelow (length d.nfa.starts) (end_of d k after).matches
  unfolding end_key
  end-below k after = matching-below d.nfa sound.in_range d.kind (threads_from d.nfa.states ((sight_of d).holds k.before after) k.threads)

  run-below : (around : Surroundings) (may : ℕ → Bool) (size n i : ℕ) (k : Key) (r : Progress) → HasBelow (length d.nfa.starts) r.best
      → HasBelow (length d.nfa.starts) (progress_of d around may size n i k r).best
  unfolding run_within
  run-below around may size zero i k r before =
      met-below (length d.nfa.starts) may (end_of d k (byte_within around.byte size i)).matches i r (end-below k (byte_within around.byte size i)) before
  run-below around may size (suc n) i k r before =
      run-below around may size n (i + 1) (next_key d k (around.byte i)) (met_within may (next_key d k (around.byte i)).matches i r)
      (met-below (length d.nfa.starts) may (next_key d k (around.byte i)).matches i r (next-below k (around.byte i)) before)

  along-below : (around : Surroundings) (may : ℕ → Bool) (size b a : ℕ) (k : Key) (earliest : Bool) (r : Progress)
      → IsMetAlong d around may size b a k earliest r → HasBelow (length d.nfa.starts) r.best
  along-below around may size b a k earliest r m =
      subst (λ (x : Progress). HasBelow (length d.nfa.starts) x.best) (sym m.is)
      (run-below around may size (m.stop - a) a k fresh (λ h none. none-is-some none))

  pub forwards-below : (v : InputValue) (r : Progress) → IsMetForwards d v r → (h : HalfMatchValue) → r.best ≡ Some h → h.pattern < length d.nfa.starts
  forwards-below v r m h is =
      along-below (forwards d.nfa.terminator v.haystack) (is_permitted d.nfa.utf8 v.haystack) (length v.haystack) v.end v.start
      (first_key d v.anchor (byte_before v.haystack v.start)) v.earliest r m h is

  pub backwards-below : (v : InputValue) (met : Progress) → IsMetBackwards d v met → (h : HalfMatchValue) → met.best ≡ Some h
      → h.pattern < length d.nfa.starts
  backwards-below v met m h is =
      let x = mapped-some (at_place (length v.haystack)) m.at_distances.best h (ap (λ (r : Progress). r.best) (sym m.is) ∙ is) in
      let lt = along-below (backwards d.nfa.terminator v.haystack) (λ i. is_permitted d.nfa.utf8 v.haystack (length v.haystack - i)) (length v.haystack)
      (length v.haystack - v.start) (length v.haystack - v.end) (first_key d v.anchor (byte_after v.haystack v.end)) v.earliest m.at_distances m.along
      x.0 x.1 in
      let same : x.0.pattern ≡ h.pattern = ap (λ (y : HalfMatchValue). y.pattern) x.2 in
      omega arith

pub if-below : (n : ℕ) (o : Option HalfMatchValue) → ((h : HalfMatchValue) → o ≡ Some h → h.pattern < n) → IfSome o (λ h. h.pattern < n)
if-below n None below = tt
if-below n (Some h) below = below h refl
