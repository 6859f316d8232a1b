-- Where a union of some states becomes another one that leads to the same place by the same words, all other states keep their first runs.
use Rattle.std.proofs.Common.{◌≡◌, ℕ, zero, suc, ◌+◌, ◌≤◌, ◌<◌, ◌⊎◌, List, [], ◌∷◌, length, Option, Some, None, refl, sym, ◌∙◌, ap, subst, inl, inr, ⊎_elim, arith}
use Rattle.std.specs.Prelude.{Bool, true, false, ◌&&◌, if◌then◌else◌, nat_lt, nat_le, map, All, Contains, option_map}
use Rattle.std.proofs.lemmas.Bool.{cases_lt}
use Rattle.std.proofs.lemmas.List.Elements.{All-nil, All-cons, All-head, All-tail}
use Rattle.rx_model.specs.Runs.{Configuration, PriorityGraph, Passed, Sieve, sifted, sieved, nowhere, and_at, same, with_write, found, first_some, is_among}
use Rattle.rx_model.specs.Machine.{graph_of}
use Rattle.rx_model.proofs.lemmas.runs.RunLemmas.{by_test, same-true, left, left-less, first_some-alike_at}
use Rattle.rx_model.proofs.lemmas.runs.FoundLemmas.{found-passed, found-accepted, found-step}
use Rattle.rx_model.proofs.lemmas.runs.MachineLemmas.{grid-has}
use Rattle.rx_model.proofs.lemmas.runs.MemberLemmas.{none-among, only-among, split-among, choice-member}
use Rattle.rx_model.proofs.lemmas.runs.FirstLemmas.{some-is}
use Rattle.rx_model.proofs.lemmas.graphs.SieveLemmas.{sieved-bounded}
use Rattle.rx_search.specs.Look.{kind_of}
use Rattle.rx_nfa.specs.Automaton.{at, route, go_on, read_byte, state_step, state_accepts, state_writes, state_at, Surroundings, automaton_over}
use Rattle.rx_nfa.specs.Prefixes.{HasSameRuns, LeadsInto, lands, Reads, IsOutside}
use Rattle.rx_nfa.specs.declared.state.Transition.{Transition}
use Rattle.rx_nfa.specs.declared.state.State.{State}
use Rattle.rx_nfa.specs.declared.state.State.TheVariants.{ByteRange, Sparse, Look, Union, Capture, Fail, Match}
use Rattle.rx_nfa.proofs.lemmas.runs.AutomatonLemmas.{automaton-bounded, automaton-successors, automaton-accepted, automaton-written, automaton-successors-past, automaton-accepted-past, automaton-successors-beyond, automaton-accepted-beyond}

all-among : (P : ℕ → Type 0) (qs : List ℕ) (q : ℕ) → All P qs → Contains qs q → P q
all-among P [] q all m = absurd (none-among q m)
all-among P (x ∷ qs) q all m =
    ⊎_elim (λ e. subst P e (All-head P x qs all)) (λ more. all-among P qs q (All-tail P x qs all) more) (split-among x q qs m)

-- the target of a byte is one of those that transitions lead to
route-into : (IsOne : ℕ → Type 0) (ts : List Transition) (b q : ℕ) → All (λ (t : Transition). IsOne t.next) ts → route ts b ≡ Some q → IsOne q
route-into IsOne [] b q all e = cc
route-into IsOne (t ∷ ts) b q all e =
    taken (nat_le t.start b && nat_le b t.end) (λ later. route-into IsOne ts b q (All-tail (λ (t : Transition). IsOne t.next) t ts all) later) e
  where
    taken : (hit : Bool) → (route ts b ≡ Some q → IsOne q) → (if hit then Some t.next else route ts b) ≡ Some q → IsOne q
    taken true more e = subst IsOne (some-is e) (All-head (λ (t : Transition). IsOne t.next) t ts all)
    taken false more e = more e

-- a step leads to a state that the state goes on to
pub step-into : (IsOne : ℕ → Type 0) (around : Surroundings) (end : ℕ) (s : State) (i : ℕ) (d : Configuration) → LeadsInto IsOne s
    → Contains (state_step around end s i) d → IsOne d.state
step-into IsOne around end s i d = steps s
  where
    goes : (o : Option ℕ) → ((q : ℕ) → o ≡ Some q → IsOne q) → Contains (go_on o (i + 1)) d → IsOne d.state
    goes None each m = absurd (none-among d m)
    goes (Some q) each m = subst IsOne (ap (λ (c : Configuration). c.state) (only-among (at q (i + 1)) d m)) (each q refl)

    reads : (ts : List Transition) → All (λ (t : Transition). IsOne t.next) ts → Contains (read_byte around.byte end ts i) d → IsOne d.state
    reads ts all m =
        by_test (nat_lt i end)
        (λ e. goes (route ts (around.byte i)) (λ q is. route-into IsOne ts (around.byte i) q all is) (rw e at m))
        (λ e. absurd (none-among d (rw e at m)))

    holding : (b : Bool) (next : ℕ) → IsOne next → Contains (if b then at next i ∷ [] else []) d → IsOne d.state
    holding true next one m = subst IsOne (ap (λ (c : Configuration). c.state) (only-among (at next i) d m)) one
    holding false next one m = absurd (none-among d m)

    steps : (s : State) → LeadsInto IsOne s → Contains (state_step around end s i) d → IsOne d.state
    steps (ByteRange low high next) one m =
        reads (record { start = low; end = high; next = next } ∷ [])
        (All-cons (λ (t : Transition). IsOne t.next) (record { start = low; end = high; next = next }) [] one (All-nil (λ (t : Transition). IsOne t.next))) m
    steps (Sparse transitions) all m = reads transitions all m
    steps (Look look next) one m = holding (around.looks (kind_of look) i) next one m
    steps (Union alternates) all m =
        let x = choice-member alternates i d m in
        subst IsOne (ap (λ (c : Configuration). c.state) x.2) (all-among IsOne alternates x.0 all x.1)
    steps (Capture next pattern slot) one m = subst IsOne (ap (λ (c : Configuration). c.state) (only-among (at next i) d m)) one
    steps Fail one m = absurd (none-among d m)
    steps (Match pattern) one m = absurd (none-among d m)

-- the configurations of an automaton
among-all : (around : Surroundings) (states : List State) (end q i : ℕ) → q < length states → i ≤ end
    → is_among (automaton_over around states end).all (at q i) ≡ true
unfolding automaton_over graph_of
among-all around states end q i lt le = grid-has (length states) (suc end) q i lt (omega arith)

-- nothing is found past the end, nor from a state that is not there
found-away : (ok : Sieve) (around : Surroundings) (states : List State) (end : ℕ) (p : Passed) (q i : ℕ) → (length states ≤ q) ⊎ (end < i)
    → found (sieved ok (automaton_over around states end)) p (at q i) ≡ None
found-away ok around states end p q i away =
    by_test (p (at q i))
    (λ seen. found-passed m p (at q i) seen)
    (λ new. found-step m p (sieved-bounded ok (automaton_over around states end) (automaton-bounded around states end)) (at q i) new (accepted away)
    ∙ ap (λ ds. option_map (with_write (m.written (at q i)) i) (first_some (found m (and_at (at q i) p)) ds)) (successors away))
  where
    m : PriorityGraph
    m = sieved ok (automaton_over around states end)

    accepted : (length states ≤ q) ⊎ (end < i) → m.accepted (at q i) ≡ None
    accepted (inl beyond) = ap (sifted ok i) (automaton-accepted-beyond around states end q i beyond)
    accepted (inr past) = ap (sifted ok i) (automaton-accepted-past around states end q i past)

    successors : (length states ≤ q) ⊎ (end < i) → m.successors (at q i) ≡ []
    successors (inl beyond) = automaton-successors-beyond around states end q i beyond
    successors (inr past) = automaton-successors-past around states end q i past

module _ (old new : List State) (low q next : ℕ) (long : length new ≡ length old) (inside : q < length old) (le : low ≤ q) (out : IsOutside low q next)
    (heads starts : List ℕ) (words : List (List ℕ)) (was : state_at old q ≡ Union heads) (is : state_at new q ≡ Union starts)
    (before : Reads old low q next heads words) (after : Reads new low q next starts words)
    (kept : (r : ℕ) → IsOutside low (suc q) r → state_at new r ≡ state_at old r)
    (apart : (r : ℕ) → IsOutside low (suc q) r → LeadsInto (IsOutside low q) (state_at old r)) where
  -- nothing was passed of the states that are replaced
  abbrev IsApart : Passed → Type 0
  IsApart p = (d j : ℕ) → low ≤ d → d < q → p (at d j) ≡ false

  apart-on : (p : Passed) (r i : ℕ) → IsOutside low q r → IsApart p → IsApart (and_at (at r i) p)
  apart-on p r i away clear d j from below =
      by_test (same (at r i) (at d j))
      (λ e. let equal : r ≡ d = ap (λ (x : Configuration). x.state) (same-true (at r i) (at d j) e) in
      absurd (⊎_elim (λ lt. let gone : ⊥ = omega arith in gone) (λ ge. let gone : ⊥ = omega arith in gone) away))
      (λ e. rw e (clear d j from below))

  module _ (ok : Sieve) (around : Surroundings) (end : ℕ) where
    abbrev g : PriorityGraph
    g = sieved ok (automaton_over around old end)

    abbrev m : PriorityGraph
    m = sieved ok (automaton_over around new end)

    -- what is found after a configuration was passed too
    abbrev Alike : Passed → Type 0
    Alike p = (d : Configuration) → IsOutside low q d.state → found m p d ≡ found g p d

    -- a state that stays
    stays : (p : Passed) (r i : ℕ) → r < length old → i ≤ end → p (at r i) ≡ false → IsOutside low (suc q) r → Alike (and_at (at r i) p)
        → found m p (at r i) ≡ found g p (at r i)
    stays p r i lt place fresh here alike = accepts_or_not (sifted ok i (state_accepts (state_at old r))) refl
      where
        there : r < length new
        there = omega arith

        in_g : g.accepted (at r i) ≡ sifted ok i (state_accepts (state_at old r))
        in_g = ap (sifted ok i) (automaton-accepted around old end r i lt place)

        in_m : m.accepted (at r i) ≡ sifted ok i (state_accepts (state_at old r))
        in_m = ap (sifted ok i) (automaton-accepted around new end r i there place ∙ ap state_accepts (kept r here))

        written : m.written (at r i) ≡ g.written (at r i)
        written = automaton-written around new end r i ∙ ap state_writes (kept r here) ∙ sym (automaton-written around old end r i)

        successors : m.successors (at r i) ≡ g.successors (at r i)
        successors = automaton-successors around new end r i there place ∙ ap (λ s. state_step around end s i) (kept r here)
            ∙ sym (automaton-successors around old end r i lt place)

        accepts_or_not : (o : Option ℕ) → sifted ok i (state_accepts (state_at old r)) ≡ o → found m p (at r i) ≡ found g p (at r i)
        accepts_or_not (Some pattern) e =
            found-accepted m p (sieved-bounded ok (automaton_over around new end) (automaton-bounded around new end)) (at r i) pattern fresh (in_m ∙ e)
            ∙ sym (found-accepted g p (sieved-bounded ok (automaton_over around old end) (automaton-bounded around old end)) (at r i) pattern fresh (in_g ∙ e))
        accepts_or_not None e =
            found-step m p (sieved-bounded ok (automaton_over around new end) (automaton-bounded around new end)) (at r i) fresh (in_m ∙ e)
            ∙ (λ k. option_map (with_write (written k) i) (first_some (found m (and_at (at r i) p)) (successors k)))
            ∙ ap (option_map (with_write (g.written (at r i)) i))
            (first_some-alike_at (found m (and_at (at r i) p)) (found g (and_at (at r i) p)) (g.successors (at r i))
            (λ d member. alike d (step-into (IsOutside low q) around end (state_at old r) i d (apart r here)
            (subst (λ ds. Contains ds d) (automaton-successors around old end r i lt place) member))))
            ∙ sym (found-step g p (sieved-bounded ok (automaton_over around old end) (automaton-bounded around old end)) (at r i) fresh (in_g ∙ e))

    -- the union
    forks : (p : Passed) (i : ℕ) → i ≤ end → p (at q i) ≡ false → IsApart p → Alike (and_at (at q i) p) → found m p (at q i) ≡ found g p (at q i)
    unfolding Reads
    forks p i place fresh clear alike =
        found-step m p (sieved-bounded ok (automaton_over around new end) (automaton-bounded around new end)) (at q i) fresh
        (ap (sifted ok i) (automaton-accepted around new end q i (omega arith) place ∙ ap state_accepts is))
        ∙ (λ k. option_map (with_write (written k) i) (first_some (found m on) (in_m k)))
        ∙ ap (option_map (with_write None i))
        (after ok around end i on place (λ d j from below over. apart-on p q i (inr (omega arith)) clear d j from below)
        ∙ (λ k. lands (λ j. alike (at next j) out k) around.byte end i words)
        ∙ sym (before ok around end i on place (λ d j from below over. apart-on p q i (inr (omega arith)) clear d j from below)))
        ∙ sym
        (found-step g p (sieved-bounded ok (automaton_over around old end) (automaton-bounded around old end)) (at q i) fresh
        (ap (sifted ok i) (automaton-accepted around old end q i inside place ∙ ap state_accepts was))
        ∙ (λ k. option_map (with_write (writes k) i) (first_some (found g on) (in_g k))))
      where
        on : Passed
        on = and_at (at q i) p

        written : m.written (at q i) ≡ None
        written = automaton-written around new end q i ∙ ap state_writes is

        writes : g.written (at q i) ≡ None
        writes = automaton-written around old end q i ∙ ap state_writes was

        in_m : m.successors (at q i) ≡ map (λ s. at s i) starts
        in_m = automaton-successors around new end q i (omega arith) place ∙ ap (λ s. state_step around end s i) is

        in_g : g.successors (at q i) ≡ map (λ s. at s i) heads
        in_g = automaton-successors around old end q i inside place ∙ ap (λ s. state_step around end s i) was

    -- one configuration
    alike-step : (p : Passed) (c : Configuration) → IsApart p → IsOutside low q c.state
        → (p c ≡ false → is_among g.all c ≡ true → Alike (and_at c p)) → found m p c ≡ found g p c
    alike-step p c clear away later =
        by_test (p c)
        (λ seen. found-passed m p c seen ∙ sym (found-passed g p c seen))
        (λ fresh.
        ⊎_elim
        (λ past. found-away ok around new end p c.state c.place (inr past) ∙ sym (found-away ok around old end p c.state c.place (inr past)))
        (λ place.
        ⊎_elim
        (λ lt.
        let there = among-all around old end c.state c.place lt place in
        ⊎_elim
        (λ below. stays p c.state c.place lt place fresh (inl below) (later fresh there))
        (λ from.
        ⊎_elim
        (λ above. stays p c.state c.place lt place fresh (inr above) (later fresh there))
        (λ upto.
        let same : q ≡ c.state = omega arith in
        subst (λ r. (p (at r c.place) ≡ false) → Alike (and_at (at r c.place) p) → found m p (at r c.place) ≡ found g p (at r c.place)) same
        (λ fresh' alike. forks p c.place place fresh' clear alike) fresh (later fresh there))
        (cases_lt q c.state))
        away)
        (λ beyond. found-away ok around new end p c.state c.place (inl (omega arith))
        ∙ sym (found-away ok around old end p c.state c.place (inl beyond)))
        (cases_lt c.state (length old)))
        (cases_lt end c.place))

    found-alike : (n : ℕ) (p : Passed) (c : Configuration) → left g.all p ≤ n → IsApart p → IsOutside low q c.state → found m p c ≡ found g p c
    found-alike zero p c le' clear away =
        alike-step p c clear away (λ fresh there. let less = left-less g.all c p there fresh in absurd (omega arith))
    found-alike (suc n) p c le' clear away =
        alike-step p c clear away (λ fresh there.
        let less = left-less g.all c p there fresh in
        (λ d out'. found-alike n (and_at c p) d (omega arith) (apart-on p c.state c.place away clear) out'))

  -- the first runs stay
  pub fork-same : (r : ℕ) → IsOutside low q r → HasSameRuns old new r
  fork-same r away ok around end i =
      found-alike ok around end (left (g ok around end).all nowhere) nowhere (at r i) (omega arith) (λ d j from below. refl) away
