-- What a depth-first search does at a state.
use Rattle.std.proofs.Common.{◌≡◌, ℕ, ◌+◌, ◌<◌, ◌≤◌, List, [], ◌∷◌, ◌++◌, refl, sym, ◌∙◌, ap, inl, inr, arith, get_or, length}
use Rattle.std.proofs.lemmas.Bool.Decides.{nat_tests}
use Rattle.std.proofs.lemmas.List.Elements.{All-head, All-tail}
use Rattle.std.specs.Prelude.{Bool, true, false, if◌then◌else◌, Option, Some, None, All, map, nat_lt, nat_le, ◌&&◌, slice_index}
use Rattle.rx_model.specs.Runs.{PriorityGraph, Configuration}
use Rattle.rx_model.proofs.lemmas.runs.RunLemmas.{by_test}
use Rattle.rx_model.proofs.lemmas.runs.FirstLemmas.{none-is-some, some-is}
use Rattle.rx_nfa.specs.Automaton.{at, automaton, state_at, state_step, state_accepts, state_writes, route, go_on, read_byte, forwards, byte_of, byte_at, target_of}
use Rattle.rx_nfa.specs.declared.state.Transition.{Transition}
use Rattle.rx_nfa.specs.declared.state.State.{State}
use Rattle.rx_nfa.proofs.lemmas.runs.StateLemmas.{accepted-is, successors-is, written-is}
use Rattle.rx_engines.specs.Walk.{Slots, AllWithin, Saves, Yields, explore_all}
use Rattle.rx_engines.specs.Onward.{frames_of, onto, IsNear}
use Rattle.rx_engines.specs.Backtrack.{Stepped}
use Rattle.rx_engines.specs.declared.frame.Frame.{Frame}
use Rattle.rx_engines.specs.declared.frame.Frame.TheVariants.{Explore, Restore}

-- where a byte leads to
pub reads-onto : (T : Type 0) (text : List ℕ) (end : ℕ) (ts : List Transition) (i : ℕ) (rest : List Frame)
    → frames_of {T = T} (onto (target_of ts (byte_at text end i)) (i + 1)) rest ≡ explore_all (read_byte (byte_of text) end ts i) ++ rest
reads-onto T text end ts i rest =
    by_test (nat_lt i end)
    (λ e. rw e (goes (route ts (slice_index text i))))
    (λ e. rw e refl)
  where
    goes : (o : Option ℕ) → frames_of {T = T} (onto o (i + 1)) rest ≡ explore_all (go_on o (i + 1)) ++ rest
    goes None = refl
    goes (Some q) = refl

-- where a look-around leads to
pub looks-onto : (T : Type 0) (b : Bool) (next i : ℕ) (rest : List Frame)
    → frames_of {T = T} (onto (if b then Some next else None) i) rest ≡ explore_all (if b then at next i ∷ [] else []) ++ rest
looks-onto T true next i rest = refl
looks-onto T false next i rest = refl

-- on to a state, or back
pub Stepped-onto : (g : PriorityGraph) (c : Configuration) (o : Option ℕ) (i : ℕ) (frames frames' : List Frame) (slots slots' : Slots)
    → Yields g c frames (frames_of {T = ℕ} (onto o i) frames') slots slots' → Stepped g c (onto o i) frames frames' slots slots'
Stepped-onto g c None i frames frames' slots slots' y = y
Stepped-onto g c (Some q) i frames frames' slots slots' y = y

module _ (terminator : ℕ) (states : List State) (text : List ℕ) (end q i : ℕ) (state : q < length states) (place : i ≤ end) where
  -- the state writes nothing
  pub Yields-unwritten : (s : State) → state_at states q ≡ s → state_accepts s ≡ None → state_writes s ≡ None → (frames frames' : List Frame) (slots : Slots)
      → frames' ≡ explore_all (state_step (forwards terminator text) end s i) ++ frames
      → Yields (automaton terminator states text end) (at q i) frames frames' slots slots
  Yields-unwritten s e none unwritten frames frames' slots is = record {
    accepts = accepted-is (forwards terminator text) states end q i state place s e ∙ none;
    goes_on = inl (
      λ k writes. none-is-some (sym (written-is (forwards terminator text) states end q i state place s e ∙ unwritten) ∙ writes),
      is ∙ ap (λ ds. explore_all ds ++ frames) (sym (successors-is (forwards terminator text) states end q i state place s e)),
      refl,
    );
  }

  -- the state writes a slot, if it is there
  pub Yields-saved : (s : State) (slot next : ℕ) → state_at states q ≡ s → state_accepts s ≡ None → state_writes s ≡ Some slot
      → state_step (forwards terminator text) end s i ≡ at next i ∷ []
      → (frames frames' : List Frame) (slots slots' : Slots) → Saves slot i frames frames' slots slots'
      → Yields (automaton terminator states text end) (at q i) frames (Explore next i ∷ frames') slots slots'
  Yields-saved s slot next e none writes goes frames frames' slots slots' saved =
      let successors : (automaton terminator states text end).successors (at q i) ≡ at next i ∷ [] = successors-is (forwards terminator text) states end q i
      state place s e ∙ goes in
      let written : (automaton terminator states text end).written (at q i) ≡ Some slot = written-is (forwards terminator text) states end q i state place s e
      ∙ writes in
      record {
        accepts = accepted-is (forwards terminator text) states end q i state place s e ∙ none;
        goes_on = elim saved [
          | inl h ↦ inl (
            λ k other. (let same : slot ≡ k = some-is (sym written ∙ other) in let past = h.0 in omega arith),
            ap (λ fs. Explore next i ∷ fs) h.1 ∙ ap (λ ds. explore_all ds ++ frames) (sym successors),
            h.2,
          )
          | inr h ↦ inr (
            slot,
            written,
            ap (λ fs. Explore next i ∷ fs) h.0 ∙ ap (λ ds. explore_all ds ++ (Restore slot (get_or slots slot None) ∷ frames)) (sym successors),
            h.1,
          )
        ];
      }

-- it goes on here, or at the next place
pub onto-near : (T : Type 0) (o : Option ℕ) (i j : ℕ) → i ≤ j → j ≤ i + 1 → IsNear {T = T} i (onto o j)
onto-near T None i j low high = tt
onto-near T (Some q) i j low high = (low, high)

-- Where the frames lie.

-- a byte leads to a state that is there
target-names : (n : ℕ) (ts : List Transition) (o : Option ℕ) (next : ℕ) → All (λ (t : Transition). t.next < n) ts → target_of ts o ≡ Some next → next < n
target-names n ts None next all h = none-is-some h
target-names n ts (Some b) next all h = routed ts all h
  where
    routed : (ts : List Transition) → All (λ (t : Transition). t.next < n) ts → route ts b ≡ Some next → next < n
    routed [] all h = none-is-some h
    routed (t ∷ ts) all h =
        by_test (nat_le t.start b && nat_le b t.end)
        (λ e. let same : t.next ≡ next = some-is (rw e at h) in let lt = All-head (λ (t : Transition). t.next < n) t ts all in omega arith)
        (λ e. routed ts (All-tail (λ (t : Transition). t.next < n) t ts all) (rw e at h))

-- and to a place within the end
target-within : (text : List ℕ) (end : ℕ) (ts : List Transition) (i next : ℕ) → target_of ts (byte_at text end i) ≡ Some next → i < end
target-within text end ts i next h =
    by_test (nat_lt i end)
    (λ e. grind (arith, nat_tests))
    (λ e. none-is-some (rw e at h))

pub AllWithin-read : (T : Type 0) (n first end : ℕ) (text : List ℕ) (ts : List Transition) (i : ℕ) (rest : List Frame) → first ≤ i
    → All (λ (t : Transition). t.next < n) ts → AllWithin n first end rest
    → AllWithin n first end (frames_of {T = T} (onto (target_of ts (byte_at text end i)) (i + 1)) rest)
AllWithin-read T n first end text ts i rest le all inside = at_target (target_of ts (byte_at text end i)) refl
  where
    at_target : (o : Option ℕ) → target_of ts (byte_at text end i) ≡ o → AllWithin n first end (frames_of {T = T} (onto o (i + 1)) rest)
    at_target None e = inside
    at_target (Some next) e =
        let lt = target-within text end ts i next e in
        (target-names n ts (byte_at text end i) next all e, omega arith, omega arith, inside)

pub AllWithin-looked : (T : Type 0) (n first end : ℕ) (b : Bool) (next i : ℕ) (rest : List Frame) → next < n → first ≤ i → i ≤ end → AllWithin n first end rest
    → AllWithin n first end (frames_of {T = T} (onto (if b then Some next else None) i) rest)
AllWithin-looked T n first end true next i rest lt ge le inside = (lt, ge, le, inside)
AllWithin-looked T n first end false next i rest lt ge le inside = inside

pub AllWithin-union : (n first end i : ℕ) (qs : List ℕ) (frames : List Frame) → first ≤ i → i ≤ end → All (λ q. q < n) qs → AllWithin n first end frames
    → AllWithin n first end (explore_all (map (λ q. at q i) qs) ++ frames)
AllWithin-union n first end i [] frames ge le all inside = inside
AllWithin-union n first end i (q ∷ qs) frames ge le all inside =
    (All-head (λ x. x < n) q qs all, ge, le, AllWithin-union n first end i qs frames ge le (All-tail (λ x. x < n) q qs all) inside)
