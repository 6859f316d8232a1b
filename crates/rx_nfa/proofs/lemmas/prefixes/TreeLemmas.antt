-- States that read words, by their first bytes and one after another.
use Rattle.std.proofs.Common.{◌≡◌, ℕ, ◌+◌, ◌-◌, ◌≤◌, ◌<◌, List, [], ◌∷◌, ◌++◌, length, Option, Some, None, refl, sym, ◌∙◌, ap, subst, arith}
use Rattle.std.specs.Prelude.{true, false, ◌&&◌, ◌==◌, nat_lt, nat_le, map, All, option_map}
use Rattle.std.specs.Option.{option_or}
use Rattle.std.proofs.lemmas.Bool.Decides.{nat_tests}
use Rattle.std.proofs.lemmas.List.Elements.{All-nil, All-cons}
use Rattle.std.proofs.lemmas.List.{map-append, length-append, get_or_append_left, get_or-append_right}
use Rattle.rx_model.specs.Runs.{Configuration, PriorityGraph, Passed, sifted, sieved, and_at, same, Trace, with_write, found, first_some}
use Rattle.rx_model.proofs.lemmas.runs.RunLemmas.{by_test, same-true}
use Rattle.rx_model.proofs.lemmas.runs.FoundLemmas.{found-step, found-forget}
use Rattle.rx_model.proofs.lemmas.runs.OptionLemmas.{or-none_right}
use Rattle.rx_model.proofs.lemmas.runs.WriteLemmas.{write-nothing}
use Rattle.rx_model.proofs.lemmas.graphs.SieveLemmas.{sieved-bounded, sieved-rises}
use Rattle.rx_nfa.specs.Automaton.{at, route, go_on, read_byte, state_step, state_accepts, state_writes, state_at, automaton_over}
use Rattle.rx_nfa.specs.Row.{reading, transition_to}
use Rattle.rx_nfa.specs.Built.{IsChain}
use Rattle.rx_nfa.specs.Prefixes.{lands, rests, IsClear, Reads, IsPlaced, TreeReads, TreeGoes, Lies, Grows}
use Rattle.rx_nfa.specs.declared.state.Transition.{Transition}
use Rattle.rx_nfa.specs.declared.state.State.{State}
use Rattle.rx_nfa.specs.declared.state.State.TheVariants.{ByteRange, Fail, Union}
use Rattle.rx_nfa.proofs.lemmas.runs.AutomatonLemmas.{automaton-bounded, automaton-rises, automaton-successors, automaton-accepted, automaton-written}
use Rattle.rx_nfa.proofs.lemmas.runs.StateLemmas.{and_at-later}
use Rattle.rx_nfa.proofs.lemmas.runs.RefinedLemmas.{reads-step, reads-accepts, reads-writes}
use Rattle.rx_nfa.proofs.lemmas.prefixes.LandLemmas.{first_some-append, lands-append, lands-alike, lands-rests}

-- what was passed elsewhere is clear of these states
pub clear-on : (low top i q : ℕ) (p : Passed) → (q < low) → IsClear low top i p → IsClear low top i (and_at (at q i) p)
clear-on low top i q p out clear d j le lt from =
    by_test (same (at q i) (at d j))
    (λ e. let equal : q ≡ d = ap (λ (x : Configuration). x.state) (same-true (at q i) (at d j) e) in absurd (omega arith))
    (λ e. rw e (clear d j le lt from))

pub clear-above : (low top i q : ℕ) (p : Passed) → (top ≤ q) → IsClear low top i p → IsClear low top i (and_at (at q i) p)
clear-above low top i q p out clear d j le lt from =
    by_test (same (at q i) (at d j))
    (λ e. let equal : q ≡ d = ap (λ (x : Configuration). x.state) (same-true (at q i) (at d j) e) in absurd (omega arith))
    (λ e. rw e (clear d j le lt from))

-- where the words that begin with a byte are led by it
abbrev pub Goes : (whole : List State) → (low top next : ℕ) → Option ℕ → List (List ℕ) → Type 0
Goes whole low top next None words = words ≡ []
Goes whole low top next (Some r) words = Reads whole low top next (r ∷ []) words

module _ (whole : List State) (low top next : ℕ) where
  -- no word by no state, and the empty word by no step
  pub reads-none : Reads whole low top next [] []
  unfolding Reads
  reads-none ok around end i p le clear = refl

  pub reads-next : Reads whole low top next (next ∷ []) ([] ∷ [])
  unfolding Reads
  reads-next ok around end i p le clear =
      let e : i ≡ i + 0 = omega arith in
      (λ k. option_or (found (sieved ok (automaton_over around whole end)) p (at next (e k))) None)

  -- one list after another
  pub reads-append : (qs rs : List ℕ) (ws vs : List (List ℕ)) → Reads whole low top next qs ws → Reads whole low top next rs vs
      → Reads whole low top next (qs ++ rs) (ws ++ vs)
  unfolding Reads
  reads-append qs rs ws vs one other ok around end i p le clear =
      let m : PriorityGraph = sieved ok (automaton_over around whole end) in
      ap (first_some (found m p)) (map-append (λ q. at q i) qs rs)
      ∙ first_some-append (found m p) (map (λ q. at q i) qs) (map (λ q. at q i) rs)
      ∙ (λ k. option_or (one ok around end i p le clear k) (other ok around end i p le clear k))
      ∙ sym (lands-append (λ j. found m p (at next j)) around.byte end i ws vs)

  -- a state that reads a byte leads to what is left of the words that begin with the byte
  module _ (inner q : ℕ) (ts : List Transition) (words : List (List ℕ)) (inside : q < length whole) (above : low ≤ q) (below : q < top)
      (within : inner ≤ top) (reader : reading (state_at whole q) ≡ Some ts) (some : All (λ w. 0 < length w) words)
      (goes : (b : ℕ) → Goes whole low inner next (route ts b) (rests b words)) where
    pub reads-reader : Reads whole low top next (q ∷ []) words
    unfolding Reads
    reads-reader ok around end i p le clear =
        or-none_right (found m p (at q i))
        ∙ found-step m p (sieved-bounded ok (automaton_over around whole end) (automaton-bounded around whole end)) (at q i)
        (clear q i above below (omega arith))
        (ap (sifted ok i) (automaton-accepted around whole end q i inside le ∙ reads-accepts (state_at whole q) ts reader))
        ∙ (λ k. option_map (with_write (written k) i) (first_some (found m (and_at (at q i) p)) (successors k)))
        ∙ write-nothing i (first_some (found m (and_at (at q i) p)) (read_byte around.byte end ts i))
        ∙ by_test (nat_lt i end)
        (λ e.
        let lt : i < end = grind (arith, nat_tests) in
        let left : lands to around.byte end i words ≡ lands to around.byte end (i + 1) (rests (around.byte i) words) =
        rw e at (lands-rests to around.byte end i words some) in
        rw e (led (omega arith) (route ts (around.byte i)) (goes (around.byte i)) ∙ sym left))
        (λ e.
        let left : lands to around.byte end i words ≡ None = rw e at (lands-rests to around.byte end i words some) in
        rw e (sym left))
      where
        m : PriorityGraph
        m = sieved ok (automaton_over around whole end)

        to : ℕ → Option Trace
        to j = found m p (at next j)

        written : m.written (at q i) ≡ None
        written = automaton-written around whole end q i ∙ reads-writes (state_at whole q) ts reader

        successors : m.successors (at q i) ≡ read_byte around.byte end ts i
        successors = automaton-successors around whole end q i inside le ∙ reads-step around end (state_at whole q) ts reader i

        led : i + 1 ≤ end → (o : Option ℕ) → Goes whole low inner next o (rests (around.byte i) words)
            → first_some (found m (and_at (at q i) p)) (go_on o (i + 1)) ≡ lands to around.byte end (i + 1) (rests (around.byte i) words)
        led on None empty = sym (ap (lands to around.byte end (i + 1)) empty)
        led on (Some r) reads =
            ap (λ o. option_or o None)
            (found-forget m (sieved-rises ok (automaton_over around whole end) (automaton-rises around whole end)) (and_at (at q i) p) p (at r (i + 1))
            (λ d later. and_at-later q i p d later))
            ∙ reads ok around end (i + 1) p on (λ d j from lt after. clear d j from (omega arith) (omega arith))

  -- a choice of states that stand below it, where no word is empty
  module _ (inner q : ℕ) (qs : List ℕ) (words : List (List ℕ)) (inside : q < length whole) (above : low ≤ q) (below : q < top)
      (within : inner ≤ q) (is : state_at whole q ≡ Union qs) (some : All (λ w. 0 < length w) words) (each : Reads whole low inner next qs words) where
    pub reads-union : Reads whole low top next (q ∷ []) words
    unfolding Reads
    reads-union ok around end i p le clear =
        or-none_right (found m p (at q i))
        ∙ found-step m p (sieved-bounded ok (automaton_over around whole end) (automaton-bounded around whole end)) (at q i)
        (clear q i above below (omega arith))
        (ap (sifted ok i) (automaton-accepted around whole end q i inside le ∙ ap state_accepts is))
        ∙ (λ k. option_map (with_write (written k) i) (first_some (found m (and_at (at q i) p)) (successors k)))
        ∙ write-nothing i (first_some (found m (and_at (at q i) p)) (map (λ s. at s i) qs))
        ∙ each ok around end i (and_at (at q i) p) le
        (clear-above low inner i q p within (λ d j from lt after. clear d j from (omega arith) after))
        ∙ lands-alike (λ j. found m (and_at (at q i) p) (at next j)) (λ j. found m p (at next j)) around.byte end i words
        (λ j lt. found-forget m (sieved-rises ok (automaton_over around whole end) (automaton-rises around whole end)) (and_at (at q i) p) p (at next j)
        (λ d later. and_at-later q i p d (omega arith)))
        some
      where
        m : PriorityGraph
        m = sieved ok (automaton_over around whole end)

        written : m.written (at q i) ≡ None
        written = automaton-written around whole end q i ∙ ap state_writes is

        successors : m.successors (at q i) ≡ map (λ s. at s i) qs
        successors = automaton-successors around whole end q i inside le ∙ ap (λ s. state_step around end s i) is

-- a byte, and then a word
pub goes-byte : (whole : List State) (low top next r b : ℕ) (word : List ℕ) → Reads whole low top next (r ∷ []) (word ∷ []) → (x : ℕ)
    → Goes whole low top next (route (transition_to r (b, b) ∷ []) x) (rests x ((b ∷ word) ∷ []))
goes-byte whole low top next r b word reads x =
    by_test (b == x)
    (λ e. let hit : (nat_le b x && nat_le x b) ≡ true = grind (arith, nat_tests) in rw (hit, e) reads)
    (λ e. let miss : (nat_le b x && nat_le x b) ≡ false = grind (arith, nat_tests) in rw (miss, e) refl)

-- a chain of byte states reads its bytes
pub reads-chain : (whole : List State) (low top next q : ℕ) (word : List ℕ) → IsChain (Lies low top whole) q word next
    → Reads whole low top next (q ∷ []) (word ∷ [])
reads-chain whole low top next q [] c = subst (λ n. Reads whole low top n (q ∷ []) ([] ∷ [])) c (reads-next whole low top q)
reads-chain whole low top next q (b ∷ word) c =
    reads-reader whole low top next top q (transition_to c.0 (b, b) ∷ []) ((b ∷ word) ∷ []) c.1.inside c.1.above c.1.below (omega arith)
    (ap reading c.1.is) (All-cons (λ w. 0 < length w) (b ∷ word) [] (omega arith) (All-nil (λ w. 0 < length w)))
    (goes-byte whole low top next c.0 b word (reads-chain whole low top next c.0 word c.2))

-- chains by a wider range of states
pub IsChain-lower : (whole : List State) (low lower top q : ℕ) (word : List ℕ) (next : ℕ) → lower ≤ low → IsChain (Lies low top whole) q word next
    → IsChain (Lies lower top whole) q word next
IsChain-lower whole low lower top q [] next le c = c
IsChain-lower whole low lower top q (b ∷ word) next le c = (
  c.0,
  record { above = (let up = c.1.above in omega arith); below = c.1.below; inside = c.1.inside; is = c.1.is },
  IsChain-lower whole low lower top c.0 word next le c.2,
)

-- one of the states of a chain goes on to its end
pub chain-ends : (whole : List State) (low top q : ℕ) (word : List ℕ) (next : ℕ) → 0 < length word → IsChain (Lies low top whole) q word next
    → (last b : ℕ) × Lies low top whole last (ByteRange b b next)
chain-ends whole low top q [] next some c = absurd (omega arith)
chain-ends whole low top q (b ∷ []) next some c = (q, b, subst (λ n. Lies low top whole q (ByteRange b b n)) c.2 c.1)
chain-ends whole low top q (b ∷ x ∷ word) next some c = chain-ends whole low top c.0 (x ∷ word) next (omega arith) c.2

-- Trees that grow.

pub Grows-same : (tree : List State) → Grows tree tree
Grows-same tree = record { longer = omega arith; kept = λ k lt. refl }

pub Grows-trans : (a b c : List State) → Grows a b → Grows b c → Grows a c
Grows-trans a b c one other = record {
  longer = (let x = one.longer in let y = other.longer in omega arith);
  kept = λ k lt. other.kept k (let x = one.longer in omega arith) ∙ one.kept k lt;
}

pub Grows-push : (tree : List State) (state : State) → Grows tree (tree ++ state ∷ [])
Grows-push tree state = record {
  longer = (let l = length-append tree (state ∷ []) in omega arith);
  kept = λ k lt. get_or_append_left tree (state ∷ []) Fail k lt;
}

pub IsPlaced-less : (low : ℕ) (old new whole : List State) → Grows old new → IsPlaced low new whole → IsPlaced low old whole
IsPlaced-less low old new whole grows placed k lt =
    let x = placed k (let l = grows.longer in omega arith) in
    (x.0, x.1 ∙ grows.kept k lt)

pub reads-more : (whole : List State) (low top more next : ℕ) (qs : List ℕ) (words : List (List ℕ)) → top ≤ more → Reads whole low top next qs words
    → Reads whole low more next qs words
unfolding Reads
reads-more whole low top more next qs words le reads ok around end i p within clear =
    reads ok around end i p within (λ d j from lt after. clear d j from (omega arith) after)

pub tree-more : (low : ℕ) (old new : List State) (next : ℕ) (qs : List ℕ) (words : List (List ℕ)) → Grows old new → TreeReads low old next qs words
    → TreeReads low new next qs words
tree-more low old new next qs words grows reads whole placed =
    let l = grows.longer in
    reads-more whole low (low + length old) (low + length new) next qs words (omega arith) (reads whole (IsPlaced-less low old new whole grows placed))

-- what stands last
pub last-placed : (low : ℕ) (tree whole : List State) (state : State) → IsPlaced low (tree ++ state ∷ []) whole
    → (low + length tree < length whole) × (state_at whole (low + length tree) ≡ state)
last-placed low tree whole state placed =
    let l = length-append tree (state ∷ []) in
    let none : length tree - length tree ≡ 0 = omega arith in
    let x = placed (length tree) (omega arith) in
    (x.0, x.1 ∙ get_or-append_right tree (state ∷ []) (length tree) (length tree) Fail refl (omega arith) ∙ ap (λ k. state_at (state ∷ []) k) none)

tree-goes : (low : ℕ) (tree whole : List State) (next : ℕ) (o : Option ℕ) (words : List (List ℕ)) → IsPlaced low tree whole
    → TreeGoes low tree next o words → Goes whole low (low + length tree) next o words
tree-goes low tree whole next None words placed goes = goes
tree-goes low tree whole next (Some r) words placed goes = goes whole placed

pub tree-none : (low : ℕ) (tree : List State) (next : ℕ) → TreeReads low tree next [] []
tree-none low tree next whole placed = reads-none whole low (low + length tree) next

pub tree-next : (low : ℕ) (tree : List State) (next : ℕ) → TreeReads low tree next (next ∷ []) ([] ∷ [])
tree-next low tree next whole placed = reads-next whole low (low + length tree) next

pub tree-append : (low : ℕ) (tree : List State) (next : ℕ) (qs rs : List ℕ) (ws vs : List (List ℕ)) → TreeReads low tree next qs ws
    → TreeReads low tree next rs vs → TreeReads low tree next (qs ++ rs) (ws ++ vs)
tree-append low tree next qs rs ws vs one other whole placed =
    reads-append whole low (low + length tree) next qs rs ws vs (one whole placed) (other whole placed)

-- one more state that reads a byte
pub tree-reader : (low : ℕ) (tree : List State) (next : ℕ) (state : State) (ts : List Transition) (words : List (List ℕ)) → reading state ≡ Some ts
    → All (λ w. 0 < length w) words → ((b : ℕ) → TreeGoes low tree next (route ts b) (rests b words))
    → TreeReads low (tree ++ state ∷ []) next ((low + length tree) ∷ []) words
tree-reader low tree next state ts words reader some goes whole placed =
    let l = length-append tree (state ∷ []) in
    let last = last-placed low tree whole state placed in
    let before = IsPlaced-less low tree (tree ++ state ∷ []) whole (Grows-push tree state) placed in
    reads-reader whole low (low + length (tree ++ state ∷ [])) next (low + length tree) (low + length tree) ts words last.0 (omega arith) (omega arith)
    (omega arith) (ap reading last.1 ∙ reader) some (λ b. tree-goes low tree whole next (route ts b) (rests b words) before (goes b))

-- one more choice
pub tree-union : (low : ℕ) (tree : List State) (next : ℕ) (qs : List ℕ) (words : List (List ℕ)) → All (λ w. 0 < length w) words
    → TreeReads low tree next qs words → TreeReads low (tree ++ Union qs ∷ []) next ((low + length tree) ∷ []) words
tree-union low tree next qs words some reads whole placed =
    let l = length-append tree (Union qs ∷ []) in
    let last = last-placed low tree whole (Union qs) placed in
    let before = IsPlaced-less low tree (tree ++ Union qs ∷ []) whole (Grows-push tree (Union qs)) placed in
    reads-union whole low (low + length (tree ++ Union qs ∷ [])) next (low + length tree) (low + length tree) qs words last.0 (omega arith) (omega arith)
    (omega arith) last.1 some (reads whole before)

-- one more byte before a word
pub tree-byte : (low : ℕ) (tree : List State) (next r b : ℕ) (word : List ℕ) → TreeReads low tree next (r ∷ []) (word ∷ [])
    → TreeReads low (tree ++ ByteRange b b r ∷ []) next ((low + length tree) ∷ []) ((b ∷ word) ∷ [])
tree-byte low tree next r b word reads =
    tree-reader low tree next (ByteRange b b r) (transition_to r (b, b) ∷ []) ((b ∷ word) ∷ []) refl
    (All-cons (λ w. 0 < length w) (b ∷ word) [] (omega arith) (All-nil (λ w. 0 < length w))) goes
  where
    goes : (x : ℕ) → TreeGoes low tree next (route (transition_to r (b, b) ∷ []) x) (rests x ((b ∷ word) ∷ []))
    goes x =
        by_test (b == x)
        (λ e. let hit : (nat_le b x && nat_le x b) ≡ true = grind (arith, nat_tests) in rw (hit, e) reads)
        (λ e. let miss : (nat_le b x && nat_le x b) ≡ false = grind (arith, nat_tests) in rw (miss, e) refl)

-- one more byte at the end of a chain
pub IsChain-snoc : (IsAt : ℕ → State → Type 0) (q : ℕ) (word : List ℕ) (r b on : ℕ) → IsChain IsAt q word r → IsAt r (ByteRange b b on)
    → IsChain IsAt q (word ++ b ∷ []) on
IsChain-snoc IsAt q [] r b on c last = (on, subst (λ k. IsAt k (ByteRange b b on)) (sym c) last, refl)
IsChain-snoc IsAt q (x ∷ word) r b on c last = (c.0, c.1, IsChain-snoc IsAt c.0 word r b on c.2 last)

pub reads-lower : (whole : List State) (low lower top next : ℕ) (qs : List ℕ) (words : List (List ℕ)) → lower ≤ low
    → Reads whole low top next qs words
    → Reads whole lower top next qs words
unfolding Reads
reads-lower whole low lower top next qs words le reads ok around end i p within clear =
    reads ok around end i p within (λ d j from lt after. clear d j (omega arith) lt after)
