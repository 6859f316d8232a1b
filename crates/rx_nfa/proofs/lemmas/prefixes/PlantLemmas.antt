-- A tree that is put in its place, and chains that are read.
use Rattle.std.proofs.Common.{◌≡◌, ◌≢◌, ℕ, zero, suc, ◌+◌, ◌-◌, ◌≤◌, ◌<◌, List, [], ◌∷◌, ◌++◌, length, sym, ◌∙◌, ap, subst, inl, inr, ⊎_elim, arith, get_or-set_other, get_or-set_same}
use Rattle.std.specs.Prelude.{All, slice_set}
use Rattle.std.proofs.Math.ListN.{length-set}
use Rattle.std.proofs.lemmas.Bool.{cases_lt, cases_eq}
use Rattle.std.proofs.lemmas.List.Elements.{All-nil, All-cons, All-weaker, All-append, All-get_or}
use Rattle.rx_nfa.specs.Automaton.{state_at}
use Rattle.rx_nfa.specs.Built.{IsChain}
use Rattle.rx_nfa.specs.Forks.{IsChainFrom}
use Rattle.rx_nfa.specs.Prefixes.{LeadsInto, IsBranch, IsOutside, IsPlaced, IsWord, TreeReads, Reads, Lies}
use Rattle.rx_nfa.specs.Sharing.{IsPlanted}
use Rattle.rx_nfa.specs.Trees.{IsTarget}
use Rattle.rx_nfa.specs.declared.state.Transition.{Transition}
use Rattle.rx_nfa.specs.declared.state.State.{State}
use Rattle.rx_nfa.specs.declared.state.State.TheVariants.{ByteRange, Sparse, Look, Union, Capture, Fail, Match}
use Rattle.rx_nfa.proofs.lemmas.prefixes.TreeLemmas.{reads-more, reads-lower, reads-chain, reads-append, chain-ends, IsChain-lower, IsChain-snoc}
use Rattle.rx_nfa.proofs.lemmas.prefixes.SharingLemmas.{branch-leads}

-- a branch into a wider set
pub branch-map : (P Q : ℕ → Type 0) → ((t : ℕ) → P t → Q t) → (s : State) → IsBranch P s → IsBranch Q s
branch-map P Q f (ByteRange low high next) h = (f next h.0, h.1, h.2)
branch-map P Q f (Sparse transitions) h =
    (All-weaker (λ (t : Transition). P t.next) (λ (t : Transition). Q t.next) (λ t k. f t.next k) transitions h.0, h.1)
branch-map P Q f (Look look next) h = absurd h
branch-map P Q f (Union alternates) h = All-weaker P Q f alternates h
branch-map P Q f (Capture next pattern slot) h = absurd h
branch-map P Q f Fail h = tt
branch-map P Q f (Match pattern) h = absurd h

-- the states of a tree are in range where it is to stand
pub tree-below : (n top next : ℕ) (tree : List State) → top ≤ n → next < n → All (IsBranch (IsTarget top next)) tree → All (IsBranch (λ q. q < n)) tree
tree-below n top next tree le lt h =
    All-weaker (IsBranch (IsTarget top next)) (IsBranch (λ q. q < n)) (λ s k. branch-map (IsTarget top next) (λ q. q < n) below s k) tree h
  where
    below : (t : ℕ) → IsTarget top next t → t < n
    below t (inl l) = omega arith
    below t (inr same) = omega arith

pub targets-below : (n top next : ℕ) (qs : List ℕ) → top ≤ n → next < n → All (IsTarget top next) qs → All (λ q. q < n) qs
targets-below n top next qs le lt h = All-weaker (IsTarget top next) (λ q. q < n) below qs h
  where
    below : (t : ℕ) → IsTarget top next t → t < n
    below t (inl l) = omega arith
    below t (inr same) = omega arith

-- one state more in its place, before those that stand there
pub placed-more : (low : ℕ) (old : List State) (state : State) (placed : List State) → low < length old → IsPlaced (suc low) placed old
    → IsPlaced low (state ∷ placed) (slice_set old low state)
placed-more low old state placed lt h zero inside =
    let l = length-set old low state in
    let none : low + 0 ≡ low = omega arith in
    (omega arith, ap (state_at (slice_set old low state)) none ∙ get_or-set_same old low state Fail lt)
placed-more low old state placed lt h (suc k) inside =
    let l = length-set old low state in
    let next : low + suc k ≡ suc low + k = omega arith in
    let x = h k (omega arith) in
    let there = x.0 in (
      omega arith,
      ap (state_at (slice_set old low state)) next ∙ get_or-set_other old low (suc low + k) state Fail (λ e. let gone : ⊥ = omega arith in gone) ∙ x.1,
    )

module _ (old mid new tree : List State) (low room root next : ℕ) (starts : List ℕ) (same : low + room ≡ root) (few : length tree ≤ room)
    (branches : All (IsBranch (IsTarget (low + room) next)) tree) (targets : All (IsTarget (low + room) next) starts) (lt : root < length old)
    (long : length mid ≡ length old) (placed : IsPlaced low tree mid)
    (kept : (r : ℕ) → IsOutside low (low + length tree) r → state_at mid r ≡ state_at old r) (is : new ≡ slice_set mid root (Union starts)) where
  longer : length new ≡ length old
  longer = ap length is ∙ length-set mid root (Union starts) ∙ long

  other : (r : ℕ) → r ≢ root → state_at new r ≡ state_at mid r
  other r differs = ap (λ ss. state_at ss r) is ∙ get_or-set_other mid root r (Union starts) Fail differs

  last : state_at new root ≡ Union starts
  last = ap (λ ss. state_at ss root) is ∙ get_or-set_same mid root (Union starts) Fail (omega arith)

  in_place : IsPlaced low tree new
  in_place k lt' =
      let x = placed k lt' in
      let l = longer in
      let there = x.0 in
      (omega arith, other (low + k) (λ e. let gone : ⊥ = omega arith in gone) ∙ x.1)

  pub planted : (words : List (List ℕ)) → TreeReads low tree next starts words → IsPlanted old new low root next words
  planted words reads = record {
    long = longer;
    kept = λ r away.
        ⊎_elim
        (λ l. other r (λ e. let gone : ⊥ = omega arith in gone) ∙ kept r (inl l))
        (λ ge. other r (λ e. let gone : ⊥ = omega arith in gone) ∙ kept r (inr (omega arith)))
        away;
    starts = starts;
    is = last;
    reads = reads-more new low (low + length tree) root next starts words (omega arith) (reads new in_place);
    led = λ r ge le.
        ⊎_elim
        (λ e. inr (subst (LeadsInto (IsTarget root next)) (sym (ap (state_at new) e ∙ last))
        (subst (λ n. All (IsTarget n next) starts) same targets)))
        (λ differs.
        ⊎_elim
        (λ l.
        let k : ℕ = r - low in
        let here : r ≡ low + (r - low) = omega arith in
        let x = in_place (r - low) (omega arith) in
        inr (subst (LeadsInto (IsTarget root next)) (sym (ap (state_at new) here ∙ x.1))
        (subst (λ n. LeadsInto (IsTarget n next) (state_at tree (r - low))) same
        (branch-leads (IsTarget (low + room) next) (state_at tree (r - low))
        (All-get_or (IsBranch (IsTarget (low + room) next)) tree (r - low) Fail (omega arith) branches)))))
        (λ above. inl (other r differs ∙ kept r (inr above)))
        (cases_lt r (low + length tree)))
        (cases_eq r root);
  }

-- One chain more.
module _ (states : List State) (floor root low low' head next last : ℕ) (heads : List ℕ) (words : List (List ℕ)) (word : List ℕ)
    (chain : IsChainFrom states floor root head next last word) (lower : low' ≤ low) (least : low' ≤ last) where
  pub chains-read : Reads states low root next heads words → Reads states low' root next (heads ++ head ∷ []) (words ++ word ∷ [])
  chains-read h =
      reads-append states low' root next heads (head ∷ []) words (word ∷ []) (reads-lower states low low' root next heads words lower h)
      (reads-chain states low' root next head word (IsChain-lower states last low' root head word next least chain.chain))

  pub chains-words : All IsWord words → All IsWord (words ++ word ∷ [])
  chains-words h = All-append IsWord words (word ∷ []) h (All-cons IsWord word [] chain.bytes (All-nil IsWord))

  pub chains-last : (q b : ℕ) × Lies low' root states q (ByteRange b b next)
  chains-last = chain-ends states low' root head word next chain.bytes.some (IsChain-lower states last low' root head word next least chain.chain)

-- one state more of a chain
pub chain-more : (states : List State) (root head place b on : ℕ) (word : List ℕ) → place < root → root < length states
    → state_at states place ≡ ByteRange b b on → IsChain (Lies place root states) head word place
    → IsChain (Lies place root states) head (word ++ b ∷ []) on
chain-more states root head place b on word lt inside is c =
    IsChain-snoc (Lies place root states) head word place b on c (record { above = omega arith; below = lt; inside = omega arith; is = is })
