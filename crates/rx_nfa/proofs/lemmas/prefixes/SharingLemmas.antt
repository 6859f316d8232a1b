-- One tree more in place of a union of chains.
use Rattle.std.proofs.Common.{◌≡◌, ℕ, suc, ◌≤◌, ◌<◌, List, [], ◌∷◌, ◌++◌, Option, length, refl, sym, ◌∙◌, ap, subst, inl, inr, ⊎_elim, arith}
use Rattle.std.specs.Prelude.{All, None, map}
use Rattle.std.specs.Vec.{vec_items}
use Rattle.std.proofs.lemmas.Bool.{cases_lt}
use Rattle.std.proofs.lemmas.List.{get_or_past}
use Rattle.std.proofs.lemmas.List.Elements.{All-weaker}
use Rattle.rx_nfa.specs.Automaton.{state_at, state_accepts, NamesBelow, IsWithin}
use Rattle.rx_nfa.specs.Forks.{IsFork}
use Rattle.rx_nfa.specs.Named.{first_in, Spans, AreNamed}
use Rattle.rx_nfa.specs.Prefixes.{LeadsInto, IsBranch, IsOutside}
use Rattle.rx_nfa.specs.Row.{HasSortedTransitions}
use Rattle.rx_nfa.specs.Sharing.{Sharing, IsPlanted}
use Rattle.rx_nfa.specs.Slots.{WritesOwnSlots}
use Rattle.rx_nfa.specs.Trees.{IsTarget}
use Rattle.rx_nfa.specs.declared.prefixes.fork.Fork.{Fork}
use Rattle.rx_nfa.specs.declared.prefixes.named.Named.{Named}
use Rattle.rx_nfa.specs.declared.state.Transition.{Transition}
use Rattle.rx_nfa.specs.declared.state.State.{State}
use Rattle.rx_nfa.specs.declared.state.State.TheVariants.{ByteRange, Sparse, Look, Union, Capture, Fail, Match}
use Rattle.rx_nfa.proofs.lemmas.prefixes.ForkLemmas.{fork-same}
use Rattle.rx_nfa.proofs.lemmas.prefixes.SharedLemmas.{HasSameRuns-same, HasSameRuns-trans}

-- a state leads into a wider set
pub LeadsInto-map : (P Q : ℕ → Type 0) → ((t : ℕ) → P t → Q t) → (s : State) → LeadsInto P s → LeadsInto Q s
LeadsInto-map P Q f (ByteRange low high next) h = f next h
LeadsInto-map P Q f (Sparse transitions) h = All-weaker (λ (t : Transition). P t.next) (λ (t : Transition). Q t.next) (λ t k. f t.next k) transitions h
LeadsInto-map P Q f (Look look next) h = f next h
LeadsInto-map P Q f (Union alternates) h = All-weaker P Q f alternates h
LeadsInto-map P Q f (Capture next pattern slot) h = f next h
LeadsInto-map P Q f Fail h = tt
LeadsInto-map P Q f (Match pattern) h = tt

-- A branch is in range wherever its targets are.

pub branch-leads : (P : ℕ → Type 0) (s : State) → IsBranch P s → LeadsInto P s
branch-leads P (ByteRange low high next) h = h.0
branch-leads P (Sparse transitions) h = h.0
branch-leads P (Look look next) h = absurd h
branch-leads P (Union alternates) h = h
branch-leads P (Capture next pattern slot) h = absurd h
branch-leads P Fail h = tt
branch-leads P (Match pattern) h = absurd h

pub leads-names : (n : ℕ) (s : State) → LeadsInto (λ t. t < n) s → NamesBelow n s
leads-names n (ByteRange low high next) h = h
leads-names n (Sparse transitions) h = h
leads-names n (Look look next) h = h
leads-names n (Union alternates) h = h
leads-names n (Capture next pattern slot) h = h
leads-names n Fail h = tt
leads-names n (Match pattern) h = tt

pub branch-within : (P : ℕ → Type 0) (patterns slots : ℕ) (s : State) → IsBranch P s → IsWithin patterns slots s
branch-within P patterns slots (ByteRange low high next) h = tt
branch-within P patterns slots (Sparse transitions) h = tt
branch-within P patterns slots (Look look next) h = tt
branch-within P patterns slots (Union alternates) h = tt
branch-within P patterns slots (Capture next pattern slot) h = absurd h
branch-within P patterns slots Fail h = tt
branch-within P patterns slots (Match pattern) h = absurd h

pub branch-own : (P : ℕ → Type 0) (groups : List (List (Option (List ℕ)))) (s : State) → IsBranch P s → WritesOwnSlots groups s
branch-own P groups (ByteRange low high next) h = tt
branch-own P groups (Sparse transitions) h = tt
branch-own P groups (Look look next) h = tt
branch-own P groups (Union alternates) h = tt
branch-own P groups (Capture next pattern slot) h = absurd h
branch-own P groups Fail h = tt
branch-own P groups (Match pattern) h = tt

pub branch-sorted : (P : ℕ → Type 0) (s : State) → IsBranch P s → HasSortedTransitions s
branch-sorted P (ByteRange low high next) h = (omega arith, h.1, (let lt = h.2 in omega arith))
branch-sorted P (Sparse transitions) h = h.1
branch-sorted P (Look look next) h = tt
branch-sorted P (Union alternates) h = tt
branch-sorted P (Capture next pattern slot) h = tt
branch-sorted P Fail h = tt
branch-sorted P (Match pattern) h = tt

pub branch-silent : (P : ℕ → Type 0) (s : State) → IsBranch P s → state_accepts s ≡ None
branch-silent P (ByteRange low high next) h = refl
branch-silent P (Sparse transitions) h = refl
branch-silent P (Look look next) h = absurd h
branch-silent P (Union alternates) h = refl
branch-silent P (Capture next pattern slot) h = absurd h
branch-silent P Fail h = refl
branch-silent P (Match pattern) h = absurd h

in-middle : (P : State → Type 0) (rest done : List State) (s : State) → All P ((rest ++ s ∷ []) ++ done) → P s
in-middle P [] done s h = h 0 s (omega arith)
in-middle P (x ∷ rest) done s h = in-middle P rest done s (λ k d lt. h (suc k) d (omega arith))

-- what holds of all states holds of the one that is taken from those that are left
pub popped : (P : State → Type 0) (all left rest done : List State) (s : State) → all ≡ left ++ done → left ≡ rest ++ s ∷ [] → All P all → P s
popped P all left rest done s split taken h = in-middle P rest done s (subst (All P) (split ∙ ap (λ xs. xs ++ done) taken) h)

-- Nothing was shared yet.
pub Sharing-none : (named : List Named) (states : List State) → Sharing named states states 0
Sharing-none named states = record {
  long = refl;
  fresh = λ r le. refl;
  led = λ r lt. absurd (omega arith);
  same = λ s lt start. HasSameRuns-same states s;
}

module _ (named : List Named) (old cur new : List State) (done root : ℕ) (fork : Fork) (known : AreNamed old named) (before : Sharing named old cur done)
    (lt : root < length old) (upto : done ≤ root) (is : IsFork cur named done root fork)
    (planted : IsPlanted cur new fork.low root fork.next (map vec_items fork.words.items)) where
  -- what a state that is still as it was goes on to
  named-old : (r : ℕ) → done ≤ r → LeadsInto (Spans named r) (state_at cur r)
  named-old r le =
      subst (LeadsInto (Spans named r)) (sym (before.fresh r le))
      (⊎_elim
      (λ here. known.each r here)
      (λ past. subst (LeadsInto (Spans named r)) (sym (get_or_past old r Fail past)) tt)
      (cases_lt r (length old)))

  -- the state behind the words was come to from below the root
  next-first : first_in named fork.next < root
  next-first =
      let x = is.chains.last is.some in
      let lie = x.2 in
      let above = lie.above in
      let below = lie.below in
      let floor = is.chains.above in
      let spans = subst (LeadsInto (Spans named x.0)) lie.is (named-old x.0 (omega arith)) in
      let first = spans.0 in
      omega arith

  -- no state elsewhere leads among the chains
  apart : (r : ℕ) → IsOutside fork.low (suc root) r → LeadsInto (IsOutside fork.low root) (state_at cur r)
  apart r away =
      ⊎_elim
      (λ below. LeadsInto-map (λ t. done ≤ t → first_in named t < done) (IsOutside fork.low root) (λ t led. from_below t led) (state_at cur r)
      (before.led r below))
      (λ above. LeadsInto-map (Spans named r) (IsOutside fork.low root) (λ t spans. from_elsewhere t spans) (state_at cur r) (named-old r above))
      (cases_lt r done)
    where
      from_below : (t : ℕ) → (done ≤ t → first_in named t < done) → IsOutside fork.low root t
      from_below t led =
          ⊎_elim
          (λ l. inl l)
          (λ ge. ⊎_elim
          (λ l.
          let floor = is.chains.above in
          let first = led (omega arith) in
          let closed = (is.closed t ge l).0 in
          absurd (omega arith))
          (λ ge'. inr ge')
          (cases_lt t root))
          (cases_lt t fork.low)

      from_elsewhere : (t : ℕ) → Spans named r t → IsOutside fork.low root t
      from_elsewhere t spans =
          ⊎_elim
          (λ l. inl l)
          (λ ge. ⊎_elim
          (λ l.
          let first = spans.0 in
          let last = spans.1 in
          let closed = is.closed t ge l in
          let low = closed.0 in
          let high = closed.1 in
          absurd (⊎_elim (λ x. let gone : ⊥ = omega arith in gone) (λ x. let gone : ⊥ = omega arith in gone) away))
          (λ ge'. inr ge')
          (cases_lt t root))
          (cases_lt t fork.low)

  -- the states below the root, with the tree
  led-more : (r : ℕ) → r < suc root → LeadsInto (λ t. suc root ≤ t → first_in named t < suc root) (state_at new r)
  led-more r below =
      ⊎_elim
      (λ l. kept (planted.kept r (inl l)))
      (λ ge. ⊎_elim (λ e. kept e) (λ branch. LeadsInto-map (IsTarget root fork.next) (λ t. suc root ≤ t → first_in named t < suc root) in_tree
      (state_at new r) branch) (planted.led r ge (omega arith)))
      (cases_lt r fork.low)
    where
      in_tree : (t : ℕ) → IsTarget root fork.next t → suc root ≤ t → first_in named t < suc root
      in_tree t (inl l) le = absurd (omega arith)
      in_tree t (inr same) le = let first = next-first in let equal = ap (first_in named) same in omega arith

      kept : state_at new r ≡ state_at cur r → LeadsInto (λ t. suc root ≤ t → first_in named t < suc root) (state_at new r)
      kept e =
          subst (LeadsInto (λ t. suc root ≤ t → first_in named t < suc root)) (sym e)
          (⊎_elim
          (λ l. LeadsInto-map (λ t. done ≤ t → first_in named t < done) (λ t. suc root ≤ t → first_in named t < suc root)
          (λ t led le. let first = led (omega arith) in omega arith) (state_at cur r) (before.led r l))
          (λ ge. LeadsInto-map (Spans named r) (λ t. suc root ≤ t → first_in named t < suc root) (λ t spans le. let first = spans.0 in omega arith)
          (state_at cur r) (named-old r ge))
          (cases_lt r done))

  pub Sharing-more : Sharing named old new (suc root)
  Sharing-more = record {
    long = planted.long ∙ before.long;
    fresh = λ r le. planted.kept r (inr le) ∙ before.fresh r (omega arith);
    led = led-more;
    same = λ s there start.
        HasSameRuns-trans old cur new s (before.same s there start)
        (fork-same cur new fork.low root fork.next planted.long (let l = before.long in omega arith) is.chains.below is.out is.heads planted.starts
        (map vec_items fork.words.items) is.is planted.is is.chains.reads planted.reads planted.kept apart s
        (⊎_elim
        (λ l. inl l)
        (λ ge. ⊎_elim (λ l. let last = (is.closed s ge l).1 in absurd (omega arith)) (λ ge'. inr ge') (cases_lt s root))
        (cases_lt s fork.low)));
  }
