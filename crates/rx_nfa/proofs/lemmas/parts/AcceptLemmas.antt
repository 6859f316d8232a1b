-- Which patterns the states of a draft accept: each at one state alone.
use Rattle.std.proofs.Common.{◌≡◌, ℕ, zero, suc, ◌+◌, ◌-◌, ◌<◌, ◌≤◌, ◌⊎◌, List, [], ◌∷◌, ◌++◌, refl, sym, ◌∙◌, ap, subst, inl, inr, ⊎_elim, arith, length, get_or, get_or-set_other, get_or-set_same}
use Rattle.std.specs.Prelude.{All, Some, None, slice_set}
use Rattle.std.proofs.lemmas.Bool.{cases_lt}
use Rattle.std.proofs.lemmas.List.{length-append, length_push, get_or_append_left, get_or-append_right}
use Rattle.std.proofs.lemmas.List.Elements.{All-push, All-set}
use Rattle.std.proofs.lemmas.Option.{same_Some}
use Rattle.std.proofs.Math.ListN.{length-set}
use Rattle.rx_model.proofs.lemmas.runs.FirstLemmas.{none-is-some}
use Rattle.rx_search.specs.Limits.{id_limit}
use Rattle.rx_nfa.specs.Automaton.{state_at, state_accepts, AcceptsOnce, NamesBelow, IsWithin}
use Rattle.rx_nfa.specs.Draft.{Draft, AreInRange, pushed, patched}
use Rattle.rx_nfa.specs.Row.{AddsReaders, HasSortedTransitions, reading}
use Rattle.rx_nfa.specs.Slots.{WritesOwnSlots}
use Rattle.rx_nfa.specs.declared.state.Transition.{Transition}
use Rattle.rx_nfa.specs.declared.state.State.{State}
use Rattle.rx_nfa.specs.declared.state.State.TheVariants.{ByteRange, Sparse, Look, Union, Capture, Fail, Match}
use Rattle.rx_nfa.proofs.lemmas.classes.RowLemmas.{no_transitions, NamesBelow-more, AreClosed-push}

-- no state stands past the last one
pub state-past : (states : List State) (q : ℕ) → length states ≤ q → state_at states q ≡ Fail
state-past [] q le = refl
state-past (s ∷ states) zero le = absurd (omega arith)
state-past (s ∷ states) (suc q) le = state-past states q (omega arith)

-- what is accepted after was accepted before
abbrev pub AcceptsNoMore : (old new : List State) → Type 0
AcceptsNoMore old new = (q p : ℕ) → state_accepts (state_at new q) ≡ Some p → state_accepts (state_at old q) ≡ Some p

pub once-kept : (old new : List State) → AcceptsNoMore old new → AcceptsOnce old → AcceptsOnce new
once-kept old new less once p q r a b = once p q r (less q p a) (less r p b)

pub below-kept : (accepted : ℕ) (old new : List State) → AcceptsNoMore old new
    → ((q p : ℕ) → state_accepts (state_at old q) ≡ Some p → p < accepted)
    → (q p : ℕ) → state_accepts (state_at new q) ≡ Some p → p < accepted
below-kept accepted old new less below q p a = below q p (less q p a)

-- a state that accepts nothing accepts no pattern
silent-absurd : {A : Type 0} (s t : State) (p : ℕ) → t ≡ s → state_accepts s ≡ None → state_accepts t ≡ Some p → A
silent-absurd s t p same none some = none-is-some (sym none ∙ ap state_accepts (sym same) ∙ some)

-- a state that only reads bytes accepts nothing
pub reader-silent : (s : State) (ts : List Transition) → reading s ≡ Some ts → state_accepts s ≡ None
reader-silent (ByteRange low high next) ts is = refl
reader-silent (Sparse transitions) ts is = refl
reader-silent (Look look next) ts is = refl
reader-silent (Union alternates) ts is = refl
reader-silent (Capture next pattern slot) ts is = refl
reader-silent Fail ts is = refl
reader-silent (Match pattern) ts is = absurd (no_transitions ts is)

-- states that only read bytes were added
pub readers-silent : (old new : List State) → AddsReaders old new → AcceptsNoMore old new
readers-silent old new adds q p some =
    ⊎_elim
    (λ inside. sym (ap state_accepts (adds.kept q inside)) ∙ some)
    (λ above.
    ⊎_elim
    (λ there. let r = adds.readers q above there in silent-absurd (state_at new q) (state_at new q) p refl (reader-silent (state_at new q) r.0 r.1) some)
    (λ past. silent-absurd Fail (state_at new q) p (state-past new q past) refl some)
    (cases_lt q (length new)))
    (cases_lt q (length old))

-- one state more
at-last : (states : List State) (s : State) → state_at (states ++ s ∷ []) (length states) ≡ s
at-last states s =
    let none : length states - length states ≡ 0 = omega arith in
    get_or-append_right states (s ∷ []) (length states) (length states) Fail refl (omega arith) ∙ ap (λ n. get_or (s ∷ []) n Fail) none

-- where a state of the longer list stands
pub one-more : (states : List State) (s : State) (q : ℕ) → (state_at (states ++ s ∷ []) q ≡ state_at states q × (q < length states))
    ⊎ ((q ≡ length states) × (state_at (states ++ s ∷ []) q ≡ s)) ⊎ (state_at (states ++ s ∷ []) q ≡ Fail)
one-more states s q =
    ⊎_elim
    (λ inside. inl (get_or_append_left states (s ∷ []) Fail q inside, inside))
    (λ above.
    ⊎_elim
    (λ next. let same : q ≡ length states = omega arith in inr (inl (same, ap (state_at (states ++ s ∷ [])) same ∙ at-last states s)))
    (λ past. let l = length-append states (s ∷ []) in inr (inr (state-past (states ++ s ∷ []) q (omega arith))))
    (cases_lt q (suc (length states))))
    (cases_lt q (length states))

pub pushed-silent : (states : List State) (s : State) → state_accepts s ≡ None → AcceptsNoMore states (states ++ s ∷ [])
pushed-silent states s none q p some =
    elim (one-more states s q) [
      | inl kept ↦ sym (ap state_accepts kept.0) ∙ some
      | inr (inl last) ↦ silent-absurd s (state_at (states ++ s ∷ []) q) p last.1 none some
      | inr (inr past) ↦ silent-absurd Fail (state_at (states ++ s ∷ []) q) p past refl some
    ]

-- another state in the place of one
pub patched-silent : (states : List State) (k : ℕ) (s : State) → k < length states → state_accepts s ≡ None → AcceptsNoMore states (slice_set states k s)
patched-silent states k s inside none q p some =
    ⊎_elim
    (λ below. sym (ap state_accepts (get_or-set_other states k q s Fail (omega arith))) ∙ some)
    (λ above.
    ⊎_elim
    (λ here. let same : q ≡ k = omega arith in
    silent-absurd s (state_at (slice_set states k s) q) p (ap (state_at (slice_set states k s)) same ∙ get_or-set_same states k s Fail inside) none some)
    (λ past. sym (ap state_accepts (get_or-set_other states k q s Fail (omega arith))) ∙ some)
    (cases_lt q (suc k)))
    (cases_lt q k)

-- the state that accepts a pattern that none accepted before
module _ (states : List State) (accepted pattern : ℕ) (new : accepted ≤ pattern)
    (below : (q p : ℕ) → state_accepts (state_at states q) ≡ Some p → p < accepted) (once : AcceptsOnce states) where
  where-accepted : (q p : ℕ) → state_accepts (state_at (states ++ Match pattern ∷ []) q) ≡ Some p
      → ((state_accepts (state_at states q) ≡ Some p) × (p < accepted)) ⊎ ((q ≡ length states) × (p ≡ pattern))
  where-accepted q p some =
      elim (one-more states (Match pattern) q) [
        | inl kept ↦ (let before = sym (ap state_accepts kept.0) ∙ some in inl (before, below q p before))
        | inr (inl last) ↦ inr (last.0, same_Some _ _ (sym some ∙ ap state_accepts last.1))
        | inr (inr past) ↦ silent-absurd Fail (state_at (states ++ Match pattern ∷ []) q) p past refl some
      ]

  pub accepting-below : (q p : ℕ) → state_accepts (state_at (states ++ Match pattern ∷ []) q) ≡ Some p → p < suc pattern
  accepting-below q p some =
      elim (where-accepted q p some) [
        | inl before ↦ (let small = before.1 in omega arith)
        | inr last ↦ (let same = last.1 in omega arith)
      ]

  pub accepting-once : AcceptsOnce (states ++ Match pattern ∷ [])
  accepting-once p q r a b =
      elim (where-accepted q p a) [
        | inl one ↦ elim (where-accepted r p b) [
          | inl two ↦ once p q r one.0 two.0
          | inr last ↦ (let small = one.1 in let same = last.1 in absurd (omega arith))
        ]
        | inr one ↦ elim (where-accepted r p b) [
          | inl two ↦ (let small = two.1 in let same = one.1 in absurd (omega arith))
          | inr last ↦ one.0 ∙ sym last.0
        ]
      ]

-- what is in range stays so with a state more, or another, that accepts nothing
module _ (d : Draft) (s : State) (within : IsWithin (length d.groups) d.slots s) (own : WritesOwnSlots d.groups s) (sorted : HasSortedTransitions s)
    (silent : state_accepts s ≡ None) (names : NamesBelow (length d.states) s) (r : AreInRange d) where
  pub AreInRange-pushed : length d.states < id_limit → AreInRange (pushed d s)
  AreInRange-pushed room = record {
    names = AreClosed-push d.states s (NamesBelow-more (length d.states) (length d.states + 1) s (omega arith) names) r.names;
    within = All-push (IsWithin (length d.groups) d.slots) d.states s r.within within;
    own = All-push (WritesOwnSlots d.groups) d.states s r.own own;
    sorted = All-push HasSortedTransitions d.states s r.sorted sorted;
    few = (let long = length_push d.states s in omega arith);
    below = below-kept d.accepted d.states (d.states ++ s ∷ []) (pushed-silent d.states s silent) r.below;
    once = once-kept d.states (d.states ++ s ∷ []) (pushed-silent d.states s silent) r.once;
  }

  pub AreInRange-patched : (k : ℕ) → k < length d.states → AreInRange (patched d k s)
  AreInRange-patched k inside = record {
    names = subst (λ n. All (NamesBelow n) (slice_set d.states k s)) (sym (length-set d.states k s)) (All-set (NamesBelow (length d.states)) d.states k s names r.names);
    within = All-set (IsWithin (length d.groups) d.slots) d.states k s within r.within;
    own = All-set (WritesOwnSlots d.groups) d.states k s own r.own;
    sorted = All-set HasSortedTransitions d.states k s sorted r.sorted;
    few = (let same = length-set d.states k s in let few = r.few in omega arith);
    below = below-kept d.accepted d.states (slice_set d.states k s) (patched-silent d.states k s inside silent) r.below;
    once = once-kept d.states (slice_set d.states k s) (patched-silent d.states k s inside silent) r.once;
  }
