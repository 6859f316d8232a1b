-- What a call does to the states that a cache holds.
use Rattle.std.proofs.Common.{◌≡◌, ℕ, ◌<◌, ◌≤◌, ◌+◌, ◌^◌, ◌-◌, inl, inr, List, [], ◌∷◌, ◌++◌, refl, sym, ◌∙◌, ap, subst, arith, true≢false}
use Rattle.std.proofs.Math.Nat.{min-eq_left}
use Rattle.std.proofs.lemmas.Bool.{cases_lt}
use Rattle.std.proofs.lemmas.Option.{none-some}
use Rattle.std.specs.Prelude.{Option, Some, None, Result, Ok, Err, OnOk, OnErr, IsTrue, ◌↔◌, Bool, false, slice_get}
use Rattle.rx_model.specs.Search.{Anchor}
use Rattle.rx_nfa.specs.NextMatch.{start_of}
use Rattle.rx_determinize.specs.Key.{Key, is_dead}
use Rattle.rx_determinize.specs.Sight.{class_beside}
use Rattle.rx_determinize.specs.Span.{loops_in}
use Rattle.rx_dfa.specs.Automaton.{key_from, first_key}
use Rattle.rx_dfa.specs.Clearing.{counts_of, one_more, told_of, IsFull, IsGrown, IsMade, AreCounted, CountsWhereGaveUp, RowsWhereGaveUp}
use Rattle.rx_dfa.specs.Lazy.{LazyValue, IsNew, begun_key, state_size}
use Rattle.rx_dfa.specs.declared.lazy.rows.Rows.{Rows}
use Rattle.rx_dfa.specs.declared.step_error.StepError.{StepError}
use Rattle.rx_dfa.specs.declared.step_error.StepError.TheVariants.{Quit as QuitsAt, GaveUp as GivesUp, Memory as WantsMemory}
use Rattle.rx_dfa.proofs.lemmas.ChainLemmas.{got-push}

-- no room for a state that is not there
pub full-from : (l : LazyValue) (into : Key) (r : Rows) (b : Bool) → is_dead into ≡ false → IsNew r.keys into
    → (IsTrue b ↔ r.size + state_size l.stride into ≤ l.capacity) → b ≡ false → IsFull l into r
full-from l into r b alive fresh room lacks = record {
  alive = alive;
  is_new = fresh;
  above = elim (cases_lt l.capacity (r.size + state_size l.stride into)) [
    | inl lt ↦ lt
    | inr le ↦ absurd (true≢false (sym (room.1 le) ∙ lacks))
  ];
}

-- where one state is left, the key of another one that was there is still new
pub new-beside : (old keys : List Key) (row : ℕ) (from into : Key) → slice_get old row ≡ Some from → IsNew old into → keys ≡ from ∷ [] → IsNew keys into
new-beside old keys row from into there fresh is at got =
    elim (got-push [] from into at (ap (λ (ks : List Key). slice_get ks at) (sym is) ∙ got)) [
      | inl none ↦ none-some into none
      | inr (first, same) ↦ fresh row (there ∙ ap Some same)
    ]

pub new-none : (keys : List Key) (k : Key) → keys ≡ [] → IsNew keys k
new-none keys k is at got = none-some k (ap (λ (ks : List Key). slice_get ks at) (sym is) ∙ got)

-- nothing was added
pub grown-kept : (l : LazyValue) (standing : List Key) (into : Key) (since taken : Option ℕ) (old new : Rows) → new.keys ≡ old.keys
    → counts_of new ≡ (old.clears, since) → IsGrown l standing into since taken old new
grown-kept l standing into since taken old new keys counts = inl (record { keys = inl keys; counts = counts })

-- the same between other values, which hold and count as much
pub grown-same : (l : LazyValue) (standing : List Key) (into : Key) (since taken : Option ℕ) (old other new last : Rows) → old.keys ≡ other.keys
    → old.size ≡ other.size → old.clears ≡ other.clears → last.keys ≡ new.keys → counts_of last ≡ counts_of new
    → IsGrown l standing into since taken old new → IsGrown l standing into since taken other last
grown-same l standing into since taken old other new last keys size clears held counts (inl g) = inl (record {
  keys = elim g.keys [
    | inl same ↦ inl (held ∙ same ∙ keys)
    | inr more ↦ inr (held ∙ more ∙ ap (λ (ks : List Key). ks ++ into ∷ []) keys)
  ];
  counts = counts ∙ g.counts ∙ ap (λ n. (n, since)) clears;
})
grown-same l standing into since taken old other new last keys size clears held counts (inr g) = inr (record {
  full = record {
    alive = g.full.alive;
    is_new = subst (λ (ks : List Key). IsNew ks into) keys g.full.is_new;
    above = subst (λ n. l.capacity < n + state_size l.stride into) size g.full.above;
  };
  held = g.held;
  keys = held ∙ g.keys;
  counts = counts ∙ g.counts ∙ ap (λ n. (one_more n, taken)) clears;
})

-- a state more, where there was room, or not for want of memory
pub grown-add : {A E : Type 0} (l : LazyValue) (standing : List Key) (into : Key) (since taken : Option ℕ) (old new : Rows) (r : Result A E)
    → OnOk r (new.keys ≡ old.keys ++ into ∷ []) → OnErr r (new.keys ≡ old.keys) → counts_of new ≡ (old.clears, since)
    → IsGrown l standing into since taken old new
grown-add l standing into since taken old new (Ok x) ok err counts = inl (record { keys = inr ok; counts = counts })
grown-add l standing into since taken old new (Err e) ok err counts = inl (record { keys = inl err; counts = counts })

-- and after a clearing, where a search begins
pub grown-begun : {A E : Type 0} (l : LazyValue) (into : Key) (since taken : Option ℕ) (old clear new : Rows) (r : Result A E) → IsFull l into old
    → clear.keys ≡ [] → OnOk r (new.keys ≡ clear.keys ++ into ∷ []) → OnErr r (new.keys ≡ clear.keys)
    → counts_of new ≡ (one_more old.clears, taken) → IsGrown l [] into since taken old new
grown-begun l into since taken old clear new (Ok x) full none ok err counts =
    inr (record { full = full; held = 1; keys = ok ∙ ap (λ (ks : List Key). ks ++ into ∷ []) none; counts = counts })
grown-begun l into since taken old clear new (Err e) full none ok err counts =
    inr (record { full = full; held = 0; keys = err ∙ none; counts = counts })

-- the same by other names of the keys and of the rows
pub grown-keys : (l : LazyValue) (from key into next : Key) (old other new : Rows) (taken : ℕ) → from ≡ key → into ≡ next → old ≡ other
    → IsGrown l (from ∷ []) into old.since (Some taken) old new → IsGrown l (key ∷ []) next other.since (Some taken) other new
grown-keys l from key into next old other new taken standing asked rows h =
    subst (λ (r : Rows). IsGrown l (key ∷ []) next r.since (Some taken) r new) rows
    (subst (λ x. IsGrown l (key ∷ []) x old.since (Some taken) old new) asked
    (subst (λ x. IsGrown l (x ∷ []) into old.since (Some taken) old new) standing h))

-- the same of what it leaves where it gives up
pub full-keys : (l : LazyValue) (into next : Key) (old other new : Rows) (e : StepError) → into ≡ next → old ≡ other
    → RowsWhereGaveUp l into old new e → RowsWhereGaveUp l next other new e
full-keys l into next old other new e asked rows h =
    subst (λ (r : Rows). RowsWhereGaveUp l next r new e) rows (subst (λ (k : Key). RowsWhereGaveUp l k old new e) asked h)

-- there was room, or it was made
pub made-grown : (l : LazyValue) (from into : Key) (taken : ℕ) (old new : Rows) → IsMade l from into taken old new
    → IsGrown l (from ∷ []) into old.since (Some taken) old new
made-grown l from into taken old new (inl (keys, counts)) = inl (record { keys = inl keys; counts = counts })
made-grown l from into taken old new (inr (full, keys, counts)) = inr (record { full = full; held = 1; keys = keys; counts = counts })

-- and then the state was added
pub made-add : (l : LazyValue) (from into : Key) (taken : ℕ) (old made new : Rows) → IsMade l from into taken old made
    → new.keys ≡ made.keys ++ into ∷ [] → counts_of new ≡ counts_of made → IsGrown l (from ∷ []) into old.since (Some taken) old new
made-add l from into taken old made new (inl (keys, counts)) more same =
    inl (record { keys = inr (more ∙ ap (λ (ks : List Key). ks ++ into ∷ []) keys); counts = same ∙ counts })
made-add l from into taken old made new (inr (full, keys, counts)) more same =
    inr (record { full = full; held = 2; keys = more ∙ ap (λ (ks : List Key). ks ++ into ∷ []) keys; counts = same ∙ counts })

-- the same where a search of this mode begins, which forgets what was noted
pub grown-first : (l : LazyValue) (anchor : Anchor) (beside : Option ℕ) (start : ℕ) (loops : Bool) (before : Option ℕ) (old other new : Rows)
    → Some start ≡ start_of l.dfa.nfa anchor → loops ≡ loops_in anchor → before ≡ class_beside l.dfa.keeps l.dfa.classes l.dfa.bytes beside
    → other.keys ≡ old.keys → other.size ≡ old.size → other.clears ≡ old.clears → other.since ≡ None
    → IsGrown l [] (begun_key l.dfa start loops before) other.since None other new → IsGrown l [] (first_key l.dfa anchor beside) None None old new
grown-first l anchor beside start loops before old other new begins mode kept keys size clears forgot h =
    let is : begun_key l.dfa start loops before ≡ first_key l.dfa anchor beside = (λ j. key_from l.dfa.kind l.dfa.nfa.states (mode j) (kept j) (begins j)) in
    grown-same l [] (first_key l.dfa anchor beside) None None other old new new keys size clears refl refl
    (subst (λ k. IsGrown l [] k None None other new) is (subst (λ o. IsGrown l [] (begun_key l.dfa start loops before) o None other new) forgot h))

-- Steps that are told as far as a `u64` counts.

told-whole : (steps : ℕ) → told_of steps < 2 ^ 64 - 1 → told_of steps ≡ steps
told-whole steps lt =
    elim (cases_lt steps (2 ^ 64 - 1)) [
      | inl low ↦ let le : steps ≤ 2 ^ 64 - 1 = omega arith in min-eq_left le
      | inr high ↦ absurd (over high)
    ]
  where
    over : 2 ^ 64 - 1 ≤ steps → ⊥
    over high = omega arith

pub counts-steps : (old new : Rows) (steps taken : ℕ) (e : StepError) → taken ≡ told_of steps → CountsWhereGaveUp old new taken e
    → CountsWhereGaveUp old new steps e
counts-steps old new steps taken (QuitsAt byte) is h = tt
counts-steps old new steps taken GivesUp is h =
    let same : taken ≡ steps = is ∙ told-whole steps (subst (λ n. n < 2 ^ 64 - 1) is h.whole) in
    subst (AreCounted old new) same h
counts-steps old new steps taken WantsMemory is h = tt
