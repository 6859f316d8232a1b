-- Without the loop the common start has no part in what the keys meet.
use Rattle.std.proofs.Common.{◌≡◌, ◌⊎◌, ℕ, zero, suc, ◌+◌, ◌-◌, List, refl, sym, ◌∙◌, ap, subst, inl, inr}
use Rattle.std.specs.Prelude.{Bool, false, Option, Some}
use Rattle.rx_model.specs.Search.{Anchor, free, anchored, anchored_to}
use Rattle.rx_model.proofs.lemmas.runs.FirstLemmas.{some-is}
use Rattle.rx_search.specs.declared.anchored.MatchKind.{MatchKind}
use Rattle.rx_search.specs.declared.anchored.MatchKind.TheVariants.{All, LeftmostFirst}
use Rattle.rx_nfa.specs.Automaton.{Surroundings, byte_within}
use Rattle.rx_nfa.specs.Nfa.{Nfa}
use Rattle.rx_nfa.specs.NextMatch.{start_of}
use Rattle.rx_nfa.specs.Ordered.{HoldsAt, threads_from}
use Rattle.rx_nfa.specs.declared.state.State.{State}
use Rattle.rx_determinize.specs.Key.{Sight, Key, key_over, start_key, step_key}
use Rattle.rx_determinize.specs.Span.{key_at, loops_in, IsAlive, SeesWhileAlive}
use Rattle.rx_determinize.specs.Permitted.{Progress, met_within, run_within}

module _ (states : List State) (start other : ℕ) (sight : Sight) where
  pub step-loopless : (kind : MatchKind) (k : Key) → k.loops ≡ false → (byte : ℕ)
      → step_key kind states start sight k byte ≡ step_key kind states other sight k byte
  unfolding step_key
  step-loopless All k over byte =
      let qs = threads_from states (sight.holds k.before (Some byte)) k.threads in
      (λ j. key_over All states start (over j) byte (sight.class byte) qs) ∙ (λ j. key_over All states other (sym over j) byte (sight.class byte) qs)
  step-loopless LeftmostFirst k over byte =
      let qs = threads_from states (sight.holds k.before (Some byte)) k.threads in
      (λ j. key_over LeftmostFirst states start (over j) byte (sight.class byte) qs)
      ∙ (λ j. key_over LeftmostFirst states other (sym over j) byte (sight.class byte) qs)

  pub step-stays_loopless : (kind : MatchKind) (k : Key) → k.loops ≡ false → (byte : ℕ) → (step_key kind states start sight k byte).loops ≡ false
  unfolding step_key
  step-stays_loopless All k over byte = over
  step-stays_loopless LeftmostFirst k over byte =
      let qs = threads_from states (sight.holds k.before (Some byte)) k.threads in
      (λ j. (key_over LeftmostFirst states start (over j) byte (sight.class byte) qs).loops)

pub start-loopless : (kind : MatchKind) (states : List State) (start : ℕ) (before : Option ℕ) → (start_key kind states start false before).loops ≡ false
unfolding start_key
start-loopless All states start before = refl
start-loopless LeftmostFirst states start before = refl

module _ (kind : MatchKind) (states : List State) (start other : ℕ) (sight : Sight) (around : Surroundings) where
  pub key-loopless : (n i : ℕ) (k : Key) → k.loops ≡ false → key_at kind states start sight around n i k ≡ key_at kind states other sight around n i k
  unfolding key_at
  key-loopless zero i k over = refl
  key-loopless (suc n) i k over =
      key-loopless n (i + 1) (step_key kind states start sight k (around.byte i)) (step-stays_loopless states start other sight kind k over (around.byte i))
      ∙ ap (key_at kind states other sight around n (i + 1)) (step-loopless states start other sight kind k over (around.byte i))

  pub run-loopless : (may : ℕ → Bool) (size n i : ℕ) (k : Key) (r : Progress) → k.loops ≡ false
      → run_within kind states start sight around may size n i k r ≡ run_within kind states other sight around may size n i k r
  unfolding run_within
  run-loopless may size zero i k r over = refl
  run-loopless may size (suc n) i k r over =
      let next = step_key kind states start sight k (around.byte i) in
      run-loopless may size n (i + 1) next (met_within may next.matches i r) (step-stays_loopless states start other sight kind k over (around.byte i))
      ∙ ap (λ x. run_within kind states other sight around may size n (i + 1) x (met_within may x.matches i r))
      (step-loopless states start other sight kind k over (around.byte i))

  pub sees-loopless : (size b a : ℕ) (k : Key) → k.loops ≡ false → SeesWhileAlive kind sight around size states start k b a
      → SeesWhileAlive kind sight around size states other k b a
  sees-loopless size b a k over sees = record {
    sees = λ i low high alive.
        let same = key-loopless (i - a) a k over in
        subst (λ x. HoldsAt around states (sight.holds x.before (byte_within around.byte size i)) i) same
        (sees.sees i low high (subst IsAlive (sym same) alive));
  }

-- there is no loop, or the runs start at the common start
pub same-start : (nfa : Nfa) (anchor : Anchor) (q : ℕ) → start_of nfa anchor ≡ Some q → (loops_in anchor ≡ false) ⊎ (nfa.start_anchored ≡ q)
same-start nfa free q is = inr (some-is is)
same-start nfa anchored q is = inl refl
same-start nfa (anchored_to p) q is = inl refl
