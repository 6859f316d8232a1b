-- One row: what is found from its entry at a place tells the same as what the row tells there.
use Rattle.std.proofs.Common.{◌≡◌, ◌⊎◌, ℕ, ◌+◌, ◌≤◌, ◌<◌, ◌==◌, List, [], ◌∷◌, ◌++◌, length, refl, sym, ◌∙◌, ap, subst, inl, inr, ⊎_elim, arith, true≢false}
use Rattle.std.specs.Prelude.{Bool, true, false, ◌&&◌, Option, Some, None, option_map, All, IfSome, nat_lt, if◌then◌else◌}
use Rattle.std.specs.Int.{bit_at}
use Rattle.std.specs.Option.{option_or}
use Rattle.std.proofs.lemmas.Bool.Decides.{nat_tests}
use Rattle.rx_model.specs.Runs.{PriorityGraph, nowhere, Trace, Sieve, sieved, sifted, found, with_write, last_write}
use Rattle.rx_model.proofs.lemmas.runs.RunLemmas.{by_test}
use Rattle.rx_model.proofs.lemmas.runs.FirstLemmas.{tells, some-is, none-is-some}
use Rattle.rx_model.proofs.lemmas.runs.FoundLemmas.{found-accepted}
use Rattle.rx_model.proofs.lemmas.runs.WriteLemmas.{write-nothing}
use Rattle.rx_nfa.specs.Automaton.{at, go_on, byte_of, state_at, state_accepts, state_writes, NamesBelow, Surroundings, forwards, state_step, automaton_over}
use Rattle.rx_nfa.specs.Nfa.{Nfa}
use Rattle.rx_nfa.specs.Ordered.{is_resting, target, has, HasSteps}
use Rattle.rx_nfa.specs.declared.state.State.{State}
use Rattle.rx_nfa.specs.declared.state.State.TheVariants.{ByteRange, Sparse, Look, Union, Capture, Fail, Match}
use Rattle.rx_nfa.proofs.lemmas.lists.ClosureLemmas.{rests-inside}
use Rattle.rx_nfa.proofs.lemmas.lists.LaterLemmas.{automaton-steps, sieved-steps}
use Rattle.rx_nfa.proofs.lemmas.lists.TargetLemmas.{step-target, found-dead, found-reads}
use Rattle.rx_nfa.proofs.lemmas.runs.AutomatonLemmas.{automaton-accepted, automaton-written}
use Rattle.rx_onepass_table.specs.Along.{all_hold, written_at, trace_of, told_here, TellSame, BothTellSame}
use Rattle.rx_onepass_table.specs.Entry.{explicit_start, Accepts}
use Rattle.rx_onepass_table.specs.Rows.{AreSlots, AreLooks, IsFinal}
use Rattle.rx_nfa.specs.Walks.{written_on}
use Rattle.rx_onepass_table.specs.Words.{Final, few_looks, slot_limit}
use Rattle.rx_onepass_table.proofs.lemmas.SetLemmas.{hold-kind, kinds-hold, has-member, member-has, last-slots, last-set}
use Rattle.rx_onepass_table.proofs.lemmas.TreeLemmas as tree
use Rattle.rx_onepass_table.proofs.lemmas.TreeLemmas.{prefixed}
use Rattle.rx_onepass_table.proofs.lemmas.WalkLemmas.{accepting-rests, reading-rests}

-- What states at rest do at a place.

accepting-step : (around : Surroundings) (end : ℕ) (s : State) (p i : ℕ) → state_accepts s ≡ Some p → state_step around end s i ≡ []
accepting-step around end (ByteRange low high next) p i h = none-is-some h
accepting-step around end (Sparse transitions) p i h = none-is-some h
accepting-step around end (Look look next) p i h = none-is-some h
accepting-step around end (Union alternates) p i h = none-is-some h
accepting-step around end (Capture next pattern slot) p i h = none-is-some h
accepting-step around end Fail p i h = none-is-some h
accepting-step around end (Match pattern) p i h = refl

ending-step : (around : Surroundings) (end : ℕ) (s : State) (i : ℕ) → nat_lt i end ≡ false → is_resting s ≡ true → state_step around end s i ≡ []
ending-step around end (ByteRange low high next) i e h = rw e refl
ending-step around end (Sparse transitions) i e h = rw e refl
ending-step around end (Look look next) i e h = absurd (true≢false (sym h))
ending-step around end (Union alternates) i e h = absurd (true≢false (sym h))
ending-step around end (Capture next pattern slot) i e h = absurd (true≢false (sym h))
ending-step around end Fail i e h = absurd (true≢false (sym h))
ending-step around end (Match pattern) i e h = refl

reading-accepts_nothing : (s : State) (byte next : ℕ) → target s byte ≡ Some next → state_accepts s ≡ None
reading-accepts_nothing (ByteRange low high to) byte next h = refl
reading-accepts_nothing (Sparse transitions) byte next h = refl
reading-accepts_nothing (Look look to) byte next h = refl
reading-accepts_nothing (Union alternates) byte next h = refl
reading-accepts_nothing (Capture to pattern slot) byte next h = refl
reading-accepts_nothing Fail byte next h = refl
reading-accepts_nothing (Match pattern) byte next h = none-is-some h

reading-writes_nothing : (s : State) (byte next : ℕ) → target s byte ≡ Some next → state_writes s ≡ None
reading-writes_nothing (ByteRange low high to) byte next h = refl
reading-writes_nothing (Sparse transitions) byte next h = refl
reading-writes_nothing (Look look to) byte next h = refl
reading-writes_nothing (Union alternates) byte next h = refl
reading-writes_nothing (Capture to pattern slot) byte next h = none-is-some h
reading-writes_nothing Fail byte next h = refl
reading-writes_nothing (Match pattern) byte next h = refl

-- Traces that tell the same.

-- where nothing is told by the one, nothing is by the other
pub nothing-told : (nfa : Nfa) (one other : Option Trace) → BothTellSame nfa one other → one ≡ None → other ≡ None
nothing-told nfa None None h e = refl
nothing-told nfa None (Some t) h e = absurd h
nothing-told nfa (Some t) None h e = none-is-some (sym e)
nothing-told nfa (Some t) (Some u) h e = none-is-some (sym e)

pub record ToldAs (nfa : Nfa) (t : Trace) (other : Option Trace) : Type 0 where
  pub told : Trace
  pub is : other ≡ Some told
  pub same : TellSame nfa t told

pub something-told : (nfa : Nfa) (one other : Option Trace) (t : Trace) → BothTellSame nfa one other → one ≡ Some t → ToldAs nfa t other
something-told nfa None None t h e = none-is-some e
something-told nfa None (Some u) t h e = none-is-some e
something-told nfa (Some s) None t h e = absurd h
something-told nfa (Some s) (Some u) t h e = record { told = u; is = refl; same = subst (λ x. TellSame nfa x u) (some-is e) h }

TellSame-self : (nfa : Nfa) (t : Trace) → TellSame nfa t t
TellSame-self nfa t = record { pattern = refl; end = refl; slots = λ k. refl }

-- a slot of a set is one that is written on the walk
slots-agree : (nfa : Nfa) (set entry : ℕ) (way : List ℕ) → AreSlots nfa set entry way → (k : ℕ)
    → has (written_on nfa.states entry way) (explicit_start nfa + k) ≡ (nat_lt k slot_limit && (bit_at set k == 1))
slots-agree nfa set entry way slots k =
    by_test (bit_at set k == 1)
    (λ e.
    let bit : bit_at set k ≡ 1 = grind (arith, nat_tests) in
    let m = slots.told k bit in
    let few = (slots.all k m).0 in
    let within : nat_lt k slot_limit ≡ true = grind (arith, nat_tests) in
    rw (within, e) (member-has (written_on nfa.states entry way) (explicit_start nfa + k) m))
    (λ e.
    by_test (has (written_on nfa.states entry way) (explicit_start nfa + k))
    (λ h.
    let bit = (slots.all k (has-member (written_on nfa.states entry way) (explicit_start nfa + k) h)).1 in
    let set-there : (bit_at set k == 1) ≡ true = ap (λ b. b == 1) bit in
    absurd (true≢false (sym set-there ∙ e)))
    (λ h. h ∙ sym (and-false (nat_lt k slot_limit) (bit_at set k == 1) e)))
  where
    and-false : (a b : Bool) → b ≡ false → (a && b) ≡ false
    and-false true b h = h
    and-false false b h = refl

-- behind what is written on a walk, or behind its set of slots, traces tell the same that do
pub TellSame-behind : (nfa : Nfa) (set entry i : ℕ) (way : List ℕ) → AreSlots nfa set entry way → (t u : Trace) → TellSame nfa t u
    → TellSame nfa (prefixed i (written_on nfa.states entry way) t) (record u { writes = written_at nfa set i ++ u.writes })
TellSame-behind nfa set entry i way slots t u same = record {
  pattern = same.pattern;
  end = same.end;
  slots = λ k.
      (last-slots i (written_on nfa.states entry way) t.writes (explicit_start nfa + k)
      ∙ (λ j. option_or (same.slots k j) (if slots-agree nfa set entry way slots k j then Some i else None))
      ∙ sym (last-set (explicit_start nfa) set i slot_limit u.writes k));
}

module _ (nfa : Nfa) (names : All (NamesBelow (length nfa.states)) nfa.states) (ok : Sieve) (text : List ℕ) (end : ℕ) where
  abbrev pub around : Surroundings
  around = forwards nfa.terminator text

  abbrev pub graph : PriorityGraph
  graph = sieved ok (automaton_over around nfa.states end)

  pub steps-there : HasSteps around nfa.states end graph
  steps-there = sieved-steps ok around nfa.states end (automaton_over around nfa.states end) (automaton-steps around nfa.states end)

  pub writes-there : (q i : ℕ) → graph.written (at q i) ≡ state_writes (state_at nfa.states q)
  writes-there q i = automaton-written around nfa.states end q i

  module _ (i : ℕ) (place : i ≤ end) where
    abbrev pub value : ℕ → Option Trace
    value r = tree.value around nfa.states names end graph steps-there writes-there i place r

    abbrev pub AllHoldOn : (q : ℕ) → List ℕ → Type 0
    AllHoldOn q ks = tree.AllHoldOn around nfa.states names end graph steps-there writes-there i place q ks

    abbrev pub IsTold : (q : ℕ) → Option Trace → Type 0
    IsTold q o = tree.IsTold around nfa.states names end graph steps-there writes-there i place q o

    -- What states have.

    accepts-value : (r p : ℕ) → state_accepts (state_at nfa.states r) ≡ Some p → value r ≡ trace_of (sifted ok i (Some p)) i []
    accepts-value r p h =
        let rests = accepting-rests (state_at nfa.states r) p h in
        let lt = rests-inside nfa.states r rests in
        rw rests (finish (sifted ok i (Some p)) (ap (sifted ok i) (automaton-accepted around nfa.states end r i lt place ∙ h))
        (steps-there.steps r i lt place ∙ accepting-step around end (state_at nfa.states r) p i h))
      where
        finish : (o : Option ℕ) → graph.accepted (at r i) ≡ o → graph.successors (at r i) ≡ [] → found graph nowhere (at r i) ≡ trace_of o i []
        finish None e goes = found-dead graph steps-there.bounded nowhere (at r i) refl e goes
        finish (Some q) e goes = found-accepted graph nowhere steps-there.bounded (at r i) q refl e

    pub reads-value : (r next : ℕ) → i < end → target (state_at nfa.states r) (byte_of text i) ≡ Some next → value r ≡ found graph nowhere (at next (i + 1))
    reads-value r next less h =
        let rests = reading-rests (state_at nfa.states r) (byte_of text i) next h in
        let lt = rests-inside nfa.states r rests in
        let none = steps-there.accepts r i lt place (reading-accepts_nothing (state_at nfa.states r) (byte_of text i) next h) in
        let goes : graph.successors (at r i) ≡ at next (i + 1) ∷ [] =
        steps-there.steps r i lt place ∙ step-target around end (state_at nfa.states r) i less rests ∙ ap (λ o. go_on o (i + 1)) h in
        rw rests
        (found-reads graph steps-there.bounded steps-there.rises nowhere (at r i) (at next (i + 1)) refl none goes (omega arith)
        ∙ ap (λ w. option_map (with_write w i) (found graph nowhere (at next (i + 1))))
        (writes-there r i ∙ reading-writes_nothing (state_at nfa.states r) (byte_of text i) next h)
        ∙ write-nothing i (found graph nowhere (at next (i + 1))))

    -- a state that has something accepts or reads
    pub record DoesRead (r : ℕ) : Type 0 where
      pub before : i < end
      pub next : ℕ
      pub goes : target (state_at nfa.states r) (byte_of text i) ≡ Some next

    pub value-comes : (r : ℕ) (t : Trace) → value r ≡ Some t → ((p : ℕ) × (state_accepts (state_at nfa.states r) ≡ Some p)) ⊎ DoesRead r
    value-comes r t e =
        ⊎_elim
        (λ none.
        by_test (is_resting (state_at nfa.states r))
        (λ rests.
        let lt = rests-inside nfa.states r rests in
        let dead-there : graph.successors (at r i) ≡ [] → ((p : ℕ) × (state_accepts (state_at nfa.states r) ≡ Some p)) ⊎ DoesRead r =
        λ goes. none-is-some (sym (found-dead graph steps-there.bounded nowhere (at r i) refl (steps-there.accepts r i lt place none) goes) ∙ (rw rests at e)) in
        by_test (nat_lt i end)
        (λ before.
        let less : i < end = grind (arith, nat_tests) in
        ⊎_elim
        (λ nothing.
        dead-there (steps-there.steps r i lt place ∙ step-target around end (state_at nfa.states r) i less rests ∙ ap (λ o. go_on o (i + 1)) nothing))
        (λ some. inr (record { before = less; next = some.0; goes = some.1 }))
        (tells (target (state_at nfa.states r) (byte_of text i))))
        (λ last. dead-there (steps-there.steps r i lt place ∙ ending-step around end (state_at nfa.states r) i last rests)))
        (λ moves. none-is-some (rw moves at e)))
        (λ some. inl (some.0, some.1))
        (tells (state_accepts (state_at nfa.states r)))

    -- What holds on a walk, by its set.

    pub asks-hold : (set entry : ℕ) (way : List ℕ) → AreLooks nfa set entry way → AllHoldOn entry way → all_hold nfa.terminator text set i ≡ true
    asks-hold set entry way looks h = kinds-hold nfa.terminator text set i few_looks (omega arith) (λ kind lt bit. h kind (looks.told kind bit))

    pub hold-asks : (set entry : ℕ) (way : List ℕ) → AreLooks nfa set entry way → all_hold nfa.terminator text set i ≡ true → AllHoldOn entry way
    hold-asks set entry way looks h kind m =
        let is = looks.all kind m in hold-kind nfa.terminator text set i few_looks kind h is.0 is.1

    -- the match of a row, where an accept has none
    module _ (entry : ℕ) (f : Final) (final : IsFinal nfa entry f) where
      trace-of-none : (p : ℕ) (writes : List (ℕ × ℕ)) → trace_of (sifted ok i (Some p)) i [] ≡ None → trace_of (sifted ok i (Some p)) i writes ≡ None
      trace-of-none p writes h = by (sifted ok i (Some p)) h
        where
          by : (o : Option ℕ) → trace_of o i [] ≡ None → trace_of o i writes ≡ None
          by None h = refl
          by (Some q) h = none-is-some (sym h)

      pub here-none : (p : ℕ) (way : List ℕ) → Accepts nfa entry p way → (AllHoldOn entry way → trace_of (sifted ok i (Some p)) i [] ≡ None)
          → told_here nfa ok text f i ≡ None
      here-none p way accepts misses =
          by_test (all_hold nfa.terminator text f.looks i)
          (λ e.
          let none = trace-of-none p (written_at nfa f.slots i) (misses (hold-asks f.looks entry way (final.looks p way accepts) e)) in
          rw e (ap (λ o. trace_of (sifted ok i o) i (written_at nfa f.slots i)) (final.pattern p way accepts) ∙ none))
          (λ e. rw e refl)

      pub here-nothing : ((p : ℕ) (way : List ℕ) → Accepts nfa entry p way → AllHoldOn entry way → trace_of (sifted ok i (Some p)) i [] ≡ None)
          → told_here nfa ok text f i ≡ None
      here-nothing misses = by f.pattern refl final.there
        where
          by : (o : Option ℕ) → f.pattern ≡ o → IfSome o (λ p. (way : List ℕ) × Accepts nfa entry p way) → told_here nfa ok text f i ≡ None
          by None e there =
              by_test (all_hold nfa.terminator text f.looks i)
              (λ h. rw h (ap (λ o. trace_of (sifted ok i o) i (written_at nfa f.slots i)) e))
              (λ h. rw h refl)
          by (Some p) e there = here-none p there.0 there.1 (misses p there.0 there.1)

      here-some : (p : ℕ) (way : List ℕ) → Accepts nfa entry p way → AllHoldOn entry way
          → told_here nfa ok text f i ≡ trace_of (sifted ok i (Some p)) i (written_at nfa f.slots i)
      here-some p way accepts h =
          rw (asks-hold f.looks entry way (final.looks p way accepts) h)
          (ap (λ o. trace_of (sifted ok i o) i (written_at nfa f.slots i)) (final.pattern p way accepts))

      pub accept-value : (p : ℕ) (way : List ℕ) → (a : Accepts nfa entry p way) → value a.state ≡ trace_of (sifted ok i (Some p)) i []
      accept-value p way a = accepts-value a.state p a.accepts

      -- what an accept has tells the same as what the row tells
      pub accept-tells : (p : ℕ) (way : List ℕ) → Accepts nfa entry p way → AllHoldOn entry way → (u : Trace) → trace_of (sifted ok i (Some p)) i [] ≡ Some u
          → ToldAs nfa (prefixed i (written_on nfa.states entry way) u) (told_here nfa ok text f i)
      accept-tells p way accepts h u e = by (sifted ok i (Some p)) e (here-some p way accepts h)
        where
          by : (o : Option ℕ) → trace_of o i [] ≡ Some u → told_here nfa ok text f i ≡ trace_of o i (written_at nfa f.slots i)
              → ToldAs nfa (prefixed i (written_on nfa.states entry way) u) (told_here nfa ok text f i)
          by None e here = none-is-some e
          by (Some q) e here =
              let bare : Trace = record { pattern = q; end = i; writes = [] } in
              let behind = TellSame-behind nfa f.slots entry i way (final.slots p way accepts) u bare
              (subst (λ x. TellSame nfa x bare) (some-is e) (TellSame-self nfa bare)) in
              record {
                told = record { pattern = q; end = i; writes = written_at nfa f.slots i };
                is = here;
                same = record {
                  pattern = behind.pattern;
                  end = behind.end;
                  slots = λ k. (behind.slots k ∙ ap (λ ws. last_write ws (explicit_start nfa + k)) (no-more (written_at nfa f.slots i)));
                };
              }
            where
              no-more : (ws : List (ℕ × ℕ)) → ws ++ [] ≡ ws
              no-more [] = refl
              no-more (w ∷ ws) = ap (λ xs. w ∷ xs) (no-more ws)
