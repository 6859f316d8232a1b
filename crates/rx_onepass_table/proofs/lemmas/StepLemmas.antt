-- One row, over a byte and at the end: what is found from its entry tells the same as the row, and what comes later.
use Rattle.std.proofs.Common.{◌≡◌, ℕ, ◌+◌, ◌≤◌, ◌<◌, ◌==◌, List, length, refl, sym, ◌∙◌, ap, subst, ⊎_elim, arith, true≢false}
use Rattle.std.specs.Prelude.{Bool, true, false, not, ◌&&◌, Option, Some, None, All}
use Rattle.std.specs.Option.{option_or}
use Rattle.std.proofs.lemmas.Bool.Decides.{nat_tests}
use Rattle.rx_model.specs.Runs.{nowhere, Trace, Sieve, found}
use Rattle.rx_model.proofs.lemmas.runs.RunLemmas.{by_test}
use Rattle.rx_nfa.specs.Automaton.{at, byte_of, state_at, state_accepts, NamesBelow}
use Rattle.rx_nfa.specs.Nfa.{Nfa}
use Rattle.rx_nfa.specs.Ordered.{target}
use Rattle.rx_nfa.proofs.lemmas.lists.ClosureLemmas.{resting-epsilon}
use Rattle.rx_onepass_table.specs.Along.{all_hold, written_at, with_writes, told_here, preferred, goes_on, told_later, TellSame, BothTellSame}
use Rattle.rx_onepass_table.specs.Entry.{Accepts, Reads}
use Rattle.rx_onepass_table.specs.Rows.{IsRowOf, IsStep, IsFinal}
use Rattle.rx_nfa.specs.Walks.{written_on, ReachesTwice}
use Rattle.rx_onepass_table.specs.Words.{Step, Final, dead}
use Rattle.rx_onepass_table.proofs.lemmas.RowLemmas as row
use Rattle.rx_onepass_table.proofs.lemmas.RowLemmas.{ToldAs, something-told, nothing-told, TellSame-behind}
use Rattle.rx_onepass_table.proofs.lemmas.TreeLemmas as tree
use Rattle.rx_onepass_table.proofs.lemmas.TreeLemmas.{prefixed}
use Rattle.rx_onepass_table.proofs.lemmas.WalkLemmas.{accepting-rests, reading-rests, accepting-reads_nothing, one-preferred}

preferred-none : (wins : Bool) → preferred wins None None ≡ None
preferred-none true = refl
preferred-none false = refl

-- what is told so, by what tells the same
as-told : (nfa : Nfa) (t u : Trace) (other : Option Trace) → t ≡ u → ToldAs nfa u other → BothTellSame nfa (Some t) other
as-told nfa t u other e h =
    subst (BothTellSame nfa (Some t)) (sym h.is) (subst (λ x. TellSame nfa x h.told) (sym e) h.same)

-- nothing comes later, where nothing comes, or the transition does not go on
pub later-of_none : (nfa : Nfa) (text : List ℕ) (s : Step) (i : ℕ) → told_later nfa text s i None ≡ None
later-of_none nfa text s i = by_test (goes_on nfa text s i) (λ e. rw e refl) (λ e. rw e refl)

later-stops : (nfa : Nfa) (text : List ℕ) (s : Step) (i : ℕ) (later : Option Trace) → goes_on nfa text s i ≡ false → told_later nfa text s i later ≡ None
later-stops nfa text s i later e = rw e refl

and-false : (a b : Bool) → b ≡ false → (a && b) ≡ false
and-false true b h = h
and-false false b h = refl

module _ (nfa : Nfa) (names : All (NamesBelow (length nfa.states)) nfa.states) (ok : Sieve) (text : List ℕ) (end i : ℕ) (place : i ≤ end) (entry : ℕ)
    (inside : entry < length nfa.states) (once : (q : ℕ) → ReachesTwice nfa.states entry q → ⊥) (f : Final) (final : IsFinal nfa entry f) where
  abbrev value : ℕ → Option Trace
  value r = row.value nfa names ok text end i place r

  abbrev AllHoldOn : (q : ℕ) → List ℕ → Type 0
  AllHoldOn q ks = row.AllHoldOn nfa names ok text end i place q ks

  abbrev IsTold : (q : ℕ) → Option Trace → Type 0
  IsTold q o = row.IsTold nfa names ok text end i place q o

  abbrev finds : (q j : ℕ) → Option Trace
  finds q j = found (row.graph nfa names ok text end) nowhere (at q j)

  abbrev here : Option Trace
  here = told_here nfa ok text f i

  told : IsTold entry (finds entry i)
  told =
      tree.told-entry (row.around nfa names ok text end) nfa.states names end (row.graph nfa names ok text end) (row.steps-there nfa names ok text end)
      (row.writes-there nfa names ok text end) i place entry once inside

  -- the row tells nothing, where nothing is told of the entry
  none-here : IsTold entry None → here ≡ None
  none-here misses =
      row.here-nothing nfa names ok text end i place entry f final
      (λ p way a h. sym (row.accept-value nfa names ok text end i place entry f final p way a) ∙ misses way a.state a.leads h)

  abbrev IsHit : Trace → Type 0
  IsHit t = tree.IsHit (row.around nfa names ok text end) nfa.states names end (row.graph nfa names ok text end) (row.steps-there nfa names ok text end)
      (row.writes-there nfa names ok text end) i place entry t

  -- where an accept is told of it, the row tells the same
  accept-here : (t : Trace) (h : IsHit t) (p : ℕ) → state_accepts (state_at nfa.states h.hits.state) ≡ Some p
      → ToldAs nfa (prefixed i (written_on nfa.states entry h.walk) h.rest) here
  accept-here t h p accepts =
      let a : Accepts nfa entry p h.walk = record { state = h.hits.state; leads = h.hits.leads; accepts = accepts } in
      row.accept-tells nfa names ok text end i place entry f final p h.walk a h.hits.holds h.rest
      (sym (row.accept-value nfa names ok text end i place entry f final p h.walk a) ∙ h.hits.is)

  -- at the end
  pub last-row : end ≤ i → BothTellSame nfa (finds entry i) here
  last-row last = by (finds entry i) told
    where
      by : (o : Option Trace) → IsTold entry o → BothTellSame nfa o here
      by None h = subst (BothTellSame nfa None) (sym (none-here h)) tt
      by (Some t) h =
          ⊎_elim
          (λ accepts. as-told nfa t (prefixed i (written_on nfa.states entry h.walk) h.rest) here h.is (accept-here t h accepts.0 accepts.1))
          (λ reads. let less = reads.before in absurd (omega arith))
          (row.value-comes nfa names ok text end i place h.hits.state h.rest h.hits.is)

  module _ (less : i < end) (entries : List ℕ) (s : Step) (step : IsStep nfa entries entry (byte_of text i) s) (after : Option Trace)
      (agree : (next : ℕ) → IsRowOf entries s.target next → BothTellSame nfa (finds next (i + 1)) after) where
    abbrev later : Option Trace
    later = told_later nfa text s i after

    reader-value : (way : List ℕ) (next : ℕ) (r : Reads nfa entry (byte_of text i) way next) → value r.reader ≡ finds next (i + 1)
    reader-value way next r = row.reads-value nfa names ok text end i place r.reader next less r.goes

    later-none : (way : List ℕ) (next : ℕ) → Reads nfa entry (byte_of text i) way next → (AllHoldOn entry way → finds next (i + 1) ≡ None) → later ≡ None
    later-none way next reads misses =
        by_test (all_hold nfa.terminator text s.looks i)
        (λ e.
        let none : after ≡ None =
        nothing-told nfa (finds next (i + 1)) after (agree next (step.row way next reads))
        (misses (row.hold-asks nfa names ok text end i place s.looks entry way (step.looks way next reads) e)) in
        ap (told_later nfa text s i) none ∙ later-of_none nfa text s i)
        (λ e. later-stops nfa text s i after (and-false (not (s.target == dead)) (all_hold nfa.terminator text s.looks i) e))

    later-nothing : ((way : List ℕ) (next : ℕ) → Reads nfa entry (byte_of text i) way next → AllHoldOn entry way → finds next (i + 1) ≡ None) → later ≡ None
    later-nothing misses =
        by_test (s.target == dead)
        (λ e. later-stops nfa text s i after (rw e refl))
        (λ e.
        let there = step.there (λ same. absurd (true≢false (sym (ap (λ n. n == dead) same) ∙ e))) in
        later-none there.0 there.1 there.2 (misses there.0 there.1 there.2))

    later-some : (way : List ℕ) (next : ℕ) → Reads nfa entry (byte_of text i) way next → AllHoldOn entry way
        → later ≡ with_writes (written_at nfa s.slots i) after
    later-some way next reads h =
        let is = step.row way next reads in
        let before = is.before in
        let target-is = is.row_is in
        let goes : (s.target == dead) ≡ false = grind (arith, nat_tests) in
        let all = row.asks-hold nfa names ok text end i place s.looks entry way (step.looks way next reads) h in
        rw (goes, all) refl

    -- an accept is told
    accepts-first : (t : Trace) (h : IsHit t) (p : ℕ) → state_accepts (state_at nfa.states h.hits.state) ≡ Some p
        → BothTellSame nfa (Some t) (preferred s.wins here later)
    accepts-first t h p accepts =
        let a : Accepts nfa entry p h.walk = record { state = h.hits.state; leads = h.hits.leads; accepts = accepts } in
        let like = accept-here t h p accepts in
        let whole : BothTellSame nfa (Some t) here = as-told nfa t (prefixed i (written_on nfa.states entry h.walk) h.rest) here h.is like in
        by_test s.wins
        (λ e.
        subst (BothTellSame nfa (Some t))
        (like.is ∙ sym (ap (λ o. option_or o later) like.is) ∙ sym (ap (λ b. preferred b here later) e)) whole)
        (λ e.
        let none : later ≡ None =
        later-nothing
        (λ way next r holds.
        ⊎_elim
        (λ one.
        absurd (accepting-reads_nothing (state_at nfa.states h.hits.state) p (byte_of text i) next accepts
        (ap (λ q. target (state_at nfa.states q) (byte_of text i)) one.1 ∙ r.goes)))
        (λ apart.
        ⊎_elim
        (λ first.
        absurd (true≢false (sym ((step.wins way next r).1 (record { pattern = p; other = h.walk; accepts = a; preferred = first })) ∙ e)))
        (λ first. sym (reader-value way next r) ∙ h.first way first r.reader r.leads holds)
        apart)
        (one-preferred nfa.states entry h.walk way h.hits.state r.reader h.hits.leads r.leads
        (resting-epsilon (λ kind. true) (state_at nfa.states h.hits.state) (accepting-rests (state_at nfa.states h.hits.state) p accepts))
        (resting-epsilon (λ kind. true) (state_at nfa.states r.reader) (reading-rests (state_at nfa.states r.reader) (byte_of text i) next r.goes)))) in
        subst (BothTellSame nfa (Some t)) (sym (ap (λ o. option_or o here) none) ∙ sym (ap (λ b. preferred b here later) e)) whole)

    -- a step is told
    reads-first : (t : Trace) (h : IsHit t) (next : ℕ) → target (state_at nfa.states h.hits.state) (byte_of text i) ≡ Some next
        → BothTellSame nfa (Some t) (preferred s.wins here later)
    reads-first t h next goes =
        let r : Reads nfa entry (byte_of text i) h.walk next = record { reader = h.hits.state; leads = h.hits.leads; goes = goes } in
        let rest : ToldAs nfa h.rest after =
        something-told nfa (finds next (i + 1)) after h.rest (agree next (step.row h.walk next r)) (sym (reader-value h.walk next r) ∙ h.hits.is) in
        let behind = TellSame-behind nfa s.slots entry i h.walk (step.slots h.walk next r) h.rest rest.told rest.same in
        let is : later ≡ with_writes (written_at nfa s.slots i) (Some rest.told) =
        later-some h.walk next r h.hits.holds ∙ ap (with_writes (written_at nfa s.slots i)) rest.is in
        let whole : BothTellSame nfa (Some t) later =
        subst (BothTellSame nfa (Some t)) (sym is)
        (subst (λ x. BothTellSame nfa (Some x) (with_writes (written_at nfa s.slots i) (Some rest.told))) (sym h.is) behind) in
        by_test s.wins
        (λ e.
        let out = (step.wins h.walk next r).0 e in
        let none : here ≡ None =
        row.here-none nfa names ok text end i place entry f final out.pattern out.other out.accepts
        (λ holds. sym (row.accept-value nfa names ok text end i place entry f final out.pattern out.other out.accepts)
        ∙ h.first out.other out.preferred out.accepts.state out.accepts.leads holds) in
        subst (BothTellSame nfa (Some t)) (sym (ap (λ o. option_or o later) none) ∙ sym (ap (λ b. preferred b here later) e)) whole)
        (λ e.
        subst (BothTellSame nfa (Some t))
        (is ∙ sym (ap (λ o. option_or o here) is) ∙ sym (ap (λ b. preferred b here later) e)) whole)

    -- over a byte
    pub step-row : BothTellSame nfa (finds entry i) (preferred s.wins here later)
    step-row = by (finds entry i) told
      where
        by : (o : Option Trace) → IsTold entry o → BothTellSame nfa o (preferred s.wins here later)
        by None h =
            let nothing : later ≡ None = later-nothing (λ way next r holds. sym (reader-value way next r) ∙ h way r.reader r.leads holds) in
            subst (BothTellSame nfa None) (sym ((λ k. preferred s.wins (none-here h k) (nothing k)) ∙ preferred-none s.wins)) tt
        by (Some t) h =
            ⊎_elim
            (λ accepts. accepts-first t h accepts.0 accepts.1)
            (λ reads. reads-first t h reads.next reads.goes)
            (row.value-comes nfa names ok text end i place h.hits.state h.rest h.hits.is)
