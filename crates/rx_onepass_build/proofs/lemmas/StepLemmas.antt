-- The step of a state that reads, on one class of bytes.
use Rattle.std.proofs.Common.{◌≡◌, ℕ, ◌+◌, ◌<◌, List, ◌∷◌, length, refl, sym, ◌∙◌, subst, arith, slice_index}
use Rattle.std.specs.Prelude.{true, false, Option, Some, None}
use Rattle.rx_search.specs.ByteClasses.{class_count}
use Rattle.rx_nfa.specs.Automaton.{state_at}
use Rattle.rx_nfa.specs.Ordered.{target}
use Rattle.rx_onepass_table.specs.Entry.{IsEntry, Conflicts}
use Rattle.rx_onepass_table.specs.Entry.IsEntry.{after as comes_after}
use Rattle.rx_onepass_table.specs.Rows.{IsRowOf}
use Rattle.rx_onepass_table.specs.Words.{Step}
use Rattle.rx_onepass_build.specs.Entries.{AreNumbered, AreEntries, Stays}
use Rattle.rx_onepass_build.specs.Filling.{IsJob, step_at, IsStepOn, IsCell, IsFilling}
use Rattle.rx_onepass_build.specs.Rows.{IsReaderOn, IsPut}
use Rattle.rx_onepass_build.specs.declared.closure.Reader.{Reader}
use Rattle.rx_onepass_build.specs.declared.job.Job.{Job}
use Rattle.rx_onepass_build.proofs.lemmas.FillingLemmas.{target-reads, cell-grows, cell-none, cell-some, cell-conflict, filling-next}

module _ (j : Job) (job : IsJob j) (r : Reader) (class : ℕ) (inside : class < class_count j.classes.now) where
  abbrev pub byte : ℕ
  byte = slice_index j.bytes.now class

  there : class < length j.bytes.now
  there = let each = job.bytes.each in omega arith

  pub byte-small : byte < 256
  byte-small = job.bytes.inside class there

  pub byte-own : slice_index j.classes.now byte ≡ class
  byte-own = job.bytes.own class there

  -- the bytes of the class lead where this one does
  one-class : (o : Option ℕ) → target (state_at j.nfa.now.states r.frame.state) byte ≡ o → (b : ℕ) → b < 256 → slice_index j.classes.now b ≡ class
      → target (state_at j.nfa.now.states r.frame.state) b ≡ o
  one-class o e b lt is =
      job.alike r.frame.state b byte (record { first = lt; second = byte-small; same = is ∙ sym byte-own }) ∙ e

  pub step-none : (entries : List ℕ) (done : List (List ℕ)) (way : List ℕ) (cells : List Step) → target (state_at j.nfa.now.states r.frame.state) byte ≡ None
      → IsReaderOn j r way → IsFilling j entries r.entry done (way ∷ done) class cells → IsFilling j entries r.entry done (way ∷ done) (class + 1) cells
  step-none entries done way cells none on h =
      filling-next j entries entries r.entry done (way ∷ done) class cells cells inside (λ k q e. e) h.are refl (λ c apart. refl)
      (cell-none j.nfa.now j.classes.now r.entry entries done class way r.frame on.is_way (step_at cells class) (one-class None none)
      (h.rest class inside (omega arith))) h

  module _ (entries : List ℕ) (done : List (List ℕ)) (way : List ℕ) (cells : List Step) (next : ℕ)
      (goes : target (state_at j.nfa.now.states r.frame.state) byte ≡ Some next) (on : IsReaderOn j r way)
      (h : IsFilling j entries r.entry done (way ∷ done) class cells) where
    -- it leads to an entry
    pub next-entry : IsEntry j.nfa.now j.each next
    next-entry = comes_after r.entry byte next way h.is_entry (target-reads j.nfa.now r.entry way r.frame on.is_way byte next goes)

    module _ (new : List ℕ) (stays : Stays entries new) (row : ℕ) (row_is : IsRowOf new row next) (step : Step)
        (step_is : step ≡ record { target = row; wins = r.wins; slots = r.frame.epsilons.slots; looks = r.frame.epsilons.looks }) where
      step-on : IsStepOn j.nfa.now new r.entry step way next
      step-on = subst (λ s. IsStepOn j.nfa.now new r.entry s way next) (sym step_is) (record {
        row = row_is;
        wins = on.wins;
        slots = on.is_way.slots;
        looks = on.is_way.looks;
        small_slots = on.is_way.small.slots;
        small_looks = on.is_way.small.looks;
      })

      cell-there : IsCell j.nfa.now j.classes.now new r.entry done class (step_at cells class)
      cell-there =
          cell-grows j.nfa.now j.classes.now r.entry entries new done class (step_at cells class) stays (h.rest class inside (omega arith))

      -- the step was put into the cell
      pub step-put : AreEntries j.nfa.now j.each new → (later : List Step) → length later ≡ length cells
          → ((c : ℕ) → (c ≡ class → ⊥) → step_at later c ≡ step_at cells c)
          → IsPut (step_at cells class) step (step_at later class) true → IsFilling j new r.entry done (way ∷ done) (class + 1) later
      step-put are later len other put =
          filling-next j entries new r.entry done (way ∷ done) class cells later inside stays are len other
          (cell-some j.nfa.now j.classes.now r.entry new done class way r.frame on.is_way (step_at cells class) (step_at later class) step next
          (one-class (Some next) goes) cell-there put step-on) h

      -- another one stands there
      pub step-conflict : (numbers : List ℕ) → AreNumbered new numbers → (found : Step) → IsPut (step_at cells class) step found false
          → Conflicts j.nfa.now r.entry byte
      step-conflict numbers are found put =
          cell-conflict j.nfa.now j.classes.now r.entry new done class way r.frame on.is_way (step_at cells class) found step next
          (one-class (Some next) goes) cell-there numbers are put step-on byte byte-small byte-own
