-- Parts that read members of classes.
use Rattle.std.proofs.Common.{◌≡◌, ℕ, ◌≤◌, List, Option, sym, subst, length}
use Rattle.rx_model.specs.Text.{scalar_ranges, byte_ranges}
use Rattle.rx_model.specs.Graph as graph
use Rattle.rx_search.specs.Limits.{id_limit}
use Rattle.rx_nfa.specs.Draft.{Draft, Extends, AreInRange}
use Rattle.rx_nfa.specs.States.{AreClosed}
use Rattle.rx_nfa.specs.declared.state.State.{State}
use Rattle.rx_nfa.specs.Ranges.{StaysBelow}
use Rattle.rx_nfa.specs.Automaton.{IsWithin}
use Rattle.rx_nfa.specs.Row.{HasSortedTransitions, IsReader, AddsReaders}
use Rattle.rx_nfa.specs.Slots.{WritesOwnSlots}
use Rattle.rx_nfa.specs.Trie.{IsClass, IsByteClass}
use Rattle.rx_nfa.specs.Built.{Built}
use Rattle.rx_nfa.proofs.lemmas.classes.RowLemmas.{reader-within, reader-own, reader-sorted, AddsReaders-all}
use Rattle.rx_nfa.proofs.lemmas.parts.AcceptLemmas.{below-kept, once-kept, readers-silent}
use Rattle.rx_nfa.proofs.lemmas.parts.BuiltLemmas.{Built-state}

Extends-readers : (old new : Draft) → new.groups ≡ old.groups → new.slots ≡ old.slots → new.accepted ≡ old.accepted → AddsReaders old.states new.states
    → Extends old new
Extends-readers old new groups slots accepted adds = record {
  groups = groups;
  slots = slots;
  longer = adds.longer;
  kept = adds.kept;
  accepted = accepted;
}

-- the states of a class of scalars
pub Built-scalars : (ranges : List (ℕ × ℕ)) (next : ℕ) (old new : Draft) (q : ℕ) → new.groups ≡ old.groups → new.slots ≡ old.slots
    → new.accepted ≡ old.accepted → AddsReaders old.states new.states
    → IsClass (IsReader (length old.states) new.states) next ranges q → Built (graph.build_state (graph.set (scalar_ranges ranges))) next old new q
Built-scalars ranges next old new q groups slots accepted adds c =
    Built-state (graph.set (scalar_ranges ranges)) next old new q (Extends-readers old new groups slots accepted adds) c.reads.stands.above c.reads.stands.inside
    (λ f next' is. subst (λ n. IsClass (IsReader (length old.states) new.states) n ranges q) (sym is) c)

-- the state of a class of bytes
pub Built-bytes : (ranges : List (ℕ × ℕ)) (next : ℕ) (old new : Draft) (q : ℕ) → new.groups ≡ old.groups → new.slots ≡ old.slots
    → new.accepted ≡ old.accepted → AddsReaders old.states new.states
    → StaysBelow 255 ranges → IsByteClass (IsReader (length old.states) new.states) next ranges q
    → Built (graph.build_state (graph.set (byte_ranges ranges))) next old new q
Built-bytes ranges next old new q groups slots accepted adds below c =
    Built-state (graph.set (byte_ranges ranges)) next old new q (Extends-readers old new groups slots accepted adds) c.reads.stands.above c.reads.stands.inside
    (λ f next' is. (below, subst (λ n. IsByteClass (IsReader (length old.states) new.states) n ranges q) (sym is) c))

-- what is in range stays so where readers were added
pub AreInRange-adds : (groups : List (List (Option (List ℕ)))) (slots accepted : ℕ) (old new : List State)
    → AreInRange (record { states = old; groups = groups; slots = slots; accepted = accepted }) → AddsReaders old new → AreClosed new → length new ≤ id_limit
    → AreInRange (record { states = new; groups = groups; slots = slots; accepted = accepted })
AreInRange-adds groups slots accepted old new r adds closed few = record {
  names = closed;
  within = AddsReaders-all (IsWithin (length groups) slots) (λ s ts is a. reader-within (length groups) slots s ts is) old new adds r.within;
  own = AddsReaders-all (WritesOwnSlots groups) (λ s ts is a. reader-own groups s ts is) old new adds r.own;
  sorted = AddsReaders-all HasSortedTransitions reader-sorted old new adds r.sorted;
  few = few;
  below = below-kept accepted old new (readers-silent old new adds) r.below;
  once = once-kept old new (readers-silent old new adds) r.once;
}
