-- A state that accepts a pattern, which none accepted before.
use Rattle.std.proofs.Common.{ℕ, ◌<◌, ◌≤◌, arith, length}
use Rattle.std.proofs.lemmas.List.{length_push}
use Rattle.std.proofs.lemmas.List.Elements.{All-push}
use Rattle.rx_search.specs.Limits.{id_limit}
use Rattle.rx_nfa.specs.Automaton.{IsWithin}
use Rattle.rx_nfa.specs.Draft.{Draft, AreInRange, accepting}
use Rattle.rx_nfa.specs.Row.{HasSortedTransitions}
use Rattle.rx_nfa.specs.Slots.{WritesOwnSlots}
use Rattle.rx_nfa.specs.declared.state.State.TheVariants.{Match}
use Rattle.rx_nfa.proofs.lemmas.classes.RowLemmas.{AreClosed-push}
use Rattle.rx_nfa.proofs.lemmas.parts.AcceptLemmas.{accepting-below, accepting-once}

pub AreInRange-accepting : (d : Draft) (pattern : ℕ) → pattern < length d.groups → d.accepted ≤ pattern → AreInRange d → length d.states < id_limit
    → AreInRange (accepting d pattern)
AreInRange-accepting d pattern there new r room = record {
  names = AreClosed-push d.states (Match pattern) tt r.names;
  within = All-push (IsWithin (length d.groups) d.slots) d.states (Match pattern) r.within there;
  own = All-push (WritesOwnSlots d.groups) d.states (Match pattern) r.own tt;
  sorted = All-push HasSortedTransitions d.states (Match pattern) r.sorted tt;
  few = (let long = length_push d.states (Match pattern) in omega arith);
  below = accepting-below d.states d.accepted pattern new r.below r.once;
  once = accepting-once d.states d.accepted pattern new r.below r.once;
}
