-- What a draft is, as the NFA that is made of it.
use Rattle.std.proofs.Common.{◌≡◌, ℕ, ◌<◌, ◌≤◌, List, ◌∙◌, sym, ap, arith, length}
use Rattle.std.specs.Prelude.{Bool, All}
use Rattle.std.specs.List.{list_any}
use Rattle.std.proofs.lemmas.List.Elements.{All-weaker}
use Rattle.rx_model.specs.Look.{Look as Kind}
use Rattle.rx_search.specs.GroupInfo.{slot_count}
use Rattle.rx_search.specs.LookSet.{has}
use Rattle.rx_search.specs.Limits.{id_limit}
use Rattle.rx_nfa.specs.Automaton.{asks_for, IsWithin}
use Rattle.rx_nfa.specs.ByteClasses.{AreClassesOf}
use Rattle.rx_nfa.specs.Draft.{Draft, AreInRange}
use Rattle.rx_nfa.specs.Nfa.{Nfa, IsInRange}
use Rattle.rx_nfa.specs.declared.state.State.{State}
use Rattle.rx_nfa.specs.declared.state.State.TheVariants.{ByteRange, Sparse, Look, Union, Capture, Fail, Match}

-- what a state names is there among more
pub within-more : (p q m n : ℕ) → p ≤ q → m ≤ n → (s : State) → IsWithin p m s → IsWithin q n s
within-more p q m n a b (ByteRange low high next) h = tt
within-more p q m n a b (Sparse transitions) h = tt
within-more p q m n a b (Look look next) h = tt
within-more p q m n a b (Union alternates) h = tt
within-more p q m n a b (Capture next pattern slot) h = let x = h.0 in let y = h.1 in (omega arith, omega arith)
within-more p q m n a b Fail h = tt
within-more p q m n a b (Match pattern) h = omega arith

module _ (d : Draft) (start : ℕ) (starts : List ℕ) (slots : ℕ) (utf8 reverse : Bool) (terminator looks : ℕ) (classes : List ℕ)
    (anchored empty : Bool) (accounted : ℕ) where
  -- the NFA of a draft
  abbrev pub made : Nfa
  made = record {
    states = d.states;
    start_anchored = start;
    starts = starts;
    slots = slots;
    groups = d.groups;
    utf8 = utf8;
    reverse = reverse;
    terminator = terminator;
    looks = looks;
    classes = classes;
    always_start_anchored = anchored;
    has_empty = empty;
    accounted = accounted;
  }

  pub made-in_range : AreInRange d → start < length d.states → All (λ q. q < length d.states) starts → length starts ≡ length d.groups
      → length d.groups ≤ id_limit → d.slots ≤ slot_count d.groups → accounted ≤ id_limit → slots ≡ slot_count d.groups
      → ((kind : Kind) → has looks kind ≡ list_any (asks_for kind) d.states) → AreClassesOf terminator d.states classes → IsInRange made
  made-in_range range inside all long few fits counted count asked told = record {
    start_anchored = inside;
    starts = all;
    names = range.names;
    within = All-weaker (IsWithin (length d.groups) d.slots) (IsWithin (length starts) slots)
        (within-more (length d.groups) (length starts) d.slots slots (omega arith) (omega arith)) d.states range.within;
    slots = count;
    own = range.own;
    once = range.once;
    sorted = range.sorted;
    looks = asked;
    classes = told;
    few_states = range.few;
    few_patterns = omega arith;
    few_accounted = counted;
  }

  -- the draft goes by another name, and the set of look-arounds and the classes of bytes are told of the NFA
  pub made-is : (e : Draft) (nfa : Nfa) → d ≡ e → slots ≡ slot_count d.groups → nfa ≡ made → nfa ≡ record {
    states = e.states;
    start_anchored = start;
    starts = starts;
    slots = slot_count e.groups;
    groups = e.groups;
    utf8 = utf8;
    reverse = reverse;
    terminator = terminator;
    looks = nfa.looks;
    classes = nfa.classes;
    always_start_anchored = anchored;
    has_empty = empty;
    accounted = accounted;
  }
  made-is e nfa same count is =
      let slots_are : slots ≡ slot_count e.groups = count ∙ ap (λ (x : Draft). slot_count x.groups) same in
      let looks_are : looks ≡ nfa.looks = sym (ap (λ (n : Nfa). n.looks) is) in
      let classes_are : classes ≡ nfa.classes = sym (ap (λ (n : Nfa). n.classes) is) in
      let joined : made ≡ record {
        states = e.states;
        start_anchored = start;
        starts = starts;
        slots = slot_count e.groups;
        groups = e.groups;
        utf8 = utf8;
        reverse = reverse;
        terminator = terminator;
        looks = nfa.looks;
        classes = nfa.classes;
        always_start_anchored = anchored;
        has_empty = empty;
        accounted = accounted;
      } = λ i. record {
        states = (same i).states;
        start_anchored = start;
        starts = starts;
        slots = slots_are i;
        groups = (same i).groups;
        utf8 = utf8;
        reverse = reverse;
        terminator = terminator;
        looks = looks_are i;
        classes = classes_are i;
        always_start_anchored = anchored;
        has_empty = empty;
        accounted = accounted;
      } in
      is ∙ joined
