-- What a state tells past it, of an NFA that is admitted; where it goes on to.
use Rattle.std.proofs.Common.{◌≡◌, ◌⊎◌, ℕ, ◌+◌, ◌-◌, ◌^◌, ◌<◌, ◌≤◌, ◌==◌, List, [], ◌∷◌, ◌++◌, length, map, refl, sym, ◌∙◌, ap, subst, inl, inr, ⊎_elim, arith, true≢false, if◌then◌else◌}
use Rattle.std.specs.Prelude.{true, Option, Some, None, nat_le}
use Rattle.std.specs.Int.{bit_at}
use Rattle.std.specs.List.{list_any}
use Rattle.std.proofs.lemmas.Bool.Decides.{nat_tests}
use Rattle.std.proofs.lemmas.List.Elements.{All-get_or}
use Rattle.std.proofs.lemmas.List.Folds.{list_any_at}
use Rattle.rx_model.specs.Look as model
use Rattle.rx_model.specs.Look.{look_number, look_of, look-back}
use Rattle.rx_model.proofs.lemmas.runs.RunLemmas.{by_test}
use Rattle.rx_model.proofs.lemmas.runs.FirstLemmas.{none-is-some, some-is}
use Rattle.rx_search.specs.Look.{kind_of}
use Rattle.rx_search.specs.declared.look.Look.{Look as LookKind}
use Rattle.rx_nfa.specs.Automaton.{state_at, state_writes, asks_for, IsWithin}
use Rattle.rx_nfa.specs.Nfa.{Nfa, IsInRange}
use Rattle.rx_nfa.specs.declared.state.State.{State}
use Rattle.rx_nfa.specs.declared.state.State.TheVariants.{Look, Union, Capture, Fail, Match}
use Rattle.rx_onepass_table.specs.Entry.{explicit_start}
use Rattle.rx_nfa.specs.Walks.{epsilon_targets, state_asks}
use Rattle.rx_onepass_table.specs.Words.{few_looks, slot_limit, no_pattern}
use Rattle.rx_onepass_table.specs.declared.epsilons.Epsilons.{Epsilons}
use Rattle.rx_onepass_build.specs.Build.{IsAdmitted, told_explicit, writes_from}
use Rattle.rx_onepass_build.specs.Told.{IsSmall, TellsPast, frame_at}
use Rattle.rx_onepass_build.specs.Tree.{GoesOn}
use Rattle.rx_onepass_build.specs.declared.closure.Frame.{Frame}

-- two kinds of one number are one
same-kind : (a b : model.Look) → look_number a ≡ look_number b → a ≡ b
same-kind a b e = some-is (sym (look-back a) ∙ ap look_of e ∙ look-back b)

some-one : {A : Type 0} {x y : A} → x ≡ y → ◌≡◌ {A = Option A} (Some x) (Some y)
some-one e = ap Some e

-- What is told past a state.

tells-nothing : (nfa : Nfa) (s : State) (e : Epsilons) → state_writes s ≡ None → state_asks s ≡ None → IsSmall e → TellsPast nfa s e e
tells-nothing nfa s e writes asks small = record {
  slots = λ k. ((λ bit. inl bit), (λ either. ⊎_elim (λ bit. bit) (λ w. none-is-some (sym writes ∙ w)) either));
  few_slots = λ k w. none-is-some (sym writes ∙ w);
  looks = λ kind. ((λ bit. inl bit), (λ either. ⊎_elim (λ bit. bit) (λ a. none-is-some (sym asks ∙ a)) either));
  few = λ kind a. none-is-some (sym asks ∙ a);
  small = small;
}

tells-look : (nfa : Nfa) (look : LookKind) (next : ℕ) (e later : Epsilons) → later.slots ≡ e.slots
    → ((k : ℕ) → bit_at later.looks k ≡ (if k == look_number (kind_of look) then 1 else bit_at e.looks k)) → look_number (kind_of look) < few_looks
    → IsSmall e → later.looks < 2 ^ 10 → TellsPast nfa (Look look next) e later
tells-look nfa look next e later slots bits few small fits = record {
  slots = λ k. (
    (λ bit. inl (ap (λ n. bit_at n k) (sym slots) ∙ bit)),
    (λ either. ⊎_elim (λ bit. ap (λ n. bit_at n k) slots ∙ bit) (λ w. none-is-some w) either),
  );
  few_slots = λ k w. none-is-some w;
  looks = λ kind. (to kind, back kind);
  few = λ kind a. subst (λ x. look_number x < few_looks) (some-is a) few;
  small = record { slots = subst (λ n. n < 2 ^ 32) (sym slots) small.slots; looks = fits };
}
  where
    to : (kind : model.Look) → bit_at later.looks (look_number kind) ≡ 1
        → (bit_at e.looks (look_number kind) ≡ 1) ⊎ (◌≡◌ {A = Option model.Look} (Some (kind_of look)) (Some kind))
    to kind bit =
        by_test (look_number kind == look_number (kind_of look))
        (λ t.
        let same : look_number (kind_of look) ≡ look_number kind = grind (arith, nat_tests) in
        inr (ap Some (same-kind (kind_of look) kind same)))
        (λ t. inl ((λ i. if sym t i then 1 else bit_at e.looks (look_number kind)) ∙ sym (bits (look_number kind)) ∙ bit))

    back : (kind : model.Look) → (bit_at e.looks (look_number kind) ≡ 1) ⊎ (◌≡◌ {A = Option model.Look} (Some (kind_of look)) (Some kind))
        → bit_at later.looks (look_number kind) ≡ 1
    back kind either =
        by_test (look_number kind == look_number (kind_of look))
        (λ t. bits (look_number kind) ∙ (λ i. if t i then 1 else bit_at e.looks (look_number kind)))
        (λ t.
        ⊎_elim (λ bit. bits (look_number kind) ∙ (λ i. if t i then 1 else bit_at e.looks (look_number kind)) ∙ bit)
        (λ a.
        let same : look_number kind ≡ look_number (kind_of look) = ap look_number (sym (some-is a)) in
        let yes : (look_number kind == look_number (kind_of look)) ≡ true = grind (arith, nat_tests) in
        absurd (true≢false (sym yes ∙ t)))
        either)

tells-slot : (nfa : Nfa) (next pattern slot : ℕ) (e later : Epsilons) → later.looks ≡ e.looks
    → ((k : ℕ) → bit_at later.slots k ≡ (if explicit_start nfa + k == slot then 1 else bit_at e.slots k)) → slot < explicit_start nfa + slot_limit
    → IsSmall e → later.slots < 2 ^ 32 → TellsPast nfa (Capture next pattern slot) e later
tells-slot nfa next pattern slot e later looks bits few small fits = record {
  slots = λ k. (to k, back k);
  few_slots = λ k w. (let is = some-is w in omega arith);
  looks = λ kind. (
    (λ bit. inl (ap (λ n. bit_at n (look_number kind)) (sym looks) ∙ bit)),
    (λ either. ⊎_elim (λ bit. ap (λ n. bit_at n (look_number kind)) looks ∙ bit) (λ a. none-is-some a) either),
  );
  few = λ kind a. none-is-some a;
  small = record { slots = fits; looks = subst (λ n. n < 2 ^ 10) (sym looks) small.looks };
}
  where
    to : (k : ℕ) → bit_at later.slots k ≡ 1 → (bit_at e.slots k ≡ 1) ⊎ (◌≡◌ {A = Option ℕ} (Some slot) (Some (explicit_start nfa + k)))
    to k bit =
        by_test (explicit_start nfa + k == slot)
        (λ t. let same : slot ≡ explicit_start nfa + k = grind (arith, nat_tests) in inr (ap Some same))
        (λ t. inl ((λ i. if sym t i then 1 else bit_at e.slots k) ∙ sym (bits k) ∙ bit))

    back : (k : ℕ) → (bit_at e.slots k ≡ 1) ⊎ (◌≡◌ {A = Option ℕ} (Some slot) (Some (explicit_start nfa + k))) → bit_at later.slots k ≡ 1
    back k either =
        by_test (explicit_start nfa + k == slot)
        (λ t. bits k ∙ (λ i. if t i then 1 else bit_at e.slots k))
        (λ t.
        ⊎_elim (λ bit. bits k ∙ (λ i. if t i then 1 else bit_at e.slots k) ∙ bit)
        (λ w.
        let same : explicit_start nfa + k ≡ slot = sym (some-is w) in
        let yes : (explicit_start nfa + k == slot) ≡ true = grind (arith, nat_tests) in
        absurd (true≢false (sym yes ∙ t)))
        either)

-- Where a state goes on to.

module _ (nfa : Nfa) (f : Frame) (old new : List Frame) where
  pub goes-rests : (s : State) → state_at nfa.states f.state ≡ s → epsilon_targets s ≡ [] → state_writes s ≡ None → state_asks s ≡ None → IsSmall f.epsilons
      → new ≡ old → GoesOn nfa f old new
  goes-rests s is targets writes asks small same = record {
    later = f.epsilons;
    tells = subst (λ x. TellsPast nfa x f.epsilons f.epsilons) (sym is) (tells-nothing nfa s f.epsilons writes asks small);
    frames = same ∙ sym (ap (λ x. map (frame_at f.epsilons) (epsilon_targets x) ++ old) is ∙ ap (λ ts. map (frame_at f.epsilons) ts ++ old) targets);
  }

  pub goes-union : (alternates : List ℕ) → state_at nfa.states f.state ≡ Union alternates → IsSmall f.epsilons
      → new ≡ map (frame_at f.epsilons) alternates ++ old → GoesOn nfa f old new
  goes-union alternates is small pushed = record {
    later = f.epsilons;
    tells = subst (λ x. TellsPast nfa x f.epsilons f.epsilons) (sym is) (tells-nothing nfa (Union alternates) f.epsilons refl refl small);
    frames = pushed ∙ sym (ap (λ x. map (frame_at f.epsilons) (epsilon_targets x) ++ old) is);
  }

  pub goes-look : (look : LookKind) (next : ℕ) (later : Epsilons) → state_at nfa.states f.state ≡ Look look next → later.slots ≡ f.epsilons.slots
      → ((k : ℕ) → bit_at later.looks k ≡ (if k == look_number (kind_of look) then 1 else bit_at f.epsilons.looks k))
      → look_number (kind_of look) < few_looks → IsSmall f.epsilons → later.looks < 2 ^ 10 → new ≡ frame_at later next ∷ old → GoesOn nfa f old new
  goes-look look next later is slots bits few small fits pushed = record {
    later = later;
    tells = subst (λ x. TellsPast nfa x f.epsilons later) (sym is) (tells-look nfa look next f.epsilons later slots bits few small fits);
    frames = pushed ∙ sym (ap (λ x. map (frame_at later) (epsilon_targets x) ++ old) is);
  }

  pub goes-slot : (next pattern slot : ℕ) (later : Epsilons) → state_at nfa.states f.state ≡ Capture next pattern slot → later.looks ≡ f.epsilons.looks
      → ((k : ℕ) → bit_at later.slots k ≡ (if explicit_start nfa + k == slot then 1 else bit_at f.epsilons.slots k))
      → slot < explicit_start nfa + slot_limit → IsSmall f.epsilons → later.slots < 2 ^ 32 → new ≡ frame_at later next ∷ old → GoesOn nfa f old new
  goes-slot next pattern slot later is looks bits few small fits pushed = record {
    later = later;
    tells = subst (λ x. TellsPast nfa x f.epsilons later) (sym is) (tells-slot nfa next pattern slot f.epsilons later looks bits few small fits);
    frames = pushed ∙ sym (ap (λ x. map (frame_at later) (epsilon_targets x) ++ old) is);
  }

-- What an admitted NFA has.

module _ (nfa : Nfa) (range : IsInRange nfa) (admitted : IsAdmitted nfa) (q : ℕ) (inside : q < length nfa.states) where
  pub few-look : (look : LookKind) (next : ℕ) → state_at nfa.states q ≡ Look look next → look_number (kind_of look) < few_looks
  few-look look next is =
      let yes : (look_number (kind_of look) == look_number (kind_of look)) ≡ true = grind (arith, nat_tests) in
      admitted.looks (kind_of look)
      (range.looks (kind_of look)
      ∙ list_any_at (asks_for (kind_of look)) nfa.states q Fail inside (ap (asks_for (kind_of look)) is ∙ yes))

  pub few-slot : (next pattern slot : ℕ) → state_at nfa.states q ≡ Capture next pattern slot → slot < explicit_start nfa + slot_limit
  few-slot next pattern slot is =
      by_test (nat_le (explicit_start nfa) slot)
      (λ t.
      let le : explicit_start nfa ≤ slot = grind (arith, nat_tests) in
      let any : list_any (writes_from (explicit_start nfa)) nfa.states ≡ true =
      list_any_at (writes_from (explicit_start nfa)) nfa.states q Fail inside (ap (writes_from (explicit_start nfa)) is ∙ t) in
      let told : told_explicit nfa ≡ nfa.slots - explicit_start nfa = ap (λ b. if b then nfa.slots - explicit_start nfa else 0) any in
      let within = (subst (IsWithin (length nfa.starts) nfa.slots) is
      (All-get_or (IsWithin (length nfa.starts) nfa.slots) nfa.states q Fail inside range.within)).1 in
      let few = admitted.slots in
      omega arith)
      (λ t. let less : slot < explicit_start nfa = grind (arith, nat_tests) in omega arith)

  pub few-pattern : (pattern : ℕ) → state_at nfa.states q ≡ Match pattern → pattern < no_pattern
  few-pattern pattern is =
      let within : pattern < length nfa.starts =
      subst (IsWithin (length nfa.starts) nfa.slots) is (All-get_or (IsWithin (length nfa.starts) nfa.slots) nfa.states q Fail inside range.within) in
      let few = admitted.patterns in
      omega arith
