-- Frames and the walks that they stand for.
use Rattle.std.proofs.Common.{◌≡◌, ℕ, suc, ◌+◌, ◌<◌, List, [], ◌∷◌, ◌++◌, length, get_or, refl, sym, ◌∙◌, ap, subst, inl, inr, ⊎_elim, arith}
use Rattle.std.specs.Prelude.{true, All, Option, Some, None, Contains, map, option_to_list}
use Rattle.std.specs.Int.{bit_at}
use Rattle.std.proofs.Common.{append_assoc}
use Rattle.std.proofs.lemmas.Nat.Bits.{bit_at-zero}
use Rattle.rx_model.specs.Look.{Look, look_number}
use Rattle.rx_model.proofs.lemmas.runs.MemberLemmas.{none-among, first-among, only-among, either-among, front-among, back-among}
use Rattle.rx_nfa.specs.Automaton.{state_at, state_writes}
use Rattle.rx_nfa.specs.Nfa.{Nfa}
use Rattle.rx_nfa.specs.declared.state.State.{State}
use Rattle.rx_onepass_table.specs.Entry.{explicit_start}
use Rattle.rx_nfa.specs.Walks.{epsilon_targets, state_asks, chosen, WalksTo, written_on, asked_on}
use Rattle.rx_onepass_table.specs.declared.epsilons.Epsilons.{Epsilons}
use Rattle.rx_onepass_table.proofs.lemmas.WalkLemmas.{walks-on}
use Rattle.rx_onepass_build.specs.Order.{going_on}
use Rattle.rx_onepass_build.specs.Told.{TellsPast, IsWay, AreWays, frame_at}
use Rattle.rx_onepass_build.specs.declared.closure.Frame.{Frame}

-- a walk leads to one state
pub walks-one : (states : List State) (q : ℕ) (ks : List ℕ) (r s : ℕ) → WalksTo states q ks r → WalksTo states q ks s → r ≡ s
walks-one states q [] r s w v = sym w ∙ v
walks-one states q (k ∷ ks) r s w v = walks-one states (chosen states q k) ks r s w.1 v.1

-- one that goes on takes a choice that is there
pub walks-next : (states : List State) (q : ℕ) (ks : List ℕ) (r k : ℕ) (rest : List ℕ) (s : ℕ) → WalksTo states q ks r → WalksTo states q (ks ++ k ∷ rest) s
    → k < length (epsilon_targets (state_at states r))
walks-next states q [] r k rest s w v = subst (λ x. k < length (epsilon_targets (state_at states x))) w v.0
walks-next states q (j ∷ ks) r k rest s w v = walks-next states (chosen states q j) ks r k rest s w.1 v.1

written-next : (states : List State) (q : ℕ) (ks : List ℕ) (r k : ℕ) → WalksTo states q ks r
    → written_on states q (ks ++ k ∷ []) ≡ written_on states q ks ++ option_to_list (state_writes (state_at states r))
written-next states q [] r k w = append-none (option_to_list (state_writes (state_at states q))) ∙ ap (λ x. option_to_list (state_writes (state_at states x))) w
  where
    append-none : (xs : List ℕ) → xs ++ [] ≡ xs
    append-none [] = refl
    append-none (x ∷ xs) = ap (λ ys. x ∷ ys) (append-none xs)
written-next states q (j ∷ ks) r k w =
    ap (λ xs. option_to_list (state_writes (state_at states q)) ++ xs) (written-next states (chosen states q j) ks r k w.1)
    ∙ sym (append_assoc (option_to_list (state_writes (state_at states q))) (written_on states (chosen states q j) ks)
    (option_to_list (state_writes (state_at states r))))

asked-next : (states : List State) (q : ℕ) (ks : List ℕ) (r k : ℕ) → WalksTo states q ks r
    → asked_on states q (ks ++ k ∷ []) ≡ asked_on states q ks ++ option_to_list (state_asks (state_at states r))
asked-next states q [] r k w = append-none (option_to_list (state_asks (state_at states q))) ∙ ap (λ x. option_to_list (state_asks (state_at states x))) w
  where
    append-none : (xs : List Look) → xs ++ [] ≡ xs
    append-none [] = refl
    append-none (x ∷ xs) = ap (λ ys. x ∷ ys) (append-none xs)
asked-next states q (j ∷ ks) r k w =
    ap (λ xs. option_to_list (state_asks (state_at states q)) ++ xs) (asked-next states (chosen states q j) ks r k w.1)
    ∙ sym (append_assoc (option_to_list (state_asks (state_at states q))) (asked_on states (chosen states q j) ks)
    (option_to_list (state_asks (state_at states r))))

option-among : {A : Type 0} (o : Option A) (x : A) → Contains (option_to_list o) x → o ≡ Some x
option-among None x m = absurd (none-among x m)
option-among (Some y) x m = ap Some (only-among y x m)

among-option : {A : Type 0} (o : Option A) (x : A) → o ≡ Some x → Contains (option_to_list o) x
among-option o x e = subst (λ p. Contains (option_to_list p) x) (sym e) (first-among x [])

module _ (nfa : Nfa) (entry : ℕ) where
  -- one choice more
  pub way-next : (way : List ℕ) (f : Frame) (later : Epsilons) (k q : ℕ) → IsWay nfa entry way f
      → TellsPast nfa (state_at nfa.states f.state) f.epsilons later → k < length (epsilon_targets (state_at nfa.states f.state))
      → chosen nfa.states f.state k ≡ q → IsWay nfa entry (way ++ k ∷ []) (frame_at later q)
  way-next way f later k q w tells lt is = record {
    leads = subst (WalksTo nfa.states entry (way ++ k ∷ [])) is (walks-on nfa.states entry way f.state k w.leads lt);
    slots = record { told = slot-told; all = slot-all };
    looks = record { told = look-told; all = look-all };
    small = tells.small;
  }
    where
      slots-are : written_on nfa.states entry (way ++ k ∷ []) ≡ written_on nfa.states entry way ++ option_to_list (state_writes (state_at nfa.states f.state))
      slots-are = written-next nfa.states entry way f.state k w.leads

      looks-are : asked_on nfa.states entry (way ++ k ∷ []) ≡ asked_on nfa.states entry way ++ option_to_list (state_asks (state_at nfa.states f.state))
      looks-are = asked-next nfa.states entry way f.state k w.leads

      slot-told : (i : ℕ) → bit_at later.slots i ≡ 1 → Contains (written_on nfa.states entry (way ++ k ∷ [])) (explicit_start nfa + i)
      slot-told i bit =
          subst (λ xs. Contains xs (explicit_start nfa + i)) (sym slots-are)
          (⊎_elim
          (λ old. front-among (written_on nfa.states entry way) (option_to_list (state_writes (state_at nfa.states f.state))) (explicit_start nfa + i)
          (w.slots.told i old))
          (λ new. back-among (written_on nfa.states entry way) (option_to_list (state_writes (state_at nfa.states f.state))) (explicit_start nfa + i)
          (among-option (state_writes (state_at nfa.states f.state)) (explicit_start nfa + i) new))
          ((tells.slots i).0 bit))

      slot-all : (i : ℕ) → Contains (written_on nfa.states entry (way ++ k ∷ [])) (explicit_start nfa + i) → (i < 32) × (bit_at later.slots i ≡ 1)
      slot-all i m =
          ⊎_elim
          (λ old. let h = w.slots.all i old in (h.0, (tells.slots i).1 (inl h.1)))
          (λ new.
          let e = option-among (state_writes (state_at nfa.states f.state)) (explicit_start nfa + i) new in
          (tells.few_slots i e, (tells.slots i).1 (inr e)))
          (either-among (written_on nfa.states entry way) (option_to_list (state_writes (state_at nfa.states f.state))) (explicit_start nfa + i)
          (subst (λ xs. Contains xs (explicit_start nfa + i)) slots-are m))

      look-told : (kind : Look) → bit_at later.looks (look_number kind) ≡ 1 → Contains (asked_on nfa.states entry (way ++ k ∷ [])) kind
      look-told kind bit =
          subst (λ xs. Contains xs kind) (sym looks-are)
          (⊎_elim
          (λ old. front-among (asked_on nfa.states entry way) (option_to_list (state_asks (state_at nfa.states f.state))) kind (w.looks.told kind old))
          (λ new. back-among (asked_on nfa.states entry way) (option_to_list (state_asks (state_at nfa.states f.state))) kind
          (among-option (state_asks (state_at nfa.states f.state)) kind new))
          ((tells.looks kind).0 bit))

      look-all : (kind : Look) → Contains (asked_on nfa.states entry (way ++ k ∷ [])) kind
          → (look_number kind < 10) × (bit_at later.looks (look_number kind) ≡ 1)
      look-all kind m =
          ⊎_elim
          (λ old. let h = w.looks.all kind old in (h.0, (tells.looks kind).1 (inl h.1)))
          (λ new.
          let e = option-among (state_asks (state_at nfa.states f.state)) kind new in
          (tells.few kind e, (tells.looks kind).1 (inr e)))
          (either-among (asked_on nfa.states entry way) (option_to_list (state_asks (state_at nfa.states f.state))) kind
          (subst (λ xs. Contains xs kind) looks-are m))

  -- the walk of no choice
  pub way-first : (f : Frame) → f.state ≡ entry → f.epsilons ≡ record { slots = 0; looks = 0 } → IsWay nfa entry [] f
  way-first f is nothing = record {
    leads = sym is;
    slots = record {
      told = λ i bit. (let none = ap (λ (e : Epsilons). bit_at e.slots i) nothing ∙ bit_at-zero i in absurd (omega arith));
      all = λ i m. absurd (none-among (explicit_start nfa + i) m);
    };
    looks = record {
      told = λ kind bit.
          (let none = ap (λ (e : Epsilons). bit_at e.looks (look_number kind)) nothing ∙ bit_at-zero (look_number kind) in absurd (omega arith));
      all = λ kind m. absurd (none-among kind m);
    };
    small = record {
      slots = (let e = ap (λ (e : Epsilons). e.slots) nothing in omega arith);
      looks = (let e = ap (λ (e : Epsilons). e.looks) nothing in omega arith);
    };
  }

  -- the walks of all that a state goes on to
  pub ways-next : (way : List ℕ) (later : Epsilons) (k : ℕ) (targets : List ℕ) (fs : List Frame) (ways : List (List ℕ))
      → ((j q : ℕ) → j < length targets → get_or targets j q ≡ q → IsWay nfa entry (way ++ (k + j) ∷ []) (frame_at later (get_or targets j q)))
      → AreWays nfa entry fs ways → AreWays nfa entry (map (frame_at later) targets ++ fs) (going_on way k (length targets) ++ ways)
  ways-next way later k [] fs ways each are = are
  ways-next way later k (t ∷ targets) fs ways each are =
      let first : k + 0 ≡ k = omega arith in (
        subst (λ i. IsWay nfa entry (way ++ i ∷ []) (frame_at later t)) first (each 0 t (omega arith) refl),
        ways-next way later (suc k) targets fs ways (others each) are,
      )
    where
      others : ((j q : ℕ) → j < length (t ∷ targets) → get_or (t ∷ targets) j q ≡ q
          → IsWay nfa entry (way ++ (k + j) ∷ []) (frame_at later (get_or (t ∷ targets) j q)))
          → (j q : ℕ) → j < length targets → get_or targets j q ≡ q → IsWay nfa entry (way ++ (suc k + j) ∷ []) (frame_at later (get_or targets j q))
      others each j q lt e =
          let next : k + suc j ≡ suc k + j = omega arith in
          subst (λ i. IsWay nfa entry (way ++ i ∷ []) (frame_at later (get_or targets j q))) next (each (suc j) q (omega arith) e)
