-- Epsilon walks: one that goes on, two that differ, and what a state does without a byte.
use Rattle.std.proofs.Common.{◌≡◌, ◌⊎◌, ℕ, zero, suc, ◌<◌, List, [], ◌∷◌, ◌++◌, length, refl, sym, ◌∙◌, ap, subst, inl, inr, ⊎_elim, arith, true≢false}
use Rattle.std.specs.Prelude.{Bool, true, false, Some, None, Contains, option_to_list, if◌then◌else◌}
use Rattle.rx_model.specs.Look as model
use Rattle.rx_model.proofs.lemmas.runs.RunLemmas.{by_test}
use Rattle.rx_model.proofs.lemmas.runs.MemberLemmas.{none-among, only-among}
use Rattle.rx_search.specs.Look.{kind_of}
use Rattle.rx_nfa.specs.Automaton.{state_at, state_accepts}
use Rattle.rx_nfa.specs.Ordered.{is_resting, epsilon_successors, target}
use Rattle.rx_nfa.specs.declared.state.State.{State}
use Rattle.rx_nfa.specs.declared.state.State.TheVariants.{ByteRange, Sparse, Look, Union, Capture, Fail, Match}
use Rattle.rx_nfa.specs.Walks.{epsilon_targets, state_asks, chosen, WalksTo, IsPreferred}

-- one choice more
pub walks-on : (states : List State) (q : ℕ) (ks : List ℕ) (r k : ℕ) → WalksTo states q ks r → k < length (epsilon_targets (state_at states r))
    → WalksTo states q (ks ++ k ∷ []) (chosen states r k)
walks-on states q [] r k e lt =
    subst (λ x. WalksTo states x (k ∷ []) (chosen states r k)) (sym e) (lt, refl)
walks-on states q (j ∷ ks) r k w lt = (w.0, walks-on states (chosen states q j) ks r k w.1 lt)

-- two choices of which one comes first
pub by_order : {P : Type 0} (j k : ℕ) → (j < k → P) → (j ≡ k → P) → (k < j → P) → P
by_order zero zero less same more = same refl
by_order zero (suc k) less same more = less (omega arith)
by_order (suc j) zero less same more = more (omega arith)
by_order (suc j) (suc k) less same more = by_order j k (λ h. less (omega arith)) (λ h. same (ap suc h)) (λ h. more (omega arith))

-- of two walks to states that go on to none, one is preferred, or they are one walk
pub one-preferred : (states : List State) (q : ℕ) (js ks : List ℕ) (r s : ℕ) → WalksTo states q js r → WalksTo states q ks s
    → epsilon_targets (state_at states r) ≡ [] → epsilon_targets (state_at states s) ≡ []
    → ((js ≡ ks) × (r ≡ s)) ⊎ (IsPreferred js ks ⊎ IsPreferred ks js)
one-preferred states q [] [] r s w v ends ends' = inl (refl, sym w ∙ v)
one-preferred states q [] (k ∷ ks) r s w v ends ends' =
    let none : length (epsilon_targets (state_at states q)) ≡ 0 = ap (λ x. length (epsilon_targets (state_at states x))) w ∙ ap length ends in
    let lt = v.0 in absurd (omega arith)
one-preferred states q (j ∷ js) [] r s w v ends ends' =
    let none : length (epsilon_targets (state_at states q)) ≡ 0 = ap (λ x. length (epsilon_targets (state_at states x))) v ∙ ap length ends' in
    let lt = w.0 in absurd (omega arith)
one-preferred states q (j ∷ js) (k ∷ ks) r s w v ends ends' =
    by_order j k
    (λ h. inr (inl (inl h)))
    (λ h.
    ⊎_elim
    (λ one. inl (ap (λ x. x ∷ js) h ∙ ap (λ xs. k ∷ xs) one.0, one.1))
    (λ apart. inr (⊎_elim (λ p. inl (inr (h, p))) (λ p. inr (inr (sym h, p))) apart))
    (one-preferred states (chosen states q j) js ks r s w.1 (subst (λ x. WalksTo states (chosen states q x) ks s) (sym h) v.1) ends ends'))
    (λ h. inr (inr (inl h)))

-- What a state that does not rest goes on to at a place: all its targets, where what it asks for holds, and else none.
pub record Moves (holding : model.Look → Bool) (s : State) : Type 0 where
  pub goes : epsilon_successors holding s ≡ epsilon_targets s
  pub holds : (kind : model.Look) → Contains (option_to_list (state_asks s)) kind → holding kind ≡ true

pub record Stays (holding : model.Look → Bool) (s : State) : Type 0 where
  pub stays : epsilon_successors holding s ≡ []
  pub kind : model.Look
  pub asks : state_asks s ≡ Some kind
  pub fails : holding kind ≡ false

pub moves-or-stays : (holding : model.Look → Bool) (s : State) → Moves holding s ⊎ Stays holding s
moves-or-stays holding (ByteRange low high next) = inl (record { goes = refl; holds = λ kind m. absurd (none-among kind m) })
moves-or-stays holding (Sparse transitions) = inl (record { goes = refl; holds = λ kind m. absurd (none-among kind m) })
moves-or-stays holding (Look look next) =
    by_test (holding (kind_of look))
    (λ e. inl (record {
      goes = ap (λ b. if b then next ∷ [] else []) e;
      holds = λ kind m. ap holding (sym (only-among (kind_of look) kind m)) ∙ e;
    }))
    (λ e. inr (record { stays = ap (λ b. if b then next ∷ [] else []) e; kind = kind_of look; asks = refl; fails = e }))
moves-or-stays holding (Union alternates) = inl (record { goes = refl; holds = λ kind m. absurd (none-among kind m) })
moves-or-stays holding (Capture next pattern slot) = inl (record { goes = refl; holds = λ kind m. absurd (none-among kind m) })
moves-or-stays holding Fail = inl (record { goes = refl; holds = λ kind m. absurd (none-among kind m) })
moves-or-stays holding (Match pattern) = inl (record { goes = refl; holds = λ kind m. absurd (none-among kind m) })

-- a state that does not rest accepts nothing
pub moving-accepts_nothing : (s : State) → is_resting s ≡ false → state_accepts s ≡ None
moving-accepts_nothing (ByteRange low high next) h = refl
moving-accepts_nothing (Sparse transitions) h = refl
moving-accepts_nothing (Look look next) h = refl
moving-accepts_nothing (Union alternates) h = refl
moving-accepts_nothing (Capture next pattern slot) h = refl
moving-accepts_nothing Fail h = refl
moving-accepts_nothing (Match pattern) h = absurd (true≢false h)

-- one that accepts rests, and so does one that reads
pub accepting-rests : (s : State) (p : ℕ) → state_accepts s ≡ Some p → is_resting s ≡ true
accepting-rests (ByteRange low high next) p h = refl
accepting-rests (Sparse transitions) p h = refl
accepting-rests (Look look next) p h = cc
accepting-rests (Union alternates) p h = cc
accepting-rests (Capture next pattern slot) p h = cc
accepting-rests Fail p h = cc
accepting-rests (Match pattern) p h = refl

pub reading-rests : (s : State) (byte next : ℕ) → target s byte ≡ Some next → is_resting s ≡ true
reading-rests (ByteRange low high to) byte next h = refl
reading-rests (Sparse transitions) byte next h = refl
reading-rests (Look look to) byte next h = cc
reading-rests (Union alternates) byte next h = cc
reading-rests (Capture to pattern slot) byte next h = cc
reading-rests Fail byte next h = cc
reading-rests (Match pattern) byte next h = refl

-- one that accepts reads no byte
pub accepting-reads_nothing : (s : State) (p byte next : ℕ) → state_accepts s ≡ Some p → target s byte ≡ Some next → ⊥
accepting-reads_nothing (ByteRange low high to) p byte next h k = cc
accepting-reads_nothing (Sparse transitions) p byte next h k = cc
accepting-reads_nothing (Look look to) p byte next h k = cc
accepting-reads_nothing (Union alternates) p byte next h k = cc
accepting-reads_nothing (Capture to pattern slot) p byte next h k = cc
accepting-reads_nothing Fail p byte next h k = cc
accepting-reads_nothing (Match pattern) p byte next h k = cc
