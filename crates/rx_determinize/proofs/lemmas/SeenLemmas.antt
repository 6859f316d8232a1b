-- What the sight tells as long as the keys live.
use Rattle.std.proofs.Common.{◌≡◌, ℕ, zero, suc, ◌+◌, ◌-◌, ◌≤◌, ◌<◌, List, [], ◌∷◌, refl, sym, ◌∙◌, ap, subst, arith, true≢false}
use Rattle.std.specs.Prelude.{Bool, true, false, Option, is_some, nat_lt}
use Rattle.std.proofs.lemmas.Bool.Decides.{nat_tests}
use Rattle.rx_model.proofs.lemmas.runs.RunLemmas.{by_test}
use Rattle.rx_search.specs.declared.anchored.MatchKind.{MatchKind}
use Rattle.rx_search.specs.declared.anchored.MatchKind.TheVariants.{All, LeftmostFirst}
use Rattle.rx_nfa.specs.Automaton.{Surroundings, byte_within}
use Rattle.rx_nfa.specs.Ordered.{HoldsAt}
use Rattle.rx_nfa.specs.declared.state.State.{State}
use Rattle.rx_determinize.specs.Key.{Sight, Sees, Key, accepts_in, settled, start_key, step_key}
use Rattle.rx_determinize.specs.Span.{key_at, IsAlive}
use Rattle.rx_determinize.proofs.lemmas.DeadLemmas.{no-thread}

some-there : (x : ℕ) (xs : List ℕ) → ◌≡◌ {A = List ℕ} (x ∷ xs) [] → ⊥
some-there x xs e = true≢false (ap is_there e)
  where
    is_there : List ℕ → Bool
    is_there [] = false
    is_there (y ∷ ys) = true

module _ (states : List State) where
  -- the key of these threads lives, or there are none
  pub alive-or-none : {P : Type 0} (qs : List ℕ) (loops : Bool) (matches : List ℕ) (before : Option ℕ)
      → (IsAlive (settled LeftmostFirst states qs loops matches before) → P) → (qs ≡ [] → loops ≡ false → P) → P
  alive-or-none [] true matches before alive none = alive (λ threads loops. true≢false loops)
  alive-or-none [] false matches before alive none = none refl refl
  alive-or-none (q ∷ qs) loops matches before alive none =
      alive (λ threads over. by_test (is_some (accepts_in states q)) (λ e. some-there q [] (rw e at threads)) (λ e. some-there q _ (rw e at threads)))

  -- the same under `All`
  pub all-alive-or-none : {P : Type 0} (qs : List ℕ) (loops : Bool) (matches : List ℕ) (before : Option ℕ)
      → (IsAlive (settled All states qs loops matches before) → P) → (qs ≡ [] → loops ≡ false → P) → P
  all-alive-or-none [] true matches before alive none = alive (λ threads loops. true≢false loops)
  all-alive-or-none [] false matches before alive none = none refl refl
  all-alive-or-none (q ∷ qs) loops matches before alive none = alive (λ threads over. some-there q qs threads)

module _ (kind : MatchKind) (around : Surroundings) (size : ℕ) (states : List State) (start : ℕ) (sight : Sight) where
  abbrev along : (n i : ℕ) → Key → Key
  along n i k = key_at kind states start sight around n i k

  abbrev after : Key → (i : ℕ) → Key
  after k i = step_key kind states start sight k (around.byte i)

  abbrev told : Option ℕ → (i : ℕ) → Type 0
  told before i = HoldsAt around states (sight.holds before (byte_within around.byte size i)) i

  -- the keys from this one on are seen, as long as they live
  abbrev pub SeesFrom : (end i : ℕ) → Key → Type 0
  SeesFrom end i k = (j : ℕ) → i ≤ j → j ≤ end → IsAlive (key_at kind states start sight around (j - i) i k)
      → HoldsAt around states (sight.holds (key_at kind states start sight around (j - i) i k).before (byte_within around.byte size j)) j

  pub sees-here : (end i : ℕ) → i ≤ end → (k : Key) → SeesFrom end i k → IsAlive k
      → HoldsAt around states (sight.holds k.before (byte_within around.byte size i)) i
  unfolding key_at
  sees-here end i le k sees alive =
      let none : i - i ≡ 0 = omega arith in
      let at_start : along (i - i) i k ≡ k = ap (λ n. along n i k) none in
      subst (λ x. told x.before i) at_start (sees i (omega arith) le (subst IsAlive (sym at_start) alive))

  pub sees-next : (end i : ℕ) (k : Key) → SeesFrom end i k → SeesFrom end (i + 1) (step_key kind states start sight k (around.byte i))
  unfolding key_at
  sees-next end i k sees j low high alive =
      let count : j - i ≡ suc (j - (i + 1)) = omega arith in
      let same : along (j - i) i k ≡ along (j - (i + 1)) (i + 1) (after k i) = ap (λ n. along n i k) count in
      subst (λ x. told x.before j) same (sees j (omega arith) high (subst IsAlive (sym same) alive))

  -- what is kept of the last byte
  before-at : (n i : ℕ) (k : Key) → (key_at kind states start sight around (suc n) i k).before ≡ sight.class (around.byte (i + n))
  unfolding key_at step_key
  before-at zero i k = let place : i ≡ i + 0 = omega arith in ap (λ j. sight.class (around.byte j)) place
  before-at (suc n) i k =
      let place : i + 1 + n ≡ i + suc n = omega arith in
      before-at n (i + 1) (after k i) ∙ ap (λ j. sight.class (around.byte j)) place

  -- Where the sight tells of each place, it does while the keys live.
  pub seen-at : (end a : ℕ) (k : Key) → Sees sight around size states k.before end a → (n : ℕ) → a + n ≤ end
      → HoldsAt around states (sight.holds (key_at kind states start sight around n a k).before (byte_within around.byte size (a + n))) (a + n)
  unfolding key_at
  seen-at end a k sees zero le = let place : a + 0 ≡ a = omega arith in subst (λ j. told k.before j) (sym place) sees.begins
  seen-at end a k sees (suc n) le =
      let place : a + suc n ≡ a + n + 1 = omega arith in
      subst (λ o. told o (a + suc n)) (sym (before-at n a k))
      (subst (λ j. told (sight.class (around.byte (a + n))) j) (sym place) (sees.goes_on (a + n) (omega arith) (omega arith)))

  pub seen-all : (end a : ℕ) (k : Key) → Sees sight around size states k.before end a → SeesFrom end a k
  seen-all end a k sees j low high alive =
      let place : a + (j - a) ≡ j = omega arith in
      subst (λ x. told (along (j - a) a k).before x) place (seen-at end a k sees (j - a) (omega arith))

  pub seen-start : (end a : ℕ) (before : Option ℕ) (loops : Bool) → Sees sight around size states before end a
      → SeesFrom end a (start_key kind states start loops before)
  unfolding start_key
  seen-start end a before loops sees = seen-all end a (start_key kind states start loops before) sees

  -- the keys behind the first m bytes
  pub key_at-add : (m n i : ℕ) (k : Key) → key_at kind states start sight around (m + n) i k
      ≡ key_at kind states start sight around n (i + m) (key_at kind states start sight around m i k)
  unfolding key_at
  key_at-add zero n i k =
      let count : 0 + n ≡ n = omega arith in
      let place : i ≡ i + 0 = omega arith in
      (λ j. along (count j) (place j) k)
  key_at-add (suc m) n i k =
      let count : suc m + n ≡ suc (m + n) = omega arith in
      let place : i + 1 + m ≡ i + suc m = omega arith in
      ap (λ c. along c i k) count ∙ key_at-add m n (i + 1) (after k i) ∙ ap (λ p. along n p (along m (i + 1) (after k i))) place

  -- a key without a thread and without the loop stays so
  pub stays-dead : (n i : ℕ) (k : Key) → k.threads ≡ [] → k.loops ≡ false
      → ((key_at kind states start sight around n i k).threads ≡ []) × ((key_at kind states start sight around n i k).loops ≡ false)
  unfolding key_at
  stays-dead zero i k none over = (none, over)
  stays-dead (suc n) i k none over =
      let next = no-thread kind states start sight k none over (around.byte i) in
      stays-dead n (i + 1) (after k i) (ap (λ (x : Key). x.threads) next) (ap (λ (x : Key). x.loops) next)

  -- Where the key is dead at place d, it is enough to see the places before.
  pub seen-until : (end a d : ℕ) (k : Key) → a ≤ d → (key_at kind states start sight around (d - a) a k).threads ≡ []
      → (key_at kind states start sight around (d - a) a k).loops ≡ false
      → ((j : ℕ) → a ≤ j → j < d → HoldsAt around states (sight.holds (key_at kind states start sight around (j - a) a k).before
      (byte_within around.byte size j)) j)
      → SeesFrom end a k
  seen-until end a d k le none over seen j low high alive =
      by_test (nat_lt j d)
      (λ e. seen j low (grind (arith, nat_tests)))
      (λ e.
      let past : d ≤ j = grind (arith, nat_tests) in
      let count : j - a ≡ (d - a) + (j - d) = omega arith in
      let same : along (j - a) a k ≡ along (j - d) (a + (d - a)) (along (d - a) a k) = ap (λ c. along c a k) count ∙ key_at-add (d - a) (j - d) a k in
      let dead = stays-dead (j - d) (a + (d - a)) (along (d - a) a k) none over in
      absurd (alive (ap (λ (x : Key). x.threads) same ∙ dead.0) (ap (λ (x : Key). x.loops) same ∙ dead.1)))
