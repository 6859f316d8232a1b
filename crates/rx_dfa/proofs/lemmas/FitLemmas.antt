-- A cleared cache has room for two states.
use Rattle.std.proofs.Common.{◌≡◌, ℕ, ◌+◌, ◌≤◌, ◌<◌, List, [], ◌∷◌, length, sym, ◌∙◌, ap, subst, arith, true≢false}
use Rattle.std.proofs.Math.Dec.{eqb}
use Rattle.std.proofs.lemmas.Bool.{or_parts}
use Rattle.std.proofs.lemmas.Bool.Decides.{Decides-eqb}
use Rattle.std.proofs.lemmas.List.Elements.{All-head, All-tail}
use Rattle.std.proofs.lemmas.List.Sums.{sum_by_push}
use Rattle.std.proofs.lemmas.Map.Steps.{length-le_from_distinct_below}
use Rattle.std.specs.List.{IsDistinct, AllByRecursion, list_any}
use Rattle.std.specs.Prelude.{Bool, true, false, ◌||◌, ◌==◌, All, if◌then◌else◌}
use Rattle.rx_model.proofs.lemmas.runs.RunLemmas.{by_test}
use Rattle.rx_nfa.specs.Ordered.{has}
use Rattle.rx_determinize.specs.Key.{Key, AreOnce}
use Rattle.rx_dfa.specs.Lazy.{LazyValue, IsLazySound, state_size, accounted}
use Rattle.rx_dfa.specs.LazyCache.{AreRowsOf}
use Rattle.rx_dfa.specs.declared.lazy.rows.Rows.{Rows}

-- No more states than there are stand on a list without repetition.

apart-each : (q : ℕ) (xs : List ℕ) → has xs q ≡ false → AllByRecursion (λ x. eqb q x ≡ false) xs
apart-each q [] h = tt
apart-each q (x ∷ xs) h =
    let parts = or_parts (x == q) (has xs q) h in
    let apart : (q == x) ≡ false =
    by_test (q == x) (λ e. absurd (true≢false (sym ((Decides-eqb x q).1 (sym ((Decides-eqb q x).0 e))) ∙ parts.0))) (λ e. e) in
    (apart, apart-each q xs parts.1)

once-distinct : (xs : List ℕ) → AreOnce xs → IsDistinct eqb xs
unfolding IsDistinct
once-distinct [] once = tt
once-distinct (x ∷ xs) once = (apart-each x xs once.0, once-distinct xs once.1)

below-any : (n : ℕ) (xs : List ℕ) → All (λ q. q < n) xs → (q : ℕ) → list_any (eqb q) xs ≡ true → q < n
below-any n [] below q h = absurd (true≢false (sym h))
below-any n (x ∷ xs) below q h =
    by_test (eqb q x)
    (λ e. subst (λ m. m < n) (sym ((Decides-eqb q x).0 e)) (All-head (λ m. m < n) x xs below))
    (λ e. below-any n xs (All-tail (λ m. m < n) x xs below) q (rest e))
  where
    rest : eqb q x ≡ false → list_any (eqb q) xs ≡ true
    rest e = sym (ap (λ b. b || list_any (eqb q) xs) e) ∙ h

pub once-within : (n : ℕ) (xs : List ℕ) → AreOnce xs → All (λ q. q < n) xs → length xs ≤ n
once-within n xs once below = length-le_from_distinct_below xs n (once-distinct xs once) (below-any n xs below)

-- Sizes.

flag-small : (b : Bool) → (if b then 1 else 0) ≤ 1
flag-small true = omega arith
flag-small false = omega arith

fits-two : (l : LazyValue) → IsLazySound l → (a b : Key) → length a.threads ≤ length l.dfa.nfa.states → length b.threads ≤ length l.dfa.nfa.states
    → state_size l.stride a + state_size l.stride b ≤ l.capacity
fits-two l sound a b few others =
    let one = flag-small a.loops in
    let two = flag-small b.loops in
    omega (arith, sound.narrow, sound.room, sound.few)

-- where there is no state, each one has room
pub room-first : (l : LazyValue) → IsLazySound l → (r : Rows) → AreRowsOf l r → r.keys ≡ [] → (k : Key) → length k.threads ≤ length l.dfa.nfa.states
    → r.size + state_size l.stride k ≤ l.capacity
room-first l sound r h keys k few =
    let size : r.size ≡ 0 = h.size ∙ ap (accounted l.stride) keys in
    let both = fits-two l sound k k few few in
    omega arith

-- and where there is one, another one has room too
pub room-second : (l : LazyValue) → IsLazySound l → (r : Rows) → AreRowsOf l r → (a : Key) → r.keys ≡ a ∷ [] → length a.threads ≤ length l.dfa.nfa.states
    → (k : Key) → length k.threads ≤ length l.dfa.nfa.states → r.size + state_size l.stride k ≤ l.capacity
room-second l sound r h a keys few k others =
    let size : r.size ≡ 0 + state_size l.stride a = h.size ∙ ap (accounted l.stride) keys ∙ sum_by_push (state_size l.stride) [] a in
    let both = fits-two l sound a k few others in
    omega arith
