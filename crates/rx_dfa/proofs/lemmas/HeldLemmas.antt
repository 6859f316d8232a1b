-- The states of a cache by their numbers.
use Rattle.std.proofs.Common.{◌≡◌, ◌≢◌, ℕ, ◌+◌, ◌*◌, ◌%◌, ◌/◌, ◌≤◌, ◌<◌, inl, inr, List, [], length, refl, sym, ◌∙◌, ap, subst, arith, true≢false}
use Rattle.std.proofs.lemmas.Nat.{div-mul-add, mod-mul-add}
use Rattle.std.proofs.lemmas.Option.{slice_get_within}
use Rattle.std.proofs.lemmas.Bool.Decides.{Decides-eqb, nat_tests}
use Rattle.rx_model.proofs.lemmas.runs.RunLemmas.{by_test}
use Rattle.std.specs.Prelude.{Bool, true, false, not, ◌==◌, nat_lt, Option, Some, None, IfSome, slice_get, slice_index, if◌then◌else◌}
use Rattle.rx_search.specs.declared.anchored.MatchKind.{MatchKind}
use Rattle.rx_search.specs.declared.anchored.MatchKind.TheVariants.{All, LeftmostFirst}
use Rattle.rx_nfa.specs.Ordered.{threads_from}
use Rattle.rx_nfa.specs.declared.state.State.{State}
use Rattle.rx_determinize.specs.Key.{Key, is_empty, is_dead, end_key, matching}
use Rattle.rx_determinize.proofs.lemmas.DeadLemmas.{no-thread, threads-nil}
use Rattle.rx_dfa.specs.Automaton.{Dfa, IsReadable, sight_of}
use Rattle.rx_dfa.specs.Lazy.{LazyValue, IsLazySound, StandsFor, IsRowOf, IsNext, row_of, number_of, offsets, dead_state, unknown, key_after, column_of}
use Rattle.rx_dfa.specs.LazyCache.{AreRowsOf}
use Rattle.rx_dfa.specs.declared.lazy.rows.Rows.{Rows}
use Rattle.rx_dfa.proofs.lemmas.CourseLemmas.{dead-threads, dead-loops, dead-matches}
use Rattle.rx_dfa.proofs.lemmas.LazyLemmas.{next-told}
use Rattle.rx_dfa.proofs.lemmas.RowsLemmas.{wide, inside, row-small}

-- Dead keys.

matching-none : (kind : MatchKind) (states : List State) → matching kind states [] ≡ []
matching-none All states = refl
matching-none LeftmostFirst states = refl

pub dead-after : (d : Dfa) (k : Key) → is_dead k ≡ true → (byte : Option ℕ) → is_dead (key_after d k byte) ≡ true
unfolding end_key
dead-after d k dead (Some b) =
    ap is_dead (no-thread d.kind d.nfa.states d.nfa.start_anchored (sight_of d) k (dead-threads k dead) (dead-loops k dead) b)
dead-after d k dead None =
    let sees = (sight_of d).holds k.before None in
    ap (λ qs. is_empty (matching d.kind d.nfa.states (threads_from d.nfa.states sees qs))) (dead-threads k dead)
    ∙ ap (λ qs. is_empty (matching d.kind d.nfa.states qs)) (threads-nil d.nfa.states sees)
    ∙ ap is_empty (matching-none d.kind d.nfa.states)

-- Numbers.

-- the row of a key begins within the numbers of states
pub found-small : (l : LazyValue) → IsLazySound l → (r : Rows) → AreRowsOf l r → (row stride : ℕ) (k : Key) → stride ≡ l.stride
    → slice_get r.keys row ≡ Some k → row * stride < offsets
found-small l sound r h row stride k is got =
    subst (λ n. row * n < offsets) (sym is) (row-small l sound r h row (slice_get_within r.keys row k got))

mod-number : (place : ℕ) (b : Bool) → place < offsets → (place + (if b then 0 else offsets)) % offsets ≡ place
mod-number place true lt = omega arith
mod-number place false lt = omega arith

number-below : (place : ℕ) (b : Bool) → place < offsets → place + (if b then 0 else offsets) < dead_state
number-below place true lt = omega arith
number-below place false lt = omega arith

plain-number : (place : ℕ) (b : Bool) → place + (if b then 0 else offsets) < offsets → b ≡ true
plain-number place true lt = refl
plain-number place false lt = let no : ⊥ = omega arith in absurd no

-- what a state tells by its number alone
pub plain-empty : (stride : ℕ) (keys : List Key) (state : ℕ) (k : Key) → StandsFor stride keys state k → state < offsets
    → (is_empty k.matches ≡ true) × (is_dead k ≡ false)
plain-empty stride keys state k (inl d) low = let is : state ≡ dead_state = d.is in let no : ⊥ = omega arith in absurd no
plain-empty stride keys state k (inr x) low = (plain-number (row_of stride state * stride) (is_empty k.matches) (subst (λ n. n < offsets) x.is low), x.alive)

pub row-not_dead : (stride : ℕ) (keys : List Key) (state : ℕ) (k : Key) → IsRowOf stride keys state k → state < dead_state
row-not_dead stride keys state k x =
    subst (λ n. n < dead_state) (sym x.is) (number-below (row_of stride state * stride) (is_empty k.matches) x.small)

pub held-dead : (stride : ℕ) (keys : List Key) (state : ℕ) (k : Key) → StandsFor stride keys state k → state ≡ dead_state → is_dead k ≡ true
held-dead stride keys state k (inl d) same = d.dead
held-dead stride keys state k (inr x) same = let low : state < dead_state = row-not_dead stride keys state k x in let no : ⊥ = omega arith in absurd no

pub dead-held : (stride : ℕ) (keys : List Key) (state : ℕ) (k : Key) → StandsFor stride keys state k → is_dead k ≡ true → state ≡ dead_state
dead-held stride keys state k (inl d) dead = d.is
dead-held stride keys state k (inr x) dead = absurd (true≢false (sym dead ∙ x.alive))

pub tells-dead : (stride : ℕ) (keys : List Key) (state : ℕ) (k : Key) → StandsFor stride keys state k → (state == dead_state) ≡ is_dead k
tells-dead stride keys state k h =
    by_test (is_dead k)
    (λ e. (Decides-eqb state dead_state).1 (dead-held stride keys state k h e) ∙ sym e)
    (λ e. by_test (state == dead_state)
    (λ t. absurd (true≢false (sym (held-dead stride keys state k h ((Decides-eqb state dead_state).0 t)) ∙ e)))
    (λ t. t ∙ sym e))

high-number : (place : ℕ) (b : Bool) → place < offsets → offsets ≤ place + (if b then 0 else offsets) → b ≡ false
high-number place true lt high = let no : ⊥ = omega arith in absurd no
high-number place false lt high = refl

-- a state that is not plain tells a match, unless it is dead
pub tells-match : (stride : ℕ) (keys : List Key) (state : ℕ) (k : Key) → StandsFor stride keys state k → offsets ≤ state
    → not (state == dead_state) ≡ not (is_empty k.matches)
tells-match stride keys state k (inl d) high =
    ap not ((Decides-eqb state dead_state).1 d.is) ∙ sym (ap (λ ms. not (is_empty ms)) (dead-matches k d.dead))
tells-match stride keys state k (inr x) high =
    let some : is_empty k.matches ≡ false = high-number (row_of stride state * stride) (is_empty k.matches) x.small (subst (λ n. offsets ≤ n) x.is high) in
    ap not (tells-dead stride keys state k (inr x) ∙ x.alive ∙ sym some)

-- the row of a state, where it is not dead
pub held-row : (stride : ℕ) (keys : List Key) (state : ℕ) (k : Key) → StandsFor stride keys state k → state ≢ dead_state
    → (slice_get keys (row_of stride state) ≡ Some k) × (is_dead k ≡ false) × (state % offsets ≡ row_of stride state * stride)
held-row stride keys state k (inl d) apart = absurd (apart d.is)
held-row stride keys state k (inr x) apart =
    (x.key, x.alive, ap (λ n. n % offsets) x.is ∙ mod-number (row_of stride state * stride) (is_empty k.matches) x.small)

-- the state of a row
pub stands-row : (stride : ℕ) → 0 < stride → (keys : List Key) (row : ℕ) (k : Key) → is_dead k ≡ false → slice_get keys row ≡ Some k
    → row * stride < offsets → (state : ℕ) → state ≡ number_of stride row k → StandsFor stride keys state k
stands-row stride some keys row k alive key small state is =
    let place : state % offsets ≡ row * stride = ap (λ n. n % offsets) is ∙ mod-number (row * stride) (is_empty k.matches) small in
    let same : row ≡ row_of stride state = sym (ap (λ n. n / stride) place ∙ whole) in
    inr (record {
      alive = alive;
      key = subst (λ n. slice_get keys n ≡ Some k) same key;
      small = subst (λ n. n * stride < offsets) same small;
      is = is ∙ ap (λ n. number_of stride n k) same;
    })
  where
    whole : row * stride / stride ≡ row
    whole = let plus : row * stride ≡ row * stride + 0 = omega arith in ap (λ n. n / stride) plus ∙ div-mul-add row stride 0 some

pub column-within : (l : LazyValue) → IsLazySound l → (byte : Option ℕ) → IfSome byte (λ b. b < 256) → column_of l.dfa byte < l.stride
column-within l sound None small = let each : length l.dfa.bytes ≡ slice_index l.dfa.classes 255 + 1 = sound.dfa.serve.stand.each in omega (arith, sound.wide)
column-within l sound (Some b) small =
    let each : length l.dfa.bytes ≡ slice_index l.dfa.classes 255 + 1 = sound.dfa.serve.stand.each in
    omega (arith, sound.wide, sound.dfa.serve.in_order b small)

-- what a known cell tells
pub cell-told : (l : LazyValue) (r : Rows) → AreRowsOf l r → (row : ℕ) (k : Key) → slice_get r.keys row ≡ Some k → (byte : Option ℕ)
    → IfSome byte (λ b. b < 256)
    → column_of l.dfa byte < l.stride → (next : ℕ) → slice_get r.cells.items (row * l.stride + column_of l.dfa byte) ≡ Some next → next ≢ unknown
    → StandsFor l.stride r.keys next (key_after l.dfa k byte) × IsReadable l.dfa.nfa byte
cell-told l r h row k key byte small narrow next got known =
    let column = column_of l.dfa byte in
    let on_row : (row * l.stride + column) / l.stride ≡ row = div-mul-add row l.stride column narrow in
    let in_column : (row * l.stride + column) % l.stride ≡ column = mod-mul-add row l.stride column narrow in
    next-told l r.keys k byte small next
    (subst (λ c. IsNext l r.keys k c next) in_column
    (h.cells (row * l.stride + column) next k got known (ap (slice_get r.keys) on_row ∙ key)))

-- Tests of numbers.

pub alive-apart : (state : ℕ) → (state == dead_state) ≡ false → state ≢ dead_state
alive-apart state h e = true≢false (sym ((Decides-eqb state dead_state).1 e) ∙ h)

pub plain-apart : (state : ℕ) → nat_lt state offsets ≡ true → (state ≢ dead_state) × (state ≡ state % offsets)
plain-apart state h = let low : state < offsets = grind (arith, nat_tests) in (λ e. let no : ⊥ = omega arith in no, omega arith)

pub plain-known : (state : ℕ) → nat_lt state offsets ≡ true → state ≢ unknown
plain-known state h e = let low : state < offsets = grind (arith, nat_tests) in let no : ⊥ = omega arith in no

pub asked-known : (state : ℕ) → not (state == unknown) ≡ true → state ≢ unknown
asked-known state h e = true≢false (sym h ∙ ap not ((Decides-eqb state unknown).1 e))

-- The cell of a state, which is not dead, in the column of a byte or of the end of input. Where it is known, it tells the state after it.
pub cell-of : (l : LazyValue) → IsLazySound l → (r : Rows) → AreRowsOf l r → (state : ℕ) (k : Key) → StandsFor l.stride r.keys state k
    → state ≢ dead_state → (byte : Option ℕ) → IfSome byte (λ b. b < 256) → (column : ℕ) → column ≡ column_of l.dfa byte → column < l.stride
    → (place : ℕ) → place ≡ state % offsets → (place + column < length r.cells.items)
    × ((known : ℕ) → slice_get r.cells.items (place + column) ≡ Some known → known ≢ unknown
    → StandsFor l.stride r.keys known (key_after l.dfa k byte) × IsReadable l.dfa.nfa byte)
cell-of l sound r h state k stands apart byte small column at narrow place is =
    let held = held-row l.stride r.keys state k stands apart in
    let row = row_of l.stride state in
    let below : row < length r.keys = slice_get_within r.keys row k held.0 in
    let begins : place ≡ row * l.stride = is ∙ held.2 in
    let index : place + column ≡ row * l.stride + column_of l.dfa byte = (λ j. begins j + at j) in (
      subst (λ n. n + column < length r.cells.items) (sym begins) (inside (length r.keys) l.stride row column (length r.cells.items) h.len below narrow),
      λ known got asked. cell-told l r h row k held.0 byte small (subst (λ n. n < l.stride) at narrow) known (ap (slice_get r.cells.items) (sym index) ∙ got)
          asked,
    )

-- a state whose row is there still stands for its key
pub stands-still : (l : LazyValue) → IsLazySound l → (r : Rows) → AreRowsOf l r → (row : ℕ) (k : Key) → slice_get r.keys row ≡ Some k
    → (number : ℕ) × StandsFor l.stride r.keys number k
stands-still l sound r h row k got = (
  number_of l.stride row k,
  stands-row l.stride (wide l sound) r.keys row k (h.keys row k got).alive got (row-small l sound r h row (slice_get_within r.keys row k got))
      (number_of l.stride row k) refl,
)
