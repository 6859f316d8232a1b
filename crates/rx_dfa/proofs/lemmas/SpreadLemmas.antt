-- What the key of a row leads to, class by class.
use Rattle.std.proofs.Common.{◌≡◌, ℕ, zero, suc, ◌+◌, ◌≤◌, ◌<◌, List, [], ◌∷◌, ◌++◌, length, drop, get_or, refl, sym, ◌∙◌, ap, subst, arith, true≢false}
use Rattle.std.specs.Prelude.{Bool, true, false, ◌==◌, if◌then◌else◌, slice_index, Option, Some, None, nat_lt, nat_le}
use Rattle.std.proofs.lemmas.Bool.{or_parts}
use Rattle.std.proofs.lemmas.Bool.Decides.{nat_tests}
use Rattle.rx_model.specs.Look as model
use Rattle.rx_model.proofs.lemmas.runs.RunLemmas.{by_test}
use Rattle.rx_search.specs.ByteClasses.{AreClasses, AreRepresentatives}
use Rattle.rx_search.proofs.ByteClassLemmas.{classes-rise}
use Rattle.rx_nfa.specs.Automaton.{state_at}
use Rattle.rx_nfa.specs.Ordered.{has, resting, epsilon_successors, close, threads_from, target, targets, with_target}
use Rattle.rx_nfa.specs.declared.state.State.{State}
use Rattle.rx_nfa.specs.declared.state.State.TheVariants.{ByteRange, Sparse, Look, Union, Capture, Fail, Match}
use Rattle.rx_determinize.specs.Key.{Key, is_look, one_asks, none_known, reached, counting, looping, matching, key_over, step_key, end_key}
use Rattle.rx_dfa.specs.Automaton.{Dfa, sight_of, next_key, last_key}
use Rattle.rx_dfa.specs.ClassLists.{IsChain, class_count, AreLists}
use Rattle.rx_dfa.specs.Spread.{arrived_key, IsSpread}
use Rattle.rx_dfa.specs.declared.dense.class_lists.ClassLists.{ClassLists}
use Rattle.rx_dfa.specs.declared.dense.spread.Spread.{Spread}

-- Where no state that was come to asks for look-around, look-around has no part in the closure.

epsilon-same : (holding : model.Look → Bool) (s : State) → is_look s ≡ false → epsilon_successors holding s ≡ epsilon_successors none_known s
epsilon-same holding (ByteRange low high next) h = refl
epsilon-same holding (Sparse transitions) h = refl
epsilon-same holding (Look look next) h = absurd (true≢false h)
epsilon-same holding (Union alternates) h = refl
epsilon-same holding (Capture next pattern slot) h = refl
epsilon-same holding Fail h = refl
epsilon-same holding (Match pattern) h = refl

asks-last : (states : List State) (qs : List ℕ) (q : ℕ) → one_asks states (qs ++ q ∷ []) ≡ false → is_look (state_at states q) ≡ false
asks-last states [] q h = (or_parts (is_look (state_at states q)) false h).0
asks-last states (x ∷ xs) q h = asks-last states xs q (or_parts (is_look (state_at states x)) (one_asks states (xs ++ q ∷ [])) h).1

asks-front : (states : List State) (qs : List ℕ) (q : ℕ) → one_asks states qs ≡ true → one_asks states (qs ++ q ∷ []) ≡ true
asks-front states [] q h = absurd (true≢false (sym h))
asks-front states (x ∷ xs) q h =
    by_test (is_look (state_at states x))
    (λ e. rw e refl)
    (λ e. rw e (asks-front states xs q (rw e at h)))

close-asks : (states : List State) (room : ℕ) (stack seen : List ℕ) → one_asks states seen ≡ true
    → one_asks states (close states none_known room stack seen) ≡ true
unfolding close
close-asks states zero stack seen h = h
close-asks states (suc room) [] seen h = h
close-asks states (suc room) (q ∷ stack) seen h =
    by_test (has seen q)
    (λ e. rw e (close-asks states (suc room) stack seen h))
    (λ e. rw e (close-asks states room (epsilon_successors none_known (state_at states q) ++ stack) (seen ++ q ∷ []) (asks-front states seen q h)))

close-same : (states : List State) (holding : model.Look → Bool) (room : ℕ) (stack seen : List ℕ)
    → one_asks states (close states none_known room stack seen) ≡ false
    → close states holding room stack seen ≡ close states none_known room stack seen
unfolding close
close-same states holding zero stack seen h = refl
close-same states holding (suc room) [] seen h = refl
close-same states holding (suc room) (q ∷ stack) seen h =
    by_test (has seen q)
    (λ e. rw e (close-same states holding (suc room) stack seen (rw e at h)))
    (λ e.
    let goes_on = epsilon_successors none_known (state_at states q) ++ stack in
    let silent : one_asks states (close states none_known room goes_on (seen ++ q ∷ [])) ≡ false = rw e at h in
    let plain : one_asks states (seen ++ q ∷ []) ≡ false =
    by_test (one_asks states (seen ++ q ∷ [])) (λ t. absurd (true≢false (sym (close-asks states room goes_on (seen ++ q ∷ []) t) ∙ silent))) (λ f. f) in
    rw e (ap (λ qs. close states holding room (qs ++ stack) (seen ++ q ∷ [])) (epsilon-same holding (state_at states q) (asks-last states seen q plain))
    ∙ close-same states holding room goes_on (seen ++ q ∷ []) silent))

-- So threads stay in the same states whatever look-around holds.
pub stay-same : (states : List State) (holding : model.Look → Bool) (qs seen threads : List ℕ) → seen ≡ reached states qs → one_asks states seen ≡ false
    → threads ≡ resting states seen → threads ≡ threads_from states holding qs
stay-same states holding qs seen threads is silent rests =
    rests ∙ ap (resting states) is
    ∙ ap (resting states) (sym (close-same states holding (length states) qs [] (ap (one_asks states) (sym is) ∙ silent)))

-- What is reached over a byte leads to the key after it.
pub spread-next : (d : Dfa) (k : Key) (s : Spread) (byte : ℕ) (threads : List ℕ) (loops : Bool) (matches : List ℕ) (before : Option ℕ)
    → (parts : IsSpread d k s) → threads ≡ targets d.nfa.states byte (counting d.kind d.nfa.states parts.threads)
    → loops ≡ looping d.kind d.nfa.states parts.threads k.loops → matches ≡ matching d.kind d.nfa.states parts.threads
    → before ≡ (sight_of d).class byte
    → arrived_key d.kind d.nfa.states d.nfa.start_anchored (record { threads = threads; loops = loops; matches = matches; before = before })
    ≡ next_key d k byte
unfolding step_key
spread-next d k s byte threads loops matches before parts is_threads is_loops is_matches is_before =
    (λ j. arrived_key d.kind d.nfa.states d.nfa.start_anchored
    (record { threads = is_threads j; loops = is_loops j; matches = is_matches j; before = is_before j }))
    ∙ ap (λ (xs : List ℕ). key_over d.kind d.nfa.states d.nfa.start_anchored k.loops byte ((sight_of d).class byte) xs)
    (parts.stay ((sight_of d).holds k.before (Some byte)))

-- At the end of input it tells what matches there.
pub spread-last : (d : Dfa) (k : Key) (s : Spread) → IsSpread d k s
    → record { threads = []; loops = false; matches = s.reached.matches.items; before = None } ≡ last_key d k
unfolding end_key
spread-last d k s is =
    (λ j. record { threads = []; loops = false; matches = is.parts.matches j; before = None })
    ∙ ap (λ (xs : List ℕ). record { threads = []; loops = false; matches = matching d.kind d.nfa.states xs; before = None })
    (is.stay ((sight_of d).holds k.before None))

-- Only the threads of one class changed.
pub spread-kept : (d : Dfa) (k : Key) (old new : Spread) → new.lists ≡ old.lists → new.reached.loops ≡ old.reached.loops
    → new.reached.matches ≡ old.reached.matches → IsSpread d k old → IsSpread d k new
spread-kept d k old new lists loops matches s = record {
  threads = s.threads;
  stay = s.stay;
  below = s.below;
  parts = record {
    lists = subst (λ (l : ClassLists). AreLists l (λ class. targets d.nfa.states (slice_index d.bytes class) (counting d.kind d.nfa.states s.threads)))
        (sym lists) s.parts.lists;
    loops = loops ∙ s.parts.loops;
    matches = ap (λ (m : _). m.items) matches ∙ s.parts.matches;
  };
}

-- Lists of classes, where the states come one after another.

-- lists that are the same class by class
pub lists-same : (l : ClassLists) (one other : ℕ → List ℕ) → ((class : ℕ) → class < class_count l → one class ≡ other class) → AreLists l one → AreLists l other
lists-same l one other same are class lt =
    subst (IsChain l.states.items l.links.items (slice_index l.heads.items class)) (same class lt) (are class lt)

-- the lists of the first classes took a state
abbrev pub taken : State → (bytes : List ℕ) → (n : ℕ) → (ℕ → List ℕ) → ℕ → List ℕ
taken s bytes n lists class = if nat_lt class n then with_target (target s (slice_index bytes class)) (lists class) else lists class

pub taken-first : (s : State) (bytes : List ℕ) (first class : ℕ) (lists : ℕ → List ℕ)
    → ((c : ℕ) → c < first → target s (slice_index bytes c) ≡ None) → lists class ≡ taken s bytes first lists class
taken-first s bytes first class lists none =
    by_test (nat_lt class first)
    (λ e. rw e (let lt : class < first = grind (arith, nat_tests) in ap (λ o. with_target o (lists class)) (sym (none class lt))))
    (λ e. rw e refl)

pub taken-all : (s : State) (bytes : List ℕ) (end class : ℕ) (lists : ℕ → List ℕ) → class < length bytes
    → ((c : ℕ) → end ≤ c → c < length bytes → target s (slice_index bytes c) ≡ None)
    → taken s bytes end lists class ≡ with_target (target s (slice_index bytes class)) (lists class)
taken-all s bytes end class lists inside none =
    by_test (nat_lt class end)
    (λ e. rw e refl)
    (λ e. rw e (let le : end ≤ class = grind (arith, nat_tests) in ap (λ o. with_target o (lists class)) (sym (none class le inside))))

pub taken-put : (s : State) (bytes : List ℕ) (n x class : ℕ) (lists : ℕ → List ℕ) → target s (slice_index bytes n) ≡ Some x
    → (if class == n then x ∷ taken s bytes n lists class else taken s bytes n lists class) ≡ taken s bytes (n + 1) lists class
taken-put s bytes n x class lists is =
    by_test (class == n)
    (λ e.
    let at : class ≡ n = grind (arith, nat_tests) in
    let out : nat_lt class n ≡ false = grind (arith, nat_tests) in
    let more : nat_lt class (n + 1) ≡ true = grind (arith, nat_tests) in
    rw (e, out, more) (ap (λ o. with_target o (lists class)) (sym (ap (λ c. target s (slice_index bytes c)) at ∙ is))))
    (λ e.
    let same : nat_lt class n ≡ nat_lt class (n + 1) = grind (arith, nat_tests) in
    rw e (ap (λ b. if b then with_target (target s (slice_index bytes class)) (lists class) else lists class) same))

pub taken-none : (s : State) (bytes : List ℕ) (n class : ℕ) (lists : ℕ → List ℕ) → target s (slice_index bytes n) ≡ None
    → taken s bytes n lists class ≡ taken s bytes (n + 1) lists class
taken-none s bytes n class lists is =
    by_test (class == n)
    (λ e.
    let at : class ≡ n = grind (arith, nat_tests) in
    let out : nat_lt class n ≡ false = grind (arith, nat_tests) in
    let more : nat_lt class (n + 1) ≡ true = grind (arith, nat_tests) in
    rw (out, more) (ap (λ o. with_target o (lists class)) (sym (ap (λ c. target s (slice_index bytes c)) at ∙ is))))
    (λ e.
    let same : nat_lt class n ≡ nat_lt class (n + 1) = grind (arith, nat_tests) in
    ap (λ b. if b then with_target (target s (slice_index bytes class)) (lists class) else lists class) same)

-- The bytes of a range are those of the classes from that of its first byte to that of its last.

range-none : (low high next byte : ℕ) → (byte < low → target (ByteRange low high next) byte ≡ None) × (high < byte → target (ByteRange low high next) byte ≡ None)
range-none low high next byte = (
  λ lt. by_test (nat_le low byte) (λ e. let le : low ≤ byte = grind (arith, nat_tests) in absurd (omega arith)) (λ e. rw e refl),
  λ lt. by_test (nat_le byte high) (λ e. let le : byte ≤ high = grind (arith, nat_tests) in absurd (omega arith))
      (λ e. by_test (nat_le low byte) (λ f. rw (f, e) refl) (λ f. rw f refl)),
)

module _ (classes bytes : List ℕ) (are : AreClasses classes) (stand : AreRepresentatives classes bytes) (low high next class : ℕ) (inside : class < length bytes)
  where
    abbrev byte : ℕ
    byte = slice_index bytes class

    pub before-range : low < 256 → class < slice_index classes low → target (ByteRange low high next) byte ≡ None
    before-range small lt =
        by_test (nat_lt byte low)
        (λ e. let below : byte < low = grind (arith, nat_tests) in (range-none low high next byte).0 below)
        (λ e.
        let above : low ≤ byte = grind (arith, nat_tests) in
        let top = stand.inside class inside in
        let rise = classes-rise classes are low byte above (omega arith) in
        let own = stand.own class inside in
        absurd (omega arith))

    pub behind-range : high < 256 → slice_index classes high + 1 ≤ class → target (ByteRange low high next) byte ≡ None
    behind-range small le =
        by_test (nat_lt high byte)
        (λ e. let above : high < byte = grind (arith, nat_tests) in (range-none low high next byte).1 above)
        (λ e.
        let below : byte ≤ high = grind (arith, nat_tests) in
        let rise = classes-rise classes are byte high below (omega arith) in
        let own = stand.own class inside in
        absurd (omega arith))

pub class-inside : (classes bytes : List ℕ) → AreClasses classes → AreRepresentatives classes bytes → (byte : ℕ) → byte < 256
    → slice_index classes byte < length bytes
class-inside classes bytes are stand byte lt =
    let rise = classes-rise classes are byte 255 (omega arith) (omega arith) in
    let each = stand.each in
    omega arith

-- from the last state to the first

pub drop-none : (xs : List ℕ) → drop (length xs) xs ≡ []
drop-none [] = refl
drop-none (x ∷ xs) = drop-none xs

pub drop-more : (xs : List ℕ) (k : ℕ) → k < length xs → drop k xs ≡ get_or xs k 0 ∷ drop (k + 1) xs
drop-more [] k lt = absurd (omega arith)
drop-more (x ∷ xs) zero lt = refl
drop-more (x ∷ xs) (suc k) lt =
    let next : suc (k + 1) ≡ suc k + 1 = omega arith in
    drop-more xs k (let e : k < length xs = omega arith in e) ∙ ap (λ n. get_or xs k 0 ∷ drop n (x ∷ xs)) next

pub targets-more : (states : List State) (byte : ℕ) (xs : List ℕ) (k q : ℕ) (s : State) → k < length xs → q ≡ get_or xs k 0 → s ≡ state_at states q
    → with_target (target s byte) (targets states byte (drop (k + 1) xs)) ≡ targets states byte (drop k xs)
targets-more states byte xs k q s lt at is =
    ap (λ (t : State). with_target (target t byte) (targets states byte (drop (k + 1) xs))) (is ∙ ap (state_at states) at)
    ∙ sym (ap (targets states byte) (drop-more xs k lt))
