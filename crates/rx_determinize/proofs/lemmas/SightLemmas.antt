-- The sight of a DFA by classes tells of look-around, and bytes of one class give one key.
use Rattle.std.proofs.Common.{◌≡◌, ℕ, zero, suc, ◌+◌, ◌-◌, ◌≤◌, ◌<◌, List, [], ◌∷◌, ◌++◌, length, refl, sym, ◌∙◌, ap, subst, arith, true≢false}
use Rattle.std.specs.Prelude.{Bool, true, false, ◌==◌, Option, Some, None, IfSome, IsTrue, nat_lt, if◌then◌else◌, slice_get, slice_index}
use Rattle.std.proofs.lemmas.Bool.Decides.{nat_tests, Decides-eqb}
use Rattle.std.proofs.lemmas.List.Folds.{list_any_at}
use Rattle.std.proofs.lemmas.List.{get_or_past}
use Rattle.std.proofs.lemmas.List.Elements.{All-get_or}
use Rattle.std.proofs.lemmas.Option.{slice_get-get_or, slice_get_past}
use Rattle.rx_model.specs.Look as model
use Rattle.rx_model.specs.Look.{holds, byte_before, byte_after, look_number}
use Rattle.rx_model.specs.Beside.{is_unicode_word, IsAsciiOrNone, IsTold, BothOrNone}
use Rattle.rx_model.proofs.lemmas.runs.RunLemmas.{by_test}
use Rattle.rx_model.proofs.lemmas.runs.FirstLemmas.{none-is-some, some-is}
use Rattle.rx_search.specs.Look.{kind_of, is_same_kind}
use Rattle.rx_search.specs.declared.look.Look.{Look as LookKind}
use Rattle.rx_search.specs.declared.anchored.MatchKind.{MatchKind}
use Rattle.rx_search.specs.LookSet.{has as has_look}
use Rattle.rx_nfa.specs.Automaton.{forwards, backwards, byte_of, byte_within, state_at, asks_for}
use Rattle.rx_nfa.specs.ByteClasses.{AreOfOneClass}
use Rattle.rx_nfa.specs.Nfa.{Nfa, IsInRange}
use Rattle.rx_nfa.specs.Ordered.{has, epsilon_successors, close, threads_from, resting, target, with_target, targets, begun}
use Rattle.rx_nfa.specs.Row.{reading}
use Rattle.rx_nfa.specs.declared.state.State.{State}
use Rattle.rx_nfa.specs.declared.state.State.TheVariants.{ByteRange, Sparse, Look, Union, Capture, Fail, Match}
use Rattle.rx_nfa.proofs.lemmas.classes.ApartLemmas.{one-class-routes, beside-classes}
use Rattle.rx_determinize.specs.Key.{Sees, Key, arrived, counting, looping, matching, settled, key_over, step_key}
use Rattle.rx_determinize.specs.Sight.{text_of, holds_between, class_kept, class_beside, class_sight, AreClassesFor, AreTold, AreBytes}

-- The two bytes as a text.

before-mini : (before after : Option ℕ) → byte_before (text_of before ++ text_of after) (length (text_of before)) ≡ before
before-mini None after = refl
before-mini (Some b) None = refl
before-mini (Some b) (Some c) = refl

after-mini : (before after : Option ℕ) → byte_after (text_of before ++ text_of after) (length (text_of before)) ≡ after
after-mini None None = refl
after-mini None (Some c) = refl
after-mini (Some b) None = refl
after-mini (Some b) (Some c) = refl

mini-within : (before after : Option ℕ) → length (text_of before) ≤ length (text_of before ++ text_of after)
mini-within None None = omega arith
mini-within None (Some c) = omega arith
mini-within (Some b) None = omega arith
mini-within (Some b) (Some c) = omega arith

module _ (nfa : Nfa) (range : IsInRange nfa) where
  abbrev OneClass : Option ℕ → Option ℕ → Type 0
  OneClass o p = BothOrNone (AreOfOneClass nfa.classes) o p

  same-class : (o : Option ℕ) → ((b : ℕ) → o ≡ Some b → b < 256) → OneClass o o
  same-class None small = tt
  same-class (Some b) small = record { first = small b refl; second = small b refl; same = refl }

  -- Two bytes that are of the classes of those beside a place tell what holds there.
  between-holds : (text : List ℕ) (i : ℕ) → i ≤ length text → (kind : model.Look) → has_look nfa.looks kind ≡ true → (before after : Option ℕ)
      → OneClass (byte_before text i) before → OneClass (byte_after text i) after → IsTold kind (byte_before text i) (byte_after text i)
      → holds_between nfa.terminator before after kind ≡ holds nfa.terminator text kind i
  between-holds text i within kind asked before after at_before at_after told =
      sym (beside-classes nfa range text (text_of before ++ text_of after) kind i (length (text_of before)) within (mini-within before after) asked
      (subst (OneClass (byte_before text i)) (sym (before-mini before after)) at_before)
      (subst (OneClass (byte_after text i)) (sym (after-mini before after)) at_after)
      told)

  -- a kind that a state asks for is one of the NFA's
  asked-kind : (q next : ℕ) (look : LookKind) → state_at nfa.states q ≡ Look look next → has_look nfa.looks (kind_of look) ≡ true
  asked-kind q next look is =
      by_test (nat_lt q (length nfa.states))
      (λ e.
      range.looks (kind_of look)
      ∙ list_any_at (asks_for (kind_of look)) nfa.states q Fail (grind (arith, nat_tests)) (ap (asks_for (kind_of look)) is ∙ same-kind look))
      (λ e. absurd (fail-look look next (sym (get_or_past nfa.states q Fail (grind (arith, nat_tests))) ∙ is)))
    where
      same-kind : (look : LookKind) → is_same_kind (kind_of look) (kind_of look) ≡ true
      same-kind look = (Decides-eqb (look_number (kind_of look)) (look_number (kind_of look))).1 refl

      fail-look : (look : LookKind) (next : ℕ) → ◌≡◌ {A = State} Fail (Look look next) → ⊥
      fail-look look next e = true≢false (ap is_fail e)
        where
          is_fail : State → Bool
          is_fail (ByteRange low high next) = false
          is_fail (Sparse transitions) = false
          is_fail (Look look next) = false
          is_fail (Union alternates) = false
          is_fail (Capture next pattern slot) = false
          is_fail Fail = true
          is_fail (Match pattern) = false

-- the byte before the next place
before-next : (text : List ℕ) (i : ℕ) → i < length text → byte_before text (i + 1) ≡ Some (slice_index text i)
before-next text i lt =
    let more : (i + 1 == 0) ≡ false = grind (arith, nat_tests) in
    let place : i + 1 - 1 ≡ i = omega arith in
    rw (more, place) (slice_get-get_or text i 0 lt)

-- the byte at a place, if it is in the text
pub within-get : (text : List ℕ) (i : ℕ) → byte_within (byte_of text) (length text) i ≡ byte_after text i
within-get text i =
    by_test (nat_lt i (length text))
    (λ e. rw e (sym (slice_get-get_or text i 0 (grind (arith, nat_tests)))))
    (λ e. rw e (sym (slice_get_past text i (grind (arith, nat_tests)))))

byte-small : (text : List ℕ) → AreBytes text → (i b : ℕ) → slice_get text i ≡ Some b → b < 256
byte-small text bytes i b is =
    by_test (nat_lt i (length text))
    (λ e.
    let lt : i < length text = grind (arith, nat_tests) in
    let same : slice_index text i ≡ b = some-is (sym (slice_get-get_or text i 0 lt) ∙ is) in
    let small = All-get_or (λ b. b < 256) text i 0 lt bytes in
    omega arith)
    (λ e. none-is-some (sym (slice_get_past text i (grind (arith, nat_tests))) ∙ is))

before-small : (text : List ℕ) → AreBytes text → (i b : ℕ) → byte_before text i ≡ Some b → b < 256
before-small text bytes i b is =
    by_test (i == 0)
    (λ e. none-is-some (rw e at is))
    (λ e. byte-small text bytes (i - 1) b (rw e at is))

module _ (nfa : Nfa) (range : IsInRange nfa) (keeps : Bool) (classes bytes : List ℕ) (are : AreClassesFor nfa keeps classes bytes) where
  abbrev stands : Option ℕ → Option ℕ
  stands o = class_beside keeps classes bytes o

  -- what stands for a byte is of its class
  stands-class : keeps ≡ true → (o : Option ℕ) → ((b : ℕ) → o ≡ Some b → b < 256) → OneClass nfa range o (stands o)
  stands-class on None small = tt
  stands-class on (Some b) small =
      let lt = small b refl in
      let inside = are.in_order b lt in
      rw on
      (are.finer b (slice_index bytes (slice_index classes b))
      (record { first = lt; second = are.stand.inside (slice_index classes b) inside; same = sym (are.stand.own (slice_index classes b) inside) }))

  pub sees-forwards : (text : List ℕ) → AreBytes text → (b a : ℕ) → a ≤ b → b ≤ length text → AreTold nfa text b a
      → Sees (class_sight nfa.terminator false keeps classes bytes) (forwards nfa.terminator text) (length text) nfa.states
      (class_beside keeps classes bytes (byte_before text a)) b a
  sees-forwards text small b a le within told = record {
    begins = λ q next look is.
        let asked = asked-kind nfa range q next look is in
        ap (λ o. holds_between nfa.terminator (stands (byte_before text a)) o (kind_of look)) (within-get text a)
        ∙ between-holds nfa range text a (omega arith) (kind_of look) asked (stands (byte_before text a)) (byte_after text a)
        (stands-class (are.kept (kind_of look) asked) (byte_before text a) (λ b is. before-small text small a b is))
        (same-class nfa range (byte_after text a) (λ b is. byte-small text small a b is))
        (told (kind_of look) a asked (omega arith) le);
    goes_on = λ i low high q next look is.
        let asked = asked-kind nfa range q next look is in
        let lt : i < length text = omega arith in
        (λ k. holds_between nfa.terminator (stands (sym (before-next text i lt) k)) (within-get text (i + 1) k) (kind_of look))
        ∙ between-holds nfa range text (i + 1) (omega arith) (kind_of look) asked (stands (byte_before text (i + 1))) (byte_after text (i + 1))
        (stands-class (are.kept (kind_of look) asked) (byte_before text (i + 1)) (λ b is. before-small text small (i + 1) b is))
        (same-class nfa range (byte_after text (i + 1)) (λ b is. byte-small text small (i + 1) b is))
        (told (kind_of look) (i + 1) asked (omega arith) (omega arith));
  }

  -- read backwards
  pub within-back : (text : List ℕ) (d : ℕ) → d ≤ length text → byte_within (backwards nfa.terminator text).byte (length text) d ≡ byte_before text
      (length text - d)
  within-back text d le =
      by_test (nat_lt d (length text))
      (λ e.
      let lt : d < length text = grind (arith, nat_tests) in
      let more : (length text - d == 0) ≡ false = grind (arith, nat_tests) in
      let place : length text - d - 1 ≡ length text - suc d = omega arith in
      rw (e, more, place) (sym (slice_get-get_or text (length text - suc d) 0 (omega arith))))
      (λ e.
      let none : (length text - d == 0) ≡ true = grind (arith, nat_tests) in
      rw (e, none) refl)

  after-back : (text : List ℕ) (d : ℕ) → d < length text → byte_after text (length text - (d + 1)) ≡ Some ((backwards nfa.terminator text).byte d)
  after-back text d lt =
      let place : length text - (d + 1) ≡ length text - suc d = omega arith in
      ap (slice_get text) place ∙ slice_get-get_or text (length text - suc d) 0 (omega arith)

  pub sees-backwards : (text : List ℕ) → AreBytes text → (b a : ℕ) → a ≤ b → b ≤ length text → AreTold nfa text b a
      → Sees (class_sight nfa.terminator true keeps classes bytes) (backwards nfa.terminator text) (length text) nfa.states
      (class_beside keeps classes bytes (byte_after text b)) (length text - a) (length text - b)
  sees-backwards text small b a le within told = record {
    begins = λ q next look is.
        let asked = asked-kind nfa range q next look is in
        let place : length text - (length text - b) ≡ b = omega arith in
        ap (λ o. holds_between nfa.terminator o (stands (byte_after text b)) (kind_of look))
        (within-back text (length text - b) (omega arith) ∙ ap (byte_before text) place)
        ∙ between-holds nfa range text b within (kind_of look) asked (byte_before text b) (stands (byte_after text b))
        (same-class nfa range (byte_before text b) (λ c is. before-small text small b c is))
        (stands-class (are.kept (kind_of look) asked) (byte_after text b) (λ c is. byte-small text small b c is))
        (told (kind_of look) b asked le (omega arith))
        ∙ ap (holds nfa.terminator text (kind_of look)) (sym place);
    goes_on = λ d low high q next look is.
        let asked = asked-kind nfa range q next look is in
        let lt : d < length text = omega arith in
        (λ k. holds_between nfa.terminator (within-back text (d + 1) (omega arith) k) (stands (sym (after-back text d lt) k)) (kind_of look))
        ∙ between-holds nfa range text (length text - (d + 1)) (omega arith) (kind_of look) asked (byte_before text (length text - (d + 1)))
        (stands (byte_after text (length text - (d + 1))))
        (same-class nfa range (byte_before text (length text - (d + 1))) (λ c is. before-small text small (length text - (d + 1)) c is))
        (stands-class (are.kept (kind_of look) asked) (byte_after text (length text - (d + 1))) (λ c is. byte-small text small (length text - (d + 1)) c is))
        (told (kind_of look) (length text - (d + 1)) asked (omega arith) (omega arith));
  }

-- Look-around in the closure: what no state asks for has no part in it.

module _ (states : List State) (holding other : model.Look → Bool)
    (alike : (q next : ℕ) (look : LookKind) → state_at states q ≡ Look look next → holding (kind_of look) ≡ other (kind_of look)) where
  epsilon-alike : (q : ℕ) → epsilon_successors holding (state_at states q) ≡ epsilon_successors other (state_at states q)
  epsilon-alike q = each (state_at states q) refl
    where
      each : (s : State) → state_at states q ≡ s → epsilon_successors holding s ≡ epsilon_successors other s
      each (ByteRange low high next) is = refl
      each (Sparse transitions) is = refl
      each (Look look next) is = ap (λ b. if b then next ∷ [] else []) (alike q next look is)
      each (Union alternates) is = refl
      each (Capture next pattern slot) is = refl
      each Fail is = refl
      each (Match pattern) is = refl

  close-alike : (room : ℕ) (stack seen : List ℕ) → close states holding room stack seen ≡ close states other room stack seen
  unfolding close
  close-alike zero stack seen = refl
  close-alike (suc room) [] seen = refl
  close-alike (suc room) (q ∷ stack) seen =
      by_test (has seen q)
      (λ e. rw e (close-alike (suc room) stack seen))
      (λ e. rw e
      (ap (λ qs. close states holding room (qs ++ stack) (seen ++ q ∷ [])) (epsilon-alike q)
      ∙ close-alike room (epsilon_successors other (state_at states q) ++ stack) (seen ++ q ∷ [])))

-- Bytes of one class.

module _ (nfa : Nfa) (range : IsInRange nfa) (b c : ℕ) (of : AreOfOneClass nfa.classes b c) where
  target-alike : (q : ℕ) → target (state_at nfa.states q) b ≡ target (state_at nfa.states q) c
  target-alike q = each (state_at nfa.states q) refl
    where
      each : (s : State) → state_at nfa.states q ≡ s → target s b ≡ target s c
      each (ByteRange low high next) is = one-class-routes nfa range b c q (record { start = low; end = high; next = next } ∷ []) of (ap reading is)
      each (Sparse transitions) is = one-class-routes nfa range b c q transitions of (ap reading is)
      each (Look look next) is = refl
      each (Union alternates) is = refl
      each (Capture next pattern slot) is = refl
      each Fail is = refl
      each (Match pattern) is = refl

  targets-alike : (qs : List ℕ) → targets nfa.states b qs ≡ targets nfa.states c qs
  targets-alike [] = refl
  targets-alike (q ∷ qs) = λ k. with_target (target-alike q k) (targets-alike qs k)

  over-alike : (kind : MatchKind) (start : ℕ) (loops : Bool) (before : Option ℕ) (qs : List ℕ)
      → key_over kind nfa.states start loops b before qs ≡ key_over kind nfa.states start loops c before qs
  over-alike kind start loops before qs =
      ap (λ ts. settled kind nfa.states (arrived nfa.states (ts ++ begun start (looping kind nfa.states qs loops))) (looping kind nfa.states qs loops)
      (matching kind nfa.states qs) before)
      (targets-alike (counting kind nfa.states qs))

module _ (nfa : Nfa) (range : IsInRange nfa) (keeps : Bool) (classes bytes : List ℕ) (are : AreClassesFor nfa keeps classes bytes) (b c : ℕ)
    (of : AreOfOneClass classes b c) where
  of_nfa : AreOfOneClass nfa.classes b c
  of_nfa = are.finer b c of

  -- the last byte
  small-last : (o : Option ℕ) → IfSome o (λ x. x < 256) → (x : ℕ) → o ≡ Some x → x < 256
  small-last None small x is = none-is-some is
  small-last (Some n) small x is = let same : n ≡ x = some-is is in omega arith

  between-alike : (before after before' after' : Option ℕ) → OneClass nfa range before before' → OneClass nfa range after after'
      → (kind : model.Look) → has_look nfa.looks kind ≡ true → IsTold kind before after
      → holds_between nfa.terminator before after kind ≡ holds_between nfa.terminator before' after' kind
  between-alike before after before' after' at_before at_after kind asked told =
      let mini = text_of before ++ text_of after in
      sym (between-holds nfa range mini (length (text_of before)) (mini-within before after) kind asked before' after'
      (subst (λ o. OneClass nfa range o before') (sym (before-mini before after)) at_before)
      (subst (λ o. OneClass nfa range o after') (sym (after-mini before after)) at_after)
      (λ unicode. (
        subst IsAsciiOrNone (sym (before-mini before after)) (told unicode).0,
        subst IsAsciiOrNone (sym (after-mini before after)) (told unicode).1,
      )))

  along-alike : (reverse : Bool) (last : Option ℕ) → IfSome last (λ x. x < 256)
      → ((kind : model.Look) → has_look nfa.looks kind ≡ true → IsTrue (is_unicode_word kind) → IsAsciiOrNone last × (b < 0x80))
      → (kind : model.Look) → has_look nfa.looks kind ≡ true
      → (class_sight nfa.terminator reverse keeps classes bytes).holds last (Some b) kind ≡ (class_sight nfa.terminator reverse keeps classes bytes).holds last
      (Some c) kind
  along-alike false last within ascii kind asked =
      between-alike last (Some b) last (Some c) (same-class nfa range last (small-last last within)) of_nfa kind asked (λ unicode. ascii kind asked unicode)
  along-alike true last within ascii kind asked =
      between-alike (Some b) last (Some c) last of_nfa (same-class nfa range last (small-last last within)) kind asked
      (λ unicode. let a = ascii kind asked unicode in (a.1, a.0))

  pub class-steps : (reverse : Bool) (kind : MatchKind) (start : ℕ) (k : Key) → IfSome k.before (λ x. x < 256)
      → ((look : model.Look) → has_look nfa.looks look ≡ true → IsTrue (is_unicode_word look) → IsAsciiOrNone k.before × (b < 0x80))
      → step_key kind nfa.states start (class_sight nfa.terminator reverse keeps classes bytes) k b ≡ step_key kind nfa.states start
      (class_sight nfa.terminator reverse keeps classes bytes) k c
  unfolding step_key
  class-steps reverse kind start k within ascii =
      let sight = class_sight nfa.terminator reverse keeps classes bytes in
      let closed = close-alike nfa.states (sight.holds k.before (Some b)) (sight.holds k.before (Some c))
      (λ q next look is. along-alike reverse k.before within ascii (kind_of look) (asked-kind nfa range q next look is))
      (length nfa.states) k.threads [] in
      let kept : class_kept keeps classes bytes b ≡ class_kept keeps classes bytes c = ap (λ n. if keeps then Some (slice_index bytes n) else None) of.same in
      over-alike nfa range b c of_nfa kind start k.loops (class_kept keeps classes bytes b) (threads_from nfa.states (sight.holds k.before (Some b)) k.threads)
      ∙ (λ j. key_over kind nfa.states start k.loops c (kept j) (resting nfa.states (closed j)))
