-- The loop of a reverse search, and what it makes of what it met. The keys count places from the end of the text.
use Rattle.std.proofs.Common.{◌≡◌, ◌⊎◌, ℕ, suc, ◌+◌, ◌-◌, ◌≤◌, ◌<◌, List, [], ◌∷◌, length, refl, sym, ◌∙◌, ap, subst, inl, inr, arith, true≢false}
use Rattle.std.specs.Prelude.{Bool, true, false, not, ◌&&◌, Option, Some, None, option_map, is_some, IfSome, IfNone, slice_get, slice_index}
use Rattle.std.specs.Option.{option_or}
use Rattle.std.proofs.lemmas.Option.{slice_get-get_or}
use Rattle.rx_model.specs.Look.{byte_before, byte_after}
use Rattle.rx_model.specs.Beside.{IsAsciiOrNone}
use Rattle.rx_model.specs.Search.{is_anchored, is_permitted, Patterns}
use Rattle.rx_model.proofs.lemmas.runs.FirstLemmas.{none-is-some}
use Rattle.rx_model.proofs.lemmas.runs.RiseLemmas.{mapped-some}
use Rattle.rx_search.specs.Input.{InputValue}
use Rattle.rx_search.specs.Matches.{HalfMatchValue}
use Rattle.rx_search.specs.Told.{HalfLiesIn}
use Rattle.rx_search.specs.declared.anchored.MatchKind.TheVariants.{All}
use Rattle.rx_nfa.specs.Automaton.{Surroundings, backwards}
use Rattle.rx_nfa.specs.Nfa.{Nfa, HasReverseRuns}
use Rattle.rx_nfa.specs.NextMatch.{start_of}
use Rattle.rx_determinize.specs.Key.{Key, Sees, is_dead, start_key}
use Rattle.rx_determinize.specs.Sight.{class_beside, class_sight, AreBytes}
use Rattle.rx_determinize.specs.Span.{loops_in, SeesWhileAlive}
use Rattle.rx_determinize.specs.Permitted.{Progress, fresh, recorded, met_within, run_within}
use Rattle.rx_determinize.specs.Told.{MeansUpTo, IsLeastStartWhere, at_place, reverse_once}
use Rattle.rx_determinize.proofs.lemmas.DeadLemmas.{no-more-within}
use Rattle.rx_determinize.proofs.lemmas.ReverseLemmas.{once-some, once-none, no-start}
use Rattle.rx_determinize.proofs.lemmas.SightLemmas.{sees-backwards, within-back}
use Rattle.rx_dfa.specs.Automaton.{Dfa, IsSound, sight_of, no_key, key_from, first_key, next_key, IsReadable}
use Rattle.rx_dfa.specs.Course.{key_of, end_of, in_text, IsMetAlong, IsMetBackwards, along, IsPassed}
use Rattle.rx_dfa.specs.Search.{IsReverseAnswer}
use Rattle.rx_dfa.proofs.lemmas.LooplessLemmas.{start-loopless, run-loopless, sees-loopless}
use Rattle.rx_dfa.proofs.lemmas.CourseLemmas.{Going, going-start, going-next, met-dead, met-early, met-end, met-none, nothing_held, next-key, key-along, going-passed, going-forget}
use Rattle.rx_dfa.proofs.lemmas.ForwardLemmas.{before-next, along-between, first-before}

-- What is met at a distance.

or-mapped : (size place : ℕ) (o : Option ℕ) → option_map (λ d. size - d) (option_or o (Some place))
    ≡ option_or (option_map (λ d. size - d) o) (Some (size - place))
or-mapped size place None = refl
or-mapped size place (Some x) = refl

pub mirrored : (size : ℕ) (test : ℕ → Bool) (ms : List ℕ) (place : ℕ) (r : Progress)
    → in_text size (met_within (λ i. test (size - i)) ms place r) ≡ met_within test ms (size - place) (in_text size r)
mirrored size test [] place r = refl
mirrored size test (p ∷ ps) place r = each (test (size - place))
  where
    each : (t : Bool) → in_text size (recorded t p place r) ≡ recorded t p (size - place) (in_text size r)
    each true = refl
    each false = λ j. record { best = option_map (at_place size) r.best; refused = or-mapped size place r.refused j }

-- the byte before a place of the text stands last where the keys come to the place
abbrev pub read_last : List ℕ → ℕ → Option ℕ
read_last text j = byte_before text (length text + 1 - j)

-- the sight tells of the places of a span, where the bytes beside them are readable
pub tells-backwards : (d : Dfa) → IsSound d → d.nfa.reverse ≡ true → (text : List ℕ) → AreBytes text → (k : Key) (b e : ℕ)
    → k.before ≡ class_beside d.keeps d.classes d.bytes (byte_after text b) → b ≤ length text → length text - b ≤ e → e ≤ length text
    → ((j : ℕ) → length text - b ≤ j → j ≤ e + 1 → IsReadable d.nfa (read_last text j))
    → Sees (sight_of d) (backwards d.nfa.terminator text) (length text) d.nfa.states k.before e (length text - b)
tells-backwards d sound reverse text bytes k b e before within low high readable =
    let place : length text - (length text - e) ≡ e = omega arith in
    subst
    (λ r. Sees (class_sight d.nfa.terminator r d.keeps d.classes d.bytes) (backwards d.nfa.terminator text) (length text) d.nfa.states k.before e
    (length text - b))
    (sym reverse)
    (subst
    (λ o. Sees (class_sight d.nfa.terminator true d.keeps d.classes d.bytes) (backwards d.nfa.terminator text) (length text) d.nfa.states o e (length text - b))
    (sym before)
    (subst
    (λ i. Sees (class_sight d.nfa.terminator true d.keeps d.classes d.bytes) (backwards d.nfa.terminator text) (length text) d.nfa.states
    (class_beside d.keeps d.classes d.bytes (byte_after text b)) i (length text - b))
    place
    (sees-backwards d.nfa sound.in_range d.keeps d.classes d.bytes sound.serve text bytes b (length text - e) (omega arith) within
    (λ kind i asked from to word.
    let here : length text + 1 - (length text + 1 - i) ≡ i = omega arith in
    let next : length text + 1 - (length text - i) ≡ i + 1 = omega arith in (
      subst (λ p. IsAsciiOrNone (byte_before text p)) here (readable (length text + 1 - i) (omega arith) (omega arith) kind asked word),
      subst IsAsciiOrNone (before-next text i)
          (subst (λ p. IsAsciiOrNone (byte_before text p)) next (readable (length text - i) (omega arith) (omega arith) kind asked word)),
    )))))

-- What a reverse search keeps, where it began at the place `end` of the text with the key k and comes to `at`.
pub record GoingBack {F C : Type 0} (holds : F → C → ℕ → Key → Type 0) (a : F) (cache : C) (state : ℕ) (d : Dfa) (text : List ℕ) (end : ℕ) (k : Key) (at : ℕ)
    (met : Progress) : Type 0 where
  pub at_distances : Progress
  pub is : met ≡ in_text (length text) at_distances
  pub going : Going holds a cache state d (backwards d.nfa.terminator text) (λ i. is_permitted d.nfa.utf8 text (length text - i)) (read_last text) (length text)
      (length text - end) k (length text - at) at_distances

module _ (d : Dfa) (sound : IsSound d) (reverse : d.nfa.reverse ≡ true) (text : List ℕ) (bytes : AreBytes text) (start end : ℕ) (in_order : start ≤ end)
    (within : end ≤ length text) (k : Key) (k_before : k.before ≡ class_beside d.keeps d.classes d.bytes (byte_after text end)) where
  abbrev size : ℕ
  size = length text

  abbrev around : Surroundings
  around = backwards d.nfa.terminator text

  abbrev may : ℕ → Bool
  may i = is_permitted d.nfa.utf8 text (size - i)

  -- the key at a place of the text
  abbrev pub key_back : (at : ℕ) → Key
  key_back at = key_of d around (size - at - (size - end)) (size - end) k

  tells-there : (e : ℕ) → size - end ≤ e → e ≤ size - start → ((j : ℕ) → size - end ≤ j → j ≤ e + 1 → IsReadable d.nfa (read_last text j))
      → Sees (sight_of d) around size d.nfa.states k.before e (size - end)
  tells-there e low high readable = tells-backwards d sound reverse text bytes k end e k_before within low (omega arith) readable

  byte-back : (at before byte : ℕ) → start < at → at ≤ end → before ≡ at - 1 → byte ≡ slice_index text before → byte ≡ around.byte (size - at)
  byte-back at before byte lt le before_is byte_is =
      let place : before ≡ size - suc (size - at) = omega arith in
      byte_is ∙ ap (slice_index text) place

  -- what was met, at distances
  met-back : (at : ℕ) (ms : List ℕ) (met met' r : Progress) → at ≤ end → met ≡ in_text size r → met' ≡ met_within (is_permitted d.nfa.utf8 text) ms at met
      → met' ≡ in_text size (met_within may ms (size - at) r)
  met-back at ms met met' r le is is' =
      let place : at ≡ size - (size - at) = omega arith in
      is'
      ∙ ap (met_within (is_permitted d.nfa.utf8 text) ms at) is
      ∙ ap (λ p. met_within (is_permitted d.nfa.utf8 text) ms p (in_text size r)) place
      ∙ sym (mirrored size (is_permitted d.nfa.utf8 text) ms (size - at) r)

  -- the byte that was read stands last at the next place
  read-next : (at byte before : ℕ) → start < at → at ≤ end → before ≡ at - 1 → byte ≡ slice_index text before → IsReadable d.nfa (Some byte)
      → IsReadable d.nfa (read_last text (size - at + 1))
  read-next at byte before lt le before_is byte_is readable =
      let place : size + 1 - (size - at + 1) ≡ before + 1 = omega arith in
      let there : slice_get text before ≡ Some (slice_index text before) = slice_get-get_or text before 0 (omega arith) in
      subst (IsReadable d.nfa) (ap Some byte_is ∙ sym there ∙ sym (before-next text before) ∙ ap (byte_before text) (sym place)) readable

  some-mapped : (n : ℕ) (o : Option HalfMatchValue) → is_some (option_map (at_place n) o) ≡ is_some o
  some-mapped n None = refl
  some-mapped n (Some h) = refl

  module _ {F C : Type 0} (holds : F → C → ℕ → Key → Type 0) (a : F) where
    pub back-start : (cache : C) (state : ℕ) → holds a cache state k → IsReadable d.nfa (byte_after text end) → is_dead k ≡ false
        → GoingBack holds a cache state d text end k end fresh
    back-start cache state held readable alive =
        let place : size + 1 - (size - end) ≡ end + 1 = omega arith in
        let here : read_last text (size - end) ≡ byte_after text end = ap (byte_before text) place ∙ before-next text end in
        record {
          at_distances = fresh;
          is = refl;
          going = going-start d around may (read_last text) size (size - start) (size - end) (omega arith) k holds a cache state held
              (subst (IsReadable d.nfa) (sym here) readable) alive;
        }

    pub back-next : (cache new : C) (state next at before : ℕ) (met met' : Progress) (byte : ℕ) → start < at → at ≤ end → before ≡ at - 1
        → byte ≡ slice_index text before
        → GoingBack holds a cache state d text end k at met
        → holds a new next (next_key d (key_back at) byte) → IsReadable d.nfa (Some byte) → is_dead (next_key d (key_back at) byte) ≡ false
        → met' ≡ met_within (is_permitted d.nfa.utf8 text) (next_key d (key_back at) byte).matches at met
        → GoingBack holds a new next d text end k before met'
    back-next cache new state next at before met met' byte lt le before_is byte_is back held readable alive is =
        let r = back.at_distances in
        let place : size - at + 1 ≡ size - before = omega arith in
        record {
          at_distances = met_within may (next_key d (key_back at) byte).matches (size - at) r;
          is = met-back at (next_key d (key_back at) byte).matches met met' r le back.is is;
          going = subst
              (λ i. Going holds a new next d around may (read_last text) size (size - end) k i
              (met_within may (next_key d (key_back at) byte).matches (size - at) r))
              place
              (going-next d around may (read_last text) size (size - start) (size - end) (omega arith) k holds a cache new state next (size - at) r
              (met_within may (next_key d (key_back at) byte).matches (size - at) r) byte (omega arith) (byte-back at before byte lt le before_is byte_is)
              back.going held (read-next at byte before lt le before_is byte_is readable) alive refl);
        }

    -- Where the next key is dead, all is met.
    pub back-dead : (v_earliest : Bool) (cache : C) (state at before : ℕ) (met met' : Progress) (byte : ℕ) → start < at → at ≤ end → before ≡ at - 1
        → byte ≡ slice_index text before
        → GoingBack holds a cache state d text end k at met
        → IsReadable d.nfa (Some byte) → is_dead (next_key d (key_back at) byte) ≡ true
        → met' ≡ met_within (is_permitted d.nfa.utf8 text) (next_key d (key_back at) byte).matches at met
        → (r : Progress) × (met' ≡ in_text size r) × IsMetAlong d around may size (size - start) (size - end) k v_earliest r
    back-dead v_earliest cache state at before met met' byte lt le before_is byte_is back readable dead is =
        let r = back.at_distances in
        let r' = met_within may (next_key d (key_back at) byte).matches (size - at) r in (
          r',
          met-back at (next_key d (key_back at) byte).matches met met' r le back.is is,
          met-dead d around may (read_last text) size (size - start) (size - end) (omega arith) k holds a tells-there cache state (size - at) r r' byte
              v_earliest (omega arith) (omega arith) (byte-back at before byte lt le before_is byte_is) back.going
              (read-next at byte before lt le before_is byte_is readable) dead refl,
        )

    -- The search may stop at the first match, and there is one.
    pub back-early : (v_earliest : Bool) (cache : C) (state at before : ℕ) (met met' : Progress) (byte : ℕ) → start < at → at ≤ end → before ≡ at - 1
        → byte ≡ slice_index text before
        → GoingBack holds a cache state d text end k at met
        → IsReadable d.nfa (Some byte)
        → met' ≡ met_within (is_permitted d.nfa.utf8 text) (next_key d (key_back at) byte).matches at met
        → (v_earliest && is_some met'.best) ≡ true
        → (r : Progress) × (met' ≡ in_text size r) × IsMetAlong d around may size (size - start) (size - end) k v_earliest r
    back-early v_earliest cache state at before met met' byte lt le before_is byte_is back readable is enough =
        let r = back.at_distances in
        let r' = met_within may (next_key d (key_back at) byte).matches (size - at) r in
        let is' : met' ≡ in_text size r' = met-back at (next_key d (key_back at) byte).matches met met' r le back.is is in (
          r',
          is',
          met-early d around may (read_last text) size (size - start) (size - end) (omega arith) k holds a tells-there cache state (size - at) r r' byte
              v_earliest (omega arith) (omega arith) (byte-back at before byte lt le before_is byte_is) back.going
              (read-next at byte before lt le before_is byte_is readable) refl
              (ap (λ b. v_earliest && b) (sym (some-mapped size r'.best) ∙ ap (λ (x : Progress). is_some x.best) (sym is')) ∙ enough),
        )

    -- at the start of the span
    pub back-end : (v_earliest : Bool) (cache : C) (state : ℕ) (met met' : Progress) (last : Key)
        → GoingBack holds a cache state d text end k start met
        → IsReadable d.nfa (byte_before text start)
        → last.matches ≡ (end_of d (key_back start) (byte_before text start)).matches
        → met' ≡ met_within (is_permitted d.nfa.utf8 text) last.matches start met
        → (r : Progress) × (met' ≡ in_text size r) × IsMetAlong d around may size (size - start) (size - end) k v_earliest r
    back-end v_earliest cache state met met' last back readable told is =
        let r = back.at_distances in
        let place : size + 1 - (size - start + 1) ≡ start = omega arith in
        let here : read_last text (size - start + 1) ≡ byte_before text start = ap (byte_before text) place in
        let back_place : size - (size - start) ≡ start = omega arith in (
          met_within may last.matches (size - start) r,
          met-back start last.matches met met' r in_order back.is is,
          met-end d around may (read_last text) size (size - start) (size - end) (omega arith) k holds a tells-there cache state r
              (met_within may last.matches (size - start) r) last (byte_before text start) v_earliest (omega arith)
              (within-back d.nfa sound.in_range d.keeps d.classes d.bytes sound.serve text (size - start) (omega arith) ∙ ap (byte_before text) back_place)
              back.going (subst (IsReadable d.nfa) (sym here) readable) told refl,
        )

-- what was met lies in the span
pub backwards-between : (d : Dfa) (v : InputValue) → v.start ≤ v.end → v.end ≤ length v.haystack → (met : Progress) → IsMetBackwards d v met
    → (h : HalfMatchValue) → met.best ≡ Some h → (v.start ≤ h.offset) × (h.offset ≤ v.end)
backwards-between d v in_order within met m h is =
    let x = mapped-some (at_place (length v.haystack)) m.at_distances.best h (ap (λ (r : Progress). r.best) (sym m.is) ∙ is) in
    let between = (along-between d (backwards d.nfa.terminator v.haystack) (λ i. is_permitted d.nfa.utf8 v.haystack (length v.haystack - i)) (length v.haystack)
    (length v.haystack - v.start) (length v.haystack - v.end) (first_key d v.anchor (byte_after v.haystack v.end)) v.earliest m.at_distances m.along).best
    x.0 x.1 in
    let low = between.0 in
    let high = between.1 in
    let place : length v.haystack - x.0.offset ≡ h.offset = ap (λ (y : HalfMatchValue). y.offset) x.2 in
    (omega arith, omega arith)

module _ (d : Dfa) (sound : IsSound d) (all : d.kind ≡ All) (v : InputValue) (in_order : v.start ≤ v.end) (within : v.end ≤ length v.haystack)
    (once_only : is_anchored v.anchor ≡ true) (met : Progress) (m : IsMetBackwards d v met) (r : Patterns) (runs : HasReverseRuns d.nfa r) where
  abbrev nfa : Nfa
  nfa = d.nfa

  abbrev text : List ℕ
  text = v.haystack

  abbrev whole : ℕ
  whole = length v.haystack

  abbrev back : Surroundings
  back = backwards nfa.terminator text

  abbrev test : ℕ → Bool
  test i = is_permitted nfa.utf8 text (whole - i)

  abbrev after : Option ℕ
  after = class_beside d.keeps d.classes d.bytes (byte_after text v.end)

  no_loop : loops_in v.anchor ≡ false
  no_loop = ap not once_only

  -- the same from the state at which the runs start
  run-from : (q : ℕ) → start_of nfa v.anchor ≡ Some q
      → m.at_distances ≡ run_within All nfa.states q (sight_of d) back test whole (m.along.stop - (whole - v.end)) (whole - v.end)
      (start_key All nfa.states q false after) fresh
  run-from q is =
      m.along.is
      ∙ (λ j. run_within (all j) nfa.states nfa.start_anchored (sight_of d) back test whole (m.along.stop - (whole - v.end)) (whole - v.end)
      (key_from (all j) nfa.states (no_loop j) after (is j)) fresh)
      ∙ run-loopless All nfa.states nfa.start_anchored q (sight_of d) back test whole (m.along.stop - (whole - v.end)) (whole - v.end)
      (start_key All nfa.states q false after) fresh (start-loopless All nfa.states q after)

  sees-from : (q : ℕ) → start_of nfa v.anchor ≡ Some q
      → SeesWhileAlive All (sight_of d) back whole nfa.states q (start_key All nfa.states q false after) m.along.stop (whole - v.end)
  sees-from q is =
      sees-loopless All nfa.states nfa.start_anchored q (sight_of d) back whole m.along.stop (whole - v.end) (start_key All nfa.states q false after)
      (start-loopless All nfa.states q after)
      (subst
      (λ l. SeesWhileAlive All (sight_of d) back whole nfa.states nfa.start_anchored (key_from All nfa.states l after (Some q)) m.along.stop (whole - v.end))
      no_loop
      (subst
      (λ kind. SeesWhileAlive kind (sight_of d) back whole nfa.states nfa.start_anchored (key_from kind nfa.states (loops_in v.anchor) after (Some q))
      m.along.stop (whole - v.end))
      all
      (subst
      (λ o. SeesWhileAlive d.kind (sight_of d) back whole nfa.states nfa.start_anchored (key_from d.kind nfa.states (loops_in v.anchor) after o) m.along.stop
      (whole - v.end))
      is m.along.sees)))

  nothing-met : start_of nfa v.anchor ≡ None → met ≡ fresh
  nothing-met none =
      m.is
      ∙ ap (in_text whole)
      (m.along.is
      ∙ (λ j. run_within d.kind nfa.states nfa.start_anchored (sight_of d) back test whole (m.along.stop - (whole - v.end)) (whole - v.end)
      (key_from d.kind nfa.states (loops_in v.anchor) after (none j)) fresh)
      ∙ no-more-within d.kind nfa.states nfa.start_anchored (sight_of d) back test whole (m.along.stop - (whole - v.end)) (whole - v.end) (no_key after) refl
      refl fresh)

  -- where the automaton stopped, in the text
  abbrev stop : ℕ
  stop = whole - m.along.stop

  stop-low : v.start ≤ stop
  stop-low = let high = m.along.high in omega arith

  stop-high : stop ≤ v.end
  stop-high = let low = m.along.low in omega arith

  stop-back : whole - stop ≡ m.along.stop
  stop-back = let high = m.along.high in omega arith

  best-once : (q : ℕ) → start_of nfa v.anchor ≡ Some q → met.best ≡ reverse_once nfa (sight_of d) nfa.utf8 text q after v.end stop
  best-once q is =
      ap (λ (x : Progress). x.best) m.is
      ∙ ap (λ (x : Progress). option_map (at_place whole) x.best) (run-from q is)
      ∙ ap
      (λ e. option_map (at_place whole)
      (run_within All nfa.states q (sight_of d) back test whole (e - (whole - v.end)) (whole - v.end) (start_key All nfa.states q false after) fresh).best)
      (sym stop-back)

  seen : (q : ℕ) → start_of nfa v.anchor ≡ Some q
      → SeesWhileAlive All (sight_of d) back whole nfa.states q (start_key All nfa.states q false after) (whole - stop) (whole - v.end)
  seen q is =
      subst (λ e. SeesWhileAlive All (sight_of d) back whole nfa.states q (start_key All nfa.states q false after) e (whole - v.end)) (sym stop-back)
      (sees-from q is)

  -- to the place where the automaton stopped
  least-there : (h : HalfMatchValue) → met.best ≡ Some h → IsLeastStartWhere r nfa.utf8 text v.anchor v.end stop h
  least-there h is = by_start (start_of nfa v.anchor) refl
    where
      by_start : (o : Option ℕ) → start_of nfa v.anchor ≡ o → IsLeastStartWhere r nfa.utf8 text v.anchor v.end stop h
      by_start None begins = none-is-some (sym (ap (λ (x : Progress). x.best) (nothing-met begins)) ∙ is)
      by_start (Some q) begins =
          once-some nfa sound.in_range r runs (sight_of d) text v.end stop stop-high within v.anchor nfa.utf8 after q begins
          (λ j low high alive. (seen q begins).sees j low high alive) h (sym (best-once q begins) ∙ is)

  none-there : met.best ≡ None → (p i : ℕ) → stop ≤ i → i ≤ v.end → is_permitted nfa.utf8 text i ≡ true → MeansUpTo r text v.anchor v.end p i → ⊥
  none-there none p i low high on means = by_start (start_of nfa v.anchor) refl
    where
      by_start : (o : Option ℕ) → start_of nfa v.anchor ≡ o → ⊥
      by_start None begins = no-start nfa sound.in_range r runs (sight_of d) text v.end stop stop-high within v.anchor begins p i means
      by_start (Some q) begins =
          once-none nfa sound.in_range r runs (sight_of d) text v.end stop stop-high within v.anchor nfa.utf8 after q begins
          (λ j from to alive. (seen q begins).sees j from to alive) (sym (best-once q begins) ∙ none) p i low high on means

  -- where nothing was found, or not just any match will do, it went to the span's start
  to-start : (met.best ≡ None) ⊎ (v.earliest ≡ false) → stop ≡ v.start
  to-start why =
      elim m.along.whole [
        | inl same ↦ omega arith
        | inr early ↦ absurd (never why early.0 early.1)
      ]
    where
      never : (met.best ≡ None) ⊎ (v.earliest ≡ false) → v.earliest ≡ true → is_some m.at_distances.best ≡ true → ⊥
      never (inl none) on some =
          true≢false (sym some ∙ sym (mapped-there m.at_distances.best) ∙ ap (λ (x : Progress). is_some x.best) (sym m.is) ∙ ap is_some none)
        where
          mapped-there : (o : Option HalfMatchValue) → is_some (option_map (at_place whole) o) ≡ is_some o
          mapped-there None = refl
          mapped-there (Some h) = refl
      never (inr off) on some = true≢false (sym on ∙ off)

  pub reverse-answer : IsReverseAnswer nfa r v met.best
  reverse-answer = record {
    value = λ each. if-found met.best (IsLeastStartWhere r nfa.utf8 text v.anchor v.end v.start)
        (λ h is. subst (λ a. IsLeastStartWhere r nfa.utf8 text v.anchor v.end a h) (to-start (inr each)) (least-there h is));
    none = if-missing met.best ((p i : ℕ) → v.start ≤ i → i ≤ v.end → is_permitted nfa.utf8 text i ≡ true → MeansUpTo r text v.anchor v.end p i → ⊥)
        (λ none p i low high on means. let same = to-start (inl none) in none-there none p i (omega arith) high on means);
    is_match = if-found met.best (λ h. (v.start ≤ h.offset) × (h.offset ≤ v.end) × (is_permitted nfa.utf8 text h.offset ≡ true)
        × MeansUpTo r text v.anchor v.end h.pattern h.offset)
        (λ h is.
        let l = least-there h is in
        let far = stop-low in
        let low = l.from in
        (omega arith, l.to, l.starts, l.means));
  }
    where
      if-found : (o : Option HalfMatchValue) (P : HalfMatchValue → Type 0) → ((h : HalfMatchValue) → o ≡ Some h → P h) → IfSome o P
      if-found None P each = tt
      if-found (Some h) P each = each h refl

      if-missing : (o : Option HalfMatchValue) (P : Type 0) → (o ≡ None → P) → IfNone o P
      if-missing None P each = each refl
      if-missing (Some h) P each = tt

-- a span that begins behind its end
pub reverse-past : (nfa : Nfa) (r : Patterns) (v : InputValue) → v.end < v.start → IsReverseAnswer nfa r v None
reverse-past nfa r v past = record { value = λ each. tt; none = λ p i low high on means. absurd (omega arith); is_match = tt }

-- the key at a place of the input's span
abbrev pub key_behind : Dfa → InputValue → (at : ℕ) → Key
key_behind d v at =
    key_of d (backwards d.nfa.terminator v.haystack) (length v.haystack - at - (length v.haystack - v.end)) (length v.haystack - v.end)
    (first_key d v.anchor (byte_after v.haystack v.end))

-- what the loop keeps
abbrev pub GoingBehind : {F C : Type 0} → (F → C → ℕ → Key → Type 0) → F → C → ℕ → Dfa → InputValue → (at : ℕ) → Progress → Type 0
GoingBehind holds a cache state d v at met =
    GoingBack holds a cache state d v.haystack v.end (first_key d v.anchor (byte_after v.haystack v.end)) at met

-- A search stands before the byte that ends at the place, of which nothing is told yet but that it is read.
pub record ArrivesBack {F C : Type 0} (holds : F → C → ℕ → Key → Type 0) (a : F) (old new : C) (before next : ℕ) (d : Dfa) (v : InputValue) (place byte : ℕ)
    (met : Progress) : Type 0 where
  pub past : GoingBehind nothing_held a old before d v place met
  pub held : holds a new next (next_key d (key_behind d v place) byte)
  pub readable : IsReadable d.nfa (Some byte)

module _ (d : Dfa) (sound : IsSound d) (reverse : d.nfa.reverse ≡ true) (v : InputValue) (bytes : AreBytes v.haystack) (in_order : v.start ≤ v.end)
    (within : v.end ≤ length v.haystack) {F C : Type 0} (holds : F → C → ℕ → Key → Type 0) (a : F) (old new : C) where
  abbrev text_size : ℕ
  text_size = length v.haystack

  abbrev opening : Key
  opening = first_key d v.anchor (byte_after v.haystack v.end)

  abbrev turned : Surroundings
  turned = backwards d.nfa.terminator v.haystack

  abbrev may_at : ℕ → Bool
  may_at i = is_permitted d.nfa.utf8 v.haystack (text_size - i)

  back-hold : (before next at : ℕ) (met : Progress) → GoingBehind nothing_held a old before d v at met → holds a new next (key_behind d v at)
      → GoingBehind holds a new next d v at met
  back-hold before next at met g held = record {
    at_distances = g.at_distances;
    is = g.is;
    going = record { held = held; same = g.going.same; readable = g.going.readable; alive = g.going.alive };
  }

  module _ (state next from place start : ℕ) (met : Progress) (text : List ℕ) (is_text : text ≡ v.haystack) (is_start : start ≡ v.start)
      (low : start ≤ place) (le : place ≤ from) (high : from ≤ v.end)
      (passed : IsPassed (holds a new) d (λ i. slice_index text (from - suc i)) (key_behind d v from) (from - place) (from - start) next)
      (going : GoingBehind holds a old state d v from met) where
    abbrev read : ℕ → ℕ
    read i = slice_index text (from - suc i)

    read-is : (i : ℕ) → i < from - place → read i ≡ turned.byte (text_size - from + i)
    read-is i lt =
        let at : from - suc i ≡ text_size - suc (text_size - from + i) = omega arith in
        (λ j. slice_index (is_text j) (at j))

    read-readable : (i : ℕ) → i < from - place → IsReadable d.nfa (read_last v.haystack (text_size - from + i + 1))
    read-readable i lt =
        let at : text_size - (from - i) + 1 ≡ text_size - from + i + 1 = omega arith in
        let before : from - suc i ≡ from - i - 1 = omega arith in
        subst (λ j. IsReadable d.nfa (read_last v.haystack j)) at
        (read-next d sound reverse v.haystack bytes v.start v.end in_order within opening (first-before d v.anchor (byte_after v.haystack v.end))
        (from - i) (read i) (from - suc i) (omega arith) (omega arith) before (ap (λ (t : List ℕ). slice_index t (from - suc i)) is_text)
        (passed.plain.readable i lt))

    pub past-back : GoingBehind nothing_held a old state d v place met
    past-back =
        let count : text_size - from + (from - place) ≡ text_size - place = omega arith in
        record {
          at_distances = going.at_distances;
          is = going.is;
          going = subst
              (λ i. Going nothing_held a old state d turned may_at (read_last v.haystack) text_size (text_size - v.end) opening i going.at_distances) count
              (going-passed d turned may_at (read_last v.haystack) text_size (text_size - v.start) (text_size - v.end) (omega arith) opening a old state
              (text_size - from) (from - place) going.at_distances read (omega arith) read-is read-readable passed.plain
              (going-forget d turned may_at (read_last v.haystack) text_size (text_size - v.start) (text_size - v.end) (omega arith) opening holds a old new
              state next (text_size - from) going.at_distances going.going));
        }

    key-there : along d read (from - place) (key_behind d v from) ≡ key_behind d v place
    key-there =
        let count : text_size - from + (from - place) ≡ text_size - place = omega arith in
        key-along d turned may_at (read_last v.haystack) text_size (text_size - v.start) (text_size - v.end) (omega arith) opening
        (text_size - from) (from - place) read (omega arith) read-is
        ∙ ap (λ i. key_of d turned (i - (text_size - v.end)) (text_size - v.end) opening) count

    pub back-passed-end : place ≡ start → GoingBehind holds a new next d v place met
    back-passed-end same = back-hold state next place met past-back (subst (holds a new next) key-there (passed.at_end (omega arith)))

    pub back-passed-before : start < place → ArrivesBack holds a old new state next d v place (slice_index v.haystack (place - 1)) met
    back-passed-before lt =
        let at : from - suc (from - place) ≡ place - 1 = omega arith in
        let byte : read (from - place) ≡ slice_index v.haystack (place - 1) = (λ j. slice_index (is_text j) (at j)) in
        let behind = passed.behind (omega arith) in
        record {
          past = past-back;
          held = subst (holds a new next) (λ j. next_key d (key-there j) (byte j)) behind.0;
          readable = subst (λ (b : ℕ). IsReadable d.nfa (Some b)) byte behind.1;
        }

  -- on from there
  pub arrived-back : (before next place : ℕ) (met met' : Progress) → v.start < place → place ≤ v.end
      → ArrivesBack holds a old new before next d v place (slice_index v.haystack (place - 1)) met
      → is_dead (next_key d (key_behind d v place) (slice_index v.haystack (place - 1))) ≡ false
      → met' ≡ met_within (is_permitted d.nfa.utf8 v.haystack) (next_key d (key_behind d v place) (slice_index v.haystack (place - 1))).matches place met
      → GoingBehind holds a new next d v (place - 1) met'
  arrived-back before next place met met' lt le there alive is =
      let count : text_size - place + 1 ≡ text_size - (place - 1) = omega arith in
      let at : place - 1 ≡ text_size - suc (text_size - place) = omega arith in
      back-hold before next (place - 1) met'
      (back-next d sound reverse v.haystack bytes v.start v.end in_order within opening (first-before d v.anchor (byte_after v.haystack v.end)) nothing_held a
      old old before before place (place - 1) met met' (slice_index v.haystack (place - 1)) lt le refl refl there.past tt there.readable alive is)
      (subst (holds a new next)
      (ap (next_key d (key_behind d v place)) (ap (slice_index v.haystack) at)
      ∙ sym (next-key d turned may_at (read_last v.haystack) text_size (text_size - v.start) (text_size - v.end) (omega arith) opening (text_size - place)
      (omega arith))
      ∙ ap (λ i. key_of d turned (i - (text_size - v.end)) (text_size - v.end) opening) count)
      there.held)

-- three parts make a search
abbrev pub met-of : (d : Dfa) (v : InputValue) (met : Progress)
    → (r : Progress) × (met ≡ in_text (length v.haystack) r) × IsMetAlong d (backwards d.nfa.terminator v.haystack)
    (λ i. is_permitted d.nfa.utf8 v.haystack (length v.haystack - i)) (length v.haystack) (length v.haystack - v.start) (length v.haystack - v.end)
    (first_key d v.anchor (byte_after v.haystack v.end)) v.earliest r
    → IsMetBackwards d v met
met-of d v met t = record { at_distances = t.0; is = t.1; along = t.2 }

-- where the first key is dead
pub behind-none : (d : Dfa) (v : InputValue) → v.start ≤ v.end → v.end ≤ length v.haystack → (met : Progress) → met ≡ fresh
    → is_dead (first_key d v.anchor (byte_after v.haystack v.end)) ≡ true → IsMetBackwards d v met
behind-none d v in_order within met is dead = record {
  at_distances = fresh;
  is = is;
  along = met-none d (backwards d.nfa.terminator v.haystack) (λ i. is_permitted d.nfa.utf8 v.haystack (length v.haystack - i)) (read_last v.haystack)
      (length v.haystack) (length v.haystack - v.start) (length v.haystack - v.end) (omega arith) (first_key d v.anchor (byte_after v.haystack v.end))
      v.earliest (omega arith) dead;
}

-- what was met lies in the span
pub behind-within : (d : Dfa) (v : InputValue) → v.start ≤ v.end → v.end ≤ length v.haystack → (met : Progress) → IsMetBackwards d v met
    → IfSome met.best (HalfLiesIn v)
behind-within d v in_order within met m = each met.best refl
  where
    each : (o : Option HalfMatchValue) → met.best ≡ o → IfSome o (HalfLiesIn v)
    each None is = tt
    each (Some h) is = backwards-between d v in_order within met m h is
