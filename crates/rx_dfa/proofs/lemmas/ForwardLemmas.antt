-- What a forward search makes of what it met.
use Rattle.std.proofs.Common.{◌≡◌, ℕ, zero, suc, ◌+◌, ◌-◌, ◌≤◌, ◌<◌, List, [], ◌∷◌, length, refl, sym, ◌∙◌, ap, subst, inl, inr, arith, true≢false}
use Rattle.std.specs.Prelude.{Bool, true, false, not, ◌&&◌, ◌==◌, Option, Some, None, option_map, is_some, nat_lt, slice_get, slice_index}
use Rattle.std.specs.Option.{option_or}
use Rattle.std.proofs.lemmas.Bool.Decides.{nat_tests}
use Rattle.std.proofs.lemmas.Option.{slice_get-get_or}
use Rattle.rx_model.specs.Look.{byte_before, byte_after}
use Rattle.rx_model.specs.Beside.{IsAsciiOrNone}
use Rattle.rx_model.specs.Search.{Anchor, is_anchored, is_permitted, Match, Patterns, next_match, starts, first_start, told_of}
use Rattle.rx_model.proofs.lemmas.runs.RunLemmas.{by_test}
use Rattle.rx_model.proofs.lemmas.runs.FirstLemmas.{none-is-some, some-is, tells}
use Rattle.rx_model.proofs.lemmas.matches.WithinLemmas.{next-later, match-next}
use Rattle.rx_search.specs.Input.{InputValue, from_place}
use Rattle.rx_search.specs.Matches.{HalfMatchValue, half_match_value}
use Rattle.rx_search.specs.Promise.{Premises}
use Rattle.rx_search.specs.declared.anchored.MatchKind.TheVariants.{All, LeftmostFirst}
use Rattle.rx_nfa.specs.Automaton.{Surroundings, forwards, byte_within}
use Rattle.rx_nfa.specs.Nfa.{Nfa, IsInRange, IsNfaOf}
use Rattle.rx_nfa.specs.NextMatch.{start_of, first_from, next_match_of, next_match_in}
use Rattle.rx_nfa.proofs.lemmas.runs.NextMatchLemmas.{next_match_of-patterns}
use Rattle.rx_determinize.specs.Key.{Key, Sight, Sees, is_dead, start_key}
use Rattle.rx_determinize.specs.Sight.{class_beside, class_sight, AreBytes}
use Rattle.rx_determinize.specs.Span.{loops_in}
use Rattle.rx_determinize.specs.Permitted.{Progress, fresh, recorded, met_within, run_within, begin_again, KeepsCharacters}
use Rattle.rx_determinize.proofs.lemmas.KeepsLemmas.{walks-keep}
use Rattle.rx_determinize.proofs.lemmas.PermittedLemmas.{search-once}
use Rattle.rx_determinize.proofs.lemmas.SightLemmas.{sees-forwards, within-get}
use Rattle.rx_determinize.proofs.lemmas.SpanLemmas.{none-starts}
use Rattle.rx_dfa.specs.Automaton.{Dfa, IsSound, sight_of, key_from, first_key, next_key, IsReadable, StepFails, StartFails}
use Rattle.rx_dfa.specs.Course.{placed, progress_of, key_of, end_of, IsMetAlong, IsMetForwards, along, IsPassed}
use Rattle.rx_dfa.specs.Search.{SearchFails, IsForwardAnswer}
use Rattle.rx_dfa.specs.declared.step_error.StepError.{StepError}
use Rattle.rx_dfa.specs.declared.step_error.StepError.TheVariants.{Quit as QuitsAt, GaveUp as GivesUp, Memory as WantsMemory}
use Rattle.rx_search.specs.declared.match_error.MatchError.{MatchError}
use Rattle.rx_search.specs.declared.match_error.MatchError.TheVariants.{Quit, GaveUp, HaystackTooLong, UnsupportedAnchored, Memory}
use Rattle.rx_dfa.proofs.lemmas.CourseLemmas.{Going, going-start, going-next, met-dead, met-early, met-end, met-none, nothing_held, next-key, key-along, going-passed, going-forget, going-hold}
use Rattle.rx_dfa.proofs.lemmas.MetLemmas.{run-from, sees-from, nothing-met, to-end}
use Rattle.rx_dfa.proofs.lemmas.LastLemmas.{IsOver, none-of-missing}

-- what the first key keeps of the byte beside it
key_from-before : (d : Dfa) (loops : Bool) (before o : Option ℕ) → (key_from d.kind d.nfa.states loops before o).before ≡ before
unfolding start_key
key_from-before d loops before None = refl
key_from-before d loops before (Some start) = refl

pub first-before : (d : Dfa) (anchor : Anchor) (o : Option ℕ) → (first_key d anchor o).before ≡ class_beside d.keeps d.classes d.bytes o
first-before d anchor o = key_from-before d (loops_in anchor) (class_beside d.keeps d.classes d.bytes o) (start_of d.nfa anchor)

-- the byte after a place stands before the next place
pub before-next : (text : List ℕ) (i : ℕ) → byte_before text (i + 1) ≡ byte_after text i
before-next text i =
    let more : (i + 1 == 0) ≡ false = grind (arith, nat_tests) in
    let place : i + 1 - 1 ≡ i = omega arith in
    rw (more, place) refl

-- the sight tells of the places of a span, where the bytes beside them are readable
pub tells-forwards : (d : Dfa) → IsSound d → d.nfa.reverse ≡ false → (text : List ℕ) → AreBytes text → (k : Key) (e a : ℕ)
    → k.before ≡ class_beside d.keeps d.classes d.bytes (byte_before text a) → a ≤ e → e ≤ length text
    → ((j : ℕ) → a ≤ j → j ≤ e + 1 → IsReadable d.nfa (byte_before text j))
    → Sees (sight_of d) (forwards d.nfa.terminator text) (length text) d.nfa.states k.before e a
tells-forwards d sound forward text bytes k e a before le within readable =
    subst
    (λ r. Sees (class_sight d.nfa.terminator r d.keeps d.classes d.bytes) (forwards d.nfa.terminator text) (length text) d.nfa.states k.before e a)
    (sym forward)
    (subst
    (λ o. Sees (class_sight d.nfa.terminator false d.keeps d.classes d.bytes) (forwards d.nfa.terminator text) (length text) d.nfa.states o e a)
    (sym before)
    (sees-forwards d.nfa sound.in_range d.keeps d.classes d.bytes sound.serve text bytes e a le within
    (λ kind i asked low high word. (
      readable i low (omega arith) kind asked word,
      subst IsAsciiOrNone (before-next text i) (readable (i + 1) (omega arith) (omega arith) kind asked word),
    ))))

-- Why a search fails.

-- where the byte beside the span stands there
pub start-fails : (nfa : Nfa) (v : InputValue) (byte : Option ℕ) (beside place : ℕ) (gives_up wants : Type 0) (e : MatchError) → v.start ≤ beside + 1
    → beside ≤ v.end → v.start ≤ place → place ≤ v.end → ((b : ℕ) → byte ≡ Some b → slice_get v.haystack beside ≡ Some b)
    → StartFails nfa byte beside place gives_up wants e → SearchFails nfa v gives_up wants e
start-fails nfa v byte beside place gives_up wants (Quit quit offset) low high from to there h =
    let same : offset ≡ beside = h.0 in
    (omega arith, omega arith, ap (slice_get v.haystack) same ∙ there quit h.1, h.2)
start-fails nfa v byte beside place gives_up wants (GaveUp offset) low high from to there h =
    let same : offset ≡ place = h.0 in
    (omega arith, omega arith, h.1)
start-fails nfa v byte beside place gives_up wants (HaystackTooLong len) low high from to there h = h
start-fails nfa v byte beside place gives_up wants (UnsupportedAnchored mode) low high from to there h = h
start-fails nfa v byte beside place gives_up wants Memory low high from to there h = h

pub step-fails : (nfa : Nfa) (v : InputValue) (beside place byte : ℕ) (gives_up wants : Type 0) (e : StepError) → v.start ≤ beside + 1 → beside ≤ v.end
    → v.start ≤ place → place ≤ v.end → slice_get v.haystack beside ≡ Some byte → StepFails nfa (Some byte) gives_up wants e
    → SearchFails nfa v gives_up wants (placed beside place e)
step-fails nfa v beside place byte gives_up wants (QuitsAt quit) low high from to there h = (low, high, there ∙ h.0, h.1)
step-fails nfa v beside place byte gives_up wants GivesUp low high from to there h = (from, to, h)
step-fails nfa v beside place byte gives_up wants WantsMemory low high from to there h = h

-- a later part of the span fails as the span does
pub fails-later : (nfa : Nfa) (v : InputValue) (from : ℕ) (gives_up wants : Type 0) (e : MatchError) → v.start ≤ from
    → SearchFails nfa (from_place from v) gives_up wants e → SearchFails nfa v gives_up wants e
fails-later nfa v from gives_up wants (Quit byte offset) le h = let low = h.0 in (omega arith, h.1, h.2, h.3)
fails-later nfa v from gives_up wants (GaveUp offset) le h = let low = h.0 in (omega arith, h.1, h.2)
fails-later nfa v from gives_up wants (HaystackTooLong len) le h = h
fails-later nfa v from gives_up wants (UnsupportedAnchored mode) le h = h
fails-later nfa v from gives_up wants Memory le h = h

-- where there is a byte before a place, it stands at the place before
pub before-there : (text : List ℕ) (i b : ℕ) → byte_before text i ≡ Some b → slice_get text (i - 1) ≡ Some b
before-there text i b h =
    by_test (i == 0)
    (λ first.
    let gone : byte_before text i ≡ None = rw first refl in
    none-is-some (sym gone ∙ h))
    (λ later.
    let got : byte_before text i ≡ slice_get text (i - 1) = rw later refl in
    sym got ∙ h)

-- Where matches were met.

-- what was recorded, and what was refused, lies between these places
pub record LiesBetween (low high : ℕ) (r : Progress) : Type 0 where
  pub best : (h : HalfMatchValue) → r.best ≡ Some h → (low ≤ h.offset) × (h.offset ≤ high)
  pub refused : (p : ℕ) → r.refused ≡ Some p → (low ≤ p) × (p ≤ high)

met-between : (may : ℕ → Bool) (ms : List ℕ) (place : ℕ) (r : Progress) (low high : ℕ) → low ≤ place → place ≤ high → LiesBetween low high r
    → LiesBetween low high (met_within may ms place r)
met-between may [] place r low high from to before = before
met-between may (q ∷ qs) place r low high from to before = each (may place)
  where
    new : (h : HalfMatchValue) → ◌≡◌ {A = Option HalfMatchValue} (Some (record { pattern = q; offset = place })) (Some h) → (low ≤ h.offset) × (h.offset ≤ high)
    new h is = let same : place ≡ h.offset = ap (λ (x : HalfMatchValue). x.offset) (some-is is) in (omega arith, omega arith)

    first : (o : Option ℕ) → r.refused ≡ o → (p : ℕ) → option_or o (Some place) ≡ Some p → (low ≤ p) × (p ≤ high)
    first None was p h = let same : place ≡ p = some-is h in (omega arith, omega arith)
    first (Some x) was p h = before.refused p (was ∙ h)

    each : (t : Bool) → LiesBetween low high (recorded t q place r)
    each true = record { best = new; refused = before.refused }
    each false = record { best = before.best; refused = first r.refused refl }

run-between : (d : Dfa) (around : Surroundings) (may : ℕ → Bool) (size n i : ℕ) (k : Key) (r : Progress) (low high : ℕ) → low ≤ i → i + n ≤ high
    → LiesBetween low high r → LiesBetween low high (progress_of d around may size n i k r)
unfolding run_within
run-between d around may size zero i k r low high from to before =
    met-between may (end_of d k (byte_within around.byte size i)).matches i r low high from (omega arith) before
run-between d around may size (suc n) i k r low high from to before =
    run-between d around may size n (i + 1) (next_key d k (around.byte i)) (met_within may (next_key d k (around.byte i)).matches i r) low high (omega arith)
    (omega arith)
    (met-between may (next_key d k (around.byte i)).matches i r low high from (omega arith) before)

pub along-between : (d : Dfa) (around : Surroundings) (may : ℕ → Bool) (size b a : ℕ) (k : Key) (earliest : Bool) (r : Progress)
    → IsMetAlong d around may size b a k earliest r → LiesBetween a b r
along-between d around may size b a k earliest r m =
    let low = m.low in
    let high = m.high in
    subst (LiesBetween a b) (sym m.is)
    (run-between d around may size (m.stop - a) a k fresh a b (omega arith) (omega arith)
    (record { best = λ h none. none-is-some none; refused = λ p none. none-is-some none }))

pub forwards-between : (d : Dfa) (v : InputValue) (r : Progress) → IsMetForwards d v r → LiesBetween v.start v.end r
forwards-between d v r m =
    along-between d (forwards d.nfa.terminator v.haystack) (is_permitted d.nfa.utf8 v.haystack) (length v.haystack) v.end v.start
    (first_key d v.anchor (byte_before v.haystack v.start)) v.earliest r m

-- behind the end no match starts
pub past-none : (nfa : Nfa) (utf8 : Bool) (text : List ℕ) (anchor : Anchor) (b a : ℕ) → b < a → next_match_of nfa utf8 text anchor b a ≡ None
unfolding next_match_of first_start
past-none nfa utf8 text _ b a lt = let past : nat_lt b a ≡ true = grind (arith, nat_tests) in rw past refl

none-there : (nfa : Nfa) → IsInRange nfa → (sight : Sight) (utf8 : Bool) (text : List ℕ) (anchor : Anchor) (b a : ℕ) → b ≤ length text
    → start_of nfa anchor ≡ None
    → next_match_of nfa utf8 text anchor b a ≡ None
unfolding next_match_of
none-there nfa range sight utf8 text anchor b a within none =
    ap (λ o. first_start (is_permitted utf8 text) (first_from nfa.terminator nfa.states text b o) (starts anchor a b) a) none
    ∙ none-starts nfa range sight text b within (is_permitted utf8 text) (starts anchor a b) a

again-none : (loops : Bool) (b : ℕ) (go : ℕ → Option HalfMatchValue) → begin_again loops b None go ≡ None
again-none true b go = refl
again-none false b go = refl

module _ (d : Dfa) (sound : IsSound d) (leftmost : d.kind ≡ LeftmostFirst) (v : InputValue) (spanned : v.end ≤ length v.haystack) (x : Progress)
    (m : IsMetForwards d v x) (r : Patterns) (premises : Premises (IsNfaOf d.nfa r) None r v) where
  abbrev nfa : Nfa
  nfa = d.nfa

  abbrev text : List ℕ
  text = v.haystack

  abbrev around : Surroundings
  around = forwards nfa.terminator text

  abbrev may : ℕ → Bool
  may = is_permitted nfa.utf8 text

  abbrev before : Option ℕ
  before = class_beside d.keeps d.classes d.bytes (byte_before text v.start)

  abbrev next_by : (to from : ℕ) → Option HalfMatchValue
  next_by to from = option_map half_match_value (next_match_of nfa nfa.utf8 text v.anchor to from)

  -- what was met tells, where the automaton stopped
  abbrev Once : Option HalfMatchValue → Type 0
  Once found = next_by m.stop v.start ≡ found

  abbrev told : Progress → Option HalfMatchValue
  told p = option_or p.best (begin_again (loops_in v.anchor) m.stop p.refused (λ place. next_by m.stop (place + 1)))

  keeps : (q : ℕ) → start_of nfa v.anchor ≡ Some q → nfa.utf8 ≡ true → KeepsCharacters nfa.terminator nfa.states text m.stop q
  keeps q is on =
      let high = m.high in
      walks-keep nfa r premises.is_for.runs text (premises.utf8 (premises.is_for.utf8 ∙ on)) m.stop (omega arith) v.anchor q is

  pub once : Once (told x)
  once = by_start (start_of nfa v.anchor) refl
    where
      by_start : (o : Option ℕ) → start_of nfa v.anchor ≡ o → Once (told x)
      by_start None is =
          let high = m.high in
          ap (option_map half_match_value) (none-there nfa sound.in_range (sight_of d) nfa.utf8 text v.anchor m.stop v.start (omega arith) is)
          ∙ sym (ap told (nothing-met d v x m is) ∙ again-none (loops_in v.anchor) m.stop (λ place. next_by m.stop (place + 1)))
      by_start (Some q) is =
          let high = m.high in
          search-once nfa sound.in_range (sight_of d) text m.stop (omega arith) nfa.utf8 v.anchor v.start before m.low q is (keeps q is)
          (sees-from d v x m LeftmostFirst leftmost q is)
          ∙ ap told (sym (run-from d v x m LeftmostFirst leftmost q is))

  -- what was found is the next match up to the place where the automaton stopped
  pub found-once : (h : HalfMatchValue) → x.best ≡ Some h → next_by m.stop v.start ≡ Some h
  found-once h is = once ∙ ap (λ o. option_or o (begin_again (loops_in v.anchor) m.stop x.refused (λ place. next_by m.stop (place + 1)))) is

  pub none-once : x.best ≡ None → next_by v.end v.start ≡ begin_again (loops_in v.anchor) v.end x.refused (λ place. next_by v.end (place + 1))
  none-once none =
      let same = to-end d v x m none in
      subst (λ e. next_by e v.start ≡ begin_again (loops_in v.anchor) e x.refused (λ place. next_by e (place + 1))) same
      (once ∙ ap (λ o. option_or o (begin_again (loops_in v.anchor) m.stop x.refused (λ place. next_by m.stop (place + 1)))) none)

  -- no match starts later
  pub ends-anchored : x.best ≡ None → is_anchored v.anchor ≡ true → next_by v.end v.start ≡ None
  ends-anchored none on =
      none-once none ∙ ap (λ l. begin_again (not l) v.end x.refused (λ place. next_by v.end (place + 1))) on

  pub ends-unrefused : x.best ≡ None → x.refused ≡ None → next_by v.end v.start ≡ None
  ends-unrefused none is =
      none-once none ∙ ap (λ o. begin_again (loops_in v.anchor) v.end o (λ place. next_by v.end (place + 1))) is
      ∙ again-none (loops_in v.anchor) v.end (λ place. next_by v.end (place + 1))

  -- the search begins again behind the first end that was refused
  pub goes-on : x.best ≡ None → is_anchored v.anchor ≡ false → (p : ℕ) → x.refused ≡ Some p → next_by v.end v.start ≡ next_by v.end (p + 1)
  goes-on none off p is =
      none-once none
      ∙ (λ j. begin_again (not (off j)) v.end (is j) (λ place. next_by v.end (place + 1)))
      ∙ by_test (nat_lt p v.end)
      (λ e. rw e refl)
      (λ e.
      let past : v.end < p + 1 = grind (arith, nat_tests) in
      rw e (sym (ap (option_map half_match_value) (past-none nfa nfa.utf8 text v.anchor v.end (p + 1) past))))

-- a match within an end is one within a later end
pub is-later : (nfa : Nfa) (text : List ℕ) (anchor : Anchor) (r : Patterns) → IsNfaOf nfa r → (e b a : ℕ) → e ≤ b → b ≤ length text
    → is_some (next_match_of nfa nfa.utf8 text anchor e a) ≡ true → is_some (next_match_of nfa nfa.utf8 text anchor b a) ≡ true
is-later nfa text anchor r of e b a le within some =
    elim (tells (next_match r text anchor e a)) [
      | inl none ↦ absurd (true≢false (sym some ∙ ap is_some (agree e (omega arith) ∙ ap (option_map (told_of r.which_captures)) none)))
      | inr found ↦
          elim (tells (next_match r text anchor b a)) [
            | inl none ↦ absurd (match-next r text anchor b a found.0 (next-later r text anchor e b a found.0 found.1 le) none)
            | inr there ↦ ap is_some (agree b within ∙ ap (option_map (told_of r.which_captures)) there.1)
          ]
    ]
  where
    agree : (end : ℕ) → end ≤ length text
        → next_match_of nfa nfa.utf8 text anchor end a ≡ option_map (told_of r.which_captures) (next_match r text anchor end a)
    agree end within = next_match_of-patterns nfa r text end within of.runs nfa.utf8 anchor a of.utf8

half-some : (o : Option Match) → is_some (option_map half_match_value o) ≡ is_some o
half-some None = refl
half-some (Some m) = refl

-- the premises of a later part of the span
abbrev later-premises : (m : Nfa) (v : InputValue) (from : ℕ) (r : Patterns) → Premises (IsNfaOf m r) None r v
    → Premises (IsNfaOf m r) None r (from_place from v)
later-premises m v from r p = record { is_for = p.is_for; begins = p.begins; utf8 = p.utf8 }

-- where there is no match, nothing is found
pub nothing-found : (nfa : Nfa) (v : InputValue) → option_map half_match_value (next_match_in nfa v) ≡ None → IsForwardAnswer nfa v None
nothing-found nfa v none = record {
  value = λ whole. sym none;
  exists = sym (sym (half-some (next_match_in nfa v)) ∙ ap is_some none);
  is_match = tt;
}

-- One search from a place on, where the next match from there has the half of the next match.
module _ (d : Dfa) (sound : IsSound d) (v : InputValue) (spanned : v.end ≤ length v.haystack) (from : ℕ) (low : v.start ≤ from)
    (begins : is_anchored v.anchor ≡ true → from ≡ v.start) (x : Progress) (m : IsMetForwards d (from_place from v) x) (leftmost : d.kind ≡ LeftmostFirst)
    (r : Patterns) (p : Premises (IsNfaOf d.nfa r) None r v)
    (next : option_map half_match_value (next_match_in d.nfa v)
    ≡ option_map half_match_value (next_match_of d.nfa d.nfa.utf8 v.haystack v.anchor v.end from)) where
  -- something was found
  pub found-from : (h : HalfMatchValue) → x.best ≡ Some h → IsForwardAnswer d.nfa v (Some h)
  found-from h is =
      let once = found-once d sound leftmost (from_place from v) spanned x m r (later-premises d.nfa v from r p) h is in
      let some : is_some (next_match_of d.nfa d.nfa.utf8 v.haystack v.anchor m.stop from) ≡ true =
      sym (half-some (next_match_of d.nfa d.nfa.utf8 v.haystack v.anchor m.stop from)) ∙ ap is_some once in
      let there : is_some (next_match_in d.nfa v) ≡ true =
      sym (half-some (next_match_in d.nfa v)) ∙ ap is_some next
      ∙ half-some (next_match_of d.nfa d.nfa.utf8 v.haystack v.anchor v.end from)
      ∙ is-later d.nfa v.haystack v.anchor r p.is_for m.stop v.end from m.high spanned some in
      record {
        value = λ whole.
            elim m.whole [
              | inl same ↦ sym
                  (next ∙ ap (λ e. option_map half_match_value (next_match_of d.nfa d.nfa.utf8 v.haystack v.anchor e from))
                  (sym same) ∙ once)
              | inr early ↦ absurd (true≢false (sym early.0 ∙ whole))
            ];
        exists = sym there;
        is_match = record { from = from; to = m.stop; low = low; high = m.high; begins = begins; is_next = once };
      }

  -- nothing was found, and the search may start nowhere else
  pub anchored-from : x.best ≡ None → is_anchored v.anchor ≡ true → IsForwardAnswer d.nfa v None
  anchored-from none on =
      nothing-found d.nfa v (next ∙ ends-anchored d sound leftmost (from_place from v) spanned x m r (later-premises d.nfa v from r p) none on)

  -- nothing was found, nor refused
  pub unrefused-from : x.best ≡ None → x.refused ≡ None → IsForwardAnswer d.nfa v None
  unrefused-from none is =
      nothing-found d.nfa v (next ∙ ends-unrefused d sound leftmost (from_place from v) spanned x m r (later-premises d.nfa v from r p) none is)

  -- the search begins again
  pub next-from : x.best ≡ None → is_anchored v.anchor ≡ false → (place : ℕ) → x.refused ≡ Some place
      → option_map half_match_value (next_match_in d.nfa v)
      ≡ option_map half_match_value (next_match_of d.nfa d.nfa.utf8 v.haystack v.anchor v.end (place + 1))
  next-from none off place is = next ∙ goes-on d sound leftmost (from_place from v) spanned x m r (later-premises d.nfa v from r p) none off place is

-- The searches from one place on stand for the whole search.
pub record Stands (d : Dfa) (v : InputValue) (from : ℕ) : Type 0 where
  pub low : v.start ≤ from
  pub begins : is_anchored v.anchor ≡ true → from ≡ v.start
  pub next : d.kind ≡ LeftmostFirst → (r : Patterns) → Premises (IsNfaOf d.nfa r) None r v
      → option_map half_match_value (next_match_in d.nfa v) ≡ option_map half_match_value (next_match_of d.nfa d.nfa.utf8 v.haystack v.anchor v.end from)
  pub over : d.kind ≡ All → IsOver d v from

-- the search is past the span's end
pub nothing-past : (d : Dfa) (v : InputValue) (from : ℕ) → Stands d v from → v.end < from
    → (r : Patterns) → Premises (IsNfaOf d.nfa r) None r v → d.kind ≡ LeftmostFirst → IsForwardAnswer d.nfa v None
nothing-past d v from stands past r p leftmost =
    nothing-found d.nfa v
    (stands.next leftmost r p ∙ ap (option_map half_match_value) (past-none d.nfa d.nfa.utf8 v.haystack v.anchor v.end from past))

pub stands-first : (d : Dfa) (v : InputValue) → Stands d v v.start
stands-first d v = record { low = omega arith; begins = λ on. refl; next = λ leftmost r p. refl; over = λ every. inl refl }

module _ (d : Dfa) (sound : IsSound d) (v : InputValue) (spanned : v.end ≤ length v.haystack) (from : ℕ)
    (stands : Stands d v from) (x : Progress) (m : IsMetForwards d (from_place from v) x) where
  -- something was found
  pub answer-found : (h : HalfMatchValue) → x.best ≡ Some h → (r : Patterns) → Premises (IsNfaOf d.nfa r) None r v → d.kind ≡ LeftmostFirst
      → IsForwardAnswer d.nfa v (Some h)
  answer-found h is r p leftmost =
      found-from d sound v spanned from stands.low stands.begins x m leftmost r p (stands.next leftmost r p) h is

  -- nothing was found, and the search may start nowhere else
  pub answer-anchored : x.best ≡ None → is_anchored v.anchor ≡ true → (r : Patterns) → Premises (IsNfaOf d.nfa r) None r v → d.kind ≡ LeftmostFirst
      → IsForwardAnswer d.nfa v None
  answer-anchored none on r p leftmost =
      anchored-from d sound v spanned from stands.low stands.begins x m leftmost r p (stands.next leftmost r p) none on

  -- nothing was found, nor refused
  pub answer-unrefused : x.best ≡ None → x.refused ≡ None → (r : Patterns) → Premises (IsNfaOf d.nfa r) None r v → d.kind ≡ LeftmostFirst
      → IsForwardAnswer d.nfa v None
  answer-unrefused none is r p leftmost =
      unrefused-from d sound v spanned from stands.low stands.begins x m leftmost r p (stands.next leftmost r p) none is

  -- the search begins again
  pub stands-next : x.best ≡ None → is_anchored v.anchor ≡ false → (place : ℕ) → x.refused ≡ Some place → Stands d v (place + 1)
  stands-next none off place is =
      let first = stands.low in
      let within = (forwards-between d (from_place from v) x m).refused place is in
      let low = within.0 in
      record {
        low = omega arith;
        begins = λ on. absurd (true≢false (sym on ∙ off));
        next = λ leftmost r p.
            next-from d sound v spanned from stands.low stands.begins x m leftmost r p (stands.next leftmost r p) none off place is;
        over = λ every. inr (none-of-missing d sound every v spanned from stands.low stands.begins (stands.over every) x m none);
      }

-- The loop of a forward search.

-- the key at a place of the input's span
abbrev pub key_ahead : Dfa → InputValue → (at : ℕ) → Key
key_ahead d v at = key_of d (forwards d.nfa.terminator v.haystack) (at - v.start) v.start (first_key d v.anchor (byte_before v.haystack v.start))

-- what the loop keeps
abbrev pub GoingAhead : {F C : Type 0} → (F → C → ℕ → Key → Type 0) → F → C → ℕ → Dfa → InputValue → (at : ℕ) → Progress → Type 0
GoingAhead holds a cache state d v at r =
    Going holds a cache state d (forwards d.nfa.terminator v.haystack) (is_permitted d.nfa.utf8 v.haystack) (byte_before v.haystack) (length v.haystack) v.start
    (first_key d v.anchor (byte_before v.haystack v.start)) at r

module _ (d : Dfa) (sound : IsSound d) (forward : d.nfa.reverse ≡ false) (v : InputValue) (in_order : v.start ≤ v.end) (spanned : v.end ≤ length v.haystack)
    (bytes : AreBytes v.haystack) where
  abbrev ahead : Surroundings
  ahead = forwards d.nfa.terminator v.haystack

  abbrev allowed : ℕ → Bool
  allowed = is_permitted d.nfa.utf8 v.haystack

  abbrev opening : Key
  opening = first_key d v.anchor (byte_before v.haystack v.start)

  pub tells-ahead : (e : ℕ) → v.start ≤ e → e ≤ v.end → ((j : ℕ) → v.start ≤ j → j ≤ e + 1 → IsReadable d.nfa (byte_before v.haystack j))
      → Sees (sight_of d) ahead (length v.haystack) d.nfa.states opening.before e v.start
  tells-ahead e low high readable =
      tells-forwards d sound forward v.haystack bytes opening e v.start (first-before d v.anchor (byte_before v.haystack v.start)) low (omega arith) readable

  pub read-here : (at byte : ℕ) → at < v.end → byte ≡ slice_index v.haystack at → IsReadable d.nfa (Some byte)
      → IsReadable d.nfa (byte_before v.haystack (at + 1))
  read-here at byte lt is readable =
      subst (IsReadable d.nfa) (ap Some is ∙ sym (slice_get-get_or v.haystack at 0 (omega arith)) ∙ sym (before-next v.haystack at)) readable

  module _ {F C : Type 0} (holds : F → C → ℕ → Key → Type 0) (a : F) where
    pub ahead-start : (cache : C) (state at : ℕ) (r : Progress) → at ≡ v.start → r ≡ fresh → holds a cache state opening
        → IsReadable d.nfa (byte_before v.haystack v.start) → is_dead opening ≡ false → GoingAhead holds a cache state d v at r
    ahead-start cache state at r at_is r_is held readable alive =
        subst (λ i. GoingAhead holds a cache state d v i r) (sym at_is)
        (subst (λ x. GoingAhead holds a cache state d v v.start x) (sym r_is)
        (going-start d ahead allowed (byte_before v.haystack) (length v.haystack) v.end v.start spanned opening holds a cache state held readable alive))

    pub ahead-next : (cache new : C) (state next at : ℕ) (r r' : Progress) (byte : ℕ) → v.start ≤ at → at < v.end → byte ≡ slice_index v.haystack at
        → GoingAhead holds a cache state d v at r
        → holds a new next (next_key d (key_ahead d v at) byte) → IsReadable d.nfa (Some byte) → is_dead (next_key d (key_ahead d v at) byte) ≡ false
        → r' ≡ met_within allowed (next_key d (key_ahead d v at) byte).matches at r
        → GoingAhead holds a new next d v (at + 1) r'
    ahead-next cache new state next at r r' byte low lt is going held readable alive met =
        going-next d ahead allowed (byte_before v.haystack) (length v.haystack) v.end v.start spanned opening holds a cache new state next at r r' byte low is
        going held (read-here at byte lt is readable) alive met

    pub ahead-dead : (cache : C) (state at : ℕ) (r r' : Progress) (byte : ℕ) → v.start ≤ at → at < v.end → byte ≡ slice_index v.haystack at
        → GoingAhead holds a cache state d v at r
        → IsReadable d.nfa (Some byte) → is_dead (next_key d (key_ahead d v at) byte) ≡ true
        → r' ≡ met_within allowed (next_key d (key_ahead d v at) byte).matches at r
        → IsMetForwards d v r'
    ahead-dead cache state at r r' byte low lt is going readable dead met =
        met-dead d ahead allowed (byte_before v.haystack) (length v.haystack) v.end v.start spanned opening holds a tells-ahead cache state at r r' byte
        v.earliest low lt is going (read-here at byte lt is readable) dead met

    pub ahead-early : (cache : C) (state at : ℕ) (r r' : Progress) (byte : ℕ) → v.start ≤ at → at < v.end → byte ≡ slice_index v.haystack at
        → GoingAhead holds a cache state d v at r
        → IsReadable d.nfa (Some byte)
        → r' ≡ met_within allowed (next_key d (key_ahead d v at) byte).matches at r
        → (v.earliest && is_some r'.best) ≡ true
        → IsMetForwards d v r'
    ahead-early cache state at r r' byte low lt is going readable met enough =
        met-early d ahead allowed (byte_before v.haystack) (length v.haystack) v.end v.start spanned opening holds a tells-ahead cache state at r r' byte
        v.earliest low lt is going (read-here at byte lt is readable) met enough

    pub ahead-end : (cache : C) (state : ℕ) (r r' : Progress) (last : Key)
        → GoingAhead holds a cache state d v v.end r
        → IsReadable d.nfa (byte_after v.haystack v.end)
        → last.matches ≡ (end_of d (key_ahead d v v.end) (byte_after v.haystack v.end)).matches
        → r' ≡ met_within allowed last.matches v.end r
        → IsMetForwards d v r'
    ahead-end cache state r r' last going readable told met =
        met-end d ahead allowed (byte_before v.haystack) (length v.haystack) v.end v.start spanned opening holds a tells-ahead cache state r r' last
        (byte_after v.haystack v.end) v.earliest in_order (within-get v.haystack v.end) going
        (subst (IsReadable d.nfa) (sym (before-next v.haystack v.end)) readable) told met

-- A search stands behind the byte at the place, of which nothing is told yet but that it is read.
pub record Arrives {F C : Type 0} (holds : F → C → ℕ → Key → Type 0) (a : F) (old new : C) (before next : ℕ) (d : Dfa) (v : InputValue) (place byte : ℕ)
    (r : Progress) : Type 0 where
  pub past : GoingAhead nothing_held a old before d v place r
  pub held : holds a new next (next_key d (key_ahead d v place) byte)
  pub readable : IsReadable d.nfa (Some byte)

module _ (d : Dfa) (sound : IsSound d) (forward : d.nfa.reverse ≡ false) (v : InputValue) (in_order : v.start ≤ v.end) (spanned : v.end ≤ length v.haystack)
    (bytes : AreBytes v.haystack) {F C : Type 0} (holds : F → C → ℕ → Key → Type 0) (a : F) (old new : C) (state next from place end : ℕ) (r : Progress)
    (text : List ℕ) (is_text : text ≡ v.haystack) (is_end : end ≡ v.end) (low : v.start ≤ from) (le : from ≤ place) (high : place ≤ end)
    (passed : IsPassed (holds a new) d (λ i. slice_index text (from + i)) (key_ahead d v from) (place - from) (end - from) next)
    (going : GoingAhead holds a old state d v from r) where
  abbrev around_text : Surroundings
  around_text = forwards d.nfa.terminator v.haystack

  abbrev read : ℕ → ℕ
  read i = slice_index text (from + i)

  abbrev first_here : Key
  first_here = first_key d v.anchor (byte_before v.haystack v.start)

  read-is : (i : ℕ) → read i ≡ slice_index v.haystack (from + i)
  read-is i = ap (λ (t : List ℕ). slice_index t (from + i)) is_text

  pub past-plain : GoingAhead nothing_held a old state d v place r
  past-plain =
      let count : from + (place - from) ≡ place = omega arith in
      subst (λ i. GoingAhead nothing_held a old state d v i r) count
      (going-passed d around_text (is_permitted d.nfa.utf8 v.haystack) (byte_before v.haystack) (length v.haystack) v.end v.start spanned first_here a old state
      from (place - from) r read low (λ i lt. read-is i)
      (λ i lt. read-here d sound forward v in_order spanned bytes (from + i) (read i) (omega arith) (read-is i) (passed.plain.readable i lt))
      passed.plain
      (going-forget d around_text (is_permitted d.nfa.utf8 v.haystack) (byte_before v.haystack) (length v.haystack) v.end v.start spanned first_here holds a old
      new state next from r going))

  key-there : along d read (place - from) (key_ahead d v from) ≡ key_ahead d v place
  key-there =
      let count : from + (place - from) ≡ place = omega arith in
      key-along d around_text (is_permitted d.nfa.utf8 v.haystack) (byte_before v.haystack) (length v.haystack) v.end v.start spanned first_here
      from (place - from) read low (λ i lt. read-is i)
      ∙ ap (key_ahead d v) count

  pub passed-end : place ≡ end → GoingAhead holds a new next d v place r
  passed-end same =
      going-hold d around_text (is_permitted d.nfa.utf8 v.haystack) (byte_before v.haystack) (length v.haystack) v.end v.start spanned first_here holds a old new
      state next place r past-plain
      (subst (holds a new next) key-there (passed.at_end (omega arith)))

  pub passed-before : place < end → Arrives holds a old new state next d v place (slice_index v.haystack place) r
  passed-before lt =
      let count : from + (place - from) ≡ place = omega arith in
      let byte : read (place - from) ≡ slice_index v.haystack place = read-is (place - from) ∙ ap (slice_index v.haystack) count in
      let behind = passed.behind (omega arith) in
      record {
        past = past-plain;
        held = subst (holds a new next) (λ j. next_key d (key-there j) (byte j)) behind.0;
        readable = subst (λ (b : ℕ). IsReadable d.nfa (Some b)) byte behind.1;
      }

-- on from there
pub arrived-next : (d : Dfa) (sound : IsSound d) (forward : d.nfa.reverse ≡ false) (v : InputValue) (in_order : v.start ≤ v.end)
    (spanned : v.end ≤ length v.haystack) (bytes : AreBytes v.haystack) {F C : Type 0} (holds : F → C → ℕ → Key → Type 0) (a : F) (old new : C)
    (before next place : ℕ) (r r' : Progress) → v.start ≤ place → place < v.end
    → Arrives holds a old new before next d v place (slice_index v.haystack place) r
    → is_dead (next_key d (key_ahead d v place) (slice_index v.haystack place)) ≡ false
    → r' ≡ met_within (is_permitted d.nfa.utf8 v.haystack) (next_key d (key_ahead d v place) (slice_index v.haystack place)).matches place r
    → GoingAhead holds a new next d v (place + 1) r'
arrived-next d sound forward v in_order spanned bytes holds a old new before next place r r' low lt there alive met =
    let around = forwards d.nfa.terminator v.haystack in
    let k = first_key d v.anchor (byte_before v.haystack v.start) in
    going-hold d around (is_permitted d.nfa.utf8 v.haystack) (byte_before v.haystack) (length v.haystack) v.end v.start spanned k holds a old new before next
    (place + 1) r'
    (ahead-next d sound forward v in_order spanned bytes nothing_held a old old before before place r r' (slice_index v.haystack place) low lt refl there.past
    tt there.readable alive met)
    (subst (holds a new next)
    (sym (next-key d around (is_permitted d.nfa.utf8 v.haystack) (byte_before v.haystack) (length v.haystack) v.end v.start spanned k place low)) there.held)

-- where the first key is dead
pub ahead-none : (d : Dfa) (v : InputValue) → v.start ≤ v.end → v.end ≤ length v.haystack → (r : Progress) → r ≡ fresh
    → is_dead (first_key d v.anchor (byte_before v.haystack v.start)) ≡ true → IsMetForwards d v r
ahead-none d v in_order spanned r is dead =
    subst (IsMetForwards d v) (sym is)
    (met-none d (forwards d.nfa.terminator v.haystack) (is_permitted d.nfa.utf8 v.haystack) (byte_before v.haystack) (length v.haystack) v.end v.start spanned
    (first_key d v.anchor (byte_before v.haystack v.start)) v.earliest in_order dead)
