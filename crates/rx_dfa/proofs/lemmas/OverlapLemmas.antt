-- What a search adds to a set of patterns.
use Rattle.std.proofs.Common.{◌≡◌, ℕ, ⊎_elim, ◌+◌, ◌-◌, ◌≤◌, ◌<◌, List, [], length, set, refl, sym, ◌∙◌, ap, subst, inl, inr, arith, true≢false}
use Rattle.std.specs.Prelude.{Bool, true, false, Option, Some, None, option_map, IfSome, IsSome, MatchOption, slice_index}
use Rattle.std.proofs.lemmas.Bool.{cases_lt}
use Rattle.std.proofs.lemmas.List.Elements.{All-weaker}
use Rattle.std.proofs.lemmas.Option.{slice_get_within, slice_get-get_or}
use Rattle.rx_model.specs.Look.{byte_before, byte_after}
use Rattle.rx_model.specs.Search.{is_permitted, Patterns, Match}
use Rattle.rx_model.proofs.lemmas.runs.RunLemmas.{by_test}
use Rattle.rx_model.proofs.lemmas.runs.FirstLemmas.{none-is-some, some-is}
use Rattle.rx_model.proofs.lemmas.matches.WithinLemmas.{next-run}
use Rattle.rx_search.specs.Input.{InputValue, next_in}
use Rattle.rx_search.specs.Matches.{HalfMatchValue, half_match_value}
use Rattle.rx_search.specs.PatternSet.{has, count_of}
use Rattle.rx_search.specs.Promise.{Premises}
use Rattle.rx_search.specs.Sets.{MatchesIn, KeepsMembers, GainsMatching, IsFilledFor}
use Rattle.rx_search.specs.Told.{IsMatchWith}
use Rattle.rx_search.specs.declared.anchored.MatchKind.{MatchKind}
use Rattle.rx_search.specs.declared.anchored.MatchKind.TheVariants.{All}
use Rattle.rx_nfa.specs.Automaton.{Surroundings, forwards, byte_within}
use Rattle.rx_nfa.specs.Nfa.{Nfa, IsNfaOf}
use Rattle.rx_nfa.specs.NextMatch.{start_of}
use Rattle.rx_nfa.specs.Ordered.{AreBelow, has as stands_in, threads_from}
use Rattle.rx_determinize.specs.Key.{Key, is_dead, matching, start_key, end_key}
use Rattle.rx_determinize.specs.Sight.{class_beside, AreBytes}
use Rattle.rx_determinize.specs.Span.{loops_in, told_at, SeesWhileAlive}
use Rattle.rx_determinize.specs.Permitted.{Progress, fresh}
use Rattle.rx_determinize.proofs.lemmas.DeadLemmas.{threads-nil}
use Rattle.rx_determinize.proofs.lemmas.SeenLemmas.{key_at-add, stays-dead, seen-all}
use Rattle.rx_determinize.proofs.lemmas.SightLemmas.{within-get}
use Rattle.rx_determinize.proofs.lemmas.SpanLemmas.{start-inside}
use Rattle.rx_determinize.proofs.lemmas.ToldLemmas.{told-runs, runs-told}
use Rattle.rx_dfa.specs.Automaton.{Dfa, IsSound, IsReadable, sight_of, key_from, first_key, next_key}
use Rattle.rx_dfa.specs.Course.{key_of, end_of, progress_of, IsMetForwards}
use Rattle.rx_dfa.specs.Overlapping.{AddsTold, AddsEnds, HasEndsTo}
use Rattle.rx_dfa.specs.Search.{HasRunIn, IsEnd, IsAnswerFor}
use Rattle.rx_dfa.proofs.lemmas.AnswerLemmas.{half-told, not-both, end-match, match-ends}
use Rattle.rx_dfa.proofs.lemmas.CourseLemmas.{dead-threads, dead-loops, first-key, next-key, readable-next, step-last}
use Rattle.rx_dfa.proofs.lemmas.ForwardLemmas.{key_ahead, tells-ahead, read-here, before-next}
use Rattle.rx_dfa.proofs.lemmas.MetLemmas.{sees-from, keys-from}
use Rattle.rx_dfa.proofs.lemmas.SetLemmas.{keeps-same, keeps-twice, set-there, set-keeps, set-gains, full-has}

-- What a search added on its way to this place.
pub record FillsTo (nfa : Nfa) (v : InputValue) (place : ℕ) (old new : List Bool) : Type 0 where
  pub adds : AddsEnds nfa v old new
  pub ends : HasEndsTo nfa v place new

-- At first nothing was added.
pub fills-none : (nfa : Nfa) (v : InputValue) (place : ℕ) → place ≤ v.start → (set : List Bool) → FillsTo nfa v place set set
fills-none nfa v place le set = record {
  adds = record { kept = keeps-same set; gained = λ p missing there. absurd (true≢false (sym there ∙ missing)) };
  ends = λ p e lt from to on run. absurd (omega arith);
}

-- What the keys tell of a place under `All`.
module _ (d : Dfa) (sound : IsSound d) (every : d.kind ≡ All) (v : InputValue) (spanned : v.end ≤ length v.haystack) where
  abbrev around : Surroundings
  around = forwards d.nfa.terminator v.haystack

  abbrev size : ℕ
  size = length v.haystack

  abbrev opening : Key
  opening = first_key d v.anchor (byte_before v.haystack v.start)

  abbrev before : Option ℕ
  before = class_beside d.keeps d.classes d.bytes (byte_before v.haystack v.start)

  -- the patterns that match there
  abbrev pub told_of_place : ℕ → List ℕ
  told_of_place e = (end_of d (key_ahead d v e) (byte_after v.haystack e)).matches

  -- the sight told of look-around as far as this place, while the keys lived
  abbrev pub SawTo : ℕ → Type 0
  SawTo b = SeesWhileAlive d.kind (sight_of d) around size d.nfa.states d.nfa.start_anchored opening b v.start

  pub saw-fewer : (b e : ℕ) → e ≤ b → SawTo b → SawTo e
  saw-fewer b e le saw = record { sees = λ i low high alive. saw.sees i low (omega arith) alive }

  -- as a search of the span up to there
  abbrev until : ℕ → InputValue
  until e = record v { end = e }

  met-until : (e : ℕ) → v.start ≤ e → SawTo e
      → IsMetForwards d (until e) (progress_of d around (is_permitted d.nfa.utf8 v.haystack) size (e - v.start) v.start opening fresh)
  met-until e low saw = record { stop = e; low = low; high = omega arith; is = refl; sees = saw; whole = inl refl }

  told-keys : (q : ℕ) → start_of d.nfa v.anchor ≡ Some q → (e : ℕ) → v.start ≤ e
      → told_at All d.nfa.states q (sight_of d) around size (e - v.start) v.start (start_key All d.nfa.states q (loops_in v.anchor) before) ≡ told_of_place e
  told-keys q is e low =
      let place : v.start + (e - v.start) ≡ e = omega arith in
      let keys = keys-from d v All every q is (e - v.start) in
      let byte : byte_within around.byte size (v.start + (e - v.start)) ≡ byte_after v.haystack e =
      ap (byte_within around.byte size) place ∙ within-get v.haystack e in
      λ j. (end_key (sym every j) d.nfa.states (sight_of d) (sym keys j) (byte j)).matches

  -- behind a dead key nothing is told
  dead-tells : (at e : ℕ) → v.start ≤ at → at ≤ e → is_dead (key_ahead d v at) ≡ true → told_of_place e ≡ []
  unfolding end_key
  dead-tells at e low le dead =
      let count : e - v.start ≡ at - v.start + (e - at) = omega arith in
      let k = key_ahead d v at in
      let same : key_ahead d v e ≡ key_of d around (e - at) (v.start + (at - v.start)) k =
      ap (λ n. key_of d around n v.start opening) count
      ∙ key_at-add d.kind around size d.nfa.states d.nfa.start_anchored (sight_of d) (at - v.start) (e - at) v.start opening in
      let stays = stays-dead d.kind around size d.nfa.states d.nfa.start_anchored (sight_of d) (e - at) (v.start + (at - v.start)) k (dead-threads k dead)
      (dead-loops k dead) in
      let none : (key_ahead d v e).threads ≡ [] = ap (λ (x : Key). x.threads) same ∙ stays.0 in
      let holding = (sight_of d).holds (key_ahead d v e).before (byte_after v.haystack e) in
      ap (λ qs. matching d.kind d.nfa.states (threads_from d.nfa.states holding qs)) none
      ∙ ap (matching d.kind d.nfa.states) (threads-nil d.nfa.states holding)
      ∙ ap (λ kind. matching kind d.nfa.states []) every

  -- the search has no start
  dead-start : start_of d.nfa v.anchor ≡ None → is_dead (key_ahead d v v.start) ≡ true
  dead-start none =
      ap is_dead (first-key d around (is_permitted d.nfa.utf8 v.haystack) (byte_before v.haystack) size v.end v.start spanned opening)
      ∙ (λ j. is_dead (key_from d.kind d.nfa.states (loops_in v.anchor) before (none j)))

  -- a pattern is told of a place exactly where it has a run that ends there
  module _ (p e : ℕ) (low : v.start ≤ e) (high : e ≤ v.end) (saw : SawTo e) where
    pub told-run : stands_in (told_of_place e) p ≡ true → HasRunIn d.nfa v p e
    unfolding met-until
    told-run there = by_start (start_of d.nfa v.anchor) refl
      where
        by_start : (o : Option ℕ) → start_of d.nfa v.anchor ≡ o → HasRunIn d.nfa v p e
        by_start None none =
            absurd (true≢false (sym there ∙ ap (λ ps. stands_in ps p) (dead-tells v.start e (omega arith) low (dead-start none))))
        by_start (Some q) is =
            let seen = sees-from d (until e) _ (met-until e low saw) All every q is in (
              q,
              is,
              told-runs around size d.nfa.states sound.in_range.names e q
                  (start-inside d.nfa sound.in_range (sight_of d) v.haystack v.end spanned v.anchor q is) (sight_of d) (omega arith) p v.start before low
                  (loops_in v.anchor) (λ i from to alive. seen.sees i from to alive)
                  (ap (λ ps. stands_in ps p) (told-keys q is e low) ∙ there),
            )

    pub run-told : HasRunIn d.nfa v p e → stands_in (told_of_place e) p ≡ true
    unfolding met-until
    run-told run =
        let q = run.0 in
        let is = run.1 in
        let seen = sees-from d (until e) _ (met-until e low saw) All every q is in
        sym (ap (λ ps. stands_in ps p) (told-keys q is e low))
        ∙ runs-told around size d.nfa.states sound.in_range.names e q
        (start-inside d.nfa sound.in_range (sight_of d) v.haystack v.end spanned v.anchor q is) (sight_of d) (omega arith) p v.start before low
        (loops_in v.anchor) (λ i from to alive. seen.sees i from to alive) run.2

  -- What is told of a place was added.
  pub fills-more : (at : ℕ) → v.start ≤ at → at ≤ v.end → SawTo at → (patterns : List ℕ) → patterns ≡ told_of_place at → (may : Bool)
      → is_permitted d.nfa.utf8 v.haystack at ≡ may → (old here new : List Bool) → AddsTold may patterns here new → FillsTo d.nfa v at old here
      → FillsTo d.nfa v (at + 1) old new
  fills-more at low high saw patterns told may may_is old here new adds fills =
      record { adds = record { kept = keeps-twice old here new fills.adds.kept adds.kept; gained = gains }; ends = ends }
    where
      gains : (p : ℕ) → has old p ≡ false → has new p ≡ true → (e : ℕ) × IsEnd d.nfa v (record { pattern = p; offset = e })
      gains p missing there =
          by_test (has here p)
          (λ e. fills.adds.gained p missing e)
          (λ e.
          let g = adds.gained p e there in (
            at,
            record {
              from = low;
              to = high;
              ends = may_is ∙ g.0;
              runs = told-run p at low high saw (ap (λ ps. stands_in ps p) (sym told) ∙ g.1);
            },
          ))

      ends : HasEndsTo d.nfa v (at + 1) new
      ends p e lt from to on run =
          ⊎_elim (λ earlier. adds.kept.kept p (fills.ends p e lt from earlier on run))
          (λ le.
          let same : e ≡ at = omega arith in
          adds.added (sym may_is ∙ ap (is_permitted d.nfa.utf8 v.haystack) (sym same) ∙ on) p
          (ap (λ ps. stands_in ps p) told ∙ run-told p at low high saw (subst (HasRunIn d.nfa v p) same run)))
          (cases_lt e at)

  -- Where the key is dead, all is there.
  pub fills-dead : (at : ℕ) → v.start ≤ at → is_dead (key_ahead d v at) ≡ true → SawTo v.end → (old new : List Bool) → FillsTo d.nfa v at old new
      → FillsTo d.nfa v (v.end + 1) old new
  fills-dead at low dead saw old new fills = record { adds = fills.adds; ends = ends }
    where
      ends : HasEndsTo d.nfa v (v.end + 1) new
      ends p e lt from to on run =
          ⊎_elim (λ earlier. fills.ends p e lt from earlier on run)
          (λ le.
          let high : e ≤ v.end = omega arith in
          absurd (true≢false (sym (run-told p e from high (saw-fewer v.end e high saw) run) ∙ ap (λ ps. stands_in ps p) (dead-tells at e low le dead))))
          (cases_lt e at)

  -- What a search met, up to the span's end, it saw.
  pub saw-whole : v.earliest ≡ false → (x : Progress) → IsMetForwards d v x → SawTo v.end
  saw-whole whole x m = subst SawTo stops m.sees
    where
      stops : m.stop ≡ v.end
      stops =
          elim m.whole [
            | inl same ↦ same
            | inr early ↦ absurd (true≢false (sym early.0 ∙ whole))
          ]

  -- A search begins at a dead key.
  pub fills-opening : v.earliest ≡ false → is_dead opening ≡ true → (x : Progress) → IsMetForwards d v x → (set : List Bool)
      → FillsTo d.nfa v (v.end + 1) set set
  fills-opening whole dead x m set =
      let key = first-key d around (is_permitted d.nfa.utf8 v.haystack) (byte_before v.haystack) size v.end v.start spanned opening in
      fills-dead v.start (omega arith) (ap is_dead key ∙ dead) (saw-whole whole x m) set set (fills-none d.nfa v v.start (omega arith) set)

  -- Over one byte.
  module _ (at byte : ℕ) (low : v.start ≤ at) (lt : at < v.end) (is : byte ≡ slice_index v.haystack at) where
    -- what the next key tells
    pub next-tells : (next_key d (key_ahead d v at) byte).matches ≡ told_of_place at
    next-tells =
        let there : Some byte ≡ byte_after v.haystack at = ap Some is ∙ sym (slice_get-get_or v.haystack at 0 (omega arith)) in
        step-last d (key_ahead d v at) byte ∙ ap (λ o. (end_of d (key_ahead d v at) o).matches) there

    -- and where it is dead
    pub next-dead : is_dead (next_key d (key_ahead d v at) byte) ≡ true → is_dead (key_ahead d v (at + 1)) ≡ true
    next-dead dead =
        let next = next-key d around (is_permitted d.nfa.utf8 v.haystack) (byte_before v.haystack) size v.end v.start spanned opening at low in
        ap is_dead (next ∙ ap (next_key d (key_ahead d v at)) (sym is)) ∙ dead

  -- The sight told of the places that a search passed.
  module _ (forward : d.nfa.reverse ≡ false) (in_order : v.start ≤ v.end) (bytes : AreBytes v.haystack) where
    saw-read : (e : ℕ) → v.start ≤ e → e ≤ v.end → ((j : ℕ) → v.start ≤ j → j ≤ e → IsReadable d.nfa (byte_before v.haystack j))
        → IsReadable d.nfa (byte_before v.haystack (e + 1)) → SawTo e
    saw-read e low high readable here =
        let sees = tells-ahead d sound forward v in_order spanned bytes e low high
        (readable-next d around (is_permitted d.nfa.utf8 v.haystack) (byte_before v.haystack) size v.end v.start spanned opening e readable here) in
        record { sees = seen-all d.kind around size d.nfa.states d.nfa.start_anchored (sight_of d) e v.start opening sees }

    pub saw-byte : (at byte : ℕ) → v.start ≤ at → at < v.end → byte ≡ slice_index v.haystack at
        → ((j : ℕ) → v.start ≤ j → j ≤ at → IsReadable d.nfa (byte_before v.haystack j)) → IsReadable d.nfa (Some byte) → SawTo at
    saw-byte at byte low lt is readable here =
        saw-read at low (omega arith) readable (read-here d sound forward v in_order spanned bytes at byte lt is here)

    pub saw-end : ((j : ℕ) → v.start ≤ j → j ≤ v.end → IsReadable d.nfa (byte_before v.haystack j)) → IsReadable d.nfa (byte_after v.haystack v.end)
        → SawTo v.end
    saw-end readable here =
        saw-read v.end in_order (omega arith) readable (subst (IsReadable d.nfa) (sym (before-next v.haystack v.end)) here)

-- a full set has all
pub fills-full : (nfa : Nfa) (v : InputValue) (place later : ℕ) (old new : List Bool) → length nfa.starts ≤ length new → count_of new ≡ length new
    → FillsTo nfa v place old new → FillsTo nfa v later old new
fills-full nfa v place later old new room full fills = record {
  adds = fills.adds;
  ends = λ p e lt from to on run. full-has new full p (omega arith);
}

-- What that says of the patterns.
module _ (nfa : Nfa) (r : Patterns) (v : InputValue) (spanned : v.end ≤ length v.haystack) (premises : Premises (IsNfaOf nfa r) None r v)
    (old new : List Bool) where
  pub ends-match : AddsEnds nfa v old new → GainsMatching r v old new
  ends-match adds p missing there =
      let g = adds.gained p missing there in
      let m = end-match nfa r v spanned premises (record { pattern = p; offset = g.0 }) g.1 in
      (m.0, m.1, ap (λ (h : HalfMatchValue). h.pattern) m.2)

  match-there : HasEndsTo nfa v (v.end + 1) new → (p : ℕ) → MatchesIn r v p → has new p ≡ true
  match-there ends p m =
      let x = match-ends nfa r v spanned premises m.0 m.1 in
      let lt = slice_get_within r.expressions m.0.trace.pattern m.1.expression m.1.is_there in
      let count = premises.is_for.runs.patterns in
      let high = x.2 in
      ap (has new) (sym m.2) ∙ ends m.0.trace.pattern x.0 (omega arith) x.1 (omega arith) x.3 x.4

  pub ends-filled : HasEndsTo nfa v (v.end + 1) new → (kind : MatchKind) → kind ≡ All → IsFilledFor r v old new kind
  ends-filled ends kind every = record {
    all = λ k whole p m. match-there ends p m;
    next = λ leftmost whole. absurd (not-both kind every leftmost);
    some = λ any. of_next (next_in r v) refl any;
  }
    where
      of_next : (o : Option Match) → next_in r v ≡ o → IsSome o → (p : ℕ) × (has new p ≡ true) × MatchesIn r v p
      of_next None e any = absurd (true≢false (sym any))
      of_next (Some m) e any =
          let matches : MatchesIn r v m.trace.pattern = (m, next-run r v.haystack v.anchor v.end v.start m e, refl) in
          (m.trace.pattern, match-there ends m.trace.pattern matches, matches)

-- The pattern of one match was added.
module _ (old new : List Bool) where
  abbrev pub IsAdded : Option HalfMatchValue → Type 0
  IsAdded found = MatchOption found (new ≡ old) (λ h. new ≡ set old h.pattern true)

  pub added-keeps : (found : Option HalfMatchValue) → IsAdded found → IfSome found (λ h. h.pattern < length old) → KeepsMembers old new
  added-keeps None same lt = subst (KeepsMembers old) (sym same) (keeps-same old)
  added-keeps (Some h) same lt = subst (KeepsMembers old) (sym same) (set-keeps old h.pattern lt)

  module _ (r : Patterns) (v : InputValue) where
    half-matches : (h : HalfMatchValue) → IsMatchWith r v (λ m. h ≡ half_match_value m) → MatchesIn r v h.pattern
    half-matches h m = (m.0, m.1, sym (ap (λ (x : HalfMatchValue). x.pattern) (m.2 ∙ half-told r.which_captures m.0)))

    pub added-matches : (found : Option HalfMatchValue) → IsAdded found → IfSome found (λ h. IsMatchWith r v (λ m. h ≡ half_match_value m))
        → GainsMatching r v old new
    added-matches None same is p missing there = absurd (true≢false (sym there ∙ ap (λ s. has s p) same ∙ missing))
    added-matches (Some h) same is p missing there =
        subst (MatchesIn r v) (sym (set-gains old h.pattern p missing (ap (λ s. has s p) (sym same) ∙ there))) (half-matches h is)

    added-there : (h : HalfMatchValue) → new ≡ set old h.pattern true → h.pattern < length old → has new h.pattern ≡ true
    added-there h same lt = ap (λ s. has s h.pattern) same ∙ set-there old h.pattern lt

    added-next : (found : Option HalfMatchValue) → IsAdded found → IfSome found (λ h. h.pattern < length old) → (next : Option Match)
        → found ≡ option_map half_match_value next → IfSome next (λ m. has new m.trace.pattern ≡ true)
    added-next found same lt None e = tt
    added-next None same lt (Some m) e = none-is-some e
    added-next (Some h) same lt (Some m) e =
        ap (has new) (ap (λ (x : HalfMatchValue). x.pattern) (sym (some-is e))) ∙ added-there h same lt

    added-some : (found : Option HalfMatchValue) → IsAdded found → IfSome found (λ h. h.pattern < length old)
        → IfSome found (λ h. IsMatchWith r v (λ m. h ≡ half_match_value m)) → IsSome found → (p : ℕ) × (has new p ≡ true) × MatchesIn r v p
    added-some None same lt is any = absurd (true≢false (sym any))
    added-some (Some h) same lt is any = (h.pattern, added-there h same lt, half-matches h is)

    -- where not all are asked for, that fills the set
    pub added-fills : (found : Option HalfMatchValue) → IsAdded found → IfSome found (λ h. h.pattern < length old) → (kind : MatchKind)
        → IsAnswerFor kind r v half_match_value found → (kind ≡ All → v.earliest ≡ false → ⊥) → IsFilledFor r v old new kind
    added-fills found same lt kind is one = record {
      all = λ every whole. absurd (one every whole);
      next = λ leftmost whole. added-next found same lt (next_in r v) (is.value leftmost whole);
      some = λ any. added-some found same lt is.is_match (is.exists ∙ any);
    }

-- a pattern of the NFA is one that the set has room for
pub in-room : (n k : ℕ) (found : Option HalfMatchValue) → n ≤ k → IfSome found (λ h. h.pattern < n) → IfSome found (λ h. h.pattern < k)
in-room n k None le lt = tt
in-room n k (Some h) le lt = omega arith

pub below-room : (n k : ℕ) (patterns : List ℕ) → n ≤ k → AreBelow n patterns → AreBelow k patterns
below-room n k patterns le below = All-weaker (λ p. p < n) (λ p. p < k) (λ p lt. omega arith) patterns below
