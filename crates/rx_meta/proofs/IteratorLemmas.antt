-- What an iterator gives, by what a searcher does.
use Rattle.std.proofs.Common.{◌≡◌, ℕ, zero, suc, ◌≤◌, ◌<◌, List, [], ◌∷◌, length, refl, sym, ap, subst, ◌∙◌, inl, inr, ◌+◌, ◌-◌, true≢false}
use Rattle.std.specs.Prelude.{Bool, false, Option, Some, None, option_map, is_some, true, All, AllPairs, Result, Ok, Err, is_err, IfOk, OnOk, OnErr, IfSome, IfNone, replicate}
use Rattle.rx_model.specs.Search.{Patterns, Match, matches, matches_from}
use Rattle.rx_model.proofs.lemmas.runs.RunLemmas.{by_test}
use Rattle.rx_model.proofs.lemmas.runs.FirstLemmas.{none-is-some}
use Rattle.rx_model.proofs.lemmas.matches.MatchLemmas.{next-within}
use Rattle.rx_model.proofs.lemmas.matches.SuccessionLemmas.{matches-rise, matches-within}
use Rattle.rx_search.specs.Answer.{half_of}
use Rattle.rx_search.specs.Captures.{CapturesValue}
use Rattle.rx_meta.specs.Gaps.{span_between, gaps_from, gaps_up_to}
use Rattle.rx_search.specs.Input.{InputValue, from_place, next_in}
use Rattle.rx_search.specs.Matches.{MatchValue, match_value, half_match_value}
use Rattle.rx_search.specs.Promise.{Premises, Promised}
use Rattle.rx_search.specs.Searcher.{SearcherValue, AtEachPlace, AnswersWithin, Gives, IsAnsweredBy, search_from, places_left, upcoming, to_come}
use Rattle.rx_search.specs.Told.{tells, told_in, matched_pattern, HasSlots}
use Rattle.rx_memory.specs.declared.memory.Memory.{Memory}
use Rattle.rx_search.specs.declared.span.Span.{Span}
use Rattle.rx_search.proofs.SearcherLemmas.{successive-matches}
use Rattle.rx_strategy.proofs.AnswerLemmas.{told-yes}
use Rattle.rx_meta.specs.Finder.{IsExactFor, PromisesFor}
use Rattle.rx_meta.specs.Captures.{emptied, AreOf, AreOfMatch, AreTold, HaveRoomOf, IsToldWith}
use Rattle.rx_meta.specs.Iterators.{MatchesValue, begun, matches_to_come, PromisesEach, GivesFirst, GivesNext, IsFoundIn, IsReported, IsSpan}
use Rattle.rx_meta.specs.Iterators.{SplitValue, text_len, gaps_to_come_from, gaps_to_come, pieces_from, pieces_up_to}
use Rattle.rx_meta.specs.Laws.{IsBehind}
use Rattle.rx_meta.specs.Regex.{RegexValue, Serves, searches, given_needles, kind_in, pattern_count}
use Rattle.rx_meta.specs.Search.{IsAnswer}
use Rattle.rx_meta.proofs.FinderLemmas.{untold-none, searches-told, searches-next, searches-none, promised-next}

none-come : (search : ℕ → Option Match) (n : ℕ) → matches_from search n None ≡ []
unfolding matches_from
none-come search zero = refl
none-come search (suc n) = refl

module _ (regex : RegexValue) (v : InputValue) where
  -- what is promised of a search from one place is promised from each
  premises-from : (r : Patterns) → Premises (Serves regex r) (given_needles regex) r v
      → (i : ℕ) → Premises (Serves regex r) (given_needles regex) r (from_place i v)
  premises-from r p i = record { is_for = p.is_for; begins = p.begins; utf8 = p.utf8 }

  pub promises-each : (r : Patterns) → IsExactFor regex r v → PromisesEach (begun regex v)
  promises-each r exact = λ i. (r, record { premises = premises-from r exact.premises i; next = exact.next })

  module _ (within : v.end ≤ length v.haystack) where
    -- where each search is promised, each answers within its span
    pub answers-within : AtEachPlace (PromisesFor regex) v → AnswersWithin (searches regex) v
    answers-within each = record {
      within = λ i m h.
          let p = each i in
          let told : told_in p.0 (from_place i v) ≡ Some m = sym (searches-told regex (from_place i v) within p.0 p.1.premises) ∙ h in
          by_test (tells p.0.which_captures)
          (λ is. next-within p.0 v.haystack v.anchor v.end i m (sym (told-yes p.0 (from_place i v) is) ∙ told))
          (λ is. none-is-some (sym (untold-none p.0 (from_place i v) is) ∙ told));
    }

    -- without captures nothing is to come
    pub iterator-silent : (r : Patterns) → Premises (Serves regex r) (given_needles regex) r v → tells r.which_captures ≡ false
        → matches_to_come (begun regex v) ≡ []
    unfolding to_come
    iterator-silent r premises untold =
        ap (matches_from (search_from (searches regex) v) (v.end + 1 - v.start + 1))
        (searches-none regex v within r premises untold)
        ∙ none-come (search_from (searches regex) v) (v.end + 1 - v.start + 1)

    module _ (r : Patterns) (p : Promised (Serves regex r) (given_needles regex) (kind_in regex) r v) where
      pub iterator-matches : matches_to_come (begun regex v) ≡ matches r v.haystack v.anchor v.end v.start
      iterator-matches =
          successive-matches (searches regex) r v (λ i. searches-next regex (from_place i v) within r (premises-from r p.premises i) p.told)

      pub iterator-rises : AllPairs IsBehind (matches_to_come (begun regex v))
      iterator-rises = subst (AllPairs IsBehind) (sym iterator-matches) (matches-rise r v.haystack v.anchor v.end v.start)

      pub iterator-within : All (λ (m : Match). (v.start ≤ m.start) × (m.start ≤ m.trace.end) × (m.trace.end ≤ v.end)) (matches_to_come (begun regex v))
      iterator-within =
          subst (All (λ (m : Match). (v.start ≤ m.start) × (m.start ≤ m.trace.end) × (m.trace.end ≤ v.end))) (sym iterator-matches)
          (matches-within r v.haystack v.anchor v.end v.start)

-- the first match that is to come is the one that comes next
head_of : List Match → Option Match
head_of [] = None
head_of (m ∷ ms) = Some m

from-first : (next : ℕ → Option Match) (n : ℕ) (o : Option Match) (x : Match) (xs : List Match) → matches_from next n o ≡ x ∷ xs → o ≡ Some x
unfolding matches_from head_of
from-first next zero o x xs e = none-is-some (ap head_of e)
from-first next (suc n) None x xs e = none-is-some (ap head_of e)
from-first next (suc n) (Some m) x xs e = ap head_of e

to_come-first : (searches : InputValue → Option Match) (s : SearcherValue) (x : Match) (xs : List Match) → to_come searches s ≡ x ∷ xs
    → upcoming searches s ≡ Some x
unfolding to_come
to_come-first searches s x xs e = from-first (search_from searches s.input) (places_left s) (upcoming searches s) x xs e

-- answers to searches of one input
pub half-agrees : (o : Option Match) (found : Option MatchValue) → found ≡ option_map match_value o → option_map half_match_value o ≡ option_map half_of found
half-agrees None found is = rw is refl
half-agrees (Some m) found is = rw is refl

pub pattern-agrees : (o : Option Match) (found : Option MatchValue) → found ≡ option_map match_value o
    → option_map matched_pattern o ≡ option_map (λ (m : MatchValue). m.pattern) found
pattern-agrees None found is = rw is refl
pattern-agrees (Some m) found is = rw is refl

pub there-agrees : (o : Option Match) (found : Option MatchValue) → found ≡ option_map match_value o → is_some o ≡ is_some found
there-agrees None found is = rw is refl
there-agrees (Some m) found is = rw is refl

-- what is said of an answer, in one record
pub found-by : {E : Type 0} (regex : RegexValue) (v : InputValue) (result : Result (Option MatchValue) E)
    → IfOk result (IsAnswer regex v match_value) → IfOk result (λ found. IfSome found (λ m. m.pattern < pattern_count regex))
    → IfOk result (IsFoundIn regex v)
found-by regex v (Ok found) answer in_range = record { answer = answer; in_range = in_range }
found-by regex v (Err e) answer in_range = tt

-- captures that are emptied hold nothing, and so do those that were emptied with as many slots
emptied-again : (old new : CapturesValue) → HaveRoomOf old new → new ≡ emptied old → new ≡ emptied new
emptied-again old new room is =
    is ∙ (λ i. record { groups = sym room.groups i; pattern = None; slots = replicate (sym room.slots i) None })

-- the captures of a search are those of the match that is searched for, where that is promised
module _ (regex : RegexValue) (v : InputValue) where
  module _ (within : v.end ≤ length v.haystack) (r : Patterns) (exact : IsExactFor regex r v) (c : CapturesValue) where
    of-next : Promised (Serves regex r) (given_needles regex) (kind_in regex) r v → (o : Option Match) → next_in r v ≡ o → AreTold regex v c → AreOf c o
    of-next p None is told = told.none (told.pattern.value r p ∙ ap (option_map matched_pattern) is)
    of-next p (Some m) is told = record {
      pattern = told.pattern.value r p ∙ ap (option_map matched_pattern) is;
      slots = subst (λ (o : Option Match). IfSome o (HasSlots c.slots)) is (told.slots.value r p);
    }

    silent : (found : Option ℕ) → is_some found ≡ false → found ≡ None
    silent None e = refl
    silent (Some p) e = absurd (true≢false e)

    of-searched : AreTold regex v c → AreOf c (searches regex v)
    of-searched told =
        by_test (tells r.which_captures)
        (λ is. of-next (promised-next regex v within r exact is) (searches regex v) (sym (searches-next regex v within r exact.premises is)) told)
        (λ is.
        let none = silent c.pattern (told.pattern.exists r exact.premises ∙ ap (λ (o : Option Match). is_some o) (untold-none r v is)) in
        subst (AreOf c) (sym (searches-none regex v within r exact.premises is)) (told.none none))

    pub captures-told : {E : Type 0} (result : Result (Option MatchValue) E) → IfOk result (IsToldWith regex v c) → OnOk result (AreOf c (searches regex v))
    captures-told (Ok found) told = of-searched told.told
    captures-told (Err e) told = tt

  pub captures-none : {E : Type 0} (c : CapturesValue) (result : Result (Option MatchValue) E) → IfOk result (IsToldWith regex v c)
      → IfOk result (λ found. IfNone found (AreOf c None))
  captures-none c (Ok None) told = told.told.none told.pattern
  captures-none c (Ok (Some m)) told = tt
  captures-none c (Err e) told = tt

pub captures-silent : {T E : Type 0} (old new : CapturesValue) (result : Result T E) → HaveRoomOf old new → OnErr result (new ≡ emptied old)
    → OnErr result (AreOf new None)
captures-silent old new (Ok x) room is = tt
captures-silent old new (Err e) room is = emptied-again old new room is

-- The gap before a match comes first, and then those after it, also where so many at most are to come.
module _ (len i : ℕ) (old new : List Match) (given : MatchValue) (span : Span) (starts : span ≡ record { start = i; end = given.start }) where
  pub gap-given : (first : Match) × (given ≡ match_value first) × (old ≡ first ∷ new)
      → (gap : Span) × (span ≡ gap) × (gaps_from len i old ≡ gap ∷ gaps_from len given.end new)
  gap-given x =
      let m = x.0 in
      let ends : m.trace.end ≡ given.end = ap (λ (f : MatchValue). f.end) (sym x.1) in (
        span_between (i, m.start),
        starts ∙ (λ k. record { start = i; end = (x.1 k).start }),
        ap (gaps_from len i) x.2 ∙ (λ k. span_between (i, m.start) ∷ gaps_from len (ends k) new),
      )

  pub piece-given : (n : ℕ) → (first : Match) × (given ≡ match_value first) × (old ≡ first ∷ new)
      → (gap : Span) × (span ≡ gap) × (gaps_up_to (suc (suc n)) len i old ≡ gap ∷ gaps_up_to (suc n) len given.end new)
  piece-given n x =
      let m = x.0 in
      let ends : m.trace.end ≡ given.end = ap (λ (f : MatchValue). f.end) (sym x.1) in (
        span_between (i, m.start),
        starts ∙ (λ k. record { start = i; end = (x.1 k).start }),
        ap (gaps_up_to (suc (suc n)) len i) x.2 ∙ (λ k. span_between (i, m.start) ∷ gaps_up_to (suc n) len (ends k) new),
      )

-- What a split gives, by what its iterator over matches gave.
module _ (old new : SplitValue) (i : ℕ) (rest : old.rest ≡ Some i) where
  gaps-before : gaps_to_come old ≡ gaps_from (text_len old) i (matches_to_come old.matches)
  gaps-before = ap (gaps_to_come_from old) rest

  pieces-before : (n : ℕ) → pieces_up_to n old ≡ gaps_up_to n (text_len old) i (matches_to_come old.matches)
  pieces-before n = ap (pieces_from n old) rest

  -- the gap before a match
  module _ (given : MatchValue) (span : Span) (starts : span ≡ record { start = i; end = given.start }) (rest' : new.rest ≡ Some given.end)
      (size : text_len new ≡ text_len old)
      (gave : GivesFirst {E = Memory} IsReported (matches_to_come old.matches) (matches_to_come new.matches) (Ok given)) where
    gaps-after : gaps_to_come new ≡ gaps_from (text_len old) given.end (matches_to_come new.matches)
    gaps-after =
        ap (gaps_to_come_from new) rest' ∙ ap (λ (len : ℕ). gaps_from len given.end (matches_to_come new.matches)) size

    pieces-after : (n : ℕ) → pieces_up_to n new ≡ gaps_up_to n (text_len old) given.end (matches_to_come new.matches)
    pieces-after n =
        ap (pieces_from n new) rest' ∙ ap (λ (len : ℕ). gaps_up_to n len given.end (matches_to_come new.matches)) size

    pub split-gap : GivesFirst {E = Memory} IsSpan (gaps_to_come old) (gaps_to_come new) (Ok span)
    split-gap =
        let x = gap-given (text_len old) i (matches_to_come old.matches) (matches_to_come new.matches) given span starts gave in
        (x.0, x.1, gaps-before ∙ x.2 ∙ ap (λ (gaps : List Span). x.0 ∷ gaps) (sym gaps-after))

    pub split-piece : (n : ℕ) → GivesFirst {E = Memory} IsSpan (pieces_up_to (suc (suc n)) old) (pieces_up_to (suc n) new) (Ok span)
    split-piece n =
        let x = piece-given (text_len old) i (matches_to_come old.matches) (matches_to_come new.matches) given span starts n gave in
        (x.0, x.1, pieces-before (suc (suc n)) ∙ x.2 ∙ ap (λ (gaps : List Span). x.0 ∷ gaps) (sym (pieces-after (suc n))))

  -- all the rest
  module _ (span : Span) (is : span ≡ span_between (i, text_len old)) (rest' : new.rest ≡ None) where
    pub split-rest : matches_to_come old.matches ≡ [] → GivesFirst {E = Memory} IsSpan (gaps_to_come old) (gaps_to_come new) (Ok span)
    split-rest none = (
      span_between (i, text_len old),
      is,
      gaps-before ∙ ap (gaps_from (text_len old) i) none
          ∙ ap (λ (gaps : List Span). span_between (i, text_len old) ∷ gaps) (sym (ap (gaps_to_come_from new) rest')),
    )

    pub split-rest_piece : (n : ℕ) → matches_to_come old.matches ≡ []
        → GivesFirst {E = Memory} IsSpan (pieces_up_to (suc (suc n)) old) (pieces_up_to (suc n) new) (Ok span)
    split-rest_piece n none = (
      span_between (i, text_len old),
      is,
      pieces-before (suc (suc n)) ∙ ap (gaps_up_to (suc (suc n)) (text_len old) i) none
          ∙ ap (λ (gaps : List Span). span_between (i, text_len old) ∷ gaps) (sym (ap (pieces_from (suc n) new) rest')),
    )

    -- the last piece that is permitted
    pub split-last : GivesFirst {E = Memory} IsSpan (pieces_up_to 1 old) (pieces_up_to 0 new) (Ok span)
    split-last = (
      span_between (i, text_len old),
      is,
      pieces-before 1 ∙ ap (λ (gaps : List Span). span_between (i, text_len old) ∷ gaps) (sym (ap (pieces_from 0 new) rest')),
    )

-- what an iterator has to come
abbrev pub left : RegexValue → SearcherValue → Bool → List Match
left regex s ended = matches_to_come (record { regex = regex; searcher = s; ended = ended })

left-going : (regex : RegexValue) (s : SearcherValue) (ended : Bool) → ended ≡ false → left regex s ended ≡ to_come (searches regex) s
left-going regex s ended going = ap (left regex s) going

-- it gives this item, and then these are to come
abbrev pub Giving : {B : Type 0} → (Is : Match → B → Type 0) → (given : B) (new : List Match) → MatchesValue → Type 0
Giving Is given new it = PromisesEach it → (first : Match) × Is first given × (matches_to_come it ≡ first ∷ new)

-- it gives nothing, since nothing was to come
abbrev pub NoneGiven : (new : List Match) → MatchesValue → Type 0
NoneGiven new it = PromisesEach it → (matches_to_come it ≡ []) × (new ≡ [])

-- where captures were told of no match, none was found
pub none-found : (regex : RegexValue) (captures : CapturesValue) (s : SearcherValue)
    → IsAnsweredBy (λ v found. IsToldWith regex v captures found) s None → IsAnsweredBy (IsFoundIn regex) s None
none-found regex captures s (inl told) = inl (record { answer = told.answer; in_range = tt })
none-found regex captures s (inr behind) = inr (behind.0, behind.1, record { answer = behind.2.answer; in_range = tt })

-- What an iterator gives is what its searcher gave. The second regex is that of the finder afterwards.
module _ (regex regex' : RegexValue) (same : regex' ≡ regex) (s t : SearcherValue) (ended : Bool) (going : ended ≡ false) where
  left-after : (over : Bool) → over ≡ false → left regex' t over ≡ to_come (searches regex) t
  left-after over e = left-going regex' t over e ∙ ap (λ (r : RegexValue). to_come (searches r) t) same

  pub next-given : (over : Bool) → over ≡ false → (found : MatchValue) → Gives (searches regex) s (Some found) t
      → (first : Match) × (found ≡ match_value first) × (left regex s ended ≡ first ∷ left regex' t over)
  next-given over e found g =
      (g.0, sym g.1, left-going regex s ended going ∙ g.2 ∙ ap (λ (ms : List Match). g.0 ∷ ms) (sym (left-after over e)))

  pub next-none : Gives (searches regex) s None t → (left regex s ended ≡ []) × (left regex' t true ≡ [])
  next-none g = (left-going regex s ended going ∙ g, refl)

  -- captures that were copied are those of the match that was given
  pub captures-given : {E : Type 0} (captures : CapturesValue) (found : MatchValue) (given : Result CapturesValue E) (over : Bool)
      → IfOk given (λ c. c ≡ captures) → over ≡ is_err given → Gives (searches regex) s (Some found) t → AreOf captures (upcoming (searches regex) s)
      → GivesFirst AreOfMatch (left regex s ended) (left regex' t over) given
  captures-given captures found (Ok c) over copy e g told =
      let first = g.0 in
      let is : upcoming (searches regex) s ≡ Some first = to_come-first (searches regex) s first _ g.2 in (
        first,
        subst (AreOfMatch first) (sym copy) (subst (AreOf captures) is told),
        left-going regex s ended going ∙ g.2 ∙ ap (λ (ms : List Match). first ∷ ms) (sym (left-after over e)),
      )
  captures-given captures found (Err x) over copy e g told = ap (left regex' t) e

-- No piece is to come at the end, and where none is permitted.
pub none-left : (n : ℕ) (s : SplitValue) → s.rest ≡ None → pieces_up_to n s ≡ []
none-left n s rest = ap (pieces_from n s) rest

none-permitted_from : (s : SplitValue) (o : Option ℕ) → pieces_from 0 s o ≡ []
none-permitted_from s None = refl
none-permitted_from s (Some i) = refl

pub none-permitted : (n : ℕ) (s : SplitValue) → n ≡ 0 → pieces_up_to n s ≡ []
none-permitted n s none = ap (λ (k : ℕ). pieces_up_to k s) none ∙ none-permitted_from s s.rest

-- with equal limits
pub permitted : {E : Type 0} (old new : SplitValue) (result : Option (Result Span E)) (n n' m m' : ℕ) → n ≡ n' → m ≡ m'
    → GivesNext IsSpan (pieces_up_to n old) (pieces_up_to m new) result → GivesNext IsSpan (pieces_up_to n' old) (pieces_up_to m' new) result
permitted old new result n n' m m' same same' gave =
    subst (λ (k : ℕ). GivesNext IsSpan (pieces_up_to n' old) (pieces_up_to k new) result) same'
    (subst (λ (k : ℕ). GivesNext IsSpan (pieces_up_to k old) (pieces_up_to m new) result) same gave)

-- the number of matches that are to come
pub counted : {E : Type 0} (regex : RegexValue) (s : SearcherValue) (ended : Bool) → ended ≡ false → (result : Result ℕ E)
    → IfOk result (λ n. n ≡ length (to_come (searches regex) s)) → IfOk result (λ n. n ≡ length (left regex s ended))
counted regex s ended going (Ok n) is = is ∙ ap length (sym (left-going regex s ended going))
counted regex s ended going (Err e) is = tt
