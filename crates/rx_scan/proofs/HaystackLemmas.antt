-- What a regex finds in a haystack, one match after another.
use Rattle.std.proofs.Common.{◌≡◌, ℕ, ◌+◌, ◌<◌, ◌≤◌, Bool, true, false, cond, List, [], ◌∷◌, ◌++◌, length, take, drop, get_or, Option, Some, None, Result, Ok, Err, IfOk, refl, sym, ap, subst, ◌∙◌, arith, drop-cons}
use Rattle.std.specs.List.{All}
use Rattle.std.specs.Prelude.{map, replicate, OnOk, MatchOption}
use Rattle.std.proofs.Math.Seq.{take-add}
use Rattle.std.proofs.lemmas.List.{length-append, take_all, map-append, drop-drop}
use Rattle.rx_model.specs.Search.{Patterns, Match, next_match, matches, free, is_empty_at, next_after}
use Rattle.rx_model.specs.Utf8.{MeansUtf8}
use Rattle.rx_memory.specs.declared.memory.Memory.{Memory}
use Rattle.rx_search.specs.Input.{InputValue, from_place, next_in, whole}
use Rattle.rx_search.specs.Matches.{MatchValue}
use Rattle.rx_search.specs.Needles.{BeginsEachMatch}
use Rattle.rx_search.specs.PatternGroups.{pattern_groups}
use Rattle.rx_search.specs.Promise.{Premises}
use Rattle.rx_search.specs.Searcher.{SearcherValue, moved_past, search_from, match_after, upcoming, successive, AtEachPlace}
use Rattle.rx_search.specs.Told.{tells, told_in}
use Rattle.rx_search.specs.declared.anchored.MatchKind.TheVariants.{LeftmostFirst}
use Rattle.rx_search.proofs.SearcherLemmas.{successive-matches}
use Rattle.rx_meta.specs.Finder.{PromisesFor}
use Rattle.rx_meta.specs.Regex.{RegexValue, Serves, searches, given_needles, kind_in, groups_in}
use Rattle.rx_scan.specs.Haystacks.{FindsRows, AreRowsOf, HasOutcome, HaveOutcomes}
use Rattle.rx_scan.specs.Row.{RowValue, row_of, scan_rows}

-- what a regex searches is the next match of its patterns, where matches are told
abbrev pub SearchesForItsPatterns : Type 0
SearchesForItsPatterns = (regex : RegexValue) (r : Patterns) (v : InputValue) → v.end ≤ length v.haystack → Premises (Serves regex r) (given_needles regex) r v
    → searches regex v ≡ told_in r v

module _ (law : SearchesForItsPatterns) (regex : RegexValue) (r : Patterns) (text : List ℕ) (finds : FindsRows regex r text) where
  -- a search from any place of the text finds the next match
  searches-next : (i : ℕ) → searches regex (from_place i (whole text)) ≡ next_in r (from_place i (whole text))
  searches-next i =
      let p : Premises (Serves regex r) (given_needles regex) r (whole text) = finds.promised.premises in
      let premises : Premises (Serves regex r) (given_needles regex) r (from_place i (whole text)) =
      record { is_for = p.is_for; begins = p.begins; utf8 = p.utf8 } in
      law regex r (from_place i (whole text)) (omega arith) premises
      ∙ ap (λ (b : Bool). cond b (next_in r (from_place i (whole text))) None) finds.promised.told

  -- the rows of what it finds, one match after another
  pub found-rows : map (row_of r) (successive (searches regex) (whole text)) ≡ scan_rows r text
  found-rows =
      ap (map (row_of r)) (successive-matches (searches regex) r (whole text) searches-next)
      ∙ ap (λ (b : Bool). cond b (map (row_of r) (matches r text free (length text) 0)) []) (sym finds.promised.told)

  -- the match that comes next is a next match of the text
  pub found-next : (now : RegexValue) (s : SearcherValue) (x : Match) → now ≡ regex → ((i : ℕ) → from_place i s.input ≡ from_place i (whole text))
      → upcoming (searches now) s ≡ Some x → (i : ℕ) × (next_match r text free (length text) i ≡ Some x)
  found-next now s x same place next =
      let found = upcoming-found s.last_end next in (
        found.0,
        sym (searches-next found.0) ∙ ap (searches regex) (sym (place found.0))
            ∙ ap (λ (g : RegexValue). searches g (from_place found.0 s.input)) (sym same) ∙ found.1,
      )
    where
      after : (last : ℕ) (b : Bool) → is_empty_at last (search_from (searches now) s.input last) ≡ b
          → next_after (search_from (searches now) s.input) last ≡ Some x
          → (i : ℕ) × (searches now (from_place i s.input) ≡ Some x)
      after last true is h = (last + 1, rw is at h)
      after last false is h = (last, rw is at h)

      upcoming-found : (o : Option ℕ) → match_after (search_from (searches now) s.input) o s.input.start ≡ Some x
          → (i : ℕ) × (searches now (from_place i s.input) ≡ Some x)
      upcoming-found None h = (s.input.start, h)
      upcoming-found (Some last) h = after last _ refl h

-- and each of its searches is promised
pub promised-from : (regex : RegexValue) (r : Patterns) (text : List ℕ) → FindsRows regex r text → AtEachPlace (PromisesFor regex) (whole text)
promised-from regex r text finds = λ i.
    let p = finds.promised in (
      r,
      record {
        premises = record { is_for = p.premises.is_for; begins = p.premises.begins; utf8 = p.premises.utf8 };
        next = λ told. (p.leftmost, refl);
      },
    )

-- after a match the searcher is still within the same text
pub moved-place : (found : Option MatchValue) (m : MatchValue) (old new : SearcherValue) (v : InputValue) → found ≡ Some m
    → MatchOption found (new ≡ old) (λ x. new ≡ moved_past x old) → ((i : ℕ) → from_place i old.input ≡ from_place i v) → (i : ℕ)
    → from_place i new.input ≡ from_place i v
moved-place found m old new v some moved place i =
    let moves : new ≡ moved_past m old = rw some at moved in
    ap (λ (s : SearcherValue). from_place i s.input) moves ∙ place i

-- what a regex that serves the patterns finds
pub serves-finds : (regex : RegexValue) (r : Patterns) (text : List ℕ) → Serves regex r → BeginsEachMatch (given_needles regex) r
    → kind_in regex ≡ LeftmostFirst
    → groups_in regex ≡ pattern_groups r.expressions
    → tells r.which_captures ≡ true → (r.utf8_empty ≡ true → MeansUtf8 r text) → FindsRows regex r text
serves-finds regex r text serves begins leftmost groups told utf8 = record {
  promised = record {
    premises = record { is_for = serves; begins = λ _. begins; utf8 = utf8 };
    leftmost = leftmost;
    told = told;
    whole = refl;
  };
  groups = groups;
}

module _ (regex : RegexValue) (hs : List (List ℕ)) where
  -- the rows of one haystack
  pub rows-one : (i : ℕ) (rows : List RowValue) → i < length hs
      → ((r : Patterns) → FindsRows regex r (get_or hs i []) → rows ≡ scan_rows r (get_or hs i []))
      → AreRowsOf regex hs i 1 (rows ∷ [])
  rows-one i rows below own = λ r finds.
      (λ k. own r (finds i [] below) k ∷ []) ∙ ap (λ (l : List (List ℕ)). map (scan_rows r) (take 1 l)) (sym (drop-cons hs i [] below))

  -- .. of some, and of those that come next
  pub rows-after : (i n j m : ℕ) (all more : List (List RowValue)) → j ≡ i + n → AreRowsOf regex hs i n all → AreRowsOf regex hs j m more
      → AreRowsOf regex hs i (n + m) (all ++ more)
  rows-after i n j m all more next first second = λ r finds.
      let f : List ℕ → List RowValue = scan_rows r in
      let rest : drop j hs ≡ drop n (drop i hs) = ap (λ (k : ℕ). drop k hs) next ∙ sym (drop-drop n i hs) in
      (λ k. first r finds k ++ second r finds k) ∙ sym (map-append f (take n (drop i hs)) (take m (drop j hs)))
      ∙ ap (λ (l : List (List ℕ)). map f (take n (drop i hs) ++ take m l)) rest ∙ ap (map f) (sym (take-add n m (drop i hs)))

  -- .. of none
  pub outcome-none : {V : Type 0} (Holds : ℕ → List (List RowValue) → List RowValue → V → Type 0) (i : ℕ) (value : V) → Holds i [] [] value
      → HasOutcome Holds regex hs i 0 value
  outcome-none Holds i value holds = ([], holds, refl, λ r finds. refl)

  -- .. of one haystack more
  pub outcome-next : {U V E : Type 0} (Holds : ℕ → List (List RowValue) → List RowValue → V → Type 0) (i n index : ℕ) (rows : List RowValue) (old new : V)
      (result : Result U E) → index ≡ i + n → AreRowsOf regex hs index 1 (rows ∷ []) → (has : HasOutcome Holds regex hs i n old)
      → OnOk result (Holds i (has.0 ++ rows ∷ []) [] new) → OnOk result (HasOutcome Holds regex hs i (n + 1) new)
  outcome-next Holds i n index rows old new (Err error) at own has more = tt
  outcome-next Holds i n index rows old new (Ok u) at own has more = (
    has.0 ++ rows ∷ [],
    more,
    length-append has.0 (rows ∷ []) ∙ (λ k. has.2 k + 1),
    rows-after i n index 1 has.0 (rows ∷ []) at has.3 own,
  )

module _ {W : Type 0} (Are : List (List RowValue) → W → Type 0) (regex : RegexValue) (hs : List (List ℕ)) where
  -- none yet
  pub outcomes-none : (whole : W) → Are [] whole → HaveOutcomes Are regex hs 0 whole
  outcomes-none whole are = record { all = []; are = are; count = refl; rows = λ r finds. refl }

  -- those of some haystacks more
  pub outcomes-more : {V : Type 0} (Holds : ℕ → List (List RowValue) → List RowValue → V → Type 0) (n m : ℕ) (old new : W) (value : V)
      → (before : HaveOutcomes Are regex hs n old) (answer : HasOutcome Holds regex hs n m value) → Are (before.all ++ answer.0) new
      → HaveOutcomes Are regex hs (n + m) new
  outcomes-more Holds n m old new value before answer are = record {
    all = before.all ++ answer.0;
    are = are;
    count = length-append before.all answer.0 ∙ (λ k. before.count k + answer.2 k);
    rows = rows-after regex hs 0 n n m before.all answer.0 (omega arith) before.rows answer.3;
  }

  pub outcomes-put : {V U E : Type 0} (Holds : ℕ → List (List RowValue) → List RowValue → V → Type 0) (n m : ℕ) (old new : W) (value : V)
      → (before : HaveOutcomes Are regex hs n old) (answer : HasOutcome Holds regex hs n m value) (result : Result U E)
      → OnOk result (Are (before.all ++ answer.0) new) → OnOk result (HaveOutcomes Are regex hs (n + m) new)
  outcomes-put Holds n m old new value before answer (Err error) are = tt
  outcomes-put Holds n m old new value before answer (Ok u) are = outcomes-more Holds n m old new value before answer are

  -- those of all
  pub outcomes-whole : (r : Patterns) (result : Result W Memory) → IfOk result (HaveOutcomes Are regex hs (length hs)) → All (FindsRows regex r) hs
      → IfOk result (Are (map (scan_rows r) hs))
  outcomes-whole r (Err error) have finds = tt
  outcomes-whole r (Ok w) have finds =
      subst (λ all. Are all w) (have.rows r finds ∙ ap (map (scan_rows r)) (take_all (length hs) hs (omega arith))) have.are

  -- where no match is told, none has rows
  pub outcomes-silent : (r : Patterns) (result : Result W Memory) → tells r.which_captures ≡ false → IfOk result (Are (replicate (length hs) []))
      → IfOk result (Are (map (scan_rows r) hs))
  outcomes-silent r (Err error) silent are = tt
  outcomes-silent r (Ok w) silent are = subst (λ all. Are all w) (sym (all-none hs)) are
    where
      none : (h : List ℕ) → scan_rows r h ≡ []
      none h = ap (λ (b : Bool). cond b (map (row_of r) (matches r h free (length h) 0)) []) silent

      all-none : (xs : List (List ℕ)) → map (scan_rows r) xs ≡ replicate (length xs) []
      all-none [] = refl
      all-none (h ∷ xs) = λ k. none h k ∷ all-none xs k
