-- What a searcher answers next, by what the search from the start of its input found.
use Rattle.std.proofs.Common.{◌≡◌, ℕ, ◌+◌, ◌<◌, ◌≤◌, Bool, true, false, ◌&&◌, nat_eq, cond, refl, sym, ◌∙◌, ap, subst, inl, inr, arith}
use Rattle.std.proofs.lemmas.Bool.Decides.{nat_tests}
use Rattle.std.specs.Prelude.{◌⊎◌, ◌≢◌, Option, Some, None, option_map, IfSome, Result, Ok, Err, IfErr}
use Rattle.rx_model.specs.Search.{Match, is_empty_at}
use Rattle.rx_search.specs.Matches.{MatchValue, match_value}
use Rattle.rx_search.specs.Input.{InputValue, from_place}
use Rattle.rx_search.specs.Told.{LiesIn}
use Rattle.rx_search.specs.Searcher.{SearcherValue, begins_at, upcoming, AtEachPlace}
use Rattle.rx_search.proofs.SearcherLemmas.{answered, no-answer}

both-tests : (a b last : ℕ) → a ≡ last → b ≡ last → (nat_eq a last && nat_eq b last) ≡ true
both-tests a b last x y = grind (arith, nat_tests)

-- the empty match at a place was found
pub found-empty : {found : Option MatchValue} {m : MatchValue} (last : ℕ) (o : Option Match) → found ≡ Some m → found ≡ option_map match_value o
    → m.start ≡ last → m.end ≡ last → is_empty_at last o ≡ true
found-empty last o some is start end =
    let a = answered some o is in
    ap (is_empty_at last) a.1
    ∙ both-tests a.0.start a.0.trace.end last (ap (λ (m : MatchValue). m.start) a.2 ∙ start) (ap (λ (m : MatchValue). m.end) a.2 ∙ end)

apart-tests : (a b last : ℕ) → (a ≢ last) ⊎ (b ≢ last) → (nat_eq a last && nat_eq b last) ≡ false
apart-tests a b last (inl x) = grind (arith, nat_tests)
apart-tests a b last (inr x) = grind (arith, nat_tests)

-- one was found that is not the empty one there
pub found-apart : {found : Option MatchValue} {m : MatchValue} (last : ℕ) (o : Option Match) → found ≡ Some m → found ≡ option_map match_value o
    → (m.start ≢ last) ⊎ (m.end ≢ last) → is_empty_at last o ≡ false
found-apart {found} {m} last o some is apart =
    let a = answered some o is in
    ap (is_empty_at last) a.1
    ∙ apart-tests a.0.start a.0.trace.end last
    (subst (λ (w : MatchValue). (w.start ≢ last) ⊎ (w.end ≢ last)) (sym a.2) apart)

-- none was found
pub found-none : {found : Option MatchValue} (last : ℕ) (o : Option Match) → found ≡ None → found ≡ option_map match_value o → is_empty_at last o ≡ false
found-none last o none is = ap (is_empty_at last) (no-answer none o is)

-- what follows from an error
pub IfErr-weaker : {T E : Type 0} (r : Result T E) (P Q : E → Type 0) → ((e : E) → P e → Q e) → IfErr r P → IfErr r Q
IfErr-weaker (Ok x) P Q weaker holds = tt
IfErr-weaker (Err e) P Q weaker holds = weaker e holds

-- what holds of each search holds of the one from a place
pub at-place : (P : InputValue → Type 0) {v : InputValue} {o : Option ℕ} {s : SearcherValue} → record { input = v; last_end = o } ≡ s
    → AtEachPlace P s.input → (i : ℕ) → P (from_place i v)
at-place P view each i = subst (λ (t : SearcherValue). P (from_place i t.input)) (sym view) (each i)

module _ (searches : InputValue → Option Match) {v : InputValue} {o : Option ℕ} {s : SearcherValue} (view : record { input = v; last_end = o } ≡ s) where
  -- before the first match
  pub next-first : o ≡ None → upcoming searches s ≡ searches v
  next-first none = ap (upcoming searches) (sym view) ∙ ap (λ (x : Option ℕ). upcoming searches (record { input = v; last_end = x })) none

  module _ (begins : begins_at o v) {last : ℕ} (some : o ≡ Some last) where
    begun : v.start ≡ last
    begun = (subst (λ (x : Option ℕ). begins_at x v) some begins).0

    by_test : (b : Bool) → is_empty_at last (searches v) ≡ b → upcoming searches s ≡ cond b (searches (from_place (last + 1) v)) (searches v)
    by_test b test =
        ap (upcoming searches) (sym view)
        ∙ ap (λ (x : Option ℕ). upcoming searches (record { input = v; last_end = x })) some
        ∙ ap (λ (n : ℕ). cond (is_empty_at last (searches (from_place n v))) (searches (from_place (last + 1) v)) (searches (from_place n v))) (sym begun)
        ∙ ap (λ (x : Bool). cond x (searches (from_place (last + 1) v)) (searches v)) test

    -- after a match, where the search from its end found none that is empty there
    pub next-here : is_empty_at last (searches v) ≡ false → upcoming searches s ≡ searches v
    next-here test = by_test false test

    -- where it found the empty one
    pub next-behind : is_empty_at last (searches v) ≡ true → upcoming searches s ≡ searches (from_place (last + 1) v)
    next-behind test = by_test true test

    -- a match that is not the empty one at the end of the last match ends later
    pub later-here : (m : MatchValue) → LiesIn v m → m.start ≤ m.end → (m.start ≢ last) ⊎ (m.end ≢ last) → IfSome s.last_end (λ l. l < m.end)
    later-here m lies order apart =
        let high : last < m.end = above apart in
        let ends : s.last_end ≡ Some last = ap (λ (t : SearcherValue). t.last_end) (sym view) ∙ some in
        subst (λ (x : Option ℕ). IfSome x (λ l. l < m.end)) (sym ends) high
      where
        above : (m.start ≢ last) ⊎ (m.end ≢ last) → last < m.end
        above (inl x) = let low = lies.0 in let start = begun in omega arith
        above (inr x) = let low = lies.0 in let start = begun in omega arith

    -- what lies behind that place lies in the input
    pub within-behind : {w : InputValue} (found : Option MatchValue) → w ≡ from_place (last + 1) v → IfSome found (LiesIn w) → IfSome found (LiesIn s.input)
    within-behind None behind lies = tt
    within-behind {w} (Some m) behind lies =
        let lies_there : LiesIn (from_place (last + 1) v) m = subst (λ (u : InputValue). LiesIn u m) behind lies in
        let low = lies_there.0 in
        let start = begun in
        subst (λ (t : SearcherValue). LiesIn t.input m) view (omega arith, lies_there.1)
