-- For a loop over `advance`: what it has listed, with what is still to come, is what was to come at first.
use Rattle.std.proofs.Common.{◌≡◌, ℕ, zero, suc, ◌+◌, ◌-◌, ◌<◌, ◌≤◌, List, [], ◌∷◌, ◌++◌, refl, sym, ◌∙◌, ap, subst, inl, inr, arith}
use Rattle.std.proofs.lemmas.List.{append_assoc, append-nil}
use Rattle.std.proofs.lemmas.List.Elements.{Contains-append_left, Contains-append_right}
use Rattle.std.specs.Prelude.{◌⊎◌, true, Contains, Option, Some, None, option_map, map, IfSome, MatchOption, OnSome}
use Rattle.rx_model.specs.Search.{Patterns, Match, is_empty_at, next_after, matches_from, matches}
use Rattle.rx_model.proofs.lemmas.runs.RunLemmas.{by_test}
use Rattle.rx_model.proofs.lemmas.matches.MatchLemmas.{next-within}
use Rattle.rx_model.proofs.lemmas.matches.SuccessionLemmas.{IsSearch, IsEnough, next_after-follows, matches_from-enough}
use Rattle.rx_search.specs.Matches.{MatchValue, match_value}
use Rattle.rx_search.specs.Input.{InputValue, from_place, next_in}
use Rattle.rx_search.specs.Told.{tells, told_in, LiesIn}
use Rattle.rx_search.specs.Searcher.{SearcherValue, moved_past, search_from, upcoming, places_left, to_come, successive, AnswersWithin, IsReached, HasCause, HasCauseOfOne}

-- The rows so far, and those of the matches that the searcher has still to come, are the goal.
-- `more` bounds how many come: there are never more than places are left.
pub record Progress {A : Type 0} (searches : InputValue → Option Match) (row : Match → A) (goal so_far : List A) (s : SearcherValue) : Type 0 where
  pub more : ℕ
  pub whole : so_far ++ map row (matches_from (search_from searches s.input) more (upcoming searches s)) ≡ goal
  pub enough : places_left s ≤ more

-- The second finder answers as the first one: it searches alike, can search what that could, promises what that
-- promised, fails for no other cause, and keeps what that kept.
pub record AnswersAlike {F E : Type 0} (searches : F → InputValue → Option Match) (can_search promises : F → InputValue → Type 0)
    (fails : F → InputValue → E → Type 0) (keeps : F → F → Type 0) (f g : F) : Type 0 where
  pub same_answers : (v : InputValue) → searches g v ≡ searches f v
  pub still_can : (v : InputValue) → can_search f v → can_search g v
  pub still_promises : (v : InputValue) → promises f v → promises g v
  pub same_failures : (v : InputValue) (e : E) → fails g v e → fails f v e
  pub stays : (s : F) → keeps s f → keeps s g

module _ {F E : Type 0} {searches : F → InputValue → Option Match} {can_search promises : F → InputValue → Type 0} {fails : F → InputValue → E → Type 0}
    {keeps : F → F → Type 0} where
  pub AnswersAlike-begun : (f : F) → AnswersAlike searches can_search promises fails keeps f f
  AnswersAlike-begun f = record {
    same_answers = λ v. refl;
    still_can = λ v can. can;
    still_promises = λ v promised. promised;
    same_failures = λ v e cause. cause;
    stays = λ s kept. kept;
  }

  -- after one call more
  pub AnswersAlike-more : {f g h : F} → AnswersAlike searches can_search promises fails keeps f g
      → ((v : InputValue) → searches h v ≡ searches g v)
      → ((v : InputValue) → can_search g v → can_search h v)
      → ((v : InputValue) → promises g v → promises h v)
      → ((v : InputValue) (e : E) → fails h v e → fails g v e)
      → ((s : F) → keeps s g → keeps s h)
      → AnswersAlike searches can_search promises fails keeps f h
  AnswersAlike-more alike same_answers still_can still_promises same_failures stays = record {
    same_answers = λ v. same_answers v ∙ alike.same_answers v;
    still_can = λ v can. still_can v (alike.still_can v can);
    still_promises = λ v promised. still_promises v (alike.still_promises v promised);
    same_failures = λ v e cause. alike.same_failures v e (same_failures v e cause);
    stays = λ s kept. stays s (alike.stays s kept);
  }

-- What the searcher reached, and why a call fails there.

-- after a call that answered a match
pub IsReached-more : (searches : InputValue → Option Match) (Promised : Type 0) (s t t' : SearcherValue) {found : Option MatchValue} {m : MatchValue}
    → IsReached searches Promised s t → found ≡ Some m → MatchOption found (t' ≡ t) (λ x. t' ≡ moved_past x t) → t.input.start ≤ t'.input.start
    → IfSome found (LiesIn t.input) → (Promised → Contains (map match_value (to_come searches s)) m) → IsReached searches Promised s t'
IsReached-more searches Promised s t t' {found} {m} reached some moved forward within contains =
    let moves : t' ≡ moved_past m t = rw some at moved in
    let lies : LiesIn t.input m = rw some at within in
    let to : t'.input.start ≡ m.end = ap (λ (u : SearcherValue). u.input.start) moves in
    let high = lies.1 in
    elim reached [
      | inl here ↦
          let from : t.input.start ≡ s.input.start = ap (λ (u : SearcherValue). u.input.start) here in
          let end : t.input.end ≡ s.input.end = ap (λ (u : SearcherValue). u.input.end) here in
          inr (m, moves ∙ ap (moved_past m) here, omega arith, omega arith, contains)
      | inr past ↦
          let from : t.input.start ≡ past.0.end = ap (λ (u : SearcherValue). u.input.start) past.1 in
          let end : t.input.end ≡ s.input.end = ap (λ (u : SearcherValue). u.input.end) past.1 in
          let low = past.2 in
          inr (m, moves ∙ ap (moved_past m) past.1, omega arith, omega arith, contains)
    ]

module _ {E : Type 0} (fails fails' : InputValue → E → Type 0) (searches searches' : InputValue → Option Match) (P P' : Type 0)
    (same_failures : (v : InputValue) (e : E) → fails' v e → fails v e) (same : (v : InputValue) → searches' v ≡ searches v) (promised : P → P') where
  -- the cause of a later call, said of the finder at first
  HasCause-alike : (t : SearcherValue) (e : E) → HasCause fails' searches' P' t e → HasCause fails searches P t e
  HasCause-alike t e (inl here) = inl (same_failures t.input e here)
  HasCause-alike t e (inr behind) =
      inr (
        behind.0,
        behind.1,
        λ p. ap (is_empty_at behind.0) (sym (same t.input)) ∙ behind.2 (promised p),
        same_failures (from_place (behind.0 + 1) t.input) e behind.3,
      )

  pub HasCause-later : (s t : SearcherValue) (e : E) → IsReached searches P s t → HasCause fails' searches' P' t e → HasCauseOfOne fails searches P s e
  HasCause-later s t e reached cause = (t, reached, HasCause-alike t e cause)

no-value : {A : Type 0} {P : Type 0} {x : A} → None ≡ Some x → P
no-value e = cc

-- the match of which an answer is the value
pub answered : {found : Option MatchValue} {m : MatchValue} → found ≡ Some m → (o : Option Match) → found ≡ option_map match_value o
    → (x : Match) × (o ≡ Some x) × (match_value x ≡ m)
answered some None is = no-value (sym is ∙ some)
answered some (Some x) is = (x, refl, (let e : Some (match_value x) ≡ Some _ = sym is ∙ some in cc))

pub no-answer : {found : Option MatchValue} → found ≡ None → (o : Option Match) → found ≡ option_map match_value o → o ≡ None
no-answer none None is = refl
no-answer none (Some x) is = no-value (sym none ∙ is)

module _ {A : Type 0} {row : Match → A} where
  -- before the first call
  pub Progress-begun : (searches : InputValue → Option Match) {s begun : SearcherValue} {so_far : List A} → s ≡ begun → so_far ≡ []
      → Progress searches row (map row (to_come searches begun)) so_far s
  unfolding to_come
  Progress-begun searches {s} {begun} {so_far} same empty =
      let start : Progress searches row (map row (to_come searches begun)) so_far begun = record {
        more = places_left begun;
        whole = ap (λ xs. xs ++ map row (matches_from (search_from searches begun.input) (places_left begun) (upcoming searches begun))) empty;
        enough = omega arith;
      } in
      subst (Progress searches row (map row (to_come searches begun)) so_far) (sym same) start

  module _ {searches : InputValue → Option Match} {goal so_far : List A} {s : SearcherValue} (p : Progress searches row goal so_far s) where
    -- after a call that answered a match, whose row was added
    pub Progress-more : {found : Option MatchValue} {m : MatchValue} {searches' : InputValue → Option Match} {so_far' : List A} {s' : SearcherValue} {y : A}
        → found ≡ Some m
        → found ≡ option_map match_value (upcoming searches s)
        → MatchOption found (s' ≡ s) (λ x. s' ≡ moved_past x s)
        → OnSome found (places_left s' < places_left s)
        → ((v : InputValue) → searches' v ≡ searches v)
        → ((x : Match) → upcoming searches s ≡ Some x → match_value x ≡ m → row x ≡ y)
        → so_far' ≡ so_far ++ y ∷ []
        → Progress searches' row goal so_far' s'
    unfolding matches_from
    Progress-more {found} {m} {searches'} {so_far'} {s'} {y} some is moved fewer same to_row longer =
        let a = answered some (upcoming searches s) is in
        let moves : s' ≡ moved_past m s = rw some at moved in
        let falls : places_left s' < places_left s = rw some at fewer in
        go a.0 a.1 a.2 moves falls p.more refl
      where
        go : (x : Match) → upcoming searches s ≡ Some x → match_value x ≡ m → s' ≡ moved_past m s → places_left s' < places_left s
            → (n : ℕ) → p.more ≡ n → Progress searches' row goal so_far' s'
        go x next value moves falls zero count = absurd (let e = p.enough in omega arith)
        go x next value moves falls (suc n) count =
            let e = p.enough in
            let alike : searches ≡ searches' = λ j v. sym (same v) j in
            let ends : x.trace.end ≡ m.end = ap (λ (v : MatchValue). v.end) value in
            let rest : ℕ → List A = λ last. map row (matches_from (search_from searches s.input) n (next_after (search_from searches s.input) last)) in
            let begun : (so_far ++ y ∷ []) ++ rest m.end ≡ goal =
            append_assoc so_far (y ∷ []) (rest m.end)
            ∙ (λ j. so_far ++ (sym (to_row x next value) j ∷ rest (sym ends j)))
            ∙ (λ j. so_far ++ map row (matches_from (search_from searches s.input) (sym count j) (sym next j)))
            ∙ p.whole in
            let P : SearcherValue → Type 0 = λ t. so_far' ++ map row (matches_from (search_from searches t.input) n (upcoming searches t)) ≡ goal in
            let Q : (InputValue → Option Match) → Type 0 = λ f. so_far' ++ map row (matches_from (search_from f s'.input) n (upcoming f s')) ≡ goal in
            let now : P (moved_past m s) = ap (λ xs. xs ++ rest m.end) longer ∙ begun in
            record {
              more = n;
              whole = subst Q alike (subst P (sym moves) now);
              enough = omega arith;
            }

    -- and that row is one of the goal
    pub Progress-contains : {found : Option MatchValue} {m : MatchValue} (s' : SearcherValue) → found ≡ Some m
        → found ≡ option_map match_value (upcoming searches s)
        → MatchOption found (s' ≡ s) (λ x. s' ≡ moved_past x s)
        → OnSome found (places_left s' < places_left s)
        → (y : A)
        → ((x : Match) → upcoming searches s ≡ Some x → match_value x ≡ m → row x ≡ y)
        → Contains goal y
    Progress-contains {found} {m} s' some is moved fewer y to_row =
        let more : Progress searches row goal (so_far ++ y ∷ []) s' = Progress-more some is moved fewer (λ v. refl) to_row refl in
        let rest : List A = map row (matches_from (search_from searches s'.input) more.more (upcoming searches s')) in
        subst (λ ys. Contains ys y) more.whole
        (Contains-append_left (so_far ++ y ∷ []) rest y (Contains-append_right so_far (y ∷ []) y (zero, omega arith, refl)))

    -- after a call that answered none
    pub Progress-over : {found : Option MatchValue} → found ≡ None → found ≡ option_map match_value (upcoming searches s) → so_far ≡ goal
    unfolding matches_from
    Progress-over none is = at_end (no-answer none (upcoming searches s) is) p.more refl
      where
        at_end : upcoming searches s ≡ None → (n : ℕ) → p.more ≡ n → so_far ≡ goal
        at_end next zero count = sym (append-nil so_far) ∙ (λ j. so_far ++ map row (matches_from (search_from searches s.input) (sym count j) (sym next j)))
            ∙ p.whole
        at_end next (suc n) count = sym (append-nil so_far) ∙ (λ j. so_far ++ map row (matches_from (search_from searches s.input) (sym count j) (sym next j)))
            ∙ p.whole

-- where each search answers the patterns' next match, one after another they are the patterns' matches
pub successive-matches : (searches : InputValue → Option Match) (patterns : Patterns) (v : InputValue)
    → ((i : ℕ) → searches (from_place i v) ≡ next_in patterns (from_place i v))
    → successive searches v ≡ matches patterns v.haystack v.anchor v.end v.start
unfolding to_come matches
successive-matches searches patterns v same =
    let alike : search_from searches v ≡ search_from (next_in patterns) v = λ j i. same i j in
    ap (λ (search : ℕ → Option Match). matches_from search (v.end + 1 - v.start + 1) (search v.start)) alike

-- where each search answers the patterns' next match, it answers within its span
pub next-answers : (searches : InputValue → Option Match) (patterns : Patterns) (v : InputValue)
    → ((i : ℕ) → searches (from_place i v) ≡ next_in patterns (from_place i v)) → AnswersWithin searches v
next-answers searches patterns v same = record { within = λ i m h. next-within patterns v.haystack v.anchor v.end i m (sym (same i) ∙ h) }

pub told-answers : (searches : InputValue → Option Match) (patterns : Patterns) (v : InputValue)
    → ((i : ℕ) → searches (from_place i v) ≡ told_in patterns (from_place i v)) → AnswersWithin searches v
told-answers searches patterns v same = record {
  within = λ i m h.
      let told : told_in patterns (from_place i v) ≡ Some m = sym (same i) ∙ h in
      by_test (tells patterns.which_captures)
      (λ is. next-within patterns v.haystack v.anchor v.end i m (rw is at told))
      (λ is. no-value (rw is at told));
}

-- a match that ends later leaves fewer places
pub places-fall : (s : SearcherValue) (m : MatchValue) → IfSome s.last_end (λ last. last < m.end) → s.input.start ≤ m.start → m.start ≤ m.end
    → m.end ≤ s.input.end
    → places_left (moved_past m s) < places_left s
places-fall s m later low order high = by_last s.last_end refl
  where
    by_last : (o : Option ℕ) → s.last_end ≡ o → places_left (moved_past m s) < places_left s
    by_last None is = rw is (omega arith)
    by_last (Some last) is = let above : last < m.end = rw is at later in rw is (omega arith)

none-to-come : (search : ℕ → Option Match) (n : ℕ) → matches_from search n None ≡ []
unfolding matches_from
none-to-come search zero = refl
none-to-come search (suc n) = refl

module _ (searches : InputValue → Option Match) (s : SearcherValue) where
  -- where none was answered nothing was to come
  pub gives-none : {found : Option MatchValue} → found ≡ None → found ≡ option_map match_value (upcoming searches s) → to_come searches s ≡ []
  unfolding to_come
  gives-none none is =
      ap (matches_from (search_from searches s.input) (places_left s)) (no-answer none (upcoming searches s) is)
      ∙ none-to-come (search_from searches s.input) (places_left s)

  -- the match that was answered, and then what is still to come
  pub gives-some : {found : Option MatchValue} {m : MatchValue} {s' : SearcherValue} → AnswersWithin searches s.input → found ≡ Some m
      → found ≡ option_map match_value (upcoming searches s) → s' ≡ moved_past m s → places_left (moved_past m s) < places_left s
      → (x : Match) × (match_value x ≡ m) × (to_come searches s ≡ x ∷ to_come searches s')
  unfolding to_come matches_from
  gives-some {found} {m} {s'} answers some is moves falls =
      let a = answered some (upcoming searches s) is in
      (a.0, a.2, follow a.0 a.1 (ap (λ (v : MatchValue). v.end) a.2) (places_left s) refl ∙ (λ j. a.0 ∷ to_come searches (sym moves j)))
    where
      is_search : IsSearch (search_from searches s.input) s.input.end
      is_search = record { within = answers.within }

      follow : (x : Match) → upcoming searches s ≡ Some x → x.trace.end ≡ m.end → (n : ℕ) → places_left s ≡ n
          → to_come searches s ≡ x ∷ to_come searches (moved_past m s)
      follow x next ends zero count = absurd (omega arith)
      follow x next ends (suc n) count =
          let enough : (k : ℕ) → s.input.end + 1 - x.trace.end ≤ k
          → IsEnough (search_from searches s.input) s.input.end is_search k (next_after (search_from searches s.input) x.trace.end) =
          λ k le y h. let f = next_after-follows (search_from searches s.input) s.input.end is_search x.trace.end y h in let up = f.rises in
          let top = f.ahead.2 in (top, omega arith) in
          (λ j. matches_from (search_from searches s.input) (count j) (next j))
          ∙ ap (λ ms. x ∷ ms) (matches_from-enough (search_from searches s.input) s.input.end is_search n (s.input.end + 1 - x.trace.end)
          (next_after (search_from searches s.input) x.trace.end)
          (enough n (omega arith)) (enough (s.input.end + 1 - x.trace.end) (omega arith)))
          ∙ (λ j. x ∷ matches_from (search_from searches s.input) (s.input.end + 1 - ends j) (next_after (search_from searches s.input) (ends j)))
