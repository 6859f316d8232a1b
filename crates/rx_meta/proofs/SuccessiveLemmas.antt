-- The successive matches of any search that answers within its span.
use Rattle.std.proofs.Common.{◌≡◌, ℕ, zero, suc, ◌+◌, ◌-◌, ◌≤◌, ◌<◌, List, [], ◌∷◌, length, map, get_or, Option, Some, None, refl, sym, subst, arith}
use Rattle.std.specs.Prelude.{All, AllPairs}
use Rattle.rx_model.specs.Search.{Match, next_after}
use Rattle.rx_model.specs.Matches.{AreSuccessive}
use Rattle.rx_model.proofs.lemmas.matches.SuccessionLemmas.{IsSearch, next_after-follows, matches_from-successive, successive-rise}
use Rattle.rx_search.specs.Input.{InputValue}
use Rattle.rx_search.specs.Searcher.{AnswersWithin, search_from, successive, to_come}
use Rattle.rx_meta.specs.Gaps.{gaps_from, span_of_match}
use Rattle.rx_meta.specs.Laws.{EndsBehind, IsBehind, IsInSpan, FindsAgain, LeadFrom, in_turn}
use Rattle.rx_meta.proofs.GapLemmas.{gaps-lead}

module _ (search : ℕ → Option Match) (b : ℕ) (s : IsSearch search b) where
  -- the match lies between place i and b
  abbrev pub LiesFrom : ℕ → Match → Type 0
  LiesFrom i m = (i ≤ m.start) × (m.start ≤ m.trace.end) × (m.trace.end ≤ b)

  follows-lies : (i : ℕ) (m : Match) → LiesFrom i m → (n : Match) → next_after search m.trace.end ≡ Some n → LiesFrom i n
  follows-lies i m lies n h =
      let f = next_after-follows search b s m.trace.end n h in
      let from = lies.0 in
      let up = lies.1 in
      let low = f.ahead.0 in
      (omega arith, f.ahead.1, f.ahead.2)

  pub each-lies : (i : ℕ) (o : Option Match) (ms : List Match) → AreSuccessive search o ms → ((m : Match) → o ≡ Some m → LiesFrom i m)
      → (j : ℕ) (d : Match) → j < length ms → LiesFrom i (get_or ms j d)
  each-lies i o [] are next j d lt = absurd (omega arith)
  each-lies i None (n ∷ ms) are next j d lt = absurd are
  each-lies i (Some m) (n ∷ ms) are next zero d lt = subst (LiesFrom i) (sym are.0) (next m refl)
  each-lies i (Some m) (n ∷ ms) are next (suc j) d lt =
      each-lies i (next_after search m.trace.end) ms are.1 (λ x h. follows-lies i m (next m refl) x h) j d (omega arith)

  -- each ends after place e where the first one does
  each-ends : (e : ℕ) (o : Option Match) (ms : List Match) → AreSuccessive search o ms → ((m : Match) → o ≡ Some m → e < m.trace.end)
      → (j : ℕ) (d : Match) → j < length ms → e < (get_or ms j d).trace.end
  each-ends e o [] are next j d lt = absurd (omega arith)
  each-ends e None (n ∷ ms) are next j d lt = absurd are
  each-ends e (Some m) (n ∷ ms) are next zero d lt = subst (λ (x : Match). e < x.trace.end) (sym are.0) (next m refl)
  each-ends e (Some m) (n ∷ ms) are next (suc j) d lt =
      let here = next m refl in
      each-ends e (next_after search m.trace.end) ms are.1
      (λ x h. let f = next_after-follows search b s m.trace.end x h in let up = f.rises in omega arith) j d (omega arith)

  pub ends-rise : (o : Option Match) (ms : List Match) → AreSuccessive search o ms → AllPairs EndsBehind ms
  ends-rise o [] are i j d lt le = absurd (omega arith)
  ends-rise None (n ∷ ms) are i j d lt le = absurd are
  ends-rise (Some m) (n ∷ ms) are i zero d lt le = absurd (omega arith)
  ends-rise (Some m) (n ∷ ms) are zero (suc j) d lt le =
      let rest = next_after search m.trace.end in
      let lies = each-lies m.trace.end rest ms are.1 (λ x h. (next_after-follows search b s m.trace.end x h).ahead) j d (omega arith) in
      let ends = each-ends m.trace.end rest ms are.1 (λ x h. (next_after-follows search b s m.trace.end x h).rises) j d (omega arith) in
      subst (λ (x : Match). EndsBehind x (get_or ms j d)) (sym are.0) (lies.0, ends)
  ends-rise (Some m) (n ∷ ms) are (suc i) (suc j) d lt le = ends-rise (next_after search m.trace.end) ms are.1 i j d (omega arith) (omega arith)

module _ (searches : InputValue → Option Match) (v : InputValue) (answers : AnswersWithin searches v) where
  is_search : IsSearch (search_from searches v) v.end
  is_search = record { within = answers.within }

  pub successive-follow : AreSuccessive (search_from searches v) (searches v) (successive searches v)
  unfolding to_come
  successive-follow =
      matches_from-successive (search_from searches v) v.end is_search (v.end + 1 - v.start + 1) (searches v)
      (λ m h. let x = answers.within v.start m h in let low = x.0 in let up = x.1 in let high = x.2 in (x.2, omega arith))

  pub successive-lie : All (IsInSpan v) (successive searches v)
  successive-lie = λ k d lt.
      each-lies (search_from searches v) v.end is_search v.start (searches v) (successive searches v) successive-follow
      (λ m h. answers.within v.start m h) k d lt

  pub successive-ends : AllPairs EndsBehind (successive searches v)
  successive-ends = ends-rise (search_from searches v) v.end is_search (searches v) (successive searches v) successive-follow

  pub successive-starts : FindsAgain searches v → AllPairs IsBehind (successive searches v)
  successive-starts again =
      successive-rise (search_from searches v) v.end is_search again (searches v) (successive searches v) successive-follow
      (λ m h. let x = answers.within v.start m h in record { ahead = (omega arith, x.1, x.2); again = again v.start m h })

  pub successive-cover : v.end ≤ length v.haystack
      → LeadFrom 0 (length v.haystack) (in_turn (gaps_from (length v.haystack) 0 (successive searches v)) (map span_of_match (successive searches v)))
  successive-cover within =
      gaps-lead (length v.haystack) 0 (successive searches v) (omega arith) (λ k d lt. omega arith)
      (λ i j d lt le. (successive-ends i j d lt le).0)
      (λ k d lt. let l = successive-lie k d lt in let end = l.2 in (l.1, omega arith))
