-- Successive matches: they go on in the text, and the bound on their number never stops them.
use Rattle.std.proofs.Common.{◌≡◌, ℕ, zero, suc, ◌+◌, ◌-◌, ◌≤◌, ◌<◌, true, false, List, [], ◌∷◌, length, get_or, Option, Some, None, refl, sym, ◌∙◌, ap, subst, arith}
use Rattle.std.specs.Prelude.{◌&&◌, ◌==◌, nat_lt, All, AllPairs}
use Rattle.std.proofs.lemmas.Bool.Decides.{nat_tests}
use Rattle.rx_model.specs.Search.{Patterns, is_permitted, Anchor, is_anchored, starting_at, Match, starts, next_match, is_empty_at, next_after, matches_from, matches}
use Rattle.rx_model.specs.Matches.{AreSuccessive}
use Rattle.rx_model.proofs.lemmas.runs.RunLemmas.{by_test}
use Rattle.rx_model.proofs.lemmas.matches.MatchLemmas.{first_start-some, first_start-here, next-within}

-- A search whose matches lie between its start and b.
pub record IsSearch (search : ℕ → Option Match) (b : ℕ) : Type 0 where
  pub within : (i : ℕ) (m : Match) → search i ≡ Some m → (i ≤ m.start) × (m.start ≤ m.trace.end) × (m.trace.end ≤ b)

-- a match is found again from where it starts
abbrev pub FindsAgain : (ℕ → Option Match) → Type 0
FindsAgain search = (i : ℕ) (m : Match) → search i ≡ Some m → search m.start ≡ Some m

module _ (search : ℕ → Option Match) (b : ℕ) (s : IsSearch search b) where
  -- the match after a match that ended at i
  pub record Follows (i : ℕ) (m : Match) : Type 0 where
    pub ahead : (i ≤ m.start) × (m.start ≤ m.trace.end) × (m.trace.end ≤ b)
    pub rises : i < m.trace.end

  pub next_after-follows : (i : ℕ) (m : Match) → next_after search i ≡ Some m → Follows i m
  next_after-follows i m h =
      by_test (is_empty_at i (search i))
      (λ e.
      let found : search (i + 1) ≡ Some m = rw e at h in
      let x = s.within (i + 1) m found in
      let low = x.0 in
      let up = x.1 in
      record { ahead = (omega arith, x.1, x.2); rises = omega arith })
      (λ e.
      let found : search i ≡ Some m = rw e at h in
      let x = s.within i m found in
      let low = x.0 in
      let up = x.1 in
      let differ : ((m.start == i) && (m.trace.end == i)) ≡ false = rw found at e in
      record { ahead = x; rises = grind (arith, nat_tests) })

  -- the next match starts later, and not before the end of this one
  pub next_after-later : (m n : Match) → m.start ≤ m.trace.end → search m.start ≡ Some m → next_after search m.trace.end ≡ Some n → m.start < n.start
  next_after-later m n up here h =
      by_test (nat_lt m.start m.trace.end)
      (λ lt. let f = next_after-follows m.trace.end n h in let low = f.ahead.0 in grind (arith, nat_tests))
      (λ ge.
      let empty : m.trace.end ≡ m.start = grind (arith, nat_tests) in
      let found : search m.trace.end ≡ Some m = ap search empty ∙ here in
      let test : is_empty_at m.trace.end (search m.trace.end) ≡ true = rw found (grind (arith, nat_tests)) in
      let x = s.within (m.trace.end + 1) n (rw test at h) in
      let low = x.0 in
      omega arith)

  -- so many matches can still come
  abbrev pub IsEnough : ℕ → Option Match → Type 0
  IsEnough n o = (m : Match) → o ≡ Some m → (m.trace.end ≤ b) × (b < m.trace.end + n)

  enough-after : (n : ℕ) (m : Match) → IsEnough (suc n) (Some m) → IsEnough n (next_after search m.trace.end)
  enough-after n m enough x h =
      let f = next_after-follows m.trace.end x h in
      let up = f.rises in
      let top = f.ahead.2 in
      let few = (enough m refl).1 in
      (top, omega arith)

  -- the list goes on until there is no match
  pub matches_from-successive : (n : ℕ) (o : Option Match) → IsEnough n o → AreSuccessive search o (matches_from search n o)
  unfolding matches_from
  matches_from-successive zero None enough = tt
  matches_from-successive zero (Some m) enough = absurd (let x = enough m refl in let le = x.0 in let lt = x.1 in omega arith)
  matches_from-successive (suc n) None enough = tt
  matches_from-successive (suc n) (Some m) enough = (refl, matches_from-successive n (next_after search m.trace.end) (enough-after n m enough))

  -- a greater bound gives the same list
  pub matches_from-enough : (n k : ℕ) (o : Option Match) → IsEnough n o → IsEnough k o → matches_from search n o ≡ matches_from search k o
  unfolding matches_from
  matches_from-enough zero zero o enough enough' = refl
  matches_from-enough zero (suc k) None enough enough' = refl
  matches_from-enough zero (suc k) (Some m) enough enough' = absurd (let x = enough m refl in let le = x.0 in let lt = x.1 in omega arith)
  matches_from-enough (suc n) zero None enough enough' = refl
  matches_from-enough (suc n) zero (Some m) enough enough' = absurd (let x = enough' m refl in let le = x.0 in let lt = x.1 in omega arith)
  matches_from-enough (suc n) (suc k) None enough enough' = refl
  matches_from-enough (suc n) (suc k) (Some m) enough enough' =
      ap (λ ms. m ∷ ms) (matches_from-enough n k (next_after search m.trace.end) (enough-after n m enough) (enough-after k m enough'))

  module _ (finds : FindsAgain search) where
    next_after-again : (i : ℕ) (m : Match) → next_after search i ≡ Some m → search m.start ≡ Some m
    next_after-again i m h =
        by_test (is_empty_at i (search i))
        (λ e. finds (i + 1) m (rw e at h))
        (λ e. finds i m (rw e at h))

    -- what is known of the match that comes next, where none starts before i
    pub record Comes (i : ℕ) (m : Match) : Type 0 where
      pub ahead : (i ≤ m.start) × (m.start ≤ m.trace.end) × (m.trace.end ≤ b)
      pub again : search m.start ≡ Some m

    comes-after : (i : ℕ) (m : Match) → Comes i m → (n : Match) → next_after search m.trace.end ≡ Some n → Comes i n
    comes-after i m c n h =
        let f = next_after-follows m.trace.end n h in
        let low = c.ahead.0 in
        let up = c.ahead.1 in
        let next = f.ahead.0 in
        record { ahead = (omega arith, f.ahead.1, f.ahead.2); again = next_after-again m.trace.end n h }

    -- each match lies between its start and b
    each-ahead : (i : ℕ) (o : Option Match) (ms : List Match) → AreSuccessive search o ms → ((m : Match) → o ≡ Some m → Comes i m)
        → (j : ℕ) (d : Match) → j < length ms → (i ≤ (get_or ms j d).start) × ((get_or ms j d).start ≤ (get_or ms j d).trace.end)
        × ((get_or ms j d).trace.end ≤ b)
    each-ahead i o [] are comes j d lt = absurd (omega arith)
    each-ahead i None (n ∷ ms) are comes j d lt = absurd are
    each-ahead i (Some m) (n ∷ ms) are comes zero d lt =
        subst (λ (x : Match). (i ≤ x.start) × (x.start ≤ x.trace.end) × (x.trace.end ≤ b)) (sym are.0) (comes m refl).ahead
    each-ahead i (Some m) (n ∷ ms) are comes (suc j) d lt =
        each-ahead i (next_after search m.trace.end) ms are.1 (λ x h. comes-after i m (comes m refl) x h) j d (omega arith)

    pub successive-within : (i : ℕ) (o : Option Match) (ms : List Match) → AreSuccessive search o ms → ((m : Match) → o ≡ Some m → Comes i m)
        → All (λ (m : Match). (i ≤ m.start) × (m.start ≤ m.trace.end) × (m.trace.end ≤ b)) ms
    successive-within i o ms are comes k d lt = each-ahead i o ms are comes k d lt

    -- each match starts after those before it, and not before their ends
    pub successive-rise : (o : Option Match) (ms : List Match) → AreSuccessive search o ms → ((m : Match) → o ≡ Some m → Comes 0 m)
        → AllPairs (λ (m n : Match). (m.start < n.start) × (m.trace.end ≤ n.start)) ms
    successive-rise o [] are comes i j d lt le = absurd (omega arith)
    successive-rise None (n ∷ ms) are comes i j d lt le = absurd are
    successive-rise (Some m) (n ∷ ms) are comes i zero d lt le = absurd (omega arith)
    successive-rise (Some m) (n ∷ ms) are comes zero (suc j) d lt le =
        let c = comes m refl in
        let after = each-ahead m.trace.end (next_after search m.trace.end) ms are.1
        (λ x h. let f = next_after-follows m.trace.end x h in record { ahead = f.ahead; again = next_after-again m.trace.end x h }) j d (omega arith) in
        let later = each-ahead (suc m.start) (next_after search m.trace.end) ms are.1
        (λ x h.
        let f = next_after-follows m.trace.end x h in
        let above = next_after-later m x c.ahead.1 c.again h in
        record { ahead = (omega arith, f.ahead.1, f.ahead.2); again = next_after-again m.trace.end x h }) j d (omega arith) in
        let low = after.0 in
        let high = later.0 in
        subst (λ (x : Match). (x.start < (get_or ms j d).start) × (x.trace.end ≤ (get_or ms j d).start)) (sym are.0) (omega arith, low)
    successive-rise (Some m) (n ∷ ms) are comes (suc i) (suc j) d lt le =
        successive-rise (next_after search m.trace.end) ms are.1 (λ x h. comes-after 0 m (comes m refl) x h) i j d (omega arith) (omega arith)

module _ (r : Patterns) (text : List ℕ) (anchor : Anchor) (b : ℕ) where
  next-again : (i : ℕ) (m : Match) → next_match r text anchor b i ≡ Some m → next_match r text anchor b m.start ≡ Some m
  unfolding next_match
  next-again i m h =
      let x = first_start-some (is_permitted r.utf8_empty text) (starting_at r text b anchor) (starts anchor i b) i m h in
      first_start-here (is_permitted r.utf8_empty text) (starting_at r text b anchor) (starts anchor m.start b) m
      (some_start m.start (let w = in_span in let up = w.1 in let top = w.2 in omega arith)) x.allowed x.told
    where
      in_span : (i ≤ m.start) × (m.start ≤ m.trace.end) × (m.trace.end ≤ b)
      in_span = next-within r text anchor b i m h

      some_start : (k : ℕ) → k ≤ b → 0 < starts anchor k b
      some_start k le =
          let over : nat_lt b k ≡ false = grind (arith, nat_tests) in rw over (by_test (is_anchored anchor) (λ e. rw e (omega arith)) (λ e. rw e (omega arith)))

  next-search : IsSearch (next_match r text anchor b) b
  next-search = record { within = λ i m h. next-within r text anchor b i m h }

  module _ (a : ℕ) where
    enough-first : (n : ℕ) → b + 1 - a + 1 ≤ n → IsEnough (next_match r text anchor b) b next-search n (next_match r text anchor b a)
    enough-first n le m h = let x = next-within r text anchor b a m h in let low = x.0 in let up = x.1 in let top = x.2 in (top, omega arith)

    comes-first : (m : Match) → next_match r text anchor b a ≡ Some m → Comes (next_match r text anchor b) b next-search next-again a m
    comes-first m h = record { ahead = next-within r text anchor b a m h; again = next-again a m h }

    pub matches-successive : AreSuccessive (next_match r text anchor b) (next_match r text anchor b a) (matches r text anchor b a)
    unfolding matches
    matches-successive = matches_from-successive (next_match r text anchor b) b next-search (b + 1 - a + 1) (next_match r text anchor b a)
        (enough-first (b + 1 - a + 1) (omega arith))

    pub matches-enough : (n : ℕ) → b + 1 - a + 1 ≤ n → matches_from (next_match r text anchor b) n (next_match r text anchor b a) ≡ matches r text anchor b a
    unfolding matches
    matches-enough n le =
        matches_from-enough (next_match r text anchor b) b next-search n (b + 1 - a + 1) (next_match r text anchor b a) (enough-first n le)
        (enough-first (b + 1 - a + 1) (omega arith))

    pub matches-within : All (λ (m : Match). (a ≤ m.start) × (m.start ≤ m.trace.end) × (m.trace.end ≤ b)) (matches r text anchor b a)
    matches-within = successive-within (next_match r text anchor b) b next-search next-again a (next_match r text anchor b a) (matches r text anchor b a)
        matches-successive comes-first

    pub matches-rise : AllPairs (λ (m n : Match). (m.start < n.start) × (m.trace.end ≤ n.start)) (matches r text anchor b a)
    matches-rise =
        successive-rise (next_match r text anchor b) b next-search next-again (next_match r text anchor b a) (matches r text anchor b a) matches-successive
        (λ m h. let c = comes-first m h in record { ahead = (omega arith, c.ahead.1, c.ahead.2); again = c.again })
