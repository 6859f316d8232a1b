-- What lies between matches.
use Rattle.std.proofs.Common.{◌≡◌, ℕ, zero, suc, ◌≤◌, ◌<◌, List, [], ◌∷◌, length, map, get_or, take, refl, ap, arith}
use Rattle.std.specs.Prelude.{All, AllPairs}
use Rattle.rx_model.specs.Search.{Match}
use Rattle.rx_meta.specs.Gaps.{span_between, gaps_from, gaps_up_to, span_of_match}
use Rattle.rx_meta.specs.Laws.{IsAfter, LeadFrom, in_turn}

-- the first gap is the one before the first match
pub gaps-more : (len i : ℕ) (m : Match) (ms : List Match) → gaps_from len i (m ∷ ms) ≡ span_between (i, m.start) ∷ gaps_from len m.trace.end ms
gaps-more len i m ms = refl

-- without a match all the rest is one gap
pub gaps-none : (len i : ℕ) → gaps_from len i [] ≡ span_between (i, len) ∷ []
gaps-none len i = refl

-- there is one more than matches
pub gaps-length : (len i : ℕ) (ms : List Match) → length (gaps_from len i ms) ≡ suc (length ms)
gaps-length len i [] = refl
gaps-length len i (m ∷ ms) = ap suc (gaps-length len m.trace.end ms)

take-within : (n : ℕ) (ms : List Match) → length (take n ms) ≤ n
take-within zero ms = omega arith
take-within (suc n) [] = omega arith
take-within (suc n) (m ∷ ms) = let rest = take-within n ms in omega arith

take-all : (n : ℕ) (ms : List Match) → length ms ≤ n → take n ms ≡ ms
take-all zero [] le = refl
take-all zero (m ∷ ms) le = absurd (omega arith)
take-all (suc n) [] le = refl
take-all (suc n) (m ∷ ms) le = ap (λ xs. m ∷ xs) (take-all n ms (omega arith))

-- at most so many pieces
pub pieces-limited : (n len i : ℕ) (ms : List Match) → length (gaps_up_to n len i ms) ≤ n
pieces-limited zero len i ms = omega arith
pieces-limited (suc n) len i ms = let size = gaps-length len i (take n ms) in let few = take-within n ms in omega arith

-- all gaps where they are not more
pub pieces-all : (n len i : ℕ) (ms : List Match) → length (gaps_from len i ms) ≤ n → gaps_up_to n len i ms ≡ gaps_from len i ms
pieces-all zero len i ms le = absurd (let size = gaps-length len i ms in omega arith)
pieces-all (suc n) len i ms le = let size = gaps-length len i ms in ap (gaps_from len i) (take-all n ms (omega arith))

-- the gaps and the matches, in turn, lie end to end
module _ (len : ℕ) where
  abbrev pub Lies : Match → Type 0
  Lies m = (m.start ≤ m.trace.end) × (m.trace.end ≤ len)

  pub gaps-lead : (i : ℕ) (ms : List Match) → i ≤ len → ((k : ℕ) (d : Match) → k < length ms → i ≤ (get_or ms k d).start)
      → AllPairs IsAfter ms → All Lies ms → LeadFrom i len (in_turn (gaps_from len i ms) (map span_of_match ms))
  gaps-lead i [] le after rise lie = (refl, le, refl)
  gaps-lead i (m ∷ ms) le after rise lie =
      let here = lie 0 m (omega arith) in (
        refl,
        after 0 m (omega arith),
        (
          refl,
          here.0,
          gaps-lead m.trace.end ms here.1 (λ k d lt. rise 0 (suc k) d (omega arith) (omega arith))
              (λ a b d lt small. rise (suc a) (suc b) d (omega arith) (omega arith)) (λ k d lt. lie (suc k) d (omega arith)),
        ),
      )
