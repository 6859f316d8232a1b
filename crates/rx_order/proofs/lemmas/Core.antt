-- What each of the four arguments shows, and how no earlier match follows.
use Rattle.std.proofs.Common.{◌≡◌, ℕ, zero, suc, ◌+◌, ◌<◌, ◌≤◌, true, List, length, subst, arith}
use Rattle.std.specs.Prelude.{nat_lt, nat_le, Contains}
use Rattle.std.proofs.lemmas.Bool.Decides.{nat_tests}
use Rattle.rx_model.specs.Text.{stands_at}
use Rattle.rx_model.specs.Expression.{Expression}
use Rattle.rx_model.specs.Meaning.{Means}
use Rattle.rx_model.proofs.lemmas.runs.RunLemmas.{by_test}
use Rattle.rx_model.proofs.lemmas.meaning.EmptyLemmas.{means-rises}
use Rattle.rx_order.specs.Order.{IsMatchStart, IsConfirmedInner, IsNoEarlier}

module _ (t : ℕ) (text : List ℕ) where
  -- one of the literals stands at c
  abbrev pub StandsOne : List (List ℕ) → ℕ → Type 0
  StandsOne ls c = (l : List ℕ) × Contains ls l × (stands_at text c l ≡ true)

  -- Where p leads from i to c and from an earlier i' to a later c', and literals stand at both, p leads from i' to c too.
  -- Since c has i as its least start, that can't be.
  abbrev pub IsOrdered : Expression → List (List ℕ) → Type 0
  IsOrdered p ls = (i c i' c' : ℕ) → Means t text p i c → StandsOne ls c → Means t text p i' c' → StandsOne ls c'
      → i' < i → c < c' → (Means t text p i' c → ⊥) → ⊥

  -- a match leads over a place where a literal stands, and from wherever p leads to that place there is a match
  abbrev pub Splits : Expression → Expression → List (List ℕ) → Type 0
  Splits h p ls = (i j : ℕ) → Means t text h i j
      → (c : ℕ) × Means t text p i c × ((l : List ℕ) × Contains ls l × (stands_at text c l ≡ true) × (c + length l ≤ j))
      × ((k : ℕ) → Means t text p k c → Means t text h k j)

  module _ (a b : ℕ) (h p : Expression) (ls : List (List ℕ)) where
    abbrev Confirmed : (c i : ℕ) → Type 0
    Confirmed c i = IsConfirmedInner t text a b p h ls c i

    -- where the candidate at c is not confirmed, p leads to c from nowhere in the span
    not-confirmed : (c j : ℕ) → (l : List ℕ) × Contains ls l × (stands_at text c l ≡ true) × (c + length l ≤ j) → j ≤ b
        → ((k : ℕ) → Means t text p k c → Means t text h k j) → ((k : ℕ) → Confirmed c k → ⊥)
        → (n k : ℕ) → k < n → a ≤ k → Means t text p k c → ⊥
    not-confirmed c j lit le back none zero k lt low m = absurd (omega arith)
    not-confirmed c j lit le back none (suc n) k lt low m =
        let up = means-rises t text p k c m in
        let ends = lit.3 in
        none k (record {
          candidate = (lit.0, lit.1, (omega arith, lit.2, omega arith));
          start = record {
            inside = low;
            has = m;
            least = λ d above md. by_test (nat_le k d) (λ e. grind (arith, nat_tests))
                (λ e. absurd (not-confirmed c j lit le back none n d (grind (arith, nat_tests)) above md));
          };
          match_start = (j, le, back k m);
        })

    pub inner-no_earlier : Splits h p ls → IsOrdered p ls → IsNoEarlier t text a b Confirmed h
    inner-no_earlier splits ordered = record {
      some = λ c i is first. record {
        inside = is.start.inside;
        has = is.match_start;
        least = λ k low m. by_test (nat_le i k) (λ e. grind (arith, nat_tests)) (λ e. absurd (earlier c i is first k low m (grind (arith, nat_tests))));
      };
      none = λ none i low m.
          let s = splits i m.0 m.2 in
          not-confirmed s.0 m.0 s.2 m.1 s.3 (λ k. none s.0 k) (suc i) i (omega arith) low s.1;
    }
      where
        earlier : (c i : ℕ) → Confirmed c i → ((d k : ℕ) → d < c → Confirmed d k → ⊥) → (k : ℕ) → a ≤ k → IsMatchStart t text b h k → k < i → ⊥
        earlier c i is first k low m lt =
            let s = splits k m.0 m.2 in
            by_test (nat_lt s.0 c)
            (λ e. not-confirmed s.0 m.0 s.2 m.1 s.3 (λ d. first s.0 d (grind (arith, nat_tests))) (suc k) k (omega arith) low s.1)
            (λ e. by_test (nat_lt c s.0)
            (λ f. ordered i c k s.0 is.start.has (is.candidate.0, is.candidate.1, is.candidate.2.1) s.1 (s.2.0, s.2.1, s.2.2) lt (grind (arith, nat_tests))
            (λ md. let up = is.start.least k low md in omega arith))
            (λ f.
            let same : s.0 ≡ c = grind (arith, nat_tests) in
            let up = is.start.least k low (subst (λ d. Means t text p k d) same s.1) in
            omega arith))
