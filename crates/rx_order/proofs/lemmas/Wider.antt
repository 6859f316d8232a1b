-- Separators whatever the literals are: a block may always be drawn out to an earlier start, or cut at an earlier end.
use Rattle.std.proofs.Common.{◌≡◌, ℕ, zero, suc, ◌+◌, ◌<◌, ◌≤◌, Bool, true, false, List, ◌++◌, length, drop, Option, Some, None, refl, sym, ap, subst, ◌∙◌, inl, inr, arith, true≢false}
use Rattle.std.specs.Prelude.{nat_lt, nat_le, nat_eq, ◌&&◌, not, IfSome, is_some, encode_utf8}
use Rattle.std.proofs.lemmas.List.{take-append-drop}
use Rattle.std.proofs.lemmas.Bool.{and_parts, or_cases}
use Rattle.std.proofs.lemmas.Option.{none-some, same_Some, cond_some}
use Rattle.std.proofs.lemmas.Str.{len_utf8_bounds}
use Rattle.std.proofs.lemmas.Bool.Decides.{nat_tests}
use Rattle.rx_model.specs.Text.{Class, scalar_ranges, byte_ranges, member_len, char_at}
use Rattle.rx_model.specs.Expression.{Expression, Expressions, empty, literal, class, look, repetition, capture, concat, alternation, nil, cons}
use Rattle.rx_model.specs.Meaning.{Pieces, Means, MeansInTurn}
use Rattle.rx_model.proofs.lemmas.runs.RunLemmas.{by_test}
use Rattle.rx_model.proofs.lemmas.meaning.EmptyLemmas.{means-rises, in_turn-rise}
use Rattle.rx_model.proofs.lemmas.meaning.CharLemmas.{member_len-is, byte_len-is, char_at_from}
use Rattle.rx_hir.specs.Length.{maximum_len, sum_of_maximum_len}
use Rattle.rx_hir.specs.Normal.{is_zero}
use Rattle.rx_order.specs.Tests.{is_apart, all_apart, plain_class, separator_class, is_last_consuming, last_class, are_apart_but_last, first_class, are_apart_but_first, literals_are_apart, has_two, passes, has_last_separator, has_first_separator, separates}
use Rattle.rx_order.proofs.lemmas.Core.{IsOrdered}
use Rattle.rx_order.proofs.lemmas.Chain.{AreUnits, Step, chain-head, locate}
use Rattle.rx_order.proofs.lemmas.Apart.{unit_of, is_in, Row, row-empty, row-join, units, class-long, mapped, scalar-step, byte-step, means-out, in_turn-out}
use Rattle.rx_order.proofs.lemmas.Separators.{separator-in, still, passed}

module _ (unit : ℕ → Option ℕ) (is_in : ℕ → Bool) (units : AreUnits unit) where
  abbrev Units : ℕ → ℕ → ℕ → Type 0
  Units count i j = Pieces (Step unit is_in true) count i j

  units-rise : (count i j : ℕ) → Units count i j → i ≤ j
  units-rise zero i j e = omega arith
  units-rise (suc count) i j h = let e = h.1.3 in let up = units-rise count h.0 j h.2 in omega arith

  split-at : (count i j k m : ℕ) → Units count i j → unit k ≡ Some m → i ≤ k → k < j → (p q : ℕ) × Units p i k × Units q k j × (p + q ≡ count)
  split-at zero i j k m h u low high = absurd (omega arith)
  split-at (suc count) i j k m h u low high =
      by_test (nat_eq i k)
      (λ e. let same : i ≡ k = grind (arith, nat_tests) in (0, suc count, same, subst (λ d. Units (suc count) d j) same h, omega arith))
      (λ e.
      let ends = h.1.3 in
      by_test (nat_lt k h.0)
      (λ f. absurd (units i h.1.0 k m h.1.1 u (grind (arith, nat_tests)) (grind (arith, nat_tests))))
      (λ f. let rest = split-at count h.0 j k m h.2 u (grind (arith, nat_tests)) high in let sum = rest.4 in
      (suc rest.0, rest.1, (h.0, h.1, rest.2), rest.3, omega arith)))

  -- of two rows from one place the one that ends no later has no more units
  prefix-fewer : ((i n : ℕ) → unit i ≡ Some n → 1 ≤ n) → (p q k c d : ℕ) → Units p k c → Units q k d → c ≤ d → p ≤ q
  prefix-fewer long zero q k c d h g le = omega arith
  prefix-fewer long (suc p) zero k c d h g le =
      let some = long k h.1.0 h.1.1 in
      let ends = h.1.3 in
      let up = units-rise p h.0 c h.2 in
      absurd (omega arith)
  prefix-fewer long (suc p) (suc q) k c d h g le =
      let n : h.1.0 ≡ g.1.0 = same_Some h.1.0 g.1.0 (sym h.1.1 ∙ g.1.1) in
      let x = h.1.3 in
      let y = g.1.3 in
      let same : g.0 ≡ h.0 = omega arith in
      let rest = prefix-fewer long p q h.0 c d h.2 (subst (λ e. Units q e d) same g.2) le in
      omega arith

  units-append : (p q i k j : ℕ) → Units p i k → Units q k j → (r : ℕ) × Units r i j × (r ≡ p + q)
  units-append zero q i k j h g = (q, subst (λ d. Units q d j) (sym h) g, omega arith)
  units-append (suc p) q i k j h g = let rest = units-append p q h.0 k j h.2 g in let sum = rest.2 in (suc rest.0, (h.0, h.1, rest.1), omega arith)

  convex : ((i n : ℕ) → unit i ≡ Some n → 1 ≤ n) → (p q k c k' c' : ℕ) → Units p k c → Units q k' c' → k < c → k' ≤ k → c ≤ c'
      → (r : ℕ) × Units r k' c × (p ≤ r) × (r ≤ q)
  convex long p q k c k' c' h g lt low high =
      let head = chain-head unit is_in true k c (p, h) lt in
      let cut = split-at q k' c' k head.0 g head.1 low (omega arith) in
      let fewer = prefix-fewer long p cut.1 k c c' h cut.3 high in
      let whole = units-append cut.0 p k' k c cut.2 h in
      let sum = cut.4 in
      let is = whole.2 in
      (whole.0, whole.1, omega arith, omega arith)

module _ (text : List ℕ) where
  class-step : (k : Class) (i n : ℕ) → member_len text k i ≡ Some n → Step (unit_of text k) (is_in text k) true i (i + n)
  class-step (scalar_ranges rs) i n h =
      let m = member_len-is text rs i n h in
      let goes : drop i text ≡ encode_utf8 m.0 ++ drop n (drop i text) = sym (take-append-drop n (drop i text)) ∙ ap (λ bs. bs ++ drop n (drop i text)) m.4 in
      subst (λ (d : ℕ). Step (unit_of text (scalar_ranges rs)) (is_in text (scalar_ranges rs)) true i (i + d)) (sym m.3)
      (scalar-step text rs i m.0 true (char_at_from text i m.0 (drop n (drop i text)) m.1 goes) m.2)
  class-step (byte_ranges rs) i n h =
      let m = byte_len-is text rs i n h in
      subst (λ (d : ℕ). Step (unit_of text (byte_ranges rs)) (is_in text (byte_ranges rs)) true i (i + d)) (sym m.0) (byte-step text rs i true m.1 m.2)

  step-class : (k : Class) (i j : ℕ) → Step (unit_of text k) (is_in text k) true i j → (n : ℕ) × (member_len text k i ≡ Some n) × (i + n ≡ j)
  step-class k i j s = some (member_len text k i) refl s.2
    where
      some : (o : Option ℕ) → member_len text k i ≡ o → is_some o ≡ true → (n : ℕ) × (member_len text k i ≡ Some n) × (i + n ≡ j)
      some None e is = absurd (true≢false (sym is))
      some (Some n) e is =
          let back = class-step k i n e in
          let x = back.3 in
          let y = s.3 in
          let same : back.0 ≡ s.0 = same_Some back.0 s.0 (sym back.1 ∙ s.1) in
          (n, e, omega arith)

  -- a unit that has a member takes a byte; any unit does
  unit-long : (k : Class) (i n : ℕ) → unit_of text k i ≡ Some n → 1 ≤ n
  unit-long (scalar_ranges rs) i n u = let c = mapped (char_at text i) n u in let long = (len_utf8_bounds c.0).0 in let e = c.2 in omega arith
  unit-long (byte_ranges rs) i n u = let e = (cond_some (nat_lt i (length text)) 1 n u).1 in omega arith

module _ (t : ℕ) (text : List ℕ) where
  abbrev M : Expression → ℕ → ℕ → Type 0
  M h i j = Means t text h i j

  plain-step : (h : Expression) (k : Class) → plain_class h ≡ Some k → (i j : ℕ) → M h i j → Step (unit_of text k) (is_in text k) true i j
  unfolding Means plain_class
  plain-step (class members) k e i j m =
      let same = same_Some members k e in
      subst (λ d. Step (unit_of text k) (is_in text k) true i d) m.2 (subst (λ q. Step (unit_of text q) (is_in text q) true i (i + m.0)) same
      (class-step text members i m.0 m.1))
  plain-step (capture group name sub) k e i j m = plain-step sub k e i j m
  plain-step empty k e i j m = absurd (none-some k e)
  plain-step (literal bytes) k e i j m = absurd (none-some k e)
  plain-step (look kind) k e i j m = absurd (none-some k e)
  plain-step (repetition least greatest greedy sub) k e i j m = absurd (none-some k e)
  plain-step (concat subs) k e i j m = absurd (none-some k e)
  plain-step (alternation subs) k e i j m = absurd (none-some k e)

  step-plain : (h : Expression) (k : Class) → plain_class h ≡ Some k → (i j : ℕ) → Step (unit_of text k) (is_in text k) true i j → M h i j
  unfolding Means plain_class
  step-plain (class members) k e i j s =
      let same = same_Some members k e in
      step-class text members i j (subst (λ q. Step (unit_of text q) (is_in text q) true i j) (sym same) s)
  step-plain (capture group name sub) k e i j s = step-plain sub k e i j s
  step-plain empty k e i j s = absurd (none-some k e)
  step-plain (literal bytes) k e i j s = absurd (none-some k e)
  step-plain (look kind) k e i j s = absurd (none-some k e)
  step-plain (repetition least greatest greedy sub) k e i j s = absurd (none-some k e)
  step-plain (concat subs) k e i j s = absurd (none-some k e)
  step-plain (alternation subs) k e i j s = absurd (none-some k e)

  each-piece : (R S : ℕ → ℕ → Type 0) → ((i j : ℕ) → R i j → S i j) → (count i j : ℕ) → Pieces R count i j → Pieces S count i j
  each-piece R S each zero i j h = h
  each-piece R S each (suc count) i j h = (h.0, each i h.0 h.1, each-piece R S each count h.0 j h.2)

  between : (max : Option ℕ) (r q : ℕ) → r ≤ q → IfSome max (λ m. q ≤ m) → IfSome max (λ m. r ≤ m)
  between None r q le h = tt
  between (Some m) r q le h = omega arith

  -- a block drawn out to the start of another one that ends no earlier
  separator-convex : (h : Expression) (k : Class) → separator_class h ≡ Some k → (i j i' j' : ℕ) → M h i j → M h i' j' → i' ≤ i → j ≤ j' → M h i' j
  unfolding Means separator_class
  separator-convex (class members) k e i j i' j' m m' low high =
      let u = class-step text members i m.0 m.1 in
      let v = class-step text members i' m'.0 m'.1 in
      let ends = m.2 in
      let ends' = m'.2 in
      let long = class-long text members i m.0 m.1 in
      let x = v.3 in
      by_test (nat_eq i' i)
      (λ f. let same : i ≡ i' = grind (arith, nat_tests) in subst (λ d. M (class members) d j) same m)
      (λ f. absurd (units text members i' v.0 i u.0 v.1 u.1 (grind (arith, nat_tests)) (omega arith)))
  separator-convex (repetition least greatest greedy sub) k e i j i' j' m m' low high =
      by_test (nat_le 1 least)
      (λ some.
      let plain : plain_class sub ≡ Some k = rw some at e in
      let lt = (separator-in t text (repetition least greatest greedy sub) k e i j m).0 in
      let p = each-piece (M sub) (Step (unit_of text k) (is_in text k) true) (λ x y z. plain-step sub k plain x y z) m.0 i j m.2 in
      let q = each-piece (M sub) (Step (unit_of text k) (is_in text k) true) (λ x y z. plain-step sub k plain x y z) m'.0 i' j' m'.2 in
      let c = convex (unit_of text k) (is_in text k) (units text k) (λ x n u. unit-long text k x n u) m.0 m'.0 i j i' j' p q lt low high in
      let enough = m.1.0 in
      let more = c.2 in (
        c.0,
        (omega arith, between greatest c.0 m'.0 c.3 m'.1.1),
        each-piece (Step (unit_of text k) (is_in text k) true) (M sub) (λ x y z. step-plain sub k plain x y z) c.0 i' j c.1,
      ))
      (λ none. absurd (none-some k (rw none at e)))
  separator-convex (capture group name sub) k e i j i' j' m m' low high = separator-convex sub k e i j i' j' m m' low high
  separator-convex empty k e i j i' j' m m' low high = absurd (none-some k e)
  separator-convex (literal bytes) k e i j i' j' m m' low high = absurd (none-some k e)
  separator-convex (look kind) k e i j i' j' m m' low high = absurd (none-some k e)
  separator-convex (concat subs) k e i j i' j' m m' low high = absurd (none-some k e)
  separator-convex (alternation subs) k e i j i' j' m m' low high = absurd (none-some k e)

  -- Of two parts that the same list means: their blocks, and that the second's start goes with the first's end where
  -- the separator leads there.
  abbrev LastMix : Expressions → Class → (i j i' j' : ℕ) → Type 0
  LastMix hs k i j i' j' = (sep : Expression) × (separator_class sep ≡ Some k)
      × ((m m' : ℕ) × (i ≤ m) × M sep m j × Row text k false i' m' × M sep m' j' × (M sep m' j → MeansInTurn t text hs i' j))

  last-mix : (hs : Expressions) (k : Class) → last_class hs ≡ Some k → are_apart_but_last k hs ≡ true → (i j i' j' : ℕ) → MeansInTurn t text hs i j
      → MeansInTurn t text hs i' j' → LastMix hs k i j i' j'
  unfolding Means last_class are_apart_but_last
  last-mix nil k e apart i j i' j' m m' = absurd (none-some k e)
  last-mix (cons sub subs) k e apart i j i' j' m m' =
      by_test (is_last_consuming sub subs)
      (λ last.
      let rest = and_parts (is_zero (sum_of_maximum_len subs)) (not (is_zero (maximum_len sub))) last in
      let ends : m.0 ≡ j = still t text (concat subs) m.0 j rest.0 m.2 in
      let ends' : m'.0 ≡ j' = still t text (concat subs) m'.0 j' rest.0 m'.2 in (
        sub,
        rw last at e,
        (
          i,
          i',
          omega arith,
          subst (M sub i) ends m.1,
          row-empty text k false i' i' refl,
          subst (M sub i') ends' m'.1,
          λ f. (j, f, subst (λ d. MeansInTurn t text subs d j) ends m.2),
        ),
      ))
      (λ more.
      let both = and_parts (is_apart k sub) (are_apart_but_last k subs) (rw more at apart) in
      let later = last-mix subs k (rw more at e) both.1 m.0 j m'.0 j' m.2 m'.2 in
      let up = means-rises t text sub i m.0 m.1 in
      let z = later.2 in
      let low = z.2 in (
        later.0,
        later.1,
        (
          z.0,
          z.1,
          omega arith,
          z.3,
          row-join text k false i' m'.0 z.1 (means-out text t k sub both.0 i' m'.0 m'.1) z.4,
          z.5,
          λ f. (m'.0, m'.1, z.6 f),
        ),
      ))

  abbrev FirstMix : Expressions → Class → (i j i' j' : ℕ) → Type 0
  FirstMix hs k i j i' j' = (sep : Expression) × (separator_class sep ≡ Some k)
      × ((m m' : ℕ) × M sep i m × (m ≤ j) × M sep i' m' × Row text k false m' j' × (M sep i' m → MeansInTurn t text hs i' j))

  first-mix : (hs : Expressions) (k : Class) → first_class hs ≡ Some k → are_apart_but_first k hs ≡ true → (i j i' j' : ℕ) → MeansInTurn t text hs i j
      → MeansInTurn t text hs i' j' → FirstMix hs k i j i' j'
  unfolding Means first_class are_apart_but_first
  first-mix nil k e apart i j i' j' m m' = absurd (none-some k e)
  first-mix (cons sub subs) k e apart i j i' j' m m' =
      by_test (is_zero (maximum_len sub))
      (λ zero.
      let both = and_parts (is_apart k sub) (are_apart_but_first k subs) (rw zero at apart) in
      let same : m.0 ≡ i = sym (still t text sub i m.0 zero m.1) in
      let same' : m'.0 ≡ i' = sym (still t text sub i' m'.0 zero m'.1) in
      let later = first-mix subs k (rw zero at e) both.1 m.0 j m'.0 j' m.2 m'.2 in
      let z = later.2 in (
        later.0,
        later.1,
        (
          z.0,
          z.1,
          subst (λ d. M later.0 d z.0) same z.2,
          z.3,
          subst (λ d. M later.0 d z.1) same' z.4,
          z.5,
          λ f. (m'.0, m'.1, z.6 (subst (λ d. M later.0 d z.0) (sym same') f)),
        ),
      ))
      (λ consuming.
      let apart' : all_apart k subs ≡ true = rw consuming at apart in
      (sub, rw consuming at e, (m.0, m'.0, m.1, in_turn-rise t text subs m.0 j m.2, m'.1, in_turn-out text t k subs apart' m'.0 j' m'.2, λ f. (m.0, f, m.2))))

  -- The last consuming part separates, whatever the literals are.
  pub last-wider : (subs : Expressions) (k : Class) → last_class subs ≡ Some k → are_apart_but_last k subs ≡ true → (ls : List (List ℕ))
      → IsOrdered t text (concat subs) ls
  unfolding Means
  last-wider subs k e apart ls i c i' c' m here m' there lt later none =
      let x = last-mix subs k e apart i c i' c' m m' in
      let z = x.2 in
      let low = z.2 in
      let block = separator-in t text x.0 k x.1 z.0 c z.3 in
      let head = chain-head (unit_of text k) (is_in text k) true z.0 c block.1 block.0 in
      let short = block.0 in
      by_test (nat_lt z.0 z.1)
      (λ f. true≢false (sym head.2 ∙ locate (unit_of text k) (is_in text k) (units text k) false i' z.1 z.0 head.0 z.4 head.1 (omega arith)
      (grind (arith, nat_tests))))
      (λ f. none (z.6 (separator-convex x.0 k x.1 z.0 c z.1 c' z.3 z.5 (grind (arith, nat_tests)) (omega arith))))

  -- The first consuming part separates, whatever the literals are.
  pub first-wider : (subs : Expressions) (k : Class) → first_class subs ≡ Some k → are_apart_but_first k subs ≡ true → (ls : List (List ℕ))
      → IsOrdered t text (concat subs) ls
  unfolding Means
  first-wider subs k e apart ls i c i' c' m here m' there lt later none =
      let x = first-mix subs k e apart i c i' c' m m' in
      let z = x.2 in
      let le = z.3 in
      let block = separator-in t text x.0 k x.1 i z.0 z.2 in
      let head = chain-head (unit_of text k) (is_in text k) true i z.0 block.1 block.0 in
      let short = block.0 in
      by_test (nat_lt i z.1)
      (λ f. by_test (nat_lt z.1 z.0)
      (λ g.
      let end = chain-head (unit_of text k) (is_in text k) false z.1 c' z.5 (grind (arith, nat_tests)) in
      true≢false (sym (locate (unit_of text k) (is_in text k) (units text k) true i z.0 z.1 end.0 block.1 end.1 (grind (arith, nat_tests))
      (grind (arith, nat_tests))) ∙ end.2))
      (λ g. none (z.6 (separator-convex x.0 k x.1 i z.0 i' z.1 z.2 z.4 (omega arith) (grind (arith, nat_tests))))))
      (λ f. true≢false (sym head.2 ∙ locate (unit_of text k) (is_in text k) (units text k) false z.1 c' i head.0 z.5 head.1 (grind (arith, nat_tests))
      (omega arith)))

  -- a block alone
  block-wider : (h : Expression) (k : Class) → separator_class h ≡ Some k → (ls : List (List ℕ)) → IsOrdered t text h ls
  block-wider h k e ls i c i' c' m here m' there lt later none = none (separator-convex h k e i c i' c' m m' (omega arith) (omega arith))

  class-of-itself : (members : Class) → separator_class (class members) ≡ Some members
  unfolding separator_class
  class-of-itself members = refl

  pub separates-ordered : (p : Expression) → separates p ≡ true → (ls : List (List ℕ)) → IsOrdered t text p ls
  unfolding Means separates
  separates-ordered (capture group name sub) e ls = separates-ordered sub e ls
  separates-ordered (concat subs) e ls =
      elim (or_cases (passes (last_class subs) (λ k. are_apart_but_last k subs)) (passes (first_class subs) (λ k. are_apart_but_first k subs)) e) [
        | inl f ↦ let is = passed (last_class subs) (λ k. are_apart_but_last k subs) f in last-wider subs is.0 is.1 is.2 ls
        | inr f ↦ let is = passed (first_class subs) (λ k. are_apart_but_first k subs) f in first-wider subs is.0 is.1 is.2 ls
      ]
  separates-ordered (class members) e ls = block-wider (class members) members (class-of-itself members) ls
  separates-ordered (repetition least greatest greedy sub) e ls =
      let is = passed (separator_class (repetition least greatest greedy sub)) (λ k. true) e in
      block-wider (repetition least greatest greedy sub) is.0 is.1 ls
  separates-ordered empty e ls = absurd (true≢false (sym e))
  separates-ordered (literal bytes) e ls = absurd (true≢false (sym e))
  separates-ordered (look kind) e ls = absurd (true≢false (sym e))
  separates-ordered (alternation subs) e ls = absurd (true≢false (sym e))

  -- So do those of the tests, which look at the literals as well.
  pub last-ordered : (p : Expression) (ls : List (List ℕ)) → has_last_separator p ls ≡ true → IsOrdered t text p ls
  unfolding Means has_last_separator
  last-ordered (capture group name sub) ls e = last-ordered sub ls e
  last-ordered (concat subs) ls e =
      let two = and_parts (has_two subs) (passes (last_class subs) (λ k. are_apart_but_last k subs && literals_are_apart k ls)) e in
      let is = passed (last_class subs) (λ k. are_apart_but_last k subs && literals_are_apart k ls) two.1 in
      last-wider subs is.0 is.1 (and_parts (are_apart_but_last is.0 subs) (literals_are_apart is.0 ls) is.2).0 ls
  last-ordered empty ls e = absurd (true≢false (sym e))
  last-ordered (literal bytes) ls e = absurd (true≢false (sym e))
  last-ordered (class members) ls e = absurd (true≢false (sym e))
  last-ordered (look kind) ls e = absurd (true≢false (sym e))
  last-ordered (repetition least greatest greedy sub) ls e = absurd (true≢false (sym e))
  last-ordered (alternation subs) ls e = absurd (true≢false (sym e))

  pub first-ordered : (p : Expression) (ls : List (List ℕ)) → has_first_separator p ls ≡ true → IsOrdered t text p ls
  unfolding Means has_first_separator
  first-ordered (capture group name sub) ls e = first-ordered sub ls e
  first-ordered (concat subs) ls e =
      let two = and_parts (has_two subs) (passes (first_class subs) (λ k. are_apart_but_first k subs && literals_are_apart k ls)) e in
      let is = passed (first_class subs) (λ k. are_apart_but_first k subs && literals_are_apart k ls) two.1 in
      first-wider subs is.0 is.1 (and_parts (are_apart_but_first is.0 subs) (literals_are_apart is.0 ls) is.2).0 ls
  first-ordered empty ls e = absurd (true≢false (sym e))
  first-ordered (literal bytes) ls e = absurd (true≢false (sym e))
  first-ordered (class members) ls e = absurd (true≢false (sym e))
  first-ordered (look kind) ls e = absurd (true≢false (sym e))
  first-ordered (repetition least greatest greedy sub) ls e = absurd (true≢false (sym e))
  first-ordered (alternation subs) ls e = absurd (true≢false (sym e))
