-- What a sequence tells of a first run as long as the first literals that lie there are exact.
use Rattle.std.proofs.Common.{◌≡◌, ℕ, ◌+◌, ◌<◌, Bool, true, false, List, [], ◌∷◌, ◌++◌, length, map, take, refl, sym, ap, ◌∙◌, subst, arith, true≢false, length-append}
use Rattle.std.specs.Prelude.{nat_lt, nat_le, Option, Some, None}
use Rattle.std.specs.List.{flat_map, list_any}
use Rattle.std.specs.Option.{option_or}
use Rattle.std.proofs.lemmas.Bool.Decides.{nat_tests}
use Rattle.std.proofs.lemmas.List.{length-take-le}
use Rattle.rx_model.specs.Text.{stands_at}
use Rattle.rx_model.proofs.lemmas.runs.RunLemmas.{by_test}
use Rattle.rx_model.proofs.lemmas.runs.FirstLemmas.{none-is-some}
use Rattle.rx_literal.specs.Literals.{Literal, exact, inexact, Seq, infinite, finite, is_exact, is_empty, loose, cut, loosened, limited, union, extended, extended_by_each, stopped, cross, cross_on}
use Rattle.rx_literal.specs.declared.side.Side.TheVariants.{Front as front}
use Rattle.rx_literal.specs.First.{lies}
use Rattle.rx_literal.proofs.lemmas.first_runs.ExactLemmas.{one, one-append}
use Rattle.rx_literal.proofs.lemmas.prefixes.BeginLemmas.{stands-append, stands-take}

module _ (hay : List ℕ) (end : ℕ) where
  -- v is what f gives after the first exact literal that lies at i and after which f gives something, if no inexact
  -- one lies there before; and nothing where none does
  abbrev pub Agrees : (ℕ → Option ℕ) → ℕ → Option ℕ → List Literal → Type 0
  Agrees f i v [] = v ≡ None
  Agrees f i v (exact s ∷ ls) = ((x : ℕ) → one hay s f i ≡ Some x → v ≡ Some x) × (one hay s f i ≡ None → Agrees f i v ls)
  Agrees f i v (inexact s ∷ ls) = lies hay end i (inexact s) ≡ false → Agrees f i v ls

  abbrev pub AgreesIn : (ℕ → Option ℕ) → ℕ → Option ℕ → Seq → Type 0
  AgreesIn f i v infinite = Unit {0}
  AgreesIn f i v (finite ls) = Agrees f i v ls

  -- f gives nothing past the end
  abbrev pub EndsBy : (ℕ → Option ℕ) → Type 0
  EndsBy f = (k : ℕ) → end < k → f k ≡ None

  agrees-append : (f : ℕ → Option ℕ) (i : ℕ) (v w : Option ℕ) (xs ys : List Literal) → Agrees f i v xs → Agrees f i w ys → Agrees f i (option_or v w) (xs ++ ys)
  agrees-append f i v w [] ys a b = subst (λ u. Agrees f i (option_or u w) ys) (sym a) b
  agrees-append f i v w (exact s ∷ xs) ys a b = (λ x e. ap (λ u. option_or u w) (a.0 x e), λ none. agrees-append f i v w xs ys (a.1 none) b)
  agrees-append f i v w (inexact s ∷ xs) ys a b = λ not. agrees-append f i v w xs ys (a not) b

  agrees-limited : (f : ℕ → Option ℕ) (i : ℕ) (v : Option ℕ) (ls : List Literal) → Agrees f i v ls → AgreesIn f i v (limited ls)
  unfolding limited
  agrees-limited f i v ls a = by_test (nat_lt 250 (length ls)) (λ e. rw e tt) (λ e. rw e a)

  pub agrees-union : (f : ℕ → Option ℕ) (i : ℕ) (v w : Option ℕ) (ss ts : Seq) → AgreesIn f i v ss → AgreesIn f i w ts
      → AgreesIn f i (option_or v w) (union ss ts)
  agrees-union f i v w infinite ts a b = tt
  agrees-union f i v w (finite ss) infinite a b = tt
  agrees-union f i v w (finite ss) (finite ts) a b = agrees-limited f i (option_or v w) (ss ++ ts) (agrees-append f i v w ss ts a b)

  -- where inexact ones lie, nothing is asked
  loose-agrees : (f : ℕ → Option ℕ) (i : ℕ) (v : Option ℕ) (ls : List Literal) → (list_any (lies hay end i) ls ≡ false → v ≡ None) → Agrees f i v (map loose ls)
  loose-agrees f i v [] h = h refl
  loose-agrees f i v (l ∷ ls) h = λ not. loose-agrees f i v ls (λ none. h (rw (not, none) refl))

  abbrev pub some_lies : ℕ → Seq → Bool
  some_lies i infinite = true
  some_lies i (finite ls) = list_any (lies hay end i) ls

  pub loosened-agrees : (f : ℕ → Option ℕ) (i : ℕ) (v : Option ℕ) (ss : Seq) → (some_lies i ss ≡ false → v ≡ None) → AgreesIn f i v (loosened ss)
  loosened-agrees f i v infinite h = tt
  loosened-agrees f i v (finite ls) h = loose-agrees f i v ls h

  -- a literal that doesn't lie there gives nothing
  pub gives-none : (f : ℕ → Option ℕ) → EndsBy f → (i : ℕ) (s : List ℕ) → lies hay end i (inexact s) ≡ false → one hay s f i ≡ None
  gives-none f past i s h =
      by_test (stands_at hay i s)
      (λ e. let h' : nat_le (i + length s) end ≡ false = rw e at h in let out : end < i + length s = grind (arith, nat_tests) in rw e (past (i + length s) out))
      (λ e. rw e refl)

  -- made inexact, a sequence tells less
  loosen-agrees : (f h : ℕ → Option ℕ) → EndsBy f → (i : ℕ) (v : Option ℕ) (ls : List Literal) → Agrees f i v ls → Agrees h i v (map loose ls)
  loosen-agrees f h past i v [] a = a
  loosen-agrees f h past i v (exact s ∷ ls) a = λ not. loosen-agrees f h past i v ls (a.1 (gives-none f past i s not))
  loosen-agrees f h past i v (inexact s ∷ ls) a = λ not. loosen-agrees f h past i v ls (a not)

  inexact-agrees : (f h : ℕ → Option ℕ) (i : ℕ) (v : Option ℕ) (ls : List Literal) → list_any is_exact ls ≡ false → Agrees f i v ls → Agrees h i v ls
  inexact-agrees f h i v [] none a = a
  inexact-agrees f h i v (exact s ∷ ls) none a = absurd (true≢false none)
  inexact-agrees f h i v (inexact s ∷ ls) none a = λ not. inexact-agrees f h i v ls none (a not)

  stopped-agrees : (f h : ℕ → Option ℕ) → EndsBy f → (i : ℕ) (v : Option ℕ) (ss : List Literal) → Agrees f i v ss → AgreesIn h i v (stopped ss)
  unfolding stopped
  stopped-agrees f h past i v ss a = by_test (list_any is_empty ss) (λ e. rw e tt) (λ e. rw e (loosen-agrees f h past i v ss a))

  -- f tells of what comes after the first part, and h of what comes after the second one, whose literals are ts
  module _ (f h : ℕ → Option ℕ) (f_past : EndsBy f) (h_past : EndsBy h) (i : ℕ) (v : Option ℕ) where
    -- the first part's literal doesn't lie there
    skip : (s : List ℕ) (ts rest : List Literal) → stands_at hay i s ≡ false → Agrees h i v rest
        → Agrees h i v (map (λ t. cut front 100 (extended front s t)) ts ++ rest)
    unfolding cut
    skip s [] rest not a = a
    skip s (exact t ∷ ts) rest not a =
        by_test (nat_lt 100 (length (s ++ t)))
        (λ e. rw e (λ n. skip s ts rest not a))
        (λ e.
        let none : one hay (s ++ t) h i ≡ None = one-append hay h i s t ∙ rw not refl in
        rw e ((λ x some. none-is-some (sym none ∙ some)), (λ n. skip s ts rest not a)))
    skip s (inexact t ∷ ts) rest not a =
        by_test (nat_lt 100 (length (s ++ t))) (λ e. rw e (λ n. skip s ts rest not a)) (λ e. rw e (λ n. skip s ts rest not a))

    -- where bytes that go on with t don't lie there, t doesn't lie after them
    lies-after : (s t : List ℕ) → stands_at hay i s ≡ true → lies hay end i (inexact (s ++ t)) ≡ false → lies hay end (i + length s) (inexact t) ≡ false
    lies-after s t is not =
        by_test (stands_at hay (i + length s) t)
        (λ e.
        let both = stands-append hay i s t is e in
        let out : nat_le (i + length (s ++ t)) end ≡ false = rw both at not in
        let long = length-append s t in
        let out' : nat_le (i + length s + length t) end ≡ false = grind (arith, nat_tests) in
        rw (e, out') refl)
        (λ e. rw e refl)

    -- what is longer doesn't lie there either
    pub lies-longer : (s : List ℕ) → nat_lt 100 (length s) ≡ true → lies hay end i (inexact (take 100 s)) ≡ false → lies hay end i (inexact s) ≡ false
    lies-longer s more not =
        by_test (stands_at hay i s)
        (λ e.
        let lt : 100 < length s = grind (arith, nat_tests) in
        let long : length (take 100 s) ≡ 100 = length-take-le 100 s (omega arith) in
        let shorter = stands-take hay i 100 s e in
        let out : nat_le (i + length (take 100 s)) end ≡ false = rw shorter at not in
        let out' : nat_le (i + length s) end ≡ false = grind (arith, nat_tests) in
        rw (e, out') refl)
        (λ e. rw e refl)

    -- the first part's literal lies there
    walk : (s : List ℕ) (w : Option ℕ) (ts rest : List Literal) → stands_at hay i s ≡ true → Agrees h (i + length s) w ts → ((x : ℕ) → w ≡ Some x → v ≡ Some x)
        → (w ≡ None → Agrees h i v rest)
        → Agrees h i v (map (λ t. cut front 100 (extended front s t)) ts ++ rest)
    unfolding cut
    walk s w [] rest is a some none = none a
    walk s w (exact t ∷ ts) rest is a some none =
        by_test (nat_lt 100 (length (s ++ t)))
        (λ e. rw e (λ n.
        let not = lies-after s t is (lies-longer (s ++ t) e n) in
        walk s w ts rest is (a.1 (gives-none h h_past (i + length s) t not)) some none))
        (λ e.
        let same : one hay (s ++ t) h i ≡ one hay t h (i + length s) = one-append hay h i s t ∙ rw is refl in
        rw e ((λ x given. some x (a.0 x (sym same ∙ given))), (λ given. walk s w ts rest is (a.1 (sym same ∙ given)) some none)))
    walk s w (inexact t ∷ ts) rest is a some none =
        by_test (nat_lt 100 (length (s ++ t)))
        (λ e. rw e (λ n. walk s w ts rest is (a (lies-after s t is (lies-longer (s ++ t) e n))) some none))
        (λ e. rw e (λ n. walk s w ts rest is (a (lies-after s t is n)) some none))

    crossed-agrees : (ts : List Literal) → ((k : ℕ) → Agrees h k (f k) ts) → (ss : List Literal) → Agrees f i v ss
        → Agrees h i v (flat_map (extended_by_each front ts) ss)
    unfolding extended_by_each
    crossed-agrees ts each [] a = a
    crossed-agrees ts each (exact s ∷ ss) a =
        let rest = flat_map (extended_by_each front ts) ss in
        by_test (stands_at hay i s)
        (λ e.
        let same : one hay s f i ≡ f (i + length s) = rw e refl in
        walk s (f (i + length s)) ts rest e (each (i + length s)) (λ x given. a.0 x (same ∙ given)) (λ given. crossed-agrees ts each ss (a.1 (same ∙ given))))
        (λ e.
        let none : one hay s f i ≡ None = rw e refl in
        skip s ts rest e (crossed-agrees ts each ss (a.1 none)))
    crossed-agrees ts each (inexact s ∷ ss) a = λ not. crossed-agrees ts each ss (a not)

    pub cross_on-agrees : (ss ts : Seq) → AgreesIn f i v ss → ((k : ℕ) → AgreesIn h k (f k) ts) → AgreesIn h i v (cross_on front ss ts)
    unfolding cross_on cross
    cross_on-agrees infinite ts a each = tt
    cross_on-agrees (finite ss) infinite a each =
        by_test (list_any is_exact ss) (λ e. rw e (stopped-agrees f h f_past i v ss a)) (λ e. rw e (inexact-agrees f h i v ss e a))
    cross_on-agrees (finite ss) (finite ts) a each =
        by_test (list_any is_exact ss)
        (λ e. rw e (by_test (nat_lt 250 (length (flat_map (extended_by_each front ts) ss)))
        (λ d. rw d (stopped-agrees f h f_past i v ss a))
        (λ d. rw d (crossed-agrees ts each ss a))))
        (λ e. rw e (inexact-agrees f h i v ss e a))
