-- Trimming keeps the first literal that lies at a place.
use Rattle.std.proofs.Common.{◌≡◌, ℕ, ◌+◌, ◌≤◌, true, false, List, [], ◌∷◌, ◌++◌, length, map, drop, take, refl, sym, ap, ◌∙◌, arith, true≢false, append_assoc}
use Rattle.std.specs.Prelude.{nat_lt, nat_le, nat_eq}
use Rattle.std.specs.List.{list_any, list_all, starts_with}
use Rattle.std.proofs.lemmas.Bool.{and_parts, or_right}
use Rattle.std.proofs.lemmas.Bool.Decides.{Decides-eqb, nat_tests}
use Rattle.std.proofs.lemmas.List.{take-append-drop}
use Rattle.std.proofs.lemmas.Slice.Eq.{starts_is}
use Rattle.rx_model.specs.Text.{stands_at}
use Rattle.rx_model.proofs.lemmas.runs.RunLemmas.{by_test}
use Rattle.rx_literal.specs.Literals.{Literal, inexact, Seq, infinite, finite, bytes_of, is_exact, is_empty, cut}
use Rattle.rx_literal.specs.declared.side.Side.TheVariants.{Front as front}
use Rattle.rx_literal.specs.Trim.{has_prefix_in, preferred, few, trimmed_by_preference}
use Rattle.rx_literal.specs.First.{all_exact, listed, lies, first_literal}
use Rattle.rx_literal.proofs.lemmas.trimming.TrimLemmas.{with-shorter}
use Rattle.rx_literal.proofs.lemmas.first_runs.ExactLemmas.{no_exact}

module _ (text : List ℕ) (end i : ℕ) where
  lies-prefix : (earlier : List Literal) (l : Literal) → has_prefix_in earlier l ≡ true → lies text end i l ≡ true → list_any (lies text end i) earlier ≡ true
  lies-prefix [] l h is = no_exact h
  lies-prefix (e ∷ es) l h is =
      by_test (starts_with nat_eq (bytes_of l) (bytes_of e))
      (λ p.
      let both = and_parts (stands_at text i (bytes_of l)) (nat_le (i + length (bytes_of l)) end) is in
      let fits = both.1 in
      let le : i + length (bytes_of l) ≤ end = grind (arith, nat_tests) in
      let x = with-shorter text i end l e p (both.0, le) in
      let le' = x.1 in
      let fits' : nat_le (i + length (bytes_of e)) end ≡ true = grind (arith, nat_tests) in
      rw (x.0, fits') refl)
      (λ n. or_right (lies text end i e) (list_any (lies text end i) es) (lies-prefix es l (rw n at h) is))

  first-preferred : (earlier ls : List Literal) → list_any (lies text end i) earlier ≡ false
      → first_literal text end i (preferred earlier ls) ≡ first_literal text end i ls
  unfolding preferred
  first-preferred earlier [] none = refl
  first-preferred earlier (l ∷ ls) none =
      by_test (has_prefix_in earlier l)
      (λ e.
      by_test (lies text end i l)
      (λ is. absurd (true≢false (sym (lies-prefix earlier l e is) ∙ none)))
      (λ not. rw (e, not) (first-preferred (l ∷ earlier) ls (rw (not, none) refl))))
      (λ e.
      by_test (lies text end i l)
      (λ is. rw (e, is) refl)
      (λ not. rw (e, not) (first-preferred (l ∷ earlier) ls (rw (not, none) refl))))

-- none of the list has an earlier one as its prefix
abbrev IsTrimmed : (earlier : List Literal) → List Literal → Type 0
IsTrimmed earlier [] = Unit {0}
IsTrimmed earlier (l ∷ ls) = (has_prefix_in earlier l ≡ false) × IsTrimmed (l ∷ earlier) ls

-- what has a prefix among these has one among those
abbrev Covers : List Literal → List Literal → Type 0
Covers those these = (l : Literal) → has_prefix_in these l ≡ true → has_prefix_in those l ≡ true

covers-more : (those these : List Literal) (l : Literal) → Covers those these → Covers (l ∷ those) (l ∷ these)
covers-more those these l c m h =
    by_test (starts_with nat_eq (bytes_of m) (bytes_of l)) (λ e. rw e refl) (λ e. rw e (c m (rw e at h)))

covers-later : (those these : List Literal) (l : Literal) → Covers those these → Covers (l ∷ those) these
covers-later those these l c m h =
    by_test (starts_with nat_eq (bytes_of m) (bytes_of l)) (λ e. rw e refl) (λ e. rw e (c m h))

preferred-trimmed : (earlier kept ls : List Literal) → Covers earlier kept → IsTrimmed kept (preferred earlier ls)
unfolding preferred
preferred-trimmed earlier kept [] c = tt
preferred-trimmed earlier kept (l ∷ ls) c =
    by_test (has_prefix_in earlier l)
    (λ e. rw e (preferred-trimmed (l ∷ earlier) kept ls (covers-later earlier kept l c)))
    (λ e.
    let not : has_prefix_in kept l ≡ false = by_test (has_prefix_in kept l) (λ h. absurd (true≢false (sym (c l h) ∙ e))) (λ h. h) in
    rw e (not, preferred-trimmed (l ∷ earlier) (l ∷ kept) ls (covers-more earlier kept l c)))

-- what the first bytes begin with, all of them begin with
take-prefix : (n : ℕ) (s p : List ℕ) → starts_with nat_eq (take n s) p ≡ true → starts_with nat_eq s p ≡ true
take-prefix n s p h =
    let goes = (starts_is Decides-eqb (take n s) p true (sym h)).0 refl in
    let rest = drop (length p) (take n s) in
    let whole : s ≡ p ++ (rest ++ drop n s) = sym (take-append-drop n s) ∙ ap (λ x. x ++ drop n s) goes ∙ append_assoc p rest (drop n s) in
    (starts_is Decides-eqb s p _ refl).1 (rest ++ drop n s) whole

cut-prefix : (n : ℕ) (earlier : List Literal) (l : Literal) → has_prefix_in earlier (inexact (take n (bytes_of l))) ≡ true → has_prefix_in earlier l ≡ true
cut-prefix n [] l h = h
cut-prefix n (e ∷ es) l h =
    by_test (starts_with nat_eq (take n (bytes_of l)) (bytes_of e))
    (λ p. rw (take-prefix n (bytes_of l) (bytes_of e) p) refl)
    (λ p. or_right (starts_with nat_eq (bytes_of l) (bytes_of e)) (has_prefix_in es l) (cut-prefix n es l (rw p at h)))

-- where the cut ones are exact once trimmed, none was cut
uncut : (n : ℕ) (earlier ls : List Literal) → IsTrimmed earlier ls → list_all is_exact (preferred earlier (map (cut front n) ls)) ≡ true
    → map (cut front n) ls ≡ ls
unfolding preferred cut
uncut n earlier [] t h = refl
uncut n earlier (l ∷ ls) t h =
    by_test (nat_lt n (length (bytes_of l)))
    (λ e. let h' = rw e at h in
    by_test (has_prefix_in earlier (inexact (take n (bytes_of l))))
    (λ p. absurd (true≢false (sym (cut-prefix n earlier l p) ∙ t.0)))
    (λ p. no_exact (rw p at h')))
    (λ e. let h' = rw e at h in
    let h'' = rw t.0 at h' in
    let both = and_parts (is_exact l) (list_all is_exact (preferred (l ∷ earlier) (map (cut front n) ls))) h'' in
    rw e (ap (λ xs. l ∷ xs) (uncut n (l ∷ earlier) ls t.1 both.1)))

few-exact : (text : List ℕ) (end i n : ℕ) (ls : List Literal) → IsTrimmed [] ls → all_exact (few n ls) ≡ true
    → first_literal text end i (listed (few n ls)) ≡ first_literal text end i ls
unfolding few
few-exact text end i n ls t h =
    let short = preferred [] (map (cut front 3) ls) in
    by_test (nat_le (length ls) n)
    (λ e. rw e refl)
    (λ e. let h' = rw e at h in
    by_test (nat_le (length short) n)
    (λ f. let same = uncut 3 [] ls t (rw f at h') in
    rw (e, f) (ap (λ xs. first_literal text end i (preferred [] xs)) same ∙ first-preferred text end i [] ls refl))
    (λ f. let h'' = rw f at h' in
    by_test (list_all is_exact ls)
    (λ d. rw (e, f, d) refl)
    (λ d. no_exact (rw d at h''))))

-- an exact trimmed sequence has the same first literal there as the sequence
pub first-trimmed : (text : List ℕ) (end i : ℕ) (ss : Seq) → all_exact (trimmed_by_preference ss) ≡ true
    → first_literal text end i (listed (trimmed_by_preference ss)) ≡ first_literal text end i (listed ss)
unfolding trimmed_by_preference
first-trimmed text end i infinite h = no_exact h
first-trimmed text end i (finite ls) h =
    by_test (list_any is_empty ls)
    (λ e. no_exact (rw e at h))
    (λ e. rw e (few-exact text end i 64 (preferred [] ls) (preferred-trimmed [] [] ls (λ l p. p)) (rw e at h) ∙ first-preferred text end i [] ls refl))
