-- The starts, one after another.
use Rattle.std.proofs.Common.{◌≡◌, ◌≢◌, ℕ, suc, ◌+◌, ◌<◌, ◌≤◌, ◌==◌, List, [], ◌∷◌, ◌++◌, length, sym, ◌∙◌, ap, subst, arith, true≢false}
use Rattle.std.specs.Prelude.{true, false, Some, slice_get}
use Rattle.std.proofs.lemmas.Bool.Decides.{nat_tests}
use Rattle.rx_model.proofs.lemmas.runs.RunLemmas.{by_test}
use Rattle.rx_model.proofs.lemmas.runs.FirstLemmas.{some-is}
use Rattle.rx_nfa.specs.Nfa.{Nfa}
use Rattle.rx_onepass_table.specs.Rows.{IsRowOf}
use Rattle.rx_onepass_build.specs.Build.{IsStartAt, AreStarts}
use Rattle.rx_onepass_build.specs.Entries.{Stays}
use Rattle.rx_onepass_build.proofs.lemmas.FillingLemmas.{row-grows}
use Rattle.rx_onepass_build.proofs.lemmas.RowsLemmas.{length-last}
use Rattle.rx_onepass_build.proofs.lemmas.ListLemmas.{get-front, get-last, get-within}

-- the start that was appended
pub start-push : (entries starts : List ℕ) (row place q : ℕ) → length starts ≡ place → IsRowOf entries row q → IsStartAt entries (starts ++ row ∷ []) place q
start-push entries starts row place q len r = record {
  row = row;
  there = ap (λ i. slice_get (starts ++ row ∷ []) i) (sym len) ∙ get-last starts row;
  is = r;
}

-- one before it
pub start-kept : (old new starts : List ℕ) (row place q : ℕ) → Stays old new → IsStartAt old starts place q → IsStartAt new (starts ++ row ∷ []) place q
start-kept old new starts row place q stays s = record {
  row = s.row;
  there = get-front starts (row ∷ []) place s.row s.there;
  is = row-grows old new s.row q stays s.is;
}

-- the starts of the patterns, with one more
pub starts-push : (nfa : Nfa) (old new starts : List ℕ) (row pattern start : ℕ) → Stays old new → length starts ≡ pattern + 1
    → slice_get nfa.starts pattern ≡ Some start → IsRowOf new row start
    → ((p q : ℕ) → p < pattern → slice_get nfa.starts p ≡ Some q → IsStartAt old starts (suc p) q)
    → (p q : ℕ) → p < pattern + 1 → slice_get nfa.starts p ≡ Some q → IsStartAt new (starts ++ row ∷ []) (suc p) q
starts-push nfa old new starts row pattern start stays len is r each p q lt there =
    by_test (p == pattern)
    (λ e.
    let same : p ≡ pattern = grind (arith, nat_tests) in
    let one : start ≡ q = some-is (sym is ∙ ap (slice_get nfa.starts) (sym same) ∙ there) in
    subst (λ x. IsStartAt new (starts ++ row ∷ []) (suc p) x) one (start-push new starts row (suc p) start (omega arith) r))
    (λ e.
    let apart : p ≢ pattern = grind (arith, nat_tests) in
    start-kept old new starts row (suc p) q stays (each p q (omega arith) there))

-- The same of starts that are known to be the others with one more.

pub kept-by : (old new starts later : List ℕ) (row place q : ℕ) → later ≡ starts ++ row ∷ [] → Stays old new → IsStartAt old starts place q
    → IsStartAt new later place q
kept-by old new starts later row place q pushed stays s = subst (λ xs. IsStartAt new xs place q) (sym pushed) (start-kept old new starts row place q stays s)

pub pushed-by : (nfa : Nfa) (old new starts later : List ℕ) (row pattern start : ℕ) → later ≡ starts ++ row ∷ [] → Stays old new
    → length starts ≡ pattern + 1 → slice_get nfa.starts pattern ≡ Some start → IsRowOf new row start
    → ((p q : ℕ) → p < pattern → slice_get nfa.starts p ≡ Some q → IsStartAt old starts (suc p) q)
    → (p q : ℕ) → p < pattern + 1 → slice_get nfa.starts p ≡ Some q → IsStartAt new later (suc p) q
pushed-by nfa old new starts later row pattern start pushed stays len is r each p q lt there =
    subst (λ xs. IsStartAt new xs (suc p) q) (sym pushed) (starts-push nfa old new starts row pattern start stays len is r each p q lt there)

pub count-by : (starts later : List ℕ) (row pattern : ℕ) → later ≡ starts ++ row ∷ [] → length starts ≡ pattern + 1 → length later ≡ pattern + 1 + 1
count-by starts later row pattern pushed len = let e = ap length pushed ∙ length-last starts row in omega arith

-- the first one
pub first-start : (entries starts later : List ℕ) (row q : ℕ) → later ≡ starts ++ row ∷ [] → starts ≡ [] → IsRowOf entries row q
    → (length later ≡ 1) × IsStartAt entries later 0 q
first-start entries starts later row q pushed none r =
    let is : later ≡ row ∷ [] = pushed ∙ ap (λ xs. xs ++ row ∷ []) none in
    (ap length is, record { row = row; there = ap (λ xs. slice_get xs 0) is; is = r })

-- all of them
pub starts-all : (nfa : Nfa) (entries starts : List ℕ) (n : ℕ) → length nfa.starts ≤ n → n ≤ length nfa.starts → length starts ≡ n + 1
    → IsStartAt entries starts 0 nfa.start_anchored
    → ((p q : ℕ) → p < n → slice_get nfa.starts p ≡ Some q → IsStartAt entries starts (suc p) q) → AreStarts nfa true entries starts
starts-all nfa entries starts n le ge len common each = record {
  count = omega arith;
  common = common;
  of_each = λ p q yes there. (let lt = get-within nfa.starts p q there in each p q (omega arith) there);
}

-- that of all patterns alone
pub starts-one : (nfa : Nfa) (entries starts : List ℕ) → length starts ≡ 1 → IsStartAt entries starts 0 nfa.start_anchored → AreStarts nfa false entries starts
starts-one nfa entries starts len common = record {
  count = len;
  common = common;
  of_each = λ p q yes there. absurd (true≢false (sym yes));
}
