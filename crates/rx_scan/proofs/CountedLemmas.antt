-- What is found in haystacks, in numbers: the matches of a haystack are no more than it has places, and no longer than it.
use Rattle.std.proofs.Common.{◌≡◌, ℕ, zero, suc, ◌+◌, ◌-◌, ◌^◌, ◌<◌, ◌≤◌, List, [], ◌∷◌, ◌++◌, length, get_or, Some, Result, Ok, Err, IfOk, refl, sym, ap, subst, ◌∙◌, true, lit<, arith}
use Rattle.std.specs.Prelude.{map, sum_by, codes, nat_lt}
use Rattle.std.specs.List.{All, AllPairs, list_all}
use Rattle.std.specs.Str.{IsUtf8}
use Rattle.std.proofs.lemmas.List.{length-map, get_or-map, map-append}
use Rattle.std.proofs.lemmas.Simd.{map-map}
use Rattle.std.proofs.lemmas.List.Elements.{All-nil, All-cons, All-head, All-tail, All-map, All-pop}
use Rattle.std.proofs.lemmas.List.Sums.{sum_by-cons}
use Rattle.std.proofs.lemmas.Str.{IsUtf8-from_ascii}
use Rattle.std.proofs.lemmas.Bool.{and_parts, ltb-true}
use Rattle.rx_model.specs.Expression.{Expression}
use Rattle.rx_model.specs.Search.{Patterns, Match, matches, free}
use Rattle.rx_model.proofs.lemmas.matches.SuccessionLemmas.{matches-rise, matches-within}
use Rattle.rx_gen.specs.Generated.{generated}
use Rattle.rx_gen.specs.Totals.{matches_of, covered_of}
use Rattle.rx_gen.specs.declared.totals.Counts.{Counts}
use Rattle.rx_gen.proofs.GeneratorLemmas.{generated-length, generated-short}
use Rattle.rx_gen.proofs.TotalsLemmas.{sum-fits}
use Rattle.rx_reader.specs.Config.{default}
use Rattle.rx_syntax.specs.Patterns.{all_read}
use Rattle.rx_syntax.proofs.lemmas.translation.Utf8Lemmas.{of_patterns}
use Rattle.rx_scan.specs.Answer.{match_len, counts_in, gen_patterns, read_or_none, gen_expressions, gen_counts}
use Rattle.rx_scan.specs.Counted.{AreCounted, row_len, rows_len, counts_of}
use Rattle.rx_memory.specs.declared.memory.Memory.{Memory}
use Rattle.rx_scan.specs.Patterns.{patterns_of, MeanUtf8}
use Rattle.rx_scan.specs.Row.{RowValue, row_of, scan_rows}

-- the second match starts after the first, and not before its end
abbrev IsLater : Match → Match → Type 0
IsLater m n = (m.start < n.start) × (m.trace.end ≤ n.start)

abbrev LiesWithin : (a b : ℕ) → Match → Type 0
LiesWithin a b m = (a ≤ m.start) × (m.start ≤ m.trace.end) × (m.trace.end ≤ b)

module _ (b : ℕ) where
  -- at most one match starts at each place from a on, up to the end
  few : (ms : List Match) (a : ℕ) → AllPairs IsLater ms → All (LiesWithin a b) ms → length ms ≤ b + 1 - a
  few [] a later within = omega arith
  few (m ∷ ms) a later within =
      let first : LiesWithin a b m = within 0 m (omega arith) in
      let others : All (LiesWithin (m.start + 1) b) ms =
      λ i d below. (
      let l : IsLater m (get_or ms i d) = later 0 (suc i) d (omega arith) (omega (arith, below)) in
      let w : LiesWithin a b (get_or ms i d) = within (suc i) d (omega (arith, below)) in
      (omega (arith, l.0), w.1, w.2)) in
      let rest = few ms (m.start + 1) (λ i j d lt below. later (suc i) (suc j) d (omega (arith, lt)) (omega (arith, below))) others in
      omega (arith, first.0, first.1, first.2, rest)

  -- and no place is covered twice
  short : (ms : List Match) (a : ℕ) → AllPairs IsLater ms → All (LiesWithin a b) ms → sum_by match_len ms ≤ b - a
  short [] a later within = omega arith
  short (m ∷ ms) a later within =
      let first : LiesWithin a b m = within 0 m (omega arith) in
      let others : All (LiesWithin m.trace.end b) ms =
      λ i d below. (
      let l : IsLater m (get_or ms i d) = later 0 (suc i) d (omega arith) (omega (arith, below)) in
      let w : LiesWithin a b (get_or ms i d) = within (suc i) d (omega (arith, below)) in
      (l.1, w.1, w.2)) in
      let rest = short ms m.trace.end (λ i j d lt below. later (suc i) (suc j) d (omega (arith, lt)) (omega (arith, below))) others in
      let both = sum_by-cons match_len m ms in
      omega (arith, first.0, first.1, first.2, rest, both)

module _ (text : List ℕ) where
  gen-few : matches_of (gen_counts text) ≤ length text + 1
  gen-few =
      let r = patterns_of gen_expressions in
      let h = few (length text) (matches r text free (length text) 0) 0 (matches-rise r text free (length text) 0) (matches-within r text free (length text) 0) in
      omega (arith, h)

  gen-short : covered_of (gen_counts text) ≤ length text
  gen-short =
      let r = patterns_of gen_expressions in
      let h = short (length text) (matches r text free (length text) 0) 0 (matches-rise r text free (length text) 0) (matches-within r text free (length text) 0) in
      omega (arith, h)

-- rows are as many as their matches, and as long
rows-covered : (r : Patterns) (ms : List Match) → rows_len (map (row_of r) ms) ≡ sum_by match_len ms
rows-covered r [] = refl
rows-covered r (m ∷ ms) =
    sum_by-cons row_len (row_of r m) (map (row_of r) ms) ∙ ap (λ n. match_len m + n) (rows-covered r ms) ∙ sym (sum_by-cons match_len m ms)

rows-counts : (r : Patterns) (ms : List Match) → counts_of (map (row_of r) ms) ≡ counts_in ms
rows-counts r ms = λ i. record { matches = length-map ms (row_of r) i; covered = rows-covered r ms i }

-- the rows of a short haystack are few, and their numbers are those of its matches
pub rows-fit : (text : List ℕ) → length text ≤ 15 → rows_len (scan_rows (patterns_of gen_expressions) text) < 2 ^ 64
rows-fit text small =
    let r = patterns_of gen_expressions in
    omega (arith, small, gen-short text, rows-covered r (matches r text free (length text) 0))

rows-told : (text : List ℕ) → counts_of (scan_rows (patterns_of gen_expressions) text) ≡ gen_counts text
rows-told text = let r = patterns_of gen_expressions in rows-counts r (matches r text free (length text) 0)

-- the totals of at most a million haystacks fit
module _ (seed count : ℕ) (many : count ≤ 1000000) where
  pub bytes-fit : sum_by length (generated seed count) < 2 ^ 64
  bytes-fit =
      sum-fits length (generated seed count) (omega (arith, many, generated-length seed count)) (λ i d below. omega (arith, generated-short seed count i d below))

  found-many : length (map gen_counts (generated seed count)) ≤ 1000000
  found-many = omega (arith, many, generated-length seed count, length-map (generated seed count) gen_counts)

  pub matches-fit : sum_by matches_of (map gen_counts (generated seed count)) < 2 ^ 64
  matches-fit =
      sum-fits matches_of (map gen_counts (generated seed count)) found-many
      (All-map (λ c. matches_of c ≤ 16) gen_counts (generated seed count)
      (λ i d below. omega (arith, gen-few (get_or (generated seed count) i d), generated-short seed count i d below)))

  pub covered-fit : sum_by covered_of (map gen_counts (generated seed count)) < 2 ^ 64
  covered-fit =
      sum-fits covered_of (map gen_counts (generated seed count)) found-many
      (All-map (λ c. covered_of c ≤ 16) gen_counts (generated seed count)
      (λ i d below. omega (arith, gen-short (get_or (generated seed count) i d), generated-short seed count i d below)))

-- what the patterns read as, and that it means UTF-8
pub gen-read : (hs : List Expression) → all_read default gen_patterns ≡ Ok hs → hs ≡ gen_expressions
unfolding gen_expressions
gen-read hs read = sym (ap read_or_none read)

ascii-by : (bs : List ℕ) → list_all (λ b. nat_lt b 128) bs ≡ true → (i : ℕ) → get_or bs i 0 < 128
ascii-by [] all i = lit< tt
ascii-by (b ∷ bs) all zero = ltb-true b 128 (and_parts (nat_lt b 128) (list_all (λ c. nat_lt c 128) bs) all).0
ascii-by (b ∷ bs) all (suc i) = ascii-by bs (and_parts (nat_lt b 128) (list_all (λ c. nat_lt c 128) bs) all).1 i

ascii-utf8 : (bs : List ℕ) → list_all (λ b. nat_lt b 128) bs ≡ true → IsUtf8 bs
ascii-utf8 bs all = IsUtf8-from_ascii bs (ascii-by bs all)

patterns-utf8 : All IsUtf8 gen_patterns
patterns-utf8 =
    All-cons IsUtf8 (codes "([a-c]+)d") (codes "[e-h]{2,3}" ∷ []) (ascii-utf8 (codes "([a-c]+)d") refl)
    (All-cons IsUtf8 (codes "[e-h]{2,3}") [] (ascii-utf8 (codes "[e-h]{2,3}") refl) (All-nil IsUtf8))

pub gen-utf8 : (hs : List Expression) → all_read default gen_patterns ≡ Ok hs → MeanUtf8 gen_expressions
gen-utf8 hs read =
    subst MeanUtf8 (gen-read hs read) (λ text utf8. of_patterns default gen_patterns (patterns_of hs) text refl patterns-utf8 read utf8)

-- each of the lists that these become has it
pub All-unmap : {X Y : Type 0} (P : Y → Type 0) (f : X → Y) (xs : List X) → All P (map f xs) → All (λ x. P (f x)) xs
All-unmap P f xs all = λ k d below. subst P (get_or-map f xs k d (f d) below) (all k (f d) (omega (arith, below, length-map xs f)))

-- what the rows of short haystacks became are the numbers of these
pub counts-told : {W : Type 0} (items : W → List Counts) (result : Result W Memory) (texts : List (List ℕ)) → All (λ text. length text ≤ 15) texts
    → IfOk result (λ w. AreCounted (map (scan_rows (patterns_of gen_expressions)) texts) (items w))
    → IfOk result (λ w. items w ≡ map gen_counts texts)
counts-told items (Err error) texts short told = tt
counts-told items (Ok w) texts short told =
    let rows : List ℕ → List RowValue = scan_rows (patterns_of gen_expressions) in
    let fit : All (λ rs. rows_len rs < 2 ^ 64) (map rows texts) =
    All-map (λ rs. rows_len rs < 2 ^ 64) rows texts (λ i d below. rows-fit (get_or texts i d) (short i d below)) in
    told fit ∙ map-map counts_of rows texts ∙ (λ k. map (λ text. rows-told text k) texts)

-- the numbers of one haystack more
pub counts-more : (all : List (List RowValue)) (rows : List RowValue) (counts : Counts) (old new : List Counts) → new ≡ old ++ counts ∷ []
    → AreCounted all old → (rows_len rows < 2 ^ 64 → counts ≡ counts_of rows) → AreCounted (all ++ rows ∷ []) new
counts-more all rows counts old new longer told is fit =
    let P : List RowValue → Type 0 = λ rs. rows_len rs < 2 ^ 64 in
    let parts = All-pop P (all ++ rows ∷ []) all (Some rows) refl fit in
    longer ∙ (λ k. told parts.0 k ++ is parts.1 k ∷ []) ∙ sym (map-append counts_of all (rows ∷ []))

-- .. of some
pub counts-put : (all more : List (List RowValue)) (old new others : List Counts) → new ≡ old ++ others → AreCounted all old → AreCounted more others
    → AreCounted (all ++ more) new
counts-put all more old new others longer told is fit =
    let parts = All-split (λ rs. rows_len rs < 2 ^ 64) all more fit in
    longer ∙ (λ k. told parts.0 k ++ is parts.1 k) ∙ sym (map-append counts_of all more)
  where
    All-split : {X : Type 0} (P : X → Type 0) (xs ys : List X) → All P (xs ++ ys) → All P xs × All P ys
    All-split P [] ys both = (All-nil P, both)
    All-split P (x ∷ xs) ys both =
        let rest = All-split P xs ys (All-tail P x (xs ++ ys) both) in (All-cons P x xs (All-head P x (xs ++ ys) both) rest.0, rest.1)
