-- Whether the prefixes of an expression are exact doesn't change what a fast search is for.
use Rattle.std.proofs.Common.{◌≡◌, ℕ, Bool, true, false, List, [], ◌∷◌, length, map, Option, Some, None, refl, sym, ap, ◌∙◌, arith}
use Rattle.std.specs.Prelude.{nat_le, nat_lt, nat_eq, ◌==◌, ◌||◌, if◌then◌else◌}
use Rattle.std.specs.Option.{option_map, unwrap_or}
use Rattle.std.specs.List.{list_any, list_all, starts_with}
use Rattle.std.proofs.lemmas.List.{length-map}
use Rattle.std.proofs.lemmas.Bool.Decides.{nat_tests}
use Rattle.rx_model.proofs.lemmas.runs.RunLemmas.{by_test}
use Rattle.rx_literal.specs.Literals.{Literal, Seq, infinite, finite, bytes_of, is_exact, is_empty, loose, loosened, cut}
use Rattle.rx_literal.specs.Trim.{has_prefix_in, preferred, few, trimmed_by_preference}
use Rattle.rx_literal.specs.declared.side.Side.TheVariants.{Front as front}
use Rattle.rx_prefilter.specs.Choices.{is_empty as is_empty_needle, is_single, choice_of, choice_of_bytes, is_fast, served}
use Rattle.rx_prefilter.specs.declared.choice.Choice.{Choice}
use Rattle.rx_prefilter.specs.declared.choice.Choice.TheVariants.{ByteSet, AhoCorasick}
use Rattle.rx_prefilter.specs.Prefixes.{served_by}
use Rattle.rx_order.specs.Inner.{if_fast}

any-loose : (p : List ℕ → Bool) (ls : List Literal) → list_any (λ l. p (bytes_of l)) (map loose ls) ≡ list_any (λ l. p (bytes_of l)) ls
any-loose p [] = refl
any-loose p (l ∷ ls) = ap (λ b. p (bytes_of l) || b) (any-loose p ls)

bytes-loose : (ls : List Literal) → map bytes_of (map loose ls) ≡ map bytes_of ls
bytes-loose [] = refl
bytes-loose (l ∷ ls) = ap (λ xs. bytes_of l ∷ xs) (bytes-loose ls)

if-loose : (b : Bool) (l : Literal) (rest : List Literal) → (if b then map loose rest else loose l ∷ map loose rest) ≡ map loose (if b then rest else l ∷ rest)
if-loose true l rest = refl
if-loose false l rest = refl

preferred-loose : (earlier ls : List Literal) → preferred (map loose earlier) (map loose ls) ≡ map loose (preferred earlier ls)
unfolding preferred
preferred-loose earlier [] = refl
preferred-loose earlier (l ∷ ls) =
    (λ i. if any-loose (λ bytes. starts_with nat_eq (bytes_of l) bytes) earlier i then preferred-loose (l ∷ earlier) ls i
    else loose l ∷ preferred-loose (l ∷ earlier) ls i)
    ∙ if-loose (has_prefix_in earlier l) l (preferred (l ∷ earlier) ls)

cut-loose : (n : ℕ) (l : Literal) → cut front n (loose l) ≡ loose (cut front n l)
unfolding cut
cut-loose n l = by_test (nat_lt n (length (bytes_of l))) (λ e. rw e refl) (λ e. rw e refl)

cut-all-loose : (n : ℕ) (ls : List Literal) → map (cut front n) (map loose ls) ≡ map loose (map (cut front n) ls)
cut-all-loose n [] = refl
cut-all-loose n (l ∷ ls) = λ i. cut-loose n l i ∷ cut-all-loose n ls i

-- what a kind that isn't fast gives
served-none : (needles : List (List ℕ)) → choice_of needles ≡ None → if_fast (served needles) ≡ None
served-none needles e = ap (λ o. if_fast (option_map (λ choice. needles) o)) e

served-slow : (needles : List (List ℕ)) (c : Choice) → choice_of needles ≡ Some c → is_fast c needles ≡ false → if_fast (served needles) ≡ None
served-slow needles c e not_fast =
    ap (λ o. if_fast (option_map (λ choice. needles) o)) e
    ∙ ap (λ o. if is_fast (unwrap_or o AhoCorasick) needles then Some needles else None) e
    ∙ ap (λ b. if b then Some needles else None) not_fast

-- no search for more than 64 needles is fast
slow : (needles : List (List ℕ)) → nat_le (length needles) 64 ≡ false → if_fast (served needles) ≡ None
unfolding choice_of choice_of_bytes is_fast
slow needles many =
    let none : (length needles == 0) ≡ false = grind (arith, nat_tests) in
    let one : (length needles == 1) ≡ false = grind (arith, nat_tests) in
    let two : (length needles == 2) ≡ false = grind (arith, nat_tests) in
    let three : (length needles == 3) ≡ false = grind (arith, nat_tests) in
    by_test (list_any is_empty_needle needles)
    (λ e. served-none needles (rw (none, e) refl))
    (λ e. by_test (list_all is_single needles)
    (λ f. served-slow needles ByteSet (rw (none, e, f, one, two, three) refl) refl)
    (λ f. served-slow needles AhoCorasick (rw (none, e, f, one, many) refl) refl))

-- what a sequence is searched for, where that is fast
abbrev fast_of : Seq → Option (List (List ℕ))
fast_of ss = if_fast (served_by ss)

fast-same : (ls ms : List Literal) → map bytes_of ls ≡ map bytes_of ms → fast_of (finite ls) ≡ fast_of (finite ms)
fast-same ls ms e = ap (λ needles. if_fast (served needles)) e

fast-slow : (b : Bool) (ls : List Literal) → nat_le (length ls) 64 ≡ false → fast_of (if b then finite ls else infinite) ≡ None
fast-slow true ls many = slow (map bytes_of ls) (ap (λ n. nat_le n 64) (length-map ls bytes_of) ∙ many)
fast-slow false ls many = refl

few-loose : (ls : List Literal) → fast_of (few 64 (map loose ls)) ≡ fast_of (few 64 ls)
unfolding few
few-loose ls =
    let size = length-map ls loose in
    let short = preferred [] (map (cut front 3) ls) in
    let short' : preferred [] (map (cut front 3) (map loose ls)) ≡ map loose short =
    ap (preferred []) (cut-all-loose 3 ls) ∙ preferred-loose [] (map (cut front 3) ls) in
    let short_size = length-map short loose in
    by_test (nat_le (length ls) 64)
    (λ e. rw (size, e) (fast-same (map loose ls) ls (bytes-loose ls)))
    (λ e. by_test (nat_le (length short) 64)
    (λ f. rw (size, e, short', short_size, f) (fast-same (map loose short) short (bytes-loose short)))
    (λ f. rw (size, e, short', short_size, f)
    (fast-slow (list_all is_exact (map loose ls)) (map loose ls) (ap (λ n. nat_le n 64) size ∙ e) ∙ sym (fast-slow (list_all is_exact ls) ls e))))

pub fast-loose : (ss : Seq) → fast_of (trimmed_by_preference (loosened ss)) ≡ fast_of (trimmed_by_preference ss)
unfolding trimmed_by_preference
fast-loose infinite = refl
fast-loose (finite ls) =
    let same = any-loose (λ bytes. nat_eq (length bytes) 0) ls in
    by_test (list_any is_empty ls)
    (λ e. rw (same, e) refl)
    (λ e. rw (same, e) (ap (λ xs. fast_of (few 64 xs)) (preferred-loose [] ls) ∙ few-loose (preferred [] ls)))
