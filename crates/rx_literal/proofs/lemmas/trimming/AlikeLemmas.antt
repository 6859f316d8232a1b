-- Lists in order are the same where the same bytes stand in both, inexact in both or in none.
use Rattle.std.proofs.Common.{◌≡◌, ℕ, ◌+◌, ◌<◌, Bool, true, false, ◌&&◌, List, [], ◌∷◌, length, take, map, get_or, refl, sym, ap, subst, ◌∙◌, true≢false}
use Rattle.std.specs.Prelude.{not, ◌||◌}
use Rattle.std.specs.List.{list_any, list_all}
use Rattle.std.specs.List.Sorted.{IsPermutation}
use Rattle.std.proofs.lemmas.Bool.{and_parts, not-true}
use Rattle.std.proofs.lemmas.List.{get_or-map}
use Rattle.std.proofs.lemmas.List.Folds.{list_any_more}
use Rattle.std.proofs.lemmas.List.Sorted.{list_any-IsPermutation}
use Rattle.rx_model.proofs.lemmas.runs.RunLemmas.{by_test, or-swap}
use Rattle.rx_literal.specs.Literals.{Literal, exact, inexact, bytes_of, is_exact}
use Rattle.rx_literal.specs.declared.order.Order.TheVariants.{Bytes as by_bytes}
use Rattle.rx_literal.specs.Order.{before, follows, InOrder}
use Rattle.rx_literal.specs.Trim.{one_of_both, insert, sorted}
use Rattle.rx_literal.proofs.lemmas.trimming.BeforeLemmas.{before-trans, before-self, bytes-same}
use Rattle.rx_literal.proofs.lemmas.trimming.OrderedLemmas.{all-both, all-all, all-none}
use Rattle.rx_literal.proofs.lemmas.trimming.InsertLemmas.{insert-first, insert-later, insert-here, insert-ordered}
use Rattle.std.proofs.Math.Bool.{or_comm, or_assoc, and-false}

-- the literal has these bytes
abbrev has_these : List ℕ → Literal → Bool
has_these b l = not (before by_bytes b (bytes_of l)) && not (before by_bytes (bytes_of l) b)

-- and is inexact
abbrev is_loose : List ℕ → Literal → Bool
is_loose b l = has_these b l && not (is_exact l)

-- the same bytes stand in both, inexact in both or in none
pub record Alike (xs ys : List Literal) : Type 0 where
  pub stand : (b : List ℕ) → list_any (has_these b) xs ≡ list_any (has_these b) ys
  pub loose : (b : List ℕ) → list_any (is_loose b) xs ≡ list_any (is_loose b) ys

same-or : (a : Bool) → (a || a) ≡ a
same-or true = refl
same-or false = refl

-- a test holds of the one of both where it holds of one
abbrev Fits : (Literal → Bool) → Type 0
Fits p = (l m : Literal) → bytes_of l ≡ bytes_of m → p (one_of_both l m) ≡ (p l || p m)

these-same : (b : List ℕ) (l m : Literal) → bytes_of l ≡ bytes_of m → has_these b l ≡ has_these b m
these-same b l m same = ap (λ c. not (before by_bytes b c) && not (before by_bytes c b)) same

fits-these : (b : List ℕ) → Fits (has_these b)
fits-these b (exact s) m same = sym (ap (λ t. t || has_these b m) (these-same b (exact s) m same) ∙ same-or (has_these b m))
fits-these b (inexact s) m same =
    sym (ap (λ t. has_these b (inexact s) || t) (sym (these-same b (inexact s) m same)) ∙ same-or (has_these b (inexact s)))

fits-loose : (b : List ℕ) → Fits (is_loose b)
fits-loose b (exact s) m same = sym (ap (λ t. t || is_loose b m) (and-false (has_these b (exact s))))
fits-loose b (inexact s) m same =
    by_test (is_loose b m)
    (λ e.
    let there = (and_parts (has_these b m) (not (is_exact m)) e).0 in
    let here : is_loose b (inexact s) ≡ true = all-both (has_these b (inexact s)) true (these-same b (inexact s) m same ∙ there) refl in
    here ∙ sym (ap (λ t. t || is_loose b m) here))
    (λ e. sym (ap (λ t. is_loose b (inexact s) || t) e ∙ or_comm (is_loose b (inexact s)) false))

any-insert : (p : Literal → Bool) → Fits p → (l : Literal) (ms : List Literal) → list_any p (insert l ms) ≡ (p l || list_any p ms)
unfolding insert
any-insert p fits l [] = refl
any-insert p fits l (m ∷ ms) =
    by_test (follows by_bytes m l)
    (λ e. ap (list_any p) (insert-first l m ms e))
    (λ e. by_test (follows by_bytes l m)
    (λ d. ap (list_any p) (insert-later l m ms d) ∙ ap (λ t. p m || t) (any-insert p fits l ms) ∙ or-swap (p m) (p l) (list_any p ms))
    (λ d. ap (list_any p) (insert-here l m ms e d) ∙ ap (λ t. t || list_any p ms) (fits l m (bytes-same (bytes_of l) (bytes_of m) e d))
    ∙ or_assoc (p l) (p m) (list_any p ms)))

any-sorted : (p : Literal → Bool) → Fits p → (ls : List Literal) → list_any p (sorted ls) ≡ list_any p ls
unfolding sorted
any-sorted p fits [] = refl
any-sorted p fits (l ∷ ls) = any-insert p fits l (sorted ls) ∙ ap (λ t. p l || t) (any-sorted p fits ls)

sorted-ordered : (ls : List Literal) → InOrder by_bytes (sorted ls)
unfolding sorted
sorted-ordered [] = tt
sorted-ordered (l ∷ ls) = insert-ordered l (sorted ls) (sorted-ordered ls)

-- what comes after these bytes has others
after-these : (x : Literal) (ls : List Literal) → list_all (λ m. follows by_bytes m x) ls ≡ true → list_any (has_these (bytes_of x)) ls ≡ false
after-these x ls all = all-none (λ m. follows by_bytes m x) (has_these (bytes_of x)) (λ m e. rw e refl) ls all

no-loose : (b : List ℕ) (ls : List Literal) → list_any (has_these b) ls ≡ false → list_any (is_loose b) ls ≡ false
no-loose b [] none = refl
no-loose b (l ∷ ls) none =
    by_test (has_these b l)
    (λ e. absurd (true≢false (sym (ap (λ t. t || list_any (has_these b) ls) e) ∙ none)))
    (λ e. rw e (no-loose b ls (sym (ap (λ t. t || list_any (has_these b) ls) e) ∙ none)))

has-own : (x : Literal) (ls : List Literal) → list_any (has_these (bytes_of x)) (x ∷ ls) ≡ true
has-own x ls = let self = before-self by_bytes (bytes_of x) in rw self refl

these-are : (b : List ℕ) (x : Literal) → has_these b x ≡ true → b ≡ bytes_of x
these-are b x h =
    let both = and_parts (not (before by_bytes b (bytes_of x))) (not (before by_bytes (bytes_of x) b)) h in
    bytes-same b (bytes_of x) (not-true (before by_bytes b (bytes_of x)) both.0) (not-true (before by_bytes (bytes_of x) b) both.1)

-- a list of which one comes before all of the other isn't alike
apart-first : (x y : Literal) (xs ys : List Literal) → InOrder by_bytes (y ∷ ys) → follows by_bytes y x ≡ true
    → list_any (has_these (bytes_of x)) (x ∷ xs) ≡ list_any (has_these (bytes_of x)) (y ∷ ys) → ⊥
apart-first x y xs ys o h same =
    let later = all-all (λ m. follows by_bytes m y) (λ m. follows by_bytes m x)
    (λ m after. before-trans by_bytes (bytes_of x) (bytes_of y) (bytes_of m) h after) ys o.0 in
    let all = all-both (follows by_bytes y x) (list_all (λ m. follows by_bytes m x) ys) h later in
    true≢false (sym (has-own x xs) ∙ same ∙ after-these x (y ∷ ys) all)

rest-same : (p : Literal → Bool) (x y : Literal) (xs ys : List Literal) → p x ≡ p y → (p x ≡ true → list_any p xs ≡ list_any p ys)
    → list_any p (x ∷ xs) ≡ list_any p (y ∷ ys) → list_any p xs ≡ list_any p ys
rest-same p x y xs ys here found same =
    by_test (p x)
    found
    (λ e. sym (ap (λ t. t || list_any p xs) e) ∙ same ∙ ap (λ t. t || list_any p ys) (sym here ∙ e))

same-literal : (x y : Literal) → bytes_of x ≡ bytes_of y → not (is_exact x) ≡ not (is_exact y) → x ≡ y
same-literal (exact s) (exact t) same e = ap exact same
same-literal (exact s) (inexact t) same e = absurd (true≢false (sym e))
same-literal (inexact s) (exact t) same e = absurd (true≢false e)
same-literal (inexact s) (inexact t) same e = ap inexact same

own-loose : (x : Literal) (ls : List Literal) → list_all (λ m. follows by_bytes m x) ls ≡ true
    → list_any (is_loose (bytes_of x)) (x ∷ ls) ≡ not (is_exact x)
own-loose x ls all =
    let self = before-self by_bytes (bytes_of x) in
    let none = no-loose (bytes_of x) ls (after-these x ls all) in
    rw (self, none) (or_comm (not (is_exact x)) false)

pub unique : (xs ys : List Literal) → InOrder by_bytes xs → InOrder by_bytes ys → Alike xs ys → xs ≡ ys
unique [] [] o u alike = refl
unique [] (y ∷ ys) o u alike = absurd (true≢false (sym (has-own y ys) ∙ sym (alike.stand (bytes_of y))))
unique (x ∷ xs) [] o u alike = absurd (true≢false (sym (has-own x xs) ∙ alike.stand (bytes_of x)))
unique (x ∷ xs) (y ∷ ys) o u alike =
    by_test (follows by_bytes y x)
    (λ e. absurd (apart-first x y xs ys u e (alike.stand (bytes_of x))))
    (λ e. by_test (follows by_bytes x y)
    (λ d. absurd (apart-first y x ys xs o d (sym (alike.stand (bytes_of y)))))
    (λ d.
    let same : bytes_of x ≡ bytes_of y = bytes-same (bytes_of x) (bytes_of y) e d in
    let exactness : not (is_exact x) ≡ not (is_exact y) =
    sym (own-loose x xs o.0) ∙ alike.loose (bytes_of x) ∙ ap (λ b. list_any (is_loose b) (y ∷ ys)) same ∙ own-loose y ys u.0 in
    let is : x ≡ y = same-literal x y same exactness in
    let none_left : (b : List ℕ) → has_these b x ≡ true → list_any (has_these b) xs ≡ false =
    λ b h. subst (λ c. list_any (has_these c) xs ≡ false) (sym (these-are b x h)) (after-these x xs o.0) in
    let none_right : (b : List ℕ) → has_these b x ≡ true → list_any (has_these b) ys ≡ false =
    λ b h. subst (λ c. list_any (has_these c) ys ≡ false) (sym (these-are b x h ∙ same)) (after-these y ys u.0) in
    let stand : (b : List ℕ) → list_any (has_these b) xs ≡ list_any (has_these b) ys =
    λ b. rest-same (has_these b) x y xs ys (ap (has_these b) is) (λ h. none_left b h ∙ sym (none_right b h)) (alike.stand b) in
    let loose : (b : List ℕ) → list_any (is_loose b) xs ≡ list_any (is_loose b) ys =
    λ b. rest-same (is_loose b) x y xs ys (ap (is_loose b) is)
    (λ h.
    let these = (and_parts (has_these b x) (not (is_exact x)) h).0 in
    no-loose b xs (none_left b these) ∙ sym (no-loose b ys (none_right b these)))
    (alike.loose b) in
    let rest = unique xs ys o.1 u.1 (record { stand = stand; loose = loose }) in
    λ k. is k ∷ rest k))

pub alike-none : Alike [] []
alike-none = record { stand = λ b. refl; loose = λ b. refl }

any-more : (p : Literal → Bool) → Fits p → (found ls : List Literal) (i : ℕ) (l : Literal) → i < length ls → l ≡ get_or ls i l
    → list_any p found ≡ list_any p (take i ls) → list_any p (insert l found) ≡ list_any p (take (i + 1) ls)
any-more p fits found ls i l lt at so_far =
    any-insert p fits l found ∙ ap (λ t. p l || t) so_far ∙ or_comm (p l) (list_any p (take i ls)) ∙ ap (λ y. list_any p (take i ls) || p y) at
    ∙ sym (list_any_more p ls i l lt)

-- one more of the literals
pub alike-more : (found ls : List Literal) (i : ℕ) (l : Literal) → i < length ls → l ≡ get_or ls i l → Alike found (take i ls)
    → Alike (insert l found) (take (i + 1) ls)
alike-more found ls i l lt at alike = record {
  stand = λ b. any-more (has_these b) (fits-these b) found ls i l lt at (alike.stand b);
  loose = λ b. any-more (is_loose b) (fits-loose b) found ls i l lt at (alike.loose b);
}

-- what is alike to the literals in another order, and in order, is the sorted list
pub sorted-alike : (ls ms found : List Literal) → IsPermutation ls ms → InOrder by_bytes found → Alike found ms → found ≡ sorted ls
sorted-alike ls ms found moved ordered alike =
    unique found (sorted ls) ordered (sorted-ordered ls) (record {
      stand = λ b. alike.stand b ∙ sym (list_any-IsPermutation (has_these b) ls ms moved) ∙ sym (any-sorted (has_these b) (fits-these b) ls);
      loose = λ b. alike.loose b ∙ sym (list_any-IsPermutation (is_loose b) ls ms moved) ∙ sym (any-sorted (is_loose b) (fits-loose b) ls);
    })

-- the literal of the pair at i
pub pair-at : (ps : List (ℕ × Literal)) (i : ℕ) (p : ℕ × Literal) → i < length ps → p ≡ get_or ps i p → p.1 ≡ get_or (map (λ (q : ℕ × Literal). q.1) ps) i p.1
pair-at ps i p lt at = sym (get_or-map (λ (q : ℕ × Literal). q.1) ps i p p.1 lt ∙ ap (λ (q : ℕ × Literal). q.1) (sym at))
