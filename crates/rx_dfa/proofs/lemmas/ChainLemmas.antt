-- Keys in chains.
use Rattle.std.proofs.Common.{◌≡◌, ◌≢◌, ℕ, zero, suc, ◌+◌, ◌-◌, ◌/◌, ◌^◌, ◌≤◌, ◌<◌, ◌⊎◌, inl, inr, List, [], ◌∷◌, ◌++◌, length, set, get_or, take, refl, sym, ◌∙◌, ap, subst, arith, true≢false}
use Rattle.std.proofs.lemmas.Bool.{cases_lt, cases_eq}
use Rattle.std.proofs.lemmas.List.{length_push, length-set, get_or_append_left, get_or_push, get_or-set_same, get_or-set_other, take_more}
use Rattle.std.proofs.lemmas.Nat.{mod_below}
use Rattle.std.proofs.lemmas.Option.{same_Some, none-some, slice_get_within, slice_get-get_or}
use Rattle.std.proofs.lemmas.Bool.Decides.{Decides-eqb}
use Rattle.std.proofs.lemmas.List.Elements.{All-from_get_or}
use Rattle.std.specs.Prelude.{Bool, true, false, ◌||◌, ◌==◌, if◌then◌else◌, Some, None, All, slice_get}
use Rattle.rx_model.proofs.lemmas.runs.RunLemmas.{by_test}
use Rattle.rx_nfa.specs.Ordered.{has}
use Rattle.rx_determinize.specs.Key.{Key}
use Rattle.rx_dfa.specs.Hash.{bucket_of, hash_of}
use Rattle.rx_dfa.specs.KeySet.{IsLimit, AreChained, AreApart}
use Rattle.rx_dfa.proofs.lemmas.ListLemmas.{has-push}

-- what stands in a list with one element more
pub got-push : {A : Type 0} (xs : List A) (y z : A) (r : ℕ) → slice_get (xs ++ y ∷ []) r ≡ Some z → (slice_get xs r ≡ Some z) ⊎ ((r ≡ length xs) × (y ≡ z))
got-push [] y z zero h = inr (refl, same_Some y z h)
got-push [] y z (suc r) h = absurd (none-some z h)
got-push (x ∷ xs) y z zero h = inl h
got-push (x ∷ xs) y z (suc r) h =
    elim (got-push xs y z r h) [ inl old ↦ inl old | inr (at, is) ↦ inr (ap suc at, is) ]

-- what stood there still does
pub got-old : {A : Type 0} (xs ys : List A) (z : A) (r : ℕ) → slice_get xs r ≡ Some z → slice_get (xs ++ ys) r ≡ Some z
got-old [] ys z r h = absurd (none-some z h)
got-old (x ∷ xs) ys z zero h = h
got-old (x ∷ xs) ys z (suc r) h = got-old xs ys z r h

pub got-new : {A : Type 0} (xs : List A) (y : A) → slice_get (xs ++ y ∷ []) (length xs) ≡ Some y
got-new [] y = refl
got-new (x ∷ xs) y = got-new xs y

limit-more : (buckets : List ℕ) (b n limit x : ℕ) → n ≤ length buckets → IsLimit buckets b n limit → IsLimit (buckets ++ x ∷ []) b n limit
limit-more buckets b n limit x le h = record {
  within = h.within;
  past = λ q low high same.
      let lt : q < length buckets = omega arith in
      h.past q low high (sym (get_or_append_left buckets (x ∷ []) 0 q lt) ∙ same);
  there = λ some.
      let lt : limit - 1 < length buckets = omega (arith, h.within) in
      get_or_append_left buckets (x ∷ []) 0 (limit - 1) lt ∙ h.there some;
}

limit-other : (buckets : List ℕ) (b n limit x : ℕ) → n ≡ length buckets → x ≢ b → IsLimit buckets b n limit → IsLimit (buckets ++ x ∷ []) b (n + 1) limit
limit-other buckets b n limit x is apart h = record {
  within = omega (arith, h.within);
  past = λ q low high same. elim (cases_lt q n) [
    | inl lt ↦ (limit-more buckets b n limit x (omega arith) h).past q low lt same
    | inr le ↦ let at : length buckets ≡ q = omega arith in apart (sym (get_or_push buckets x 0 q at) ∙ same)
  ];
  there = λ some. (limit-more buckets b n limit x (omega arith) h).there some;
}

limit-here : (buckets : List ℕ) (b n : ℕ) → n ≡ length buckets → IsLimit (buckets ++ b ∷ []) b (n + 1) (n + 1)
limit-here buckets b n is = record {
  within = omega arith;
  past = λ q low high same. let no : ⊥ = omega arith in no;
  there = λ some. get_or_push buckets b 0 (n + 1 - 1) (omega arith);
}

pub bucket-within : (width : ℕ) (k : Key) → 0 < width → bucket_of width k < width
bucket-within width k some = mod_below (hash_of k / 2 ^ 32) width some

-- a key more, in its bucket
pub chained-push : (keys : List Key) (buckets links heads : List ℕ) (k : Key) (b : ℕ) → AreChained keys buckets links heads → b ≡ bucket_of (length heads) k
    → b < length heads
    → AreChained (keys ++ k ∷ []) (buckets ++ b ∷ []) (links ++ get_or heads b 0 ∷ []) (set heads b (length buckets + 1))
chained-push keys buckets links heads k b h is lt =
    let n = length buckets in
    let head = get_or heads b 0 in
    let width : length (set heads b (n + 1)) ≡ length heads = length-set heads b (n + 1) in
    let same_count : length buckets ≡ length links = h.in_buckets ∙ sym h.linked in
    record {
      some = subst (λ (w : ℕ). 0 < w) (sym width) h.some;
      in_buckets = length_push buckets b ∙ ap (λ m. m + 1) h.in_buckets ∙ sym (length_push keys k);
      linked = length_push links head ∙ ap (λ m. m + 1) h.linked ∙ sym (length_push keys k);
      bucket = λ r x got. elim (got-push keys k x r got) [
        | inl old ↦
            let below : r < length buckets = omega (arith, slice_get_within keys r x old, h.in_buckets) in
            get_or_append_left buckets (b ∷ []) 0 r below ∙ h.bucket r x old ∙ ap (λ (w : ℕ). bucket_of w x) (sym width)
        | inr (at, key) ↦
            get_or_push buckets b 0 r (h.in_buckets ∙ sym at) ∙ is ∙ (λ j. bucket_of (sym width j) (key j))
      ];
      link = λ r below. elim (cases_lt r n) [
        | inl old ↦
            let left : r < length links = omega arith in
            subst (λ x. IsLimit (buckets ++ b ∷ []) x r (get_or (links ++ head ∷ []) r 0)) (sym (get_or_append_left buckets (b ∷ []) 0 r old))
            (subst (λ y. IsLimit (buckets ++ b ∷ []) (get_or buckets r 0) r y) (sym (get_or_append_left links (head ∷ []) 0 r left))
            (limit-more buckets (get_or buckets r 0) r (get_or links r 0) b (omega arith) (h.link r old)))
        | inr le ↦
            let at : length buckets ≡ r = omega (arith, length_push buckets b) in
            let there : length links ≡ r = sym same_count ∙ at in
            subst (λ x. IsLimit (buckets ++ b ∷ []) x r (get_or (links ++ head ∷ []) r 0)) (sym (get_or_push buckets b 0 r at))
            (subst (λ y. IsLimit (buckets ++ b ∷ []) b r y) (sym (get_or_push links head 0 r there))
            (limit-more buckets b r head b (omega arith) (subst (λ m. IsLimit buckets b m head) at (h.head b lt))))
      ];
      head = λ x below.
          let within : x < length heads = omega (arith, width) in
          subst (λ m. IsLimit (buckets ++ b ∷ []) x m (get_or (set heads b (n + 1)) x 0)) (sym (length_push buckets b))
          (elim (cases_eq x b) [
            | inl same ↦
                subst (λ (y : ℕ). IsLimit (buckets ++ b ∷ []) y (n + 1) (get_or (set heads b (n + 1)) y 0)) (sym same)
                (subst (λ y. IsLimit (buckets ++ b ∷ []) b (n + 1) y) (sym (get_or-set_same heads b (n + 1) 0 lt)) (limit-here buckets b n refl))
            | inr apart ↦
                subst (λ y. IsLimit (buckets ++ b ∷ []) x (n + 1) y) (sym (get_or-set_other heads b x (n + 1) 0 apart))
                (limit-other buckets x n (get_or heads x 0) b refl (λ e. apart (sym e)) (h.head x within))
          ]);
    }

pub apart-push : (keys : List Key) (k : Key) → AreApart keys → ((r : ℕ) → slice_get keys r ≡ Some k → ⊥) → AreApart (keys ++ k ∷ [])
apart-push keys k h new r s x first second =
    elim (got-push keys k x r first) [
      | inl a ↦ elim (got-push keys k x s second) [
        | inl b ↦ h r s x a b
        | inr (at, is) ↦ absurd (new r (a ∙ ap (λ (y : Key). Some y) (sym is)))
      ]
      | inr (at, is) ↦ elim (got-push keys k x s second) [
        | inl b ↦ absurd (new s (b ∙ ap (λ (y : Key). Some y) (sym is)))
        | inr (there, same) ↦ at ∙ sym there
      ]
    ]

-- Looking for a key, from the last one of its bucket back: it is none of those from this number on.
pub record Seeks (keys : List Key) (buckets : List ℕ) (bucket : ℕ) (k : Key) (limit : ℕ) : Type 0 where
  pub within : limit ≤ length keys
  pub there : 0 < limit → get_or buckets (limit - 1) 0 ≡ bucket
  pub past : (q : ℕ) → limit ≤ q → slice_get keys q ≡ Some k → ⊥

pub seeks-first : (keys : List Key) (buckets links heads : List ℕ) (k : Key) → AreChained keys buckets links heads
    → Seeks keys buckets (bucket_of (length heads) k) k (get_or heads (bucket_of (length heads) k) 0)
seeks-first keys buckets links heads k h =
    let b = bucket_of (length heads) k in
    let head = h.head b (bucket-within (length heads) k h.some) in
    record {
      within = omega (arith, head.within, h.in_buckets);
      there = head.there;
      past = λ q low got.
          head.past q low (omega (arith, slice_get_within keys q k got, h.in_buckets)) (h.bucket q k got);
    }

pub seeks-next : (keys : List Key) (buckets links heads : List ℕ) (k : Key) → AreChained keys buckets links heads → (limit number : ℕ) → limit ≡ number + 1
    → Seeks keys buckets (bucket_of (length heads) k) k limit → (slice_get keys number ≡ Some k → ⊥)
    → Seeks keys buckets (bucket_of (length heads) k) k (get_or links number 0)
seeks-next keys buckets links heads k h limit number is s other =
    let below : number < length buckets = omega (arith, s.within, h.in_buckets) in
    let link = h.link number below in
    let one_less : limit - 1 ≡ number = omega arith in
    let own : get_or buckets number 0 ≡ bucket_of (length heads) k = ap (λ m. get_or buckets m 0) (sym one_less) ∙ s.there (omega arith) in
    record {
      within = omega (arith, link.within, h.in_buckets);
      there = λ some. link.there some ∙ own;
      past = λ q low got. elim (cases_lt q number) [
        | inl lt ↦ link.past q low lt (h.bucket q k got ∙ sym own)
        | inr le ↦ elim (cases_eq q number) [
          | inl same ↦ other (ap (slice_get keys) (sym same) ∙ got)
          | inr apart ↦ s.past q (omega arith) got
        ]
      ];
    }

pub seeks-none : (keys : List Key) (buckets : List ℕ) (bucket : ℕ) (k : Key) → Seeks keys buckets bucket k 0 → (q : ℕ) → slice_get keys q ≡ Some k → ⊥
seeks-none keys buckets bucket k s q got = s.past q (omega arith) got

pub link-less : (keys : List Key) (buckets links heads : List ℕ) → AreChained keys buckets links heads → (number : ℕ) → number < length keys
    → get_or links number 0 ≤ number
link-less keys buckets links heads h number lt = (h.link number (omega (arith, h.in_buckets))).within

-- Buckets that are emptied.

or-true : (b : Bool) → (b || true) ≡ true
or-true true = refl
or-true false = refl

or-false : (b : Bool) → (b || false) ≡ b
or-false true = refl
or-false false = refl

-- the heads, where those of the first k buckets were emptied
abbrev pub AreEmptied : (items : List ℕ) (k : ℕ) (old heads : List ℕ) → Type 0
AreEmptied items k old heads = (q : ℕ) → get_or heads q 0 ≡ (if has (take k items) q then 0 else get_or old q 0)

pub emptied-more : (items : List ℕ) (k x : ℕ) (old heads : List ℕ) → k < length items → x ≡ get_or items k 0 → x < length heads
    → AreEmptied items k old heads → AreEmptied items (k + 1) old (set heads x 0)
emptied-more items k x old heads lt is below h q =
    let longer : take (k + 1) items ≡ take k items ++ x ∷ [] = take_more items k 0 lt ∙ ap (λ y. take k items ++ y ∷ []) (sym is) in
    let here : has (take (k + 1) items) q ≡ (has (take k items) q || (x == q)) = ap (λ xs. has xs q) longer ∙ has-push (take k items) x q in
    by_test (x == q)
    (λ e.
    let same : x ≡ q = (Decides-eqb x q).0 e in
    let off : get_or (set heads x 0) q 0 ≡ 0 = ap (λ j. get_or (set heads x 0) j 0) (sym same) ∙ get_or-set_same heads x 0 0 below in
    let told : has (take (k + 1) items) q ≡ true = here ∙ ap (λ b. has (take k items) q || b) e ∙ or-true (has (take k items) q) in
    off ∙ rw told refl)
    (λ e.
    let apart : q ≢ x = λ same. true≢false (sym ((Decides-eqb x q).1 (sym same)) ∙ e) in
    let told : has (take (k + 1) items) q ≡ has (take k items) q = here ∙ ap (λ b. has (take k items) q || b) e ∙ or-false (has (take k items) q) in
    get_or-set_other heads x q 0 0 apart ∙ h q ∙ ap (λ b. if b then 0 else get_or old q 0) (sym told))

pub buckets-within : (keys : List Key) (buckets links heads : List ℕ) → AreChained keys buckets links heads → All (λ b. b < length heads) buckets
buckets-within keys buckets links heads h =
    All-from_get_or (λ b. b < length heads) buckets 0
    (λ r lt.
    let k = get_or keys r default_key in
    let own : get_or buckets r 0 ≡ bucket_of (length heads) k = h.bucket r k (slice_get-get_or keys r default_key (omega (arith, h.in_buckets))) in
    subst (λ b. b < length heads) (sym own) (bucket-within (length heads) k h.some))
  where
    default_key : Key
    default_key = record { threads = []; loops = false; matches = []; before = None }

has-at : (xs : List ℕ) (i b : ℕ) → i < length xs → get_or xs i 0 ≡ b → has xs b ≡ true
has-at [] i b lt is = let no : ⊥ = omega arith in absurd no
has-at (x ∷ xs) zero b lt is = ap (λ t. t || has xs b) ((Decides-eqb x b).1 is)
has-at (x ∷ xs) (suc i) b lt is = ap (λ t. (x == b) || t) (has-at xs i b (omega arith) is) ∙ or-true (x == b)

-- no chain is left
pub chained-none : (keys : List Key) (buckets links heads new : List ℕ) → AreChained keys buckets links heads → length new ≡ length heads
    → ((b : ℕ) → get_or new b 0 ≡ (if has buckets b then 0 else get_or heads b 0)) → AreChained [] [] [] new
chained-none keys buckets links heads new h width empty = record {
  some = subst (λ (w : ℕ). 0 < w) (sym width) h.some;
  in_buckets = refl;
  linked = refl;
  bucket = λ r k got. absurd (none-some k got);
  link = λ r lt. let no : ⊥ = omega arith in absurd no;
  head = λ b lt. subst (λ y. IsLimit [] b 0 y) (sym (emptied b (omega (arith, width)))) (record {
    within = omega arith;
    past = λ q low high same. let no : ⊥ = omega arith in no;
    there = λ some. let no : ⊥ = omega arith in absurd no;
  });
}
  where
    emptied : (b : ℕ) → b < length heads → get_or new b 0 ≡ 0
    emptied b lt =
        by_test (has buckets b)
        (λ e. empty b ∙ rw e refl)
        (λ e. empty b ∙ rw e (elim (cases_lt 0 (get_or heads b 0)) [
          | inl some ↦
              let head = h.head b lt in
              let below : get_or heads b 0 - 1 < length buckets = omega (arith, head.within) in
              absurd (true≢false (sym (has-at buckets (get_or heads b 0 - 1) b below (head.there some)) ∙ e))
          | inr none ↦ omega arith
        ]))
