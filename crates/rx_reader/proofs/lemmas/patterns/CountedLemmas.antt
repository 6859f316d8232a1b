-- The groups that are opened from one place to another.
use Rattle.std.proofs.Common.{◌≡◌, ℕ, ◌+◌, ◌<◌, ◌≤◌, ◌⊎◌, Bool, true, false, ◌||◌, List, [], ◌∷◌, subst, length, ◌++◌, Option, Some, Ordering, Less, Equal, Greater, inl, inr, refl, sym, ap, ◌∙◌, true≢false, arith}
use Rattle.std.specs.Prelude.{bytes_eq}
use Rattle.std.specs.List.{list_any, range_with_len}
use Rattle.std.proofs.lemmas.List.{append-nil}
use Rattle.std.specs.Ordering.{nat_cmp, match_ordering, is_eq}
use Rattle.std.specs.Cmp.Lexicographic.{slice_cmp}
use Rattle.std.specs.BTreeSet.{insert_key}
use Rattle.std.proofs.lemmas.Bool.{cases_lt}
use Rattle.std.proofs.lemmas.Map.Text.{is_eq-slice_cmp}
use Rattle.std.proofs.lemmas.Slice.Eq.{bytes_eq-Decides}
use Rattle.rx_reader.specs.Reading.{Place}
use Rattle.rx_reader.proofs.lemmas.places.GivesLemmas.{IsAt}
use Rattle.rx_model.proofs.lemmas.runs.RunLemmas.{or-absorbs, or-swap}
use Rattle.std.proofs.Math.Bool.{or-true}

-- a name is among these
abbrev pub is_in : List ℕ → List (List ℕ) → Bool
is_in x ns = list_any (bytes_eq x) ns

-- a name more
pub in-insert : (x name : List ℕ) (ns : List (List ℕ)) → is_in x (insert_key (slice_cmp nat_cmp) ns name) ≡ (bytes_eq x name || is_in x ns)
in-insert x name [] = refl
in-insert x name (y ∷ ns) = by (slice_cmp nat_cmp name y) refl (in-insert x name ns)
  where
    by : (o : Ordering) → o ≡ slice_cmp nat_cmp name y → is_in x (insert_key (slice_cmp nat_cmp) ns name) ≡ (bytes_eq x name || is_in x ns)
        → is_in x (match_ordering o (name ∷ y ∷ ns) (y ∷ ns) (y ∷ insert_key (slice_cmp nat_cmp) ns name)) ≡ (bytes_eq x name || (bytes_eq x y || is_in x ns))
    by Less is h = refl
    by Equal is h =
        let same : name ≡ y = (bytes_eq-Decides name y).0 (sym (is_eq-slice_cmp name y) ∙ ap is_eq (sym is)) in
        or-absorbs (bytes_eq x y) (is_in x ns) ∙ ap (λ (z : List ℕ). bytes_eq x z || (bytes_eq x y || is_in x ns)) (sym same)
    by Greater is h = ap (λ (b : Bool). bytes_eq x y || b) h ∙ or-swap (bytes_eq x y) (bytes_eq x name) (is_in x ns)

pub kept_in : (x name : List ℕ) (ns : List (List ℕ)) → is_in x ns ≡ true → is_in x (insert_key (slice_cmp nat_cmp) ns name) ≡ true
kept_in x name ns h = in-insert x name ns ∙ ap (λ (b : Bool). bytes_eq x name || b) h ∙ or-true (bytes_eq x name)

pub added_in : (name : List ℕ) (ns : List (List ℕ)) → is_in name (insert_key (slice_cmp nat_cmp) ns name) ≡ true
added_in name ns = in-insert name name ns ∙ ap (λ (b : Bool). b || is_in name ns) ((bytes_eq-Decides name name).1 refl)

-- the numbers from a + 1 to b, in order
abbrev pub IsRow : (a : ℕ) (ks : List ℕ) (b : ℕ) → Type 0
IsRow a [] b = b ≡ a
IsRow a (k ∷ ks) b = (k ≡ a + 1) × IsRow (a + 1) ks b

rows : (a : ℕ) (ks : List ℕ) (b : ℕ) (ls : List ℕ) (c : ℕ) → IsRow a ks b → IsRow b ls c → IsRow a (ks ++ ls) c
rows a [] b ls c first rest = subst (λ (m : ℕ). IsRow m ls c) first rest
rows a (k ∷ ks) b ls c first rest = (first.0, rows (a + 1) ks b ls c first.1 rest)

pub row_is : (a : ℕ) (ks : List ℕ) (b : ℕ) → IsRow a ks b → ks ≡ range_with_len (a + 1) (length ks)
row_is a [] b row = refl
row_is a (k ∷ ks) b row = let rest = row_is (a + 1) ks b row.1 in λ i. row.0 i ∷ rest i

-- From where g groups were opened, with these names, up to the place q, the groups are those, with these numbers in
-- order: from g + 1 on in a row. Each number has one name or none, and no name stands twice or before.
pub record Counts (g : ℕ) (ns : List (List ℕ)) (q : Place) (S : ℕ → Option (List ℕ) → Type 0) (ks : List ℕ) : Type 0 where
  pub grows : g ≤ q.groups
  pub keeps : (x : List ℕ) → is_in x ns ≡ true → is_in x q.names ≡ true
  pub numbers : (k : ℕ) (n : Option (List ℕ)) → S k n → (g < k) × (k ≤ q.groups)
  pub filled : (k : ℕ) → g < k → k ≤ q.groups → (n : Option (List ℕ)) × S k n
  pub names : (k : ℕ) (x : List ℕ) → S k (Some x) → (is_in x ns ≡ false) × (is_in x q.names ≡ true)
  pub row : IsRow g ks q.groups
  pub one_name : (k : ℕ) (m n : Option (List ℕ)) → S k m → S k n → m ≡ n
  pub one_number : (j k : ℕ) (x : List ℕ) → S j (Some x) → S k (Some x) → j ≡ k

-- no group
pub none : {g : ℕ} {ns : List (List ℕ)} {q : Place} → IsAt g ns q → Counts g ns q (λ k n. ⊥) []
none {g} {ns} {q} at = record {
  grows = let same : q.groups ≡ g = at.0 in omega arith;
  keeps = λ x h. ap (is_in x) at.1 ∙ h;
  numbers = λ k n s. absurd s;
  filled = λ k above within. let same : q.groups ≡ g = at.0 in absurd (omega arith);
  names = λ k x s. absurd s;
  row = at.0;
  one_name = λ k m n a b. absurd a;
  one_number = λ j k x a b. absurd a;
}

-- one group, of the next number
pub single : {g : ℕ} {ns : List (List ℕ)} {q : Place} (number : ℕ) (name : Option (List ℕ)) → number ≡ g + 1 → q.groups ≡ g + 1
    → ((x : List ℕ) → is_in x ns ≡ true → is_in x q.names ≡ true)
    → ((x : List ℕ) → name ≡ Some x → (is_in x ns ≡ false) × (is_in x q.names ≡ true))
    → Counts g ns q (λ k n. (k ≡ number) × (n ≡ name)) (number ∷ [])
single {g} {ns} {q} number name next counted kept fresh = record {
  grows = omega arith;
  keeps = kept;
  numbers = λ k n s. let same : k ≡ number = s.0 in (omega arith, omega arith);
  filled = λ k above within. (name, (omega arith, refl));
  names = λ k x s. fresh x (sym s.1);
  row = (next, counted);
  one_name = λ k m n a b. a.1 ∙ sym b.1;
  one_number = λ j k x a b. a.0 ∙ sym b.0;
}

not-before : (a b : Bool) → (a ≡ true → b ≡ true) → b ≡ false → a ≡ false
not-before true b h e = absurd (true≢false (sym (h refl) ∙ e))
not-before false b h e = refl

-- the groups up to q, and then those up to r
pub joined : {g : ℕ} {ns : List (List ℕ)} {q r : Place} {S T : ℕ → Option (List ℕ) → Type 0} {ks ls : List ℕ} → Counts g ns q S ks
    → Counts q.groups q.names r T ls → Counts g ns r (λ k n. S k n ⊎ T k n) (ks ++ ls)
joined {g} {ns} {q} {r} {S} {T} {ks} {ls} a b = record {
  grows = omega arith;
  keeps = λ x h. b.keeps x (a.keeps x h);
  numbers = λ k n s. elim s [
    | inl here ↦ (let bounds = a.numbers k n here in (bounds.0, omega (arith, bounds.1, b.grows)))
    | inr later ↦ (let bounds = b.numbers k n later in (omega (arith, bounds.0, a.grows), bounds.1))
  ];
  filled = λ k above within. elim (cases_lt q.groups k) [
    | inl late ↦ (let found = b.filled k late within in (found.0, inr found.1))
    | inr early ↦ (let found = a.filled k above early in (found.0, inl found.1))
  ];
  names = λ k x s. elim s [
    | inl here ↦ (let known = a.names k x here in (known.0, b.keeps x known.1))
    | inr later ↦ (let known = b.names k x later in (not-before (is_in x ns) (is_in x q.names) (a.keeps x) known.0, known.1))
  ];
  row = rows g ks q.groups ls r.groups a.row b.row;
  one_name = λ k m n s t. elim s [
    | inl here ↦ elim t [
      | inl too ↦ a.one_name k m n here too
      | inr later ↦ apart k (a.numbers k m here).1 (b.numbers k n later).0
    ]
    | inr later ↦ elim t [
      | inl here ↦ apart k (a.numbers k n here).1 (b.numbers k m later).0
      | inr too ↦ b.one_name k m n later too
    ]
  ];
  one_number = λ j k x s t. elim s [
    | inl here ↦ elim t [
      | inl too ↦ a.one_number j k x here too
      | inr later ↦ clash x (a.names j x here).1 (b.names k x later).0
    ]
    | inr later ↦ elim t [
      | inl here ↦ clash x (a.names k x here).1 (b.names j x later).0
      | inr too ↦ b.one_number j k x later too
    ]
  ];
}
  where
    apart : {P : Type 0} (k : ℕ) → k ≤ q.groups → q.groups < k → P
    apart k within above = absurd (omega arith)

    clash : {P : Type 0} (x : List ℕ) → is_in x q.names ≡ true → is_in x q.names ≡ false → P
    clash x is not = absurd (true≢false (sym is ∙ not))

-- the same groups in other words
pub alike : {g : ℕ} {ns : List (List ℕ)} {q : Place} {S T : ℕ → Option (List ℕ) → Type 0} {ks ls : List ℕ} → Counts g ns q S ks → ks ≡ ls
    → ((k : ℕ) (n : Option (List ℕ)) → T k n → S k n) → ((k : ℕ) (n : Option (List ℕ)) → S k n → T k n) → Counts g ns q T ls
alike {g} {ns} {q} {S} {T} {ks} {ls} a same from to = record {
  grows = a.grows;
  keeps = a.keeps;
  numbers = λ k n t. a.numbers k n (from k n t);
  filled = λ k above within. let found = a.filled k above within in (found.0, to k found.0 found.1);
  names = λ k x t. a.names k x (from k (Some x) t);
  row = subst (λ (js : List ℕ). IsRow g js q.groups) same a.row;
  one_name = λ k m n s t. a.one_name k m n (from k m s) (from k n t);
  one_number = λ j k x s t. a.one_number j k x (from j (Some x) s) (from k (Some x) t);
}

-- no group after q
pub later : {g : ℕ} {ns : List (List ℕ)} {q r : Place} {S : ℕ → Option (List ℕ) → Type 0} {ks : List ℕ} → Counts g ns q S ks → IsAt q.groups q.names r
    → Counts g ns r S ks
later {g} {ns} {q} {r} {S} {ks} a at = alike (joined a (none at)) (append-nil ks) (λ k n s. inl s)
    (λ k n s. elim s [ inl here ↦ here | inr no_group ↦ absurd no_group ])

-- no group up to q
pub sooner : {g : ℕ} {ns : List (List ℕ)} {q r : Place} {S : ℕ → Option (List ℕ) → Type 0} {ks : List ℕ} → Counts g ns q (λ k n. ⊥) []
    → Counts q.groups q.names r S ks → Counts g ns r S ks
sooner {g} {ns} {q} {r} {S} {ks} a b = alike (joined a b) refl (λ k n s. inr s) (λ k n s. elim s [ inl no_group ↦ absurd no_group | inr here ↦ here ])
