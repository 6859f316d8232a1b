-- Keys that are appended to a list, each once.
use Rattle.std.proofs.Common.{◌≡◌, ℕ, zero, suc, ◌+◌, ◌⊎◌, inl, inr, List, [], ◌∷◌, ◌++◌, map, length, refl, sym, ◌∙◌, ap, subst, arith, true≢false}
use Rattle.std.specs.Prelude.{Bool, true, false, ◌||◌, Some, slice_get, Decides, position}
use Rattle.std.specs.List.{list_any}
use Rattle.std.specs.Option.{option_map}
use Rattle.std.proofs.lemmas.Option.{slice_get-map, slice_get-get_or, slice_get_within, get_or_from_slice_get}
use Rattle.std.proofs.lemmas.List.Folds.{list_any_at}
use Rattle.std.proofs.lemmas.List.Quantifiers.{position-Some}
use Rattle.rx_model.proofs.lemmas.runs.RunLemmas.{by_test}
use Rattle.rx_model.proofs.lemmas.runs.FirstLemmas.{none-is-some, some-is}
use Rattle.rx_determinize.specs.Key.{Key}
use Rattle.rx_dfa.specs.Automaton.{Dfa}
use Rattle.rx_dfa.specs.States.{is_special, IsState, AreStates}
use Rattle.rx_dfa.specs.Found.{Stays, IsNew, IsAdded}

pub stays-same : (keys : List Key) → Stays keys keys
stays-same keys = λ row k is. is

stays-cons : (x : Key) (xs ys : List Key) → Stays xs ys → (row : ℕ) (k : Key) → slice_get (x ∷ xs) row ≡ Some k → slice_get (x ∷ ys) row ≡ Some k
stays-cons x xs ys stays zero k is = is
stays-cons x xs ys stays (suc row) k is = stays row k is

pub stays-push : (keys more : List Key) → Stays keys (keys ++ more)
stays-push [] more = λ row k is. none-is-some is
stays-push (x ∷ xs) more = λ row k is. stays-cons x xs (xs ++ more) (stays-push xs more) row k is

pub added-stays : (old : List Key) (k : Key) (new : List Key) → IsAdded old k new → Stays old new
added-stays old k new (inl same) = subst (Stays old) (sym same) (stays-same old)
added-stays old k new (inr more) = subst (Stays old) (sym more.1) (stays-push old (k ∷ []))

-- what stands in a list with one key more
pub pushed : (keys : List Key) (k : Key) (row : ℕ) (x : Key) → slice_get (keys ++ k ∷ []) row ≡ Some x
    → (slice_get keys row ≡ Some x) ⊎ ((row ≡ length keys) × (x ≡ k))
pushed [] k zero x is = inr (refl, sym (some-is is))
pushed [] k (suc row) x is = none-is-some is
pushed (y ∷ ys) k zero x is = inl is
pushed (y ∷ ys) k (suc row) x is =
    elim (pushed ys k row x is) [
      | inl there ↦ inl there
      | inr last ↦ inr (let e = last.0 in let n : suc row ≡ length (y ∷ ys) = ap suc e in n, last.1)
    ]

pub states-push : (d : Dfa) (keys : List Key) (k : Key) → AreStates d keys → IsState d k → IsNew keys k → AreStates d (keys ++ k ∷ [])
states-push d keys k are state new = record {
  each = λ row x is. elim (pushed keys k row x is) [
    | inl there ↦ are.each row x there
    | inr last ↦ subst (IsState d) (sym last.1) state
  ];
  once = λ row other x is at. elim (pushed keys k row x is) [
    | inl there ↦ elim (pushed keys k other x at) [
      | inl there' ↦ are.once row other x there there'
      | inr last' ↦ absurd (new row (there ∙ ap Some last'.1))
    ]
    | inr last ↦ elim (pushed keys k other x at) [
      | inl there' ↦ absurd (new other (there' ∙ ap Some last.1))
      | inr last' ↦ last.0 ∙ sym last'.0
    ]
  ];
}

pub states-added : (d : Dfa) (old : List Key) (k : Key) (new : List Key) → IsAdded old k new → AreStates d old → IsState d k → AreStates d new
states-added d old k new (inl same) are state = subst (AreStates d) (sym same) are
states-added d old k new (inr more) are state = subst (AreStates d) (sym more.1) (states-push d old k are state more.0)

pub sort-added : (special : Bool) (old : List Key) (k : Key) (new : List Key) → IsAdded old k new
    → ((row : ℕ) (x : Key) → slice_get old row ≡ Some x → is_special x ≡ special) → is_special k ≡ special
    → (row : ℕ) (x : Key) → slice_get new row ≡ Some x → is_special x ≡ special
sort-added special old k new (inl same) each of row x is = each row x (ap (λ ks. slice_get ks row) (sym same) ∙ is)
sort-added special old k new (inr more) each of row x is =
    elim (pushed old k row x (ap (λ ks. slice_get ks row) (sym more.1) ∙ is)) [
      | inl there ↦ each row x there
      | inr last ↦ ap is_special last.1 ∙ of
    ]

-- the value at a place of such a list
pub at-mapped : {T : Type 0} (of : T → Key) (xs : List T) (row : ℕ) (k : Key) → slice_get (map of xs) row ≡ Some k
    → (x : T) × (slice_get xs row ≡ Some x) × (of x ≡ k)
at-mapped of [] row k is = none-is-some is
at-mapped of (x ∷ xs) zero k is = (x, refl, some-is is)
at-mapped of (x ∷ xs) (suc row) k is = at-mapped of xs row k is

-- a list of values that stand for keys, of which a test tells whether two stand for the same key
module _ {T : Type 0} (eq : T → T → Bool) (of : T → Key) (same : (a b : T) → Decides (eq a b) (of a ≡ of b)) where
  pub position-found : (xs : List T) (a : T) (row : ℕ) → position (eq a) xs ≡ Some row → slice_get (map of xs) row ≡ Some (of a)
  position-found xs a row is =
      let p = position-Some (eq a) xs row a is in
      slice_get-map of xs row ∙ ap (option_map of) (slice_get-get_or xs row a p.0) ∙ ap Some (sym ((same a _).0 p.1))

  pub none-new : (xs : List T) (a : T) → list_any (eq a) xs ≡ false → IsNew (map of xs) (of a)
  none-new xs a none row is =
      let m = at-mapped of xs row (of a) is in
      let tells : eq a (m.0) ≡ true = (same a m.0).1 (sym m.2) in
      true≢false
      (sym (list_any_at (eq a) xs row a (slice_get_within xs row m.0 m.1) (ap (eq a) (get_or_from_slice_get xs row m.0 a m.1) ∙ tells)) ∙ none)

  pub new-none : (xs : List T) (a : T) → IsNew (map of xs) (of a) → list_any (eq a) xs ≡ false
  new-none [] a new = refl
  new-none (x ∷ xs) a new =
      by_test (eq a x)
      (λ e. absurd (new zero (ap Some (sym ((same a x).0 e)))))
      (λ e. ap (λ (b : Bool). b || list_any (eq a) xs) e ∙ new-none xs a (λ row is. new (suc row) is))

-- what stands in two lists, one after the other
pub appended : (xs ys : List Key) (row : ℕ) (k : Key) → slice_get (xs ++ ys) row ≡ Some k
    → (slice_get xs row ≡ Some k) ⊎ ((other : ℕ) × (slice_get ys other ≡ Some k) × (row ≡ length xs + other))
appended [] ys row k is = inr (row, is, let e : row ≡ 0 + row = omega arith in e)
appended (x ∷ xs) ys zero k is = inl is
appended (x ∷ xs) ys (suc row) k is =
    elim (appended xs ys row k is) [
      | inl there ↦ inl there
      | inr later ↦ inr (later.0, later.1, let e = later.2 in let n : suc row ≡ length (x ∷ xs) + later.0 = omega arith in n)
    ]

pub append-there : (xs ys : List Key) (row : ℕ) (k : Key) → slice_get ys row ≡ Some k → slice_get (xs ++ ys) (length xs + row) ≡ Some k
append-there [] ys row k is = let e : 0 + row ≡ row = omega arith in ap (slice_get ys) e ∙ is
append-there (x ∷ xs) ys row k is =
    let e : length (x ∷ xs) + row ≡ suc (length xs + row) = omega arith in
    ap (slice_get (x ∷ (xs ++ ys))) e ∙ append-there xs ys row k is

pub states-append : (d : Dfa) (xs ys : List Key) → AreStates d xs → AreStates d ys
    → ((row other : ℕ) (k : Key) → slice_get xs row ≡ Some k → slice_get ys other ≡ Some k → ⊥) → AreStates d (xs ++ ys)
states-append d xs ys are also apart = record {
  each = λ row k is. elim (appended xs ys row k is) [
    | inl there ↦ are.each row k there
    | inr later ↦ also.each later.0 k later.1
  ];
  once = λ row other k is at. elim (appended xs ys row k is) [
    | inl there ↦ elim (appended xs ys other k at) [
      | inl there' ↦ are.once row other k there there'
      | inr later' ↦ absurd (apart row later'.0 k there later'.1)
    ]
    | inr later ↦ elim (appended xs ys other k at) [
      | inl there' ↦ absurd (apart other later.0 k there' later.1)
      | inr later' ↦
          let same = also.once later.0 later'.0 k later.1 later'.1 in
          let e = later.2 in
          let e' = later'.2 in
          omega arith
    ]
  ];
}
