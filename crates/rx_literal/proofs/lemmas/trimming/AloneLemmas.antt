-- Literals that are alone among all: they are kept, and no other one is compared with them.
use Rattle.std.proofs.Common.{◌≡◌, ◌≢◌, ℕ, zero, suc, ◌+◌, ◌<◌, ◌≤◌, Bool, true, false, List, [], ◌∷◌, ◌++◌, length, take, drop, get_or, refl, sym, ap, ◌∙◌, arith, true≢false, append_assoc, length-drop}
use Rattle.std.specs.Prelude.{◌||◌, if◌then◌else◌}
use Rattle.std.specs.List.{list_all}
use Rattle.std.proofs.lemmas.Bool.{and_parts}
use Rattle.std.proofs.lemmas.List.{drop_more, get_or-drop}
use Rattle.std.proofs.lemmas.List.Folds.{list_any_more, list_any_kept}
use Rattle.rx_model.proofs.lemmas.runs.RunLemmas.{by_test}
use Rattle.rx_literal.specs.Literals.{Literal}
use Rattle.rx_literal.specs.Slots.{AreApart}
use Rattle.rx_literal.specs.Trim.{has_prefix_in, preferred, picked}
use Rattle.rx_literal.proofs.lemmas.trimming.PartedLemmas.{starts}
use Rattle.rx_literal.proofs.lemmas.trimming.PickedLemmas.{picked-mark}
use Rattle.std.proofs.Math.Bool.{or-true}

-- none of the first n literals is a prefix of l
pub none-before : (ls : List Literal) (n : ℕ) (l : Literal) → n ≤ length ls → ((j : ℕ) (m : Literal) → j < n → m ≡ get_or ls j m → starts l m ≡ false)
    → has_prefix_in (take n ls) l ≡ false
none-before [] zero l le apart = refl
none-before [] (suc n) l le apart = refl
none-before (x ∷ ls) zero l le apart = refl
none-before (x ∷ ls) (suc n) l le apart =
    rw (apart 0 x (omega arith) refl) (none-before ls n l (omega arith) (λ j m lt at. apart (suc j) m (omega arith) at))

-- what stands before may be exchanged where each that is left has a prefix there alike
preferred-on : (es fs ls : List Literal) → ((j : ℕ) (x : Literal) → j < length ls → x ≡ get_or ls j x → has_prefix_in es x ≡ has_prefix_in fs x)
    → preferred es ls ≡ preferred fs ls
unfolding preferred
preferred-on es fs [] same = refl
preferred-on es fs (l ∷ ls) same =
    let rest = preferred-on (l ∷ es) (l ∷ fs) ls (λ j x lt at. ap (λ t. starts x l || t) (same (suc j) x (omega arith) at)) in
    let here = same 0 l (omega arith) refl in
    λ k. if here k then rest k else l ∷ rest k

preferred-first : (es ls : List Literal) (l : Literal) → has_prefix_in es l ≡ false → preferred es (l ∷ ls) ≡ l ∷ preferred (l ∷ es) ls
unfolding preferred
preferred-first es ls l h = rw h refl

-- the literal at i is apart from all others, and none of those in `es` is one after it
module _ (es ls : List Literal) (i : ℕ) (l : Literal) (lt : i < length ls) (at : l ≡ get_or ls i l)
    (before : (x : Literal) → has_prefix_in es x ≡ true → has_prefix_in (take i ls) x ≡ true) where
  before-more : (x : Literal) → has_prefix_in es x ≡ true → has_prefix_in (take (i + 1) ls) x ≡ true
  before-more x h = list_any_kept (λ e. starts x e) ls i (before x h)

  -- one more that is compared
  pub before-added : (fs : List Literal) (m : Literal) → m ≡ l → ((x : Literal) → has_prefix_in fs x ≡ (has_prefix_in es x || starts x m))
      → (x : Literal) → has_prefix_in fs x ≡ true → has_prefix_in (take (i + 1) ls) x ≡ true
  before-added fs m is covered x h =
      let here : starts x m ≡ starts x (get_or ls i l) = ap (starts x) (is ∙ at) in
      list_any_more (λ e. starts x e) ls i l lt
      ∙ by_test (has_prefix_in es x)
      (λ e. ap (λ b. b || starts x (get_or ls i l)) (before x e))
      (λ e.
      let one : starts x m ≡ true = ap (λ b. b || starts x m) (sym e) ∙ sym (covered x) ∙ h in
      ap (λ b. has_prefix_in (take i ls) x || b) (sym here ∙ one) ∙ or-true (has_prefix_in (take i ls) x))

  module _ (apart : (j : ℕ) (m : Literal) → j < length ls → i ≢ j → m ≡ get_or ls j m → AreApart l m) where
    alone-new : has_prefix_in es l ≡ false
    alone-new =
        let none = none-before ls i l (omega arith) (λ j m below is. (apart j m (omega arith) (λ e. absurd (omega arith)) is).0) in
        by_test (has_prefix_in es l) (λ e. absurd (true≢false (sym (before l e) ∙ none))) (λ e. e)

    alone-without : preferred (l ∷ es) (drop (i + 1) ls) ≡ preferred es (drop (i + 1) ls)
    alone-without = preferred-on (l ∷ es) es (drop (i + 1) ls) (λ j x below is.
        let long = length-drop (i + 1) ls in
        let there : x ≡ get_or ls (i + 1 + j) x = is ∙ get_or-drop (i + 1) ls j x in
        let other = (apart (i + 1 + j) x (omega (arith, below, long)) (λ e. absurd (omega arith)) there).1 in
        rw other refl)

    -- it is marked
    pub alone-step : (bs : List Bool) → length bs ≡ i → (all : List Literal) → picked ls bs ++ preferred es (drop i ls) ≡ all
        → picked ls (bs ++ true ∷ []) ++ preferred es (drop (i + 1) ls) ≡ all
    alone-step bs long all so_far =
        let rest = preferred es (drop (i + 1) ls) in
        let whole : preferred es (drop i ls) ≡ l ∷ rest =
        ap (preferred es) (drop_more ls i l lt) ∙ ap (λ y. preferred es (y ∷ drop (i + 1) ls)) (sym at)
        ∙ preferred-first es (drop (i + 1) ls) l alone-new ∙ ap (λ ys. l ∷ ys) alone-without in
        ap (λ ys. ys ++ rest) (picked-mark bs true ls i l long lt at) ∙ append_assoc (picked ls bs) (l ∷ []) rest
        ∙ sym (ap (λ ys. picked ls bs ++ ys) whole) ∙ so_far

    pub alone-before : (x : Literal) → has_prefix_in es x ≡ true → has_prefix_in (take (i + 1) ls) x ≡ true
    alone-before = before-more

-- all of them are marked
pub picked-all : (ls : List Literal) (bs : List Bool) → length bs ≡ length ls → list_all (λ b. b) bs ≡ true → picked ls bs ≡ ls
picked-all [] bs long all = refl
picked-all (l ∷ ls) [] long all = absurd (omega arith)
picked-all (l ∷ ls) (b ∷ bs) long all =
    let both = and_parts b (list_all (λ c. c) bs) all in
    rw both.0 (ap (λ ys. l ∷ ys) (picked-all ls bs (omega arith) both.1))
