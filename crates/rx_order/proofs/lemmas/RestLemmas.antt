-- The rest that an inner prefilter speaks of begins with one of its literals.
use Rattle.std.proofs.Common.{◌≡◌, ℕ, suc, ◌+◌, ◌<◌, ◌≤◌, ◌⊎◌, true, false, List, [], ◌∷◌, length, get_or, map, drop, Option, Some, None, refl, sym, ap, subst, ◌∙◌, inl, inr, arith}
use Rattle.std.specs.Prelude.{Contains, IfSome, if◌then◌else◌}
use Rattle.std.specs.Option.{option_map, option_or, unwrap_or}
use Rattle.std.proofs.lemmas.List.{drop-drop, drop_more, drop_all}
use Rattle.std.proofs.lemmas.Option.{none-some, same_Some}
use Rattle.rx_model.specs.Text.{stands_at}
use Rattle.rx_model.specs.Expression.{Expression, AreOrdered}
use Rattle.rx_model.specs.Meaning.{Means}
use Rattle.rx_model.proofs.lemmas.meaning.EmptyLemmas.{in_turn-rise}
use Rattle.rx_hir.specs.Normal.{concat_of, expressions}
use Rattle.rx_hir.proofs.RowLemmas.{concat-means}
use Rattle.rx_literal.specs.Literals.{Literal, Seq, infinite, finite, seq_of, bytes_of}
use Rattle.rx_literal.specs.Extract.{prefixes}
use Rattle.rx_literal.specs.Trim.{trimmed_by_preference}
use Rattle.rx_literal.specs.Spans.{BeginsWith, OneOf, OneIn}
use Rattle.rx_literal.proofs.lemmas.prefixes.BeginLemmas.{means-begins}
use Rattle.rx_literal.proofs.lemmas.trimming.TrimLemmas.{begins-with, trimmed-begins}
use Rattle.rx_prefilter.specs.declared.choice.Choice.{Choice}
use Rattle.rx_prefilter.specs.Choices.{choice_of, is_fast, served, chosen}
use Rattle.rx_prefilter.specs.Prefixes.{served_by}
use Rattle.rx_order.specs.Order.{Begins, HasRest}
use Rattle.rx_hir.proofs.JoinedLemmas.{expressions-drop, drop-past}
use Rattle.rx_order.specs.Inner.{uncaptured, all_uncaptured, top_parts, from_part, if_fast, fast_prefixes, first_fast, inner_at, inner_in, inner_of}
use Rattle.rx_order.proofs.lemmas.InnerLemmas.{parts-then}
use Rattle.rx_order.proofs.lemmas.LooseLemmas.{fast-loose}

fast-some : (o : Option (List (List ℕ))) (ls : List (List ℕ)) → if_fast o ≡ Some ls → o ≡ Some ls
fast-some None ls e = absurd (none-some ls e)
fast-some (Some needles) ls e = kept (is_fast (chosen needles) needles) e
  where
    kept : (b : _) → (if b then Some needles else None) ≡ Some ls → Some needles ≡ Some ls
    kept true e = e
    kept false e = absurd (none-some ls e)

served-some : (needles ls : List (List ℕ)) → served needles ≡ Some ls → needles ≡ ls
served-some needles ls e = of (choice_of needles) e
  where
    of : (o : Option Choice) → option_map (λ choice. needles) o ≡ Some ls → needles ≡ ls
    of None e = absurd (none-some ls e)
    of (Some choice) e = same_Some needles ls e

sequence-some : (ss : Seq) (ls : List (List ℕ)) → served_by ss ≡ Some ls → (lits : List Literal) × (ss ≡ finite lits) × (map bytes_of lits ≡ ls)
sequence-some infinite ls e = absurd (none-some ls e)
sequence-some (finite lits) ls e = (lits, refl, served-some (map bytes_of lits) ls e)

one-of : (text : List ℕ) (i j : ℕ) (lits : List Literal) → OneOf (BeginsWith text i j) lits
    → (l : List ℕ) × Contains (map bytes_of lits) l × (stands_at text i l ≡ true) × (i + length l ≤ j)
one-of text i j [] m = absurd m
one-of text i j (l ∷ lits) m = elim m [
  | inl b ↦ (bytes_of l, (0, omega arith, refl), b.0, b.1)
  | inr more ↦ let z = one-of text i j lits more in (z.0, (suc z.1.0, (let lt = z.1.1 in omega arith), z.1.2), z.2, z.3)
]

-- what an expression means begins with one of its fast prefixes
pub fast-begins : (h : Expression) (ls : List (List ℕ)) → fast_prefixes h ≡ Some ls → Begins ls h
fast-begins h ls e t text i j m =
    let s = sequence-some (trimmed_by_preference (prefixes h)) ls (fast-some _ ls (sym (fast-loose (prefixes h)) ∙ e)) in
    let one : OneIn (BeginsWith text i j) (trimmed_by_preference (prefixes h)) =
    trimmed-begins text i j (prefixes h) (begins-with text i j (prefixes h) (means-begins text t h i j m)) in
    let z = one-of text i j s.0 (subst (OneIn (BeginsWith text i j)) s.1 one) in
    (z.0, subst (λ ms. Contains ms z.0) s.2 z.1, z.2, z.3)

-- a row of parts begins with what its first part begins with
row-begins : (part : Expression) (rest : List Expression) (ls : List (List ℕ)) → Begins ls part → Begins ls (concat_of (part ∷ rest))
unfolding Means
row-begins part rest ls begins t text i j m =
    let row = (concat-means t text (part ∷ rest) i j).0 m in
    let z = begins t text i row.0 row.1 in
    let up = in_turn-rise t text (expressions rest) row.0 j row.2 in
    (z.0, z.1, z.2, (let le = z.3 in omega arith))

either : {A B : Type 0} (f : A → B) (o : Option A) (later : Option B) (x : B) → option_or (option_map f o) later ≡ Some x
    → ((a : A) × (o ≡ Some a) × (f a ≡ x)) ⊎ ((o ≡ None) × (later ≡ Some x))
either f None later x e = inr (refl, e)
either f (Some a) later x e = inl (a, refl, same_Some (f a) x e)

first-found : (k : ℕ) (hs : List Expression) (found : ℕ × List (List ℕ)) → first_fast k hs ≡ Some found
    → (d : ℕ) × (part : Expression) × (rest : List Expression) × (found.0 ≡ k + d) × (drop d hs ≡ part ∷ rest) × (fast_prefixes part ≡ Some found.1)
first-found k [] found e = absurd (none-some found e)
first-found k (h ∷ hs) found e = elim (either (λ ls. (k, ls)) (fast_prefixes h) (first_fast (k + 1) hs) found e) [
  | inl here ↦ let at = ap (λ (x : ℕ × List (List ℕ)). x.0) here.2 in (0, h, hs, omega arith, refl, here.1 ∙ ap (λ (x : ℕ × List (List ℕ)). Some x.1) here.2)
  | inr later ↦ let z = first-found (k + 1) hs found later.1 in (suc z.0, z.1, z.2, (let at = z.3 in omega arith), z.4, z.5)
]

mapped : {A B : Type 0} (f : A → B) (o : Option A) (x : B) → option_map f o ≡ Some x → (a : A) × (o ≡ Some a) × (f a ≡ x)
mapped f None x e = absurd (none-some x e)
mapped f (Some a) x e = (a, refl, same_Some (f a) x e)

or-begins : (q : Expression) (o : Option (List (List ℕ))) (ls : List (List ℕ)) → fast_prefixes q ≡ o → Begins ls q → Begins (unwrap_or o ls) q
or-begins q None ls e begins = begins
or-begins q (Some more) ls e begins = fast-begins q more e

parts-rest : (h : Expression) → AreOrdered h → (parts : List Expression) → top_parts h ≡ Some parts → (found : ℕ × List (List ℕ))
    → first_fast 1 (drop 1 parts) ≡ Some found → HasRest h (inner_at parts found).0 (inner_at parts found).1
parts-rest h ordered parts is found e =
    let n = found.0 in
    let z = first-found 1 (drop 1 parts) found e in
    let row : drop n parts ≡ z.1 ∷ z.2 = ap (λ k. drop k parts) z.3 ∙ sym (drop-drop z.0 1 parts) ∙ z.4 in
    let part = row-begins z.1 z.2 found.1 (fast-begins z.1 found.1 z.5) in
    let whole : Begins found.1 (from_part n parts) = subst (λ hs. Begins found.1 (concat_of hs)) (sym row) part in
    (from_part n parts, parts-then h ordered parts is n, or-begins (from_part n parts) (fast_prefixes (from_part n parts)) found.1 refl whole)

-- What is told of an expression: it means what stands before the literals, and then a rest that begins with one.
pub inner-rest : (h : Expression) → AreOrdered h → (told : Expression × List (List ℕ)) → inner_of (h ∷ []) ≡ Some told → HasRest h told.0 told.1
inner-rest h ordered told e = of (top_parts h) refl e
  where
    of : (o : Option (List Expression)) → top_parts h ≡ o → inner_in o ≡ Some told → HasRest h told.0 told.1
    of None is e = absurd (none-some told e)
    of (Some parts) is e =
        let z = mapped (inner_at parts) (first_fast 1 (drop 1 parts)) told e in
        subst (λ (x : Expression × List (List ℕ)). HasRest h x.0 x.1) z.2 (parts-rest h ordered parts is z.0 z.1)

-- Of the program: the parts without captures, one by one.
pub uncaptured-step : (hs : List Expression) (i : ℕ) (h : Expression) → i < length hs → h ≡ get_or hs i h
    → all_uncaptured (expressions (drop i hs)) ≡ uncaptured h ∷ all_uncaptured (expressions (drop (i + 1) hs))
unfolding uncaptured
uncaptured-step hs i h lt at = ap all_uncaptured (expressions-drop hs i h lt at)

pub uncaptured-past : (hs : List Expression) (i : ℕ) → length hs ≤ i → all_uncaptured (expressions (drop i hs)) ≡ []
unfolding uncaptured
uncaptured-past hs i le = ap (λ ys. all_uncaptured (expressions ys)) (drop-past hs i le)

-- .. and the fast prefixes, which needn't be made inexact.
module _ (h : Expression) (seq : Seq) (o : Option (List Literal)) (is : seq_of o ≡ seq) (trimmed : seq ≡ trimmed_by_preference (prefixes h)) where
  pub fast-some-is : (lits : List Literal) (needles : List (List ℕ)) → o ≡ Some lits → needles ≡ map bytes_of lits → if_fast (served needles) ≡ fast_prefixes h
  fast-some-is lits needles some e =
      ap (λ ns. if_fast (served ns)) e ∙ ap (λ ss. if_fast (served_by ss)) (ap seq_of (sym some) ∙ is ∙ trimmed) ∙ sym (fast-loose (prefixes h))

  pub fast-none-is : o ≡ None → None ≡ fast_prefixes h
  fast-none-is none = ap (λ ss. if_fast (served_by ss)) (ap seq_of (sym none) ∙ is ∙ trimmed) ∙ sym (fast-loose (prefixes h))

-- The loop over parts: from a part on that has no fast prefixes, the first is found further on.
pub first-next : (parts : List Expression) (i : ℕ) (h : Expression) → i < length parts → h ≡ get_or parts i h → None ≡ fast_prefixes h
    → first_fast (i + 1) (drop (i + 1) parts) ≡ first_fast i (drop i parts)
first-next parts i h lt at none =
    sym (ap (first_fast i) (drop_more parts i h lt ∙ ap (λ x. x ∷ drop (i + 1) parts) (sym at))
    ∙ ap (λ o. option_or (option_map (λ ls. (i, ls)) o) (first_fast (i + 1) (drop (i + 1) parts))) (sym none))

pub first-here : (parts : List Expression) (i : ℕ) (h : Expression) → i < length parts → h ≡ get_or parts i h → (ls : List (List ℕ)) → Some ls ≡ fast_prefixes h
    → first_fast i (drop i parts) ≡ Some (i, ls)
first-here parts i h lt at ls some =
    ap (first_fast i) (drop_more parts i h lt ∙ ap (λ x. x ∷ drop (i + 1) parts) (sym at))
    ∙ ap (λ o. option_or (option_map (λ ls. (i, ls)) o) (first_fast (i + 1) (drop (i + 1) parts))) (sym some)

pub first-past : (parts : List Expression) (i : ℕ) → length parts ≤ i → first_fast i (drop i parts) ≡ None
first-past parts i le = ap (first_fast i) (drop_all i parts le)

-- .. and what is told of the place where it stops
pub inner-here : (parts : List Expression) (i : ℕ) (ls : List (List ℕ)) → first_fast i (drop i parts) ≡ first_fast 1 (drop 1 parts)
    → first_fast i (drop i parts) ≡ Some (i, ls) → Some (inner_at parts (i, ls)) ≡ inner_in (Some parts)
inner-here parts i ls so_far here = ap (option_map (inner_at parts)) (sym here ∙ so_far)

pub inner-past : (parts : List Expression) (i : ℕ) → first_fast i (drop i parts) ≡ first_fast 1 (drop 1 parts) → length parts ≤ i → None ≡ inner_in (Some parts)
inner-past parts i so_far le = ap (option_map (inner_at parts)) (sym (first-past parts i le) ∙ so_far)

-- The rest that is told of.
pub made-rest : {T : Type 0} (view : T → Expression × List (List ℕ)) (h : Expression) → AreOrdered h → (parts : List Expression) → top_parts h ≡ Some parts
    → (made : Option T) → option_map view made ≡ inner_in (Some parts) → IfSome made (λ i. HasRest h (view i).0 (view i).1)
made-rest view h ordered parts is None e = tt
made-rest view h ordered parts is (Some i) e = inner-rest h ordered (view i) (ap inner_in is ∙ sym e)
