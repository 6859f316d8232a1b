-- What is left of an expression without a suffix, step by step.
use Rattle.std.proofs.Common.{◌≡◌, ℕ, zero, suc, ◌+◌, ◌-◌, ◌<◌, ◌≤◌, Bool, true, false, List, [], ◌∷◌, ◌++◌, length, get_or, take, drop, reverse, Option, Some, None, refl, sym, ap, subst, ◌∙◌, arith, true≢false}
use Rattle.std.specs.Prelude.{IfSome, is_some, option_map, nat_eq}
use Rattle.std.proofs.lemmas.Bool.Decides.{nat_tests}
use Rattle.std.proofs.lemmas.List.{take_all, reverse-append, length-take-le}
use Rattle.std.proofs.lemmas.Option.{none-some, same_Some}
use Rattle.rx_model.specs.Text.{Class}
use Rattle.rx_model.specs.Look.{Look}
use Rattle.rx_model.specs.Expression.{Expression, Expressions, empty, literal, class, look, repetition, capture, concat, alternation, AreOrdered}
use Rattle.rx_hir.specs.Normal.{repetition_of, concat_of, expressions}
use Rattle.rx_hir.proofs.JoinedLemmas.{expressions-drop, drop-past}
use Rattle.rx_order.specs.Strip.{Left, strip_bytes, strip_copies, strip, strip_row, one_less, and_then, only_whole, strip_literal_suffix}
use Rattle.rx_order.specs.Left.{IsLeft, whole}
use Rattle.rx_order.specs.declared.strip.Left.{Left as Told}
use Rattle.rx_order.specs.Order.{IsThenLiteral}
use Rattle.rx_order.proofs.lemmas.StripLemmas.{strip-then}

-- An empty suffix leaves the expression.
nothing-off : (h : Expression) → strip h [] ≡ Some (h, [])
unfolding strip
nothing-off empty = refl
nothing-off (literal bytes) = refl
nothing-off (class members) = refl
nothing-off (look kind) = refl
nothing-off (repetition least most greedy sub) = refl
nothing-off (capture group name sub) = refl
nothing-off (concat subs) = refl
nothing-off (alternation subs) = refl

pub left-whole : (h x : Expression) (s : List ℕ) → length s ≡ 0 → x ≡ h → Some (x, take 0 s) ≡ strip h s
left-whole h x [] e same = (λ i. Some (same i, [])) ∙ sym (nothing-off h)
left-whole h x (b ∷ s) e same = absurd (omega arith)

-- Of a suffix with bytes.
pub off-empty : (s : List ℕ) → 0 < length s → None ≡ strip empty s
unfolding strip
off-empty [] some = absurd (omega arith)
off-empty (b ∷ s) some = refl

pub off-class : (members : Class) (s : List ℕ) → 0 < length s → None ≡ strip (class members) s
unfolding strip
off-class members [] some = absurd (omega arith)
off-class members (b ∷ s) some = refl

pub off-look : (kind : Look) (s : List ℕ) → 0 < length s → None ≡ strip (look kind) s
unfolding strip
off-look kind [] some = absurd (omega arith)
off-look kind (b ∷ s) some = refl

pub off-alternation : (subs : Expressions) (s : List ℕ) → 0 < length s → None ≡ strip (alternation subs) s
unfolding strip
off-alternation subs [] some = absurd (omega arith)
off-alternation subs (b ∷ s) some = refl

pub off-literal : (bytes s : List ℕ) → 0 < length s → strip_bytes bytes s ≡ strip (literal bytes) s
unfolding strip
off-literal bytes [] some = absurd (omega arith)
off-literal bytes (b ∷ s) some = refl

pub off-copies : (least : ℕ) (most : Option ℕ) (greedy : Bool) (sub : Expression) (s : List ℕ) → 0 < length s
    → strip_copies (strip sub) least most greedy sub s ≡ strip (repetition least most greedy sub) s
unfolding strip
off-copies least most greedy sub [] some = absurd (omega arith)
off-copies least most greedy sub (b ∷ s) some = refl

pub off-capture : (group : ℕ) (name : Option (List ℕ)) (sub : Expression) (s : List ℕ) → 0 < length s → strip sub s ≡ strip (capture group name sub) s
unfolding strip
off-capture group name sub [] some = absurd (omega arith)
off-capture group name sub (b ∷ s) some = refl

pub off-row : (subs : Expressions) (s : List ℕ) → 0 < length s → option_map (λ left. (concat_of left.0, left.1)) (strip_row subs s) ≡ strip (concat subs) s
unfolding strip
off-row subs [] some = absurd (omega arith)
off-row subs (b ∷ s) some = refl

-- Copies.
module _ (one : List ℕ → Left) (greedy : Bool) (sub : Expression) where
  pub copies-refused : (least : ℕ) (most : Option ℕ) (s : List ℕ) → 0 < least → one s ≡ None → strip_copies one least most greedy sub s ≡ None
  unfolding strip_copies
  copies-refused zero most s lt e = refl
  copies-refused (suc least) most s lt e = rw e refl

  pub copies-whole : (least : ℕ) (most : Option ℕ) (s : List ℕ) (x : Expression) → 0 < least → one s ≡ Some (x, [])
      → strip_copies one least most greedy sub s ≡ Some (concat_of (repetition_of (least - 1) (one_less most) greedy sub ∷ x ∷ []), [])
  unfolding strip_copies
  copies-whole zero most s x lt e = absurd (omega arith)
  copies-whole (suc least) most s x lt e = let back : suc least - 1 ≡ least = omega arith in rw (back, e) refl

  pub copies-on : (least : ℕ) (most : Option ℕ) (s : List ℕ) (x : Expression) (rest : List ℕ) → 0 < least → one s ≡ Some (x, rest) → 0 < length rest
      → strip_copies one least most greedy sub s ≡ strip_copies one (least - 1) (one_less most) greedy sub rest
  unfolding strip_copies
  copies-on zero most s x rest lt e some = absurd (omega arith)
  copies-on (suc least) most s x [] lt e some = absurd (omega arith)
  copies-on (suc least) most s x (b ∷ rest) lt e some = let back : suc least - 1 ≡ least = omega arith in rw (back, e) refl

  pub copies-over : (least : ℕ) (most : Option ℕ) (s : List ℕ) → least ≡ 0 → None ≡ strip_copies one least most greedy sub s
  unfolding strip_copies
  copies-over least most s e = ap (λ n. strip_copies one n most greedy sub s) (sym e)

pub take-within : (m n : ℕ) (s : List ℕ) → m ≤ n → take m (take n s) ≡ take m s
take-within zero n s le = refl
take-within (suc m) zero s le = absurd (omega arith)
take-within (suc m) (suc n) [] le = refl
take-within (suc m) (suc n) (b ∷ s) le = ap (λ bs. b ∷ bs) (take-within m n s (omega arith))

-- a row that refuses at one of its parts refuses
pub row-none : (s : List ℕ) (parts : List Expression) (i : ℕ) → strip_row (expressions (drop i parts)) s ≡ None → strip_row (expressions parts) s ≡ None
unfolding strip
row-none s parts zero e = e
row-none s [] (suc i) e = e
row-none s (h ∷ hs) (suc i) e =
    ap (λ o. and_then o (λ (later : List Expression × List ℕ). option_map (λ (left : Expression × List ℕ). (left.0 ∷ later.0, left.1)) (strip h later.1)))
    (row-none s hs i e)

-- Parts in a row, from the right.
module _ (parts : List Expression) (s : List ℕ) where
  pub row-start : strip_row (expressions (drop (length parts) parts)) s ≡ Some (reverse [], take (length s) s)
  unfolding strip
  row-start =
      ap (λ hs. strip_row (expressions hs) s) (drop-past parts (length parts) (omega arith)) ∙ (λ i. Some ([], sym (take_all (length s) s (omega arith)) i))

  row-at : (i : ℕ) (h : Expression) → i < length parts → h ≡ get_or parts i h → (later : List Expression) (rest : List ℕ)
      → strip_row (expressions (drop (i + 1) parts)) s ≡ Some (later, rest)
      → strip_row (expressions (drop i parts)) s ≡ option_map (λ left. (left.0 ∷ later, left.1)) (strip h rest)
  unfolding strip
  row-at i h lt at later rest e =
      ap (λ hs. strip_row hs s) (expressions-drop parts i h lt at)
      ∙ ap (λ o. and_then o (λ (later : List Expression × List ℕ). option_map (λ (left : Expression × List ℕ). (left.0 ∷ later.0, left.1)) (strip h later.1))) e

  pub row-refused : (i : ℕ) (h : Expression) → i < length parts → h ≡ get_or parts i h → (later : List Expression) (rest : List ℕ)
      → strip_row (expressions (drop (i + 1) parts)) s ≡ Some (later, rest) → strip h rest ≡ None
      → strip_row (expressions (drop i parts)) s ≡ None
  row-refused i h lt at later rest e none =
      row-at i h lt at later rest e ∙ ap (option_map (λ (left : Expression × List ℕ). (left.0 ∷ later, left.1))) none

  pub row-step : (i : ℕ) (h : Expression) → i < length parts → h ≡ get_or parts i h → (later : List Expression) (rest : List ℕ)
      → strip_row (expressions (drop (i + 1) parts)) s ≡ Some (reverse later, rest) → (x : Expression) (left : List ℕ) → strip h rest ≡ Some (x, left)
      → strip_row (expressions (drop i parts)) s ≡ Some (reverse (later ++ x ∷ []), left)
  row-step i h lt at later rest e x left is =
      row-at i h lt at (reverse later) rest e ∙ ap (option_map (λ (left : Expression × List ℕ). (left.0 ∷ reverse later, left.1))) is
      ∙ (λ i. Some (sym (reverse-append later (x ∷ [])) i, left))

-- The whole answer.
whole-of : (x : Expression) (n : ℕ) (s : List ℕ) → n ≤ length s → whole x n ≡ only_whole (Some (x, take n s))
whole-of x zero s le = refl
whole-of x (suc n) [] le = absurd (omega arith)
whole-of x (suc n) (b ∷ s) le = let more : nat_eq (suc n) 0 ≡ false = grind (arith, nat_tests) in rw more refl

pub whole-is : (h x : Expression) (n : ℕ) (s : List ℕ) → Some (x, take n s) ≡ strip h s → n ≤ length s → whole x n ≡ strip_literal_suffix h s
whole-is h x n s e le = whole-of x n s le ∙ ap only_whole e

pub left-means : (h : Expression) (s : List ℕ) → AreOrdered h → (o : Option Expression) → o ≡ strip_literal_suffix h s → IfSome o (λ x. IsThenLiteral h x s)
left-means h s ordered None e = tt
left-means h s ordered (Some x) e = strip-then h x s ordered (sym e)

-- What the program tells, taken apart.
pub told-none : (s : List ℕ) (left : Left) (o : Option Told) → IsLeft s left o → o ≡ None → left ≡ None
told-none s left None is e = sym is.0
told-none s left (Some t) is e = absurd (none-some t (sym e))

pub told-some : (s : List ℕ) (left : Left) (o : Option Told) → IsLeft s left o → (t : Told) → o ≡ Some t
    → (left ≡ Some (t.rest, take t.count s)) × (t.count ≤ length s)
told-some s left None is t e = absurd (none-some t e)
told-some s left (Some u) is t e = subst (λ (v : Told). (left ≡ Some (v.rest, take v.count s)) × (v.count ≤ length s)) (same_Some u t e) (sym is.0, is.1)

-- One turn of the loop over copies: of what `front` is left, which are the first bytes of the suffix.
module _ (s : List ℕ) (sub h : Expression) (same : h ≡ sub) (greedy : Bool) (least : ℕ) (most : Option ℕ) (count : ℕ) (front : List ℕ)
    (at : front ≡ take count s) (all_left : Left)
    (so_far : strip_copies (strip sub) least most greedy sub (take count s) ≡ all_left) (some : 0 < least) where
  turn : strip sub (take count s) ≡ strip h front
  turn = λ i. strip (sym same i) (sym at i)

  pub copies-default : (o : Option Told) → IsLeft front (strip h front) o → o ≡ None → None ≡ all_left
  copies-default o is e = sym (copies-refused (strip sub) greedy sub least most (take count s) some (turn ∙ told-none front (strip h front) o is e)) ∙ so_far

  pub copies-end : (o : Option Told) → IsLeft front (strip h front) o → (t : Told) → o ≡ Some t → t.count ≡ 0
      → Some (concat_of (repetition_of (least - 1) (one_less most) greedy sub ∷ t.rest ∷ []), []) ≡ all_left
  copies-end o is t e none =
      let told = told-some front (strip h front) o is t e in
      let gone : strip sub (take count s) ≡ Some (t.rest, []) = turn ∙ told.0 ∙ (λ i. Some (t.rest, take (none i) front)) in
      sym (copies-whole (strip sub) greedy sub least most (take count s) t.rest some gone) ∙ so_far

  pub copies-next : (o : Option Told) → IsLeft front (strip h front) o → (t : Told) → o ≡ Some t → 0 < t.count → count ≤ length s
      → (strip_copies (strip sub) (least - 1) (one_less most) greedy sub (take t.count s) ≡ all_left) × (t.count ≤ length s)
  copies-next o is t e more le =
      let told = told-some front (strip h front) o is t e in
      let long : length front ≡ count = ap length at ∙ length-take-le count s le in
      let fits : t.count ≤ count = (let short = told.1 in omega arith) in
      let inside : take t.count front ≡ take t.count s = ap (take t.count) at ∙ take-within t.count count s fits in
      let left : strip sub (take count s) ≡ Some (t.rest, take t.count s) = turn ∙ told.0 ∙ (λ i. Some (t.rest, inside i)) in
      let size : 0 < length (take t.count s) = (let n = length-take-le t.count s (omega arith) in omega arith) in
      (sym (copies-on (strip sub) greedy sub least most (take count s) t.rest (take t.count s) some left size) ∙ so_far, omega arith)

-- One turn of the loop over parts.
module _ (parts : List Expression) (s : List ℕ) (i : ℕ) (lt : i < length parts) (h : Expression) (is_at : h ≡ get_or parts i h) (later : List Expression)
    (count : ℕ) (le : count ≤ length s)
    (so_far : strip_row (expressions (drop (i + 1) parts)) s ≡ Some (reverse later, take count s)) (front : List ℕ) (at : front ≡ take count s) where
  part-turn : strip h (take count s) ≡ strip h front
  part-turn = λ i. strip h (sym at i)

  pub part-default : (o : Option Told) → IsLeft front (strip h front) o → o ≡ None → strip_row (expressions parts) s ≡ None
  part-default o is e =
      row-none s parts i (row-refused parts s i h lt is_at (reverse later) (take count s) so_far (part-turn ∙ told-none front (strip h front) o is e))

  pub part-next : (o : Option Told) → IsLeft front (strip h front) o → (t : Told) → o ≡ Some t
      → (strip_row (expressions (drop i parts)) s ≡ Some (reverse (later ++ t.rest ∷ []), take t.count s)) × (t.count ≤ length s)
  part-next o is t e =
      let told = told-some front (strip h front) o is t e in
      let long : length front ≡ count = ap length at ∙ length-take-le count s le in
      let fits : t.count ≤ count = (let short = told.1 in omega arith) in
      let inside : take t.count front ≡ take t.count s = ap (take t.count) at ∙ take-within t.count count s fits in
      (row-step parts s i h lt is_at later (take count s) so_far t.rest (take t.count s) (part-turn ∙ told.0 ∙ (λ k. Some (t.rest, inside k))), omega arith)

-- The last copy that gives up its end.
pub fewer-left : (s : List ℕ) (x : Expression) (all_left : Left) (o : Option Told) → IfSome o (λ t. (t.rest ≡ x) × (t.count ≡ 0)) × (is_some o ≡ true)
    → Some (x, []) ≡ all_left → IsLeft s all_left o
fewer-left s x all_left None is e = absurd (true≢false (sym is.1))
fewer-left s x all_left (Some t) is e = ((λ i. Some (is.0.0 i, take (is.0.1 i) s)) ∙ e, (let nothing = is.0.1 in omega arith))

pub ordered-less : (least : ℕ) (most : Option ℕ) → IfSome most (λ m. least ≤ m) → IfSome (one_less most) (λ m. least - 1 ≤ m)
ordered-less least None is = tt
ordered-less least (Some m) is = omega arith
