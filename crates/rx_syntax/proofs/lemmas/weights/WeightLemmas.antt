-- The weight of a whole is made of the weights of its parts, through the normal forms.
use Rattle.std.proofs.Common.{◌≡◌, ℕ, zero, suc, ◌+◌, ◌*◌, ◌<◌, ◌≤◌, Bool, true, false, ◌&&◌, List, [], ◌∷◌, ◌++◌, length, refl, sym, ap, ◌∙◌, subst, arith, length-append, append-nil}
use Rattle.std.specs.Prelude.{min, max, Option, Some, None, IfSome, if◌then◌else◌}
use Rattle.std.proofs.Math.Nat.{suc-mul}
use Rattle.std.proofs.lemmas.Bool.{and_left, and_right, ne_eqb}
use Rattle.std.proofs.Math.Bool.{and-true}
use Rattle.rx_model.specs.Expression.{Expression, empty, literal, class, look, repetition, capture, concat, alternation, nil, cons}
use Rattle.rx_model.specs.Length.{plus}
use Rattle.rx_model.specs.Search.{greatest_group, greatest_in}
use Rattle.rx_hir.specs.Cost.{accounted_states, accounted_in, capped}
use Rattle.rx_hir.specs.Length.{times, greater, maximum_len, sum_of_maximum_len, greatest_maximum_len}
use Rattle.rx_hir.specs.Normal.{is_zero, at_most_one, list_of, expressions, copies_of, repetition_of, parts_of, join_literals, joined, sequence_of, alternatives_of, choice_of}
use Rattle.rx_hir.proofs.CostLemmas.{capped-copies}
use Rattle.rx_hir.proofs.RowLemmas.{expressions-list_of}
use Rattle.rx_hir.proofs.OrderedFormsLemmas.{at-most-one}
use Rattle.rx_syntax.specs.declared.weight.Shape.TheVariants.{Alternatives, Other}
use Rattle.rx_syntax.specs.declared.weight.Weight.{Weight}
use Rattle.rx_syntax.specs.Weight.{shape_of, weight_of, is_nothing, in_row, followed, alternatives_in, either, some_copies, copies, repeated, captured, IsNormal}
use Rattle.rx_syntax.specs.Row.{states_in, are_null, greatest_of, row_weight, IsRow, IsChoice}

-- Tests.

and-assoc : (x y z : Bool) → ((x && y) && z) ≡ (x && (y && z))
and-assoc true y z = refl
and-assoc false y z = refl

not-zero : (n : ℕ) → is_zero (Some (suc n)) ≡ false
not-zero n = ne_eqb (suc n) 0 (λ e. omega (arith, e))

zero-plus : (a b : Option ℕ) → is_zero (plus a b) ≡ (is_zero a && is_zero b)
zero-plus None b = refl
zero-plus (Some m) None = sym (and_right (is_zero (Some m)) false refl)
zero-plus (Some zero) (Some n) = let e : 0 + n ≡ n = omega arith in ap (λ k. is_zero (Some k)) e
zero-plus (Some (suc m)) (Some n) =
    let e : suc m + n ≡ suc (m + n) = omega arith in
    ap (λ k. is_zero (Some k)) e ∙ not-zero (m + n) ∙ sym (and_left (is_zero (Some (suc m))) (is_zero (Some n)) (not-zero m))

zero-greater : (a b : Option ℕ) → is_zero (greater a b) ≡ (is_zero a && is_zero b)
zero-greater None b = refl
zero-greater (Some m) None = sym (and_right (is_zero (Some m)) false refl)
zero-greater (Some zero) (Some n) = let e : max 0 n ≡ n = omega arith in ap (λ k. is_zero (Some k)) e
zero-greater (Some (suc m)) (Some zero) =
    let e : max (suc m) 0 ≡ suc m = omega arith in
    ap (λ k. is_zero (Some k)) e ∙ not-zero m ∙ sym (and_left (is_zero (Some (suc m))) (is_zero (Some 0)) (not-zero m))
zero-greater (Some (suc m)) (Some (suc n)) =
    let e : max (suc m) (suc n) ≡ suc (max m n) = omega arith in
    ap (λ k. is_zero (Some k)) e ∙ not-zero (max m n) ∙ sym (and_left (is_zero (Some (suc m))) (is_zero (Some (suc n))) (not-zero m))

zero-times : (a : Option ℕ) (n : ℕ) → is_zero (times a (Some (suc n))) ≡ is_zero a
zero-times None n = refl
zero-times (Some zero) n = let e : 0 * suc n ≡ 0 = omega arith in ap (λ k. is_zero (Some k)) e
zero-times (Some (suc m)) n =
    let rest = m * suc n in
    let e : suc m * suc n ≡ rest + suc n = suc-mul m (suc n) in
    let f : rest + suc n ≡ suc (n + rest) = omega arith in
    ap (λ k. is_zero (Some k)) (e ∙ f) ∙ not-zero (n + m * suc n) ∙ sym (not-zero m)

times-none : (a : Option ℕ) → is_zero (times a None) ≡ false
times-none None = refl
times-none (Some m) = refl

capped-sum : (x y m n : ℕ) → m ≡ capped x → n ≡ capped y → capped (m + n) ≡ capped (x + y)
capped-sum x y m n e f = omega arith

-- Lists.

states-row : (hs : List Expression) → accounted_in (expressions hs) ≡ states_in hs
states-row [] = refl
states-row (h ∷ hs) = ap (λ n. accounted_states h + n) (states-row hs)

null-row : (hs : List Expression) → is_zero (sum_of_maximum_len (expressions hs)) ≡ are_null hs
null-row [] = refl
null-row (h ∷ hs) = zero-plus (maximum_len h) (sum_of_maximum_len (expressions hs)) ∙ ap (λ b. is_zero (maximum_len h) && b) (null-row hs)

null-any : (h : Expression) (hs : List Expression) → is_zero (greatest_maximum_len (expressions (h ∷ hs))) ≡ are_null (h ∷ hs)
null-any h [] = sym (and-true (is_zero (maximum_len h)))
null-any h (i ∷ hs) = zero-greater (maximum_len h) (greatest_maximum_len (expressions (i ∷ hs))) ∙ ap (λ b. is_zero (maximum_len h) && b) (null-any i hs)

greatest-row : (hs : List Expression) → greatest_in (expressions hs) ≡ greatest_of hs
unfolding greatest_in
greatest-row [] = refl
greatest-row (h ∷ hs) = ap (λ n. max (greatest_group h) n) (greatest-row hs)

states-append : (xs ys : List Expression) → states_in (xs ++ ys) ≡ states_in xs + states_in ys
states-append [] ys = omega arith
states-append (x ∷ xs) ys = omega (arith, states-append xs ys)

null-append : (xs ys : List Expression) → are_null (xs ++ ys) ≡ (are_null xs && are_null ys)
null-append [] ys = refl
null-append (x ∷ xs) ys = ap (λ b. is_zero (maximum_len x) && b) (null-append xs ys) ∙ sym (and-assoc (is_zero (maximum_len x)) (are_null xs) (are_null ys))

greatest-append : (xs ys : List Expression) → greatest_of (xs ++ ys) ≡ max (greatest_of xs) (greatest_of ys)
greatest-append [] ys = omega arith
greatest-append (x ∷ xs) ys = omega (arith, greatest-append xs ys)

-- Joined literals.

states-join : (h : Expression) (hs : List Expression) → states_in (join_literals h hs) ≡ accounted_states h + states_in hs
states-join (literal a) (literal b ∷ hs) = omega (arith, length-append a b)
states-join h hs = refl

null-join : (h : Expression) (hs : List Expression) → are_null (join_literals h hs) ≡ (is_zero (maximum_len h) && are_null hs)
null-join (literal a) (literal b ∷ hs) =
    ap (λ n. is_zero (Some n) && are_null hs) (length-append a b) ∙ ap (λ x. x && are_null hs) (zero-plus (Some (length a)) (Some (length b)))
    ∙ and-assoc (is_zero (Some (length a))) (is_zero (Some (length b))) (are_null hs)
null-join h hs = refl

greatest-join : (h : Expression) (hs : List Expression) → greatest_of (join_literals h hs) ≡ max (greatest_group h) (greatest_of hs)
unfolding greatest_group
greatest-join (literal a) (literal b ∷ hs) = omega arith
greatest-join h hs = refl

states-joined : (hs : List Expression) → states_in (joined hs) ≡ states_in hs
states-joined [] = refl
states-joined (h ∷ hs) = states-join h (joined hs) ∙ ap (λ n. accounted_states h + n) (states-joined hs)

null-joined : (hs : List Expression) → are_null (joined hs) ≡ are_null hs
null-joined [] = refl
null-joined (h ∷ hs) = null-join h (joined hs) ∙ ap (λ b. is_zero (maximum_len h) && b) (null-joined hs)

greatest-joined : (hs : List Expression) → greatest_of (joined hs) ≡ greatest_of hs
greatest-joined [] = refl
greatest-joined (h ∷ hs) = greatest-join h (joined hs) ∙ ap (λ n. max (greatest_group h) n) (greatest-joined hs)

row-joined : (hs : List Expression) → row_weight hs ≡ row_weight (joined hs)
row-joined hs = sym (λ k. record {
  states = capped (states-joined hs k);
  shape = Other;
  is_null = null-joined hs k;
  greatest_group = greatest-joined hs k;
})

join-nil : (h : Expression) → join_literals h [] ≡ h ∷ []
join-nil (literal a) = refl
join-nil h = refl

-- parts of which two or more were joined: one literal, or more parts
abbrev AreJoined : List Expression → Type 0
AreJoined [] = ⊥
AreJoined (h ∷ []) = (bytes : List ℕ) × (h ≡ literal bytes)
AreJoined (h ∷ i ∷ hs) = Unit {0}

abbrev IsSomething : List Expression → Type 0
IsSomething [] = ⊥
IsSomething (h ∷ hs) = Unit {0}

join-something : (h : Expression) (hs : List Expression) → IsSomething (join_literals h hs)
join-something (literal a) (literal b ∷ hs) = tt
join-something h hs = tt

join-two : (a b : List ℕ) (hs : List Expression) → AreJoined (literal (a ++ b) ∷ hs)
join-two a b [] = (a ++ b, refl)
join-two a b (h ∷ hs) = tt

join-more : (h : Expression) (hs : List Expression) → IsSomething hs → AreJoined (join_literals h hs)
join-more h [] some = absurd some
join-more (literal a) (literal b ∷ hs) some = join-two a b hs
join-more h (i ∷ hs) some = tt

joined-more : (h i : Expression) (hs : List Expression) → AreJoined (joined (h ∷ i ∷ hs))
joined-more h i hs = join-more h (joined (i ∷ hs)) (join-something i (joined hs))

-- Rows.

weight-concat : (h i : Expression) (hs : List Expression) → weight_of (concat (expressions (h ∷ i ∷ hs))) ≡ row_weight (h ∷ i ∷ hs)
unfolding greatest_group
weight-concat h i hs = λ k. record {
  states = capped (states-row (h ∷ i ∷ hs) k);
  shape = Other;
  is_null = null-row (h ∷ i ∷ hs) k;
  greatest_group = greatest-row (h ∷ i ∷ hs) k;
}

weight-literal : (bytes : List ℕ) → weight_of (literal bytes) ≡ row_weight (literal bytes ∷ [])
unfolding greatest_group
weight-literal bytes =
    let states : length bytes ≡ length bytes + 0 = omega arith in
    let greatest : 0 ≡ max 0 0 = omega arith in
    λ k. record { states = capped (states k); shape = Other; is_null = sym (and-true (is_zero (Some (length bytes)))) k; greatest_group = greatest k }

weight-sequence : (hs : List Expression) → AreJoined hs → (row_weight hs ≡ weight_of (sequence_of hs)) × IsNormal (sequence_of hs)
weight-sequence [] are = absurd are
weight-sequence (h ∷ []) are =
    let P : Expression → Type 0 = λ g. (row_weight (g ∷ []) ≡ weight_of g) × IsNormal g in
    subst P (sym are.1) (sym (weight-literal are.0), tt)
weight-sequence (h ∷ i ∷ hs) are =
    let more : 1 < suc (suc (length (list_of (expressions hs)))) = omega arith in
    (sym (weight-concat h i hs), more)

-- what a row weighs is the weight of its concatenation
pub row-sequence : (hs : List Expression) (w : Weight) → IsRow hs w → (w ≡ weight_of (sequence_of (joined hs))) × IsNormal (sequence_of (joined hs))
row-sequence [] w is = (is, tt)
row-sequence (h ∷ []) w is =
    let P : List Expression → Type 0 = λ js. (w ≡ weight_of (sequence_of js)) × IsNormal (sequence_of js) in
    subst P (sym (join-nil h)) (is.weight, is.normal)
row-sequence (h ∷ i ∷ hs) w is =
    let whole = weight-sequence (joined (h ∷ i ∷ hs)) (joined-more h i hs) in
    (is ∙ row-joined (h ∷ i ∷ hs) ∙ whole.0, whole.1)

-- the weight of one part or more
record IsSome (hs : List Expression) (w : Weight) : Type 0 where
  something : is_nothing w.shape ≡ false
  states : w.states ≡ capped (states_in hs)
  null : w.is_null ≡ are_null hs
  greatest : w.greatest_group ≡ greatest_of hs

one-something : (h : Expression) → parts_of h ≡ h ∷ [] → is_nothing (shape_of h) ≡ false
one-something empty alone = absurd (cc)
one-something (literal bytes) alone = refl
one-something (class members) alone = refl
one-something (look kind) alone = refl
one-something (repetition least greatest greedy sub) alone = refl
one-something (capture group name sub) alone = refl
one-something (concat subs) alone = refl
one-something (alternation subs) alone = refl

row-some : (h : Expression) (hs : List Expression) (w : Weight) → IsRow (h ∷ hs) w → IsSome (h ∷ hs) w
row-some h [] w is =
    let P : Weight → Type 0 = IsSome (h ∷ []) in
    let states : accounted_states h ≡ accounted_states h + 0 = omega arith in
    let greatest : greatest_group h ≡ max (greatest_group h) 0 = omega arith in
    subst P (sym is.weight) (record {
      something = one-something h is.alone;
      states = ap capped states;
      null = sym (and-true (is_zero (maximum_len h)));
      greatest = greatest;
    })
row-some h (i ∷ hs) w is =
    let P : Weight → Type 0 = IsSome (h ∷ i ∷ hs) in
    subst P (sym is) (record { something = refl; states = refl; null = refl; greatest = refl })

row-both : (xs ys : List Expression) (a b : Weight) → IsSome xs a → IsSome ys b → followed a b ≡ row_weight (xs ++ ys)
row-both xs ys a b p q =
    let states = capped-sum (states_in xs) (states_in ys) a.states b.states p.states q.states ∙ ap capped (sym (states-append xs ys)) in
    let null : (a.is_null && b.is_null) ≡ are_null (xs ++ ys) = ap (λ x. x && b.is_null) p.null ∙ ap (λ x. are_null xs && x) q.null ∙ sym (null-append xs ys) in
    let greatest : max a.greatest_group b.greatest_group ≡ greatest_of (xs ++ ys) = omega (arith, greatest-append xs ys, p.greatest, q.greatest) in
    let whole : in_row a b ≡ row_weight (xs ++ ys) = λ k. record { states = states k; shape = Other; is_null = null k; greatest_group = greatest k } in
    ap (λ t. if t then b else if is_nothing b.shape then a else in_row a b) p.something ∙ ap (λ t. if t then a else in_row a b) q.something ∙ whole

pub row-append : (xs ys : List Expression) (a b : Weight) → IsRow xs a → IsRow ys b → IsRow (xs ++ ys) (followed a b)
row-append [] ys a b p q = subst (λ w. IsRow ys w) (sym (ap (λ x. followed x b) p)) q
row-append (x ∷ xs) [] a b p q =
    let some = row-some x xs a p in
    let e : followed a b ≡ a = ap (λ y. followed a y) q ∙ ap (λ t. if t then weight_of empty else a) some.something in
    subst (λ zs. IsRow zs (followed a b)) (sym (append-nil (x ∷ xs))) (subst (λ w. IsRow (x ∷ xs) w) (sym e) p)
row-append (x ∷ []) (y ∷ ys) a b p q = row-both (x ∷ []) (y ∷ ys) a b (row-some x [] a p) (row-some y ys b q)
row-append (x ∷ z ∷ xs) (y ∷ ys) a b p q = row-both (x ∷ z ∷ xs) (y ∷ ys) a b (row-some x (z ∷ xs) a p) (row-some y ys b q)

-- what an expression gives to the concatenation around it has its weight
pub row-parts : (h : Expression) → IsNormal h → IsRow (parts_of h) (weight_of h)
row-parts empty normal = refl
row-parts (literal bytes) normal = record { weight = refl; normal = tt; alone = refl }
row-parts (class members) normal = record { weight = refl; normal = tt; alone = refl }
row-parts (look kind) normal = record { weight = refl; normal = tt; alone = refl }
row-parts (repetition least greatest greedy sub) normal = record { weight = refl; normal = tt; alone = refl }
row-parts (capture group name sub) normal = record { weight = refl; normal = tt; alone = refl }
row-parts (concat nil) normal = let n : 1 < 0 = normal in absurd (omega arith)
row-parts (concat (cons h nil)) normal = let n : 1 < 1 = normal in absurd (omega arith)
row-parts (concat (cons h (cons i hs))) normal =
    ap (λ es. weight_of (concat (cons h (cons i es)))) (sym (expressions-list_of hs)) ∙ weight-concat h i (list_of hs)
row-parts (alternation subs) normal = record { weight = refl; normal = normal; alone = refl }

-- Choices.

record IsAny (hs : List Expression) (w : Weight) : Type 0 where
  states : alternatives_in w.shape w.states ≡ capped (states_in hs)
  null : w.is_null ≡ are_null hs
  greatest : w.greatest_group ≡ greatest_of hs

only-states : (h : Expression) → IsNormal h → alternatives_of h ≡ h ∷ []
    → alternatives_in (shape_of h) (capped (accounted_states h)) ≡ capped (accounted_states h)
only-states empty normal alone = refl
only-states (literal bytes) normal alone = refl
only-states (class members) normal alone = refl
only-states (look kind) normal alone = refl
only-states (repetition least greatest greedy sub) normal alone = refl
only-states (capture group name sub) normal alone = refl
only-states (concat subs) normal alone = refl
only-states (alternation subs) normal alone =
    let n : 1 < length (list_of subs) = normal in
    let e : length (list_of subs) ≡ 1 = ap length alone in
    absurd (omega arith)

any-more : (h i : Expression) (hs : List Expression) → IsAny (h ∷ i ∷ hs) (weight_of (alternation (expressions (h ∷ i ∷ hs))))
unfolding greatest_group
any-more h i hs = record { states = ap capped (states-row (h ∷ i ∷ hs)); null = null-any h (i ∷ hs); greatest = greatest-row (h ∷ i ∷ hs) }

choice-any : (h : Expression) (hs : List Expression) (w : Weight) → IsChoice (h ∷ hs) w → IsAny (h ∷ hs) w
choice-any h [] w is =
    let P : Weight → Type 0 = IsAny (h ∷ []) in
    let states : accounted_states h ≡ accounted_states h + 0 = omega arith in
    let greatest : greatest_group h ≡ max (greatest_group h) 0 = omega arith in
    subst P (sym is.weight) (record {
      states = only-states h is.normal is.alone ∙ ap capped states;
      null = sym (and-true (is_zero (maximum_len h)));
      greatest = greatest;
    })
choice-any h (i ∷ hs) w is =
    let P : Weight → Type 0 = IsAny (h ∷ i ∷ hs) in
    subst P (sym is) (any-more h i hs)

choice-both : (h i : Expression) (hs xs ys : List Expression) (a b : Weight) → IsAny xs a → IsAny ys b → xs ++ ys ≡ h ∷ i ∷ hs
    → either a b ≡ weight_of (alternation (expressions (h ∷ i ∷ hs)))
unfolding greatest_group
choice-both h i hs xs ys a b p q same =
    let av = alternatives_in a.shape a.states in
    let bv = alternatives_in b.shape b.states in
    let all = h ∷ i ∷ hs in
    let sum : states_in xs + states_in ys ≡ accounted_in (expressions all) = sym (states-append xs ys) ∙ ap states_in same ∙ sym (states-row all) in
    let inner : capped (av + bv) ≡ capped (accounted_in (expressions all)) = capped-sum (states_in xs) (states_in ys) av bv p.states q.states ∙ ap capped sum in
    let one_more : (m n : ℕ) → m ≡ capped n → capped (m + 1) ≡ capped (n + 1) = λ m n e. omega arith in
    let null : (a.is_null && b.is_null) ≡ is_zero (greatest_maximum_len (expressions all)) =
    ap (λ x. x && b.is_null) p.null ∙ ap (λ x. are_null xs && x) q.null ∙ sym (null-append xs ys) ∙ ap are_null same ∙ sym (null-any h (i ∷ hs)) in
    let most : max a.greatest_group b.greatest_group ≡ greatest_of (xs ++ ys) = omega (arith, greatest-append xs ys, p.greatest, q.greatest) in
    let greatest : max a.greatest_group b.greatest_group ≡ greatest_in (expressions all) = most ∙ ap greatest_of same ∙ sym (greatest-row all) in
    λ k. record {
      states = one_more (capped (av + bv)) (accounted_in (expressions all)) inner k;
      shape = Alternatives (inner k);
      is_null = null k;
      greatest_group = greatest k;
    }

pub choice-append : (xs ys : List Expression) (a b : Weight) → IsChoice xs a → IsChoice ys b → IsChoice (xs ++ ys) (either a b)
choice-append [] ys a b p q = absurd p
choice-append (x ∷ xs) [] a b p q = absurd q
choice-append (x ∷ []) (y ∷ ys) a b p q = choice-both x y ys (x ∷ []) (y ∷ ys) a b (choice-any x [] a p) (choice-any y ys b q) refl
choice-append (x ∷ z ∷ xs) (y ∷ ys) a b p q =
    choice-both x z (xs ++ y ∷ ys) (x ∷ z ∷ xs) (y ∷ ys) a b (choice-any x (z ∷ xs) a p) (choice-any y ys b q) refl

-- what an expression gives to the alternation around it has its weight
pub choice-alternatives : (h : Expression) → IsNormal h → IsChoice (alternatives_of h) (weight_of h)
choice-alternatives empty normal = record { weight = refl; normal = tt; alone = refl }
choice-alternatives (literal bytes) normal = record { weight = refl; normal = tt; alone = refl }
choice-alternatives (class members) normal = record { weight = refl; normal = tt; alone = refl }
choice-alternatives (look kind) normal = record { weight = refl; normal = tt; alone = refl }
choice-alternatives (repetition least greatest greedy sub) normal = record { weight = refl; normal = tt; alone = refl }
choice-alternatives (capture group name sub) normal = record { weight = refl; normal = tt; alone = refl }
choice-alternatives (concat subs) normal = record { weight = refl; normal = normal; alone = refl }
choice-alternatives (alternation nil) normal = let n : 1 < 0 = normal in absurd (omega arith)
choice-alternatives (alternation (cons h nil)) normal = let n : 1 < 1 = normal in absurd (omega arith)
choice-alternatives (alternation (cons h (cons i hs))) normal = ap (λ es. weight_of (alternation (cons h (cons i es)))) (sym (expressions-list_of hs))

-- what a choice weighs is the weight of its alternation
pub choice-of : (hs : List Expression) (w : Weight) → IsChoice hs w → (w ≡ weight_of (choice_of hs)) × IsNormal (choice_of hs)
choice-of [] w is = absurd is
choice-of (h ∷ []) w is = (is.weight, is.normal)
choice-of (h ∷ i ∷ hs) w is =
    let more : 1 < suc (suc (length (list_of (expressions hs)))) = omega arith in
    (is, more)

-- Copies and groups.

some-weight : (least : ℕ) (greatest : Option ℕ) (greedy : Bool) (h : Expression) → is_zero (times (maximum_len h) greatest) ≡ is_zero (maximum_len h)
    → weight_of (repetition least greatest greedy h) ≡ some_copies least greatest (weight_of h)
unfolding greatest_group
some-weight least greatest greedy h null = λ k. record {
  states = sym (capped-copies least greatest (accounted_states h)) k;
  shape = Other;
  is_null = null k;
  greatest_group = greatest_group h;
}

endless-weight : (least : ℕ) (greedy : Bool) (h : Expression) → is_zero (maximum_len h) ≡ false
    → weight_of (repetition least None greedy h) ≡ some_copies least None (weight_of h)
endless-weight least greedy h long = some-weight least None greedy h (times-none (maximum_len h) ∙ sym long)

bounded-weight : (least n : ℕ) (greedy : Bool) (h : Expression) → weight_of (repetition least (Some (suc n)) greedy h) ≡ some_copies least (Some (suc n))
    (weight_of h)
bounded-weight least n greedy h = some-weight least (Some (suc n)) greedy h (zero-times (maximum_len h) n)

copies-weight : (least : ℕ) (greatest : Option ℕ) (greedy : Bool) (h : Expression) → (greatest ≡ None → is_zero (maximum_len h) ≡ false)
    → IfSome greatest (λ m. least ≤ m)
    → weight_of (copies_of least greatest greedy h) ≡ copies least greatest (weight_of h)
copies-weight zero None greedy h long order = endless-weight 0 greedy h (long refl)
copies-weight zero (Some zero) greedy h long order = refl
copies-weight zero (Some (suc n)) greedy h long order = bounded-weight 0 n greedy h
copies-weight (suc zero) None greedy h long order = endless-weight 1 greedy h (long refl)
copies-weight (suc zero) (Some zero) greedy h long order = let o : 1 ≤ 0 = order in absurd (omega arith)
copies-weight (suc zero) (Some (suc zero)) greedy h long order = refl
copies-weight (suc zero) (Some (suc (suc n))) greedy h long order = bounded-weight 1 (suc n) greedy h
copies-weight (suc (suc m)) None greedy h long order = endless-weight (suc (suc m)) greedy h (long refl)
copies-weight (suc (suc m)) (Some zero) greedy h long order = let o : suc (suc m) ≤ 0 = order in absurd (omega arith)
copies-weight (suc (suc m)) (Some (suc n)) greedy h long order = bounded-weight (suc (suc m)) n greedy h

pub repeated-weight : (least : ℕ) (greatest : Option ℕ) (greedy : Bool) (h : Expression) → IfSome greatest (λ m. least ≤ m)
    → weight_of (repetition_of least greatest greedy h) ≡ repeated least greatest (weight_of h)
repeated-weight least greatest greedy h order = by_null (is_zero (maximum_len h)) refl
  where
    by_null : (b : Bool) → is_zero (maximum_len h) ≡ b
        → weight_of (if b then copies_of (min least 1) (Some (at_most_one greatest)) greedy h else copies_of least greatest greedy h)
        ≡ (if b then copies (min least 1) (Some (at_most_one greatest)) (weight_of h) else copies least greatest (weight_of h))
    by_null true e = copies-weight (min least 1) (Some (at_most_one greatest)) greedy h (λ none. absurd (cc)) (at-most-one least greatest order)
    by_null false e = copies-weight least greatest greedy h (λ none. e) order

copies-normal : (least : ℕ) (greatest : Option ℕ) (greedy : Bool) (h : Expression) → IsNormal h → IsNormal (copies_of least greatest greedy h)
copies-normal zero (Some zero) greedy h normal = tt
copies-normal (suc zero) (Some (suc zero)) greedy h normal = normal
copies-normal least greatest greedy h normal = tt

pub repetition-normal : (least : ℕ) (greatest : Option ℕ) (greedy : Bool) (h : Expression) → IsNormal h → IsNormal (repetition_of least greatest greedy h)
repetition-normal least greatest greedy h normal = by_null (is_zero (maximum_len h))
  where
    by_null : (b : Bool) → IsNormal (if b then copies_of (min least 1) (Some (at_most_one greatest)) greedy h else copies_of least greatest greedy h)
    by_null true = copies-normal (min least 1) (Some (at_most_one greatest)) greedy h normal
    by_null false = copies-normal least greatest greedy h normal

pub captured-weight : (group : ℕ) (name : Option (List ℕ)) (h : Expression) → weight_of (capture group name h) ≡ captured group (weight_of h)
unfolding greatest_group
captured-weight group name h =
    let states : capped (accounted_states h + 2) ≡ capped (capped (accounted_states h) + 2) = omega arith in
    λ k. record { states = states k; shape = Other; is_null = is_zero (maximum_len h); greatest_group = max group (greatest_group h) }
