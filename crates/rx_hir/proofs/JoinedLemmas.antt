-- Joining literals part by part.
use Rattle.std.proofs.Common.{◌≡◌, ℕ, zero, suc, ◌≤◌, arith, List, [], ◌∷◌, ◌++◌, refl, ap, sym, ◌∙◌, append_assoc, Vec, Global, ◌<◌, ◌+◌, length, get_or, drop, append-nil, false, true≢false}
use Rattle.rx_model.specs.Expression.{Expression, literal, cons}
use Rattle.rx_hir.specs.Normal.{join_literals, joined, list_of, expressions}
use Rattle.std.proofs.lemmas.List.{at_drop_more}
use Rattle.rx_hir.specs.HirViews.{kind_view}
use Rattle.rx_hir.specs.declared.hir.HirKind.{HirKind}
use Rattle.rx_hir.specs.declared.hir.HirKind.TheVariants.{Empty, Literal, Class as Set, Look as Assertion, Repetition, Capture, Concat, Alternation}
use Rattle.rx_hir.specs.Joined.{and_then, and_then_all, with_bytes, ends_in_literal, AreApart}
use Rattle.rx_hir.specs.Properties.{is_literal}

pub list_of-expressions : (hs : List Expression) → list_of (expressions hs) ≡ hs
list_of-expressions [] = refl
list_of-expressions (h ∷ hs) = ap (λ ys. h ∷ ys) (list_of-expressions hs)

-- a literal before parts that grow at their end
join-one : (a : List ℕ) (y h : Expression) → join_literals (literal a) (and_then (y ∷ []) h) ≡ and_then (join_literals (literal a) (y ∷ [])) h
join-one a (literal b) (literal c) = ap (λ bytes. literal bytes ∷ []) (sym (append_assoc a b c))
join-one a y h = refl

join-more : (a : List ℕ) (y z : Expression) (ys : List Expression) (h : Expression)
    → join_literals (literal a) (and_then (y ∷ z ∷ ys) h) ≡ and_then (join_literals (literal a) (y ∷ z ∷ ys)) h
join-more a (literal b) z ys h = refl
join-more a y z ys h = refl

join-literal : (a : List ℕ) (ys : List Expression) (h : Expression) → join_literals (literal a) (and_then ys h) ≡ and_then (join_literals (literal a) ys) h
join-literal a [] h = refl
join-literal a (y ∷ []) h = join-one a y h
join-literal a (y ∷ z ∷ ys) h = join-more a y z ys h

join-and_then : (x : Expression) (ys : List Expression) (h : Expression) → join_literals x (and_then ys h) ≡ and_then (join_literals x ys) h
join-and_then (literal a) ys h = join-literal a ys h
join-and_then x [] h = refl
join-and_then x (y ∷ ys) h = refl

pub joined-and_then : (xs : List Expression) (h : Expression) → joined (xs ++ h ∷ []) ≡ and_then (joined xs) h
joined-and_then [] (literal a) = refl
joined-and_then [] h = refl
joined-and_then (x ∷ xs) h = ap (λ ys. join_literals x ys) (joined-and_then xs h) ∙ join-and_then x (joined xs) h

pub joined-append : (xs ys : List Expression) → joined (xs ++ ys) ≡ and_then_all (joined xs) ys
joined-append xs [] = ap joined (append-nil xs)
joined-append xs (y ∷ ys) = ap joined (sym (append_assoc xs (y ∷ []) ys)) ∙ joined-append (xs ++ y ∷ []) ys
    ∙ ap (λ zs. and_then_all zs ys) (joined-and_then xs y)

pub and_then-last : (xs : List Expression) (g h : Expression) → and_then (xs ++ g ∷ []) h ≡ xs ++ join_literals g (h ∷ [])
and_then-last [] g h = refl
and_then-last (x ∷ []) g h = refl
and_then-last (x ∷ y ∷ xs) g h = ap (λ zs. x ∷ zs) (and_then-last (y ∷ xs) g h)

pub and_then_all-append : (gs xs ys : List Expression) → and_then_all gs (xs ++ ys) ≡ and_then_all (and_then_all gs xs) ys
and_then_all-append gs [] ys = refl
and_then_all-append gs (x ∷ xs) ys = and_then_all-append (and_then gs x) xs ys

join-other : (g h : Expression) → is_literal h ≡ false → join_literals g (h ∷ []) ≡ g ∷ h ∷ []
join-other (literal a) (literal b) other = absurd (true≢false other)
join-other (literal a) h other = refl
join-other g h other = refl

and_then-other : (xs : List Expression) (h : Expression) → is_literal h ≡ false → and_then xs h ≡ xs ++ h ∷ []
and_then-other [] h other = refl
and_then-other (g ∷ []) h other = join-other g h other
and_then-other (f ∷ g ∷ xs) h other = ap (λ ys. f ∷ ys) (and_then-other (g ∷ xs) h other)

join-apart : (g h : Expression) → is_literal g ≡ false → join_literals g (h ∷ []) ≡ g ∷ h ∷ []
join-apart (literal a) h apart = absurd (true≢false apart)
join-apart g h apart = refl

and_then-apart : (xs : List Expression) (h : Expression) → ends_in_literal xs ≡ false → and_then xs h ≡ xs ++ h ∷ []
and_then-apart [] h apart = refl
and_then-apart (g ∷ []) h apart = join-apart g h apart
and_then-apart (f ∷ g ∷ xs) h apart = ap (λ ys. f ∷ ys) (and_then-apart (g ∷ xs) h apart)

pub kind-no_literal : (kind : HirKind) → ((bytes : Vec ℕ Global) → kind ≡ Literal bytes → ⊥) → is_literal (kind_view kind) ≡ false
kind-no_literal (Literal bytes) other = absurd (other bytes refl)
kind-no_literal Empty other = refl
kind-no_literal (Set members) other = refl
kind-no_literal (Assertion kind) other = refl
kind-no_literal (Repetition r) other = refl
kind-no_literal (Capture c) other = refl
kind-no_literal (Concat subs) other = refl
kind-no_literal (Alternation subs) other = refl

-- Parts in a row, with the bytes of a literal at the end.

pub with_bytes-some : (hs : List Expression) (bytes : List ℕ) → 0 < length bytes → with_bytes hs bytes ≡ hs ++ literal bytes ∷ []
with_bytes-some hs [] some = absurd (omega arith)
with_bytes-some hs (b ∷ bytes) some = refl

-- more bytes
pub apart-bytes : (parts hs : List Expression) (bytes more grown : List ℕ) → AreApart parts bytes hs → 0 < length more → grown ≡ bytes ++ more
    → AreApart parts grown (and_then hs (literal more))
apart-bytes parts hs bytes more grown h some is =
    let whole : with_bytes parts (bytes ++ more) ≡ and_then (with_bytes parts bytes) (literal more) = grows bytes in
    record { whole = ap (with_bytes parts) is ∙ whole ∙ ap (λ gs. and_then gs (literal more)) h.whole; apart = h.apart }
  where
    grows : (bytes : List ℕ) → with_bytes parts (bytes ++ more) ≡ and_then (with_bytes parts bytes) (literal more)
    grows [] = with_bytes-some parts more some ∙ sym (and_then-apart parts (literal more) h.apart)
    grows (b ∷ bytes) = sym (and_then-last parts (literal (b ∷ bytes)) (literal more))

ends-other : (xs : List Expression) (h : Expression) → is_literal h ≡ false → ends_in_literal (xs ++ h ∷ []) ≡ false
ends-other [] h other = other
ends-other (x ∷ []) h other = other
ends-other (x ∷ y ∷ xs) h other = ends-other (y ∷ xs) h other

-- another part than a literal
pub apart-other : (parts hs all : List Expression) (bytes : List ℕ) (h : Expression) → AreApart parts bytes hs → is_literal h ≡ false
    → all ≡ with_bytes parts bytes ++ h ∷ [] → AreApart all [] (and_then hs h)
apart-other parts hs all bytes h before other is = record {
  whole = is ∙ ap (λ (gs : List Expression). gs ++ h ∷ []) before.whole ∙ sym (and_then-other hs h other);
  apart = ap ends_in_literal is ∙ ends-other (with_bytes parts bytes) h other;
}

pub expressions-drop : (hs : List Expression) (i : ℕ) (h : Expression) → i < length hs → h ≡ get_or hs i h
    → expressions (drop i hs) ≡ cons h (expressions (drop (i + 1) hs))
expressions-drop hs i h lt e = at_drop_more expressions hs i h lt ∙ ap (λ g. cons g (expressions (drop (i + 1) hs))) (sym e)

pub drop-past : {A : Type 0} (xs : List A) (i : ℕ) → length xs ≤ i → drop i xs ≡ []
drop-past [] zero le = refl
drop-past [] (suc i) le = refl
drop-past (x ∷ xs) zero le = absurd (omega arith)
drop-past (x ∷ xs) (suc i) le = drop-past xs i (omega arith)
