-- What holds of one of a sequence holds of one of what is made of it.
use Rattle.std.proofs.Common.{◌≡◌, ℕ, false, List, [], ◌∷◌, ◌++◌, length, map, inl, inr, true≢false}
use Rattle.std.specs.Prelude.{nat_lt}
use Rattle.std.specs.List.{flat_map, list_any}
use Rattle.rx_model.proofs.lemmas.runs.RunLemmas.{by_test}
use Rattle.rx_literal.specs.Literals.{Literal, exact, inexact, Seq, infinite, finite, is_exact, is_empty, loose, cut, loosened, limited, union, extended, extended_by_each, stopped, cross, some_exact, cross_on}
use Rattle.rx_literal.specs.declared.side.Side.{Side}
use Rattle.rx_literal.specs.Spans.{OneOf, OneIn}

pub one-append_left : (P : Literal → Type 0) (xs ys : List Literal) → OneOf P xs → OneOf P (xs ++ ys)
one-append_left P [] ys h = absurd h
one-append_left P (x ∷ xs) ys h = elim h [ inl now ↦ inl now | inr later ↦ inr (one-append_left P xs ys later) ]

pub one-append_right : (P : Literal → Type 0) (xs ys : List Literal) → OneOf P ys → OneOf P (xs ++ ys)
one-append_right P [] ys h = h
one-append_right P (x ∷ xs) ys h = inr (one-append_right P xs ys h)

pub one-map : (P Q : Literal → Type 0) (f : Literal → Literal) → ((l : Literal) → P l → Q (f l)) → (ls : List Literal) → OneOf P ls → OneOf Q (map f ls)
one-map P Q f each [] h = absurd h
one-map P Q f each (l ∷ ls) h = elim h [ inl now ↦ inl (each l now) | inr later ↦ inr (one-map P Q f each ls later) ]

pub one-flat : (P Q : Literal → Type 0) (f : Literal → List Literal) → ((l : Literal) → P l → OneOf Q (f l)) → (ls : List Literal) → OneOf P ls
    → OneOf Q (flat_map f ls)
one-flat P Q f each [] h = absurd h
one-flat P Q f each (l ∷ ls) h = elim h [
  | inl now ↦ one-append_left Q (f l) (flat_map f ls) (each l now)
  | inr later ↦ one-append_right Q (f l) (flat_map f ls) (one-flat P Q f each ls later)
]

-- it holds of an inexact one where none is exact
pub one-inexact : (P Q : Literal → Type 0) → ((l : Literal) → P l → Q (loose l)) → (ls : List Literal) → list_any is_exact ls ≡ false → OneOf P ls → OneOf Q ls
one-inexact P Q each [] none h = absurd h
one-inexact P Q each (exact s ∷ ls) none h = absurd (true≢false none)
one-inexact P Q each (inexact s ∷ ls) none h = elim h [ inl now ↦ inl (each (inexact s) now) | inr later ↦ inr (one-inexact P Q each ls none later) ]

pub limited-in : (P : Literal → Type 0) (ls : List Literal) → OneOf P ls → OneIn P (limited ls)
unfolding limited
limited-in P ls h = by_test (nat_lt 250 (length ls)) (λ e. rw e tt) (λ e. rw e h)

pub union-left : (P : Literal → Type 0) (ss ts : Seq) → OneIn P ss → OneIn P (union ss ts)
union-left P infinite ts h = tt
union-left P (finite ss) infinite h = tt
union-left P (finite ss) (finite ts) h = limited-in P (ss ++ ts) (one-append_left P ss ts h)

pub union-right : (P : Literal → Type 0) (ss ts : Seq) → OneIn P ts → OneIn P (union ss ts)
union-right P infinite ts h = tt
union-right P (finite ss) infinite h = tt
union-right P (finite ss) (finite ts) h = limited-in P (ss ++ ts) (one-append_right P ss ts h)

pub loosened-in : (P Q : Literal → Type 0) → ((l : Literal) → P l → Q (loose l)) → (ss : Seq) → OneIn P ss → OneIn Q (loosened ss)
loosened-in P Q each infinite h = tt
loosened-in P Q each (finite ss) h = one-map P Q loose each ss h

pub stopped-in : (P Q : Literal → Type 0) → ((l : Literal) → P l → Q (loose l)) → (ss : List Literal) → OneOf P ss → OneIn Q (stopped ss)
unfolding stopped
stopped-in P Q each ss h = by_test (list_any is_empty ss) (λ e. rw e tt) (λ e. rw e (one-map P Q loose each ss h))

-- A part that R tells of and one further inside that Q tells of, and P of both together.
module _ (side : Side) (R Q P : Literal → Type 0) (extends : (s : List ℕ) (t : Literal) → R (exact s) → Q t → P (cut side 100 (extended side s t)))
    (loosens : (l : Literal) → R l → P (loose l)) where
  extended-in : (ts : List Literal) → OneOf Q ts → (s : Literal) → R s → OneOf P (extended_by_each side ts s)
  unfolding extended_by_each
  extended-in ts h (exact s) r = one-map Q P (λ t. cut side 100 (extended side s t)) (λ t q. extends s t r q) ts h
  extended-in ts h (inexact s) r = inl (loosens (inexact s) r)

  pub cross-in : (ss ts : Seq) → OneIn R ss → OneIn Q ts → OneIn P (cross side ss ts)
  unfolding cross
  cross-in infinite ts r q = tt
  cross-in (finite ss) infinite r q = stopped-in R P loosens ss r
  cross-in (finite ss) (finite ts) r q =
      by_test (nat_lt 250 (length (flat_map (extended_by_each side ts) ss)))
      (λ e. rw e (stopped-in R P loosens ss r))
      (λ e. rw e (one-flat R P (extended_by_each side ts) (λ l p. extended-in ts q l p) ss r))

  pub cross_on-in : (ss ts : Seq) → OneIn R ss → OneIn Q ts → OneIn P (cross_on side ss ts)
  unfolding cross_on
  cross_on-in ss ts r q = by_test (some_exact ss) (λ e. rw e (cross-in ss ts r q)) (λ e. rw e (kept ss e r))
    where
      kept : (ss : Seq) → some_exact ss ≡ false → OneIn R ss → OneIn P ss
      kept infinite e h = tt
      kept (finite ls) e h = one-inexact R P loosens ls e h
