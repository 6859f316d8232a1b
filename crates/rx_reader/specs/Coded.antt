-- A code for syntax, by which a model tells it apart, and its size.
use Rattle.std.specs.Prelude.{◌≡◌, ◌≢◌, ℕ, suc, max, refl}
use Rattle.std.specs.Coded.{Coded, coded_ℕ, coded_bool, coded_option}
use Rattle.std.proofs.Common.{ap, arith}
use base.Stored.{Gv, gnil, gnum, gcons}
use Rattle.rx_reader.specs.contracts.flags.Flags as flags
use Rattle.rx_reader.specs.contracts.piece.Piece as piece
use Rattle.rx_reader.specs.contracts.atom.Atom as atoms
use Rattle.rx_reader.specs.contracts.group_kind.GroupKind as kind
use Rattle.rx_reader.specs.Syntax.{Syntax, Syntaxes, literal, atom, repeated, group, cat, alt, nil, cons}

abbrev head : Gv → Gv
head gnil = gnil
head (gnum n) = gnil
head (gcons a b) = a

abbrev tail : Gv → Gv
tail gnil = gnil
tail (gnum n) = gnil
tail (gcons a b) = b

apart : (m n : ℕ) {a b : Gv} → gcons (gnum m) a ≡ gcons (gnum n) b → m ≢ n → ⊥
apart m n p other = other (cc)

abbrev mutual
  pub syntax_code : Syntax → Gv
  syntax_code (literal a0 a1) = gcons (gnum 0) (gcons (flags.the_row.coded.code a0) (coded_ℕ.code a1))
  syntax_code (atom a0 a1 a2) = gcons (gnum 1) (gcons (flags.the_row.coded.code a0) (gcons (piece.the_row.coded.code a1) (atoms.the_row.coded.code a2)))
  syntax_code (repeated a0 a1 a2 a3) = gcons (gnum 2)
      (gcons (coded_ℕ.code a0) (gcons ((coded_option coded_ℕ).code a1) (gcons (coded_bool.code a2) (syntax_code a3))))
  syntax_code (group a0 a1) = gcons (gnum 3) (gcons (kind.the_row.coded.code a0) (syntax_code a1))
  syntax_code (cat a0) = gcons (gnum 4) (syntaxes_code a0)
  syntax_code (alt a0) = gcons (gnum 5) (syntaxes_code a0)

  pub syntaxes_code : Syntaxes → Gv
  syntaxes_code nil = gnil
  syntaxes_code (cons s ss) = gcons (syntax_code s) (syntaxes_code ss)

mutual
  pub syntax_inj : (x y : Syntax) → syntax_code x ≡ syntax_code y → x ≡ y
  syntax_inj (literal a0 a1) (literal b0 b1) p = λ i. literal (flags.the_row.coded.inj a0 b0 (ap (λ g. head (tail g)) p) i)
      (coded_ℕ.inj a1 b1 (ap (λ g. tail (tail g)) p) i)
  syntax_inj (literal a0 a1) (atom b0 b1 b2) p = absurd (apart 0 1 p (omega arith))
  syntax_inj (literal a0 a1) (repeated b0 b1 b2 b3) p = absurd (apart 0 2 p (omega arith))
  syntax_inj (literal a0 a1) (group b0 b1) p = absurd (apart 0 3 p (omega arith))
  syntax_inj (literal a0 a1) (cat b0) p = absurd (apart 0 4 p (omega arith))
  syntax_inj (literal a0 a1) (alt b0) p = absurd (apart 0 5 p (omega arith))
  syntax_inj (atom a0 a1 a2) (literal b0 b1) p = absurd (apart 1 0 p (omega arith))
  syntax_inj (atom a0 a1 a2) (atom b0 b1 b2) p = λ i. atom (flags.the_row.coded.inj a0 b0 (ap (λ g. head (tail g)) p) i)
      (piece.the_row.coded.inj a1 b1 (ap (λ g. head (tail (tail g))) p) i) (atoms.the_row.coded.inj a2 b2 (ap (λ g. tail (tail (tail g))) p) i)
  syntax_inj (atom a0 a1 a2) (repeated b0 b1 b2 b3) p = absurd (apart 1 2 p (omega arith))
  syntax_inj (atom a0 a1 a2) (group b0 b1) p = absurd (apart 1 3 p (omega arith))
  syntax_inj (atom a0 a1 a2) (cat b0) p = absurd (apart 1 4 p (omega arith))
  syntax_inj (atom a0 a1 a2) (alt b0) p = absurd (apart 1 5 p (omega arith))
  syntax_inj (repeated a0 a1 a2 a3) (literal b0 b1) p = absurd (apart 2 0 p (omega arith))
  syntax_inj (repeated a0 a1 a2 a3) (atom b0 b1 b2) p = absurd (apart 2 1 p (omega arith))
  syntax_inj (repeated a0 a1 a2 a3) (repeated b0 b1 b2 b3) p = λ i. repeated (coded_ℕ.inj a0 b0 (ap (λ g. head (tail g)) p) i)
      ((coded_option coded_ℕ).inj a1 b1 (ap (λ g. head (tail (tail g))) p) i) (coded_bool.inj a2 b2 (ap (λ g. head (tail (tail (tail g)))) p) i)
      (syntax_inj a3 b3 (ap (λ g. tail (tail (tail (tail g)))) p) i)
  syntax_inj (repeated a0 a1 a2 a3) (group b0 b1) p = absurd (apart 2 3 p (omega arith))
  syntax_inj (repeated a0 a1 a2 a3) (cat b0) p = absurd (apart 2 4 p (omega arith))
  syntax_inj (repeated a0 a1 a2 a3) (alt b0) p = absurd (apart 2 5 p (omega arith))
  syntax_inj (group a0 a1) (literal b0 b1) p = absurd (apart 3 0 p (omega arith))
  syntax_inj (group a0 a1) (atom b0 b1 b2) p = absurd (apart 3 1 p (omega arith))
  syntax_inj (group a0 a1) (repeated b0 b1 b2 b3) p = absurd (apart 3 2 p (omega arith))
  syntax_inj (group a0 a1) (group b0 b1) p = λ i. group (kind.the_row.coded.inj a0 b0 (ap (λ g. head (tail g)) p) i)
      (syntax_inj a1 b1 (ap (λ g. tail (tail g)) p) i)
  syntax_inj (group a0 a1) (cat b0) p = absurd (apart 3 4 p (omega arith))
  syntax_inj (group a0 a1) (alt b0) p = absurd (apart 3 5 p (omega arith))
  syntax_inj (cat a0) (literal b0 b1) p = absurd (apart 4 0 p (omega arith))
  syntax_inj (cat a0) (atom b0 b1 b2) p = absurd (apart 4 1 p (omega arith))
  syntax_inj (cat a0) (repeated b0 b1 b2 b3) p = absurd (apart 4 2 p (omega arith))
  syntax_inj (cat a0) (group b0 b1) p = absurd (apart 4 3 p (omega arith))
  syntax_inj (cat a0) (cat b0) p = λ i. cat (syntaxes_inj a0 b0 (ap (λ g. tail g) p) i)
  syntax_inj (cat a0) (alt b0) p = absurd (apart 4 5 p (omega arith))
  syntax_inj (alt a0) (literal b0 b1) p = absurd (apart 5 0 p (omega arith))
  syntax_inj (alt a0) (atom b0 b1 b2) p = absurd (apart 5 1 p (omega arith))
  syntax_inj (alt a0) (repeated b0 b1 b2 b3) p = absurd (apart 5 2 p (omega arith))
  syntax_inj (alt a0) (group b0 b1) p = absurd (apart 5 3 p (omega arith))
  syntax_inj (alt a0) (cat b0) p = absurd (apart 5 4 p (omega arith))
  syntax_inj (alt a0) (alt b0) p = λ i. alt (syntaxes_inj a0 b0 (ap (λ g. tail g) p) i)

  pub syntaxes_inj : (x y : Syntaxes) → syntaxes_code x ≡ syntaxes_code y → x ≡ y
  syntaxes_inj nil nil p = refl
  syntaxes_inj nil (cons s ss) p = absurd (cc)
  syntaxes_inj (cons s ss) nil p = absurd (cc)
  syntaxes_inj (cons s ss) (cons t ts) p = λ i. cons (syntax_inj s t (ap (λ g. head g) p) i) (syntaxes_inj ss ts (ap (λ g. tail g) p) i)

abbrev pub coded_syntax : Coded Syntax
coded_syntax = record { code = syntax_code; inj = syntax_inj }

-- one more than that of each part
abbrev mutual
  pub syntax_size : Syntax → ℕ
  syntax_size (literal flags c) = 0
  syntax_size (atom flags piece a) = 0
  syntax_size (repeated min max greedy sub) = suc (syntax_size sub)
  syntax_size (group kind sub) = suc (syntax_size sub)
  syntax_size (cat items) = greatest_size items
  syntax_size (alt branches) = greatest_size branches

  pub greatest_size : Syntaxes → ℕ
  greatest_size nil = 0
  greatest_size (cons s ss) = max (suc (syntax_size s)) (greatest_size ss)
