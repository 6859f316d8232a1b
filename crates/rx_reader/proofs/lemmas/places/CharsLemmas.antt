-- On the characters that a text spells, and on what they begin with.
use Rattle.std.proofs.Common.{◌≡◌, ℕ, zero, suc, ◌+◌, ◌<◌, ◌≤◌, Bool, true, false, ◌&&◌, List, [], ◌∷◌, length, drop, get_or, cond, None, refl, ◌∙◌, ap, sym, subst, arith}
use Rattle.std.proofs.lemmas.Bool.Decides.{nat_tests}
use Rattle.std.proofs.lemmas.List.{drop_all}
use Rattle.std.proofs.lemmas.Str.{chars-encodes, chars_from_encodes}
use lib.Utf8.{scalar, scalars}
use Rattle.std.specs.Prelude.{nat_eq, slice_get, slice_index}
use Rattle.std.specs.Char.{is_whitespace}
use Rattle.std.specs.List.{prefix_len, starts_with}
use Rattle.std.specs.Str.{IsUtf8, chars, skip_leading_whitespace, trim_start}
use Rattle.rx_reader.proofs.lemmas.places.FrontLemmas.{drop_at}
use Rattle.std.proofs.lemmas.Bool.{and_parts}

-- White space in front is trimmed.

scalars-either : (b : Bool) (rest all : List ℕ) → scalars rest ≡ true → scalars all ≡ true → scalars (cond b rest all) ≡ true
scalars-either true rest all h k = h
scalars-either false rest all h k = k

scalars-skipped : (cs : List ℕ) → scalars cs ≡ true → scalars (skip_leading_whitespace cs) ≡ true
scalars-skipped [] h = h
scalars-skipped (c ∷ cs) h =
    scalars-either (is_whitespace c) (skip_leading_whitespace cs) (c ∷ cs) (scalars-skipped cs (and_parts (scalar c) (scalars cs) h).1) h

dropped-either : (b : Bool) (n c : ℕ) (rest cs : List ℕ) → rest ≡ drop n cs → cond b rest (c ∷ cs) ≡ drop (cond b (1 + n) 0) (c ∷ cs)
dropped-either true n c rest cs is = let one : suc n ≡ 1 + n = omega arith in is ∙ ap (λ (k : ℕ). drop k (c ∷ cs)) one
dropped-either false n c rest cs is = refl

skipped-white : (cs : List ℕ) → skip_leading_whitespace cs ≡ drop (prefix_len is_whitespace cs) cs
skipped-white [] = refl
skipped-white (c ∷ cs) =
    dropped-either (is_whitespace c) (prefix_len is_whitespace cs) c (skip_leading_whitespace cs) cs (skipped-white cs)

pub trimmed : (bs : List ℕ) → IsUtf8 bs → chars (trim_start bs) ≡ drop (prefix_len is_whitespace (chars bs)) (chars bs)
unfolding trim_start
trimmed bs u =
    let spelt : u.0 ≡ chars bs = chars_from_encodes u.0 bs u u.1.1 in
    let all : scalars (chars bs) ≡ true = ap scalars (sym spelt) ∙ u.1.0 in
    chars-encodes (skip_leading_whitespace (chars bs)) (scalars-skipped (chars bs) all) ∙ skipped-white (chars bs)

-- What a text begins with.

pub first-at : (text cs : List ℕ) (c : ℕ) → text ≡ c ∷ cs → (0 < length text) × (c ≡ slice_index text 0)
first-at text cs c is = (omega (arith, ap (λ (t : List ℕ). length t) is), sym (ap (λ (t : List ℕ). slice_index t 0) is))

itself : (c : ℕ) → nat_eq c c ≡ true
itself c = grind (arith, nat_tests)

-- of a word from n on: its next character stands there, another, or none, or the word is over
pub begins-goes : (text cs word : List ℕ) (n c d : ℕ) → text ≡ d ∷ cs → n < length word → c ≡ get_or word n c → d ≡ c
    → starts_with nat_eq text (drop n word) ≡ starts_with nat_eq cs (drop (n + 1) word)
begins-goes text cs word n c d is lt at same =
    rw (is, drop_at word n c lt at, same) (ap (λ (b : Bool). b && starts_with nat_eq cs (drop (n + 1) word)) (itself c))

pub begins-stops : (text cs word : List ℕ) (n c d : ℕ) → text ≡ d ∷ cs → n < length word → c ≡ get_or word n c → nat_eq c d ≡ false
    → starts_with nat_eq text (drop n word) ≡ false
begins-stops text cs word n c d is lt at other = rw (is, drop_at word n c lt at, other) refl

pub begins-none : (text word : List ℕ) (n c : ℕ) → text ≡ [] → n < length word → c ≡ get_or word n c → starts_with nat_eq text (drop n word) ≡ false
begins-none text word n c is lt at = rw (is, drop_at word n c lt at) refl

pub begins-ends : (text word : List ℕ) (n : ℕ) → length word ≤ n → starts_with nat_eq text (drop n word) ≡ true
begins-ends text word n le = rw (drop_all n word le) refl

-- A character that comes behind n others.

pub turn-at : (cs : List ℕ) (n m c : ℕ) → n ≡ m → (m < length cs) × (c ≡ get_or cs m c) → (n < length cs) × (c ≡ get_or cs n c)
turn-at cs n m c is at = subst (λ k. (k < length cs) × (c ≡ get_or cs k c)) (sym is) at

pub none-at : (cs : List ℕ) (n : ℕ) → length cs ≤ n → slice_get cs n ≡ None
none-at [] n le = refl
none-at (c ∷ cs) zero le = absurd (omega (arith, le))
none-at (c ∷ cs) (suc n) le = none-at cs n (omega (arith, le))
