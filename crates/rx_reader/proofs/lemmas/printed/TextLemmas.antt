-- A place before which a text was read, and before which it is to be read.
use Rattle.std.proofs.Common.{◌≡◌, ℕ, ◌==◌, Bool, true, false, not, ◌&&◌, ◌||◌, List, [], ◌∷◌, ◌++◌, length, cond, refl, ◌∙◌, ap, sym, true≢false, arith}
use Rattle.std.proofs.lemmas.Bool.{and_parts, and_right}
use Rattle.std.proofs.lemmas.Bool.Decides.{nat_tests}
use Rattle.std.proofs.lemmas.List.Sums.{take_while-cons}
use Rattle.std.specs.Prelude.{codes, nat_eq}
use Rattle.std.specs.List.{list_all, starts_with, take_while}
use Rattle.std.specs.Char.{is_ascii_digit}
use Rattle.rx_reader.specs.Reading.{Place, at_end, past, ◌∈◌, is_at, passes, past_all}
use Rattle.rx_reader.specs.Ahead.{past_n}
use Rattle.rx_reader.specs.Grammar.{is_operator}
use Rattle.rx_reader.proofs.lemmas.places.PlaceLemmas.{not_at_end, past_all_goes, past_all_stops}
use Prim.Native.String.{String}

-- the place, with this text still to read
abbrev pub onto : List ℕ → Place → Place
onto text p = record { text = text; at = p.at; groups = p.groups; names = p.names }

pub goes-on : (c : ℕ) (more : List ℕ) (p : Place) → at_end (onto (c ∷ more) p) ≡ false
goes-on c more p = not_at_end (onto (c ∷ more) p) (omega arith)

-- whether the character there is one of these
pub here : (s : String) (c : ℕ) (more : List ℕ) (p : Place) → is_at s (onto (c ∷ more) p) ≡ c ∈ s
here s c more p = ap (λ (b : Bool). not b && c ∈ s) (goes-on c more p)

-- past a text
pub past-text : (text rest : List ℕ) (p : Place) → (q : Place) × (past_n (length text) (onto (text ++ rest) p) ≡ onto rest q)
unfolding past_n
past-text [] rest p = (p, refl)
past-text (c ∷ cs) rest p = past-text cs rest (past (onto (c ∷ cs ++ rest) p))

-- what passes a test, in front of what doesn't
pub while-front : (test : ℕ → Bool) (text : List ℕ) (c : ℕ) (more : List ℕ) → list_all test text ≡ true → test c ≡ false
    → take_while test (text ++ c ∷ more) ≡ text
while-front test [] c more all other =
    take_while-cons test c more ∙ ap (λ (b : Bool). cond b (c ∷ take_while test more) []) other
while-front test (d ∷ ds) c more all other =
    let both = and_parts (test d) (list_all test ds) all in
    take_while-cons test d (ds ++ c ∷ more)
    ∙ ap (λ (b : Bool). cond b (d ∷ take_while test (ds ++ c ∷ more)) []) both.0
    ∙ ap (λ (xs : List ℕ). d ∷ xs) (while-front test ds c more both.1 other)

passing : (test : ℕ → Bool) (c : ℕ) (more : List ℕ) (p : Place) → passes test (onto (c ∷ more) p) ≡ test c
passing test c more p = ap (λ (b : Bool). not b && test c) (goes-on c more p)

-- past all of it
pub past-front : (test : ℕ → Bool) (text : List ℕ) (c : ℕ) (more : List ℕ) (p : Place) → list_all test text ≡ true → test c ≡ false
    → (q : Place) × (past_all test (onto (text ++ c ∷ more) p) ≡ onto (c ∷ more) q)
past-front test [] c more p all other = (p, past_all_stops (onto (c ∷ more) p) test (passing test c more p ∙ other))
past-front test (d ∷ ds) c more p all other =
    let both = and_parts (test d) (list_all test ds) all in
    let start : Place = onto (d ∷ ds ++ c ∷ more) p in
    let later = past-front test ds c more (past start) both.1 other in
    (later.0, past_all_goes start test (passing test d (ds ++ c ∷ more) p ∙ both.0) ∙ later.1)

pub same-number : (c d : ℕ) → (c == d) ≡ true → c ≡ d
same-number c d h = grind (arith, nat_tests)

-- what passes a test isn't what doesn't
pub differ : (test : ℕ → Bool) (b : Bool) (c d : ℕ) → test c ≡ b → test d ≡ not b → (c == d) ≡ false
differ test b c d one other = by (c == d) refl
  where
    unlike : (x : Bool) → x ≡ not x → ⊥
    unlike true e = true≢false e
    unlike false e = true≢false (sym e)

    by : (x : Bool) → (c == d) ≡ x → x ≡ false
    by false is = refl
    by true is = absurd (unlike b (sym one ∙ ap test (same-number c d is) ∙ other))

pub turned : (d c : ℕ) → (c == d) ≡ false → (d == c) ≡ false
turned d c other = grind (arith, nat_tests, other)

-- No operator of repetition begins a text.

abbrev pub quiet : List ℕ → Bool
quiet [] = true
quiet (c ∷ cs) = not (c ∈ "*+?{")

pub quiet-place : (text : List ℕ) (p : Place) → quiet text ≡ true → is_operator (onto text p) ≡ false
quiet-place [] p h = refl
quiet-place (c ∷ cs) p h = here "*+?{" c cs p ∙ by (c ∈ "*+?{") h
  where
    by : (b : Bool) → not b ≡ true → b ≡ false
    by true g = sym g
    by false g = refl

pub no-question : (c : ℕ) → not (c ∈ "*+?{") ≡ true → (63 == c) ≡ false
no-question c h = by (63 == c) refl
  where
    by : (x : Bool) → (63 == c) ≡ x → x ≡ false
    by false is = refl
    by true is = absurd (true≢false (sym h ∙ ap (λ d. not (d ∈ "*+?{")) (sym (same-number 63 c is))))

-- nor does a `?`
pub quiet-question : (text : List ℕ) → quiet text ≡ true → starts_with nat_eq text (codes "?") ≡ false
quiet-question [] h = refl
quiet-question (c ∷ cs) h = rw (no-question c h) refl

-- After `\b` the text can't go on with a word in braces: no brace begins it, or a digit comes after the brace.

abbrev pub calm : List ℕ → Bool
calm [] = true
calm (c ∷ []) = true
calm (c ∷ d ∷ more) = not (c == 123) || is_ascii_digit d

pub quiet-calm : (text : List ℕ) → quiet text ≡ true → calm text ≡ true
quiet-calm [] h = refl
quiet-calm (c ∷ []) h = refl
quiet-calm (c ∷ d ∷ more) h = by (c == 123) refl
  where
    by : (b : Bool) → (c == 123) ≡ b → (not b || is_ascii_digit d) ≡ true
    by false is = refl
    by true is = absurd (true≢false (sym h ∙ ap (λ x. not (x ∈ "*+?{")) (same-number c 123 is)))

-- a word in braces that begins with no digit
pub no-word : (text : List ℕ) (x : ℕ) (xs : List ℕ) → calm text ≡ true → is_ascii_digit x ≡ false → starts_with nat_eq text (123 ∷ x ∷ xs) ≡ false
no-word [] x xs h other = refl
no-word (c ∷ []) x xs h other = and_right (123 == c) false refl
no-word (c ∷ d ∷ more) x xs h other = by (c == 123) refl h
  where
    by : (b : Bool) → (c == 123) ≡ b → (not b || is_ascii_digit d) ≡ true → starts_with nat_eq (c ∷ d ∷ more) (123 ∷ x ∷ xs) ≡ false
    by false is g = rw (turned 123 c is) refl
    by true is g =
        let same : (123 == c) ≡ true = grind (arith, nat_tests, is) in
        rw (same, differ is_ascii_digit false x d other g) refl

pub first-calm : (c : ℕ) (more : List ℕ) → (c == 123) ≡ false → calm (c ∷ more) ≡ true
first-calm c [] h = refl
first-calm c (d ∷ more) h = rw h refl
