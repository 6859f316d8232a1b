-- On places.
use Rattle.std.proofs.Common.{◌≡◌, ℕ, zero, suc, ◌+◌, ◌<◌, ◌==◌, true, false, Bool, ◌∙◌, true≢false, ◌||◌, ◌&&◌, not, List, [], ◌∷◌, length, drop, refl, ap, ap₂, sym, arith}
use Rattle.std.proofs.lemmas.Bool.Decides.{nat_tests}
use Rattle.std.specs.List.{list_any}
use Rattle.std.specs.Char.{len_utf8}
use Rattle.rx_reader.proofs.lemmas.places.CharsLemmas.{first-at}
use Rattle.rx_reader.specs.Reading.{Place, at_end, first, past, is_among, passes, past_if, past_while, past_all}

pub list_any-is_among : (c : ℕ) (ds : List ℕ) → list_any (λ d. d == c) ds ≡ is_among c ds
list_any-is_among c [] = refl
list_any-is_among c (d ∷ []) = grind (arith, nat_tests)
list_any-is_among c (d ∷ e ∷ rest) =
    let turn : (d == c) ≡ (c == d) = grind (arith, nat_tests) in ap₂ ◌||◌ turn (list_any-is_among c (e ∷ rest))

pub not_at_end : (p : Place) → 0 < length p.text → at_end p ≡ false
not_at_end p h = grind (arith, nat_tests)

pub past_at : (p : Place) (t : List ℕ) (c w : ℕ) → 0 < length p.text → t ≡ drop 1 p.text → c ≡ first p → w ≡ len_utf8 c
    → past p ≡ record { text = t; at = p.at + w; groups = p.groups; names = p.names }
past_at p t c w h text char width = past_in _ _ (not_at_end p h) text char width
  where
    past_in : (p : Place) (t : List ℕ) {c w : ℕ} → at_end p ≡ false → t ≡ drop 1 p.text → c ≡ first p → w ≡ len_utf8 c
        → past p ≡ record { text = t; at = p.at + w; groups = p.groups; names = p.names }
    past_in p t e text char width = rw e (cc (ap len_utf8 char))

-- past a character that stands there before these
pub past_first : (p : Place) (cs : List ℕ) (c w : ℕ) → p.text ≡ c ∷ cs → w ≡ len_utf8 c
    → past p ≡ record { text = cs; at = p.at + w; groups = p.groups; names = p.names }
past_first p cs c w is width =
    let first = first-at p.text cs c is in
    past_at p cs c w first.0 (sym (ap (λ (t : List ℕ). drop 1 t) is)) first.1 width

-- a character stands there, which is one of these or not
pub is_at_of : (p : Place) (ds : List ℕ) (c : ℕ) → 0 < length p.text → c ≡ first p → (not (at_end p) && is_among (first p) ds) ≡ list_any (λ d. d == c) ds
is_at_of p ds c h char = rw (not_at_end p h, ← char) (sym (list_any-is_among c ds))

-- a character stands there, which passes the test or not
pub passes_of : (p : Place) (test : ℕ → Bool) (c : ℕ) → 0 < length p.text → c ≡ first p → passes test p ≡ test c
passes_of p test c h char = rw (not_at_end p h, ← char) refl

pub passes_end : (p : Place) (test : ℕ → Bool) → length p.text ≡ 0 → passes test p ≡ false
passes_end p test h = ap (λ (n : ℕ). not (n == 0) && test (first p)) h

-- past the characters that pass, by one step
past_while_goes : (p : Place) (test : ℕ → Bool) (t : List ℕ) → p.text ≡ t → passes test p ≡ true → past_all test p ≡ past_all test (past p)
unfolding past_while
past_while_goes p test [] is h = absurd (true≢false (sym h ∙ passes_end p test (ap length is)))
past_while_goes p test (c ∷ cs) is h =
    ap (λ (n : ℕ). past_while test n p) (ap length is) ∙ ap (past_if (past_while test (length cs)) p) h
    ∙ ap (λ (n : ℕ). past_while test n (past p)) (sym (ap (λ (t : List ℕ). length (drop 1 t)) is))

pub past_all_goes : (p : Place) (test : ℕ → Bool) → passes test p ≡ true → past_all test p ≡ past_all test (past p)
past_all_goes p test h = past_while_goes p test p.text refl h

past_while_stops : (n : ℕ) (p : Place) (test : ℕ → Bool) → passes test p ≡ false → past_while test n p ≡ p
unfolding past_while
past_while_stops zero p test h = refl
past_while_stops (suc n) p test h = ap (past_if (past_while test n) p) h

pub past_all_stops : (p : Place) (test : ℕ → Bool) → passes test p ≡ false → past_all test p ≡ p
past_all_stops p test h = past_while_stops (length p.text) p test h
