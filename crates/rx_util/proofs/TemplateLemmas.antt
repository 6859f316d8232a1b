-- How the parts of a template are read, and what they stand for.
use Rattle.std.proofs.Common.{◌≡◌, ℕ, ◌+◌, ◌-◌, ◌<◌, ◌≤◌, ◌^◌, ◌==◌, ◌&&◌, Bool, true, false, nat_lt, List, [], ◌∷◌, ◌++◌, length, take, drop, get_or, slice_index, Option, Some, None, IfSome, Result, Ok, Err, MatchResult, IsUtf8, Bor, sym, refl, ap, ◌∙◌, zero, suc, arith, lt-ltb, ltb-true, eqb-true, true≢false, length-drop, get_or-drop, get_or-take, ⊎_elim, subst, append_assoc}
use Rattle.std.proofs.lemmas.Bool.{false_from_ne_true, cases_lt, and_from, and_parts, cond-false}
use Rattle.std.proofs.lemmas.Bool.Decides.{nat_tests}
use Rattle.std.proofs.lemmas.List.{get_or_past}
use Rattle.std.proofs.lemmas.List.Folds.{length-prefix_len}
use Rattle.std.proofs.lemmas.List.Sums.{prefix_len_passes}
use Rattle.std.proofs.lemmas.List.Quantifiers.{position-Some}
use Rattle.std.proofs.lemmas.Str.{IsUtf8-from_ascii, IsUtf8-from_is_utf8, is_utf8-from_IsUtf8}
use Rattle.std.specs.Char.{is_digit, digit_value}
use Rattle.std.specs.List.{list_all, position, prefix_len}
use Rattle.std.specs.Str.{is_utf8}
use Rattle.std.specs.Str.Parse.{AllDigits, ParsesUnsigned, without_leading_plus, digits_value}
use Rattle.rx_util.specs.Template.{Reference, is_dollar, is_name_byte, braced, number_of, at_dollar, IsTextOf, IsFrontOf, HasOneText, BeginsWithFronts}
use Rattle.rx_util.specs.Template.IsTextOf.{plain, dollar}
use Rattle.rx_util.specs.Template.IsFrontOf.{none, to_dollar, past_dollar}

-- References

pub braced-open : (inside : List ℕ) (place : Option ℕ) → place ≡ None → ◌≡◌ {A = Option Reference} None (braced inside place)
braced-open inside place e = rw e

pub braced-broken : (inside : List ℕ) (place : Option ℕ) (len : ℕ) → Some len ≡ place → ¬ (IsUtf8 (take len inside))
    → ◌≡◌ {A = Option Reference} None (braced inside place)
braced-broken inside place len e broken =
    let no : is_utf8 (take len inside) ≡ false = false_from_ne_true _ (λ t. broken (IsUtf8-from_is_utf8 (take len inside) t)) in
    rw (← e, no)

pub braced-text : (inside : List ℕ) (place : Option ℕ) (len : ℕ) → Some len ≡ place → IsUtf8 (take len inside)
    → ◌≡◌ {A = Option Reference} (Some (take len inside, len + 2)) (braced inside place)
braced-text inside place len e text = rw (← e, is_utf8-from_IsUtf8 (take len inside) text)

-- where a reference in braces ends
pub end-braced : (after : List ℕ) (r : Option (Bor (List ℕ) × ℕ)) → 0 < length after
    → IfSome r (λ found. (1 < found.1) × (found.1 ≤ length (drop 1 after) + 1) × (slice_index (drop 1 after) (found.1 - 2) ≡ 125))
    → IfSome r (λ found. (0 < found.1) × (found.1 ≤ length after) × (slice_index after (found.1 - 1) < 128))
end-braced after None some h = tt
end-braced after (Some found) some h =
    let back : 1 + (found.1 - 2) ≡ found.1 - 1 = omega (arith, h.0) in
    let brace : get_or after (found.1 - 1) 0 ≡ 125 = rw (get_or-drop, back) at h.2 in
    (omega (arith, h.0), omega (arith, h.1, length-drop 1 after), omega (arith, brace))

name_byte_is_ascii : (b : ℕ) → is_name_byte b ≡ true → b < 128
name_byte_is_ascii b h = grind (arith, nat_tests)

pub name_is_ascii : (t : List ℕ) (k : ℕ) → k < prefix_len is_name_byte t → get_or t k 0 < 128
name_is_ascii t k h = name_byte_is_ascii _ (prefix_len_passes is_name_byte t k 0 h)

pub name_is_text : (t : List ℕ) → IsUtf8 (take (prefix_len is_name_byte t) t)
name_is_text t = IsUtf8-from_ascii _ (λ i. ⊎_elim
    (λ lt. rw (get_or-take (prefix_len is_name_byte t) t i 0 lt) (name_is_ascii t i lt))
    (λ ge. rw (get_or_past (take (prefix_len is_name_byte t) t) i 0 (omega (arith, length-prefix_len is_name_byte t))) (omega arith))
    (cases_lt i (prefix_len is_name_byte t)))

digits_pass : (ds : List ℕ) → AllDigits 10 ds → list_all (λ b. is_digit b 10) ds ≡ true
digits_pass [] h = refl
digits_pass (d ∷ ds) h = and_from _ _ (lt-ltb _ 10 h.0) (digits_pass ds h.1)

digits_from : (ds : List ℕ) → list_all (λ b. is_digit b 10) ds ≡ true → AllDigits 10 ds
digits_from [] h = tt
digits_from (d ∷ ds) h = let both = and_parts (is_digit d 10) _ h in (ltb-true _ 10 both.0, digits_from ds both.1)

plus_is_no_digit : (name : List ℕ) → (slice_index name 0 == 43) ≡ true → 0 < length name → AllDigits 10 name → ⊥
plus_is_no_digit [] h any digits = omega arith
plus_is_no_digit (b ∷ name) h any digits = let digit : digit_value 43 < 10 = subst (λ (d : ℕ). digit_value d < 10)
    (eqb-true b 43 h) digits.0 in omega (arith, digit)

pub no_plus : (name : List ℕ) → (slice_index name 0 == 43) ≡ true → ◌≡◌ {A = Option ℕ} None (number_of name)
no_plus name h =
    let any : Bool = nat_lt 0 (length name) in
    let digits : Bool = list_all (λ b. is_digit b 10) name in
    let fits : Bool = nat_lt (digits_value 10 name) (2 ^ 64) in
    sym (cond-false (any && digits && fits) (Some (digits_value 10 name)) None (false_from_ne_true (any && digits && fits) (λ all.
    let outer = and_parts (any && digits) fits all in
    let inner = and_parts any digits outer.0 in
    plus_is_no_digit name h (ltb-true 0 _ inner.0) (digits_from name inner.1))))

pub number_parsed : {E : Type 0} (name : List ℕ) (r : Result ℕ E) → (slice_index name 0 == 43) ≡ false → ParsesUnsigned 64 10 name r →
    MatchResult r (λ n. Some n ≡ number_of name) (λ _. None ≡ number_of name)
number_parsed name (Ok n) first h =
    let same : without_leading_plus name ≡ name = rw first in
    let p = rw same at h in
    rw (p.1, lt-ltb _ _ p.0.0.0, digits_pass _ p.0.0.1, lt-ltb _ _ p.0.1)
number_parsed name (Err e) first h =
    let same : without_leading_plus name ≡ name = rw first in
    let p = rw same at h in
    sym (cond-false _ _ _ (false_from_ne_true _ (λ all.
    let outer = and_parts (nat_lt 0 (length name) && list_all (λ b. is_digit b 10) name) _ all in
    let inner = and_parts (nat_lt 0 (length name)) _ outer.0 in
    p ((ltb-true 0 _ inner.0, digits_from name inner.1), ltb-true _ _ outer.1))))

module _ (piece : ℕ → List ℕ) (index : List ℕ → Option ℕ) where
  -- Each template has one text

  has_text_at : (n : ℕ) (template : List ℕ) → length template ≤ n → (place : Option ℕ) → position is_dollar template ≡ place
      → (text : List ℕ) × IsTextOf piece index template text
  has_text_at n template le None e = (template, plain template e)
  has_text_at zero template le (Some place) e = absurd (let there = position-Some is_dollar template place 0 e in omega (arith, there.0))
  has_text_at (suc n) template le (Some place) e =
      let there = position-Some is_dollar template place 0 e in
      let next : List ℕ = drop (place + 1 + (at_dollar piece index (drop (place + 1) template)).1) template in
      let later = has_text_at n next (omega (
        arith,
        there.0,
        length-drop (place + 1 + (at_dollar piece index (drop
            (place + 1) template)).1) template,
      )) (position is_dollar next) refl in
      (_, dollar template later.0 place e later.1)

  pub has_text : (template : List ℕ) → (text : List ℕ) × IsTextOf piece index template text
  has_text template = has_text_at (length template) template (omega arith) (position is_dollar template) refl

  abbrev text_at : (template text : List ℕ) (place : ℕ) → List ℕ
  text_at template text place = take place template ++ ((at_dollar piece index (drop (place + 1) template)).0 ++ text)

  abbrev is_place : Option ℕ → Bool
  is_place None = false
  is_place (Some place) = true

  one_text : (template a b : List ℕ) → IsTextOf piece index template a → IsTextOf piece index template b → a ≡ b
  one_text template _ _ (plain _ e) (plain _ f) = refl
  one_text template _ _ (plain _ e) (dollar _ text place f later) = absurd (true≢false (ap is_place (sym f ∙ e)))
  one_text template _ _ (dollar _ text place e later) (plain _ f) = absurd (true≢false (ap is_place (sym e ∙ f)))
  one_text template _ _ (dollar _ text place e later) (dollar _ other spot f after) =
      let same : place ≡ spot = grind (arith, e, f) in
      let again : IsTextOf piece index (drop (place + 1 + (at_dollar piece index (drop (place + 1) template)).1) template) other =
      subst (λ (p : ℕ). IsTextOf piece index (drop (p + 1 + (at_dollar piece index (drop (p + 1) template)).1) template) other) (sym same) after in
      ap (λ (t : List ℕ). text_at template t place) (one_text _ text other later again) ∙ ap (λ (p : ℕ). text_at template other p) same

  -- what is behind a front in the text
  behind : (template text front : List ℕ) → IsTextOf piece index template text → IsFrontOf piece index template front → (rest : List ℕ) × (text ≡ front ++ rest)
  behind template text _ is (none _) = (text, refl)
  behind template _ _ (plain _ e) (to_dollar _ place f) = absurd (true≢false (ap is_place (sym f ∙ e)))
  behind template _ _ (plain _ e) (past_dollar _ front place f later) = absurd (true≢false (ap is_place (sym f ∙ e)))
  behind template _ _ (dollar _ text place e later) (to_dollar _ spot f) =
      let same : place ≡ spot = grind (arith, e, f) in
      let stands : List ℕ = (at_dollar piece index (drop (place + 1) template)).0 in
      (stands ++ text, ap (λ (p : ℕ). take p template ++ (stands ++ text)) same)
  behind template _ _ (dollar _ text place e later) (past_dollar _ front spot f after) =
      let same : place ≡ spot = grind (arith, e, f) in
      let again : IsFrontOf piece index (drop (place + 1 + (at_dollar piece index (drop (place + 1) template)).1) template) front =
      subst (λ (p : ℕ). IsFrontOf piece index (drop (p + 1 + (at_dollar piece index (drop (p + 1) template)).1) template) front) (sym same) after in
      let more = behind _ text front later again in
      let stands : List ℕ = (at_dollar piece index (drop (place + 1) template)).0 in (
        more.0,
        ap (λ (t : List ℕ). text_at template t place) more.1
            ∙ ap (λ (t : List ℕ). take place template ++ t) (sym (append_assoc stands front more.0))
            ∙ sym (append_assoc (take place template) (stands ++ front) more.0)
            ∙ ap (λ (p : ℕ). text_at template front p ++ more.0) same,
      )

pub begins : BeginsWithFronts
begins piece index template text front is from = behind piece index template text front is from

pub one : HasOneText
one piece index template = let found = has_text piece index template in (found.0, found.1, λ other is. one_text piece index template other found.0 is found.1)
