-- The row in which a search begins.
use Rattle.std.proofs.Common.{◌≡◌, ℕ, zero, suc, ◌+◌, ◌≤◌, List, [], ◌∷◌, length, refl, sym, ◌∙◌, ap, subst, inl, inr, arith}
use Rattle.std.specs.Prelude.{true, Option, Some, None, slice_get, if◌then◌else◌}
use Rattle.rx_model.specs.Search.{Anchor, free, anchored, anchored_to}
use Rattle.rx_model.proofs.lemmas.runs.FirstLemmas.{none-is-some, some-is, tells}
use Rattle.rx_nfa.specs.NextMatch.{start_of}
use Rattle.rx_onepass_table.specs.Rows.{IsRowOf}
use Rattle.rx_onepass_build.specs.Build.{IsStartAt}
use Rattle.rx_onepass_build.specs.Config.{each_of}
use Rattle.rx_onepass_build.proofs.lemmas.ListLemmas.{get-within}
use Rattle.rx_onepass.specs.Dfa.{Dfa, IsSound}
use Rattle.rx_onepass.specs.Search.{taken_as, BelongsTo, IsStartRow}

get-none : {A : Type 0} (xs : List A) (i : ℕ) → slice_get xs i ≡ None → length xs ≤ i
get-none [] i e = omega arith
get-none (x ∷ xs) zero e = none-is-some (sym e)
get-none (x ∷ xs) (suc i) e = let le = get-none xs i e in omega arith

pub get-past : {A : Type 0} (xs : List A) (i : ℕ) → length xs ≤ i → slice_get xs i ≡ None
get-past [] i le = refl
get-past (x ∷ xs) zero le = absurd (omega arith)
get-past (x ∷ xs) (suc i) le = get-past xs i (omega arith)

module _ (d : Dfa) (s : IsSound d) where
  belongs : (row q : ℕ) → IsRowOf s.entries row q → BelongsTo d row q
  belongs row q r = record {
    entries = s.entries;
    table = s.table;
    row_of = r;
    inside = (let is = r.row_is in let rows = s.rows in let within = get-within s.entries r.before q r.there in omega arith);
  }

  start-at : (mode : Anchor) (place q : ℕ) (found : Option ℕ) → found ≡ slice_get d.starts place → IsStartAt s.entries d.starts place q
      → start_of d.nfa (taken_as mode) ≡ Some q → IsStartRow d mode found
  start-at mode place q None is at from = none-is-some (is ∙ at.there)
  start-at mode place q (Some row) is at from =
      (q, from, belongs row q (subst (λ r. IsRowOf s.entries r q) (some-is (sym at.there ∙ sym is)) at.is))

  pub start-anchored : (found : Option ℕ) → found ≡ slice_get d.starts 0 → IsStartRow d anchored found
  start-anchored found is = start-at anchored 0 d.nfa.start_anchored found is s.starts_are.common refl

  pub start-free : (found : Option ℕ) → found ≡ slice_get d.starts 0 → IsStartRow d free found
  start-free found is = start-at free 0 d.nfa.start_anchored found is s.starts_are.common refl

  pub start-each : each_of d.config ≡ true → (p : ℕ) (found : Option ℕ) → found ≡ slice_get d.starts (1 + p) → IsStartRow d (anchored_to p) found
  start-each each p found is =
      let next : 1 + p ≡ suc p = omega arith in
      elim (tells (slice_get d.nfa.starts p)) [
        | inl none ↦
            let count : length d.starts ≡ 1 + length d.nfa.starts = s.starts_are.count ∙ ap (λ b. if b then 1 + length d.nfa.starts else 1) each in
            let past = get-none d.nfa.starts p none in
            subst (λ o. IsStartRow d (anchored_to p) o) (sym (is ∙ get-past d.starts (1 + p) (omega arith))) none
        | inr some ↦ start-at (anchored_to p) (suc p) some.0 found (is ∙ ap (slice_get d.starts) next) (s.starts_are.of_each p some.0 each some.1) some.1
      ]
