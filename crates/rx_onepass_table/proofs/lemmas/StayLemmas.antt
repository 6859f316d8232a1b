-- A walk that stays in a row over some bytes.
use Rattle.std.proofs.Common.{◌≡◌, ℕ, zero, suc, ◌+◌, ◌-◌, ◌≤◌, ◌<◌, ◌==◌, List, [], ◌∷◌, refl, sym, ◌∙◌, ap, arith, true≢false}
use Rattle.std.specs.Prelude.{Bool, true, false, ◌&&◌, Option, Some, None, is_some, IfNone, if◌then◌else◌, slice_index}
use Rattle.std.specs.Option.{option_or}
use Rattle.std.proofs.lemmas.Nat.Bits.{bit_at-zero}
use Rattle.rx_model.specs.Runs.{Trace, everywhere}
use Rattle.rx_model.proofs.lemmas.runs.OptionLemmas.{or-none_right}
use Rattle.rx_search.specs.Matches.{HalfMatchValue}
use Rattle.rx_nfa.specs.Nfa.{Nfa}
use Rattle.rx_onepass_table.specs.Along.{walk, with_writes, written_at, written_below, told_here, told_later, preferred}
use Rattle.rx_onepass_table.specs.Entry.{explicit_start}
use Rattle.rx_onepass_table.specs.Rows.{TableValue, step_in, final_in}
use Rattle.rx_onepass_table.specs.Search.{IsSearching}
use Rattle.rx_onepass_table.specs.Words.{Step, dead}
use Rattle.rx_onepass_table.proofs.lemmas.SearchLemmas.{here-no_pattern, here-told, preferred-some}
use Rattle.rx_onepass_table.proofs.lemmas.SetLemmas.{none-asked}
use Rattle.rx_onepass_table.proofs.lemmas.ShownLemmas.{plain-goes}

-- a step that leads to its row, and tells nothing else
abbrev pub staying : ℕ → Step
staying row = record { target = row; wins = false; slots = 0; looks = 0 }

nothing-written : (start place n : ℕ) → written_below start 0 place n ≡ []
unfolding written_below
nothing-written start place zero = refl
nothing-written start place (suc n) =
    ap (λ b. if b == 1 then (start + n, place) ∷ written_below start 0 place n else written_below start 0 place n) (bit_at-zero n)
    ∙ nothing-written start place n

no-writes : (o : Option Trace) → with_writes [] o ≡ o
no-writes None = refl
no-writes (Some t) = refl

and-false : (b : Bool) → (b && false) ≡ false
and-false true = refl
and-false false = refl

first-some : (o other : Option Trace) → is_some o ≡ true → option_or o other ≡ o
first-some None other h = absurd (true≢false (sym h))
first-some (Some t) other h = refl

-- where there is none, what follows from what holds then
pub if-none : {X A B : Type 0} (o : Option X) → IfNone o A → (A → B) → IfNone o B
if-none None holds f = f holds
if-none (Some x) holds f = tt

module _ (nfa : Nfa) (t : TableValue) (may_win : Bool) (text : List ℕ) (row : ℕ) (alive : row ≡ dead → ⊥) (free : (final_in t row).looks ≡ 0) where
  abbrev onward : (n place : ℕ) → Option Trace
  onward n place = walk nfa t may_win everywhere text n place row

  abbrev here : (place : ℕ) → Option Trace
  here place = told_here nfa everywhere text (final_in t row) place

  -- where the row tells a match, each walk from it does
  walk-some : (p : ℕ) → (final_in t row).pattern ≡ Some p → (n place : ℕ) → is_some (onward n place) ≡ true
  unfolding walk
  walk-some p e zero place =
      ap is_some (here-told nfa text (final_in t row) place p e (none-asked nfa.terminator text (final_in t row).looks place free))
  walk-some p e (suc n) place =
      let s = step_in t row (slice_index text place) in
      let later = told_later nfa text s place (walk nfa t may_win everywhere text n (place + 1) s.target) in
      ap (λ h. is_some (preferred (may_win && s.wins) h later))
      (here-told nfa text (final_in t row) place p e (none-asked nfa.terminator text (final_in t row).looks place free))
      ∙ preferred-some (may_win && s.wins) (record { pattern = p; end = place; writes = written_at nfa (final_in t row).slots place }) later

  -- what is told here is told behind the byte too
  later-first : (n place : ℕ) → option_or (onward n (place + 1)) (here place) ≡ onward n (place + 1)
  later-first n place = by (final_in t row).pattern refl
    where
      by : (o : Option ℕ) → (final_in t row).pattern ≡ o → option_or (onward n (place + 1)) (here place) ≡ onward n (place + 1)
      by None e = ap (option_or (onward n (place + 1))) (here-no_pattern nfa text (final_in t row) place e) ∙ or-none_right (onward n (place + 1))
      by (Some p) e = first-some (onward n (place + 1)) (here place) (walk-some p e n (place + 1))

  later-is : (place : ℕ) (o : Option Trace) → told_later nfa text (staying row) place o ≡ o
  later-is place o =
      ap (λ b. if b then with_writes (written_at nfa 0 place) o else None) (plain-goes nfa text (staying row) place alive refl)
      ∙ ap (λ ws. with_writes ws o) (nothing-written (explicit_start nfa) place 32) ∙ no-writes o

  stay-once : (n place : ℕ) → step_in t row (slice_index text place) ≡ staying row → onward (suc n) place ≡ onward n (place + 1)
  unfolding walk
  stay-once n place e =
      ap (λ (s : Step). preferred (may_win && s.wins) (here place) (told_later nfa text s place (walk nfa t may_win everywhere text n (place + 1) s.target))) e
      ∙ ap (λ b. preferred b (here place) (told_later nfa text (staying row) place (onward n (place + 1)))) (and-false may_win)
      ∙ ap (λ o. option_or o (here place)) (later-is place (onward n (place + 1)))
      ∙ later-first n place

  stays : (j n place : ℕ) → ((k : ℕ) → place ≤ k → k < place + j → step_in t row (slice_index text k) ≡ staying row)
      → onward (j + n) place ≡ onward n (place + j)
  stays zero n place h =
      let none : 0 + n ≡ n = omega arith in let same : place ≡ place + 0 = omega arith in
      ap (λ m. onward m place) none ∙ ap (onward n) same
  stays (suc j) n place h =
      let more : suc j + n ≡ suc (j + n) = omega arith in
      let same : place + 1 + j ≡ place + suc j = omega arith in
      ap (λ m. onward m place) more
      ∙ stay-once (j + n) place (h place (omega arith) (omega arith))
      ∙ stays j n (place + 1) (λ k from to. h k (omega arith) (omega arith))
      ∙ ap (onward n) same

  pub walk-stays : (end place later : ℕ) → place ≤ later → later ≤ end
      → ((k : ℕ) → place ≤ k → k < later → step_in t row (slice_index text k) ≡ staying row) → onward (end - place) place ≡ onward (end - later) later
  walk-stays end place later from to h =
      let all : end - place ≡ (later - place) + (end - later) = omega arith in
      let there : place + (later - place) ≡ later = omega arith in
      ap (λ m. onward m place) all
      ∙ stays (later - place) (end - later) place (λ k low high. h k low (omega arith))
      ∙ ap (onward (end - later)) there

  pub searching-stays : (end place later : ℕ) → place ≤ later → later ≤ end
      → ((k : ℕ) → place ≤ k → k < later → step_in t row (slice_index text k) ≡ staying row) → (told : Option Trace) (places : List (Option ℕ))
      (best : Option HalfMatchValue) (out : List (Option ℕ)) → IsSearching nfa t may_win text told (end - place) place row places best out
      → IsSearching nfa t may_win text told (end - later) later row places best out
  searching-stays end place later from to h told places best out s = record {
    writes = s.writes;
    before = s.before;
    told_is = s.told_is ∙ ap (λ o. option_or (with_writes s.writes o) s.before) (walk-stays end place later from to h);
    places_are = s.places_are;
    best_is = s.best_is;
    out_are = s.out_are;
  }
