-- Slots that are put late: what is shown stays what a search keeps.
use Rattle.std.proofs.Common.{◌≡◌, ℕ, zero, suc, ◌+◌, ◌<◌, ◌==◌, List, [], ◌∷◌, length, refl, sym, ◌∙◌, ap, arith}
use Rattle.std.specs.Prelude.{Bool, true, false, not, ◌&&◌, Option, Some, None, IfSome, if◌then◌else◌, slice_index_or}
use Rattle.std.specs.Int.{bit_at}
use Rattle.std.proofs.lemmas.Bool.Decides.{nat_tests}
use Rattle.rx_model.proofs.lemmas.runs.RunLemmas.{by_test}
use Rattle.rx_model.specs.Runs.{Trace}
use Rattle.rx_search.specs.Matches.{HalfMatchValue}
use Rattle.rx_nfa.specs.Nfa.{Nfa}
use Rattle.rx_onepass_table.specs.Along.{all_hold, goes_on}
use Rattle.rx_onepass_table.specs.Rows.{TableValue}
use Rattle.rx_onepass_table.specs.Search.{AreWritten, IsAnswer, IsSearching, put_from, shown}
use Rattle.rx_onepass_table.specs.Words.{Step, dead}
use Rattle.rx_onepass_table.specs.declared.walk.Told.{Told}
use Rattle.rx_onepass_table.proofs.lemmas.SetLemmas.{none-asked}

pub put-length : (set place k : ℕ) (slots : List (Option ℕ)) → length (put_from set place k slots) ≡ length slots
unfolding put_from
put-length set place k [] = refl
put-length set place k (slot ∷ slots) = ap suc (put-length set place (suc k) slots)

put-behind : (set place k : ℕ) (slots : List (Option ℕ)) (i : ℕ) → i < length slots
    → slice_index_or (put_from set place k slots) i None ≡ (if bit_at set (k + i) == 1 then Some place else slice_index_or slots i None)
unfolding put_from
put-behind set place k [] i lt = absurd (omega arith)
put-behind set place k (slot ∷ slots) zero lt =
    let same : k ≡ k + 0 = omega arith in
    ap (λ n. if bit_at set n == 1 then Some place else slot) same
put-behind set place k (slot ∷ slots) (suc i) lt =
    let next : suc k + i ≡ k + suc i = omega arith in
    put-behind set place (suc k) slots i (omega arith)
    ∙ ap (λ n. if bit_at set n == 1 then Some place else slice_index_or slots i None) next

-- each slot of those that are put
pub put-each : (set place : ℕ) (slots : List (Option ℕ)) (k : ℕ) → k < length (put_from set place 0 slots)
    → slice_index_or (put_from set place 0 slots) k None ≡ (if bit_at set k == 1 then Some place else slice_index_or slots k None)
put-each set place slots k lt =
    let long = put-length set place 0 slots in let same : 0 + k ≡ k = omega arith in
    put-behind set place 0 slots k (omega arith) ∙ ap (λ n. if bit_at set n == 1 then Some place else slice_index_or slots k None) same

-- as many slots are shown
pub shown-length : (left : Option Told) (places out : List (Option ℕ)) → length places ≡ length out → length (shown left places out) ≡ length out
shown-length None places out same = refl
shown-length (Some t) places out same = put-length t.slots t.at 0 places ∙ same

-- slots that hold the same
abbrev pub HoldSame : (one other : List (Option ℕ)) → Type 0
HoldSame one other = (k : ℕ) → k < length one → slice_index_or one k None ≡ slice_index_or other k None

written-same : (nfa : Nfa) (writes : List (ℕ × ℕ)) (one other : List (Option ℕ)) → length one ≡ length other → HoldSame one other
    → AreWritten nfa writes other → AreWritten nfa writes one
written-same nfa writes one other long same are k lt = same k lt ∙ are k (omega arith)

if-same : (nfa : Nfa) (o : Option Trace) (one other : List (Option ℕ)) → length one ≡ length other → HoldSame one other
    → IfSome o (λ b. AreWritten nfa b.writes other) → IfSome o (λ b. AreWritten nfa b.writes one)
if-same nfa None one other long same are = tt
if-same nfa (Some b) one other long same are = written-same nfa b.writes one other long same are

pub searching-same : (nfa : Nfa) (t : TableValue) (may_win : Bool) (text : List ℕ) (told : Option Trace) (n place row : ℕ) (places : List (Option ℕ))
    (best : Option HalfMatchValue) (one other : List (Option ℕ)) → length one ≡ length other → HoldSame one other
    → IsSearching nfa t may_win text told n place row places best other → IsSearching nfa t may_win text told n place row places best one
searching-same nfa t may_win text told n place row places best one other long same s = record {
  writes = s.writes;
  before = s.before;
  told_is = s.told_is;
  places_are = s.places_are;
  best_is = s.best_is;
  out_are = if-same nfa s.before one other long same s.out_are;
}

pub answer-same : (nfa : Nfa) (earliest : Bool) (told : Option Trace) (result : Option HalfMatchValue) (one other : List (Option ℕ))
    → length one ≡ length other → HoldSame one other → IsAnswer nfa earliest told result other → IsAnswer nfa earliest told result one
answer-same nfa earliest told result one other long same a = record {
  value = a.value;
  any = a.any;
  slots = λ not. if-same nfa told one other long same (a.slots not);
}

-- Transitions.

-- one that leads nowhere
pub dead-stops : (nfa : Nfa) (text : List ℕ) (s : Step) (place : ℕ) → s.target ≡ dead → goes_on nfa text s place ≡ false
dead-stops nfa text s place e = ap (λ n. not (n == dead) && all_hold nfa.terminator text s.looks place) e

alive : (target : ℕ) → (target ≡ dead → ⊥) → not (target == dead) ≡ true
alive target live = by_test (target == dead) (λ e. absurd (live (grind (arith, nat_tests)))) (λ e. ap not e)

-- one that leads somewhere, where its look-arounds hold or not
pub alive-goes : (nfa : Nfa) (text : List ℕ) (s : Step) (place : ℕ) (b : Bool) → (s.target ≡ dead → ⊥) → b ≡ all_hold nfa.terminator text s.looks place
    → goes_on nfa text s place ≡ b
alive-goes nfa text s place b live holds = ap (λ c. c && all_hold nfa.terminator text s.looks place) (alive s.target live) ∙ sym holds

-- one that tells nothing
pub plain-goes : (nfa : Nfa) (text : List ℕ) (s : Step) (place : ℕ) → (s.target ≡ dead → ⊥) → s.looks ≡ 0 → goes_on nfa text s place ≡ true
plain-goes nfa text s place live none = alive-goes nfa text s place true live (sym (none-asked nfa.terminator text s.looks place none))
