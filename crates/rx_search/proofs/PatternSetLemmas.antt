-- The patterns that are still to come of those in a set, one place after another.
use Rattle.std.proofs.Common.{◌≡◌, ℕ, ◌+◌, ◌<◌, ◌≤◌, Bool, true, false, List, [], ◌∷◌, Option, None, Some, drop, length, get_or, slice_get, MatchOption, subst, sym, ap, ◌∙◌, arith}
use Rattle.std.proofs.lemmas.Bool.{cond-true, cond-false}
use Rattle.std.proofs.lemmas.List.{drop_more, drop_all}
use Rattle.std.proofs.lemmas.Option.{slice_get_within, get_or_from_slice_get}
use Rattle.std.specs.Iterator.{YieldsFirst, MakesProgress, item_count}
use Rattle.rx_search.specs.Limits.{id_limit}
use Rattle.rx_search.specs.PatternSet.{members_from, AreIdentifiers}

-- the patterns from place p on
abbrev pub to_come : (set : List Bool) (p : ℕ) → List ℕ
to_come set p = members_from p (drop p set)

to_come-next : (set : List Bool) (p : ℕ) (is_there : Bool) → slice_get set p ≡ Some is_there
    → to_come set p ≡ members_from p (get_or set p is_there ∷ drop (p + 1) set)
to_come-next set p is_there is = ap (members_from p) (drop_more set p is_there (slice_get_within set p is_there is))

pub to_come-has : (set : List Bool) (p : ℕ) (is_there : Bool) → slice_get set p ≡ Some is_there → is_there ≡ true → to_come set p ≡ p ∷ to_come set (p + 1)
to_come-has set p is_there is on =
    to_come-next set p is_there is ∙ cond-true (get_or set p is_there) _ _ (get_or_from_slice_get set p is_there is_there is ∙ on)

pub to_come-lacks : (set : List Bool) (p : ℕ) (is_there : Bool) → slice_get set p ≡ Some is_there → is_there ≡ false → to_come set p ≡ to_come set (p + 1)
to_come-lacks set p is_there is off =
    to_come-next set p is_there is ∙ cond-false (get_or set p is_there) _ _ (get_or_from_slice_get set p is_there is_there is ∙ off)

pub to_come-end : (set : List Bool) (p : ℕ) → length set ≤ p → to_come set p ≡ []
to_come-end set p past = ap (members_from p) (drop_all p set past)

-- what `PatternID::new` makes of a pattern in the set is the first of those to come
pub to_come-yields : (set : List Bool) (p : ℕ) (is_there : Bool) (made : Option ℕ) (items : List ℕ) → AreIdentifiers set → slice_get set p ≡ Some is_there
    → is_there ≡ true → MatchOption made (id_limit ≤ p) (λ q. (q ≡ p) × (p < id_limit)) → to_come set p ≡ items
    → YieldsFirst (λ (it : List ℕ). it) items made (to_come set (p + 1))
to_come-yields set p is_there None items are is on made same =
    let less : p < id_limit = are.below p (get_or_from_slice_get set p is_there false is ∙ on) in
    absurd (omega (arith, less, made))
to_come-yields set p is_there (Some q) items are is on made same =
    sym same ∙ to_come-has set p is_there is on ∙ ap (λ n. n ∷ to_come set (p + 1)) (sym made.0)

-- what yields the first of a list makes progress
pub progress-yields : (items : List ℕ) (made : Option ℕ) (left : List ℕ) → YieldsFirst (λ (it : List ℕ). it) items made left
    → MakesProgress (λ (it : List ℕ). Unit {0}) (item_count (λ (it : List ℕ). it)) items made left
progress-yields items None left gives = record { on = λ _. tt; keeps = tt; rests = λ _. tt }
progress-yields items (Some q) left gives = record {
  on = λ _. (tt, tt, subst (λ ns. length left < length ns) (sym gives) (omega arith));
  keeps = tt;
  rests = λ _. tt;
}
