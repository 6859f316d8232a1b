-- What captures hold after a search, by what its slots hold.
use Rattle.std.proofs.Common.{◌≡◌, ℕ, ◌<◌, List, length, sym, ap, ◌∙◌, subst}
use Rattle.std.specs.Prelude.{Option, Some, None, option_map, replicate, IfSome, IfNone}
use Rattle.rx_model.specs.Search.{Match}
use Rattle.rx_model.proofs.lemmas.runs.FirstLemmas.{none-is-some}
use Rattle.rx_search.specs.Captures.{CapturesValue}
use Rattle.rx_search.specs.Input.{InputValue}
use Rattle.rx_search.specs.Matches.{MatchValue, match_value}
use Rattle.rx_search.specs.Told.{AreWithin, matched_pattern}
use Rattle.rx_strategy.proofs.AnswerLemmas.{part-answers, part-slots}
use Rattle.rx_engines.proofs.lemmas.answers.SpanLemmas.{empty-within}
use Rattle.rx_meta.specs.Captures.{emptied, AreTold, IsToldWith}
use Rattle.rx_meta.specs.Regex.{RegexValue, Serves, given_needles, kind_in, pattern_count}
use Rattle.rx_meta.specs.Search.{IsAnswer, AreSlotsOfAnswer}
use Rattle.rx_meta.proofs.FinderLemmas.{all-none}

-- the pattern of what was found
abbrev pub found_pattern : Option MatchValue → Option ℕ
found_pattern found = option_map (λ (m : MatchValue). m.pattern) found

-- captures with no pattern and no place are empty
pub empty-captures : (c : CapturesValue) (n : ℕ) → c.pattern ≡ None → c.slots ≡ replicate n None → c ≡ emptied c
empty-captures c n pattern slots =
    let all = all-none c.slots n slots in
    λ i. record { groups = c.groups; pattern = pattern i; slots = all i }

pattern-below : (n : ℕ) (found : Option MatchValue) → IfSome found (λ m. m.pattern < n) → IfSome (found_pattern found) (λ p. p < n)
pattern-below n None lt = tt
pattern-below n (Some m) lt = lt

none-slots : (slots : List (Option ℕ)) (n : ℕ) (found : Option MatchValue) → found_pattern found ≡ None → IfNone found (slots ≡ replicate n None)
    → slots ≡ replicate n None
none-slots slots n None e none = none
none-slots slots n (Some m) e none = none-is-some (sym e)

module _ (regex : RegexValue) (v : InputValue) where
  pub told-with : (c : CapturesValue) (n : ℕ) (found : Option MatchValue) → c.pattern ≡ found_pattern found → IsAnswer regex v match_value found
      → AreSlotsOfAnswer regex v match_value c.slots found → AreWithin v c.slots → IfSome found (λ m. m.pattern < pattern_count regex)
      → IfNone found (c.slots ≡ replicate n None) → IsToldWith regex v c found
  told-with c n found is answer are within in_range none =
      let told : AreTold regex v c = record {
        pattern = part-answers (λ r. Serves regex r) (given_needles regex) (kind_in regex) v match_value (λ m. m.pattern) found c.pattern is answer;
        slots = part-slots (λ r. Serves regex r) (given_needles regex) (kind_in regex) v match_value (λ m. m.pattern) found c.pattern is c.slots are;
        within = within;
        in_range = subst (λ (o : Option ℕ). IfSome o (λ p. p < pattern_count regex)) (sym is) (pattern-below (pattern_count regex) found in_range);
        none = λ e. empty-captures c n e (none-slots c.slots n found (sym is ∙ e) none);
      } in
      record { told = told; answer = answer; slots = are; pattern = is }

  -- where nothing was found in empty captures
  pub told-none : (c : CapturesValue) → c ≡ emptied c → ((part : Match → ℕ) → IsAnswer regex v part None) → ((part : Match → ℕ) (slots : List (Option ℕ))
      → AreSlotsOfAnswer regex v part slots None) → AreTold regex v c
  told-none c empty answer are =
      let none : None ≡ c.pattern = sym (ap (λ (x : CapturesValue). x.pattern) empty) in
      record {
        pattern = subst (IsAnswer regex v matched_pattern) none (answer matched_pattern);
        slots = subst (AreSlotsOfAnswer regex v matched_pattern c.slots) none (are matched_pattern c.slots);
        within = within;
        in_range = subst (λ (o : Option ℕ). IfSome o (λ p. p < pattern_count regex)) none tt;
        none = λ _. empty;
      }
    where
      within : AreWithin v c.slots
      within = empty-within v (length c.slots) c.slots (ap (λ (x : CapturesValue). x.slots) empty)
