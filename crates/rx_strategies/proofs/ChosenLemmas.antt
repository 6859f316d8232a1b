-- Which literals a search goes by.
use Rattle.std.proofs.Common.{◌≡◌, ℕ, ◌<◌, List, length, get_or, refl, sym, ap, ◌∙◌, subst, true, false, true≢false, arith}
use Rattle.std.proofs.lemmas.Bool.{and_parts}
use Rattle.std.proofs.lemmas.Bool.Decides.{nat_tests}
use Rattle.std.proofs.lemmas.List.Sums.{AllPass-from_list_all}
use Rattle.std.proofs.lemmas.Option.{none-some}
use Rattle.std.specs.List.{list_all}
use Rattle.std.specs.Prelude.{Bool, [], ◌∷◌, Option, Some, None, option_map, ◌&&◌, ◌||◌, ◌==◌, not, if◌then◌else◌}
use Rattle.rx_model.specs.Expression.{Expression, alternation}
use Rattle.rx_hir.specs.Normal.{expressions}
use Rattle.rx_order.specs.Inner.{inner_of}
use Rattle.rx_order.specs.Order.{HasRest, IsThen, Begins, InnerIsNoEarlier}
use Rattle.rx_order.specs.Strip.{suffix_of_one_has_no_earlier_match, left_passes, strip_literal_suffix}
use Rattle.rx_order.specs.Tests.{is_not_empty, are_literals, inner_has_no_earlier, one_not_consumed, has_fixed_length, has_last_separator, has_first_separator}
use Rattle.rx_attempts.specs.Candidates.{AreNotEmpty}
use Rattle.rx_prefilter.specs.Choices.{served, choice_of, choice_of_bytes, is_empty, is_single}
use Rattle.rx_prefilter.specs.declared.choice.Choice.TheVariants.{Memmem}
use Rattle.rx_strategy.specs.Config.{kind_of, auto_prefilter_of, is_leftmost}
use Rattle.rx_strategy.specs.Impossible.{is_always_anchored_start}
use Rattle.rx_strategy.specs.Prefix.{PrefixValue, IsPrefixOf, HasNoPrefix}
use Rattle.rx_strategy.specs.Strategy.{has_dfas, is_accelerated}
use Rattle.rx_strategy.specs.declared.config.Config.{Config}
use Rattle.rx_strategy.specs.declared.strategy.Strategy.{Strategy as CoreStrategy}
use Rattle.rx_strategies.specs.Attempts.{SuffixValue, InnerValue, IsSuffixOf, IsInnerOf, IsSuffixFound, IsInnerFound, HasNoInner}
use Rattle.rx_strategies.specs.Choice.{may_attempt, suffix_for, inner_for, suffix_of_one, if_in_order, if_inner_in_order}

if-on : {A : Type 0} (b : Bool) (o : Option A) → b ≡ true → (if b then o else None) ≡ o
if-on b o on = λ i. if on i then o else None

if-off : {A : Type 0} (b : Bool) (o : Option A) → b ≡ false → (if b then o else None) ≡ None
if-off b o off = λ i. if off i then o else None

-- where the patterns may be searched by candidates, the literals that are in order are chosen
module _ (config : Config) (c : CoreStrategy) (hs : List Expression) where
  -- there are DFAs
  pub attempts-dfas : (h : Expression) → may_attempt config c h ≡ true → has_dfas c ≡ true
  attempts-dfas h on =
      let rest = has_dfas c && (not (is_accelerated c) && not (is_always_anchored_start h)) in
      let leftmost = (and_parts (auto_prefilter_of config) (is_leftmost (kind_of config) && rest) on).1 in
      (and_parts (has_dfas c) (not (is_accelerated c) && not (is_always_anchored_start h)) (and_parts (is_leftmost (kind_of config)) rest leftmost).1).0

  pub suffix-not : may_attempt config c (alternation (expressions hs)) ≡ false → suffix_for config c hs ≡ None
  suffix-not off = if-off (may_attempt config c (alternation (expressions hs))) (if_in_order hs (suffix_of_one hs)) off

  suffix-chosen : may_attempt config c (alternation (expressions hs)) ≡ true → suffix_for config c hs ≡ if_in_order hs (suffix_of_one hs)
  suffix-chosen on = if-on (may_attempt config c (alternation (expressions hs))) (if_in_order hs (suffix_of_one hs)) on

  inner-chosen : may_attempt config c (alternation (expressions hs)) ≡ true → inner_for config c hs ≡ if_inner_in_order (inner_of hs)
  inner-chosen on = if-on (may_attempt config c (alternation (expressions hs))) (if_inner_in_order (inner_of hs)) on

  inner-off : may_attempt config c (alternation (expressions hs)) ≡ false → inner_for config c hs ≡ None
  inner-off off = if-off (may_attempt config c (alternation (expressions hs))) (if_inner_in_order (inner_of hs)) off

  -- the search by a suffix that is made of what was found
  pub suffix-of : may_attempt config c (alternation (expressions hs)) ≡ true → (needles : List (List ℕ)) → IsSuffixFound hs (Some needles)
      → (s : SuffixValue) → s ≡ record { core = c; needles = needles } → IsSuffixOf config hs c s
  suffix-of on needles found s is =
      subst (IsSuffixOf config hs c) (sym is) (record {
        core_is = refl;
        suffix = found.0;
        needle = found.1;
        chosen = suffix-chosen on ∙ found.3;
        order = found.4;
      })

  pub suffix-none : may_attempt config c (alternation (expressions hs)) ≡ true → IsSuffixFound hs None → suffix_for config c hs ≡ None
  suffix-none on none = suffix-chosen on ∙ none

  -- and the one by literals within
  pub inner-made-of : may_attempt config c (alternation (expressions hs)) ≡ true → (prefix : Expression) (needles : List (List ℕ))
      → IsInnerFound hs prefix needles → (p : PrefixValue) → IsPrefixOf config prefix p → (i : InnerValue)
      → i ≡ record { core = c; needles = needles; prefix = p } → IsInnerOf config hs c i
  inner-made-of on prefix needles found p reads i is =
      subst (IsInnerOf config hs c) (sym is) (record {
        core_is = refl;
        prefix = prefix;
        chosen = inner-chosen on ∙ found.0;
        order = found.1;
        reads = reads;
      })

  pub inner-none : may_attempt config c (alternation (expressions hs)) ≡ true → if_inner_in_order (inner_of hs) ≡ None
      → HasNoInner config (inner_for config c hs)
  inner-none on none = subst (HasNoInner config) (sym (inner-chosen on ∙ none)) tt

  pub inner-not : may_attempt config c (alternation (expressions hs)) ≡ false → HasNoInner config (inner_for config c hs)
  inner-not off = subst (HasNoInner config) (sym (inner-off off)) tt

  pub inner-unread : may_attempt config c (alternation (expressions hs)) ≡ true → (prefix : Expression) (needles : List (List ℕ))
      → IsInnerFound hs prefix needles → HasNoPrefix config prefix → HasNoInner config (inner_for config c hs)
  inner-unread on prefix needles found none = subst (HasNoInner config) (sym (inner-chosen on ∙ found.0)) none

-- where the order is kept
some-bytes : (s : List ℕ) → is_not_empty s ≡ true → 0 < length s
some-bytes [] e = absurd (true≢false (sym e))
some-bytes (b ∷ s) e = omega arith

pub ordered-long : (hs : List Expression) (s : List ℕ) → suffix_of_one_has_no_earlier_match hs s ≡ true → 0 < length s
ordered-long [] s e = absurd (true≢false (sym e))
ordered-long (h ∷ []) s e = some-bytes s (and_parts (is_not_empty s) (left_passes (strip_literal_suffix h s) s) e).0
ordered-long (h ∷ g ∷ hs) s e = absurd (true≢false (sym e))

-- a needle with a byte fits a kind of search
pick : {C : Type 0} (needles : List (List ℕ)) (none single : Bool) (x y : C) → none ≡ false
    → option_map (λ (c : C). needles) (if none || false then None else if single && true then Some x else Some y) ≡ Some needles
pick needles true single x y off = absurd (true≢false off)
pick needles false true x y off = refl
pick needles false false x y off = refl

pub one-served : (s : List ℕ) → 0 < length s → served (s ∷ []) ≡ Some (s ∷ [])
unfolding choice_of
one-served s long =
    let some : (length s == 0) ≡ false = grind (arith, nat_tests, long) in
    pick (s ∷ []) (is_empty s) (is_single s) (choice_of_bytes 1) Memmem some

-- literals within each match of the only expression
pub made-some : {A : Type 0} (view : A → Expression × List (List ℕ)) (made : Option A) (x : A) (o : Option (Expression × List (List ℕ)))
    → option_map view made ≡ o → made ≡ Some x → o ≡ Some (view x)
made-some view made x o e is = sym e ∙ ap (option_map view) is

inner-one : (hs : List Expression) (found : Expression × List (List ℕ)) → inner_of hs ≡ Some found → (h : Expression) × (hs ≡ h ∷ [])
inner-one [] found e = absurd (none-some found e)
inner-one (h ∷ []) found e = (h, refl)
inner-one (h ∷ g ∷ hs) found e = absurd (none-some found e)

all-some : (ls : List (List ℕ)) → are_literals ls ≡ true → list_all is_not_empty ls ≡ true
all-some [] e = absurd (true≢false (sym e))
all-some (l ∷ ls) e = e

not-empty : (ls : List (List ℕ)) → are_literals ls ≡ true → AreNotEmpty ls
not-empty ls e = λ k d lt. some-bytes (get_or ls k d) (AllPass-from_list_all is_not_empty ls (all-some ls e) k d lt)

module _ (hs : List Expression) (prefix : Expression) (ls : List (List ℕ)) (of : inner_of hs ≡ Some (prefix, ls)) where
  pub inner-found : ((h : Expression) → hs ≡ h ∷ [] → HasRest h prefix ls) → inner_has_no_earlier prefix ls ≡ true
      → ((h q : Expression) → IsThen h prefix q → Begins ls q → InnerIsNoEarlier h prefix ls) → (needles : List (List ℕ)) → needles ≡ ls
      → IsInnerFound hs prefix needles
  inner-found rest e order needles is =
      let one = inner-one hs (prefix, ls) of in
      let has = rest one.0 one.1 in
      let chosen : if_inner_in_order (inner_of hs) ≡ Some (prefix, ls) =
      ap if_inner_in_order of ∙ if-on (inner_has_no_earlier prefix ls) (Some (prefix, ls)) e in
      let some = not-empty ls
      (and_parts (are_literals ls) (one_not_consumed prefix ls || (has_fixed_length prefix || (has_last_separator prefix ls || has_first_separator prefix ls))) e).0 in
      subst (IsInnerFound hs prefix) (sym is) (chosen, (one.0, one.1, order one.0 has.0 has.1 has.2), some)
