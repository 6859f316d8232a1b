-- The name of the strategy of a regex under the configuration of a scan that switches nothing off.
use Rattle.std.proofs.Common.{◌≡◌, ℕ, ◌<◌, ◌≤◌, List, [], ◌∷◌, refl, sym, ap, ◌∙◌, arith}
use Rattle.std.proofs.lemmas.Bool.Decides.{nat_tests}
use Rattle.std.specs.Prelude.{Bool, true, ◌&&◌, Option, Some, None, nat_le}
use Rattle.rx_model.specs.Expression.{Expression}
use Rattle.rx_model.proofs.lemmas.runs.RunLemmas.{by_test}
use Rattle.rx_hir.specs.Cost.{nfa_states}
use Rattle.rx_meta.specs.Build.{IsBuilt, IsNamed, way_of}
use Rattle.rx_meta.specs.Config.{ConfigValue}
use Rattle.rx_meta.specs.Name.{by_inner, literals_for, end_alone, suffix_by, inner_by, literals_or, from_end_or, suffix_or, inner_or_plain, way_for, way_name}
use Rattle.rx_meta.specs.Regex.{RegexValue, name_of, has_dfas, reads_prefix}
use Rattle.rx_meta.proofs.NameLemmas.{same-way}
use Rattle.rx_scan.specs.Answer.{has_dfa, strategy_name}
use Rattle.rx_scan.specs.Arguments.{config_without, switched_off}

c : ConfigValue
c = config_without (switched_off [])

module _ (hs : List Expression) (regex : RegexValue) (named : IsNamed (config_without (switched_off [])) hs regex) where
  dfas : literals_for c hs ≡ None → has_dfas regex ≡ has_dfa hs
  unfolding c
  dfas none =
      by_test (nat_le (nfa_states hs) 130048)
      (λ e.
      let le : nfa_states hs ≤ 130048 = grind (arith, nat_tests) in
      named.dfas none refl (omega arith) ∙ sym e)
      (λ e.
      let lt : 130048 < nfa_states hs = grind (arith, nat_tests) in
      named.no_dfas none (record { lazy = λ on. omega arith; full = λ on. omega arith }) ∙ sym e)

  -- a DFA of a prefix is there, where its literals are searched for
  prefixes : (p : Expression) (needles : List (List ℕ)) → way_for c hs (has_dfas regex) (λ prefix. true) ≡ by_inner p needles
      → reads_prefix regex ≡ has_dfa (p ∷ [])
  unfolding c
  prefixes p needles is =
      by_test (nat_le (nfa_states (p ∷ [])) 130048)
      (λ e.
      let le : nfa_states (p ∷ []) ≤ 130048 = grind (arith, nat_tests) in
      named.prefix p needles is (record { states = omega arith; size = omega arith; hybrid = refl; capacity = omega arith }) ∙ sym e)
      (λ e.
      let lt : 130048 < nfa_states (p ∷ []) = grind (arith, nat_tests) in
      named.no_prefix p needles is (record { lazy = λ on. omega arith; full = λ on. omega arith }) ∙ sym e)

  -- which DFAs are there counts only where no literals stand for all that the expressions are
  ways : (o : Option (List (List ℕ))) → literals_for c hs ≡ o → (f : Expression → Bool)
      → literals_or o (from_end_or (has_dfas regex && end_alone hs)
      (suffix_or (suffix_by c hs (has_dfas regex)) (inner_or_plain (inner_by c hs (has_dfas regex)) f)))
      ≡ literals_or o (from_end_or (has_dfa hs && end_alone hs) (suffix_or (suffix_by c hs (has_dfa hs)) (inner_or_plain (inner_by c hs (has_dfa hs)) f)))
  ways None is f =
      ap (λ b. from_end_or (b && end_alone hs) (suffix_or (suffix_by c hs b) (inner_or_plain (inner_by c hs b) f))) (dfas is)
  ways (Some needles) is f = refl

  same : way_of c hs regex ≡ way_for c hs (has_dfa hs) (λ prefix. has_dfa (prefix ∷ []))
  same =
      same-way (literals_for c hs) (has_dfas regex && end_alone hs) (suffix_by c hs (has_dfas regex)) (inner_by c hs (has_dfas regex))
      (λ prefix. reads_prefix regex) (λ prefix. has_dfa (prefix ∷ [])) prefixes
      ∙ ways (literals_for c hs) refl (λ prefix. has_dfa (prefix ∷ []))

pub built-name : (hs : List Expression) (regex : RegexValue) → IsBuilt (config_without (switched_off [])) hs regex → name_of regex ≡ strategy_name hs
unfolding strategy_name c
built-name hs regex built = built.named.name ∙ ap way_name (same hs regex built.named)
