use Rattle.std.proofs.Common.{◌≡◌, ℕ, suc, ◌<◌, ◌∷◌, [], ◌++◌, length, Option, Some, None, sym, subst, ap, ◌∙◌, refl, arith, add-one}
use Rattle.std.specs.Prelude.{IsSome, MatchOption, nat_lt}
use Rattle.std.proofs.lemmas.Bool.{ltb-true, ltb-false}
use Rattle.rx_model.proofs.lemmas.runs.RunLemmas.{by_test}
use Rattle.rx_search.specs.GroupInfo.{groups_at}
use Rattle.rx_scan.specs.Layout.{all_explicit_slots, explicit_slots}
use Rattle.rx_scan.proofs.LayoutLemmas.{patterns-few}
use Rattle.rx_scan.proofs.row.Layout.new.Goals as goal

present : {A : Type 0} (o : Option A) (N : Type 0) (S : A → Type 0) → MatchOption o N S → ¬ N → IsSome o
present None N S m apart = absurd (apart m)
present (Some x) N S m apart = refl

pub loop-index-init : goal.loop-index-init
unfolding all_explicit_slots
loop-index-init c = record { asked = c.in_ok-explicit.ensures.items; implicit = λ p below. absurd (omega arith) }

pub unwrap-pattern-requires : goal.unwrap-pattern-requires
unwrap-pattern-requires c =
    let few = patterns-few c.args.groups.now c.loop-index.index c.loop-index.invariant.implicit in
    present c.new.result _ _ c.new.ensures (λ above. omega (arith, above, few, c.slot_len-slots.ensures.value, c.slot_len-slots.ensures.limit))

pub loop-index-preserved : goal.loop-index-preserved
unfolding all_explicit_slots
loop-index-preserved c =
    let info = c.args.groups.now in
    let k = c.loop-index.index in
    let is = rw c.unwrap-pattern.ensures at c.new.ensures in
    let index : c.unwrap-pattern.result ≡ k = is.0 in
    let spans : c.push.new.self.items ≡ all_explicit_slots info (suc k) =
    c.in_ok-push.ensures.items ∙ (λ i. c.loop-index.invariant.asked i ++ (c.explicit_slots.ensures.value ∙ ap (explicit_slots info) index) i ∷ []) in
    record {
      asked = spans ∙ ap (all_explicit_slots info) (sym (add-one k));
      implicit = λ p below.
          by_test (nat_lt p k)
          (λ before. c.loop-index.invariant.implicit p (ltb-true _ _ before))
          (λ not_before.
          let here : c.unwrap-pattern.result ≡ p = omega (arith, index, below, ltb-false _ _ not_before) in
          subst (λ (n : ℕ). 0 < length (groups_at info n)) here c.explicit_slots.ensures.implicit);
    }
