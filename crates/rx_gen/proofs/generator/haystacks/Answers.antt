use Rattle.std.proofs.Common.{ℕ, [], ◌∷◌, refl, ap, ◌∙◌, sym}
use Rattle.std.specs.Prelude.{map}
use Rattle.std.specs.Vec.{vec_items}
use Rattle.std.proofs.lemmas.List.{map-append}
use Rattle.rx_gen.specs.Generated.{state_at, numbers, draws_before}
use Rattle.rx_gen.proofs.GeneratorLemmas.{draws-more, haystacks-more}
use Rattle.rx_gen.proofs.generator.haystacks.Goals as goal

pub loop-haystack-init : goal.loop-haystack-init
unfolding state_at draws_before numbers
loop-haystack-init c = record { state = refl; all = ap (map vec_items) c.in_ok-all.ensures.items }

pub loop-haystack-preserved : goal.loop-haystack-preserved
loop-haystack-preserved c =
    let seed : ℕ = c.args.seed in
    let n : ℕ = c.loop-haystack._haystack in
    let so_far = c.loop-haystack.invariant in record {
      state = c.in_ok-text.ensures.state seed (draws_before seed n) so_far.state ∙ ap (state_at seed) (sym (draws-more seed n));
      all = haystacks-more seed n c.in_ok-text.text.items _ _ (c.in_ok-text.ensures.text seed (draws_before seed n) so_far.state)
          (ap (map vec_items) c.in_ok-push.ensures.items ∙ map-append vec_items c.loop-haystack.all.items (c.in_ok-text.text ∷ []))
          so_far.all;
    }
