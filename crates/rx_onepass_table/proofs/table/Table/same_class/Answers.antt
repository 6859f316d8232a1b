use Rattle.std.proofs.Common.{◌≡◌, sym, ◌∙◌, ap, ⊎_elim, arith, slice_index}
use Rattle.std.proofs.lemmas.Bool.{cases_lt}
use Rattle.rx_onepass_table.specs.Rows.{TableValue}
use Rattle.rx_onepass_table.proofs.table.Table.same_class.Goals as goal

pub loop-next-preserved : goal.loop-next-preserved
loop-next-preserved c =
    let kept = c.loop-next.invariant in
    let before = c.loop-next-test.true in
    let next = c.loop-next.next in
    let equal : c.get.result ≡ c.get-class.result = c.if-get-class.true in
    let class = c.get.ensures ∙ ap (λ (t : TableValue). slice_index t.classes (slice_index c.args.text.now next)) c.self.view_is in
    record {
      past = (let past = kept.past in omega arith);
      within = omega arith;
      class = kept.class;
      same = λ k from to.
          ⊎_elim
          (λ lt. kept.same k from lt)
          (λ above.
          let here : k ≡ next = omega arith in
          ap (λ i. slice_index c.args.self.now.classes (slice_index c.args.text.now i)) here ∙ sym class ∙ equal ∙ kept.class)
          (cases_lt k next);
    }
