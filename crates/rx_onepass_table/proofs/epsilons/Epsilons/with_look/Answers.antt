use Rattle.std.proofs.Common.{◌<◌, ◌==◌, ◌∙◌, ap, subst, sym, arith, if◌then◌else◌}
use Rattle.std.specs.Int.{bit_at}
use Rattle.rx_onepass_table.proofs.lemmas.BitLemmas.{with_bit, with_bit-small}
use Rattle.rx_onepass_table.proofs.epsilons.Epsilons.with_look.Goals as goal

pub returns-clause-looks : goal.returns-clause-looks
returns-clause-looks c k =
    let is = c.number_of.ensures.few c.requires.few in
    with_bit c.args.self.looks c.number_of.result k (subst (λ n. n < 32) (sym is) (let few = c.requires.few in omega arith))
    ∙ ap (λ n. if k == n then 1 else bit_at c.args.self.looks k) is

pub returns-clause-fits : goal.returns-clause-fits
returns-clause-fits c =
    let is = c.number_of.ensures.few c.requires.few in
    with_bit-small c.args.self.looks c.number_of.result c.requires.fits (subst (λ n. n < 10) (sym is) c.requires.few)
