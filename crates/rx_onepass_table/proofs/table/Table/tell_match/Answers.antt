use Rattle.std.proofs.Common.{◌==◌, sym, ◌∙◌, ap, if◌then◌else◌}
use Rattle.std.specs.Prelude.{Some, None, slice_index_or}
use Rattle.std.specs.Int.{bit_at}
use Rattle.rx_model.specs.Runs.{everywhere}
use Rattle.rx_onepass_table.specs.Along.{all_hold, told_here, written_at}
use Rattle.rx_onepass_table.specs.Rows.{final_in}
use Rattle.rx_onepass_table.specs.Search.{put_from, shown}
use Rattle.rx_onepass_table.specs.Words.{Final}
use Rattle.rx_onepass_table.specs.declared.epsilons.Epsilons.{Epsilons}
use Rattle.rx_onepass_table.proofs.lemmas.SearchLemmas.{here-told, telling-match}
use Rattle.rx_onepass_table.proofs.lemmas.ShownLemmas.{put-each}
use Rattle.rx_onepass_table.proofs.table.Table.tell_match.Goals as goal

pub returns-clause-telling : goal.returns-clause-telling
returns-clause-telling c places out =
    let nfa = c.args.nfa.now in
    let text = c.args.text.now in
    let f = final_in c.args.self.now c.args.row in
    let cell = c.pattern_epsilons-final_cell.ensures in
    let tells = c.epsilons-epsilons.result in
    let set = ap (λ (e : Epsilons). e.slots) c.epsilons-epsilons.ensures ∙ ap (λ (f : Final). f.slots) cell in
    let kinds = ap (λ (e : Epsilons). e.looks) c.epsilons-epsilons.ensures ∙ ap (λ (f : Final). f.looks) cell in
    let pattern = ap (λ (f : Final). f.pattern) (sym cell) ∙ sym c.pattern.ensures ∙ c.in-Some.is in
    let holds = ap (λ n. all_hold nfa.terminator text n c.args.at) (sym kinds) ∙ sym c.all_hold.ensures ∙ c.if-not-all_hold.false in
    telling-match f c.args.at (told_here nfa everywhere text f c.args.at) places c.args.best.now (Some c.new.result) (shown c.args.left.now places out)
    (put_from tells.slots c.args.at 0 places)
    (record { pattern = c.in-Some.pattern; end = c.args.at; writes = written_at nfa f.slots c.args.at })
    (here-told nfa text f c.args.at c.in-Some.pattern pattern holds) (ap Some c.new.ensures)
    (λ k lt. put-each tells.slots c.args.at places k lt ∙ ap (λ n. if bit_at n k == 1 then Some c.args.at else slice_index_or places k None) set)
