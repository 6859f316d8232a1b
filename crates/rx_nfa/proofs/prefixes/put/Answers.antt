use Rattle.std.proofs.Common.{◌∙◌, ap}
use Rattle.std.specs.Prelude.{slice_set}
use Rattle.rx_nfa.specs.Draft.{Draft}
use Rattle.rx_nfa.specs.declared.state.State.TheVariants.{Union}
use Rattle.rx_nfa.proofs.lemmas.prefixes.PlantLemmas.{planted}
use Rattle.rx_nfa.proofs.prefixes.put.Goals as goal

pub returns-clause-planted : goal.returns-clause-planted
returns-clause-planted c = λ words reads.
    let known = rw c.unwrap-id.ensures at c.new.ensures in
    let mid = c.place.new.builder.states in
    planted c.args.builder.now.states c.place.new.builder.states c.patch.new.self.states c.args.tree.states.items c.args.tree.low c.args.tree.room
    c.args.root c.args.tree.next c.args.starts.items c.requires.room c.requires.tree.few c.requires.tree.branches c.requires.starts c.requires.root
    c.place.ensures.long c.place.ensures.placed c.place.ensures.kept
    (ap (λ (d : Draft). d.states) c.patch.ensures ∙ (λ i. slice_set mid (known.0 i) (Union (c.new-2.ensures i)))) words reads
