use Rattle.std.proofs.Common.{◌≡◌, ◌∙◌, ap, subst}
use Rattle.std.specs.Prelude.{map}
use Rattle.std.specs.Vec.{vec_items}
use Rattle.rx_nfa.specs.Sharing.{IsPlanted}
use Rattle.rx_nfa.proofs.prefixes.plant.Goals as goal

pub returns-in-Ok-clause-planted : goal.returns-in-Ok-clause-planted
returns-in-Ok-clause-planted c = λ yes.
    let old = c.args.builder.now.states in
    let new = c.put.new.builder.states in
    let t = c.sides.new.tree in
    let g = c.in-Ok.ensures.grown in
    let low : c.sides.new.tree.low ≡ c.args.fork.now.low = g.low ∙ c.new-tree.ensures.low in
    let next : c.sides.new.tree.next ≡ c.args.fork.now.next = g.next ∙ c.new-tree.ensures.next in
    let words : map vec_items c.deref.result.now ≡ map vec_items c.args.fork.now.words.items = ap (map vec_items) c.deref.ensures.value in
    subst (λ ws. IsPlanted c.args.builder.now.states c.put.new.builder.states c.args.fork.now.low c.args.root c.args.fork.now.next ws) words
    (subst (λ n. IsPlanted c.args.builder.now.states c.put.new.builder.states c.args.fork.now.low c.args.root n (map vec_items c.deref.result.now)) next
    (subst (λ l. IsPlanted c.args.builder.now.states c.put.new.builder.states l c.args.root c.sides.new.tree.next (map vec_items c.deref.result.now)) low
    (c.put.ensures.planted (map vec_items c.deref.result.now) c.in-Ok.ensures.reads.reads)))
