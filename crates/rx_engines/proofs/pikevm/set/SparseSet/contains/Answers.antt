use Rattle.std.proofs.Common.{◌≡◌, ◌<◌, ◌∙◌, ap, arith, length, eqb, ltb}
use Rattle.std.specs.Prelude.{false}
use Rattle.std.proofs.lemmas.List.{get_or_default}
use Rattle.std.proofs.lemmas.Bool.Decides.{nat_tests}
use Rattle.rx_nfa.specs.Ordered.{has}
use Rattle.rx_engines.specs.Threads.{StateSet}
use Rattle.rx_engines.proofs.lemmas.threads.SetLemmas.{contains-inside, contains-outside}
use Rattle.rx_engines.proofs.pikevm.set.SparseSet.contains.Goals as goal

pub returns-then-place-len : goal.returns-then-place-len
returns-then-place-len c =
    let dense = c.self.inside.dense.items in
    let sparse = c.self.inside.sparse.items in
    let room = ap (λ (s : StateSet). s.room) c.self.view_is in
    let ok = c.self.inside.dense.ok.0 in
    let below : c.index.result.now < length dense = omega arith in
    rw (c.as_usize-then-place-len.ensures.value, c.as_usize-then-place-len-2.ensures.value)
    (ap (λ x. eqb x c.args.state) (c.index-then-place-len.ensures ∙ get_or_default dense c.index.result.now _ 0 below)
    ∙ contains-inside c.self.inside.room dense sparse c.self.invariant.0 c.args.state c.index.result.now
    ((rw c.as_usize.ensures.value at c.index.ensures) ∙ get_or_default sparse c.args.state _ 0 (omega arith)) below
    ∙ ap (λ (s : StateSet). has s.items c.args.state) c.self.view_is)

pub returns-else-place-len : goal.returns-else-place-len
returns-else-place-len c =
    let dense = c.self.inside.dense.items in
    let sparse = c.self.inside.sparse.items in
    let room = ap (λ (s : StateSet). s.room) c.self.view_is in
    let ok = c.self.inside.dense.ok.0 in
    let beyond : ltb c.index.result.now c.len.result ≡ false = grind (arith, nat_tests) in
    beyond
    ∙ contains-outside c.self.inside.room dense sparse c.self.invariant.0 c.args.state c.index.result.now
    ((rw c.as_usize.ensures.value at c.index.ensures) ∙ get_or_default sparse c.args.state _ 0 (omega arith)) (omega arith)
    ∙ ap (λ (s : StateSet). has s.items c.args.state) c.self.view_is
