use Rattle.std.proofs.Common.{◌≡◌, ◌∙◌, ap, sym, arith, length, length-set}
use Rattle.std.specs.Prelude.{false}
use Rattle.rx_nfa.specs.Ordered.{has}
use Rattle.rx_engines.specs.Threads.{StateSet}
use Rattle.rx_engines.proofs.lemmas.threads.SetLemmas.{sparse-room, sparse-push}
use Rattle.rx_engines.proofs.pikevm.set.SparseSet.insert.Goals as goal

pub overflow_cast-place : goal.overflow_cast-place
overflow_cast-place c =
    let dense = c.self.inside.dense.items in
    let sparse = c.self.inside.sparse.items in
    let room = ap (λ (s : StateSet). s.room) c.self.view_is in
    let ok = c.self.inside.dense.ok.0 in
    let new : has dense c.args.state ≡ false = ap (λ (s : StateSet). has s.items c.args.state) c.self.view_is ∙ sym c.contains.ensures ∙ c.if-contains.false in
    let below = sparse-room c.self.inside.room dense sparse c.self.invariant.0 c.args.state (omega arith) new in
    omega arith

pub push_reserved-requires : goal.push_reserved-requires
push_reserved-requires c =
    let dense = c.self.inside.dense.items in
    let sparse = c.self.inside.sparse.items in
    let room = ap (λ (s : StateSet). s.room) c.self.view_is in
    let ok = c.self.inside.dense.ok.0 in
    let new : has dense c.args.state ≡ false = ap (λ (s : StateSet). has s.items c.args.state) c.self.view_is ∙ sym c.contains.ensures ∙ c.if-contains.false in
    let below = sparse-room c.self.inside.room dense sparse c.self.invariant.0 c.args.state (omega arith) new in
    omega arith

pub invariant_of-self : goal.invariant_of-self
invariant_of-self c =
    let dense = c.self.inside.dense.items in
    let sparse = c.self.inside.sparse.items in
    let room = ap (λ (s : StateSet). s.room) c.self.view_is in
    let ok = c.self.inside.dense.ok.0 in
    let new : has dense c.args.state ≡ false = ap (λ (s : StateSet). has s.items c.args.state) c.self.view_is ∙ sym c.contains.ensures ∙ c.if-contains.false in
    let place : c.len-place.result ≡ length dense = omega arith in
    let size = length-set sparse c.args.state (length dense) in
    rw (c.push_reserved.ensures.items, place, c.as_usize.ensures.value)
    (sparse-push c.self.inside.room dense sparse c.self.invariant.0 c.self.invariant.1 c.args.state (omega arith) new, omega arith, omega arith, omega arith)
