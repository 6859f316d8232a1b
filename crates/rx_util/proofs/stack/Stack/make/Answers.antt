use Rattle.std.proofs.Common.{◌≡◌, ℕ, ◌+◌, ◌≤◌, ◌∷◌, ◌++◌, [], map, length, refl, rules, arith, vec_capacity}
use Rattle.std.proofs.lemmas.List.{length-map}
use Rattle.rx_util.specs.Stack.{StackValue}
use Rattle.rx_util.proofs.StackLemmas.{make-sound}
use Rattle.rx_util.proofs.stack.Stack.make.Goals as goal

pub invariant_of-self-2 : goal.invariant_of-self-2
invariant_of-self-2 g c =
    let inside = c.self.inside in
    let old : StackValue g.row.T.Denot = record { stored = inside.stored.items; lent = inside.lent.items; next = inside.next } in
    let new : StackValue g.row.T.Denot = record { stored = c.reserve.new.self.items; lent = c.push_reserved.new.self.items; next = inside.next + 1 } in
    let lent : c.push_reserved.new.self.items ≡ inside.lent.items ++ inside.next ∷ [] = cc in
    let as_many : length (map (λ (e : ℕ × g.row.T.Denot). e.0) inside.stored.items) ≡ length inside.stored.items =
    length-map inside.stored.items (λ (e : ℕ × g.row.T.Denot). e.0) in
    let count : length (map (λ (e : ℕ × g.row.T.Denot). e.0) inside.stored.items) + length inside.lent.items ≡ inside.next = c.self.invariant.0.count in
    let first : inside.next + 1 ≤ vec_capacity c.reserve.new.self =
    omega (arith, c.in_ok-reserve.ensures.ok, c.reserve.ensures.len, inside.stored.ok.0, inside.lent.ok.0) in
    let second : inside.next + 1 ≤ vec_capacity c.push_reserved.new.self = search rules in
    (make-sound old new c.reserve.ensures.items lent refl c.self.invariant.0, first, second)
