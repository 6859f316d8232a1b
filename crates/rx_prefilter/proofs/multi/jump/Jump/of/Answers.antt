use Rattle.std.proofs.Common.{◌<◌, ◌≤◌, ℕ, List, length, map, arith}
use Rattle.std.specs.Vec.{vec_items}
use Rattle.std.proofs.lemmas.List.Elements.{All-weaker}
use Rattle.rx_prefilter.proofs.multi.jump.Jump.of.Goals as goal

pub at-requires : goal.at-requires
at-requires c =
    let P : List ℕ → Type 0 = λ n. c.args.count ≤ length n in
    let Q : List ℕ → Type 0 = λ n. c.loop-offset.offset < length n in
    All-weaker P Q (λ n l. omega (arith, l, c.loop-offset-test.true)) (map vec_items c.args.needles.now) c.requires
