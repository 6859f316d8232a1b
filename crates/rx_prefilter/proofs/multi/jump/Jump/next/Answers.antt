use Rattle.std.proofs.Common.{◌+◌, ◌≤◌, length, arith}
use Rattle.std.proofs.lemmas.List.{take_rest}
use Rattle.rx_prefilter.specs.Jumps.{few_bytes}
use Rattle.rx_prefilter.proofs.JumpLemmas.{none_past, next_place}
use Rattle.rx_prefilter.proofs.multi.jump.Jump.next.Goals as goal

pub returns-then-text-at : goal.returns-then-text-at
returns-then-text-at c needles all = none_past (few_bytes c.args.self.now.bytes) c.args.self.now.offset c.args.text.now needles c.args.at all (omega arith)

pub returns-in-Some : goal.returns-in-Some
returns-in-Some c needles all =
    let text = c.args.text.now in
    let at = c.args.at in
    let jump = c.args.self.now in
    let low : at + jump.offset ≤ length text = omega arith in
    let first = rw (take_rest text (at + jump.offset)) at c.first_in.ensures in
    rw c.in-Some.is at (next_place (few_bytes jump.bytes) jump.offset text needles at all low c.first_in.result first)

pub returns-in-None : goal.returns-in-None
returns-in-None c needles all =
    let text = c.args.text.now in
    let at = c.args.at in
    let jump = c.args.self.now in
    let low : at + jump.offset ≤ length text = omega arith in
    let first = rw (take_rest text (at + jump.offset)) at c.first_in.ensures in
    rw c.in-None.is at (next_place (few_bytes jump.bytes) jump.offset text needles at all low c.first_in.result first)
