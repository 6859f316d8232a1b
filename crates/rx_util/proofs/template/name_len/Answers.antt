use Rattle.std.proofs.Common.{sym, arith, length}
use Rattle.std.proofs.lemmas.Bool.Decides.{nat_tests}
use Rattle.std.proofs.lemmas.Grind.{common_steps}
use Rattle.std.proofs.lemmas.List.Sums.{prefix_len_is}
use Rattle.rx_util.specs.Template.{is_name_byte}
use Rattle.rx_util.proofs.template.name_len.Goals as goal

pub returns-then-not-is_name_byte : goal.returns-then-not-is_name_byte
returns-then-not-is_name_byte c =
    sym (prefix_len_is is_name_byte c.args.bytes.now c.loop-place.place 0 (omega arith) (λ k lt. c.loop-place.invariant k (omega arith)) (λ _. grind
    (arith, nat_tests, common_steps)))

pub returns : goal.returns
returns c =
    sym (prefix_len_is is_name_byte c.args.bytes.now (length c.args.bytes.now) 0 (omega arith) (λ k lt. c.loop-place.invariant k (omega arith))
    (λ lt. absurd (omega arith)))
