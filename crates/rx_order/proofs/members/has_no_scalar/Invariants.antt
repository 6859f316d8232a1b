use Rattle.std.proofs.Common.{◌≡◌, length, drop}
use Rattle.std.specs.Prelude.{not, chars}
use Rattle.std.specs.List.{list_all}
use Rattle.rx_model.specs.Text.{is_member}
use Rattle.rx_order.proofs.members.has_no_scalar.Given as goal

abbrev pub invariant-loop-c : goal.invariant-loop-c
invariant-loop-c l =
    list_all (λ c. not (is_member l.ranges c)) (drop (length l.yielded) (chars l.text)) ≡ list_all (λ c. not (is_member l.ranges c)) (chars l.text)
