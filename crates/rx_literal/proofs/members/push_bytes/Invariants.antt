use Rattle.std.proofs.Common.{◌≡◌, ◌-◌, ◌++◌, ◌∷◌, []}
use Rattle.rx_class.specs.Ranges.{next_byte}
use Rattle.rx_class.specs.Bytes.{or_past_byte}
use Rattle.rx_literal.specs.Extract.{numbers}
use Rattle.rx_literal.proofs.lemmas.prefixes.MemberLemmas.{encoded}
use Rattle.rx_literal.proofs.members.push_bytes.Given as goal

abbrev pub invariant-loop-count : goal.invariant-loop-count
invariant-loop-count l =
    l.found.items ++ encoded (λ b. b ∷ []) (numbers next_byte (l.fn.most - l._count) (or_past_byte l.next) l.fn.high)
    ≡ l.initial.found.items ++ encoded (λ b. b ∷ []) (numbers next_byte l.fn.most l.fn.low l.fn.high)
