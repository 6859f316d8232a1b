use Rattle.std.proofs.Common.{rules, arith, ◌≡◌, ◌≤◌, ◌+◌, ◌%◌, Some, ap, ◌∙◌}
use Rattle.rx_slots.proofs.SlotLemmas.{takes_slot, in_front, not_below_more}
use Rattle.rx_slots.proofs.slot_pool.SlotPool.take.Goals as goal

pub fetch_or-found-requires : goal.fetch_or-found-requires
fetch_or-found-requires g c = (search rules, search rules, takes_slot _ _ _ _ _ c.requires.slot)

pub exchange-requires : goal.exchange-requires
exchange-requires g c =
    let even : c.fetch_or-found.result % 2 ≡ 0 = omega arith in
    let got = c.fetch_or-found.ensures.2.gives even in
    (search rules, (Some got.0, in_front _ _ _ _ (ap (λ me. me.1) got.1)))

pub returns-clause-answer : goal.returns-clause-answer
returns-clause-answer g c =
    let even : c.fetch_or-found.result % 2 ≡ 0 = omega arith in
    let got = c.fetch_or-found.ensures.2.gives even in
    let rises : c.fetch_or-found.result ≤ c.fetch_or-found.result + 1 = omega arith in (
      omega (arith, even),
      not_below_more _ _ _ _ rises c.fetch_or-found.ensures.2.not_below,
      ap (λ me. me.0) c.exchange.ensures.3 ∙ ap (λ me. me.0) got.1,
    )
