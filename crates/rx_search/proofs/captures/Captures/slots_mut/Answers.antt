use Rattle.std.proofs.Common.{◌≡◌, ℕ, length, ◌∙◌, refl, ap, arith}
use Rattle.std.specs.List.{refill}
use Rattle.rx_search.specs.Captures.{CapturesValue}
use Rattle.rx_search.specs.CapturesLends.{with_slots}
use Rattle.rx_search.proofs.captures.Captures.slots_mut.Goals as goal

pub returns : goal.returns
returns c =
    let inside = c.self.inside in
    let len : inside.slots.len ≡ length inside.slots.items = omega (arith, inside.slots.ok.0) in
    let value : CapturesValue = record { groups = inside.group_info; pattern = inside.pattern; slots = inside.slots.items } in (
      (
        refl,
        λ w. ap (λ (n : ℕ). record value { slots = refill n value.slots w }) len ∙ ap (λ (v : CapturesValue). with_slots v w) c.self.view_is,
      ),
      record {
        writes_back = tt;
        value = c.as_mut_slice.ensures.value ∙ ap (λ (v : CapturesValue). v.slots) c.self.view_is;
      },
    )
