-- The spans of groups one after another, and slots that were lent.
use Rattle.std.proofs.Common.{◌≡◌, ℕ, suc, ◌+◌, ◌-◌, ◌<◌, List, Option, ◌∷◌, length, refl, ap, arith}
use Rattle.std.proofs.lemmas.Grind.{common_steps}
use Rattle.std.specs.List.{refill}
use Rattle.rx_search.specs.CapturesLends.{with_slots}
use Rattle.rx_search.specs.Captures.{CapturesValue, group_span, spans_from}

-- the span of the next group comes first, and then those of the groups after it
pub spans_from-next : (c : CapturesValue) (next end : ℕ) → next < end
    → spans_from c next (end - next) ≡ group_span c next ∷ spans_from c (next + 1) (end - (next + 1))
spans_from-next c next end less =
    let e : end - next ≡ suc (end - (next + 1)) = omega arith in
    rw e refl

-- as many slots as there are stand for those
pub refill-whole : (n : ℕ) (old new : List (Option ℕ)) → length old ≡ n → length new ≡ n → refill n old new ≡ new
refill-whole n old new was is = grind (arith, common_steps)

-- captures whose slots were lent have the slots that were left
pub with_slots-whole : (c : CapturesValue) (slots : List (Option ℕ)) → length slots ≡ length c.slots → with_slots c slots ≡ record c { slots = slots }
with_slots-whole c slots same = ap (λ (xs : List (Option ℕ)). record c { slots = xs }) (refill-whole (length c.slots) c.slots slots refl same)
