-- The buffers of a search.
use Rattle.std.proofs.Common.{◌≡◌, ℕ, [], sym, ◌∙◌, ap}
use Rattle.rx_engines.specs.Buffers.{KeepsRoom, AreAlike, held_by, room_for}
use Rattle.rx_engines.specs.declared.pikevm.buffers.Buffers.{Buffers}

pub keeps-twice : {a b c : Buffers} → KeepsRoom a b → KeepsRoom b c → KeepsRoom a c
keeps-twice x y = record {
  even = y.even ∙ x.even;
  odd = y.odd ∙ x.odd;
  slots = y.slots ∙ x.slots;
  stack = y.stack ∙ x.stack;
  best = y.best ∙ x.best;
}

-- what is alike stays so
pub alike-kept : {a b : Buffers} → AreAlike a → KeepsRoom a b → b.walk.stack.items ≡ [] → AreAlike b
alike-kept {a} {b} alike x empty = record {
  even = ap (λ (r : ℕ × (ℕ × ℕ)). r.1.0) x.even ∙ alike.even ∙ sym (ap (λ (r : ℕ × (ℕ × ℕ)). r.0) x.even);
  odd = x.odd ∙ alike.odd ∙ sym x.even;
  slots = x.slots ∙ alike.slots ∙ sym x.best;
  empty = empty;
}

-- and so does the room of a cache
pub room-kept : {a b : Buffers} (memory : ℕ) → KeepsRoom a b → held_by a ≡ 0 → held_by b ≡ 0 → room_for b memory ≡ room_for a memory
room-kept {a} {b} memory x none none' =
    λ j. record { states = (x.even j).0; cells = (x.even j).1.1; stack = x.stack j; slots = x.best j; memory = memory; held = (none' ∙ sym none) j }
