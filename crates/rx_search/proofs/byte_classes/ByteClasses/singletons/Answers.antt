use Rattle.std.proofs.Common.{◌≡◌, ℕ, ◌+◌, ◌<◌, List, inr, length, get_or, arith}
use Rattle.std.proofs.lemmas.List.{length-replicate}
use Rattle.rx_search.specs.ByteClasses.{AreClasses}
use Rattle.rx_search.proofs.byte_classes.ByteClasses.singletons.Goals as goal

pub loop-byte-init : goal.loop-byte-init
loop-byte-init c = record { len = length-replicate {A = ℕ} 256 0; each = λ k lt. absurd (omega arith) }

counted : (classes : List ℕ) → length classes ≡ 256 → ((k : ℕ) → k < 256 → get_or classes k 0 ≡ k) → AreClasses classes
counted classes len each = record {
  len = len;
  first = each 0 (omega arith);
  steps = λ b lt. (let here = each b (omega arith) in let next = each (b + 1) (omega arith) in inr (omega arith));
}

pub invariant_of-result : goal.invariant_of-result
invariant_of-result c = counted c.loop-byte.classes c.loop-byte.invariant.len (λ k lt. c.loop-byte.invariant.each k (omega arith))

pub returns-clause-classes : goal.returns-clause-classes
returns-clause-classes c = counted c.loop-byte.classes c.loop-byte.invariant.len (λ k lt. c.loop-byte.invariant.each k (omega arith))

pub returns-clause-value : goal.returns-clause-value
returns-clause-value c = λ b lt. c.loop-byte.invariant.each b (let len = c.loop-byte.invariant.len in omega arith)
