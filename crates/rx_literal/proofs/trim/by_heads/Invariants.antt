use Rattle.std.proofs.Common.{◌≡◌, ℕ, map, take}
use Rattle.rx_literal.specs.Literals.{Literal}
use Rattle.rx_literal.proofs.trim.by_heads.Given as goal

abbrev pub invariant-loop-literal : goal.invariant-loop-literal
invariant-loop-literal l = map (λ (p : ℕ × Literal). p.1) l.headed.items ≡ take l.literal-index l.literals
