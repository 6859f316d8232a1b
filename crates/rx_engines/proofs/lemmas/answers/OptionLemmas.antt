-- Options.
use Rattle.std.specs.Prelude.{Option, Some, None, IfNone}

pub if-none : {A : Type 0} (o : Option A) {P : Type 0} → P → IfNone o P
if-none None p = p
if-none (Some x) p = tt
