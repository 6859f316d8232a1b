-- What two facts say of a result together.
use Rattle.std.specs.Prelude.{Result, Ok, Err, IfOk, OnOk}

pub IfOk-both : {T E : Type 0} (P Q R : T → Type 0) (r : Result T E) → IfOk r P → IfOk r Q → ((x : T) → P x → Q x → R x) → IfOk r R
IfOk-both P Q R (Ok x) p q both = both x p q
IfOk-both P Q R (Err e) p q both = tt

-- a fact that does not speak of the value
pub OnOk-of : {T E : Type 0} (P : T → Type 0) (Q : Type 0) (r : Result T E) → IfOk r P → ((x : T) → P x → Q) → OnOk r Q
OnOk-of P Q (Ok x) p of = of x p
OnOk-of P Q (Err e) p of = tt
