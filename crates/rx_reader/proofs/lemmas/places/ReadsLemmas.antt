-- On what was read.
use Rattle.std.proofs.Common.{◌≡◌, ℕ, Err, refl, sym}
use Rattle.std.specs.Prelude.{Result}
use Rattle.rx_reader.specs.declared.error.SyntaxError.{SyntaxError}
use Rattle.rx_reader.specs.declared.error.ParseError.{ParseError}
use Rattle.rx_reader.specs.declared.error.ParseError.TheVariants.{Syntax as Refused, Memory}
use Rattle.rx_reader.specs.declared.error.SyntaxErrorKind.{SyntaxErrorKind}
use Rattle.rx_reader.specs.Reading.{Place, refuse}
use Rattle.rx_reader.specs.Input.{Refuses}

pub refuses_from : {A : Type 0} (e : ParseError) (reading : Result A SyntaxError) → ((x : SyntaxError) → e ≡ Refused x → reading ≡ Err x) → Refuses e reading
refuses_from (Refused x) reading h = h x refl
refuses_from Memory reading h = tt

pub refuses : {A : Type 0} (e : ParseError) (reading : Result A SyntaxError) → Refuses e reading → (x : SyntaxError) → e ≡ Refused x → reading ≡ Err x
refuses (Refused y) reading h x is = cc
refuses Memory reading h x is = cc

pub refuse_at : {A : Type 0} (kind : SyntaxErrorKind) (p q : Place) (s e : ℕ) → s ≡ p.at → e ≡ q.at
    → ◌≡◌ {A = Result A SyntaxError} (refuse kind p q) (Err (record { kind = kind; start = s; end = e }))
refuse_at kind p q s e start end = λ i. Err (record { kind = kind; start = sym start i; end = sym end i })
