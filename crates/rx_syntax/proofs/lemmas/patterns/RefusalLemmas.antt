-- What is refused stays refused in what is made of it.
use Rattle.std.proofs.Common.{◌≡◌, sym, ap, ◌∙◌}
use Rattle.std.specs.Prelude.{Result}
use Rattle.rx_reader.specs.Reading.{◌>>=◌}
use Rattle.rx_reader.specs.Refusal.{Refuses}
use Rattle.rx_reader.specs.declared.error.ParseError.{ParseError}
use Rattle.rx_reader.specs.declared.error.ParseError.TheVariants.{Syntax as Refused, Memory}
use Rattle.rx_reader.specs.declared.error.SyntaxError.{SyntaxError}

pub refuses-then : {A B : Type 0} (e : ParseError) (asked : Result A SyntaxError) (f : A → Result B SyntaxError) (whole : Result B SyntaxError)
    → (asked >>= f) ≡ whole → Refuses e asked → Refuses e whole
refuses-then (Refused x) asked f whole same h = sym same ∙ ap (λ r. r >>= f) h
refuses-then Memory asked f whole same h = tt
