-- What is known of the program's tokens.
use Rattle.std.specs.Prelude.{◌≡◌, Bool, true, false}
use Rattle.rx_reader.specs.declared.token.Token.{Token}
use Rattle.rx_reader.specs.declared.token.Token.TheVariants.{End, Close}

abbrev pub is_end : Token → Bool
is_end End = true
is_end _ = false

abbrev pub is_close : Token → Bool
is_close Close = true
is_close _ = false

-- neither the end nor what closes a group
abbrev pub IsOneMore : Token → Type 0
IsOneMore t = (is_end t ≡ false) × (is_close t ≡ false)
