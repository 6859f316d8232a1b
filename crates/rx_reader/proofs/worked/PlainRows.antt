-- What escaped texts are, and what they read as, by evaluation of the definitions.
use Rattle.std.proofs.Common.{◌≡◌, [], refl}
use Rattle.std.specs.Prelude.{true, false, Ok, codes}
use Rattle.rx_reader.specs.declared.config.Config.{Config}
use Rattle.rx_reader.specs.declared.flags.Flags.{Flags}
use Rattle.rx_reader.specs.Config.{default, unicode_alone}
use Rattle.rx_reader.specs.Reading.{past_while}
use Rattle.rx_reader.specs.Ahead.{past_n, blank_len}
use Rattle.rx_reader.specs.Escapes.{one_letter, lettered, escape}
use Rattle.rx_reader.specs.Plain.{escaped_text, has_skipped, characters}
use Rattle.rx_reader.specs.Grammar.{escaped, token_of, token, repetitions, branches, read}

escaped_rows :
    (escaped_text (codes "a.b") ≡ codes "a\\.b") ×
    (escaped_text (codes "") ≡ []) ×
    (escaped_text (codes "é{2}") ≡ codes "é\\{2\\}") ×
    (escaped_text (codes "a-b&&") ≡ codes "a\\-b\\&\\&") ×
    (escaped_text (codes "\\.+*?()|[]{}^$#&-~") ≡ codes "\\\\\\.\\+\\*\\?\\(\\)\\|\\[\\]\\{\\}\\^\\$\\#\\&\\-\\~")
escaped_rows = (refl, refl, refl, refl, refl)

read_rows :
    (read default (codes "a\\.b") ≡ Ok (characters unicode_alone (codes "a.b"))) ×
    (read default (codes "") ≡ Ok (characters unicode_alone [])) ×
    (read default (codes "é\\{2\\}") ≡ Ok (characters unicode_alone (codes "é{2}"))) ×
    (read default (codes "a\\-b\\&\\&") ≡ Ok (characters unicode_alone (codes "a-b&&"))) ×
    (read default (codes "\\\\\\.\\+\\*\\?\\(\\)\\|\\[\\]\\{\\}\\^\\$\\#\\&\\-\\~") ≡ Ok (characters unicode_alone (codes "\\.+*?()|[]{}^$#&-~"))) ×
    (read default (codes "a-b&&]}#~") ≡ Ok (characters unicode_alone (codes "a-b&&]}#~")))
unfolding read branches repetitions token token_of escaped past_n blank_len past_while escape lettered one_letter
read_rows = (refl, refl, refl, refl, refl, refl)

-- where white space is skipped

abbrev spaced : Flags
spaced = record unicode_alone { ignore_whitespace = true }

abbrev spacing : Config
spacing = record default { flags = spaced }

spaced_rows :
    (has_skipped spaced (codes "a#b") ≡ false) ×
    (has_skipped spaced (codes "a b") ≡ true) ×
    (read spacing (codes "a\\#b") ≡ Ok (characters spaced (codes "a#b"))) ×
    (read spacing (codes "a b") ≡ Ok (characters spaced (codes "ab"))) ×
    (read spacing (codes "a#b") ≡ Ok (characters spaced (codes "a")))
unfolding read branches repetitions token token_of escaped past_n blank_len past_while escape lettered one_letter
spaced_rows = (refl, refl, refl, refl, refl)
