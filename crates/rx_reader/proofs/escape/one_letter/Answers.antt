use Rattle.std.proofs.Common.{◌≡◌, ℕ, Bool, ◌∙◌, sym, ap}
use Rattle.std.specs.Prelude.{Option, Some, None}
use Rattle.rx_sets.specs.declared.perl.ClassPerlKind.{ClassPerlKind}
use Rattle.rx_reader.specs.declared.assertion.AssertionKind.{AssertionKind}
use Rattle.rx_reader.specs.declared.escape.Escaped.TheVariants.{Assertion, Perl}
use Rattle.rx_reader.specs.Escapes.{perl_class, assertion, escaped_character, by_letter, one_letter}
use Rattle.rx_reader.proofs.escape.one_letter.Goals as goal

by_set : (c : ℕ) (set : ClassPerlKind × Bool) → perl_class c ≡ Some set → Some (Perl set.0 set.1) ≡ one_letter c
unfolding one_letter
by_set c set h = sym (ap (λ (found : Option (ClassPerlKind × Bool)). by_letter found (assertion c) (escaped_character c)) h)

by_assertion : (c : ℕ) (kind : AssertionKind) → perl_class c ≡ None → assertion c ≡ Some kind → Some (Assertion kind) ≡ one_letter c
unfolding one_letter
by_assertion c kind none h =
    sym (ap (λ (found : Option (ClassPerlKind × Bool)). by_letter found (assertion c) (escaped_character c)) none
    ∙ ap (λ (found : Option AssertionKind). by_letter None found (escaped_character c)) h)

by_character : (c : ℕ) (found : Option ℕ) → perl_class c ≡ None → assertion c ≡ None → escaped_character c ≡ found → by_letter None None found ≡ one_letter c
unfolding one_letter
by_character c found none neither h =
    sym (ap (λ (set : Option (ClassPerlKind × Bool)). by_letter set (assertion c) (escaped_character c)) none
    ∙ ap (λ (kind : Option AssertionKind). by_letter None kind (escaped_character c)) neither
    ∙ ap (λ (char : Option ℕ). by_letter None None char) h)

pub returns-in-Some : goal.returns-in-Some
returns-in-Some c = by_set c.args.c c.in-Some.found (sym c.perl_class.ensures ∙ c.in-Some.is)

pub returns-in-Some-assertion : goal.returns-in-Some-assertion
returns-in-Some-assertion c = by_assertion c.args.c c.in-Some-assertion.kind (sym c.perl_class.ensures ∙ c.in-None.is)
    (sym c.assertion.ensures ∙ c.in-Some-assertion.is)

pub returns-in-Some-escaped_character : goal.returns-in-Some-escaped_character
returns-in-Some-escaped_character c = ap Some c.character.ensures ∙ by_character c.args.c (Some c.in-Some-escaped_character.c)
    (sym c.perl_class.ensures ∙ c.in-None.is) (sym c.assertion.ensures ∙ c.in-None-assertion.is)
    (sym c.escaped_character.ensures ∙ c.in-Some-escaped_character.is)

pub returns-in-None-escaped_character : goal.returns-in-None-escaped_character
returns-in-None-escaped_character c = by_character c.args.c None (sym c.perl_class.ensures ∙ c.in-None.is) (sym c.assertion.ensures ∙ c.in-None-assertion.is)
    (sym c.escaped_character.ensures ∙ c.in-None-escaped_character.is)
