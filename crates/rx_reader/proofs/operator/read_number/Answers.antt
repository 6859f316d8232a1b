use Rattle.std.proofs.Math.Nat.{le_trans}
use Rattle.std.proofs.Common.{◌≡◌, ◌∙◌, ap, sym, refl, length, ℕ, List, Option, Some, None, Ok}
use Rattle.std.specs.List.{take_while}
use Rattle.std.specs.Char.{is_ascii_digit}
use Rattle.rx_reader.specs.declared.error.SyntaxErrorKind.TheVariants.{RepeatCount}
use Rattle.rx_reader.specs.Input.{place}
use Rattle.rx_reader.specs.Reading.{Place}
use Rattle.rx_reader.specs.Counts.{within, numeral, number_of, number_at}
use Rattle.rx_reader.proofs.lemmas.places.ReadsLemmas.{refuse_at}
use Rattle.rx_reader.proofs.lemmas.tokens.PartLemmas.{number_read}
use Rattle.rx_reader.proofs.operator.read_number.Goals as goal

pub returns-in-Some-clause-value : goal.returns-in-Some-clause-value
returns-in-Some-clause-value c from start =
    let begun = place c.skip_white.new.self in
    let q = place c.bump_by.new.self in
    let n = c.digits_of-digits.result.len in
    let digits = take_while is_ascii_digit begun.text in
    let len : n ≡ length digits = c.digits_of-digits.ensures.len ∙ ap (λ (cs : List ℕ). length (take_while is_ascii_digit cs)) c.rest.ensures in
    let written : c.digits_of-digits.result.value ≡ within (numeral digits) =
    c.digits_of-digits.ensures.value ∙ ap (λ (cs : List ℕ). within (numeral (take_while is_ascii_digit cs))) c.rest.ensures in
    let number : number_of digits ≡ Some c.in-Some.number = sym (c.number_of.ensures digits len written) ∙ c.in-Some.is in
    number_read from (place c.args.cursor.now) begun q c.args.flags n c.skip_white.ensures.value len c.bump_by.ensures.value
    ∙ ap (λ (o : Option ℕ). number_at from c.args.flags o q) number ∙ ap (λ (r : Place). Ok (c.in-Some.number, r)) (sym c.skip_white-in-Some.ensures.value)

pub returns-in-None-clause-value : goal.returns-in-None-clause-value
returns-in-None-clause-value c from start =
    let begun = place c.skip_white.new.self in
    let q = place c.bump_by.new.self in
    let n = c.digits_of-digits.result.len in
    let digits = take_while is_ascii_digit begun.text in
    let len : n ≡ length digits = c.digits_of-digits.ensures.len ∙ ap (λ (cs : List ℕ). length (take_while is_ascii_digit cs)) c.rest.ensures in
    let written : c.digits_of-digits.result.value ≡ within (numeral digits) =
    c.digits_of-digits.ensures.value ∙ ap (λ (cs : List ℕ). within (numeral (take_while is_ascii_digit cs))) c.rest.ensures in
    let number : number_of digits ≡ None = sym (c.number_of.ensures digits len written) ∙ c.in-None.is in
    rw c.refuse_from.ensures (
    number_read from (place c.args.cursor.now) begun q c.args.flags n c.skip_white.ensures.value len c.bump_by.ensures.value
    ∙ ap (λ (o : Option ℕ). number_at from c.args.flags o q) number ∙ refuse_at RepeatCount from q c.args.start q.at start refl)

pub returns-in-Some-clause-progress : goal.returns-in-Some-clause-progress
returns-in-Some-clause-progress c = le_trans c.skip_white-in-Some.ensures.progress (le_trans c.bump_by.ensures.progress c.skip_white.ensures.progress)

pub returns-in-Some-clause-kept : goal.returns-in-Some-clause-kept
returns-in-Some-clause-kept c h = c.skip_white-in-Some.ensures.kept (c.bump_by.ensures.kept (c.skip_white.ensures.kept h))

pub returns-in-None-clause-kept : goal.returns-in-None-clause-kept
returns-in-None-clause-kept c h = c.bump_by.ensures.kept (c.skip_white.ensures.kept h)
