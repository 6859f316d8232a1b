use Rattle.std.proofs.Common.{◌≡◌, ◌<◌, ◌+◌, ◌-◌, ◌∷◌, ℕ, List, length, get_or, take, drop, ap, sym, subst, ◌∙◌, arith, take_all, drop_of_length-le}
use Rattle.std.proofs.lemmas.Str.{IsCharBoundary-after_ascii}
use Rattle.rx_scan.specs.Input.{lines}
use Rattle.rx_scan.proofs.LineLemmas.{HasNoNewline, first-line, lines-cut, lines-one, newline-at, newline-nowhere}
use Rattle.rx_scan.proofs.input.split_line.Goals as goal

pub range_from-requires : goal.range_from-requires
range_from-requires c =
    let text = c.args.text.now in
    let at = c.in-Some.at in
    let cut = newline-at c.as_bytes.result.now at c.in-Some.ensures.0 c.in-Some.ensures.1 in
    let below : at < length text = subst (λ bytes. at < length bytes) c.as_bytes.ensures.value cut.0 in
    let newline : get_or text at 0 ≡ 10 = subst (λ bytes. get_or bytes at 0 ≡ 10) c.as_bytes.ensures.value cut.1 in
    λ some. IsCharBoundary-after_ascii text at c.utf8.text below (omega (arith, newline))

pub returns-in-Some-clause-lines : goal.returns-in-Some-clause-lines
returns-in-Some-clause-lines c =
    let text : List ℕ = c.args.text.now in
    let at = c.in-Some.at in
    let bytes = c.as_bytes.result.now in
    let same = c.as_bytes.ensures.value in
    let cut = newline-at bytes at c.in-Some.ensures.0 c.in-Some.ensures.1 in
    let none : at - 0 ≡ at = omega arith in
    let front : c.range.result.now ≡ take at bytes = c.range.ensures.value ∙ ap (λ n. take n text) none ∙ ap (take at) (sym same) in
    let rest : c.range_from.result.now ≡ drop (at + 1) bytes = c.range_from.ensures.value ∙ ap (drop (at + 1)) (sym same) in
    ap lines (sym same ∙ cut.2) ∙ lines-cut (take at bytes) (drop (at + 1) bytes) cut.3 ∙ (λ k. sym front k ∷ lines (sym rest k))

pub returns-in-None-clause-lines : goal.returns-in-None-clause-lines
returns-in-None-clause-lines c =
    let bytes = c.as_bytes.result.now in
    let none : HasNoNewline c.args.text.now = subst HasNoNewline c.as_bytes.ensures.value (newline-nowhere bytes c.in-None.ensures) in
    lines-one c.args.text.now c.requires none

pub returns-in-Some-clause-line : goal.returns-in-Some-clause-line
returns-in-Some-clause-line c =
    let cut = newline-at c.as_bytes.result.now c.in-Some.at c.in-Some.ensures.0 c.in-Some.ensures.1 in
    (first-line c.args.text.now _ c.range.result.now c.in-Some.at c.as_bytes.ensures.value cut.0 c.range.ensures.value).0

pub returns-in-Some-clause-rest : goal.returns-in-Some-clause-rest
returns-in-Some-clause-rest c =
    let cut = newline-at c.as_bytes.result.now c.in-Some.at c.in-Some.ensures.0 c.in-Some.ensures.1 in
    let front = first-line c.args.text.now _ c.range.result.now c.in-Some.at c.as_bytes.ensures.value cut.0 c.range.ensures.value in
    c.range_from.ensures.value ∙ ap (λ n. drop (n + 1) c.args.text.now) (sym front.1)

pub returns-in-None-clause-line : goal.returns-in-None-clause-line
returns-in-None-clause-line c = sym (take_all (length c.args.text.now) c.args.text.now (omega arith))

pub returns-in-None-clause-rest : goal.returns-in-None-clause-rest
returns-in-None-clause-rest c = sym (drop_of_length-le c.args.text.now {i = length c.args.text.now + 1} (omega arith))
