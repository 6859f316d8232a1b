use Rattle.std.proofs.Common.{◌≡◌, ◌<◌, true, length, Some, ap, sym, ◌∙◌, arith}
use Rattle.std.specs.Prelude.{◌==◌, reverse}
use Rattle.std.proofs.lemmas.Bool.Decides.{nat_tests}
use Rattle.rx_literal.specs.Literals.{bytes_of}
use Rattle.rx_literal.specs.Trim.{common_from_behind}
use Rattle.rx_literal.proofs.lemmas.suffixes.BehindLemmas.{suffix-some, suffix-none, take-rest}
use Rattle.rx_literal.proofs.suffix.suffix_of_all.Goals as goal

pub returns-then-is_empty : goal.returns-then-is_empty
returns-then-is_empty c =
    let test : (length c.args.literals.now == 0) ≡ true = sym c.is_empty.ensures ∙ c.if-is_empty.true in
    let none : length c.args.literals.now ≡ 0 = grind (arith, nat_tests) in
    sym (suffix-none c.args.literals.now none)

pub returns : goal.returns
returns c =
    let ls = c.args.literals.now in
    let test = sym c.is_empty.ensures ∙ c.if-is_empty.false in
    let some : 0 < length c.args.literals.now = grind (arith, nat_tests) in
    let first = c.as_bytes.ensures ∙ ap bytes_of c.index-literals-0.is in
    ap Some (c.common_suffix.ensures
    ∙ (λ k. reverse (common_from_behind (reverse (first k)) (take-rest ls 1 k))))
    ∙ sym (suffix-some ls c.index-literals-0.result some)
