use Rattle.rx_reader.specs.declared.error.SyntaxErrorKind.TheVariants.{NestLimit}
use Rattle.rx_reader.specs.Counts.{operator}
use Rattle.rx_reader.proofs.lemmas.places.ReadsLemmas.{refuses_from, refuses, refuse_at}
use Rattle.std.proofs.Common.{arith, true, false, ◌≡◌, ◌∙◌, ap, sym, refl}
use Rattle.std.specs.Prelude.{nat_lt}
use Rattle.std.proofs.lemmas.Bool.Decides.{nat_tests}
use Rattle.rx_reader.specs.Input.{place}
use Rattle.rx_reader.specs.Config.{limit_of}
use Rattle.rx_reader.specs.Syntax.{Syntax, depth}
use Rattle.rx_reader.specs.Grammar.{is_operator, repeated_by}
use Rattle.rx_reader.proofs.lemmas.branches.BranchLemmas.{all_repetitions-step}
use Rattle.rx_reader.proofs.lemmas.branches.RepeatLemmas.{repeated_from, repeat_goes, repeat_refused, repeat_too_deep, repeat_stops}
use Rattle.rx_reader.proofs.parser.repetitions.Goals as goal

pub loop-flags-init : goal.loop-flags-init
loop-flags-init c = record {
  read = all_repetitions-step c.args.config c.args.flags c.args.item (place c.args.cursor.now)
      ∙ ap (repeated_from c.args.config c.args.flags c.args.item) (sym c.skip.ensures.value);
  moves = c.skip.ensures.progress;
}

pub loop-flags-preserved : goal.loop-flags-preserved
loop-flags-preserved c =
    let l = c.loop-flags in
    let p = place l.cursor in
    let o = c.in-Ok.operator in
    let at : is_operator p ≡ true = sym c.is_at.ensures.value ∙ c.loop-flags-test.true in
    let within : nat_lt (limit_of c.args.config) (depth (repeated_by o l.item)) ≡ false = grind (arith, nat_tests) in
    record {
      read = l.invariant.read ∙ repeat_goes c.args.config c.args.flags l.item p o (place c.read_operator.new.cursor) at c.in-Ok.ensures.value within
          ∙ ap (repeated_from c.args.config c.args.flags (repeated_by o l.item)) (sym c.skip-in-loop-flags.ensures.value)
          ∙ ap (λ (s : Syntax). repeated_from c.args.config c.args.flags s (place c.skip-in-loop-flags.new.self)) (sym c.in_ok-item.ensures);
      moves = omega (arith, l.invariant.moves, c.in-Ok.ensures.progress, c.skip-in-loop-flags.ensures.progress);
    }

pub returns-in-Err-clause-value : goal.returns-in-Err-clause-value
returns-in-Err-clause-value c =
    let l = c.loop-flags in
    let p = place l.cursor in
    let at : is_operator p ≡ true = sym c.is_at.ensures.value ∙ c.loop-flags-test.true in
    refuses_from _ _ (λ x is. l.invariant.read ∙ repeat_refused c.args.config c.args.flags l.item p x at
    (refuses _ (operator c.args.flags p) c.in-Err.ensures.value x is))

pub returns-then-depth-get_nest_limit-clause-value : goal.returns-then-depth-get_nest_limit-clause-value
returns-then-depth-get_nest_limit-clause-value c =
    let l = c.loop-flags in
    let p = place l.cursor in
    let q = place c.read_operator.new.cursor in
    let o = c.in-Ok.operator in
    let at : is_operator p ≡ true = sym c.is_at.ensures.value ∙ c.loop-flags-test.true in
    let deep : nat_lt (limit_of c.args.config) (depth (repeated_by o l.item)) ≡ true = grind (arith, nat_tests) in
    rw c.refuse_from.ensures (l.invariant.read ∙ repeat_too_deep c.args.config c.args.flags l.item p o q at c.in-Ok.ensures.value deep
    ∙ refuse_at NestLimit p q c.at-start.result q.at c.at-start.ensures refl)

pub returns-clause-value : goal.returns-clause-value
returns-clause-value c =
    let l = c.loop-flags in
    l.invariant.read ∙ repeat_stops c.args.config c.args.flags l.item (place l.cursor) (sym c.is_at.ensures.value ∙ c.loop-flags-test.false)
