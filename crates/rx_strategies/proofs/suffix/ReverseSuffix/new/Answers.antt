use Rattle.std.proofs.Common.{ℕ, List, sym, ◌∙◌, subst, refl}
use Rattle.std.specs.Prelude.{Option}
use Rattle.rx_model.specs.Expression.{alternation}
use Rattle.rx_hir.specs.Normal.{expressions}
use Rattle.rx_strategies.specs.Attempts.{IsSuffixFound}
use Rattle.rx_strategies.proofs.ChosenLemmas.{attempts-dfas, suffix-not, suffix-none, suffix-of}
use Rattle.rx_strategies.proofs.MadeLemmas.{made-properties}
use Rattle.rx_strategies.proofs.suffix.ReverseSuffix.new.Goals as goal

pub returns-then-not-may_attempt : goal.returns-then-not-may_attempt
returns-then-not-may_attempt c =
    let config = c.args.config.now in
    let hs = c.args.exprs.now in
    let core = c.args.core in (
      refl,
      suffix-not config core hs
          (sym (c.may_attempt.ensures (alternation (expressions hs)) (made-properties config hs core c.requires)) ∙ c.if-not-may_attempt.true),
    )

pub invariant_of-result : goal.invariant_of-result
invariant_of-result c =
    let config = c.args.config.now in
    let hs = c.args.exprs.now in
    let core = c.args.core in
    let all = alternation (expressions hs) in
    let found = subst (λ (o : Option (List (List ℕ))). IsSuffixFound hs o) c.in-Ok-Some.field-0-is c.in-Ok-Some.ensures in
    record {
      there = attempts-dfas config core hs all (sym (c.may_attempt.ensures all (made-properties config hs core c.requires)) ∙ c.if-not-may_attempt.false);
      one = (found.0, found.1, found.2);
    }

pub returns-in-Ok-Some : goal.returns-in-Ok-Some
returns-in-Ok-Some c =
    let config = c.args.config.now in
    let hs = c.args.exprs.now in
    let core = c.args.core in
    let all = alternation (expressions hs) in
    let found = subst (λ (o : Option (List (List ℕ))). IsSuffixFound hs o) c.in-Ok-Some.field-0-is c.in-Ok-Some.ensures in
    suffix-of config core hs (sym (c.may_attempt.ensures all (made-properties config hs core c.requires)) ∙ c.if-not-may_attempt.false) c.in-Ok-Some.pre found _ refl

pub returns-in-Ok-None : goal.returns-in-Ok-None
returns-in-Ok-None c =
    let config = c.args.config.now in
    let hs = c.args.exprs.now in
    let core = c.args.core in
    let all = alternation (expressions hs) in
    let found = subst (λ (o : Option (List (List ℕ))). IsSuffixFound hs o) c.in-Ok-None.field-0-is c.in-Ok-None.ensures in
    (refl, suffix-none config core hs (sym (c.may_attempt.ensures all (made-properties config hs core c.requires)) ∙ c.if-not-may_attempt.false) found)
