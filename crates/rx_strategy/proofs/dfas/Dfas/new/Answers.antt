use Rattle.std.proofs.Common.{◌≡◌, ap, subst}
use Rattle.std.proofs.lemmas.Result.{IfOk-weaker}
use Rattle.std.specs.Prelude.{Option, IfSome, option_copied}
use Rattle.rx_nfa.specs.Nfa.{Nfa}
use Rattle.rx_strategy.proofs.BuiltLemmas.{none-full, some-full, beside-none, beside-some}
use Rattle.rx_strategy.proofs.dfas.Dfas.new.Goals as goal

pub returns-in_default : goal.returns-in_default
returns-in_default c =
    beside-none c.args.config.now c.args.nfa.now (option_copied c.args.reverse) (ap (λ o. option_copied o) c.in_default.is)

pub lazies-requires-clause-no_full : goal.lazies-requires-clause-no_full
lazies-requires-clause-no_full c =
    none-full c.args.config.now c.args.nfa.now c.in-Some.reverse.now c.in_ok-dfas.field-0 c.in_ok-dfas.ensures c.in-None.is

pub lazies-requires-clause-same : goal.lazies-requires-clause-same
lazies-requires-clause-same c =
    subst (λ (o : Option Nfa). IfSome o (λ back. back.accounted ≡ c.args.nfa.now.accounted)) (ap (λ o. option_copied o) c.in-Some.is) c.requires

pub returns-in-Some-2 : goal.returns-in-Some-2
returns-in-Some-2 c =
    beside-some c.args.config.now c.args.nfa.now (option_copied c.args.reverse) c.in-Some.reverse.now (ap (λ o. option_copied o) c.in-Some.is) c.in-Some-2.dfas
    (some-full c.args.config.now c.args.nfa.now c.in-Some.reverse.now c.in_ok-dfas.field-0 c.in_ok-dfas.ensures c.in-Some-2.dfas c.in-Some-2.is)

pub returns-in-None : goal.returns-in-None
returns-in-None c =
    IfOk-weaker c.lazies.result _ _
    (beside-some c.args.config.now c.args.nfa.now (option_copied c.args.reverse) c.in-Some.reverse.now (ap (λ o. option_copied o) c.in-Some.is))
    c.lazies.ensures
