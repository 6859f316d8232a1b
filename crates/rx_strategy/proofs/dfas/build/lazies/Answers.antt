use Rattle.std.proofs.Common.{sym, ◌∙◌, subst}
use Rattle.rx_search.specs.declared.anchored.MatchKind.{MatchKind}
use Rattle.rx_search.specs.declared.anchored.MatchKind.TheVariants.{All}
use Rattle.rx_dfa.specs.LazyBuild.{IsLazyOf}
use Rattle.rx_strategy.specs.Config.{byte_classes_of, hybrid_cache_capacity_of}
use Rattle.rx_strategy.proofs.BuiltLemmas.{absent-off, absent-below, absent-behind, both-lazy, none-made, some-made}
use Rattle.rx_strategy.proofs.dfas.build.lazies.Goals as goal

pub returns-then-not-get_hybrid : goal.returns-then-not-get_hybrid
returns-then-not-get_hybrid c =
    absent-off c.args.config.now c.args.nfa.now c.args.reverse.now c.requires.no_full (sym c.get_hybrid.ensures ∙ c.if-not-get_hybrid.true)

pub returns-in_default : goal.returns-in_default
returns-in_default c =
    absent-below c.args.config.now c.args.nfa.now c.args.reverse.now c.requires.no_full
    (none-made c.args.config.now c.args.nfa.now c.get_match_kind.result c.in_ok-forward.field-0 c.in_ok-forward.ensures c.in_default.is)

pub returns-in_default-2 : goal.returns-in_default-2
returns-in_default-2 c =
    absent-behind c.args.config.now c.args.nfa.now c.args.reverse.now c.requires.no_full c.requires.same
    (none-made c.args.config.now c.args.reverse.now All c.in_ok-backward.field-0 c.in_ok-backward.ensures c.in_default-2.is)

pub returns : goal.returns
returns c =
    let config = c.args.config.now in
    both-lazy config c.args.nfa.now c.args.reverse.now c.requires.no_full (sym c.get_hybrid.ensures ∙ c.if-not-get_hybrid.false)
    c.in-Some.forward c.in-Some-2.backward
    (subst (λ (k : MatchKind). IsLazyOf c.args.nfa.now k (byte_classes_of config) (hybrid_cache_capacity_of config) c.in-Some.forward)
    c.get_match_kind.ensures
    (some-made config c.args.nfa.now c.get_match_kind.result c.in_ok-forward.field-0 c.in_ok-forward.ensures c.in-Some.forward c.in-Some.is))
    (some-made config c.args.reverse.now All c.in_ok-backward.field-0 c.in_ok-backward.ensures c.in-Some-2.backward c.in-Some-2.is)
