use Rattle.std.proofs.Common.{◌≡◌, length}
use Rattle.rx_model.specs.Graph.{assertion, build_state}
use Rattle.rx_search.specs.Look.{kind_of}
use Rattle.rx_nfa.specs.Built.{Built}
use Rattle.rx_nfa.specs.Draft.{pushed}
use Rattle.rx_nfa.specs.declared.state.State.TheVariants.{Look}
use Rattle.rx_nfa.proofs.lemmas.parts.ResultLemmas.{IfOk-both}
use Rattle.rx_nfa.proofs.lemmas.parts.LookLemmas.{Built-look}
use Rattle.rx_nfa.proofs.compiler.expression.compile_look.Goals as goal

pub returns-clause-built : goal.returns-clause-built
returns-clause-built c =
    let old = c.args.builder.now in
    let new = c.push.new.self in
    IfOk-both (λ id. id ≡ length c.args.builder.now.states) (λ id. c.push.new.self ≡ pushed c.args.builder.now (Look c.args.look c.args.next))
    (λ start. Built (build_state (assertion (kind_of c.args.look))) c.args.next c.args.builder.now c.push.new.self start)
    c.push.result c.push.ensures.id c.push.ensures.states
    (λ q id is. Built-look c.args.look c.args.next old new q id is)
