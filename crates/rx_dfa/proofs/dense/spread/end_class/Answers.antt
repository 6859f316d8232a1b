use Rattle.std.proofs.Common.{◌+◌, ◌≤◌, ◌∙◌, ap, arith}
use Rattle.std.specs.Prelude.{slice_index}
use Rattle.rx_nfa.specs.Ordered.{target}
use Rattle.rx_nfa.specs.declared.state.State.{State}
use Rattle.rx_dfa.proofs.lemmas.SpreadLemmas.{behind-range}
use Rattle.rx_dfa.proofs.dense.spread.end_class.Goals as goal

pub returns-in-ByteRange-clause-none : goal.returns-in-ByteRange-clause-none
returns-in-ByteRange-clause-none c = λ class lt inside.
    let a = c.args.alphabet.now in
    let less : slice_index a.classes c.in-ByteRange.end + 1 ≤ class = omega (arith, c.class_of.ensures.value) in
    ap (λ (s : State). target s (slice_index a.bytes.items class)) c.in-ByteRange.is
    ∙ behind-range a.classes a.bytes.items c.requires.classes c.requires.stand c.in-ByteRange.start c.in-ByteRange.end c.in-ByteRange.next class inside
    c.class_of.ensures.small less
