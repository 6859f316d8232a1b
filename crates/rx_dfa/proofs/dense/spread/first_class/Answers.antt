use Rattle.std.proofs.Common.{◌<◌, length, ◌∙◌, ap, arith}
use Rattle.std.specs.Prelude.{slice_index}
use Rattle.rx_nfa.specs.Ordered.{target}
use Rattle.rx_nfa.specs.declared.state.State.{State}
use Rattle.rx_dfa.proofs.lemmas.SpreadLemmas.{before-range}
use Rattle.rx_dfa.proofs.dense.spread.first_class.Goals as goal

pub returns-in-ByteRange-clause-none : goal.returns-in-ByteRange-clause-none
returns-in-ByteRange-clause-none c = λ class lt.
    let a = c.args.alphabet.now in
    let inside : class < length a.bytes.items = omega (arith, c.class_of.ensures.within) in
    let less : class < slice_index a.classes c.in-ByteRange.start = omega (arith, c.class_of.ensures.value) in
    ap (λ (s : State). target s (slice_index a.bytes.items class)) c.in-ByteRange.is
    ∙ before-range a.classes a.bytes.items c.requires.classes c.requires.stand c.in-ByteRange.start c.in-ByteRange.end c.in-ByteRange.next class inside
    c.class_of.ensures.small less
