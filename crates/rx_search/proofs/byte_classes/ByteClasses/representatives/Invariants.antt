use Rattle.rx_search.proofs.ByteClassLemmas.{Met}
use Rattle.rx_search.proofs.byte_classes.ByteClasses.representatives.Given as goal

abbrev pub invariant-loop-byte : goal.invariant-loop-byte
invariant-loop-byte l = Met l.self-inside.classes l.byte l.bytes.items
