use Rattle.std.proofs.Common.{◌≡◌, ◌<◌, length, arith}
use Rattle.std.specs.Prelude.{slice_index}
use Rattle.rx_dfa.proofs.lemmas.SpreadLemmas.{class-inside}
use Rattle.rx_dfa.proofs.dense.spread.class_of.Goals as goal

pub returns-clause-within : goal.returns-clause-within
returns-clause-within c =
    let a = c.args.alphabet.now in
    let fits = c.ranges.byte.fits in
    let small : c.args.byte < 256 = omega arith in
    let inside : slice_index a.classes c.args.byte < length a.bytes.items =
    class-inside a.classes a.bytes.items c.requires.classes c.requires.stand c.args.byte small in
    let is : c.get.result ≡ slice_index a.classes c.args.byte = c.get.ensures in
    omega arith
