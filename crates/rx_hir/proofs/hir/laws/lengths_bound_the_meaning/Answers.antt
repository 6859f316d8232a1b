use Rattle.std.proofs.Common.{arith}
use Rattle.rx_model.specs.Length.{minimum_len}
use Rattle.rx_model.proofs.lemmas.meaning.LengthLemmas.{means-long}
use Rattle.rx_hir.specs.Length.{maximum_len}
use Rattle.rx_hir.proofs.SpanLemmas.{means-short, saturated-some, in_64_bits-some}
use Rattle.rx_hir.proofs.hir.laws.lengths_bound_the_meaning.Goals as goal

pub returns : goal.returns
returns c = record {
  least = λ t text h n e i j m.
      let known = saturated-some (minimum_len h) n e in
      let long = means-long t text h known.0 known.1 i j m in
      let le = known.2 in
      omega arith;
  greatest = λ t text h n e i j m. means-short t text h n (in_64_bits-some (maximum_len h) n e) i j m;
}
