use Rattle.rx_hir.proofs.RowLemmas.{concat-means, alternation-means}
use Rattle.rx_hir.proofs.CopiesLemmas.{literal-means, scalars-mean, bytes-mean, repetition-means}
use Rattle.rx_hir.proofs.hir.laws.normal_forms_keep_the_meaning.Goals as goal

pub returns : goal.returns
returns c = record {
  literals = λ t text bytes. literal-means t text bytes;
  scalars = λ t text rs are. scalars-mean t text rs are;
  bytes = λ t text rs. bytes-mean t text rs;
  copies = λ t text least greatest greedy h ordered. repetition-means t text least greatest greedy h ordered;
  rows = λ t text hs. concat-means t text hs;
  choices = λ t text hs. alternation-means t text hs;
}
