use Rattle.rx_hir.proofs.Utf8FormsLemmas.{literal-utf8, scalars-utf8, bytes-utf8, repetition-utf8, concat-utf8, alternation-utf8}
use Rattle.rx_hir.proofs.hir.laws.normal_forms_keep_utf8.Goals as goal

pub returns : goal.returns
returns c = record {
  literals = literal-utf8;
  scalars = scalars-utf8;
  bytes = bytes-utf8;
  copies = repetition-utf8;
  rows = concat-utf8;
  choices = alternation-utf8;
}
