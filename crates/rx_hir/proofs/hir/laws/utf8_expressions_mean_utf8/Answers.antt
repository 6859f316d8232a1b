use Rattle.rx_hir.proofs.Utf8Lemmas.{means-utf8}
use Rattle.rx_hir.proofs.hir.laws.utf8_expressions_mean_utf8.Goals as goal

pub returns : goal.returns
returns c = λ t text h e i j m. means-utf8 t text h e i j m
