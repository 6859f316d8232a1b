use Rattle.rx_hir.proofs.NamedLemmas.{told-stands, one-told, names-apart}
use Rattle.rx_hir.proofs.hir.laws.told_names_stand.Goals as goal

pub returns : goal.returns
returns c = record { stands = told-stands; told = one-told; once = names-apart }
