use Rattle.rx_model.proofs.lemmas.matches.SkipLemmas.{skip-to}
use Rattle.rx_model.proofs.matches.starts_without_a_run_may_be_skipped.Goals as goal

pub returns : goal.returns
returns c = skip-to
