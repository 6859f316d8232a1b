use Rattle.std.proofs.Common.{IsTrue}
use Rattle.rx_model.proofs.lemmas.graphs.RefineLemmas.{Refines-found, Refines-sieved}
use Rattle.rx_model.proofs.runs.refined_graphs_have_equal_first_runs.Goals as goal

pub returns-clause-runs : goal.returns-clause-runs
returns-clause-runs c = λ g m bounded_g bounded_m image live refines ok d is.
    Refines-found g m image (λ q. IsTrue (live q)) refines bounded_g bounded_m ok d is

pub returns-clause-sieved : goal.returns-clause-sieved
returns-clause-sieved c = λ g m bounded_g bounded_m image live refines ok.
    Refines-sieved g m image (λ q. IsTrue (live q)) refines bounded_g bounded_m ok
