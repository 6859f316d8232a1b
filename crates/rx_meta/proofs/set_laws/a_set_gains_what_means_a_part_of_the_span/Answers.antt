use Rattle.rx_meta.proofs.SetLemmas.{gains-what_means, gains-what_means_anywhere}
use Rattle.rx_meta.proofs.set_laws.a_set_gains_what_means_a_part_of_the_span.Goals as goal

pub returns-clause-exactly : goal.returns-clause-exactly
returns-clause-exactly c = λ regex r v old new premises kind whole adds filled p out.
    gains-what_means regex r v old new premises kind whole adds filled p out

pub returns-clause-anywhere : goal.returns-clause-anywhere
returns-clause-anywhere c = λ regex r v old new premises kind whole adds filled full p out.
    gains-what_means_anywhere regex r v old new premises kind whole adds filled p out full
