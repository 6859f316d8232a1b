use Rattle.rx_meta.proofs.CapturedLemmas.{next-match, given-match, captured-order}
use Rattle.rx_meta.proofs.capture_laws.captures_tell_the_match.Goals as goal

pub returns-clause-found : goal.returns-clause-found
returns-clause-found c = λ regex r v p captures found room told answer. next-match regex r v p.premises captures room p found told answer

pub returns-clause-given : goal.returns-clause-given
returns-clause-given c = λ regex r v premises captures found room told. given-match regex r v premises captures room found told

pub returns-clause-in_order : goal.returns-clause-in_order
returns-clause-in_order c = λ regex r v premises captures room told. captured-order regex r v premises captures room told
