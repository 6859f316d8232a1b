use Rattle.rx_meta.proofs.CapturedLemmas.{of-pattern-alone}
use Rattle.rx_meta.proofs.capture_laws.slots_of_other_patterns_stay_empty.Goals as goal

pub returns-clause-slots : goal.returns-clause-slots
returns-clause-slots c = of-pattern-alone

pub returns-clause-captures : goal.returns-clause-captures
returns-clause-captures c = λ regex r v premises captures are. of-pattern-alone regex r v premises captures.slots captures.pattern are.slots
