use Rattle.rx_search.specs.Matches.{match_value}
use Rattle.rx_search.specs.Told.{matched_pattern}
use Rattle.rx_meta.proofs.CapturedLemmas.{nothing-found, nothing-captured, implicit-alone, implicit-captured}
use Rattle.rx_meta.proofs.capture_laws.groups_that_are_not_told_stay_empty.Goals as goal

pub returns-clause-untold : goal.returns-clause-untold
returns-clause-untold c = λ regex r v premises untold found answer. nothing-found regex r v premises match_value untold found answer

pub returns-clause-no_pattern : goal.returns-clause-no_pattern
returns-clause-no_pattern c = λ regex r v premises untold found answer. nothing-found regex r v premises matched_pattern untold found answer

pub returns-clause-no_captures : goal.returns-clause-no_captures
returns-clause-no_captures c = λ regex r v premises untold captures told. nothing-captured regex r v premises untold captures told

pub returns-clause-implicit : goal.returns-clause-implicit
returns-clause-implicit c = λ regex r v premises untold slots found are. implicit-alone regex r v premises untold slots found are

pub returns-clause-implicit_captures : goal.returns-clause-implicit_captures
returns-clause-implicit_captures c = λ regex r v premises untold captures told. implicit-captured regex r v premises untold captures told
