use Rattle.std.proofs.Common.{sym, ◌∙◌}
use Rattle.rx_search.specs.Input.{next_in}
use Rattle.rx_search.specs.Matches.{match_value}
use Rattle.rx_search.specs.Told.{matched_pattern}
use Rattle.rx_meta.proofs.CapturedLemmas.{alike, span-held}
use Rattle.rx_meta.proofs.IteratorLemmas.{half-agrees, pattern-agrees, there-agrees}
use Rattle.rx_meta.proofs.iterator_laws.searches_of_one_input_agree.Goals as goal

pub returns-clause-again : goal.returns-clause-again
returns-clause-again c = λ regex r v p found other is again. again.value r p ∙ sym (is.value r p)

pub returns-clause-half : goal.returns-clause-half
returns-clause-half c = λ regex r v p found half is other. other.value r p ∙ half-agrees (next_in r v) found (is.value r p)

pub returns-clause-pattern : goal.returns-clause-pattern
returns-clause-pattern c = λ regex r v p found pattern is other. other.value r p ∙ pattern-agrees (next_in r v) found (is.value r p)

pub returns-clause-whether : goal.returns-clause-whether
returns-clause-whether c = λ regex r v p found there is tells. tells r p.premises ∙ there-agrees (next_in r v) found (is.value r p)

pub returns-clause-slots : goal.returns-clause-slots
returns-clause-slots c =
    λ regex r v p slots others pattern other answer are again.
    alike regex r v p matched_pattern pattern slots others answer (are.value r p) (again.value r p)

pub returns-clause-of_match : goal.returns-clause-of_match
returns-clause-of_match c =
    λ regex r v p slots others found pattern answer are again.
    alike regex r v p match_value found slots others answer (are.value r p) (again.value r p)

pub returns-clause-span : goal.returns-clause-span
returns-clause-span c = λ regex r v p found slots pattern answer are. span-held regex r v p found slots answer (are.value r p)
