use Rattle.rx_meta.specs.Regex.{searches}
use Rattle.rx_meta.proofs.GapLemmas.{gaps-length, pieces-limited, pieces-all}
use Rattle.rx_meta.proofs.IteratorLemmas.{answers-within}
use Rattle.rx_meta.proofs.SuccessiveLemmas.{successive-cover}
use Rattle.rx_meta.proofs.iterator_laws.gaps_and_matches_cover_the_haystack.Goals as goal

pub returns-clause-cover : goal.returns-clause-cover
returns-clause-cover c = λ regex v within each ms are. rw are (successive-cover (searches regex) v (answers-within regex v within each) within)

pub returns-clause-one_more : goal.returns-clause-one_more
returns-clause-one_more c = gaps-length

pub returns-clause-limited : goal.returns-clause-limited
returns-clause-limited c = pieces-limited

pub returns-clause-all : goal.returns-clause-all
returns-clause-all c = pieces-all
