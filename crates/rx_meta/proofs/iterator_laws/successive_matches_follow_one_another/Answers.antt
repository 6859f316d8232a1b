use Rattle.rx_meta.proofs.SuccessiveLemmas.{successive-follow, successive-lie, successive-ends, successive-starts, successive-cover}
use Rattle.rx_meta.proofs.iterator_laws.successive_matches_follow_one_another.Goals as goal

pub returns-clause-next : goal.returns-clause-next
returns-clause-next c = successive-follow

pub returns-clause-rising : goal.returns-clause-rising
returns-clause-rising c = successive-ends

pub returns-clause-starts : goal.returns-clause-starts
returns-clause-starts c = successive-starts

pub returns-clause-within : goal.returns-clause-within
returns-clause-within c = successive-lie

pub returns-clause-cover : goal.returns-clause-cover
returns-clause-cover c = λ searches v within answers. successive-cover searches v answers within
