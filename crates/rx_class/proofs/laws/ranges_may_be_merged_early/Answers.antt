use Rattle.rx_class.proofs.EarlyLemmas.{fewest-front, bytes-front, union-held, union-twice}
use Rattle.rx_class.proofs.laws.ranges_may_be_merged_early.Goals as goal

pub returns : goal.returns
returns c = record { scalars = fewest-front; bytes = bytes-front; held = union-held; twice = union-twice }
