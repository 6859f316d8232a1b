use Rattle.std.proofs.Common.{sym, subst}
use Rattle.rx_model.specs.Expression.{class}
use Rattle.rx_class.specs.ClassViews.{class_view}
use Rattle.rx_literal.specs.First.{IsLookFree}
use Rattle.rx_literal.proofs.look_free.has_scalar_ends.Goals as goal

pub returns-in-Unicode-clause-look_free : goal.returns-in-Unicode-clause-look_free
unfolding IsLookFree
returns-in-Unicode-clause-look_free c = subst (λ m. IsLookFree (class (class_view m))) (sym c.in-Unicode.is) c.ranges-ranges.ensures.fewest.1

pub returns-in-Bytes-clause-look_free : goal.returns-in-Bytes-clause-look_free
unfolding IsLookFree
returns-in-Bytes-clause-look_free c = subst (λ m. IsLookFree (class (class_view m))) (sym c.in-Bytes.is) tt
