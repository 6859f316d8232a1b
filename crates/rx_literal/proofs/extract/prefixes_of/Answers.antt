use Rattle.std.proofs.Common.{◌≡◌, IfOk, sym, subst}
use Rattle.rx_literal.proofs.lemmas.prefixes.UnionLemmas.{of_patterns}
use Rattle.rx_literal.proofs.extract.prefixes_of.Goals as goal

pub returns : goal.returns
returns c = subst (λ v. IfOk c.of_one.result (λ s. s ≡ v)) (sym (of_patterns c.args.hirs.now)) c.of_one.ensures
