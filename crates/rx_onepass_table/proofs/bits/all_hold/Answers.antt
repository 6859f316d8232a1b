use Rattle.std.proofs.Common.{sym, arith}
use Rattle.std.proofs.lemmas.Bool.Decides.{nat_tests}
use Rattle.rx_onepass_table.proofs.lemmas.SetLemmas.{none-asked}
use Rattle.rx_onepass_table.proofs.bits.all_hold.Goals as goal

pub returns-then-looks-eq0 : goal.returns-then-looks-eq0
returns-then-looks-eq0 c = sym (none-asked c.args.nfa.now.terminator c.args.text.now c.args.looks c.args.at (grind (arith, nat_tests)))
