use Rattle.std.proofs.Common.{◌≡◌, ◌++◌, map, drop}
use Rattle.rx_syntax.specs.Literals.{in_either_case}
use Rattle.rx_syntax.proofs.characters.push_each.Given as goal

abbrev pub invariant-loop-c : goal.invariant-loop-c
invariant-loop-c l =
    l.subs.items ++ map (in_either_case l.flags) (drop l.c-index l.run) ≡ l.fn.subs.items ++ map (in_either_case l.flags) l.run
