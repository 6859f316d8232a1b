use Rattle.std.proofs.Common.{◌≤◌, ◌^◌, arith}
use Rattle.rx_search.specs.ByteClasses.{alphabet_len}
use Rattle.rx_onepass_build.proofs.builder.stride2_of.Goals as goal

pub returns-clause-small : goal.returns-clause-small
returns-clause-small c =
    let few : alphabet_len c.args.classes.now ≤ 2 ^ 9 = omega arith in
    c.stride2.ensures.least 9 few
