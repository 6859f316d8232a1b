use Rattle.std.proofs.Common.{◌≤◌, ◌<◌, ◌^◌, sym, subst, arith}
use Rattle.std.proofs.lemmas.Nat.{one_shl}
use Rattle.rx_search.specs.ByteClasses.{alphabet_len}
use Rattle.rx_dfa.proofs.lemmas.RowsLemmas.{pow-narrow}
use Rattle.rx_dfa.proofs.lazy.build.stride_of.Goals as goal

pub overflow_shl-result : goal.overflow_shl-result
overflow_shl-result c =
    let few : alphabet_len c.args.classes.now ≤ 2 ^ 9 = omega arith in
    let low : c.stride2.result ≤ 9 = c.stride2.ensures.least 9 few in
    omega arith

pub returns-clause-wide : goal.returns-clause-wide
returns-clause-wide c =
    let few : alphabet_len c.args.classes.now ≤ 2 ^ 9 = omega arith in
    let low : c.stride2.result ≤ 9 = c.stride2.ensures.least 9 few in
    let lt : c.stride2.result < 64 = omega arith in
    subst (λ n. alphabet_len c.args.classes.now ≤ n) (sym (one_shl c.stride2.result 64 lt)) c.stride2.ensures.enough

pub returns-clause-narrow : goal.returns-clause-narrow
returns-clause-narrow c =
    let few : alphabet_len c.args.classes.now ≤ 2 ^ 9 = omega arith in
    let low : c.stride2.result ≤ 9 = c.stride2.ensures.least 9 few in
    let lt : c.stride2.result < 64 = omega arith in
    subst (λ n. n ≤ 512) (sym (one_shl c.stride2.result 64 lt)) (pow-narrow c.stride2.result low)

pub returns-clause-power : goal.returns-clause-power
returns-clause-power c =
    let few : alphabet_len c.args.classes.now ≤ 2 ^ 9 = omega arith in
    let low : c.stride2.result ≤ 9 = c.stride2.ensures.least 9 few in
    let lt : c.stride2.result < 64 = omega arith in
    (c.stride2.result, c.stride2.ensures, one_shl c.stride2.result 64 lt)
