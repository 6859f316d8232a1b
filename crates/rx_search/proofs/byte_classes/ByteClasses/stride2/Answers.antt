use Rattle.std.proofs.Common.{◌≡◌, ℕ, ◌+◌, ◌*◌, ◌<◌, ◌≤◌, refl, sym, ◌∙◌, ap, ⊎_elim, arith, subst, length, get_or}
use Rattle.std.specs.Prelude.{◌^◌}
use Rattle.std.proofs.lemmas.Bool.{cases_lt}
use Rattle.std.proofs.Math.Pow.{pow_mono, pow-add}
use Rattle.rx_search.proofs.byte_classes.ByteClasses.stride2.Goals as goal

pub loop-power-init : goal.loop-power-init
loop-power-init c =
    let len = c.alphabet_len-len.ensures.small in
    record { is = refl; some = omega arith; small = omega arith; few = omega arith; len = omega arith; least = λ j le. omega arith }

doubled : (e : ℕ) → 2 ^ e * 2 ≡ 2 ^ (e + 1)
doubled e = sym (pow-add 2 e 1)

pub loop-power-preserved : goal.loop-power-preserved
loop-power-preserved c =
    let inv = c.loop-power.invariant in
    let test = c.loop-power-test.true in
    let is = inv.is in
    let len = inv.len in
    let next : c.loop-power.power * 2 ≡ 2 ^ (c.loop-power.exponent + 1) = ap (λ n. n * 2) inv.is ∙ doubled c.loop-power.exponent in
    let least : (j : ℕ) → c.alphabet_len-len.result ≤ 2 ^ j → c.loop-power.exponent + 1 ≤ j =
    λ j le. ⊎_elim (λ gt. omega arith) (λ few. let more = pow_mono {i = j} {j = c.loop-power.exponent} few in absurd (omega arith))
    (cases_lt c.loop-power.exponent j) in
    record {
      is = next;
      some = (let some = inv.some in omega arith);
      small = omega arith;
      few = least 9 (omega arith);
      len = inv.len;
      least = least;
    }
