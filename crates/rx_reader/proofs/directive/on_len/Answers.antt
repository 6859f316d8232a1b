use Rattle.std.proofs.Common.{arith, ◌≡◌, ap, true, false, not, ◌==◌, ℕ}
use Rattle.std.proofs.lemmas.Bool.Decides.{nat_tests}
use Rattle.std.proofs.lemmas.List.{drop_all}
use Rattle.std.specs.Prelude.{◌≢◌}
use Rattle.rx_reader.specs.Reading.{◌∈◌}
use Rattle.rx_reader.specs.Flags.{on_len}
use Rattle.rx_reader.proofs.lemmas.places.FrontLemmas.{prefix_goes, prefix_stops}
use Rattle.rx_reader.proofs.directive.on_len.Goals as goal

is_hyphen : (c : ℕ) → c ≡ 45 → not (c ∈ "-") ≡ false
is_hyphen c is = ap (λ (d : ℕ). not (d ∈ "-")) is

no_hyphen : (c : ℕ) → c ≢ 45 → not (c ∈ "-") ≡ true
no_hyphen c differs =
    let no : (c == 45) ≡ false = grind (arith, nat_tests) in
    ap not no

pub loop-n-init : goal.loop-n-init
loop-n-init c = record { so_far = omega arith; within = omega arith }

pub returns-then-named-n-eq45-clause-value : goal.returns-then-named-n-eq45-clause-value
returns-then-named-n-eq45-clause-value c =
    let l = c.loop-n in
    let letter = c.index-named-n.result in
    let none = prefix_stops (λ d. not (d ∈ "-")) c.args.named.now l.n letter c.loop-n-test.true c.index-named-n.is (is_hyphen letter c.if-named-n-eq45.true) in
    omega (arith, l.invariant.so_far, none)

pub loop-n-preserved : goal.loop-n-preserved
loop-n-preserved c =
    let l = c.loop-n in
    let letter = c.index-named-n.result in
    let more = prefix_goes (λ d. not (d ∈ "-")) c.args.named.now l.n letter c.loop-n-test.true c.index-named-n.is (no_hyphen letter c.if-named-n-eq45.false) in
    record {
      so_far = omega (arith, l.invariant.so_far, more);
      within = omega (arith, c.loop-n-test.true);
    }

pub returns-clause-value : goal.returns-clause-value
returns-clause-value c =
    let l = c.loop-n in
    let over = ap on_len (drop_all l.n c.args.named.now c.loop-n-test.false) in
    omega (arith, l.invariant.so_far, over)
