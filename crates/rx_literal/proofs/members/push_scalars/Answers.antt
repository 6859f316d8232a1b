use Rattle.std.proofs.Common.{◌≡◌, ◌-◌, ◌<◌, ◌++◌, None, refl, subst, arith}
use Rattle.std.specs.Prelude.{encode_utf8}
use Rattle.rx_class.specs.Ranges.{next_scalar}
use Rattle.rx_class.specs.Scalars.{or_past}
use Rattle.rx_literal.specs.Extract.{numbers}
use Rattle.rx_literal.proofs.lemmas.prefixes.MemberLemmas.{encoded, from-past, from-end, one-found, all-found}
use Rattle.rx_literal.proofs.members.push_scalars.Goals as goal

pub loop-count-init : goal.loop-count-init
loop-count-init c = let all : c.args.most - 0 ≡ c.args.most = omega arith in rw all refl

pub loop-count-preserved : goal.loop-count-preserved
loop-count-preserved c =
    let k = c.loop-count._count in
    let found = c.loop-count.found.items in
    let all = c.args.found.now.items ++ encoded encode_utf8 (numbers next_scalar c.args.most c.args.low c.args.high) in
    one-found next_scalar encode_utf8 k c.args.most c.in-Some.c (or_past c.scalar_after-next.result) c.args.high found c.push.new.self.items all
    c.in_ok-character.field-0
    c.loop-count-test.true c.if-c-high.false c.in_ok-character.ensures c.in_ok-push.ensures.items c.scalar_after-next.ensures
    (subst (λ o. found ++ encoded encode_utf8 (numbers next_scalar (c.args.most - k) (or_past o) c.args.high) ≡ all) c.in-Some.is c.loop-count.invariant)

pub returns-in_default : goal.returns-in_default
returns-in_default c =
    let k = c.loop-count._count in
    let found = c.loop-count.found.items in
    let all = c.args.found.now.items ++ encoded encode_utf8 (numbers next_scalar c.args.most c.args.low c.args.high) in
    let past : c.args.high < 0x110000 = omega (arith, c.ranges.high) in
    all-found found (encoded encode_utf8 (numbers next_scalar (c.args.most - k) (or_past None) c.args.high)) all
    (from-past next_scalar encode_utf8 (c.args.most - k) (or_past None) c.args.high past)
    (subst (λ o. found ++ encoded encode_utf8 (numbers next_scalar (c.args.most - k) (or_past o) c.args.high) ≡ all) c.in_default.is c.loop-count.invariant)

pub returns-then-c-high : goal.returns-then-c-high
returns-then-c-high c =
    let k = c.loop-count._count in
    let found = c.loop-count.found.items in
    let all = c.args.found.now.items ++ encoded encode_utf8 (numbers next_scalar c.args.most c.args.low c.args.high) in
    all-found found (encoded encode_utf8 (numbers next_scalar (c.args.most - k) c.in-Some.c c.args.high)) all
    (from-past next_scalar encode_utf8 (c.args.most - k) c.in-Some.c c.args.high c.if-c-high.true)
    (subst (λ o. found ++ encoded encode_utf8 (numbers next_scalar (c.args.most - k) (or_past o) c.args.high) ≡ all) c.in-Some.is c.loop-count.invariant)

pub returns : goal.returns
returns c =
    let k = c.loop-count._count in
    let all = c.args.found.now.items ++ encoded encode_utf8 (numbers next_scalar c.args.most c.args.low c.args.high) in
    all-found c.loop-count.found.items (encoded encode_utf8 (numbers next_scalar (c.args.most - k) (or_past c.loop-count.next) c.args.high)) all
    (from-end next_scalar encode_utf8 k c.args.most (or_past c.loop-count.next) c.args.high c.loop-count-test.false)
    c.loop-count.invariant
