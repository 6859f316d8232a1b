use Rattle.std.proofs.Common.{◌≡◌, ◌-◌, ◌<◌, ◌++◌, ◌∷◌, [], None, refl, subst, arith}
use Rattle.rx_class.specs.Ranges.{next_byte}
use Rattle.rx_class.specs.Bytes.{or_past_byte}
use Rattle.rx_literal.specs.Extract.{numbers}
use Rattle.rx_literal.proofs.lemmas.prefixes.MemberLemmas.{encoded, from-past, from-end, one-found, all-found}
use Rattle.rx_literal.proofs.members.push_bytes.Goals as goal

pub loop-count-init : goal.loop-count-init
loop-count-init c = let all : c.args.most - 0 ≡ c.args.most = omega arith in rw all refl

pub loop-count-preserved : goal.loop-count-preserved
loop-count-preserved c =
    let k = c.loop-count._count in
    let found = c.loop-count.found.items in
    let all = c.args.found.now.items ++ encoded (λ b. b ∷ []) (numbers next_byte c.args.most c.args.low c.args.high) in
    one-found next_byte (λ b. b ∷ []) k c.args.most c.in-Some.b (or_past_byte c.byte_after-next.result) c.args.high found c.push.new.self.items all
    c.in_ok-byte.field-0
    c.loop-count-test.true c.if-b-high.false c.in_ok-byte.ensures c.in_ok-push.ensures.items c.byte_after-next.ensures
    (subst (λ o. found ++ encoded (λ b. b ∷ []) (numbers next_byte (c.args.most - k) (or_past_byte o) c.args.high) ≡ all) c.in-Some.is c.loop-count.invariant)

pub returns-in_default : goal.returns-in_default
returns-in_default c =
    let k = c.loop-count._count in
    let found = c.loop-count.found.items in
    let all = c.args.found.now.items ++ encoded (λ b. b ∷ []) (numbers next_byte c.args.most c.args.low c.args.high) in
    let past : c.args.high < 0x100 = omega (arith, c.ranges.high.fits) in
    all-found found (encoded (λ b. b ∷ []) (numbers next_byte (c.args.most - k) (or_past_byte None) c.args.high)) all
    (from-past next_byte (λ b. b ∷ []) (c.args.most - k) (or_past_byte None) c.args.high past)
    (subst (λ o. found ++ encoded (λ b. b ∷ []) (numbers next_byte (c.args.most - k) (or_past_byte o) c.args.high) ≡ all) c.in_default.is
    c.loop-count.invariant)

pub returns-then-b-high : goal.returns-then-b-high
returns-then-b-high c =
    let k = c.loop-count._count in
    let found = c.loop-count.found.items in
    let all = c.args.found.now.items ++ encoded (λ b. b ∷ []) (numbers next_byte c.args.most c.args.low c.args.high) in
    all-found found (encoded (λ b. b ∷ []) (numbers next_byte (c.args.most - k) c.in-Some.b c.args.high)) all
    (from-past next_byte (λ b. b ∷ []) (c.args.most - k) c.in-Some.b c.args.high c.if-b-high.true)
    (subst (λ o. found ++ encoded (λ b. b ∷ []) (numbers next_byte (c.args.most - k) (or_past_byte o) c.args.high) ≡ all) c.in-Some.is c.loop-count.invariant)

pub returns : goal.returns
returns c =
    let k = c.loop-count._count in
    let all = c.args.found.now.items ++ encoded (λ b. b ∷ []) (numbers next_byte c.args.most c.args.low c.args.high) in
    all-found c.loop-count.found.items (encoded (λ b. b ∷ []) (numbers next_byte (c.args.most - k) (or_past_byte c.loop-count.next) c.args.high)) all
    (from-end next_byte (λ b. b ∷ []) k c.args.most (or_past_byte c.loop-count.next) c.args.high c.loop-count-test.false)
    c.loop-count.invariant
