use Rattle.std.proofs.Common.{◌+◌, ◌<◌, ◌∷◌, [], length, drop, ◌∙◌, arith}
use Rattle.rx_class.specs.Ranges.{next_byte}
use Rattle.rx_literal.specs.Extract.{members, class_literals}
use Rattle.rx_literal.proofs.lemmas.prefixes.MemberLemmas.{encoded, each-few, each-many, range-found, none-left, part-many, all-found}
use Rattle.rx_literal.proofs.members.byte_literals.Goals as goal

pub loop-low-preserved : goal.loop-low-preserved
loop-low-preserved c =
    let rs = c.args.ranges.now in
    let all = encoded (λ b. b ∷ []) (members next_byte rs) in
    record {
      so_far = range-found next_byte (λ b. b ∷ []) rs c.loop-low.low-index (0, 0) c.loop-low.found.items c.push_bytes.new.found.items all c.loop-low-test.true
          c.in_ok-push_bytes.ensures c.loop-low.invariant.so_far;
      few = omega (arith, c.push_bytes.new.found.ok.0, c.len.ensures, c.if-len-gt-MOST.false);
    }

pub returns-then-len-gt-MOST : goal.returns-then-len-gt-MOST
unfolding class_literals
returns-then-len-gt-MOST c =
    let rs = c.args.ranges.now in
    let all = encoded (λ b. b ∷ []) (members next_byte rs) in
    let found = c.push_bytes.new.found.items in
    let many : 10 < length c.push_bytes.new.found.items = omega (arith, c.push_bytes.new.found.ok.0, c.len.ensures, c.if-len-gt-MOST.true) in
    let whole = range-found next_byte (λ b. b ∷ []) rs c.loop-low.low-index (0, 0) c.loop-low.found.items found all c.loop-low-test.true
    c.in_ok-push_bytes.ensures c.loop-low.invariant.so_far in
    c.infinite.ensures ∙ each-many (λ b. b ∷ []) (members next_byte rs)
    (part-many found (encoded (λ b. b ∷ []) (members next_byte (drop (c.loop-low.low-index + 1) rs))) all many whole)

pub returns : goal.returns
unfolding class_literals
returns c =
    let rs = c.args.ranges.now in
    let i = c.loop-low.low-index in
    let found = c.loop-low.found.items in
    let whole = all-found found (encoded (λ b. b ∷ []) (members next_byte (drop i rs))) (encoded (λ b. b ∷ []) (members next_byte rs))
    (none-left next_byte (λ b. b ∷ []) rs i c.loop-low-test.false)
    c.loop-low.invariant.so_far in
    c.finite.ensures ∙ each-few (λ b. b ∷ []) (members next_byte rs) found whole c.loop-low.invariant.few
