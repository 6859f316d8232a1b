use Rattle.std.proofs.Common.{◌≡◌, ◌+◌, arith, length}
use Rattle.std.proofs.lemmas.Result.{on_ok_weaker, IfOk-weaker, IfOk-from_err}
use Rattle.rx_nfa.specs.Built.{Built, JoinsAll}
use Rattle.rx_nfa.specs.Directed.{build_all, build_joined, scalar_digits}
use Rattle.rx_nfa.specs.Digits.{joints}
use Rattle.rx_nfa.specs.Ranges.{size_of_block, cost_of_class}
use Rattle.rx_nfa.proofs.lemmas.parts.CountLemmas.{joints-most}
use Rattle.rx_nfa.proofs.lemmas.parts.DigitsBuilt.{class-built}
use Rattle.rx_nfa.proofs.backwards.compile_class_backwards.Goals as goal

pub push_band-requires-clause-fits : goal.push_band-requires-clause-fits
unfolding cost_of_class
push_band-requires-clause-fits c = let fits = c.requires.fits in omega arith

pub push_band-requires-2-clause-next : goal.push_band-requires-2-clause-next
push_band-requires-2-clause-next c = let next = c.requires.next in let one = c.in_ok-push_band.ensures.longer in omega arith

pub push_band-requires-2-clause-small : goal.push_band-requires-2-clause-small
unfolding size_of_block
push_band-requires-2-clause-small c = omega arith

pub push_band-requires-2-clause-fits : goal.push_band-requires-2-clause-fits
unfolding cost_of_class
push_band-requires-2-clause-fits c = let fits = c.requires.fits in let one = c.in_ok-push_band.ensures.count in omega arith

pub push_band-requires-3-clause-next : goal.push_band-requires-3-clause-next
push_band-requires-3-clause-next c =
    let next = c.requires.next in let one = c.in_ok-push_band.ensures.longer in let two = c.in_ok-push_band-2.ensures.longer in omega arith

pub push_band-requires-3-clause-small : goal.push_band-requires-3-clause-small
unfolding size_of_block
push_band-requires-3-clause-small c = omega arith

pub push_band-requires-3-clause-fits : goal.push_band-requires-3-clause-fits
unfolding cost_of_class
push_band-requires-3-clause-fits c =
    let fits = c.requires.fits in let one = c.in_ok-push_band.ensures.count in let two = c.in_ok-push_band-2.ensures.count in omega arith

pub push_band-requires-4-clause-next : goal.push_band-requires-4-clause-next
push_band-requires-4-clause-next c =
    let next = c.requires.next in let one = c.in_ok-push_band.ensures.longer in let two = c.in_ok-push_band-2.ensures.longer in
    let three = c.in_ok-push_band-3.ensures.longer in omega arith

pub push_band-requires-4-clause-small : goal.push_band-requires-4-clause-small
unfolding size_of_block
push_band-requires-4-clause-small c = omega arith

pub push_band-requires-4-clause-fits : goal.push_band-requires-4-clause-fits
unfolding cost_of_class
push_band-requires-4-clause-fits c =
    let fits = c.requires.fits in let one = c.in_ok-push_band.ensures.count in let two = c.in_ok-push_band-2.ensures.count in
    let three = c.in_ok-push_band-3.ensures.count in omega arith

pub push_band-requires-5-clause-next : goal.push_band-requires-5-clause-next
push_band-requires-5-clause-next c =
    let next = c.requires.next in
    let one = c.in_ok-push_band.ensures.longer in
    let two = c.in_ok-push_band-2.ensures.longer in
    let three = c.in_ok-push_band-3.ensures.longer in
    let four = c.in_ok-push_band-4.ensures.longer in
    omega arith

pub push_band-requires-5-clause-small : goal.push_band-requires-5-clause-small
unfolding size_of_block
push_band-requires-5-clause-small c = omega arith

pub push_band-requires-5-clause-fits : goal.push_band-requires-5-clause-fits
unfolding cost_of_class
push_band-requires-5-clause-fits c =
    let fits = c.requires.fits in
    let one = c.in_ok-push_band.ensures.count in
    let two = c.in_ok-push_band-2.ensures.count in
    let three = c.in_ok-push_band-3.ensures.count in
    let four = c.in_ok-push_band-4.ensures.count in
    omega arith

pub join-requires-clause-fits : goal.join-requires-clause-fits
unfolding cost_of_class
join-requires-clause-fits c =
    let fits = c.requires.fits in
    let one = c.in_ok-push_band.ensures.count in
    let two = c.in_ok-push_band-2.ensures.count in
    let three = c.in_ok-push_band-3.ensures.count in
    let four = c.in_ok-push_band-4.ensures.count in
    let five = c.in_ok-push_band-5.ensures.count in
    let most = joints-most (length c.push_band-5.new.starts.items) in
    omega arith

pub returns-clause-built : goal.returns-clause-built
returns-clause-built c =
    IfOk-weaker c.join.result (JoinsAll c.push_band-5.new.builder c.join.new.builder c.push_band-5.new.starts.items)
    (λ start. Built (build_joined (build_all (scalar_digits c.args.ranges.now))) c.args.next c.args.builder.now c.join.new.builder start)
    (λ start joined. class-built c.args.ranges.now c.args.next start c.args.builder.now c.push_band.new.builder c.push_band-2.new.builder
    c.push_band-3.new.builder c.push_band-4.new.builder c.push_band-5.new.builder c.join.new.builder
    c.new-starts.result.items c.push_band.new.starts.items c.push_band-2.new.starts.items c.push_band-3.new.starts.items c.push_band-4.new.starts.items
    c.push_band-5.new.starts.items c.new-starts.ensures.items
    c.in_ok-push_band.ensures.adds c.in_ok-push_band-2.ensures.adds c.in_ok-push_band-3.ensures.adds c.in_ok-push_band-4.ensures.adds
    c.in_ok-push_band-5.ensures.adds joined)
    c.join.ensures.joined

pub returns-clause-count : goal.returns-clause-count
unfolding cost_of_class
returns-clause-count c =
    let one = c.in_ok-push_band.ensures.count in
    let two = c.in_ok-push_band-2.ensures.count in
    let three = c.in_ok-push_band-3.ensures.count in
    let four = c.in_ok-push_band-4.ensures.count in
    let five = c.in_ok-push_band-5.ensures.count in
    let most = joints-most (length c.push_band-5.new.starts.items) in
    on_ok_weaker c.join.result
    (λ (grown : length c.join.new.builder.states ≡ length c.push_band-5.new.builder.states + joints (length c.push_band-5.new.starts.items)). omega arith)
    c.join.ensures.count

pub push_band-requires-clause-next : goal.push_band-requires-clause-next
push_band-requires-clause-next c = c.requires.next

pub push_band-requires-clause-starts : goal.push_band-requires-clause-starts
push_band-requires-clause-starts c = rw c.new-starts.ensures.items (λ k d lt. absurd (omega arith))

pub push_band-requires-clause-fewest : goal.push_band-requires-clause-fewest
push_band-requires-clause-fewest c = c.requires.fewest

pub push_band-requires-clause-ordered : goal.push_band-requires-clause-ordered
push_band-requires-clause-ordered c = omega arith

pub push_band-requires-clause-deep : goal.push_band-requires-clause-deep
push_band-requires-clause-deep c = omega arith

pub push_band-requires-clause-small : goal.push_band-requires-clause-small
unfolding size_of_block
push_band-requires-clause-small c = omega arith

pub push_band-requires-2-clause-starts : goal.push_band-requires-2-clause-starts
push_band-requires-2-clause-starts c = c.in_ok-push_band.ensures.inside

pub push_band-requires-2-clause-fewest : goal.push_band-requires-2-clause-fewest
push_band-requires-2-clause-fewest c = c.requires.fewest

pub push_band-requires-2-clause-ordered : goal.push_band-requires-2-clause-ordered
push_band-requires-2-clause-ordered c = omega arith

pub push_band-requires-2-clause-deep : goal.push_band-requires-2-clause-deep
push_band-requires-2-clause-deep c = omega arith

pub push_band-requires-3-clause-starts : goal.push_band-requires-3-clause-starts
push_band-requires-3-clause-starts c = c.in_ok-push_band-2.ensures.inside

pub push_band-requires-3-clause-fewest : goal.push_band-requires-3-clause-fewest
push_band-requires-3-clause-fewest c = c.requires.fewest

pub push_band-requires-3-clause-ordered : goal.push_band-requires-3-clause-ordered
push_band-requires-3-clause-ordered c = omega arith

pub push_band-requires-3-clause-deep : goal.push_band-requires-3-clause-deep
push_band-requires-3-clause-deep c = omega arith

pub push_band-requires-4-clause-starts : goal.push_band-requires-4-clause-starts
push_band-requires-4-clause-starts c = c.in_ok-push_band-3.ensures.inside

pub push_band-requires-4-clause-fewest : goal.push_band-requires-4-clause-fewest
push_band-requires-4-clause-fewest c = c.requires.fewest

pub push_band-requires-4-clause-ordered : goal.push_band-requires-4-clause-ordered
push_band-requires-4-clause-ordered c = omega arith

pub push_band-requires-4-clause-deep : goal.push_band-requires-4-clause-deep
push_band-requires-4-clause-deep c = omega arith

pub push_band-requires-5-clause-starts : goal.push_band-requires-5-clause-starts
push_band-requires-5-clause-starts c = c.in_ok-push_band-4.ensures.inside

pub push_band-requires-5-clause-fewest : goal.push_band-requires-5-clause-fewest
push_band-requires-5-clause-fewest c = c.requires.fewest

pub push_band-requires-5-clause-ordered : goal.push_band-requires-5-clause-ordered
push_band-requires-5-clause-ordered c = omega arith

pub push_band-requires-5-clause-deep : goal.push_band-requires-5-clause-deep
push_band-requires-5-clause-deep c = omega arith

pub join-requires-clause-inside : goal.join-requires-clause-inside
join-requires-clause-inside c = c.in_ok-push_band-5.ensures.inside

pub returns-clause-inside : goal.returns-clause-inside
returns-clause-inside c = c.join.ensures.inside

pub returns-in_err-push_band-clause-built : goal.returns-in_err-push_band-clause-built
returns-in_err-push_band-clause-built c = IfOk-from_err c.from_residual.result _ c.from_residual.ensures.0

pub returns-in_err-push_band-clause-inside : goal.returns-in_err-push_band-clause-inside
returns-in_err-push_band-clause-inside c = IfOk-from_err c.from_residual.result _ c.from_residual.ensures.0

pub returns-in_err-push_band-clause-count : goal.returns-in_err-push_band-clause-count
returns-in_err-push_band-clause-count c = IfOk-from_err c.from_residual.result _ c.from_residual.ensures.0

pub returns-in_err-push_band-2-clause-built : goal.returns-in_err-push_band-2-clause-built
returns-in_err-push_band-2-clause-built c = IfOk-from_err c.from_residual-in_err-push_band-2.result _ c.from_residual-in_err-push_band-2.ensures.0

pub returns-in_err-push_band-2-clause-inside : goal.returns-in_err-push_band-2-clause-inside
returns-in_err-push_band-2-clause-inside c = IfOk-from_err c.from_residual-in_err-push_band-2.result _ c.from_residual-in_err-push_band-2.ensures.0

pub returns-in_err-push_band-2-clause-count : goal.returns-in_err-push_band-2-clause-count
returns-in_err-push_band-2-clause-count c = IfOk-from_err c.from_residual-in_err-push_band-2.result _ c.from_residual-in_err-push_band-2.ensures.0

pub returns-in_err-push_band-3-clause-built : goal.returns-in_err-push_band-3-clause-built
returns-in_err-push_band-3-clause-built c = IfOk-from_err c.from_residual-in_err-push_band-3.result _ c.from_residual-in_err-push_band-3.ensures.0

pub returns-in_err-push_band-3-clause-inside : goal.returns-in_err-push_band-3-clause-inside
returns-in_err-push_band-3-clause-inside c = IfOk-from_err c.from_residual-in_err-push_band-3.result _ c.from_residual-in_err-push_band-3.ensures.0

pub returns-in_err-push_band-3-clause-count : goal.returns-in_err-push_band-3-clause-count
returns-in_err-push_band-3-clause-count c = IfOk-from_err c.from_residual-in_err-push_band-3.result _ c.from_residual-in_err-push_band-3.ensures.0

pub returns-in_err-push_band-4-clause-built : goal.returns-in_err-push_band-4-clause-built
returns-in_err-push_band-4-clause-built c = IfOk-from_err c.from_residual-in_err-push_band-4.result _ c.from_residual-in_err-push_band-4.ensures.0

pub returns-in_err-push_band-4-clause-inside : goal.returns-in_err-push_band-4-clause-inside
returns-in_err-push_band-4-clause-inside c = IfOk-from_err c.from_residual-in_err-push_band-4.result _ c.from_residual-in_err-push_band-4.ensures.0

pub returns-in_err-push_band-4-clause-count : goal.returns-in_err-push_band-4-clause-count
returns-in_err-push_band-4-clause-count c = IfOk-from_err c.from_residual-in_err-push_band-4.result _ c.from_residual-in_err-push_band-4.ensures.0

pub returns-in_err-push_band-5-clause-built : goal.returns-in_err-push_band-5-clause-built
returns-in_err-push_band-5-clause-built c = IfOk-from_err c.from_residual-in_err-push_band-5.result _ c.from_residual-in_err-push_band-5.ensures.0

pub returns-in_err-push_band-5-clause-inside : goal.returns-in_err-push_band-5-clause-inside
returns-in_err-push_band-5-clause-inside c = IfOk-from_err c.from_residual-in_err-push_band-5.result _ c.from_residual-in_err-push_band-5.ensures.0

pub returns-in_err-push_band-5-clause-count : goal.returns-in_err-push_band-5-clause-count
returns-in_err-push_band-5-clause-count c = IfOk-from_err c.from_residual-in_err-push_band-5.result _ c.from_residual-in_err-push_band-5.ensures.0
