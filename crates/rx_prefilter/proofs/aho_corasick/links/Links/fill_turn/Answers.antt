use Rattle.std.proofs.Common.{◌<◌, length, refl, ◌∙◌, arith}
use Rattle.std.proofs.lemmas.List.{get_or_read}
use Rattle.std.proofs.lemmas.Result.{IfOk-from_err}
use Rattle.rx_prefilter.proofs.aho_corasick.links.Links.fill_turn.Goals as goal

pub returns-then-turn-len-clause-linked : goal.returns-then-turn-len-clause-linked
returns-then-turn-len-clause-linked c = c.requires

pub returns-then-turn-len-clause-same : goal.returns-then-turn-len-clause-same
returns-then-turn-len-clause-same c = refl

pub index-requires : goal.index-requires
index-requires c = rw c.len.ensures at c.if-turn-len.false

pub loop-byte-init : goal.loop-byte-init
loop-byte-init c =
    let queue = c.args.self.now.queue in
    let long = queue.ok.0 in
    let low = rw c.len.ensures at c.if-turn-len.false in
    let within : c.args.turn < length queue.items = omega (arith, long, low) in
    let read = get_or_read queue.items c.args.turn c.index.result.now within c.index.ensures 0 in
    (c.requires, refl, rw read (c.requires.queued c.args.turn within))

pub fill_place-requires-clause-linked : goal.fill_place-requires-clause-linked
fill_place-requires-clause-linked c = c.loop-byte.invariant.0

pub fill_place-requires-clause-state : goal.fill_place-requires-clause-state
fill_place-requires-clause-state c = c.loop-byte.invariant.2

pub fill_place-requires-clause-byte : goal.fill_place-requires-clause-byte
fill_place-requires-clause-byte c = c.loop-byte-test.true

pub returns-in_err-fill_place-clause-linked : goal.returns-in_err-fill_place-clause-linked
returns-in_err-fill_place-clause-linked c = IfOk-from_err c.from_residual.result _ c.from_residual.ensures.0

pub returns-in_err-fill_place-clause-same : goal.returns-in_err-fill_place-clause-same
returns-in_err-fill_place-clause-same c = c.fill_place.ensures.same ∙ c.loop-byte.invariant.1

pub loop-byte-preserved : goal.loop-byte-preserved
loop-byte-preserved c =
    (c.in_ok-fill_place.ensures.linked, c.fill_place.ensures.same ∙ c.loop-byte.invariant.1, rw c.fill_place.ensures.tall c.loop-byte.invariant.2)

pub returns-clause-linked : goal.returns-clause-linked
returns-clause-linked c = c.loop-byte.invariant.0

pub returns-clause-same : goal.returns-clause-same
returns-clause-same c = c.loop-byte.invariant.1
