use Rattle.std.proofs.Common.{◌<◌, length, sym, ◌∙◌, subst, arith}
use Rattle.rx_search.specs.Sets.{KeepsMembers}
use Rattle.rx_dfa.proofs.lemmas.SetLemmas.{keeps-same, keeps-twice, set-keeps, get-below, first-none, first-more, first-all, first-past}
use Rattle.rx_dfa.proofs.search.overlapping.add_told.Goals as goal

pub loop-index-init : goal.loop-index-init
loop-index-init g c = record { kept = keeps-same c.args.set.now; adds = λ key held. first-none key.matches c.args.set.now }

pub returns-in_default : goal.returns-in_default
returns-in_default g c key held few =
    first-past c.args.may key.matches c.loop-index.index c.args.set.now c.loop-index.set c.if-not-may.false c.loop-index.invariant.kept
    (sym (c.match_pattern.ensures key held) ∙ c.in_default.is) (c.loop-index.invariant.adds key held)

pub insert-requires : goal.insert-requires
insert-requires g c =
    let key = c.requires.0 in
    let lt = get-below (length c.args.set.now) key.matches c.loop-index.index c.in-Some.pattern c.requires.2
    (sym (c.match_pattern.ensures key c.requires.1) ∙ c.in-Some.is) in
    let room = c.loop-index.invariant.kept.room in
    omega arith

pub loop-index-preserved : goal.loop-index-preserved
loop-index-preserved g c =
    let here = c.loop-index.set in
    let p = c.in-Some.pattern in
    let below = get-below (length c.args.set.now) c.requires.0.matches c.loop-index.index p c.requires.2
    (sym (c.match_pattern.ensures c.requires.0 c.requires.1) ∙ c.in-Some.is) in
    let room = c.loop-index.invariant.kept.room in
    let lt : p < length here = omega arith in
    record {
      kept = keeps-twice c.args.set.now here c.insert.new.self c.loop-index.invariant.kept
          (subst (KeepsMembers here) (sym c.insert.ensures.set) (set-keeps here p lt));
      adds = λ key held. first-more key.matches c.loop-index.index p c.args.set.now here c.insert.new.self
          (sym (c.match_pattern.ensures key held) ∙ c.in-Some.is) lt c.insert.ensures.set (c.loop-index.invariant.adds key held);
    }

pub returns : goal.returns
returns g c key held few =
    first-all c.args.may key.matches c.loop-index.index c.args.set.now c.loop-index.set c.if-not-may.false c.loop-index.invariant.kept (omega arith)
    (c.loop-index.invariant.adds key held)
