use Rattle.std.proofs.Common.{◌≡◌, length, sym, ◌∙◌, ap, subst, true≢false}
use Rattle.std.specs.Prelude.{List, Bool}
use Rattle.rx_search.specs.PatternSet.{has}
use Rattle.rx_search.specs.Sets.{KeepsMembers, GainsMatching}
use Rattle.rx_engines.proofs.lemmas.answers.OverlapLemmas.{keeps-same, keeps-set, gains-same, gains-set, set-there}
use Rattle.rx_engines.proofs.pikevm.vm.PikeVM.try_pattern.Goals as goal

pub returns-then-contains-clause-kept : goal.returns-then-contains-clause-kept
returns-then-contains-clause-kept c = keeps-same c.args.set.now

pub returns-then-contains-clause-matching : goal.returns-then-contains-clause-matching
returns-then-contains-clause-matching c r is begins = gains-same r c.args.input.now c.args.set.now

pub returns-then-contains-clause-tried : goal.returns-then-contains-clause-tried
returns-then-contains-clause-tried c r is begins m = sym c.contains.ensures ∙ c.if-contains.true

pub returns-then-not-has_match-clause-kept : goal.returns-then-not-has_match-clause-kept
returns-then-not-has_match-clause-kept c = keeps-same c.args.set.now

pub returns-then-not-has_match-clause-matching : goal.returns-then-not-has_match-clause-matching
returns-then-not-has_match-clause-matching c r is begins = gains-same r c.args.input.now c.args.set.now

pub returns-then-not-has_match-clause-tried : goal.returns-then-not-has_match-clause-tried
returns-then-not-has_match-clause-tried c r is begins m =
    absurd (true≢false (sym ((c.has_match.ensures.value r is begins).1 m) ∙ c.if-not-has_match.true))

pub returns-clause-kept : goal.returns-clause-kept
returns-clause-kept c = subst (KeepsMembers c.args.set.now) (sym c.insert.ensures.set) (keeps-set c.args.set.now c.args.pattern c.requires.room)

pub returns-clause-matching : goal.returns-clause-matching
returns-clause-matching c r is begins =
    subst (GainsMatching r c.args.input.now c.args.set.now) (sym c.insert.ensures.set)
    (gains-set r c.args.input.now c.args.set.now c.args.pattern ((c.has_match.ensures.value r is begins).0 c.if-not-has_match.false))

pub returns-clause-tried : goal.returns-clause-tried
returns-clause-tried c r is begins m =
    ap (λ (s : List Bool). has s c.args.pattern) c.insert.ensures.set ∙ set-there c.args.set.now c.args.pattern c.requires.room
