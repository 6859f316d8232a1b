use Rattle.std.proofs.Common.{◌≡◌, ◌+◌, suc, subst, arith, sym}
use Rattle.std.specs.Prelude.{IfSome}
use Rattle.rx_nfa.specs.Forks.{IsFork}
use Rattle.rx_nfa.specs.Sharing.{Sharing}
use Rattle.rx_nfa.proofs.lemmas.prefixes.SharingLemmas.{Sharing-more}
use Rattle.rx_nfa.specs.Draft.{Draft}
use Rattle.rx_nfa.proofs.prefixes.share_at.Goals as goal

pub returns-then-branch-clause-sharing : goal.returns-then-branch-clause-sharing
returns-then-branch-clause-sharing c = λ states known h.
    let found : IsFork c.states.result.now c.args.named.now c.args.done c.args.root c.in-Some.fork =
    subst (λ o. IfSome o (IsFork c.states.result.now c.args.named.now c.args.done c.args.root)) c.in-Some.is c.in_ok-fork.ensures in
    let is = subst (λ ss. IsFork ss c.args.named.now c.args.done c.args.root c.in-Some.fork) c.states.ensures.value found in
    let long = h.long in
    let there = c.requires.root in
    let next : suc c.args.root ≡ c.args.root + 1 = omega arith in
    subst (Sharing c.args.named.now states c.plant.new.builder.states) next
    (Sharing-more c.args.named.now states c.args.builder.now.states c.plant.new.builder.states c.args.done c.args.root c.in-Some.fork known h (omega arith)
    c.requires.done is (c.in_ok-plant.ensures.planted c.if-branch.true))

pub returns-clause-sharing : goal.returns-clause-sharing
returns-clause-sharing c = λ states known h.
    subst (λ (d : Draft). Sharing c.args.named.now states d.states c.args.done) (sym (c.in_ok-plant.ensures.same c.if-branch.false)) h
