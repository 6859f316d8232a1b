use Rattle.std.proofs.Common.{◌≡◌, suc, ◌-◌, ◌<◌, sym, subst, arith}
use Rattle.std.specs.Prelude.{Option, IfOk, IfSome}
use Rattle.rx_search.specs.declared.span.Span.{Span}
use Rattle.rx_meta.specs.Iterators.{SplitValue, SplitNValue, text_len, IsPieceOf, PromisesEach, pieces_to_come, pieces_up_to, GivesNext, IsSpan, IsCut}
use Rattle.rx_meta.proofs.IteratorLemmas.{permitted}
use Rattle.rx_meta.proofs.split.SplitN.next.Goals as goal
use Rattle.rx_meta.proofs.split.SplitN.next.Goals.{in-Some, in-None}

pub returns-then-left-gt0-clause-gives : goal.returns-then-left-gt0-clause-gives
returns-then-left-gt0-clause-gives c =
    let n = c.self.inside.limit in
    let above : 0 < n - 1 = c.if-left-gt0.true in
    let below : suc (suc (n - 2)) ≡ n = omega arith in
    let less : suc (n - 2) ≡ n - 1 = omega arith in
    subst
    (λ (s : SplitNValue). PromisesEach s.splits.matches → GivesNext IsSpan (pieces_to_come s) (pieces_up_to (n - 1) c.next.new.self) c.next.result)
    c.self.view_is
    (λ promised. permitted c.self.inside.splits c.next.new.self c.next.result (suc (suc (n - 2))) n (suc (n - 2)) (n - 1) below less
    (c.next.ensures.pieces (n - 2) promised))

pub returns-then-left-gt0-clause-goes_on : goal.returns-then-left-gt0-clause-goes_on
returns-then-left-gt0-clause-goes_on c =
    subst (λ (s : SplitNValue). PromisesEach s.splits.matches → PromisesEach c.next.new.self.matches) c.self.view_is c.next.ensures.goes_on

pub returns-then-left-gt0-clause-any : goal.returns-then-left-gt0-clause-any
returns-then-left-gt0-clause-any c _ =
    subst (λ (s : SplitNValue). IfSome c.next.result (λ item. IfOk item (IsCut s.splits c.next.new.self))) c.self.view_is c.next.ensures.any

pub returns-clause-goes_on : goal.returns-clause-goes_on
returns-clause-goes_on c =
    subst (λ (s : SplitNValue). PromisesEach s.splits.matches → PromisesEach c.rest_at_once.new.self.matches) c.self.view_is
    (λ promised. subst (λ (after : SplitValue). PromisesEach after.matches) (sym c.rest_at_once.ensures.over) promised)

pub returns-clause-piece : goal.returns-clause-piece
returns-clause-piece c =
    subst (λ (s : SplitNValue). IfSome c.match-rest_at_once.result (λ item. IfOk item (IsPieceOf (text_len s.splits)))) c.self.view_is
    (elim c.match-rest_at_once.branch [
      | in-Some w ↦
          rw w.result-is
          (subst (λ (o : Option Span). IfSome o (IsPieceOf (text_len c.self.inside.splits))) w.in-Some.is c.rest_at_once.ensures.piece)
      | in-None w ↦ rw w.result-is tt
    ])
