use Rattle.std.proofs.Common.{sym, refl}
use Rattle.std.proofs.lemmas.Bool.{eqb-true, eqb-false}
use Rattle.rx_scan.proofs.ReadingLemmas.{Cut-more, Cut-ended, Cut-over, each-utf8}
use Rattle.rx_scan.proofs.input.split_patterns.Goals as goal

pub returns-then-is_empty-clause-patterns : goal.returns-then-is_empty-clause-patterns
returns-then-is_empty-clause-patterns c =
    let ended = Cut-ended (λ line. line.now) _ _ _ _ _ c.lines.invariant.cut c.split_line.ensures.lines (eqb-true _ _ (sym c.if-is_empty.ensures)) in
    ended.0

pub returns-then-is_empty-clause-haystacks : goal.returns-then-is_empty-clause-haystacks
returns-then-is_empty-clause-haystacks c =
    let ended = Cut-ended (λ line. line.now) _ _ _ _ _ c.lines.invariant.cut c.split_line.ensures.lines (eqb-true _ _ (sym c.if-is_empty.ensures)) in
    ended.1

pub lines-preserved : goal.lines-preserved
lines-preserved c = record {
  cut = Cut-more (λ line. line.now) _ _ _ _ _ _ _ c.lines.invariant.cut c.split_line.ensures.lines (eqb-false _ _ (sym c.if-is_empty.ensures)) refl
      c.in_ok-push.ensures.items;
  each = each-utf8 (λ line. line.now) _ _ _ _ c.in_ok-push.ensures.items refl c.split_line.ensures.utf8.0 c.lines.invariant.each;
  utf8 = c.split_line.ensures.utf8.1;
}

pub returns-clause-patterns : goal.returns-clause-patterns
returns-clause-patterns c =
    let over = Cut-over (λ line. line.now) _ _ _ c.lines.invariant.cut (eqb-true _ _ (sym c.lines-test.ensures)) in
    over.0

pub returns-clause-haystacks : goal.returns-clause-haystacks
returns-clause-haystacks c =
    let over = Cut-over (λ line. line.now) _ _ _ c.lines.invariant.cut (eqb-true _ _ (sym c.lines-test.ensures)) in
    over.1
