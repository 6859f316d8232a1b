use Rattle.std.proofs.Common.{length, sym, subst, arith}
use Rattle.rx_meta.specs.Iterators.{SplitValue, RestsWithin, text_len, IsPieceOf}
use Rattle.rx_meta.proofs.split.Split.rest_at_once.Goals as goal

pub returns-clause-piece : goal.returns-clause-piece
returns-clause-piece c =
    let rests = subst (RestsWithin c.self.inside.matches) c.in-Some.is c.self.invariant in
    subst (λ (s : SplitValue). IsPieceOf (text_len s) c.rest_from.result) c.self.view_is
    (subst (IsPieceOf (length c.self.inside.matches.searcher.input.haystack)) (sym c.rest_from.ensures)
    (record { in_order = rests.1; within = omega arith }))
