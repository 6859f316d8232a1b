use Rattle.std.proofs.Common.{◌≡◌, ◌<◌, ◌∷◌, ◌++◌, [], length, length-set, set, sym, subst, arith}
use Rattle.std.specs.Prelude.{true, All}
use Rattle.std.proofs.lemmas.List.Elements.{All-push}
use Rattle.rx_dfa.proofs.lemmas.ListLemmas.{marked-push}
use Rattle.rx_dfa.proofs.state_list.StateList.insert.Goals as goal

pub invariant_of-self-2 : goal.invariant_of-self-2
invariant_of-self-2 c =
    let items = c.args.self.now.items.items in
    let marks = c.args.self.now.marks.items in
    let state = c.args.state in
    let n : length (set marks state true) ≡ length marks = length-set marks state true in
    rw (c.as_usize-index.ensures.value, c.in_ok-push.ensures.items)
    (record {
      marked = λ q lt. marked-push items marks state c.requires c.args.self.now.marked q (omega arith);
      below = subst (λ m. All (λ q. q < m) (items ++ state ∷ [])) (sym n) (All-push (λ q. q < length marks) items state c.args.self.now.below c.requires);
    })
