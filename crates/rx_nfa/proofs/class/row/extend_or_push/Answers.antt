use Rattle.rx_nfa.specs.Automaton.{route}
use Rattle.rx_nfa.specs.Row.{Ascends}
use Rattle.rx_nfa.proofs.lemmas.classes.RowLemmas.{Ascends-end, Adds-push, Adds-extend, element-same}
use Rattle.std.proofs.Common.{◌≡◌, ◌+◌, ◌-◌, ◌∙◌, ap, sym, subst, refl, arith, set}
use Rattle.std.specs.Prelude.{Some, if◌then◌else◌, ◌==◌}
use Rattle.std.proofs.lemmas.Grind.{common_steps}
use Rattle.rx_nfa.proofs.class.row.extend_or_push.Goals as goal

pub overflow_add-before : goal.overflow_add-before
overflow_add-before c =
    let below = Ascends-end 0 c.args.byte (c.len-last.result - 1) c.args.row.now.items c.index.result.now c.requires
    (grind (arith, common_steps)) c.index.ensures in omega arith

pub returns-then-before-byte-clause-ascends : goal.returns-then-before-byte-clause-ascends
returns-then-before-byte-clause-ascends c =
    let same : c.index.result.now ≡ c.index_mut.result.now =
    element-same (c.len-last.result - 1) c.args.row.now.items _ _ (grind (arith, common_steps)) c.index.ensures c.index_mut.ensures.value in
    subst (λ x. Ascends 0 (c.args.byte + 1) (set c.args.row.now.items (c.len-last.result - 1) (record x { end = c.args.byte }))) same
    (Adds-extend 0 c.args.byte c.index.result.now.next (c.len-last.result - 1) c.args.row.now.items c.index.result.now c.requires (grind (arith, common_steps))
    c.index.ensures refl c.if-before-byte.true).ascends

pub returns-then-before-byte-clause-routes : goal.returns-then-before-byte-clause-routes
returns-then-before-byte-clause-routes c b =
    let same : c.index.result.now ≡ c.index_mut.result.now =
    element-same (c.len-last.result - 1) c.args.row.now.items _ _ (grind (arith, common_steps)) c.index.ensures c.index_mut.ensures.value in
    let next : c.index.result.now.next ≡ c.args.next = grind (arith, common_steps) in
    ap (λ x. route (set c.args.row.now.items (c.len-last.result - 1) (record x { end = c.args.byte })) b) (sym same)
    ∙ (Adds-extend 0 c.args.byte c.index.result.now.next (c.len-last.result - 1) c.args.row.now.items c.index.result.now c.requires
    (grind (arith, common_steps)) c.index.ensures refl c.if-before-byte.true).routes b
    ∙ ap (λ n. if b == c.args.byte then Some n else route c.args.row.now.items b) next

pub returns-clause-ascends : goal.returns-clause-ascends
returns-clause-ascends c = rw c.in_ok-push.ensures.items (Adds-push 0 c.args.byte c.args.next c.args.row.now.items c.requires).ascends

pub returns-clause-routes : goal.returns-clause-routes
returns-clause-routes c = rw c.in_ok-push.ensures.items (Adds-push 0 c.args.byte c.args.next c.args.row.now.items c.requires).routes
