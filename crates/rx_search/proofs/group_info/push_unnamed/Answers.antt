use Rattle.std.proofs.Common.{ℕ, ◌≡◌, ◌+◌, ◌-◌, List, [], ◌∷◌, ◌++◌, Option, None, option_map, string_bytes, ap, ◌∙◌, arith}
use Rattle.std.proofs.lemmas.List.{append_assoc, map_push, replicate_more}
use Rattle.rx_search.specs.GroupInfo.{names_of, unnamed_groups}
use Rattle.rx_search.proofs.group_info.push_unnamed.Goals as goal

pub loop-preserved : goal.loop-preserved
loop-preserved c =
    let before = names_of c.args.names.now.items in
    let n = c.loop.counter - 1 in
    let none : Option (List ℕ) = None in
    let next : n + 1 ≡ c.loop.counter + 1 - 1 = omega (arith, c.loop.auto.counter) in
    let longer : names_of c.push.new.self.items ≡ before ++ unnamed_groups (c.loop.counter + 1 - 1) =
    ap names_of c.in_ok-push.ensures.items
    ∙ map_push (option_map string_bytes) c.loop.names.items None
    ∙ ap (λ (xs : List (Option (List ℕ))). xs ++ none ∷ []) c.loop.invariant.0
    ∙ append_assoc before (unnamed_groups n) (none ∷ [])
    ∙ ap (λ (xs : List (Option (List ℕ))). before ++ xs) (replicate_more n none)
    ∙ ap (λ (m : ℕ). before ++ unnamed_groups m) next in
    (longer, omega (arith, c.loop-test.true))

pub returns : goal.returns
returns c =
    let same : c.loop.counter - 1 ≡ c.args.group_len - 1 = omega (arith, c.loop-test.false, c.loop.invariant.1) in
    c.loop.invariant.0 ∙ ap (λ (m : ℕ). names_of c.args.names.now.items ++ unnamed_groups m) same
