use Rattle.std.proofs.Common.{ℕ, [], ◌∷◌, ◌++◌, List, Option, None, option_map, string_bytes, ap, ◌∙◌}
use Rattle.std.proofs.lemmas.List.{map_push, replicate_more}
use Rattle.rx_search.specs.GroupInfo.{names_of}
use Rattle.rx_hir.proofs.hir.names.unnamed.Goals as goal

pub loop-preserved : goal.loop-preserved
loop-preserved c =
    let none : Option (List ℕ) = None in
    ap names_of c.in_ok-push.ensures.items
    ∙ map_push (option_map string_bytes) c.loop.names.items None
    ∙ ap (λ (xs : List (Option (List ℕ))). xs ++ none ∷ []) c.loop.invariant
    ∙ replicate_more c.loop.counter none
