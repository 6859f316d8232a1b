use Rattle.std.proofs.Common.{◌≡◌, ◌/◌, ◌%◌, ◌∙◌, get_or, length, ap, arith}
use Rattle.std.proofs.lemmas.List.{get_or_default}
use Rattle.std.specs.Int.{bit_at}
use Rattle.std.specs.Prelude.{not, ◌||◌, ◌==◌}
use Rattle.rx_engines.specs.Backtrack.{is_set}
use Rattle.rx_engines.proofs.lemmas.backtracking.BitLemmas.{is_set-with_bit, tests-bit}
use Rattle.rx_engines.proofs.backtrack.visited.Visited.insert.Goals as goal

pub returns-clause-new : goal.returns-clause-new
returns-clause-new c =
    let size = ap length c.self.view_is in
    let read : c.index-word.result.now ≡ get_or c.self.inside.words.items (c.args.n / 64) 0 = c.index-word.ensures ∙ get_or_default c.self.inside.words.items
    (c.args.n / 64) _ 0 (omega arith) in
    tests-bit c.index-word.result.now c.args.n
    ∙ ap (λ w. not (bit_at w (c.args.n % 64) == 1)) (read ∙ ap (λ ws. get_or ws (c.args.n / 64) 0) c.self.view_is)

pub returns-clause-after : goal.returns-clause-after
returns-clause-after c k =
    let size = ap length c.self.view_is in
    let read : c.index-word.result.now ≡ get_or c.self.inside.words.items (c.args.n / 64) 0 = c.index-word.ensures ∙ get_or_default c.self.inside.words.items
    (c.args.n / 64) _ 0 (omega arith) in
    is_set-with_bit c.self.inside.words.items c.index-word.result.now c.args.n k read (omega arith)
    ∙ ap (λ ws. (c.args.n == k) || is_set ws k) c.self.view_is
