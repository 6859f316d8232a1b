use Rattle.std.proofs.Common.{◌≡◌, ◌≤◌, List, ℕ, length, refl, sym, ap, subst, ◌∙◌}
use Rattle.std.specs.Prelude.{map, IfOk}
use Rattle.std.specs.List.{All}
use Rattle.std.specs.Str.{IsUtf8}
use Rattle.std.specs.Vec.{vec_items}
use Rattle.rx_gen.proofs.GeneratorLemmas.{generated-short, generated-utf8}
use Rattle.rx_meta.specs.Config.{nothing_set}
use Rattle.rx_scan.specs.Answer.{gen_counts, gen_expressions}
use Rattle.rx_scan.proofs.CountedLemmas.{counts-told}
use Rattle.rx_scan.proofs.generate.count.Goals as goal

pub returns : goal.returns
returns g c =
    let seed = c.args.asked.now.seed in
    let count = c.args.asked.now.count in
    let given = map (λ h. h.now) c.deref.result.now in
    let same = ap (map (λ h. h.now)) c.deref.ensures.value ∙ c.in_ok-all.ensures in
    let short = subst (All (λ text. length text ≤ 15)) (sym (same ∙ c.requires.texts)) (generated-short seed count) in
    let utf8 = subst (All IsUtf8) (sym (same ∙ c.requires.texts)) (generated-utf8 seed count) in
    subst (λ (texts : List (List ℕ)). IfOk c.scan_for.result (λ found. found.items ≡ map gen_counts texts)) same
    (counts-told vec_items c.scan_for.result given short
    (c.scan_for.ensures nothing_set gen_expressions c.requires.built refl tt (λ _ k d below. c.requires.utf8 _ (utf8 k d below))))
