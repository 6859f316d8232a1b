use Rattle.std.proofs.Common.{◌≡◌, List, ℕ, ◌<◌, ◌^◌, length, ap, sym, subst, ◌∙◌}
use Rattle.std.specs.Prelude.{map, sum_by}
use Rattle.std.specs.Vec.{vec_items}
use Rattle.rx_gen.specs.Generated.{generated}
use Rattle.rx_gen.specs.Totals.{matches_of, covered_of}
use Rattle.rx_gen.specs.declared.totals.Counts.{Counts}
use Rattle.rx_meta.specs.Build.{IsBuilt}
use Rattle.rx_meta.specs.Config.{nothing_set}
use Rattle.rx_scan.specs.Answer.{gen_counts}
use Rattle.rx_scan.proofs.CountedLemmas.{bytes-fit, matches-fit, covered-fit, gen-read, gen-utf8}
use Rattle.rx_scan.proofs.generate.generate.Given.{Over}
use Rattle.rx_scan.proofs.generate.generate.Goals as goal
use Rattle.rx_scan.proofs.generate.generate.Goals.{After-deref-3}

-- what was found is what is in the haystacks
found : (g : Over) (c : After-deref-3 g) → c.deref-3.result.now ≡ map gen_counts (generated c.args.asked.now.seed c.args.asked.now.count)
found g c =
    c.deref-3.ensures.value ∙ c.in_ok-found.ensures ∙ ap (λ ts. map gen_counts (map vec_items ts)) c.deref.ensures.value ∙ ap (map gen_counts) c.in_ok-texts.ensures

pub told-requires-clause-bytes : goal.told-requires-clause-bytes
told-requires-clause-bytes g c =
    let texts = ap (map vec_items) c.deref-2.ensures.value ∙ c.in_ok-texts.ensures in
    subst (λ (ts : List (List ℕ)). sum_by length ts < 2 ^ 64) (sym texts) (bytes-fit c.args.asked.now.seed c.args.asked.now.count c.requires.0)

pub told-requires-clause-matches : goal.told-requires-clause-matches
told-requires-clause-matches g c =
    subst (λ (cs : List Counts). sum_by matches_of cs < 2 ^ 64) (sym (found g c)) (matches-fit c.args.asked.now.seed c.args.asked.now.count c.requires.0)

pub told-requires-clause-covered : goal.told-requires-clause-covered
told-requires-clause-covered g c =
    subst (λ (cs : List Counts). sum_by covered_of cs < 2 ^ 64) (sym (found g c)) (covered-fit c.args.asked.now.seed c.args.asked.now.count c.requires.0)

pub count-requires-clause-built : goal.count-requires-clause-built
count-requires-clause-built g c = λ lifetimes bounds.
    let built = c.in-Ok.ensures.built in subst (λ hs. IsBuilt nothing_set hs c.in-Ok.regex) (gen-read built.0 built.1) built.2

pub count-requires-clause-utf8 : goal.count-requires-clause-utf8
count-requires-clause-utf8 g c = λ lifetimes bounds.
    let built = c.in-Ok.ensures.built in gen-utf8 built.0 built.1
