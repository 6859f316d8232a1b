use Rattle.std.proofs.Common.{ℕ, ◌+◌, ap, sym, ◌∙◌}
use Rattle.std.specs.Option.{option_map}
use Rattle.std.proofs.lemmas.List.{take_rest}
use Rattle.rx_prefilter.specs.Needles.{needle_span}
use Rattle.rx_prefilter.proofs.ByteLemmas.{first_span-needle}
use Rattle.rx_prefilter.proofs.memmem.find.Goals as goal

pub returns-in-Some : goal.returns-in-Some
returns-in-Some c =
    let text = c.args.text.now in
    let from = c.args.from in
    let first = rw (take_rest text from) at c.find.ensures in
    let value = first_span-needle c.args.finder.now text from c.requires c.find.result first in
    rw c.needle.ensures (sym (value ∙ ap (option_map (λ (k : ℕ). needle_span c.args.finder.now (from + k))) c.in-Some.is))

pub returns-in-None : goal.returns-in-None
returns-in-None c =
    let text = c.args.text.now in
    let from = c.args.from in
    let first = rw (take_rest text from) at c.find.ensures in
    let value = first_span-needle c.args.finder.now text from c.requires c.find.result first in
    sym (value ∙ ap (option_map (λ (k : ℕ). needle_span c.args.finder.now (from + k))) c.in-None.is)
