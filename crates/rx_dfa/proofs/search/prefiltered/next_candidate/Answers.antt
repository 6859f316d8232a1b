use Rattle.std.proofs.Common.{sym, ◌∙◌, ap}
use Rattle.rx_prefilter.specs.Needles.{find_in}
use Rattle.rx_dfa.proofs.lemmas.NeedleLemmas.{candidate-some, candidate-none}
use Rattle.rx_dfa.proofs.search.prefiltered.next_candidate.Goals as goal

pub returns-in-Some : goal.returns-in-Some
returns-in-Some c =
    candidate-some c.args.pre.now c.args.input.now c.get_span.ensures.spanned.end c.get_span.result c.get_span.ensures.start c.get_span.ensures.end
    c.in-Some.found
    (ap (λ t. find_in c.args.pre.now t c.get_span.result) (sym c.haystack.ensures.value) ∙ sym c.find.ensures ∙ c.in-Some.is)

pub returns-in-None : goal.returns-in-None
returns-in-None c =
    candidate-none c.args.pre.now c.args.input.now c.get_span.ensures.spanned.end c.get_span.result c.get_span.ensures.start c.get_span.ensures.end
    (ap (λ t. find_in c.args.pre.now t c.get_span.result) (sym c.haystack.ensures.value) ∙ sym c.find.ensures ∙ c.in-None.is)
