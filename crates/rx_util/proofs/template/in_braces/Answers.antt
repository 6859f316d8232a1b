use Rattle.std.proofs.Common.{sym, ◌∙◌}
use Rattle.rx_util.proofs.TemplateLemmas.{braced-open, braced-broken, braced-text}
use Rattle.rx_util.proofs.template.in_braces.Goals as goal

pub returns-in_default-clause-value : goal.returns-in_default-clause-value
returns-in_default-clause-value c = braced-open _ _ (sym c.place_of.ensures.value ∙ c.in_default.is)

pub returns-in_default-from_utf8-clause-value : goal.returns-in_default-from_utf8-clause-value
returns-in_default-from_utf8-clause-value c =
    let broken = rw c.in_default-from_utf8.is at c.from_utf8.ensures.cases in
    braced-broken _ _ c.in-Some.len c.in-Some.ensures.value broken.0

pub returns-clause-value : goal.returns-clause-value
returns-clause-value c =
    rw c.in-Ok.ensures.cases.0 (braced-text _ _ c.in-Some.len c.in-Some.ensures.value c.in-Ok.ensures.cases.1)
