use Rattle.std.proofs.Common.{◌∙◌, ap, map, Some}
use Rattle.std.specs.Prelude.{unwrap_or, vec_items}
use Rattle.std.proofs.lemmas.Result.{err_from_is_err_and}
use Rattle.rx_hir.specs.Normal.{concat_of}
use Rattle.rx_order.specs.Inner.{fast_prefixes}
use Rattle.rx_order.proofs.inner.at_part.Goals as goal

pub concat-requires : goal.concat-requires
concat-requires c = tt

pub concat-requires-2 : goal.concat-requires-2
concat-requires-2 c = tt

pub fast_prefixes-requires : goal.fast_prefixes-requires
fast_prefixes-requires c = tt

pub found_or-found-requires-clause-found : goal.found_or-found-requires-clause-found
found_or-found-requires-clause-found c = c.requires.search

pub found_or-found-requires-clause-longer : goal.found_or-found-requires-clause-longer
found_or-found-requires-clause-longer c = c.in_ok-longer.ensures.search

pub returns-clause-search : goal.returns-clause-search
returns-clause-search c = c.found_or-found.ensures.search

pub returns-in_err-longer-clause-search : goal.returns-in_err-longer-clause-search
returns-in_err-longer-clause-search c =
    let p = err_from_is_err_and c.from_residual-in_err-longer.result c.from_residual-in_err-longer.ensures.1 in
    rw p.1 tt

pub returns-in_err-longer-clause-value : goal.returns-in_err-longer-clause-value
returns-in_err-longer-clause-value c =
    let p = err_from_is_err_and c.from_residual-in_err-longer.result c.from_residual-in_err-longer.ensures.1 in
    rw p.1 tt

pub returns-in_err-prefix-clause-search : goal.returns-in_err-prefix-clause-search
returns-in_err-prefix-clause-search c =
    let p = err_from_is_err_and c.from_residual-in_err-prefix.result c.from_residual-in_err-prefix.ensures.1 in
    rw p.1 tt

pub returns-in_err-prefix-clause-value : goal.returns-in_err-prefix-clause-value
returns-in_err-prefix-clause-value c =
    let p = err_from_is_err_and c.from_residual-in_err-prefix.result c.from_residual-in_err-prefix.ensures.1 in
    rw p.1 tt

pub returns-in_err-rest-2-clause-search : goal.returns-in_err-rest-2-clause-search
returns-in_err-rest-2-clause-search c =
    let p = err_from_is_err_and c.from_residual-in_err-rest-2.result c.from_residual-in_err-rest-2.ensures.1 in
    rw p.1 tt

pub returns-in_err-rest-2-clause-value : goal.returns-in_err-rest-2-clause-value
returns-in_err-rest-2-clause-value c =
    let p = err_from_is_err_and c.from_residual-in_err-rest-2.result c.from_residual-in_err-rest-2.ensures.1 in
    rw p.1 tt

pub returns-in_err-rest-clause-search : goal.returns-in_err-rest-clause-search
returns-in_err-rest-clause-search c =
    let p = err_from_is_err_and c.from_residual.result c.from_residual.ensures.1 in
    rw p.1 tt

pub returns-in_err-rest-clause-value : goal.returns-in_err-rest-clause-value
returns-in_err-rest-clause-value c =
    let p = err_from_is_err_and c.from_residual.result c.from_residual.ensures.1 in
    rw p.1 tt

pub returns-clause-value : goal.returns-clause-value
returns-clause-value c =
    let prefix = c.in_ok-prefix.ensures ∙ ap concat_of c.in_ok-rest.ensures.items in
    let rest = c.in_ok-rest-2.ensures ∙ ap concat_of c.in_ok-rest.ensures.tail in
    let longer = c.in_ok-longer.ensures.value ∙ ap fast_prefixes rest in
    let literals = c.found_or-found.ensures.value ∙ ap (λ o. unwrap_or o (map vec_items c.args.found.literals.items)) longer in
    λ i. Some (prefix i, literals i)
