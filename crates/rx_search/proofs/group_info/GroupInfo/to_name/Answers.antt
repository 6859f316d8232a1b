use Rattle.std.proofs.Common.{◌≡◌, suc, Some, option_map, string_bytes, refl, sym, ap, ◌∙◌, arith}
use Rattle.std.proofs.lemmas.Option.{slice_get_read}
use Rattle.std.specs.Option.{option_copied}
use Rattle.rx_search.proofs.NameLemmas.{name_at-none, name_at-first, name_at-past, name_at-there}
use Rattle.rx_search.proofs.group_info.GroupInfo.to_name.Goals as goal

pub returns-in_err-names : goal.returns-in_err-names
returns-in_err-names c = ap option_copied c.from_residual.ensures ∙ sym (name_at-none c.args.self.now c.args.pid c.args.group c.in_err-names.ensures)

pub returns-in_err-index : goal.returns-in_err-index
returns-in_err-index c =
    ap option_copied c.from_residual-in_err-index.ensures
    ∙ sym (name_at-first c.args.self.now c.args.pid c.args.group _ c.in_ok-names.ensures (omega (arith, c.in_err-index.ensures)))

pub returns-in_err-name : goal.returns-in_err-name
returns-in_err-name c =
    let index : c.args.group ≡ suc c.in_ok-index.index = omega (arith, c.in_ok-index.ensures) in
    ap option_copied c.from_residual-in_err-name.ensures
    ∙ sym (name_at-past c.args.self.now c.args.pid c.args.group c.in_ok-index.index c.in_ok-names.names.now c.in_ok-names.ensures index
    c.in_err-name.ensures.lookup.3)

pub returns-in-None : goal.returns-in-None
returns-in-None c =
    let index : c.args.group ≡ suc c.in_ok-index.index = omega (arith, c.in_ok-index.ensures) in
    let lookup = c.in_ok-name.ensures.lookup in
    let there = slice_get_read c.in_ok-names.names.now _ c.in_ok-index.index c.in_ok-name.field-0.now refl lookup.3.0 lookup.1 in
    sym (name_at-there c.args.self.now c.args.pid c.args.group c.in_ok-index.index c.in_ok-names.names.now c.in_ok-name.field-0.now
    c.in_ok-names.ensures index there ∙ ap (option_map string_bytes) c.in-None.is)

pub returns-in-Some : goal.returns-in-Some
returns-in-Some c =
    let index : c.args.group ≡ suc c.in_ok-index.index = omega (arith, c.in_ok-index.ensures) in
    let lookup = c.in_ok-name.ensures.lookup in
    let there = slice_get_read c.in_ok-names.names.now _ c.in_ok-index.index c.in_ok-name.field-0.now refl lookup.3.0 lookup.1 in
    ap Some c.as_str.ensures.value
    ∙ sym (name_at-there c.args.self.now c.args.pid c.args.group c.in_ok-index.index c.in_ok-names.names.now c.in_ok-name.field-0.now
    c.in_ok-names.ensures index there ∙ ap (option_map string_bytes) c.in-Some.is)
