use Rattle.std.proofs.Common.{◌≡◌, ◌+◌, None, Some, option_map, position, ◌∙◌, ap, sym}
use Rattle.rx_search.specs.GroupInfo.{index_of, is_named}
use Rattle.rx_search.proofs.GroupLemmas.{position-names}
use Rattle.rx_search.proofs.group_info.GroupInfo.to_index.Goals as goal

pub returns-in_err-place : goal.returns-in_err-place
returns-in_err-place c =
    let all : index_of c.args.self.now c.args.pid c.args.name.now ≡ option_map (λ i. i + 1) c.position_of.result =
    ap (position (is_named c.args.name.now)) c.in_ok-names.ensures ∙ position-names c.args.name.now c.in_ok-names.names.now
    ∙ ap (option_map (λ i. i + 1)) (sym c.position_of.ensures) in
    let none : c.position_of.result ≡ None = cc in
    let end : c.from_residual-in_err-place.result ≡ None = cc in
    end ∙ sym (all ∙ ap (option_map (λ i. i + 1)) none)

pub returns : goal.returns
returns c =
    let all : index_of c.args.self.now c.args.pid c.args.name.now ≡ option_map (λ i. i + 1) c.position_of.result =
    ap (position (is_named c.args.name.now)) c.in_ok-names.ensures ∙ position-names c.args.name.now c.in_ok-names.names.now
    ∙ ap (option_map (λ i. i + 1)) (sym c.position_of.ensures) in
    let found : c.position_of.result ≡ Some c.in_ok-place.place = cc in
    sym (all ∙ ap (option_map (λ i. i + 1)) found)
