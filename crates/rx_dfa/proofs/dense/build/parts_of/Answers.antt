use Rattle.std.proofs.Common.{◌≡◌, ℕ, ◌*◌, ◌^◌, ◌<◌, length, map, sym, ◌∙◌, subst}
use Rattle.std.specs.Prelude.{Option}
use Rattle.std.specs.Vec.{vec_items}
use Rattle.std.proofs.lemmas.Result.{err_from_is_err_and}
use Rattle.rx_dfa.specs.Alphabet.{dfa_of}
use Rattle.rx_dfa.specs.DenseView.{value_of}
use Rattle.rx_dfa.specs.Found.{plain_keys}
use Rattle.rx_dfa.specs.Table.{IsDense}
use Rattle.rx_dfa.specs.Dense.{IsRefused, IsFullTable}
use Rattle.rx_dfa.specs.declared.dense.found.Found.{Found}
use Rattle.rx_dfa.proofs.lemmas.BuildLemmas.{is-dense, is-full, least-wide}
use Rattle.rx_dfa.proofs.lemmas.CountLemmas.{no-table, dfa-is, dfa-served, dead-is}
use Rattle.rx_dfa.proofs.dense.build.parts_of.Goals as goal

pub returns-in_err-found-clause-err : goal.returns-in_err-found-clause-err
returns-in_err-found-clause-err c =
    let alphabet = c.in_ok-alphabet.alphabet in
    let d = dfa_of c.args.nfa.now c.args.kind alphabet in
    let e = err_from_is_err_and c.from_residual-in_err-found.result c.from_residual-in_err-found.ensures.1 in
    rw (e.1, e.2)
    (no-table c.args.nfa.now c.args.kind c.args.byte_classes d c.stride2_of-stride2.result c.stride_of-stride.result c.args.limit
    (dfa-is c.args.nfa.now c.args.kind c.args.byte_classes alphabet c.states_len-states.ensures.in_range c.in_ok-alphabet.ensures)
    c.stride2_of-stride2.ensures.power
    c.stride_of-stride.ensures.power _ (c.in_err-found.ensures.err d (dead-is d)))

pub lay-requires-clause-served : goal.lay-requires-clause-served
lay-requires-clause-served c =
    dfa-served c.args.nfa.now c.args.kind c.args.byte_classes c.in_ok-alphabet.alphabet c.states_len-states.ensures.in_range c.in_ok-alphabet.ensures

pub lay-requires-clause-wide : goal.lay-requires-clause-wide
lay-requires-clause-wide c =
    let alphabet = c.in_ok-alphabet.alphabet in
    subst (λ s. length alphabet.bytes.items < s) (sym (c.in_ok-found.ensures.same.0 ∙ c.stride_of-stride.ensures.power))
    (least-wide alphabet.classes alphabet.bytes.items c.in_ok-alphabet.ensures.serve.stand c.stride2_of-stride2.result c.stride2_of-stride2.ensures.power)

pub lay-requires-clause-found : goal.lay-requires-clause-found
lay-requires-clause-found c =
    let d = dfa_of c.args.nfa.now c.args.kind c.in_ok-alphabet.alphabet in
    c.in_ok-found.ensures.found d (dead-is d)

pub returns-in_err-laid-clause-err : goal.returns-in_err-laid-clause-err
returns-in_err-laid-clause-err c =
    let alphabet = c.in_ok-alphabet.alphabet in
    let d = dfa_of c.args.nfa.now c.args.kind alphabet in
    let f = c.in_ok-found.found in
    let e = err_from_is_err_and c.from_residual-in_err-laid.result c.from_residual-in_err-laid.ensures.1 in
    rw (e.1, e.2)
    (no-table c.args.nfa.now c.args.kind c.args.byte_classes d c.stride2_of-stride2.result f.stride c.args.limit
    (dfa-is c.args.nfa.now c.args.kind c.args.byte_classes alphabet c.states_len-states.ensures.in_range c.in_ok-alphabet.ensures)
    c.stride2_of-stride2.ensures.power
    (c.in_ok-found.ensures.same.0 ∙ c.stride_of-stride.ensures.power) _
    (subst (λ (l : Option ℕ). IsRefused d f.stride l c.in_err-laid.field-0.0) c.in_ok-found.ensures.same.1 c.in_err-laid.ensures.made.err))

pub returns-clause-dense : goal.returns-clause-dense
returns-clause-dense c =
    let nfa = c.args.nfa.now in
    let alphabet = c.in_ok-alphabet.alphabet in
    let f = c.lay.new.found in
    let stride2 = c.stride2_of-stride2.result in
    let made = c.in_ok-laid.ensures.made in
    let wide : f.stride ≡ 2 ^ stride2 = c.in_ok-laid.ensures.grows.stride ∙ c.in_ok-found.ensures.same.0 ∙ c.stride_of-stride.ensures.power in
    let dead = c.in_ok-laid.ensures.dead ∙ (λ j. length (plain_keys f) * wide j) in
    subst
    (λ (g : Found). IsDense (value_of nfa c.args.kind alphabet stride2 c.in_ok-laid.laid.table.items c.in_ok-laid.laid.dead c.in_ok-laid.laid.starts.items
    (map vec_items c.in_ok-laid.laid.matches.items) g))
    (sym c.of.ensures)
    (is-dense nfa c.states_len-states.ensures.in_range c.args.kind c.args.byte_classes alphabet c.in_ok-alphabet.ensures stride2
    c.stride2_of-stride2.ensures.power f wide
    made.found c.in_ok-laid.laid.table.items c.in_ok-laid.laid.starts.items c.in_ok-laid.laid.dead (map vec_items c.in_ok-laid.laid.matches.items) made.ok.rows
    made.ok.starts dead c.in_ok-laid.ensures.matches)

pub returns-clause-dfa : goal.returns-clause-dfa
returns-clause-dfa c =
    dfa-is c.args.nfa.now c.args.kind c.args.byte_classes c.in_ok-alphabet.alphabet c.states_len-states.ensures.in_range c.in_ok-alphabet.ensures

pub returns-clause-full : goal.returns-clause-full
returns-clause-full c =
    let nfa = c.args.nfa.now in
    let alphabet = c.in_ok-alphabet.alphabet in
    let f = c.lay.new.found in
    let stride2 = c.stride2_of-stride2.result in
    let made = c.in_ok-laid.ensures.made in
    let wide : f.stride ≡ 2 ^ stride2 = c.in_ok-laid.ensures.grows.stride ∙ c.in_ok-found.ensures.same.0 ∙ c.stride_of-stride.ensures.power in
    let limit : f.limit ≡ c.args.limit = c.in_ok-laid.ensures.grows.limit ∙ c.in_ok-found.ensures.same.1 in
    let dead = c.in_ok-laid.ensures.dead ∙ (λ j. length (plain_keys f) * wide j) in
    subst
    (λ (g : Found). IsFullTable c.args.limit (value_of nfa c.args.kind alphabet stride2 c.in_ok-laid.laid.table.items c.in_ok-laid.laid.dead
    c.in_ok-laid.laid.starts.items (map vec_items c.in_ok-laid.laid.matches.items) g))
    (sym c.of.ensures)
    (is-full nfa c.states_len-states.ensures.in_range c.args.kind c.args.byte_classes alphabet c.in_ok-alphabet.ensures stride2
    c.stride2_of-stride2.ensures.power f wide
    made.found c.in_ok-laid.laid.table.items c.in_ok-laid.laid.starts.items c.in_ok-laid.laid.dead (map vec_items c.in_ok-laid.laid.matches.items) made.ok.rows
    made.ok.starts dead c.in_ok-laid.ensures.matches c.args.limit limit)
