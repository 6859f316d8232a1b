use Rattle.std.proofs.Common.{◌≡◌, ◌+◌, ◌∷◌, ◌++◌, [], length, set, ◌∙◌, ap, arith}
use Rattle.std.specs.Prelude.{slice_index}
use Rattle.std.proofs.lemmas.List.{get_or_read, length_push}
use Rattle.rx_dfa.proofs.lemmas.ClassListLemmas.{put-lists}
use Rattle.rx_dfa.proofs.dense.class_lists.ClassLists.put.Goals as goal

pub returns-clause-lists : goal.returns-clause-lists
returns-clause-lists c lists are =
    let s = c.args.self.now in
    let states : c.push_reserved.new.self.items ≡ s.states.items ++ c.args.state ∷ [] =
    c.push_reserved.ensures.items ∙ ap (λ xs. xs ++ c.args.state ∷ []) c.in_ok-reserve.ensures.items in
    let head : c.index-link.result.now ≡ slice_index s.heads.items c.args.class =
    get_or_read s.heads.items c.args.class c.index-link.result.now c.requires c.index-link.ensures 0 in
    let links : c.push_reserved-2.new.self.items ≡ s.links.items ++ slice_index s.heads.items c.args.class ∷ [] =
    c.push_reserved-2.ensures.items ∙ (λ j. c.in_ok-reserve-2.ensures.items j ++ head j ∷ []) in
    let count : c.len.result ≡ length s.states.items + 1 =
    omega (arith, c.push_reserved.new.self.ok.0, ap length states, length_push s.states.items c.args.state) in
    put-lists s c.args.class c.args.state c.requires s.same c.push_reserved.new.self.items c.push_reserved-2.new.self.items
    (set s.heads.items c.args.class c.len.result) states links (ap (set s.heads.items c.args.class) count) lists are
