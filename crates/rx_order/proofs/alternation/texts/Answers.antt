use Rattle.std.proofs.Common.{◌≡◌, ◌+◌, ◌∷◌, [], ◌++◌, ◌∙◌, map, drop, ap, sym, Some, None}
use Rattle.std.specs.Option.{option_map}
use Rattle.std.specs.Vec.{vec_items}
use Rattle.std.proofs.lemmas.List.{map_push}
use Rattle.rx_order.specs.Alternation.{text_of, texts_of}
use Rattle.rx_order.proofs.lemmas.AlternationLemmas.{texts-none, texts-more, texts-past}
use Rattle.rx_order.proofs.alternation.texts.Goals as goal

pub returns-in-None : goal.returns-in-None
returns-in-None c =
    let h = c.sub-item.result in
    let none : text_of h ≡ None = sym c.text_of.ensures ∙ ap (option_map (λ r. r.now)) c.in-None.is in
    texts-none c.args.subs.now c.loop-sub.sub-index h c.loop-sub-test.true c.sub-item.is (map vec_items c.loop-sub.literals.items) c.loop-sub.invariant none

pub loop-sub-preserved : goal.loop-sub-preserved
loop-sub-preserved c =
    let h = c.sub-item.result in
    let bytes = c.in-Some.bytes.now in
    let lits = c.loop-sub.literals.items in
    let some : text_of h ≡ Some bytes = sym c.text_of.ensures ∙ ap (option_map (λ r. r.now)) c.in-Some.is in
    let e : map vec_items c.push.new.self.items ≡ map vec_items lits ++ bytes ∷ [] = ap (map vec_items) c.in_ok-push-in-Some.ensures.items
    ∙ map_push vec_items lits c.in_ok-from_slice-in-Some.field-0 ∙ ap (λ b. map vec_items lits ++ b ∷ []) c.in_ok-from_slice-in-Some.ensures.items in
    ap (λ d. option_map (λ later. d ++ later) (texts_of (drop (c.loop-sub.sub-index + 1) c.args.subs.now))) e
    ∙ texts-more c.args.subs.now c.loop-sub.sub-index h c.loop-sub-test.true c.sub-item.is (map vec_items lits) c.loop-sub.invariant bytes some

pub returns : goal.returns
returns c = texts-past c.args.subs.now c.loop-sub.sub-index (map vec_items c.loop-sub.literals.items) c.loop-sub-test.false c.loop-sub.invariant
