use Rattle.std.proofs.Common.{◌≡◌, [], ◌∷◌, ◌++◌, ◌∙◌, sym, ap, arith, false, get_or}
use Rattle.std.specs.Prelude.{◌==◌, map}
use Rattle.std.specs.Vec.{vec_items}
use Rattle.std.proofs.lemmas.Bool.Decides.{nat_tests}
use Rattle.std.proofs.lemmas.List.{append-nil, map-append, take_rest}
use Rattle.rx_nfa.specs.Prefixes.{rests}
use Rattle.rx_nfa.proofs.lemmas.prefixes.GrowLemmas.{rests-short, rests-other, rests-first, rests-more}
use Rattle.rx_nfa.proofs.prefixes.tree.rests_of.Goals.{in_default, in-len1-up+then-first-byte+in_ok-from_slice+in_ok-push, in-len1-up+else-first-byte}
use Rattle.rx_nfa.proofs.prefixes.tree.rests_of.Goals as goal

pub loop-word-preserved : goal.loop-word-preserved
loop-word-preserved c =
    let b = c.args.byte in
    let left = map vec_items c.loop-word.left.items in
    let s = c.as_slice.result.now in
    let same = c.as_slice.ensures.value in
    let more = rests-more vec_items c.args.byte c.args.words.now c.loop-word.word-index c.word-item.result (map vec_items c.loop-word.left.items)
    (omega arith) c.word-item.is c.loop-word.invariant in
    elim c.if-as_slice-lt1.branch [
      | in_default w ↦
          rw w.left-is
          (sym (append-nil (map vec_items c.loop-word.left.items))
          ∙ ap (λ r. map vec_items c.loop-word.left.items ++ r)
          (sym (ap (λ x. rests c.args.byte (x ∷ [])) (sym same) ∙ rests-short c.args.byte c.as_slice.result.now w.in_default.len_below))
          ∙ more)
      | in-len1-up+then-first-byte+in_ok-from_slice+in_ok-push w ↦
          let t = w.if-first-byte.true in
          let first : get_or c.as_slice.result.now 0 0 ≡ c.args.byte = omega arith in
          let rest = w.in_ok-from_slice.ensures.items ∙ take_rest c.as_slice.result.now 1 in
          rw w.left-is
          (ap (map vec_items) w.in_ok-push.ensures.items
          ∙ map-append vec_items c.loop-word.left.items (w.in_ok-from_slice.field-0 ∷ [])
          ∙ ap (λ r. map vec_items c.loop-word.left.items ++ r)
          (sym
          (ap (λ x. rests c.args.byte (x ∷ [])) (sym same)
          ∙ rests-first c.args.byte c.as_slice.result.now w.in-len1-up.len_at_least first
          ∙ ap (λ r. r ∷ []) (sym rest)))
          ∙ more)
      | in-len1-up+else-first-byte w ↦
          let t = w.if-first-byte.false in
          let differs : (get_or c.as_slice.result.now 0 0 == c.args.byte) ≡ false = grind (arith, nat_tests) in
          rw w.left-is
          (sym (append-nil (map vec_items c.loop-word.left.items))
          ∙ ap (λ r. map vec_items c.loop-word.left.items ++ r)
          (sym (ap (λ x. rests c.args.byte (x ∷ [])) (sym same) ∙ rests-other c.args.byte c.as_slice.result.now differs))
          ∙ more)
    ]
