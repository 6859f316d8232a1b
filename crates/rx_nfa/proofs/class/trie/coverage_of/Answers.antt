use Rattle.std.proofs.Common.{◌≡◌, ◌+◌, arith, refl, inl, inr}
use Rattle.std.specs.Prelude.{[]}
use Rattle.std.proofs.lemmas.Grind.{common_steps}
use Rattle.std.proofs.lemmas.List.{nil_from_length}
use Rattle.rx_nfa.proofs.lemmas.classes.RangesLemmas.{no_member_before}
use Rattle.rx_nfa.proofs.lemmas.classes.BlockLemmas.{HasEnd-from}
use Rattle.rx_nfa.proofs.class.trie.coverage_of.Goals.{else-ranges-start-via-then-ranges-start+else-end-ranges-2, else-ranges-start-via-else-ranges-start, then-is_empty-via-then-is_empty, then-is_empty-via-else-is_empty+then-end-ranges}
use Rattle.rx_nfa.proofs.class.trie.coverage_of.Goals as goal

pub returns-then-is_empty : goal.returns-then-is_empty
returns-then-is_empty c x from to =
    elim c.then-is_empty.branch [
      | then-is_empty-via-then-is_empty w ↦
          let none : c.args.ranges.now ≡ [] = nil_from_length _ (grind (arith, common_steps)) in rw none refl
      | then-is_empty-via-else-is_empty+then-end-ranges w ↦
          no_member_before 0 c.args.ranges.now x c.requires.rises (grind (arith, common_steps))
    ]

pub returns : goal.returns
returns c =
    HasEnd-from c.args.ranges.now c.args.start (c.args.start + c.args.size) (grind (arith, common_steps)) c.requires.first (grind (arith, common_steps))
    (elim c.else-ranges-start.branch [
      | else-ranges-start-via-then-ranges-start+else-end-ranges-2 w ↦ inr (grind (arith, common_steps))
      | else-ranges-start-via-else-ranges-start w ↦ inl (grind (arith, common_steps))
    ])
