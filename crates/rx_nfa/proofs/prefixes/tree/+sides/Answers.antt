use Rattle.std.proofs.Common.{◌≡◌, ◌<◌, ◌+◌, ◌-◌, [], ◌∷◌, ◌++◌, ◌∙◌, sym, ap, subst, arith, length, take, drop}
use Rattle.std.proofs.lemmas.Result.{IfOk-from_err}
use Rattle.std.specs.Prelude.{All, map}
use Rattle.std.specs.Vec.{vec_items}
use Rattle.std.proofs.lemmas.List.{take_all, append_assoc}
use Rattle.std.proofs.lemmas.List.Elements.{All-map}
use Rattle.rx_nfa.specs.Prefixes.{IsWord, rests}
use Rattle.rx_nfa.specs.Row.{Ascends}
use Rattle.rx_nfa.specs.Trees.{IsTargetOf, ReadsByTree, LeadsByTree}
use Rattle.rx_nfa.proofs.lemmas.prefixes.GrowLemmas.{Grown-same, Grown-trans, reads-both, reads-grown, reads-nothing, rests-words, row-reads, reader-branch, led-targets, led-more, map-more, map-split, sub-words, between-none, between-more}
use Rattle.rx_nfa.proofs.prefixes.tree.+sides.Goals as goal

pub chunk-returns-then-levels-gt0-clause-reads : goal.chunk-returns-then-levels-gt0-clause-reads
chunk-returns-then-levels-gt0-clause-reads t c = λ before h.
    let words = map vec_items c.args.words.now in
    subst (λ qs. ReadsByTree c.branches.new.tree qs (before ++ words)) (sym c.in_ok-push.ensures.items)
    (reads-both c.branches.new.tree c.args.starts.now.items (c.in_ok-start.start ∷ []) before words
    (reads-grown c.args.tree.now c.branches.new.tree c.in_ok-start.ensures.grown c.args.starts.now.items before h) c.in_ok-start.ensures.reads)

pub chunk-loop-word-preserved : goal.chunk-loop-word-preserved
chunk-loop-word-preserved t c =
    let inv = c.loop-word.invariant in
    let words = c.args.words.now in
    let k = c.loop-word.word-index in
    let item = c.word-item.result in
    let old = c.loop-word.tree in
    let new = c.chain.new.tree in
    let qs = c.loop-word.starts.items in
    let start = c.in_ok-start-2.start in
    let grown = c.in_ok-start-2.ensures.grown in
    let read : ReadsByTree c.chain.new.tree (c.in_ok-start-2.start ∷ []) (vec_items c.word-item.result ∷ []) =
    subst (λ w. ReadsByTree c.chain.new.tree (c.in_ok-start-2.start ∷ []) (w ∷ [])) c.deref.ensures.value c.in_ok-start-2.ensures.reads in
    let more = map-more vec_items c.args.words.now c.loop-word.word-index c.word-item.result (omega arith) c.word-item.is in
    record {
      tree = c.in_ok-start-2.ensures.tree;
      grown = Grown-trans c.args.tree.now old new inv.grown grown;
      reads = λ before h.
          subst (λ rs. ReadsByTree c.chain.new.tree rs (before ++ map vec_items (take (c.loop-word.word-index + 1) c.args.words.now)))
          (sym c.in_ok-push-2.ensures.items)
          (subst (ReadsByTree c.chain.new.tree (c.loop-word.starts.items ++ c.in_ok-start-2.start ∷ []))
          (append_assoc before (map vec_items (take c.loop-word.word-index c.args.words.now)) (vec_items c.word-item.result ∷ [])
          ∙ ap (λ ws. before ++ ws) (sym more))
          (reads-both new qs (start ∷ []) (before ++ map vec_items (take k words)) (vec_items item ∷ [])
          (reads-grown old new grown qs (before ++ map vec_items (take k words)) (inv.reads before h)) read));
    }

pub chunk-returns-clause-reads : goal.chunk-returns-clause-reads
chunk-returns-clause-reads t c = λ before h.
    subst (λ ws. ReadsByTree c.loop-word.tree c.loop-word.starts.items (before ++ map vec_items ws))
    (take_all c.loop-word.word-index c.args.words.now (omega arith)) (c.loop-word.invariant.reads before h)

pub branches-loop-byte-preserved : goal.branches-loop-byte-preserved
branches-loop-byte-preserved t c =
    let inv = c.loop-byte.invariant in
    let words = map vec_items c.args.words.now in
    let here : LeadsByTree c.branch-alloc.new.tree c.in_ok-target.target (rests c.loop-byte.byte (map vec_items c.args.words.now)) =
    subst (LeadsByTree c.branch-alloc.new.tree c.in_ok-target.target) (ap (map vec_items) c.deref.ensures.value ∙ c.in_ok-left.ensures)
    c.in_ok-target.ensures.reads in
    record {
      tree = c.in_ok-target.ensures.tree;
      grown = Grown-trans c.args.tree.now c.loop-byte.tree c.branch-alloc.new.tree inv.grown c.in_ok-target.ensures.grown;
      ascends = c.in_ok-add_target.ensures.ascends;
      led = λ b lt. led-more c.loop-byte.tree c.branch-alloc.new.tree c.loop-byte.row.items c.add_target.new.row.items c.loop-byte.byte c.in_ok-target.target
          words c.in_ok-target.ensures.grown c.in_ok-add_target.ensures.routes inv.led here b lt;
    }

pub branches-push-requires-clause-branch : goal.branches-push-requires-clause-branch
branches-push-requires-clause-branch t c =
    let inv = c.loop-byte.invariant in
    let full : c.loop-byte.byte ≡ 256 = omega arith in
    let up = subst (λ n. Ascends 0 n c.loop-byte.row.items) full inv.ascends in
    reader-branch (IsTargetOf c.loop-byte.tree) c.reader.result c.loop-byte.row.items c.reader.ensures up
    (led-targets c.loop-byte.tree c.loop-byte.row.items (map vec_items c.args.words.now) up (λ b lt. inv.led b (omega arith)))

pub branches-returns-clause-reads : goal.branches-returns-clause-reads
branches-returns-clause-reads t c =
    let inv = c.loop-byte.invariant in
    let full : c.loop-byte.byte ≡ 256 = omega arith in
    let up = subst (λ n. Ascends 0 n c.loop-byte.row.items) full inv.ascends in
    row-reads c.loop-byte.tree c.push.new.self c.reader.result c.loop-byte.row.items (map vec_items c.args.words.now) c.in_ok-start.start
    c.in_ok-start.ensures.grown c.in_ok-start.ensures.states c.in_ok-start.ensures.id c.in_ok-start.ensures.tree c.reader.ensures up c.requires.words
    (λ b lt. inv.led b (omega arith))

pub branches-branch-alloc-requires : goal.branches-branch-alloc-requires
branches-branch-alloc-requires t c = (
  omega arith,
  (
    c.loop-byte.invariant.tree,
    subst (All IsWord) (sym (ap (map vec_items) c.deref.ensures.value ∙ c.in_ok-left.ensures))
        (rests-words c.loop-byte.byte (map vec_items c.args.words.now) c.requires.words c.requires.long),
  ),
)

pub end_chunk-chunk-requires : goal.end_chunk-chunk-requires
end_chunk-chunk-requires t c = (
  omega arith,
  (
    c.requires.tree,
    (
      sub-words vec_items IsWord c.args.words.now c.args.from (c.args.last - c.args.from) c.requires.words,
      λ some. All-map (λ w. 1 < length w) vec_items (take (c.args.last - c.args.from) (drop c.args.from c.args.words.now)) c.requires.long,
    ),
  ),
)

pub end_chunk-chunk-requires-2 : goal.end_chunk-chunk-requires-2
end_chunk-chunk-requires-2 t c = (
  omega arith,
  (
    c.in_ok-chunk.ensures.tree,
    (
      sub-words vec_items IsWord c.args.words.now c.args.last (c.args.last + 1 - c.args.last) c.requires.words,
      λ some. absurd (omega arith),
    ),
  ),
)

pub end_chunk-returns-clause-reads : goal.end_chunk-returns-clause-reads
end_chunk-returns-clause-reads t c = λ h.
    let words = c.args.words.now in
    let first = c.in_ok-chunk.ensures.reads (map vec_items (take c.args.from c.args.words.now)) h in
    let second = c.in_ok-chunk-2.ensures.reads
    (map vec_items (take c.args.from c.args.words.now) ++ map vec_items (take (c.args.last - c.args.from) (drop c.args.from c.args.words.now))) first in
    subst (ReadsByTree c.chunk-2.new.tree c.chunk-2.new.starts.items)
    (ap (λ ws. ws ++ map vec_items (take (c.args.last + 1 - c.args.last) (drop c.args.last c.args.words.now)))
    (sym (map-split vec_items words c.args.from c.args.last c.requires.upto))
    ∙ sym (map-split vec_items words c.args.last (c.args.last + 1) (omega arith)))
    second

pub sides-loop-last-init : goal.sides-loop-last-init
sides-loop-last-init t c = record {
  tree = c.requires.tree;
  grown = Grown-same c.args.tree.now;
  upto = omega arith;
  reads = subst (λ qs. ReadsByTree c.args.tree.now qs []) (sym c.new-starts.ensures.items) (reads-nothing c.args.tree.now);
  long = between-none vec_items (λ w. 1 < length (vec_items w)) c.args.words.now 0 0 (omega arith);
}

pub sides-chunk-requires : goal.sides-chunk-requires
sides-chunk-requires t c =
    let inv = c.loop-last.invariant in
    let words = c.args.words.now in
    let from = c.loop-last.from in
    let whole : c.loop-last.last ≡ length c.args.words.now = omega arith in (
      omega arith,
      (
        inv.tree,
        (
          sub-words vec_items IsWord words from (length words - from) c.requires.words,
          λ some. All-map (λ w. 1 < length w) vec_items (take (length c.args.words.now - c.loop-last.from) (drop c.loop-last.from c.args.words.now))
              (subst (λ n. All (λ w. 1 < length (vec_items w)) (take (n - c.loop-last.from) (drop c.loop-last.from c.args.words.now))) whole inv.long),
        ),
      ),
    )

pub sides-returns-clause-reads : goal.sides-returns-clause-reads
sides-returns-clause-reads t c =
    let inv = c.loop-last.invariant in
    let upto = inv.upto in
    let read = c.in_ok-chunk.ensures.reads (map vec_items (take c.loop-last.from c.args.words.now)) inv.reads in
    subst (ReadsByTree c.chunk.new.tree c.chunk.new.starts.items)
    (sym (map-split vec_items c.args.words.now c.loop-last.from (length c.args.words.now) (omega arith))
    ∙ ap (map vec_items) (take_all (length c.args.words.now) c.args.words.now (omega arith)))
    read

pub chunk-branches-requires : goal.chunk-branches-requires
chunk-branches-requires t c = (omega arith, (c.requires.tree, (c.requires.words, c.requires.long (omega arith))))

pub sides-returns-in_err-from-clause-tree : goal.sides-returns-in_err-from-clause-tree
sides-returns-in_err-from-clause-tree t c = IfOk-from_err c.from_residual.result _ c.from_residual.ensures.0

pub sides-returns-in_err-from-clause-grown : goal.sides-returns-in_err-from-clause-grown
sides-returns-in_err-from-clause-grown t c = IfOk-from_err c.from_residual.result _ c.from_residual.ensures.0

pub sides-returns-in_err-from-clause-reads : goal.sides-returns-in_err-from-clause-reads
sides-returns-in_err-from-clause-reads t c = IfOk-from_err c.from_residual.result _ c.from_residual.ensures.0

pub sides-returns-in_err-chunk-clause-tree : goal.sides-returns-in_err-chunk-clause-tree
sides-returns-in_err-chunk-clause-tree t c = IfOk-from_err c.from_residual-in_err-chunk.result _ c.from_residual-in_err-chunk.ensures.0

pub sides-returns-in_err-chunk-clause-grown : goal.sides-returns-in_err-chunk-clause-grown
sides-returns-in_err-chunk-clause-grown t c = IfOk-from_err c.from_residual-in_err-chunk.result _ c.from_residual-in_err-chunk.ensures.0

pub sides-returns-in_err-chunk-clause-reads : goal.sides-returns-in_err-chunk-clause-reads
sides-returns-in_err-chunk-clause-reads t c = IfOk-from_err c.from_residual-in_err-chunk.result _ c.from_residual-in_err-chunk.ensures.0

pub end_chunk-returns-in_err-chunk-clause-tree : goal.end_chunk-returns-in_err-chunk-clause-tree
end_chunk-returns-in_err-chunk-clause-tree t c = IfOk-from_err c.from_residual.result _ c.from_residual.ensures.0

pub end_chunk-returns-in_err-chunk-clause-grown : goal.end_chunk-returns-in_err-chunk-clause-grown
end_chunk-returns-in_err-chunk-clause-grown t c = IfOk-from_err c.from_residual.result _ c.from_residual.ensures.0

pub end_chunk-returns-in_err-chunk-clause-reads : goal.end_chunk-returns-in_err-chunk-clause-reads
end_chunk-returns-in_err-chunk-clause-reads t c = IfOk-from_err c.from_residual.result _ c.from_residual.ensures.0

pub end_chunk-returns-in_err-chunk-clause-upto : goal.end_chunk-returns-in_err-chunk-clause-upto
end_chunk-returns-in_err-chunk-clause-upto t c = IfOk-from_err c.from_residual.result _ c.from_residual.ensures.0

pub end_chunk-returns-in_err-chunk-clause-long : goal.end_chunk-returns-in_err-chunk-clause-long
end_chunk-returns-in_err-chunk-clause-long t c = IfOk-from_err c.from_residual.result _ c.from_residual.ensures.0

pub end_chunk-returns-in_err-chunk-2-clause-tree : goal.end_chunk-returns-in_err-chunk-2-clause-tree
end_chunk-returns-in_err-chunk-2-clause-tree t c = IfOk-from_err c.from_residual-in_err-chunk-2.result _ c.from_residual-in_err-chunk-2.ensures.0

pub end_chunk-returns-in_err-chunk-2-clause-grown : goal.end_chunk-returns-in_err-chunk-2-clause-grown
end_chunk-returns-in_err-chunk-2-clause-grown t c = IfOk-from_err c.from_residual-in_err-chunk-2.result _ c.from_residual-in_err-chunk-2.ensures.0

pub end_chunk-returns-in_err-chunk-2-clause-reads : goal.end_chunk-returns-in_err-chunk-2-clause-reads
end_chunk-returns-in_err-chunk-2-clause-reads t c = IfOk-from_err c.from_residual-in_err-chunk-2.result _ c.from_residual-in_err-chunk-2.ensures.0

pub end_chunk-returns-in_err-chunk-2-clause-upto : goal.end_chunk-returns-in_err-chunk-2-clause-upto
end_chunk-returns-in_err-chunk-2-clause-upto t c = IfOk-from_err c.from_residual-in_err-chunk-2.result _ c.from_residual-in_err-chunk-2.ensures.0

pub end_chunk-returns-in_err-chunk-2-clause-long : goal.end_chunk-returns-in_err-chunk-2-clause-long
end_chunk-returns-in_err-chunk-2-clause-long t c = IfOk-from_err c.from_residual-in_err-chunk-2.result _ c.from_residual-in_err-chunk-2.ensures.0

pub chunk-returns-in_err-start-clause-tree : goal.chunk-returns-in_err-start-clause-tree
chunk-returns-in_err-start-clause-tree t c = IfOk-from_err c.from_residual.result _ c.from_residual.ensures.0

pub chunk-returns-in_err-start-clause-grown : goal.chunk-returns-in_err-start-clause-grown
chunk-returns-in_err-start-clause-grown t c = IfOk-from_err c.from_residual.result _ c.from_residual.ensures.0

pub chunk-returns-in_err-start-clause-reads : goal.chunk-returns-in_err-start-clause-reads
chunk-returns-in_err-start-clause-reads t c = IfOk-from_err c.from_residual.result _ c.from_residual.ensures.0

pub chunk-returns-in_err-push-clause-tree : goal.chunk-returns-in_err-push-clause-tree
chunk-returns-in_err-push-clause-tree t c = IfOk-from_err c.from_residual-in_err-push.result _ c.from_residual-in_err-push.ensures.0

pub chunk-returns-in_err-push-clause-grown : goal.chunk-returns-in_err-push-clause-grown
chunk-returns-in_err-push-clause-grown t c = IfOk-from_err c.from_residual-in_err-push.result _ c.from_residual-in_err-push.ensures.0

pub chunk-returns-in_err-push-clause-reads : goal.chunk-returns-in_err-push-clause-reads
chunk-returns-in_err-push-clause-reads t c = IfOk-from_err c.from_residual-in_err-push.result _ c.from_residual-in_err-push.ensures.0

pub chunk-returns-in_err-start-2-clause-tree : goal.chunk-returns-in_err-start-2-clause-tree
chunk-returns-in_err-start-2-clause-tree t c = IfOk-from_err c.from_residual-in_err-start-2.result _ c.from_residual-in_err-start-2.ensures.0

pub chunk-returns-in_err-start-2-clause-grown : goal.chunk-returns-in_err-start-2-clause-grown
chunk-returns-in_err-start-2-clause-grown t c = IfOk-from_err c.from_residual-in_err-start-2.result _ c.from_residual-in_err-start-2.ensures.0

pub chunk-returns-in_err-start-2-clause-reads : goal.chunk-returns-in_err-start-2-clause-reads
chunk-returns-in_err-start-2-clause-reads t c = IfOk-from_err c.from_residual-in_err-start-2.result _ c.from_residual-in_err-start-2.ensures.0

pub chunk-returns-in_err-push-2-clause-tree : goal.chunk-returns-in_err-push-2-clause-tree
chunk-returns-in_err-push-2-clause-tree t c = IfOk-from_err c.from_residual-in_err-push-2.result _ c.from_residual-in_err-push-2.ensures.0

pub chunk-returns-in_err-push-2-clause-grown : goal.chunk-returns-in_err-push-2-clause-grown
chunk-returns-in_err-push-2-clause-grown t c = IfOk-from_err c.from_residual-in_err-push-2.result _ c.from_residual-in_err-push-2.ensures.0

pub chunk-returns-in_err-push-2-clause-reads : goal.chunk-returns-in_err-push-2-clause-reads
chunk-returns-in_err-push-2-clause-reads t c = IfOk-from_err c.from_residual-in_err-push-2.result _ c.from_residual-in_err-push-2.ensures.0

pub branches-returns-in_err-left-clause-tree : goal.branches-returns-in_err-left-clause-tree
branches-returns-in_err-left-clause-tree t c = IfOk-from_err c.from_residual.result _ c.from_residual.ensures.0

pub branches-returns-in_err-left-clause-grown : goal.branches-returns-in_err-left-clause-grown
branches-returns-in_err-left-clause-grown t c = IfOk-from_err c.from_residual.result _ c.from_residual.ensures.0

pub branches-returns-in_err-left-clause-reads : goal.branches-returns-in_err-left-clause-reads
branches-returns-in_err-left-clause-reads t c = IfOk-from_err c.from_residual.result _ c.from_residual.ensures.0

pub branches-returns-in_err-target-clause-tree : goal.branches-returns-in_err-target-clause-tree
branches-returns-in_err-target-clause-tree t c = IfOk-from_err c.from_residual-in_err-target.result _ c.from_residual-in_err-target.ensures.0

pub branches-returns-in_err-target-clause-grown : goal.branches-returns-in_err-target-clause-grown
branches-returns-in_err-target-clause-grown t c = IfOk-from_err c.from_residual-in_err-target.result _ c.from_residual-in_err-target.ensures.0

pub branches-returns-in_err-target-clause-reads : goal.branches-returns-in_err-target-clause-reads
branches-returns-in_err-target-clause-reads t c = IfOk-from_err c.from_residual-in_err-target.result _ c.from_residual-in_err-target.ensures.0

pub branches-returns-in_err-add_target-clause-tree : goal.branches-returns-in_err-add_target-clause-tree
branches-returns-in_err-add_target-clause-tree t c = IfOk-from_err c.from_residual-in_err-add_target.result _ c.from_residual-in_err-add_target.ensures.0

pub branches-returns-in_err-add_target-clause-grown : goal.branches-returns-in_err-add_target-clause-grown
branches-returns-in_err-add_target-clause-grown t c = IfOk-from_err c.from_residual-in_err-add_target.result _ c.from_residual-in_err-add_target.ensures.0

pub branches-returns-in_err-add_target-clause-reads : goal.branches-returns-in_err-add_target-clause-reads
branches-returns-in_err-add_target-clause-reads t c = IfOk-from_err c.from_residual-in_err-add_target.result _ c.from_residual-in_err-add_target.ensures.0

pub branches-returns-in_err-start-clause-tree : goal.branches-returns-in_err-start-clause-tree
branches-returns-in_err-start-clause-tree t c = IfOk-from_err c.from_residual-in_err-start.result _ c.from_residual-in_err-start.ensures.0

pub branches-returns-in_err-start-clause-grown : goal.branches-returns-in_err-start-clause-grown
branches-returns-in_err-start-clause-grown t c = IfOk-from_err c.from_residual-in_err-start.result _ c.from_residual-in_err-start.ensures.0

pub branches-returns-in_err-start-clause-reads : goal.branches-returns-in_err-start-clause-reads
branches-returns-in_err-start-clause-reads t c = IfOk-from_err c.from_residual-in_err-start.result _ c.from_residual-in_err-start.ensures.0

pub branch-returns-in_err-starts-clause-tree : goal.branch-returns-in_err-starts-clause-tree
branch-returns-in_err-starts-clause-tree t c = IfOk-from_err c.from_residual.result _ c.from_residual.ensures.0

pub branch-returns-in_err-starts-clause-grown : goal.branch-returns-in_err-starts-clause-grown
branch-returns-in_err-starts-clause-grown t c = IfOk-from_err c.from_residual.result _ c.from_residual.ensures.0

pub branch-returns-in_err-starts-clause-reads : goal.branch-returns-in_err-starts-clause-reads
branch-returns-in_err-starts-clause-reads t c = IfOk-from_err c.from_residual.result _ c.from_residual.ensures.0

pub branch-returns-in_err-start-clause-tree : goal.branch-returns-in_err-start-clause-tree
branch-returns-in_err-start-clause-tree t c = IfOk-from_err c.from_residual-in_err-start.result _ c.from_residual-in_err-start.ensures.0

pub branch-returns-in_err-start-clause-grown : goal.branch-returns-in_err-start-clause-grown
branch-returns-in_err-start-clause-grown t c = IfOk-from_err c.from_residual-in_err-start.result _ c.from_residual-in_err-start.ensures.0

pub branch-returns-in_err-start-clause-reads : goal.branch-returns-in_err-start-clause-reads
branch-returns-in_err-start-clause-reads t c = IfOk-from_err c.from_residual-in_err-start.result _ c.from_residual-in_err-start.ensures.0

pub chunk-returns-then-levels-gt0-clause-tree : goal.chunk-returns-then-levels-gt0-clause-tree
chunk-returns-then-levels-gt0-clause-tree t c = c.in_ok-start.ensures.tree

pub chunk-returns-then-levels-gt0-clause-grown : goal.chunk-returns-then-levels-gt0-clause-grown
chunk-returns-then-levels-gt0-clause-grown t c = c.in_ok-start.ensures.grown

pub chunk-returns-clause-tree : goal.chunk-returns-clause-tree
chunk-returns-clause-tree t c = c.loop-word.invariant.tree

pub chunk-returns-clause-grown : goal.chunk-returns-clause-grown
chunk-returns-clause-grown t c = c.loop-word.invariant.grown

pub branches-push-requires-clause-tree : goal.branches-push-requires-clause-tree
branches-push-requires-clause-tree t c = c.loop-byte.invariant.tree

pub branches-returns-clause-tree : goal.branches-returns-clause-tree
branches-returns-clause-tree t c = c.in_ok-start.ensures.tree

pub branches-returns-clause-grown : goal.branches-returns-clause-grown
branches-returns-clause-grown t c = Grown-trans c.args.tree.now c.loop-byte.tree c.push.new.self c.loop-byte.invariant.grown c.in_ok-start.ensures.grown

pub end_chunk-returns-clause-tree : goal.end_chunk-returns-clause-tree
end_chunk-returns-clause-tree t c = c.in_ok-chunk-2.ensures.tree

pub end_chunk-returns-clause-grown : goal.end_chunk-returns-clause-grown
end_chunk-returns-clause-grown t c =
    Grown-trans c.args.tree.now c.chunk.new.tree c.chunk-2.new.tree c.in_ok-chunk.ensures.grown c.in_ok-chunk-2.ensures.grown

pub end_chunk-returns-clause-upto : goal.end_chunk-returns-clause-upto
end_chunk-returns-clause-upto t c = omega arith

pub end_chunk-returns-clause-long : goal.end_chunk-returns-clause-long
end_chunk-returns-clause-long t c =
    between-none vec_items (λ w. 1 < length (vec_items w)) c.args.words.now (c.args.last + 1) (c.args.last + 1) (omega arith)

pub sides-returns-clause-tree : goal.sides-returns-clause-tree
sides-returns-clause-tree t c = c.in_ok-chunk.ensures.tree

pub sides-returns-clause-grown : goal.sides-returns-clause-grown
sides-returns-clause-grown t c = Grown-trans c.args.tree.now c.loop-last.tree c.chunk.new.tree c.loop-last.invariant.grown c.in_ok-chunk.ensures.grown

pub sides-end_chunk-requires : goal.sides-end_chunk-requires
sides-end_chunk-requires t c =
    let inv = c.loop-last.invariant in (omega arith, (inv.tree, (c.requires.words, (inv.upto, (omega arith, inv.long)))))

pub sides-loop-last-preserved : goal.sides-loop-last-preserved
sides-loop-last-preserved t c =
    let before = c.loop-last.invariant in
    let ended = c.in_ok-from.ensures in
    record {
      tree = ended.tree;
      grown = Grown-trans c.args.tree.now c.loop-last.tree c.end_chunk.new.tree before.grown ended.grown;
      upto = ended.upto;
      reads = ended.reads before.reads;
      long = ended.long;
    }

pub branches-loop-byte-init : goal.branches-loop-byte-init
branches-loop-byte-init t c = record {
  tree = c.requires.tree;
  grown = Grown-same c.args.tree.now;
  ascends = rw c.new-row.ensures.items (omega arith);
  led = λ b lt. absurd (omega arith);
}

pub branch-sides-requires : goal.branch-sides-requires
branch-sides-requires t c = (omega arith, (c.requires.tree, c.requires.words))

pub chunk-chain-requires : goal.chunk-chain-requires
chunk-chain-requires t c = record { tree = c.loop-word.invariant.tree }

pub branch-join-requires-clause-tree : goal.branch-join-requires-clause-tree
branch-join-requires-clause-tree t c = c.in_ok-starts.ensures.tree

pub branch-returns-clause-tree : goal.branch-returns-clause-tree
branch-returns-clause-tree t c = c.in_ok-start.ensures.tree

pub branch-returns-clause-grown : goal.branch-returns-clause-grown
branch-returns-clause-grown t c = Grown-trans c.args.tree.now c.sides.new.tree c.join.new.tree c.in_ok-starts.ensures.grown c.in_ok-start.ensures.grown

pub end_chunk-returns-then-len-gt1-clause-long : goal.end_chunk-returns-then-len-gt1-clause-long
end_chunk-returns-then-len-gt1-clause-long t c =
    let long : 1 < length (vec_items c.index-words-last.result) = omega (arith, c.index-words-last.result.ok.0) in
    between-more vec_items (λ w. 1 < length (vec_items w)) c.args.words.now c.args.from c.args.last c.index-words-last.result c.requires.upto
    c.requires.inside c.requires.long (subst (λ w. 1 < length (vec_items w)) c.index-words-last.is long)

pub end_chunk-returns-then-len-gt1-clause-tree : goal.end_chunk-returns-then-len-gt1-clause-tree
end_chunk-returns-then-len-gt1-clause-tree t c = c.requires.tree

pub end_chunk-returns-then-len-gt1-clause-grown : goal.end_chunk-returns-then-len-gt1-clause-grown
end_chunk-returns-then-len-gt1-clause-grown t c = Grown-same c.args.tree.now

pub end_chunk-returns-then-len-gt1-clause-reads : goal.end_chunk-returns-then-len-gt1-clause-reads
end_chunk-returns-then-len-gt1-clause-reads t c = λ h. h

pub branch-returns-then-words-eq0-clause-grown : goal.branch-returns-then-words-eq0-clause-grown
branch-returns-then-words-eq0-clause-grown t c = Grown-same c.args.tree.now

pub branch-returns-clause-reads : goal.branch-returns-clause-reads
branch-returns-clause-reads t c =
    c.in_ok-start.ensures.reads (map vec_items c.args.words.now) c.requires.words c.in_ok-starts.ensures.reads
