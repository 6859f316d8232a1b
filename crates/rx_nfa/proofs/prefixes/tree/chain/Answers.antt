use Rattle.std.proofs.Common.{◌≡◌, ◌+◌, ◌-◌, [], ◌∷◌, ◌∙◌, sym, ap, subst, refl, arith, length, drop, get_or}
use Rattle.std.proofs.lemmas.List.{drop_all, drop_more}
use Rattle.rx_nfa.specs.Trees.{ReadsByTree}
use Rattle.rx_nfa.proofs.lemmas.prefixes.GrowLemmas.{Grown-same, Grown-trans, reads-empty, byte-reads}
use Rattle.rx_nfa.proofs.prefixes.tree.chain.Goals as goal

pub loop-left-init : goal.loop-left-init
loop-left-init c =
    let tree = c.args.tree.now in
    record {
      tree = c.requires.tree;
      grown = Grown-same c.args.tree.now;
      within = omega arith;
      reads = subst (λ w. ReadsByTree c.args.tree.now (c.args.tree.now.next ∷ []) (w ∷ []))
          (sym (drop_all (length c.args.word.now) c.args.word.now (omega arith)))
          (reads-empty c.args.tree.now c.args.tree.now.next refl);
    }

pub loop-left-preserved : goal.loop-left-preserved
loop-left-preserved c =
    let word = c.args.word.now in
    let b = get_or c.args.word.now (c.loop-left.left - 1) 0 in
    let within = c.loop-left.invariant.within in
    let back : c.loop-left.left - 1 + 1 ≡ c.loop-left.left = omega arith in
    let more = drop_more c.args.word.now (c.loop-left.left - 1) 0 (omega arith)
    ∙ ap (λ n. get_or c.args.word.now (c.loop-left.left - 1) 0 ∷ drop n c.args.word.now) back in
    record {
      tree = c.in_ok-start.ensures.tree;
      grown = Grown-trans c.args.tree.now c.loop-left.tree c.push.new.self c.loop-left.invariant.grown c.in_ok-start.ensures.grown;
      within = omega arith;
      reads = subst (λ w. ReadsByTree c.push.new.self (c.in_ok-start.start ∷ []) (w ∷ [])) (sym more)
          (byte-reads c.loop-left.tree c.push.new.self c.loop-left.start b (drop c.loop-left.left word) c.in_ok-start.start c.in_ok-start.ensures.grown
          c.in_ok-start.ensures.states c.in_ok-start.ensures.id c.in_ok-start.ensures.tree c.loop-left.invariant.reads);
    }
