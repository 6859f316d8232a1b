use Rattle.std.proofs.Common.{◌≡◌, ◌≤◌, ◌+◌, [], ◌∷◌, ◌++◌, ◌∙◌, sym, ap, subst, arith, take}
use Rattle.std.specs.Prelude.{All, map, IfSome}
use Rattle.std.specs.Vec.{vec_items}
use Rattle.std.proofs.lemmas.List.{map-append, take_more, take_all}
use Rattle.std.proofs.lemmas.List.Elements.{All-nil}
use Rattle.rx_nfa.specs.Forks.{IsChainFrom}
use Rattle.rx_nfa.specs.Prefixes.{IsWord, Reads}
use Rattle.rx_nfa.proofs.lemmas.prefixes.TreeLemmas.{reads-none}
use Rattle.rx_nfa.proofs.lemmas.prefixes.PlantLemmas.{chains-read, chains-words, chains-last}
use Rattle.rx_nfa.proofs.prefixes.fork.read_chains.Goals.{then-chain-low, else-chain-low}
use Rattle.rx_nfa.proofs.prefixes.fork.read_chains.Goals as goal

pub loop-head-init : goal.loop-head-init
loop-head-init c = record {
  above = c.requires.floor;
  below = omega arith;
  words = subst (λ vs. All IsWord (map vec_items vs)) (sym c.new-words.ensures.items) (All-nil IsWord);
  reads = subst (λ vs. Reads c.args.states.now c.args.root c.args.root c.args.next [] (map vec_items vs)) (sym c.new-words.ensures.items)
      (reads-none c.args.states.now c.args.root c.args.root c.args.next);
  last = λ some. absurd (omega arith);
}

pub loop-head-preserved : goal.loop-head-preserved
loop-head-preserved c =
    let states = c.args.states.now in
    let floor = c.args.floor in
    let root = c.args.root in
    let next = c.args.next in
    let k = c.loop-head.head-index in
    let head = c.head-item.result in
    let word = c.in-Some.chain.word.items in
    let last = c.in-Some.chain.last in
    let low = c.loop-head.low in
    let now = c.if-chain-low.low in
    let inv = c.loop-head.invariant in
    let chain : IsChainFrom c.args.states.now c.args.floor c.args.root c.head-item.result c.args.next c.in-Some.chain.last c.in-Some.chain.word.items =
    subst (λ o. IfSome o (λ x. IsChainFrom c.args.states.now c.args.floor c.args.root c.head-item.result c.args.next x.last x.word.items)) c.in-Some.is
    c.in_ok-chain.ensures in
    let from = chain.above in
    let under = chain.below in
    let above = inv.above in
    let below = inv.below in
    let lower : c.if-chain-low.low ≤ c.loop-head.low =
    elim c.if-chain-low.branch [
      | then-chain-low w ↦ let e = w.low-is in let t = w.if-chain-low.true in omega arith
      | else-chain-low w ↦ let e = w.low-is in let t = w.if-chain-low.false in omega arith
    ] in
    let least : c.if-chain-low.low ≤ c.in-Some.chain.last =
    elim c.if-chain-low.branch [
      | then-chain-low w ↦ let e = w.low-is in let t = w.if-chain-low.true in omega arith
      | else-chain-low w ↦ let e = w.low-is in let t = w.if-chain-low.false in omega arith
    ] in
    let floored : c.args.floor ≤ c.if-chain-low.low =
    elim c.if-chain-low.branch [
      | then-chain-low w ↦ let e = w.low-is in let t = w.if-chain-low.true in omega arith
      | else-chain-low w ↦ let e = w.low-is in let t = w.if-chain-low.false in omega arith
    ] in
    let before = take c.loop-head.head-index c.args.heads.now in
    let words = map vec_items c.loop-head.words.items in
    let items : map vec_items c.push.new.self.items ≡ map vec_items c.loop-head.words.items ++ c.in-Some.chain.word.items ∷ [] =
    ap (map vec_items) c.in_ok-push.ensures.items ∙ map-append vec_items c.loop-head.words.items (c.in-Some.chain.word ∷ []) in
    let heads : take (c.loop-head.head-index + 1) c.args.heads.now ≡ take c.loop-head.head-index c.args.heads.now ++ c.head-item.result ∷ [] =
    take_more c.args.heads.now c.loop-head.head-index c.head-item.result (omega arith)
    ∙ ap (λ q. take c.loop-head.head-index c.args.heads.now ++ q ∷ []) (sym c.head-item.is) in
    record {
      above = floored;
      below = omega arith;
      words = subst (All IsWord) (sym items)
          (chains-words states floor root low now head next last before words word chain lower least inv.words);
      reads = subst (λ qs. Reads c.args.states.now c.if-chain-low.low c.args.root c.args.next qs (map vec_items c.push.new.self.items)) (sym heads)
          (subst (Reads c.args.states.now c.if-chain-low.low c.args.root c.args.next
          (take c.loop-head.head-index c.args.heads.now ++ c.head-item.result ∷ [])) (sym items)
          (chains-read states floor root low now head next last before words word chain lower least inv.reads));
      last = λ some. chains-last states floor root low now head next last before words word chain lower least;
    }

pub returns : goal.returns
returns c =
    let inv = c.loop-head.invariant in
    let whole : take c.loop-head.head-index c.args.heads.now ≡ c.args.heads.now = take_all c.loop-head.head-index c.args.heads.now (omega arith) in
    record {
      above = inv.above;
      below = inv.below;
      words = inv.words;
      reads = subst (λ qs. Reads c.args.states.now c.loop-head.low c.args.root c.args.next qs (map vec_items c.loop-head.words.items)) whole inv.reads;
      last = λ some. inv.last (omega arith);
    }
