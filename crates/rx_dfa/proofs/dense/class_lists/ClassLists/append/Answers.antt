use Rattle.std.proofs.Common.{◌≡◌, ℕ, ◌-◌, ◌∷◌, ◌++◌, [], List, refl, sym, ◌∙◌, ap, subst, arith}
use Rattle.std.specs.Prelude.{slice_index}
use Rattle.std.proofs.lemmas.List.{get_or_read}
use Rattle.rx_dfa.specs.ClassLists.{IsChain}
use Rattle.rx_dfa.proofs.lemmas.ClassListLemmas.{Walks, walks-place, walks-falls, walks-on, walks-end, chain-behind}
use Rattle.rx_dfa.proofs.dense.class_lists.ClassLists.append.Goals as goal

pub chain-init : goal.chain-init
chain-init c =
    let s = c.args.self.now in
    let head : c.index-limit.result.now ≡ slice_index s.heads.items c.args.class =
    get_or_read s.heads.items c.args.class c.index-limit.result.now c.requires.class c.index-limit.ensures 0 in
    record {
      some = (
        c.requires.lists.0 c.args.class,
        subst (λ (n : ℕ). IsChain s.states.items s.links.items n (c.requires.lists.0 c.args.class)) (sym head)
            (c.requires.lists.1 c.args.class c.requires.class),
      );
      walks = λ lists are. record {
        rest = lists c.args.class;
        chain = subst (λ (n : ℕ). IsChain s.states.items s.links.items n (lists c.args.class)) (sym head) (are c.args.class c.requires.class);
        whole = refl;
      };
    }

pub index-requires : goal.index-requires
index-requires c =
    let s = c.args.self.now in
    let inside = (walks-place s.states.items s.links.items c.chain.limit c.chain.invariant.some.0 c.chain.invariant.some.1 c.chain-test.true).0 in
    let len = s.states.ok.0 in
    omega arith

pub index-limit-requires-in-chain : goal.index-limit-requires-in-chain
index-limit-requires-in-chain c =
    let s = c.args.self.now in
    let inside = (walks-place s.states.items s.links.items c.chain.limit c.chain.invariant.some.0 c.chain.invariant.some.1 c.chain-test.true).1 in
    let len = s.links.ok.0 in
    omega arith

pub chain-smaller : goal.chain-smaller
chain-smaller c =
    let s = c.args.self.now in
    let some = c.chain.invariant.some in
    let inside = (walks-place s.states.items s.links.items c.chain.limit some.0 some.1 c.chain-test.true).1 in
    let link = get_or_read s.links.items (c.chain.limit - 1) c.index-limit-in-chain.result.now inside c.index-limit-in-chain.ensures 0 in
    let falls = walks-falls s.states.items s.links.items c.chain.limit some.0 some.1 c.chain-test.true in
    omega arith

pub chain-preserved : goal.chain-preserved
chain-preserved c =
    let s = c.args.self.now in
    let limit = c.chain.limit in
    let some = c.chain.invariant.some in
    let inside = walks-place s.states.items s.links.items limit some.0 some.1 c.chain-test.true in
    let state = get_or_read s.states.items (limit - 1) c.index.result.now inside.0 c.index.ensures 0 in
    let link = get_or_read s.links.items (limit - 1) c.index-limit-in-chain.result.now inside.1 c.index-limit-in-chain.ensures 0 in
    let more = c.in_ok-push.ensures.items ∙ ap (λ (x : ℕ). c.chain.into.items ++ x ∷ []) state in
    record {
      some = (
        (chain-behind s.states.items s.links.items limit some.0 some.1 c.chain-test.true).0,
        subst (λ (n : ℕ). IsChain s.states.items s.links.items n (chain-behind s.states.items s.links.items limit some.0 some.1 c.chain-test.true).0)
            (sym link) (chain-behind s.states.items s.links.items limit some.0 some.1 c.chain-test.true).1,
      );
      walks = λ lists are.
          subst (λ (n : ℕ). Walks s.states.items s.links.items n (c.args.into.now.items ++ lists c.args.class) c.push.new.self.items) (sym link)
          (subst (λ (xs : List ℕ). Walks s.states.items s.links.items (slice_index s.links.items (limit - 1)) (c.args.into.now.items ++ lists c.args.class) xs)
          (sym more)
          (walks-on s.states.items s.links.items limit (c.args.into.now.items ++ lists c.args.class) c.chain.into.items (c.chain.invariant.walks lists are)
          c.chain-test.true));
    }

pub returns : goal.returns
returns c = λ lists are.
    let s = c.args.self.now in
    let none : c.chain.limit ≡ 0 = omega (arith, c.chain-test.false) in
    walks-end s.states.items s.links.items c.chain.limit (c.args.into.now.items ++ lists c.args.class) c.chain.into.items (c.chain.invariant.walks lists are)
    none
