use Rattle.std.proofs.Common.{◌≡◌, ℕ, map, length, replicate, refl, ap, ◌∙◌, arith}
use Rattle.std.specs.Vec.{vec_items}
use Rattle.rx_prefilter.specs.Tries.{stop}
use Rattle.rx_prefilter.proofs.LinkLemmas.{trie_linked}
use Rattle.rx_prefilter.proofs.aho_corasick.links.Links.of.Goals as goal

pub returns : goal.returns
returns c =
    let trie = c.args.trie in
    let count : c.len-states.result ≡ length trie.depths.items = omega (arith, trie.depths.ok.0, c.len-states.ensures) in (
      trie_linked (map vec_items c.args.needles.items) trie.next.items trie.depths.items trie.ends.items c.requires.trie c.in_ok-vec.field-0.items
          c.in_ok-vec-2.field-0.items c.requires.all
          (c.in_ok-vec.ensures.items_if_clones_equal (λ y h. h) ∙ ap (λ (n : ℕ). replicate n stop) count)
          (c.in_ok-vec-2.ensures.items_if_clones_equal (λ y h. h)),
      refl,
    )
