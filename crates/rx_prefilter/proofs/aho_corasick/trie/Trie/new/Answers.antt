use Rattle.rx_prefilter.proofs.TrieLemmas.{empty_trie}
use Rattle.rx_prefilter.proofs.aho_corasick.trie.Trie.new.Goals as goal

pub returns : goal.returns
returns c =
    empty_trie c.in_ok-vec.field-0.items c.in_ok-vec-2.field-0.items c.in_ok-vec-3.field-0.items
    (c.in_ok-vec.ensures.items_if_clones_equal (λ y h. h)) (c.in_ok-vec-2.ensures.items_if_clones_equal (λ y h. h))
    (c.in_ok-vec-3.ensures.items_if_clones_equal (λ y h. h))
