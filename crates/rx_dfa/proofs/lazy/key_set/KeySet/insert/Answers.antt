use Rattle.std.proofs.Common.{◌≡◌, ◌+◌, ◌<◌, ◌∷◌, ◌++◌, [], List, length, get_or, sym, ◌∙◌, ap, arith}
use Rattle.std.proofs.lemmas.List.{get_or_read, length_push}
use Rattle.std.specs.Prelude.{slice_get}
use Rattle.rx_determinize.specs.Key.{Key}
use Rattle.rx_dfa.specs.Hash.{bucket_of}
use Rattle.rx_dfa.specs.StateKey.{key_of}
use Rattle.rx_dfa.proofs.lemmas.ChainLemmas.{chained-push, apart-push}
use Rattle.rx_dfa.proofs.lazy.key_set.KeySet.insert.Goals as goal

pub invariant_of-self-2 : goal.invariant_of-self-2
invariant_of-self-2 c =
    let s = c.self.inside in
    let k = key_of c.args.key.now in
    let b = c.bucket_of-bucket.result in
    let width : c.len.result ≡ length s.heads.items = omega (arith, s.heads.ok.0) in
    let at : b ≡ bucket_of (length s.heads.items) k = c.bucket_of-bucket.ensures.value ∙ ap (λ n. bucket_of n k) width in
    let within : b < length s.heads.items = omega (arith, c.bucket_of-bucket.ensures.within) in
    let keys : c.push.new.self ≡ s.keys ++ k ∷ [] = c.in_ok-push.ensures.ok in
    let buckets : c.push_reserved.new.self.items ≡ s.buckets.items ++ b ∷ [] =
    c.push_reserved.ensures.items ∙ ap (λ xs. xs ++ b ∷ []) c.in_ok-reserve.ensures.items in
    let head : c.index.result.now ≡ get_or s.heads.items b 0 = get_or_read s.heads.items b c.index.result.now within c.index.ensures 0 in
    let links : c.push_reserved-2.new.self.items ≡ s.links.items ++ get_or s.heads.items b 0 ∷ [] =
    c.push_reserved-2.ensures.items ∙ (λ j. c.in_ok-reserve-2.ensures.items j ++ head j ∷ []) in
    let count : c.len-2.result ≡ length s.buckets.items + 1 =
    omega (arith, c.push_reserved.new.self.ok.0, ap length buckets, length_push s.buckets.items b) in
    rw (keys, buckets, links, count) (
      chained-push s.keys s.buckets.items s.links.items s.heads.items k b c.self.invariant.0 at within,
      apart-push s.keys k c.self.invariant.1 (λ r got. c.requires r (ap (λ (ks : List Key). slice_get ks r) (sym c.self.view_is) ∙ got)),
    )
