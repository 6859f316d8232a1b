use Rattle.std.proofs.Common.{◌≡◌, ◌+◌, ◌-◌, ◌<◌, length, get_or, sym, ◌∙◌, ap, subst, arith, true≢false}
use Rattle.std.proofs.lemmas.List.{get_or_read}
use Rattle.rx_dfa.specs.Hash.{bucket_of}
use Rattle.rx_dfa.specs.StateKey.{key_of}
use Rattle.rx_dfa.proofs.lemmas.ChainLemmas.{Seeks, seeks-first, seeks-next}
use Rattle.rx_dfa.proofs.lazy.key_set.KeySet.find.Goals as goal

pub loop-limit-init : goal.loop-limit-init
loop-limit-init c =
    let s = c.self.inside in
    let k = key_of c.args.key.now in
    let b = c.bucket_of-bucket.result in
    let width : c.len.result ≡ length s.heads.items = omega (arith, s.heads.ok.0) in
    let at : b ≡ bucket_of (length s.heads.items) k = c.bucket_of-bucket.ensures.value ∙ ap (λ n. bucket_of n k) width in
    let within : b < length s.heads.items = omega (arith, c.bucket_of-bucket.ensures.within) in
    let got : c.index-limit.result.now ≡ get_or s.heads.items b 0 = get_or_read s.heads.items b c.index-limit.result.now within c.index-limit.ensures 0 in
    subst (Seeks s.keys s.buckets.items (bucket_of (length s.heads.items) k) k) (sym (got ∙ ap (λ n. get_or s.heads.items n 0) at))
    (seeks-first s.keys s.buckets.items s.links.items s.heads.items k c.self.invariant.0)

pub loop-limit-preserved : goal.loop-limit-preserved
loop-limit-preserved c =
    let s = c.self.inside in
    let k = key_of c.args.key.now in
    let limit = c.loop-limit.limit in
    let number = limit - 1 in
    let is : limit ≡ number + 1 = omega (arith, c.loop-limit-test.true) in
    let within : number < length s.links.items = omega (arith, c.loop-limit-test.true, c.loop-limit.invariant.within, c.self.invariant.0.linked) in
    let got : c.index-limit-in-loop-limit.result.now ≡ get_or s.links.items number 0 =
    get_or_read s.links.items number c.index-limit-in-loop-limit.result.now within c.index-limit-in-loop-limit.ensures 0 in
    subst (Seeks s.keys s.buckets.items (bucket_of (length s.heads.items) k) k) (sym got)
    (seeks-next s.keys s.buckets.items s.links.items s.heads.items k c.self.invariant.0 limit number is c.loop-limit.invariant
    (λ e. true≢false (sym (c.is.ensures.1 e) ∙ c.if-is.false)))
