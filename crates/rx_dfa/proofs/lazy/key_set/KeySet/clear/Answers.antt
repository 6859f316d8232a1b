use Rattle.std.proofs.Common.{◌≡◌, ℕ, ◌++◌, List, length, get_or, take, drop, sym, ◌∙◌, ap, arith}
use Rattle.std.proofs.lemmas.List.{take_at}
use Rattle.std.proofs.lemmas.Option.{none-some}
use Rattle.std.specs.Prelude.{if◌then◌else◌, slice_get}
use Rattle.rx_nfa.specs.Ordered.{has}
use Rattle.rx_determinize.specs.Key.{Key}
use Rattle.rx_dfa.proofs.lemmas.ChainLemmas.{buckets-within, chained-none}
use Rattle.rx_dfa.proofs.lazy.key_set.KeySet.clear.Goals as goal

pub unlink-requires : goal.unlink-requires
unlink-requires c =
    let s = c.self.inside in
    rw (c.as_slice.ensures.value, c.as_mut_slice.ensures.value)
    (buckets-within s.keys s.buckets.items s.links.items s.heads.items c.self.invariant.0)

pub invariant_of-self : goal.invariant_of-self
invariant_of-self c =
    let s = c.self.inside in
    let new = c.unlink.new.heads in
    let width : length new ≡ length s.heads.items = c.unlink.auto.heads ∙ ap length c.as_mut_slice.ensures.value in
    let long : length new ≡ s.heads.len = omega (arith, s.heads.ok.0) in
    let kept : take s.heads.len (new ++ drop (length new) s.heads.items) ≡ new = take_at new (drop (length new) s.heads.items) s.heads.len long in
    let told : (b : ℕ) → get_or new b 0 ≡ (if has s.buckets.items b then 0 else get_or s.heads.items b 0) =
    λ b. c.unlink.ensures b ∙ (λ j. if has (c.as_slice.ensures.value j) b then 0 else get_or (c.as_mut_slice.ensures.value j) b 0) in (
      rw (c.clear-3.ensures, c.clear.ensures.items, c.clear-2.ensures.items, kept)
          (chained-none s.keys s.buckets.items s.links.items s.heads.items new c.self.invariant.0 width told),
      λ r q k a b. absurd (none-some k (sym (ap (λ (ks : List Key). slice_get ks r) c.clear-3.ensures) ∙ a)),
    )
