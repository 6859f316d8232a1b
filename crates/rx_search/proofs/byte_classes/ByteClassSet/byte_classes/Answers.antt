use Rattle.std.proofs.Common.{◌≡◌, ℕ, zero, ◌+◌, ◌<◌, ◌≤◌, ◌≢◌, refl, sym, ◌∙◌, ap, subst, ⊎_elim, length, get_or, arith, get_or-set_other, get_or-set_same}
use Rattle.std.specs.Prelude.{Bool, true, false, if◌then◌else◌}
use Rattle.std.proofs.Math.ListN.{set}
use Rattle.std.proofs.lemmas.Bool.{cases_lt}
use Rattle.std.proofs.lemmas.List.{get_or-replicate, length-replicate, length-set}
use Rattle.rx_search.specs.ByteClasses.{class_of}
use Rattle.rx_search.proofs.ByteClassLemmas.{class_of-next, classes-made}
use Rattle.rx_search.proofs.byte_classes.ByteClassSet.byte_classes.Goals as goal

pub loop-byte-init : goal.loop-byte-init
unfolding class_of
loop-byte-init c = record {
  len = length-replicate {A = ℕ} 256 0;
  each = λ k le. (let e : k ≡ 0 = omega arith in get_or-replicate 256 k 0 0 (omega arith) ∙ sym (ap (class_of (λ e. get_or c.self.inside.ends e false)) e));
  class = refl;
  few = omega arith;
}

one-more : (n : ℕ) (b : Bool) → n + (if b then 1 else 0) ≤ n + 1
one-more n true = omega arith
one-more n false = omega arith

pub loop-byte-preserved : goal.loop-byte-preserved
loop-byte-preserved c =
    let inv = c.loop-byte.invariant in
    let f = λ (e : ℕ). get_or c.self.inside.ends e false in
    let here : c.next_class-next.result ≡ class_of (λ e. get_or c.self.inside.ends e false) (c.loop-byte.byte + 1) =
    c.next_class-next.ensures ∙ ap (λ n. n + (if get_or c.self.inside.ends c.loop-byte.byte false then 1 else 0)) inv.class
    ∙ sym (class_of-next (λ e. get_or c.self.inside.ends e false) c.loop-byte.byte) in
    let len = inv.len in
    let small = one-more c.loop-byte.class (get_or c.self.inside.ends c.loop-byte.byte false) in
    let value = c.next_class-next.ensures in
    let few = inv.few in
    record {
      len = length-set c.loop-byte.classes (c.loop-byte.byte + 1) c.next_class-next.result ∙ inv.len;
      each = λ k le.
          ⊎_elim
          (λ lt. let ne : k ≢ c.loop-byte.byte + 1 = omega arith in rw get_or-set_other (inv.each k (omega arith)))
          (λ ge.
          let e : c.loop-byte.byte + 1 ≡ k = omega arith in
          let lt : c.loop-byte.byte + 1 < length c.loop-byte.classes = omega arith in
          subst (λ n. get_or (set c.loop-byte.classes (c.loop-byte.byte + 1) c.next_class-next.result) n 0 ≡ class_of (λ e. get_or c.self.inside.ends e false)
          n) e
          (get_or-set_same c.loop-byte.classes (c.loop-byte.byte + 1) c.next_class-next.result 0 lt ∙ here))
          (cases_lt k (c.loop-byte.byte + 1));
      class = here;
      few = omega arith;
    }

pub invariant_of-result : goal.invariant_of-result
invariant_of-result c =
    classes-made c.loop-byte.classes (λ e. get_or c.self.inside.ends e false) c.loop-byte.invariant.len (λ b le. c.loop-byte.invariant.each b (omega arith))

pub returns-clause-classes : goal.returns-clause-classes
returns-clause-classes c =
    classes-made c.loop-byte.classes (λ e. get_or c.self.inside.ends e false) c.loop-byte.invariant.len (λ b le. c.loop-byte.invariant.each b (omega arith))

pub returns-clause-value : goal.returns-clause-value
returns-clause-value c = λ b lt.
    c.loop-byte.invariant.each b (let len = c.loop-byte.invariant.len in omega arith) ∙ ap (λ ends. class_of (λ e. get_or ends e false) b) c.self.view_is
