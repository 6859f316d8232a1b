use Rattle.std.proofs.Common.{◌≡◌, ◌∙◌, [], ◌∷◌, ◌++◌, ap, subst, arith, length, get_or}
use Rattle.std.specs.Prelude.{if◌then◌else◌, ◌==◌}
use Rattle.rx_search.specs.ByteClasses.{AreRepresentatives}
use Rattle.rx_search.proofs.ByteClassLemmas.{Met-none, Met-next, Met-all}
use Rattle.rx_search.proofs.byte_classes.ByteClasses.representatives.Goals as goal

pub loop-byte-init : goal.loop-byte-init
loop-byte-init c = Met-none c.self.inside.classes c.new-bytes.result.items (ap length c.new-bytes.ensures.items)

pub loop-byte-preserved : goal.loop-byte-preserved
loop-byte-preserved c =
    let long : c.len.result ≡ length c.loop-byte.bytes.items = (let ok = c.loop-byte.bytes.ok.0 in let len = c.len.ensures in omega arith) in
    Met-next c.self.inside.classes c.self.invariant c.loop-byte.byte c.loop-byte.bytes.items c.push_if.new.bytes.items (omega arith)
    (c.in_ok-push_if.ensures ∙ ap (λ n. if get_or c.self.inside.classes c.loop-byte.byte 0 == n then c.loop-byte.bytes.items ++ c.loop-byte.byte ∷ [] else
    c.loop-byte.bytes.items) long)
    c.loop-byte.invariant

pub returns : goal.returns
returns c =
    subst (λ xs. AreRepresentatives xs c.loop-byte.bytes.items) c.self.view_is
    (Met-all c.self.inside.classes c.self.invariant c.loop-byte.byte c.loop-byte.bytes.items (omega arith) c.loop-byte.invariant)
