use Rattle.std.proofs.Common.{ℕ, List, ◌++◌, ◌∙◌, ap, subst, sym}
use Rattle.std.specs.Prelude.{All}
use Rattle.rx_class.specs.Ranges.{next_byte, fewest}
use Rattle.rx_syntax.specs.Named.{bytes_of}
use Rattle.rx_syntax.specs.PartialBytes.{HoldsBytes}
use Rattle.rx_syntax.proofs.lemmas.sets.ByteHeldLemmas.{byte_set-held, with-more}
use Rattle.rx_syntax.proofs.partial_bytes.PartialBytes.with_new_set.Goals as goal

pub returns : goal.returns
returns c ranges is =
    let own = bytes_of c.args.key in
    let before = c.args.self.ranges.items in
    record {
      members = c.in_ok-ranges.ensures ∙ ap (fewest next_byte) (c.in_ok-extend_from_slice.ensures.items
          ∙ ap (λ (ys : List (ℕ × ℕ)). before ++ ys) (c.ranges-2.ensures.value ∙ c.in_ok-bytes.ensures))
          ∙ with-more before ranges own is.members;
      sets = subst (All (HoldsBytes (ranges ++ own))) (sym c.in_ok-push.ensures.items) (byte_set-held ranges c.args.key c.args.self.sets.items is.sets);
    }
