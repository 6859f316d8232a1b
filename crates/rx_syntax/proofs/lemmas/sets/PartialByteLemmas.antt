-- Classes of bytes that are gathered item by item.
use Rattle.std.proofs.Common.{◌≡◌, ℕ, ◌+◌, ◌<◌, ◌≤◌, List, [], ◌++◌, length, get_or, refl, ap, sym, ◌∙◌}
use Rattle.std.specs.Prelude.{Result, Ok}
use Rattle.rx_class.specs.Ranges.{next_byte, fewest}
use Rattle.rx_reader.specs.Reading.{◌>>=◌}
use Rattle.rx_reader.specs.Refusal.{Refuses}
use Rattle.rx_reader.specs.declared.class_item.ClassItem.{ClassItem}
use Rattle.rx_reader.specs.declared.error.ParseError.{ParseError}
use Rattle.rx_reader.specs.declared.error.ParseError.TheVariants.{Syntax as Refused, Memory}
use Rattle.rx_reader.specs.declared.flags.Flags.{Flags}
use Rattle.rx_reader.specs.declared.piece.Piece.{Piece}
use Rattle.rx_syntax.specs.Classes.{item_bytes, all_bytes}
use Rattle.rx_syntax.specs.PartialBytes.{ranges_of_bytes, IsOfBytes, IsOfFirstBytes, byte_class_of_items}
use Rattle.rx_syntax.specs.declared.partial_bytes.AddedBytes.{AddedBytes}
use Rattle.rx_syntax.specs.declared.partial_bytes.PartialBytes.{PartialBytes}
use Rattle.rx_syntax.proofs.lemmas.translation.GatherLemmas.{before-none, gathered-step, gathered-refused, gathered-end}

pub bytes-begun : (flags : Flags) (piece : Piece) (items : List ClassItem) (class : PartialBytes) → IsOfBytes class []
    → IsOfFirstBytes flags piece items 0 class
bytes-begun flags piece items class is = record { ranges = []; whole = before-none (all_bytes flags piece items); is = is }

pub bytes-more : (flags : Flags) (piece : Piece) (items : List ClassItem) (k : ℕ) (item : ClassItem) (class next : PartialBytes) (added : AddedBytes)
    → k < length items → item ≡ get_or items k item → item_bytes flags piece item ≡ Ok (ranges_of_bytes added) → IsOfFirstBytes flags piece items k class
    → ((ranges : List (ℕ × ℕ)) → IsOfBytes class ranges → IsOfBytes next (ranges ++ ranges_of_bytes added)) → IsOfFirstBytes flags piece items (k + 1) next
bytes-more flags piece items k item class next added lt same gives before more = record {
  ranges = before.ranges ++ ranges_of_bytes added;
  whole = gathered-step (item_bytes flags piece) items k item item before.ranges (ranges_of_bytes added) (before.ranges ++ ranges_of_bytes added) lt same gives
      refl
      ∙ before.whole;
  is = more before.ranges before.is;
}

pub bytes-refused : (flags : Flags) (piece : Piece) (items : List ClassItem) (k : ℕ) (item : ClassItem) (class : PartialBytes) (e : ParseError)
    → k < length items → item ≡ get_or items k item → Refuses e (item_bytes flags piece item) → IsOfFirstBytes flags piece items k class
    → Refuses e (byte_class_of_items flags piece items)
bytes-refused flags piece items k item class (Refused x) lt same refuses before =
    ap (λ (r : Result (List (ℕ × ℕ)) _). r >>= λ ranges. Ok (fewest next_byte ranges))
    (sym before.whole ∙ gathered-refused (item_bytes flags piece) items k item item before.ranges x lt same refuses)
bytes-refused flags piece items k item class Memory lt same refuses before = tt

pub bytes-over : (flags : Flags) (piece : Piece) (items : List ClassItem) (k : ℕ) (class : PartialBytes) (built : List (ℕ × ℕ))
    → length items ≤ k → IsOfFirstBytes flags piece items k class → ((ranges : List (ℕ × ℕ)) → IsOfBytes class ranges → built ≡ fewest next_byte ranges)
    → byte_class_of_items flags piece items ≡ Ok built
bytes-over flags piece items k class built le before builds =
    ap (λ (r : Result (List (ℕ × ℕ)) _). r >>= λ ranges. Ok (fewest next_byte ranges))
    (sym before.whole ∙ gathered-end (item_bytes flags piece) items k before.ranges le)
    ∙ ap (λ (rs : List (ℕ × ℕ)). Ok rs) (sym (builds before.ranges before.is))
