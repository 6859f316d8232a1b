-- Classes that are gathered item by item.
use Rattle.std.proofs.Common.{◌≡◌, ℕ, ◌+◌, ◌<◌, ◌≤◌, List, [], ◌++◌, length, get_or, refl, ap, sym, ◌∙◌}
use Rattle.std.specs.Prelude.{Result, Ok}
use Rattle.rx_class.specs.Ranges.{next_scalar, fewest}
use Rattle.rx_reader.specs.Reading.{◌>>=◌}
use Rattle.rx_reader.specs.Refusal.{Refuses}
use Rattle.rx_reader.specs.declared.class_item.ClassItem.{ClassItem}
use Rattle.rx_reader.specs.declared.error.ParseError.{ParseError}
use Rattle.rx_reader.specs.declared.error.ParseError.TheVariants.{Syntax as Refused, Memory}
use Rattle.rx_reader.specs.declared.flags.Flags.{Flags}
use Rattle.rx_syntax.specs.Classes.{item_scalars, all_scalars}
use Rattle.rx_syntax.specs.Partial.{ranges_of, IsOf, IsOfFirst, class_of_items}
use Rattle.rx_syntax.specs.declared.partial.Added.{Added}
use Rattle.rx_syntax.specs.declared.partial.PartialClass.{PartialClass}
use Rattle.rx_syntax.proofs.lemmas.translation.GatherLemmas.{before-none, gathered-step, gathered-refused, gathered-end}

pub first-begun : (flags : Flags) (items : List ClassItem) (class : PartialClass) → IsOf class [] → IsOfFirst flags items 0 class
first-begun flags items class is = record { ranges = []; whole = before-none (all_scalars flags items); is = is }

pub first-more : (flags : Flags) (items : List ClassItem) (k : ℕ) (item : ClassItem) (class next : PartialClass) (added : Added)
    → k < length items → item ≡ get_or items k item → item_scalars flags item ≡ Ok (ranges_of added) → IsOfFirst flags items k class
    → ((ranges : List (ℕ × ℕ)) → IsOf class ranges → IsOf next (ranges ++ ranges_of added)) → IsOfFirst flags items (k + 1) next
first-more flags items k item class next added lt same gives before more = record {
  ranges = before.ranges ++ ranges_of added;
  whole = gathered-step (item_scalars flags) items k item item before.ranges (ranges_of added) (before.ranges ++ ranges_of added) lt same gives refl
      ∙ before.whole;
  is = more before.ranges before.is;
}

pub first-refused : (flags : Flags) (items : List ClassItem) (k : ℕ) (item : ClassItem) (class : PartialClass) (e : ParseError)
    → k < length items → item ≡ get_or items k item → Refuses e (item_scalars flags item) → IsOfFirst flags items k class
    → Refuses e (class_of_items flags items)
first-refused flags items k item class (Refused x) lt same refuses before =
    ap (λ (r : Result (List (ℕ × ℕ)) _). r >>= λ ranges. Ok (fewest next_scalar ranges))
    (sym before.whole ∙ gathered-refused (item_scalars flags) items k item item before.ranges x lt same refuses)
first-refused flags items k item class Memory lt same refuses before = tt

pub first-over : (flags : Flags) (items : List ClassItem) (k : ℕ) (class : PartialClass) (built : List (ℕ × ℕ))
    → length items ≤ k → IsOfFirst flags items k class → ((ranges : List (ℕ × ℕ)) → IsOf class ranges → built ≡ fewest next_scalar ranges)
    → class_of_items flags items ≡ Ok built
first-over flags items k class built le before builds =
    ap (λ (r : Result (List (ℕ × ℕ)) _). r >>= λ ranges. Ok (fewest next_scalar ranges))
    (sym before.whole ∙ gathered-end (item_scalars flags) items k before.ranges le)
    ∙ ap (λ (rs : List (ℕ × ℕ)). Ok rs) (sym (builds before.ranges before.is))
