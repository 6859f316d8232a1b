-- On the items of a class that were read so far.
use Rattle.std.proofs.Common.{◌≡◌, Bool, true, false, List, [], ◌∷◌, ◌++◌, Ok, Err, refl, ◌∙◌, ap, sym, append_assoc}
use Rattle.std.proofs.lemmas.List.{append-nil}
use Rattle.std.specs.Prelude.{Some, None, Option}
use Rattle.rx_reader.specs.declared.error.SyntaxError.{SyntaxError}
use Rattle.rx_reader.specs.declared.class_item.ClassItem.{ClassItem}
use Rattle.rx_reader.specs.Reading.{Place, Read, ◌>>=◌}
use Rattle.rx_reader.specs.Classes.{class_item, all_class_items, with_item}
use Rattle.rx_reader.proofs.lemmas.tokens.EscapeEnds.{all_class_items-step}

-- what is read is these, and then more
abbrev pub after : List ClassItem → Read (List ClassItem) → Read (List ClassItem)
after items (Ok (more, q)) = Ok (items ++ more, q)
after items (Err e) = Err e

after-none : (reading : Read (List ClassItem)) → after [] reading ≡ reading
after-none (Ok (more, q)) = refl
after-none (Err e) = refl

after-more : (items : List ClassItem) (item : ClassItem) (reading : Read (List ClassItem))
    → after items (reading >>= λ (more, r). Ok (item ∷ more, r)) ≡ after (items ++ item ∷ []) reading
after-more items item (Ok (more, q)) = ap (λ (xs : List ClassItem). Ok (xs, q)) (sym (append_assoc items (item ∷ []) more))
after-more items item (Err e) = refl

module _ (octal skips : Bool) (from : Place) where
  pub after_start : (p : Place) → all_class_items octal skips from true p ≡ after [] (all_class_items octal skips from true p)
  after_start p = sym (after-none _)

  step : (comes_first : Bool) (p : Place) (items : List ClassItem) (reading : Read (Option ClassItem)) → class_item octal skips from comes_first p ≡ reading
      → after items (all_class_items octal skips from comes_first p) ≡ after items (reading >>= with_item (all_class_items octal skips from false))
  step comes_first p items reading h =
      ap (after items) (all_class_items-step octal skips from comes_first p
      ∙ ap (λ (r : Read (Option ClassItem)). r >>= with_item (all_class_items octal skips from false)) h)

  pub after_item : (comes_first : Bool) (p q : Place) (items : List ClassItem) (item : ClassItem)
      → class_item octal skips from comes_first p ≡ Ok (Some item, q)
      → after items (all_class_items octal skips from comes_first p) ≡ after (items ++ item ∷ []) (all_class_items octal skips from false q)
  after_item comes_first p q items item h = step comes_first p items _ h ∙ after-more items item _

  pub after_close : (comes_first : Bool) (p q : Place) (items : List ClassItem) → class_item octal skips from comes_first p ≡ Ok (None, q)
      → after items (all_class_items octal skips from comes_first p) ≡ Ok (items, q)
  after_close comes_first p q items h = step comes_first p items _ h ∙ ap (λ (xs : List ClassItem). Ok (xs, q)) (append-nil items)

  pub after_refused : (comes_first : Bool) (p : Place) (items : List ClassItem) (e : SyntaxError) → class_item octal skips from comes_first p ≡ Err e
      → after items (all_class_items octal skips from comes_first p) ≡ Err e
  after_refused comes_first p items e h = step comes_first p items _ h
