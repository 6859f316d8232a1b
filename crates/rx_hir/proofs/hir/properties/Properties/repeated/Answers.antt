use Rattle.std.proofs.Common.{◌*◌, ◌&&◌, nat_lt, refl, ap, ◌∙◌}
use Rattle.std.specs.Prelude.{option_map}
use Rattle.rx_model.specs.Length.{minimum_len}
use Rattle.rx_hir.specs.Length.{maximum_len, times, saturated, in_64_bits}
use Rattle.rx_hir.specs.Properties.{static_in_copies}
use Rattle.rx_hir.proofs.PropertiesLemmas.{saturated-product, in_64_bits-product}
use Rattle.rx_hir.proofs.hir.properties.Properties.repeated.Goals as goal

pub returns : goal.returns
returns c = λ h greedy own. record {
  least = c.saturating_product.ensures ∙ ap (λ o. saturated (option_map (λ n. n * c.args.min) o)) own.least ∙ saturated-product (minimum_len h) c.args.min;
  greatest = c.checked_product.ensures ∙ ap (λ o. in_64_bits (times o c.args.max)) own.greatest ∙ in_64_bits-product (maximum_len h) c.args.max c.requires;
  static_count = c.groups_in_copies.ensures ∙ ap (static_in_copies c.args.min) own.static_count;
  count = own.count;
  kinds = own.kinds;
  first_kinds = λ k. c.looks_of_copies.ensures k ∙ ap (λ b. nat_lt 0 c.args.min && b) (own.first_kinds k);
  last_kinds = λ k. c.looks_of_copies-2.ensures k ∙ ap (λ b. nat_lt 0 c.args.min && b) (own.last_kinds k);
  utf8 = own.utf8;
  one_literal = refl;
  literals = refl;
}
