use Rattle.std.proofs.Common.{arith, ◌≡◌, ℕ, ◌==◌, true, false, ◌&&◌, ◌||◌, List, length, map, refl, ◌∙◌, ap, sym}
use Rattle.std.specs.Prelude.{◌≢◌, nat_le, Some}
use Rattle.std.specs.List.{list_all, list_any}
use Rattle.std.specs.Vec.{vec_items}
use Rattle.std.proofs.lemmas.Grind.{common_steps}
use Rattle.std.proofs.lemmas.Bool.Decides.{nat_tests}
use Rattle.std.proofs.lemmas.List.{length-map}
use Rattle.rx_prefilter.specs.Bytes.{single}
use Rattle.rx_prefilter.specs.Choices.{is_empty, is_single, has_bytes, choice_of, choice_of_bytes}
use Rattle.rx_prefilter.specs.Kinds.{needles_of, kind_choice}
use Rattle.rx_prefilter.specs.declared.choice.Choice.{Choice}
use Rattle.rx_prefilter.specs.declared.choice.Choice.TheVariants.{Memmem, Multi, AhoCorasick}
use Rattle.rx_prefilter.proofs.prefilter.kind.Kind.fitting.Goals as goal

fits : (ns : List (List ℕ)) (n : ℕ) → length ns ≡ n → n ≢ 0 → list_any is_empty ns ≡ false → (length ns == 0 || list_any is_empty ns) ≡ false
fits ns n same some none = grind (arith, common_steps, nat_tests)

of-bytes : (ns : List (List ℕ)) → (length ns == 0 || list_any is_empty ns) ≡ false → list_all is_single ns ≡ true
    → choice_of ns ≡ Some (choice_of_bytes (length ns))
unfolding choice_of
of-bytes ns some all = rw (some, all) refl

of-one : (ns : List (List ℕ)) → (length ns == 0 || list_any is_empty ns) ≡ false → list_all is_single ns ≡ false → (length ns == 1) ≡ true
    → choice_of ns ≡ Some Memmem
unfolding choice_of
of-one ns some all one = rw (some, all, one) refl

of-few : (ns : List (List ℕ)) → (length ns == 0 || list_any is_empty ns) ≡ false → list_all is_single ns ≡ false → (length ns == 1) ≡ false
    → (nat_le (length ns) 64 && list_all (has_bytes 2) ns) ≡ true → choice_of ns ≡ Some Multi
unfolding choice_of
of-few ns some all one few = rw (some, all, one, few) refl

of-many : (ns : List (List ℕ)) → (length ns == 0 || list_any is_empty ns) ≡ false → list_all is_single ns ≡ false → (length ns == 1) ≡ false
    → (nat_le (length ns) 64 && list_all (has_bytes 2) ns) ≡ false → choice_of ns ≡ Some AhoCorasick
unfolding choice_of
of-many ns some all one few = rw (some, all, one, few) refl

pub returns-then-are_single : goal.returns-then-are_single
returns-then-are_single c =
    let ns = map vec_items c.args.needles.now in
    let count = length-map c.args.needles.now vec_items in
    let some = fits ns (length c.args.needles.now) count c.requires.some c.requires.none_empty in
    let all : list_all is_single ns ≡ true = sym c.are_single.ensures ∙ c.if-are_single.true in
    let bytes = c.in_ok-first_bytes.field-0.items in
    let same : needles_of c.of_bytes.result ≡ ns = c.of_bytes.ensures.same ∙ c.in_ok-first_bytes.ensures in
    let so_many : length bytes ≡ length ns = sym (length-map bytes single) ∙ ap (λ (xs : List (List ℕ)). length xs) c.in_ok-first_bytes.ensures in
    (same, ap choice_of same ∙ of-bytes ns some all ∙ ap (λ (x : Choice). Some x) (sym (c.of_bytes.ensures.by ∙ ap choice_of_bytes so_many)))

pub returns-then-have_bytes : goal.returns-then-have_bytes
unfolding needles_of kind_choice
returns-then-have_bytes c =
    let ns = map vec_items c.args.needles.now in
    let count = length-map c.args.needles.now vec_items in
    let some = fits ns (length c.args.needles.now) count c.requires.some c.requires.none_empty in
    let all : list_all is_single ns ≡ false = sym c.are_single.ensures ∙ c.if-are_single.false in
    let one : (length ns == 1) ≡ false = grind (arith, common_steps, nat_tests) in
    let few : (nat_le (length ns) 64 && list_all (has_bytes 2) ns) ≡ true = grind (arith, common_steps, nat_tests) in
    (c.in_ok-new.ensures, ap choice_of c.in_ok-new.ensures ∙ of-few ns some all one few)

pub returns : goal.returns
unfolding needles_of kind_choice
returns c =
    let ns = map vec_items c.args.needles.now in
    let count = length-map c.args.needles.now vec_items in
    let some = fits ns (length c.args.needles.now) count c.requires.some c.requires.none_empty in
    let all : list_all is_single ns ≡ false = sym c.are_single.ensures ∙ c.if-are_single.false in
    let one : (length ns == 1) ≡ false = grind (arith, common_steps, nat_tests) in
    let few : (nat_le (length ns) 64 && list_all (has_bytes 2) ns) ≡ false = grind (arith, common_steps, nat_tests) in
    (c.in_ok-new-2.ensures, ap choice_of c.in_ok-new-2.ensures ∙ of-many ns some all one few)
