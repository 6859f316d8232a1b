use Rattle.std.proofs.Common.{◌≡◌, ◌∙◌, ap, not, List, ℕ}
use Rattle.std.specs.Prelude.{vec_items, bytes_eq, map}
use Rattle.std.specs.List.{list_any}
use Rattle.std.specs.Ordering.{nat_cmp}
use Rattle.std.specs.Cmp.Lexicographic.{slice_cmp}
use Rattle.std.specs.BTreeSet.{insert_key}
use Rattle.rx_reader.proofs.lemmas.tokens.NamesLemmas.{map-insert_key, contains-names}
use Rattle.rx_reader.proofs.names.Names.insert.Goals as goal

pub returns-clause-fresh : goal.returns-clause-fresh
returns-clause-fresh c =
    let key = c.in_ok-to_vec.field-0 in
    let is : key.items ≡ c.args.name.now = c.in_ok-to_vec.ensures.items_if_clones_equal (λ x y h. h) in
    c.in_ok-insert.ensures.added ∙ ap not (contains-names vec_items c.self.inside.keys.keys key)
    ∙ ap (λ (name : List ℕ). not (list_any (bytes_eq name) (map vec_items c.self.inside.keys.keys))) is
    ∙ ap (λ (names : List (List ℕ)). not (list_any (bytes_eq c.args.name.now) names)) c.self.view_is

pub returns-clause-names : goal.returns-clause-names
returns-clause-names c =
    let key = c.in_ok-to_vec.field-0 in
    let is : key.items ≡ c.args.name.now = c.in_ok-to_vec.ensures.items_if_clones_equal (λ x y h. h) in
    ap (map vec_items) c.in_ok-insert.ensures.keys ∙ map-insert_key vec_items c.self.inside.keys.keys key
    ∙ ap (insert_key (slice_cmp nat_cmp) (map vec_items c.self.inside.keys.keys)) is
    ∙ ap (λ (names : List (List ℕ)). insert_key (slice_cmp nat_cmp) names c.args.name.now) c.self.view_is
