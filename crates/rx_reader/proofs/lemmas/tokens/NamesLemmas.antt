-- The names in a set, and the same as texts.
use Rattle.std.proofs.Common.{◌≡◌, ℕ, ◌||◌, List, [], ◌∷◌, refl, ◌∙◌, ap, ap₂, Ordering, Less, Equal, Greater}
use Rattle.std.specs.Prelude.{map, bytes_eq}
use Rattle.std.specs.List.{list_any}
use Rattle.std.specs.Ordering.{nat_cmp, match_ordering, is_eq}
use Rattle.std.specs.Cmp.Lexicographic.{slice_cmp}
use Rattle.std.specs.BTreeSet.{insert_key}
use Rattle.std.proofs.lemmas.Map.Text.{is_eq-slice_cmp}

module _ {K : Type 0} (text : K → List ℕ) where
  -- the order of keys is that of their texts
  abbrev by_text : K → K → Ordering
  by_text a b = slice_cmp nat_cmp (text a) (text b)

  map-match : (o : Ordering) (a b c : List K) → map text (match_ordering o a b c) ≡ match_ordering o (map text a) (map text b) (map text c)
  map-match Less a b c = refl
  map-match Equal a b c = refl
  map-match Greater a b c = refl

  -- a key more
  pub map-insert_key : (keys : List K) (key : K) → map text (insert_key by_text keys key) ≡ insert_key (slice_cmp nat_cmp) (map text keys) (text key)
  map-insert_key [] key = refl
  map-insert_key (k ∷ keys) key =
      map-match (by_text key k) (key ∷ k ∷ keys) (k ∷ keys) (k ∷ insert_key by_text keys key)
      ∙ ap (λ (ts : List (List ℕ)). match_ordering (by_text key k) (text key ∷ text k ∷ map text keys) (text k ∷ map text keys) (text k ∷ ts))
      (map-insert_key keys key)

  -- the key is there where its text is
  pub contains-names : (keys : List K) (key : K) → list_any (λ k. is_eq (by_text key k)) keys ≡ list_any (bytes_eq (text key)) (map text keys)
  contains-names [] key = refl
  contains-names (k ∷ keys) key = ap₂ ◌||◌ (is_eq-slice_cmp (text key) (text k)) (contains-names keys key)
