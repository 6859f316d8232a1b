-- The groups of `((a)b)(?P<n>c)(?:d)`, by the definition.
use Rattle.std.proofs.Common.{◌≡◌, ℕ, List, [], ◌∷◌, Some, None, inl, inr, refl}
use Rattle.std.specs.Prelude.{codes}
use Rattle.rx_reader.specs.declared.group_kind.GroupKind.TheVariants.{NonCapturing, CaptureIndex, CaptureName}
use Rattle.rx_reader.specs.Config.{unicode_alone}
use Rattle.rx_reader.specs.Syntax.{Syntax, literal, group, cat, alt, syntaxes, nil, cons}
use Rattle.rx_reader.specs.Groups.{number_after, IsGroup, group_numbers}

abbrev row : List Syntax → Syntax
row items = alt (cons (cat (syntaxes items)) nil)

abbrev plain : ℕ → Syntax
plain c = literal unicode_alone c

abbrev pattern : Syntax
pattern = row (
    group (CaptureIndex (number_after 0)) (row (group (CaptureIndex (number_after 1)) (row (plain 97 ∷ [])) ∷ plain 98 ∷ []))
    ∷ group (CaptureName (number_after 2) (codes "n")) (row (plain 99 ∷ []))
    ∷ group NonCapturing (row (plain 100 ∷ []))
    ∷ [])

first : IsGroup 1 None pattern
unfolding IsGroup
first = inl (inl (inl (refl, refl)))

second : IsGroup 2 None pattern
unfolding IsGroup
second = inl (inl (inr (inl (inl (inl (refl, refl))))))

third : IsGroup 3 (Some (codes "n")) pattern
unfolding IsGroup
third = inl (inr (inl (inl (refl, refl))))

numbers : group_numbers pattern ≡ 1 ∷ 2 ∷ 3 ∷ []
unfolding group_numbers
numbers = refl
