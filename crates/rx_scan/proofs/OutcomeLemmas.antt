-- What rows become, haystack by haystack.
use Rattle.std.proofs.Common.{◌≡◌, List, [], ◌∷◌, ◌++◌, Result, Ok, Err, ap, ◌∙◌}
use Rattle.std.specs.Prelude.{map, IfOk, OnOk, OnErr}
use Rattle.std.proofs.lemmas.List.{map-append}
use Rattle.rx_scan.specs.Row.{RowValue}

-- a success says what follows from what it says
pub on-ok : {U E A B : Type 0} (result : Result U E) → (A → B) → OnOk result A → OnOk result B
on-ok (Ok u) f a = f a
on-ok (Err e) f a = tt

-- .. and what holds anyway
pub ok-of : {U E A : Type 0} (result : Result U E) → A → OnOk result A
ok-of (Ok u) a = a
ok-of (Err e) a = tt

pub if-ok : {U E : Type 0} {A B : U → Type 0} (result : Result U E) → ((u : U) → A u → B u) → IfOk result A → IfOk result B
if-ok (Ok u) f a = f u a
if-ok (Err e) f a = tt

-- an error says what follows from what it says
pub on-err : {U E A B : Type 0} (result : Result U E) → (A → B) → OnErr result A → OnErr result B
on-err (Ok u) f a = tt
on-err (Err e) f a = f a

pub err-of : {U E A : Type 0} (result : Result U E) → A → OnErr result A
err-of (Ok u) a = tt
err-of (Err e) a = a

module _ {V : Type 0} (items : V → List RowValue) where
  -- the rows of one haystack more
  pub rows-kept : (all : List (List RowValue)) (rows : List RowValue) (old new : List V) (own : V) → new ≡ old ++ own ∷ [] → map items old ≡ all
      → items own ≡ rows → map items new ≡ all ++ rows ∷ []
  rows-kept all rows old new own longer told is = ap (map items) longer ∙ map-append items old (own ∷ []) ∙ (λ k. told k ++ is k ∷ [])

  -- .. of some
  pub rows-put : (all more : List (List RowValue)) (old new others : List V) → new ≡ old ++ others → map items old ≡ all → map items others ≡ more
      → map items new ≡ all ++ more
  rows-put all more old new others longer told is = ap (map items) longer ∙ map-append items old others ∙ (λ k. told k ++ is k)
