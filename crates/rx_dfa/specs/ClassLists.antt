-- A list of states for each class of bytes.
use Rattle.std.specs.Prelude.{◌≡◌, ℕ, suc, ◌<◌, ◌≤◌, List, [], ◌∷◌, length, slice_index}
use Rattle.rx_dfa.specs.declared.dense.class_lists.ClassLists.{ClassLists}

-- The chain that begins before this limit begins with the element, and goes on before the next one.
pub record IsLink (states links : List ℕ) (limit x next : ℕ) : Type 0 where
  pub place : ℕ
  pub before : limit ≡ suc place
  pub inside : place < length states
  pub linked : place < length links
  pub is : slice_index states place ≡ x
  pub link : slice_index links place ≡ next
  pub falls : next ≤ place

-- the chain that begins before this limit is the list
abbrev pub IsChain : (states links : List ℕ) → (limit : ℕ) → List ℕ → Type 0
IsChain states links limit [] = limit ≡ 0
IsChain states links limit (x ∷ xs) = (next : ℕ) × IsLink states links limit x next × IsChain states links next xs

-- for how many classes there are lists
abbrev pub class_count : ClassLists → ℕ
class_count l = length l.heads.items

-- the list of each class
abbrev pub AreLists : ClassLists → (ℕ → List ℕ) → Type 0
AreLists l lists = (class : ℕ) → class < class_count l → IsChain l.states.items l.links.items (slice_index l.heads.items class) (lists class)
