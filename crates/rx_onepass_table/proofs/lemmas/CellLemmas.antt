-- Where the cells of a table stand.
use Rattle.std.proofs.Common.{◌≡◌, ℕ, ◌+◌, ◌*◌, ◌<◌, List, length, get_or, sym, ◌∙◌, ap, subst, arith, slice_index}
use Rattle.std.proofs.lemmas.List.{get_or_default}
use Rattle.std.proofs.lemmas.Nat.{mul-add-lt}
use Rattle.rx_search.specs.ByteClasses.{AreClasses, class_count}
use Rattle.rx_search.proofs.ByteClassLemmas.{classes-rise}
use Rattle.rx_onepass_table.specs.Rows.{TableValue, IsWhole, step_in, final_in}
use Rattle.rx_onepass_table.specs.Words.{Step, step_of, final_of}

-- the class of a byte is one of the classes
pub class-below : (classes : List ℕ) → AreClasses classes → (byte : ℕ) → byte < 256 → slice_index classes byte < class_count classes
class-below classes are byte lt = let rise = classes-rise classes are byte 255 (omega arith) (omega arith) in omega arith

-- a cell of a row is there
pub cell-there : (t : TableValue) → IsWhole t → (row column : ℕ) → row < t.rows → column < t.stride → row * t.stride + column < length t.cells
cell-there t whole row column lt inside =
    subst (λ n. row * t.stride + column < n) (sym whole.len) (mul-add-lt row t.stride column t.rows lt inside)

-- a table that is seen as another value
module _ (t now : TableValue) (whole : IsWhole t) (is : t ≡ now) (row : ℕ) (inside : row < now.rows) where
  row-inside : row < t.rows
  row-inside = subst (λ (v : TableValue). row < v.rows) (sym is) inside

  module _ (byte class : ℕ) (fits : byte < 256) (class_is : class ≡ slice_index t.classes byte) where
    class-inside : class < class_count t.classes
    class-inside = subst (λ c. c < class_count t.classes) (sym class_is) (class-below t.classes whole.classes byte fits)

    pub step-index : row * t.stride + class < length t.cells
    step-index = let wide = whole.wide in let small = class-inside in cell-there t whole row class row-inside (omega arith)

    module _ (word default : ℕ) (read : word ≡ get_or t.cells (row * t.stride + class) default) where
      word-is : word ≡ slice_index t.cells (row * t.stride + slice_index t.classes byte)
      word-is =
          read ∙ get_or_default t.cells (row * t.stride + class) default 0 step-index
          ∙ ap (λ c. slice_index t.cells (row * t.stride + c)) class_is

      pub step-value : step_of word ≡ step_in now row byte
      step-value = ap step_of word-is ∙ ap (λ (v : TableValue). step_in v row byte) is

      pub step-target : (step_of word).target < now.rows
      step-target =
          subst (λ (s : Step). s.target < now.rows) (sym (ap step_of (read ∙ get_or_default t.cells (row * t.stride + class) default 0 step-index)))
          (subst (λ (v : TableValue). (step_of (slice_index t.cells (row * t.stride + class))).target < v.rows) is
          (whole.targets row class row-inside class-inside))

  module _ (column : ℕ) (column_is : column ≡ class_count t.classes) where
    pub final-index : row * t.stride + column < length t.cells
    final-index = let wide = whole.wide in cell-there t whole row column row-inside (omega arith)

    pub final-value : (word default : ℕ) → word ≡ get_or t.cells (row * t.stride + column) default → final_of word ≡ final_in now row
    final-value word default read =
        ap final_of (read ∙ get_or_default t.cells (row * t.stride + column) default 0 final-index
        ∙ ap (λ c. slice_index t.cells (row * t.stride + c)) column_is)
        ∙ ap (λ (v : TableValue). final_in v row) is
