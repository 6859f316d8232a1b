-- The names of groups.
use Rattle.std.specs.Prelude.{ℕ, true, false, ◌||◌, ◌==◌, not, List, [], ◌∷◌, length, Ok, if◌then◌else◌}
use Rattle.std.specs.List.{take_while}
use Rattle.rx_sets.specs.Capture.{is_capture_char}
use Rattle.rx_reader.specs.declared.error.SyntaxErrorKind.TheVariants.{GroupName, GroupNameTwice}
use Rattle.rx_reader.specs.Reading.{Place, Read, refuse, past, is_at, has_name, add_name}
use Rattle.rx_reader.specs.Ahead.{past_n}

-- the longest name in front
abbrev pub name_of : List ℕ → List ℕ
name_of [] = []
name_of (c ∷ cs) = if is_capture_char c true then c ∷ take_while (λ d. is_capture_char d false) cs else []

-- the name from p on, which no group before has, and the place after its `>`
unfoldable pub read_name : Place → Read (List ℕ)
read_name p =
    let name = name_of p.text in
    let q = past_n (length name) p in
    if length name == 0 || not (is_at ">" q) then refuse GroupName p q
    else if has_name name q then refuse GroupNameTwice p q
    else Ok (name, add_name name (past q))
