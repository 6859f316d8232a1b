-- What is told of an expression beside its lengths: its groups, its look-arounds, and whether it is UTF-8 or a
-- literal.
use Rattle.std.specs.Prelude.{ℕ, zero, suc, ◌+◌, Bool, true, false, ◌&&◌, ◌||◌, ◌==◌, Option, Some, None, option_map, if◌then◌else◌, nat_lt}
use Rattle.std.specs.List.{list_all}
use Rattle.std.specs.Str.{is_utf8 as is_utf8_text}
use Rattle.rx_model.specs.Text.{Class, scalar_ranges, byte_ranges}
use Rattle.rx_model.specs.Look.{Look}
use Rattle.rx_model.specs.Length.{plus}
use Rattle.rx_model.specs.Expression.{Expression, Expressions, empty, literal, class, look, repetition, capture, concat, alternation, nil, cons}
use Rattle.rx_search.specs.Look.{is_same_kind}
use Rattle.rx_hir.specs.Length.{maximum_len, sum_of_maximum_len, saturated}
use Rattle.rx_hir.specs.Normal.{is_zero}

-- Groups.

-- how many groups stand in
abbrev mutual
  -- the expression
  pub explicit_groups : Expression → ℕ
  explicit_groups empty = 0
  explicit_groups (literal bytes) = 0
  explicit_groups (class members) = 0
  explicit_groups (look kind) = 0
  explicit_groups (repetition least greatest greedy sub) = explicit_groups sub
  explicit_groups (capture group name sub) = explicit_groups sub + 1
  explicit_groups (concat subs) = explicit_groups_among subs
  explicit_groups (alternation subs) = explicit_groups_among subs

  -- the list
  pub explicit_groups_among : Expressions → ℕ
  explicit_groups_among nil = 0
  explicit_groups_among (cons sub subs) = explicit_groups sub + explicit_groups_among subs

-- in copies of a body: where there may be none, only a body without groups has the same number in each match
abbrev pub static_in_copies : (least : ℕ) → Option ℕ → Option ℕ
static_in_copies zero groups = if is_zero groups then groups else None
static_in_copies (suc least) groups = groups

-- the number that two have in common
abbrev pub common : Option ℕ → Option ℕ → Option ℕ
common None b = None
common (Some m) None = None
common (Some m) (Some n) = if m == n then Some m else None

-- how many groups take part in a match, where it is the same number in each, up to the greatest of 64 bits
abbrev mutual
  pub static_groups : Expression → Option ℕ
  static_groups empty = Some 0
  static_groups (literal bytes) = Some 0
  static_groups (class members) = Some 0
  static_groups (look kind) = Some 0
  static_groups (repetition least greatest greedy sub) = static_in_copies least (static_groups sub)
  static_groups (capture group name sub) = saturated (option_map suc (static_groups sub))
  static_groups (concat subs) = sum_of_static_groups subs
  static_groups (alternation subs) = common_static_groups subs

  -- the sum over the parts of a concatenation
  pub sum_of_static_groups : Expressions → Option ℕ
  sum_of_static_groups nil = Some 0
  sum_of_static_groups (cons sub subs) = saturated (plus (static_groups sub) (sum_of_static_groups subs))

  -- the number that all alternatives have in common
  pub common_static_groups : Expressions → Option ℕ
  common_static_groups nil = None
  common_static_groups (cons sub nil) = static_groups sub
  common_static_groups (cons sub (cons next subs)) = common (static_groups sub) (common_static_groups (cons next subs))

-- Look-arounds.

-- a look-around of this kind stands in
abbrev mutual
  -- the expression
  pub has_look : Look → Expression → Bool
  has_look k empty = false
  has_look k (literal bytes) = false
  has_look k (class members) = false
  has_look k (look kind) = is_same_kind k kind
  has_look k (repetition least greatest greedy sub) = has_look k sub
  has_look k (capture group name sub) = has_look k sub
  has_look k (concat subs) = has_look_among k subs
  has_look k (alternation subs) = has_look_among k subs

  -- one of the list
  pub has_look_among : Look → Expressions → Bool
  has_look_among k nil = false
  has_look_among k (cons sub subs) = has_look k sub || has_look_among k subs

-- Each match begins with a look-around of this kind: it stands in the first part, or after parts of greatest
-- length 0, and in each alternative.
abbrev mutual
  pub looks_first : Look → Expression → Bool
  looks_first k empty = false
  looks_first k (literal bytes) = false
  looks_first k (class members) = false
  looks_first k (look kind) = is_same_kind k kind
  looks_first k (repetition least greatest greedy sub) = nat_lt 0 least && looks_first k sub
  looks_first k (capture group name sub) = looks_first k sub
  looks_first k (concat subs) = row_looks_first k subs
  looks_first k (alternation subs) = each_looks_first k subs

  -- a concatenation of these
  pub row_looks_first : Look → Expressions → Bool
  row_looks_first k nil = false
  row_looks_first k (cons sub subs) = looks_first k sub || (is_zero (maximum_len sub) && row_looks_first k subs)

  -- each of these; and not where there are none
  pub each_looks_first : Look → Expressions → Bool
  each_looks_first k nil = false
  each_looks_first k (cons sub nil) = looks_first k sub
  each_looks_first k (cons sub (cons next subs)) = looks_first k sub && each_looks_first k (cons next subs)

-- Each match ends with a look-around of this kind: it stands in the last part, or before parts of greatest
-- length 0, and in each alternative.
abbrev mutual
  pub looks_last : Look → Expression → Bool
  looks_last k empty = false
  looks_last k (literal bytes) = false
  looks_last k (class members) = false
  looks_last k (look kind) = is_same_kind k kind
  looks_last k (repetition least greatest greedy sub) = nat_lt 0 least && looks_last k sub
  looks_last k (capture group name sub) = looks_last k sub
  looks_last k (concat subs) = row_looks_last k subs
  looks_last k (alternation subs) = each_looks_last k subs

  -- a concatenation of these
  pub row_looks_last : Look → Expressions → Bool
  row_looks_last k nil = false
  row_looks_last k (cons sub subs) = row_looks_last k subs || (is_zero (sum_of_maximum_len subs) && looks_last k sub)

  -- each of these; and not where there are none
  pub each_looks_last : Look → Expressions → Bool
  each_looks_last k nil = false
  each_looks_last k (cons sub nil) = looks_last k sub
  each_looks_last k (cons sub (cons next subs)) = looks_last k sub && each_looks_last k (cons next subs)

-- UTF-8 and literals.

-- no byte of the class is above 7F
abbrev pub is_utf8_class : Class → Bool
is_utf8_class (scalar_ranges ranges) = true
is_utf8_class (byte_ranges ranges) = list_all (λ r. nat_lt r.1 0x80) ranges

-- literals are UTF-8, and byte classes have no member above 7F, in
abbrev mutual
  -- the expression
  pub is_utf8 : Expression → Bool
  is_utf8 empty = true
  is_utf8 (literal bytes) = is_utf8_text bytes
  is_utf8 (class members) = is_utf8_class members
  is_utf8 (look kind) = true
  is_utf8 (repetition least greatest greedy sub) = is_utf8 sub
  is_utf8 (capture group name sub) = is_utf8 sub
  is_utf8 (concat subs) = are_utf8 subs
  is_utf8 (alternation subs) = are_utf8 subs

  -- each of the list
  pub are_utf8 : Expressions → Bool
  are_utf8 nil = true
  are_utf8 (cons sub subs) = is_utf8 sub && are_utf8 subs

-- the expression is a literal
abbrev pub is_literal : Expression → Bool
is_literal (literal bytes) = true
is_literal empty = false
is_literal (class members) = false
is_literal (look kind) = false
is_literal (repetition least greatest greedy sub) = false
is_literal (capture group name sub) = false
is_literal (concat subs) = false
is_literal (alternation subs) = false

-- each of the list is a literal
abbrev pub are_literals : Expressions → Bool
are_literals nil = true
are_literals (cons sub subs) = is_literal sub && are_literals subs

-- the expression is a literal, or an alternation of literals
abbrev pub is_alternation_literal : Expression → Bool
is_alternation_literal (literal bytes) = true
is_alternation_literal (alternation subs) = are_literals subs
is_alternation_literal empty = false
is_alternation_literal (class members) = false
is_alternation_literal (look kind) = false
is_alternation_literal (repetition least greatest greedy sub) = false
is_alternation_literal (capture group name sub) = false
is_alternation_literal (concat subs) = false
