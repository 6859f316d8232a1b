-- What an expression weighs: what is accounted for it, and what its weight depends on where it is a part of another one.
use Rattle.std.specs.Prelude.{◌≡◌, ℕ, zero, suc, ◌+◌, ◌<◌, min, max, Bool, true, false, ◌&&◌, List, length, Option, Some, None, Result, Ok, MatchResult, if◌then◌else◌}
use Rattle.std.specs.Int.NonZero.{non_zero_usize_get}
use Rattle.rx_model.specs.Expression.{Expression, empty, literal, class, look, repetition, capture, concat, alternation}
use Rattle.rx_model.specs.Search.{greatest_group}
use Rattle.rx_hir.specs.Cost.{states_of_copies, accounted_states, accounted_in, nfa_states, slots_of, capped}
use Rattle.rx_hir.specs.Length.{maximum_len}
use Rattle.rx_hir.specs.Normal.{fail, is_zero, at_most_one, list_of}
use Rattle.rx_reader.specs.Refusal.{Refuses}
use Rattle.rx_reader.specs.declared.error.ParseError.{ParseError}
use Rattle.rx_reader.specs.declared.error.SyntaxError.{SyntaxError}
use Rattle.rx_reader.specs.declared.group_kind.GroupKind.{GroupKind}
use Rattle.rx_reader.specs.declared.group_kind.GroupKind.TheVariants.{NonCapturing, CaptureIndex, CaptureName}
use Rattle.rx_syntax.specs.Classes.{scalar_class}
use Rattle.rx_syntax.specs.Named.{scalars_of}
use Rattle.rx_syntax.specs.declared.named.SetKey.{SetKey}
use Rattle.rx_syntax.specs.declared.weight.Shape.{Shape}
use Rattle.rx_syntax.specs.declared.weight.Shape.TheVariants.{Empty, Alternatives, Other}
use Rattle.rx_syntax.specs.declared.weight.Weight.{Weight}
use Rattle.rx_syntax.specs.declared.weight.Weights.{Weights}

-- what it is to a concatenation or an alternation around it: nothing, an alternation with the states of its
-- alternatives, or any other
abbrev pub shape_of : Expression → Shape
shape_of empty = Empty
shape_of (literal bytes) = Other
shape_of (class members) = Other
shape_of (look kind) = Other
shape_of (repetition least greatest greedy sub) = Other
shape_of (capture group name sub) = Other
shape_of (concat subs) = Other
shape_of (alternation subs) = Alternatives (capped (accounted_in subs))

-- its accounted states, its shape, whether its greatest length is 0, and its greatest group
abbrev pub weight_of : Expression → Weight
weight_of h =
    record { states = capped (accounted_states h); shape = shape_of h; is_null = is_zero (maximum_len h); greatest_group = greatest_group h }

-- that of a named set's class
abbrev pub set_weight : SetKey → Weight
set_weight key = weight_of (scalar_class (scalars_of key))

-- what several patterns weigh: their slots, and the states that are accounted for their NFA
abbrev pub weights_of : List Expression → Weights
weights_of hs = record { slots = capped (slots_of hs); states = capped (nfa_states hs) }

-- How the weight of a part enters that of the whole.

abbrev pub is_nothing : Shape → Bool
is_nothing Empty = true
is_nothing (Alternatives n) = false
is_nothing Other = false

abbrev pub in_row : Weight → Weight → Weight
in_row a b = record {
  states = capped (a.states + b.states);
  shape = Other;
  is_null = a.is_null && b.is_null;
  greatest_group = max a.greatest_group b.greatest_group;
}

-- one after another
abbrev pub followed : Weight → Weight → Weight
followed a b = if is_nothing a.shape then b else if is_nothing b.shape then a else in_row a b

abbrev pub alternatives_in : Shape → (states : ℕ) → ℕ
alternatives_in Empty states = states
alternatives_in (Alternatives n) states = n
alternatives_in Other states = states

-- one or the other
abbrev pub either : Weight → Weight → Weight
either a b =
    let n = capped (alternatives_in a.shape a.states + alternatives_in b.shape b.states) in
    record { states = capped (n + 1); shape = Alternatives n; is_null = a.is_null && b.is_null; greatest_group = max a.greatest_group b.greatest_group }

abbrev pub either_of : Option Weight → Weight → Weight
either_of None w = w
either_of (Some before) w = either before w

-- of those so far, if there are any
abbrev pub choice_weight : Option Weight → Weight
choice_weight None = weight_of fail
choice_weight (Some w) = w

abbrev pub some_copies : ℕ → Option ℕ → Weight → Weight
some_copies least greatest w =
    record { states = capped (states_of_copies least greatest w.states); shape = Other; is_null = w.is_null; greatest_group = w.greatest_group }

abbrev pub copies : ℕ → Option ℕ → Weight → Weight
copies zero (Some zero) w = weight_of empty
copies (suc zero) (Some (suc zero)) w = w
copies least greatest w = some_copies least greatest w

-- least to greatest copies
abbrev pub repeated : ℕ → Option ℕ → Weight → Weight
repeated least greatest w =
    if w.is_null then copies (min least 1) (Some (at_most_one greatest)) w else copies least greatest w

abbrev pub captured : ℕ → Weight → Weight
captured group w =
    record { states = capped (w.states + 2); shape = Other; is_null = w.is_null; greatest_group = max group w.greatest_group }

abbrev pub grouped : GroupKind → Weight → Weight
grouped NonCapturing w = w
grouped (CaptureIndex number) w = captured (non_zero_usize_get number) w
grouped (CaptureName number name) w = captured (non_zero_usize_get number) w

-- an expression that has no parts
abbrev pub IsAtom : Expression → Type 0
IsAtom empty = Unit {0}
IsAtom (literal bytes) = Unit {0}
IsAtom (class members) = Unit {0}
IsAtom (look kind) = Unit {0}
IsAtom (repetition least greatest greedy sub) = ⊥
IsAtom (capture group name sub) = ⊥
IsAtom (concat subs) = ⊥
IsAtom (alternation subs) = ⊥

-- a concatenation and an alternation have more than one part
abbrev pub IsNormal : Expression → Type 0
IsNormal empty = Unit {0}
IsNormal (literal bytes) = Unit {0}
IsNormal (class members) = Unit {0}
IsNormal (look kind) = Unit {0}
IsNormal (repetition least greatest greedy sub) = Unit {0}
IsNormal (capture group name sub) = Unit {0}
IsNormal (concat subs) = 1 < length (list_of subs)
IsNormal (alternation subs) = 1 < length (list_of subs)

-- the weight is that of the expression, which is asked for and is in normal form
pub record IsWeightOf (asked : Result Expression SyntaxError) (w : Weight) : Type 0 where
  pub expression : Expression
  pub is : asked ≡ Ok expression
  pub weight : w ≡ weight_of expression
  pub normal : IsNormal expression

-- the weight of the expression that is asked for, or the refusal, or memory ran out
abbrev pub Weighs : Result Weight ParseError → Result Expression SyntaxError → Type 0
Weighs result asked = MatchResult result (λ w. IsWeightOf asked w) (λ e. Refuses e asked)

-- the weights are those of the expressions, of which there are so many, that are asked for
pub record AreWeightsOf {E : Type 0} (asked : Result (List Expression) E) (count : ℕ) (w : Weights) : Type 0 where
  pub expressions : List Expression
  pub are : asked ≡ Ok expressions
  pub counted : length expressions ≡ count
  pub weights : w ≡ weights_of expressions
