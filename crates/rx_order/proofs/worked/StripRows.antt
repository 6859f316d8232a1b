-- Worked rows: what is left of expressions, and the decision for whole expressions.
use Rattle.std.proofs.Common.{◌≡◌, [], ◌∷◌, Some, None, refl, arith}
use Rattle.std.specs.Prelude.{true, false, codes}
use Rattle.std.specs.Str.{is_utf8, chars}
use Rattle.std.specs.Char.{encode_utf8}
use Rattle.rx_model.specs.Text.{stands_at, member_len, scalar_ranges, byte_ranges}
use Rattle.rx_model.specs.Expression.{Expression, empty, literal, class, repetition, capture, concat, alternation, nil, cons}
use Rattle.rx_model.specs.Meaning.{Means}
use Rattle.rx_model.specs.Runs.{first_past, first_within}
use Rattle.rx_model.specs.Machine.{graph_of}
use Rattle.rx_model.specs.Graph.{build, build_pattern, runs_of}
use Rattle.rx_model.specs.Search.{first, first_of_patterns, starting_at, free, first_start, next_match, greatest_group}
use Rattle.rx_model.proofs.worked.RowWords.{patterns}
use Rattle.rx_order.specs.Order.{IsThenLiteral}
use Rattle.rx_order.specs.Tests.{can_consume, is_apart, plain_class, separator_class, last_class, are_apart_but_last, first_class, are_apart_but_first, has_last_separator, has_first_separator, separates}
use Rattle.rx_order.specs.Strip.{strip_copies, strip, strip_literal_suffix, suffix_has_no_earlier_match}

abbrev letters : Expression
letters = repetition 1 None true (class (scalar_ranges ((0x61, 0x7A) ∷ [])))

abbrev spaces : Expression
spaces = repetition 1 None true (class (scalar_ranges ((0x20, 0x20) ∷ [])))

-- `[a-z]+xyz` without `yz` is `[a-z]+x`
part_of_literal : strip_literal_suffix (concat (cons letters (cons (literal (codes "xyz")) nil))) (codes "yz")
    ≡ Some (concat (cons letters (cons (literal (codes "x")) nil)))
unfolding strip strip_copies
part_of_literal = refl

-- `(ab){2,3}` without `bab` is `(ab){0,1}a`
two_copies : strip_literal_suffix (repetition 2 (Some 3) true (capture 1 None (literal (codes "ab")))) (codes "bab")
    ≡ Some (concat (cons (repetition 0 (Some 1) true (capture 1 None (literal (codes "ab")))) (cons (literal (codes "a")) nil)))
unfolding strip strip_copies
two_copies = refl

-- `(ab)+` has no second copy for sure
used_up : strip_literal_suffix (repetition 1 None true (literal (codes "ab"))) (codes "abab") ≡ None
unfolding strip strip_copies
used_up = refl

-- `.abb|b` is refused, and so are a group of nothing, and a literal that ends otherwise
refused : (strip_literal_suffix (alternation (cons (literal (codes "ab")) (cons (literal (codes "b")) nil))) (codes "b") ≡ None)
    × (strip_literal_suffix (capture 1 None empty) (codes "b") ≡ None)
    × (strip_literal_suffix (literal (codes "cb")) (codes "ab") ≡ None)
unfolding strip strip_copies
refused = (refl, refl, refl)

-- `b{1,0}`, whose counts are not in order, means nothing, but what is left of it is the empty expression
unordered : strip_literal_suffix (repetition 1 (Some 0) true (literal (codes "b"))) (codes "b") ≡ Some empty
unfolding strip strip_copies
unordered = refl

unordered-fails : IsThenLiteral (repetition 1 (Some 0) true (literal (codes "b"))) empty (codes "b") → ⊥
unfolding Means stands_at
unordered-fails is = let m = (is 10 (codes "b") 0 1).1 (0, refl, refl, refl) in let low = m.1.0 in let high = m.1.1 in omega arith

-- `[a-z]+ +holmes`: yes, by the last part
words : suffix_has_no_earlier_match (concat (cons letters (cons spaces (cons (literal (codes "holmes")) nil)))) (codes "holmes") ≡ true
unfolding strip strip_copies can_consume has_last_separator has_first_separator last_class are_apart_but_last first_class are_apart_but_first separator_class plain_class is_apart is_utf8 chars encode_utf8
words = refl

-- `[a-z]+holmes`: no
no_space : suffix_has_no_earlier_match (concat (cons letters (cons (literal (codes "holmes")) nil))) (codes "holmes") ≡ false
unfolding strip strip_copies can_consume has_last_separator has_first_separator last_class are_apart_but_last first_class are_apart_but_first separator_class plain_class is_apart is_utf8 chars encode_utf8
no_space = refl

-- .. though the block alone keeps the order before any literal
no_space_wider : separates letters ≡ true
unfolding separates separator_class plain_class
no_space_wider = refl

-- `[\x80-\xBF]a` of bytes, on the bytes E2 98 83 61: the tests say yes, and the `a` at 3 is confirmed with the start 2,
-- which lies inside a character. Where no match may start there, there is no next match.
abbrev inside : Expression
inside = concat (cons (class (byte_ranges ((0x80, 0xBF) ∷ []))) (cons (literal (codes "a")) nil))

inside_passes : suffix_has_no_earlier_match inside (codes "a") ≡ true
unfolding strip strip_copies can_consume has_last_separator has_first_separator last_class are_apart_but_last first_class are_apart_but_first separator_class plain_class is_apart is_utf8 chars encode_utf8
inside_passes = refl

inside_means : Means 10 (0xE2 ∷ 0x98 ∷ 0x83 ∷ 0x61 ∷ []) inside 2 4
unfolding Means stands_at member_len
inside_means = (3, (1, refl, refl), (4, (refl, refl), refl))

inside_next : next_match (patterns (inside ∷ [])) (0xE2 ∷ 0x98 ∷ 0x83 ∷ 0x61 ∷ []) free 4 0 ≡ None
unfolding first first_of_patterns starting_at first_start next_match build_pattern build runs_of graph_of first_past first_within greatest_group stands_at member_len
inside_next = refl
