-- Worked rows of literals, by evaluation of the definitions.
use Rattle.std.proofs.Common.{◌≡◌, ℕ, [], ◌∷◌, ◌++◌, Some, None, refl}
use Rattle.std.specs.Prelude.{◌+◌, true, false, List, codes, length, map, replicate, Bool}
use Prim.Native.String.{String}
use Rattle.rx_model.specs.Text.{scalar_ranges, byte_ranges, stands_at}
use Rattle.rx_model.specs.Look.{word_ascii}
use Rattle.rx_model.specs.Expression.{Expression, empty, literal, look, class, repetition, capture}
use Rattle.rx_model.proofs.worked.RowWords.{text, turn, either, star, plus}
use Rattle.rx_literal.specs.Literals.{Literal, exact, inexact, Seq, infinite, finite, cut, limited, stopped, cross, cross_on, extended_by_each}
use Rattle.rx_literal.specs.First.{all_exact, listed, first_there}
use Rattle.rx_literal.specs.Extract.{numbers, prefixes, suffixes, literals, members, each_exact, class_literals, copies, repeated, prefixes_of}
use Rattle.rx_literal.specs.Trim.{trimmed_by_preference, trimmed_for_all, longest_common_suffix, preferred, few, insert, sorted}

abbrev e : String → Literal
e s = exact (codes s)

abbrev i : String → Literal
i s = inexact (codes s)

abbrev digit : Expression
digit = class (scalar_ranges ((48, 57) ∷ []))

abbrev word : Expression
word = class (scalar_ranges ((48, 57) ∷ (65, 90) ∷ (95, 95) ∷ (97, 122) ∷ []))

abbrev times : ℕ → Expression → Expression
times n h = repetition n (Some n) true h

abbrev maybe : Expression → Expression
maybe h = repetition 0 (Some 1) true h

abbrev letters : ℕ → List ℕ
letters n = replicate n 97

-- `ab|cd`, `a*b`, and of `\w+Holmes` the suffixes and their common one
told :
    (prefixes (either (text "ab" ∷ text "cd" ∷ [])) ≡ finite (e "ab" ∷ e "cd" ∷ []))
    × (prefixes (turn (star (text "a") ∷ text "b" ∷ [])) ≡ finite (i "a" ∷ e "b" ∷ []))
    × (suffixes (turn (plus word ∷ text "Holmes" ∷ [])) ≡ finite (i "Holmes" ∷ []))
    × (longest_common_suffix (suffixes (turn (plus word ∷ text "Holmes" ∷ []))) ≡ Some (codes "Holmes"))
unfolding literals limited cut stopped cross cross_on extended_by_each copies repeated members each_exact class_literals
told = (refl, refl, refl, refl)

-- classes of 10 and 11 members, of none, and of two characters of two bytes each
classes :
    (prefixes digit ≡ finite (e "0" ∷ e "1" ∷ e "2" ∷ e "3" ∷ e "4" ∷ e "5" ∷ e "6" ∷ e "7" ∷ e "8" ∷ e "9" ∷ []))
    × (prefixes (class (scalar_ranges ((48, 58) ∷ []))) ≡ infinite)
    × (prefixes (class (byte_ranges ((0, 4) ∷ (250, 255) ∷ []))) ≡ infinite)
    × (prefixes (class (byte_ranges ((0, 1) ∷ (255, 255) ∷ []))) ≡ finite (exact (0 ∷ []) ∷ exact (1 ∷ []) ∷ exact (255 ∷ []) ∷ []))
    × (prefixes (class (byte_ranges [])) ≡ finite [])
    × (prefixes (class (scalar_ranges ((233, 234) ∷ []))) ≡ finite (exact (0xC3 ∷ 0xA9 ∷ []) ∷ exact (0xC3 ∷ 0xAA ∷ []) ∷ []))
    × (prefixes (class (scalar_ranges ((0xD7FF, 0xE000) ∷ []))) ≡ finite (exact (0xED ∷ 0x9F ∷ 0xBF ∷ []) ∷ exact (0xEE ∷ 0x80 ∷ 0x80 ∷ []) ∷ []))
unfolding literals members each_exact class_literals lib.Utf8.encode
classes = (refl, refl, refl, refl, refl, refl, refl)

-- repetitions: at their limit, with and without a greatest number, greedy and lazy
repetitions :
    (prefixes (times 2 (text "ab")) ≡ finite (e "abab" ∷ []))
    × (prefixes (times 10 (text "a")) ≡ finite (e "aaaaaaaaaa" ∷ []))
    × (prefixes (times 11 (text "a")) ≡ finite (i "aaaaaaaaaa" ∷ []))
    × (prefixes (repetition 2 (Some 3) true (text "a")) ≡ finite (i "aa" ∷ []))
    × (prefixes (repetition 2 None true (text "a")) ≡ finite (i "a" ∷ []))
    × (prefixes (maybe (text "a")) ≡ finite (e "a" ∷ e "" ∷ []))
    × (prefixes (repetition 0 (Some 1) false (text "a")) ≡ finite (e "" ∷ e "a" ∷ []))
    × (prefixes (star (text "a")) ≡ finite (i "a" ∷ e "" ∷ []))
    × (prefixes (repetition 0 None false (text "a")) ≡ finite (e "" ∷ i "a" ∷ []))
    × (prefixes (star (class (byte_ranges []))) ≡ finite (e "" ∷ []))
    × (prefixes (maybe word) ≡ infinite)
    × (prefixes (times 3 (plus (text "a"))) ≡ finite (i "a" ∷ []))
unfolding literals limited cut stopped cross cross_on extended_by_each copies repeated members each_exact class_literals
repetitions = (refl, refl, refl, refl, refl, refl, refl, refl, refl, refl, refl, refl)

-- parts in turn: captures, look-around, an empty literal first and in the middle, the order of a cross from each side
turns :
    (prefixes (turn (capture 1 None (text "ab") ∷ look word_ascii ∷ text "c" ∷ [])) ≡ finite (e "abc" ∷ []))
    × (prefixes (turn (either (text "a" ∷ text "b" ∷ []) ∷ either (text "c" ∷ text "d" ∷ []) ∷ [])) ≡ finite (e "ac" ∷ e "ad" ∷ e "bc" ∷ e "bd" ∷ []))
    × (suffixes (turn (either (text "a" ∷ text "b" ∷ []) ∷ either (text "c" ∷ text "d" ∷ []) ∷ [])) ≡ finite (e "ac" ∷ e "bc" ∷ e "ad" ∷ e "bd" ∷ []))
    × (prefixes (turn (maybe (text "a") ∷ word ∷ [])) ≡ infinite)
    × (prefixes (turn (text "a" ∷ word ∷ text "b" ∷ [])) ≡ finite (i "a" ∷ []))
    × (prefixes (turn (text "a" ∷ maybe (text "b") ∷ text "c" ∷ [])) ≡ finite (e "abc" ∷ e "ac" ∷ []))
    × (suffixes (turn (text "a" ∷ star (text "b") ∷ text "c" ∷ [])) ≡ finite (i "bc" ∷ e "ac" ∷ []))
    × (prefixes (turn (text "a" ∷ class (byte_ranges []) ∷ [])) ≡ finite [])
    × (prefixes empty ≡ finite (e "" ∷ []))
    × (prefixes (turn []) ≡ finite (e "" ∷ []))
unfolding literals limited cut stopped cross cross_on extended_by_each copies repeated members each_exact class_literals
turns = (refl, refl, refl, refl, refl, refl, refl, refl, refl, refl)

-- trimmed: one that has an earlier one as its prefix goes, and only that; duplicates; an empty literal
trimmed :
    (trimmed_by_preference (prefixes (either (text "sam" ∷ text "samwise" ∷ []))) ≡ finite (e "sam" ∷ []))
    × (trimmed_by_preference (prefixes (either (text "samwise" ∷ text "sam" ∷ []))) ≡ finite (e "samwise" ∷ e "sam" ∷ []))
    × (trimmed_by_preference (prefixes (either (text "a" ∷ text "a" ∷ text "b" ∷ []))) ≡ finite (e "a" ∷ e "b" ∷ []))
    × (trimmed_by_preference (prefixes (either (text "a" ∷ turn (text "a" ∷ star (text "b") ∷ []) ∷ []))) ≡ finite (e "a" ∷ []))
    × (trimmed_by_preference (prefixes (star (text "a"))) ≡ infinite)
    × (trimmed_by_preference infinite ≡ infinite)
    × (trimmed_for_all (finite (e "b" ∷ e "ab" ∷ e "a" ∷ i "b" ∷ e "a" ∷ [])) ≡ finite (e "a" ∷ e "ab" ∷ i "b" ∷ []))
    × (prefixes_of (text "a" ∷ text "b" ∷ []) ≡ finite (e "a" ∷ e "b" ∷ []))
    × (prefixes_of (text "a" ∷ word ∷ []) ≡ infinite)
    × (longest_common_suffix (finite (e "abc" ∷ i "bbc" ∷ e "c" ∷ [])) ≡ Some (codes "c"))
    × (longest_common_suffix (finite (e "abc" ∷ e "d" ∷ [])) ≡ Some [])
    × (longest_common_suffix (finite []) ≡ None)
    × (longest_common_suffix infinite ≡ None)
unfolding literals limited cut stopped cross cross_on extended_by_each copies repeated members each_exact class_literals trimmed_by_preference preferred few insert sorted
trimmed = (refl, refl, refl, refl, refl, refl, refl, refl, refl, refl, refl, refl, refl)

-- how many literals, and whether each is exact
abbrev size : Seq → ℕ × Bool
size ss = (length (listed ss), all_exact ss)

-- one literal for each number from 1 to n
abbrev some : (ℕ → Literal) → ℕ → List Literal
some one n = map one (numbers (λ k. k + 1) n 1 n)

abbrev letter : ℕ → Expression
letter n = literal (n ∷ [])

abbrev some_letters : ℕ → Expression
some_letters n = either (map letter (numbers (λ k. k + 1) n 1 n))

-- at 100 bytes and at 101, of a literal, of a cross, from behind, and within a character
long :
    (prefixes (literal (letters 100)) ≡ finite (exact (letters 100) ∷ []))
    × (prefixes (literal (letters 101)) ≡ finite (inexact (letters 100) ∷ []))
    × (suffixes (literal (98 ∷ letters 100)) ≡ finite (inexact (letters 100) ∷ []))
    × (prefixes (turn (literal (letters 60) ∷ literal (letters 40) ∷ [])) ≡ finite (exact (letters 100) ∷ []))
    × (prefixes (turn (literal (letters 60) ∷ literal (letters 41) ∷ text "b" ∷ [])) ≡ finite (inexact (letters 100) ∷ []))
    × (prefixes (literal (letters 99 ++ 0xC3 ∷ 0xA9 ∷ [])) ≡ finite (inexact (letters 99 ++ 0xC3 ∷ []) ∷ []))
unfolding literals limited cut stopped cross cross_on extended_by_each copies repeated members each_exact class_literals
long = (refl, refl, refl, refl, refl, refl)

-- at 250 literals and at 251, of a union, a cross, an option and several patterns; a cross that stops keeps what it has
many :
    (size (limited (some (λ n. exact (n ∷ [])) 250)) ≡ (250, true))
    × (limited (some (λ n. exact (n ∷ [])) 251) ≡ infinite)
    × (size (prefixes (turn (digit ∷ some_letters 25 ∷ []))) ≡ (250, true))
    × (size (prefixes (turn (digit ∷ some_letters 26 ∷ []))) ≡ (10, false))
    × (prefixes (turn (maybe (text "a") ∷ digit ∷ some_letters 26 ∷ []))
    ≡ finite (map (λ n. inexact (97 ∷ n ∷ [])) (numbers (λ k. k + 1) 10 48 57) ++ map (λ n. inexact (n ∷ [])) (numbers (λ k. k + 1) 10 48 57)))
    × (prefixes (maybe (turn (digit ∷ some_letters 25 ∷ []))) ≡ infinite)
    × (prefixes_of (turn (digit ∷ some_letters 25 ∷ []) ∷ text "a" ∷ []) ≡ infinite)
    × (size (prefixes (times 2 digit)) ≡ (100, true))
    × (size (prefixes (times 3 digit)) ≡ (100, false))
unfolding literals limited cut stopped cross cross_on extended_by_each copies repeated members each_exact class_literals lib.Utf8.encode
many = (refl, refl, refl, refl, refl, refl, refl, refl, refl)

-- at 64 literals and at 65 once trimmed: exact ones are kept, others cut to 3 bytes, and infinite where that doesn't help
few_left :
    (size (trimmed_by_preference (finite (some (λ n. inexact (n ∷ 0 ∷ [])) 64))) ≡ (64, false))
    × (trimmed_by_preference (finite (some (λ n. inexact (n ∷ 0 ∷ [])) 65)) ≡ infinite)
    × (size (trimmed_by_preference (finite (some (λ n. exact (n ∷ 0 ∷ [])) 65))) ≡ (65, true))
    × (size (trimmed_by_preference (finite (some (λ n. exact (n ∷ 0 ∷ 1 ∷ 2 ∷ [])) 65))) ≡ (65, true))
    × (trimmed_by_preference (finite (some (λ n. exact (97 ∷ 98 ∷ 99 ∷ n ∷ [])) 65)) ≡ finite (i "abc" ∷ []))
    × (size (trimmed_by_preference (finite (some (λ n. exact (97 ∷ 98 ∷ 99 ∷ n ∷ [])) 64))) ≡ (64, true))
unfolding trimmed_by_preference preferred few cut
few_left = (refl, refl, refl, refl, refl, refl)

-- `a|abb*` trimmed is exact, though it isn't before; its first run ends with `a`
either_way :
    (prefixes (either (text "a" ∷ turn (text "a" ∷ text "b" ∷ star (text "b") ∷ []) ∷ [])) ≡ finite (e "a" ∷ i "abb" ∷ e "ab" ∷ []))
    × (all_exact (trimmed_by_preference (prefixes (either (text "a" ∷ turn (text "a" ∷ text "b" ∷ star (text "b") ∷ []) ∷ [])))) ≡ true)
    × (first_there (codes "xabb") 4 1 (e "a" ∷ []) ≡ Some 2)
    × (first_there (codes "xabb") 4 1 (e "abbb" ∷ e "ab" ∷ e "a" ∷ []) ≡ Some 3)
    × (first_there (codes "xabb") 2 1 (e "abb" ∷ e "ab" ∷ e "a" ∷ []) ≡ Some 2)
    × (first_there (codes "xabb") 4 0 (e "a" ∷ []) ≡ None)
unfolding literals limited cut stopped cross cross_on extended_by_each copies repeated members each_exact class_literals trimmed_by_preference preferred few stands_at
either_way = (refl, refl, refl, refl, refl, refl)

-- an empty literal first, last and in the middle
empties :
    (prefixes (either (empty ∷ text "a" ∷ [])) ≡ finite (e "" ∷ e "a" ∷ []))
    × (prefixes (either (text "a" ∷ empty ∷ [])) ≡ finite (e "a" ∷ e "" ∷ []))
    × (prefixes (either (text "a" ∷ empty ∷ text "b" ∷ [])) ≡ finite (e "a" ∷ e "" ∷ e "b" ∷ []))
    × (prefixes (turn (either (text "a" ∷ empty ∷ text "b" ∷ []) ∷ text "c" ∷ [])) ≡ finite (e "ac" ∷ e "c" ∷ e "bc" ∷ []))
    × (suffixes (turn (text "c" ∷ either (text "a" ∷ empty ∷ text "b" ∷ []) ∷ [])) ≡ finite (e "ca" ∷ e "c" ∷ e "cb" ∷ []))
    × (prefixes (turn (either (text "a" ∷ empty ∷ text "b" ∷ []) ∷ word ∷ [])) ≡ infinite)
    × (suffixes (turn (word ∷ either (text "a" ∷ empty ∷ text "b" ∷ []) ∷ [])) ≡ infinite)
    × (trimmed_by_preference (prefixes (either (text "a" ∷ empty ∷ text "b" ∷ []))) ≡ infinite)
    × (trimmed_for_all (prefixes (either (text "b" ∷ empty ∷ text "a" ∷ []))) ≡ finite (e "" ∷ e "a" ∷ e "b" ∷ []))
    × (longest_common_suffix (suffixes (either (text "a" ∷ empty ∷ text "b" ∷ []))) ≡ Some [])
unfolding literals limited cut stopped cross cross_on extended_by_each copies repeated members each_exact class_literals trimmed_by_preference preferred few insert sorted
empties = (refl, refl, refl, refl, refl, refl, refl, refl, refl, refl)

-- counts: from none on, past 10 copies, and copies of several literals
counts :
    (prefixes (repetition 0 (Some 2) true (text "ab")) ≡ finite (i "ab" ∷ e "" ∷ []))
    × (prefixes (repetition 0 (Some 2) false (text "ab")) ≡ finite (e "" ∷ i "ab" ∷ []))
    × (prefixes (repetition 0 (Some 2) true word) ≡ infinite)
    × (prefixes (repetition 10 (Some 12) true (text "a")) ≡ finite (i "aaaaaaaaaa" ∷ []))
    × (prefixes (repetition 10 None true (text "a")) ≡ finite (i "a" ∷ []))
    × (prefixes (times 12 (text "ab")) ≡ finite (i "abababababababababab" ∷ []))
    × (suffixes (repetition 10 (Some 12) false (text "ab")) ≡ finite (i "abababababababababab" ∷ []))
    × (prefixes (repetition 2 (Some 4) true (either (text "a" ∷ text "b" ∷ []))) ≡ finite (i "aa" ∷ i "ab" ∷ i "ba" ∷ i "bb" ∷ []))
    × (suffixes (times 2 (either (text "ab" ∷ text "c" ∷ []))) ≡ finite (e "abab" ∷ e "cab" ∷ e "abc" ∷ e "cc" ∷ []))
    × (prefixes (times 3 (maybe (text "a"))) ≡ finite (e "aaa" ∷ e "aa" ∷ e "aa" ∷ e "a" ∷ e "aa" ∷ e "a" ∷ e "a" ∷ e "" ∷ []))
    × (trimmed_for_all (prefixes (times 3 (maybe (text "a")))) ≡ finite (e "" ∷ e "a" ∷ e "aa" ∷ e "aaa" ∷ []))
unfolding literals limited cut stopped cross cross_on extended_by_each copies repeated members each_exact class_literals insert sorted
counts = (refl, refl, refl, refl, refl, refl, refl, refl, refl, refl, refl)

-- captures, and look-around inside
inside :
    (prefixes (capture 1 (Some (codes "x")) (either (text "a" ∷ text "b" ∷ []))) ≡ finite (e "a" ∷ e "b" ∷ []))
    × (prefixes (star (capture 1 None (text "a"))) ≡ finite (i "a" ∷ e "" ∷ []))
    × (prefixes (times 2 (capture 1 None (turn (look word_ascii ∷ text "a" ∷ [])))) ≡ finite (e "aa" ∷ []))
    × (prefixes (turn (text "a" ∷ look word_ascii ∷ text "b" ∷ [])) ≡ finite (e "ab" ∷ []))
    × (suffixes (turn (text "a" ∷ capture 1 None (turn (text "b" ∷ look word_ascii ∷ [])) ∷ [])) ≡ finite (e "ab" ∷ []))
    × (prefixes (either (look word_ascii ∷ text "a" ∷ [])) ≡ finite (e "" ∷ e "a" ∷ []))
    × (prefixes (star (look word_ascii)) ≡ finite (i "" ∷ e "" ∷ []))
    × (prefixes (turn (star (look word_ascii) ∷ text "a" ∷ [])) ≡ finite (i "" ∷ e "a" ∷ []))
unfolding literals limited cut stopped cross cross_on extended_by_each copies repeated
inside = (refl, refl, refl, refl, refl, refl, refl, refl)

-- duplicates, and a literal that is another's prefix, before it and after it
before_and_after :
    (prefixes (turn (either (text "a" ∷ text "ab" ∷ []) ∷ either (text "c" ∷ empty ∷ []) ∷ [])) ≡ finite (e "ac" ∷ e "a" ∷ e "abc" ∷ e "ab" ∷ []))
    × (trimmed_by_preference (finite (e "ac" ∷ e "a" ∷ e "abc" ∷ e "ab" ∷ [])) ≡ finite (e "ac" ∷ e "a" ∷ []))
    × (trimmed_for_all (finite (e "ac" ∷ e "a" ∷ e "abc" ∷ e "ab" ∷ [])) ≡ finite (e "a" ∷ e "ab" ∷ e "abc" ∷ e "ac" ∷ []))
    × (trimmed_by_preference (prefixes_of (text "abc" ∷ text "a" ∷ text "ab" ∷ text "abc" ∷ text "b" ∷ [])) ≡ finite (e "abc" ∷ e "a" ∷ e "b" ∷ []))
    × (trimmed_by_preference (finite (i "ab" ∷ e "abc" ∷ e "ab" ∷ [])) ≡ finite (i "ab" ∷ []))
    × (trimmed_for_all (finite (i "ab" ∷ e "ab" ∷ e "ab" ∷ [])) ≡ finite (i "ab" ∷ []))
unfolding literals limited cut stopped cross cross_on extended_by_each trimmed_by_preference preferred few insert sorted
before_and_after = (refl, refl, refl, refl, refl, refl)

-- characters of two, three and four bytes at the limits of 100 bytes and of 3
characters :
    (prefixes (literal (letters 98 ++ 0xC3 ∷ 0xA9 ∷ [])) ≡ finite (exact (letters 98 ++ 0xC3 ∷ 0xA9 ∷ []) ∷ []))
    × (prefixes (literal (letters 98 ++ 0xE2 ∷ 0x82 ∷ 0xAC ∷ [])) ≡ finite (inexact (letters 98 ++ 0xE2 ∷ 0x82 ∷ []) ∷ []))
    × (prefixes (literal (letters 97 ++ 0xF0 ∷ 0x9F ∷ 0x98 ∷ 0x80 ∷ [])) ≡ finite (inexact (letters 97 ++ 0xF0 ∷ 0x9F ∷ 0x98 ∷ []) ∷ []))
    × (suffixes (literal (0xC3 ∷ 0xA9 ∷ letters 99)) ≡ finite (inexact (0xA9 ∷ letters 99) ∷ []))
    × (prefixes (turn (literal (letters 99) ∷ class (scalar_ranges ((233, 234) ∷ [])) ∷ [])) ≡ finite
    (inexact (letters 99 ++ 0xC3 ∷ []) ∷ inexact (letters 99 ++ 0xC3 ∷ []) ∷ []))
    × (suffixes (turn (class (scalar_ranges ((233, 233) ∷ [])) ∷ literal (letters 99) ∷ [])) ≡ finite (inexact (0xA9 ∷ letters 99) ∷ []))
    × (trimmed_by_preference (finite (some (λ n. exact (97 ∷ 0xC3 ∷ 0xA9 ∷ n ∷ [])) 65)) ≡ finite (inexact (97 ∷ 0xC3 ∷ 0xA9 ∷ []) ∷ []))
    × (trimmed_by_preference (finite (some (λ n. inexact (97 ∷ 98 ∷ 0xC3 ∷ n ∷ [])) 65)) ≡ finite (inexact (97 ∷ 98 ∷ 0xC3 ∷ []) ∷ []))
unfolding literals limited cut stopped cross cross_on extended_by_each copies repeated members each_exact class_literals trimmed_by_preference preferred few lib.Utf8.encode
characters = (refl, refl, refl, refl, refl, refl, refl, refl)

-- a class of 10 and of 11 in a cross; 250 and 251 literals of a cross with an inexact one, and of an option; 11 copies and more
at_the_limits :
    (size (prefixes (turn (text "x" ∷ digit ∷ []))) ≡ (10, true))
    × (prefixes (turn (text "x" ∷ class (byte_ranges ((48, 58) ∷ [])) ∷ [])) ≡ finite (i "x" ∷ []))
    × (suffixes (turn (class (byte_ranges ((48, 58) ∷ [])) ∷ text "x" ∷ [])) ≡ finite (i "x" ∷ []))
    × (prefixes (either (text "a" ∷ turn (text "b" ∷ word ∷ []) ∷ [])) ≡ finite (e "a" ∷ i "b" ∷ []))
    × (size (prefixes (turn (either (text "a" ∷ turn (text "b" ∷ word ∷ []) ∷ []) ∷ some_letters 249 ∷ []))) ≡ (250, false))
    × (prefixes (turn (either (text "a" ∷ turn (text "b" ∷ word ∷ []) ∷ []) ∷ some_letters 250 ∷ [])) ≡ finite (i "a" ∷ i "b" ∷ []))
    × (size (prefixes (maybe (some_letters 249))) ≡ (250, true))
    × (prefixes (maybe (some_letters 250)) ≡ infinite)
    × (prefixes (repetition 11 (Some 12) true (text "a")) ≡ finite (i "aaaaaaaaaa" ∷ []))
    × (prefixes (turn (times 10 (text "a") ∷ text "b" ∷ [])) ≡ finite (e "aaaaaaaaaab" ∷ []))
    × (prefixes (turn (times 11 (text "a") ∷ text "b" ∷ [])) ≡ finite (i "aaaaaaaaaa" ∷ []))
unfolding literals limited cut stopped cross cross_on extended_by_each copies repeated members each_exact class_literals lib.Utf8.encode
at_the_limits = (refl, refl, refl, refl, refl, refl, refl, refl, refl, refl, refl)
