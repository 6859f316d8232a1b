-- Worked rows of keys and of what they answer, on small NFAs, by evaluation of the definitions.
use Rattle.std.proofs.Common.{◌≡◌, ℕ, [], ◌∷◌, List, Some, None, refl}
use Rattle.std.specs.Prelude.{true, false, not, Option, option_map, if◌then◌else◌, ◌==◌}
use Rattle.std.specs.Bool.{beq}
use Rattle.unicode.specs.Perl.{is_word_byte}
use Rattle.rx_model.specs.Look.{is_some_and, holds}
use Rattle.rx_search.specs.declared.look.Look.TheVariants.{WordAscii, WordAsciiNegate}
use Rattle.rx_model.specs.Search.{Anchor, free, anchored, anchored_to, first_start}
use Rattle.rx_model.specs.Runs.{first_past, first_within}
use Rattle.rx_model.specs.Machine.{graph_of}
use Rattle.rx_search.specs.Matches.{HalfMatchValue, half_match_value}
use Rattle.rx_nfa.specs.Automaton.{automaton_over, forwards}
use Rattle.rx_nfa.specs.Ordered.{close, threads_from}
use Rattle.rx_search.specs.declared.anchored.MatchKind.TheVariants.{All, LeftmostFirst}
use Rattle.rx_nfa.specs.Nfa.{Nfa}
use Rattle.rx_nfa.specs.NextMatch.{next_match_of}
use Rattle.rx_nfa.specs.declared.state.State.{State}
use Rattle.rx_nfa.specs.declared.state.State.TheVariants.{Sparse, ByteRange, Look, Union, Match}
use Rattle.rx_determinize.specs.Key.{Sight, start_key, step_key, end_key, is_dead}
use Rattle.rx_determinize.specs.Permitted.{run_within, answer_within, permitted_answer_of}
use Rattle.rx_determinize.specs.Span.{run_keys, key_at, told_at, answer_of}

-- on this byte
abbrev byte : ℕ → ℕ → State
byte b next = ByteRange b b next

-- an NFA of these states, which starts at the first, and whose patterns start at these
abbrev nfa_of : List State → List ℕ → Nfa
nfa_of states starts = record {
  states = states;
  start_anchored = 0;
  starts = starts;
  slots = 0;
  groups = [];
  utf8 = false;
  reverse = false;
  terminator = 10;
  looks = 0;
  classes = [];
  always_start_anchored = false;
  has_empty = false;
  accounted = 0;
}

-- sees no look-around
abbrev blind : Sight
blind = record { class = λ b. None; holds = λ before after kind. false }

abbrev answer_blind : Nfa → List ℕ → Anchor → (b a : ℕ) → Option HalfMatchValue
answer_blind nfa text anchor b a = answer_of nfa blind text anchor None b a

-- sees `\b` for ASCII: a word byte is of class 1
abbrev words : Sight
words = record {
  class = λ b. Some (if is_word_byte b then 1 else 0);
  holds = λ before after kind. not (beq (is_some_and before (λ c. c == 1)) (is_some_and after is_word_byte));
}

-- a match of the pattern that ends here
abbrev ends : ℕ → ℕ → Option HalfMatchValue
ends pattern end = Some (record { pattern = pattern; offset = end })

-- `a|ab`
abbrev a_or_ab : List State
a_or_ab = Union (1 ∷ 3 ∷ []) ∷ byte 97 2 ∷ Match 0 ∷ byte 97 4 ∷ byte 98 2 ∷ []

starts_both : start_key LeftmostFirst a_or_ab 0 true None ≡ record { threads = 1 ∷ 3 ∷ []; loops = true; matches = []; before = None }
unfolding start_key close
starts_both = refl

-- the list is cut after the first that accepts, and the loop with it; the match is not yet told
cut_after_match : step_key LeftmostFirst a_or_ab 0 blind (start_key LeftmostFirst a_or_ab 0 true None) 97
    ≡ record { threads = 2 ∷ []; loops = false; matches = []; before = None }
unfolding start_key step_key close
cut_after_match = refl

-- it is told after the next byte, or after the end of input
told_late : step_key LeftmostFirst a_or_ab 0 blind (step_key LeftmostFirst a_or_ab 0 blind (start_key LeftmostFirst a_or_ab 0 true None) 97) 98
    ≡ record { threads = []; loops = false; matches = 0 ∷ []; before = None }
unfolding start_key step_key close
told_late = refl

told_at_end : end_key LeftmostFirst a_or_ab blind (step_key LeftmostFirst a_or_ab 0 blind (start_key LeftmostFirst a_or_ab 0 true None) 97) None
    ≡ record { threads = []; loops = false; matches = 0 ∷ []; before = None }
unfolding start_key step_key end_key close
told_at_end = refl

-- of `ab` the first alternative takes one byte
first_alternative : answer_blind (nfa_of a_or_ab (0 ∷ [])) (97 ∷ 98 ∷ []) free 2 0 ≡ ends 0 1
unfolding start_key step_key end_key close run_keys
first_alternative = refl

-- a byte that leads nowhere, anchored: a dead key
dies : is_dead (step_key LeftmostFirst a_or_ab 0 blind (start_key LeftmostFirst a_or_ab 0 false None) 98) ≡ true
unfolding start_key step_key close
dies = refl

-- and unanchored: the start again
goes_on : step_key LeftmostFirst a_or_ab 0 blind (start_key LeftmostFirst a_or_ab 0 true None) 98 ≡ start_key LeftmostFirst a_or_ab 0 true None
unfolding start_key step_key close
goes_on = refl

later_start : answer_blind (nfa_of a_or_ab (0 ∷ [])) (120 ∷ 97 ∷ 98 ∷ []) free 3 0 ≡ ends 0 2
unfolding start_key step_key end_key close run_keys
later_start = refl

no_later_start : answer_blind (nfa_of a_or_ab (0 ∷ [])) (120 ∷ 97 ∷ 98 ∷ []) anchored 3 0 ≡ None
unfolding start_key step_key end_key close run_keys
no_later_start = refl

-- `a*`: the empty match at the start is met, and then the longer ones
abbrev star_a : List State
star_a = Union (1 ∷ 2 ∷ []) ∷ byte 97 0 ∷ Match 0 ∷ []

many : answer_blind (nfa_of star_a (0 ∷ [])) (97 ∷ 97 ∷ 98 ∷ []) free 3 0 ≡ ends 0 2
unfolding start_key step_key end_key close run_keys
many = refl

empty : answer_blind (nfa_of star_a (0 ∷ [])) (98 ∷ 97 ∷ []) free 2 0 ≡ ends 0 0
unfolding start_key step_key end_key close run_keys
empty = refl

-- the search ends with its span
within_span : answer_blind (nfa_of star_a (0 ∷ [])) (97 ∷ 97 ∷ 97 ∷ []) free 2 1 ≡ ends 0 2
unfolding start_key step_key end_key close run_keys
within_span = refl

-- `a*?b`
abbrev few_as_b : List State
few_as_b = Union (2 ∷ 1 ∷ []) ∷ byte 97 0 ∷ byte 98 3 ∷ Match 0 ∷ []

few : answer_blind (nfa_of few_as_b (0 ∷ [])) (97 ∷ 97 ∷ 98 ∷ []) anchored 3 0 ≡ ends 0 3
unfolding start_key step_key end_key close run_keys
few = refl

-- no state stands twice on the list: the thread that began first goes before the one of the loop
once : step_key LeftmostFirst few_as_b 0 blind (start_key LeftmostFirst few_as_b 0 true None) 97
    ≡ record { threads = 2 ∷ 1 ∷ []; loops = true; matches = []; before = None }
unfolding start_key step_key close
once = refl

-- `(a|b)*c`: after an `a` and after a `b` the DFA is in one state
abbrev any_c : List State
any_c = Union (1 ∷ 4 ∷ []) ∷ Union (2 ∷ 3 ∷ []) ∷ byte 97 0 ∷ byte 98 0 ∷ byte 99 5 ∷ Match 0 ∷ []

one_key : step_key LeftmostFirst any_c 0 blind (start_key LeftmostFirst any_c 0 false None) 97 ≡ step_key LeftmostFirst any_c 0 blind
    (start_key LeftmostFirst any_c 0 false None) 98
unfolding start_key step_key close
one_key = refl

repeated : answer_blind (nfa_of any_c (0 ∷ [])) (98 ∷ 97 ∷ 99 ∷ 99 ∷ []) anchored 4 0 ≡ ends 0 3
unfolding start_key step_key end_key close run_keys
repeated = refl

-- patterns `abc` and `b`: the one that starts first wins, though it ends later
abbrev two : List State
two = Union (1 ∷ 4 ∷ []) ∷ byte 97 2 ∷ byte 98 3 ∷ byte 99 6 ∷ byte 98 5 ∷ Match 1 ∷ Match 0 ∷ []

earlier_start : answer_blind (nfa_of two (1 ∷ 4 ∷ [])) (97 ∷ 98 ∷ 99 ∷ []) free 3 0 ≡ ends 0 3
unfolding start_key step_key end_key close run_keys
earlier_start = refl

-- and where it comes to nothing the other's match was not forgotten
other_kept : answer_blind (nfa_of two (1 ∷ 4 ∷ [])) (97 ∷ 98 ∷ 120 ∷ []) free 3 0 ≡ ends 1 2
unfolding start_key step_key end_key close run_keys
other_kept = refl

-- one pattern alone
one_pattern : answer_blind (nfa_of two (1 ∷ 4 ∷ [])) (98 ∷ 98 ∷ []) (anchored_to 1) 2 1 ≡ ends 1 2
unfolding start_key step_key end_key close run_keys
one_pattern = refl

no_pattern : answer_blind (nfa_of two (1 ∷ 4 ∷ [])) (98 ∷ 98 ∷ []) (anchored_to 2) 2 1 ≡ None
unfolding start_key step_key end_key close run_keys
no_pattern = refl

-- the next match itself, by evaluation
as_the_model : option_map half_match_value (next_match_of (nfa_of two (1 ∷ 4 ∷ [])) false (97 ∷ 98 ∷ 120 ∷ []) free 3 0) ≡ ends 1 2
unfolding next_match_of first_start first_past first_within automaton_over graph_of holds
as_the_model = refl

-- `\ba`: the threads wait for the byte to come, and with them the class of the last byte is kept
abbrev word_a : List State
word_a = Look WordAscii 1 ∷ byte 97 2 ∷ Match 0 ∷ []

waits : start_key LeftmostFirst word_a 0 true None ≡ record { threads = 0 ∷ []; loops = true; matches = []; before = None }
unfolding start_key close
waits = refl

after_word : step_key LeftmostFirst word_a 0 words (start_key LeftmostFirst word_a 0 true None) 98
    ≡ record { threads = 0 ∷ []; loops = true; matches = []; before = Some 1 }
unfolding start_key step_key close
after_word = refl

second_word : answer_of (nfa_of word_a (0 ∷ [])) words (98 ∷ 97 ∷ 32 ∷ 97 ∷ []) free None 4 0 ≡ ends 0 4
unfolding start_key step_key end_key close run_keys
second_word = refl

-- the byte before the span is seen: here it is a word byte
beside : answer_of (nfa_of word_a (0 ∷ [])) words (97 ∷ 97 ∷ []) free (Some 1) 2 1 ≡ None
unfolding start_key step_key end_key close run_keys
beside = refl

-- and so is the byte after it: `a\b` on `aa`, within the first byte
abbrev a_word : List State
a_word = byte 97 1 ∷ Look WordAscii 2 ∷ Match 0 ∷ []

beside_end : answer_of (nfa_of a_word (0 ∷ [])) words (97 ∷ 97 ∷ []) free None 1 0 ≡ None
unfolding start_key step_key end_key close run_keys
beside_end = refl

at_text_end : answer_of (nfa_of a_word (0 ∷ [])) words (97 ∷ 97 ∷ []) free None 2 0 ≡ ends 0 2
unfolding start_key step_key end_key close run_keys
at_text_end = refl

-- `(?:\b(?:|a))*a`: where look-around waits, all the states that were come to stand on the list, also those that a thread
-- doesn't stay at. The first run may pass a state once only, and so the closure must know where a thread came from.
abbrev turns : List State
turns = Union (1 ∷ 4 ∷ []) ∷ Look WordAscii 2 ∷ Union (0 ∷ 3 ∷ []) ∷ byte 97 0 ∷ byte 97 5 ∷ Match 0 ∷ []

all_stand : start_key LeftmostFirst turns 0 false None ≡ record { threads = 0 ∷ 1 ∷ 4 ∷ []; loops = false; matches = []; before = None }
unfolding start_key close
all_stand = refl

-- from all of them the closure is in the right order
in_order : threads_from turns (λ kind. true) (0 ∷ 1 ∷ 4 ∷ []) ≡ 3 ∷ 4 ∷ []
unfolding close
in_order = refl

-- from the states that wait or read alone it is not: that key would end the match a byte too early
out_of_order : threads_from turns (λ kind. true) (1 ∷ 4 ∷ []) ≡ 4 ∷ 3 ∷ []
unfolding close
out_of_order = refl

turns_answer : answer_of (nfa_of turns (0 ∷ [])) words (97 ∷ 97 ∷ []) anchored None 2 0 ≡ ends 0 2
unfolding start_key step_key end_key close run_keys
turns_answer = refl

turns_model : option_map half_match_value (next_match_of (nfa_of turns (0 ∷ [])) false (97 ∷ 97 ∷ []) anchored 2 0) ≡ ends 0 2
unfolding next_match_of first_start first_past first_within automaton_over graph_of holds
turns_model = refl

-- No match may start inside a character. `(?-u:\\B)|a☃` on `a☃b`: an empty match at 2, inside the character, is not recorded,
-- and the thread that began at 0 goes on.
abbrev not_word_or_snow : List State
not_word_or_snow = Union (1 ∷ 3 ∷ []) ∷ Look WordAsciiNegate 2 ∷ Match 0 ∷ byte 97 4 ∷ byte 0xE2 5 ∷ byte 0x98 6 ∷ byte 0x83 2 ∷ []

abbrev not_words : Sight
not_words = record {
  class = λ b. Some (if is_word_byte b then 1 else 0);
  holds = λ before after kind. beq (is_some_and before (λ c. c == 1)) (is_some_and after is_word_byte);
}

snow : permitted_answer_of (nfa_of not_word_or_snow (0 ∷ [])) not_words (97 ∷ 0xE2 ∷ 0x98 ∷ 0x83 ∷ 98 ∷ []) free None 5 0 ≡ ends 0 4
unfolding start_key step_key end_key close run_within answer_within
snow = refl

-- and where nothing was recorded the search begins again behind it, here twice: at 3 after the end at 2 was refused, and at 4
snow_again : permitted_answer_of (nfa_of (Look WordAsciiNegate 1 ∷ Match 0 ∷ []) (0 ∷ [])) not_words (97 ∷ 0xE2 ∷ 0x98 ∷ 0x83 ∷ 32 ∷ []) free None 5 0 ≡ ends 0
    4
unfolding start_key step_key end_key close run_within answer_within
snow_again = refl

-- not so where the search is anchored
snow_anchored : permitted_answer_of (nfa_of (Look WordAsciiNegate 1 ∷ Match 0 ∷ []) (0 ∷ [])) not_words (97 ∷ 0xE2 ∷ 0x98 ∷ 0x83 ∷ 32 ∷ []) anchored (Some 0) 5
    2 ≡ None
unfolding start_key step_key end_key close run_within answer_within
snow_anchored = refl

too_early : run_keys LeftmostFirst turns 0 words (forwards 10 (97 ∷ 97 ∷ [])) 2 2 0
    (record { threads = 1 ∷ 4 ∷ []; loops = false; matches = []; before = None }) None ≡ ends 0 1
unfolding start_key step_key end_key close run_keys
too_early = refl

-- The same of an NFA in the shape in which a repetition is compiled whose body can be empty: `(?:(?-u:\B)(?:|[-+]))*\+` on
-- `-++`.
abbrev signs : List State
signs =
    Union (1 ∷ 5 ∷ []) ∷ Look WordAsciiNegate 2 ∷ Union (4 ∷ 3 ∷ [])
    ∷ Sparse (record { start = 43; end = 43; next = 4 } ∷ record { start = 45; end = 45; next = 4 } ∷ [])
    ∷ Union (1 ∷ 5 ∷ []) ∷ byte 43 6 ∷ Match 0 ∷ []

signs_answer : answer_of (nfa_of signs (0 ∷ [])) not_words (45 ∷ 43 ∷ 43 ∷ []) anchored None 3 0 ≡ ends 0 3
unfolding start_key step_key end_key close run_keys
signs_answer = refl

signs_model : option_map half_match_value (next_match_of (nfa_of signs (0 ∷ [])) false (45 ∷ 43 ∷ 43 ∷ []) anchored 3 0) ≡ ends 0 3
unfolding next_match_of first_start first_past first_within automaton_over graph_of holds
signs_model = refl

-- after the first byte the repetition's choice, state 4, stands on the list
signs_after : step_key LeftmostFirst signs 0 not_words (start_key LeftmostFirst signs 0 false None) 45
    ≡ record { threads = 4 ∷ 1 ∷ 5 ∷ []; loops = false; matches = []; before = Some 0 }
unfolding start_key step_key close
signs_after = refl

-- without it the match would end a byte too early
signs_too_early : run_keys LeftmostFirst signs 0 not_words (forwards 10 (45 ∷ 43 ∷ 43 ∷ [])) 3 2 1
    (record { threads = 1 ∷ 5 ∷ []; loops = false; matches = []; before = Some 0 }) None ≡ ends 0 2
unfolding start_key step_key end_key close run_keys
signs_too_early = refl

-- Under `All` no thread is given up, and of a place all patterns are told, ascending.
told_all : told_at All two 0 blind (forwards 10 (97 ∷ 98 ∷ [])) 2 2 0 (start_key All two 0 true None) ≡ 1 ∷ []
unfolding start_key step_key end_key close key_at
told_all = refl

-- patterns `b` and `ab`: that of the greater number stands before the other on the list
abbrev both : List State
both = Union (4 ∷ 1 ∷ []) ∷ byte 97 2 ∷ byte 98 3 ∷ Match 1 ∷ byte 98 5 ∷ Match 0 ∷ []

told_ascending : told_at All both 0 blind (forwards 10 (97 ∷ 98 ∷ [])) 2 2 0 (start_key All both 0 true None) ≡ 0 ∷ 1 ∷ []
unfolding start_key step_key end_key close key_at
told_ascending = refl

last_of_all : run_keys All a_or_ab 0 blind (forwards 10 (97 ∷ 98 ∷ [])) 2 2 0 (start_key All a_or_ab 0 true None) None ≡ ends 0 2
unfolding start_key step_key end_key close run_keys
last_of_all = refl
