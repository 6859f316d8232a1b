-- Bytes that no state and no look-around of an NFA tells apart.
use Rattle.std.specs.Prelude.{◌≡◌, ℕ, ◌<◌, Bool, false, ◌||◌, List, slice_index, EachIndex}
use Rattle.std.specs.List.{list_any}
use Rattle.rx_model.specs.Look as model
use Rattle.rx_model.specs.Look.{start_text, end_text, start_lf, end_lf, start_crlf, end_crlf, word_ascii, word_ascii_negate, word_unicode, word_unicode_negate, word_start_ascii, word_end_ascii, word_start_unicode, word_end_unicode, word_start_half_ascii, word_end_half_ascii, word_start_half_unicode, word_end_half_unicode}
use Rattle.rx_search.specs.Look.{kind_of}
use Rattle.rx_search.specs.ByteClasses.{AreClasses, class_of, is_edge}
use Rattle.rx_nfa.specs.declared.state.Transition.{Transition}
use Rattle.rx_nfa.specs.declared.state.State.{State}
use Rattle.rx_nfa.specs.declared.state.State.TheVariants.{ByteRange, Sparse, Look, Union, Capture, Fail, Match}

-- one of the ranges `0-9`, `A-Z`, `_` and `a-z` begins behind the byte, or ends with it
abbrev pub is_word_edge : (byte : ℕ) → Bool
is_word_edge byte = is_edge 97 122 byte || (is_edge 95 95 byte || (is_edge 65 90 byte || is_edge 48 57 byte))

-- the same, or one of them is the bytes above 7F
abbrev pub is_char_edge : (byte : ℕ) → Bool
is_char_edge byte = is_edge 128 255 byte || is_word_edge byte

-- `\r` or `\n` comes behind the byte, or is it
abbrev pub is_crlf_edge : (byte : ℕ) → Bool
is_crlf_edge byte = is_edge 13 13 byte || is_edge 10 10 byte

-- bytes that a look-around of the kind tells from others begin behind the byte, or end with it
abbrev pub look_ends : (terminator : ℕ) → model.Look → (byte : ℕ) → Bool
look_ends terminator start_text byte = false
look_ends terminator end_text byte = false
look_ends terminator start_lf byte = is_edge terminator terminator byte
look_ends terminator end_lf byte = is_edge terminator terminator byte
look_ends terminator start_crlf byte = is_crlf_edge byte
look_ends terminator end_crlf byte = is_crlf_edge byte
look_ends terminator word_ascii byte = is_word_edge byte
look_ends terminator word_ascii_negate byte = is_word_edge byte
look_ends terminator word_unicode byte = is_char_edge byte
look_ends terminator word_unicode_negate byte = is_char_edge byte
look_ends terminator word_start_ascii byte = is_word_edge byte
look_ends terminator word_end_ascii byte = is_word_edge byte
look_ends terminator word_start_unicode byte = is_char_edge byte
look_ends terminator word_end_unicode byte = is_char_edge byte
look_ends terminator word_start_half_ascii byte = is_word_edge byte
look_ends terminator word_end_half_ascii byte = is_word_edge byte
look_ends terminator word_start_half_unicode byte = is_char_edge byte
look_ends terminator word_end_half_unicode byte = is_char_edge byte

-- bytes of one of the transitions begin behind the byte, or end with it
abbrev pub transitions_end : List Transition → (byte : ℕ) → Bool
transitions_end transitions byte = list_any (λ (t : Transition). is_edge t.start t.end byte) transitions

-- the same of a state, by the bytes that it reads or by the look-around that it asks for
abbrev pub state_ends : (terminator : ℕ) → State → (byte : ℕ) → Bool
state_ends terminator (ByteRange low high next) byte = is_edge low high byte
state_ends terminator (Sparse transitions) byte = transitions_end transitions byte
state_ends terminator (Look look next) byte = look_ends terminator (kind_of look) byte
state_ends terminator (Union alternates) byte = false
state_ends terminator (Capture next pattern slot) byte = false
state_ends terminator Fail byte = false
state_ends terminator (Match pattern) byte = false

-- a class of bytes ends behind the byte: one of the states has it so
abbrev pub class_ends : (terminator : ℕ) → List State → (byte : ℕ) → Bool
class_ends terminator states byte = list_any (λ s. state_ends terminator s byte) states

-- the bytes of one class are those that no state tells apart
unfoldable pub AreClassesOf : (terminator : ℕ) → List State → (classes : List ℕ) → Type 0
AreClassesOf terminator states classes = AreClasses classes × EachIndex classes (λ b. slice_index classes b ≡ class_of (class_ends terminator states) b)

-- they are bytes of one class
pub record AreOfOneClass (classes : List ℕ) (b c : ℕ) : Type 0 where
  pub first : b < 256
  pub second : c < 256
  pub same : slice_index classes b ≡ slice_index classes c
