-- The answer to words and an input: a status and a text.
use Rattle.std.specs.Prelude.{ℕ, ◌-◌, Bool, List, [], ◌∷◌, ◌++◌, length, map, sum_by, Option, Some, None, codes, decimal, nat_lt, nat_le, Result, Ok, Err, if◌then◌else◌}
use Rattle.std.specs.Str.{is_utf8}
use Rattle.std.specs.Str.Lossy.{utf8_valid_len}
use Rattle.rx_model.specs.Expression.{Expression}
use Rattle.rx_model.specs.Search.{Match, matches, free}
use Rattle.rx_gen.specs.Generated.{generated}
use Rattle.rx_gen.specs.Totals.{totals_of, totals_text}
use Rattle.rx_gen.specs.declared.totals.Counts.{Counts}
use Rattle.rx_hir.specs.Cost.{nfa_states}
use Rattle.rx_reader.specs.Config.{default}
use Rattle.rx_reader.specs.Refusal.{text_of}
use Rattle.rx_reader.specs.declared.error.SyntaxErrorKind.{SyntaxErrorKind}
use Rattle.rx_syntax.specs.Patterns.{Refusal, all_read}
use Rattle.rx_meta.specs.Name.{way_for, way_name}
use Rattle.rx_scan.specs.Arguments.{call_of, config_without, switched_off}
use Rattle.rx_scan.specs.Input.{lines, patterns, haystacks}
use Rattle.rx_scan.specs.Patterns.{patterns_of, are_small}
use Rattle.rx_scan.specs.Row.{scan_rows, rows_text}
use Rattle.rx_scan.specs.declared.arguments.Call.{Call}
use Rattle.rx_scan.specs.declared.arguments.Call.TheVariants.{Reading, Generate}
use Rattle.rx_scan.specs.declared.arguments.Command.{Command}
use Rattle.rx_scan.specs.declared.arguments.Command.TheVariants.{Scanning, Explain}
use Rattle.rx_scan.specs.declared.status.Status.{Status}
use Rattle.rx_scan.specs.declared.status.Status.TheVariants.{Rows, Generated, Pattern, Usage, NotUtf8, TooLong, TooBig}

pub record AnswerValue : Type 0 where
  pub status : Status
  pub text : List ℕ

abbrev pub usage : AnswerValue
usage = record { status = Usage; text = codes "usage: rxscan scan [W] [off:LETTERS]\n" }

abbrev pub too_long : AnswerValue
too_long = record { status = TooLong; text = codes "input too long\n" }

-- the longest UTF-8 prefix of the input has this length
abbrev pub not_utf8 : ℕ → AnswerValue
not_utf8 n = record { status = NotUtf8; text = codes "input is not UTF-8 at byte " ++ decimal n ++ codes "\n" }

-- this pattern is refused
abbrev pub refused : (pattern : ℕ) → SyntaxErrorKind → AnswerValue
refused p kind = record { status = Pattern; text = codes "pattern " ++ decimal p ++ codes ": " ++ text_of kind ++ codes "\n" }

abbrev pub too_big : AnswerValue
too_big = record { status = TooBig; text = codes "patterns too big\n" }

-- the rows of the successive matches of every haystack
abbrev pub all_rows : List Expression → (haystacks : List (List ℕ)) → AnswerValue
all_rows hs texts = record { status = Rows; text = rows_text 1 (map (scan_rows (patterns_of hs)) texts) }

-- a DFA of these is there, under the default configuration: for so many accounted states alone
abbrev pub has_dfa : List Expression → Bool
has_dfa hs = nat_le (nfa_states hs) 130048

-- the name of the strategy that a regex of these has under that configuration: of the first that applies
unfoldable pub strategy_name : List Expression → List ℕ
strategy_name hs = way_name (way_for (config_without (switched_off [])) hs (has_dfa hs) (λ prefix. has_dfa (prefix ∷ [])))

-- how the matches would be found
abbrev pub explained : List Expression → AnswerValue
explained hs = record { status = Rows; text = codes "strategy " ++ strategy_name hs ++ codes "\n" }

-- what is told of these expressions
abbrev pub told : Command → List Expression → (haystacks : List (List ℕ)) → AnswerValue
told (Scanning scan) hs texts = all_rows hs texts
told Explain hs texts = explained hs

-- the answer to what the patterns read as, and haystacks
unfoldable pub answer_patterns : Command → Result (List Expression) Refusal → List (List ℕ) → AnswerValue
answer_patterns command (Err refusal) texts = refused refusal.pattern refusal.error.kind
answer_patterns command (Ok hs) texts = if are_small hs then told command hs texts else too_big

-- the answer to a text, which is UTF-8 and not too long
unfoldable pub answer_text : Command → List ℕ → AnswerValue
answer_text command text = answer_patterns command (all_read default (patterns (lines text))) (haystacks (lines text))

-- the answer to an input
unfoldable pub answer_input : Command → List ℕ → AnswerValue
answer_input command input =
    if nat_lt 16777216 (length input) then too_long
    else if is_utf8 input then answer_text command input
    else not_utf8 (utf8_valid_len input)

-- the patterns that are searched for in haystacks that a number gives
abbrev pub gen_patterns : List (List ℕ)
gen_patterns = codes "([a-c]+)d" ∷ codes "[e-h]{2,3}" ∷ []

-- what was read, if all was
abbrev pub read_or_none : Result (List Expression) Refusal → List Expression
read_or_none (Ok hs) = hs
read_or_none (Err refusal) = []

-- .. and their expressions
unfoldable pub gen_expressions : List Expression
gen_expressions = read_or_none (all_read default gen_patterns)

-- how long a match is, and how many there are in a haystack and how long they are together
abbrev pub match_len : Match → ℕ
match_len m = m.trace.end - m.start

abbrev pub counts_in : List Match → Counts
counts_in ms = record { matches = length ms; covered = sum_by match_len ms }

abbrev pub gen_counts : (text : List ℕ) → Counts
gen_counts text = counts_in (matches (patterns_of gen_expressions) text free (length text) 0)

-- what is found in so many haystacks that this number gives, in numbers
abbrev pub generated_answer : (seed count : ℕ) → AnswerValue
generated_answer seed count =
    record { status = Generated; text = totals_text (totals_of (generated seed count) (map gen_counts (generated seed count))) }

-- the answer to what the words ask for, and an input
abbrev pub answer_call : Call → (input : List ℕ) → AnswerValue
answer_call (Reading command) input = answer_input command input
answer_call (Generate asked) input = generated_answer asked.seed asked.count

abbrev pub answer_if : Option Call → (input : List ℕ) → AnswerValue
answer_if None input = usage
answer_if (Some call) input = answer_call call input

-- the answer to words and an input
unfoldable pub answer : (words : List (List ℕ)) → (input : List ℕ) → AnswerValue
answer words input = answer_if (call_of words) input
