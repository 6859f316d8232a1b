-- Which answer an input has.
use Rattle.std.proofs.Common.{◌≡◌, ℕ, ◌<◌, ◌≤◌, Bool, true, false, cond, ltb, List, length, Some, None, Result, Ok, Err, refl, sym, ap, ◌∙◌, lit≤}
use Rattle.std.proofs.lemmas.Bool.{lt-ltb, le-ltb, ltb-false, false_from_ne_true, false≢true}
use Rattle.std.specs.Str.{IsUtf8, is_utf8}
use Rattle.std.specs.Str.Lossy.{utf8_valid_len}
use Rattle.std.proofs.lemmas.Str.{IsUtf8-from_is_utf8, is_utf8-from_IsUtf8}
use Rattle.rx_model.specs.Expression.{Expression}
use Rattle.rx_reader.specs.Config.{default}
use Rattle.rx_reader.specs.declared.error.SyntaxError.{SyntaxError}
use Rattle.rx_syntax.specs.Patterns.{Refusal, all_read}
use Rattle.rx_scan.specs.Input.{lines, patterns, haystacks}
use Rattle.rx_scan.specs.Patterns.{are_small}
use Rattle.rx_scan.specs.Answer.{AnswerValue, too_long, not_utf8, refused, too_big, told, answer_patterns, answer_text, answer_input, answer_if, answer_call, answer, usage}
use Rattle.rx_scan.specs.Status.{code, needs_all}
use Rattle.rx_scan.specs.Arguments.{call_of}
use Rattle.rx_scan.specs.declared.arguments.Call.{Call}
use Rattle.rx_scan.specs.declared.arguments.Call.TheVariants.{Reading, Generate}
use Rattle.rx_scan.specs.declared.arguments.Command.{Command}
use Rattle.rx_scan.specs.declared.arguments.Command.TheVariants.{Scanning, Explain}

module _ (command : Command) where
  -- the answer by the two tests
  by_tests : List ℕ → (long text : Bool) → AnswerValue
  by_tests input long text = cond long too_long (cond text (answer_text command input) (not_utf8 (utf8_valid_len input)))

  pub answer_input-too_long : (input : List ℕ) → 16777216 < length input → answer_input command input ≡ too_long
  unfolding answer_input by_tests
  answer_input-too_long input long = ap (λ b. by_tests input b (is_utf8 input)) (lt-ltb _ _ long)

  pub answer_input-text : (input : List ℕ) → length input ≤ 16777216 → IsUtf8 input → answer_input command input ≡ answer_text command input
  unfolding answer_input by_tests
  answer_input-text input short text =
      ap (λ b. by_tests input b (is_utf8 input)) (le-ltb _ _ short) ∙ ap (λ b. by_tests input false b) (is_utf8-from_IsUtf8 input text)

  pub answer_input-not_utf8 : (input : List ℕ) (n : ℕ) → length input ≤ 16777216 → ¬ (IsUtf8 input) → n ≡ utf8_valid_len input
      → answer_input command input ≡ not_utf8 n
  unfolding answer_input by_tests
  answer_input-not_utf8 input n short bytes e =
      ap (λ b. by_tests input b (is_utf8 input)) (le-ltb _ _ short)
      ∙ ap (λ b. by_tests input false b) (false_from_ne_true _ (λ yes. bytes (IsUtf8-from_is_utf8 input yes))) ∙ ap not_utf8 (sym e)

-- every answer has a status up to 5
told-few : (command : Command) (hs : List Expression) (texts : List (List ℕ)) → code (told command hs texts).status ≤ 5
told-few (Scanning scan) hs texts = lit≤ tt
told-few Explain hs texts = lit≤ tt

by_size-few : (command : Command) (hs : List Expression) (texts : List (List ℕ)) (small : Bool) → code (cond small (told command hs texts) too_big).status ≤ 5
by_size-few command hs texts true = told-few command hs texts
by_size-few command hs texts false = lit≤ tt

answer_patterns-few : (command : Command) (r : Result (List Expression) Refusal) (texts : List (List ℕ)) → code (answer_patterns command r texts).status ≤ 5
unfolding answer_patterns
answer_patterns-few command (Err refusal) texts = lit≤ tt
answer_patterns-few command (Ok hs) texts = by_size-few command hs texts (are_small hs)

pub answer_text-few : (command : Command) (text : List ℕ) → code (answer_text command text).status ≤ 5
unfolding answer_text
answer_text-few command text = answer_patterns-few command (all_read default (patterns (lines text))) (haystacks (lines text))

by_tests-few : (command : Command) (input : List ℕ) (long text : Bool) → code (by_tests command input long text).status ≤ 5
unfolding by_tests
by_tests-few command input true text = lit≤ tt
by_tests-few command input false true = answer_text-few command input
by_tests-few command input false false = lit≤ tt

pub answer_input-few : (command : Command) (input : List ℕ) → code (answer_input command input).status ≤ 5
unfolding answer_input by_tests
answer_input-few command input = by_tests-few command input (ltb 16777216 (length input)) (is_utf8 input)

pub answer_call-few : (call : Call) (input : List ℕ) → code (answer_call call input).status ≤ 5
answer_call-few (Reading command) input = answer_input-few command input
answer_call-few (Generate asked) input = lit≤ tt

-- by what the words ask for
pub answer-call : (words : List (List ℕ)) (input : List ℕ) (call : Call) → call_of words ≡ Some call → answer words input ≡ answer_call call input
unfolding answer
answer-call words input call e = ap (λ o. answer_if o input) e

pub answer-usage : (words : List (List ℕ)) (input : List ℕ) → call_of words ≡ None → answer words input ≡ usage
unfolding answer
answer-usage words input e = ap (λ o. answer_if o input) e

short_by_test : (command : Command) (input : List ℕ) (long text : Bool) → ltb 16777216 (length input) ≡ long
    → needs_all (by_tests command input long text).status ≡ true → length input ≤ 16777216
unfolding by_tests
short_by_test command input true text e all = absurd (false≢true all)
short_by_test command input false text e all = ltb-false _ _ e

-- an answer that depends on the whole input is to one that is not too long
pub answer_input-short : (command : Command) (input : List ℕ) → needs_all (answer_input command input).status ≡ true → length input ≤ 16777216
unfolding answer_input by_tests
answer_input-short command input all = short_by_test command input (ltb 16777216 (length input)) (is_utf8 input) refl all

-- by the size of the patterns
pub answer_patterns-small : (command : Command) (hs : List Expression) (texts : List (List ℕ)) → are_small hs ≡ true
    → answer_patterns command (Ok hs) texts ≡ told command hs texts
unfolding answer_patterns
answer_patterns-small command hs texts e = ap (λ b. cond b (told command hs texts) too_big) e

pub answer_patterns-big : (command : Command) (hs : List Expression) (texts : List (List ℕ)) → are_small hs ≡ false
    → answer_patterns command (Ok hs) texts ≡ too_big
unfolding answer_patterns
answer_patterns-big command hs texts e = ap (λ b. cond b (told command hs texts) too_big) e

pub answer_text-is : (command : Command) (text : List ℕ) (r : Result (List Expression) Refusal) (texts : List (List ℕ))
    → all_read default (patterns (lines text)) ≡ r → texts ≡ haystacks (lines text) → answer_text command text ≡ answer_patterns command r texts
unfolding answer_text
answer_text-is command text r texts e f = λ i. answer_patterns command (e i) (sym f i)

pub answer_patterns-refused : (command : Command) (p : ℕ) (error : SyntaxError) (texts : List (List ℕ))
    → answer_patterns command (Err (record { pattern = p; error = error })) texts ≡ refused p error.kind
unfolding answer_patterns
answer_patterns-refused command p error texts = refl
