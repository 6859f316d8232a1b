-- Each step of the operators after an item.
use Rattle.std.proofs.Common.{◌≡◌, Bool, true, false, Ok, Err, ◌∙◌, ap}
use Rattle.std.specs.Prelude.{if◌then◌else◌, nat_lt}
use Rattle.rx_reader.specs.declared.config.Config.{Config}
use Rattle.rx_reader.specs.declared.flags.Flags.{Flags}
use Rattle.rx_reader.specs.declared.operator.Operator.{Operator}
use Rattle.rx_reader.specs.declared.error.SyntaxError.{SyntaxError}
use Rattle.rx_reader.specs.declared.error.SyntaxErrorKind.TheVariants.{NestLimit}
use Rattle.rx_reader.specs.Config.{limit_of}
use Rattle.rx_reader.specs.Reading.{Place, Read, ◌>>=◌, refuse}
use Rattle.rx_reader.specs.Ahead.{skip}
use Rattle.rx_reader.specs.Counts.{operator}
use Rattle.rx_reader.specs.Syntax.{Syntax, depth}
use Rattle.rx_reader.specs.Grammar.{is_operator, repeated_by, within_limit, repeat_if, all_repetitions}
use Rattle.rx_reader.proofs.lemmas.branches.BranchLemmas.{all_repetitions-step}

module _ (config : Config) (flags : Flags) where
  -- the item under the operators from p on, where nothing is to be skipped
  abbrev pub repeated_from : Syntax → Place → Read Syntax
  repeated_from item p = repeat_if config (all_repetitions config flags) flags item p (is_operator p)

  pub repeat_stops : (item : Syntax) (p : Place) → is_operator p ≡ false → repeated_from item p ≡ Ok (item, p)
  repeat_stops item p h = ap (repeat_if config (all_repetitions config flags) flags item p) h

  -- what the operator makes of the item, and the operators after it
  then_on : Syntax → Place → Read Operator → Read Syntax
  then_on item p reading = reading >>= λ (o, q). within_limit config (repeated_by o item) p q >>= λ (s, r). all_repetitions config flags s r

  under : (item : Syntax) (p : Place) (reading : Read Operator) → is_operator p ≡ true → operator flags p ≡ reading
      → repeated_from item p ≡ then_on item p reading
  unfolding then_on
  under item p reading h is = ap (repeat_if config (all_repetitions config flags) flags item p) h ∙ ap (then_on item p) is

  pub repeat_refused : (item : Syntax) (p : Place) (e : SyntaxError) → is_operator p ≡ true → operator flags p ≡ Err e → repeated_from item p ≡ Err e
  unfolding then_on
  repeat_refused item p e h is = under item p (Err e) h is

  pub repeat_goes : (item : Syntax) (p : Place) (o : Operator) (q : Place) → is_operator p ≡ true → operator flags p ≡ Ok (o, q)
      → nat_lt (limit_of config) (depth (repeated_by o item)) ≡ false → repeated_from item p ≡ repeated_from (repeated_by o item) (skip flags q)
  unfolding then_on
  repeat_goes item p o q h is within =
      under item p (Ok (o, q)) h is
      ∙ ap (λ (b : Bool). (if b then refuse NestLimit p q else Ok (repeated_by o item, q)) >>= λ (s, r). all_repetitions config flags s r) within
      ∙ all_repetitions-step config flags (repeated_by o item) q

  pub repeat_too_deep : (item : Syntax) (p : Place) (o : Operator) (q : Place) → is_operator p ≡ true → operator flags p ≡ Ok (o, q)
      → nat_lt (limit_of config) (depth (repeated_by o item)) ≡ true → repeated_from item p ≡ refuse NestLimit p q
  unfolding then_on
  repeat_too_deep item p o q h is within =
      under item p (Ok (o, q)) h is
      ∙ ap (λ (b : Bool). (if b then refuse NestLimit p q else Ok (repeated_by o item, q)) >>= λ (s, r). all_repetitions config flags s r) within
