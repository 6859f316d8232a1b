-- What an attempt by the DFAs of a core is promised, and what it answers.
use Rattle.std.proofs.Common.{◌≡◌, ℕ, List, true}
use Rattle.rx_model.specs.Search.{Patterns}
use Rattle.rx_model.specs.Utf8.{MeansUtf8}
use Rattle.rx_search.specs.Input.{InputValue}
use Rattle.rx_dfa.specs.Automaton.{Dfa}
use Rattle.rx_dfa.specs.Search.{TellsStarts}
use Rattle.rx_attempts.specs.Premises.{IsBySuffix, IsByInner}
use Rattle.rx_strategy.specs.Attempts.{HasSuffix, HasInner}

module _ (needles : List (List ℕ)) (r : Patterns) (v : InputValue) (utf8 : r.utf8_empty ≡ true → MeansUtf8 r v.haystack) (rev : Dfa) where
  pub by-suffix : TellsStarts rev r → HasSuffix needles r → IsBySuffix rev needles r v
  by-suffix starts has = record {
    expression = has.expression;
    suffix = has.suffix;
    is = has.is;
    needle = has.needle;
    order = has.order;
    starts = starts;
    utf8 = utf8;
  }

  pub by-inner : HasInner rev needles r → IsByInner rev needles r v
  by-inner has = record {
    expression = has.expression;
    prefix = has.prefix;
    is = has.is;
    ordered = has.ordered;
    order = has.order;
    prefixes = has.prefixes;
    prefix_is = has.prefix_is;
    terminator = has.terminator;
    runs = has.runs;
    kind = has.kind;
    anywhere = has.anywhere;
    utf8 = utf8;
  }
