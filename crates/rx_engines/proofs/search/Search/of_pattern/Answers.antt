use Rattle.std.proofs.Common.{rules, subst}
use Rattle.rx_model.specs.Matches.{IsSought}
use Rattle.rx_engines.proofs.lemmas.answers.EngineLemmas.{none-done}
use Rattle.rx_engines.proofs.lemmas.answers.OverlapLemmas.{sought-at, slice_get-read}
use Rattle.rx_engines.proofs.search.Search.of_pattern.Goals as goal

pub returns-then-is_done-clause-none : goal.returns-then-is_done-clause-none
returns-then-is_done-clause-none c sought = none-done c.args.nfa.now c.args.input.now (c.is_done.ensures.0 c.if-is_done.true)

pub returns-clause-some : goal.returns-clause-some
returns-clause-some c =
    let nfa = c.args.nfa.now in
    let sought = c.is_sought.ensures.0 c.if-not-is_sought.false in
    let start = slice_get-read _ nfa.starts c.args.pattern _ c.index-starts-as_usize.result c.requires c.starts-starts.ensures.value
    c.as_usize.ensures.value c.index-starts-as_usize.is in
    record {
      states = c.states.ensures.value;
      start = sought-at nfa c.args.pattern c.index-starts-as_usize.result start c.args.input.now.anchor
          (subst (λ a. IsSought a c.args.pattern) c.get_anchored-anchored.ensures sought);
      text = c.haystack-text.ensures.value;
      matcher = c.look_matcher.ensures.value;
      utf8 = c.is_utf8.ensures.value;
      free = search rules;
      first = c.start.ensures.value;
      last = c.latest_start.ensures.value;
      end = search rules;
      slots = c.slot_len.ensures.value;
      in_order = search rules;
    }
