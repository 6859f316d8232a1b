use Rattle.std.proofs.Common.{◌≡◌, ◌≤◌, ◌-◌, length, refl, sym, ◌∙◌, subst, arith}
use Rattle.rx_model.specs.Runs.{everywhere}
use Rattle.rx_onepass_table.specs.Along.{walk}
use Rattle.rx_onepass_table.specs.Search.{IsAnswer, IsSearching, IsSmall, shown}
use Rattle.rx_onepass_table.proofs.lemmas.SearchLemmas.{searching-starts, searching-ends}
use Rattle.rx_onepass_table.proofs.lemmas.ShownLemmas.{shown-length}
use Rattle.rx_onepass_table.proofs.table.Table.pass_over.Goals as goal

pub loop-at-init : goal.loop-at-init
loop-at-init c =
    let n = c.end-end.result - c.start-at.result in
    let told = walk c.args.nfa.now c.args.self.now c.args.may_win everywhere c.haystack-text.result.now n c.start-at.result c.args.row in
    record {
      inside = c.requires.row;
      room = c.requires.room;
      places_len = refl;
      out_len = refl;
      within =
          subst (λ n. n ≤ length c.haystack-text.result.now) (sym c.end-end.ensures.value)
          (subst (λ h. c.args.input.now.end ≤ length h) (sym c.haystack-text.ensures.value) c.haystack-text.ensures.spanned.end);
      left = (let from = c.start-at.ensures.value in let to = c.end-end.ensures.value in let order = c.requires.in_order in omega arith);
      small = subst IsSmall (sym c.requires.nothing_left) tt;
      searching =
          subst (λ l. IsSearching c.args.nfa.now c.args.self.now c.args.may_win c.haystack-text.result.now told n c.start-at.result c.args.row
          c.args.places.now c.args.best.now (shown l c.args.places.now c.args.out.now)) (sym c.requires.nothing_left)
          (subst (λ b. IsSearching c.args.nfa.now c.args.self.now c.args.may_win c.haystack-text.result.now told n c.start-at.result c.args.row
          c.args.places.now b c.args.out.now) (sym c.requires.no_best)
          (searching-starts c.args.nfa.now c.args.self.now c.args.may_win c.haystack-text.result.now n c.start-at.result c.args.row c.args.places.now
          c.args.out.now c.requires.empty));
    }

pub returns-in_default-clause-answer : goal.returns-in_default-clause-answer
returns-in_default-clause-answer c =
    let told =
    walk c.args.nfa.now c.args.self.now c.args.may_win everywhere c.haystack-text.result.now (c.end-end.result - c.start-at.result) c.start-at.result
    c.args.row in
    let same : told ≡ walk c.args.nfa.now c.args.self.now c.args.may_win everywhere c.args.input.now.haystack
    (c.args.input.now.end - c.args.input.now.start) c.args.input.now.start c.args.row =
    (λ k. walk c.args.nfa.now c.args.self.now c.args.may_win everywhere (c.haystack-text.ensures.value k)
    (c.end-end.ensures.value k - c.start-at.ensures.value k) (c.start-at.ensures.value k) c.args.row) in
    let after = shown c.advance.new.left c.advance.new.places c.advance.new.out in
    subst (λ e. IsAnswer c.args.nfa.now e (walk c.args.nfa.now c.args.self.now c.args.may_win everywhere c.args.input.now.haystack
    (c.args.input.now.end - c.args.input.now.start) c.args.input.now.start c.args.row) c.advance.new.best after) c.get_earliest-earliest.ensures
    (subst (λ t. IsAnswer c.args.nfa.now c.get_earliest-earliest.result t c.advance.new.best after) same
    (c.in_default.ensures.over told c.loop-at.invariant.searching))

pub loop-at-preserved : goal.loop-at-preserved
loop-at-preserved c =
    let told =
    walk c.args.nfa.now c.args.self.now c.args.may_win everywhere c.haystack-text.result.now (c.end-end.result - c.start-at.result) c.start-at.result
    c.args.row in
    record {
      inside = c.in-Some.ensures.inside;
      room = c.advance.ensures.places ∙ c.loop-at.invariant.room ∙ sym c.advance.ensures.out;
      places_len = c.advance.ensures.places ∙ c.loop-at.invariant.places_len;
      out_len = c.advance.ensures.out ∙ c.loop-at.invariant.out_len;
      within = c.loop-at.invariant.within;
      left = c.in-Some.ensures.within;
      small = c.advance.ensures.small;
      searching = c.in-Some.ensures.on told c.loop-at.invariant.searching;
    }

pub returns-clause-answer : goal.returns-clause-answer
returns-clause-answer c =
    let past = c.loop-at-test.false in
    let left = c.loop-at.invariant.left in
    let none : c.end-end.result - c.loop-at.at ≡ 0 = omega arith in
    let here : c.loop-at.at ≡ c.end-end.result = omega arith in
    let told =
    walk c.args.nfa.now c.args.self.now c.args.may_win everywhere c.haystack-text.result.now (c.end-end.result - c.start-at.result) c.start-at.result
    c.args.row in
    let same : told ≡ walk c.args.nfa.now c.args.self.now c.args.may_win everywhere c.args.input.now.haystack
    (c.args.input.now.end - c.args.input.now.start) c.args.input.now.start c.args.row =
    (λ k. walk c.args.nfa.now c.args.self.now c.args.may_win everywhere (c.haystack-text.ensures.value k)
    (c.end-end.ensures.value k - c.start-at.ensures.value k) (c.start-at.ensures.value k) c.args.row) in
    let kept : IsSearching c.args.nfa.now c.args.self.now c.args.may_win c.haystack-text.result.now told 0 c.loop-at.at c.loop-at.current
    c.loop-at.places c.loop-at.best (shown c.loop-at.left c.loop-at.places c.loop-at.out) =
    subst (λ n. IsSearching c.args.nfa.now c.args.self.now c.args.may_win c.haystack-text.result.now told n c.loop-at.at c.loop-at.current
    c.loop-at.places c.loop-at.best (shown c.loop-at.left c.loop-at.places c.loop-at.out)) none c.loop-at.invariant.searching in
    let last : IsSearching c.args.nfa.now c.args.self.now c.args.may_win c.haystack-text.result.now told 0 c.end-end.result c.loop-at.current
    c.loop-at.places c.loop-at.best (shown c.loop-at.left c.loop-at.places c.loop-at.out) =
    subst (λ i. IsSearching c.args.nfa.now c.args.self.now c.args.may_win c.haystack-text.result.now told 0 i c.loop-at.current c.loop-at.places
    c.loop-at.best (shown c.loop-at.left c.loop-at.places c.loop-at.out)) here kept in
    let before = shown c.loop-at.left c.loop-at.places c.loop-at.out in
    let after = shown c.tell.new.left c.loop-at.places c.loop-at.out in
    subst (λ e. IsAnswer c.args.nfa.now e (walk c.args.nfa.now c.args.self.now c.args.may_win everywhere c.args.input.now.haystack
    (c.args.input.now.end - c.args.input.now.start) c.args.input.now.start c.args.row) c.tell.new.best after) c.get_earliest-earliest.ensures
    (subst (λ t. IsAnswer c.args.nfa.now c.get_earliest-earliest.result t c.tell.new.best after) same
    (searching-ends c.args.nfa.now c.args.self.now c.args.may_win c.haystack-text.result.now told c.loop-at.places c.loop-at.best c.tell.new.best
    before after (shown-length c.tell.new.left c.loop-at.places c.loop-at.out c.loop-at.invariant.room ∙ sym c.loop-at.invariant.room)
    c.end-end.result c.loop-at.current (c.tell.ensures.telling c.loop-at.places c.loop-at.out) c.get_earliest-earliest.result last))
