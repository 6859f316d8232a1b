use Rattle.std.proofs.Common.{◌≡◌, Option, ◌+◌, [], ◌∷◌, ◌++◌, length, get_or, refl, sym, ap, subst, ◌∙◌}
use Rattle.rx_model.specs.Search.{Match}
use Rattle.rx_search.specs.GroupInfo.{slot_count}
use Rattle.rx_search.specs.Matches.{MatchValue}
use Rattle.rx_search.specs.Input.{from_place, whole}
use Rattle.rx_search.specs.Searcher.{SearcherValue, fresh, AtEachPlace}
use Rattle.rx_search.specs.Told.{HasSlots}
use Rattle.rx_search.proofs.SearcherLemmas.{Progress-begun, Progress-more, Progress-over}
use Rattle.rx_meta.specs.Finder.{PromisesFor, AreSlotsOf}
use Rattle.rx_meta.specs.Regex.{RegexValue, searches, groups_in}
use Rattle.rx_scan.specs.Haystacks.{FindsRows}
use Rattle.rx_scan.proofs.HaystackLemmas.{moved-place, promised-from, found-next, found-rows, rows-one, outcome-next}
use Rattle.rx_scan.proofs.OutcomeLemmas.{ok-of}
use Rattle.rx_scan.proofs.haystacks.WorksTask.answer.Goals as goal

pub row-requires : goal.row-requires
row-requires g c = c.slots.ensures.wide ∙ ap (λ (g : RegexValue). slot_count (groups_in g))
    (c.in_ok-found.ensures.stays c.matches.finder refl ∙ c.matches.invariant.same ∙ c.requires.fit) ∙ ap slot_count (sym c.args.self.now.own)

pub matches-preserved : goal.matches-preserved
matches-preserved g c =
    let first = c.args.finder.now.regex.now in
    let law = c.a_search_is_for_its_patterns.ensures in
    let hs = g.H.Haystacks.texts c.args.self.now.haystacks.now in
    let stays = c.in_ok-found.ensures.stays c.matches.finder refl in
    let T : Option Match → Type 0 = AreSlotsOf c.advance.new.finder.slots.items in
    let own : c.args.self.now.layout.groups.now ≡ groups_in first = c.args.self.now.own ∙ ap groups_in (sym c.requires.fit) in
    let told = c.matches.invariant.told in
    record {
      same = stays ∙ c.matches.invariant.same;
      place = moved-place _ _ _ _ (whole (get_or hs c.args.index [])) c.in-Some.is c.in_ok-found.ensures.moved c.matches.invariant.place;
      promised = λ r finds. c.in_ok-found.ensures.goes_on (c.matches.invariant.promised r finds);
      told = (
        told.0 ++ c.in_ok-row.row ∷ [],
        λ i all at before. c.in_ok-add.ensures i all told.0 at (told.1 i all at before),
        λ r finds.
            let text = (get_or hs c.args.index []) in
            let promised = c.matches.invariant.promised r finds in
            Progress-more (told.2 r finds) c.in-Some.is (c.in_ok-found.ensures.answer promised) c.in_ok-found.ensures.moved
            c.in_ok-found.ensures.fewer_left
            c.in_ok-found.ensures.same_answers
            (λ x next value.
            let is =
            found-next law first r text finds c.matches.finder.regex.now c.matches.searcher x c.matches.invariant.same c.matches.invariant.place next in
            let pattern : c.pattern.result ≡ x.trace.pattern = c.pattern.ensures ∙ ap (λ (v : MatchValue). v.pattern) (sym value) in
            let has = subst (λ xs. HasSlots xs x) (sym c.slots.ensures.value) (subst T next (c.in_ok-found.ensures.told promised)) in
            sym (c.in_ok-row.ensures.value r text (length text) is.0 x (own ∙ finds.groups) is.1 pattern has))
            refl,
      );
    }

pub matches-init : goal.matches-init
matches-init g c =
    let hs = g.H.Haystacks.texts c.args.self.now.haystacks.now in
    let regex = c.args.finder.now.regex.now in
    let begun : c.new-searcher.result ≡ fresh (whole (get_or hs c.args.index [])) =
    c.new-searcher.ensures ∙ ap fresh (c.new.ensures ∙ ap whole c.get-haystack.ensures) in
    record {
      same = refl;
      place = λ i. ap (λ (s : SearcherValue). from_place i s.input) begun;
      promised = λ r finds.
          let P : SearcherValue → Type 0 = λ s. AtEachPlace (PromisesFor regex) s.input in
          subst P (sym begun) (promised-from regex r (get_or hs c.args.index []) finds);
      told = ([], λ i all at before. before, λ r finds. Progress-begun (searches regex) begun refl);
    }

pub returns-clause-answer : goal.returns-clause-answer
returns-clause-answer g c = λ i n at has.
    let told = c.matches.invariant.told in
    let first = c.args.finder.now.regex.now in
    let regex = c.args.self.now.regex.now in
    let hs = g.H.Haystacks.texts c.args.self.now.haystacks.now in
    outcome-next regex hs (g.O.Outcome.holds c.args.self.now.outcome.now) i n c.args.index told.0 c.args.value.now c.end.new.value c.end.result at
    (rows-one regex hs c.args.index told.0 c.requires.there (λ r own.
    let text = (get_or hs c.args.index []) in
    let finds : FindsRows first r text = subst (λ (k : RegexValue). FindsRows k r text) (sym c.requires.fit) own in
    Progress-over (told.2 r finds) c.in_default.is (c.in_ok-found.ensures.answer (c.matches.invariant.promised r finds))
    ∙ found-rows c.a_search_is_for_its_patterns.ensures first r text finds))
    has (c.end.ensures i has.0 told.0 (told.1 i has.0 (at ∙ ap (λ m. i + m) (sym has.2)) has.1))

pub returns-clause-stays : goal.returns-clause-stays
returns-clause-stays g c = ok-of c.end.result (c.in_ok-found.ensures.stays c.matches.finder refl ∙ c.matches.invariant.same ∙ c.requires.fit)
