use Rattle.std.proofs.Common.{refl, ◌∙◌, ap, arith, length}
use Rattle.rx_model.specs.Look.{holds}
use Rattle.rx_search.specs.Look.{kind_of}
use Rattle.rx_nfa.proofs.lemmas.runs.StateLemmas.{state-known, names-known}
use Rattle.rx_nfa.specs.Ordered.{is_resting}
use Rattle.rx_engines.proofs.lemmas.walks.CloseLemmas.{AllWithin-taken, going-onto, Visited-onward}
use Rattle.rx_engines.proofs.lemmas.walks.YieldLemmas.{looks-onto, AllWithin-union, Yields-unwritten, Yields-saved}
use Rattle.rx_engines.proofs.pikevm.close.visit.Goals as goal

pub returns-in-Capture-clause-visited : goal.returns-in-Capture-clause-visited
returns-in-Capture-clause-visited c =
    let is =
    state-known c.args.search.now.states.now _ c.args.state _ _ c.as_usize.ensures.value c.requires.state c.index-states-as_usize.is c.in-Capture.is in (
      ap is_resting is,
      λ end le. Yields-saved c.args.search.now.matcher c.args.search.now.states.now c.args.search.now.text.now end c.args.state c.args.place c.requires.state le
          _ c.in-Capture.slot c.in-Capture.next is refl refl refl _ _ _ _
          c.save.ensures.saved,
    )

pub save-requires-clause-room : goal.save-requires-clause-room
save-requires-clause-room c =
    let is = state-known c.args.search.now.states.now _ c.args.state _ _ c.as_usize.ensures.value c.requires.state c.index-states-as_usize.is c.in-Capture.is in
    let room = rw is at c.requires.room in
    omega arith

pub returns-in-Capture-clause-frames : goal.returns-in-Capture-clause-frames
returns-in-Capture-clause-frames c =
    let is = state-known c.args.search.now.states.now _ c.args.state _ _ c.as_usize.ensures.value c.requires.state c.index-states-as_usize.is c.in-Capture.is in
    let left = c.save.ensures.frames in
    rw is (omega arith)

pub returns-in-Union-clause-visited : goal.returns-in-Union-clause-visited
returns-in-Union-clause-visited c =
    let is = state-known c.args.search.now.states.now _ c.args.state _ _ c.as_usize.ensures.value c.requires.state c.index-states-as_usize.is c.in-Union.is in
    let left = c.choose-first.new.stack.items in
    rw c.to-in-Union.ensures
    (Visited-onward (Unit {0}) c.args.search.now.matcher c.args.search.now.states.now c.args.search.now.text.now c.args.state c.args.place c.choose-first.result
    _ left _ _ (ap is_resting is)
    (λ end le. Yields-unwritten c.args.search.now.matcher c.args.search.now.states.now c.args.search.now.text.now end c.args.state c.args.place c.requires.state
    le _ is refl refl _ _ _
    (going-onto (Unit {0}) c.choose-first.result c.args.place left ∙ rw c.as_slice.ensures at c.choose-first.ensures.chosen)))

pub choose-first-requires : goal.choose-first-requires
choose-first-requires c =
    let is = state-known c.args.search.now.states.now _ c.args.state _ _ c.as_usize.ensures.value c.requires.state c.index-states-as_usize.is c.in-Union.is in
    let room = rw is at c.requires.room in
    let same = ap length c.as_slice.ensures in
    omega arith

pub returns-in-Union-clause-frames : goal.returns-in-Union-clause-frames
returns-in-Union-clause-frames c =
    let is = state-known c.args.search.now.states.now _ c.args.state _ _ c.as_usize.ensures.value c.requires.state c.index-states-as_usize.is c.in-Union.is in
    let left = c.choose-first.ensures.frames in
    let same = ap length c.as_slice.ensures in
    rw is (omega arith)

pub returns-in-Union-clause-inside : goal.returns-in-Union-clause-inside
returns-in-Union-clause-inside c =
    let is = state-known c.args.search.now.states.now _ c.args.state _ _ c.as_usize.ensures.value c.requires.state c.index-states-as_usize.is c.in-Union.is in
    rw (
      c.to-in-Union.ensures,
      going-onto (Unit {0}) c.choose-first.result c.args.place c.choose-first.new.stack.items,
      c.choose-first.ensures.chosen,
      c.as_slice.ensures,
    )
    (AllWithin-union (length c.args.search.now.states.now) c.args.place c.args.place c.args.place c.in-Union.alternates c.args.walk.now.stack.items
    (omega arith) (omega arith) (names-known c.args.search.now.states.now c.args.state _ c.requires.search.names c.requires.state is) c.requires.inside)

pub returns-in-Fail-clause-visited : goal.returns-in-Fail-clause-visited
returns-in-Fail-clause-visited c =
    let is = state-known c.args.search.now.states.now _ c.args.state _ _ c.as_usize.ensures.value c.requires.state c.index-states-as_usize.is c.in-Fail.is in (
      ap is_resting is,
      λ end le. Yields-unwritten c.args.search.now.matcher c.args.search.now.states.now c.args.search.now.text.now end c.args.state c.args.place
          c.requires.state le _ is refl refl _ _ _ refl,
    )

pub returns-in-Look-clause-visited : goal.returns-in-Look-clause-visited
returns-in-Look-clause-visited c =
    let is = state-known c.args.search.now.states.now _ c.args.state _ _ c.as_usize.ensures.value c.requires.state c.index-states-as_usize.is c.in-Look.is in
    let goes = rw c.look_on-next.ensures at c.to.ensures in
    rw goes
    (Visited-onward (Unit {0}) c.args.search.now.matcher c.args.search.now.states.now c.args.search.now.text.now c.args.state c.args.place _ _
    c.args.walk.now.stack.items _ _ (ap is_resting is)
    (λ end le. Yields-unwritten c.args.search.now.matcher c.args.search.now.states.now c.args.search.now.text.now end c.args.state c.args.place c.requires.state
    le _ is refl refl _ _ _
    (looks-onto (Unit {0}) _ c.in-Look.next c.args.place c.args.walk.now.stack.items)))

pub returns-in-Look-clause-inside : goal.returns-in-Look-clause-inside
returns-in-Look-clause-inside c =
    let is = state-known c.args.search.now.states.now _ c.args.state _ _ c.as_usize.ensures.value c.requires.state c.index-states-as_usize.is c.in-Look.is in
    let goes = rw c.look_on-next.ensures at c.to.ensures in
    rw (goes, looks-onto (Unit {0}) _ c.in-Look.next c.args.place c.args.walk.now.stack.items)
    (AllWithin-taken (length c.args.search.now.states.now) c.args.place
    (holds c.args.search.now.matcher c.args.search.now.text.now (kind_of c.in-Look.look) c.args.place) c.in-Look.next c.args.walk.now.stack.items
    (names-known c.args.search.now.states.now c.args.state _ c.requires.search.names c.requires.state is) c.requires.inside)
