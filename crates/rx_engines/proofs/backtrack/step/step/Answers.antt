use Rattle.std.proofs.Common.{◌≡◌, ℕ, ◌+◌, ◌∷◌, [], length, refl, ◌∙◌, ap, arith}
use Rattle.std.specs.Prelude.{Some, None, if◌then◌else◌}
use Rattle.rx_model.specs.Look.{holds}
use Rattle.rx_search.specs.Look.{kind_of}
use Rattle.rx_nfa.specs.Automaton.{at, forwards, byte_at, target_of}
use Rattle.rx_nfa.specs.declared.state.Transition.{Transition}
use Rattle.rx_nfa.proofs.lemmas.runs.StateLemmas.{accepted-is, state-known, names-known}
use Rattle.rx_engines.specs.Search.{graph_for}
use Rattle.rx_engines.specs.Onward.{onto}
use Rattle.rx_engines.proofs.lemmas.walks.CloseLemmas.{going-onto}
use Rattle.rx_engines.proofs.lemmas.walks.YieldLemmas.{reads-onto, looks-onto, onto-near, Stepped-onto, Yields-unwritten, Yields-saved, AllWithin-read, AllWithin-looked, AllWithin-union}
use Rattle.rx_engines.proofs.backtrack.step.step.Goals as goal

pub returns-in-ByteRange-clause-stepped : goal.returns-in-ByteRange-clause-stepped
returns-in-ByteRange-clause-stepped c =
    let s = c.args.search.now in
    let is = state-known s.states.now _ c.args.state _ _ c.as_usize.ensures.value c.requires.state c.index-states-as_usize.is c.in-ByteRange.is in
    let read : Transition = record { start = c.in-ByteRange.start; end = c.in-ByteRange.end; next = c.in-ByteRange.next } in
    let goes : c.to.result ≡ onto (target_of (read ∷ []) (byte_at s.text.now s.end c.args.place)) (c.args.place + 1) =
    c.to.ensures ∙ ap (λ o. onto o (c.args.place + 1)) (c.in_range.ensures ∙ ap (target_of (read ∷ [])) c.byte_at-byte.ensures) in
    rw goes
    (Stepped-onto (graph_for s) (at c.args.state c.args.place) (target_of (read ∷ []) (byte_at s.text.now s.end c.args.place)) (c.args.place + 1) _ _ _ _
    (Yields-unwritten s.matcher s.states.now s.text.now s.end c.args.state c.args.place c.requires.state c.requires.place.1 _ is refl refl _ _ _
    (reads-onto ℕ s.text.now s.end (read ∷ []) c.args.place c.args.stack.now.items)))

pub returns-in-Sparse-clause-stepped : goal.returns-in-Sparse-clause-stepped
returns-in-Sparse-clause-stepped c =
    let s = c.args.search.now in
    let is = state-known s.states.now _ c.args.state _ _ c.as_usize.ensures.value c.requires.state c.index-states-as_usize.is c.in-Sparse.is in
    let goes : c.to-in-Sparse.result ≡ onto (target_of c.in-Sparse.transitions (byte_at s.text.now s.end c.args.place)) (c.args.place + 1) =
    c.to-in-Sparse.ensures ∙ ap (λ o. onto o (c.args.place + 1))
    (c.in_any.ensures ∙ (λ j. target_of (c.as_slice.ensures j) (c.byte_at-byte-in-Sparse.ensures j))) in
    rw goes
    (Stepped-onto (graph_for s) (at c.args.state c.args.place) (target_of c.in-Sparse.transitions (byte_at s.text.now s.end c.args.place)) (c.args.place + 1) _
    _ _ _
    (Yields-unwritten s.matcher s.states.now s.text.now s.end c.args.state c.args.place c.requires.state c.requires.place.1 _ is refl refl _ _ _
    (reads-onto ℕ s.text.now s.end c.in-Sparse.transitions c.args.place c.args.stack.now.items)))

pub returns-in-Sparse-clause-inside : goal.returns-in-Sparse-clause-inside
returns-in-Sparse-clause-inside c =
    let s = c.args.search.now in
    let is = state-known s.states.now _ c.args.state _ _ c.as_usize.ensures.value c.requires.state c.index-states-as_usize.is c.in-Sparse.is in
    let goes : c.to-in-Sparse.result ≡ onto (target_of c.in-Sparse.transitions (byte_at s.text.now s.end c.args.place)) (c.args.place + 1) =
    c.to-in-Sparse.ensures ∙ ap (λ o. onto o (c.args.place + 1))
    (c.in_any.ensures ∙ (λ j. target_of (c.as_slice.ensures j) (c.byte_at-byte-in-Sparse.ensures j))) in
    rw goes
    (AllWithin-read ℕ (length s.states.now) s.first s.end s.text.now c.in-Sparse.transitions c.args.place c.args.stack.now.items c.requires.place.0
    (names-known s.states.now c.args.state _ c.requires.search.names c.requires.state is) c.requires.inside)

pub returns-in-Union-clause-stepped : goal.returns-in-Union-clause-stepped
returns-in-Union-clause-stepped c =
    let s = c.args.search.now in
    let is = state-known s.states.now _ c.args.state _ _ c.as_usize.ensures.value c.requires.state c.index-states-as_usize.is c.in-Union.is in
    rw c.to-in-Union.ensures
    (Stepped-onto (graph_for s) (at c.args.state c.args.place) c.choose-first.result c.args.place _ _ _ _
    (Yields-unwritten s.matcher s.states.now s.text.now s.end c.args.state c.args.place c.requires.state c.requires.place.1 _ is refl refl _ _ _
    (going-onto ℕ c.choose-first.result c.args.place c.choose-first.new.stack.items ∙ rw c.as_slice-in-Union.ensures at c.choose-first.ensures.chosen)))

pub returns-in-Union-clause-inside : goal.returns-in-Union-clause-inside
returns-in-Union-clause-inside c =
    let s = c.args.search.now in
    let is = state-known s.states.now _ c.args.state _ _ c.as_usize.ensures.value c.requires.state c.index-states-as_usize.is c.in-Union.is in
    rw (
      c.to-in-Union.ensures,
      going-onto ℕ c.choose-first.result c.args.place c.choose-first.new.stack.items,
      c.choose-first.ensures.chosen,
      c.as_slice-in-Union.ensures,
    )
    (AllWithin-union (length s.states.now) s.first s.end c.args.place c.in-Union.alternates c.args.stack.now.items c.requires.place.0 c.requires.place.1
    (names-known s.states.now c.args.state _ c.requires.search.names c.requires.state is) c.requires.inside)

pub returns-in-Capture-clause-stepped : goal.returns-in-Capture-clause-stepped
returns-in-Capture-clause-stepped c =
    let s = c.args.search.now in
    let is = state-known s.states.now _ c.args.state _ _ c.as_usize.ensures.value c.requires.state c.index-states-as_usize.is c.in-Capture.is in
    Yields-saved s.matcher s.states.now s.text.now s.end c.args.state c.args.place c.requires.state c.requires.place.1 _ c.in-Capture.slot c.in-Capture.next is
    refl refl refl _ _ _ _
    c.save.ensures.saved

pub returns-in-Fail-clause-stepped : goal.returns-in-Fail-clause-stepped
returns-in-Fail-clause-stepped c =
    let s = c.args.search.now in
    let is = state-known s.states.now _ c.args.state _ _ c.as_usize.ensures.value c.requires.state c.index-states-as_usize.is c.in-Fail.is in
    Yields-unwritten s.matcher s.states.now s.text.now s.end c.args.state c.args.place c.requires.state c.requires.place.1 _ is refl refl _ _ _ refl

pub returns-in-Match-clause-stepped : goal.returns-in-Match-clause-stepped
returns-in-Match-clause-stepped c =
    let s = c.args.search.now in
    let is = state-known s.states.now _ c.args.state _ _ c.as_usize.ensures.value c.requires.state c.index-states-as_usize.is c.in-Match.is in
    (accepted-is (forwards s.matcher s.text.now) s.states.now s.end c.args.state c.args.place c.requires.state c.requires.place.1 _ is, refl)

-- the stack has room

pub choose-first-requires : goal.choose-first-requires
choose-first-requires c =
    let s = c.args.search.now in
    let is = state-known s.states.now _ c.args.state _ _ c.as_usize.ensures.value c.requires.state c.index-states-as_usize.is c.in-Union.is in
    let room = rw is at c.requires.room in
    let same = ap length c.as_slice-in-Union.ensures in
    omega arith

pub returns-in-Union-clause-frames : goal.returns-in-Union-clause-frames
returns-in-Union-clause-frames c =
    let s = c.args.search.now in
    let is = state-known s.states.now _ c.args.state _ _ c.as_usize.ensures.value c.requires.state c.index-states-as_usize.is c.in-Union.is in
    let left = c.choose-first.ensures.frames in
    let same = ap length c.as_slice-in-Union.ensures in
    rw is (omega arith)

pub save-requires-clause-room : goal.save-requires-clause-room
save-requires-clause-room c =
    let s = c.args.search.now in
    let is = state-known s.states.now _ c.args.state _ _ c.as_usize.ensures.value c.requires.state c.index-states-as_usize.is c.in-Capture.is in
    let room = rw is at c.requires.room in
    omega arith

pub returns-in-Capture-clause-frames : goal.returns-in-Capture-clause-frames
returns-in-Capture-clause-frames c =
    let s = c.args.search.now in
    let is = state-known s.states.now _ c.args.state _ _ c.as_usize.ensures.value c.requires.state c.index-states-as_usize.is c.in-Capture.is in
    let left = c.save.ensures.frames in
    rw is (omega arith)

-- a look-around

pub returns-in-Look-clause-stepped : goal.returns-in-Look-clause-stepped
returns-in-Look-clause-stepped c =
    let s = c.args.search.now in
    let is = state-known s.states.now _ c.args.state _ _ c.as_usize.ensures.value c.requires.state c.index-states-as_usize.is c.in-Look.is in
    let yes = holds s.matcher s.text.now (kind_of c.in-Look.look) c.args.place in
    let goes : c.to-in-Look.result ≡ onto (if yes then Some c.in-Look.next else None) c.args.place =
    c.to-in-Look.ensures ∙ ap (λ o. onto o c.args.place) c.look_on-next.ensures in
    rw goes
    (Stepped-onto (graph_for s) (at c.args.state c.args.place) (if yes then Some c.in-Look.next else None) c.args.place _ _ _ _
    (Yields-unwritten s.matcher s.states.now s.text.now s.end c.args.state c.args.place c.requires.state c.requires.place.1 _ is refl refl _ _ _
    (looks-onto ℕ yes c.in-Look.next c.args.place c.args.stack.now.items)))

pub returns-in-Look-clause-inside : goal.returns-in-Look-clause-inside
returns-in-Look-clause-inside c =
    let s = c.args.search.now in
    let is = state-known s.states.now _ c.args.state _ _ c.as_usize.ensures.value c.requires.state c.index-states-as_usize.is c.in-Look.is in
    let yes = holds s.matcher s.text.now (kind_of c.in-Look.look) c.args.place in
    let goes : c.to-in-Look.result ≡ onto (if yes then Some c.in-Look.next else None) c.args.place =
    c.to-in-Look.ensures ∙ ap (λ o. onto o c.args.place) c.look_on-next.ensures in
    rw goes
    (AllWithin-looked ℕ (length s.states.now) s.first s.end yes c.in-Look.next c.args.place c.args.stack.now.items
    (names-known s.states.now c.args.state _ c.requires.search.names c.requires.state is) c.requires.place.0 c.requires.place.1 c.requires.inside)

-- it goes on here, or at the next place

pub returns-in-ByteRange-clause-near : goal.returns-in-ByteRange-clause-near
returns-in-ByteRange-clause-near c = rw c.to.ensures (onto-near ℕ c.in_range.result c.args.place (c.args.place + 1) (omega arith) (omega arith))

pub returns-in-Sparse-clause-near : goal.returns-in-Sparse-clause-near
returns-in-Sparse-clause-near c = rw c.to-in-Sparse.ensures (onto-near ℕ c.in_any.result c.args.place (c.args.place + 1) (omega arith) (omega arith))

pub returns-in-Look-clause-near : goal.returns-in-Look-clause-near
returns-in-Look-clause-near c = rw c.to-in-Look.ensures (onto-near ℕ c.look_on-next.result c.args.place c.args.place (omega arith) (omega arith))

pub returns-in-Union-clause-near : goal.returns-in-Union-clause-near
returns-in-Union-clause-near c = rw c.to-in-Union.ensures (onto-near ℕ c.choose-first.result c.args.place c.args.place (omega arith) (omega arith))
