use Rattle.std.proofs.Common.{◌≡◌, ◌+◌, length, refl, sym, ◌∙◌}
use Rattle.std.specs.Prelude.{true, false}
use Rattle.rx_model.proofs.lemmas.runs.RunLemmas.{by_test}
use Rattle.rx_model.specs.Runs.{nowhere}
use Rattle.rx_nfa.specs.Ordered.{passed_at}
use Rattle.rx_engines.specs.Buffers.{curr_of}
use Rattle.rx_engines.specs.Search.{graph_until}
use Rattle.rx_engines.specs.Simulation.{among, later_starts}
use Rattle.rx_engines.proofs.lemmas.threads.StartLemmas.{unseeded-matched, unseeded-past, unseeded-forbidden, later-stable, seeding, seeded}
use Rattle.rx_engines.proofs.pikevm.seed.seed.Goals as goal

pub returns-then-matched-clause-seeded : goal.returns-then-matched-clause-seeded
returns-then-matched-clause-seeded c offered end best goal begun le matched value =
    let s = c.args.search.now in
    let b = c.args.buffers.now in
    let front = among s.states.now (graph_until s end) nowhere c.args.place (curr_of b).table.items (curr_of b).set.items in
    unseeded-matched offered s end (length b.best.items) best front goal (passed_at (curr_of b).set.items c.args.place) nowhere c.args.place
    (sym c.if-matched.true ∙ matched) value

pub returns-then-search-place-clause-seeded : goal.returns-then-search-place-clause-seeded
returns-then-search-place-clause-seeded c offered end best goal begun le matched value =
    let s = c.args.search.now in
    let b = c.args.buffers.now in
    let front = among s.states.now (graph_until s end) nowhere c.args.place (curr_of b).table.items (curr_of b).set.items in
    unseeded-past offered s end (length b.best.items) best front goal (passed_at (curr_of b).set.items c.args.place) nowhere c.args.place c.if-search-place.true
    value

pub returns-then-not-may_begin-clause-seeded : goal.returns-then-not-may_begin-clause-seeded
returns-then-not-may_begin-clause-seeded c offered end best goal begun le matched value =
    let s = c.args.search.now in
    let b = c.args.buffers.now in
    let front = among s.states.now (graph_until s end) nowhere c.args.place (curr_of b).table.items (curr_of b).set.items in
    let none : offered c.args.place ≡ false = begun ∙ sym c.may_begin.ensures ∙ c.if-not-may_begin.true in
    unseeded-forbidden offered s end (length b.best.items) best front goal (curr_of b).set.items c.args.place c.if-search-place.false (rw none refl) value

pub returns-then-not-is_allowed-clause-seeded : goal.returns-then-not-is_allowed-clause-seeded
returns-then-not-is_allowed-clause-seeded c offered end best goal begun le matched value =
    let s = c.args.search.now in
    let b = c.args.buffers.now in
    let front = among s.states.now (graph_until s end) nowhere c.args.place (curr_of b).table.items (curr_of b).set.items in
    let none = sym c.is_allowed.ensures ∙ c.if-not-is_allowed.true in
    unseeded-forbidden offered s end (length b.best.items) best front goal (curr_of b).set.items c.args.place c.if-search-place.false
    (rw none (by_test (offered c.args.place) (λ e. rw e refl) (λ e. rw e refl))) value

pub returns-then-buffers-clause-seeded : goal.returns-then-buffers-clause-seeded
returns-then-buffers-clause-seeded c offered end best goal begun le matched value =
    let s = c.args.search.now in
    let b = c.args.buffers.now in
    let w = length b.best.items in
    let offers : offered c.args.place ≡ true = begun ∙ sym c.may_begin.ensures ∙ c.if-not-may_begin.false in
    let permitted = sym c.is_allowed.ensures ∙ c.if-not-is_allowed.false in
    let waits = seeding offered s end w best goal b.odd.set.items b.odd.table.items c.args.place (sym c.if-matched.false ∙ matched) c.if-search-place.false
    (rw (offers, permitted) refl) (rw c.if-buffers.true at value) in
    let closed = c.begin.ensures.closed end (later_starts offered s end w best (c.args.place + 1)) goal le
    (later-stable offered s end w best (c.args.place + 1)) (rw c.requires.ready.slots waits) in
    rw c.if-buffers.true (seeded offered s end w best goal c.begin.new.threads.set.items c.begin.new.threads.table.items c.args.place closed)

pub returns-then-buffers-clause-ready : goal.returns-then-buffers-clause-ready
returns-then-buffers-clause-ready c =
    let ready = c.requires.ready in
    record {
      even = ready.even;
      odd = record {
        set = c.begin.ensures.set ∙ ready.odd.set;
        rows = c.begin.ensures.table ∙ ready.odd.rows;
        wide = c.begin.ensures.width ∙ ready.odd.wide;
      };
      slots = c.begin.ensures.slots ∙ ready.slots;
      best = refl;
      stack = rw c.begin.ensures.stack ready.stack;
      empty = c.begin.ensures.empty;
    }

pub returns-then-buffers-clause-room : goal.returns-then-buffers-clause-room
returns-then-buffers-clause-room c = record {
  even = refl;
  odd = c.begin.ensures.capacity;
  slots = c.begin.ensures.kept;
  stack = c.begin.ensures.stack;
  best = refl;
}

pub begin-requires-clause-width : goal.begin-requires-clause-width
begin-requires-clause-width c = c.requires.ready.slots ∙ sym c.requires.ready.odd.wide

pub returns-clause-seeded : goal.returns-clause-seeded
returns-clause-seeded c offered end best goal begun le matched value =
    let s = c.args.search.now in
    let b = c.args.buffers.now in
    let w = length b.best.items in
    let offers : offered c.args.place ≡ true = begun ∙ sym c.may_begin.ensures ∙ c.if-not-may_begin.false in
    let permitted = sym c.is_allowed.ensures ∙ c.if-not-is_allowed.false in
    let waits = seeding offered s end w best goal b.even.set.items b.even.table.items c.args.place (sym c.if-matched.false ∙ matched) c.if-search-place.false
    (rw (offers, permitted) refl) (rw c.if-buffers.false at value) in
    let closed = c.begin-2.ensures.closed end (later_starts offered s end w best (c.args.place + 1)) goal le
    (later-stable offered s end w best (c.args.place + 1)) (rw c.requires.ready.slots waits) in
    rw c.if-buffers.false (seeded offered s end w best goal c.begin-2.new.threads.set.items c.begin-2.new.threads.table.items c.args.place closed)

pub returns-clause-ready : goal.returns-clause-ready
returns-clause-ready c =
    let ready = c.requires.ready in
    record {
      odd = ready.odd;
      even = record {
        set = c.begin-2.ensures.set ∙ ready.even.set;
        rows = c.begin-2.ensures.table ∙ ready.even.rows;
        wide = c.begin-2.ensures.width ∙ ready.even.wide;
      };
      slots = c.begin-2.ensures.slots ∙ ready.slots;
      best = refl;
      stack = rw c.begin-2.ensures.stack ready.stack;
      empty = c.begin-2.ensures.empty;
    }

pub returns-clause-room : goal.returns-clause-room
returns-clause-room c = record {
  odd = refl;
  even = c.begin-2.ensures.capacity;
  slots = c.begin-2.ensures.kept;
  stack = c.begin-2.ensures.stack;
  best = refl;
}

pub begin-requires-2-clause-width : goal.begin-requires-2-clause-width
begin-requires-2-clause-width c = c.requires.ready.slots ∙ sym c.requires.ready.even.wide

pub returns-then-matched-clause-best : goal.returns-then-matched-clause-best
returns-then-matched-clause-best c = refl

pub returns-then-matched-clause-ready : goal.returns-then-matched-clause-ready
returns-then-matched-clause-ready c = c.requires.ready

pub returns-then-matched-clause-room : goal.returns-then-matched-clause-room
returns-then-matched-clause-room c = record { even = refl; odd = refl; slots = refl; stack = refl; best = refl }

pub returns-then-search-place-clause-best : goal.returns-then-search-place-clause-best
returns-then-search-place-clause-best c = refl

pub returns-then-search-place-clause-ready : goal.returns-then-search-place-clause-ready
returns-then-search-place-clause-ready c = c.requires.ready

pub returns-then-search-place-clause-room : goal.returns-then-search-place-clause-room
returns-then-search-place-clause-room c = record { even = refl; odd = refl; slots = refl; stack = refl; best = refl }

pub returns-then-not-may_begin-clause-best : goal.returns-then-not-may_begin-clause-best
returns-then-not-may_begin-clause-best c = refl

pub returns-then-not-may_begin-clause-ready : goal.returns-then-not-may_begin-clause-ready
returns-then-not-may_begin-clause-ready c = c.requires.ready

pub returns-then-not-may_begin-clause-room : goal.returns-then-not-may_begin-clause-room
returns-then-not-may_begin-clause-room c = record { even = refl; odd = refl; slots = refl; stack = refl; best = refl }

pub returns-then-not-is_allowed-clause-best : goal.returns-then-not-is_allowed-clause-best
returns-then-not-is_allowed-clause-best c = refl

pub returns-then-not-is_allowed-clause-ready : goal.returns-then-not-is_allowed-clause-ready
returns-then-not-is_allowed-clause-ready c = c.requires.ready

pub returns-then-not-is_allowed-clause-room : goal.returns-then-not-is_allowed-clause-room
returns-then-not-is_allowed-clause-room c = record { even = refl; odd = refl; slots = refl; stack = refl; best = refl }

pub may_begin-requires : goal.may_begin-requires
may_begin-requires c = (c.requires.place, c.requires.search.end)

pub begin-requires-clause-search : goal.begin-requires-clause-search
begin-requires-clause-search c = c.requires.search

pub begin-requires-clause-place : goal.begin-requires-clause-place
begin-requires-clause-place c = c.requires.place

pub begin-requires-clause-set : goal.begin-requires-clause-set
begin-requires-clause-set c = c.requires.ready.odd.set

pub begin-requires-clause-table : goal.begin-requires-clause-table
begin-requires-clause-table c = c.requires.ready.odd.rows

pub begin-requires-clause-empty : goal.begin-requires-clause-empty
begin-requires-clause-empty c = c.requires.ready.empty

pub begin-requires-clause-stack : goal.begin-requires-clause-stack
begin-requires-clause-stack c = c.requires.ready.stack

pub begin-requires-2-clause-search : goal.begin-requires-2-clause-search
begin-requires-2-clause-search c = c.requires.search

pub begin-requires-2-clause-place : goal.begin-requires-2-clause-place
begin-requires-2-clause-place c = c.requires.place

pub begin-requires-2-clause-set : goal.begin-requires-2-clause-set
begin-requires-2-clause-set c = c.requires.ready.even.set

pub begin-requires-2-clause-table : goal.begin-requires-2-clause-table
begin-requires-2-clause-table c = c.requires.ready.even.rows

pub begin-requires-2-clause-empty : goal.begin-requires-2-clause-empty
begin-requires-2-clause-empty c = c.requires.ready.empty

pub begin-requires-2-clause-stack : goal.begin-requires-2-clause-stack
begin-requires-2-clause-stack c = c.requires.ready.stack

pub returns-then-buffers-clause-best : goal.returns-then-buffers-clause-best
returns-then-buffers-clause-best c = refl

pub returns-clause-best : goal.returns-clause-best
returns-clause-best c = refl
