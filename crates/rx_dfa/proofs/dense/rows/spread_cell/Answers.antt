use Rattle.rx_dfa.proofs.lemmas.RowLemmas.{grows-same}
use Rattle.rx_dfa.proofs.lemmas.FilledLemmas.{unmade}
use Rattle.std.proofs.Common.{◌≡◌, ℕ, length, sym, ◌∙◌, ap, subst, refl, arith}
use Rattle.std.specs.Prelude.{Some, None, slice_index, if◌then◌else◌}
use Rattle.std.proofs.lemmas.List.{get_or_read}
use Rattle.std.proofs.lemmas.Result.{err_from_is_err_and}
use Rattle.rx_nfa.specs.Ordered.{AreBelow}
use Rattle.rx_nfa.proofs.lemmas.lists.TargetLemmas.{targets-below}
use Rattle.rx_determinize.specs.Key.{counting}
use Rattle.rx_determinize.specs.Sight.{class_kept}
use Rattle.rx_dfa.specs.Automaton.{next_key}
use Rattle.rx_dfa.specs.Alphabet.{reads}
use Rattle.rx_dfa.specs.StateKey.{key_of}
use Rattle.rx_dfa.specs.Job.{dfa_in}
use Rattle.rx_dfa.specs.Found.{IsNumber}
use Rattle.rx_dfa.specs.Spread.{arrived_key, AreKnown}
use Rattle.rx_dfa.proofs.lemmas.ReachLemmas.{kept-stand}
use Rattle.rx_dfa.proofs.lemmas.KeyLemmas.{counting-below}
use Rattle.rx_dfa.proofs.lemmas.FindLemmas.{memory-refused}
use Rattle.rx_dfa.proofs.lemmas.CellLemmas.{cell-quits, next-is, cell-made}
use Rattle.rx_dfa.proofs.lemmas.SpreadLemmas.{spread-next, spread-kept}
use Rattle.rx_dfa.proofs.lemmas.KnownLemmas.{known-grows, cell-known}
use Rattle.rx_dfa.proofs.dense.rows.spread_cell.Goals as goal

pub returns-then-not-reads-clause-made : goal.returns-then-not-reads-clause-made
returns-then-not-reads-clause-made c =
    let j = c.args.job.now in
    let byte = get_or_read j.alphabet.now.bytes.items c.args.class c.index-byte.result.now c.requires.class c.index-byte.ensures 0 in
    cell-quits (dfa_in j) j.alphabet.now.words c.requires.job (key_of c.args.desk.now.row) c.args.class c.requires.class c.args.found.now c.requires.found
    (sym (ap (reads j.alphabet.now.words) byte) ∙ sym c.reads.ensures ∙ c.if-not-reads.true)

pub reach-requires-clause-lists : goal.reach-requires-clause-lists
reach-requires-clause-lists c = (_, c.requires.spread.parts.lists)

pub returns-in_err-reach-clause-made : goal.returns-in_err-reach-clause-made
returns-in_err-reach-clause-made c =
    let e = err_from_is_err_and c.from_residual.result c.from_residual.ensures.1 in
    record {
      found = c.requires.found;
      ok = rw (e.1) tt;
      err = rw (e.1) (memory-refused (dfa_in c.args.job.now) c.args.found.now.stride c.args.found.now.limit e.0 e.2);
    }

pub returns-in-Some-clause-count : goal.returns-in-Some-clause-count
returns-in-Some-clause-count c = ap (λ (l : _). length l.heads.items) c.reach.ensures.lists ∙ c.requires.count

pub returns-in-Some-clause-known : goal.returns-in-Some-clause-known
returns-in-Some-clause-known c = subst (AreKnown (dfa_in c.args.job.now) c.args.found.now) (sym c.reach.ensures.known) c.requires.known

pub returns-in-Some-clause-spread : goal.returns-in-Some-clause-spread
returns-in-Some-clause-spread c =
    spread-kept (dfa_in c.args.job.now) (key_of c.args.desk.now.row) c.args.spread.now _ c.reach.ensures.lists c.reach.ensures.loops c.reach.ensures.matches
    c.requires.spread

pub returns-in-Some-clause-made : goal.returns-in-Some-clause-made
returns-in-Some-clause-made c =
    let j = c.args.job.now in
    let d = dfa_in j in
    let k = key_of c.args.desk.now.row in
    let w = c.requires.spread in
    let byte = get_or_read j.alphabet.now.bytes.items c.args.class c.index-byte.result.now c.requires.class c.index-byte.ensures 0 in
    let stand = slice_index d.bytes c.args.class in
    let before : c.kept-before.result ≡ class_kept d.keeps d.classes d.bytes stand =
    c.kept-before.ensures ∙ ap (λ (b : ℕ). if d.keeps then Some b else None) byte ∙ sym (kept-stand d c.requires.job.sound c.args.class c.requires.class) in
    let next : arrived_key d.kind d.nfa.states d.nfa.start_anchored (key_of c.reach.new.self.reached) ≡ next_key d k stand =
    spread-next d k c.args.spread.now stand _ _ _ _ w (c.in_ok-reach.ensures.threads _ w.parts.lists) (c.reach.ensures.loops ∙ w.parts.loops)
    (ap (λ (m : _). m.items) c.reach.ensures.matches ∙ w.parts.matches) (c.in_ok-reach.ensures.before ∙ before) in
    let read = sym (ap (reads j.alphabet.now.words) byte) ∙ sym c.reads.ensures ∙ c.if-not-reads.false in
    cell-known d j.alphabet.now.words c.requires.job k c.args.class c.requires.class c.args.found.now c.in-Some.state _ next read c.requires.found
    (c.in-Some.ensures.some d c.args.found.now (subst (AreKnown d c.args.found.now) (sym c.reach.ensures.known) c.requires.known))

pub arrive-requires-clause-below : goal.arrive-requires-clause-below
arrive-requires-clause-below c =
    let d = dfa_in c.args.job.now in
    let w = c.requires.spread in
    let n = length d.nfa.states in
    subst (AreBelow n) (sym (c.in_ok-reach.ensures.threads _ w.parts.lists))
    (targets-below d.nfa.states c.requires.job.sound.in_range.names (slice_index d.bytes c.args.class) (counting d.kind d.nfa.states w.threads)
    (counting-below n d.kind d.nfa.states w.threads w.below))

pub returns-in_err-arrive-clause-made : goal.returns-in_err-arrive-clause-made
returns-in_err-arrive-clause-made c =
    let e = err_from_is_err_and c.from_residual-in_err-arrive.result c.from_residual-in_err-arrive.ensures.1 in
    record {
      found = c.requires.found;
      ok = rw (e.1) tt;
      err = rw (e.1) (memory-refused (dfa_in c.args.job.now) c.args.found.now.stride c.args.found.now.limit e.0 e.2);
    }

pub returns-in_err-state-clause-made : goal.returns-in_err-state-clause-made
returns-in_err-state-clause-made c =
    let j = c.args.job.now in
    let d = dfa_in j in
    let k = key_of c.args.desk.now.row in
    let w = c.requires.spread in
    let byte = get_or_read j.alphabet.now.bytes.items c.args.class c.index-byte.result.now c.requires.class c.index-byte.ensures 0 in
    let stand = slice_index d.bytes c.args.class in
    let before : c.kept-before.result ≡ class_kept d.keeps d.classes d.bytes stand =
    c.kept-before.ensures ∙ ap (λ (b : ℕ). if d.keeps then Some b else None) byte ∙ sym (kept-stand d c.requires.job.sound c.args.class c.requires.class) in
    let next : key_of c.arrive.new.into ≡ next_key d k stand =
    c.in_ok-arrive.ensures.key ∙ spread-next d k c.args.spread.now stand _ _ _ _ w (c.in_ok-reach.ensures.threads _ w.parts.lists)
    (c.reach.ensures.loops ∙ w.parts.loops) (ap (λ (m : _). m.items) c.reach.ensures.matches ∙ w.parts.matches) (c.in_ok-reach.ensures.before ∙ before) in
    let read = sym (ap (reads j.alphabet.now.words) byte) ∙ sym c.reads.ensures ∙ c.if-not-reads.false in
    let m = c.in_err-state.ensures.made d c.requires.found
    (λ live. next-is d j.alphabet.now.words c.requires.job k c.args.class c.requires.class (key_of c.arrive.new.into) next c.requires.state read
    c.in_ok-arrive.ensures.below live) in
    let e = err_from_is_err_and c.from_residual-in_err-state.result c.from_residual-in_err-state.ensures.1 in
    record { found = m.found; ok = rw (e.1) tt; err = rw (e.1, e.2) m.err }

pub returns-in_err-note-clause-made : goal.returns-in_err-note-clause-made
returns-in_err-note-clause-made c =
    let j = c.args.job.now in
    let d = dfa_in j in
    let k = key_of c.args.desk.now.row in
    let w = c.requires.spread in
    let byte = get_or_read j.alphabet.now.bytes.items c.args.class c.index-byte.result.now c.requires.class c.index-byte.ensures 0 in
    let stand = slice_index d.bytes c.args.class in
    let before : c.kept-before.result ≡ class_kept d.keeps d.classes d.bytes stand =
    c.kept-before.ensures ∙ ap (λ (b : ℕ). if d.keeps then Some b else None) byte ∙ sym (kept-stand d c.requires.job.sound c.args.class c.requires.class) in
    let next : key_of c.arrive.new.into ≡ next_key d k stand =
    c.in_ok-arrive.ensures.key ∙ spread-next d k c.args.spread.now stand _ _ _ _ w (c.in_ok-reach.ensures.threads _ w.parts.lists)
    (c.reach.ensures.loops ∙ w.parts.loops) (ap (λ (m : _). m.items) c.reach.ensures.matches ∙ w.parts.matches) (c.in_ok-reach.ensures.before ∙ before) in
    let read = sym (ap (reads j.alphabet.now.words) byte) ∙ sym c.reads.ensures ∙ c.if-not-reads.false in
    let m = c.in_ok-state.ensures.made d c.requires.found
    (λ live. next-is d j.alphabet.now.words c.requires.job k c.args.class c.requires.class (key_of c.arrive.new.into) next c.requires.state read
    c.in_ok-arrive.ensures.below live) in
    let e = err_from_is_err_and c.from_residual-in_err-note.result c.from_residual-in_err-note.ensures.1 in
    record {
      found = m.found;
      ok = rw (e.1) tt;
      err = rw (e.1, e.2) (memory-refused d c.args.found.now.stride c.args.found.now.limit _ c.in_err-note.ensures.err);
    }

pub returns-clause-count : goal.returns-clause-count
returns-clause-count c = ap (λ (l : _). length l.heads.items) c.reach.ensures.lists ∙ c.requires.count

pub returns-clause-spread : goal.returns-clause-spread
returns-clause-spread c =
    spread-kept (dfa_in c.args.job.now) (key_of c.args.desk.now.row) c.args.spread.now _ c.reach.ensures.lists c.reach.ensures.loops c.reach.ensures.matches
    c.requires.spread

pub returns-clause-known : goal.returns-clause-known
returns-clause-known c =
    let j = c.args.job.now in
    let d = dfa_in j in
    let k = key_of c.args.desk.now.row in
    let w = c.requires.spread in
    let byte = get_or_read j.alphabet.now.bytes.items c.args.class c.index-byte.result.now c.requires.class c.index-byte.ensures 0 in
    let stand = slice_index d.bytes c.args.class in
    let before : c.kept-before.result ≡ class_kept d.keeps d.classes d.bytes stand =
    c.kept-before.ensures ∙ ap (λ (b : ℕ). if d.keeps then Some b else None) byte ∙ sym (kept-stand d c.requires.job.sound c.args.class c.requires.class) in
    let next : key_of c.arrive.new.into ≡ next_key d k stand =
    c.in_ok-arrive.ensures.key ∙ spread-next d k c.args.spread.now stand _ _ _ _ w (c.in_ok-reach.ensures.threads _ w.parts.lists)
    (c.reach.ensures.loops ∙ w.parts.loops) (ap (λ (m : _). m.items) c.reach.ensures.matches ∙ w.parts.matches) (c.in_ok-reach.ensures.before ∙ before) in
    let read = sym (ap (reads j.alphabet.now.words) byte) ∙ sym c.reads.ensures ∙ c.if-not-reads.false in
    let m = c.in_ok-state.ensures.made d c.requires.found
    (λ live. next-is d j.alphabet.now.words c.requires.job k c.args.class c.requires.class (key_of c.arrive.new.into) next c.requires.state read
    c.in_ok-arrive.ensures.below live) in
    c.in_ok-note.ensures.known d c.find.new.self
    (known-grows d c.args.found.now c.find.new.self c.reach.new.self.known c.in_ok-state.ensures.grows
    (subst (AreKnown d c.args.found.now) (sym c.reach.ensures.known) c.requires.known))
    (subst (IsNumber c.find.new.self c.in_ok-state.state) c.in_ok-arrive.ensures.key m.ok)

pub returns-clause-made : goal.returns-clause-made
returns-clause-made c =
    let j = c.args.job.now in
    let d = dfa_in j in
    let k = key_of c.args.desk.now.row in
    let w = c.requires.spread in
    let byte = get_or_read j.alphabet.now.bytes.items c.args.class c.index-byte.result.now c.requires.class c.index-byte.ensures 0 in
    let stand = slice_index d.bytes c.args.class in
    let before : c.kept-before.result ≡ class_kept d.keeps d.classes d.bytes stand =
    c.kept-before.ensures ∙ ap (λ (b : ℕ). if d.keeps then Some b else None) byte ∙ sym (kept-stand d c.requires.job.sound c.args.class c.requires.class) in
    let next : key_of c.arrive.new.into ≡ next_key d k stand =
    c.in_ok-arrive.ensures.key ∙ spread-next d k c.args.spread.now stand _ _ _ _ w (c.in_ok-reach.ensures.threads _ w.parts.lists)
    (c.reach.ensures.loops ∙ w.parts.loops) (ap (λ (m : _). m.items) c.reach.ensures.matches ∙ w.parts.matches) (c.in_ok-reach.ensures.before ∙ before) in
    let read = sym (ap (reads j.alphabet.now.words) byte) ∙ sym c.reads.ensures ∙ c.if-not-reads.false in
    cell-made d j.alphabet.now.words c.requires.job k c.args.class c.requires.class c.args.found.now c.find.new.self _ (key_of c.arrive.new.into) next read
    (c.in_ok-state.ensures.made d c.requires.found
    (λ live. next-is d j.alphabet.now.words c.requires.job k c.args.class c.requires.class (key_of c.arrive.new.into) next c.requires.state read
    c.in_ok-arrive.ensures.below live))

pub returns-in_err-reach-clause-count : goal.returns-in_err-reach-clause-count
returns-in_err-reach-clause-count c = unmade _ _ c.from_residual.result c.from_residual.ensures.1

pub returns-in_err-reach-clause-known : goal.returns-in_err-reach-clause-known
returns-in_err-reach-clause-known c = unmade _ _ c.from_residual.result c.from_residual.ensures.1

pub returns-in_err-reach-clause-spread : goal.returns-in_err-reach-clause-spread
returns-in_err-reach-clause-spread c = unmade _ _ c.from_residual.result c.from_residual.ensures.1

pub returns-in_err-reach-clause-row : goal.returns-in_err-reach-clause-row
returns-in_err-reach-clause-row c = refl

pub returns-in_err-arrive-clause-count : goal.returns-in_err-arrive-clause-count
returns-in_err-arrive-clause-count c = unmade _ _ c.from_residual-in_err-arrive.result c.from_residual-in_err-arrive.ensures.1

pub returns-in_err-arrive-clause-known : goal.returns-in_err-arrive-clause-known
returns-in_err-arrive-clause-known c = unmade _ _ c.from_residual-in_err-arrive.result c.from_residual-in_err-arrive.ensures.1

pub returns-in_err-arrive-clause-spread : goal.returns-in_err-arrive-clause-spread
returns-in_err-arrive-clause-spread c = unmade _ _ c.from_residual-in_err-arrive.result c.from_residual-in_err-arrive.ensures.1

pub returns-in_err-arrive-clause-row : goal.returns-in_err-arrive-clause-row
returns-in_err-arrive-clause-row c = refl

pub returns-in_err-state-clause-count : goal.returns-in_err-state-clause-count
returns-in_err-state-clause-count c = unmade _ _ c.from_residual-in_err-state.result c.from_residual-in_err-state.ensures.1

pub returns-in_err-state-clause-known : goal.returns-in_err-state-clause-known
returns-in_err-state-clause-known c = unmade _ _ c.from_residual-in_err-state.result c.from_residual-in_err-state.ensures.1

pub returns-in_err-state-clause-spread : goal.returns-in_err-state-clause-spread
returns-in_err-state-clause-spread c = unmade _ _ c.from_residual-in_err-state.result c.from_residual-in_err-state.ensures.1

pub returns-in_err-state-clause-row : goal.returns-in_err-state-clause-row
returns-in_err-state-clause-row c = refl

pub returns-in_err-note-clause-count : goal.returns-in_err-note-clause-count
returns-in_err-note-clause-count c = unmade _ _ c.from_residual-in_err-note.result c.from_residual-in_err-note.ensures.1

pub returns-in_err-note-clause-known : goal.returns-in_err-note-clause-known
returns-in_err-note-clause-known c = unmade _ _ c.from_residual-in_err-note.result c.from_residual-in_err-note.ensures.1

pub returns-in_err-note-clause-spread : goal.returns-in_err-note-clause-spread
returns-in_err-note-clause-spread c = unmade _ _ c.from_residual-in_err-note.result c.from_residual-in_err-note.ensures.1

pub returns-in_err-note-clause-row : goal.returns-in_err-note-clause-row
returns-in_err-note-clause-row c = refl

pub returns-in_err-reach-clause-grows : goal.returns-in_err-reach-clause-grows
returns-in_err-reach-clause-grows c = grows-same c.args.found.now

pub returns-in_err-arrive-clause-grows : goal.returns-in_err-arrive-clause-grows
returns-in_err-arrive-clause-grows c = grows-same c.args.found.now

pub returns-in_err-state-clause-grows : goal.returns-in_err-state-clause-grows
returns-in_err-state-clause-grows c = c.in_err-state.ensures.grows

pub returns-in_err-note-clause-grows : goal.returns-in_err-note-clause-grows
returns-in_err-note-clause-grows c = c.in_ok-state.ensures.grows

pub returns-clause-grows : goal.returns-clause-grows
returns-clause-grows c = c.in_ok-state.ensures.grows

pub returns-clause-room : goal.returns-clause-room
returns-clause-room c = c.in_ok-arrive.ensures.room

pub returns-clause-row : goal.returns-clause-row
returns-clause-row c = refl

pub returns-in_err-reach-clause-room : goal.returns-in_err-reach-clause-room
returns-in_err-reach-clause-room c = c.requires.room

pub returns-in_err-arrive-clause-room : goal.returns-in_err-arrive-clause-room
returns-in_err-arrive-clause-room c = c.in_err-arrive.ensures.room

pub returns-in_err-state-clause-room : goal.returns-in_err-state-clause-room
returns-in_err-state-clause-room c = c.in_ok-arrive.ensures.room

pub returns-in_err-note-clause-room : goal.returns-in_err-note-clause-room
returns-in_err-note-clause-room c = c.in_ok-arrive.ensures.room

pub returns-in-Some-clause-grows : goal.returns-in-Some-clause-grows
returns-in-Some-clause-grows c = grows-same c.args.found.now

pub returns-in-Some-clause-room : goal.returns-in-Some-clause-room
returns-in-Some-clause-room c = c.requires.room

pub returns-in-Some-clause-row : goal.returns-in-Some-clause-row
returns-in-Some-clause-row c = refl

pub returns-then-not-reads-clause-grows : goal.returns-then-not-reads-clause-grows
returns-then-not-reads-clause-grows c = grows-same c.args.found.now

pub returns-then-not-reads-clause-room : goal.returns-then-not-reads-clause-room
returns-then-not-reads-clause-room c = c.requires.room

pub returns-then-not-reads-clause-row : goal.returns-then-not-reads-clause-row
returns-then-not-reads-clause-row c = refl

pub returns-then-not-reads-clause-count : goal.returns-then-not-reads-clause-count
returns-then-not-reads-clause-count c = c.requires.count

pub returns-then-not-reads-clause-known : goal.returns-then-not-reads-clause-known
returns-then-not-reads-clause-known c = c.requires.known

pub returns-then-not-reads-clause-spread : goal.returns-then-not-reads-clause-spread
returns-then-not-reads-clause-spread c = c.requires.spread

pub note-requires : goal.note-requires
note-requires c = c.in_default.ensures.none

pub reach-requires-clause-class : goal.reach-requires-clause-class
reach-requires-clause-class c = omega (arith, c.requires.class, c.requires.count)

pub index-byte-requires : goal.index-byte-requires
index-byte-requires c = omega (arith, c.requires.class, c.args.job.now.alphabet.now.bytes.ok.0)

pub invariant_of-result : goal.invariant_of-result
invariant_of-result c = omega arith

pub arrive-requires-clause-room : goal.arrive-requires-clause-room
arrive-requires-clause-room c = c.requires.room

pub arrive-requires-clause-whole : goal.arrive-requires-clause-whole
arrive-requires-clause-whole c = record { names = c.requires.job.sound.in_range.names; start = c.requires.job.sound.in_range.start_anchored }

pub find-requires : goal.find-requires
find-requires c = tt

pub kept-before-requires : goal.kept-before-requires
kept-before-requires c = tt

pub reads-requires : goal.reads-requires
reads-requires c = tt

pub state_of-requires : goal.state_of-requires
state_of-requires c = tt
