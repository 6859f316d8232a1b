use Rattle.std.proofs.Common.{◌≡◌, ◌<◌, List, [], ◌∷◌, ◌++◌, length, refl, sym, ◌∙◌, ap, subst}
use Rattle.std.proofs.lemmas.Option.{same_Some, slice_get_within}
use Rattle.std.specs.Prelude.{All, Some, false, is_err, slice_get}
use Rattle.rx_determinize.specs.Key.{Key, is_dead}
use Rattle.rx_dfa.specs.Clearing.{counts_of}
use Rattle.rx_dfa.specs.Lazy.{StandsFor, IsNext, IsLive, key_after}
use Rattle.rx_dfa.specs.StateKey.{key_of}
use Rattle.rx_dfa.specs.declared.lazy.rows.Rows.{Rows}
use Rattle.rx_dfa.proofs.lemmas.ChainLemmas.{got-old}
use Rattle.rx_dfa.proofs.lemmas.ClearingLemmas.{grown-kept, grown-same, grown-keys, full-keys, made-grown, made-add}
use Rattle.rx_dfa.proofs.lemmas.LazyLemmas.{next-of, live-after}
use Rattle.rx_dfa.proofs.lemmas.RowsLemmas.{ok-then}
use Rattle.rx_dfa.proofs.lazy.lazy_dfa.Lazy.make_step.Goals as goal

pub set-requires-clause-next : goal.set-requires-clause-next
set-requires-clause-next c k got =
    let l = c.args.self.now in
    let new = c.make_key.new.cache in
    let next = c.in-Some.next in
    let ok : is_err c.make_key.result ≡ false = sym c.is_err.ensures.value ∙ c.if-is_err.false in
    let from : slice_get new.rows.keys c.args.row ≡ Some (key_of new.from) = ok-then c.make_key.result _ ok c.make_key.ensures.from in
    let into : key_of new.into ≡ key_after l.dfa (key_of new.from) c.args.byte = ok-then c.make_key.result _ ok c.make_key.ensures.into in
    let same : key_of new.from ≡ k = same_Some (key_of new.from) k (sym from ∙ got) in
    let stands : StandsFor l.stride new.rows.keys next (key_after l.dfa k c.args.byte) =
    subst (StandsFor l.stride new.rows.keys next) (into ∙ ap (λ (x : Key). key_after l.dfa x c.args.byte) same) c.in-Some.ensures in
    subst (λ column. IsNext l new.rows.keys k column next) (sym c.column-column.ensures.value)
    (next-of l c.column-column.ensures.sound.dfa new.rows.keys k (c.make_key.ensures.fits.rows.keys c.args.row k got) c.args.byte c.requires.small
    c.requires.readable next stands)

pub returns-in-Some-clause-next : goal.returns-in-Some-clause-next
returns-in-Some-clause-next c key old =
    let l = c.args.self.now in
    let new = c.make_key.new.cache in
    let next = c.in-Some.next in
    let ok : is_err c.make_key.result ≡ false = sym c.is_err.ensures.value ∙ c.if-is_err.false in
    let got : slice_get new.rows.keys c.args.row ≡ Some key = ap (λ (r : Rows). slice_get r.keys c.args.row) c.make_key.ensures.rows ∙ old in
    let from : slice_get new.rows.keys c.args.row ≡ Some (key_of new.from) = ok-then c.make_key.result _ ok c.make_key.ensures.from in
    let into : key_of new.into ≡ key_after l.dfa (key_of new.from) c.args.byte = ok-then c.make_key.result _ ok c.make_key.ensures.into in
    let same : key_of new.from ≡ key = same_Some (key_of new.from) key (sym from ∙ got) in
    let stands : StandsFor l.stride new.rows.keys next (key_after l.dfa key c.args.byte) =
    subst (StandsFor l.stride new.rows.keys next) (into ∙ ap (λ (x : Key). key_after l.dfa x c.args.byte) same) c.in-Some.ensures in
    subst (λ (ks : List Key). StandsFor l.stride ks next (key_after l.dfa key c.args.byte)) (sym c.set.ensures.keys) stands

pub make_room-requires-clause-from : goal.make_room-requires-clause-from
make_room-requires-clause-from c =
    let ok : is_err c.make_key.result ≡ false = sym c.is_err.ensures.value ∙ c.if-is_err.false in
    ok-then c.make_key.result _ ok c.make_key.ensures.from

pub make_room-requires-clause-live : goal.make_room-requires-clause-live
make_room-requires-clause-live c =
    let l = c.args.self.now in
    let new = c.make_key.new.cache in
    let ok : is_err c.make_key.result ≡ false = sym c.is_err.ensures.value ∙ c.if-is_err.false in
    let from : slice_get new.rows.keys c.args.row ≡ Some (key_of new.from) = ok-then c.make_key.result _ ok c.make_key.ensures.from in
    let into : key_of new.into ≡ key_after l.dfa (key_of new.from) c.args.byte = ok-then c.make_key.result _ ok c.make_key.ensures.into in
    let below : All (λ q. q < length l.dfa.nfa.states) (key_of new.into).threads = ok-then c.make_key.result _ ok c.make_key.ensures.below in
    subst (IsLive l.dfa) (sym into)
    (live-after l.dfa c.column-column.ensures.sound.dfa (key_of new.from) c.args.byte c.requires.small c.requires.readable
    (ap is_dead (sym into) ∙ c.in_default.ensures.0)
    (subst (λ (x : Key). All (λ q. q < length l.dfa.nfa.states) x.threads) into below)
    (c.make_key.ensures.fits.rows.keys c.args.row (key_of new.from) from).reached)

pub add-requires-clause-live : goal.add-requires-clause-live
add-requires-clause-live c =
    let l = c.args.self.now in
    let new = c.make_key.new.cache in
    let ok : is_err c.make_key.result ≡ false = sym c.is_err.ensures.value ∙ c.if-is_err.false in
    let from : slice_get new.rows.keys c.args.row ≡ Some (key_of new.from) = ok-then c.make_key.result _ ok c.make_key.ensures.from in
    let into : key_of new.into ≡ key_after l.dfa (key_of new.from) c.args.byte = ok-then c.make_key.result _ ok c.make_key.ensures.into in
    let below : All (λ q. q < length l.dfa.nfa.states) (key_of new.into).threads = ok-then c.make_key.result _ ok c.make_key.ensures.below in
    subst (IsLive l.dfa) (sym into)
    (live-after l.dfa c.column-column.ensures.sound.dfa (key_of new.from) c.args.byte c.requires.small c.requires.readable
    (ap is_dead (sym into) ∙ c.in_default.ensures.0)
    (subst (λ (x : Key). All (λ q. q < length l.dfa.nfa.states) x.threads) into below)
    (c.make_key.ensures.fits.rows.keys c.args.row (key_of new.from) from).reached)

pub set-requires-in-Ok-add-clause-row : goal.set-requires-in-Ok-add-clause-row
set-requires-in-Ok-add-clause-row c =
    let keys = c.make_room.new.self.keys in
    let into = key_of c.make_key.new.cache.into in
    subst (λ (ks : List Key). c.in-Ok.kept < length ks) (sym c.in-Ok-add.ensures.ok)
    (slice_get_within (keys ++ into ∷ []) c.in-Ok.kept (key_of c.make_key.new.cache.from)
    (got-old keys (into ∷ []) (key_of c.make_key.new.cache.from) c.in-Ok.kept c.in-Ok.ensures.from))

pub set-requires-in-Ok-add-clause-next : goal.set-requires-in-Ok-add-clause-next
set-requires-in-Ok-add-clause-next c k got =
    let l = c.args.self.now in
    let new = c.make_key.new.cache in
    let keys = c.make_room.new.self.keys in
    let next = c.in-Ok-add.next in
    let ok : is_err c.make_key.result ≡ false = sym c.is_err.ensures.value ∙ c.if-is_err.false in
    let into : key_of new.into ≡ key_after l.dfa (key_of new.from) c.args.byte = ok-then c.make_key.result _ ok c.make_key.ensures.into in
    let from : slice_get (keys ++ key_of new.into ∷ []) c.in-Ok.kept ≡ Some (key_of new.from) =
    got-old keys (key_of new.into ∷ []) (key_of new.from) c.in-Ok.kept c.in-Ok.ensures.from in
    let there : slice_get (keys ++ key_of new.into ∷ []) c.in-Ok.kept ≡ Some k =
    sym (ap (λ (ks : List Key). slice_get ks c.in-Ok.kept) c.in-Ok-add.ensures.ok) ∙ got in
    let same : key_of new.from ≡ k = same_Some (key_of new.from) k (sym from ∙ there) in
    let stands : StandsFor l.stride c.add.new.self.keys next (key_after l.dfa k c.args.byte) =
    subst (StandsFor l.stride c.add.new.self.keys next) (into ∙ ap (λ (x : Key). key_after l.dfa x c.args.byte) same) c.in-Ok-add.ensures.state in
    subst (λ column. IsNext l c.add.new.self.keys k column next) (sym c.column-column.ensures.value)
    (next-of l c.column-column.ensures.sound.dfa c.add.new.self.keys k (c.in-Ok-add.ensures.rows.keys c.in-Ok.kept k got) c.args.byte c.requires.small
    c.requires.readable next stands)

pub returns-then-is_err-clause-grown : goal.returns-then-is_err-clause-grown
returns-then-is_err-clause-grown c key old =
    let l = c.args.self.now in
    let rows = c.make_key.ensures.rows in
    grown-kept l (key ∷ []) (key_after l.dfa key c.args.byte) c.args.cache.now.rows.since _ c.args.cache.now.rows c.make_key.new.cache.rows
    (ap (λ (r : Rows). r.keys) rows) (ap counts_of rows)

pub returns-in-Some-clause-stays : goal.returns-in-Some-clause-stays
returns-in-Some-clause-stays c key old =
    let same : c.set.new.self.keys ≡ c.args.cache.now.rows.keys = c.set.ensures.keys ∙ ap (λ (r : Rows). r.keys) c.make_key.ensures.rows in
    (c.args.row, ap (λ (ks : List Key). slice_get ks c.args.row) same ∙ old)

pub returns-in-Some-clause-grown : goal.returns-in-Some-clause-grown
returns-in-Some-clause-grown c key old =
    let l = c.args.self.now in
    let rows = c.make_key.ensures.rows in
    grown-kept l (key ∷ []) (key_after l.dfa key c.args.byte) c.args.cache.now.rows.since _ c.args.cache.now.rows c.set.new.self
    (c.set.ensures.keys ∙ ap (λ (r : Rows). r.keys) rows) (c.set.ensures.counts ∙ ap counts_of rows)

pub returns-in-Err-clause-grown : goal.returns-in-Err-clause-grown
returns-in-Err-clause-grown c key old =
    let l = c.args.self.now in
    let new = c.make_key.new.cache in
    let ok : is_err c.make_key.result ≡ false = sym c.is_err.ensures.value ∙ c.if-is_err.false in
    let got : slice_get new.rows.keys c.args.row ≡ Some key = ap (λ (r : Rows). slice_get r.keys c.args.row) c.make_key.ensures.rows ∙ old in
    let from : slice_get new.rows.keys c.args.row ≡ Some (key_of new.from) = ok-then c.make_key.result _ ok c.make_key.ensures.from in
    let into : key_of new.into ≡ key_after l.dfa (key_of new.from) c.args.byte = ok-then c.make_key.result _ ok c.make_key.ensures.into in
    let same : key_of new.from ≡ key = same_Some (key_of new.from) key (sym from ∙ got) in
    grown-keys l (key_of new.from) key (key_of new.into) (key_after l.dfa key c.args.byte) new.rows c.args.cache.now.rows c.make_room.new.self c.args.taken same
    (into ∙ ap (λ (x : Key). key_after l.dfa x c.args.byte) same) c.make_key.ensures.rows c.in-Err.ensures.grown

pub returns-in-Err-clause-full : goal.returns-in-Err-clause-full
returns-in-Err-clause-full c key old =
    let l = c.args.self.now in
    let new = c.make_key.new.cache in
    let ok : is_err c.make_key.result ≡ false = sym c.is_err.ensures.value ∙ c.if-is_err.false in
    let got : slice_get new.rows.keys c.args.row ≡ Some key = ap (λ (r : Rows). slice_get r.keys c.args.row) c.make_key.ensures.rows ∙ old in
    let from : slice_get new.rows.keys c.args.row ≡ Some (key_of new.from) = ok-then c.make_key.result _ ok c.make_key.ensures.from in
    let into : key_of new.into ≡ key_after l.dfa (key_of new.from) c.args.byte = ok-then c.make_key.result _ ok c.make_key.ensures.into in
    let same : key_of new.from ≡ key = same_Some (key_of new.from) key (sym from ∙ got) in
    full-keys l (key_of new.into) (key_after l.dfa key c.args.byte) new.rows c.args.cache.now.rows c.make_room.new.self c.in-Err.error
    (into ∙ ap (λ (x : Key). key_after l.dfa x c.args.byte) same) c.make_key.ensures.rows c.in-Err.ensures.full

pub returns-in-Ok-add-clause-stays : goal.returns-in-Ok-add-clause-stays
returns-in-Ok-add-clause-stays c key old =
    let new = c.make_key.new.cache in
    let keys = c.make_room.new.self.keys in
    let ok : is_err c.make_key.result ≡ false = sym c.is_err.ensures.value ∙ c.if-is_err.false in
    let got : slice_get new.rows.keys c.args.row ≡ Some key = ap (λ (r : Rows). slice_get r.keys c.args.row) c.make_key.ensures.rows ∙ old in
    let own : slice_get new.rows.keys c.args.row ≡ Some (key_of new.from) = ok-then c.make_key.result _ ok c.make_key.ensures.from in
    let from : slice_get (keys ++ key_of new.into ∷ []) c.in-Ok.kept ≡ Some (key_of new.from) =
    got-old keys (key_of new.into ∷ []) (key_of new.from) c.in-Ok.kept c.in-Ok.ensures.from in
    (c.in-Ok.kept, ap (λ (ks : List Key). slice_get ks c.in-Ok.kept) (c.set-in-Ok-add.ensures.keys ∙ c.in-Ok-add.ensures.ok) ∙ from ∙ sym own ∙ got)

pub returns-in-Ok-add-clause-grown : goal.returns-in-Ok-add-clause-grown
returns-in-Ok-add-clause-grown c key old =
    let l = c.args.self.now in
    let new = c.make_key.new.cache in
    let made = c.make_room.new.self in
    let last = c.set-in-Ok-add.new.self in
    let ok : is_err c.make_key.result ≡ false = sym c.is_err.ensures.value ∙ c.if-is_err.false in
    let got : slice_get new.rows.keys c.args.row ≡ Some key = ap (λ (r : Rows). slice_get r.keys c.args.row) c.make_key.ensures.rows ∙ old in
    let from : slice_get new.rows.keys c.args.row ≡ Some (key_of new.from) = ok-then c.make_key.result _ ok c.make_key.ensures.from in
    let into : key_of new.into ≡ key_after l.dfa (key_of new.from) c.args.byte = ok-then c.make_key.result _ ok c.make_key.ensures.into in
    let same : key_of new.from ≡ key = same_Some (key_of new.from) key (sym from ∙ got) in
    grown-keys l (key_of new.from) key (key_of new.into) (key_after l.dfa key c.args.byte) new.rows c.args.cache.now.rows last c.args.taken same
    (into ∙ ap (λ (x : Key). key_after l.dfa x c.args.byte) same) c.make_key.ensures.rows
    (made-add l (key_of new.from) (key_of new.into) c.args.taken new.rows made last c.in-Ok.ensures.made
    (c.set-in-Ok-add.ensures.keys ∙ c.in-Ok-add.ensures.ok) (c.set-in-Ok-add.ensures.counts ∙ c.add.ensures.counts))

pub returns-in-Err-add-clause-grown : goal.returns-in-Err-add-clause-grown
returns-in-Err-add-clause-grown c key old =
    let l = c.args.self.now in
    let new = c.make_key.new.cache in
    let made = c.make_room.new.self in
    let last = c.add.new.self in
    let ok : is_err c.make_key.result ≡ false = sym c.is_err.ensures.value ∙ c.if-is_err.false in
    let got : slice_get new.rows.keys c.args.row ≡ Some key = ap (λ (r : Rows). slice_get r.keys c.args.row) c.make_key.ensures.rows ∙ old in
    let from : slice_get new.rows.keys c.args.row ≡ Some (key_of new.from) = ok-then c.make_key.result _ ok c.make_key.ensures.from in
    let into : key_of new.into ≡ key_after l.dfa (key_of new.from) c.args.byte = ok-then c.make_key.result _ ok c.make_key.ensures.into in
    let same : key_of new.from ≡ key = same_Some (key_of new.from) key (sym from ∙ got) in
    grown-keys l (key_of new.from) key (key_of new.into) (key_after l.dfa key c.args.byte) new.rows c.args.cache.now.rows last c.args.taken same
    (into ∙ ap (λ (x : Key). key_after l.dfa x c.args.byte) same) c.make_key.ensures.rows
    (grown-same l (key_of new.from ∷ []) (key_of new.into) new.rows.since (Some c.args.taken) new.rows new.rows made last refl refl refl
    c.in-Err-add.ensures.err c.add.ensures.counts
    (made-grown l (key_of new.from) (key_of new.into) c.args.taken new.rows made c.in-Ok.ensures.made))

pub returns-then-is_err-clause-next : goal.returns-then-is_err-clause-next
returns-then-is_err-clause-next c key old = tt

pub returns-then-is_err-clause-err : goal.returns-then-is_err-clause-err
returns-then-is_err-clause-err c = tt

pub returns-then-is_err-clause-full : goal.returns-then-is_err-clause-full
returns-then-is_err-clause-full c key old = tt

pub returns-then-is_err-clause-stays : goal.returns-then-is_err-clause-stays
returns-then-is_err-clause-stays c key old = tt

pub returns-then-is_err-clause-counted : goal.returns-then-is_err-clause-counted
returns-then-is_err-clause-counted c = tt

pub returns-then-is_err-clause-fits : goal.returns-then-is_err-clause-fits
returns-then-is_err-clause-fits c = c.make_key.ensures.fits

pub set-requires-clause-rows : goal.set-requires-clause-rows
set-requires-clause-rows c = c.make_key.ensures.fits.rows

pub set-requires-clause-column : goal.set-requires-clause-column
set-requires-clause-column c = c.column-column.ensures.within

pub set-requires-clause-row : goal.set-requires-clause-row
set-requires-clause-row c = subst (λ (r : Rows). c.args.row < length r.keys) (sym c.make_key.ensures.rows) c.requires.row

pub returns-in-Some-clause-err : goal.returns-in-Some-clause-err
returns-in-Some-clause-err c = tt

pub returns-in-Some-clause-full : goal.returns-in-Some-clause-full
returns-in-Some-clause-full c key old = tt

pub returns-in-Some-clause-counted : goal.returns-in-Some-clause-counted
returns-in-Some-clause-counted c = tt

pub returns-in-Some-clause-fits : goal.returns-in-Some-clause-fits
returns-in-Some-clause-fits c = record { rows = c.set.ensures.rows; room = c.make_key.ensures.fits.room }

pub make_room-requires-clause-rows : goal.make_room-requires-clause-rows
make_room-requires-clause-rows c = c.make_key.ensures.fits.rows

pub returns-in-Err-clause-next : goal.returns-in-Err-clause-next
returns-in-Err-clause-next c key old = tt

pub returns-in-Err-clause-stays : goal.returns-in-Err-clause-stays
returns-in-Err-clause-stays c key old = tt

pub returns-in-Ok-add-clause-err : goal.returns-in-Ok-add-clause-err
returns-in-Ok-add-clause-err c = tt

pub returns-in-Ok-add-clause-full : goal.returns-in-Ok-add-clause-full
returns-in-Ok-add-clause-full c key old = tt

pub returns-in-Ok-add-clause-counted : goal.returns-in-Ok-add-clause-counted
returns-in-Ok-add-clause-counted c = tt

pub returns-in-Err-add-clause-next : goal.returns-in-Err-add-clause-next
returns-in-Err-add-clause-next c key old = tt

pub returns-in-Err-add-clause-err : goal.returns-in-Err-add-clause-err
returns-in-Err-add-clause-err c = tt

pub returns-in-Err-add-clause-full : goal.returns-in-Err-add-clause-full
returns-in-Err-add-clause-full c key old = tt

pub returns-in-Err-add-clause-stays : goal.returns-in-Err-add-clause-stays
returns-in-Err-add-clause-stays c key old = tt

pub returns-in-Err-add-clause-counted : goal.returns-in-Err-add-clause-counted
returns-in-Err-add-clause-counted c = tt
