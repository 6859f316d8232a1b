use Rattle.std.proofs.Common.{◌≡◌, ◌<◌, ◌+◌, inl, inr, List, [], ◌∷◌, ◌++◌, refl, sym, ◌∙◌, ap, subst}
use Rattle.std.specs.Prelude.{Some, slice_get}
use Rattle.rx_dfa.specs.Clearing.{counts_of, one_more}
use Rattle.rx_dfa.specs.Lazy.{IsNew, state_size}
use Rattle.rx_dfa.specs.LazyCache.{AreRowsOf}
use Rattle.rx_dfa.specs.StateKey.{key_of}
use Rattle.rx_dfa.specs.declared.lazy.rows.Rows.{Rows}
use Rattle.rx_determinize.specs.Key.{Key}
use Rattle.rx_dfa.proofs.lemmas.ClearingLemmas.{full-from, grown-kept, new-beside, new-none}
use Rattle.rx_dfa.proofs.lemmas.FitLemmas.{room-first, room-second}
use Rattle.rx_dfa.proofs.lemmas.RowsLemmas.{ok-then, err-then, rows-same}
use Rattle.rx_dfa.proofs.lazy.rows.Rows.make_room.Goals as goal

pub returns-then-has_room-clause-made : goal.returns-then-has_room-clause-made
returns-then-has_room-clause-made c = inl (refl, refl)

pub returns-then-is_to_give_up-clause-rows : goal.returns-then-is_to_give_up-clause-rows
returns-then-is_to_give_up-clause-rows c =
    let l = c.args.lazy.now in
    subst (AreRowsOf l) (sym c.is_to_give_up.ensures.same) (rows-same l c.args.self.now _ c.requires.rows refl refl refl refl)

pub returns-then-is_to_give_up-clause-grown : goal.returns-then-is_to_give_up-clause-grown
returns-then-is_to_give_up-clause-grown c =
    let same = c.is_to_give_up.ensures.same in
    grown-kept c.args.lazy.now (key_of c.args.from.now ∷ []) (key_of c.args.into.now) c.args.self.now.since _ c.args.self.now c.is_to_give_up.new.self
    (ap (λ (r : Rows). r.keys) same) (ap counts_of same)

pub returns-then-is_to_give_up-clause-counted : goal.returns-then-is_to_give_up-clause-counted
returns-then-is_to_give_up-clause-counted c = c.is_to_give_up.ensures.counted c.if-is_to_give_up.true

pub returns-then-is_to_give_up-clause-err : goal.returns-then-is_to_give_up-clause-err
returns-then-is_to_give_up-clause-err c =
    let l = c.args.lazy.now in
    let r = c.args.self.now in
    let into = key_of c.args.into.now in
    let full = full-from l into r c.has_room.result c.requires.live.alive c.requires.into c.has_room.ensures.room c.if-has_room.false in
    let same : c.is_to_give_up.new.self.size ≡ r.size = ap (λ (x : Rows). x.size) c.is_to_give_up.ensures.same in
    record {
      key = into;
      is_new = subst (λ (ks : List Key). IsNew ks into) (sym (ap (λ (x : Rows). x.keys) c.is_to_give_up.ensures.same)) c.requires.into;
      live = c.requires.live;
      full = subst (λ n. l.capacity < n + state_size l.stride into) (sym same) full.above;
      cleared = c.is_to_give_up.ensures.cleared c.if-is_to_give_up.true;
      few = c.is_to_give_up.ensures.few c.if-is_to_give_up.true;
    }

pub returns-then-is_to_give_up-clause-full : goal.returns-then-is_to_give_up-clause-full
returns-then-is_to_give_up-clause-full c = (
  full-from c.args.lazy.now (key_of c.args.into.now) c.args.self.now c.has_room.result c.requires.live.alive c.requires.into c.has_room.ensures.room c.if-has_room.false,
  c.is_to_give_up.ensures.same,
)

pub add-requires-clause-rows : goal.add-requires-clause-rows
add-requires-clause-rows c = c.clear.ensures.rows c.args.lazy.now

pub add-requires-clause-live : goal.add-requires-clause-live
add-requires-clause-live c = c.requires.rows.keys c.args.row _ c.requires.from

pub add-requires-clause-new : goal.add-requires-clause-new
add-requires-clause-new c = new-none c.clear.new.self.keys (key_of c.args.from.now) c.clear.ensures.empty

pub add-requires-clause-room : goal.add-requires-clause-room
add-requires-clause-room c =
    let l = c.args.lazy.now in
    let from = key_of c.args.from.now in
    room-first l c.has_room.ensures.sound c.clear.new.self (c.clear.ensures.rows l) c.clear.ensures.empty from
    (c.requires.rows.keys c.args.row from c.requires.from).few

pub returns-then-is_err-clause-grown : goal.returns-then-is_err-clause-grown
returns-then-is_err-clause-grown c =
    let l = c.args.lazy.now in
    let into = key_of c.args.into.now in
    let keys = err-then c.add.result _ (sym c.is_err.ensures.value ∙ c.if-is_err.true) c.add.ensures.err in
    inr (record {
      full = full-from l into c.args.self.now c.has_room.result c.requires.live.alive c.requires.into c.has_room.ensures.room c.if-has_room.false;
      held = 0;
      keys = keys ∙ c.clear.ensures.empty;
      counts = c.add.ensures.counts ∙ c.clear.ensures.counts ∙ ap (λ (r : Rows). (one_more r.clears, Some c.args.taken)) c.is_to_give_up.ensures.same;
    })

pub returns-clause-from : goal.returns-clause-from
returns-clause-from c =
    let from = key_of c.args.from.now in
    let keys = ok-then c.add.result _ (sym c.is_err.ensures.value ∙ c.if-is_err.false) c.add.ensures.ok in
    ap (λ (ks : List Key). slice_get ks 0) (keys ∙ ap (λ (ks : List Key). ks ++ from ∷ []) c.clear.ensures.empty)

pub returns-clause-into : goal.returns-clause-into
returns-clause-into c =
    let from = key_of c.args.from.now in
    let keys = ok-then c.add.result _ (sym c.is_err.ensures.value ∙ c.if-is_err.false) c.add.ensures.ok in
    new-beside c.args.self.now.keys c.add.new.self.keys c.args.row from (key_of c.args.into.now) c.requires.from c.requires.into
    (keys ∙ ap (λ (ks : List Key). ks ++ from ∷ []) c.clear.ensures.empty)

pub returns-clause-room : goal.returns-clause-room
returns-clause-room c =
    let l = c.args.lazy.now in
    let from = key_of c.args.from.now in
    let keys = ok-then c.add.result _ (sym c.is_err.ensures.value ∙ c.if-is_err.false) c.add.ensures.ok in
    room-second l c.has_room.ensures.sound c.add.new.self c.add.ensures.rows from
    (keys ∙ ap (λ (ks : List Key). ks ++ from ∷ []) c.clear.ensures.empty) (c.requires.rows.keys c.args.row from c.requires.from).few
    (key_of c.args.into.now) c.requires.live.few

pub returns-clause-made : goal.returns-clause-made
returns-clause-made c =
    let l = c.args.lazy.now in
    let from = key_of c.args.from.now in
    let into = key_of c.args.into.now in
    let keys = ok-then c.add.result _ (sym c.is_err.ensures.value ∙ c.if-is_err.false) c.add.ensures.ok in
    inr (
      full-from l into c.args.self.now c.has_room.result c.requires.live.alive c.requires.into c.has_room.ensures.room c.if-has_room.false,
      keys ∙ ap (λ (ks : List Key). ks ++ from ∷ []) c.clear.ensures.empty,
      c.add.ensures.counts ∙ c.clear.ensures.counts ∙ ap (λ (r : Rows). (one_more r.clears, Some c.args.taken)) c.is_to_give_up.ensures.same,
    )
