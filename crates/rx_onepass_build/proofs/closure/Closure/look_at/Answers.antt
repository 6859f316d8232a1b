use Rattle.std.proofs.Common.{◌≡◌, ℕ, ◌+◌, ◌<◌, ◌++◌, map, reverse, ◌==◌, if◌then◌else◌, ◌∷◌, sym, ◌∙◌, ap, subst, refl}
use Rattle.std.specs.Int.{bit_at}
use Rattle.std.proofs.lemmas.Result.{IfOk-weaker, IfErr-weaker, err_from_is_err_and}
use Rattle.rx_nfa.specs.Automaton.{state_accepts}
use Rattle.rx_nfa.specs.Ordered.{target}
use Rattle.rx_onepass_table.specs.Words.{slot_limit}
use Rattle.rx_onepass_build.specs.Build.{IsMadeInVain}
use Rattle.rx_onepass_build.specs.Filling.{IsToldBy}
use Rattle.rx_onepass_build.specs.Stop.{error_of}
use Rattle.rx_onepass_build.specs.Told.{frame_at}
use Rattle.rx_onepass_build.proofs.lemmas.FillingLemmas.{told-kept, told-new, told-twice, row-kept}
use Rattle.rx_onepass_build.proofs.lemmas.EntryLemmas.{same-of}
use Rattle.rx_onepass_build.proofs.lemmas.StateLemmas.{goes-rests, goes-look, goes-slot, goes-union, few-look, few-slot, few-pattern}
use Rattle.rx_onepass_build.proofs.closure.Closure.look_at.Goals as goal

pub returns-in-ByteRange-clause-told : goal.returns-in-ByteRange-clause-told
returns-in-ByteRange-clause-told c =
    IfOk-weaker c.read.result _ _
    (λ u same done way taken told.
    subst (IsToldBy c.args.job.now.nfa.now c.args.self.now.entry (way ∷ done)) (sym same)
    (told-kept c.args.job.now.nfa.now c.args.self.now.entry way c.args.frame taken.is_way done c.args.self.now.told (ap state_accepts
    (sym c.state.ensures.value ∙ c.in-ByteRange.is)) told))
    c.read.ensures.told

pub returns-in-Sparse-clause-told : goal.returns-in-Sparse-clause-told
returns-in-Sparse-clause-told c =
    IfOk-weaker c.read-in-Sparse.result _ _
    (λ u same done way taken told.
    subst (IsToldBy c.args.job.now.nfa.now c.args.self.now.entry (way ∷ done)) (sym same)
    (told-kept c.args.job.now.nfa.now c.args.self.now.entry way c.args.frame taken.is_way done c.args.self.now.told (ap state_accepts
    (sym c.state.ensures.value ∙ c.in-Sparse.is)) told))
    c.read-in-Sparse.ensures.told

pub returns-in_ok-push_frame-in-Look-clause-cells : goal.returns-in_ok-push_frame-in-Look-clause-cells
returns-in_ok-push_frame-in-Look-clause-cells c done way taken told h =
    row-kept c.args.job.now c.args.entries.now.items.items c.args.self.now.entry done c.args.self.now.cells.items way c.args.frame taken.is_way
    (λ byte. ap (λ s. target s byte) (sym c.state.ensures.value ∙ c.in-Look.is)) h

pub returns-in_ok-push_frame-in-Look-clause-told : goal.returns-in_ok-push_frame-in-Look-clause-told
returns-in_ok-push_frame-in-Look-clause-told c done way taken told =
    told-kept c.args.job.now.nfa.now c.args.self.now.entry way c.args.frame taken.is_way done c.args.self.now.told (ap state_accepts
    (sym c.state.ensures.value ∙ c.in-Look.is)) told

pub returns-in_ok-push_frames-in-Union-clause-cells : goal.returns-in_ok-push_frames-in-Union-clause-cells
returns-in_ok-push_frames-in-Union-clause-cells c done way taken told h =
    row-kept c.args.job.now c.args.entries.now.items.items c.args.self.now.entry done c.args.self.now.cells.items way c.args.frame taken.is_way
    (λ byte. ap (λ s. target s byte) (sym c.state.ensures.value ∙ c.in-Union.is)) h

pub returns-in_ok-push_frames-in-Union-clause-told : goal.returns-in_ok-push_frames-in-Union-clause-told
returns-in_ok-push_frames-in-Union-clause-told c done way taken told =
    told-kept c.args.job.now.nfa.now c.args.self.now.entry way c.args.frame taken.is_way done c.args.self.now.told (ap state_accepts
    (sym c.state.ensures.value ∙ c.in-Union.is)) told

pub returns-in_ok-push_frame-in-Capture-clause-cells : goal.returns-in_ok-push_frame-in-Capture-clause-cells
returns-in_ok-push_frame-in-Capture-clause-cells c done way taken told h =
    row-kept c.args.job.now c.args.entries.now.items.items c.args.self.now.entry done c.args.self.now.cells.items way c.args.frame taken.is_way
    (λ byte. ap (λ s. target s byte) (sym c.state.ensures.value ∙ c.in-Capture.is)) h

pub returns-in_ok-push_frame-in-Capture-clause-told : goal.returns-in_ok-push_frame-in-Capture-clause-told
returns-in_ok-push_frame-in-Capture-clause-told c done way taken told =
    told-kept c.args.job.now.nfa.now c.args.self.now.entry way c.args.frame taken.is_way done c.args.self.now.told (ap state_accepts
    (sym c.state.ensures.value ∙ c.in-Capture.is)) told

pub returns-in-Fail-clause-cells : goal.returns-in-Fail-clause-cells
returns-in-Fail-clause-cells c done way taken told h =
    row-kept c.args.job.now c.args.entries.now.items.items c.args.self.now.entry done c.args.self.now.cells.items way c.args.frame taken.is_way
    (λ byte. ap (λ s. target s byte) (sym c.state.ensures.value ∙ c.in-Fail.is)) h

pub returns-in-Fail-clause-told : goal.returns-in-Fail-clause-told
returns-in-Fail-clause-told c done way taken told =
    told-kept c.args.job.now.nfa.now c.args.self.now.entry way c.args.frame taken.is_way done c.args.self.now.told (ap state_accepts
    (sym c.state.ensures.value ∙ c.in-Fail.is)) told

pub returns-in_ok-push_frame-in-Look-clause-on : goal.returns-in_ok-push_frame-in-Look-clause-on
returns-in_ok-push_frame-in-Look-clause-on c =
    goes-look c.args.job.now.nfa.now c.args.frame _ _ c.in-Look.look c.in-Look.next c.with_look.result
    (sym c.state.ensures.value ∙ c.in-Look.is) c.with_look.ensures.slots c.with_look.ensures.looks
    (few-look c.args.job.now.nfa.now c.requires.job.in_range c.requires.job.admitted c.args.frame.state c.requires.inside c.in-Look.look
    c.in-Look.next (sym c.state.ensures.value ∙ c.in-Look.is))
    c.requires.small c.with_look.ensures.fits c.in_ok-push_frame-in-Look.ensures

pub returns-in_ok-push_frame-in-Capture-clause-on : goal.returns-in_ok-push_frame-in-Capture-clause-on
returns-in_ok-push_frame-in-Capture-clause-on c =
    let first = c.requires.job.first in
    let slots = c.with_slot-epsilons.ensures.slots in
    goes-slot c.args.job.now.nfa.now c.args.frame _ _ c.in-Capture.next _ c.in-Capture.slot c.with_slot-epsilons.result
    (sym c.state.ensures.value ∙ c.in-Capture.is) c.with_slot-epsilons.ensures.looks
    (subst (λ n. (k : ℕ) → bit_at c.with_slot-epsilons.result.slots k ≡ (if n + k == c.in-Capture.slot then 1 else bit_at c.args.frame.epsilons.slots k))
    first slots)
    (few-slot c.args.job.now.nfa.now c.requires.job.in_range c.requires.job.admitted c.args.frame.state c.requires.inside c.in-Capture.next _ c.in-Capture.slot
    (sym c.state.ensures.value ∙ c.in-Capture.is))
    c.requires.small (c.with_slot-epsilons.ensures.small c.requires.small.slots) c.in_ok-push_frame-in-Capture.ensures

pub returns-in-Match-clause-cells : goal.returns-in-Match-clause-cells
returns-in-Match-clause-cells c =
    IfOk-weaker c.accept.result _ _
    (λ u p done way taken told h.
    row-kept c.args.job.now c.args.entries.now.items.items c.args.self.now.entry done c.args.self.now.cells.items way c.args.frame taken.is_way
    (λ byte. ap (λ s. target s byte) (sym c.state.ensures.value ∙ c.in-Match.is)) h)
    c.accept.ensures.told

pub returns-in-Match-clause-told : goal.returns-in-Match-clause-told
returns-in-Match-clause-told c =
    IfOk-weaker c.accept.result _ _
    (λ u p done way taken told.
    told-new c.args.job.now.nfa.now c.args.self.now.entry way c.args.frame taken.is_way done c.args.self.now.told c.accept.new.told c.in-Match.pattern
    (ap state_accepts (sym c.state.ensures.value ∙ c.in-Match.is)) p.0 p.1 told)
    c.accept.ensures.told

pub returns-in-Match-clause-err : goal.returns-in-Match-clause-err
returns-in-Match-clause-err c done way taken told h =
    IfErr-weaker c.accept.result _ _
    (λ stop second.
    subst (λ s. IsMadeInVain c.args.job.now.nfa.now c.args.job.now.each c.args.entries.now.layout (error_of s)) (sym second.is) (
      c.args.self.now.entry,
      h.is_entry,
      told-twice c.args.job.now.nfa.now c.args.self.now.entry way c.args.frame taken.is_way c.requires.job.in_range.once done c.args.self.now.told second.first c.in-Match.pattern
          second.told
          (ap state_accepts (sym c.state.ensures.value ∙ c.in-Match.is)) told taken.new,
    ))
    c.accept.ensures.err

pub with_look-requires-clause-few : goal.with_look-requires-clause-few
with_look-requires-clause-few c =
    few-look c.args.job.now.nfa.now c.requires.job.in_range c.requires.job.admitted c.args.frame.state c.requires.inside c.in-Look.look c.in-Look.next
    (sym c.state.ensures.value ∙ c.in-Look.is)

pub with_slot-epsilons-requires : goal.with_slot-epsilons-requires
with_slot-epsilons-requires c =
    subst (λ n. c.in-Capture.slot < n + slot_limit) (sym c.requires.job.first)
    (few-slot c.args.job.now.nfa.now c.requires.job.in_range c.requires.job.admitted c.args.frame.state c.requires.inside c.in-Capture.next _ c.in-Capture.slot
    (sym c.state.ensures.value ∙ c.in-Capture.is))

pub returns-in_ok-push_frames-in-Union-clause-on : goal.returns-in_ok-push_frames-in-Union-clause-on
returns-in_ok-push_frames-in-Union-clause-on c =
    goes-union c.args.job.now.nfa.now c.args.frame _ _ c.in-Union.alternates (sym c.state.ensures.value ∙ c.in-Union.is) c.requires.small
    (c.in_ok-push_frames-in-Union.ensures
    ∙ ap (λ xs. map (frame_at c.args.frame.epsilons) xs ++ reverse c.args.self.now.frames.items) c.as_slice.ensures)

pub state-requires : goal.state-requires
state-requires c = c.requires.inside

pub read-requires-clause-job : goal.read-requires-clause-job
read-requires-clause-job c = c.requires.job

pub read-requires-clause-inside : goal.read-requires-clause-inside
read-requires-clause-inside c = c.requires.inside

pub read-requires-clause-small : goal.read-requires-clause-small
read-requires-clause-small c = c.requires.small

pub read-requires-clause-met : goal.read-requires-clause-met
read-requires-clause-met c = c.requires.met

pub read-requires-clause-numbers : goal.read-requires-clause-numbers
read-requires-clause-numbers c = c.requires.numbers

pub read-requires-clause-width : goal.read-requires-clause-width
read-requires-clause-width c = c.requires.width

pub read-requires-in-Sparse-clause-job : goal.read-requires-in-Sparse-clause-job
read-requires-in-Sparse-clause-job c = c.requires.job

pub read-requires-in-Sparse-clause-inside : goal.read-requires-in-Sparse-clause-inside
read-requires-in-Sparse-clause-inside c = c.requires.inside

pub read-requires-in-Sparse-clause-small : goal.read-requires-in-Sparse-clause-small
read-requires-in-Sparse-clause-small c = c.requires.small

pub read-requires-in-Sparse-clause-met : goal.read-requires-in-Sparse-clause-met
read-requires-in-Sparse-clause-met c = c.requires.met

pub read-requires-in-Sparse-clause-numbers : goal.read-requires-in-Sparse-clause-numbers
read-requires-in-Sparse-clause-numbers c = c.requires.numbers

pub read-requires-in-Sparse-clause-width : goal.read-requires-in-Sparse-clause-width
read-requires-in-Sparse-clause-width c = c.requires.width

pub with_look-requires-clause-fits : goal.with_look-requires-clause-fits
with_look-requires-clause-fits c = c.requires.small.looks

pub push_frame-requires : goal.push_frame-requires
push_frame-requires c = tt

pub push_frames-requires : goal.push_frames-requires
push_frames-requires c = tt

pub as_slice-requires : goal.as_slice-requires
as_slice-requires c = tt

pub push_frame-requires-in-Capture : goal.push_frame-requires-in-Capture
push_frame-requires-in-Capture c = tt

pub accept-requires-clause-pattern : goal.accept-requires-clause-pattern
accept-requires-clause-pattern c =
    few-pattern c.args.job.now.nfa.now c.requires.job.in_range c.requires.job.admitted c.args.frame.state c.requires.inside c.in-Match.pattern
    (sym c.state.ensures.value ∙ c.in-Match.is)

pub accept-requires-clause-looks : goal.accept-requires-clause-looks
accept-requires-clause-looks c = c.requires.small.looks

pub returns-in-ByteRange-clause-met : goal.returns-in-ByteRange-clause-met
returns-in-ByteRange-clause-met c = c.read.ensures.met

pub returns-in-ByteRange-clause-of : goal.returns-in-ByteRange-clause-of
returns-in-ByteRange-clause-of c = c.read.ensures.of

pub returns-in-ByteRange-clause-marks : goal.returns-in-ByteRange-clause-marks
returns-in-ByteRange-clause-marks c = c.read.ensures.marks

pub returns-in-ByteRange-clause-entry : goal.returns-in-ByteRange-clause-entry
returns-in-ByteRange-clause-entry c = c.read.ensures.entry

pub returns-in-ByteRange-clause-row : goal.returns-in-ByteRange-clause-row
returns-in-ByteRange-clause-row c = c.read.ensures.row

pub returns-in-ByteRange-clause-cells : goal.returns-in-ByteRange-clause-cells
returns-in-ByteRange-clause-cells c = c.read.ensures.cells

pub returns-in-ByteRange-clause-err : goal.returns-in-ByteRange-clause-err
returns-in-ByteRange-clause-err c = c.read.ensures.err

pub returns-in-ByteRange-clause-on : goal.returns-in-ByteRange-clause-on
returns-in-ByteRange-clause-on c =
    IfOk-weaker c.read.result _ _
    (λ u same.
    goes-rests c.args.job.now.nfa.now c.args.frame _ _ _ (sym c.state.ensures.value ∙ c.in-ByteRange.is) refl refl refl c.requires.small (ap reverse same))
    c.read.ensures.frames

pub returns-in-Sparse-clause-met : goal.returns-in-Sparse-clause-met
returns-in-Sparse-clause-met c = c.read-in-Sparse.ensures.met

pub returns-in-Sparse-clause-of : goal.returns-in-Sparse-clause-of
returns-in-Sparse-clause-of c = c.read-in-Sparse.ensures.of

pub returns-in-Sparse-clause-marks : goal.returns-in-Sparse-clause-marks
returns-in-Sparse-clause-marks c = c.read-in-Sparse.ensures.marks

pub returns-in-Sparse-clause-entry : goal.returns-in-Sparse-clause-entry
returns-in-Sparse-clause-entry c = c.read-in-Sparse.ensures.entry

pub returns-in-Sparse-clause-row : goal.returns-in-Sparse-clause-row
returns-in-Sparse-clause-row c = c.read-in-Sparse.ensures.row

pub returns-in-Sparse-clause-cells : goal.returns-in-Sparse-clause-cells
returns-in-Sparse-clause-cells c = c.read-in-Sparse.ensures.cells

pub returns-in-Sparse-clause-err : goal.returns-in-Sparse-clause-err
returns-in-Sparse-clause-err c = c.read-in-Sparse.ensures.err

pub returns-in-Sparse-clause-on : goal.returns-in-Sparse-clause-on
returns-in-Sparse-clause-on c =
    IfOk-weaker c.read-in-Sparse.result _ _
    (λ u same.
    goes-rests c.args.job.now.nfa.now c.args.frame _ _ _ (sym c.state.ensures.value ∙ c.in-Sparse.is) refl refl refl c.requires.small (ap reverse same))
    c.read-in-Sparse.ensures.frames

pub returns-in_err-push_frame-in-Look-clause-met : goal.returns-in_err-push_frame-in-Look-clause-met
returns-in_err-push_frame-in-Look-clause-met c =
    let p = err_from_is_err_and c.from_residual.result c.from_residual.ensures.1 in
    rw p.1 tt

pub returns-in_err-push_frame-in-Look-clause-of : goal.returns-in_err-push_frame-in-Look-clause-of
returns-in_err-push_frame-in-Look-clause-of c =
    let p = err_from_is_err_and c.from_residual.result c.from_residual.ensures.1 in
    rw p.1 tt

pub returns-in_err-push_frame-in-Look-clause-marks : goal.returns-in_err-push_frame-in-Look-clause-marks
returns-in_err-push_frame-in-Look-clause-marks c =
    let p = err_from_is_err_and c.from_residual.result c.from_residual.ensures.1 in
    rw p.1 tt

pub returns-in_err-push_frame-in-Look-clause-entry : goal.returns-in_err-push_frame-in-Look-clause-entry
returns-in_err-push_frame-in-Look-clause-entry c =
    let p = err_from_is_err_and c.from_residual.result c.from_residual.ensures.1 in
    rw p.1 tt

pub returns-in_err-push_frame-in-Look-clause-row : goal.returns-in_err-push_frame-in-Look-clause-row
returns-in_err-push_frame-in-Look-clause-row c =
    let p = err_from_is_err_and c.from_residual.result c.from_residual.ensures.1 in
    rw p.1 tt

pub returns-in_err-push_frame-in-Look-clause-on : goal.returns-in_err-push_frame-in-Look-clause-on
returns-in_err-push_frame-in-Look-clause-on c =
    let p = err_from_is_err_and c.from_residual.result c.from_residual.ensures.1 in
    rw p.1 tt

pub returns-in_err-push_frame-in-Look-clause-cells : goal.returns-in_err-push_frame-in-Look-clause-cells
returns-in_err-push_frame-in-Look-clause-cells c =
    let p = err_from_is_err_and c.from_residual.result c.from_residual.ensures.1 in
    rw p.1 tt

pub returns-in_err-push_frame-in-Look-clause-told : goal.returns-in_err-push_frame-in-Look-clause-told
returns-in_err-push_frame-in-Look-clause-told c =
    let p = err_from_is_err_and c.from_residual.result c.from_residual.ensures.1 in
    rw p.1 tt

pub returns-in_err-push_frame-in-Look-clause-err : goal.returns-in_err-push_frame-in-Look-clause-err
returns-in_err-push_frame-in-Look-clause-err c done way taken told h =
    let p = err_from_is_err_and c.from_residual.result c.from_residual.ensures.1 in
    rw (p.1, p.2) tt

pub returns-in_ok-push_frame-in-Look-clause-met : goal.returns-in_ok-push_frame-in-Look-clause-met
returns-in_ok-push_frame-in-Look-clause-met c = c.requires.met

pub returns-in_ok-push_frame-in-Look-clause-of : goal.returns-in_ok-push_frame-in-Look-clause-of
returns-in_ok-push_frame-in-Look-clause-of c = same-of c.args.entries.now

pub returns-in_ok-push_frame-in-Look-clause-marks : goal.returns-in_ok-push_frame-in-Look-clause-marks
returns-in_ok-push_frame-in-Look-clause-marks c = refl

pub returns-in_ok-push_frame-in-Look-clause-entry : goal.returns-in_ok-push_frame-in-Look-clause-entry
returns-in_ok-push_frame-in-Look-clause-entry c = refl

pub returns-in_ok-push_frame-in-Look-clause-row : goal.returns-in_ok-push_frame-in-Look-clause-row
returns-in_ok-push_frame-in-Look-clause-row c = refl

pub returns-in_ok-push_frame-in-Look-clause-err : goal.returns-in_ok-push_frame-in-Look-clause-err
returns-in_ok-push_frame-in-Look-clause-err c done way taken told h = tt

pub returns-in_err-push_frames-in-Union-clause-met : goal.returns-in_err-push_frames-in-Union-clause-met
returns-in_err-push_frames-in-Union-clause-met c =
    let p = err_from_is_err_and c.from_residual-in_err-push_frames-in-Union.result c.from_residual-in_err-push_frames-in-Union.ensures.1 in
    rw p.1 tt

pub returns-in_err-push_frames-in-Union-clause-of : goal.returns-in_err-push_frames-in-Union-clause-of
returns-in_err-push_frames-in-Union-clause-of c =
    let p = err_from_is_err_and c.from_residual-in_err-push_frames-in-Union.result c.from_residual-in_err-push_frames-in-Union.ensures.1 in
    rw p.1 tt

pub returns-in_err-push_frames-in-Union-clause-marks : goal.returns-in_err-push_frames-in-Union-clause-marks
returns-in_err-push_frames-in-Union-clause-marks c =
    let p = err_from_is_err_and c.from_residual-in_err-push_frames-in-Union.result c.from_residual-in_err-push_frames-in-Union.ensures.1 in
    rw p.1 tt

pub returns-in_err-push_frames-in-Union-clause-entry : goal.returns-in_err-push_frames-in-Union-clause-entry
returns-in_err-push_frames-in-Union-clause-entry c =
    let p = err_from_is_err_and c.from_residual-in_err-push_frames-in-Union.result c.from_residual-in_err-push_frames-in-Union.ensures.1 in
    rw p.1 tt

pub returns-in_err-push_frames-in-Union-clause-row : goal.returns-in_err-push_frames-in-Union-clause-row
returns-in_err-push_frames-in-Union-clause-row c =
    let p = err_from_is_err_and c.from_residual-in_err-push_frames-in-Union.result c.from_residual-in_err-push_frames-in-Union.ensures.1 in
    rw p.1 tt

pub returns-in_err-push_frames-in-Union-clause-on : goal.returns-in_err-push_frames-in-Union-clause-on
returns-in_err-push_frames-in-Union-clause-on c =
    let p = err_from_is_err_and c.from_residual-in_err-push_frames-in-Union.result c.from_residual-in_err-push_frames-in-Union.ensures.1 in
    rw p.1 tt

pub returns-in_err-push_frames-in-Union-clause-cells : goal.returns-in_err-push_frames-in-Union-clause-cells
returns-in_err-push_frames-in-Union-clause-cells c =
    let p = err_from_is_err_and c.from_residual-in_err-push_frames-in-Union.result c.from_residual-in_err-push_frames-in-Union.ensures.1 in
    rw p.1 tt

pub returns-in_err-push_frames-in-Union-clause-told : goal.returns-in_err-push_frames-in-Union-clause-told
returns-in_err-push_frames-in-Union-clause-told c =
    let p = err_from_is_err_and c.from_residual-in_err-push_frames-in-Union.result c.from_residual-in_err-push_frames-in-Union.ensures.1 in
    rw p.1 tt

pub returns-in_err-push_frames-in-Union-clause-err : goal.returns-in_err-push_frames-in-Union-clause-err
returns-in_err-push_frames-in-Union-clause-err c done way taken told h =
    let p = err_from_is_err_and c.from_residual-in_err-push_frames-in-Union.result c.from_residual-in_err-push_frames-in-Union.ensures.1 in
    rw (p.1, p.2) tt

pub returns-in_ok-push_frames-in-Union-clause-met : goal.returns-in_ok-push_frames-in-Union-clause-met
returns-in_ok-push_frames-in-Union-clause-met c = c.requires.met

pub returns-in_ok-push_frames-in-Union-clause-of : goal.returns-in_ok-push_frames-in-Union-clause-of
returns-in_ok-push_frames-in-Union-clause-of c = same-of c.args.entries.now

pub returns-in_ok-push_frames-in-Union-clause-marks : goal.returns-in_ok-push_frames-in-Union-clause-marks
returns-in_ok-push_frames-in-Union-clause-marks c = refl

pub returns-in_ok-push_frames-in-Union-clause-entry : goal.returns-in_ok-push_frames-in-Union-clause-entry
returns-in_ok-push_frames-in-Union-clause-entry c = refl

pub returns-in_ok-push_frames-in-Union-clause-row : goal.returns-in_ok-push_frames-in-Union-clause-row
returns-in_ok-push_frames-in-Union-clause-row c = refl

pub returns-in_ok-push_frames-in-Union-clause-err : goal.returns-in_ok-push_frames-in-Union-clause-err
returns-in_ok-push_frames-in-Union-clause-err c done way taken told h = tt

pub returns-in_err-push_frame-in-Capture-clause-met : goal.returns-in_err-push_frame-in-Capture-clause-met
returns-in_err-push_frame-in-Capture-clause-met c =
    let p = err_from_is_err_and c.from_residual-in_err-push_frame-in-Capture.result c.from_residual-in_err-push_frame-in-Capture.ensures.1 in
    rw p.1 tt

pub returns-in_err-push_frame-in-Capture-clause-of : goal.returns-in_err-push_frame-in-Capture-clause-of
returns-in_err-push_frame-in-Capture-clause-of c =
    let p = err_from_is_err_and c.from_residual-in_err-push_frame-in-Capture.result c.from_residual-in_err-push_frame-in-Capture.ensures.1 in
    rw p.1 tt

pub returns-in_err-push_frame-in-Capture-clause-marks : goal.returns-in_err-push_frame-in-Capture-clause-marks
returns-in_err-push_frame-in-Capture-clause-marks c =
    let p = err_from_is_err_and c.from_residual-in_err-push_frame-in-Capture.result c.from_residual-in_err-push_frame-in-Capture.ensures.1 in
    rw p.1 tt

pub returns-in_err-push_frame-in-Capture-clause-entry : goal.returns-in_err-push_frame-in-Capture-clause-entry
returns-in_err-push_frame-in-Capture-clause-entry c =
    let p = err_from_is_err_and c.from_residual-in_err-push_frame-in-Capture.result c.from_residual-in_err-push_frame-in-Capture.ensures.1 in
    rw p.1 tt

pub returns-in_err-push_frame-in-Capture-clause-row : goal.returns-in_err-push_frame-in-Capture-clause-row
returns-in_err-push_frame-in-Capture-clause-row c =
    let p = err_from_is_err_and c.from_residual-in_err-push_frame-in-Capture.result c.from_residual-in_err-push_frame-in-Capture.ensures.1 in
    rw p.1 tt

pub returns-in_err-push_frame-in-Capture-clause-on : goal.returns-in_err-push_frame-in-Capture-clause-on
returns-in_err-push_frame-in-Capture-clause-on c =
    let p = err_from_is_err_and c.from_residual-in_err-push_frame-in-Capture.result c.from_residual-in_err-push_frame-in-Capture.ensures.1 in
    rw p.1 tt

pub returns-in_err-push_frame-in-Capture-clause-cells : goal.returns-in_err-push_frame-in-Capture-clause-cells
returns-in_err-push_frame-in-Capture-clause-cells c =
    let p = err_from_is_err_and c.from_residual-in_err-push_frame-in-Capture.result c.from_residual-in_err-push_frame-in-Capture.ensures.1 in
    rw p.1 tt

pub returns-in_err-push_frame-in-Capture-clause-told : goal.returns-in_err-push_frame-in-Capture-clause-told
returns-in_err-push_frame-in-Capture-clause-told c =
    let p = err_from_is_err_and c.from_residual-in_err-push_frame-in-Capture.result c.from_residual-in_err-push_frame-in-Capture.ensures.1 in
    rw p.1 tt

pub returns-in_err-push_frame-in-Capture-clause-err : goal.returns-in_err-push_frame-in-Capture-clause-err
returns-in_err-push_frame-in-Capture-clause-err c done way taken told h =
    let p = err_from_is_err_and c.from_residual-in_err-push_frame-in-Capture.result c.from_residual-in_err-push_frame-in-Capture.ensures.1 in
    rw (p.1, p.2) tt

pub returns-in_ok-push_frame-in-Capture-clause-met : goal.returns-in_ok-push_frame-in-Capture-clause-met
returns-in_ok-push_frame-in-Capture-clause-met c = c.requires.met

pub returns-in_ok-push_frame-in-Capture-clause-of : goal.returns-in_ok-push_frame-in-Capture-clause-of
returns-in_ok-push_frame-in-Capture-clause-of c = same-of c.args.entries.now

pub returns-in_ok-push_frame-in-Capture-clause-marks : goal.returns-in_ok-push_frame-in-Capture-clause-marks
returns-in_ok-push_frame-in-Capture-clause-marks c = refl

pub returns-in_ok-push_frame-in-Capture-clause-entry : goal.returns-in_ok-push_frame-in-Capture-clause-entry
returns-in_ok-push_frame-in-Capture-clause-entry c = refl

pub returns-in_ok-push_frame-in-Capture-clause-row : goal.returns-in_ok-push_frame-in-Capture-clause-row
returns-in_ok-push_frame-in-Capture-clause-row c = refl

pub returns-in_ok-push_frame-in-Capture-clause-err : goal.returns-in_ok-push_frame-in-Capture-clause-err
returns-in_ok-push_frame-in-Capture-clause-err c done way taken told h = tt

pub returns-in-Fail-clause-met : goal.returns-in-Fail-clause-met
returns-in-Fail-clause-met c = c.requires.met

pub returns-in-Fail-clause-of : goal.returns-in-Fail-clause-of
returns-in-Fail-clause-of c = same-of c.args.entries.now

pub returns-in-Fail-clause-marks : goal.returns-in-Fail-clause-marks
returns-in-Fail-clause-marks c = refl

pub returns-in-Fail-clause-entry : goal.returns-in-Fail-clause-entry
returns-in-Fail-clause-entry c = refl

pub returns-in-Fail-clause-row : goal.returns-in-Fail-clause-row
returns-in-Fail-clause-row c = refl

pub returns-in-Fail-clause-err : goal.returns-in-Fail-clause-err
returns-in-Fail-clause-err c done way taken told h = tt

pub returns-in-Fail-clause-on : goal.returns-in-Fail-clause-on
returns-in-Fail-clause-on c = goes-rests c.args.job.now.nfa.now c.args.frame _ _ _ (sym c.state.ensures.value ∙ c.in-Fail.is) refl refl refl c.requires.small refl

pub returns-in-Match-clause-met : goal.returns-in-Match-clause-met
returns-in-Match-clause-met c = IfOk-weaker c.accept.result _ _ (λ _ _. c.requires.met) c.accept.ensures.told

pub returns-in-Match-clause-of : goal.returns-in-Match-clause-of
returns-in-Match-clause-of c = IfOk-weaker c.accept.result _ _ (λ _ _. same-of c.args.entries.now) c.accept.ensures.told

pub returns-in-Match-clause-marks : goal.returns-in-Match-clause-marks
returns-in-Match-clause-marks c = IfOk-weaker c.accept.result _ _ (λ _ _. refl) c.accept.ensures.told

pub returns-in-Match-clause-entry : goal.returns-in-Match-clause-entry
returns-in-Match-clause-entry c = IfOk-weaker c.accept.result _ _ (λ _ _. refl) c.accept.ensures.told

pub returns-in-Match-clause-row : goal.returns-in-Match-clause-row
returns-in-Match-clause-row c = IfOk-weaker c.accept.result _ _ (λ _ _. refl) c.accept.ensures.told

pub returns-in-Match-clause-on : goal.returns-in-Match-clause-on
returns-in-Match-clause-on c =
    IfOk-weaker c.accept.result _ _
    (λ _ _. goes-rests c.args.job.now.nfa.now c.args.frame _ _ _ (sym c.state.ensures.value ∙ c.in-Match.is) refl refl refl c.requires.small refl)
    c.accept.ensures.told
