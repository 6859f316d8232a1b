use Rattle.std.proofs.Common.{◌∙◌, ap, sym, subst, refl, false}
use Rattle.std.proofs.lemmas.Result.{on_ok_weaker}
use Rattle.rx_strategies.specs.Attempting.{is_by_inner}
use Rattle.rx_strategies.specs.Cache.{Fits, accounted_for}
use Rattle.rx_strategies.specs.declared.strategy.Strategy.{Strategy}
use Rattle.rx_strategies.proofs.RoomLemmas.{by-core, by-anchored, by-suffix, left-still, serves-whole, serves-pre}
use Rattle.rx_strategies.proofs.cache.Cache.reset.Goals as goal

pub returns-in-ReverseAnchored-clause-fits : goal.returns-in-ReverseAnchored-clause-fits
returns-in-ReverseAnchored-clause-fits c =
    let by = by-anchored _ _ _ c.in-ReverseAnchored.is c.core.ensures in
    on_ok_weaker c.reset_for.result (by.serves _) c.reset_for.ensures.fits

pub returns-in-ReverseAnchored-clause-memory : goal.returns-in-ReverseAnchored-clause-memory
returns-in-ReverseAnchored-clause-memory c =
    let by = by-anchored _ _ _ c.in-ReverseAnchored.is c.core.ensures in
    on_ok_weaker c.reset_for.result (λ e. e ∙ by.accounted) c.reset_for.ensures.memory

pub returns-in-ReverseAnchored-clause-empty : goal.returns-in-ReverseAnchored-clause-empty
returns-in-ReverseAnchored-clause-empty c = c.reset_for.ensures.empty

pub returns-in-ReverseAnchored-clause-reads : goal.returns-in-ReverseAnchored-clause-reads
returns-in-ReverseAnchored-clause-reads c =
    let by = by-anchored _ _ _ c.in-ReverseAnchored.is c.core.ensures in
    on_ok_weaker c.reset_for.result (λ e. e ∙ sym by.inner) c.reset_for.ensures.reads

pub returns-in-ReverseAnchored-clause-err : goal.returns-in-ReverseAnchored-clause-err
returns-in-ReverseAnchored-clause-err c = c.reset_for.ensures.err

pub returns-in-ReverseAnchored-clause-sure : goal.returns-in-ReverseAnchored-clause-sure
returns-in-ReverseAnchored-clause-sure c fits =
    let by = by-anchored _ _ _ c.in-ReverseAnchored.is c.core.ensures in
    c.reset_for.ensures.sure (by.served _ fits)

pub returns-in-ReverseAnchored-clause-kept : goal.returns-in-ReverseAnchored-clause-kept
returns-in-ReverseAnchored-clause-kept c fits =
    let by = by-anchored _ _ _ c.in-ReverseAnchored.is c.core.ensures in
    c.reset_for.ensures.kept (by.served _ fits)

pub returns-in-ReverseSuffix-clause-fits : goal.returns-in-ReverseSuffix-clause-fits
returns-in-ReverseSuffix-clause-fits c =
    let by = by-suffix _ _ _ c.in-ReverseSuffix.is c.core-in-ReverseSuffix.ensures in
    on_ok_weaker c.reset_for-in-ReverseSuffix.result (by.serves _) c.reset_for-in-ReverseSuffix.ensures.fits

pub returns-in-ReverseSuffix-clause-memory : goal.returns-in-ReverseSuffix-clause-memory
returns-in-ReverseSuffix-clause-memory c =
    let by = by-suffix _ _ _ c.in-ReverseSuffix.is c.core-in-ReverseSuffix.ensures in
    on_ok_weaker c.reset_for-in-ReverseSuffix.result (λ e. e ∙ by.accounted) c.reset_for-in-ReverseSuffix.ensures.memory

pub returns-in-ReverseSuffix-clause-empty : goal.returns-in-ReverseSuffix-clause-empty
returns-in-ReverseSuffix-clause-empty c = c.reset_for-in-ReverseSuffix.ensures.empty

pub returns-in-ReverseSuffix-clause-reads : goal.returns-in-ReverseSuffix-clause-reads
returns-in-ReverseSuffix-clause-reads c =
    let by = by-suffix _ _ _ c.in-ReverseSuffix.is c.core-in-ReverseSuffix.ensures in
    on_ok_weaker c.reset_for-in-ReverseSuffix.result (λ e. e ∙ sym by.inner) c.reset_for-in-ReverseSuffix.ensures.reads

pub returns-in-ReverseSuffix-clause-err : goal.returns-in-ReverseSuffix-clause-err
returns-in-ReverseSuffix-clause-err c = c.reset_for-in-ReverseSuffix.ensures.err

pub returns-in-ReverseSuffix-clause-sure : goal.returns-in-ReverseSuffix-clause-sure
returns-in-ReverseSuffix-clause-sure c fits =
    let by = by-suffix _ _ _ c.in-ReverseSuffix.is c.core-in-ReverseSuffix.ensures in
    c.reset_for-in-ReverseSuffix.ensures.sure (by.served _ fits)

pub returns-in-ReverseSuffix-clause-kept : goal.returns-in-ReverseSuffix-clause-kept
returns-in-ReverseSuffix-clause-kept c fits =
    let by = by-suffix _ _ _ c.in-ReverseSuffix.is c.core-in-ReverseSuffix.ensures in
    c.reset_for-in-ReverseSuffix.ensures.kept (by.served _ fits)

pub returns-in-Core-clause-fits : goal.returns-in-Core-clause-fits
returns-in-Core-clause-fits c =
    let by = by-core _ _ c.in-Core.is in
    on_ok_weaker c.reset_for-in-Core.result (by.serves _) c.reset_for-in-Core.ensures.fits

pub returns-in-Core-clause-memory : goal.returns-in-Core-clause-memory
returns-in-Core-clause-memory c =
    let by = by-core _ _ c.in-Core.is in
    on_ok_weaker c.reset_for-in-Core.result (λ e. e ∙ by.accounted) c.reset_for-in-Core.ensures.memory

pub returns-in-Core-clause-empty : goal.returns-in-Core-clause-empty
returns-in-Core-clause-empty c = c.reset_for-in-Core.ensures.empty

pub returns-in-Core-clause-reads : goal.returns-in-Core-clause-reads
returns-in-Core-clause-reads c =
    let by = by-core _ _ c.in-Core.is in
    on_ok_weaker c.reset_for-in-Core.result (λ e. e ∙ sym by.inner) c.reset_for-in-Core.ensures.reads

pub returns-in-Core-clause-err : goal.returns-in-Core-clause-err
returns-in-Core-clause-err c = c.reset_for-in-Core.ensures.err

pub returns-in-Core-clause-sure : goal.returns-in-Core-clause-sure
returns-in-Core-clause-sure c fits =
    let by = by-core _ _ c.in-Core.is in
    c.reset_for-in-Core.ensures.sure (by.served _ fits)

pub returns-in-Core-clause-kept : goal.returns-in-Core-clause-kept
returns-in-Core-clause-kept c fits =
    let by = by-core _ _ c.in-Core.is in
    c.reset_for-in-Core.ensures.kept (by.served _ fits)

pub returns-in-ReverseInner-clause-fits : goal.returns-in-ReverseInner-clause-fits
returns-in-ReverseInner-clause-fits c =
    on_ok_weaker c.reset_inner.result (serves-whole _ _ c.in-ReverseInner.is _) c.reset_inner.ensures.fits

pub returns-in-ReverseInner-clause-memory : goal.returns-in-ReverseInner-clause-memory
returns-in-ReverseInner-clause-memory c =
    on_ok_weaker c.reset_inner.result (λ e. e ∙ ap accounted_for (sym c.in-ReverseInner.is)) c.reset_inner.ensures.memory

pub returns-in-ReverseInner-clause-empty : goal.returns-in-ReverseInner-clause-empty
returns-in-ReverseInner-clause-empty c = c.reset_inner.ensures.empty

pub returns-in-ReverseInner-clause-reads : goal.returns-in-ReverseInner-clause-reads
returns-in-ReverseInner-clause-reads c =
    on_ok_weaker c.reset_inner.result (λ e. e ∙ ap is_by_inner (sym c.in-ReverseInner.is)) c.reset_inner.ensures.reads

pub returns-in-ReverseInner-clause-err : goal.returns-in-ReverseInner-clause-err
returns-in-ReverseInner-clause-err c = c.reset_inner.ensures.err

pub returns-in-ReverseInner-clause-sure : goal.returns-in-ReverseInner-clause-sure
returns-in-ReverseInner-clause-sure c fits = c.reset_inner.ensures.sure (subst (λ (s : Strategy). Fits s c.args.self.now) c.in-ReverseInner.is fits)

pub returns-in-ReverseInner-clause-kept : goal.returns-in-ReverseInner-clause-kept
returns-in-ReverseInner-clause-kept c fits = c.reset_inner.ensures.kept (subst (λ (s : Strategy). Fits s c.args.self.now) c.in-ReverseInner.is fits)

pub returns-in-Pre-clause-fits : goal.returns-in-Pre-clause-fits
returns-in-Pre-clause-fits c =
    serves-pre _ _ c.in-Pre.is (record { rooms = c.self.inside.rooms; prefix = c.self.inside.prefix; in_use = false; reads_prefix = false })

pub returns-in-Pre-clause-memory : goal.returns-in-Pre-clause-memory
returns-in-Pre-clause-memory c = ap accounted_for (sym c.in-Pre.is)

pub returns-in-Pre-clause-empty : goal.returns-in-Pre-clause-empty
returns-in-Pre-clause-empty c = refl

pub returns-in-Pre-clause-reads : goal.returns-in-Pre-clause-reads
returns-in-Pre-clause-reads c = ap is_by_inner (sym c.in-Pre.is)

pub returns-in-Pre-clause-kept : goal.returns-in-Pre-clause-kept
returns-in-Pre-clause-kept c fits = left-still _ _ c.self.view_is _ (λ k f. f) (λ p f. f)
