use Rattle.std.proofs.Common.{◌∙◌, ap, sym, refl, false}
use Rattle.std.specs.Prelude.{None}
use Rattle.std.proofs.lemmas.Result.{IfOk-weaker}
use Rattle.rx_strategies.specs.Attempting.{is_by_inner}
use Rattle.rx_strategies.specs.Cache.{accounted_for}
use Rattle.rx_strategies.proofs.RoomLemmas.{by-core, by-anchored, by-suffix, serves-whole, serves-pre}
use Rattle.rx_strategies.proofs.cache.Cache.new.Goals as goal

pub returns-in-ReverseAnchored-clause-fits : goal.returns-in-ReverseAnchored-clause-fits
returns-in-ReverseAnchored-clause-fits c =
    let by = by-anchored _ _ _ c.in-ReverseAnchored.is c.core.ensures in
    IfOk-weaker c.for_core.result _ _ by.serves c.for_core.ensures.fits

pub returns-in-ReverseAnchored-clause-memory : goal.returns-in-ReverseAnchored-clause-memory
returns-in-ReverseAnchored-clause-memory c =
    let by = by-anchored _ _ _ c.in-ReverseAnchored.is c.core.ensures in
    IfOk-weaker c.for_core.result _ _ (λ cache e. e ∙ by.accounted) c.for_core.ensures.memory

pub returns-in-ReverseAnchored-clause-empty : goal.returns-in-ReverseAnchored-clause-empty
returns-in-ReverseAnchored-clause-empty c = c.for_core.ensures.empty

pub returns-in-ReverseAnchored-clause-reads : goal.returns-in-ReverseAnchored-clause-reads
returns-in-ReverseAnchored-clause-reads c =
    let by = by-anchored _ _ _ c.in-ReverseAnchored.is c.core.ensures in
    IfOk-weaker c.for_core.result _ _ (λ cache e. e ∙ sym by.inner) c.for_core.ensures.reads

pub returns-in-ReverseSuffix-clause-fits : goal.returns-in-ReverseSuffix-clause-fits
returns-in-ReverseSuffix-clause-fits c =
    let by = by-suffix _ _ _ c.in-ReverseSuffix.is c.core-in-ReverseSuffix.ensures in
    IfOk-weaker c.for_core-in-ReverseSuffix.result _ _ by.serves c.for_core-in-ReverseSuffix.ensures.fits

pub returns-in-ReverseSuffix-clause-memory : goal.returns-in-ReverseSuffix-clause-memory
returns-in-ReverseSuffix-clause-memory c =
    let by = by-suffix _ _ _ c.in-ReverseSuffix.is c.core-in-ReverseSuffix.ensures in
    IfOk-weaker c.for_core-in-ReverseSuffix.result _ _ (λ cache e. e ∙ by.accounted) c.for_core-in-ReverseSuffix.ensures.memory

pub returns-in-ReverseSuffix-clause-empty : goal.returns-in-ReverseSuffix-clause-empty
returns-in-ReverseSuffix-clause-empty c = c.for_core-in-ReverseSuffix.ensures.empty

pub returns-in-ReverseSuffix-clause-reads : goal.returns-in-ReverseSuffix-clause-reads
returns-in-ReverseSuffix-clause-reads c =
    let by = by-suffix _ _ _ c.in-ReverseSuffix.is c.core-in-ReverseSuffix.ensures in
    IfOk-weaker c.for_core-in-ReverseSuffix.result _ _ (λ cache e. e ∙ sym by.inner) c.for_core-in-ReverseSuffix.ensures.reads

pub returns-in-Core-clause-fits : goal.returns-in-Core-clause-fits
returns-in-Core-clause-fits c =
    let by = by-core _ _ c.in-Core.is in
    IfOk-weaker c.for_core-in-Core.result _ _ by.serves c.for_core-in-Core.ensures.fits

pub returns-in-Core-clause-memory : goal.returns-in-Core-clause-memory
returns-in-Core-clause-memory c =
    let by = by-core _ _ c.in-Core.is in
    IfOk-weaker c.for_core-in-Core.result _ _ (λ cache e. e ∙ by.accounted) c.for_core-in-Core.ensures.memory

pub returns-in-Core-clause-empty : goal.returns-in-Core-clause-empty
returns-in-Core-clause-empty c = c.for_core-in-Core.ensures.empty

pub returns-in-Core-clause-reads : goal.returns-in-Core-clause-reads
returns-in-Core-clause-reads c =
    let by = by-core _ _ c.in-Core.is in
    IfOk-weaker c.for_core-in-Core.result _ _ (λ cache e. e ∙ sym by.inner) c.for_core-in-Core.ensures.reads

pub returns-in-ReverseInner-clause-fits : goal.returns-in-ReverseInner-clause-fits
returns-in-ReverseInner-clause-fits c =
    IfOk-weaker c.for_inner.result _ _ (serves-whole _ _ c.in-ReverseInner.is) c.for_inner.ensures.fits

pub returns-in-ReverseInner-clause-memory : goal.returns-in-ReverseInner-clause-memory
returns-in-ReverseInner-clause-memory c =
    IfOk-weaker c.for_inner.result _ _ (λ cache e. e ∙ ap accounted_for (sym c.in-ReverseInner.is)) c.for_inner.ensures.memory

pub returns-in-ReverseInner-clause-empty : goal.returns-in-ReverseInner-clause-empty
returns-in-ReverseInner-clause-empty c = c.for_inner.ensures.empty

pub returns-in-ReverseInner-clause-reads : goal.returns-in-ReverseInner-clause-reads
returns-in-ReverseInner-clause-reads c =
    IfOk-weaker c.for_inner.result _ _ (λ cache e. e ∙ ap is_by_inner (sym c.in-ReverseInner.is)) c.for_inner.ensures.reads

pub returns-in-Pre-clause-fits : goal.returns-in-Pre-clause-fits
returns-in-Pre-clause-fits c =
    serves-pre _ _ c.in-Pre.is (record { rooms = None; prefix = c.absent.result; in_use = false; reads_prefix = false })

pub returns-in-Pre-clause-memory : goal.returns-in-Pre-clause-memory
returns-in-Pre-clause-memory c = ap accounted_for (sym c.in-Pre.is)

pub returns-in-Pre-clause-empty : goal.returns-in-Pre-clause-empty
returns-in-Pre-clause-empty c = refl

pub returns-in-Pre-clause-reads : goal.returns-in-Pre-clause-reads
returns-in-Pre-clause-reads c = ap is_by_inner (sym c.in-Pre.is)
