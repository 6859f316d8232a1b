use Rattle.std.proofs.Common.{◌≤◌, length, refl, sym, subst}
use Rattle.std.specs.Prelude.{IsSomeAnd}
use Rattle.std.proofs.lemmas.Result.{on_ok_weaker}
use Rattle.rx_search.specs.Sets.{IsFilled}
use Rattle.rx_strategy.specs.Cache as lower
use Rattle.rx_strategy.specs.declared.strategy.Strategy.{Strategy as CoreStrategy}
use Rattle.rx_strategies.specs.Cache.{Fits, AccountsAlike, AreAlike}
use Rattle.rx_strategies.specs.Strategy.{IsFor, kind_in, pattern_count, prefilter_in}
use Rattle.rx_strategies.specs.declared.strategy.Strategy.{Strategy}
use Rattle.rx_strategies.proofs.ArmLemmas.{arm-matching, of-core, of-anchored, of-suffix, of-inner, of-matching, of-filled, of-sure, of-room}
use Rattle.rx_strategies.proofs.RoomLemmas.{by-core, by-anchored, by-suffix, serves-inner, lent-fits, lent-inner, lent-states, left-alike, left-inner}
use Rattle.rx_strategies.proofs.strategy.Strategy.which_overlapping_matches.Goals as goal

pub core_set-requires-clause-room : goal.core_set-requires-clause-room
core_set-requires-clause-room c = of-room _ _ (of-anchored _ _ _ c.in-ReverseAnchored.is c.core.ensures) c.args.input.now _ c.requires.room

pub returns-in-ReverseAnchored-clause-kept : goal.returns-in-ReverseAnchored-clause-kept
returns-in-ReverseAnchored-clause-kept c = c.core_set.ensures.kept

pub returns-in-ReverseAnchored-clause-matching : goal.returns-in-ReverseAnchored-clause-matching
returns-in-ReverseAnchored-clause-matching c =
    of-matching _ _ (of-anchored _ _ _ c.in-ReverseAnchored.is c.core.ensures) c.args.input.now _ _ c.core_set.ensures.matching

pub returns-in-ReverseAnchored-clause-filled : goal.returns-in-ReverseAnchored-clause-filled
returns-in-ReverseAnchored-clause-filled c =
    on_ok_weaker c.core_set.result (of-filled _ _ (of-anchored _ _ _ c.in-ReverseAnchored.is c.core.ensures) c.args.input.now _ _) c.core_set.ensures.filled

pub returns-in-ReverseAnchored-clause-sure : goal.returns-in-ReverseAnchored-clause-sure
returns-in-ReverseAnchored-clause-sure c =
    of-sure _ _ (of-anchored _ _ _ c.in-ReverseAnchored.is c.core.ensures) c.args.input.now c.core_set.ensures.sure

pub core_set-requires-clause-fits : goal.core_set-requires-clause-fits
core_set-requires-clause-fits c = lent-fits _ _ c.cache.view_is _ _ (by-anchored _ _ _ c.in-ReverseAnchored.is c.core.ensures) c.requires.fits

pub returns-in-ReverseAnchored-clause-cache : goal.returns-in-ReverseAnchored-clause-cache
returns-in-ReverseAnchored-clause-cache c = (by-anchored _ _ _ c.in-ReverseAnchored.is c.core.ensures).serves _ c.core_set.ensures.cache

pub returns-in-ReverseAnchored-clause-memory : goal.returns-in-ReverseAnchored-clause-memory
returns-in-ReverseAnchored-clause-memory c =
    left-alike _ _ c.cache.view_is _ _ (by-anchored _ _ _ c.in-ReverseAnchored.is c.core.ensures) _ c.core_set.ensures.memory

pub core_set-requires-in-ReverseSuffix-clause-room : goal.core_set-requires-in-ReverseSuffix-clause-room
core_set-requires-in-ReverseSuffix-clause-room c =
    of-room _ _ (of-suffix _ _ _ c.in-ReverseSuffix.is c.core-in-ReverseSuffix.ensures) c.args.input.now _ c.requires.room

pub returns-in-ReverseSuffix-clause-kept : goal.returns-in-ReverseSuffix-clause-kept
returns-in-ReverseSuffix-clause-kept c = c.core_set-in-ReverseSuffix.ensures.kept

pub returns-in-ReverseSuffix-clause-matching : goal.returns-in-ReverseSuffix-clause-matching
returns-in-ReverseSuffix-clause-matching c =
    of-matching _ _ (of-suffix _ _ _ c.in-ReverseSuffix.is c.core-in-ReverseSuffix.ensures) c.args.input.now _ _ c.core_set-in-ReverseSuffix.ensures.matching

pub returns-in-ReverseSuffix-clause-filled : goal.returns-in-ReverseSuffix-clause-filled
returns-in-ReverseSuffix-clause-filled c =
    on_ok_weaker c.core_set-in-ReverseSuffix.result (of-filled _ _ (of-suffix _ _ _ c.in-ReverseSuffix.is c.core-in-ReverseSuffix.ensures) c.args.input.now _ _)
    c.core_set-in-ReverseSuffix.ensures.filled

pub returns-in-ReverseSuffix-clause-sure : goal.returns-in-ReverseSuffix-clause-sure
returns-in-ReverseSuffix-clause-sure c =
    of-sure _ _ (of-suffix _ _ _ c.in-ReverseSuffix.is c.core-in-ReverseSuffix.ensures) c.args.input.now c.core_set-in-ReverseSuffix.ensures.sure

pub core_set-requires-in-ReverseSuffix-clause-fits : goal.core_set-requires-in-ReverseSuffix-clause-fits
core_set-requires-in-ReverseSuffix-clause-fits c =
    lent-fits _ _ c.cache.view_is _ _ (by-suffix _ _ _ c.in-ReverseSuffix.is c.core-in-ReverseSuffix.ensures) c.requires.fits

pub returns-in-ReverseSuffix-clause-cache : goal.returns-in-ReverseSuffix-clause-cache
returns-in-ReverseSuffix-clause-cache c =
    (by-suffix _ _ _ c.in-ReverseSuffix.is c.core-in-ReverseSuffix.ensures).serves _ c.core_set-in-ReverseSuffix.ensures.cache

pub returns-in-ReverseSuffix-clause-memory : goal.returns-in-ReverseSuffix-clause-memory
returns-in-ReverseSuffix-clause-memory c =
    left-alike _ _ c.cache.view_is _ _ (by-suffix _ _ _ c.in-ReverseSuffix.is c.core-in-ReverseSuffix.ensures) _ c.core_set-in-ReverseSuffix.ensures.memory

pub core_set-requires-in-ReverseInner-clause-room : goal.core_set-requires-in-ReverseInner-clause-room
core_set-requires-in-ReverseInner-clause-room c =
    of-room _ _ (of-inner _ _ _ c.in-ReverseInner.is c.core-in-ReverseInner.ensures) c.args.input.now _ c.requires.room

pub returns-in-ReverseInner-clause-kept : goal.returns-in-ReverseInner-clause-kept
returns-in-ReverseInner-clause-kept c = c.core_set-in-ReverseInner.ensures.kept

pub returns-in-ReverseInner-clause-matching : goal.returns-in-ReverseInner-clause-matching
returns-in-ReverseInner-clause-matching c =
    of-matching _ _ (of-inner _ _ _ c.in-ReverseInner.is c.core-in-ReverseInner.ensures) c.args.input.now _ _ c.core_set-in-ReverseInner.ensures.matching

pub returns-in-ReverseInner-clause-filled : goal.returns-in-ReverseInner-clause-filled
returns-in-ReverseInner-clause-filled c =
    on_ok_weaker c.core_set-in-ReverseInner.result (of-filled _ _ (of-inner _ _ _ c.in-ReverseInner.is c.core-in-ReverseInner.ensures) c.args.input.now _ _)
    c.core_set-in-ReverseInner.ensures.filled

pub returns-in-ReverseInner-clause-sure : goal.returns-in-ReverseInner-clause-sure
returns-in-ReverseInner-clause-sure c =
    of-sure _ _ (of-inner _ _ _ c.in-ReverseInner.is c.core-in-ReverseInner.ensures) c.args.input.now c.core_set-in-ReverseInner.ensures.sure

pub core_set-requires-in-ReverseInner-clause-fits : goal.core_set-requires-in-ReverseInner-clause-fits
core_set-requires-in-ReverseInner-clause-fits c =
    subst (λ (k : CoreStrategy). IsSomeAnd c.cache.inside.rooms (lower.Fits k)) (sym c.core-in-ReverseInner.ensures)
    (lent-inner _ _ c.cache.view_is _ _ c.in-ReverseInner.is c.requires.fits)

pub returns-in-ReverseInner-clause-cache : goal.returns-in-ReverseInner-clause-cache
returns-in-ReverseInner-clause-cache c =
    serves-inner _ _ c.in-ReverseInner.is _
    (subst (λ (k : CoreStrategy). IsSomeAnd c.core_set-in-ReverseInner.new.rooms (lower.Fits k)) c.core-in-ReverseInner.ensures
    c.core_set-in-ReverseInner.ensures.cache)
    (lent-states _ _ c.cache.view_is _ _ c.in-ReverseInner.is c.requires.fits)

pub returns-in-ReverseInner-clause-memory : goal.returns-in-ReverseInner-clause-memory
returns-in-ReverseInner-clause-memory c =
    left-inner _ _ c.cache.view_is _ _ c.in-ReverseInner.is _ c.cache.inside.prefix
    (subst (λ (k : CoreStrategy). AreAlike k c.cache.inside.rooms c.core_set-in-ReverseInner.new.rooms) c.core-in-ReverseInner.ensures
    c.core_set-in-ReverseInner.ensures.memory) (λ off. refl)

pub core_set-requires-in-Core-clause-room : goal.core_set-requires-in-Core-clause-room
core_set-requires-in-Core-clause-room c = of-room _ _ (of-core _ _ c.in-Core.is) c.args.input.now _ c.requires.room

pub returns-in-Core-clause-kept : goal.returns-in-Core-clause-kept
returns-in-Core-clause-kept c = c.core_set-in-Core.ensures.kept

pub returns-in-Core-clause-matching : goal.returns-in-Core-clause-matching
returns-in-Core-clause-matching c = of-matching _ _ (of-core _ _ c.in-Core.is) c.args.input.now _ _ c.core_set-in-Core.ensures.matching

pub returns-in-Core-clause-filled : goal.returns-in-Core-clause-filled
returns-in-Core-clause-filled c =
    on_ok_weaker c.core_set-in-Core.result (of-filled _ _ (of-core _ _ c.in-Core.is) c.args.input.now _ _) c.core_set-in-Core.ensures.filled

pub returns-in-Core-clause-sure : goal.returns-in-Core-clause-sure
returns-in-Core-clause-sure c = of-sure _ _ (of-core _ _ c.in-Core.is) c.args.input.now c.core_set-in-Core.ensures.sure

pub core_set-requires-in-Core-clause-fits : goal.core_set-requires-in-Core-clause-fits
core_set-requires-in-Core-clause-fits c = lent-fits _ _ c.cache.view_is _ _ (by-core _ _ c.in-Core.is) c.requires.fits

pub returns-in-Core-clause-cache : goal.returns-in-Core-clause-cache
returns-in-Core-clause-cache c = (by-core _ _ c.in-Core.is).serves _ c.core_set-in-Core.ensures.cache

pub returns-in-Core-clause-memory : goal.returns-in-Core-clause-memory
returns-in-Core-clause-memory c = left-alike _ _ c.cache.view_is _ _ (by-core _ _ c.in-Core.is) _ c.core_set-in-Core.ensures.memory

pub which_overlapping_matches-requires : goal.which_overlapping_matches-requires
which_overlapping_matches-requires c = record {
  room = subst (λ (s : Strategy). pattern_count s ≤ length c.args.set.now) c.in-Pre.is c.requires.room;
}

pub returns-in-Pre-clause-kept : goal.returns-in-Pre-clause-kept
returns-in-Pre-clause-kept c = c.which_overlapping_matches.ensures.kept

pub returns-in-Pre-clause-matching : goal.returns-in-Pre-clause-matching
returns-in-Pre-clause-matching c = arm-matching _ _ c.in-Pre.is c.args.input.now _ _ c.which_overlapping_matches.ensures.matching

pub returns-in-Pre-clause-filled : goal.returns-in-Pre-clause-filled
returns-in-Pre-clause-filled c =
    subst (λ (s : Strategy). IsFilled (λ r. IsFor s r) (prefilter_in s) c.args.input.now c.args.set.now c.which_overlapping_matches.new.set (kind_in s))
    (sym c.in-Pre.is) c.which_overlapping_matches.ensures.filled

pub returns-in-Pre-clause-cache : goal.returns-in-Pre-clause-cache
returns-in-Pre-clause-cache c = subst (λ (s : Strategy). Fits s c.args.cache.now) (sym c.in-Pre.is) tt

pub returns-in-Pre-clause-memory : goal.returns-in-Pre-clause-memory
returns-in-Pre-clause-memory c = subst (λ (s : Strategy). AccountsAlike s c.args.cache.now c.args.cache.now) (sym c.in-Pre.is) refl
