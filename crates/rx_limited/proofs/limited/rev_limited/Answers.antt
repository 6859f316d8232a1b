use Rattle.std.proofs.Common.{◌≡◌, ℕ, ◌+◌, ◌-◌, ◌<◌, ◌≤◌, refl, subst, arith, rules}
use Rattle.std.specs.Prelude.{IfSome}
use Rattle.std.proofs.lemmas.Result.{IfOk-weaker, IfErr-weaker}
use Rattle.rx_search.specs.Matches.{HalfMatchValue}
use Rattle.rx_limited.specs.Calls.{calls_backwards}
use Rattle.rx_limited.specs.Limited.{FindsStart, LiesInRange, LimitedFails, IsWithin}
use Rattle.rx_limited.specs.Back.{GoesBack, IsScanned}
use Rattle.rx_limited.proofs.lemmas.RetryLemmas.{limited-fails}
use Rattle.rx_limited.proofs.lemmas.BackLemmas.{goes-last}
use Rattle.rx_limited.proofs.lemmas.TellLemmas.{Tells, past-tells, over-tells, end-tells, end-refuses, is-below}
use Rattle.rx_limited.proofs.limited.rev_limited.Goals as goal

pub returns-then-is_done-clause-answer : goal.returns-then-is_done-clause-answer
returns-then-is_done-clause-answer g c =
    let d = g.A.Automaton.dfa c.args.dfa.now in
    let v = c.args.input.now in
    let past : v.end < v.start = search rules in
    let tells = past-tells d v past c.args.min_start c.args.steps.now c.args.steps.now refl in
    tells.answer

pub returns-then-is_done-clause-within : goal.returns-then-is_done-clause-within
returns-then-is_done-clause-within g c =
    let d = g.A.Automaton.dfa c.args.dfa.now in
    let v = c.args.input.now in
    let past : v.end < v.start = search rules in
    let tells = past-tells d v past c.args.min_start c.args.steps.now c.args.steps.now refl in
    tells.within

pub returns-then-is_done-clause-ticks : goal.returns-then-is_done-clause-ticks
returns-then-is_done-clause-ticks g c =
    let d = g.A.Automaton.dfa c.args.dfa.now in
    let v = c.args.input.now in
    let past : v.end < v.start = search rules in
    let tells = past-tells d v past c.args.min_start c.args.steps.now c.args.steps.now refl in
    tells.ticks

pub floor_of-floor-requires : goal.floor_of-floor-requires
floor_of-floor-requires g c =
    let d = g.A.Automaton.dfa c.args.dfa.now in
    let v = c.args.input.now in
    let spanned = c.haystack-haystack.ensures.spanned.end in
    let start_is : c.start-start.result ≡ v.start = c.start-start.ensures.value in
    let end_is : c.end.result ≡ v.end = c.end.ensures.value in
    let in_order : v.start ≤ v.end = search rules in
    omega arith

pub go_back-requires-clause-low : goal.go_back-requires-clause-low
go_back-requires-clause-low g c =
    let d = g.A.Automaton.dfa c.args.dfa.now in
    let v = c.args.input.now in
    let spanned = c.haystack-haystack.ensures.spanned.end in
    let start_is : c.start-start.result ≡ v.start = c.start-start.ensures.value in
    let end_is : c.end.result ≡ v.end = c.end.ensures.value in
    let in_order : v.start ≤ v.end = search rules in
    let floor = c.floor_of-floor.result in
    let from = c.floor_of-floor.ensures.low in
    omega arith

pub go_back-requires-clause-high : goal.go_back-requires-clause-high
go_back-requires-clause-high g c =
    let d = g.A.Automaton.dfa c.args.dfa.now in
    let v = c.args.input.now in
    let spanned = c.haystack-haystack.ensures.spanned.end in
    let start_is : c.start-start.result ≡ v.start = c.start-start.ensures.value in
    let end_is : c.end.result ≡ v.end = c.end.ensures.value in
    let in_order : v.start ≤ v.end = search rules in
    let floor = c.floor_of-floor.result in
    let to = c.floor_of-floor.ensures.high in
    omega arith

pub returns-in-Err-clause-err : goal.returns-in-Err-clause-err
returns-in-Err-clause-err g c =
    let d = g.A.Automaton.dfa c.args.dfa.now in
    let v = c.args.input.now in
    limited-fails d v c.args.min_start (g.A.Automaton.gives_up c.args.dfa.now c.go_back.new.cache) (g.A.Automaton.wants c.args.dfa.now) c.in-Err.error
    c.in-Err.ensures.err

pub returns-in-Err-clause-few : goal.returns-in-Err-clause-few
returns-in-Err-clause-few g c =
    let d = g.A.Automaton.dfa c.args.dfa.now in
    let v = c.args.input.now in
    let spanned = c.haystack-haystack.ensures.spanned.end in
    let start_is : c.start-start.result ≡ v.start = c.start-start.ensures.value in
    let end_is : c.end.result ≡ v.end = c.end.ensures.value in
    let in_order : v.start ≤ v.end = search rules in
    let floor = c.floor_of-floor.result in
    let least = c.args.min_start in
    let from = c.floor_of-floor.ensures.low in
    let low : v.start ≤ floor = omega arith in
    let first : (place : ℕ) → floor ≤ place → place + 1 < v.end → least ≤ place = λ place up lt. c.floor_of-floor.ensures.first place up (omega arith) in
    let near = c.floor_of-floor.ensures.few in
    let few : v.end - floor ≤ v.end - least + 1 = omega (arith, near, end_is) in
    let taken = c.in-Err.ensures.few in
    omega (arith, taken, few)

pub returns-then-start-floor-clause-err : goal.returns-then-start-floor-clause-err
returns-then-start-floor-clause-err g c =
    let d = g.A.Automaton.dfa c.args.dfa.now in
    let v = c.args.input.now in
    let spanned = c.haystack-haystack.ensures.spanned.end in
    let start_is : c.start-start.result ≡ v.start = c.start-start.ensures.value in
    let end_is : c.end.result ≡ v.end = c.end.ensures.value in
    let in_order : v.start ≤ v.end = search rules in
    let floor = c.floor_of-floor.result in
    let least = c.args.min_start in
    let from = c.floor_of-floor.ensures.low in
    let low : v.start ≤ floor = omega arith in
    let first : (place : ℕ) → floor ≤ place → place + 1 < v.end → least ≤ place = λ place up lt. c.floor_of-floor.ensures.first place up (omega arith) in
    let near = c.floor_of-floor.ensures.few in
    let few : v.end - floor ≤ v.end - least + 1 = omega (arith, near, end_is) in
    let mid = c.go_back.new.steps in
    let held = g.A.Automaton.holds c.args.dfa.now c.go_back.new.cache in
    let scanned = subst (IsScanned held d v floor c.args.steps.now mid) c.in-Alive.is c.in-Ok.ensures.scanned in
    let lt : v.start < floor = (let yes = c.if-start-floor.true in omega arith) in
    let reads = c.floor_of-floor.ensures.read (omega arith) in
    let under = c.floor_of-floor.ensures.under (omega arith) in (
      refl,
      is-below d c.in-Ok.ensures.sound v in_order spanned c.requires.anchored least floor c.args.steps.now mid low first few held c.in-Alive.state c.in-Alive.best lt (omega arith) under scanned.0,
      λ place up within. first place (omega arith) within,
    )

pub returns-then-start-floor-clause-few : goal.returns-then-start-floor-clause-few
returns-then-start-floor-clause-few g c =
    let d = g.A.Automaton.dfa c.args.dfa.now in
    let v = c.args.input.now in
    let spanned = c.haystack-haystack.ensures.spanned.end in
    let start_is : c.start-start.result ≡ v.start = c.start-start.ensures.value in
    let end_is : c.end.result ≡ v.end = c.end.ensures.value in
    let in_order : v.start ≤ v.end = search rules in
    let floor = c.floor_of-floor.result in
    let least = c.args.min_start in
    let from = c.floor_of-floor.ensures.low in
    let low : v.start ≤ floor = omega arith in
    let first : (place : ℕ) → floor ≤ place → place + 1 < v.end → least ≤ place = λ place up lt. c.floor_of-floor.ensures.first place up (omega arith) in
    let near = c.floor_of-floor.ensures.few in
    let few : v.end - floor ≤ v.end - least + 1 = omega (arith, near, end_is) in
    let taken = c.in-Ok.ensures.few in
    omega (arith, taken, few)

pub end_at_start-requires-clause-going : goal.end_at_start-requires-clause-going
end_at_start-requires-clause-going g c =
    let d = g.A.Automaton.dfa c.args.dfa.now in
    let v = c.args.input.now in
    let spanned = c.haystack-haystack.ensures.spanned.end in
    let start_is : c.start-start.result ≡ v.start = c.start-start.ensures.value in
    let end_is : c.end.result ≡ v.end = c.end.ensures.value in
    let in_order : v.start ≤ v.end = search rules in
    let floor = c.floor_of-floor.result in
    let least = c.args.min_start in
    let from = c.floor_of-floor.ensures.low in
    let low : v.start ≤ floor = omega arith in
    let first : (place : ℕ) → floor ≤ place → place + 1 < v.end → least ≤ place = λ place up lt. c.floor_of-floor.ensures.first place up (omega arith) in
    let near = c.floor_of-floor.ensures.few in
    let few : v.end - floor ≤ v.end - least + 1 = omega (arith, near, end_is) in
    let mid = c.go_back.new.steps in
    let held = g.A.Automaton.holds c.args.dfa.now c.go_back.new.cache in
    let scanned = subst (IsScanned held d v floor c.args.steps.now mid) c.in-Alive.is c.in-Ok.ensures.scanned in
    let same : floor ≡ v.start = (let no = c.if-start-floor.false in omega arith) in
    let going : GoesBack held d v v.start c.in-Alive.state c.in-Alive.best =
    subst (λ i. GoesBack held d v i c.in-Alive.state c.in-Alive.best) same scanned.0 in
    going

pub returns-in-Over-clause-answer : goal.returns-in-Over-clause-answer
returns-in-Over-clause-answer g c =
    let d = g.A.Automaton.dfa c.args.dfa.now in
    let v = c.args.input.now in
    let spanned = c.haystack-haystack.ensures.spanned.end in
    let start_is : c.start-start.result ≡ v.start = c.start-start.ensures.value in
    let end_is : c.end.result ≡ v.end = c.end.ensures.value in
    let in_order : v.start ≤ v.end = search rules in
    let floor = c.floor_of-floor.result in
    let least = c.args.min_start in
    let from = c.floor_of-floor.ensures.low in
    let low : v.start ≤ floor = omega arith in
    let first : (place : ℕ) → floor ≤ place → place + 1 < v.end → least ≤ place = λ place up lt. c.floor_of-floor.ensures.first place up (omega arith) in
    let near = c.floor_of-floor.ensures.few in
    let few : v.end - floor ≤ v.end - least + 1 = omega (arith, near, end_is) in
    let mid = c.go_back.new.steps in
    let scanned = subst (IsScanned (g.A.Automaton.holds c.args.dfa.now c.go_back.new.cache) d v floor c.args.steps.now mid) c.in-Over.is c.in-Ok.ensures.scanned in
    let tells : Tells d v least c.args.steps.now mid c.in-Over.best =
    over-tells d c.in-Ok.ensures.sound v in_order spanned c.requires.anchored least floor c.args.steps.now mid low first few c.in-Over.best c.in-Ok.ensures.few scanned in
    tells.answer

pub returns-in-Over-clause-lies : goal.returns-in-Over-clause-lies
returns-in-Over-clause-lies g c =
    let d = g.A.Automaton.dfa c.args.dfa.now in
    let v = c.args.input.now in
    let spanned = c.haystack-haystack.ensures.spanned.end in
    let start_is : c.start-start.result ≡ v.start = c.start-start.ensures.value in
    let end_is : c.end.result ≡ v.end = c.end.ensures.value in
    let in_order : v.start ≤ v.end = search rules in
    let floor = c.floor_of-floor.result in
    let least = c.args.min_start in
    let from = c.floor_of-floor.ensures.low in
    let low : v.start ≤ floor = omega arith in
    let first : (place : ℕ) → floor ≤ place → place + 1 < v.end → least ≤ place = λ place up lt. c.floor_of-floor.ensures.first place up (omega arith) in
    let near = c.floor_of-floor.ensures.few in
    let few : v.end - floor ≤ v.end - least + 1 = omega (arith, near, end_is) in
    let mid = c.go_back.new.steps in
    let scanned = subst (IsScanned (g.A.Automaton.holds c.args.dfa.now c.go_back.new.cache) d v floor c.args.steps.now mid) c.in-Over.is c.in-Ok.ensures.scanned in
    let tells : Tells d v least c.args.steps.now mid c.in-Over.best =
    over-tells d c.in-Ok.ensures.sound v in_order spanned c.requires.anchored least floor c.args.steps.now mid low first few c.in-Over.best c.in-Ok.ensures.few scanned in
    tells.lies

pub returns-in-Over-clause-within : goal.returns-in-Over-clause-within
returns-in-Over-clause-within g c =
    let d = g.A.Automaton.dfa c.args.dfa.now in
    let v = c.args.input.now in
    let spanned = c.haystack-haystack.ensures.spanned.end in
    let start_is : c.start-start.result ≡ v.start = c.start-start.ensures.value in
    let end_is : c.end.result ≡ v.end = c.end.ensures.value in
    let in_order : v.start ≤ v.end = search rules in
    let floor = c.floor_of-floor.result in
    let least = c.args.min_start in
    let from = c.floor_of-floor.ensures.low in
    let low : v.start ≤ floor = omega arith in
    let first : (place : ℕ) → floor ≤ place → place + 1 < v.end → least ≤ place = λ place up lt. c.floor_of-floor.ensures.first place up (omega arith) in
    let near = c.floor_of-floor.ensures.few in
    let few : v.end - floor ≤ v.end - least + 1 = omega (arith, near, end_is) in
    let mid = c.go_back.new.steps in
    let scanned = subst (IsScanned (g.A.Automaton.holds c.args.dfa.now c.go_back.new.cache) d v floor c.args.steps.now mid) c.in-Over.is c.in-Ok.ensures.scanned in
    let tells : Tells d v least c.args.steps.now mid c.in-Over.best =
    over-tells d c.in-Ok.ensures.sound v in_order spanned c.requires.anchored least floor c.args.steps.now mid low first few c.in-Over.best c.in-Ok.ensures.few scanned in
    tells.within

pub returns-in-Over-clause-near : goal.returns-in-Over-clause-near
returns-in-Over-clause-near g c =
    let d = g.A.Automaton.dfa c.args.dfa.now in
    let v = c.args.input.now in
    let spanned = c.haystack-haystack.ensures.spanned.end in
    let start_is : c.start-start.result ≡ v.start = c.start-start.ensures.value in
    let end_is : c.end.result ≡ v.end = c.end.ensures.value in
    let in_order : v.start ≤ v.end = search rules in
    let floor = c.floor_of-floor.result in
    let least = c.args.min_start in
    let from = c.floor_of-floor.ensures.low in
    let low : v.start ≤ floor = omega arith in
    let first : (place : ℕ) → floor ≤ place → place + 1 < v.end → least ≤ place = λ place up lt. c.floor_of-floor.ensures.first place up (omega arith) in
    let near = c.floor_of-floor.ensures.few in
    let few : v.end - floor ≤ v.end - least + 1 = omega (arith, near, end_is) in
    let mid = c.go_back.new.steps in
    let scanned = subst (IsScanned (g.A.Automaton.holds c.args.dfa.now c.go_back.new.cache) d v floor c.args.steps.now mid) c.in-Over.is c.in-Ok.ensures.scanned in
    let tells : Tells d v least c.args.steps.now mid c.in-Over.best =
    over-tells d c.in-Ok.ensures.sound v in_order spanned c.requires.anchored least floor c.args.steps.now mid low first few c.in-Over.best c.in-Ok.ensures.few scanned in
    tells.near

pub returns-in-Over-clause-ticks : goal.returns-in-Over-clause-ticks
returns-in-Over-clause-ticks g c =
    let d = g.A.Automaton.dfa c.args.dfa.now in
    let v = c.args.input.now in
    let spanned = c.haystack-haystack.ensures.spanned.end in
    let start_is : c.start-start.result ≡ v.start = c.start-start.ensures.value in
    let end_is : c.end.result ≡ v.end = c.end.ensures.value in
    let in_order : v.start ≤ v.end = search rules in
    let floor = c.floor_of-floor.result in
    let least = c.args.min_start in
    let from = c.floor_of-floor.ensures.low in
    let low : v.start ≤ floor = omega arith in
    let first : (place : ℕ) → floor ≤ place → place + 1 < v.end → least ≤ place = λ place up lt. c.floor_of-floor.ensures.first place up (omega arith) in
    let near = c.floor_of-floor.ensures.few in
    let few : v.end - floor ≤ v.end - least + 1 = omega (arith, near, end_is) in
    let mid = c.go_back.new.steps in
    let scanned = subst (IsScanned (g.A.Automaton.holds c.args.dfa.now c.go_back.new.cache) d v floor c.args.steps.now mid) c.in-Over.is c.in-Ok.ensures.scanned in
    let tells : Tells d v least c.args.steps.now mid c.in-Over.best =
    over-tells d c.in-Ok.ensures.sound v in_order spanned c.requires.anchored least floor c.args.steps.now mid low first few c.in-Over.best c.in-Ok.ensures.few scanned in
    tells.ticks

pub returns-in-Over-clause-few : goal.returns-in-Over-clause-few
returns-in-Over-clause-few g c =
    let d = g.A.Automaton.dfa c.args.dfa.now in
    let v = c.args.input.now in
    let spanned = c.haystack-haystack.ensures.spanned.end in
    let start_is : c.start-start.result ≡ v.start = c.start-start.ensures.value in
    let end_is : c.end.result ≡ v.end = c.end.ensures.value in
    let in_order : v.start ≤ v.end = search rules in
    let floor = c.floor_of-floor.result in
    let least = c.args.min_start in
    let from = c.floor_of-floor.ensures.low in
    let low : v.start ≤ floor = omega arith in
    let first : (place : ℕ) → floor ≤ place → place + 1 < v.end → least ≤ place = λ place up lt. c.floor_of-floor.ensures.first place up (omega arith) in
    let near = c.floor_of-floor.ensures.few in
    let few : v.end - floor ≤ v.end - least + 1 = omega (arith, near, end_is) in
    let mid = c.go_back.new.steps in
    let scanned = subst (IsScanned (g.A.Automaton.holds c.args.dfa.now c.go_back.new.cache) d v floor c.args.steps.now mid) c.in-Over.is c.in-Ok.ensures.scanned in
    let tells : Tells d v least c.args.steps.now mid c.in-Over.best =
    over-tells d c.in-Ok.ensures.sound v in_order spanned c.requires.anchored least floor c.args.steps.now mid low first few c.in-Over.best c.in-Ok.ensures.few scanned in
    tells.few

pub returns-else-start-floor-clause-answer : goal.returns-else-start-floor-clause-answer
returns-else-start-floor-clause-answer g c =
    let d = g.A.Automaton.dfa c.args.dfa.now in
    let v = c.args.input.now in
    let spanned = c.haystack-haystack.ensures.spanned.end in
    let start_is : c.start-start.result ≡ v.start = c.start-start.ensures.value in
    let end_is : c.end.result ≡ v.end = c.end.ensures.value in
    let in_order : v.start ≤ v.end = search rules in
    let floor = c.floor_of-floor.result in
    let least = c.args.min_start in
    let from = c.floor_of-floor.ensures.low in
    let low : v.start ≤ floor = omega arith in
    let first : (place : ℕ) → floor ≤ place → place + 1 < v.end → least ≤ place = λ place up lt. c.floor_of-floor.ensures.first place up (omega arith) in
    let near = c.floor_of-floor.ensures.few in
    let few : v.end - floor ≤ v.end - least + 1 = omega (arith, near, end_is) in
    let mid = c.go_back.new.steps in
    let held = g.A.Automaton.holds c.args.dfa.now c.go_back.new.cache in
    let scanned = subst (IsScanned held d v floor c.args.steps.now mid) c.in-Alive.is c.in-Ok.ensures.scanned in
    let same : floor ≡ v.start = (let no = c.if-start-floor.false in omega arith) in
    let going : GoesBack held d v v.start c.in-Alive.state c.in-Alive.best =
    subst (λ i. GoesBack held d v i c.in-Alive.state c.in-Alive.best) same scanned.0 in
    IfOk-weaker c.end_at_start.result _ (FindsStart d v)
    (λ found e.
    (end-tells d c.in-Ok.ensures.sound v in_order spanned c.requires.anchored least floor c.args.steps.now c.end_at_start.new.steps low first few held mid c.in-Alive.state c.in-Alive.best found same scanned.1 c.end_at_start.ensures.ticks going e).answer)
    c.end_at_start.ensures.ended

pub returns-else-start-floor-clause-lies : goal.returns-else-start-floor-clause-lies
returns-else-start-floor-clause-lies g c =
    let d = g.A.Automaton.dfa c.args.dfa.now in
    let v = c.args.input.now in
    let spanned = c.haystack-haystack.ensures.spanned.end in
    let start_is : c.start-start.result ≡ v.start = c.start-start.ensures.value in
    let end_is : c.end.result ≡ v.end = c.end.ensures.value in
    let in_order : v.start ≤ v.end = search rules in
    let floor = c.floor_of-floor.result in
    let least = c.args.min_start in
    let from = c.floor_of-floor.ensures.low in
    let low : v.start ≤ floor = omega arith in
    let first : (place : ℕ) → floor ≤ place → place + 1 < v.end → least ≤ place = λ place up lt. c.floor_of-floor.ensures.first place up (omega arith) in
    let near = c.floor_of-floor.ensures.few in
    let few : v.end - floor ≤ v.end - least + 1 = omega (arith, near, end_is) in
    let mid = c.go_back.new.steps in
    let held = g.A.Automaton.holds c.args.dfa.now c.go_back.new.cache in
    let scanned = subst (IsScanned held d v floor c.args.steps.now mid) c.in-Alive.is c.in-Ok.ensures.scanned in
    let same : floor ≡ v.start = (let no = c.if-start-floor.false in omega arith) in
    let going : GoesBack held d v v.start c.in-Alive.state c.in-Alive.best =
    subst (λ i. GoesBack held d v i c.in-Alive.state c.in-Alive.best) same scanned.0 in
    IfOk-weaker c.end_at_start.result _ (LiesInRange d v)
    (λ found e.
    (end-tells d c.in-Ok.ensures.sound v in_order spanned c.requires.anchored least floor c.args.steps.now c.end_at_start.new.steps low first few held mid c.in-Alive.state c.in-Alive.best found same scanned.1 c.end_at_start.ensures.ticks going e).lies)
    c.end_at_start.ensures.ended

pub returns-else-start-floor-clause-within : goal.returns-else-start-floor-clause-within
returns-else-start-floor-clause-within g c =
    let d = g.A.Automaton.dfa c.args.dfa.now in
    let v = c.args.input.now in
    let spanned = c.haystack-haystack.ensures.spanned.end in
    let start_is : c.start-start.result ≡ v.start = c.start-start.ensures.value in
    let end_is : c.end.result ≡ v.end = c.end.ensures.value in
    let in_order : v.start ≤ v.end = search rules in
    let floor = c.floor_of-floor.result in
    let least = c.args.min_start in
    let from = c.floor_of-floor.ensures.low in
    let low : v.start ≤ floor = omega arith in
    let first : (place : ℕ) → floor ≤ place → place + 1 < v.end → least ≤ place = λ place up lt. c.floor_of-floor.ensures.first place up (omega arith) in
    let near = c.floor_of-floor.ensures.few in
    let few : v.end - floor ≤ v.end - least + 1 = omega (arith, near, end_is) in
    let mid = c.go_back.new.steps in
    let held = g.A.Automaton.holds c.args.dfa.now c.go_back.new.cache in
    let scanned = subst (IsScanned held d v floor c.args.steps.now mid) c.in-Alive.is c.in-Ok.ensures.scanned in
    let same : floor ≡ v.start = (let no = c.if-start-floor.false in omega arith) in
    let going : GoesBack held d v v.start c.in-Alive.state c.in-Alive.best =
    subst (λ i. GoesBack held d v i c.in-Alive.state c.in-Alive.best) same scanned.0 in
    IfOk-weaker c.end_at_start.result _ (IsWithin d v least)
    (λ found e.
    (end-tells d c.in-Ok.ensures.sound v in_order spanned c.requires.anchored least floor c.args.steps.now c.end_at_start.new.steps low first few held mid c.in-Alive.state c.in-Alive.best found same scanned.1 c.end_at_start.ensures.ticks going e).within)
    c.end_at_start.ensures.ended

pub returns-else-start-floor-clause-near : goal.returns-else-start-floor-clause-near
returns-else-start-floor-clause-near g c =
    let d = g.A.Automaton.dfa c.args.dfa.now in
    let v = c.args.input.now in
    let spanned = c.haystack-haystack.ensures.spanned.end in
    let start_is : c.start-start.result ≡ v.start = c.start-start.ensures.value in
    let end_is : c.end.result ≡ v.end = c.end.ensures.value in
    let in_order : v.start ≤ v.end = search rules in
    let floor = c.floor_of-floor.result in
    let least = c.args.min_start in
    let from = c.floor_of-floor.ensures.low in
    let low : v.start ≤ floor = omega arith in
    let first : (place : ℕ) → floor ≤ place → place + 1 < v.end → least ≤ place = λ place up lt. c.floor_of-floor.ensures.first place up (omega arith) in
    let near = c.floor_of-floor.ensures.few in
    let few : v.end - floor ≤ v.end - least + 1 = omega (arith, near, end_is) in
    let mid = c.go_back.new.steps in
    let held = g.A.Automaton.holds c.args.dfa.now c.go_back.new.cache in
    let scanned = subst (IsScanned held d v floor c.args.steps.now mid) c.in-Alive.is c.in-Ok.ensures.scanned in
    let same : floor ≡ v.start = (let no = c.if-start-floor.false in omega arith) in
    let going : GoesBack held d v v.start c.in-Alive.state c.in-Alive.best =
    subst (λ i. GoesBack held d v i c.in-Alive.state c.in-Alive.best) same scanned.0 in
    IfOk-weaker c.end_at_start.result _ (λ found. IfSome found (λ (h : HalfMatchValue). v.end ≤ h.offset + (v.end - least) + 1))
    (λ found e.
    (end-tells d c.in-Ok.ensures.sound v in_order spanned c.requires.anchored least floor c.args.steps.now c.end_at_start.new.steps low first few held mid c.in-Alive.state c.in-Alive.best found same scanned.1 c.end_at_start.ensures.ticks going e).near)
    c.end_at_start.ensures.ended

pub returns-else-start-floor-clause-ticks : goal.returns-else-start-floor-clause-ticks
returns-else-start-floor-clause-ticks g c =
    let d = g.A.Automaton.dfa c.args.dfa.now in
    let v = c.args.input.now in
    let spanned = c.haystack-haystack.ensures.spanned.end in
    let start_is : c.start-start.result ≡ v.start = c.start-start.ensures.value in
    let end_is : c.end.result ≡ v.end = c.end.ensures.value in
    let in_order : v.start ≤ v.end = search rules in
    let floor = c.floor_of-floor.result in
    let least = c.args.min_start in
    let from = c.floor_of-floor.ensures.low in
    let low : v.start ≤ floor = omega arith in
    let first : (place : ℕ) → floor ≤ place → place + 1 < v.end → least ≤ place = λ place up lt. c.floor_of-floor.ensures.first place up (omega arith) in
    let near = c.floor_of-floor.ensures.few in
    let few : v.end - floor ≤ v.end - least + 1 = omega (arith, near, end_is) in
    let mid = c.go_back.new.steps in
    let held = g.A.Automaton.holds c.args.dfa.now c.go_back.new.cache in
    let scanned = subst (IsScanned held d v floor c.args.steps.now mid) c.in-Alive.is c.in-Ok.ensures.scanned in
    let same : floor ≡ v.start = (let no = c.if-start-floor.false in omega arith) in
    let going : GoesBack held d v v.start c.in-Alive.state c.in-Alive.best =
    subst (λ i. GoesBack held d v i c.in-Alive.state c.in-Alive.best) same scanned.0 in
    let all = goes-last d v in_order spanned held c.in-Alive.state c.in-Alive.best going in
    let ticks = c.end_at_start.ensures.ticks in
    let taken = scanned.1 in
    let counted : c.end_at_start.new.steps ≡ c.args.steps.now + calls_backwards d v = omega (arith, all, taken, ticks, same) in
    IfOk-weaker c.end_at_start.result _ (λ found. c.end_at_start.new.steps ≡ c.args.steps.now + calls_backwards d v) (λ found e. counted) c.end_at_start.ensures.ended

pub returns-else-start-floor-clause-most : goal.returns-else-start-floor-clause-most
returns-else-start-floor-clause-most g c =
    let d = g.A.Automaton.dfa c.args.dfa.now in
    let v = c.args.input.now in
    let spanned = c.haystack-haystack.ensures.spanned.end in
    let start_is : c.start-start.result ≡ v.start = c.start-start.ensures.value in
    let end_is : c.end.result ≡ v.end = c.end.ensures.value in
    let in_order : v.start ≤ v.end = search rules in
    let floor = c.floor_of-floor.result in
    let least = c.args.min_start in
    let from = c.floor_of-floor.ensures.low in
    let low : v.start ≤ floor = omega arith in
    let first : (place : ℕ) → floor ≤ place → place + 1 < v.end → least ≤ place = λ place up lt. c.floor_of-floor.ensures.first place up (omega arith) in
    let near = c.floor_of-floor.ensures.few in
    let few : v.end - floor ≤ v.end - least + 1 = omega (arith, near, end_is) in
    let mid = c.go_back.new.steps in
    let held = g.A.Automaton.holds c.args.dfa.now c.go_back.new.cache in
    let scanned = subst (IsScanned held d v floor c.args.steps.now mid) c.in-Alive.is c.in-Ok.ensures.scanned in
    let same : floor ≡ v.start = (let no = c.if-start-floor.false in omega arith) in
    let going : GoesBack held d v v.start c.in-Alive.state c.in-Alive.best =
    subst (λ i. GoesBack held d v i c.in-Alive.state c.in-Alive.best) same scanned.0 in
    let all = goes-last d v in_order spanned held c.in-Alive.state c.in-Alive.best going in
    let ticks = c.end_at_start.ensures.ticks in
    let taken = scanned.1 in
    omega (arith, all, taken, ticks, same)

pub returns-else-start-floor-clause-few : goal.returns-else-start-floor-clause-few
returns-else-start-floor-clause-few g c =
    let d = g.A.Automaton.dfa c.args.dfa.now in
    let v = c.args.input.now in
    let spanned = c.haystack-haystack.ensures.spanned.end in
    let start_is : c.start-start.result ≡ v.start = c.start-start.ensures.value in
    let end_is : c.end.result ≡ v.end = c.end.ensures.value in
    let in_order : v.start ≤ v.end = search rules in
    let floor = c.floor_of-floor.result in
    let least = c.args.min_start in
    let from = c.floor_of-floor.ensures.low in
    let low : v.start ≤ floor = omega arith in
    let first : (place : ℕ) → floor ≤ place → place + 1 < v.end → least ≤ place = λ place up lt. c.floor_of-floor.ensures.first place up (omega arith) in
    let near = c.floor_of-floor.ensures.few in
    let few : v.end - floor ≤ v.end - least + 1 = omega (arith, near, end_is) in
    let mid = c.go_back.new.steps in
    let held = g.A.Automaton.holds c.args.dfa.now c.go_back.new.cache in
    let scanned = subst (IsScanned held d v floor c.args.steps.now mid) c.in-Alive.is c.in-Ok.ensures.scanned in
    let same : floor ≡ v.start = (let no = c.if-start-floor.false in omega arith) in
    let going : GoesBack held d v v.start c.in-Alive.state c.in-Alive.best =
    subst (λ i. GoesBack held d v i c.in-Alive.state c.in-Alive.best) same scanned.0 in
    let ticks = c.end_at_start.ensures.ticks in
    let taken = scanned.1 in
    omega (arith, taken, ticks, few)

pub returns-else-start-floor-clause-err : goal.returns-else-start-floor-clause-err
returns-else-start-floor-clause-err g c =
    let d = g.A.Automaton.dfa c.args.dfa.now in
    let v = c.args.input.now in
    let spanned = c.haystack-haystack.ensures.spanned.end in
    let start_is : c.start-start.result ≡ v.start = c.start-start.ensures.value in
    let end_is : c.end.result ≡ v.end = c.end.ensures.value in
    let in_order : v.start ≤ v.end = search rules in
    let floor = c.floor_of-floor.result in
    let least = c.args.min_start in
    let from = c.floor_of-floor.ensures.low in
    let low : v.start ≤ floor = omega arith in
    let first : (place : ℕ) → floor ≤ place → place + 1 < v.end → least ≤ place = λ place up lt. c.floor_of-floor.ensures.first place up (omega arith) in
    let near = c.floor_of-floor.ensures.few in
    let few : v.end - floor ≤ v.end - least + 1 = omega (arith, near, end_is) in
    let mid = c.go_back.new.steps in
    let held = g.A.Automaton.holds c.args.dfa.now c.go_back.new.cache in
    let scanned = subst (IsScanned held d v floor c.args.steps.now mid) c.in-Alive.is c.in-Ok.ensures.scanned in
    let same : floor ≡ v.start = (let no = c.if-start-floor.false in omega arith) in
    let going : GoesBack held d v v.start c.in-Alive.state c.in-Alive.best =
    subst (λ i. GoesBack held d v i c.in-Alive.state c.in-Alive.best) same scanned.0 in
    let gives_up = g.A.Automaton.gives_up c.args.dfa.now c.end_at_start.new.cache in
    let wants = g.A.Automaton.wants c.args.dfa.now in
    IfErr-weaker c.end_at_start.result _ (LimitedFails d v least gives_up wants)
    (λ e h. end-refuses d c.in-Ok.ensures.sound v in_order spanned c.requires.anchored least floor c.args.steps.now c.end_at_start.new.steps low first few held c.in-Alive.state c.in-Alive.best gives_up wants going e h)
    c.end_at_start.ensures.err

pub end-requires : goal.end-requires
end-requires g c = tt

pub haystack-haystack-requires : goal.haystack-haystack-requires
haystack-haystack-requires g c = tt

pub is_done-requires : goal.is_done-requires
is_done-requires g c = tt

pub start-start-requires : goal.start-start-requires
start-start-requires g c = tt

pub end_at_start-requires-clause-fits : goal.end_at_start-requires-clause-fits
end_at_start-requires-clause-fits g c = c.in-Ok.ensures.fits

pub end_at_start-requires-clause-reverse : goal.end_at_start-requires-clause-reverse
end_at_start-requires-clause-reverse g c = c.requires.reverse

pub go_back-requires-clause-fits : goal.go_back-requires-clause-fits
go_back-requires-clause-fits g c = c.requires.fits

pub go_back-requires-clause-reverse : goal.go_back-requires-clause-reverse
go_back-requires-clause-reverse g c = c.requires.reverse

pub overflow_sub-result : goal.overflow_sub-result
overflow_sub-result g c = omega (arith, c.if-start-floor.true)

pub returns-else-start-floor-clause-fits : goal.returns-else-start-floor-clause-fits
returns-else-start-floor-clause-fits g c = c.end_at_start.ensures.fits

pub returns-in-Err-clause-answer : goal.returns-in-Err-clause-answer
returns-in-Err-clause-answer g c = tt

pub returns-in-Err-clause-lies : goal.returns-in-Err-clause-lies
returns-in-Err-clause-lies g c = tt

pub returns-in-Err-clause-near : goal.returns-in-Err-clause-near
returns-in-Err-clause-near g c = tt

pub returns-in-Err-clause-ticks : goal.returns-in-Err-clause-ticks
returns-in-Err-clause-ticks g c = tt

pub returns-in-Err-clause-within : goal.returns-in-Err-clause-within
returns-in-Err-clause-within g c = tt

pub returns-in-Over-clause-err : goal.returns-in-Over-clause-err
returns-in-Over-clause-err g c = tt

pub returns-then-is_done-clause-err : goal.returns-then-is_done-clause-err
returns-then-is_done-clause-err g c = tt

pub returns-then-is_done-clause-near : goal.returns-then-is_done-clause-near
returns-then-is_done-clause-near g c = tt

pub returns-then-start-floor-clause-answer : goal.returns-then-start-floor-clause-answer
returns-then-start-floor-clause-answer g c = tt

pub returns-then-start-floor-clause-lies : goal.returns-then-start-floor-clause-lies
returns-then-start-floor-clause-lies g c = tt

pub returns-then-start-floor-clause-near : goal.returns-then-start-floor-clause-near
returns-then-start-floor-clause-near g c = tt

pub returns-then-start-floor-clause-ticks : goal.returns-then-start-floor-clause-ticks
returns-then-start-floor-clause-ticks g c = tt

pub returns-then-start-floor-clause-within : goal.returns-then-start-floor-clause-within
returns-then-start-floor-clause-within g c = tt

pub returns-in-Err-clause-fits : goal.returns-in-Err-clause-fits
returns-in-Err-clause-fits g c = c.in-Err.ensures.fits

pub returns-in-Err-clause-most : goal.returns-in-Err-clause-most
returns-in-Err-clause-most g c = c.in-Err.ensures.most

pub returns-in-Over-clause-fits : goal.returns-in-Over-clause-fits
returns-in-Over-clause-fits g c = c.in-Ok.ensures.fits

pub returns-in-Over-clause-most : goal.returns-in-Over-clause-most
returns-in-Over-clause-most g c = c.in-Ok.ensures.most

pub returns-then-start-floor-clause-fits : goal.returns-then-start-floor-clause-fits
returns-then-start-floor-clause-fits g c = c.in-Ok.ensures.fits

pub returns-then-start-floor-clause-most : goal.returns-then-start-floor-clause-most
returns-then-start-floor-clause-most g c = c.in-Ok.ensures.most

pub returns-then-is_done-clause-fits : goal.returns-then-is_done-clause-fits
returns-then-is_done-clause-fits g c = c.requires.fits

pub returns-then-is_done-clause-lies : goal.returns-then-is_done-clause-lies
returns-then-is_done-clause-lies g c = (tt, tt)

pub returns-then-is_done-clause-few : goal.returns-then-is_done-clause-few
returns-then-is_done-clause-few g c = omega arith

pub returns-then-is_done-clause-most : goal.returns-then-is_done-clause-most
returns-then-is_done-clause-most g c = omega arith
