use Rattle.std.proofs.Common.{◌≡◌, ℕ, ◌++◌, length, take, drop, sym, ap, subst, arith}
use Rattle.std.proofs.lemmas.Result.{IfOk-weaker}
use Rattle.std.specs.Prelude.{List, Option, None, IfOk, OnOk, OnErr, IfNone}
use Rattle.rx_meta.specs.Finder.{AreSlotsOf, IsAnswerWith}
use Rattle.rx_meta.specs.Regex.{searches}
use Rattle.rx_meta.proofs.FinderLemmas.{finds-searched, fails-unless, told-by, said-by, none-by, silent-by, written}
use Rattle.rx_meta.proofs.finder.RegexFinderFinder.find.Goals as goal

pub returns-clause-answer : goal.returns-clause-answer
returns-clause-answer c promised =
    let called = c.search_match_with in
    IfOk-weaker called.result _ _
    (λ found is. finds-searched c.args.self.now.regex.now c.args.input.now called.ensures.spanned.end promised.0 promised.1 found is)
    called.ensures.answer

pub returns-clause-err : goal.returns-clause-err
returns-clause-err c = fails-unless c.search_match_with.result c.search_match_with.ensures.sure

pub returns-clause-told : goal.returns-clause-told
returns-clause-told c promised =
    let v = c.args.input.now in
    let called = c.search_match_with in
    let regex = c.args.self.now.regex.now in
    let slots = called.new.slots in
    let old = c.args.self.now.slots in
    let size : length slots ≡ old.len = omega (arith, called.auto.slots, ap length c.deref_mut.ensures.value, c.deref_mut.ensures.len, old.ok.0) in
    let back : take old.len (slots ++ drop (length slots) old.items) ≡ slots = written slots old.items old.len size (omega (arith, old.ok.0)) in
    subst (λ (s : List (Option ℕ)). OnOk called.result (AreSlotsOf s (searches regex v))) (sym back)
    (told-by regex v called.ensures.spanned.end promised.0 promised.1 called.result slots _ called.ensures.answer called.ensures.slots called.ensures.none)

pub returns-clause-any : goal.returns-clause-any
returns-clause-any c =
    let called = c.search_match_with in
    let slots = called.new.slots in
    let old = c.args.self.now.slots in
    let size : length slots ≡ old.len = omega (arith, called.auto.slots, ap length c.deref_mut.ensures.value, c.deref_mut.ensures.len, old.ok.0) in
    let back : take old.len (slots ++ drop (length slots) old.items) ≡ slots = written slots old.items old.len size (omega (arith, old.ok.0)) in
    let regex = c.args.self.now.regex.now in
    let v = c.args.input.now in
    subst (λ (s : List (Option ℕ)). IfOk called.result (IsAnswerWith regex v s)) (sym back)
    (said-by regex v slots called.result called.ensures.answer called.ensures.slots called.ensures.slots_within called.ensures.in_range)

pub returns-clause-none : goal.returns-clause-none
returns-clause-none c =
    let called = c.search_match_with in
    let slots = called.new.slots in
    let old = c.args.self.now.slots in
    let size : length slots ≡ old.len = omega (arith, called.auto.slots, ap length c.deref_mut.ensures.value, c.deref_mut.ensures.len, old.ok.0) in
    let back : take old.len (slots ++ drop (length slots) old.items) ≡ slots = written slots old.items old.len size (omega (arith, old.ok.0)) in
    subst (λ (s : List (Option ℕ)). IfOk called.result (λ found. IfNone found (AreSlotsOf s None))) (sym back)
    (none-by slots _ called.result called.ensures.none)

pub returns-clause-silent : goal.returns-clause-silent
returns-clause-silent c =
    let called = c.search_match_with in
    let slots = called.new.slots in
    let old = c.args.self.now.slots in
    let size : length slots ≡ old.len = omega (arith, called.auto.slots, ap length c.deref_mut.ensures.value, c.deref_mut.ensures.len, old.ok.0) in
    let back : take old.len (slots ++ drop (length slots) old.items) ≡ slots = written slots old.items old.len size (omega (arith, old.ok.0)) in
    subst (λ (s : List (Option ℕ)). OnErr called.result (AreSlotsOf s None)) (sym back) (silent-by slots _ called.result called.ensures.err)
