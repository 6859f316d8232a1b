-- What the searches for literals answer, where what they find is the next match.
use Rattle.std.proofs.Common.{◌≡◌, ℕ, zero, suc, ◌+◌, ◌*◌, ◌≤◌, ◌<◌, List, [], ◌∷◌, length, get_or, set, refl, sym, ◌∙◌, ap, subst, inl, inr, arith, true≢false}
use Rattle.std.proofs.lemmas.Bool.{eqb-false}
use Rattle.std.proofs.lemmas.Bool.Decides.{nat_tests}
use Rattle.std.proofs.lemmas.List.{get_or-set_same, get_or-set_other, length-set}
use Rattle.std.specs.Prelude.{Bool, true, false, ◌==◌, Option, Some, None, option_map, is_some, IfSome, IfNone, replicate, slice_get}
use Rattle.rx_model.specs.Expression.{Expression}
use Rattle.rx_model.specs.Matches.{IsMatch}
use Rattle.rx_model.specs.Search.{Patterns, WhichCaptures, all, implicit, none, Anchor, Match, slot_value, told_of}
use Rattle.rx_model.proofs.lemmas.matches.WithinLemmas.{match-next, match-others, match-slots, next-run}
use Rattle.rx_model.proofs.lemmas.runs.FirstLemmas.{tells as look}
use Rattle.rx_model.proofs.lemmas.runs.RunLemmas.{by_test}
use Rattle.rx_search.specs.Answer.{IsAnswer, AreSlotsOfAnswer, TellsWhether}
use Rattle.rx_search.specs.Input.{InputValue, next_in}
use Rattle.rx_search.specs.Matches.{MatchValue, match_value}
use Rattle.rx_search.specs.PatternSet.{has}
use Rattle.rx_search.specs.Promise.{Premises, Promised}
use Rattle.rx_search.specs.Sets.{MatchesIn, KeepsMembers, AddsMatching, IsFilled}
use Rattle.rx_search.specs.Told.{tells, told_in, IsMatchWith, HasSlots}
use Rattle.rx_search.specs.declared.anchored.MatchKind.{MatchKind}
use Rattle.rx_search.specs.declared.anchored.MatchKind.TheVariants.{LeftmostFirst}
use Rattle.rx_pre.specs.Found.{slot_in}
use Rattle.rx_pre.specs.Pre.{PreValue, IsPreFor}

is_some-map : {A B : Type 0} (f : A → B) (o : Option A) → is_some (option_map f o) ≡ is_some o
is_some-map f None = refl
is_some-map f (Some x) = refl

map-twice : {A B C : Type 0} (f : A → B) (g : B → C) (o : Option A) → option_map g (option_map f o) ≡ option_map (λ x. g (f x)) o
map-twice f g None = refl
map-twice f g (Some x) = refl

span-told : (w : WhichCaptures) (m : Match) → match_value (told_of w m) ≡ match_value m
span-told all m = refl
span-told implicit m = refl
span-told none m = refl

told_of-whole : (w : WhichCaptures) → tells w ≡ true → (m : Match) → told_of w m ≡ m
told_of-whole all e m = refl
told_of-whole implicit e m = refl
told_of-whole none e m = cc

module _ (r : Patterns) (v : InputValue) where
  told-yes : tells r.which_captures ≡ true → told_in r v ≡ next_in r v
  told-yes e = rw e refl

  told-no : tells r.which_captures ≡ false → told_in r v ≡ None
  told-no e = rw e refl

  -- the next match is a match
  next-match : (next : Option Match) → next_in r v ≡ next → IfSome (option_map match_value next) (λ answer. IsMatchWith r v (λ m. answer ≡ match_value m))
  next-match None e = tt
  next-match (Some m) e = (m, next-run r v.haystack v.anchor v.end v.start m e, sym (span-told r.which_captures m))

-- What is found is the next match of the patterns.
module _ (p : PreValue) (v : InputValue) (found : Option MatchValue)
    (next : (r : Patterns) → Premises (IsPreFor p r) None r v → found ≡ option_map match_value (next_in r v)) where
  pub next-answers : p.tells ≡ true → IsAnswer (λ r. IsPreFor p r) None LeftmostFirst v match_value found
  next-answers told = record {
    value = λ r x. next r x.premises;
    exists = λ r x. ap is_some (next r x) ∙ is_some-map match_value (next_in r v) ∙ ap is_some (sym (told-yes r v (x.is_for.told ∙ told)));
    is_match = λ r x. subst (λ (o : Option MatchValue). IfSome o (λ answer. IsMatchWith r v (λ m. answer ≡ match_value m))) (sym (next r x))
        (next-match r v (next_in r v) refl);
  }

  pub next-whether : (there : Bool) → there ≡ is_some found → TellsWhether (λ r. IsPreFor p r) None v there
  next-whether there is r x = is ∙ ap is_some (next r x) ∙ is_some-map match_value (next_in r v)

-- Nothing is told without captures.
module _ (p : PreValue) (v : InputValue) (silent : p.tells ≡ false) where
  pub silent-answers : IsAnswer (λ r. IsPreFor p r) None LeftmostFirst v match_value None
  silent-answers = record {
    value = λ r x. absurd (true≢false (sym x.told ∙ x.premises.is_for.told ∙ silent));
    exists = λ r x. ap is_some (sym (told-no r v (x.is_for.told ∙ silent)));
    is_match = λ r x. tt;
  }

-- A part of an answer is the answer of that part.
module _ {A B : Type 0} (IsFor : Patterns → Type 0) (needles : Option (List (List ℕ))) (kind : MatchKind) (v : InputValue) (part : Match → A) (f : A → B)
    (found : Option A) (answer : Option B) (is : answer ≡ option_map f found) where
  part-is_match : (r : Patterns) (o : Option A) → IfSome o (λ x. IsMatchWith r v (λ m. x ≡ part m))
      → IfSome (option_map f o) (λ x. IsMatchWith r v (λ m. x ≡ f (part m)))
  part-is_match r None known = tt
  part-is_match r (Some x) known = (known.0, known.1, ap f known.2)

  pub part-answers : IsAnswer IsFor needles kind v part found → IsAnswer IsFor needles kind v (λ m. f (part m)) answer
  part-answers whole = record {
    value = λ r promised. is ∙ ap (option_map f) (whole.value r promised) ∙ map-twice part f (next_in r v);
    exists = λ r premises. ap is_some is ∙ is_some-map f found ∙ whole.exists r premises;
    is_match = λ r premises. rw is (part-is_match r found (whole.is_match r premises));
  }

-- A match of an expression without groups leaves its span, and nothing else.
module _ (p : PreValue) (r : Patterns) (is : IsPreFor p r) (text : List ℕ) (anchor : Anchor) (b a : ℕ) (m : Match) (run : IsMatch r text anchor b a m) where
  only-pattern : m.trace.pattern ≡ 0
  only-pattern =
      let below = (match-slots r text anchor b a m run).0 in
      let count : length r.expressions ≡ 1 = ap (λ (hs : List Expression). length hs) is.one in
      omega arith

  only-expression : slice_get r.expressions m.trace.pattern ≡ Some is.expression
  only-expression = ap (λ q. slice_get r.expressions q) only-pattern ∙ ap (λ hs. slice_get hs 0) is.one

  pub span-left : (k : ℕ) → slot_value m k ≡ slot_in (Some (match_value m)) k
  span-left k =
      let own = match-slots r text anchor b a m run in
      let zeroth = only-pattern in
      by_test (k == 0)
      (λ opens. rw opens (ap (slot_value m) (let e : k ≡ 2 * m.trace.pattern = grind (arith, nat_tests) in e) ∙ own.1))
      (λ not_opens. by_test (k == 1)
      (λ closes. rw (not_opens, closes) (ap (slot_value m) (let e : k ≡ 2 * m.trace.pattern + 1 = grind (arith, nat_tests) in e) ∙ own.2))
      (λ not_closes. rw (not_opens, not_closes) (match-others r text anchor b a m run is.expression only-expression k (λ slot. elim slot [
        | inl opens ↦ (let e : k ≡ 0 = omega arith in eqb-false _ _ not_opens e)
        | inr other ↦ elim other [
          | inl closes ↦ (let e : k ≡ 1 = omega arith in eqb-false _ _ not_closes e)
          | inr explicit ↦ is.whole.no_groups explicit.0 explicit.2
        ]
      ]))))

-- So the slots that hold its span are the match's.
module _ (p : PreValue) (v : InputValue) (found : Option MatchValue) (slots : List (Option ℕ))
    (left : (k : ℕ) → k < length slots → get_or slots k None ≡ slot_in found k) where
  of-match : (r : Patterns) → IsPreFor p r → (m : Match) → IsMatch r v.haystack v.anchor v.end v.start m → found ≡ Some (match_value m) → HasSlots slots m
  of-match r is m run same k below =
      left k below ∙ ap (λ o. slot_in o k) same ∙ sym (span-left p r is v.haystack v.anchor v.end v.start m run k)

  module _ (answers : IsAnswer (λ r. IsPreFor p r) None LeftmostFirst v match_value found) where
    of-next : (r : Patterns) → Promised (IsPreFor p r) None LeftmostFirst r v → (next : Option Match) → next_in r v ≡ next → IfSome next (HasSlots slots)
    of-next r x None e = tt
    of-next r x (Some m) e =
        of-match r x.premises.is_for m (next-run r v.haystack v.anchor v.end v.start m e) (answers.value r x ∙ ap (option_map match_value) e)

    of-found : (told : p.tells ≡ true) (r : Patterns) → Premises (IsPreFor p r) None r v → (o : Option MatchValue) → found ≡ o
        → IfSome o (λ answer. IsMatchWith r v (λ m. answer ≡ match_value m))
        → IfSome o (λ answer. IsMatchWith r v (λ m. (answer ≡ match_value m) × HasSlots slots m))
    of-found told r x None e known = tt
    of-found told r x (Some answer) e known =
        let m = known.0 in
        let whole : told_of r.which_captures m ≡ m = told_of-whole r.which_captures (x.is_for.told ∙ told) m in
        let same : found ≡ Some (match_value m) = e ∙ ap Some (known.2 ∙ ap match_value whole) in
        (m, known.1, (known.2, λ k below. of-match r x.is_for m known.1 same k below ∙ ap (λ y. slot_value y k) (sym whole)))

    pub span-slots : p.tells ≡ true → AreSlotsOfAnswer (λ r. IsPreFor p r) None LeftmostFirst v match_value slots found
    span-slots told = record {
      value = λ r x. of-next r x (next_in r v) refl;
      is_match = λ r x. of-found told r x found refl (answers.is_match r x);
    }

  pub silent-slots : p.tells ≡ false → found ≡ None → AreSlotsOfAnswer (λ r. IsPreFor p r) None LeftmostFirst v match_value slots found
  silent-slots silent gone = record {
    value = λ r x. absurd (true≢false (sym x.told ∙ x.premises.is_for.told ∙ silent));
    is_match = λ r x. subst (λ (o : Option MatchValue). IfSome o (λ answer. IsMatchWith r v (λ m. (answer ≡ match_value m) × HasSlots slots m))) (sym gone) tt;
  }

-- What the slots hold, whatever was found.
pub slots-none : (slots : List (Option ℕ)) → ((k : ℕ) → k < length slots → get_or slots k None ≡ None) → slots ≡ replicate (length slots) None
slots-none [] empty = refl
slots-none (o ∷ os) empty = λ i. empty zero (omega arith) i ∷ slots-none os (λ k lt. empty (suc k) (omega arith)) i

-- what is left of a search that found this, whether matches are told or not
pub found-slots : (p : PreValue) (v : InputValue) (found : Option MatchValue) (slots : List (Option ℕ))
    → ((k : ℕ) → k < length slots → get_or slots k None ≡ slot_in found k) → IsAnswer (λ r. IsPreFor p r) None LeftmostFirst v match_value found
    → AreSlotsOfAnswer (λ r. IsPreFor p r) None LeftmostFirst v match_value slots found
found-slots p v found slots left answers =
    by_test p.tells
    (λ told. span-slots p v found slots left answers told)
    (λ silent. record {
      value = λ r x. absurd (true≢false (sym x.told ∙ x.premises.is_for.told ∙ silent));
      is_match = λ r x. untold r x silent found refl (answers.is_match r x);
    })
  where
    -- nothing was found
    none-found : (r : Patterns) → Premises (IsPreFor p r) None r v → p.tells ≡ false → is_some found ≡ false
    none-found r x silent = answers.exists r x ∙ ap is_some (told-no r v (x.is_for.told ∙ silent))

    untold : (r : Patterns) → Premises (IsPreFor p r) None r v → p.tells ≡ false → (o : Option MatchValue) → found ≡ o
        → IfSome o (λ answer. IsMatchWith r v (λ m. answer ≡ match_value m))
        → IfSome o (λ answer. IsMatchWith r v (λ m. (answer ≡ match_value m) × HasSlots slots m))
    untold r x silent None e known = tt
    untold r x silent (Some answer) e known = absurd (true≢false (ap is_some (sym e) ∙ none-found r x silent))

pub slots-after : (found : Option MatchValue) (slots : List (Option ℕ)) (n : ℕ) → length slots ≡ n
    → ((k : ℕ) → k < length slots → get_or slots k None ≡ slot_in found k) → IfNone found (slots ≡ replicate n None)
slots-after None slots n same left = slots-none slots left ∙ ap (λ k. replicate k None) same
slots-after (Some m) slots n same left = tt

-- The pattern is added where there is a match.
module _ (p : PreValue) (v : InputValue) (there : Bool) (whether : TellsWhether (λ r. IsPreFor p r) None v there) where
  only : (r : Patterns) → IsPreFor p r → (q : ℕ) → MatchesIn r v q → q ≡ 0
  only r is q m = sym m.2 ∙ only-pattern p r is v.haystack v.anchor v.end v.start m.0 m.1

  some-match : (r : Patterns) → Premises (IsPreFor p r) None r v → there ≡ true → (m : Match) × (next_in r v ≡ Some m)
  some-match r x is_there =
      elim (look (next_in r v)) [
        | inl nothing ↦ absurd (true≢false (sym is_there ∙ whether r x ∙ ap is_some nothing))
        | inr some ↦ some
      ]

  zeroth : (r : Patterns) → Premises (IsPreFor p r) None r v → there ≡ true → MatchesIn r v 0
  zeroth r x is_there =
      let m = some-match r x is_there in
      let run = next-run r v.haystack v.anchor v.end v.start m.0 m.1 in
      (m.0, run, only-pattern p r x.is_for v.haystack v.anchor v.end v.start m.0 run)

  gone-match : (r : Patterns) → Premises (IsPreFor p r) None r v → there ≡ false → next_in r v ≡ None
  gone-match r x gone =
      elim (look (next_in r v)) [
        | inl nothing ↦ nothing
        | inr some ↦ absurd (true≢false (ap is_some (sym some.1) ∙ sym (whether r x) ∙ gone))
      ]

  -- none is added
  module _ (set : List Bool) (gone : there ≡ false) where
    pub same-adds : AddsMatching (λ r. IsPreFor p r) None v set set
    same-adds r x q out in_it = absurd (true≢false (sym in_it ∙ out))

    pub same-fills : IsFilled (λ r. IsPreFor p r) None v set set LeftmostFirst
    same-fills r x = record {
      all = λ every whole q m. absurd (match-next r v.haystack v.anchor v.end v.start m.0 m.1 (gone-match r x gone));
      next = λ leftmost whole. subst (λ (o : Option Match). IfSome o (λ m. has set m.trace.pattern ≡ true)) (sym (gone-match r x gone)) tt;
      some = λ is. absurd (true≢false (sym is ∙ ap is_some (gone-match r x gone)));
    }

  -- it is added
  module _ (old : List Bool) (room : 1 ≤ length old) (is_there : there ≡ true) where
    abbrev new : List Bool
    new = set old 0 true

    has-zeroth : has new 0 ≡ true
    has-zeroth = get_or-set_same old 0 true false (omega arith)

    pub one-keeps : KeepsMembers old new
    one-keeps = record {
      room = length-set old 0 true;
      kept = λ q is. by_test (q == 0)
          (λ e. let zero_is : q ≡ 0 = grind (arith, nat_tests) in ap (has new) zero_is ∙ has-zeroth)
          (λ e. get_or-set_other old 0 q true false (λ same. eqb-false _ _ e same) ∙ is);
    }

    pub one-adds : AddsMatching (λ r. IsPreFor p r) None v old new
    one-adds r x q out in_it =
        by_test (q == 0)
        (λ e. let zero_is : q ≡ 0 = grind (arith, nat_tests) in subst (MatchesIn r v) (sym zero_is) (zeroth r x is_there))
        (λ e. absurd (true≢false (sym in_it ∙ get_or-set_other old 0 q true false (λ same. eqb-false _ _ e same) ∙ out)))

    pub one-fills : IsFilled (λ r. IsPreFor p r) None v old new LeftmostFirst
    one-fills r x = record {
      all = λ every whole q m. ap (has new) (only r x.is_for q m) ∙ has-zeroth;
      next = λ leftmost whole.
          let m = some-match r x is_there in
          subst (λ (o : Option Match). IfSome o (λ n. has new n.trace.pattern ≡ true)) (sym m.1)
          (ap (has new) (only-pattern p r x.is_for v.haystack v.anchor v.end v.start m.0 (next-run r v.haystack v.anchor v.end v.start m.0 m.1)) ∙ has-zeroth);
      some = λ is. (0, has-zeroth, zeroth r x is_there);
    }
