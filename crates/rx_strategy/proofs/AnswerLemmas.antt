-- What the searches of a strategy answer.
use Rattle.std.proofs.Common.{◌≡◌, ℕ, ◌≤◌, List, length, refl, sym, ap, ◌∙◌, subst, arith, true≢false}
use Rattle.std.specs.Prelude.{Bool, true, false, Option, Some, None, option_map, is_some, IfSome, IfNone}
use Rattle.rx_model.specs.Search.{Patterns, WhichCaptures, all, implicit, none, Match, told_of}
use Rattle.rx_model.proofs.lemmas.runs.RunLemmas.{by_test}
use Rattle.rx_model.proofs.lemmas.matches.WithinLemmas.{next-later, match-next}
use Rattle.rx_search.specs.Input.{InputValue, next_in}
use Rattle.rx_search.specs.Matches.{MatchValue, match_value, half_match_value}
use Rattle.rx_search.specs.PatternSet.{has}
use Rattle.rx_search.specs.Promise.{Premises, Promised}
use Rattle.rx_search.specs.Sets.{MatchesIn, GainsMatching, AddsMatching, IsFilledFor, IsFilled}
use Rattle.rx_search.specs.Told.{tells, told_in, IsMatchWith, HasSlots}
use Rattle.rx_search.specs.declared.anchored.MatchKind.{MatchKind}
use Rattle.rx_nfa.specs.Nfa.{Nfa, IsNfaOf}
use Rattle.rx_nfa.specs.NextMatch.{next_match_in}
use Rattle.rx_nfa.proofs.lemmas.runs.NextMatchLemmas.{next_match_of-patterns}
use Rattle.rx_search.specs.Answer.{IsAnswer, AreSlotsOfAnswer, TellsWhether}
use Rattle.rx_engines.specs.Needles.{BeginsEachRun}
use Rattle.rx_dfa.specs.Search.{IsAnswerFor}
use Rattle.rx_strategy.specs.Core.{CoreValue, IsCoreFor, IsSearched, IsToldFor, core_finds}
use Rattle.rx_strategy.proofs.NeedleLemmas.{begins-run}

-- the next match of an NFA is that of its patterns
pub agree : (nfa : Nfa) (v : InputValue) → v.end ≤ length v.haystack → (r : Patterns) → IsNfaOf nfa r
    → next_match_in nfa v ≡ option_map (told_of r.which_captures) (next_in r v)
agree nfa v within r of = next_match_of-patterns nfa r v.haystack v.end within of.runs nfa.utf8 v.anchor v.start of.utf8

-- where matches are told, each is told whole
pub told_of-whole : (w : WhichCaptures) → tells w ≡ true → (m : Match) → told_of w m ≡ m
told_of-whole all e m = refl
told_of-whole implicit e m = refl
told_of-whole none e m = cc

pub told-whole : (w : WhichCaptures) → tells w ≡ true → (o : Option Match) → option_map (told_of w) o ≡ o
told-whole w e None = refl
told-whole w e (Some m) = ap Some (told_of-whole w e m)

pub is_some-map : {A B : Type 0} (f : A → B) (o : Option A) → is_some (option_map f o) ≡ is_some o
is_some-map f None = refl
is_some-map f (Some x) = refl

-- what is told of a match keeps its span
pub span-told : (w : WhichCaptures) (m : Match) → match_value (told_of w m) ≡ match_value m
span-told all m = refl
span-told implicit m = refl
span-told none m = refl

pub half-told : (w : WhichCaptures) (m : Match) → half_match_value (told_of w m) ≡ half_match_value m
half-told all m = refl
half-told implicit m = refl
half-told none m = refl

spans-told : (w : WhichCaptures) (o : Option Match) → option_map match_value (option_map (told_of w) o) ≡ option_map match_value o
spans-told w None = refl
spans-told w (Some m) = ap Some (span-told w m)

-- a part of a part
map-twice : {A B C : Type 0} (f : A → B) (g : B → C) (o : Option A) → option_map g (option_map f o) ≡ option_map (λ x. g (f x)) o
map-twice f g None = refl
map-twice f g (Some x) = refl

none-map : {A B : Type 0} (P : Type 0) (f : A → B) (o : Option A) → IfNone o P → IfNone (option_map f o) P
none-map P f None gone = gone
none-map P f (Some x) gone = tt

-- nothing that is told was there to tell
from-none : (w : WhichCaptures) (o : Option Match) → option_map (told_of w) o ≡ None → o ≡ None
from-none w None e = refl
from-none w (Some m) e = cc

module _ (r : Patterns) (v : InputValue) where
  pub told-yes : tells r.which_captures ≡ true → told_in r v ≡ next_in r v
  told-yes e = rw e refl

  told-no : tells r.which_captures ≡ false → told_in r v ≡ None
  told-no e = rw e refl

  -- a part of an answer is that part of the match
  part-is_match : {A B : Type 0} (part : Match → A) (f : A → B) (found : Option A) → IfSome found (λ answer. IsMatchWith r v (λ m. answer ≡ part m))
      → IfSome (option_map f found) (λ answer. IsMatchWith r v (λ m. answer ≡ f (part m)))
  part-is_match part f None known = tt
  part-is_match part f (Some answer) known = (known.0, known.1, ap f known.2)

  part-slots_match : {A B : Type 0} (slots : List (Option ℕ)) (part : Match → A) (f : A → B) (found : Option A)
      → IfSome found (λ answer. IsMatchWith r v (λ m. (answer ≡ part m) × HasSlots slots m))
      → IfSome (option_map f found) (λ answer. IsMatchWith r v (λ m. (answer ≡ f (part m)) × HasSlots slots m))
  part-slots_match slots part f None known = tt
  part-slots_match slots part f (Some answer) known = (known.0, known.1, (ap f known.2.0, known.2.1))

  -- the next match is a match
  next-told : (slots : List (Option ℕ)) (n : Option Match) → next_in r v ≡ n → (o : Option Match) → o ≡ option_map (told_of r.which_captures) n
      → IfSome o (HasSlots slots)
      → IfSome (option_map match_value o) (λ found. IsMatchWith r v (λ m. (found ≡ match_value m) × HasSlots slots m))
  next-told slots None e o is has = rw is tt
  next-told slots (Some n) e o is has =
      rw is (n, next-later r v.haystack v.anchor v.end v.end v.start n e (omega arith), (refl, subst (λ x. IfSome x (HasSlots slots)) is has))

  pub next-is_match : (slots : List (Option ℕ)) (o : Option Match) → o ≡ option_map (told_of r.which_captures) (next_in r v) → IfSome o (HasSlots slots)
      → (result : Option MatchValue) → result ≡ option_map match_value o
      → IfSome result (λ found. IsMatchWith r v (λ m. (found ≡ match_value m) × HasSlots slots m))
  next-is_match slots o is has result value = rw value (next-told slots (next_in r v) refl o is has)

  -- the slots aside
  slots-aside : (slots : List (Option ℕ)) (found : Option MatchValue)
      → IfSome found (λ answer. IsMatchWith r v (λ m. (answer ≡ match_value m) × HasSlots slots m))
      → IfSome found (λ answer. IsMatchWith r v (λ m. answer ≡ match_value m))
  slots-aside slots None known = tt
  slots-aside slots (Some answer) known = (known.0, known.1, known.2.0)

-- A part of an answer is the answer of that part.
module _ {A B : Type 0} (IsFor : Patterns → Type 0) (needles : Option (List (List ℕ))) (kind : MatchKind) (v : InputValue) (part : Match → A) (f : A → B)
    (found : Option A) (answer : Option B) (is : answer ≡ option_map f found) where
  pub part-answers : IsAnswer IsFor needles kind v part found → IsAnswer IsFor needles kind v (λ m. f (part m)) answer
  part-answers whole = record {
    value = λ r promised. is ∙ ap (option_map f) (whole.value r promised) ∙ map-twice part f (next_in r v);
    exists = λ r premises. ap is_some is ∙ is_some-map f found ∙ whole.exists r premises;
    is_match = λ r premises. rw is (part-is_match r v part f found (whole.is_match r premises));
  }

  pub part-slots : (slots : List (Option ℕ)) → AreSlotsOfAnswer IsFor needles kind v part slots found
      → AreSlotsOfAnswer IsFor needles kind v (λ m. f (part m)) slots answer
  part-slots slots whole = record {
    value = whole.value;
    is_match = λ r premises. rw is (part-slots_match r v slots part f found (whole.is_match r premises));
  }

  pub part-none : (P : Type 0) → IfNone found P → IfNone answer P
  part-none P gone = rw is (none-map P f found gone)

-- What searches for some patterns, and what it answers, where that is known of more of them.
module _ (For More : Patterns → Type 0) (needles : Option (List (List ℕ))) (v : InputValue)
    (more : (r : Patterns) → Premises (For r) needles r v → More r) where
  pub more-premises : (r : Patterns) → Premises (For r) needles r v → Premises (More r) needles r v
  more-premises r p = record { is_for = more r p; begins = p.begins; utf8 = p.utf8 }

  more-promised : (kind : MatchKind) (r : Patterns) → Promised (For r) needles kind r v → Promised (More r) needles kind r v
  more-promised kind r p = record { premises = more-premises r p.premises; leftmost = p.leftmost; told = p.told; whole = p.whole }

  pub fewer-answers : (kind : MatchKind) {T : Type 0} (part : Match → T) (found : Option T) → IsAnswer More needles kind v part found
      → IsAnswer For needles kind v part found
  fewer-answers kind part found is = record {
    value = λ r p. is.value r (more-promised kind r p);
    exists = λ r p. is.exists r (more-premises r p);
    is_match = λ r p. is.is_match r (more-premises r p);
  }

  pub fewer-slots : (kind : MatchKind) {T : Type 0} (part : Match → T) (slots : List (Option ℕ)) (found : Option T)
      → AreSlotsOfAnswer More needles kind v part slots found → AreSlotsOfAnswer For needles kind v part slots found
  fewer-slots kind part slots found are = record {
    value = λ r p. are.value r (more-promised kind r p);
    is_match = λ r p. are.is_match r (more-premises r p);
  }

  pub fewer-whether : (there : Bool) → TellsWhether More needles v there → TellsWhether For needles v there
  fewer-whether there is r p = is r (more-premises r p)

-- Nothing is found where there is no match.
module _ {A : Type 0} (IsFor : Patterns → Type 0) (needles : Option (List (List ℕ))) (kind : MatchKind) (v : InputValue) (part : Match → A)
    (gone : (r : Patterns) → IsFor r → next_in r v ≡ None) where
  untold : (r : Patterns) → IsFor r → told_in r v ≡ None
  untold r of = by_test (tells r.which_captures) (λ e. told-yes r v e ∙ gone r of) (λ e. told-no r v e)

  pub none-answers : IsAnswer IsFor needles kind v part None
  none-answers = record {
    value = λ r promised. ap (option_map part) (sym (gone r promised.premises.is_for));
    exists = λ r premises. ap is_some (sym (untold r premises.is_for));
    is_match = λ r premises. tt;
  }

  pub none-slots : (slots : List (Option ℕ)) → AreSlotsOfAnswer IsFor needles kind v part slots None
  none-slots slots = record {
    value = λ r promised. rw (gone r promised.premises.is_for) tt;
    is_match = λ r premises. tt;
  }

pub none-whether : (IsFor : Patterns → Type 0) (needles : Option (List (List ℕ))) (v : InputValue) → ((r : Patterns) → IsFor r → next_in r v ≡ None)
    → TellsWhether IsFor needles v false
none-whether IsFor needles v gone r premises = ap is_some (sym (gone r premises.is_for))

module _ (c : CoreValue) (v : InputValue) where
  -- what a core finds is what its patterns tell
  pub core-told : v.end ≤ length v.haystack → (r : Patterns) → IsCoreFor c r → core_finds c v ≡ told_in r v
  core-told within r of =
      by_test (tells c.which_captures)
      (λ e. let told : tells r.which_captures ≡ true = ap tells of.which_captures ∙ e in
      let found : core_finds c v ≡ next_match_in c.nfa v = rw e refl in
      found ∙ agree c.nfa v within r of.nfa ∙ told-whole r.which_captures told (next_in r v) ∙ sym (told-yes r v told))
      (λ e. let silent : tells r.which_captures ≡ false = ap tells of.which_captures ∙ e in
      let found : core_finds c v ≡ None = rw e refl in
      found ∙ sym (told-no r v silent))

  -- where the NFA has no match, its patterns have none
  pub core-none : v.end ≤ length v.haystack → next_match_in c.nfa v ≡ None → (r : Patterns) → IsCoreFor c r → next_in r v ≡ None
  core-none within gone r of = from-none r.which_captures (next_in r v) (sym (agree c.nfa v within r of.nfa) ∙ gone)

  -- each run begins with a needle, where each match does
  core-begins : v.end ≤ length v.haystack → (r : Patterns) → Premises (IsCoreFor c r) c.pre r v → BeginsEachRun c.pre c.nfa v
  core-begins within r p = begins-run c.pre c.nfa r v p.is_for.nfa p.is_for.ordered within p.begins

  -- what is told of some of its patterns
  module _ (For : Patterns → Type 0) (of : (r : Patterns) → For r → IsCoreFor c r) (kind : MatchKind) where
    module _ (slots : List (Option ℕ)) (found : Option MatchValue)
        (told-for : (r : Patterns) → Premises (For r) c.pre r v → IsToldFor kind r v slots found) where
      pub for-answers : tells c.which_captures ≡ true → IsAnswer For c.pre kind v match_value found
      for-answers told = record {
        value = λ r p. (told-for r p.premises).value p.leftmost p.whole;
        exists = λ r p. (told-for r p).exists ∙ ap is_some (sym (told-yes r v (ap tells (of r p.is_for).which_captures ∙ told)));
        is_match = λ r p. slots-aside r v slots found (told-for r p).is_match;
      }

      pub for-slots : AreSlotsOfAnswer For c.pre kind v match_value slots found
      for-slots = record {
        value = λ r p.
            subst (λ (o : Option Match). IfSome o (HasSlots slots)) (told-whole r.which_captures p.told (next_in r v))
            ((told-for r p.premises).slots p.leftmost p.whole);
        is_match = λ r p. (told-for r p).is_match;
      }

    -- and of what its DFAs answer
    pub for-dfa : {A : Type 0} (part : Match → A) (found : Option A)
        → ((r : Patterns) → Premises (For r) c.pre r v → IsAnswerFor kind r v part found) → tells c.which_captures ≡ true
        → IsAnswer For c.pre kind v part found
    for-dfa part found is told = record {
      value = λ r p. (is r p.premises).value p.leftmost p.whole;
      exists = λ r p. (is r p).exists ∙ ap is_some (sym (told-yes r v (ap tells (of r p.is_for).which_captures ∙ told)));
      is_match = λ r p. (is r p).is_match;
    }

  module _ (kind : MatchKind) (slots : List (Option ℕ)) (found : Option MatchValue) where
    -- what an engine tells of a search, of the patterns
    pub searched-told : IsSearched c.nfa v slots found → (r : Patterns) → IsCoreFor c r → IsToldFor kind r v slots found
    searched-told s r of =
        let w = r.which_captures in
        let same : next_match_in c.nfa v ≡ option_map (told_of w) (next_in r v) = s.patterns r of.nfa in
        record {
          value = λ leftmost whole. s.value whole ∙ ap (option_map match_value) same ∙ spans-told w (next_in r v);
          exists = s.exists ∙ ap is_some same ∙ is_some-map (told_of w) (next_in r v);
          is_match = s.is_match r of.nfa;
          slots = λ leftmost whole. subst (λ (o : Option Match). IfSome o (HasSlots slots)) same (s.slots whole);
        }

    -- which is known where each run begins with a needle
    pub engine-told : v.end ≤ length v.haystack → ((r : Patterns) → IsCoreFor c r → BeginsEachRun c.pre c.nfa v → IsToldFor kind r v slots found)
        → (r : Patterns) → Premises (IsCoreFor c r) c.pre r v → IsToldFor kind r v slots found
    engine-told within told r p = told r p.is_for (core-begins within r p)

    module _ (told-for : (r : Patterns) → Premises (IsCoreFor c r) c.pre r v → IsToldFor kind r v slots found) where
      pub core-answers : tells c.which_captures ≡ true → IsAnswer (λ r. IsCoreFor c r) c.pre kind v match_value found
      core-answers = for-answers (λ r. IsCoreFor c r) (λ r of. of) kind slots found told-for

      pub core-slots : AreSlotsOfAnswer (λ r. IsCoreFor c r) c.pre kind v match_value slots found
      core-slots = for-slots (λ r. IsCoreFor c r) (λ r of. of) kind slots found told-for

  -- nothing is told without captures
  pub silent-answers : (kind : MatchKind) → tells c.which_captures ≡ false → IsAnswer (λ r. IsCoreFor c r) c.pre kind v match_value None
  silent-answers kind silent = record {
    value = λ r p. let told : tells c.which_captures ≡ true = sym (ap tells p.premises.is_for.which_captures) ∙ p.told in cc;
    exists = λ r p. ap is_some (sym (told-no r v (ap tells p.is_for.which_captures ∙ silent)));
    is_match = λ r p. tt;
  }

  pub silent-slots : (kind : MatchKind) (slots : List (Option ℕ)) → tells c.which_captures ≡ false
      → AreSlotsOfAnswer (λ r. IsCoreFor c r) c.pre kind v match_value slots None
  silent-slots kind slots silent = record {
    value = λ r p. let told : tells c.which_captures ≡ true = sym (ap tells p.premises.is_for.which_captures) ∙ p.told in cc;
    is_match = λ r p. tt;
  }

  -- whether there is a match, of the NFA or of its patterns
  pub core-whether : (there : Bool) → (BeginsEachRun c.pre c.nfa v → there ≡ is_some (next_match_in c.nfa v)) → v.end ≤ length v.haystack
      → TellsWhether (λ r. IsCoreFor c r) c.pre v there
  core-whether there is within r p =
      is (core-begins within r p) ∙ ap is_some (agree c.nfa v within r p.is_for.nfa) ∙ is_some-map (told_of r.which_captures) (next_in r v)

  -- what is added to a set, of the NFA's patterns and so of the core's
  module _ (old new : List Bool) (within : v.end ≤ length v.haystack) where
    pub core-adds : ((r : Patterns) → IsNfaOf c.nfa r → BeginsEachRun c.pre c.nfa v → GainsMatching r v old new)
        → AddsMatching (λ r. IsCoreFor c r) c.pre v old new
    core-adds gains r p = gains r p.is_for.nfa (core-begins within r p)

    pub core-fills : (kind : MatchKind) → ((r : Patterns) → IsNfaOf c.nfa r → BeginsEachRun c.pre c.nfa v → IsFilledFor r v old new kind)
        → IsFilled (λ r. IsCoreFor c r) c.pre v old new kind
    core-fills kind fills r p = fills r p.is_for.nfa (core-begins within r p)

-- where there is no match a set stays as it is
module _ (IsFor : Patterns → Type 0) (needles : Option (List (List ℕ))) (v : InputValue) (set : List Bool)
    (gone : (r : Patterns) → IsFor r → next_in r v ≡ None) where
  no-match : (r : Patterns) → IsFor r → (p : ℕ) → MatchesIn r v p → ⊥
  no-match r of p m = match-next r v.haystack v.anchor v.end v.start m.0 m.1 (gone r of)

  pub none-adds : AddsMatching IsFor needles v set set
  none-adds r p k out there = absurd (true≢false (sym there ∙ out))

  pub none-fills : (kind : MatchKind) → IsFilled IsFor needles v set set kind
  none-fills kind r p = record {
    all = λ all whole k m. absurd (no-match r p.is_for k m);
    next = λ leftmost whole. subst (λ (o : Option Match). IfSome o (λ m. has set m.trace.pattern ≡ true)) (sym (gone r p.is_for)) tt;
    some = λ there. absurd (true≢false (sym there ∙ ap is_some (gone r p.is_for)));
  }
