-- Which expressions are nothing but literals.
use Rattle.std.proofs.Common.{◌≡◌, ℕ, ◌<◌, List, [], ◌∷◌, map, refl, sym, ◌∙◌, ap, subst, inl, inr, arith, true≢false}
use Rattle.std.proofs.lemmas.Bool.{and_parts}
use Rattle.std.specs.Cmp.{unsigned_Decides}
use Rattle.std.specs.Prelude.{◌↔◌, Bool, true, false, ◌||◌, Option, Some, None, option_map, IfSome, IfOk, IsTrue, Result, Ok, Err}
use Rattle.std.specs.List.{list_all}
use Rattle.rx_model.specs.Expression.{Expression, Expressions, empty, literal, class, look, repetition, capture, concat, alternation, nil, cons, AreOrdered}
use Rattle.rx_model.specs.Look as model
use Rattle.rx_model.specs.Matches.{StandsIn, StandsAmong}
use Rattle.rx_model.specs.Runs.{Trace}
use Rattle.rx_model.specs.Search.{Patterns, first}
use Rattle.rx_model.proofs.lemmas.runs.RunLemmas.{by_test}
use Rattle.rx_model.proofs.lemmas.runs.FirstLemmas.{none-is-some}
use Rattle.rx_search.specs.Look.{is_same_kind}
use Rattle.rx_hir.specs.Cost.{capped}
use Rattle.rx_hir.specs.Properties.{explicit_groups, explicit_groups_among, has_look, has_look_among}
use Rattle.rx_literal.specs.Literals.{Literal, Seq, infinite, finite, exact, inexact, bytes_of, is_exact}
use Rattle.rx_literal.specs.Extract.{prefixes}
use Rattle.rx_literal.specs.First.{IsLookFree, all_exact, listed, first_there}
use Rattle.rx_literal.specs.Trim.{trimmed_by_preference}
use Rattle.rx_literal.proofs.lemmas.first_runs.ExactRunLemmas.{exact-trimmed-run}
use Rattle.rx_prefilter.specs.Choices.{served}
use Rattle.rx_prefilter.specs.Prefixes.{served_by}
use Rattle.rx_order.specs.Alternation.{texts_in}
use Rattle.rx_pre.specs.Literals.{is_plain, are_plain, exact_needles, needles_in, served_texts}
use Rattle.rx_pre.specs.Whole.{TellEnds, AreWhole}
use Rattle.rx_pre.proofs.NeedleLemmas.{served-same}

mutual
  unfolding StandsIn

  -- no group stands in a plain expression
  pub plain-groups : (h : Expression) → is_plain h ≡ true → (g : ℕ) → StandsIn g h → ⊥
  plain-groups empty e g s = s
  plain-groups (literal bytes) e g s = s
  plain-groups (class members) e g s = s
  plain-groups (look kind) e g s = s
  plain-groups (repetition least most greedy sub) e g s = plain-groups sub e g s
  plain-groups (capture group name sub) e g s = true≢false (sym e)
  plain-groups (concat subs) e g s = plain-among subs e g s
  plain-groups (alternation subs) e g s = plain-among subs e g s

  plain-among : (hs : Expressions) → are_plain hs ≡ true → (g : ℕ) → StandsAmong g hs → ⊥
  plain-among nil e g s = s
  plain-among (cons sub subs) e g s =
      let both = and_parts (is_plain sub) (are_plain subs) e in
      elim s [ inl here ↦ plain-groups sub both.0 g here | inr there ↦ plain-among subs both.1 g there ]

or-none : (a b : Bool) → (a || b) ≡ false → (a ≡ false) × (b ≡ false)
or-none false b e = (refl, e)
or-none true b e = absurd (true≢false e)

same-kind : (k : model.Look) → is_same_kind k k ≡ true
same-kind k = (unsigned_Decides (model.look_number k) (model.look_number k)).1 refl

-- an expression is plain where no group stands in, and no look-around of any kind
mutual
  pub plain-is : (h : Expression) → explicit_groups h ≡ 0 → ((k : model.Look) → has_look k h ≡ false) → is_plain h ≡ true
  plain-is empty none free = refl
  plain-is (literal bytes) none free = refl
  plain-is (class members) none free = refl
  plain-is (look kind) none free = absurd (true≢false (sym (same-kind kind) ∙ free kind))
  plain-is (repetition least most greedy sub) none free = plain-is sub none free
  plain-is (capture group name sub) none free = absurd (omega arith)
  plain-is (concat subs) none free = plain-are subs none free
  plain-is (alternation subs) none free = plain-are subs none free

  plain-are : (hs : Expressions) → explicit_groups_among hs ≡ 0 → ((k : model.Look) → has_look_among k hs ≡ false) → are_plain hs ≡ true
  plain-are nil none free = refl
  plain-are (cons sub subs) none free =
      let here : explicit_groups sub ≡ 0 = omega arith in
      let later : explicit_groups_among subs ≡ 0 = omega arith in
      rw (
        plain-is sub here (λ k. (or-none (has_look k sub) (has_look_among k subs) (free k)).0),
        plain-are subs later (λ k. (or-none (has_look k sub) (has_look_among k subs) (free k)).1),
      ) refl

-- and only there
mutual
  pub plain-none : (h : Expression) → is_plain h ≡ true → (explicit_groups h ≡ 0) × ((k : model.Look) → has_look k h ≡ false)
  plain-none empty e = (refl, λ k. refl)
  plain-none (literal bytes) e = (refl, λ k. refl)
  plain-none (class members) e = (refl, λ k. refl)
  plain-none (look kind) e = absurd (true≢false (sym e))
  plain-none (repetition least most greedy sub) e = plain-none sub e
  plain-none (capture group name sub) e = absurd (true≢false (sym e))
  plain-none (concat subs) e = plain-none-among subs e
  plain-none (alternation subs) e = plain-none-among subs e

  plain-none-among : (hs : Expressions) → are_plain hs ≡ true → (explicit_groups_among hs ≡ 0) × ((k : model.Look) → has_look_among k hs ≡ false)
  plain-none-among nil e = (refl, λ k. refl)
  plain-none-among (cons sub subs) e =
      let both = and_parts (is_plain sub) (are_plain subs) e in
      let here = plain-none sub both.0 in
      let later = plain-none-among subs both.1 in
      let one = here.0 in
      let more = later.0 in
      (omega arith, λ k. rw (here.1 k, later.1 k) refl)

-- the bytes of exact literals are the literals
exact-bytes : (ls : List Literal) → list_all is_exact ls ≡ true → map exact (map bytes_of ls) ≡ ls
exact-bytes [] e = refl
exact-bytes (exact bytes ∷ ls) e = ap (λ ms. exact bytes ∷ ms) (exact-bytes ls e)
exact-bytes (inexact bytes ∷ ls) e = absurd (true≢false (sym e))

-- exact prefixes tell where first runs end
pub exact-ends : (h : Expression) (ss : Seq) → all_exact ss ≡ true
    → ((r : Patterns) (text : List ℕ) (end p i : ℕ) → option_map (λ (t : Trace). t.end) (first r text end p h i) ≡ first_there text end i (listed ss))
    → (needles : List (List ℕ)) → served_by ss ≡ Some needles → TellEnds needles h
exact-ends h infinite all told needles e = absurd (true≢false (sym all))
exact-ends h (finite ls) all told needles e = λ r text end p i.
    told r text end p i
    ∙ ap (first_there text end i) (sym (exact-bytes ls all) ∙ ap (map exact) (served-same (map bytes_of ls) needles e))

-- what is served fits
pub served-fits : (texts needles : List (List ℕ)) → served texts ≡ Some needles → served needles ≡ Some needles
served-fits texts needles e = subst (λ ts. served ts ≡ Some needles) (served-same texts needles e) e

pub served_by-fits : (ss : Seq) (needles : List (List ℕ)) → served_by ss ≡ Some needles → served needles ≡ Some needles
served_by-fits infinite needles e = none-is-some e
served_by-fits (finite ls) needles e = served-fits (map bytes_of ls) needles e

pub exact-fits : (ss : Seq) (needles : List (List ℕ)) → exact_needles ss ≡ Some needles → served needles ≡ Some needles
exact-fits ss needles e = by_test (all_exact ss) (λ all. served_by-fits ss needles (rw all at e)) (λ none. none-is-some (rw none at e))

pub texts-fits : (o : Option (List (List ℕ))) (needles : List (List ℕ)) → served_texts o ≡ Some needles → served needles ≡ Some needles
texts-fits None needles e = none-is-some e
texts-fits (Some texts) needles e = served-fits texts needles e

-- what the program asks of an expression
pub not-plain : (h : Expression) (n : ℕ) → n ≡ capped (explicit_groups h) → 0 < n → false ≡ is_plain h
not-plain h n count some =
    sym (by_test (is_plain h)
    (λ e. let none = (plain-none h e).0 in absurd (omega arith))
    (λ e. e))

pub plain-value : (h : Expression) (n : ℕ) → n ≡ capped (explicit_groups h) → n ≡ 0 → (b : Bool) → (IsTrue b ↔ ((k : model.Look) → has_look k h ≡ false))
    → b ≡ is_plain h
plain-value h n count none b free =
    let no_group : explicit_groups h ≡ 0 = omega arith in
    cases b free
  where
    cases : (b : Bool) → (IsTrue b ↔ ((k : model.Look) → has_look k h ≡ false)) → b ≡ is_plain h
    cases true free = sym (plain-is h (omega arith) (free.0 refl))
    cases false free = sym (by_test (is_plain h) (λ e. absurd (true≢false (sym (free.1 (plain-none h e).1)))) (λ e. e))

-- what is made of texts, and of prefixes
pub served-ends : (h : Expression) (texts : List (List ℕ)) → TellEnds texts h → (made : Option (List (List ℕ))) → made ≡ served texts
    → IfSome made (λ needles. TellEnds needles h)
served-ends h texts told None e = tt
served-ends h texts told (Some needles) e = subst (λ ts. TellEnds ts h) (served-same texts needles (sym e)) told

pub made-ends : (h : Expression) → AreOrdered h → IsLookFree h → all_exact (trimmed_by_preference (prefixes h)) ≡ true
    → (made : Option (List (List ℕ))) → made ≡ served_by (trimmed_by_preference (prefixes h)) → IfSome made (λ needles. TellEnds needles h)
made-ends h ordered look_free each None e = tt
made-ends h ordered look_free each (Some needles) e =
    exact-ends h (trimmed_by_preference (prefixes h)) each (λ r text end p i. exact-trimmed-run r text end p h ordered look_free i each) needles (sym e)

-- an expression that is not plain has none
pub needles-none : (h : Expression) → is_plain h ≡ false → None ≡ needles_in h
unfolding needles_in
needles-none h e = rw e refl

-- of a plain expression
module _ (h : Expression) (plain : is_plain h ≡ true) (ordered : AreOrdered h) where
  pub needles-exact : (needles : List (List ℕ)) → exact_needles (trimmed_by_preference (prefixes h)) ≡ Some needles → Some needles ≡ needles_in h
  unfolding needles_in
  needles-exact needles e = rw (plain, e) refl

  pub needles-texts : exact_needles (trimmed_by_preference (prefixes h)) ≡ None → (made : Option (List (List ℕ))) → made ≡ served_texts (texts_in h)
      → made ≡ needles_in h
  unfolding needles_in
  needles-texts none made is = rw (plain, none) is

  pub whole-exact : (needles : List (List ℕ)) → exact_needles (trimmed_by_preference (prefixes h)) ≡ Some needles → TellEnds needles h → AreWhole needles h
  whole-exact needles e ends = record {
    ends = ends;
    fit = exact-fits (trimmed_by_preference (prefixes h)) needles e;
    no_groups = plain-groups h plain;
    ordered = ordered;
  }

  pub whole-texts : (made : Option (List (List ℕ))) → made ≡ served_texts (texts_in h) → IfSome made (λ needles. TellEnds needles h)
      → IfSome made (λ needles. AreWhole needles h)
  whole-texts None e ends = tt
  whole-texts (Some needles) e ends = record {
    ends = ends;
    fit = texts-fits (texts_in h) needles (sym e);
    no_groups = plain-groups h plain;
    ordered = ordered;
  }

-- two facts of what is there make a third
pub ok-both : {T E : Type 0} {P Q R : T → Type 0} (result : Result T E) → ((x : T) → P x → Q x → R x) → IfOk result P → IfOk result Q → IfOk result R
ok-both (Ok x) make p q = make x p q
ok-both (Err e) make p q = tt
