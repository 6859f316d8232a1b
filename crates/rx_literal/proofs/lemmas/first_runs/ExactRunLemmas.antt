-- The first run of an expression without look-around ends with the first of its prefixes that lies there, if that is exact.
use Rattle.std.proofs.Common.{◌≡◌, ℕ, ◌+◌, ◌*◌, ◌≤◌, ◌<◌, true, false, List, [], ◌∷◌, length, refl, sym, ap, ◌∙◌, subst, arith}
use Rattle.std.specs.Prelude.{nat_le, Option, Some, None, option_map}
use Rattle.std.specs.List.{list_all}
use Rattle.std.proofs.lemmas.Bool.{and_parts}
use Rattle.std.proofs.lemmas.Bool.Decides.{nat_tests}
use Rattle.rx_model.specs.Text.{stands_at}
use Rattle.rx_model.specs.Runs.{nowhere, IsClosed, Trace}
use Rattle.rx_model.specs.Expression.{Expression, AreOrdered}
use Rattle.rx_model.specs.Graph.{accept, build_group, build, build_pattern, at}
use Rattle.rx_model.specs.Search.{Patterns, slot_of, first}
use Rattle.rx_model.proofs.lemmas.runs.RunLemmas.{by_test}
use Rattle.rx_model.proofs.lemmas.runs.FoundLemmas.{found-accepted}
use Rattle.rx_model.proofs.lemmas.graphs.PlacedLemmas.{Placed-first, Placed-rest}
use Rattle.rx_model.proofs.lemmas.meaning.CoverLemmas.{Placed-whole}
use Rattle.rx_model.proofs.lemmas.graphs.GraphLemmas.{runs_of-bounded}
use Rattle.rx_literal.specs.Literals.{Literal, exact, inexact, Seq, infinite, finite, bytes_of, is_exact}
use Rattle.rx_literal.specs.declared.side.Side.TheVariants.{Front as front}
use Rattle.rx_literal.specs.Extract.{literals}
use Rattle.rx_literal.specs.Trim.{trimmed_by_preference}
use Rattle.rx_literal.specs.First.{lies, first_literal, first_there, all_exact, listed, IsLookFree}
use Rattle.rx_model.specs.Onward.{within}
use Rattle.rx_model.proofs.lemmas.runs.OrderLemmas.{g, ends, Stands, ends-past}
use Rattle.rx_model.proofs.lemmas.graphs.LocalLemmas.{local}
use Rattle.rx_literal.proofs.lemmas.first_runs.ExactLemmas.{one, no_exact}
use Rattle.rx_literal.proofs.lemmas.first_runs.AgreeLemmas.{Agrees, AgreesIn, EndsBy, gives-none}
use Rattle.rx_literal.proofs.lemmas.first_runs.TellLemmas.{from, Tells-group, tells-all}
use Rattle.rx_literal.proofs.lemmas.trimming.FirstTrimLemmas.{first-trimmed}
use Rattle.rx_model.proofs.lemmas.runs.MemberLemmas.{none-among}
use Rattle.rx_model.proofs.lemmas.graphs.StateLemmas.{IsStateOf, accepted-at, successors-in}

first-tells : (r : Patterns) (hay : List ℕ) (end p : ℕ) (h : Expression) → AreOrdered h → IsLookFree h → (i : ℕ)
    → AgreesIn hay end (within end) i (option_map (λ (t : Trace). t.end) (first r hay end p h i)) (literals front h)
unfolding first build_pattern
first-tells r hay end p h ordered free i =
    let b = build_group (Some (2 * p)) (build (slot_of r p) h) in
    let body = b 0 1 in
    let whole = accept p ∷ body.states in
    let is : IsStateOf whole 0 (accept p) = Placed-first whole 0 (accept p) body.states (Placed-whole whole) in
    let A : ℕ → Type 0 = λ s. 0 ≡ s in
    let closed : IsClosed (g r.terminator hay end whole) A = λ c d at_0 m.
    absurd (none-among d (successors-in r.terminator hay end whole c d (accept p) (subst (λ q. IsStateOf whole q (accept p)) at_0 is) m)) in
    let stands : Stands r.terminator hay end whole A 0 1 body.states = record {
      placed = Placed-rest whole 0 (accept p) body.states (Placed-whole whole);
      closed = closed;
      next_in = refl;
      apart = λ s at_0 low high. omega arith;
    } in
    let t = Tells-group r.terminator hay end whole (Some (2 * p)) (build (slot_of r p) h) (literals front h) (local r.terminator hay end whole (slot_of r p) h)
    (tells-all r.terminator hay end whole (slot_of r p) h ordered free) in
    let final : (j : ℕ) → ends r.terminator hay end whole (at 0 j) ≡ within end j = λ j.
    by_test (nat_le j end)
    (λ e.
    let le : j ≤ end = grind (arith, nat_tests) in
    rw e
    (ap (option_map (λ (t : Trace). t.end)) (found-accepted (g r.terminator hay end whole) nowhere (runs_of-bounded r.terminator hay end whole) (at 0 j) p
    refl (accepted-at r.terminator hay end whole 0 j (accept p) is le))))
    (λ e. let past : end < j = grind (arith, nat_tests) in rw e (ends-past r.terminator hay end whole (at 0 j) past)) in
    let same : from r.terminator hay end whole 0 ≡ within end = λ k j. final j k in
    subst (λ f. AgreesIn hay end f i (from r.terminator hay end whole body.start i) (literals front h)) same (t.tells A 0 1 stands i)

within-past : (hay : List ℕ) (end : ℕ) → EndsBy hay end (within end)
within-past hay end k past = let out : nat_le k end ≡ false = grind (arith, nat_tests) in rw out refl

module _ (hay : List ℕ) (end i : ℕ) (v : Option ℕ) where
  some-literal : (l m : Literal) → ◌≡◌ {A = Option Literal} (Some l) (Some m) → l ≡ m
  some-literal l m e = cc

  no-literal : {P : Type 0} (l : Literal) → ◌≡◌ {A = Option Literal} None (Some l) → P
  no-literal l e = cc

  some-no : {P : Type 0} (l : Literal) → ◌≡◌ {A = Option Literal} (Some l) None → P
  some-no l e = cc

  pub agrees-some : (ls : List Literal) → Agrees hay end (within end) i v ls → (l : Literal) → first_literal hay end i ls ≡ Some l → is_exact l ≡ true
      → v ≡ Some (i + length (bytes_of l))
  agrees-some [] a l e all = no-literal l e
  agrees-some (exact s ∷ ls) a l e all =
      by_test (lies hay end i (exact s))
      (λ y.
      let both = and_parts (stands_at hay i s) (nat_le (i + length s) end) y in
      let gives : one hay s (within end) i ≡ Some (i + length s) = rw (both.0, both.1) refl in
      let same : exact s ≡ l = some-literal (exact s) l (rw y at e) in
      a.0 (i + length s) gives ∙ ap (λ m. Some (i + length (bytes_of m))) same)
      (λ n. agrees-some ls (a.1 (gives-none hay end (within end) (within-past hay end) i s n)) l (rw n at e) all)
  agrees-some (inexact s ∷ ls) a l e all =
      by_test (lies hay end i (inexact s))
      (λ y. let same : inexact s ≡ l = some-literal (inexact s) l (rw y at e) in no_exact (ap is_exact same ∙ all))
      (λ n. agrees-some ls (a n) l (rw n at e) all)

  pub agrees-none : (ls : List Literal) → Agrees hay end (within end) i v ls → first_literal hay end i ls ≡ None → v ≡ None
  agrees-none [] a e = a
  agrees-none (exact s ∷ ls) a e =
      by_test (lies hay end i (exact s))
      (λ y. some-no (exact s) (rw y at e))
      (λ n. agrees-none ls (a.1 (gives-none hay end (within end) (within-past hay end) i s n)) (rw n at e))
  agrees-none (inexact s ∷ ls) a e =
      by_test (lies hay end i (inexact s))
      (λ y. some-no (inexact s) (rw y at e))
      (λ n. agrees-none ls (a n) (rw n at e))

  first-is_exact : (ls : List Literal) → list_all is_exact ls ≡ true → (l : Literal) → first_literal hay end i ls ≡ Some l → is_exact l ≡ true
  first-is_exact [] all l e = no-literal l e
  first-is_exact (m ∷ ls) all l e =
      let both = and_parts (is_exact m) (list_all is_exact ls) all in
      by_test (lies hay end i m)
      (λ y. let same : m ≡ l = some-literal m l (rw y at e) in ap is_exact (sym same) ∙ both.0)
      (λ n. first-is_exact ls both.1 l (rw n at e))

  -- us are exact, and the first of them there is the first of ls
  exact-there : (ls us : List Literal) → Agrees hay end (within end) i v ls → list_all is_exact us ≡ true
      → first_literal hay end i us ≡ first_literal hay end i ls → v ≡ first_there hay end i us
  exact-there ls us a all same = by_first (first_literal hay end i us) refl
    where
      by_first : (o : Option Literal) → first_literal hay end i us ≡ o → v ≡ option_map (λ (l : Literal). i + length (bytes_of l)) o
      by_first None e = agrees-none ls a (sym same ∙ e)
      by_first (Some l) e = agrees-some ls a l (sym same ∙ e) (first-is_exact us all l e)

  pub exact-seq : (ss : Seq) → AgreesIn hay end (within end) i v ss → all_exact ss ≡ true → v ≡ first_there hay end i (listed ss)
  exact-seq infinite a all = no_exact all
  exact-seq (finite ls) a all = exact-there ls ls a all refl

  pub exact-trimmed : (ss : Seq) → AgreesIn hay end (within end) i v ss → all_exact (trimmed_by_preference ss) ≡ true
      → v ≡ first_there hay end i (listed (trimmed_by_preference ss))
  unfolding trimmed_by_preference
  exact-trimmed infinite a all = no_exact all
  exact-trimmed (finite ls) a all = exact-there ls (listed (trimmed_by_preference (finite ls))) a (listed-exact (trimmed_by_preference (finite ls)) all)
      (first-trimmed hay end i (finite ls) all)
    where
      listed-exact : (us : Seq) → all_exact us ≡ true → list_all is_exact (listed us) ≡ true
      listed-exact infinite all = no_exact all
      listed-exact (finite us) all = all

module _ (r : Patterns) (hay : List ℕ) (end p : ℕ) (h : Expression) (ordered : AreOrdered h) (free : IsLookFree h) (i : ℕ) where
  abbrev run_end : Option ℕ
  run_end = option_map (λ (t : Trace). t.end) (first r hay end p h i)

  pub exact-run : all_exact (literals front h) ≡ true → run_end ≡ first_there hay end i (listed (literals front h))
  exact-run all = exact-seq hay end i run_end (literals front h) (first-tells r hay end p h ordered free i) all

  pub exact-trimmed-run : all_exact (trimmed_by_preference (literals front h)) ≡ true
      → run_end ≡ first_there hay end i (listed (trimmed_by_preference (literals front h)))
  exact-trimmed-run all = exact-trimmed hay end i run_end (literals front h) (first-tells r hay end p h ordered free i) all

  -- the first that lies there, where it is exact, whatever the others are
  pub first-exact-run : (ls : List Literal) → literals front h ≡ finite ls → (s : List ℕ) → first_literal hay end i ls ≡ Some (exact s)
      → run_end ≡ Some (i + length s)
  first-exact-run ls e s first_is =
      agrees-some hay end i run_end ls (subst (λ ss. AgreesIn hay end (within end) i run_end ss) e (first-tells r hay end p h ordered free i)) (exact s)
      first_is refl
