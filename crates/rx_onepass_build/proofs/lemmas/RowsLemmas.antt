-- The rows one after another: one row more, and where the steps of all lead.
use Rattle.std.proofs.Common.{◌≡◌, ◌≢◌, ℕ, zero, suc, ◌+◌, ◌*◌, ◌<◌, ◌==◌, List, [], ◌∷◌, ◌++◌, length, get_or, refl, sym, ◌∙◌, ap, subst, arith, slice_index}
use Rattle.std.specs.Prelude.{Some, slice_get}
use Rattle.std.proofs.lemmas.List.{length-append, get_or_append_left, get_or-append-add}
use Rattle.std.proofs.lemmas.Nat.{mul-add-lt}
use Rattle.std.proofs.Math.Nat.{suc-mul, zero-mul}
use Rattle.rx_model.proofs.lemmas.runs.RunLemmas.{by_test}
use Rattle.rx_model.proofs.lemmas.runs.FirstLemmas.{some-is}
use Rattle.rx_search.specs.ByteClasses.{AreClasses, AreRepresentatives, class_count}
use Rattle.rx_nfa.specs.Nfa.{Nfa}
use Rattle.rx_onepass_table.specs.Rows.{IsStep, IsFinal}
use Rattle.rx_onepass_table.specs.Words.{Step, Final, no_match, dead}
use Rattle.rx_onepass_table.proofs.lemmas.CellLemmas.{class-below}
use Rattle.rx_onepass_build.specs.Entries.{Stays}
use Rattle.rx_onepass_build.specs.Filling.{no_step, step_at}
use Rattle.rx_onepass_build.specs.Rows.{IsFilled, IsRowAt, AreFilled}
use Rattle.rx_onepass_build.specs.Settled.{LeadInside}
use Rattle.rx_onepass_build.specs.declared.job.Job.{Job}
use Rattle.rx_onepass_build.proofs.lemmas.FillingLemmas.{row-grows}
use Rattle.rx_onepass_build.proofs.lemmas.ListLemmas.{get-within, test-same, test-apart}

pub step-stays : (nfa : Nfa) (old new : List ℕ) (entry byte : ℕ) (s : Step) → Stays old new → IsStep nfa old entry byte s → IsStep nfa new entry byte s
step-stays nfa old new entry byte s stays h = record {
  there = h.there;
  row = λ way next r. row-grows old new s.target next stays (h.row way next r);
  wins = h.wins;
  slots = h.slots;
  looks = h.looks;
}

-- no row was made
pub rows-none : (j : Job) (entries : List ℕ) (steps : List Step) (finals : List Final) → steps ≡ [] → finals ≡ [] → AreFilled j entries steps finals
rows-none j entries steps finals none nothing = record {
  count = (let e = ap length nothing in omega arith);
  len = ap length none ∙ sym (zero-mul (class_count j.classes.now)) ∙ ap (λ fs. length fs * class_count j.classes.now) (sym nothing);
  rows = λ k entry lt e. (let n = ap length nothing in absurd (omega arith));
}

pub length-last : {A : Type 0} (xs : List A) (x : A) → length (xs ++ x ∷ []) ≡ suc (length xs)
length-last [] x = refl
length-last (y ∷ xs) x = ap suc (length-last xs x)

-- a state that has a row
pub there-is : (entries : List ℕ) (k : ℕ) → k < length entries → (q : ℕ) × (slice_get entries k ≡ Some q)
there-is [] k lt = absurd (omega arith)
there-is (x ∷ entries) zero lt = (x, refl)
there-is (x ∷ entries) (suc k) lt = there-is entries k (omega arith)

-- One row more.
module _ (j : Job) (classes : AreClasses j.classes.now) (old new : List ℕ) (steps cells : List Step) (finals : List Final) (told : Final) (entry : ℕ)
    (stays : Stays old new) (h : AreFilled j old steps finals) (there : slice_get new (length finals) ≡ Some entry)
    (filled : IsFilled j new entry cells told) where
  old-there : (k e : ℕ) → k < length finals → slice_get new k ≡ Some e → slice_get old k ≡ Some e
  old-there k e less is =
      let count = h.count in
      let x = there-is old k (omega arith) in
      x.1 ∙ ap Some (some-is (sym (stays k x.0 x.1) ∙ is))

  row-before : (k e : ℕ) → k < length finals → slice_get old k ≡ Some e → IsRowAt j new e k (steps ++ cells) (finals ++ told ∷ [])
  row-before k e lt is =
      let r = h.rows k e lt is in
      record {
        steps_are = λ byte small.
            (let inside = mul-add-lt k (class_count j.classes.now) (slice_index j.classes.now byte) (length finals) lt
            (class-below j.classes.now classes byte small) in
            let len = h.len in
            subst (λ s. IsStep j.nfa.now new e byte s)
            (sym (get_or_append_left steps cells no_step (k * class_count j.classes.now + slice_index j.classes.now byte) (omega arith)))
            (step-stays j.nfa.now old new e byte (step_at steps (k * class_count j.classes.now + slice_index j.classes.now byte)) stays
            (r.steps_are byte small)));
        final = subst (λ f. IsFinal j.nfa.now e f) (sym (get_or_append_left finals (told ∷ []) no_match k lt)) r.final;
        clear = r.clear;
      }

  row-last : (k e : ℕ) → k ≡ length finals → e ≡ entry → IsRowAt j new e k (steps ++ cells) (finals ++ told ∷ [])
  row-last k e last is = subst (λ x. IsRowAt j new x k (steps ++ cells) (finals ++ told ∷ [])) (sym is) (record {
    steps_are = λ byte small.
        (let place : k * class_count j.classes.now + slice_index j.classes.now byte ≡ length steps + slice_index j.classes.now byte =
        ap (λ n. n * class_count j.classes.now + slice_index j.classes.now byte) last ∙ ap (λ n. n + slice_index j.classes.now byte) (sym h.len) in
        subst (λ s. IsStep j.nfa.now new entry byte s)
        (sym (ap (λ i. get_or (steps ++ cells) i no_step) place ∙ get_or-append-add steps cells (slice_index j.classes.now byte) no_step))
        (filled.steps byte small));
    final =
        subst (λ f. IsFinal j.nfa.now entry f)
        (sym (ap (λ i. get_or (finals ++ told ∷ []) i no_match) (last ∙ at-end) ∙ get_or-append-add finals (told ∷ []) 0 no_match)) filled.final;
    clear = filled.clear;
  })
    where
      at-end : length finals ≡ length finals + 0
      at-end = omega arith

  pub rows-more : AreFilled j new (steps ++ cells) (finals ++ told ∷ [])
  rows-more = record {
    count = (let lt = get-within new (length finals) entry there in let len = length-last finals told in omega arith);
    len =
        (length-append steps cells ∙ ap (λ n. n + length cells) h.len ∙ ap (λ n. length finals * class_count j.classes.now + n) filled.width
        ∙ next ∙ ap (λ n. n * class_count j.classes.now) (sym (length-last finals told)));
    rows = rows;
  }
    where
      next : length finals * class_count j.classes.now + class_count j.classes.now ≡ suc (length finals) * class_count j.classes.now
      next = sym (suc-mul (length finals) (class_count j.classes.now))

      rows : (k e : ℕ) → k < length (finals ++ told ∷ []) → slice_get new k ≡ Some e → IsRowAt j new e k (steps ++ cells) (finals ++ told ∷ [])
      rows k e lt is =
          let len = length-last finals told in
          by_test (k == length finals)
          (λ same.
          let last : k ≡ length finals = test-same k (length finals) same in
          row-last k e last (some-is (sym is ∙ ap (slice_get new) last ∙ there)))
          (λ apart.
          let differ : k ≢ length finals = test-apart k (length finals) apart in
          let less : k < length finals = omega arith in
          row-before k e less (old-there k e less is))

-- where all rows are made, each step leads to a row
pub rows-lead : (j : Job) (bytes : List ℕ) → AreRepresentatives j.classes.now bytes → (entries : List ℕ) (steps : List Step) (finals : List Final)
    → AreFilled j entries steps finals → length finals ≡ length entries → LeadInside steps (class_count j.classes.now) (length finals)
rows-lead j bytes reps entries steps finals h all k c lt inside =
    let e = there-is entries k (omega arith) in
    let c-there : c < length bytes = (let each = reps.each in omega arith) in
    let row = h.rows k e.0 lt e.1 in
    let step : IsStep j.nfa.now entries e.0 (slice_index bytes c) (step_at steps (k * class_count j.classes.now + c)) =
    subst (λ i. IsStep j.nfa.now entries e.0 (slice_index bytes c) (step_at steps (k * class_count j.classes.now + i))) (reps.own c c-there)
    (row.steps_are (slice_index bytes c) (reps.inside c c-there)) in
    by_test ((step_at steps (k * class_count j.classes.now + c)).target == dead)
    (λ e. let none : (step_at steps (k * class_count j.classes.now + c)).target ≡ dead = test-same _ dead e in omega arith)
    (λ e.
    let live : (step_at steps (k * class_count j.classes.now + c)).target ≢ dead = test-apart _ dead e in
    let way = step.there live in
    let r = step.row way.0 way.1 way.2 in
    let is = r.row_is in
    let within = get-within entries r.before way.1 r.there in
    omega arith)
