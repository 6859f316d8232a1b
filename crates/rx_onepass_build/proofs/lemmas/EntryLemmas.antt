-- One entry more.
use Rattle.std.proofs.Common.{◌≡◌, ◌≢◌, ℕ, suc, ◌-◌, ◌^◌, ◌<◌, ◌≤◌, ◌==◌, List, [], ◌∷◌, ◌++◌, length, get_or, refl, sym, ◌∙◌, ap, subst, inl, inr, ⊎_elim, arith}
use Rattle.std.specs.Prelude.{Bool, Some, slice_get, slice_set}
use Rattle.std.proofs.lemmas.Bool.Decides.{nat_tests}
use Rattle.std.proofs.lemmas.List.{length-set}
use Rattle.std.proofs.lemmas.Option.{slice_get-get_or}
use Rattle.rx_model.proofs.lemmas.runs.RunLemmas.{by_test}
use Rattle.rx_model.proofs.lemmas.runs.FirstLemmas.{none-is-some, some-is}
use Rattle.rx_nfa.specs.Nfa.{Nfa}
use Rattle.rx_onepass_table.specs.Entry.{IsEntry}
use Rattle.rx_onepass_table.specs.Rows.{IsRowOf}
use Rattle.rx_onepass_build.specs.Build.{IsMadeInVain}
use Rattle.rx_onepass_build.specs.Entries.{state_limit, AreDistinct, AreEntries, HasEntries, AreNumbered, AreMet, Stays, IsAdded, IsWithin, Grows, IsFull, HasNoRoom}
use Rattle.rx_onepass_build.specs.Rows.{AreOf}
use Rattle.rx_onepass_build.specs.declared.build_error.BuildError.{BuildError}
use Rattle.rx_onepass_build.specs.declared.build_error.BuildError.TheVariants.{UnsupportedLook, TooManyPatterns, TooManyStates, ExceededSizeLimit, NotOnePass, Memory}
use Rattle.rx_onepass_build.specs.declared.entries.Entries.{Entries}
use Rattle.rx_onepass_build.specs.declared.entries.Layout.{Layout}
use Rattle.rx_onepass_build.proofs.lemmas.ListLemmas.{set-same, set-other, get-front, get-last, get-appended, get-within}

longer : (xs : List ℕ) (x : ℕ) → length (xs ++ x ∷ []) ≡ suc (length xs)
longer [] x = refl
longer (y ∷ xs) x = ap suc (longer xs x)

-- a state without a row is not among the entries
pub not-among : (entries numbers : List ℕ) (q : ℕ) → AreNumbered entries numbers → slice_get numbers q ≡ Some 0 → (k : ℕ) → slice_get entries k ≢ Some q
not-among entries numbers q are zero-there k e =
    let same : suc k ≡ 0 = some-is (sym (are.told k q e) ∙ zero-there) in omega arith

pub numbered-push : (entries numbers : List ℕ) (q : ℕ) → AreNumbered entries numbers → slice_get numbers q ≡ Some 0
    → AreNumbered (entries ++ q ∷ []) (slice_set numbers q (suc (length entries)))
numbered-push entries numbers q are zero-there = record { told = told; back = back }
  where
    there : q < length numbers
    there = get-within numbers q 0 zero-there

    told : (k r : ℕ) → slice_get (entries ++ q ∷ []) k ≡ Some r → slice_get (slice_set numbers q (suc (length entries))) r ≡ Some (suc k)
    told k r e =
        ⊎_elim
        (λ old.
        set-other numbers q r (suc (length entries)) (λ same. not-among entries numbers q are zero-there k (old ∙ ap Some same)) ∙ are.told k r old)
        (λ new.
        subst (λ x. slice_get (slice_set numbers q (suc (length entries))) x ≡ Some (suc k)) (sym new.1)
        (set-same numbers q (suc (length entries)) there ∙ ap (λ n. Some (suc n)) (sym new.0)))
        (get-appended entries q k r e)

    back : (k r : ℕ) → slice_get (slice_set numbers q (suc (length entries))) r ≡ Some (suc k) → slice_get (entries ++ q ∷ []) k ≡ Some r
    back k r e =
        by_test (r == q)
        (λ same.
        let is : r ≡ q = grind (arith, nat_tests) in
        let n : suc (length entries) ≡ suc k =
        some-is (sym (set-same numbers q (suc (length entries)) there)
        ∙ ap (λ x. slice_get (slice_set numbers q (suc (length entries))) x) (sym is) ∙ e) in
        let m : length entries ≡ k = omega arith in
        ap (λ x. slice_get (entries ++ q ∷ []) x) (sym m) ∙ get-last entries q ∙ ap Some (sym is))
        (λ apart.
        let differ : r ≢ q = grind (arith, nat_tests) in
        get-front entries (q ∷ []) k r (are.back k r (sym (set-other numbers q r (suc (length entries)) differ) ∙ e)))

pub stays-push : (entries : List ℕ) (q : ℕ) → Stays entries (entries ++ q ∷ [])
stays-push entries q k r e = get-front entries (q ∷ []) k r e

pub added-push : (entries : List ℕ) (q : ℕ) → IsAdded entries q (entries ++ q ∷ [])
added-push entries q k r e = ⊎_elim (λ old. inl old) (λ new. inr new.1) (get-appended entries q k r e)

-- the row of the entry that was pushed
pub row-push : (entries : List ℕ) (q row : ℕ) → row ≡ suc (length entries) → IsRowOf (entries ++ q ∷ []) row q
row-push entries q row is = record { before = length entries; row_is = is; there = get-last entries q }

pub row-pushed : (old new : List ℕ) (q row : ℕ) → row ≡ suc (length old) → new ≡ old ++ q ∷ [] → IsRowOf new row q
row-pushed old new q row is pushed = subst (λ xs. IsRowOf xs row q) (sym pushed) (row-push old q row is)

-- none are entries
pub none-entries : (nfa : Nfa) (each : Bool) (entries : List ℕ) → entries ≡ [] → AreEntries nfa each entries
none-entries nfa each entries none k q e = none-is-some (ap (λ xs. slice_get xs k) (sym none) ∙ e)

-- The entries that were met, with one more and its number.
module _ (old new : Entries) (q place row : ℕ) (place_is : place ≡ q) (row_is : row ≡ suc (length old.items.items))
    (items : new.items.items ≡ old.items.items ++ q ∷ []) (numbers : new.numbers.items ≡ slice_set old.numbers.items place row)
    (layout : new.layout ≡ old.layout) where
  numbers-set : new.numbers.items ≡ slice_set old.numbers.items q (suc (length old.items.items))
  numbers-set = numbers ∙ ap (λ p. slice_set old.numbers.items p row) place_is ∙ ap (λ r. slice_set old.numbers.items q r) row_is

  count : length new.items.items ≡ row
  count = ap length items ∙ longer old.items.items q ∙ sym row_is

  pub met-push : AreMet old → slice_get old.numbers.items q ≡ Some 0 → suc row ≤ state_limit → IsWithin old.layout (suc row) → AreMet new
  met-push met zero-there few within = record {
    numbered =
        subst (λ xs. AreNumbered xs new.numbers.items) (sym items)
        (subst (λ ns. AreNumbered (old.items.items ++ q ∷ []) ns) (sym numbers-set)
        (numbered-push old.items.items old.numbers.items q met.numbered zero-there));
    few = subst (λ n. suc n ≤ state_limit) (sym count) few;
    within = subst (λ n. IsWithin new.layout (suc n)) (sym count) (subst (λ l. IsWithin l (suc row)) (sym layout) within);
    narrow = subst (λ (l : Layout). l.stride ≤ 512) (sym layout) met.narrow;
    few_starts = subst (λ (l : Layout). l.starts ≤ 2 ^ 31) (sym layout) met.few_starts;
  }

  pub grown-push : Grows old new q
  grown-push = record {
    stays = subst (λ xs. Stays old.items.items xs) (sym items) (stays-push old.items.items q);
    added = subst (λ xs. IsAdded old.items.items q xs) (sym items) (added-push old.items.items q);
    layout = layout;
    states = ap length numbers ∙ length-set old.numbers.items place row;
  }

-- entries stay entries
pub entries-grow : (nfa : Nfa) (each : Bool) (old new : List ℕ) (q : ℕ) → IsAdded old q new → IsEntry nfa each q → AreEntries nfa each old
    → AreEntries nfa each new
entries-grow nfa each old new q added is are k r e =
    ⊎_elim (λ before. are k r before) (λ here. subst (IsEntry nfa each) (sym here) is) (added k r e)

pub numbered-distinct : (entries numbers : List ℕ) → AreNumbered entries numbers → AreDistinct entries
numbered-distinct entries numbers are j k q e f =
    let same : suc j ≡ suc k = some-is (sym (are.told j q e) ∙ are.told k q f) in omega arith

-- the entries with one more
pub one-more : (nfa : Nfa) (each : Bool) (entries numbers : List ℕ) (q n : ℕ) → AreNumbered entries numbers → ((k : ℕ) → slice_get entries k ≢ Some q)
    → AreEntries nfa each entries → IsEntry nfa each q → suc (length entries) ≡ n → HasEntries nfa each n
one-more nfa each entries numbers q n are new all is count = record {
  entries = entries ++ q ∷ [];
  count = longer entries q ∙ count;
  distinct = distinct;
  are = entries-grow nfa each entries (entries ++ q ∷ []) q (added-push entries q) is all;
}
  where
    distinct : AreDistinct (entries ++ q ∷ [])
    distinct j k r e f =
        ⊎_elim
        (λ old.
        ⊎_elim (λ too. numbered-distinct entries numbers are j k r old too)
        (λ last. absurd (new j (old ∙ ap Some last.1)))
        (get-appended entries q k r f))
        (λ here.
        ⊎_elim (λ old. absurd (new k (old ∙ ap Some here.1)))
        (λ too. here.0 ∙ sym too.0)
        (get-appended entries q k r f))
        (get-appended entries q j r e)

-- why the states were made in vain, where an entry got no row
pub no-room : (nfa : Nfa) (each : Bool) (e : Entries) (q : ℕ) (error : BuildError) → AreMet e → AreEntries nfa each e.items.items → IsEntry nfa each q
    → HasNoRoom e q error → IsMadeInVain nfa each e.layout error
no-room nfa each e q (UnsupportedLook look) met all is h = h.full
no-room nfa each e q (TooManyPatterns limit) met all is h = h.full
no-room nfa each e q (TooManyStates limit) met all is h =
    let rows = h.full.1 in
    (h.full.0, one-more nfa each e.items.items e.numbers.items q state_limit met.numbered h.new all is (omega arith))
no-room nfa each e q (ExceededSizeLimit limit size) met all is h = (
  h.full.0,
  record {
    entries = suc (length e.items.items);
    has_entries = one-more nfa each e.items.items e.numbers.items q (suc (length e.items.items)) met.numbered h.new all is refl;
    size_is = h.full.1;
    above = h.full.2;
  },
)
no-room nfa each e q (NotOnePass cause) met all is h = absurd h.full
no-room nfa each e q Memory met all is h = tt

-- the same where not even the row of the dead state has room
pub no-table : (nfa : Nfa) (each : Bool) (layout : Layout) (error : BuildError) → IsFull layout 1 error → IsMadeInVain nfa each layout error
no-table nfa each layout (UnsupportedLook look) h = h
no-table nfa each layout (TooManyPatterns limit) h = h
no-table nfa each layout (TooManyStates limit) h = let rows = h.1 in absurd (omega arith)
no-table nfa each layout (ExceededSizeLimit limit size) h = (
  h.0,
  record {
    entries = 0;
    has_entries = record { entries = []; count = refl; distinct = λ j k q e f. none-is-some e; are = λ k q e. none-is-some e };
    size_is = h.1;
    above = h.2;
  },
)
no-table nfa each layout (NotOnePass cause) h = absurd h
no-table nfa each layout Memory h = tt

pub same-of : (e : Entries) → AreOf e e
same-of e = record { stays = λ k q h. h; layout = refl; states = refl }

pub of-of : (a b c : Entries) → AreOf a b → AreOf b c → AreOf a c
of-of a b c f g = record {
  stays = λ k q h. g.stays k q (f.stays k q h);
  layout = g.layout ∙ f.layout;
  states = g.states ∙ f.states;
}

pub grows-of : (a b : Entries) (q : ℕ) → Grows a b q → AreOf a b
grows-of a b q g = record { stays = g.stays; layout = g.layout; states = g.states }

-- What is read of the numbers.

number-read : (numbers : List ℕ) (q place row : ℕ) → q < length numbers → place ≡ q → row ≡ get_or numbers place row → slice_get numbers q ≡ Some row
number-read numbers q place row lt is read =
    slice_get-get_or numbers q row lt ∙ ap (λ i. Some (get_or numbers i row)) (sym is) ∙ ap Some (sym read)

pub row-found : (entries numbers : List ℕ) (q place row : ℕ) → AreNumbered entries numbers → q < length numbers → place ≡ q → row ≡ get_or numbers place row
    → 0 < row → IsRowOf entries row q
row-found entries numbers q place row are lt is read some =
    let same : suc (row - 1) ≡ row = omega arith in
    record {
      before = row - 1;
      row_is = sym same;
      there = are.back (row - 1) q (number-read numbers q place row lt is read ∙ ap Some (sym same));
    }

pub row-small : (e : Entries) (row q : ℕ) → AreMet e → IsRowOf e.items.items row q → row < state_limit
row-small e row q met r =
    let is = r.row_is in
    let few = met.few in
    let within = get-within e.items.items r.before q r.there in
    omega arith

pub row-none : (numbers : List ℕ) (q place row : ℕ) → q < length numbers → place ≡ q → row ≡ get_or numbers place row → row ≤ 0 → slice_get numbers q ≡ Some 0
row-none numbers q place row lt is read none =
    let zero-row : row ≡ 0 = omega arith in number-read numbers q place row lt is read ∙ ap Some zero-row

-- each entry is a state that is there
pub met-inside : (e : Entries) (n : ℕ) → AreMet e → length e.numbers.items ≡ n → (k q : ℕ) → slice_get e.items.items k ≡ Some q → q < n
met-inside e n met len k q h = subst (λ m. q < m) len (get-within e.numbers.items q (suc k) (met.numbered.told k q h))

-- where a list was read
pub place-read : (xs : List ℕ) (place x : ℕ) → place < length xs → x ≡ get_or xs place x → slice_get xs place ≡ Some x
place-read xs place x lt read = slice_get-get_or xs place x lt ∙ ap Some (sym read)
