-- In the automaton, the states of a class do what the one state of the graph does.
use Rattle.std.proofs.Common.{◌≡◌, ℕ, ◌+◌, ◌≤◌, ◌<◌, ◌⊎◌, Bool, true, false, List, [], ◌∷◌, length, Some, None, slice_index, refl, sym, ◌∙◌, ap, inl, inr, arith, ⊎_elim}
use Rattle.std.specs.Prelude.{if◌then◌else◌, nat_lt, nat_le}
use Rattle.std.proofs.lemmas.Bool.Decides.{nat_tests}
use Rattle.std.proofs.lemmas.Bool.{cases_lt}
use Rattle.std.proofs.lemmas.Option.{none-some, same_Some}
use Rattle.std.proofs.lemmas.Str.{len_utf8_bounds}
use Rattle.std.specs.Char.{len_utf8}
use Rattle.rx_model.specs.Text.{is_member, char_at, scalar_ranges, byte_ranges, member_len, Class}
use Rattle.rx_model.specs.Runs.{Configuration, PriorityGraph, Passed, Sieve, sifted, sieved}
use Rattle.rx_model.specs.Machine.{graph_of, is_inside}
use Rattle.rx_model.specs.Refinement.{IsFresh, Reads, Fails}
use Rattle.rx_model.specs.Graph as graph
use Rattle.rx_model.proofs.lemmas.runs.RunLemmas.{by_test}
use Rattle.rx_model.proofs.lemmas.graphs.SieveLemmas.{sieved-bounded, sieved-rises}
use Rattle.rx_model.proofs.lemmas.meaning.CharLemmas.{member_len-some, member_len-none, byte_len-within, byte_len-past, by_option}
use Rattle.rx_nfa.specs.Ranges.{StaysBelow}
use Rattle.rx_nfa.specs.Row.{reading, IsReader}
use Rattle.rx_nfa.specs.Trie.{IsClass, IsByteClass}
use Rattle.rx_nfa.specs.Reading.{ReadsByte, IsClean, found_after, ReadsClass}
use Rattle.rx_nfa.specs.Automaton.{at, read_byte, state_step, state_accepts, state_writes, state_at, byte_of, Surroundings, forwards, machine, automaton, automaton_over}
use Rattle.rx_nfa.specs.declared.state.Transition.{Transition}
use Rattle.rx_nfa.specs.declared.state.State.{State}
use Rattle.rx_nfa.specs.declared.state.State.TheVariants.{ByteRange, Sparse, Look, Union, Capture, Fail, Match}
use Rattle.rx_nfa.proofs.lemmas.runs.AutomatonLemmas.{automaton-bounded, automaton-rises}
use Rattle.rx_nfa.proofs.lemmas.classes.RowLemmas.{same_transitions, no_transitions}
use Rattle.rx_nfa.proofs.lemmas.classes.ClassLemmas.{IsClass-map, IsByteClass-map}
use Rattle.rx_nfa.proofs.lemmas.classes.ReadLemmas.{class-found, byte_class-found}

pub reads-step : (around : Surroundings) (end : ℕ) (s : State) (ts : List Transition) → reading s ≡ Some ts → (i : ℕ)
    → state_step around end s i ≡ read_byte around.byte end ts i
reads-step around end (ByteRange low high next) ts e i =
    ap (λ xs. read_byte around.byte end xs i) (same_transitions (record { start = low; end = high; next = next } ∷ []) ts e)
reads-step around end (Sparse transitions) ts e i = ap (λ xs. read_byte around.byte end xs i) (same_transitions transitions ts e)
reads-step around end (Look look next) ts e i = absurd (no_transitions ts e)
reads-step around end (Union alternates) ts e i = absurd (no_transitions ts e)
reads-step around end (Capture next pattern slot) ts e i = absurd (no_transitions ts e)
reads-step around end Fail ts e i = nowhere (nat_lt i end) ∙ ap (λ xs. read_byte around.byte end xs i) (same_transitions [] ts e)
  where
    nowhere : (b : Bool) → ◌≡◌ {A = List Configuration} [] (if b then [] else [])
    nowhere true = refl
    nowhere false = refl
reads-step around end (Match pattern) ts e i = absurd (no_transitions ts e)

pub reads-accepts : (s : State) (ts : List Transition) → reading s ≡ Some ts → state_accepts s ≡ None
reads-accepts (ByteRange low high next) ts e = refl
reads-accepts (Sparse transitions) ts e = refl
reads-accepts (Look look next) ts e = refl
reads-accepts (Union alternates) ts e = refl
reads-accepts (Capture next pattern slot) ts e = refl
reads-accepts Fail ts e = refl
reads-accepts (Match pattern) ts e = absurd (no_transitions ts e)

pub reads-writes : (s : State) (ts : List Transition) → reading s ≡ Some ts → state_writes s ≡ None
reads-writes (ByteRange low high next) ts e = refl
reads-writes (Sparse transitions) ts e = refl
reads-writes (Look look next) ts e = refl
reads-writes (Union alternates) ts e = refl
reads-writes (Capture next pattern slot) ts e = absurd (no_transitions ts e)
reads-writes Fail ts e = refl
reads-writes (Match pattern) ts e = refl

-- what stands at a reader
pub IsReader-reading : (base : ℕ) (states : List State) (q : ℕ) (ts : List Transition) → IsReader base states q ts → reading (state_at states q) ≡ Some ts
IsReader-reading base states q ts r = ap reading r.stands.is ∙ r.reads

-- a state that reads a byte does so in the automaton, and accepts nothing
pub IsReader-reads : (ok : Sieve) (around : Surroundings) (states : List State) (end base q : ℕ) (ts : List Transition) → IsReader base states q ts
    → ReadsByte (sieved ok (automaton_over around states end)) around.byte end q ts
unfolding automaton_over graph_of
IsReader-reads ok around states end base q ts r =
    let reads = IsReader-reading base states q ts r in
    let none : (i : ℕ) → (automaton_over around states end).accepted (at q i) ≡ None =
    λ i. by_test (is_inside (machine around states end) end (at q i)) (λ e. rw e (reads-accepts (state_at states q) ts reads)) (λ e. rw e refl) in
    record {
      accepted = λ i. ap (sifted ok i) (none i);
      written = λ i. reads-writes (state_at states q) ts reads;
      successors = λ i.
          by_test (is_inside (machine around states end) end (at q i))
          (λ e. rw e (reads-step around end (state_at states q) ts reads i))
          (λ e. let inside = r.stands.inside in let past : nat_lt i end ≡ false = grind (arith, nat_tests) in rw (e, past) refl);
    }

-- the block that `compile_class` appends reads the class in the automaton
pub IsClass-reads : (ok : Sieve) (terminator : ℕ) (states : List State) (text : List ℕ) (end base next q : ℕ) (rs : List (ℕ × ℕ)) → end ≤ length text
    → IsClass (IsReader base states) next rs q → ReadsClass (sieved ok (automaton terminator states text end)) text end next q (scalar_ranges rs)
IsClass-reads ok terminator states text end base next q rs inside k =
    class-found text end inside (sieved ok (automaton terminator states text end))
    (sieved-bounded ok (automaton terminator states text end) (automaton-bounded (forwards terminator text) states end))
    (sieved-rises ok (automaton terminator states text end) (automaton-rises (forwards terminator text) states end)) next rs q
    (IsClass-map (IsReader base states) (ReadsByte (sieved ok (automaton terminator states text end)) (byte_of text) end) next
    (IsReader-reads ok (forwards terminator text) states end base) rs q k)

-- a member takes a byte at least
pub member_len-scalar : (text : List ℕ) (rs : List (ℕ × ℕ)) (i n : ℕ) → member_len text (scalar_ranges rs) i ≡ Some n → 0 < n
member_len-scalar text rs i n e =
    by_option (char_at text i)
    (λ none. absurd (none-some n (sym (member_len-none text rs i none) ∙ e)))
    (λ c some. takes c (is_member rs c) (sym (member_len-some text rs i c some) ∙ e))
  where
    takes : (c : ℕ) (b : Bool) → (if b then Some (len_utf8 c) else None) ≡ Some n → 0 < n
    takes c true h = let is = same_Some _ _ h in let long = len_utf8_bounds c in omega arith
    takes c false h = absurd (none-some n h)

-- Where the graph g has the state `set`, and m reads the class, from the image of the state to the image of its next,
-- the one reads what the other does: what a refinement asks of the state.
pub set-refined : (g m : PriorityGraph) (f : ℕ → ℕ) (t : ℕ) (text : List ℕ) (end s next i : ℕ) (members : Class)
    → ((n : ℕ) → member_len text members i ≡ Some n → 0 < n)
    → g.written (at s i) ≡ None → g.successors (at s i) ≡ graph.state_step t text end (graph.set members next) i
    → ((ok : Sieve) → ReadsClass (sieved ok m) text end (f next) (f s) members) → Reads g m f (at s i) ⊎ Fails g m f (at s i)
set-refined g m f t text end s next i members positive unwritten goes reads =
    by_option (member_len text members i)
    (λ none. inr (record {
      successors = goes ∙ rw none refl;
      fails = λ ok p fresh. reads ok p i fresh.new (ahead p fresh) ∙ ap (found_after (sieved ok m) p end (f next) i) none;
    }))
    (λ n some. by_test (nat_le (i + n) end)
    (λ fits. inl (record {
      target = at next (i + n);
      written = unwritten;
      successors = goes ∙ rw (some, fits) refl;
      later = (let long = positive n some in omega arith);
      reads = λ ok p fresh. reads ok p i fresh.new (ahead p fresh) ∙ ap (found_after (sieved ok m) p end (f next) i) some ∙ rw fits refl;
    }))
    (λ short. inr (record {
      successors = goes ∙ rw (some, short) refl;
      fails = λ ok p fresh. reads ok p i fresh.new (ahead p fresh) ∙ ap (found_after (sieved ok m) p end (f next) i) some ∙ rw short refl;
    })))
  where
    ahead : (p : Passed) → IsFresh p (at (f s) i) → IsClean p (i + 1)
    ahead p fresh c le = fresh.ahead c (omega arith)

-- and so does a byte
pub member_len-byte : (text : List ℕ) (rs : List (ℕ × ℕ)) (i n : ℕ) → member_len text (byte_ranges rs) i ≡ Some n → 0 < n
member_len-byte text rs i n e =
    ⊎_elim
    (λ lt. takes (is_member rs (slice_index text i)) (sym (byte_len-within text rs i lt) ∙ e))
    (λ past. absurd (none-some n (sym (byte_len-past text rs i past) ∙ e)))
    (cases_lt i (length text))
  where
    takes : (b : Bool) → (if b then Some 1 else None) ≡ Some n → 0 < n
    takes true h = let is = same_Some _ _ h in omega arith
    takes false h = absurd (none-some n h)

pub IsByteClass-reads : (ok : Sieve) (terminator : ℕ) (states : List State) (text : List ℕ) (end base next q : ℕ) (rs : List (ℕ × ℕ)) → end ≤ length text
    → StaysBelow 255 rs
    → IsByteClass (IsReader base states) next rs q → ReadsClass (sieved ok (automaton terminator states text end)) text end next q (byte_ranges rs)
IsByteClass-reads ok terminator states text end base next q rs inside below k =
    byte_class-found text end inside (sieved ok (automaton terminator states text end))
    (sieved-bounded ok (automaton terminator states text end) (automaton-bounded (forwards terminator text) states end))
    (sieved-rises ok (automaton terminator states text end) (automaton-rises (forwards terminator text) states end)) next rs below q
    (IsByteClass-map (IsReader base states) (ReadsByte (sieved ok (automaton terminator states text end)) (byte_of text) end) next
    (IsReader-reads ok (forwards terminator text) states end base) rs q k)
