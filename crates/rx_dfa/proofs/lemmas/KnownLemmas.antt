-- The states that are known by what leads to them.
use Rattle.std.proofs.Common.{◌≡◌, ℕ, ◌<◌, List, [], ◌∷◌, ◌++◌, length, inl, inr, sym, ◌∙◌, ap, subst, arith}
use Rattle.std.specs.Prelude.{Bool, true, Result, Ok, Err, OnOk, slice_get, slice_index}
use Rattle.std.proofs.lemmas.List.{length-map, get_or_append_left, get_or_push}
use Rattle.std.proofs.lemmas.Option.{slice_get_within}
use Rattle.rx_determinize.specs.Key.{Key}
use Rattle.rx_dfa.specs.Automaton.{Dfa, next_key}
use Rattle.rx_dfa.specs.Alphabet.{reads}
use Rattle.rx_dfa.specs.StateKey.{key_of}
use Rattle.rx_dfa.specs.Table.{IsCell}
use Rattle.rx_dfa.specs.Found.{keys_in, IsNumber, AreFound, Grows, IsMade}
use Rattle.rx_dfa.specs.Job.{IsServed}
use Rattle.rx_dfa.specs.Spread.{arrived_key, AreKnown}
use Rattle.rx_dfa.specs.declared.dense.found.Found.{Found}
use Rattle.rx_dfa.specs.declared.dense.known.Known.{Known}
use Rattle.rx_dfa.proofs.lemmas.RowLemmas.{number-grows}
use Rattle.rx_dfa.proofs.lemmas.ChainLemmas.{got-push}
use Rattle.rx_dfa.proofs.lemmas.CellLemmas.{cell-made}

-- they stay known while more states are found
pub known-grows : (d : Dfa) (old new : Found) (k : Known) → Grows old new → AreKnown d old k → AreKnown d new k
known-grows d old new k grows are = record { each = λ row key is. number-grows old new grows _ _ (are.each row key is) }

pub on-ok : {A E : Type 0} (result : Result A E) (P : Type 0) → P → OnOk result P
on-ok (Ok x) P p = p
on-ok (Err e) P p = tt

-- one more
pub known-push : (d : Dfa) (f : Found) (old new : Known) (k : Key) (number : ℕ) → length old.keys.keys ≡ length old.states.items
    → keys_in new.keys.keys ≡ keys_in old.keys.keys ++ k ∷ [] → new.states.items ≡ old.states.items ++ number ∷ []
    → AreKnown d f old → IsNumber f number (arrived_key d.kind d.nfa.states d.nfa.start_anchored k) → AreKnown d f new
known-push d f old new k number same keys states are is = record {
  each = λ row key there.
      elim (got-push (keys_in old.keys.keys) k key row (ap (λ (ks : List Key). slice_get ks row) (sym keys) ∙ there)) [
        | inl before ↦
            let lt = slice_get_within (keys_in old.keys.keys) row key before in
            let mapped = length-map old.keys.keys key_of in
            subst (λ (n : ℕ). IsNumber f n (arrived_key d.kind d.nfa.states d.nfa.start_anchored key))
            (sym (ap (λ (xs : List ℕ). slice_index xs row) states ∙ get_or_append_left old.states.items (number ∷ []) 0 row (omega arith)))
            (are.each row key before)
        | inr (at, own) ↦
            let mapped = length-map old.keys.keys key_of in
            subst (λ (n : ℕ). IsNumber f n (arrived_key d.kind d.nfa.states d.nfa.start_anchored key))
            (sym (ap (λ (xs : List ℕ). slice_index xs row) states ∙ get_or_push old.states.items number 0 row (omega arith)))
            (subst (λ (x : Key). IsNumber f number (arrived_key d.kind d.nfa.states d.nfa.start_anchored x)) own is)
      ];
}

-- the cell of a state that is known
pub cell-known : (d : Dfa) (asks : Bool) (served : IsServed d asks) (k : Key) (class : ℕ) (inside : class < length d.bytes) (f : Found) (number : ℕ) (next : Key)
    → next ≡ next_key d k (slice_index d.bytes class) → reads asks (slice_index d.bytes class) ≡ true → AreFound d f → IsNumber f number next
    → IsMade {A = ℕ} d f f (IsCell d (IsNumber f) (slice_index d.bytes class) k) (Ok number)
cell-known d asks served k class inside f number next same read are is =
    cell-made d asks served k class inside f f (Ok number) next same read (record { found = are; ok = is; err = tt })
