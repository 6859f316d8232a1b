-- What is made of a cell, and how far an error of a part is one of the whole.
use Rattle.std.proofs.Common.{◌≡◌, ℕ, ◌<◌, length, refl, sym, ◌∙◌, ap, subst}
use Rattle.std.specs.Prelude.{Bool, true, false, Option, Result, Ok, slice_index}
use Rattle.std.proofs.lemmas.Result.{IfOk-weaker}
use Rattle.rx_nfa.specs.Ordered.{AreBelow}
use Rattle.rx_determinize.specs.Key.{Key, is_dead, start_key}
use Rattle.rx_dfa.specs.Automaton.{Dfa, next_key, last_key}
use Rattle.rx_dfa.specs.Alphabet.{reads}
use Rattle.rx_dfa.specs.States.{IsRead, IsState}
use Rattle.rx_dfa.specs.Table.{quit, IsCell}
use Rattle.rx_dfa.specs.Found.{IsNumber, AreFound, IsMade}
use Rattle.rx_dfa.specs.Job.{IsServed}
use Rattle.rx_dfa.specs.Work.{IsStart, IsContext}
use Rattle.rx_dfa.specs.declared.dense.error.BuildError.{BuildError}
use Rattle.rx_dfa.specs.declared.dense.found.Found.{Found}
use Rattle.rx_dfa.proofs.lemmas.StateLemmas.{reads-readable, unread-quits, quit-unreadable}
use Rattle.rx_dfa.proofs.lemmas.ReachLemmas.{next-state, last-state, first-state}

module _ (d : Dfa) (asks : Bool) (served : IsServed d asks) (k : Key) (class : ℕ) (inside : class < length d.bytes) where
  abbrev byte : ℕ
  byte = slice_index d.bytes class

  pub cell-quits : (f : Found) → AreFound d f → reads asks byte ≡ false → IsMade {A = ℕ} d f f (IsCell d (IsNumber f) byte k) (Ok quit)
  cell-quits f are unread = record {
    found = are;
    ok = record {
      reads = λ readable. absurd (quit-unreadable d.nfa byte (unread-quits d asks served byte unread) readable);
      quits = λ quits. refl;
    };
    err = tt;
  }

  -- the key after the byte is that of a state, if it is not dead
  pub next-is : (next : Key) → next ≡ next_key d k byte → IsState d k → reads asks byte ≡ true → AreBelow (length d.nfa.states) next.threads
      → is_dead next ≡ false → IsState d next
  next-is next same state read below live =
      subst (IsState d) (sym same)
      (next-state d served.sound k class inside state (reads-readable d asks served byte read)
      (subst (λ (x : Key). AreBelow (length d.nfa.states) x.threads) same below) (sym (ap is_dead same) ∙ live))

  pub cell-made : (old new : Found) (result : Result ℕ BuildError) (next : Key) → next ≡ next_key d k byte → reads asks byte ≡ true
      → IsMade {A = ℕ} d old new (λ n. IsNumber new n next) result → IsMade {A = ℕ} d old new (IsCell d (IsNumber new) byte k) result
  cell-made old new result next same read m = record {
    found = m.found;
    ok = IfOk-weaker result (λ n. IsNumber new n next) (IsCell d (IsNumber new) byte k)
        (λ n is. record {
          reads = λ readable. subst (IsNumber new n) same is;
          quits = λ quits. absurd (quit-unreadable d.nfa byte quits (reads-readable d asks served byte read));
        }) m.ok;
    err = m.err;
  }

-- the same of the end of input
pub last-is : (d : Dfa) (k next : Key) → next ≡ last_key d k → IsState d k → AreBelow (length d.nfa.states) next.threads → is_dead next ≡ false → IsState d next
last-is d k next same state below live =
    subst (IsState d) (sym same)
    (last-state d k state (subst (λ (x : Key). AreBelow (length d.nfa.states) x.threads) same below) (sym (ap is_dead same) ∙ live))

pub end-made : (d : Dfa) (k : Key) (old new : Found) (result : Result ℕ BuildError) (next : Key) → next ≡ last_key d k
    → IsMade {A = ℕ} d old new (λ n. IsNumber new n next) result → IsMade {A = ℕ} d old new (λ n. IsNumber new n (last_key d k)) result
end-made d k old new result next same m = record {
  found = m.found;
  ok = IfOk-weaker result (λ n. IsNumber new n next) (λ n. IsNumber new n (last_key d k)) (λ n is. subst (IsNumber new n) same is) m.ok;
  err = m.err;
}

-- and of a start
pub first-is : (d : Dfa) (start : ℕ) (loops : Bool) (before : Option ℕ) (next : Key) → next ≡ start_key d.kind d.nfa.states start loops before
    → IsStart d start loops → IsContext d before → IsRead d.nfa before → AreBelow (length d.nfa.states) next.threads → is_dead next ≡ false → IsState d next
first-is d start loops before next same begins context read below live =
    subst (IsState d) (sym same)
    (first-state d start loops before begins context read (subst (λ (x : Key). AreBelow (length d.nfa.states) x.threads) same below)
    (sym (ap is_dead same) ∙ live))

pub first-made : (d : Dfa) (start : ℕ) (loops : Bool) (before : Option ℕ) (old new : Found) (result : Result ℕ BuildError) (next : Key)
    → next ≡ start_key d.kind d.nfa.states start loops before → IsMade {A = ℕ} d old new (λ n. IsNumber new n next) result
    → IsMade {A = ℕ} d old new (λ n. IsRead d.nfa before → IsNumber new n (start_key d.kind d.nfa.states start loops before)) result
first-made d start loops before old new result next same m = record {
  found = m.found;
  ok = IfOk-weaker result (λ n. IsNumber new n next) (λ n. IsRead d.nfa before → IsNumber new n (start_key d.kind d.nfa.states start loops before))
      (λ n is read. subst (IsNumber new n) same is) m.ok;
  err = m.err;
}
