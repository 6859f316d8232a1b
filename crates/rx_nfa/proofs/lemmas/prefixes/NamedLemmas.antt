-- What is noted of where states are come to from.
use Rattle.std.proofs.Common.{◌≡◌, ◌≢◌, ℕ, ◌+◌, ◌≤◌, ◌<◌, List, length, refl, ◌∙◌, ap, subst, ⊎_elim, arith, get_or, get_or-set_other, get_or-set_same}
use Rattle.std.specs.Prelude.{All, slice_set}
use Rattle.std.proofs.Math.ListN.{length-set}
use Rattle.std.proofs.lemmas.Bool.{cases_eq, cases_lt}
use Rattle.std.proofs.lemmas.List.Elements.{All-weaker}
use Rattle.rx_nfa.specs.Automaton.{state_at}
use Rattle.rx_nfa.specs.Named.{first_in, last_in, Spans, Widens}
use Rattle.rx_nfa.specs.Prefixes.{LeadsInto}
use Rattle.rx_nfa.specs.declared.prefixes.named.Named.{Named}
use Rattle.rx_nfa.specs.declared.state.State.{State}
use Rattle.rx_nfa.proofs.lemmas.prefixes.SharingLemmas.{LeadsInto-map}

pub Widens-same : (named : List Named) → Widens named named
Widens-same named = record { long = refl; first = λ q. omega arith; last = λ q. omega arith }

pub Widens-trans : (a b c : List Named) → Widens a b → Widens b c → Widens a c
Widens-trans a b c one other = record {
  long = other.long ∙ one.long;
  first = λ q. (let x = one.first q in let y = other.first q in omega arith);
  last = λ q. (let x = one.last q in let y = other.last q in omega arith);
}

-- what spanned a number still does
pub Spans-wider : (old new : List Named) (by q : ℕ) → Widens old new → Spans old by q → Spans new by q
Spans-wider old new by q w s =
    let x = w.first q in
    let y = w.last q in
    let lo = s.0 in
    let hi = s.1 in
    (omega arith, omega arith)

pub all-wider : (old new : List Named) (by : ℕ) (qs : List ℕ) → Widens old new → All (Spans old by) qs → All (Spans new by) qs
all-wider old new by qs w h = All-weaker (Spans old by) (Spans new by) (λ q s. Spans-wider old new by q w s) qs h

pub leads-wider : (old new : List Named) (by : ℕ) (s : State) → Widens old new → LeadsInto (Spans old by) s → LeadsInto (Spans new by) s
leads-wider old new by s w h = LeadsInto-map (Spans old by) (Spans new by) (λ q k. Spans-wider old new by q w k) s h

-- one state more was noted
pub named-next : (states : List State) (old new : List Named) (by : ℕ) → Widens old new
    → ((r : ℕ) → r < by → LeadsInto (Spans old r) (state_at states r)) → LeadsInto (Spans new by) (state_at states by)
    → (r : ℕ) → r < by + 1 → LeadsInto (Spans new r) (state_at states r)
named-next states old new by w before here r lt =
    ⊎_elim
    (λ less. leads-wider old new r (state_at states r) w (before r less))
    (λ above. let same : by ≡ r = omega arith in subst (λ k. LeadsInto (Spans new k) (state_at states k)) same here)
    (cases_lt r by)

-- one entry is widened
module _ (old : List Named) (q first last : ℕ) (inside : q < length old) (lower : first ≤ first_in old q) (higher : last_in old q ≤ last) where
  here : get_or (slice_set old q (record { first = first; last = last })) q (record { first = 0; last = 0 }) ≡ record { first = first; last = last }
  here = get_or-set_same old q (record { first = first; last = last }) (record { first = 0; last = 0 }) inside

  other : (k : ℕ) → k ≢ q
      → get_or (slice_set old q (record { first = first; last = last })) k (record { first = 0; last = 0 }) ≡ get_or old k (record { first = 0; last = 0 })
  other k differs = get_or-set_other old q k (record { first = first; last = last }) (record { first = 0; last = 0 }) differs

  pub noted-widens : Widens old (slice_set old q (record { first = first; last = last }))
  noted-widens = record {
    long = length-set old q (record { first = first; last = last });
    first = λ k. ⊎_elim
        (λ same. let e = ap (λ (n : Named). n.first)
        (ap (λ j. get_or (slice_set old q (record { first = first; last = last })) j (record { first = 0; last = 0 })) same ∙ here) in
        let f = ap (first_in old) same in omega arith)
        (λ differs. let e = ap (λ (n : Named). n.first) (other k differs) in omega arith)
        (cases_eq k q);
    last = λ k. ⊎_elim
        (λ same. let e = ap (λ (n : Named). n.last)
        (ap (λ j. get_or (slice_set old q (record { first = first; last = last })) j (record { first = 0; last = 0 })) same ∙ here) in
        let f = ap (last_in old) same in omega arith)
        (λ differs. let e = ap (λ (n : Named). n.last) (other k differs) in omega arith)
        (cases_eq k q);
  }

  pub noted-spans : (by : ℕ) → first ≤ by → by ≤ last → Spans (slice_set old q (record { first = first; last = last })) by q
  noted-spans by lo hi =
      let e = ap (λ (n : Named). n.first) here in
      let f = ap (λ (n : Named). n.last) here in
      (omega arith, omega arith)
