-- The loop of a search, place by place.
use Rattle.std.proofs.Common.{◌≡◌, ℕ, zero, suc, ⊎_elim, ◌+◌, ◌-◌, ◌≤◌, ◌<◌, List, [], ◌∷◌, refl, sym, ◌∙◌, ap, subst, inl, inr, arith, true≢false}
use Rattle.std.specs.Prelude.{Bool, true, false, ◌&&◌, not, Option, Some, is_some, nat_lt}
use Rattle.std.proofs.lemmas.Bool.Decides.{nat_tests}
use Rattle.std.proofs.lemmas.Bool.{cases_lt}
use Rattle.rx_model.proofs.lemmas.runs.RunLemmas.{by_test}
use Rattle.rx_nfa.specs.Automaton.{Surroundings, byte_within}
use Rattle.rx_nfa.specs.Ordered.{HoldsAt}
use Rattle.rx_determinize.specs.Key.{Key, Sees, is_empty, is_dead, step_key, end_key}
use Rattle.rx_determinize.specs.Span.{key_at}
use Rattle.rx_determinize.specs.Permitted.{Progress, fresh, met_within, run_within}
use Rattle.rx_determinize.proofs.lemmas.DeadLemmas.{no-more-within}
use Rattle.rx_determinize.proofs.lemmas.SpanLemmas.{byte-here}
use Rattle.rx_determinize.proofs.lemmas.SeenLemmas.{key_at-add, seen-at, seen-all, seen-until}
use Rattle.rx_dfa.specs.Automaton.{Dfa, sight_of, next_key, IsReadable}
use Rattle.rx_dfa.specs.Course.{progress_of, key_of, end_of, IsMetAlong, along, ArePlain}

-- The parts of a dead key.

is_empty-nil : (xs : List ℕ) → is_empty xs ≡ true → xs ≡ []
is_empty-nil [] h = refl
is_empty-nil (x ∷ xs) h = absurd (true≢false (sym h))

and-left : (a b : Bool) → (a && b) ≡ true → a ≡ true
and-left true b h = refl
and-left false b h = absurd (true≢false (sym h))

and-right : (a b : Bool) → (a && b) ≡ true → b ≡ true
and-right true b h = h
and-right false b h = absurd (true≢false (sym h))

not-true : (b : Bool) → not b ≡ true → b ≡ false
not-true true h = absurd (true≢false (sym h))
not-true false h = refl

pub dead-threads : (k : Key) → is_dead k ≡ true → k.threads ≡ []
dead-threads k dead =
    is_empty-nil k.threads (and-left (is_empty k.threads) (not k.loops) (and-left (is_empty k.threads && not k.loops) (is_empty k.matches) dead))

pub dead-loops : (k : Key) → is_dead k ≡ true → k.loops ≡ false
dead-loops k dead = not-true k.loops (and-right (is_empty k.threads) (not k.loops) (and-left (is_empty k.threads && not k.loops) (is_empty k.matches) dead))

pub dead-matches : (k : Key) → is_dead k ≡ true → k.matches ≡ []
dead-matches k dead = is_empty-nil k.matches (and-right (is_empty k.threads && not k.loops) (is_empty k.matches) dead)

-- What a step over a byte tells is what the end tells where that byte stands behind it.
pub step-last : (d : Dfa) (k : Key) (byte : ℕ) → (next_key d k byte).matches ≡ (end_of d k (Some byte)).matches
unfolding step_key end_key
step-last d k byte = refl

-- What a search keeps, where it began at `start` with the key k and comes to `at`: `beside j` is the last byte before place j.
pub record Going {F C : Type 0} (holds : F → C → ℕ → Key → Type 0) (a : F) (cache : C) (state : ℕ) (d : Dfa) (around : Surroundings) (may : ℕ → Bool)
    (beside : ℕ → Option ℕ) (size start : ℕ) (k : Key) (at : ℕ) (r : Progress) : Type 0 where
  pub held : holds a cache state (key_of d around (at - start) start k)
  pub same : (e : ℕ) → at ≤ e → progress_of d around may size (e - start) start k fresh ≡ progress_of d around may size (e - at) at
      (key_of d around (at - start) start k) r
  pub readable : (j : ℕ) → start ≤ j → j ≤ at → IsReadable d.nfa (beside j)
  pub alive : is_dead (key_of d around (at - start) start k) ≡ false

-- no state is held
abbrev pub nothing_held : {F C : Type 0} → F → C → ℕ → Key → Type 0
nothing_held a cache state key = Unit {0}

-- What is plain of more bytes is so of fewer.
pub plain-fewer : (d : Dfa) (byte : ℕ → ℕ) (k : Key) (n more : ℕ) → n ≤ more → ArePlain d byte k more → ArePlain d byte k n
plain-fewer d byte k n more le p = record {
  alive = λ i lt. p.alive i (omega arith);
  no_match = λ i lt. p.no_match i (omega arith);
  readable = λ i lt. p.readable i (omega arith);
}

pub plain-none : (d : Dfa) (byte : ℕ → ℕ) (k : Key) → ArePlain d byte k 0
plain-none d byte k = record { alive = λ i lt. absurd (omega arith); no_match = λ i lt. absurd (omega arith); readable = λ i lt. absurd (omega arith) }

pub plain-more : (d : Dfa) (byte : ℕ → ℕ) (k : Key) (n : ℕ) → ArePlain d byte k n → is_dead (along d byte (suc n) k) ≡ false
    → (along d byte (suc n) k).matches ≡ [] → IsReadable d.nfa (Some (byte n)) → ArePlain d byte k (suc n)
plain-more d byte k n p alive none readable = record {
  alive = λ i lt. ⊎_elim (λ below. p.alive i below)
      (λ le. let same : n ≡ i = omega arith in subst (λ (j : ℕ). is_dead (along d byte (suc j) k) ≡ false) same alive) (cases_lt i n);
  no_match = λ i lt. ⊎_elim (λ below. p.no_match i below)
      (λ le. let same : n ≡ i = omega arith in subst (λ (j : ℕ). (along d byte (suc j) k).matches ≡ []) same none) (cases_lt i n);
  readable = λ i lt. ⊎_elim (λ below. p.readable i below)
      (λ le. let same : n ≡ i = omega arith in subst (λ (j : ℕ). IsReadable d.nfa (Some (byte j))) same readable) (cases_lt i n);
}

module _ (d : Dfa) (around : Surroundings) (may : ℕ → Bool) (beside : ℕ → Option ℕ) (size end start : ℕ) (short : end ≤ size) (k : Key) where
  abbrev key : (at : ℕ) → Key
  key at = key_of d around (at - start) start k

  abbrev progress : (n i : ℕ) → Key → Progress → Progress
  progress n i x r = progress_of d around may size n i x r

  -- the sight tells of the places up to e, where the bytes beside them are readable
  abbrev Tells : Type 0
  Tells = (e : ℕ) → start ≤ e → e ≤ end → ((j : ℕ) → start ≤ j → j ≤ e + 1 → IsReadable d.nfa (beside j))
      → Sees (sight_of d) around size d.nfa.states k.before e start

  pub first-key : key start ≡ k
  unfolding key_at
  first-key = let none : start - start ≡ 0 = omega arith in ap (λ n. key_of d around n start k) none

  pub next-key : (at : ℕ) → start ≤ at → key (at + 1) ≡ next_key d (key at) (around.byte at)
  unfolding key_at
  next-key at le =
      let count : at + 1 - start ≡ (at - start) + 1 = omega arith in
      let place : start + (at - start) ≡ at = omega arith in
      ap (λ n. key_of d around n start k) count
      ∙ key_at-add d.kind around size d.nfa.states d.nfa.start_anchored (sight_of d) (at - start) 1 start k
      ∙ ap (λ p. next_key d (key at) (around.byte p)) place

  step-progress : (e at : ℕ) → at < e → (x : Key) (r : Progress)
      → progress (e - at) at x r ≡ progress (e - (at + 1)) (at + 1) (next_key d x (around.byte at))
      (met_within may (next_key d x (around.byte at)).matches at r)
  unfolding run_within
  step-progress e at lt x r = let count : e - at ≡ suc (e - (at + 1)) = omega arith in ap (λ n. progress n at x r) count

  same-next : (at : ℕ) (r r' : Progress) → start ≤ at → ((e : ℕ) → at ≤ e → progress (e - start) start k fresh ≡ progress (e - at) at (key at) r)
      → r' ≡ met_within may (next_key d (key at) (around.byte at)).matches at r
      → (e : ℕ) → at + 1 ≤ e → progress (e - start) start k fresh ≡ progress (e - (at + 1)) (at + 1) (key (at + 1)) r'
  same-next at r r' le same is e high =
      same e (omega arith)
      ∙ step-progress e at (omega arith) (key at) r
      ∙ (λ j. progress (e - (at + 1)) (at + 1) (sym (next-key at le) j) (sym is j))

  -- what is readable so far, and the byte here
  pub readable-next : (at : ℕ) → ((j : ℕ) → start ≤ j → j ≤ at → IsReadable d.nfa (beside j)) → IsReadable d.nfa (beside (at + 1))
      → (j : ℕ) → start ≤ j → j ≤ at + 1 → IsReadable d.nfa (beside j)
  readable-next at before here j low high =
      by_test (nat_lt at j)
      (λ e.
      let same : at + 1 ≡ j = grind (arith, nat_tests) in
      subst (λ i. IsReadable d.nfa (beside i)) same here)
      (λ e. before j low (grind (arith, nat_tests)))

  module _ {F C : Type 0} (holds : F → C → ℕ → Key → Type 0) (a : F) where
    -- at the first place
    pub going-start : (cache : C) (state : ℕ) → holds a cache state k → IsReadable d.nfa (beside start) → is_dead k ≡ false
        → Going holds a cache state d around may beside size start k start fresh
    going-start cache state held readable alive = record {
      held = subst (holds a cache state) (sym first-key) held;
      same = λ e le. ap (λ x. progress (e - start) start x fresh) (sym first-key);
      readable = λ j low high. let same : start ≡ j = omega arith in subst (λ i. IsReadable d.nfa (beside i)) same readable;
      alive = ap is_dead first-key ∙ alive;
    }

    -- on to the next place
    pub going-next : (cache new : C) (state next at : ℕ) (r r' : Progress) (byte : ℕ) → start ≤ at → byte ≡ around.byte at
        → Going holds a cache state d around may beside size start k at r
        → holds a new next (next_key d (key at) byte) → IsReadable d.nfa (beside (at + 1)) → is_dead (next_key d (key at) byte) ≡ false
        → r' ≡ met_within may (next_key d (key at) byte).matches at r
        → Going holds a new next d around may beside size start k (at + 1) r'
    going-next cache new state next at r r' byte low byte_is going held readable alive is =
        let moved : next_key d (key at) byte ≡ key (at + 1) = ap (λ b. next_key d (key at) b) byte_is ∙ sym (next-key at low) in
        record {
          held = subst (holds a new next) moved held;
          same = same-next at r r' low going.same (is ∙ ap (λ b. met_within may (next_key d (key at) b).matches at r) byte_is);
          readable = readable-next at going.readable readable;
          alive = ap is_dead (sym moved) ∙ alive;
        }

    -- Where the next key is dead, all is met.
    pub met-dead : Tells → (cache : C) (state at : ℕ) (r r' : Progress) (byte : ℕ) (earliest : Bool) → start ≤ at → at < end → byte ≡ around.byte at
        → Going holds a cache state d around may beside size start k at r
        → IsReadable d.nfa (beside (at + 1)) → is_dead (next_key d (key at) byte) ≡ true
        → r' ≡ met_within may (next_key d (key at) byte).matches at r
        → IsMetAlong d around may size end start k earliest r'
    met-dead tells cache state at r r' byte earliest low lt byte_is going readable dead is =
        let moved : next_key d (key at) byte ≡ key (at + 1) = ap (λ b. next_key d (key at) b) byte_is ∙ sym (next-key at low) in
        let dead_there : is_dead (key (at + 1)) ≡ true = ap is_dead (sym moved) ∙ dead in
        let sees = tells at low (omega arith) (readable-next at going.readable readable) in
        record {
          stop = end;
          low = omega arith;
          high = omega arith;
          is = sym (same-next at r r' low going.same (is ∙ ap (λ b. met_within may (next_key d (key at) b).matches at r) byte_is) end (omega arith)
              ∙ no-more-within d.kind d.nfa.states d.nfa.start_anchored (sight_of d) around may size (end - (at + 1)) (at + 1) (key (at + 1))
              (dead-threads (key (at + 1)) dead_there) (dead-loops (key (at + 1)) dead_there) r');
          sees = record {
            sees = seen-until d.kind around size d.nfa.states d.nfa.start_anchored (sight_of d) end start (at + 1) k (omega arith)
                (dead-threads (key (at + 1)) dead_there) (dead-loops (key (at + 1)) dead_there)
                (λ j from to.
                let place : start + (j - start) ≡ j = omega arith in
                subst (λ i. HoldsAt around d.nfa.states ((sight_of d).holds (key j).before (byte_within around.byte size i)) i) place
                (seen-at d.kind around size d.nfa.states d.nfa.start_anchored (sight_of d) at start k sees (j - start) (omega arith)));
          };
          whole = inl refl;
        }

    -- The search may stop at the first match, and there is one.
    pub met-early : Tells → (cache : C) (state at : ℕ) (r r' : Progress) (byte : ℕ) (earliest : Bool) → start ≤ at → at < end → byte ≡ around.byte at
        → Going holds a cache state d around may beside size start k at r
        → IsReadable d.nfa (beside (at + 1))
        → r' ≡ met_within may (next_key d (key at) byte).matches at r
        → (earliest && is_some r'.best) ≡ true
        → IsMetAlong d around may size end start k earliest r'
    unfolding run_within end_key step_key
    met-early tells cache state at r r' byte earliest low lt byte_is going readable is enough =
        let sees = tells at low (omega arith) (readable-next at going.readable readable) in
        let none : at - at ≡ 0 = omega arith in
        let here : byte_within around.byte size at ≡ Some (around.byte at) = byte-here around.byte size at (omega arith) in
        record {
          stop = at;
          low = low;
          high = omega arith;
          is = is ∙ ap (λ b. met_within may (next_key d (key at) b).matches at r) byte_is
              ∙ ap (λ o. met_within may (end_of d (key at) o).matches at r) (sym here)
              ∙ ap (λ n. progress n at (key at) r) (sym none)
              ∙ sym (going.same at (omega arith));
          sees = record { sees = seen-all d.kind around size d.nfa.states d.nfa.start_anchored (sight_of d) at start k sees };
          whole = inr (and-left earliest (is_some r'.best) enough, and-right earliest (is_some r'.best) enough);
        }

    -- at the end of the span
    pub met-end : Tells → (cache : C) (state : ℕ) (r r' : Progress) (last : Key) (after : Option ℕ) (earliest : Bool) → start ≤ end
        → byte_within around.byte size end ≡ after
        → Going holds a cache state d around may beside size start k end r
        → IsReadable d.nfa (beside (end + 1))
        → last.matches ≡ (end_of d (key end) after).matches
        → r' ≡ met_within may last.matches end r
        → IsMetAlong d around may size end start k earliest r'
    unfolding run_within
    met-end tells cache state r r' last after earliest low behind going readable told is =
        let sees = tells end low (omega arith) (readable-next end going.readable readable) in
        let none : end - end ≡ 0 = omega arith in
        record {
          stop = end;
          low = low;
          high = omega arith;
          is = is ∙ ap (λ ms. met_within may ms end r) told
              ∙ ap (λ o. met_within may (end_of d (key end) o).matches end r) (sym behind)
              ∙ ap (λ n. progress n end (key end) r) (sym none)
              ∙ sym (going.same end (omega arith));
          sees = record { sees = seen-all d.kind around size d.nfa.states d.nfa.start_anchored (sight_of d) end start k sees };
          whole = inl refl;
        }

  -- over plain states

  pub key-along : (at n : ℕ) (byte : ℕ → ℕ) → start ≤ at → ((i : ℕ) → i < n → byte i ≡ around.byte (at + i)) → along d byte n (key at) ≡ key (at + n)
  key-along at zero byte low is = let same : at ≡ at + 0 = omega arith in ap key same
  key-along at (suc n) byte low is =
      let place : at + n + 1 ≡ at + suc n = omega arith in
      (λ j. next_key d (key-along at n byte low (λ i lt. is i (omega arith)) j) (is n (omega arith) j))
      ∙ sym (next-key (at + n) (omega arith))
      ∙ ap key place

  module _ {F C : Type 0} (a : F) (cache : C) (state : ℕ) where
    pub going-passed : (at n : ℕ) (r : Progress) (byte : ℕ → ℕ) → start ≤ at → ((i : ℕ) → i < n → byte i ≡ around.byte (at + i))
        → ((i : ℕ) → i < n → IsReadable d.nfa (beside (at + i + 1))) → ArePlain d byte (key at) n
        → Going nothing_held a cache state d around may beside size start k at r
        → Going nothing_held a cache state d around may beside size start k (at + n) r
    going-passed at zero r byte low is readable plain going =
        let same : at ≡ at + 0 = omega arith in
        subst (λ i. Going nothing_held a cache state d around may beside size start k i r) same going
    going-passed at (suc n) r byte low is readable plain going =
        let place : at + n + 1 ≡ at + suc n = omega arith in
        let before = going-passed at n r byte low (λ i lt. is i (omega arith)) (λ i lt. readable i (omega arith))
        (plain-fewer d byte (key at) n (suc n) (omega arith) plain) going in
        let here : along d byte (suc n) (key at) ≡ next_key d (key (at + n)) (byte n) =
        ap (λ x. next_key d x (byte n)) (key-along at n byte low (λ i lt. is i (omega arith))) in
        subst (λ i. Going nothing_held a cache state d around may beside size start k i r) place
        (going-next nothing_held a cache cache state state (at + n) r r (byte n) (omega arith) (is n (omega arith)) before tt (readable n (omega arith))
        (sym (ap is_dead here) ∙ plain.alive n (omega arith))
        (sym (ap (λ (x : Key). met_within may x.matches (at + n) r) (sym here)
        ∙ ap (λ ms. met_within may ms (at + n) r) (plain.no_match n (omega arith)))))

  module _ {F C : Type 0} (holds : F → C → ℕ → Key → Type 0) (a : F) (cache new : C) (state next : ℕ) where
    pub going-forget : (at : ℕ) (r : Progress) → Going holds a cache state d around may beside size start k at r
        → Going nothing_held a cache state d around may beside size start k at r
    going-forget at r g = record { held = tt; same = g.same; readable = g.readable; alive = g.alive }

    pub going-hold : (at : ℕ) (r : Progress) → Going nothing_held a cache state d around may beside size start k at r → holds a new next (key at)
        → Going holds a new next d around may beside size start k at r
    going-hold at r g held = record { held = held; same = g.same; readable = g.readable; alive = g.alive }

  -- where the first key is dead, there is nothing to meet
  pub met-none : (earliest : Bool) → start ≤ end → is_dead k ≡ true → IsMetAlong d around may size end start k earliest fresh
  met-none earliest le dead =
      let dead_there : is_dead (key start) ≡ true = ap is_dead first-key ∙ dead in
      record {
        stop = end;
        low = le;
        high = omega arith;
        is = sym (no-more-within d.kind d.nfa.states d.nfa.start_anchored (sight_of d) around may size (end - start) start k (dead-threads k dead)
            (dead-loops k dead) fresh);
        sees = record {
          sees = seen-until d.kind around size d.nfa.states d.nfa.start_anchored (sight_of d) end start start k (omega arith)
              (dead-threads (key start) dead_there) (dead-loops (key start) dead_there) (λ j from to. absurd (omega arith));
        };
        whole = inl refl;
      }
