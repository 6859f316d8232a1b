-- The order of epsilon walks.
use Rattle.std.proofs.Common.{◌≡◌, ◌⊎◌, ℕ, zero, suc, ◌+◌, ◌<◌, List, [], ◌∷◌, ◌++◌, refl, sym, ◌∙◌, ap, subst, inl, inr, ⊎_elim, arith}
use Rattle.std.specs.Prelude.{Contains}
use Rattle.rx_model.proofs.lemmas.runs.MemberLemmas.{none-among, first-among, later-among, split-among, either-among}
use Rattle.rx_nfa.specs.Walks.{IsPreferred}
use Rattle.rx_onepass_build.specs.Order.{Precedes, AreInOrder, going_on}

pub precedes-itself : (js : List ℕ) → Precedes js js → ⊥
precedes-itself [] p = p
precedes-itself (j ∷ js) p = ⊎_elim (λ less. omega arith) (λ same. precedes-itself js same.1) p

pub precedes-on : (js ks rest : List ℕ) → Precedes js ks → Precedes js (ks ++ rest)
precedes-on [] [] rest p = absurd p
precedes-on [] (k ∷ ks) rest p = tt
precedes-on (j ∷ js) [] rest p = absurd p
precedes-on (j ∷ js) (k ∷ ks) rest p = ⊎_elim (λ less. inl less) (λ same. inr (same.0, precedes-on js ks rest same.1)) p

pub precedes-child : (js : List ℕ) (k : ℕ) → Precedes js (js ++ k ∷ [])
precedes-child [] k = tt
precedes-child (j ∷ js) k = inr (refl, precedes-child js k)

pub preferred-precedes : (js ks : List ℕ) → IsPreferred js ks → Precedes js ks
preferred-precedes [] ks p = absurd p
preferred-precedes (j ∷ js) [] p = absurd p
preferred-precedes (j ∷ js) (k ∷ ks) p = ⊎_elim (λ less. inl less) (λ same. inr (same.0, preferred-precedes js ks same.1)) p

pub preferred-left : (js rest ks : List ℕ) → IsPreferred js ks → IsPreferred (js ++ rest) ks
preferred-left [] rest ks p = absurd p
preferred-left (j ∷ js) rest [] p = absurd p
preferred-left (j ∷ js) rest (k ∷ ks) p = ⊎_elim (λ less. inl less) (λ same. inr (same.0, preferred-left js rest ks same.1)) p

pub preferred-children : (way : List ℕ) (j k : ℕ) → j < k → IsPreferred (way ++ j ∷ []) (way ++ k ∷ [])
preferred-children [] j k less = inl less
preferred-children (w ∷ way) j k less = inr (refl, preferred-children way j k less)

-- one that comes before is not outdone by what goes on from the other
pub outdone-never : (one other rest : List ℕ) → Precedes one other → IsPreferred (other ++ rest) one → ⊥
outdone-never [] [] rest p q = p
outdone-never [] (k ∷ ks) rest p q = q
outdone-never (j ∷ js) [] rest p q = p
outdone-never (j ∷ js) (k ∷ ks) rest p q =
    ⊎_elim
    (λ less. ⊎_elim (λ more. omega arith) (λ same. (let e = same.0 in omega arith)) q)
    (λ same. ⊎_elim (λ more. (let e = same.0 in omega arith)) (λ too. outdone-never js ks rest same.1 too.1) q)
    p

-- nor is one by what goes on from it
pub itself-never : (one rest : List ℕ) → IsPreferred (one ++ rest) one → ⊥
itself-never [] [] q = q
itself-never [] (k ∷ rest) q = q
itself-never (j ∷ js) rest q = ⊎_elim (λ more. omega arith) (λ same. itself-never js rest same.1) q

-- the other goes on from the one
pub record Continues (one other : List ℕ) : Type 0 where
  pub next : ℕ
  pub rest : List ℕ
  pub is : other ≡ one ++ next ∷ rest

-- one that comes before is preferred, or the other goes on from it
pub precedes-parts : (one other : List ℕ) → Precedes one other → IsPreferred one other ⊎ Continues one other
precedes-parts [] [] p = absurd p
precedes-parts [] (k ∷ ks) p = inr (record { next = k; rest = ks; is = refl })
precedes-parts (j ∷ js) [] p = absurd p
precedes-parts (j ∷ js) (k ∷ ks) p =
    ⊎_elim
    (λ less. inl (inl less))
    (λ same.
    ⊎_elim
    (λ better. inl (inr (same.0, better)))
    (λ (c : Continues js ks). inr (record { next = c.next; rest = c.rest; is = ap (λ x. x ∷ ks) (sym same.0) ∙ ap (λ xs. j ∷ xs) c.is }))
    (precedes-parts js ks same.1))
    p

-- The walks that go on from one.

pub going-among : (way : List ℕ) (k n j : ℕ) → j < n → Contains (going_on way k n) (way ++ (k + j) ∷ [])
going-among way k zero j lt = absurd (omega arith)
going-among way k (suc n) zero lt =
    let e : k + 0 ≡ k = omega arith in
    subst (λ i. Contains (going_on way k (suc n)) (way ++ i ∷ [])) (sym e) (first-among (way ++ k ∷ []) (going_on way (suc k) n))
going-among way k (suc n) (suc j) lt =
    let e : suc k + j ≡ k + suc j = omega arith in
    later-among (way ++ k ∷ []) (way ++ (k + suc j) ∷ []) (going_on way (suc k) n)
    (subst (λ i. Contains (going_on way (suc k) n) (way ++ i ∷ [])) e (going-among way (suc k) n j (omega arith)))

-- what one of them is
pub record IsGoing (way : List ℕ) (k n : ℕ) (other : List ℕ) : Type 0 where
  pub choice : ℕ
  pub low : k < suc choice
  pub high : choice < k + n
  pub is : way ++ choice ∷ [] ≡ other

pub among-going : (way : List ℕ) (k n : ℕ) (other : List ℕ) → Contains (going_on way k n) other → IsGoing way k n other
among-going way k zero other m = absurd (none-among other m)
among-going way k (suc n) other m =
    ⊎_elim
    (λ e. record { choice = k; low = omega arith; high = omega arith; is = e })
    (λ more.
    let g = among-going way (suc k) n other more in
    let low = g.low in
    let high = g.high in
    record { choice = g.choice; low = omega arith; high = omega arith; is = g.is })
    (split-among (way ++ k ∷ []) other (going_on way (suc k) n) m)

pub going-in_order : (way : List ℕ) (k n : ℕ) (ways : List (List ℕ)) → AreInOrder ways
    → ((other : List ℕ) → Contains ways other → IsPreferred way other) → AreInOrder (going_on way k n ++ ways)
going-in_order way k zero ways order before = order
going-in_order way k (suc n) ways order before = (
  (λ other m.
      ⊎_elim
      (λ here.
      let g = among-going way (suc k) n other here in
      let low = g.low in
      subst (λ x. IsPreferred (way ++ k ∷ []) x) g.is (preferred-children way k g.choice (omega arith)))
      (λ there. preferred-left way (k ∷ []) other (before other there))
      (either-among (going_on way (suc k) n) ways other m)),
  going-in_order way (suc k) n ways order before,
)
