-- The closure step by step.
use Rattle.std.proofs.Common.{◌≡◌, ℕ, zero, suc, ◌+◌, ◌-◌, ◌≤◌, ◌<◌, List, [], ◌∷◌, ◌++◌, length, reverse, refl, sym, ◌∙◌, ap, arith, length-append}
use Rattle.std.proofs.lemmas.List.{reverse-append}
use Rattle.std.specs.Prelude.{Bool, true, false, not, if◌then◌else◌}
use Rattle.rx_model.specs.Look as model
use Rattle.rx_nfa.specs.Automaton.{state_at}
use Rattle.rx_nfa.specs.Ordered.{has, close, epsilon_successors}
use Rattle.rx_nfa.specs.declared.state.State.{State}

-- how many states the closure takes from the stack
unfoldable pub steps_left : List State → (model.Look → Bool) → (room : ℕ) → (stack seen : List ℕ) → ℕ
steps_left states holding zero stack seen = 0
steps_left states holding (suc room) [] seen = 0
steps_left states holding (suc room) (q ∷ stack) seen =
    if has seen q then suc (steps_left states holding (suc room) stack seen)
    else suc (steps_left states holding room (epsilon_successors holding (state_at states q) ++ stack) (seen ++ q ∷ []))

module _ (states : List State) (holding : model.Look → Bool) where
  -- no state is left to come to, or to come from
  pub close-full : (n k : ℕ) (stack seen : List ℕ) → n ≤ k → close states holding (n - k) stack seen ≡ seen
  unfolding close
  close-full n k stack seen le = let none : n - k ≡ 0 = omega arith in rw none refl

  pub close-done : (room : ℕ) (seen : List ℕ) → close states holding room [] seen ≡ seen
  unfolding close
  close-done zero seen = refl
  close-done (suc room) seen = refl

  -- the next state was come to before
  pub close-known : (n k q : ℕ) (stack seen : List ℕ) → k < n → has seen q ≡ true
      → close states holding (n - k) (q ∷ stack) seen ≡ close states holding (n - k) stack seen
  unfolding close
  close-known n k q stack seen lt known = let more : n - k ≡ suc (n - suc k) = omega arith in rw (more, known) refl

  -- or it is new
  pub close-new : (n k q : ℕ) (stack seen : List ℕ) → k < n → has seen q ≡ false
      → close states holding (n - k) (q ∷ stack) seen
      ≡ close states holding (n - (k + 1)) (epsilon_successors holding (state_at states q) ++ stack) (seen ++ q ∷ [])
  unfolding close
  close-new n k q stack seen lt new =
      let more : n - k ≡ suc (n - (k + 1)) = omega arith in
      rw (more, new) refl

  pub steps-known : (n k q : ℕ) (stack seen : List ℕ) → k < n → has seen q ≡ true
      → steps_left states holding (n - k) stack seen < steps_left states holding (n - k) (q ∷ stack) seen
  unfolding steps_left
  steps-known n k q stack seen lt known = let more : n - k ≡ suc (n - suc k) = omega arith in rw (more, known) (omega arith)

  pub steps-new : (n k q : ℕ) (stack seen : List ℕ) → k < n → has seen q ≡ false
      → steps_left states holding (n - (k + 1)) (epsilon_successors holding (state_at states q) ++ stack) (seen ++ q ∷ [])
      < steps_left states holding (n - k) (q ∷ stack) seen
  unfolding steps_left
  steps-new n k q stack seen lt new =
      let more : n - k ≡ suc (n - (k + 1)) = omega arith in
      rw (more, new) (omega arith)

  -- The next state of the stack, with what is on the list and on the stack after it.
  module _ (n q : ℕ) (rest seen stack later below : List ℕ) (lt : length seen < n) (top : stack ≡ q ∷ rest) where
    module _ (known : has seen q ≡ true) (same : later ≡ seen) where
      pub takes-known : (goal : List ℕ) → close states holding (n - length seen) stack seen ≡ goal → close states holding (n - length later) rest later ≡ goal
      takes-known goal h =
          ap (λ xs. close states holding (n - length xs) rest xs) same ∙ sym (close-known n (length seen) q rest seen lt known)
          ∙ ap (λ xs. close states holding (n - length seen) xs seen) (sym top) ∙ h

      pub less-known : steps_left states holding (n - length later) rest later < steps_left states holding (n - length seen) stack seen
      less-known =
          let after = ap (λ xs. steps_left states holding (n - length xs) rest xs) same in
          let before = ap (λ xs. steps_left states holding (n - length seen) xs seen) top in
          let less = steps-known n (length seen) q rest seen lt known in
          omega arith

    module _ (new : has seen q ≡ false) (more : later ≡ seen ++ q ∷ []) (on : below ≡ epsilon_successors holding (state_at states q) ++ rest) where
      longer : length later ≡ length seen + 1
      longer = ap length more ∙ length-append seen (q ∷ [])

      pub takes-new : (goal : List ℕ) → close states holding (n - length seen) stack seen ≡ goal → close states holding (n - length later) below later ≡ goal
      takes-new goal h =
          ap (λ m. close states holding (n - m) below later) longer ∙ ap (λ xs. close states holding (n - (length seen + 1)) xs later) on
          ∙ ap (λ xs. close states holding (n - (length seen + 1)) (epsilon_successors holding (state_at states q) ++ rest) xs) more
          ∙ sym (close-new n (length seen) q rest seen lt new) ∙ ap (λ xs. close states holding (n - length seen) xs seen) (sym top) ∙ h

      pub less-new : steps_left states holding (n - length later) below later < steps_left states holding (n - length seen) stack seen
      less-new =
          let after : steps_left states holding (n - length later) below later
          ≡ steps_left states holding (n - (length seen + 1)) (epsilon_successors holding (state_at states q) ++ rest) (seen ++ q ∷ []) =
          ap (λ m. steps_left states holding (n - m) below later) longer ∙ ap (λ xs. steps_left states holding (n - (length seen + 1)) xs later) on
          ∙ ap (λ xs. steps_left states holding (n - (length seen + 1)) (epsilon_successors holding (state_at states q) ++ rest) xs) more in
          let before = ap (λ xs. steps_left states holding (n - length seen) xs seen) top in
          let less = steps-new n (length seen) q rest seen lt new in
          omega arith

-- what was taken from the end stood on top
pub on-top : (items rest : List ℕ) (q : ℕ) → items ≡ rest ++ q ∷ [] → reverse items ≡ q ∷ reverse rest
on-top items rest q e = ap reverse e ∙ reverse-append rest (q ∷ [])

pub not-true : (b : Bool) → not b ≡ true → b ≡ false
not-true true e = sym e
not-true false e = refl

pub not-false : (b : Bool) → not b ≡ false → b ≡ true
not-false true e = refl
not-false false e = sym e
