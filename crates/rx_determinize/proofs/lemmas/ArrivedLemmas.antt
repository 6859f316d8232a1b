-- What stands for a list of states before the next byte is known has the first success of the list.
use Rattle.std.proofs.Common.{◌≡◌, ℕ, zero, suc, ◌≤◌, ◌<◌, List, [], ◌∷◌, ◌++◌, length, refl, sym, ◌∙◌, ap, arith, true≢false, append-nil}
use Rattle.std.specs.Prelude.{Bool, true, false, ◌==◌, Option, Some, None, All}
use Rattle.std.specs.Option.{option_or}
use Rattle.std.proofs.lemmas.List.{append_assoc}
use Rattle.std.proofs.lemmas.List.Elements.{All-get_or, All-nil, All-head, All-tail, All-append}
use Rattle.std.proofs.lemmas.Bool.Decides.{Decides-eqb}
use Rattle.rx_model.specs.Look as model
use Rattle.rx_model.specs.Runs.{PriorityGraph, nowhere, and_at, found}
use Rattle.rx_model.proofs.lemmas.runs.RunLemmas.{by_test, map-none}
use Rattle.rx_model.proofs.lemmas.runs.FoundLemmas.{found-prune}
use Rattle.rx_search.specs.Matches.{HalfMatchValue}
use Rattle.rx_nfa.specs.Automaton.{at, state_at, NamesBelow, Surroundings}
use Rattle.rx_nfa.specs.Ordered.{has, passed_at, AreBelow, half, tell, first_on, is_resting, resting, epsilon_successors, close, HasSteps}
use Rattle.rx_nfa.specs.declared.state.State.{State}
use Rattle.rx_nfa.specs.declared.state.State.TheVariants.{ByteRange, Sparse, Look, Union, Capture, Fail, Match}
use Rattle.rx_nfa.proofs.lemmas.lists.ListLemmas.{first_told-append}
use Rattle.rx_nfa.proofs.lemmas.lists.PlaceLemmas.{left_at, left-most, left-less}
use Rattle.rx_nfa.proofs.lemmas.lists.ClosureLemmas.{resting-epsilon, epsilon_successors-below, close-below, resting-below, first_on-alike, tell-moves, threads-first}
use Rattle.rx_determinize.specs.Key.{is_look, one_asks, none_known, reached, arrived}
use Rattle.std.proofs.lemmas.Bool.{or_parts}

-- Where the lists lie.

-- what a state and the stack go on to
pub goes_on-below : (states : List State) → All (NamesBelow (length states)) states → (holding : model.Look → Bool) (q : ℕ) (stack : List ℕ)
    → AreBelow (length states) (q ∷ stack)
    → AreBelow (length states) (epsilon_successors holding (state_at states q) ++ stack)
goes_on-below states names holding q stack h =
    All-append (λ q. q < length states) (epsilon_successors holding (state_at states q)) stack
    (epsilon_successors-below (length states) holding (state_at states q)
    (All-get_or (NamesBelow (length states)) states q _ (All-head (λ q. q < length states) q stack h) names))
    (All-tail (λ q. q < length states) q stack h)

pub arrived-below : (states : List State) → All (NamesBelow (length states)) states → (qs : List ℕ) → AreBelow (length states) qs
    → AreBelow (length states) (arrived states qs)
arrived-below states names qs h =
    let whole = close-below states names none_known (length states) qs [] h (All-nil (λ q. q < length states)) in
    by_test (one_asks states (reached states qs))
    (λ e. rw e whole)
    (λ e. rw e (resting-below (length states) states (reached states qs) whole))

-- Where no state that was come to asks for look-around, look-around has no part in the closure.

epsilon-same : (holding : model.Look → Bool) (s : State) → is_look s ≡ false → epsilon_successors holding s ≡ epsilon_successors none_known s
epsilon-same holding (ByteRange low high next) h = refl
epsilon-same holding (Sparse transitions) h = refl
epsilon-same holding (Look look next) h = absurd (true≢false h)
epsilon-same holding (Union alternates) h = refl
epsilon-same holding (Capture next pattern slot) h = refl
epsilon-same holding Fail h = refl
epsilon-same holding (Match pattern) h = refl

asks-last : (states : List State) (qs : List ℕ) (q : ℕ) → one_asks states (qs ++ q ∷ []) ≡ false → is_look (state_at states q) ≡ false
asks-last states [] q h = (or_parts (is_look (state_at states q)) false h).0
asks-last states (x ∷ xs) q h = asks-last states xs q (or_parts (is_look (state_at states x)) (one_asks states (xs ++ q ∷ [])) h).1

asks-front : (states : List State) (qs : List ℕ) (q : ℕ) → one_asks states qs ≡ true → one_asks states (qs ++ q ∷ []) ≡ true
asks-front states [] q h = absurd (true≢false (sym h))
asks-front states (x ∷ xs) q h =
    by_test (is_look (state_at states x))
    (λ e. rw e refl)
    (λ e. rw e (asks-front states xs q (rw e at h)))

close-asks : (states : List State) (room : ℕ) (stack seen : List ℕ) → one_asks states seen ≡ true
    → one_asks states (close states none_known room stack seen) ≡ true
unfolding close
close-asks states zero stack seen h = h
close-asks states (suc room) [] seen h = h
close-asks states (suc room) (q ∷ stack) seen h =
    by_test (has seen q)
    (λ e. rw e (close-asks states (suc room) stack seen h))
    (λ e. rw e (close-asks states room (epsilon_successors none_known (state_at states q) ++ stack) (seen ++ q ∷ []) (asks-front states seen q h)))

close-same : (states : List State) (holding : model.Look → Bool) (room : ℕ) (stack seen : List ℕ)
    → one_asks states (close states none_known room stack seen) ≡ false
    → close states holding room stack seen ≡ close states none_known room stack seen
unfolding close
close-same states holding zero stack seen h = refl
close-same states holding (suc room) [] seen h = refl
close-same states holding (suc room) (q ∷ stack) seen h =
    by_test (has seen q)
    (λ e. rw e (close-same states holding (suc room) stack seen (rw e at h)))
    (λ e.
    let goes_on = epsilon_successors none_known (state_at states q) ++ stack in
    let silent : one_asks states (close states none_known room goes_on (seen ++ q ∷ [])) ≡ false = rw e at h in
    let plain : one_asks states (seen ++ q ∷ []) ≡ false =
    by_test (one_asks states (seen ++ q ∷ [])) (λ t. absurd (true≢false (sym (close-asks states room goes_on (seen ++ q ∷ []) t) ∙ silent))) (λ f. f) in
    rw e (ap (λ qs. close states holding room (qs ++ stack) (seen ++ q ∷ [])) (epsilon-same holding (state_at states q) (asks-last states seen q plain))
    ∙ close-same states holding room goes_on (seen ++ q ∷ []) silent))

-- Behind a state, what fails where it fails has no part,

absorbed : (x y z : Option HalfMatchValue) → (x ≡ None → y ≡ None) → option_or x (option_or y z) ≡ option_or x z
absorbed None y z fails = ap (λ o. option_or o z) (fails refl)
absorbed (Some t) y z fails = refl

module _ (around : Surroundings) (states : List State) (names : All (NamesBelow (length states)) states) (end : ℕ) (g : PriorityGraph)
    (has_steps : HasSteps around states end g) (i : ℕ) (place : i ≤ end) where
  -- what is found from a list
  abbrev first : List ℕ → Option HalfMatchValue
  first qs = first_on g nowhere i qs

  abbrev looks_here : model.Look → Bool
  looks_here kind = around.looks kind i

  -- where nothing is found from a state, nothing is found from those that it goes on to,
  epsilon-none : (q : ℕ) → q < length states → tell g nowhere i q ≡ None → first (epsilon_successors looks_here (state_at states q)) ≡ None
  epsilon-none q lt none =
      by_test (is_resting (state_at states q))
      (λ rests. ap first (resting-epsilon looks_here (state_at states q) rests))
      (λ moves.
      first_on-alike g nowhere (and_at (at q i) nowhere) (λ c. found-prune g nowhere (at q i) c (map-none half (found g nowhere (at q i)) none)) i
      (epsilon_successors looks_here (state_at states q))
      ∙ sym (tell-moves around states end g has_steps names looks_here i place (λ r next look is. refl) nowhere q lt refl moves) ∙ none)

  -- nor from those that it goes on to without look-around
  known-none : (q : ℕ) → q < length states → tell g nowhere i q ≡ None → first (epsilon_successors none_known (state_at states q)) ≡ None
  known-none q lt none = fewer (state_at states q) (epsilon-none q lt none)
    where
      fewer : (s : State) → first (epsilon_successors looks_here s) ≡ None → first (epsilon_successors none_known s) ≡ None
      fewer (ByteRange low high next) h = refl
      fewer (Sparse transitions) h = refl
      fewer (Look look next) h = refl
      fewer (Union alternates) h = h
      fewer (Capture next pattern slot) h = h
      fewer Fail h = refl
      fewer (Match pattern) h = refl

  first-append : (xs ys : List ℕ) → first (xs ++ ys) ≡ option_or (first xs) (first ys)
  first-append xs ys = first_told-append (tell g nowhere i) xs ys

  -- nor what stands on the list before.
  absorbed-seen : (q : ℕ) (seen stack : List ℕ) → has seen q ≡ true → first (seen ++ (q ∷ stack)) ≡ first (seen ++ stack)
  absorbed-seen q [] stack h = absurd (true≢false (sym h))
  absorbed-seen q (x ∷ xs) stack h =
      by_test (x == q)
      (λ e.
      let same : x ≡ q = (Decides-eqb x q).0 e in
      ap (option_or (tell g nowhere i x)) (first-append xs (q ∷ stack))
      ∙ behind (tell g nowhere i x) (first xs) (tell g nowhere i q) (first stack) (λ none. ap (tell g nowhere i) (sym same) ∙ none)
      ∙ ap (option_or (tell g nowhere i x)) (sym (first-append xs stack)))
      (λ e. ap (option_or (tell g nowhere i x)) (absorbed-seen q xs stack (rw e at h)))
    where
      behind : (x w y z : Option HalfMatchValue) → (x ≡ None → y ≡ None) → option_or x (option_or w (option_or y z)) ≡ option_or x (option_or w z)
      behind None w y z fails = ap (λ o. option_or w (option_or o z)) (fails refl)
      behind (Some t) w y z fails = refl

  -- all states that a list leads to without look-around
  reached-first : (room : ℕ) (stack seen : List ℕ) → AreBelow (length states) stack → left_at (length states) i (passed_at seen i) ≤ room
      → first (close states none_known room stack seen) ≡ first (seen ++ stack)
  unfolding close
  reached-first zero [] seen below enough = sym (ap first (append-nil seen))
  reached-first zero (q ∷ stack) seen below enough =
      by_test (has seen q)
      (λ e. reached-first zero stack seen (All-tail (λ q. q < length states) q stack below) enough ∙ sym (absorbed-seen q seen stack e))
      (λ e. let less = left-less (length states) i q seen (All-head (λ q. q < length states) q stack below) e in absurd (omega arith))
  reached-first (suc room) [] seen below enough = sym (ap first (append-nil seen))
  reached-first (suc room) (q ∷ stack) seen below enough =
      by_test (has seen q)
      (λ e. rw e (reached-first (suc room) stack seen (All-tail (λ q. q < length states) q stack below) enough ∙ sym (absorbed-seen q seen stack e)))
      (λ e.
      let lt = All-head (λ q. q < length states) q stack below in
      let less = left-less (length states) i q seen lt e in
      let goes_on = epsilon_successors none_known (state_at states q) in
      rw e
      (reached-first room (goes_on ++ stack) (seen ++ q ∷ []) (goes_on-below states names none_known q stack below) (omega arith)
      ∙ ap first (append_assoc seen (q ∷ []) (goes_on ++ stack))
      ∙ first-append seen (q ∷ (goes_on ++ stack))
      ∙ ap (option_or (first seen))
      (ap (option_or (tell g nowhere i q)) (first-append goes_on stack)
      ∙ absorbed (tell g nowhere i q) (first goes_on) (first stack) (known-none q lt))
      ∙ sym (first-append seen (q ∷ stack))))

  pub arrived-first : (qs : List ℕ) → AreBelow (length states) qs → first_on g nowhere i (arrived states qs) ≡ first_on g nowhere i qs
  arrived-first qs below =
      by_test (one_asks states (reached states qs))
      (λ e. rw e (reached-first (length states) qs [] below (left-most (length states) i nowhere)))
      (λ e.
      rw e
      (ap (λ xs. first (resting states xs)) (sym (close-same states looks_here (length states) qs [] e))
      ∙ threads-first around states end g has_steps names looks_here i place (λ q next look is. refl) qs below))
