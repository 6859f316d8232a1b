-- No state stands twice on a list.
use Rattle.std.proofs.Common.{◌≡◌, ℕ, zero, suc, List, [], ◌∷◌, ◌++◌, length, refl, sym, ◌∙◌, true≢false}
use Rattle.std.proofs.lemmas.Bool.Decides.{Decides-eqb}
use Rattle.std.specs.Prelude.{Bool, false, ◌==◌, Option, Some, is_some}
use Rattle.rx_model.specs.Look as model
use Rattle.rx_model.proofs.lemmas.runs.RunLemmas.{by_test}
use Rattle.rx_search.specs.declared.anchored.MatchKind.{MatchKind}
use Rattle.rx_search.specs.declared.anchored.MatchKind.TheVariants.{All, LeftmostFirst}
use Rattle.rx_nfa.specs.Automaton.{state_at}
use Rattle.rx_nfa.specs.Ordered.{has, is_resting, epsilon_successors, close, resting, cut, threads_from, targets, begun}
use Rattle.rx_nfa.specs.declared.state.State.{State}
use Rattle.rx_determinize.specs.Key.{Key, Sight, AreOnce, accepts_in, one_asks, none_known, reached, arrived, counting, looping, matching, settled, start_key, step_key}
use Rattle.std.proofs.lemmas.Bool.{or_parts}

has-push : (xs : List ℕ) (q x : ℕ) → has xs x ≡ false → (q == x) ≡ false → has (xs ++ q ∷ []) x ≡ false
has-push [] q x h apart = rw apart refl
has-push (y ∷ ys) q x h apart = let parts = or_parts (y == x) (has ys x) h in rw parts.0 (has-push ys q x parts.1 apart)

once-push : (xs : List ℕ) (q : ℕ) → AreOnce xs → has xs q ≡ false → AreOnce (xs ++ q ∷ [])
once-push [] q once new = (refl, tt)
once-push (x ∷ xs) q once new =
    let parts = or_parts (x == q) (has xs q) new in
    let apart : (q == x) ≡ false = by_test (q == x) (λ e. absurd (true≢false (sym ((Decides-eqb x q).1 (sym ((Decides-eqb q x).0 e))) ∙ parts.0))) (λ e. e) in
    (has-push xs q x once.0 apart, once-push xs q once.1 parts.1)

close-once : (states : List State) (holding : model.Look → Bool) (room : ℕ) (stack seen : List ℕ) → AreOnce seen
    → AreOnce (close states holding room stack seen)
unfolding close
close-once states holding zero stack seen once = once
close-once states holding (suc room) [] seen once = once
close-once states holding (suc room) (q ∷ stack) seen once =
    by_test (has seen q)
    (λ e. rw e (close-once states holding (suc room) stack seen once))
    (λ e. rw e (close-once states holding room (epsilon_successors holding (state_at states q) ++ stack) (seen ++ q ∷ []) (once-push seen q once e)))

resting-has : (states : List State) (qs : List ℕ) (q : ℕ) → has qs q ≡ false → has (resting states qs) q ≡ false
resting-has states [] q h = refl
resting-has states (x ∷ xs) q h =
    let parts = or_parts (x == q) (has xs q) h in
    by_test (is_resting (state_at states x)) (λ e. rw e (rw parts.0 (resting-has states xs q parts.1))) (λ e. rw e (resting-has states xs q parts.1))

resting-once : (states : List State) (qs : List ℕ) → AreOnce qs → AreOnce (resting states qs)
resting-once states [] once = tt
resting-once states (q ∷ qs) once =
    by_test (is_resting (state_at states q)) (λ e. rw e (resting-has states qs q once.0, resting-once states qs once.1))
    (λ e. rw e (resting-once states qs once.1))

cut-has : (accepts : ℕ → Option ℕ) (qs : List ℕ) (q : ℕ) → has qs q ≡ false → has (cut accepts qs) q ≡ false
cut-has accepts [] q h = refl
cut-has accepts (x ∷ xs) q h =
    let parts = or_parts (x == q) (has xs q) h in
    by_test (is_some (accepts x)) (λ e. rw e (rw parts.0 refl)) (λ e. rw e (rw parts.0 (cut-has accepts xs q parts.1)))

cut-once : (accepts : ℕ → Option ℕ) (qs : List ℕ) → AreOnce qs → AreOnce (cut accepts qs)
cut-once accepts [] once = tt
cut-once accepts (q ∷ qs) once =
    by_test (is_some (accepts q)) (λ e. rw e (refl, tt)) (λ e. rw e (cut-has accepts qs q once.0, cut-once accepts qs once.1))

arrived-once : (states : List State) (qs : List ℕ) → AreOnce (arrived states qs)
arrived-once states qs =
    let whole = close-once states none_known (length states) qs [] tt in
    by_test (one_asks states (reached states qs))
    (λ e. rw e whole)
    (λ e. rw e (resting-once states (reached states qs) whole))

settled-once : (kind : MatchKind) (states : List State) (qs : List ℕ) (loops : Bool) (matches : List ℕ) (before : Option ℕ) → AreOnce qs
    → AreOnce (settled kind states qs loops matches before).threads
settled-once All states qs loops matches before once = once
settled-once LeftmostFirst states qs loops matches before once = cut-once (accepts_in states) qs once

pub start-once : (kind : MatchKind) (states : List State) (start : ℕ) (loops : Bool) (before : Option ℕ)
    → AreOnce (start_key kind states start loops before).threads
unfolding start_key
start-once kind states start loops before = settled-once kind states (arrived states (start ∷ [])) loops [] before (arrived-once states (start ∷ []))

pub step-once : (kind : MatchKind) (states : List State) (start : ℕ) (sight : Sight) (k : Key) (byte : ℕ)
    → AreOnce (step_key kind states start sight k byte).threads
unfolding step_key
step-once kind states start sight k byte =
    let ts = threads_from states (sight.holds k.before (Some byte)) k.threads in
    let goes_on = looping kind states ts k.loops in
    settled-once kind states (arrived states (targets states byte (counting kind states ts) ++ begun start goes_on)) goes_on (matching kind states ts)
    (sight.class byte)
    (arrived-once states (targets states byte (counting kind states ts) ++ begun start goes_on))
