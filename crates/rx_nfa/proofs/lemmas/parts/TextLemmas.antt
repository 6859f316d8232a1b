-- Parts that read bytes.
use Rattle.std.proofs.Common.{◌≡◌, ℕ, zero, suc, ◌-◌, ◌≤◌, ◌<◌, List, [], ◌∷◌, refl, sym, ◌∙◌, subst, arith, length, get_or, drop, drop-cons}
use Rattle.rx_model.specs.Graph as graph
use Rattle.rx_nfa.specs.Draft.{Draft, Extends, pushed}
use Rattle.rx_nfa.specs.States.{Stands}
use Rattle.rx_nfa.specs.Built.{IsChain, Built}
use Rattle.rx_nfa.proofs.lemmas.parts.BuiltLemmas.{IsChain-map, Stands-kept, Stands-from, Stands-pushed, Keeps-extends, Extends-pushed, Built-state}
use Rattle.rx_nfa.specs.declared.state.State.{State}
use Rattle.rx_nfa.specs.declared.state.State.TheVariants.{ByteRange}

-- no bytes
pub IsChain-none : (IsAt : ℕ → State → Type 0) (q : ℕ) (bytes : List ℕ) (n : ℕ) → length bytes ≤ n → IsChain IsAt q (drop n bytes) q
IsChain-none IsAt q [] zero le = refl
IsChain-none IsAt q [] (suc n) le = refl
IsChain-none IsAt q (b ∷ bytes) zero le = absurd (omega arith)
IsChain-none IsAt q (b ∷ bytes) (suc n) le = IsChain-none IsAt q bytes n (omega arith)

-- one byte more, in front
pub IsChain-more : (old d new : Draft) (bytes : List ℕ) (k b start next : ℕ) → Extends old d → 0 < k → k ≤ length bytes → b ≡ get_or bytes (k - 1) 0
    → new ≡ pushed d (ByteRange b b start) → IsChain (Stands (length old.states) d.states) start (drop k bytes) next
    → IsChain (Stands (length old.states) new.states) (length d.states) (drop (k - 1) bytes) next
IsChain-more old d new bytes k b start next extends some le is grown c =
    let back : suc (k - 1) ≡ k = omega arith in
    let here : drop (k - 1) bytes ≡ b ∷ drop k bytes = drop-cons bytes (k - 1) 0 (omega arith) ∙ (λ i. sym is i ∷ drop (back i) bytes) in
    let after : Draft = pushed d (ByteRange b b start) in
    let chain : IsChain (Stands (length old.states) after.states) (length d.states) (b ∷ drop k bytes) next = (
      start,
      Stands-from (length old.states) (length d.states) after.states (length d.states) (ByteRange b b start) extends.longer
          (Stands-pushed d (ByteRange b b start)),
      IsChain-map (Stands (length old.states) d.states) (Stands (length old.states) after.states)
          (Stands-kept (length old.states) (length old.states) d.states after.states (omega arith)
          (Keeps-extends (length old.states) d after (Extends-pushed d (ByteRange b b start)))) start (drop k bytes) next c,
    ) in
    subst (λ (e : Draft). IsChain (Stands (length old.states) e.states) (length d.states) (drop (k - 1) bytes) next) (sym grown)
    (subst (λ bs. IsChain (Stands (length old.states) after.states) (length d.states) bs next) (sym here) chain)

-- a chain is the part of a text
pub Built-text : (old new : Draft) (bytes : List ℕ) (start next : ℕ) → 0 < length bytes → Extends old new
    → IsChain (Stands (length old.states) new.states) start bytes next
    → Built (graph.build_state (graph.text bytes)) next old new start
Built-text old new [] start next some extends c = absurd (omega arith)
Built-text old new (b ∷ bytes) start next some extends c =
    Built-state (graph.text (b ∷ bytes)) next old new start extends c.1.above c.1.inside
    (λ f next' is. subst (λ n. IsChain (Stands (length old.states) new.states) start (b ∷ bytes) n) (sym is) c)
