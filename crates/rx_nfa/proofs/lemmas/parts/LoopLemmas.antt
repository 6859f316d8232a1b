-- Parts that begin with a choice: it is written once the body is there.
use Rattle.std.proofs.Common.{◌≡◌, ◌≢◌, ℕ, suc, ◌+◌, ◌<◌, [], ◌++◌, ◌∷◌, sym, ◌∙◌, subst, arith, length, get_or-set_other, get_or-set_same}
use Rattle.std.specs.Prelude.{Bool, true, false, map}
use Rattle.std.specs.List.{AllZip}
use Rattle.std.proofs.Math.ListN.{length-set}
use Rattle.rx_model.specs.Graph as graph
use Rattle.rx_nfa.specs.Automaton.{state_at}
use Rattle.rx_nfa.specs.Draft.{Draft, Extends, pushed, patched}
use Rattle.rx_nfa.specs.States.{Stands}
use Rattle.rx_nfa.specs.Built.{ways, Sends, IsImage, Rises, Mirrors, Built}
use Rattle.rx_nfa.proofs.lemmas.parts.BuiltLemmas.{Rises-from, Rises-to, Rises-append, Sends-append, AllZip-length, AllZip-append, AllZip-map, IsImage-map, Stands-kept, Keeps-same, Keeps-extends, Extends-trans, Keeps, Mirrors-kept, Extends-pushed, pushed-length}
use Rattle.rx_nfa.specs.declared.state.State.{State}
use Rattle.rx_nfa.specs.declared.state.State.TheVariants.{Union, Fail}

ways-map : (f : ℕ → ℕ) (greedy : Bool) (body body' exit exit' : ℕ) → f body ≡ body' → f exit ≡ exit'
    → Union (ways greedy body' exit') ≡ Union (map f (ways greedy body exit))
ways-map f true body body' exit exit' b e = λ i. Union (sym b i ∷ sym e i ∷ [])
ways-map f false body body' exit exit' b e = λ i. Union (sym e i ∷ sym b i ∷ [])

-- Draft `mid` is `old` with a state for the choice, `after` has the body, and in `new` the choice is written.
module _ (greedy : Bool) (body : graph.Builder) (next onward start : ℕ) (old after : Draft) (blank : State)
    (b : Built body onward (pushed old blank) after start) where
  abbrev pub written : Draft
  written = patched after (length old.states) (Union (ways greedy start next))

  there : length old.states < length after.states
  there = let l = pushed-length old blank in let g = b.extends.longer in omega arith

  same-length : length written.states ≡ length after.states
  same-length = length-set after.states (length old.states) (Union (ways greedy start next))

  kept-other : (q : ℕ) → q ≢ length old.states → state_at written.states q ≡ state_at after.states q
  kept-other q other = get_or-set_other after.states (length old.states) q (Union (ways greedy start next)) Fail other

  pub written-extends : Extends old written
  written-extends = record {
    groups = b.extends.groups;
    slots = b.extends.slots;
    accepted = b.extends.accepted;
    longer = (let l = same-length in let t = there in omega arith);
    kept = λ q inside.
        (let l = pushed-length old blank in
        kept-other q (omega arith) ∙ b.extends.kept q (omega arith) ∙ (Extends-pushed old blank).kept q inside);
  }

  stands : Stands (length old.states) written.states (length old.states) (Union (ways greedy start next))
  stands = record {
    above = omega arith;
    inside = (let l = same-length in let t = there in omega arith);
    is = get_or-set_same after.states (length old.states) (Union (ways greedy start next)) Fail there;
  }

  rises : Rises (length old.states) (length written.states) (length old.states ∷ b.images)
  rises = (
    omega arith,
    Rises-from (suc (length old.states)) (length (pushed old blank).states) (length written.states) b.images
        (let l = pushed-length old blank in
        omega arith) (Rises-to (length (pushed old blank).states) (length after.states) (length written.states) b.images
        (let l = same-length in omega arith) b.rises),
  )

  -- the choice and the body
  each : (f : ℕ → ℕ) (part : graph.Part) (next' : ℕ) → f next' ≡ next → Mirrors f (length (pushed old blank).states) after.states part b.images start
      → AllZip (IsImage (Stands (length old.states) written.states) f) (graph.prefer greedy part.start next' ∷ part.states) (length old.states ∷ b.images)
  each f part next' is m = (
    subst (Stands (length old.states) written.states (length old.states)) (ways-map f greedy part.start start next' next m.start_is is) stands,
    (Mirrors-kept f (length old.states) (length (pushed old blank).states) after.states written.states part b.images start
        (let l = pushed-length old blank in omega arith) keeps' m).each,
  )
    where
      keeps' : Keeps (length (pushed old blank).states) after.states written.states
      keeps' = record { longer = (let l = same-length in omega arith); kept = λ q above inside. kept-other q (let l = pushed-length old blank in omega arith) }

-- The body goes back to the choice, and the part starts at the choice, or at the body.
module _ (greedy : Bool) (body : graph.Builder) (next start : ℕ) (old after : Draft) (blank : State)
    (b : Built body (length old.states) (pushed old blank) after start) where
  pub Built-loop : Built (graph.loop greedy body) next old (written greedy body next (length old.states) start old after blank b) (length old.states)
  Built-loop = record {
    extends = written-extends greedy body next (length old.states) start old after blank b;
    images = length old.states ∷ b.images;
    rises = rises greedy body next (length old.states) start old after blank b;
    mirrors = λ f next' base is sends. record {
      start_is = sends.0;
      each = each greedy body next (length old.states) start old after blank b f (body base (suc base)) next' is (b.mirrors f base (suc base) sends.0 sends.1);
    };
  }

  pub Built-loop_once : Built (graph.loop_once greedy body) next old (written greedy body next (length old.states) start old after blank b) start
  Built-loop_once = record {
    extends = written-extends greedy body next (length old.states) start old after blank b;
    images = length old.states ∷ b.images;
    rises = rises greedy body next (length old.states) start old after blank b;
    mirrors = λ f next' base is sends. record {
      start_is = (b.mirrors f base (suc base) sends.0 sends.1).start_is;
      each = each greedy body next (length old.states) start old after blank b f (body base (suc base)) next' is (b.mirrors f base (suc base) sends.0 sends.1);
    };
  }

-- the body goes on to the next state
module _ (greedy : Bool) (body : graph.Builder) (next start : ℕ) (old after : Draft) (blank : State) (b : Built body next (pushed old blank) after start) where
  pub Built-optional : Built (graph.build_optional greedy body) next old (written greedy body next next start old after blank b) (length old.states)
  Built-optional = record {
    extends = written-extends greedy body next next start old after blank b;
    images = length old.states ∷ b.images;
    rises = rises greedy body next next start old after blank b;
    mirrors = λ f next' base is sends. record {
      start_is = sends.0;
      each = each greedy body next next start old after blank b f (body next' (suc base)) next' is (b.mirrors f next' (suc base) is sends.1);
    };
  }

-- One option more: its body goes on to the options inside it, and its exit is theirs.
module _ (greedy : Bool) (n : ℕ) (body : graph.Builder) (next inner start : ℕ) (old mid after : Draft) (blank : State)
    (o : Built (graph.options greedy n body) next old mid inner)
    (b : Built body inner (pushed mid blank) after start) where
  abbrev later : Draft
  later = written greedy body next inner start mid after blank b

  pub Built-option : Built (graph.options greedy (suc n) body) next old later (length mid.states)
  Built-option = record {
    extends = Extends-trans old mid later o.extends (written-extends greedy body next inner start mid after blank b);
    images = o.images ++ (length mid.states ∷ b.images);
    rises = Rises-append (length old.states) (length mid.states) (length later.states) o.images (length mid.states ∷ b.images) o.rises
        (rises greedy body next inner start mid after blank b);
    mirrors = λ f next' base is sends. mirrors f next' base is (Sends-append f base o.images (length mid.states ∷ b.images) sends);
  }
    where
      mirrors : (f : ℕ → ℕ) (next' base : ℕ) → f next' ≡ next → Sends f base o.images × Sends f (base + length o.images) (length mid.states ∷ b.images)
          → Mirrors f (length old.states) later.states (graph.options greedy (suc n) body next' base) (o.images ++ (length mid.states ∷ b.images))
          (length mid.states)
      mirrors f next' base is sent =
          let i = graph.options greedy n body next' base in
          let m = o.mirrors f next' base is sent.0 in
          let long = AllZip-length (IsImage (Stands (length old.states) mid.states) f) i.states o.images m.each in
          let c = base + length i.states in
          let sent' : Sends f (base + length i.states) (length mid.states ∷ b.images) =
          subst (λ k. Sends f (base + k) (length mid.states ∷ b.images)) (sym long) sent.1 in
          let r = b.mirrors f i.start (suc (base + length i.states)) m.start_is sent'.1 in
          let kept = Mirrors-kept f (length old.states) (length old.states) mid.states later.states i o.images inner (omega arith)
          (Keeps-extends (length old.states) mid later (written-extends greedy body next inner start mid after blank b)) m in
          let part = body i.start (suc (base + length i.states)) in
          record {
            start_is = sent'.0;
            each =
                AllZip-append (IsImage (Stands (length old.states) later.states) f) i.states (graph.prefer greedy part.start next' ∷ part.states) o.images
                (length mid.states ∷ b.images) kept.each
                (AllZip-map (IsImage (Stands (length mid.states) later.states) f) (IsImage (Stands (length old.states) later.states) f)
                (IsImage-map (Stands (length mid.states) later.states) (Stands (length old.states) later.states)
                (Stands-kept (length old.states) (length mid.states) later.states later.states o.extends.longer
                (Keeps-same (length mid.states) later.states)) f)
                (graph.prefer greedy part.start next' ∷ part.states) (length mid.states ∷ b.images)
                (each greedy body next inner start mid after blank b f part next' is r));
          }
