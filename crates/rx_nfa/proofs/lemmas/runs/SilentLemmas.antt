-- Where no slots are written, a pattern's part has the first runs of its graph, but for the writes.
use Rattle.std.proofs.Common.{◌≡◌, ℕ, zero, suc, ◌*◌, List, [], ◌∷◌, ◌++◌, length, refl, sym, ◌∙◌, ap}
use Rattle.std.specs.Prelude.{◌&&◌, Option, None, map, option_map, nat_lt, nat_le, if◌then◌else◌}
use Rattle.rx_model.specs.Expression.{Expression}
use Rattle.rx_model.specs.Graph as graph
use Rattle.rx_model.specs.Machine.{graph_of, grid}
use Rattle.rx_model.specs.Refinement.{AgreesButForWrites}
use Rattle.rx_model.specs.Runs.{Configuration, Sieve, sieved, first_trace, nowhere}
use Rattle.rx_model.specs.Search.{WhichCaptures, all, implicit, none, told}
use Rattle.rx_model.proofs.lemmas.graphs.SieveLemmas.{AgreesButForWrites-sieved}
use Rattle.rx_model.proofs.lemmas.runs.WriteLemmas.{found-alike}
use Rattle.rx_nfa.specs.Built.{compiled_pattern, whole_slot}

-- a state that goes on, in place of a slot
abbrev erased : graph.State → graph.State
erased (graph.text bytes next) = graph.text bytes next
erased (graph.set members next) = graph.set members next
erased (graph.assertion kind next) = graph.assertion kind next
erased (graph.slot number next) = graph.choice (next ∷ [])
erased (graph.choice states) = graph.choice states
erased (graph.accept pattern) = graph.accept pattern

step-erased : (t : ℕ) (text : List ℕ) (end : ℕ) (s : graph.State) (i : ℕ) → graph.state_step t text end s i ≡ graph.state_step t text end (erased s) i
step-erased t text end (graph.text bytes next) i = refl
step-erased t text end (graph.set members next) i = refl
step-erased t text end (graph.assertion kind next) i = refl
step-erased t text end (graph.slot number next) i = refl
step-erased t text end (graph.choice states) i = refl
step-erased t text end (graph.accept pattern) i = refl

accepts-erased : (s : graph.State) → graph.state_accepts s ≡ graph.state_accepts (erased s)
accepts-erased (graph.text bytes next) = refl
accepts-erased (graph.set members next) = refl
accepts-erased (graph.assertion kind next) = refl
accepts-erased (graph.slot number next) = refl
accepts-erased (graph.choice states) = refl
accepts-erased (graph.accept pattern) = refl

at-erased : (xs : List graph.State) (q : ℕ) → erased (graph.state_at xs q) ≡ graph.state_at (map erased xs) q
at-erased [] zero = refl
at-erased [] (suc q) = refl
at-erased (x ∷ xs) zero = refl
at-erased (x ∷ xs) (suc q) = at-erased xs q

length-erased : (xs : List graph.State) → length xs ≡ length (map erased xs)
length-erased [] = refl
length-erased (x ∷ xs) = ap suc (length-erased xs)

module _ (t : ℕ) (text : List ℕ) (end : ℕ) where
  agrees-erased : (xs : List graph.State) → AgreesButForWrites (graph.runs_of t text end (map erased xs)) (graph.runs_of t text end xs)
  unfolding graph.runs_of graph_of
  agrees-erased xs = record {
    successors = λ c.
        let step : graph.state_step t text end (graph.state_at xs c.state) c.place
        ≡ graph.state_step t text end (graph.state_at (map erased xs) c.state) c.place =
        step-erased t text end (graph.state_at xs c.state) c.place ∙ ap (λ s. graph.state_step t text end s c.place) (at-erased xs c.state) in
        λ i. if nat_lt c.state (length-erased xs i) && nat_le c.place end then step i else [];
    accepted = λ c.
        let accepts : graph.state_accepts (graph.state_at xs c.state) ≡ graph.state_accepts (graph.state_at (map erased xs) c.state) =
        accepts-erased (graph.state_at xs c.state) ∙ ap graph.state_accepts (at-erased xs c.state) in
        λ i. if nat_lt c.state (length-erased xs i) && nat_le c.place end then accepts i else None;
    all = ap (λ n. grid n (suc end)) (length-erased xs);
  }

  -- parts that differ in slots alone
  told-erased : (ok : Sieve) (xs ys : List graph.State) → map erased xs ≡ map erased ys → (c : Configuration)
      → option_map (told none) (first_trace (sieved ok (graph.runs_of t text end xs)) c) ≡ option_map (told none)
      (first_trace (sieved ok (graph.runs_of t text end ys)) c)
  told-erased ok xs ys same c =
      found-alike (sieved ok (graph.runs_of t text end (map erased xs))) (sieved ok (graph.runs_of t text end xs))
      (AgreesButForWrites-sieved ok _ _ (agrees-erased xs)) nowhere c
      ∙ ap (λ zs. option_map (told none) (first_trace (sieved ok (graph.runs_of t text end zs)) c)) same
      ∙ sym (found-alike (sieved ok (graph.runs_of t text end (map erased ys))) (sieved ok (graph.runs_of t text end ys))
      (AgreesButForWrites-sieved ok _ _ (agrees-erased ys)) nowhere c)

  last-erased : (xs : List graph.State) (n next : ℕ) → map erased (xs ++ graph.choice (next ∷ []) ∷ []) ≡ map erased (xs ++ graph.slot n next ∷ [])
  last-erased [] n next = refl
  last-erased (x ∷ xs) n next = ap (λ zs. erased x ∷ zs) (last-erased xs n next)

  -- what is told of the part of a pattern is told of its graph
  pub told-part : (ok : Sieve) (which : WhichCaptures) (slot : ℕ → Option ℕ) (p : ℕ) (h : Expression) (i : ℕ)
      → option_map (told which) (first_trace (sieved ok (graph.runs_of t text end (compiled_pattern (whole_slot which p) (graph.build slot h) p).states))
      (graph.at (compiled_pattern (whole_slot which p) (graph.build slot h) p).start i))
      ≡ option_map (told which) (first_trace (sieved ok (graph.runs_of t text end (graph.build_pattern slot p h).states))
      (graph.at (graph.build_pattern slot p h).start i))
  unfolding compiled_pattern graph.build_pattern
  told-part ok all slot p h i = refl
  told-part ok implicit slot p h i = refl
  told-part ok none slot p h i =
      told-erased ok (compiled_pattern None (graph.build slot h) p).states (graph.build_pattern slot p h).states
      (ap (λ zs. graph.accept p ∷ graph.choice (0 ∷ []) ∷ zs) (last-erased (graph.build slot h 1 2).states (2 * p) (graph.build slot h 1 2).start))
      (graph.at (graph.build_pattern slot p h).start i)
