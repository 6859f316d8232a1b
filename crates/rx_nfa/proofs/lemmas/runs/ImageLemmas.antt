-- Where the states of a graph have their images in an NFA, the first runs are alike, wherever acceptance is permitted.
use Rattle.std.proofs.Common.{◌≡◌, ℕ, zero, suc, ◌+◌, ◌≤◌, ◌<◌, ◌⊎◌, List, [], ◌∷◌, length, refl, sym, ◌∙◌, ap, subst, inl, inr, ⊎_elim, arith, true≢false}
use Rattle.std.specs.Prelude.{true, false, if◌then◌else◌, nat_le, is_some, None, Contains, map, ⊤}
use Rattle.std.specs.List.{AllZip}
use Rattle.std.proofs.lemmas.Bool.{cases_lt}
use Rattle.std.proofs.lemmas.Bool.Decides.{nat_tests}
use Rattle.std.proofs.lemmas.List.{get_or_past}
use Rattle.rx_model.specs.Text.{stands_at, scalar_ranges, byte_ranges}
use Rattle.rx_model.specs.Look.{holds}
use Rattle.rx_model.specs.Graph as graph
use Rattle.rx_model.specs.Runs.{Configuration, PriorityGraph, Passed, Sieve, sieved, IsBounded, found, nowhere}
use Rattle.rx_model.specs.Machine.{is_inside, graph_of}
use Rattle.rx_model.proofs.lemmas.runs.RunLemmas.{by_test}
use Rattle.rx_model.proofs.lemmas.runs.MachineLemmas.{graph_of-bounded}
use Rattle.rx_model.proofs.lemmas.graphs.RefineLemmas.{moved, IsFresh, Stays, Reads, Fails, Refines, Refines-found-past}
use Rattle.rx_nfa.specs.Automaton.{at, state_at, state_step, state_accepts, state_writes, forwards, automaton}
use Rattle.rx_nfa.specs.States.{Stands}
use Rattle.rx_nfa.specs.Built.{IsImage, Rises, Sends}
use Rattle.rx_nfa.specs.declared.state.State.{State}
use Rattle.rx_nfa.specs.declared.state.State.TheVariants.{Look, Union, Capture, Match, Fail}
use Rattle.rx_nfa.proofs.lemmas.parts.BuiltLemmas.{AllZip-length, Rises-to}
use Rattle.rx_nfa.proofs.lemmas.runs.AutomatonLemmas.{stays-in, automaton-bounded, automaton-successors, automaton-accepted, automaton-written, automaton-successors-past, automaton-accepted-past, automaton-successors-beyond, automaton-accepted-beyond}
use Rattle.rx_nfa.proofs.lemmas.runs.RefinedLemmas.{reads-accepts, reads-writes, IsReader-reading, set-refined, member_len-scalar, member_len-byte, IsClass-reads, IsByteClass-reads}
use Rattle.rx_nfa.proofs.lemmas.runs.ChainLemmas.{chain-found, stands-none, after}

-- The image of each number: those of the list, and past them the numbers from n on.
pub image : List ℕ → (n k : ℕ) → ℕ
image [] n k = n + k
image (q ∷ qs) n zero = q
image (q ∷ qs) n (suc k) = image qs (suc n) k

Rises-more : (low n : ℕ) (qs : List ℕ) → Rises low n qs → Rises low (suc n) qs
Rises-more low n [] r = omega arith
Rises-more low n (q ∷ qs) r = (r.0, Rises-more (suc q) n qs r.1)

image-above : (qs : List ℕ) (low n k : ℕ) → Rises low n qs → low ≤ image qs n k
unfolding image
image-above [] low n k r = omega arith
image-above (q ∷ qs) low n zero r = r.0
image-above (q ∷ qs) low n (suc k) r = let first = r.0 in let later = image-above qs (suc q) (suc n) k (Rises-more (suc q) n qs r.1) in omega arith

image-rises : (qs : List ℕ) (low n j k : ℕ) → Rises low n qs → j < k → image qs n j < image qs n k
unfolding image
image-rises [] low n j k r lt = omega arith
image-rises (q ∷ qs) low n zero zero r lt = absurd (omega arith)
image-rises (q ∷ qs) low n zero (suc k) r lt = let later = image-above qs (suc q) (suc n) k (Rises-more (suc q) n qs r.1) in omega arith
image-rises (q ∷ qs) low n (suc j) zero r lt = absurd (omega arith)
image-rises (q ∷ qs) low n (suc j) (suc k) r lt = image-rises qs (suc q) (suc n) j k (Rises-more (suc q) n qs r.1) (omega arith)

pub image-apart : (qs : List ℕ) (low n j k : ℕ) → Rises low n qs → image qs n j ≡ image qs n k → j ≡ k
image-apart qs low n j k r e =
    ⊎_elim
    (λ less. let lt = image-rises qs low n j k r less in absurd (omega arith))
    (λ le. ⊎_elim (λ less. let lt = image-rises qs low n k j r less in absurd (omega arith)) (λ le'. omega arith) (cases_lt k j))
    (cases_lt j k)

pub image-past : (qs : List ℕ) (n k : ℕ) → length qs ≤ k → n ≤ image qs n k
unfolding image
image-past [] n k le = omega arith
image-past (q ∷ qs) n zero le = absurd (omega arith)
image-past (q ∷ qs) n (suc k) le = let later = image-past qs (suc n) k (omega arith) in omega arith

Rises-le : (low high : ℕ) (qs : List ℕ) → Rises low high qs → low ≤ high
Rises-le low high [] r = r
Rises-le low high (q ∷ qs) r = let first = r.0 in let later = Rises-le (suc q) high qs r.1 in omega arith

-- each image is one of the part's states, or lies from n on
pub image-either : (qs : List ℕ) (low high n k : ℕ) → Rises low high qs → (image qs n k < high) ⊎ (n ≤ image qs n k)
unfolding image
image-either [] low high n k r = inr (omega arith)
image-either (q ∷ qs) low high n zero r = inl (let later = Rises-le (suc q) high qs r.1 in omega arith)
image-either (q ∷ qs) low high n (suc k) r = ⊎_elim (λ lt. inl lt) (λ le. inr (omega arith)) (image-either qs (suc q) high (suc n) k r.1)

-- it sends the numbers from 0 on to the list
pub image-sends : (qs : List ℕ) (n : ℕ) → Sends (image qs n) 0 qs
unfolding image
image-sends qs n = from (image qs n) 0 qs n (λ k. let e : 0 + k ≡ k = omega arith in ap (image qs n) e)
  where
    from : (f : ℕ → ℕ) (base : ℕ) (qs : List ℕ) (n : ℕ) → ((k : ℕ) → f (base + k) ≡ image qs n k) → Sends f base qs
    from f base [] n each = tt
    from f base (q ∷ qs) n each = (
      let e : base ≡ base + 0 = omega arith in ap f e ∙ each 0,
      from f (suc base) qs (suc n) (λ k. let e : suc base + k ≡ base + suc k = omega arith in ap f e ∙ each (suc k)),
    )

-- side by side, by the number
pub zip-at : (R : graph.State → ℕ → Type 0) (xs : List graph.State) (qs : List ℕ) (n k : ℕ) → AllZip R xs qs → k < length xs
    → R (graph.state_at xs k) (image qs n k)
unfolding image
zip-at R [] qs n k z lt = absurd (omega arith)
zip-at R (x ∷ xs) [] n k z lt = absurd z
zip-at R (x ∷ xs) (q ∷ qs) n zero z lt = z.0
zip-at R (x ∷ xs) (q ∷ qs) n (suc k) z lt = zip-at R xs qs (suc n) k z.1 (omega arith)

module _ (t : ℕ) (text : List ℕ) (end : ℕ) (inside : end ≤ length text) (states : List graph.State) (whole : List State) (low high : ℕ) (images : List ℕ)
    (within : high ≤ length whole) (rises : Rises low high images) (each : AllZip (IsImage (Stands low whole) (image images (length whole)))
    states images) where
  abbrev f : ℕ → ℕ
  f = image images (length whole)

  abbrev g : PriorityGraph
  g = graph.runs_of t text end states

  abbrev m : PriorityGraph
  m = automaton t whole text end

  long : length states ≡ length images
  long = AllZip-length (IsImage (Stands low whole) f) states images each

  is_image : (k : ℕ) → k < length states → IsImage (Stands low whole) f (graph.state_at states k) (f k)
  is_image k lt = zip-at (IsImage (Stands low whole) f) states images (length whole) k each lt

  beyond : (k : ℕ) → length states ≤ k → length whole ≤ f k
  beyond k le = let l = long in image-past images (length whole) k (omega arith)

  -- what the graph does
  g-successors : (c : Configuration) → c.state < length states → c.place ≤ end
      → g.successors c ≡ graph.state_step t text end (graph.state_at states c.state) c.place
  unfolding graph.runs_of graph_of
  g-successors c lt le = let e : is_inside (graph.machine_of t text end states) end c ≡ true = grind (arith, nat_tests) in rw e refl

  g-accepted : (c : Configuration) → c.state < length states → c.place ≤ end → g.accepted c ≡ graph.state_accepts (graph.state_at states c.state)
  unfolding graph.runs_of graph_of
  g-accepted c lt le = let e : is_inside (graph.machine_of t text end states) end c ≡ true = grind (arith, nat_tests) in rw e refl

  g-written : (c : Configuration) → g.written c ≡ graph.state_writes (graph.state_at states c.state)
  unfolding graph.runs_of graph_of
  g-written c = refl

  g-outside : (c : Configuration) → (end < c.place) ⊎ (length states ≤ c.state) → (g.successors c ≡ []) × (g.accepted c ≡ None)
  unfolding graph.runs_of graph_of
  g-outside c (inl past) = let e : is_inside (graph.machine_of t text end states) end c ≡ false = grind (arith, nat_tests) in (rw e refl, rw e refl)
  g-outside c (inr past) = let e : is_inside (graph.machine_of t text end states) end c ≡ false = grind (arith, nat_tests) in (rw e refl, rw e refl)

  g-bounded : IsBounded g
  unfolding graph.runs_of
  g-bounded = graph_of-bounded (graph.machine_of t text end states) end

  -- and what the automaton does
  m-outside : (c : Configuration) → (end < c.place) ⊎ (length states ≤ c.state) → (m.successors (moved f c) ≡ []) × (m.accepted (moved f c) ≡ None)
  m-outside c (inl past) = (
    automaton-successors-past (forwards t text) whole end (f c.state) c.place past,
    automaton-accepted-past (forwards t text) whole end (f c.state) c.place past,
  )
  m-outside c (inr past) =
      let le = beyond c.state past in (
        automaton-successors-beyond (forwards t text) whole end (f c.state) c.place le,
        automaton-accepted-beyond (forwards t text) whole end (f c.state) c.place le,
      )

  -- its image is there
  image-inside : (s : graph.State) (q : ℕ) → IsImage (Stands low whole) f s q → q < length whole
  image-inside (graph.text [] next) q h = h.inside
  image-inside (graph.text (b ∷ bytes) next) q h = h.1.inside
  image-inside (graph.set (scalar_ranges ranges) next) q h = h.reads.stands.inside
  image-inside (graph.set (byte_ranges ranges) next) q h = h.1.reads.stands.inside
  image-inside (graph.assertion kind next) q h = h.2.inside
  image-inside (graph.slot number next) q h = h.1.inside
  image-inside (graph.choice qs) q h = h.inside
  image-inside (graph.accept pattern) q h = h.inside

  image-accepts : (s : graph.State) (q : ℕ) → IsImage (Stands low whole) f s q → state_accepts (state_at whole q) ≡ graph.state_accepts s
  image-accepts (graph.text [] next) q h = ap state_accepts h.is
  image-accepts (graph.text (b ∷ bytes) next) q h = ap state_accepts h.1.is
  image-accepts (graph.set (scalar_ranges ranges) next) q h = reads-accepts (state_at whole q) h.row (IsReader-reading low whole q h.row h.reads)
  image-accepts (graph.set (byte_ranges ranges) next) q h = reads-accepts (state_at whole q) h.1.row (IsReader-reading low whole q h.1.row h.1.reads)
  image-accepts (graph.assertion kind next) q h = ap state_accepts h.2.is
  image-accepts (graph.slot number next) q h = ap state_accepts h.1.is
  image-accepts (graph.choice qs) q h = ap state_accepts h.is
  image-accepts (graph.accept pattern) q h = ap state_accepts h.is

  image-writes : (s : graph.State) (q : ℕ) → IsImage (Stands low whole) f s q → state_writes (state_at whole q) ≡ graph.state_writes s
  image-writes (graph.text [] next) q h = ap state_writes h.is
  image-writes (graph.text (b ∷ bytes) next) q h = ap state_writes h.1.is
  image-writes (graph.set (scalar_ranges ranges) next) q h = reads-writes (state_at whole q) h.row (IsReader-reading low whole q h.row h.reads)
  image-writes (graph.set (byte_ranges ranges) next) q h = reads-writes (state_at whole q) h.1.row (IsReader-reading low whole q h.1.row h.1.reads)
  image-writes (graph.assertion kind next) q h = ap state_writes h.2.is
  image-writes (graph.slot number next) q h = ap state_writes h.1.is
  image-writes (graph.choice qs) q h = ap state_writes h.is
  image-writes (graph.accept pattern) q h = ap state_writes h.is

  -- c is inside, or it does nothing
  by_place : {P : Type 0} (c : Configuration) → (c.state < length states → c.place ≤ end → P) → ((end < c.place) ⊎ (length states ≤ c.state) → P) → P
  by_place c here outside =
      ⊎_elim
      (λ past. outside (inl past))
      (λ le. ⊎_elim (λ lt. here lt le) (λ past. outside (inr past)) (cases_lt c.state (length states)))
      (cases_lt end c.place)

  accepted : (c : Configuration) → m.accepted (moved f c) ≡ g.accepted c
  accepted c =
      by_place c
      (λ lt le.
      let h = is_image c.state lt in
      automaton-accepted (forwards t text) whole end (f c.state) c.place (image-inside (graph.state_at states c.state) (f c.state) h) le
      ∙ image-accepts (graph.state_at states c.state) (f c.state) h
      ∙ sym (g-accepted c lt le))
      (λ out. (m-outside c out).1 ∙ sym (g-outside c out).1)

  written : (c : Configuration) → m.written (moved f c) ≡ g.written c
  written c =
      automaton-written (forwards t text) whole end (f c.state) c.place
      ∙ ⊎_elim
      (λ lt. image-writes (graph.state_at states c.state) (f c.state) (is_image c.state lt))
      (λ past. (λ i. state_writes (get_or_past whole (f c.state) Fail (beyond c.state past) i))
      ∙ sym (λ i. graph.state_writes (get_or_past states c.state (graph.choice []) past i)))
      (cases_lt c.state (length states))
      ∙ sym (g-written c)

  -- c keeps its place, where what it goes on to is known in both
  stays : (c : Configuration) (qs : List ℕ) → g.successors c ≡ map (λ q. at q c.place) qs → m.successors (moved f c) ≡ map (λ q. at q c.place) (map f qs)
      → Stays g m f c
  stays c qs in_g in_m = record {
    written = written c;
    successors = in_m ∙ each_moved qs ∙ sym (ap (map (moved f)) in_g);
    places = λ d member. sym (stays-in c.place qs d (subst (λ ds. Contains ds d) in_g member));
  }
    where
      each_moved : (qs : List ℕ) → map (λ q. at q c.place) (map f qs) ≡ map (moved f) (map (λ q. at q c.place) qs)
      each_moved [] = refl
      each_moved (q ∷ qs) = ap (λ ds. at (f q) c.place ∷ ds) (each_moved qs)

  goes_on : (c : Configuration) → c.state < length states → c.place ≤ end → (s : graph.State) → graph.state_at states c.state ≡ s
      → IsImage (Stands low whole) f s (f c.state)
      → Stays g m f c ⊎ Reads g m f c ⊎ Fails g m f c
  goes_on c lt le s is h = kinds s h (g-written c ∙ ap graph.state_writes is) (g-successors c lt le ∙ ap (λ x. graph.state_step t text end x c.place) is)
      (λ state at_image. automaton-successors (forwards t text) whole end (f c.state) c.place (image-inside s (f c.state) h) le
      ∙ ap (λ x. state_step (forwards t text) end x c.place) at_image)
    where
      kinds : (s : graph.State) → IsImage (Stands low whole) f s (f c.state) → g.written c ≡ graph.state_writes s
          → g.successors c ≡ graph.state_step t text end s c.place
          → ((state : State) → state_at whole (f c.state) ≡ state → m.successors (moved f c) ≡ state_step (forwards t text) end state c.place)
          → Stays g m f c ⊎ Reads g m f c ⊎ Fails g m f c
      kinds (graph.text [] next) h w in_g in_m =
          let none : c.place + 0 ≡ c.place = omega arith in
          let fits : nat_le (c.place + 0) end ≡ true = grind (arith, nat_tests) in
          let to : graph.state_step t text end (graph.text [] next) c.place ≡ at next c.place ∷ [] =
          rw (stands-none text c.place, fits) (ap (λ i. at next i ∷ []) none) in
          inl (stays c (next ∷ []) (in_g ∙ to) (in_m (Union (f next ∷ [])) h.is))
      kinds (graph.text (b ∷ bytes) next) h w in_g in_m =
          let reads : (ok : Sieve) (p : Passed) → IsFresh p (moved f c)
          → found (sieved ok m) p (moved f c) ≡ after ok (forwards t text) whole end low p (f next) c.place (stands_at text c.place (b ∷ bytes))
          (suc (length bytes)) =
          λ ok p fresh. chain-found ok t whole text end inside low p (f c.state) (b ∷ bytes) (f next) c.place le h fresh.new fresh.ahead in
          by_test (stands_at text c.place (b ∷ bytes))
          (λ stands. by_test (nat_le (c.place + suc (length bytes)) end)
          (λ fits. inr (inl (record {
            target = at next (c.place + suc (length bytes));
            written = w;
            successors = in_g ∙ rw (stands, fits) refl;
            later = omega arith;
            reads = λ ok p fresh. reads ok p fresh ∙ rw (stands, fits) refl;
          })))
          (λ short. inr (inr (record { successors = in_g ∙ rw (stands, short) refl; fails = λ ok p fresh. reads ok p fresh ∙ rw (stands, short) refl }))))
          (λ gone. inr (inr (record { successors = in_g ∙ rw gone refl; fails = λ ok p fresh. reads ok p fresh ∙ rw gone refl })))
      kinds (graph.set (scalar_ranges ranges) next) h w in_g in_m =
          inr (set-refined g m f t text end c.state next c.place (scalar_ranges ranges) (λ n e. member_len-scalar text ranges c.place n e) w in_g
          (λ ok. IsClass-reads ok t whole text end low (f next) (f c.state) ranges inside h))
      kinds (graph.set (byte_ranges ranges) next) h w in_g in_m =
          inr (set-refined g m f t text end c.state next c.place (byte_ranges ranges) (λ n e. member_len-byte text ranges c.place n e) w in_g
          (λ ok. IsByteClass-reads ok t whole text end low (f next) (f c.state) ranges inside h.0 h.1))
      kinds (graph.assertion kind next) h w in_g in_m =
          let goes = in_m (Look h.0 (f next)) h.2.is ∙ ap (λ k. if holds t text k c.place then at (f next) c.place ∷ [] else []) h.1 in
          by_test (holds t text kind c.place)
          (λ here. inl (stays c (next ∷ []) (in_g ∙ rw here refl) (goes ∙ rw here refl)))
          (λ gone. inl (stays c [] (in_g ∙ rw gone refl) (goes ∙ rw gone refl)))
      kinds (graph.slot number next) h w in_g in_m = inl (stays c (next ∷ []) in_g (in_m (Capture (f next) h.0 number) h.1.is))
      kinds (graph.choice qs) h w in_g in_m = inl (stays c qs in_g (in_m (Union (map f qs)) h.is))
      kinds (graph.accept pattern) h w in_g in_m = inl (stays c [] in_g (in_m (Match pattern) h.is))

  refines : Refines g m f (λ k. ⊤)
  refines = record {
    apart = λ j k lt lt' e. image-apart images low (length whole) j k (Rises-up rises) e;
    stays_live = λ c d live member. tt;
    accepted = λ c live. accepted c;
    ends = λ c live accepts. ends c accepts;
    goes_on = λ c live none.
        by_place c
        (λ lt le. goes_on c lt le (graph.state_at states c.state) refl (is_image c.state lt))
        (λ out. inl (stays c [] (g-outside c out).0 (m-outside c out).0));
  }
    where
      -- what accepts goes nowhere
      ends : (c : Configuration) → is_some (g.accepted c) ≡ true → (g.successors c ≡ []) × (m.successors (moved f c) ≡ [])
      ends c accepts =
          by_place c
          (λ lt le. kinds lt le (graph.state_at states c.state) refl (is_image c.state lt) (sym (ap is_some (g-accepted c lt le)) ∙ accepts))
          (λ out. ((g-outside c out).0, (m-outside c out).0))
        where
          kinds : c.state < length states → c.place ≤ end → (s : graph.State) → graph.state_at states c.state ≡ s → IsImage (Stands low whole) f s (f c.state)
              → is_some (graph.state_accepts (graph.state_at states c.state)) ≡ true → (g.successors c ≡ []) × (m.successors (moved f c) ≡ [])
          kinds lt le (graph.accept pattern) is h accepts = (
            g-successors c lt le ∙ ap (λ x. graph.state_step t text end x c.place) is,
            automaton-successors (forwards t text) whole end (f c.state) c.place h.inside le ∙ ap (λ x. state_step (forwards t text) end x c.place) h.is,
          )
          kinds lt le (graph.text bytes next) is h accepts = absurd (true≢false (sym accepts ∙ ap (λ x. is_some (graph.state_accepts x)) is))
          kinds lt le (graph.set members next) is h accepts = absurd (true≢false (sym accepts ∙ ap (λ x. is_some (graph.state_accepts x)) is))
          kinds lt le (graph.assertion kind next) is h accepts = absurd (true≢false (sym accepts ∙ ap (λ x. is_some (graph.state_accepts x)) is))
          kinds lt le (graph.slot number next) is h accepts = absurd (true≢false (sym accepts ∙ ap (λ x. is_some (graph.state_accepts x)) is))
          kinds lt le (graph.choice qs) is h accepts = absurd (true≢false (sym accepts ∙ ap (λ x. is_some (graph.state_accepts x)) is))

      Rises-up : Rises low high images → Rises low (length whole) images
      Rises-up r = Rises-to low high (length whole) images within r

  -- whatever the automaton has passed of states that are no images
  pub image-found : (ok : Sieve) (q : Passed) (k i : ℕ) → ((j i : ℕ) → q (at (f j) i) ≡ false) → ((d : Configuration) → i < d.place → q d ≡ false)
      → found (sieved ok m) q (at (f k) i) ≡ found (sieved ok g) nowhere (at k i)
  image-found ok q k i apart ahead =
      Refines-found-past g m f (λ k. ⊤) refines g-bounded (automaton-bounded (forwards t text) whole end) ok q (at k i) tt (λ a j live. apart a j) ahead
