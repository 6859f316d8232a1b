-- The search of all that an entry leads to: how it starts, goes on and ends.
use Rattle.std.proofs.Common.{◌≡◌, ◌≢◌, ◌⊎◌, ℕ, ◌+◌, ◌<◌, ◌≤◌, List, [], ◌∷◌, ◌++◌, length, get_or, refl, sym, ◌∙◌, ap, subst, inl, inr, ⊎_elim, arith, ◌==◌}
use Rattle.std.specs.Prelude.{true, Some, Contains, slice_get, slice_set}
use Rattle.std.proofs.Common.{append_assoc}
use Rattle.std.proofs.lemmas.Bool.Decides.{nat_tests}
use Rattle.std.proofs.lemmas.List.{get_or_default, length-set}
use Rattle.rx_model.proofs.lemmas.runs.RunLemmas.{by_test}
use Rattle.rx_model.proofs.lemmas.runs.FirstLemmas.{some-is}
use Rattle.rx_model.proofs.lemmas.runs.MemberLemmas.{none-among, first-among, later-among, split-among, either-among, front-among, back-among}
use Rattle.rx_nfa.specs.Automaton.{state_at}
use Rattle.rx_nfa.specs.Nfa.{Nfa}
use Rattle.rx_nfa.proofs.lemmas.lists.ClosureLemmas.{resting-epsilon}
use Rattle.rx_onepass_table.specs.Entry.{Accepts, IsOutdone}
use Rattle.rx_nfa.specs.Walks.{epsilon_targets, WalksTo, IsPreferred, ReachesTwice}
use Rattle.rx_onepass_table.proofs.lemmas.WalkLemmas.{accepting-rests}
use Rattle.rx_onepass_build.specs.Order.{Precedes, going_on, GoesOnFrom}
use Rattle.rx_onepass_build.specs.Told.{IsWay, AreWays, frame_at}
use Rattle.rx_onepass_build.specs.Tree.{IsSearched, AreMarked, IsTaken, GoesOn}
use Rattle.rx_onepass_build.specs.declared.closure.Frame.{Frame}
use Rattle.rx_onepass_build.proofs.lemmas.ListLemmas.{set-same, set-other}
use Rattle.rx_onepass_build.proofs.lemmas.OrderLemmas.{precedes-itself, precedes-on, precedes-child, preferred-precedes, outdone-never, itself-never, Continues, precedes-parts, going-among, among-going, going-in_order}
use Rattle.rx_onepass_build.proofs.lemmas.WayLemmas.{walks-one, walks-next, way-next, ways-next}

module _ (nfa : Nfa) (entry : ℕ) where
  -- the walk of no choice is to be looked at
  pub searched-start : (f : Frame) → IsWay nfa entry [] f → IsSearched nfa entry [] ([] ∷ []) (f ∷ [])
  searched-start f w = record {
    frames_are = (w, tt);
    covered = λ way q leads. inr (record { from = []; among = first-among [] []; rest = way; is = refl });
    before = λ one other m n. absurd (none-among one m);
    in_order = ((λ other m. absurd (none-among other m)), tt);
  }

  -- The walk of the frame on top.
  pub record IsTop (done ways : List (List ℕ)) (f : Frame) (frames : List Frame) : Type 0 where
    pub way : List ℕ
    pub others : List (List ℕ)
    pub ways_are : ways ≡ way ∷ others
    pub searched : IsSearched nfa entry done (way ∷ others) (f ∷ frames)

  pub searched-top : (done ways : List (List ℕ)) (f : Frame) (frames : List Frame) → IsSearched nfa entry done ways (f ∷ frames) → IsTop done ways f frames
  searched-top done [] f frames s = absurd s.frames_are
  searched-top done (way ∷ others) f frames s = record { way = way; others = others; ways_are = refl; searched = s }

  module _ (done : List (List ℕ)) (way : List ℕ) (others : List (List ℕ)) (f : Frame) (frames : List Frame)
      (s : IsSearched nfa entry done (way ∷ others) (f ∷ frames)) where
    goes-covered : (n : ℕ) → n ≡ length (epsilon_targets (state_at nfa.states f.state)) → (other : List ℕ) (q : ℕ) → WalksTo nfa.states entry other q
        → Contains (way ∷ done) other ⊎ GoesOnFrom (going_on way 0 n ++ others) other
    goes-covered n count other q leads =
        ⊎_elim
        (λ before. inl (later-among way other done before))
        (λ (g : GoesOnFrom (way ∷ others) other).
        ⊎_elim
        (λ here. by g.rest (g.is ∙ ap (λ w. w ++ g.rest) (sym here)))
        (λ there. inr (record { from = g.from; among = back-among (going_on way 0 n) others g.from there; rest = g.rest; is = g.is }))
        (split-among way g.from others g.among))
        (s.covered other q leads)
      where
        append-none : (xs : List ℕ) → xs ++ [] ≡ xs
        append-none [] = refl
        append-none (x ∷ xs) = ap (λ ys. x ∷ ys) (append-none xs)

        by : (rest : List ℕ) → other ≡ way ++ rest → Contains (way ∷ done) other ⊎ GoesOnFrom (going_on way 0 n ++ others) other
        by [] e = inl (subst (λ w. Contains (way ∷ done) w) (sym (e ∙ append-none way)) (first-among way done))
        by (k ∷ rest) e =
            let lt = walks-next nfa.states entry way f.state k rest q s.frames_are.0.leads (subst (λ w. WalksTo nfa.states entry w q) e leads) in
            inr (record {
              from = way ++ k ∷ [];
              among =
                  front-among (going_on way 0 n) others (way ++ k ∷ [])
                  (let e : 0 + k ≡ k = omega arith in
                  subst (λ i. Contains (going_on way 0 n) (way ++ i ∷ [])) e (going-among way 0 n k (omega arith)));
              rest = rest;
              is = e ∙ sym (append_assoc way (k ∷ []) rest);
            })

    pub searched-on : (new : List Frame) → GoesOn nfa f frames new
        → IsSearched nfa entry (way ∷ done) (going_on way 0 (length (epsilon_targets (state_at nfa.states f.state))) ++ others) new
    searched-on new g = record {
      frames_are =
          subst (λ fs. AreWays nfa entry fs (going_on way 0 (length (epsilon_targets (state_at nfa.states f.state))) ++ others)) (sym g.frames)
          (ways-next nfa entry way g.later 0 (epsilon_targets (state_at nfa.states f.state)) frames others
          (λ j q lt e.
          let is : j ≡ 0 + j = omega arith in
          subst (λ i. IsWay nfa entry (way ++ i ∷ []) (frame_at g.later (get_or (epsilon_targets (state_at nfa.states f.state)) j q))) is
          (way-next nfa entry way f g.later j (get_or (epsilon_targets (state_at nfa.states f.state)) j q) s.frames_are.0 g.tells lt
          (get_or_default (epsilon_targets (state_at nfa.states f.state)) j f.state q lt)))
          s.frames_are.1);
      covered = goes-covered (length (epsilon_targets (state_at nfa.states f.state))) refl;
      before = before;
      in_order =
          going-in_order way 0 (length (epsilon_targets (state_at nfa.states f.state))) others s.in_order.1 s.in_order.0;
    }
      where
        before : (one other : List ℕ) → Contains (way ∷ done) one
            → Contains (going_on way 0 (length (epsilon_targets (state_at nfa.states f.state))) ++ others) other → Precedes one other
        before one other m n =
            ⊎_elim
            (λ next.
            let g' = among-going way 0 (length (epsilon_targets (state_at nfa.states f.state))) other next in
            subst (λ w. Precedes one w) g'.is
            (⊎_elim
            (λ here. subst (λ w. Precedes w (way ++ g'.choice ∷ [])) here (precedes-child way g'.choice))
            (λ there. precedes-on one way (g'.choice ∷ []) (s.before one way there (first-among way others)))
            (split-among way one done m)))
            (λ later.
            ⊎_elim
            (λ here. subst (λ w. Precedes w other) here (preferred-precedes way other (s.in_order.0 other later)))
            (λ there. s.before one other there (later-among way other others later))
            (split-among way one done m))
            (either-among (going_on way 0 (length (epsilon_targets (state_at nfa.states f.state)))) others other n)

    -- a walk that was looked at before is another one
    pub way-new : (one : List ℕ) → Contains done one → one ≢ way
    way-new one m e = precedes-itself way (subst (λ w. Precedes w way) e (s.before one way m (first-among way others)))

    -- The frame on top is taken.
    pub searched-taken : ((one : List ℕ) → Contains done one → WalksTo nfa.states entry one f.state → ⊥) → IsTaken nfa entry done way f
    searched-taken new = record {
      is_way = s.frames_are.0;
      new = new;
      outdone = outdone;
      outdoes = outdoes;
    }
      where
        outdone : IsOutdone nfa entry way → (p : ℕ) × (one : List ℕ) × Contains done one × Accepts nfa entry p one
        outdone o =
            ⊎_elim
            (λ m. (o.pattern, o.other, m, o.accepts))
            (λ (g : GoesOnFrom (way ∷ others) o.other).
            absurd (⊎_elim
            (λ here. itself-never way g.rest (subst (λ w. IsPreferred w way) (g.is ∙ ap (λ w. w ++ g.rest) (sym here)) o.preferred))
            (λ there.
            outdone-never way g.from g.rest (preferred-precedes way g.from (s.in_order.0 g.from there))
            (subst (λ w. IsPreferred w way) g.is o.preferred))
            (split-among way g.from others g.among)))
            (s.covered o.other o.accepts.state o.accepts.leads)

        outdoes : (p : ℕ) (one : List ℕ) → Contains done one → Accepts nfa entry p one → IsPreferred one way
        outdoes p one m a =
            ⊎_elim (λ better. better)
            (λ (c : Continues one way).
            let none : length (epsilon_targets (state_at nfa.states a.state)) ≡ 0 =
            ap length (resting-epsilon (λ kind. true) (state_at nfa.states a.state) (accepting-rests (state_at nfa.states a.state) p a.accepts)) in
            let lt = walks-next nfa.states entry one a.state c.next c.rest f.state a.leads
            (subst (λ w. WalksTo nfa.states entry w f.state) c.is s.frames_are.0.leads) in
            absurd (omega arith))
            (precedes-parts one way (s.before one way m (first-among way others)))

  -- where nothing is left to be looked at, each walk was
  pub searched-end : (done ways : List (List ℕ)) → IsSearched nfa entry done ways [] → (way : List ℕ) (q : ℕ) → WalksTo nfa.states entry way q
      → Contains done way
  searched-end done [] s way q leads =
      ⊎_elim (λ m. m) (λ (g : GoesOnFrom [] way). absurd (none-among g.from g.among)) (s.covered way q leads)
  searched-end done (w ∷ ways) s way q leads = absurd s.frames_are

  -- Marks.

  pub marked-start : (row : ℕ) (marks : List ℕ) → length marks ≡ length nfa.states → ((q mark : ℕ) → slice_get marks q ≡ Some mark → mark < row)
      → AreMarked nfa entry [] row marks
  marked-start row marks len less = record {
    len = len;
    told = λ q e. (let lt = less q row e in absurd (omega arith));
    back = λ way q m leads. absurd (none-among way m);
    once = λ one other q m n. absurd (none-among one m);
    last = λ q mark e. (let lt = less q mark e in omega arith);
  }

  -- a marked state was come to by another walk
  pub marked-twice : (done : List (List ℕ)) (row : ℕ) (marks : List ℕ) (way : List ℕ) (q : ℕ) → AreMarked nfa entry done row marks
      → slice_get marks q ≡ Some row → ((one : List ℕ) → Contains done one → one ≢ way) → WalksTo nfa.states entry way q → ReachesTwice nfa.states entry q
  marked-twice done row marks way q are marked new leads =
      let one = are.told q marked in
      record { one = one.0; other = way; differ = new one.0 one.1; leads = one.2; leads_too = leads }

  pub marked-new : (done : List (List ℕ)) (row : ℕ) (marks : List ℕ) (q : ℕ) → AreMarked nfa entry done row marks → (slice_get marks q ≡ Some row → ⊥)
      → (one : List ℕ) → Contains done one → WalksTo nfa.states entry one q → ⊥
  marked-new done row marks q are unmarked one m leads = unmarked (are.back one q m leads)

  -- one walk more
  pub marked-on : (done : List (List ℕ)) (row : ℕ) (marks : List ℕ) (way : List ℕ) (q : ℕ) → AreMarked nfa entry done row marks → q < length marks
      → (slice_get marks q ≡ Some row → ⊥) → WalksTo nfa.states entry way q → AreMarked nfa entry (way ∷ done) row (slice_set marks q row)
  marked-on done row marks way q are lt unmarked leads = record {
    len = length-set marks q row ∙ are.len;
    told = told;
    back = back;
    once = once;
    last = last;
  }
    where
      new : (one : List ℕ) → Contains done one → WalksTo nfa.states entry one q → ⊥
      new one m w = unmarked (are.back one q m w)

      told : (r : ℕ) → slice_get (slice_set marks q row) r ≡ Some row → (one : List ℕ) × Contains (way ∷ done) one × WalksTo nfa.states entry one r
      told r e =
          by_test (r == q)
          (λ same.
          let is : q ≡ r = grind (arith, nat_tests) in (way, first-among way done, subst (λ x. WalksTo nfa.states entry way x) is leads))
          (λ apart.
          let differ : r ≢ q = grind (arith, nat_tests) in
          let one = are.told r (sym (set-other marks q r row differ) ∙ e) in
          (one.0, later-among way one.0 done one.1, one.2))

      back : (one : List ℕ) (r : ℕ) → Contains (way ∷ done) one → WalksTo nfa.states entry one r → slice_get (slice_set marks q row) r ≡ Some row
      back one r m w =
          ⊎_elim
          (λ here.
          let is : q ≡ r = walks-one nfa.states entry one q r (subst (λ x. WalksTo nfa.states entry x q) here leads) w in
          subst (λ x. slice_get (slice_set marks q row) x ≡ Some row) is (set-same marks q row lt))
          (λ there.
          set-other marks q r row (λ same. new one there (subst (λ x. WalksTo nfa.states entry one x) same w)) ∙ are.back one r there w)
          (split-among way one done m)

      once : (one other : List ℕ) (r : ℕ) → Contains (way ∷ done) one → Contains (way ∷ done) other → WalksTo nfa.states entry one r
          → WalksTo nfa.states entry other r → one ≡ other
      once one other r m n w v =
          ⊎_elim
          (λ here.
          ⊎_elim (λ too. sym here ∙ too)
          (λ there.
          let is : r ≡ q = walks-one nfa.states entry way r q (subst (λ x. WalksTo nfa.states entry x r) (sym here) w) leads in
          absurd (new other there (subst (λ x. WalksTo nfa.states entry other x) is v)))
          (split-among way other done n))
          (λ before.
          ⊎_elim
          (λ here.
          let is : r ≡ q = walks-one nfa.states entry way r q (subst (λ x. WalksTo nfa.states entry x r) (sym here) v) leads in
          absurd (new one before (subst (λ x. WalksTo nfa.states entry one x) is w)))
          (λ there. are.once one other r before there w v)
          (split-among way other done n))
          (split-among way one done m)

      last : (r mark : ℕ) → slice_get (slice_set marks q row) r ≡ Some mark → mark ≤ row
      last r mark e =
          by_test (r == q)
          (λ same.
          let is : r ≡ q = grind (arith, nat_tests) in
          let here : row ≡ mark = some-is (sym (set-same marks q row lt) ∙ ap (slice_get (slice_set marks q row)) (sym is) ∙ e) in
          omega arith)
          (λ apart.
          let differ : r ≢ q = grind (arith, nat_tests) in are.last r mark (sym (set-other marks q r row differ) ∙ e))
