-- Walks of an automaton through the images of a graph's states, whichever way a text is read.
use Rattle.std.proofs.Common.{◌≡◌, ℕ, zero, suc, ◌+◌, ◌≤◌, ◌<◌, List, [], ◌∷◌, refl, sym, ◌∙◌, ap, subst, ⊎_elim, arith, length}
use Rattle.std.specs.Prelude.{true, false, ◌&&◌, Option, Some, None, Contains, if◌then◌else◌, map, nat_le, nat_lt}
use Rattle.std.specs.List.{AllZip}
use Rattle.std.proofs.lemmas.Bool.{cases_lt}
use Rattle.std.proofs.lemmas.Bool.Decides.{nat_tests}
use Rattle.std.proofs.lemmas.Option.{none-some, same_Some}
use Rattle.rx_model.specs.Text.{is_member, byte_ranges}
use Rattle.rx_model.specs.Look as model
use Rattle.rx_model.specs.Graph as graph
use Rattle.rx_model.specs.Runs.{Configuration, PriorityGraph, Leads}
use Rattle.rx_model.proofs.lemmas.runs.RunLemmas.{by_test}
use Rattle.rx_model.proofs.lemmas.runs.MemberLemmas.{choice-member, member-choice, first-among, only-among, none-among, map-among, among-map}
use Rattle.rx_model.proofs.lemmas.graphs.PlacedLemmas.{Placed-first}
use Rattle.rx_search.specs.Look.{kind_of}
use Rattle.rx_nfa.specs.Automaton.{at, route, go_on, read_byte, Surroundings, state_step, state_accepts, automaton_over}
use Rattle.rx_nfa.specs.Built.{IsChain, IsImage}
use Rattle.rx_nfa.specs.Ranges.{StaysBelow}
use Rattle.rx_nfa.specs.Row.{HasReader}
use Rattle.rx_nfa.specs.States.{Stands}
use Rattle.rx_nfa.specs.Trie.{IsByteClass}
use Rattle.rx_nfa.specs.declared.state.Transition.{Transition}
use Rattle.rx_nfa.specs.declared.state.State.{State}
use Rattle.rx_nfa.specs.declared.state.State.TheVariants.{ByteRange, Look, Union, Capture}
use Rattle.rx_nfa.proofs.lemmas.runs.AutomatonLemmas.{automaton-successors, automaton-accepted, automaton-successors-past, automaton-accepted-past}
use Rattle.rx_nfa.proofs.lemmas.runs.ImageLemmas.{image, zip-at}
use Rattle.rx_nfa.proofs.lemmas.runs.RefinedLemmas.{reads-step, reads-accepts}
use Rattle.rx_model.proofs.lemmas.meaning.PartLemmas.{Chooses, Spells}
use Rattle.rx_model.proofs.lemmas.graphs.StateLemmas.{IsStateOf}
use Rattle.rx_nfa.proofs.lemmas.classes.ApartLemmas.{below-true}

-- no number of more than a byte is a member of byte ranges
member-small : (rs : List (ℕ × ℕ)) (b : ℕ) → StaysBelow 255 rs → 256 ≤ b → is_member rs b ≡ false
member-small [] b small big = refl
member-small (r ∷ rs) b small big =
    let first = small.0 in
    let out : (nat_le r.0 b && nat_le b r.1) ≡ false = past-end r.0 r.1 b (omega arith) in
    rw out (member-small rs b small.1 big)
  where
    past-end : (low high b : ℕ) → high < b → (nat_le low b && nat_le b high) ≡ false
    past-end low high b lt = grind (arith, nat_tests)

-- the bytes are read one after another
abbrev pub ReadsBytes : (byte : ℕ → ℕ) → (end : ℕ) → List ℕ → ℕ → ℕ → Type 0
ReadsBytes byte end [] i j = i ≡ j
ReadsBytes byte end (b ∷ bytes) i j = (i < end) × (byte i ≡ b) × ReadsBytes byte end bytes (i + 1) j

pub ReadsBytes-rises : (byte : ℕ → ℕ) (end : ℕ) (bytes : List ℕ) (i j : ℕ) → ReadsBytes byte end bytes i j → i + length bytes ≡ j
ReadsBytes-rises byte end [] i j e = omega arith
ReadsBytes-rises byte end (b ∷ bytes) i j h = let later = ReadsBytes-rises byte end bytes (i + 1) j h.2 in omega arith

module _ (around : Surroundings) (states : List State) (end : ℕ) where
  abbrev g : PriorityGraph
  g = automaton_over around states end

  -- a step of a state that is known
  pub walk-step : (pattern final n q i : ℕ) (s : State) → Stands 0 states q s → state_accepts s ≡ None → Leads g pattern final n (at q i)
      → (m : ℕ) × (d : Configuration) × (n ≡ suc m) × Contains (state_step around end s i) d × Leads g pattern final m d × (i ≤ end)
  walk-step pattern final zero q i s stands none h =
      ⊎_elim
      (λ past. absurd (none-some pattern (sym (automaton-accepted-past around states end q i past) ∙ h.0)))
      (λ le. absurd (none-some pattern (sym (automaton-accepted around states end q i stands.inside le ∙ ap state_accepts stands.is ∙ none) ∙ h.0)))
      (cases_lt end i)
  walk-step pattern final (suc n) q i s stands none h =
      ⊎_elim
      (λ past. absurd (none-among h.0 (subst (λ ds. Contains ds h.0) (automaton-successors-past around states end q i past) h.1)))
      (λ le. (
        n,
        h.0,
        refl,
        subst (λ ds. Contains ds h.0) (automaton-successors around states end q i stands.inside le
            ∙ ap (λ t. state_step around end t i) stands.is) h.1,
        h.2,
        le,
      ))
      (cases_lt end i)

  pub step-walk : (pattern final m q i : ℕ) (s : State) (d : Configuration) → Stands 0 states q s → i ≤ end → Contains (state_step around end s i) d
      → Leads g pattern final m d → Leads g pattern final (suc m) (at q i)
  step-walk pattern final m q i s d stands le member h = (
    d,
    subst (λ ds. Contains ds d) (sym (automaton-successors around states end q i stands.inside le ∙ ap (λ t. state_step around end t i) stands.is))
        member,
    h,
  )

  pub walk-within : (pattern final n q i : ℕ) → Leads g pattern final n (at q i) → i ≤ end
  walk-within pattern final zero q i h =
      ⊎_elim (λ past. absurd (none-some pattern (sym (automaton-accepted-past around states end q i past) ∙ h.0))) (λ le. le) (cases_lt end i)
  walk-within pattern final (suc n) q i h =
      ⊎_elim (λ past. absurd (none-among h.0 (subst (λ ds. Contains ds h.0) (automaton-successors-past around states end q i past) h.1))) (λ le. le)
      (cases_lt end i)

  byte-in : (low high b : ℕ) → low ≤ b → b ≤ high → (nat_le low b && nat_le b high) ≡ true
  byte-in low high b le le' = grind (arith, nat_tests)

  byte-equal : (x b : ℕ) → (nat_le b x && nat_le x b) ≡ true → x ≡ b
  byte-equal x b e = grind (arith, nat_tests)

  below-is : (a b : ℕ) → nat_lt a b ≡ true → a < b
  below-is a b e = grind (arith, nat_tests)

  -- what a byte leads to, if it is read
  go_on-member : (o : Option ℕ) (place : ℕ) (d : Configuration) → Contains (go_on o place) d → (q : ℕ) × (o ≡ Some q) × (at q place ≡ d)
  go_on-member None place d m = absurd (none-among d m)
  go_on-member (Some q) place d m = (q, refl, only-among (at q place) d m)

  read-member : (ts : List Transition) (i : ℕ) (d : Configuration) → Contains (read_byte around.byte end ts i) d
      → (i < end) × (q : ℕ) × (route ts (around.byte i) ≡ Some q) × (at q (i + 1) ≡ d)
  read-member ts i d m =
      by_test (nat_lt i end)
      (λ e. let y = go_on-member (route ts (around.byte i)) (i + 1) d (subst (λ b. Contains (if b then go_on (route ts (around.byte i)) (i + 1) else []) d) e
      m) in (below-is i end e, y.0, y.1, y.2))
      (λ e. absurd (none-among d (subst (λ b. Contains (if b then go_on (route ts (around.byte i)) (i + 1) else []) d) e m)))

  member-read : (ts : List Transition) (i q : ℕ) → i < end → route ts (around.byte i) ≡ Some q → Contains (read_byte around.byte end ts i) (at q (i + 1))
  member-read ts i q lt is =
      subst (λ b. Contains (if b then go_on (route ts (around.byte i)) (i + 1) else []) (at q (i + 1))) (sym (below-true i end lt))
      (subst (λ o. Contains (go_on o (i + 1)) (at q (i + 1))) (sym is) (first-among (at q (i + 1)) []))

  chain-walked : (pattern final : ℕ) (bytes : List ℕ) (q r n i : ℕ) → IsChain (Stands 0 states) q bytes r → Leads g pattern final n (at q i)
      → (j m : ℕ) × ReadsBytes around.byte end bytes i j × (m ≤ n) × Leads g pattern final m (at r j)
  chain-walked pattern final [] q r n i c h = (i, n, refl, omega arith, subst (λ x. Leads g pattern final n (at x i)) c h)
  chain-walked pattern final (b ∷ bytes) q r n i c h =
      let x = walk-step pattern final n q i (ByteRange b b c.0) c.1 refl h in
      let y = read-member (record { start = b; end = b; next = c.0 } ∷ []) i x.1 x.3 in
      by_test (nat_le b (around.byte i) && nat_le (around.byte i) b)
      (λ e.
      let target : c.0 ≡ y.1 = same_Some _ _ (sym (ap (λ t. if t then Some c.0 else None) e) ∙ y.2) in
      let z =
      chain-walked pattern final bytes c.0 r x.0 (i + 1) c.2 (subst (λ d. Leads g pattern final x.0 d) (sym y.3 ∙ ap (λ s. at s (i + 1)) (sym target)) x.4) in
      (z.0, z.1, (y.0, byte-equal (around.byte i) b e, z.2), (let e' = x.2 in let le = z.3 in omega arith), z.4))
      (λ e. absurd (none-some y.1 (sym (ap (λ t. if t then Some c.0 else None) e) ∙ y.2)))

  chain-walk : (pattern final : ℕ) (bytes : List ℕ) (q r m i j : ℕ) → IsChain (Stands 0 states) q bytes r → ReadsBytes around.byte end bytes i j
      → Leads g pattern final m (at r j)
      → (n : ℕ) × Leads g pattern final n (at q i)
  chain-walk pattern final [] q r m i j c e h = (
    m,
    subst (λ k. Leads g pattern final m (at q k)) (sym e)
        (subst (λ x. Leads g pattern final m (at x j)) (sym c) h),
  )
  chain-walk pattern final (b ∷ bytes) q r m i j c read h =
      let later = chain-walk pattern final bytes c.0 r m (i + 1) j c.2 read.2 h in
      let lt = read.0 in
      let same = read.1 in
      let hit : (nat_le b (around.byte i) && nat_le (around.byte i) b) ≡ true = byte-in b b (around.byte i) (omega arith) (omega arith) in (
        suc later.0,
        step-walk pattern final later.0 q i (ByteRange b b c.0) (at c.0 (i + 1)) c.1 (omega arith)
            (member-read (record { start = b; end = b; next = c.0 } ∷ []) i c.0 lt (ap (λ t. if t then Some c.0 else None) hit)) later.1,
      )

-- Walks through a part.
module _ (around : Surroundings) (states : List State) (end pattern final : ℕ) (whole : List graph.State) (images : List ℕ)
    (each : AllZip (IsImage (Stands 0 states) (image images (length states))) whole images) where
  abbrev pub f : ℕ → ℕ
  f = image images (length states)

  -- a walk of n steps from the image of state c at i
  abbrev pub Goes : ℕ → ℕ → ℕ → Type 0
  Goes n c i = Leads (automaton_over around states end) pattern final n (at (f c) i)

  pub image-of : (c : ℕ) (s : graph.State) → IsStateOf whole c s → IsImage (Stands 0 states) f s (f c)
  image-of c s is = subst (λ t. IsImage (Stands 0 states) f t (f c)) is.1 (zip-at (IsImage (Stands 0 states) f) whole images (length states) c each is.0)

  pub chooses : Chooses whole Goes end
  chooses = record {
    within = λ n c i h. walk-within around states end pattern final n (f c) i h;
    walked = λ n c i qs is h.
        (let x = walk-step around states end pattern final n (f c) i (Union (map f qs)) (image-of c (graph.choice qs) is) refl h in
        let y = choice-member (map f qs) i x.1 x.3 in
        let z = map-among f qs y.0 y.1 in (
          x.0,
          x.2,
          z.0,
          z.1,
          subst (λ q. Leads (automaton_over around states end) pattern final x.0 (at q i)) (sym z.2)
              (subst (λ d. Leads (automaton_over around states end) pattern final x.0 d) (sym y.2) x.4),
        ));
    walks = λ m c i qs q is member h.
        step-walk around states end pattern final m (f c) i (Union (map f qs)) (at (f q) i) (image-of c (graph.choice qs) is)
        (walk-within around states end pattern final m (f q) i h)
        (member-choice (map f qs) i (f q) (among-map f qs q member)) h;
  }

  -- a state that keeps the place
  Spells-stay : (state : ℕ → graph.State) → ((next c : ℕ) → IsStateOf whole c (state next)
      → (s : State) × Stands 0 states (f c) s × (state_accepts s ≡ None) × ((i : ℕ) → state_step around end s i ≡ at (f next) i ∷ []))
      → Spells whole Goes end chooses (λ i j. i ≡ j) (graph.build_state state)
  Spells-stay state stays = record {
    rises = λ i j e. omega arith;
    walked = λ next base n i placed h.
        (let s = stays next base (Placed-first whole base (state next) [] placed) in
        let x = walk-step around states end pattern final n (f base) i s.0 s.1 s.2 h in
        let is = only-among (at (f next) i) x.1 (subst (λ ds. Contains ds x.1) (s.3 i) x.3) in
        (i, x.0, refl, (let e = x.2 in omega arith), subst (λ c. Leads (automaton_over around states end) pattern final x.0 c) (sym is) x.4));
    walks = λ next base m i j placed e goes.
        (let s = stays next base (Placed-first whole base (state next) [] placed) in
        let goes' : Goes m next i = subst (λ k. Goes m next k) (sym e) goes in (
          suc m,
          step-walk around states end pattern final m (f base) i s.0 (at (f next) i) s.1 (walk-within around states end pattern final m (f next) i goes')
              (subst (λ ds. Contains ds (at (f next) i)) (sym (s.3 i)) (first-among (at (f next) i) [])) goes',
        ));
  }

  pub Spells-slot : (number : ℕ) → Spells whole Goes end chooses (λ i j. i ≡ j) (graph.build_state (graph.slot number))
  Spells-slot number =
      Spells-stay (graph.slot number) (λ next c is. (let m = image-of c (graph.slot number next) is in (Capture (f next) m.0 number, m.1, refl, λ i. refl)))

  pub Spells-way : Spells whole Goes end chooses (λ i j. i ≡ j) (graph.build_state (λ next. graph.choice (next ∷ [])))
  Spells-way = Spells-stay (λ next. graph.choice (next ∷ [])) (λ next c is. (Union (f next ∷ []), image-of c (graph.choice (next ∷ [])) is, refl, λ i. refl))

  pub Spells-look : (kind : model.Look) → Spells whole Goes end chooses (λ i j. (around.looks kind i ≡ true) × (i ≡ j))
      (graph.build_state (graph.assertion kind))
  Spells-look kind = record {
    rises = λ i j h. (let e = h.1 in omega arith);
    walked = λ next base n i placed h.
        (let m = image-of base (graph.assertion kind next) (Placed-first whole base (graph.assertion kind next) [] placed) in
        let x = walk-step around states end pattern final n (f base) i (Look m.0 (f next)) m.2 refl h in
        by_test (around.looks (kind_of m.0) i)
        (λ e.
        let is = only-among (at (f next) i) x.1 (subst (λ b. Contains (if b then at (f next) i ∷ [] else []) x.1) e x.3) in (
          i,
          x.0,
          (ap (λ k. around.looks k i) (sym m.1) ∙ e, refl),
          (let e' = x.2 in omega arith),
          subst (λ c. Leads (automaton_over around states end) pattern final x.0 c) (sym is) x.4,
        ))
        (λ e. absurd (none-among x.1 (subst (λ b. Contains (if b then at (f next) i ∷ [] else []) x.1) e x.3))));
    walks = λ next base m i j placed h goes.
        (let im = image-of base (graph.assertion kind next) (Placed-first whole base (graph.assertion kind next) [] placed) in
        let goes' : Goes m next i = subst (λ k. Goes m next k) (sym h.1) goes in (
          suc m,
          step-walk around states end pattern final m (f base) i (Look im.0 (f next)) (at (f next) i) im.2
              (walk-within around states end pattern final m (f next) i goes')
              (subst (λ b. Contains (if b then at (f next) i ∷ [] else []) (at (f next) i)) (sym (ap (λ k. around.looks k i) im.1 ∙ h.0))
              (first-among (at (f next) i) [])) goes',
        ));
  }

  -- the byte at i is a member
  abbrev pub ReadsMember : List (ℕ × ℕ) → ℕ → ℕ → Type 0
  ReadsMember rs i j = (i < end) × (is_member rs (around.byte i) ≡ true) × (i + 1 ≡ j)

  -- where a class of bytes leads
  class-route : (rs : List (ℕ × ℕ)) (next q b : ℕ) → StaysBelow 255 rs → (c : IsByteClass (HasReader (Stands 0 states)) next rs q)
      → route c.row b ≡ (if is_member rs b then Some next else None)
  class-route rs next q b small c =
      ⊎_elim
      (λ lt. c.each b lt)
      (λ big. c.of_none b big ∙ sym (ap (λ x. if x then Some next else None) (member-small rs b small big)))
      (cases_lt b 256)

  pub Spells-member : (rs : List (ℕ × ℕ)) → Spells whole Goes end chooses (ReadsMember rs) (graph.build_state (graph.set (byte_ranges rs)))
  Spells-member rs = record {
    rises = λ i j h. (let e = h.2 in omega arith);
    walked = λ next base n i placed h.
        (let im = image-of base (graph.set (byte_ranges rs) next) (Placed-first whole base (graph.set (byte_ranges rs) next) [] placed) in
        let r = im.1.reads in
        let x = walk-step around states end pattern final n (f base) i r.state r.stands (reads-accepts r.state im.1.row r.reads) h in
        let y = read-member around states end im.1.row i x.1 (subst (λ ds. Contains ds x.1) (reads-step around end r.state im.1.row r.reads i) x.3) in
        by_test (is_member rs (around.byte i))
        (λ e.
        let target : f next ≡ y.1 =
        same_Some _ _ (sym (class-route rs (f next) (f base) (around.byte i) im.0 im.1 ∙ ap (λ b. if b then Some (f next) else None) e) ∙ y.2) in (
          i + 1,
          x.0,
          (y.0, e, refl),
          (let e' = x.2 in omega arith),
          subst (λ d. Leads (automaton_over around states end) pattern final x.0 d) (sym y.3 ∙ ap (λ q. at q (i + 1)) (sym target)) x.4,
        ))
        (λ e. absurd (none-some y.1 (sym (class-route rs (f next) (f base) (around.byte i) im.0 im.1 ∙ ap (λ b. if b then Some (f next) else None) e) ∙ y.2))));
    walks = λ next base m i j placed h goes.
        (let im = image-of base (graph.set (byte_ranges rs) next) (Placed-first whole base (graph.set (byte_ranges rs) next) [] placed) in
        let r = im.1.reads in
        let lt = h.0 in
        let leads : route im.1.row (around.byte i) ≡ Some (f next) =
        class-route rs (f next) (f base) (around.byte i) im.0 im.1 ∙ ap (λ b. if b then Some (f next) else None) h.1 in (
          suc m,
          step-walk around states end pattern final m (f base) i r.state (at (f next) (i + 1)) r.stands (omega arith)
              (subst (λ ds. Contains ds (at (f next) (i + 1))) (sym (reads-step around end r.state im.1.row r.reads i))
              (member-read around states end im.1.row i (f next) lt leads))
              (subst (λ k. Goes m next k) (sym h.2) goes),
        ));
  }

  pub Spells-bytes : (bytes : List ℕ) → Spells whole Goes end chooses (ReadsBytes around.byte end bytes) (graph.build_state (graph.text bytes))
  Spells-bytes [] = Spells-stay (graph.text []) (λ next c is. (Union (f next ∷ []), image-of c (graph.text [] next) is, refl, λ i. refl))
  Spells-bytes (b ∷ bytes) = record {
    rises = λ i j h. (let e = ReadsBytes-rises around.byte end (b ∷ bytes) i j h in omega arith);
    walked = λ next base n i placed h.
        chain-walked around states end pattern final (b ∷ bytes) (f base) (f next) n i
        (image-of base (graph.text (b ∷ bytes) next) (Placed-first whole base (graph.text (b ∷ bytes) next) [] placed)) h;
    walks = λ next base m i j placed h goes.
        chain-walk around states end pattern final (b ∷ bytes) (f base) (f next) m i j
        (image-of base (graph.text (b ∷ bytes) next) (Placed-first whole base (graph.text (b ∷ bytes) next) [] placed)) h goes;
  }
