-- A tree in the making: one state more, and what its states read.
use Rattle.std.proofs.Common.{◌≡◌, ℕ, zero, suc, ◌+◌, ◌-◌, ◌≤◌, ◌<◌, List, [], ◌∷◌, ◌++◌, length, take, drop, Option, Some, None, refl, sym, ◌∙◌, ap, subst, inl, inr, ⊎_elim, arith, get_or}
use Rattle.std.specs.Prelude.{true, false, ◌&&◌, ◌==◌, if◌then◌else◌, nat_le, All, map}
use Rattle.rx_model.proofs.lemmas.runs.FirstLemmas.{some-is}
use Rattle.std.proofs.lemmas.Bool.{cases_lt}
use Rattle.std.proofs.lemmas.Bool.Decides.{nat_tests}
use Rattle.std.proofs.lemmas.List.{length-append, length-drop, get_or-drop, map-append, take_more}
use Rattle.std.proofs.lemmas.List.Elements.{All-nil, All-cons, All-head, All-tail, All-append, All-weaker, All-map, All-take, All-drop, All-get_or, All-more}
use Rattle.rx_model.proofs.lemmas.runs.RunLemmas.{by_test}
use Rattle.rx_nfa.specs.Automaton.{route}
use Rattle.rx_nfa.specs.Prefixes.{IsBranch, IsWord, rests, TreeReads, TreeGoes, Grows}
use Rattle.rx_nfa.specs.Row.{reading, transition_to, Ascends}
use Rattle.rx_nfa.specs.Trees.{IsTarget, IsTargetOf, IsTree, Grown, ReadsByTree, LeadsByTree}
use Rattle.rx_nfa.specs.declared.prefixes.tree.Tree.{Tree}
use Rattle.rx_nfa.specs.declared.state.Transition.{Transition}
use Rattle.rx_nfa.specs.declared.state.State.{State}
use Rattle.rx_nfa.specs.declared.state.State.TheVariants.{ByteRange, Sparse, Look, Union, Capture, Fail, Match}
use Rattle.rx_nfa.proofs.lemmas.classes.RowLemmas.{route-outside, same_transitions, no_transitions}
use Rattle.rx_nfa.proofs.lemmas.prefixes.TreeLemmas.{Grows-same, Grows-trans, Grows-push, tree-more, tree-none, tree-next, tree-append, tree-reader, tree-union, tree-byte}

pub Grown-same : (t : Tree) → Grown t t
Grown-same t = record { low = refl; room = refl; next = refl; states = Grows-same t.states.items }

pub Grown-trans : (a b c : Tree) → Grown a b → Grown b c → Grown a c
Grown-trans a b c one other = record {
  low = other.low ∙ one.low;
  room = other.room ∙ one.room;
  next = other.next ∙ one.next;
  states = Grows-trans a.states.items b.states.items c.states.items one.states other.states;
}

-- a target stays one
pub target-grown : (a b : Tree) → Grown a b → (q : ℕ) → IsTargetOf a q → IsTargetOf b q
target-grown a b g q (inl lt) = let low = g.low in let room = g.room in inl (omega arith)
target-grown a b g q (inr same) = inr (same ∙ sym g.next)

pub targets-grown : (a b : Tree) → Grown a b → (qs : List ℕ) → All (IsTargetOf a) qs → All (IsTargetOf b) qs
targets-grown a b g qs h = All-weaker (IsTargetOf a) (IsTargetOf b) (target-grown a b g) qs h

pub transitions-grown : (a b : Tree) → Grown a b → (ts : List Transition) → All (λ (t : Transition). IsTargetOf a t.next) ts
    → All (λ (t : Transition). IsTargetOf b t.next) ts
transitions-grown a b g ts h =
    All-weaker (λ (t : Transition). IsTargetOf a t.next) (λ (t : Transition). IsTargetOf b t.next) (λ t k. target-grown a b g t.next k) ts h

-- what is read by a list of states that is placed elsewhere
moved : (low low' next next' : ℕ) (states : List State) (qs : List ℕ) (words : List (List ℕ)) → low' ≡ low → next' ≡ next
    → TreeReads low states next qs words
    → TreeReads low' states next' qs words
moved low low' next next' states qs words here there h =
    subst (λ n. TreeReads low' states n qs words) (sym there) (subst (λ l. TreeReads l states next qs words) (sym here) h)

pub reads-grown : (a b : Tree) → Grown a b → (qs : List ℕ) (words : List (List ℕ)) → ReadsByTree a qs words → ReadsByTree b qs words
reads-grown a b g qs words h = record {
  reads = moved a.low b.low a.next b.next b.states.items qs words g.low g.next (tree-more a.low a.states.items b.states.items a.next qs words g.states h.reads);
  targets = targets-grown a b g qs h.targets;
}

pub leads-grown : (a b : Tree) → Grown a b → (o : Option ℕ) (words : List (List ℕ)) → LeadsByTree a o words → LeadsByTree b o words
leads-grown a b g None words h = h
leads-grown a b g (Some q) words h = reads-grown a b g (q ∷ []) words h

-- no word, the empty word, and one list after another
pub reads-nothing : (t : Tree) → ReadsByTree t [] []
reads-nothing t = record { reads = tree-none t.low t.states.items t.next; targets = All-nil (IsTargetOf t) }

pub reads-empty : (t : Tree) (q : ℕ) → q ≡ t.next → ReadsByTree t (q ∷ []) ([] ∷ [])
reads-empty t q same = record {
  reads = subst (λ k. TreeReads t.low t.states.items t.next (k ∷ []) ([] ∷ [])) (sym same) (tree-next t.low t.states.items t.next);
  targets = All-cons (IsTargetOf t) q [] (inr same) (All-nil (IsTargetOf t));
}

pub reads-both : (t : Tree) (qs rs : List ℕ) (ws vs : List (List ℕ)) → ReadsByTree t qs ws → ReadsByTree t rs vs → ReadsByTree t (qs ++ rs) (ws ++ vs)
reads-both t qs rs ws vs one other = record {
  reads = tree-append t.low t.states.items t.next qs rs ws vs one.reads other.reads;
  targets = All-append (IsTargetOf t) qs rs one.targets other.targets;
}

-- One state more.
module _ (t t' : Tree) (s : State) (low : t'.low ≡ t.low) (room : t'.room ≡ t.room) (next : t'.next ≡ t.next)
    (states : t'.states.items ≡ t.states.items ++ s ∷ []) where
  pub pushed-grown : Grown t t'
  pushed-grown = record {
    low = low;
    room = room;
    next = next;
    states = subst (Grows t.states.items) (sym states) (Grows-push t.states.items s);
  }

  pub pushed-tree : length t.states.items < t.room → IsBranch (IsTargetOf t) s → IsTree t → IsTree t'
  pushed-tree lt branch h = record {
    few = (let l = ap length states in let m = length-append t.states.items (s ∷ []) in omega arith);
    fits = (let f = h.fits in omega arith);
    branches =
        subst (λ r. All (IsBranch (IsTarget r t'.next)) t'.states.items) (λ k. sym low k + sym room k)
        (subst (λ n. All (IsBranch (IsTarget (t.low + t.room) n)) t'.states.items) (sym next)
        (subst (All (IsBranch (IsTargetOf t))) (sym states)
        (All-append (IsBranch (IsTargetOf t)) t.states.items (s ∷ []) h.branches
        (All-cons (IsBranch (IsTargetOf t)) s [] branch (All-nil (IsBranch (IsTargetOf t)))))));
  }

  -- what it reads
  pub pushed-reads : (id : ℕ) (words : List (List ℕ)) → id ≡ t.low + length t.states.items → IsTree t'
      → TreeReads t.low (t.states.items ++ s ∷ []) t.next ((t.low + length t.states.items) ∷ []) words → ReadsByTree t' (id ∷ []) words
  pushed-reads id words is tree h = record {
    reads = moved t.low t'.low t.next t'.next t'.states.items (id ∷ []) words low next
        (subst (λ q. TreeReads t.low t'.states.items t.next (q ∷ []) words) (sym is)
        (subst (λ ss. TreeReads t.low ss t.next ((t.low + length t.states.items) ∷ []) words) (sym states) h));
    targets = All-cons (IsTargetOf t') id []
        (inl (let l = ap length states in let m = length-append t.states.items (s ∷ []) in let few = tree.few in omega arith)) (All-nil (IsTargetOf t'));
  }

-- Rows of transitions.

-- a state that reads by these transitions is a branch
pub reader-branch : (P : ℕ → Type 0) (s : State) (ts : List Transition) → reading s ≡ Some ts → Ascends 0 256 ts
    → All (λ (t : Transition). P t.next) ts → IsBranch P s
reader-branch P (ByteRange low high next) ts is up all =
    let one = same_transitions (transition_to next (low, high) ∷ []) ts is in
    let row : Ascends 0 256 (transition_to next (low, high) ∷ []) = subst (Ascends 0 256) (sym one) up in
    let last = row.2 in (
      All-head (λ (t : Transition). P t.next) (transition_to next (low, high)) [] (subst (All (λ (t : Transition). P t.next)) (sym one) all),
      row.1,
      omega arith,
    )
reader-branch P (Sparse transitions) ts is up all =
    let same = same_transitions transitions ts is in
    (subst (All (λ (t : Transition). P t.next)) (sym same) all, subst (Ascends 0 256) (sym same) up)
reader-branch P (Look look next) ts is up all = absurd (no_transitions ts is)
reader-branch P (Union alternates) ts is up all = absurd (no_transitions ts is)
reader-branch P (Capture next pattern slot) ts is up all = absurd (no_transitions ts is)
reader-branch P Fail ts is up all = tt
reader-branch P (Match pattern) ts is up all = absurd (no_transitions ts is)

-- Words.

pub words-some : (words : List (List ℕ)) → All IsWord words → All (λ w. 0 < length w) words
words-some words h = All-weaker IsWord (λ w. 0 < length w) (λ w k. k.some) words h

-- no word begins with what is no byte
pub rests-past : (b : ℕ) (words : List (List ℕ)) → 256 ≤ b → All IsWord words → rests b words ≡ []
rests-past b [] le h = refl
rests-past b ([] ∷ words) le h = rests-past b words le (All-tail IsWord [] words h)
rests-past b ((x ∷ w) ∷ words) le h =
    let lt = All-head (λ b. b < 256) x w (All-head IsWord (x ∷ w) words h).bytes in
    let differs : (x == b) ≡ false = grind (arith, nat_tests) in
    rw differs (rests-past b words le (All-tail IsWord (x ∷ w) words h))

-- what is left of long words is a word
pub rests-words : (b : ℕ) (words : List (List ℕ)) → All IsWord words → All (λ w. 1 < length w) words → All IsWord (rests b words)
rests-words b [] h long = All-nil IsWord
rests-words b ([] ∷ words) h long = rests-words b words (All-tail IsWord [] words h) (All-tail (λ w. 1 < length w) [] words long)
rests-words b ((x ∷ w) ∷ words) h long =
    let more = rests-words b words (All-tail IsWord (x ∷ w) words h) (All-tail (λ w. 1 < length w) (x ∷ w) words long) in
    let two = All-head (λ w. 1 < length w) (x ∷ w) words long in
    let first : IsWord w = record { some = omega arith; bytes = All-tail (λ b. b < 256) x w (All-head IsWord (x ∷ w) words h).bytes } in
    by_test (x == b) (λ e. rw e (All-cons IsWord w (rests b words) first more)) (λ e. rw e more)

pub rests-append : (b : ℕ) (ws vs : List (List ℕ)) → rests b (ws ++ vs) ≡ rests b ws ++ rests b vs
rests-append b [] vs = refl
rests-append b ([] ∷ ws) vs = rests-append b ws vs
rests-append b ((x ∷ w) ∷ ws) vs =
    let more = rests-append b ws vs in
    by_test (x == b) (λ e. rw e (ap (λ l. w ∷ l) more)) (λ e. rw e more)

-- The state of a row of transitions reads the words.
module _ (t t' : Tree) (s : State) (ts : List Transition) (words : List (List ℕ)) (id : ℕ) (grown : Grown t t')
    (states : t'.states.items ≡ t.states.items ++ s ∷ []) (is : id ≡ t.low + length t.states.items) (tree : IsTree t') (reads : reading s ≡ Some ts)
    (up : Ascends 0 256 ts) (all : All IsWord words) (led : (b : ℕ) → b < 256 → LeadsByTree t (route ts b) (rests b words)) where
  goes : (o : Option ℕ) (ws : List (List ℕ)) → LeadsByTree t o ws → TreeGoes t.low t.states.items t.next o ws
  goes None ws h = h
  goes (Some q) ws h = h.reads

  pub row-reads : ReadsByTree t' (id ∷ []) words
  row-reads =
      pushed-reads t t' s grown.low grown.room grown.next states id words is tree
      (tree-reader t.low t.states.items t.next s ts words reads (words-some words all) each)
    where
      each : (b : ℕ) → TreeGoes t.low t.states.items t.next (route ts b) (rests b words)
      each b =
          ⊎_elim
          (λ lt. goes (route ts b) (rests b words) (led b lt))
          (λ ge. subst (λ o. TreeGoes t.low t.states.items t.next o (rests b words)) (sym (route-outside 0 256 ts b up (inr ge)))
          (rests-past b words ge all))
          (cases_lt b 256)

-- a choice of states reads what they read
pub union-reads : (t t' : Tree) (qs : List ℕ) (words : List (List ℕ)) (id : ℕ) → Grown t t' → t'.states.items ≡ t.states.items ++ Union qs ∷ []
    → id ≡ t.low + length t.states.items → IsTree t' → All IsWord words → ReadsByTree t qs words → ReadsByTree t' (id ∷ []) words
union-reads t t' qs words id grown states is tree all h =
    pushed-reads t t' (Union qs) grown.low grown.room grown.next states id words is tree
    (tree-union t.low t.states.items t.next qs words (words-some words all) h.reads)

-- a byte before a word
pub byte-reads : (t t' : Tree) (q b : ℕ) (word : List ℕ) (id : ℕ) → Grown t t' → t'.states.items ≡ t.states.items ++ ByteRange b b q ∷ []
    → id ≡ t.low + length t.states.items → IsTree t' → ReadsByTree t (q ∷ []) (word ∷ []) → ReadsByTree t' (id ∷ []) ((b ∷ word) ∷ [])
byte-reads t t' q b word id grown states is tree h =
    pushed-reads t t' (ByteRange b b q) grown.low grown.room grown.next states id ((b ∷ word) ∷ []) is tree
    (tree-byte t.low t.states.items t.next q b word h.reads)

-- Words that stand in a list of vectors.
module _ {X : Type 0} (f : X → List ℕ) where
  unmap : (P : List ℕ → Type 0) (xs : List X) → All P (map f xs) → All (λ x. P (f x)) xs
  unmap P [] h = All-nil (λ x. P (f x))
  unmap P (x ∷ xs) h = All-cons (λ y. P (f y)) x xs (All-head P (f x) (map f xs) h) (unmap P xs (All-tail P (f x) (map f xs) h))

  pub map-more : (xs : List X) (k : ℕ) (x : X) → k < length xs → x ≡ get_or xs k x → map f (take (k + 1) xs) ≡ map f (take k xs) ++ f x ∷ []
  map-more xs k x lt is = ap (map f) (take_more xs k x lt) ∙ map-append f (take k xs) (get_or xs k x ∷ [])
      ∙ ap (λ y. map f (take k xs) ++ f y ∷ []) (sym is)

  -- some of the words
  pub sub-words : (P : List ℕ → Type 0) (xs : List X) (a n : ℕ) → All P (map f xs) → All P (map f (take n (drop a xs)))
  sub-words P xs a n h =
      All-map P f (take n (drop a xs)) (All-take (λ x. P (f x)) n (drop a xs) (All-drop (λ x. P (f x)) a xs (unmap P xs h)))

  pub word-at : (P : List ℕ → Type 0) (xs : List X) (k : ℕ) (x : X) → k < length xs → All P (map f xs) → P (f (get_or xs k x))
  word-at P xs k x lt h = All-get_or (λ y. P (f y)) xs k x lt (unmap P xs h)

  take-none : (n : ℕ) → ◌≡◌ {A = List X} (take n []) []
  take-none zero = refl
  take-none (suc n) = refl

  take-split : (a n : ℕ) (xs : List X) → take (a + n) xs ≡ take a xs ++ take n (drop a xs)
  take-split zero n xs = let none : 0 + n ≡ n = omega arith in ap (λ k. take k xs) none
  take-split (suc a) n [] = take-none (suc a + n) ∙ sym (take-none n)
  take-split (suc a) n (x ∷ xs) =
      let more : suc a + n ≡ suc (a + n) = omega arith in
      ap (λ k. take k (x ∷ xs)) more ∙ ap (λ l. x ∷ l) (take-split a n xs)

  -- the words up to one are those up to a lesser one, and those between
  pub map-split : (xs : List X) (from k : ℕ) → from ≤ k → map f (take k xs) ≡ map f (take from xs) ++ map f (take (k - from) (drop from xs))
  map-split xs from k le =
      let sum : k ≡ from + (k - from) = omega arith in
      ap (λ n. map f (take n xs)) sum ∙ ap (map f) (take-split from (k - from) xs) ∙ map-append f (take from xs) (take (k - from) (drop from xs))

  -- one more word between
  pub between-more : (P : X → Type 0) (xs : List X) (from k : ℕ) (x : X) → from ≤ k → k < length xs → All P (take (k - from) (drop from xs))
      → P (get_or xs k x) → All P (take (k + 1 - from) (drop from xs))
  between-more P xs from k x le lt h p =
      let sum : k - from + 1 ≡ k + 1 - from = omega arith in
      let here : from + (k - from) ≡ k = omega arith in
      let l = length-drop from xs in
      subst (λ n. All P (take n (drop from xs))) sum
      (All-more P (drop from xs) (k - from) x (omega arith) h
      (subst P (sym (get_or-drop from xs (k - from) x ∙ ap (λ n. get_or xs n x) here)) p))

  pub between-none : (P : X → Type 0) (xs : List X) (k from : ℕ) → k ≤ from → All P (take (k - from) (drop from xs))
  between-none P xs k from le =
      let none : 0 ≡ k - from = omega arith in
      subst (λ n. All P (take n (drop from xs))) none (All-nil P)

-- each transition of a sorted row leads where its first byte does
pub row-targets : (P : ℕ → Type 0) (low high : ℕ) (ts : List Transition) → Ascends low high ts → ((b q : ℕ) → route ts b ≡ Some q → P q)
    → All (λ (t : Transition). P t.next) ts
row-targets P low high [] up each = All-nil (λ (t : Transition). P t.next)
row-targets P low high (t ∷ ts) up each =
    All-cons (λ (t : Transition). P t.next) t ts (each t.start t.next first) (row-targets P (t.end + 1) high ts up.2 later)
  where
    none-some : (q : ℕ) → ◌≡◌ {A = Option ℕ} None (Some q) → ⊥
    none-some q e = cc

    first : route (t ∷ ts) t.start ≡ Some t.next
    first =
        let le = up.1 in
        let hit : (nat_le t.start t.start && nat_le t.start t.end) ≡ true = grind (arith, nat_tests) in
        rw hit refl

    later : (b q : ℕ) → route ts b ≡ Some q → P q
    later b q e =
        ⊎_elim
        (λ lt. absurd (none-some q (sym (route-outside (t.end + 1) high ts b up.2 (inl lt)) ∙ e)))
        (λ ge.
        let miss : (nat_le t.start b && nat_le b t.end) ≡ false = grind (arith, nat_tests) in
        each b q (rw miss e))
        (cases_lt b (t.end + 1))

-- all that a sorted row leads to is a target, where it leads by words
pub led-targets : (t : Tree) (ts : List Transition) (words : List (List ℕ)) → Ascends 0 256 ts
    → ((b : ℕ) → b < 256 → LeadsByTree t (route ts b) (rests b words)) → All (λ (x : Transition). IsTargetOf t x.next) ts
led-targets t ts words up led = row-targets (IsTargetOf t) 0 256 ts up each
  where
    target : (o : Option ℕ) (q : ℕ) (ws : List (List ℕ)) → LeadsByTree t o ws → o ≡ Some q → IsTargetOf t q
    target None q ws h e = cc
    target (Some r) q ws h e = subst (IsTargetOf t) (some-is e) (All-head (IsTargetOf t) r [] h.targets)

    each : (b q : ℕ) → route ts b ≡ Some q → IsTargetOf t q
    each b q e =
        ⊎_elim
        (λ lt. target (route ts b) q (rests b words) (led b lt) e)
        (λ ge. target None q [] refl (sym (route-outside 0 256 ts b up (inr ge)) ∙ e))
        (cases_lt b 256)

-- one byte more in a row
pub led-more : (t t' : Tree) (old new : List Transition) (byte : ℕ) (o : Option ℕ) (words : List (List ℕ)) → Grown t t'
    → ((b : ℕ) → route new b ≡ (if b == byte then o else route old b)) → ((b : ℕ) → b < byte → LeadsByTree t (route old b) (rests b words))
    → LeadsByTree t' o (rests byte words) → (b : ℕ) → b < byte + 1 → LeadsByTree t' (route new b) (rests b words)
led-more t t' old new byte o words grown routes before here b lt =
    by_test (b == byte)
    (λ e.
    let same : byte ≡ b = grind (arith, nat_tests) in
    let is : route new b ≡ o = (let r = routes b in rw e at r) in
    subst (λ x. LeadsByTree t' x (rests b words)) (sym is) (subst (λ k. LeadsByTree t' o (rests k words)) same here))
    (λ e.
    let is : route new b ≡ route old b = (let r = routes b in rw e at r) in
    subst (λ x. LeadsByTree t' x (rests b words)) (sym is)
    (leads-grown t t' grown (route old b) (rests b words) (before b (let k = e in grind (arith, nat_tests)))))

-- One word more of which something may be left.

pub rests-short : (b : ℕ) (s : List ℕ) → length s < 1 → rests b (s ∷ []) ≡ []
rests-short b [] lt = refl
rests-short b (x ∷ s) lt = absurd (omega arith)

pub rests-other : (b : ℕ) (s : List ℕ) → (get_or s 0 0 == b) ≡ false → rests b (s ∷ []) ≡ []
rests-other b [] differs = refl
rests-other b (x ∷ s) differs = rw differs refl

pub rests-first : (b : ℕ) (s : List ℕ) → 1 ≤ length s → get_or s 0 0 ≡ b → rests b (s ∷ []) ≡ drop 1 s ∷ []
rests-first b [] le same = absurd (omega arith)
rests-first b (x ∷ s) le same = let hit : (x == b) ≡ true = grind (arith, nat_tests) in rw hit refl

pub rests-more : {X : Type 0} (f : X → List ℕ) (b : ℕ) (words : List X) (k : ℕ) (x : X) (left : List (List ℕ)) → k < length words
    → x ≡ get_or words k x → left ≡ rests b (map f (take k words)) → left ++ rests b (f x ∷ []) ≡ rests b (map f (take (k + 1) words))
rests-more f b words k x left lt is before =
    ap (λ l. l ++ rests b (f x ∷ [])) before ∙ sym (rests-append b (map f (take k words)) (f x ∷ []))
    ∙ ap (rests b) (sym (map-more f words k x lt is))
