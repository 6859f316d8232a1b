-- How a trie becomes an automaton, place by place.
use Rattle.std.proofs.Common.{◌≡◌, ◌≢◌, ℕ, ◌+◌, ◌-◌, ◌*◌, ◌/◌, ◌%◌, ◌<◌, ◌≤◌, Bool, false, List, [], ◌∷◌, ◌++◌, All, length, drop, replicate, set, get_or, slice_index, slice_index_or, refl, sym, ap, subst, ◌∙◌, arith, ⊎_elim}
use Rattle.std.proofs.lemmas.Bool.{cases_lt, cases_eq, false≢true}
use Rattle.std.proofs.lemmas.List.{get_or_read, get_or_append_left, get_or_push, get_or-set_same, get_or-set_other, get_or-replicate, length-set, length-append, length-replicate, append_assoc}
use Rattle.std.proofs.lemmas.List.Elements.{All-weaker}
use Rattle.memchr.specs.Find.{OccursAt}
use Rattle.rx_prefilter.specs.Tries.{stop, word_of, word_at, StandsAt, Walks, IsTrieOf, HasNeedleOf}
use Rattle.rx_prefilter.specs.Automata.{NoneBegins, NoneWithin, Leads, IsPlace, IsFail, IsLinkedOf, IsLater}
use Rattle.rx_prefilter.proofs.TrieLemmas.{walks-after, walks-one}
use Rattle.rx_prefilter.proofs.LeadLemmas.{leads-same, leads-past, leads-step, dead, occurs_same, occurs_whole, begins-split}

drop_one : (w : List ℕ) (b : ℕ) → 0 < length w → drop 1 (w ++ b ∷ []) ≡ drop 1 w ++ b ∷ []
drop_one [] b some = absurd (omega arith)
drop_one (x ∷ w) b some = refl

-- bytes that begin with no needle, and one more, which are no needle
within_more : (needles : List (List ℕ)) (w : List ℕ) (b : ℕ) → NoneWithin needles w → All (λ needle. needle ≢ w ++ b ∷ []) needles
    → NoneWithin needles (w ++ b ∷ [])
within_more needles w b within differ = λ k d l o.
    let n = slice_index_or needles k d in
    let long = length-append w (b ∷ []) in
    let fits = o.fits in
    ⊎_elim
    (λ (short : length n < length w + 1). within k d l (record {
      fits = omega (arith, short);
      reads = λ j less. let e : 0 + j ≡ j = omega arith in
          ap (slice_index w) e ∙ sym (get_or_append_left w (b ∷ []) 0 j (omega (arith, less, short))) ∙ ap (slice_index (w ++ b ∷ [])) (sym e) ∙ o.reads j less;
    }))
    (λ (whole : length w + 1 ≤ length n). differ k d l (occurs_same (w ++ b ∷ []) n (omega (arith, long, fits, whole)) o))
    (cases_lt (length n) (length w + 1))

-- from a trie
module _ (needles : List (List ℕ)) (next depths : List ℕ) (ends : List Bool) (t : IsTrieOf next depths ends) where
  none_begins : (n : List ℕ) (place : ℕ) → place < length next → slice_index next place ≡ stop → HasNeedleOf next ends n
      → ¬ OccursAt n (word_at t.words place) 0
  none_begins n place within empty has o =
      let w = word_of t.words (place / 256) in
      let b = place % 256 in
      let rest = drop (length (w ++ b ∷ [])) n in
      let rows = t.rows in
      let low : place / 256 < length t.words = omega (arith, rows, within) in
      let split : n ≡ w ++ (b ∷ rest) = begins-split n (w ++ b ∷ []) o ∙ append_assoc w (b ∷ []) rest in
      let whole : Walks next 0 (w ++ (b ∷ rest)) has.state = subst (λ u. Walks next 0 u has.state) split has.leads in
      let on : Walks next (place / 256) (b ∷ rest) has.state = walks-after next 0 w (b ∷ rest) (place / 256) has.state (t.reached (place / 256) low) whole in
      let here : place / 256 * 256 + place % 256 ≡ place = omega arith in
      on.1 (ap (slice_index next) here ∙ empty)

  not_ended : (n : List ℕ) (q : ℕ) → q < length t.words → slice_index_or ends q false ≡ false → HasNeedleOf next ends n → n ≢ word_of t.words q
  not_ended n q low none has e =
      let same : has.state ≡ q = walks-one next 0 (word_of t.words q) has.state q (subst (λ u. Walks next 0 u has.state) e has.leads) (t.reached q low) in
      false≢true (sym none ∙ ap (λ s. slice_index_or ends s false) (sym same) ∙ has.is_end)

  pub trie_linked : (fails queue : List ℕ) → All (HasNeedleOf next ends) needles → fails ≡ replicate (length depths) stop → queue ≡ replicate 1 0
      → IsLinkedOf needles next depths ends fails queue
  trie_linked fails queue all e_fails e_queue =
      let H : List ℕ → Type 0 = HasNeedleOf next ends in
      let tall = t.tall in
      let wide = t.wide in
      let some = t.some in record {
        automaton = record {
          words = t.words;
          rows = t.rows;
          tall = t.tall;
          depths_are = t.depths_are;
          some = t.some;
          root = t.root;
          places = λ place within. (
            (λ empty. All-weaker H (λ n. ¬ OccursAt n (word_at t.words place) 0) (λ n has. none_begins n place within empty has) needles all),
            (λ stands. let child = t.children place (slice_index next place) (within, stands, refl) in
                (child.0, leads-same needles (word_at t.words place) (word_of t.words (slice_index next place)) child.1)),
          );
        };
        wide = omega (arith, wide, tall);
        narrow = ap (λ (l : List ℕ). length l) e_fails ∙ length-replicate (length depths) stop;
        ended = λ q low none. All-weaker H (λ n. n ≢ word_of t.words q) (λ n has. not_ended n q (omega (arith, low, tall)) none has) needles all;
        failing = λ q low is. absurd (is (ap (λ (l : List ℕ). slice_index l q) e_fails ∙ get_or-replicate (length depths) q stop 0 low));
        queued = λ k l.
            let one : length queue ≡ 1 = ap (λ (l : List ℕ). length l) e_queue in
            let z : k ≡ 0 = omega (arith, one, l) in
            rw (z, e_queue) (omega (arith, tall, some));
      }

-- a step of the filling
module _ (needles : List (List ℕ)) (next depths : List ℕ) (ends : List Bool) (fails queue : List ℕ) (l : IsLinkedOf needles next depths ends fails queue) where
  abbrev words : List (List ℕ)
  words = l.automaton.words

  none_within_root : slice_index_or ends 0 false ≡ false → NoneWithin needles (word_of words 0)
  none_within_root none =
      let tall = l.automaton.tall in
      let some = l.automaton.some in
      let root : length (word_of words 0) ≡ 0 = ap (λ (w : List ℕ). length w) l.automaton.root in
      All-weaker (λ n. n ≢ word_of words 0) (λ n. ¬ OccursAt (word_of words 0) n 0)
      (λ n differ o. let fits = o.fits in differ (occurs_same (word_of words 0) n (omega (arith, fits, root)) o)) needles
      (l.ended 0 (omega (arith, tall, some)) none)

  word_there : (q b : ℕ) → b < 256 → word_at words (q * 256 + b) ≡ word_of words q ++ b ∷ []
  word_there q b byte =
      let row : (q * 256 + b) / 256 ≡ q = omega (arith, byte) in
      let column : (q * 256 + b) % 256 ≡ b = omega (arith, byte) in
      rw (row, column) refl

  later_leads : (q b later : ℕ) → q < length depths → b < 256 → IsLater next ends fails q b later → later ≢ stop
      → (later < length words) × NoneWithin needles (word_of words q) × Leads needles (drop 1 (word_of words q ++ b ∷ [])) (word_of words later)
  later_leads q b later low byte is some = ⊎_elim
      (λ (nothing : later ≡ stop). absurd (some nothing))
      (λ rest. ⊎_elim
      (λ (at_root : (q ≡ 0) × (slice_index_or ends 0 false ≡ false) × (later ≡ 0)).
      let root = l.automaton.root in
      let e : word_of words 0 ≡ drop 1 (word_of words 0 ++ b ∷ []) = root ∙ ap (λ (w : List ℕ). drop 1 (w ++ b ∷ [])) (sym root) in
      rw (at_root.0, at_root.2) (l.automaton.some, none_within_root at_root.1, leads-same needles (drop 1 (word_of words 0 ++ b ∷ [])) (word_of words 0) e))
      (λ (by_fail : (slice_index fails q ≢ stop) × (later ≡ slice_index next (slice_index fails q * 256 + b))).
      let f = slice_index fails q in
      let fail = l.failing q low by_fail.0 in
      let below = fail.0 in
      let rows = l.automaton.rows in
      let place = f * 256 + b in
      let there = (l.automaton.places place (omega (arith, rows, below, byte))).1 (λ e. some (by_fail.1 ∙ e)) in
      let step : Leads needles (word_of words f ++ b ∷ []) (word_of words (slice_index next place)) =
      subst (λ w. Leads needles w (word_of words (slice_index next place))) (word_there f b byte) there.1 in
      rw by_fail.1 (
        there.0,
        fail.2,
        subst (λ w. Leads needles w (word_of words (slice_index next place))) (sym (drop_one (word_of words q) b fail.1))
            (leads-step needles (drop 1 (word_of words q)) (word_of words f) (word_of words (slice_index next place)) b fail.3 step),
      ))
      rest)
      is

  -- a place is filled at which no state stood
  module _ (q b later : ℕ) (low : q < length depths) (byte : b < 256) (is : IsLater next ends fails q b later)
      (empty : slice_index next (q * 256 + b) ≡ stop) where
    within : q * 256 + b < length next
    within = let rows = l.automaton.rows in let tall = l.automaton.tall in omega (arith, rows, tall, low, byte)

    begins : NoneBegins needles (word_at words (q * 256 + b))
    begins = (l.automaton.places (q * 256 + b) within).0 empty

    filled : later ≢ stop → (later < length words) × Leads needles (word_at words (q * 256 + b)) (word_of words later)
    filled some =
        let leads = later_leads q b later low byte is some in
        let w = word_of words q in
        let long = length-append w (b ∷ []) in
        let there = word_there q b byte in
        let free : NoneBegins needles (w ++ b ∷ []) = subst (NoneBegins needles) there begins in (
          leads.0,
          subst (λ u. Leads needles u (word_of words later)) (sym there)
              (leads-past needles (w ++ b ∷ []) (word_of words later) (omega (arith, long)) (λ text s o. dead needles w b text s leads.1 free o) leads.2),
        )

    place_of : (i : ℕ) → i < length (set next (q * 256 + b) later) → IsPlace needles words i (slice_index (set next (q * 256 + b) later) i)
    place_of i l_i = ⊎_elim
        (λ (here : i ≡ q * 256 + b). rw here (subst (IsPlace needles words (q * 256 + b)) (sym (get_or-set_same next (q * 256 + b) later 0 within))
        ((λ _. begins), filled)))
        (λ (other : i ≡ q * 256 + b → ⊥). subst (IsPlace needles words i) (sym (get_or-set_other next (q * 256 + b) i later 0 other))
        (l.automaton.places i (let long = length-set next (q * 256 + b) later in omega (arith, l_i, long))))
        (cases_eq i (q * 256 + b))

    pub filled_linked : IsLinkedOf needles (set next (q * 256 + b) later) depths ends fails queue
    filled_linked = record {
      automaton = record {
        words = words;
        rows = length-set next (q * 256 + b) later ∙ l.automaton.rows;
        tall = l.automaton.tall;
        depths_are = l.automaton.depths_are;
        some = l.automaton.some;
        root = l.automaton.root;
        places = place_of;
      };
      wide = l.wide;
      narrow = l.narrow;
      ended = l.ended;
      failing = l.failing;
      queued = l.queued;
    }

  -- a child waits for its turn
  pub queued_linked : (child : ℕ) → child < length depths → IsLinkedOf needles next depths ends fails (queue ++ child ∷ [])
  queued_linked child low = record {
    automaton = l.automaton;
    wide = l.wide;
    narrow = l.narrow;
    ended = l.ended;
    failing = l.failing;
    queued = λ k l_k. ⊎_elim
        (λ (below : k < length queue). rw (get_or_append_left queue (child ∷ []) 0 k below) (l.queued k below))
        (λ (above : length queue ≤ k).
        let long = length-append queue (child ∷ []) in
        let e : k ≡ length queue = omega (arith, long, l_k, above) in
        rw (e, get_or_push queue child 0 (length queue) refl) low)
        (cases_lt k (length queue));
  }

  -- a place of a row lies within the table
  pub place_within : (q b : ℕ) → q < length depths → b < 256 → q * 256 + b < length next
  place_within q b low byte = let rows = l.automaton.rows in let tall = l.automaton.tall in omega (arith, rows, tall, low, byte)

  -- what was read at a place and is a state stands there
  pub stands_there : (q b v : ℕ) → q < length depths → b < 256 → v ≡ get_or next (q * 256 + b) v → v ≢ stop → StandsAt next (q * 256 + b) v
  stands_there q b v low byte read some =
      let within = place_within q b low byte in
      let is = get_or_read next (q * 256 + b) v within read 0 in
      (within, λ e. some (is ∙ e), sym is)

  -- the state that stands at a place
  pub child_low : (q b child : ℕ) → StandsAt next (q * 256 + b) child → child < length depths
  child_low q b child stands =
      let r = (l.automaton.places (q * 256 + b) stands.0).1 stands.1 in
      let tall = l.automaton.tall in
      let c : child < length words = subst (λ s. s < length words) stands.2 r.0 in
      omega (arith, c, tall)

  -- a child is linked
  module _ (q b child later : ℕ) (low : q < length depths) (byte : b < 256) (stands : StandsAt next (q * 256 + b) child)
      (more : slice_index depths q < slice_index depths child)
      (is : IsLater next ends fails q b later) (none : slice_index_or ends child false ≡ false) where
    child_word : word_of words child ≡ word_of words q ++ b ∷ []
    child_word =
        let tall = l.automaton.tall in
        let leads : Leads needles (word_of words q ++ b ∷ []) (word_of words child) =
        subst (λ w. Leads needles w (word_of words child)) (word_there q b byte)
        (subst (λ s. Leads needles (word_at words (q * 256 + b)) (word_of words s)) stands.2 ((l.automaton.places (q * 256 + b) stands.0).1 stands.1).1) in
        let long = length-append (word_of words q) (b ∷ []) in
        let shorter = leads.shorter in
        let here = l.automaton.depths_are q (omega (arith, low, tall)) in
        let there = l.automaton.depths_are child (let c = child_low q b child stands in omega (arith, c, tall)) in
        let same : length (word_of words child) ≡ length (word_of words q ++ b ∷ []) = omega (arith, long, shorter, here, there, more) in
        let zero_is : 0 + (length (word_of words q ++ b ∷ []) - length (word_of words child)) ≡ 0 = omega (arith, same) in
        let v = word_of words q ++ b ∷ [] in
        occurs_same v (word_of words child) same (subst (OccursAt v (word_of words child)) zero_is (leads.reads v 0 (occurs_whole v)))

    child_fail : later ≢ stop → IsFail needles words child later
    child_fail some =
        let leads = later_leads q b later low byte is some in
        let w = word_of words q in
        let long = length-append w (b ∷ []) in
        let tall = l.automaton.tall in
        let differ : All (λ needle. needle ≢ w ++ b ∷ []) needles =
        subst (λ u. All (λ needle. needle ≢ u) needles) child_word (l.ended child (child_low q b child stands) none) in
        rw child_word (leads.0, omega (arith, long), within_more needles w b leads.1 differ, leads.2)

    pub failing_linked : IsLinkedOf needles next depths ends (set fails child later) queue
    failing_linked = record {
      automaton = l.automaton;
      wide = l.wide;
      narrow = length-set fails child later ∙ l.narrow;
      ended = l.ended;
      failing = λ k l_k some. ⊎_elim
          (λ (here : k ≡ child).
          let narrow = l.narrow in
          let low_child = child_low q b child stands in
          let value : slice_index (set fails child later) k ≡ later =
          ap (slice_index (set fails child later)) here ∙ get_or-set_same fails child later 0 (omega (arith, narrow, low_child)) in
          rw (value, here) (child_fail (λ e. some (value ∙ e))))
          (λ (other : k ≡ child → ⊥).
          let value : slice_index (set fails child later) k ≡ slice_index fails k = get_or-set_other fails child k later 0 other in
          rw value (l.failing k l_k (λ e. some (value ∙ e))))
          (cases_eq k child);
      queued = l.queued;
    }
