-- Ways through a trie, and what a new state keeps of them.
use Rattle.std.proofs.Common.{◌≡◌, ◌≢◌, ℕ, ◌+◌, ◌-◌, ◌*◌, ◌/◌, ◌%◌, ◌<◌, ◌≤◌, Bool, true, false, List, [], ◌∷◌, ◌++◌, length, replicate, set, slice_index, refl, sym, ap, subst, ◌∙◌, arith, ⊎_elim}
use Rattle.std.proofs.lemmas.Bool.{cases_lt, cases_eq, false≢true}
use Rattle.std.proofs.lemmas.List.{get_or_append_left, get_or-append_right, get_or_push, get_or-set_same, get_or-set_other, get_or-replicate, get_or_past, length-set, length-append, length-replicate}
use Rattle.rx_prefilter.specs.Tries.{stop, word_of, word_at, StandsAt, Walks, IsTrieOf, GrowsTo, HasNeedleOf}

-- one way and then another
pub walks-on : (next : List ℕ) (p : ℕ) (u v : List ℕ) (q r : ℕ) → Walks next p u q → Walks next q v r → Walks next p (u ++ v) r
walks-on next p [] v q r first then = subst (λ s. Walks next s v r) (sym first) then
walks-on next p (b ∷ u) v q r first then = (first.0, first.1, walks-on next (slice_index next (p * 256 + b)) u v q r first.2 then)

-- a way goes on from where its first part leads
pub walks-after : (next : List ℕ) (p : ℕ) (u v : List ℕ) (q r : ℕ) → Walks next p u q → Walks next p (u ++ v) r → Walks next q v r
walks-after next p [] v q r first whole = subst (λ s. Walks next s v r) first whole
walks-after next p (b ∷ u) v q r first whole = walks-after next (slice_index next (p * 256 + b)) u v q r first.2 whole.2

-- a word leads to one state
pub walks-one : (next : List ℕ) (p : ℕ) (u : List ℕ) (q r : ℕ) → Walks next p u q → Walks next p u r → q ≡ r
walks-one next p [] q r first second = sym first ∙ second
walks-one next p (b ∷ u) q r first second = walks-one next (slice_index next (p * 256 + b)) u q r first.2 second.2

-- ways stay where what stands in the table stays
abbrev pub Stays : List ℕ → List ℕ → Type 0
Stays old new = (place state : ℕ) → StandsAt old place state → StandsAt new place state

pub walks-stay : (old new : List ℕ) → Stays old new → (p : ℕ) (u : List ℕ) (q : ℕ) → Walks old p u q → Walks new p u q
walks-stay old new stays p [] q way = way
walks-stay old new stays p (b ∷ u) q way =
    let here = stays (p * 256 + b) (slice_index old (p * 256 + b)) (way.0, way.1, refl) in
    (here.0, here.1, subst (λ s. Walks new s u q) (sym here.2) (walks-stay old new stays (slice_index old (p * 256 + b)) u q way.2))

pub needle-grows : (next : List ℕ) (ends : List Bool) (later : List ℕ) (later_ends : List Bool) (needle : List ℕ) → GrowsTo next ends later later_ends
    → HasNeedleOf next ends needle → HasNeedleOf later later_ends needle
needle-grows next ends later later_ends needle g has =
    record { state = has.state; leads = g.walks 0 needle has.state has.leads; is_end = g.keeps_ends has.state has.is_end }

pub grows-on : (n1 : List ℕ) (e1 : List Bool) (n2 : List ℕ) (e2 : List Bool) (n3 : List ℕ) (e3 : List Bool) → GrowsTo n1 e1 n2 e2 → GrowsTo n2 e2 n3 e3
    → GrowsTo n1 e1 n3 e3
grows-on n1 e1 n2 e2 n3 e3 a b = record { walks = λ p u q way. b.walks p u q (a.walks p u q way); keeps_ends = λ q e. b.keeps_ends q (a.keeps_ends q e) }

pub grows-same : (n : List ℕ) (e : List Bool) → GrowsTo n e n e
grows-same n e = record { walks = λ p u q way. way; keeps_ends = λ q is. is }

-- a new state at a place where none stood
module _ (next depths : List ℕ) (ends : List Bool) (t : IsTrieOf next depths ends) (place : ℕ) where
  abbrev pub child : ℕ
  child = length depths

  abbrev pub row : List ℕ
  row = replicate 256 stop

  abbrev pub new_next : List ℕ
  new_next = set (next ++ row) place child

  abbrev pub new_depths : List ℕ
  new_depths = depths ++ (slice_index depths (place / 256) + 1) ∷ []

  abbrev pub new_ends : List Bool
  new_ends = ends ++ false ∷ []

  abbrev pub new_words : List (List ℕ)
  new_words = t.words ++ word_at t.words place ∷ []

  module _ (within : place < length next) (empty : slice_index next place ≡ stop) (few : length depths < stop) where
    long : length new_next ≡ length next + 256
    long = length-set (next ++ row) place child ∙ length-append next row ∙ ap (λ n. length next + n) (length-replicate 256 stop)

    placed : slice_index new_next place ≡ child
    placed = get_or-set_same (next ++ row) place child 0 (let l = length-append next row in omega (arith, l))

    pub added_stands : StandsAt new_next place child
    added_stands = (omega (arith, long), (λ e. absurd (omega (arith, sym placed ∙ e))), placed)

    stays : Stays next new_next
    stays i s is =
        let other : i ≢ place = λ e. is.1 (rw e empty) in
        let same : slice_index new_next i ≡ slice_index next i = get_or-set_other (next ++ row) place i child 0 other ∙ get_or_append_left next row 0 i is.0 in
        (omega (arith, long, is.0), (λ e. is.1 (sym same ∙ e)), same ∙ is.2)

    pub added_grows : GrowsTo next ends new_next new_ends
    added_grows = record {
      walks = walks-stay next new_next stays;
      keeps_ends = λ q e. ⊎_elim
          (λ below. get_or_append_left ends (false ∷ []) false q below ∙ e)
          (λ above. absurd (false≢true (sym (get_or_past ends q false above) ∙ e)))
          (cases_lt q (length ends));
    }

    old_word : (q : ℕ) → q < length t.words → word_of new_words q ≡ word_of t.words q
    old_word q l = get_or_append_left t.words (word_at t.words place ∷ []) [] q l

    new_word : word_of new_words child ≡ word_at t.words place
    new_word = get_or_push t.words (word_at t.words place) [] child (sym t.tall)

    row_of : place / 256 < length t.words
    row_of = let rows = t.rows in omega (arith, rows, within)

    parts : place / 256 * 256 + place % 256 ≡ place
    parts = omega arith

    many : length new_words ≡ length t.words + 1
    many = length-append t.words (word_at t.words place ∷ [])

    by_word : (q : ℕ) → q < length new_words → (P : ℕ → Type 0) → ((k : ℕ) → k < length t.words → P k) → P child → P q
    by_word q l P old here = ⊎_elim (λ below. old q below) (λ above. let e : child ≡ q = let tall = t.tall in omega (arith, many, tall, l, above) in
        subst P e here) (cases_lt q (length t.words))

    old_reached : (q : ℕ) → q < length t.words → Walks new_next 0 (word_of new_words q) q
    old_reached q l = rw (old_word q l) (walks-stay next new_next stays 0 (word_of t.words q) q (t.reached q l))

    new_reached : Walks new_next 0 (word_of new_words child) child
    new_reached =
        let step : Walks new_next (place / 256) (place % 256 ∷ []) child = subst (λ i. StandsAt new_next i child) (sym parts) added_stands in
        let way : Walks new_next 0 (word_of t.words (place / 256)) (place / 256) =
        walks-stay next new_next stays 0 (word_of t.words (place / 256)) (place / 256) (t.reached (place / 256) row_of) in
        rw new_word (walks-on new_next 0 (word_of t.words (place / 256)) (place % 256 ∷ []) (place / 256) child way step)

    child_of : (i c : ℕ) → StandsAt new_next i c → (c < length new_words) × (word_of new_words c ≡ word_at new_words i)
    child_of i c stands = ⊎_elim
        (λ (here : i ≡ place).
        let is : c ≡ child = sym stands.2 ∙ ap (slice_index new_next) here ∙ placed in
        let tall = t.tall in
        (omega (arith, many, tall, is), rw (is, here) (new_word ∙ ap (λ w. w ++ place % 256 ∷ []) (sym (old_word (place / 256) row_of)))))
        (λ (other : i ≢ place).
        let read : slice_index new_next i ≡ slice_index (next ++ row) i = get_or-set_other (next ++ row) place i child 0 other in
        ⊎_elim
        (λ (below : i < length next).
        let same : slice_index new_next i ≡ slice_index next i = read ∙ get_or_append_left next row 0 i below in
        let old = t.children i c (below, (λ e. stands.1 (same ∙ e)), sym same ∙ stands.2) in
        let rows = t.rows in
        let low : i / 256 < length t.words = omega (arith, rows, below) in
        (omega (arith, many, old.0), old_word c old.0 ∙ old.1 ∙ ap (λ w. w ++ i % 256 ∷ []) (sym (old_word (i / 256) low))))
        (λ (above : length next ≤ i).
        let is : slice_index new_next i ≡ stop = read ∙ get_or-append_right next row (length next) i 0 refl above
        ∙ get_or-replicate 256 (i - length next) stop 0 (let l = stands.0 in omega (arith, long, l, above)) in
        absurd (stands.1 is))
        (cases_lt i (length next)))
        (cases_eq i place)

    pub added_trie : IsTrieOf new_next new_depths new_ends
    added_trie =
        let tall = t.tall in
        let rows_are = t.rows in
        let wide_is = t.wide in record {
          words = new_words;
          rows = omega (arith, long, many, rows_are);
          tall = let l = length-append depths ((slice_index depths (place / 256) + 1) ∷ []) in omega (arith, l, many, tall);
          depths_are = λ q l. by_word q l (λ k. slice_index new_depths k ≡ length (word_of new_words k))
              (λ k below. get_or_append_left depths ((slice_index depths (place / 256) + 1) ∷ []) 0 k (omega (arith, tall, below)) ∙ t.depths_are k below
              ∙ ap (λ (w : List ℕ). length w) (sym (old_word k below)))
              (get_or_push depths (slice_index depths (place / 256) + 1) 0 child refl ∙ ap (λ n. n + 1) (t.depths_are (place / 256) row_of)
              ∙ sym (length-append (word_of t.words (place / 256)) (place % 256 ∷ [])) ∙ ap (λ (w : List ℕ). length w) (sym new_word));
          wide = let l = length-append ends (false ∷ []) in omega (arith, l, many, wide_is);
          some = omega (arith, many);
          root = old_word 0 t.some ∙ t.root;
          short = λ q l. by_word q l (λ k. length (word_of new_words k) ≤ k)
              (λ k below. rw (old_word k below) (t.short k below))
              (let s = t.short (place / 256) row_of in let w = length-append (word_of t.words (place / 256)) (place % 256 ∷ []) in
              rw new_word (omega (arith, s, w, row_of, tall)));
          children = child_of;
          reached = λ q l. by_word q l (λ k. Walks new_next 0 (word_of new_words k) k) old_reached new_reached;
        }

-- what a function leaves that adds a state
pub added : (next depths : List ℕ) (ends : List Bool) (t : IsTrieOf next depths ends) (place state n v : ℕ) (rows later_depths : List ℕ)
    (later_ends : List Bool)
    → place < length next → slice_index next place ≡ stop → length depths < stop → place / 256 ≡ state → n ≡ length depths → v ≡ slice_index depths state
    → rows ≡ next ++ replicate 256 stop → later_depths ≡ depths ++ (v + 1) ∷ [] → later_ends ≡ ends ++ false ∷ []
    → IsTrieOf (set rows place n) later_depths later_ends × GrowsTo next ends (set rows place n) later_ends × StandsAt (set rows place n) place n
    × (n < length later_depths)
added next depths ends t place state n v rows later_depths later_ends within empty few row is read e_rows e_depths e_ends =
    let depths_are : later_depths ≡ new_depths next depths ends t place =
    e_depths ∙ ap (λ k. depths ++ (k + 1) ∷ []) (read ∙ ap (slice_index depths) (sym row)) in
    let long = length-append depths ((slice_index depths (place / 256) + 1) ∷ []) in
    rw (e_rows, is, depths_are, e_ends) (
      added_trie next depths ends t place within empty few,
      added_grows next depths ends t place within empty few,
      added_stands next depths ends t place within empty few,
      omega (arith, long),
    )

-- the trie of no needle
pub empty_trie : (next depths : List ℕ) (ends : List Bool) → next ≡ replicate 256 stop → depths ≡ replicate 1 0 → ends ≡ replicate 1 false
    → IsTrieOf next depths ends
empty_trie next depths ends e_next e_depths e_ends =
    let long : length next ≡ 256 = ap (λ (l : List ℕ). length l) e_next ∙ length-replicate 256 stop in record {
      words = [] ∷ [];
      rows = long;
      tall = ap (λ (l : List ℕ). length l) e_depths;
      depths_are = λ q l. let z : q ≡ 0 = omega arith in rw (z, e_depths) refl;
      wide = ap (λ (l : List Bool). length l) e_ends;
      some = omega arith;
      root = refl;
      short = λ q l. let z : q ≡ 0 = omega arith in rw z (omega arith);
      children = λ i c stands. absurd (stands.1 (ap (λ (l : List ℕ). slice_index l i) e_next
          ∙ get_or-replicate 256 i stop 0 (let w = stands.0 in omega (arith, w, long))));
      reached = λ q l. let z : q ≡ 0 = omega arith in rw z refl;
    }

-- a state says that a needle ends there
pub ended_trie : (next depths : List ℕ) (ends : List Bool) (state : ℕ) → IsTrieOf next depths ends → IsTrieOf next depths (set ends state true)
ended_trie next depths ends state t =
    let wide_is = t.wide in
    let long = length-set ends state true in record {
      words = t.words;
      rows = t.rows;
      tall = t.tall;
      depths_are = t.depths_are;
      wide = long ∙ wide_is;
      some = t.some;
      root = t.root;
      short = t.short;
      children = t.children;
      reached = t.reached;
    }

pub ended_grows : (next : List ℕ) (ends : List Bool) (state : ℕ) → state < length ends → GrowsTo next ends next (set ends state true)
ended_grows next ends state within = record {
  walks = λ p u q way. way;
  keeps_ends = λ q e. ⊎_elim
      (λ (here : q ≡ state). rw here (get_or-set_same ends state true false within))
      (λ (other : q ≡ state → ⊥). get_or-set_other ends state q true false other ∙ e)
      (cases_eq q state);
}
