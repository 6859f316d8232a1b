-- Each step of a `SlotPool` keeps its rule.
use Rattle.std.proofs.Common.{◌≡◌, ◌≢◌, ℕ, zero, suc, ◌+◌, ◌/◌, ◌%◌, ◌<◌, ◌≤◌, ◌==◌, ⊎_elim, List, [], ◌∷◌, ◌++◌, map, length, length-set, get_or-set_same, get_or-set_other, slice_index, slice_set, set, drop, replicate, sym, refl, ap, ◌∙◌, subst, arith, count_by, All, Contains, bit_or, Option, Some, None, if◌then◌else◌}
use Rattle.std.specs.List.{sum_by}
use Rattle.std.proofs.lemmas.List.{length-map, length-replicate}
use Rattle.std.proofs.lemmas.List.Elements.{All-nil, All-cons, All-append, All-drop, All-weaker, Contains-append_left, Contains-append_right}
use Rattle.std.proofs.lemmas.List.Sums.{sum_by-cons}
use lib.Bits.{or_step, or_zero_r}
use mathlib.Core.Option.{some, none, some-injective, some-ne-none}
use mathlib.Core.Logic.{dite}
use native.Mathlib.Decide.{ℕ_discrete}
use lib.ListN.{get_elem?}
use Rattle.atomic_table.specs.Table.{State, Me, Act, step, rest, keeps, takes, gives, homes_after, Allows, Splits, Joins, opening, stepped}
use Rattle.atomic_table.proofs.Lists.{at_set, at_snoc, set_here, set_else, set_again}
use Rattle.rx_slots.specs.declared.slot_pool.SlotView.{SlotView}
use Rattle.rx_slots.specs.Slots.{new_view, taken, refused, put_back, joined, moves_of, holds_of, AreAt, AreNotAbove, IsNotBelow, Turns, Carries, Takes, Puts}
use Rattle.rx_slots.proofs.Views.{sum_changes, sum_gains, at_least, times_cons, times_append, firsts_cons, firsts_append, is_one, is_none}

-- Numbers

or_even : (n : ℕ) → n % 2 ≡ 0 → bit_or n 1 ≡ n + 1
or_even n e = omega (arith, or_step n 1, or_zero_r (n / 2), e)

or_odd : (n : ℕ) → n % 2 ≡ 1 → bit_or n 1 ≡ n
or_odd n e = omega (arith, or_step n 1, or_zero_r (n / 2), e)

-- Lists of turns

word_here : (words : List ℕ) (k m : ℕ) → k < length words → slice_index (slice_set words k m) k ≡ m
word_here words k m h = rw get_or-set_same

word_else : (words : List ℕ) (k j m : ℕ) → j ≢ k → slice_index (slice_set words k m) j ≡ slice_index words j
word_else words k j m ne = rw get_or-set_other

-- where a slot's word changes that is on no list
still_at : (words : List ℕ) (k m : ℕ) (hs : List (ℕ × ℕ)) → count_by (λ (h : ℕ × ℕ). h.0 == k) hs ≡ 0 → AreAt words hs → AreAt (slice_set words k m) hs
still_at words k m [] off h = tt
still_at words k m (x ∷ hs) off h =
    let counts = firsts_cons k x hs in
    let other : x.0 ≢ k = λ e. absurd (omega (arith, off, counts, is_one x.0 k e)) in
    (rw (word_else words k x.0 m other) h.0, still_at words k m hs (omega (arith, off, counts)) h.1)

-- where a word rises
still_not_above : (words : List ℕ) (k m : ℕ) (hs : List (ℕ × ℕ)) → k < length words → slice_index words k ≤ m → AreNotAbove words hs
    → AreNotAbove (slice_set words k m) hs
still_not_above words k m [] within rises h = tt
still_not_above words k m (x ∷ hs) within rises h = (
  dite (ℕ_discrete x.0 k)
      (λ e. let below : x.1 ≤ slice_index words k = subst (λ j. x.1 ≤ slice_index words j) e h.0 in
      subst (λ j. x.1 ≤ slice_index (slice_set words k m) j) (sym e) (rw (word_here words k m within) (omega (arith, below, rises))))
      (λ other. rw (word_else words k x.0 m other) h.0),
  still_not_above words k m hs within rises h.1,
)

not_below : (words : List ℕ) (k : ℕ) (hs : List (ℕ × ℕ)) → AreNotAbove words hs → IsNotBelow (slice_index words k) k hs
not_below words k [] h = tt
not_below words k (x ∷ hs) h = ((λ e. subst (λ j. x.1 ≤ slice_index words j) e h.0), not_below words k hs h.1)

at_append : (words : List ℕ) (hs js : List (ℕ × ℕ)) → AreAt words hs → AreAt words js → AreAt words (hs ++ js)
at_append words [] js h j = j
at_append words (x ∷ hs) js h j = (h.0, at_append words hs js h.1 j)

not_above_append : (words : List ℕ) (hs js : List (ℕ × ℕ)) → AreNotAbove words hs → AreNotAbove words js → AreNotAbove words (hs ++ js)
not_above_append words [] js h j = j
not_above_append words (x ∷ hs) js h j = (h.0, not_above_append words hs js h.1 j)

-- what was seen stays seen
still_known : (x : ℕ × ℕ) (seen hs : List (ℕ × ℕ)) → All (Contains seen) hs → All (Contains (x ∷ seen)) hs
still_known x seen hs h = All-weaker (Contains seen) (Contains (x ∷ seen)) (λ y. Contains-append_right (x ∷ []) seen y) hs h

known_append : (seen more hs js : List (ℕ × ℕ)) → All (Contains seen) hs → All (Contains more) js → All (Contains (seen ++ more)) (hs ++ js)
known_append seen more hs js h j = All-append (Contains (seen ++ more)) hs js
    (All-weaker (Contains seen) (Contains (seen ++ more)) (Contains-append_left seen more) hs h)
    (All-weaker (Contains more) (Contains (seen ++ more)) (Contains-append_right seen more) js j)

-- The rule, as far as a step leaves it to be shown

module _ {T : Type 0} where
  -- one view changes and one word rises
  kept : (s : State (Option T) SlotView) (id k m : ℕ) (v w : SlotView) (c : List (ℕ × Option T)) (a : Act (Option T)) → Turns s
      → k < length s.words → get_elem? s.views id ≡ some v
      → length (homes_after s.homes c a) ≡ length s.homes
      → ((j : ℕ) → moves_of j w + slice_index s.words j ≡ moves_of j v + slice_index (slice_set s.words k m) j)
      → ((j : ℕ) → holds_of j w + slice_index s.words j % 2 ≡ holds_of j v + slice_index (slice_set s.words k m) j % 2)
      → ((j : ℕ) → j < length s.words → slice_index (slice_set s.words k m) j % 2 ≡ 0
      → (x : T) × (get_elem? (homes_after s.homes c a) j ≡ some (some (Some x))))
      → ((by : ℕ) (u : SlotView) → by ≢ id → get_elem? s.views by ≡ some u → AreAt (slice_set s.words k m) u.held)
      → AreAt (slice_set s.words k m) w.held → slice_index s.words k ≤ m → AreNotAbove (slice_set s.words k m) w.seen
      → All (Contains w.seen) w.held → Turns (stepped s k m id c w a)
  kept s id k m v w c a rule within here long moves holds homes others mine rises sees knows =
      let size : length (slice_set s.words k m) ≡ length s.words = length-set s.words k m in
      record {
        sized = long ∙ rule.sized ∙ sym size;
        counted = λ j near. let old = rule.counted j (subst (λ n. j < n) size near) in omega (
          arith,
          sum_changes
              (moves_of j) s.views id v w here,
          old,
          moves j,
        );
        once = λ j near. let old = rule.once j (subst (λ n. j < n) size near) in omega (arith, sum_changes (holds_of j) s.views id v w here, old, holds j);
        home = λ j near even. homes j (subst (λ n. j < n) size near) even;
        held = λ by u there. ⊎_elim (λ new. subst (λ (d : SlotView). AreAt (slice_set s.words k m) d.held) new.1 mine)
            (λ old. others by u old.0 old.1) (at_set s.views id by w u there);
        known = λ by u there. ⊎_elim (λ new. subst (λ (d : SlotView). All (Contains d.seen) d.held) new.1 knows)
            (λ old. rule.known by u old.1) (at_set s.views id by w u there);
        seen = λ by u there. ⊎_elim (λ new. subst (λ (d : SlotView). AreNotAbove (slice_set s.words k m) d.seen) new.1 sees)
            (λ old. still_not_above s.words k m u.seen within rises (rule.seen by u old.1)) (at_set s.views id by w u there);
      }

  pub takes_slot : (slots id k : ℕ) (v : SlotView) (c : List (ℕ × Option T)) → k < slots
      → Allows Turns slots id (v, c) k (λ n. bit_or n 1) (Takes (step slots k 1 0 none) (v, c))
  takes_slot slots id k v c near s rule long here small =
      let n : ℕ = slice_index s.words k in
      let within : k < length s.words = omega (arith, near, long, rule.sized) in
      let below = not_below s.words k v.seen (rule.seen id v here) in
      dite (ℕ_discrete (n % 2) 0)
      (λ even.
      let home = rule.home k within even in
      let w : SlotView = taken v k (n + 1) in
      let free : sum_by (holds_of k) s.views ≡ 0 = rule.once k within ∙ even in
      let next : bit_or n 1 ≡ n + 1 = or_even n even in
      let off : (by : ℕ) (u : SlotView) → get_elem? s.views by ≡ some u
      → holds_of k u ≡ 0 = λ by u there. omega (arith, free, at_least (holds_of k) s.views by u there) in (
        w,
        takes k (Some home.0),
        home.1,
        rw next (kept s id k (n + 1) v w c (takes k (Some home.0)) rule within here (length-set s.homes k none)
            (λ j. dite (ℕ_discrete j k)
            (λ e. let word : slice_index (slice_set s.words k (n + 1)) j ≡ n + 1 = subst (λ i. slice_index (slice_set s.words k (n + 1)) i ≡ n + 1)
            (sym e) (word_here s.words k (n + 1) within) in
            let old : slice_index s.words j ≡ n = ap (λ i. slice_index s.words i) e in
            omega (arith, word, old, times_cons j k v.moves, is_one k j (sym e)))
            (λ ne. omega (arith, word_else s.words k j (n + 1) ne, times_cons j k v.moves, is_none k j (λ e. ne (sym e)))))
            (λ j. dite (ℕ_discrete j k)
            (λ e. let word : slice_index (slice_set s.words k (n + 1)) j ≡ n + 1 = subst (λ i. slice_index (slice_set s.words k (n + 1)) i ≡ n + 1)
            (sym e) (word_here s.words k (n + 1) within) in
            let old : slice_index s.words j ≡ n = ap (λ i. slice_index s.words i) e in
            omega (arith, word, old, even, firsts_cons j (k, n + 1) v.held, is_one k j (sym e)))
            (λ ne. let word = word_else s.words k j (n + 1) ne in omega (arith, word, firsts_cons j (k, n + 1) v.held, is_none k j (λ e. ne (sym e)))))
            (λ j close still. dite (ℕ_discrete j k)
            (λ e. absurd (let word : slice_index (slice_set s.words k (n + 1)) j ≡ n + 1 = subst (λ i. slice_index (slice_set s.words k
            (n + 1)) i ≡ n + 1) (sym e) (word_here s.words k (n + 1) within) in
            omega (arith, word, still, even)))
            (λ ne. let old = rule.home j close (subst (λ i. i % 2 ≡ 0) (word_else s.words k j (n + 1) ne) still) in
            (old.0, set_else s.homes k j none ne ∙ old.1)))
            (λ by u ne there. still_at s.words k (n + 1) u.held (off by u there) (rule.held by u there))
            (word_here s.words k (n + 1) within, still_at s.words k (n + 1) v.held (off id v here) (rule.held id v here))
            (omega arith) (
              (let word = word_here s.words k (n + 1) within in omega (arith, word)),
              still_not_above s.words k (n + 1) v.seen within (omega arith)
                  (rule.seen id v here),
            )
            (All-cons (Contains w.seen) (k, n + 1) v.held (0, omega arith, refl) (still_known (k, n + 1) v.seen v.held (rule.known id v here)))),
        record { gives = λ e. (home.0, refl); refuses = λ e. absurd (omega (arith, e, even)); not_below = below },
      ))
      (λ odd.
      let one : n % 2 ≡ 1 = omega (arith, odd) in
      let w : SlotView = refused v k n in
      let same : bit_or n 1 ≡ n = or_odd n one in
      let words : (j : ℕ) → slice_index (slice_set s.words k n) j ≡ slice_index s.words j = λ j. dite (ℕ_discrete j k)
      (λ e. subst (λ i. slice_index (slice_set s.words k n) i ≡ slice_index s.words i) (sym e) (word_here s.words k n within))
      (λ ne. word_else s.words k j n ne) in (
        w,
        keeps,
        tt,
        rw same (kept s id k n v w c keeps rule within here refl
            (λ j. omega (arith, words j)) (λ j. omega (arith, words j))
            (λ j close still. rule.home j close (subst (λ i. i % 2 ≡ 0) (words j) still))
            (λ by u ne there. same_at s.words (slice_set s.words k n) u.held words (rule.held by u there))
            (same_at s.words (slice_set s.words k n) v.held words (rule.held id v here))
            (omega arith)
            ((let word = word_here s.words k n within in omega (arith, word)), still_not_above s.words k n v.seen within (omega arith) (rule.seen id v here))
            (still_known (k, n) v.seen v.held (rule.known id v here))),
        record { gives = λ e. absurd (odd e); refuses = λ e. refl; not_below = below },
      ))
    where
      same_at : (words new : List ℕ) (hs : List (ℕ × ℕ)) → ((j : ℕ) → slice_index new j ≡ slice_index words j) → AreAt words hs → AreAt new hs
      same_at words new [] same h = tt
      same_at words new (x ∷ hs) same h = (same x.0 ∙ h.0, same_at words new hs same h.1)

  pub puts_slot : (slots id k turn : ℕ) (v : SlotView) (others : List (ℕ × ℕ)) (x : T) (c : List (ℕ × Option T)) → k < slots → v.held ≡ (k, turn) ∷ others
      → Allows Turns slots id (v, (k, Some x) ∷ c) k (λ _. turn + 1) (λ _. Puts (step slots k (turn + 1) 0 none) (v, (k, Some x) ∷ c) (turn + 1))
  puts_slot slots id k turn v others x c near top s rule long here small =
      let n : ℕ = slice_index s.words k in
      let within : k < length s.words = omega (arith, near, long, rule.sized) in
      let w : SlotView = put_back v k (turn + 1) in
      let left : w.held ≡ others = ap (drop 1) top in
      let mine : AreAt s.words ((k, turn) ∷ others) = subst (AreAt s.words) top (rule.held id v here) in
      let has : holds_of k v ≡ 1 + count_by (λ (h : ℕ × ℕ). h.0 == k) others = ap (count_by (λ (h : ℕ × ℕ). h.0 == k)) top
      ∙ firsts_cons k (k, turn) others ∙ ap (λ i. i + count_by (λ (h : ℕ × ℕ). h.0 == k) others) (is_one k k refl) in
      let once = rule.once k within in
      let least = at_least (holds_of k) s.views id v here in
      let odd : n % 2 ≡ 1 = omega (arith, has, once, least) in
      let none_left : count_by (λ (h : ℕ × ℕ). h.0 == k) others ≡ 0 = omega (arith, has, once, least) in
      let holds_none : holds_of k w ≡ 0 = ap (count_by (λ (h : ℕ × ℕ). h.0 == k)) left ∙ none_left in
      let changes = sum_changes (holds_of k) s.views id v w here in
      let off : (by : ℕ) (u : SlotView) → by ≢ id → get_elem? s.views by ≡ some u → holds_of k u ≡ 0 = λ by u ne there.
      let there' : get_elem? (set s.views id w) by ≡ some u = set_else s.views id by w ne ∙ there in
      omega (arith, changes, has, none_left, holds_none, once, odd, at_least (holds_of k) (set s.views id w) by u there') in (
        w,
        gives,
        tt,
        kept s id k (turn + 1) v w ((k, Some x) ∷ c) gives rule within here (length-set s.homes k (some (Some x)))
            (λ j. dite (ℕ_discrete j k)
            (λ e. let word : slice_index (slice_set s.words k (turn + 1)) j ≡ turn + 1 = subst (λ i. slice_index (slice_set s.words k
            (turn + 1)) i ≡ turn + 1) (sym e) (word_here s.words k (turn + 1) within) in
            let old : slice_index s.words j ≡ turn = ap (λ i. slice_index s.words i) e ∙ mine.0 in
            omega (arith, word, old, times_cons j k v.moves, is_one k j (sym e)))
            (λ ne. omega (arith, word_else s.words k j (turn + 1) ne, times_cons j k v.moves, is_none k j (λ e. ne (sym e)))))
            (λ j. let count : holds_of j v ≡ (if k == j then 1 else 0) + holds_of j w =
            ap (count_by (λ (h : ℕ × ℕ). h.0 == j)) top ∙ firsts_cons j (k, turn) others
            ∙ ap (λ (hs : List (ℕ × ℕ)). (if k == j then 1 else 0) + count_by (λ (h : ℕ × ℕ). h.0 == j) hs) (sym left) in
            dite (ℕ_discrete j k)
            (λ e. let word : slice_index (slice_set s.words k (turn + 1)) j ≡ turn + 1 = subst (λ i. slice_index (slice_set s.words k
            (turn + 1)) i ≡ turn + 1) (sym e) (word_here s.words k (turn + 1) within) in
            let old : slice_index s.words j ≡ turn = ap (λ i. slice_index s.words i) e ∙ mine.0 in
            omega (arith, word, old, odd, mine.0, count, is_one k j (sym e)))
            (λ ne. let word = word_else s.words k j (turn + 1) ne in omega (arith, word, count, is_none k j (λ e. ne (sym e)))))
            (λ j close still. dite (ℕ_discrete j k)
            (λ e. (
              x,
              subst (λ i. get_elem? (set s.homes k (some (Some x))) i ≡ some (some (Some x))) (sym e) (set_here s.homes k (some (Some x))
                  (omega (arith, near, long))),
            ))
            (λ ne. let old = rule.home j close (subst (λ i. i % 2 ≡ 0) (word_else s.words k j (turn + 1) ne) still) in (
              old.0,
              set_else s.homes k j
                  (some (Some x)) ne ∙ old.1,
            )))
            (λ by u ne there. still_at s.words k (turn + 1) u.held (off by u ne there) (rule.held by u there))
            (subst (AreAt (slice_set s.words k (turn + 1))) (sym left) (still_at s.words k (turn + 1) others none_left mine.1))
            (omega (arith, mine.0)) (
              (let word = word_here s.words k (turn + 1) within in omega (arith, word)),
              still_not_above s.words k (turn + 1) v.seen within (omega
                  (arith, mine.0)) (rule.seen id v here),
            )
            (All-drop (Contains w.seen) 1 v.held (still_known (k, turn + 1) v.seen v.held (rule.known id v here))),
        refl,
      )

  pub splits_seat : (id : ℕ) (v : SlotView) → Splits {S = Option T} Turns id v v new_view
  splits_seat id v s rule here =
      let views : List SlotView = set s.views id v in
      let same : views ≡ s.views = set_again s.views id v here in
      record {
        sized = rule.sized;
        counted = λ j near. omega (arith, sum_gains (moves_of j) views new_view, ap (sum_by (moves_of j)) same, rule.counted j near);
        once = λ j near. omega (arith, sum_gains (holds_of j) views new_view, ap (sum_by (holds_of j)) same, rule.once j near);
        home = rule.home;
        held = λ by u there. ⊎_elim (λ old. rule.held by u (sym (ap (λ (vs : List SlotView). get_elem? vs by) same)
            ∙ old)) (λ new. subst (λ (d : SlotView). AreAt s.words d.held) new tt) (at_snoc views new_view u by there);
        known = λ by u there. ⊎_elim (λ old. rule.known by u (sym (ap (λ (vs : List SlotView). get_elem? vs by) same)
            ∙ old)) (λ new. subst (λ (d : SlotView). All (Contains d.seen) d.held) new (All-nil (Contains new_view.seen))) (at_snoc views new_view u by there);
        seen = λ by u there. ⊎_elim (λ old. rule.seen by u (sym (ap (λ (vs : List SlotView). get_elem? vs by) same)
            ∙ old)) (λ new. subst (λ (d : SlotView). AreNotAbove s.words d.seen) new tt) (at_snoc views new_view u by there);
      }

  pub joins_seat : (id : ℕ) (v : SlotView) (other : ℕ) (w : SlotView) → Joins {S = Option T} Turns id v other w (joined v w) new_view
  joins_seat id v other w s rule here ne there =
      let both : SlotView = joined v w in
      let views : List SlotView = set s.views id both in
      let before : get_elem? s.views other ≡ some w = sym (set_else s.views id other both ne) ∙ there in
      record {
        sized = rule.sized;
        counted = λ j near. omega (
          arith,
          sum_changes (moves_of j) views other w new_view there,
          sum_changes
              (moves_of j) s.views id v both here,
          times_append j v.moves w.moves,
          rule.counted j near,
        );
        once = λ j near. omega (
          arith,
          sum_changes (holds_of j) views other w new_view there,
          sum_changes
              (holds_of j) s.views id v both here,
          firsts_append j v.held w.held,
          rule.once j near,
        );
        home = rule.home;
        held = λ by u at_by. ⊎_elim (λ new. subst (λ (d : SlotView). AreAt s.words d.held) new.1 tt)
            (λ old. ⊎_elim (λ new. subst (λ (d : SlotView). AreAt s.words d.held) new.1 (at_append s.words v.held w.held (rule.held id v here)
            (rule.held other w before)))
            (λ same. rule.held by u same.1) (at_set s.views id by both u old.1)) (at_set views other by new_view u at_by);
        known = λ by u at_by. ⊎_elim (λ new. subst (λ (d : SlotView). All (Contains d.seen) d.held) new.1 (All-nil (Contains new_view.seen)))
            (λ old. ⊎_elim (λ new. subst (λ (d : SlotView). All (Contains d.seen) d.held) new.1 (known_append v.seen w.seen v.held w.held
            (rule.known id v here) (rule.known other w before)))
            (λ same. rule.known by u same.1) (at_set s.views id by both u old.1)) (at_set views other by new_view u at_by);
        seen = λ by u at_by. ⊎_elim (λ new. subst (λ (d : SlotView). AreNotAbove s.words d.seen) new.1 tt)
            (λ old. ⊎_elim (λ new. subst (λ (d : SlotView). AreNotAbove s.words d.seen) new.1 (not_above_append s.words v.seen w.seen
            (rule.seen id v here) (rule.seen other w before)))
            (λ same. rule.seen by u same.1) (at_set s.views id by both u old.1)) (at_set views other by new_view u at_by);
      }

zeros_at : (n k : ℕ) → slice_index (replicate n 0) k ≡ 0
zeros_at zero k = refl
zeros_at (suc n) zero = refl
zeros_at (suc n) (suc k) = zeros_at n k

home_at : {T : Type 0} (values : List T) (k : ℕ) → k < length values → (x : T) × (get_elem? (map some (map Some values)) k ≡ some (some (Some x)))
home_at [] k near = absurd (omega arith)
home_at (x ∷ values) zero near = (x, refl)
home_at (x ∷ values) (suc k) near = home_at values k (omega arith)

first_at : (P : SlotView → Type 0) (by : ℕ) (u : SlotView) → get_elem? (new_view ∷ []) by ≡ some u → P new_view → P u
first_at P zero u there p = subst P (some-injective new_view u there) p
first_at P (suc by) u there p = absurd (some-ne-none u (sym there))

pub opens_slots : {T : Type 0} (turns : List ℕ) (values : List T) → turns ≡ replicate (length values) 0 → Turns (opening turns (map Some values) new_view)
opens_slots turns values zeros = record {
  sized = length-map (map Some values) some ∙ length-map values Some ∙ sym (ap length zeros ∙ length-replicate (length values) 0);
  counted = λ k near. sum_by-cons (moves_of k) new_view [] ∙ sym (ap (λ (ws : List ℕ). slice_index ws k) zeros ∙ zeros_at (length values) k);
  once = λ k near. sum_by-cons (holds_of k) new_view [] ∙ sym (ap (λ (ws : List ℕ). slice_index ws k % 2) zeros ∙ ap (λ n. n % 2) (zeros_at (length values) k));
  home = λ k near even. home_at values k (subst (λ n. k < n) (ap length zeros ∙ length-replicate (length values) 0) near);
  held = λ by u there. first_at (λ (v : SlotView). AreAt turns v.held) by u there tt;
  known = λ by u there. first_at (λ (v : SlotView). All (Contains v.seen) v.held) by u there (All-nil (Contains new_view.seen));
  seen = λ by u there. first_at (λ (v : SlotView). AreNotAbove turns v.seen) by u there tt;
}

-- a seat that holds no slot carries none
pub carries_none : {T : Type 0} (me : Me (Option T) SlotView) → Carries me → me.0.held ≡ [] → me.1 ≡ []
carries_none me h e = h ∙ ap (map (λ (x : ℕ × ℕ). (x.0, None))) e

-- the slot in front
pub in_front : {S : Type 0} (cs more : List (ℕ × S)) (k : ℕ) (y : S) → cs ≡ (k, y) ∷ more → cs ≡ (k, y) ∷ rest cs
in_front {S} cs more k y e = e ∙ ap (λ (xs : List (ℕ × S)). (k, y) ∷ xs) (sym (ap rest e))

pub not_below_more : (n m k : ℕ) (hs : List (ℕ × ℕ)) → n ≤ m → IsNotBelow n k hs → IsNotBelow m k hs
not_below_more n m k [] le h = tt
not_below_more n m k (x ∷ hs) le h = ((λ e. omega (arith, h.0 e, le)), not_below_more n m k hs le h.1)
