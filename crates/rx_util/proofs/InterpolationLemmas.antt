-- How far a template is filled in, and where that ends for want of memory.
use Rattle.std.proofs.Common.{◌≡◌, ℕ, ◌+◌, ◌⊎◌, inl, inr, ⊎_elim, List, [], ◌++◌, take, drop, Option, Some, None, Result, Ok, Err, MatchResult, MutBor, Bor, sym, refl, ap, ◌∙◌, subst, append_assoc, append-nil, drop-drop, zero, suc, ◌-◌, ◌<◌, ◌≤◌, length, get_or, slice_index, IsUtf8, IsCharBoundary, arith}
use Rattle.std.specs.Fn.{Mut, Called}
use Rattle.std.proofs.lemmas.Str.{IsUtf8-drop, IsCharBoundary-after_ascii}
use Rattle.std.specs.List.{position}
use Rattle.rx_memory.specs.declared.memory.Memory.{Memory}
use Rattle.rx_util.specs.Template.{is_dollar, at_dollar, IsTextOf, IsFrontOf}
use Rattle.rx_util.specs.Template.IsTextOf.{plain, dollar}
use Rattle.rx_util.specs.Template.IsFrontOf.{none, to_dollar, past_dollar}
use Rattle.rx_util.specs.Interpolation.{IsLeft, IsWritten, IsCutShort}

module _ (piece : ℕ → List ℕ) (index : List ℕ → Option ℕ) (template old : List ℕ) where
  -- what is appended so far, before the text of the rest, is the text of the template
  pub record SoFar (rest now : List ℕ) : Type 0 where
    pub done : List ℕ
    pub held : now ≡ old ++ done
    pub whole : (text : List ℕ) → IsTextOf piece index rest text → IsTextOf piece index template (done ++ text)
    pub fronts : (front : List ℕ) → IsFrontOf piece index rest front → IsFrontOf piece index template (done ++ front)

  pub starts : SoFar template old
  starts = record { done = []; held = sym (append-nil old); whole = λ text is. is; fronts = λ front is. is }

  pub goes : (rest now new : List ℕ) (place : ℕ) → position is_dollar rest ≡ Some place → SoFar rest now
      → new ≡ (now ++ take place rest) ++ (at_dollar piece index (drop (place + 1) rest)).0
      → SoFar (drop (at_dollar piece index (drop (place + 1) rest)).1 (drop (place + 1) rest)) new
  goes rest now new place found h e =
      let stands : List ℕ = (at_dollar piece index (drop (place + 1) rest)).0 in
      let len : ℕ = (at_dollar piece index (drop (place + 1) rest)).1 in
      record {
        done = h.done ++ (take place rest ++ stands);
        held = e ∙ ap (λ (xs : List ℕ). (xs ++ take place rest) ++ stands) h.held
            ∙ ap (λ (xs : List ℕ). xs ++ stands) (append_assoc old h.done (take place rest))
            ∙ append_assoc old (h.done ++ take place rest) stands ∙ ap (λ (xs : List ℕ). old ++ xs) (append_assoc h.done (take place rest) stands);
        whole = λ text is. subst (IsTextOf piece index template)
            (ap (λ (xs : List ℕ). h.done ++ xs) (sym (append_assoc (take place rest) stands text)) ∙ sym (append_assoc h.done (take place rest ++ stands) text))
            (h.whole (take place rest ++ (stands ++ text)) (dollar rest text place found (subst (λ (r : List ℕ). IsTextOf piece index r text)
            (drop-drop len (place + 1) rest) is)));
        fronts = λ front is. subst (IsFrontOf piece index template)
            (ap (λ (xs : List ℕ). h.done ++ xs) (sym (append_assoc (take place rest) stands front)) ∙ sym (append_assoc h.done (take place rest ++ stands) front))
            (h.fronts (take place rest ++ (stands ++ front)) (past_dollar rest front place found (subst (λ (r : List ℕ). IsFrontOf piece index r front)
            (drop-drop len (place + 1) rest) is)));
      }

  pub goes_on : (rest now mid new : List ℕ) (place taken : ℕ) (after next : List ℕ) → position is_dollar rest ≡ Some place → SoFar rest now
      → after ≡ drop (place + 1) rest
      → taken ≡ (at_dollar piece index after).1 → next ≡ drop taken after → mid ≡ now ++ take place rest
      → new ≡ mid ++ (at_dollar piece index after).0 → SoFar next new
  goes_on rest now mid new place taken after next found h is_after is_taken is_next is_mid is_new =
      subst (λ (n : List ℕ). SoFar n new)
      (ap (λ (a : List ℕ). drop (at_dollar piece index a).1 a) (sym is_after) ∙ ap (λ (n : ℕ). drop n after) (sym is_taken) ∙ sym is_next)
      (goes rest now new place found h
      (is_new ∙ ap (λ (m : List ℕ). m ++ (at_dollar piece index after).0) is_mid
      ∙ ap (λ (a : List ℕ). (now ++ take place rest) ++ (at_dollar piece index a).0) is_after))

  pub ends : (rest now new : List ℕ) → position is_dollar rest ≡ None → SoFar rest now → new ≡ now ++ rest → IsWritten piece index template old new
  ends rest now new found h e = record {
    text = h.done ++ rest;
    is = h.whole rest (plain rest found);
    appended = e ∙ ap (λ (xs : List ℕ). xs ++ rest) h.held ∙ append_assoc old h.done rest;
  }

  module _ {A N D : Type 0} (append : Mut A (ℕ × (MutBor D × Unit {0})) (Result (Unit {0}) Memory × (MutBor D × Unit {0}))) (find : Mut N (Bor
      (List ℕ) × Unit {0}) (Option ℕ)) (bytes : D → List ℕ) where
    cut : (rest now new front : List ℕ) → SoFar rest now → IsFrontOf piece index rest front
        → (new ≡ now ++ front) ⊎ IsLeft append find bytes (now ++ front) new → IsCutShort append find bytes piece index template old new
    cut rest now new front h is left =
        let same : now ++ front ≡ old ++ (h.done ++ front) = ap (λ (xs : List ℕ). xs ++ front) h.held ∙ append_assoc old h.done front in
        record {
          front = h.done ++ front;
          is = h.fronts front is;
          left = ⊎_elim (λ kept. inl (kept ∙ same)) (λ by. inr (subst (λ (xs : List ℕ). IsLeft append find bytes xs new) same by)) left;
        }

    -- a piece was not appended
    pub cut_before : (rest now new : List ℕ) → SoFar rest now → new ≡ now → IsCutShort append find bytes piece index template old new
    cut_before rest now new h e = cut rest now new [] h (none rest) (inl (e ∙ sym (append-nil now)))

    -- what a `$` stands for was not appended
    pub cut_at : (rest now new : List ℕ) (place : ℕ) → position is_dollar rest ≡ Some place → SoFar rest now
        → (new ≡ now ++ take place rest) ⊎ IsLeft append find bytes (now ++ take place rest) new → IsCutShort append find bytes piece index template old new
    cut_at rest now new place found h left = cut rest now new (take place rest) h (to_dollar rest place found) left

    pub finishes : (rest now new : List ℕ) (r : Result (Unit {0}) Memory) → position is_dollar rest ≡ None → SoFar rest now
        → MatchResult r (λ _. new ≡ now ++ rest) (λ _. new ≡ now)
        → MatchResult r (λ _. IsWritten piece index template old new) (λ _. IsCutShort append find bytes piece index template old new)
    finishes rest now new (Ok x) found h e = ends rest now new found h e
    finishes rest now new (Err x) found h e = cut_before rest now new h e

module _ {A N D : Type 0} (append : Mut A (ℕ × (MutBor D × Unit {0})) (Result (Unit {0}) Memory × (MutBor D × Unit {0}))) (find : Mut N (Bor
    (List ℕ) × Unit {0}) (Option ℕ)) (bytes : D → List ℕ) where
  pub left_by : {by after : A} {number : ℕ} {want : Memory} {given gone : MutBor D} {found left : List ℕ}
      → Called append by (number, (given, tt)) (Err want, (gone, tt)) after
      → bytes given.now ≡ found → bytes gone.now ≡ left → IsLeft append find bytes found left
  left_by {by} {after} {number} {want} {given} {gone} called finds leaves =
      record { by = by; after = after; number = number; want = want; given = given; gone = gone; called = called; finds = finds; leaves = leaves }

dropped : (after : List ℕ) (taken : ℕ) → IsUtf8 after → taken ≤ length after → (0 < taken → slice_index after (taken - 1) < 128) → IsUtf8 (drop taken after)
dropped after zero u le ascii = u
dropped after (suc n) u le ascii =
    let last : suc n - 1 ≡ n = omega arith in
    let next : n + 1 ≡ suc n = omega arith in
    let small : get_or after n 0 < 128 = subst (λ (i : ℕ). get_or after i 0 < 128) last (ascii (omega arith)) in
    IsUtf8-drop after (suc n) u (subst (IsCharBoundary after) next (IsCharBoundary-after_ascii after n u (omega arith) small))

-- what is left of a text after a `$` and what is taken with it
pub left_text : (rest after : List ℕ) (place taken : ℕ) → IsUtf8 rest → place < length rest → slice_index rest place ≡ 36 → after ≡ drop (place + 1) rest
    → taken ≤ length after → (0 < taken → slice_index after (taken - 1) < 128) → IsUtf8 (drop taken after)
left_text rest after place taken u lt sign is le ascii =
    let ua : IsUtf8 after = subst IsUtf8 (sym is) (IsUtf8-drop rest (place + 1) u (IsCharBoundary-after_ascii rest place u lt (omega (arith, sign)))) in
    dropped after taken ua le ascii
