-- What a stack does to its values is what the machine does to its numbers.
use Rattle.std.proofs.Common.{◌≡◌, ℕ, ◌+◌, ◌-◌, List, [], ◌∷◌, ◌++◌, length, map, refl, ap, sym, ◌∙◌, subst, arith}
use Rattle.std.specs.Prelude.{Option, Some, IfSome}
use Rattle.std.specs.List.{remove}
use Rattle.std.proofs.lemmas.List.{map-append, length_push, get_or_push, take_at}
use Rattle.std.proofs.lemmas.Option.{slice_get_read}
use Rattle.rx_util.specs.PoolMachine.{Numbers, Take, Put, last_of, but_last, place_of, taken, put_from, happens, IsSound}
use Rattle.rx_util.specs.Stack.{StackValue, numbers_of, Takes, with_value}
use Rattle.rx_util.proofs.MachineLemmas.{sound-taken, sound-made, sound-put}

last-push : (xs : List ℕ) (n : ℕ) → last_of (xs ++ n ∷ []) ≡ Some n
last-push xs n =
    let len : length (xs ++ n ∷ []) ≡ length xs + 1 = length_push xs n in
    let at : length xs ≡ length (xs ++ n ∷ []) - 1 = omega arith in
    slice_get_read (xs ++ n ∷ []) (length (xs ++ n ∷ [])) (length (xs ++ n ∷ []) - 1) n refl (omega arith)
    (sym (get_or_push xs n n (length (xs ++ n ∷ []) - 1) at))

but_last-push : (xs : List ℕ) (n : ℕ) → but_last (xs ++ n ∷ []) ≡ xs
but_last-push xs n =
    let len : length (xs ++ n ∷ []) ≡ length xs + 1 = length_push xs n in
    let at : length xs ≡ length (xs ++ n ∷ []) - 1 = omega arith in
    take_at xs (n ∷ []) (length (xs ++ n ∷ []) - 1) at

-- the last number becomes lent
taken-is : (s : Numbers) (xs : List ℕ) (n : ℕ) → s.stored ≡ xs ++ n ∷ []
    → taken s (last_of s.stored) ≡ record { stored = xs; lent = s.lent ++ n ∷ []; next = s.next }
taken-is s xs n e =
    let last : last_of s.stored ≡ Some n = ap (λ (ys : List ℕ). last_of ys) e ∙ last-push xs n in
    let rest : but_last s.stored ≡ xs = ap (λ (ys : List ℕ). but_last ys) e ∙ but_last-push xs n in
    let with_rest : List ℕ → Numbers = λ ys. record { stored = ys; lent = s.lent ++ n ∷ []; next = s.next } in
    ap (λ (o : Option ℕ). taken s o) last ∙ ap with_rest rest

module _ {T : Type 0} where
  abbrev number : ℕ × T → ℕ
  number e = e.0

  -- the numbers of one more value
  numbers-push : (xs : List (ℕ × T)) (e : ℕ × T) → map number (xs ++ e ∷ []) ≡ map number xs ++ e.0 ∷ []
  numbers-push xs e = map-append number xs (e ∷ [])

  pub take-event : (old new : StackValue T) (answer : ℕ × T) → Takes old new answer → numbers_of new ≡ happens (numbers_of old) Take
  take-event old new answer t =
      let before : map number old.stored ≡ map number new.stored ++ answer.0 ∷ [] =
      ap (λ (xs : List (ℕ × T)). map number xs) t.last ∙ numbers-push new.stored answer in
      let here : numbers_of new ≡ record { stored = map number new.stored; lent = old.lent ++ answer.0 ∷ []; next = old.next } =
      λ k. record { stored = map number new.stored; lent = t.lent k; next = t.next k } in
      here ∙ sym (taken-is (numbers_of old) (map number new.stored) answer.0 before)

  -- a stack stays sound where a value is taken
  pub take-sound : (old new : StackValue T) (answer : ℕ × T) → Takes old new answer → IsSound (numbers_of old) → IsSound (numbers_of new)
  take-sound old new answer t sound =
      subst IsSound (sym (take-event old new answer t)) (sound-taken (numbers_of old) (last_of (numbers_of old).stored) refl sound)

  -- where a number is made
  pub make-sound : (old new : StackValue T) → new.stored ≡ old.stored → new.lent ≡ old.lent ++ old.next ∷ [] → new.next ≡ old.next + 1
      → IsSound (numbers_of old) → IsSound (numbers_of new)
  make-sound old new stored lent next sound =
      let same : numbers_of new ≡ record { stored = map number old.stored; lent = old.lent ++ old.next ∷ []; next = old.next + 1 } =
      λ k. record { stored = map number (stored k); lent = lent k; next = next k } in
      subst IsSound (sym same) (sound-made (numbers_of old) sound)

  -- The value is stored under its number, which stood at a place among those lent.
  pub record Puts (old new : StackValue T) (place n : ℕ) (value : T) : Type 0 where
    pub found : place_of n old.lent ≡ Some place
    pub stored : new.stored ≡ old.stored ++ (n, value) ∷ []
    pub lent : new.lent ≡ remove old.lent place
    pub next : new.next ≡ old.next

  pub put-answer : (old new : StackValue T) (place n : ℕ) (value : T) → Puts old new place n value
      → IfSome (place_of n old.lent) (λ p. new ≡ with_value old p n value)
  put-answer old new place n value p =
      let same : new ≡ with_value old place n value = λ k. record { stored = p.stored k; lent = p.lent k; next = p.next k } in
      subst (λ (o : Option ℕ). IfSome o (λ q. new ≡ with_value old q n value)) (sym p.found) same

  pub put-event : (old new : StackValue T) (place n : ℕ) (value : T) → Puts old new place n value
      → numbers_of new ≡ happens (numbers_of old) (Put n)
  put-event old new place n value p =
      let stored : map number new.stored ≡ map number old.stored ++ n ∷ [] =
      ap (λ (xs : List (ℕ × T)). map number xs) p.stored ∙ numbers-push old.stored (n, value) in
      let same : numbers_of new ≡ put_from (numbers_of old) n (Some place) =
      λ k. record { stored = stored k; lent = p.lent k; next = p.next k } in
      same ∙ ap (λ (o : Option ℕ). put_from (numbers_of old) n o) (sym p.found)

  pub put-sound : (old new : StackValue T) (place n : ℕ) (value : T) → Puts old new place n value → IsSound (numbers_of old) → IsSound (numbers_of new)
  put-sound old new place n value p sound =
      subst IsSound (sym (put-event old new place n value p)) (sound-put (numbers_of old) n (place_of n old.lent) refl sound)
