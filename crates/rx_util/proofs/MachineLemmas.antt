-- The machine of a pool's stack: each event keeps it sound.
use Rattle.std.proofs.Common.{◌≡◌, ◌≢◌, ℕ, zero, suc, ◌+◌, ◌-◌, ◌<◌, ◌≤◌, List, [], ◌∷◌, ◌++◌, length, take, drop, get_or, slice_index, subst, eqb-true, eq-eqb, ne_eqb, true≢false, refl, ap, sym, ◌∙◌, arith, length-append, length-drop}
use Rattle.std.specs.Prelude.{Bool, true, false, Option, Some, None, IfSome, is_some, unwrap_or, ◌==◌, nat_lt, if◌then◌else◌}
use Rattle.std.specs.List.{remove}
use Rattle.std.proofs.lemmas.List.{take_more, take_all, drop_more, take-append-drop, length-take-le}
use Rattle.std.proofs.lemmas.List.Sums.{sum_by-append}
use Rattle.std.proofs.lemmas.Option.{slice_get_within, unwrap_or-slice_get}
use Rattle.std.proofs.lemmas.Bool.Decides.{nat_tests}
use Rattle.rx_util.specs.PoolMachine.{Numbers, Event, Take, Make, Put, Drop, at_first, last_of, but_last, times, last_place, place_of, taken, made, put_from, happens, lends, run, IsSound, NoneIsLentTwice, StaysSound}

-- how often a number stands at one place that holds another
abbrev pub one : (number other : ℕ) → ℕ
one number other = if other == number then 1 else 0

-- one more number
pub times-push : (m n : ℕ) (xs : List ℕ) → times m (xs ++ n ∷ []) ≡ times m xs + one m n
times-push m n xs =
    let e : times m (xs ++ n ∷ []) ≡ times m xs + (0 + one m n) = sum_by-append (λ (x : ℕ). one m x) xs (n ∷ []) in
    omega arith

-- one more number in front
times-cons : (m n : ℕ) (xs : List ℕ) → times m (n ∷ xs) ≡ one m n + times m xs
times-cons m n xs =
    let e : times m (n ∷ xs) ≡ 0 + one m n + times m xs = sum_by-append (λ (x : ℕ). one m x) (n ∷ []) xs in
    omega arith

-- a list that has a last number is the numbers before it, and that number
pub last-is : (xs : List ℕ) (n : ℕ) → last_of xs ≡ Some n → xs ≡ but_last xs ++ n ∷ []
last-is xs n is =
    let there : length xs - 1 < length xs = slice_get_within xs (length xs - 1) n is in
    let read : get_or xs (length xs - 1) 0 ≡ n = sym (unwrap_or-slice_get xs (length xs - 1) 0) ∙ ap (λ (o : Option ℕ). unwrap_or o 0) is in
    let all : take (length xs - 1 + 1) xs ≡ xs = take_all (length xs - 1 + 1) xs (omega arith) in
    sym all ∙ take_more xs (length xs - 1) 0 there ∙ ap (λ (k : ℕ). but_last xs ++ k ∷ []) read

-- what is known of a place that was found
pub record IsPlace (n : ℕ) (xs : List ℕ) (i : ℕ) : Type 0 where
  pub there : i < length xs
  pub rest : drop i xs ≡ n ∷ drop (suc i) xs

-- by the test of the last of the first numbers, and what is known of those before it
place_step : (n count : ℕ) (xs : List ℕ) (i : ℕ) (test : Bool) → (slice_index xs count == n) ≡ test
    → (if test then Some count else last_place n count xs) ≡ Some i
    → (last_place n count xs ≡ Some i → (i < count) × (slice_index xs i ≡ n)) → (i < suc count) × (slice_index xs i ≡ n)
place_step n count xs i true is e before =
    let same : count ≡ i = ap (λ (o : Option ℕ). unwrap_or o 0) e in
    (omega (arith, same), subst (λ k. slice_index xs k ≡ n) same (eqb-true _ _ is))
place_step n count xs i false is e before = let found = before e in (omega (arith, found.0), found.1)

place_within : (n count : ℕ) (xs : List ℕ) (i : ℕ) → last_place n count xs ≡ Some i → (i < count) × (slice_index xs i ≡ n)
place_within n zero xs i e = absurd (true≢false (sym (ap (λ (o : Option ℕ). is_some o) e)))
place_within n (suc count) xs i e = place_step n count xs i (slice_index xs count == n) refl e (place_within n count xs i)

-- the last of the first numbers is the one that is looked for
pub last-found : (n k count : ℕ) (xs : List ℕ) → count ≡ suc k → slice_index xs k ≡ n → last_place n count xs ≡ Some k
last-found n k count xs e here =
    ap (λ c. last_place n c xs) e ∙ ap (λ (test : Bool). if test then Some k else last_place n k xs) (eq-eqb _ _ here)

-- or it is another one
pub last-other : (n k count : ℕ) (xs : List ℕ) → count ≡ suc k → slice_index xs k ≢ n → last_place n count xs ≡ last_place n k xs
last-other n k count xs e other =
    ap (λ c. last_place n c xs) e ∙ ap (λ (test : Bool). if test then Some k else last_place n k xs) (ne_eqb _ _ other)

pub place-found : (n : ℕ) (xs : List ℕ) (i : ℕ) → place_of n xs ≡ Some i → IsPlace n xs i
place-found n xs i is =
    let found = place_within n (length xs) xs i is in
    let there : i < length xs = found.0 in
    let same : get_or xs i 0 ≡ n = found.1 in
    let next : i + 1 ≡ suc i = omega arith in
    record {
      there = there;
      rest = drop_more xs i 0 there ∙ ap (λ (k : ℕ). k ∷ drop (i + 1) xs) same ∙ ap (λ (k : ℕ). n ∷ drop k xs) next;
    }

-- a number that is found stands once less where it is removed
pub times-remove : (m n : ℕ) (xs : List ℕ) (i : ℕ) → place_of n xs ≡ Some i → times m xs ≡ times m (remove xs i) + one m n
times-remove m n xs i is =
    let place = place-found n xs i is in
    let whole : times m xs ≡ times m (take i xs) + times m (drop i xs) =
    ap (λ (ys : List ℕ). times m ys) (sym (take-append-drop i xs)) ∙ sum_by-append (λ (x : ℕ). one m x) (take i xs) (drop i xs) in
    let parts : times m (remove xs i) ≡ times m (take i xs) + times m (drop (suc i) xs) =
    sum_by-append (λ (x : ℕ). one m x) (take i xs) (drop (suc i) xs) in
    let head : times m (drop i xs) ≡ one m n + times m (drop (suc i) xs) =
    ap (λ (ys : List ℕ). times m ys) place.rest ∙ times-cons m n (drop (suc i) xs) in
    omega (arith, whole, parts, head)

pub length-remove : (n : ℕ) (xs : List ℕ) (i : ℕ) → place_of n xs ≡ Some i → length (remove xs i) + 1 ≡ length xs
length-remove n xs i is =
    let place = place-found n xs i is in
    let there : i < length xs = place.there in
    let whole : length (remove xs i) ≡ length (take i xs) + length (drop (suc i) xs) = length-append (take i xs) (drop (suc i) xs) in
    let front : length (take i xs) ≡ i = length-take-le i xs (omega arith) in
    let back : length (drop (suc i) xs) ≡ length xs - suc i = length-drop (suc i) xs in
    omega arith

-- a number below the next one stands once
below : (m n : ℕ) → (if nat_lt m n then 1 else 0) + one m n ≡ (if nat_lt m (n + 1) then 1 else 0)
below m n = grind (arith, nat_tests)

-- the next number is not below itself
not_below : (n : ℕ) → ◌≡◌ {A = ℕ} (if nat_lt n n then 1 else 0) 0
not_below n = grind (arith, nat_tests)

-- at first all is sound
sound-first : IsSound at_first
sound-first = record { once = λ n. grind (arith, nat_tests); count = refl }

-- the number that is taken moves
pub sound-taken : (s : Numbers) (o : Option ℕ) → last_of s.stored ≡ o → IsSound s → IsSound (taken s o)
sound-taken s None is sound = sound
sound-taken s (Some n) is sound =
    let whole = last-is s.stored n is in
    record {
      once = λ m.
          let before = ap (λ (xs : List ℕ). times m xs) whole ∙ times-push m n (but_last s.stored) in
          omega (arith, sound.once m, before, times-push m n s.lent);
      count = omega (arith, sound.count, ap length whole, length-append (but_last s.stored) (n ∷ []), length-append s.lent (n ∷ []));
    }

-- the next number is lent
pub sound-made : (s : Numbers) → IsSound s → IsSound (made s)
sound-made s sound =
    record {
      once = λ m. omega (arith, sound.once m, times-push m s.next s.lent, below m s.next);
      count = omega (arith, sound.count, length-append s.lent (s.next ∷ []));
    }

-- a number that was lent is stored
pub sound-put : (s : Numbers) (n : ℕ) (o : Option ℕ) → place_of n s.lent ≡ o → IsSound s → IsSound (put_from s n o)
sound-put s n None is sound = sound
sound-put s n (Some i) is sound =
    record {
      once = λ m. omega (arith, sound.once m, times-push m n s.stored, times-remove m n s.lent i is);
      count = omega (arith, sound.count, length-append s.stored (n ∷ []), length-remove n s.lent i is);
    }

-- each event keeps the machine sound
pub sound-happens : (s : Numbers) (e : Event) → IsSound s → IsSound (happens s e)
sound-happens s Take sound = sound-taken s (last_of s.stored) refl sound
sound-happens s Make sound = sound-made s sound
sound-happens s (Put n) sound = sound-put s n (place_of n s.lent) refl sound
sound-happens s (Drop n) sound = sound

pub sound-run : (events : List Event) (s : Numbers) → IsSound s → IsSound (run events s)
sound-run [] s sound = sound
sound-run (e ∷ events) s sound = sound-run events (happens s e) (sound-happens s e sound)

-- what stands last among those stored is not lent
free-last : (s : Numbers) (o : Option ℕ) → last_of s.stored ≡ o → IsSound s → IfSome o (λ n. times n s.lent ≡ 0)
free-last s None is sound = tt
free-last s (Some n) is sound =
    let stands = ap (λ (xs : List ℕ). times n xs) (last-is s.stored n is) ∙ times-push n n (but_last s.stored) in
    let itself : one n n ≡ 1 = grind (arith, nat_tests) in
    let most : (if nat_lt n s.next then 1 else 0) ≤ 1 = grind (arith, nat_tests) in
    omega (arith, sound.once n, stands, itself, most)

-- an event lends no number that is lent
pub free-lends : (s : Numbers) (e : Event) → IsSound s → IfSome (lends s e) (λ n. times n s.lent ≡ 0)
free-lends s Take sound = free-last s (last_of s.stored) refl sound
free-lends s Make sound =
    omega (arith, sound.once s.next, not_below s.next)
free-lends s (Put n) sound = tt
free-lends s (Drop n) sound = tt

pub stays-sound : StaysSound
stays-sound events = sound-run events at_first sound-first

pub none-is-lent-twice : NoneIsLentTwice
none-is-lent-twice events event = free-lends (run events at_first) event (stays-sound events)
