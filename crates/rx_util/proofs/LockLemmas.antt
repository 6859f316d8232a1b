-- Each step on the lock of a stack keeps its rule, and each call of the stack keeps what is known of its values.
use Rattle.std.proofs.Common.{◌≡◌, ◌≢◌, ℕ, get_or, ◌<◌, List, [], ◌∷◌, ◌++◌, length, length-set, get_or-set_same, slice_index, slice_set, true≢false, refl, ap, sym, ◌∙◌, subst, arith}
use Rattle.std.specs.Prelude.{Option, Some, None, IfSome, IsSome, Result, Ok, Err, IfOk, IsOk, MatchResult}
use mathlib.Core.Option.{some, none}
use mathlib.Core.Logic.{dite}
use native.Mathlib.Decide.{ℕ_discrete}
use Rattle.atomic_table.specs.Table.{Me, rest, keeps, takes, gives, Allows, Arrives, opening}
use Rattle.atomic_table.proofs.Lists.{set_here}
use Rattle.rx_util.specs.PoolMachine.{place_of}
use Rattle.rx_util.specs.Stack.{StackValue, Takes, with_next, with_value}
use Rattle.rx_util.specs.Lock.{AreMade, KeepsMade, HasStack, Holds}

word_here : (words : List ℕ) (n : ℕ) → 0 < length words → slice_index (slice_set words 0 n) 0 ≡ n
word_here words n h = rw get_or-set_same

module _ {T M : Type 0} (made : T → Type 0) where
  -- while the lock is held the rule says nothing of the stack
  while_held : (words : List ℕ) (homes : List (mathlib.Core.Option.Option (StackValue T))) (views : List M) (n : ℕ) → n ≢ 0 → 0 < length words → length homes ≡ 1
      → KeepsMade made (record { words = slice_set words 0 n; homes = homes; views = views })
  while_held words homes views n held there one =
      record {
        word = rw (length-set words 0 n) there;
        slot = one;
        free = λ e. absurd (held (sym (word_here words n there) ∙ e));
      }

  -- a step that may get the lock, by a seat that is there
  pub swaps : (slots id : ℕ) (me : Me (StackValue T) M) (n : ℕ) → n ≢ 0 → Allows (KeepsMade made) slots id me 0 (λ _. n) (Holds made me)
  swaps slots id me n held s rule long here small =
      dite (ℕ_discrete (slice_index s.words 0) 0)
      (λ e. let home = rule.free e in (
        me.0,
        takes 0 home.0,
        home.1,
        while_held s.words (slice_set s.homes 0 none) (slice_set s.views id me.0) n held rule.word (length-set s.homes 0 none ∙ rule.slot),
        record {
          same = refl;
          gets = λ found empty. (home.0, ap (λ (c : List (ℕ × StackValue T)). (0, home.0) ∷ c) empty, home.2);
          waits = λ other. absurd (other e);
        },
      ))
      (λ other. (
        me.0,
        keeps,
        tt,
        while_held s.words s.homes (slice_set s.views id me.0) n held rule.word rule.slot,
        record { same = refl; gets = λ e empty. absurd (other e); waits = λ _. refl },
      ))

  -- by a new one
  pub arrives : (slots : ℕ) (maker : M) (n : ℕ) → n ≢ 0 → Arrives (KeepsMade made) slots 0 (λ _. n) (Holds made (maker, []))
  arrives slots maker n held s rule long small =
      dite (ℕ_discrete (slice_index s.words 0) 0)
      (λ e. let home = rule.free e in (
        maker,
        takes 0 home.0,
        home.1,
        while_held s.words (slice_set s.homes 0 none) (s.views ++ maker ∷ []) n held rule.word (length-set s.homes 0 none ∙ rule.slot),
        record { same = refl; gets = λ found empty. (home.0, refl, home.2); waits = λ other. absurd (other e) },
      ))
      (λ other. (
        maker,
        keeps,
        tt,
        while_held s.words s.homes (s.views ++ maker ∷ []) n held rule.word rule.slot,
        record { same = refl; gets = λ e empty. absurd (other e); waits = λ _. refl },
      ))

  -- the step that lets the lock go
  pub lets_go : (slots id : ℕ) (me : Me (StackValue T) M) → HasStack made me → Allows (KeepsMade made) slots id me 0 (λ _. 0) (λ _ _. Unit {0})
  lets_go slots id me has =
      subst (λ (c : List (ℕ × StackValue T)). Allows (KeepsMade made) slots id (me.0, c) 0 (λ _. 0) (λ _ _. Unit {0})) (sym has.1)
      (λ s rule long here small. (
        me.0,
        gives,
        tt,
        record {
          word = rw (length-set s.words 0 0) rule.word;
          slot = length-set s.homes 0 (some has.0) ∙ rule.slot;
          free = λ _. (has.0, set_here s.homes 0 (some has.0) (omega (arith, rule.slot)), has.2);
        },
        tt,
      ))

  -- at first nothing is stored
  pub opens : (words : List ℕ) (stacks : List (StackValue T)) (stack : StackValue T) (maker : M) → 0 < length words → stacks ≡ stack ∷ [] → stack.stored ≡ []
      → KeepsMade made (opening words stacks maker)
  opens words stacks stack maker there one empty =
      subst (λ (xs : List (StackValue T)). KeepsMade made (opening words xs maker)) (sym one)
      (record { word = there; slot = refl; free = λ _. (stack, refl, subst (AreMade made) (sym empty) tt) })

module _ {T : Type 0} (made : T → Type 0) where
  -- what a holder has is what it is lent
  pub lent_made : (carried : List (ℕ × StackValue T)) (stack lent : StackValue T) → carried ≡ (0, stack) ∷ [] → carried ≡ (0, lent) ∷ rest carried
      → AreMade made stack.stored → AreMade made lent.stored
  lent_made carried stack lent has is all =
      let same : stack ≡ lent = ap (λ (l : List (ℕ × StackValue T)). (get_or l 0 (0, stack)).1) (sym has ∙ is) in
      subst (λ (s : StackValue T). AreMade made s.stored) same all

  -- and after a call on it, what the call left
  pub has_left : {M : Type 0} (view : M) (carried : List (ℕ × StackValue T)) (stack left : StackValue T) → carried ≡ (0, stack) ∷ [] → AreMade made left.stored
      → HasStack made (view, (0, left) ∷ rest carried)
  has_left view carried stack left has all = (left, ap (λ (l : List (ℕ × StackValue T)). (0, left) ∷ rest l) has, all)

  made_push : (xs : List (ℕ × T)) (e : ℕ × T) → AreMade made xs → made e.1 → AreMade made (xs ++ e ∷ [])
  made_push [] e all one = (one, tt)
  made_push (x ∷ xs) e all one = (all.0, made_push xs e all.1 one)

  made_before : (xs : List (ℕ × T)) (e : ℕ × T) → AreMade made (xs ++ e ∷ []) → AreMade made xs × made e.1
  made_before [] e all = (tt, all.0)
  made_before (x ∷ xs) e all = let others = made_before xs e all.1 in ((all.0, others.0), others.1)

  -- what a call of `take` leaves and answers
  pub takes_made : {E : Type 0} (answer : Result (ℕ × T) E) (old new : StackValue T)
      → MatchResult answer (Takes old new) (λ _. (old.stored ≡ []) × (new ≡ old)) → AreMade made old.stored
      → AreMade made new.stored × IfOk answer (λ taken. made taken.1)
  takes_made (Ok taken) old new t all = made_before new.stored taken (subst (AreMade made) t.last all)
  takes_made (Err e) old new t all = (subst (λ (s : StackValue T). AreMade made s.stored) (sym t.1) all, tt)

  -- what a call of `make` leaves
  pub makes_made : {E : Type 0} (answer : Result ℕ E) (old new : StackValue T)
      → MatchResult answer (λ number. (number ≡ old.next) × (new ≡ with_next old)) (λ _. new ≡ old) → AreMade made old.stored → AreMade made new.stored
  makes_made (Ok number) old new t all = subst (λ (s : StackValue T). AreMade made s.stored) (sym t.1) all
  makes_made (Err e) old new t all = subst (λ (s : StackValue T). AreMade made s.stored) (sym t) all

  put_made : (place : Option ℕ) (old new : StackValue T) (number : ℕ) (value : T) → IfSome place (λ p. new ≡ with_value old p number value) → IsSome place
      → AreMade made old.stored → made value → AreMade made new.stored
  put_made None old new number value t there all one = absurd (true≢false (sym there))
  put_made (Some p) old new number value t there all one =
      subst (λ (s : StackValue T). AreMade made s.stored) (sym t) (made_push old.stored (number, value) all one)

  -- what a call of `put` leaves
  pub puts_made : (answer : Result (Unit {0}) T) (old new : StackValue T) (number : ℕ) (value : T)
      → MatchResult answer (λ _. IfSome (place_of number old.lent) (λ place. new ≡ with_value old place number value))
      (λ back. (back ≡ value) × (place_of number old.lent ≡ None) × (new ≡ old))
      → (IsOk answer → IsSome (place_of number old.lent)) → AreMade made old.stored → made value → AreMade made new.stored
  puts_made (Ok u) old new number value t lent all one = put_made (place_of number old.lent) old new number value t (lent refl) all one
  puts_made (Err back) old new number value t lent all one = subst (λ (s : StackValue T). AreMade made s.stored) (sym t.2) all

module _ {T M : Type 0} (stands_for : M → T → Type 0) where
  -- a step by a seat whose view is the maker
  pub swaps_for : (maker : M) (slots id : ℕ) (me : Me (StackValue T) M) (n : ℕ) → n ≢ 0 → me.0 ≡ maker
      → Allows (KeepsMade (stands_for maker)) slots id me 0 (λ _. n) (Holds (stands_for me.0) me)
  swaps_for maker slots id me n held same =
      subst (λ (m : M). Allows (KeepsMade (stands_for maker)) slots id me 0 (λ _. n) (Holds (stands_for m) me)) (sym same)
      (swaps (stands_for maker) slots id me n held)
