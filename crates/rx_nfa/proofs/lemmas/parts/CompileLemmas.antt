-- What the functions of the compiler hand on to one another.
use Rattle.std.proofs.Common.{◌≡◌, ℕ, zero, suc, ◌+◌, ◌*◌, ◌-◌, ◌≤◌, ◌<◌, List, [], ◌∷◌, ◌++◌, refl, sym, ◌∙◌, ap, subst, arith, length, get_or, take}
use Rattle.std.specs.Prelude.{Bool, true, false, Option, Some, None, Result, IfOk, OnOk, IfSome, All, min, ◌^◌, nat_lt, map}
use Rattle.std.proofs.Math.ListN.{length-set}
use Rattle.std.proofs.lemmas.Bool.Decides.{nat_tests}
use Rattle.std.proofs.lemmas.List.{take_more, map-append}
use Rattle.std.proofs.lemmas.List.Elements.{All-push, All-weaker}
use Rattle.rx_model.specs.Expression.{Expression}
use Rattle.rx_model.specs.Graph as graph
use Rattle.rx_model.specs.Length.{is_positive}
use Rattle.rx_model.specs.Search.{greatest_group, greatest_in}
use Rattle.rx_model.proofs.lemmas.runs.RunLemmas.{by_test}
use Rattle.rx_search.specs.GroupInfo.{groups_at, slot_of_group}
use Rattle.rx_memory.specs.declared.memory.Memory.{Memory}
use Rattle.rx_hir.specs.Cost.{accounted_states}
use Rattle.rx_hir.specs.Length.{saturated}
use Rattle.rx_hir.specs.Normal.{expressions}
use Rattle.rx_nfa.specs.Automaton.{state_accepts, NamesBelow, IsWithin}
use Rattle.rx_nfa.specs.Built.{Built, ways}
use Rattle.rx_nfa.specs.Draft.{Draft, pushed, patched}
use Rattle.rx_nfa.specs.Repeated.{tail, leading}
use Rattle.rx_nfa.specs.Room.{HasRoom}
use Rattle.rx_nfa.specs.Row.{HasSortedTransitions}
use Rattle.rx_nfa.specs.Slots.{WritesOwnSlots}
use Rattle.rx_nfa.specs.declared.compiler.groups.Groups.{Groups}
use Rattle.rx_nfa.specs.declared.state.State.{State}
use Rattle.rx_nfa.specs.declared.state.State.TheVariants.{Union}
use Rattle.rx_nfa.proofs.lemmas.parts.BuiltLemmas.{Built-then, pushed-length}
use Rattle.rx_nfa.proofs.lemmas.parts.LoopLemmas.{Built-loop, Built-loop_once, Built-optional, Built-option}
use Rattle.rx_nfa.proofs.lemmas.parts.ChoiceLemmas.{BuiltEach, BuiltEach-more}
use Rattle.rx_nfa.proofs.lemmas.parts.ResultLemmas.{IfOk-both, OnOk-of}

-- the part goes by another name
pub Built-same : (a b : graph.Builder) (next : ℕ) (old new : Draft) (r : Result ℕ Memory) → a ≡ b → IfOk r (λ start. Built a next old new start)
    → IfOk r (λ start. Built b next old new start)
Built-same a b next old new r e h = subst (λ part. IfOk r (λ start. Built part next old new start)) e h

-- the states of an expression are accounted for it by another name too
pub count-same : (h d : Expression) (old new : ℕ) (r : Result ℕ Memory) → h ≡ d → OnOk r (new ≤ old + accounted_states h)
    → OnOk r (new ≤ old + accounted_states d)
count-same h d old new r e count = subst (λ x. OnOk r (new ≤ old + accounted_states x)) e count

-- there is room for fewer groups, and in a draft of the same groups and slots
pub HasRoom-kept : (old new : Draft) (groups : Groups) (m n : ℕ) → new.groups ≡ old.groups → new.slots ≡ old.slots → n ≤ m → HasRoom old groups m
    → HasRoom new groups n
HasRoom-kept old new groups m n same slots le h =
    let d = h.few in
    let more = h.enough in
    let less : n < length (groups_at old.groups groups.pattern) = omega arith in
    record {
      pattern = subst (λ gs. groups.pattern < length gs) (sym same) h.pattern;
      enough = subst (λ gs. n < length (groups_at gs groups.pattern)) (sym same) less;
      first = subst (λ gs. IfSome groups.first_slot (λ first. first ≡ slot_of_group gs groups.pattern 1)) (sym same) h.first;
      slots = room groups.first_slot h.slots;
      few = omega arith;
    }
  where
    room : (o : Option ℕ) → IfSome o (λ first. first + 2 * m ≤ old.slots) → IfSome o (λ first. first + 2 * n ≤ new.slots)
    room None fits = tt
    room (Some first) fits = omega arith

pub HasRoom-less : (d : Draft) (groups : Groups) (m n : ℕ) → n ≤ m → HasRoom d groups m → HasRoom d groups n
HasRoom-less d groups m n le h = HasRoom-kept d d groups m n refl refl le h

-- a state was pushed
pub HasRoom-pushed : (old new : Draft) (state : State) (groups : Groups) (m n : ℕ) → new ≡ pushed old state → n ≤ m → HasRoom old groups m
    → HasRoom new groups n
HasRoom-pushed old new state groups m n is le h =
    HasRoom-kept old new groups m n (ap (λ (d : Draft). d.groups) is) (ap (λ (d : Draft). d.slots) is) le h

pub pushed-grown : (old new : Draft) (state : State) → new ≡ pushed old state → length new.states ≡ length old.states + 1
pushed-grown old new state is =
    let same = ap (λ (d : Draft). length d.states) is in
    let one = pushed-length old state in
    omega arith

pub pushed-inside : (old new : Draft) (state : State) (r : Result ℕ Memory) → IfOk r (λ q. q ≡ length old.states) → IfOk r (λ q. new ≡ pushed old state)
    → IfOk r (λ q. q < length new.states)
pushed-inside old new state r ids grown =
    IfOk-both (λ q. q ≡ length old.states) (λ q. new ≡ pushed old state) (λ q. q < length new.states) r ids grown
    (λ q id is. let one = pushed-grown old new state is in omega arith)

pub pushed-count : (old new : Draft) (state : State) (r : Result ℕ Memory) (most : ℕ) → length old.states + 1 ≤ most → IfOk r (λ q. new ≡ pushed old state)
    → OnOk r (length new.states ≤ most)
pushed-count old new state r most fits grown =
    OnOk-of (λ q. new ≡ pushed old state) (length new.states ≤ most) r grown (λ q is. let one = pushed-grown old new state is in omega arith)

pub greatest-at : (hs : List Expression) (k : ℕ) (h d : Expression) → k < length hs → h ≡ get_or hs k d → greatest_group h ≤ greatest_in (expressions hs)
unfolding greatest_group
greatest-at [] k h d lt e = absurd (omega arith)
greatest-at (x ∷ hs) zero h d lt e = let same : greatest_group h ≡ greatest_group x = ap greatest_group e in omega arith
greatest-at (x ∷ hs) (suc k) h d lt e = let later = greatest-at hs k h d (omega arith) e in omega arith

-- one alternative more
pub BuiltEach-next : (f : Expression → graph.Builder) (subs : List Expression) (k : ℕ) (h : Expression) (next : ℕ) (old mid new : Draft)
    (starts starts' : List ℕ) (q : ℕ) → k < length subs
    → h ≡ get_or subs k h → starts' ≡ starts ++ q ∷ [] → BuiltEach (map f (take k subs)) next old mid starts → Built (f h) next mid new q
    → BuiltEach (map f (take (k + 1) subs)) next old new starts'
BuiltEach-next f subs k h next old mid new starts starts' q lt is grown b last =
    let more : take (k + 1) subs ≡ take k subs ++ h ∷ [] = take_more subs k h lt ∙ ap (λ x. take k subs ++ x ∷ []) (sym is) in
    subst (λ bs. BuiltEach bs next old new starts') (sym (ap (map f) more ∙ map-append f (take k subs) (h ∷ [])))
    (subst (BuiltEach (map f (take k subs) ++ f h ∷ []) next old new) (sym grown) (BuiltEach-more (map f (take k subs)) (f h) next old mid new starts q b last))

pub below-more : (m n : ℕ) (qs qs' : List ℕ) (q : ℕ) → m ≤ n → q < n → qs' ≡ qs ++ q ∷ [] → All (λ x. x < m) qs → All (λ x. x < n) qs'
below-more m n qs qs' q le lt grown all =
    subst (All (λ x. x < n)) (sym grown) (All-push (λ x. x < n) qs q (All-weaker (λ x. x < m) (λ x. x < n) (λ x h. omega arith) qs all) lt)

-- the two ways of a choice
pub ways-below : (greedy : Bool) (n body exit : ℕ) → body < n → exit < n → All (λ q. q < n) (ways greedy body exit)
ways-below true n body exit a b = pair n body exit a b
  where
    pair : (n p q : ℕ) → p < n → q < n → All (λ x. x < n) (p ∷ q ∷ [])
    pair n p q a b zero d lt = a
    pair n p q a b (suc zero) d lt = b
    pair n p q a b (suc (suc k)) d lt = absurd (omega arith)
ways-below false n body exit a b = pair n exit body b a
  where
    pair : (n p q : ℕ) → p < n → q < n → All (λ x. x < n) (p ∷ q ∷ [])
    pair n p q a b zero d lt = a
    pair n p q a b (suc zero) d lt = b
    pair n p q a b (suc (suc k)) d lt = absurd (omega arith)

-- a choice between two ways keeps to all that is asked of a state
module _ (greedy : Bool) (body exit : ℕ) (state : State) (is : state ≡ Union (ways greedy body exit)) where
  pub choice-names : (n : ℕ) → body < n → exit < n → NamesBelow n state
  choice-names n a b = subst (NamesBelow n) (sym is) (ways-below greedy n body exit a b)

  pub choice-within : (patterns slots : ℕ) → IsWithin patterns slots state
  choice-within patterns slots = subst (IsWithin patterns slots) (sym is) tt

  pub choice-own : (groups : List (List (Option (List ℕ)))) → WritesOwnSlots groups state
  choice-own groups = subst (WritesOwnSlots groups) (sym is) tt

  pub choice-sorted : HasSortedTransitions state
  choice-sorted = subst HasSortedTransitions (sym is) tt

  pub choice-silent : state_accepts state ≡ None
  choice-silent = ap state_accepts is

-- a repetition is its leading copies and its tail
pub repetition-parts : (consumes : Bool) (min : ℕ) (max : Option ℕ) (greedy : Bool) (body : graph.Builder)
    → graph.copies (leading min max) body (tail consumes min max greedy body) ≡ graph.build_repetition consumes min max greedy body
repetition-parts true zero None greedy body = refl
repetition-parts false zero None greedy body = refl
repetition-parts consumes (suc n) None greedy body = refl
repetition-parts consumes zero (Some m) greedy body = refl
repetition-parts consumes (suc n) (Some m) greedy body = refl

-- a length kept in 64 bits is above 0 where the length is
pub saturated-positive : (len : Option ℕ) → is_positive (saturated len) ≡ is_positive len
saturated-positive None = refl
saturated-positive (Some n) =
    by_test (nat_lt 0 n)
    (λ e. let some : nat_lt 0 (min n (2 ^ 64 - 1)) ≡ true = grind (arith, nat_tests) in some ∙ sym e)
    (λ e. let none : nat_lt 0 (min n (2 ^ 64 - 1)) ≡ false = grind (arith, nat_tests) in none ∙ sym e)

pub patched-length : (d : Draft) (q : ℕ) (state : State) → length (patched d q state).states ≡ length d.states
patched-length d q state = length-set d.states q state

-- A loop, as the compiler makes it: the choice is reserved in `mid`, and `after` has the body.
module _ (greedy : Bool) (body : graph.Builder) (next choice start : ℕ) (old mid after new : Draft) (blank state : State)
    (choice_is : choice ≡ length old.states) (mid_is : mid ≡ pushed old blank)
    (state_is : state ≡ Union (ways greedy start next)) (new_is : new ≡ patched after choice state) where
  new-written : new ≡ patched after (length old.states) (Union (ways greedy start next))
  new-written = new_is ∙ (λ i. patched after (choice_is i) (state_is i))

  pub loop-closed : Built body choice mid after start → Built (graph.loop greedy body) next old new choice
      × Built (graph.loop_once greedy body) next old new start
  loop-closed b =
      let b' : Built body (length old.states) (pushed old blank) after start =
      subst (λ n. Built body n (pushed old blank) after start) choice_is (subst (λ d. Built body choice d after start) mid_is b) in (
        subst (Built (graph.loop greedy body) next old new) (sym choice_is)
            (subst (λ d. Built (graph.loop greedy body) next old d (length old.states)) (sym new-written)
            (Built-loop greedy body next start old after blank b')),
        subst (λ d. Built (graph.loop_once greedy body) next old d start) (sym new-written) (Built-loop_once greedy body next start old after blank b'),
      )

  pub optional-closed : Built body next mid after start → Built (graph.build_optional greedy body) next old new choice
  optional-closed b =
      let b' : Built body next (pushed old blank) after start = subst (λ d. Built body next d after start) mid_is b in
      subst (Built (graph.build_optional greedy body) next old new) (sym choice_is)
      (subst (λ d. Built (graph.build_optional greedy body) next old d (length old.states)) (sym new-written)
      (Built-optional greedy body next start old after blank b'))

-- one option more
pub option-closed : (greedy : Bool) (n : ℕ) (body : graph.Builder) (next inner choice start : ℕ) (old mid grown after new : Draft) (blank state : State)
    → choice ≡ length mid.states → grown ≡ pushed mid blank
    → state ≡ Union (ways greedy start next) → new ≡ patched after choice state → Built (graph.options greedy n body) next old mid inner
    → Built body inner grown after start
    → Built (graph.options greedy (n + 1) body) next old new choice
option-closed greedy n body next inner choice start old mid grown after new blank state choice_is grown_is state_is new_is o b =
    let b' : Built body inner (pushed mid blank) after start = subst (λ d. Built body inner d after start) grown_is b in
    let new-is : new ≡ patched after (length mid.states) (Union (ways greedy start next)) = new_is ∙ (λ i. patched after (choice_is i) (state_is i)) in
    let more : suc n ≡ n + 1 = omega arith in
    subst (λ k. Built (graph.options greedy k body) next old new choice) more
    (subst (Built (graph.options greedy (suc n) body) next old new) (sym choice_is)
    (subst (λ d. Built (graph.options greedy (suc n) body) next old d (length mid.states)) (sym new-is)
    (Built-option greedy n body next inner start old mid after blank o b')))

-- one copy more
pub copy-more : (n : ℕ) (body last : graph.Builder) (next middle start : ℕ) (old mid new : Draft) → Built (graph.copies n body last) next old mid middle
    → Built body middle mid new start
    → Built (graph.copies (n + 1) body last) next old new start
copy-more n body last next middle start old mid new s f =
    let more : suc n ≡ n + 1 = omega arith in
    subst (λ k. Built (graph.copies k body last) next old new start) more (Built-then body (graph.copies n body last) next middle start old mid new s f)

-- any number of copies, of what may take no byte
pub tail-star : (consumes : Bool) (min : ℕ) (greedy : Bool) (body : graph.Builder) → min ≡ 0 → consumes ≡ false
    → graph.build_optional greedy (graph.loop_once greedy body) ≡ tail consumes min None greedy body
tail-star consumes min greedy body none empty = λ i. tail (sym empty i) (sym none i) None greedy body
