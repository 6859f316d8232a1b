-- Keys in an arena that grows.
use Rattle.std.proofs.Common.{◌≡◌, ℕ, ◌-◌, ◌≤◌, List, [], ◌∷◌, ◌++◌, length, take, drop, map, refl, ◌∙◌, ap, arith}
use Rattle.std.proofs.lemmas.List.{length-append, length-drop, take-append-le, drop-append-le, drop_at, take_all, map_push}
use Rattle.std.proofs.lemmas.List.Elements.{All-head, All-tail, All-weaker}
use Rattle.std.proofs.lemmas.Bool.Decides.{nat_tests}
use Rattle.std.specs.Prelude.{All, Bool, ◌==◌, Option, Result, Ok, Err, OnErr, slice_range}
use Rattle.rx_determinize.specs.Key.{Key, is_empty}
use Rattle.rx_dfa.specs.KeyRow.{key_in, LiesWithin}
use Rattle.rx_dfa.specs.declared.lazy.key_row.KeyRow.{KeyRow}

pub range-grows : (xs ys : List ℕ) (i j : ℕ) → i ≤ j → j ≤ length xs → slice_range (xs ++ ys) i j ≡ slice_range xs i j
range-grows xs ys i j low high =
    let at : i ≤ length xs = omega arith in
    let within : j - i ≤ length (drop i xs) = omega (arith, length-drop i xs) in
    ap (take (j - i)) (drop-append-le i xs ys at) ∙ take-append-le (j - i) (drop i xs) ys within

pub key-grows : (threads more matches others : List ℕ) (r : KeyRow) → LiesWithin (length threads) (length matches) r
    → key_in (threads ++ more) (matches ++ others) r ≡ key_in threads matches r
key-grows threads more matches others r h = λ k. record {
  threads = range-grows threads more r.threads r.threads_end h.threads_begin h.threads_within k;
  loops = r.loops;
  matches = range-grows matches others r.matches r.matches_end h.matches_begin h.matches_within k;
  before = r.before;
}

pub keys-grow : (threads more matches others : List ℕ) (rows : List KeyRow) → All (LiesWithin (length threads) (length matches)) rows
    → map (key_in (threads ++ more) (matches ++ others)) rows ≡ map (key_in threads matches) rows
keys-grow threads more matches others [] h = refl
keys-grow threads more matches others (r ∷ rows) h =
    let P = λ (x : KeyRow). LiesWithin (length threads) (length matches) x in
    λ k. key-grows threads more matches others r (All-head P r rows h) k ∷ keys-grow threads more matches others rows (All-tail P r rows h) k

-- where only the one list grew
pub keys-grow_threads : (threads more matches : List ℕ) (rows : List KeyRow) → All (LiesWithin (length threads) (length matches)) rows
    → map (key_in (threads ++ more) matches) rows ≡ map (key_in threads matches) rows
keys-grow_threads threads more matches [] h = refl
keys-grow_threads threads more matches (r ∷ rows) h =
    let P = λ (x : KeyRow). LiesWithin (length threads) (length matches) x in
    let l = All-head P r rows h in
    λ k. record {
      threads = range-grows threads more r.threads r.threads_end l.threads_begin l.threads_within k;
      loops = r.loops;
      matches = slice_range matches r.matches r.matches_end;
      before = r.before;
    } ∷ keys-grow_threads threads more matches rows (All-tail P r rows h) k

-- what was appended
pub range-new : (xs ys : List ℕ) → slice_range (xs ++ ys) (length xs) (length (xs ++ ys)) ≡ ys
range-new xs ys =
    let over : length ys ≤ length (xs ++ ys) - length xs = omega (arith, length-append xs ys) in
    ap (take (length (xs ++ ys) - length xs)) (drop_at xs ys (length xs) refl) ∙ take_all (length (xs ++ ys) - length xs) ys over

-- the key of a row of what was appended
pub key-made : (threads more matches others : List ℕ) (a b c d : ℕ) (loops : Bool) (before : Option ℕ) → a ≡ length threads → b ≡ length (threads ++ more)
    → c ≡ length matches → d ≡ length (matches ++ others)
    → key_in (threads ++ more) (matches ++ others) (record { threads = a; threads_end = b; matches = c; matches_end = d; loops = loops; before = before })
    ≡ record { threads = more; loops = loops; matches = others; before = before }
key-made threads more matches others a b c d loops before ea eb ec ed =
    let own : slice_range (threads ++ more) a b ≡ more = (λ i. slice_range (threads ++ more) (ea i) (eb i)) ∙ range-new threads more in
    let told : slice_range (matches ++ others) c d ≡ others = (λ i. slice_range (matches ++ others) (ec i) (ed i)) ∙ range-new matches others in
    λ j. record { threads = own j; loops = loops; matches = told j; before = before }

-- a row more
pub arena-push : (threads more matches others : List ℕ) (rows : List KeyRow) (r : KeyRow) (k : Key) → All (LiesWithin (length threads) (length matches)) rows
    → key_in (threads ++ more) (matches ++ others) r ≡ k
    → map (key_in (threads ++ more) (matches ++ others)) (rows ++ r ∷ []) ≡ map (key_in threads matches) rows ++ k ∷ []
arena-push threads more matches others rows r k h is =
    map_push (key_in (threads ++ more) (matches ++ others)) rows r ∙ (λ j. keys-grow threads more matches others rows h j ++ is j ∷ [])

-- rows lie within longer lists
pub lies-within : (threads matches m n : ℕ) (rows : List KeyRow) → threads ≤ m → matches ≤ n → All (LiesWithin threads matches) rows → All (LiesWithin m n) rows
lies-within threads matches m n rows more others h =
    All-weaker (LiesWithin threads matches) (LiesWithin m n)
    (λ r w. record {
      threads_begin = w.threads_begin;
      threads_within = omega (arith, w.threads_within);
      matches_begin = w.matches_begin;
      matches_within = omega (arith, w.matches_within);
    })
    rows h

pub on-err : {A E : Type 0} (r : Result A E) (P : Type 0) → P → OnErr r P
on-err (Ok x) P p = tt
on-err (Err e) P p = p

-- keys are their parts
pub key-same : (a b : Key) → a.threads ≡ b.threads → a.loops ≡ b.loops → a.matches ≡ b.matches → a.before ≡ b.before → a ≡ b
key-same a b threads loops matches before = λ j. record { threads = threads j; loops = loops j; matches = matches j; before = before j }

pub is_empty-len : (xs : List ℕ) (n : ℕ) → n ≡ length xs → (n == 0) ≡ is_empty xs
is_empty-len [] n is = grind (arith, nat_tests)
is_empty-len (x ∷ xs) n is = grind (arith, nat_tests)
