-- As many literals stay, where they are cut to three bytes, as have different slots.
use Rattle.std.proofs.Common.{◌≡◌, ◌≢◌, ℕ, zero, suc, ◌+◌, ◌<◌, ◌≤◌, Bool, true, false, List, [], ◌∷◌, ◌++◌, length, take, drop, map, get_or, refl, sym, ap, subst, ◌∙◌, arith, ⊎_elim, true≢false}
use Rattle.std.specs.Prelude.{not, nat_lt, nat_eq, if◌then◌else◌}
use Rattle.std.specs.List.{list_all, starts_with}
use lib.ListN.{set}
use Rattle.std.proofs.lemmas.Bool.{cases_lt, cases_eq, or_parts}
use Rattle.std.proofs.lemmas.Bool.Decides.{nat_tests}
use Rattle.std.proofs.lemmas.List.{take_all, take-take, length-take-le, get_or_read, get_or-set_same, get_or-set_other}
use Rattle.rx_model.proofs.lemmas.runs.RunLemmas.{by_test}
use Rattle.rx_literal.specs.Literals.{Literal, bytes_of, cut}
use Rattle.rx_literal.specs.declared.side.Side.TheVariants.{Front as front}
use Rattle.rx_literal.specs.Slots.{slot_of, slot, has_bytes}
use Rattle.rx_literal.specs.Trim.{has_prefix_in, preferred}
use Rattle.rx_literal.proofs.lemmas.trimming.SlotLemmas.{slots-apart, has-at}

-- more literals leave no fewer
preferred-front : (es xs zs : List Literal) → length (preferred es xs) ≤ length (preferred es (xs ++ zs))
unfolding preferred
preferred-front es [] zs = omega arith
preferred-front es (x ∷ xs) zs =
    let rest = preferred-front (x ∷ es) xs zs in
    by_test (has_prefix_in es x) (λ e. rw e rest) (λ e. rw e (omega (arith, rest)))

-- a last one that none before is a prefix of stays
preferred-last : (es xs : List Literal) (m : Literal) → has_prefix_in es m ≡ false → has_prefix_in xs m ≡ false
    → length (preferred es xs) + 1 ≤ length (preferred es (xs ++ m ∷ []))
unfolding preferred
preferred-last es [] m none not = rw none (omega arith)
preferred-last es (x ∷ xs) m none not =
    let parts = or_parts (starts_with nat_eq (bytes_of m) (bytes_of x)) (has_prefix_in xs m) not in
    let rest = preferred-last (x ∷ es) xs m (rw parts.0 none) parts.1 in
    by_test (has_prefix_in es x) (λ e. rw e rest) (λ e. rw e (omega (arith, rest)))

-- the first three bytes of a literal
abbrev pub short : Literal → Literal
short l = cut front 3 l

short-bytes : (l : Literal) → bytes_of (short l) ≡ take 3 (bytes_of l)
unfolding cut
short-bytes l =
    by_test (nat_lt 3 (length (bytes_of l)))
    (λ e. rw e refl)
    (λ e. let le : length (bytes_of l) ≤ 3 = grind (arith, nat_tests) in rw e (sym (take_all 3 (bytes_of l) le)))

short-slot : (n : ℕ) (l : Literal) → n ≤ 3 → slot n (short l) ≡ slot n l
short-slot n l le = ap (slot_of 0) (ap (take n) (short-bytes l) ∙ take-take n 3 (bytes_of l) le)

short-has : (n : ℕ) (l : Literal) → n ≤ 3 → n ≤ length (bytes_of l) → n ≤ length (bytes_of (short l))
short-has n l le has =
    ⊎_elim
    (λ lt.
    let long : length (take 3 (bytes_of l)) ≡ 3 = length-take-le 3 (bytes_of l) (omega arith) in
    let same = ap length (short-bytes l) in
    omega (arith, le, long, same))
    (λ ge. let same = ap length (short-bytes l ∙ take_all 3 (bytes_of l) ge) in omega (arith, same, has))
    (cases_lt 3 (length (bytes_of l)))

short-apart : (n : ℕ) (l m : Literal) → n ≤ 3 → n ≤ length (bytes_of l) → n ≤ length (bytes_of m) → slot n l ≢ slot n m
    → starts_with nat_eq (bytes_of (short l)) (bytes_of (short m)) ≡ false
short-apart n l m le a b differ =
    (slots-apart n (short l) (short m) (short-has n l le a) (short-has n m le b)
    (λ e. differ (sym (short-slot n l le) ∙ e ∙ short-slot n m le))).0

none-short : (ls : List Literal) (n : ℕ) (k : Literal) → n ≤ length ls
    → ((j : ℕ) (m : Literal) → j < n → m ≡ get_or ls j m → starts_with nat_eq (bytes_of k) (bytes_of (short m)) ≡ false)
    → has_prefix_in (map short (take n ls)) k ≡ false
none-short [] zero k le apart = refl
none-short [] (suc n) k le apart = refl
none-short (x ∷ ls) zero k le apart = refl
none-short (x ∷ ls) (suc n) k le apart =
    rw (apart 0 x (omega arith) refl) (none-short ls n k (omega arith) (λ j m lt at. apart (suc j) m (omega arith) at))

short-more : (ls : List Literal) (i : ℕ) (l : Literal) → i < length ls → l ≡ get_or ls i l → map short (take (suc i) ls) ≡ map short (take i ls) ++ short l ∷ []
short-more [] i l lt at = absurd (omega arith)
short-more (x ∷ ls) zero l lt at = ap (λ y. short y ∷ []) (sym at)
short-more (x ∷ ls) (suc i) l lt at = ap (λ ys. short x ∷ ys) (short-more ls i l (omega arith) at)

-- the slots of the first literals are seen
pub record Seen (n : ℕ) (ls : List Literal) (seen : List Bool) (i : ℕ) : Type 0 where
  pub each : (j : ℕ) (m : Literal) → j < i → m ≡ get_or ls j m → get_or seen (slot n m) false ≡ true

pub seen-none : (n : ℕ) (ls : List Literal) (seen : List Bool) → Seen n ls seen 0
seen-none n ls seen = record { each = λ j m lt at. absurd (omega arith) }

pub seen-more : (n : ℕ) (ls : List Literal) (seen : List Bool) (i : ℕ) (l : Literal) (s : ℕ) → i < length ls → l ≡ get_or ls i l → s ≡ slot n l
    → s < length seen
    → Seen n ls seen i → Seen n ls (set seen s true) (i + 1)
seen-more n ls seen i l s lt at is within before = record {
  each = λ j m below there. ⊎_elim
      (λ same. subst (λ t. get_or (set seen s true) t false ≡ true) (sym same) (get_or-set_same seen s true false within))
      (λ other. get_or-set_other seen s (slot n m) true false other
      ∙ ⊎_elim
      (λ old. before.each j m old there)
      (λ new.
      let e : j ≡ i = omega arith in
      let one : m ≡ l = there ∙ ap (λ k. get_or ls k m) e ∙ sym (get_or_read ls i l lt at m) in
      absurd (other (ap (slot n) one ∙ sym is)))
      (cases_lt j i))
      (cases_eq (slot n m) s);
}

pub one-fits : (b : Bool) (found i : ℕ) → found ≤ i → (if b then found + 1 else found) ≤ i + 1
one-fits true found i le = omega arith
one-fits false found i le = omega arith

-- one more where the slot is new
pub distinct-more : (n : ℕ) (ls : List Literal) (seen : List Bool) (i : ℕ) (l : Literal) (s : ℕ) → n ≤ 3 → list_all (has_bytes n) ls ≡ true → i < length ls
    → l ≡ get_or ls i l
    → s ≡ slot n l → Seen n ls seen i → (found : ℕ) → found ≤ length (preferred [] (map short (take i ls))) → (b : Bool) → b ≡ not (get_or seen s false)
    → (if b then found + 1 else found) ≤ length (preferred [] (map short (take (i + 1) ls)))
distinct-more n ls seen i l s le all lt at is before found few b tells =
    let e : i + 1 ≡ suc i = omega arith in
    let more = short-more ls i l lt at in
    let front_of = preferred-front [] (map short (take i ls)) (short l ∷ []) in
    rw (e, more)
    (by_test (get_or seen s false)
    (λ old. let none : b ≡ false = rw old at tells in rw none (omega (arith, few, front_of)))
    (λ new.
    let some : b ≡ true = rw new at tells in
    let apart = none-short ls i (short l) (omega arith) (λ j m below there.
    short-apart n l m le (has-at n ls i l all lt at) (has-at n ls j m all (omega arith) there)
    (λ same. true≢false (sym (before.each j m below there) ∙ ap (λ t. get_or seen t false) (sym (is ∙ same)) ∙ new))) in
    let last = preferred-last [] (map short (take i ls)) (short l) refl apart in
    rw some (omega (arith, few, last))))

pub distinct-all : (ls : List Literal) (i : ℕ) (most : ℕ) → most < length (preferred [] (map short (take i ls))) → most < length (preferred [] (map short ls))
distinct-all ls i most many =
    let whole = map-split ls i in
    let more = preferred-front [] (map short (take i ls)) (map short (drop i ls)) in
    subst (λ ys. most < length (preferred [] ys)) whole (omega (arith, many, more))
  where
    map-split : (xs : List Literal) (k : ℕ) → map short (take k xs) ++ map short (drop k xs) ≡ map short xs
    map-split [] zero = refl
    map-split [] (suc k) = refl
    map-split (x ∷ xs) zero = refl
    map-split (x ∷ xs) (suc k) = ap (λ ys. short x ∷ ys) (map-split xs k)
