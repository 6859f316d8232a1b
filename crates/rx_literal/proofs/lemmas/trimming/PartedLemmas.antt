-- The least literals: none is a prefix of another, and they stand in order.
use Rattle.std.proofs.Common.{◌≡◌, ℕ, zero, suc, ◌+◌, ◌<◌, ◌≤◌, Bool, true, false, List, [], ◌∷◌, ◌++◌, length, take, drop, get_or, refl, sym, ap, ◌∙◌, arith, true≢false, append_assoc, append-nil}
use Rattle.std.specs.Prelude.{not, ◌||◌, nat_eq, if◌then◌else◌}
use Rattle.std.specs.List.{list_any, list_all, starts_with, remove}
use Rattle.std.proofs.lemmas.Bool.{and_parts, not-true, not-false, or_parts}
use Rattle.std.proofs.lemmas.List.{take_at, drop_at, length-take-le, drop_more}
use Rattle.rx_model.proofs.lemmas.runs.RunLemmas.{by_test}
use Rattle.rx_hir.proofs.JoinedLemmas.{drop-past}
use Rattle.rx_literal.specs.Literals.{Literal, bytes_of}
use Rattle.rx_literal.specs.declared.order.Order.TheVariants.{Branches as by_branches}
use Rattle.rx_literal.specs.Order.{before, follows, InOrder}
use Rattle.rx_literal.specs.Trim.{has_prefix_in, preferred, past_longer}
use Rattle.rx_literal.proofs.lemmas.trimming.BeforeLemmas.{untrue, before-trans, starts-begins, begins-trans, branch-apart, branch-longer, branch-after}
use Rattle.rx_literal.proofs.lemmas.trimming.OrderedLemmas.{all-both, all-all, all-none}
use Rattle.std.proofs.Math.Bool.{or-true, or_comm, or_assoc}

-- the first literal begins with the second one
abbrev pub starts : Literal → Literal → Bool
starts l e = starts_with nat_eq (bytes_of l) (bytes_of e)

absorb : (a b c : Bool) → (a ≡ true → c ≡ true) → (b || c) ≡ ((a || b) || c)
absorb true b c to = rw (to refl) (or-true b)
absorb false b c to = refl

starts-trans : (x m l : Literal) → starts x m ≡ true → starts m l ≡ true → starts x l ≡ true
starts-trans x m l p q =
    starts-begins (bytes_of x) (bytes_of l)
    ∙ begins-trans (bytes_of l) (bytes_of m) (bytes_of x) (sym (starts-begins (bytes_of m) (bytes_of l)) ∙ q)
    (sym (starts-begins (bytes_of x) (bytes_of m)) ∙ p)

-- only the one at the place of l may be a prefix of it
pub prefix-found : (l : Literal) (ms : List Literal) (k : ℕ) → InOrder by_branches ms → list_all (follows by_branches l) (take k ms) ≡ true
    → list_any (follows by_branches l) (drop k ms) ≡ false → has_prefix_in ms l ≡ has_prefix_in (take 1 (drop k ms)) l
prefix-found l [] zero o a b = refl
prefix-found l [] (suc k) o a b = refl
prefix-found l (m ∷ ms) zero o a b =
    let not = (or_parts (follows by_branches l m) (list_any (follows by_branches l) ms) b).0 in
    ap (λ t. starts l m || t)
    (all-none (λ y. follows by_branches y m) (λ y. starts l y)
    (λ y after. by_test (starts l y)
    (λ e. untrue (follows by_branches l m) (branch-longer (bytes_of m) (bytes_of y) (bytes_of l) after (sym (starts-begins (bytes_of l) (bytes_of y)) ∙ e)) not)
    (λ e. e))
    ms o.0)
prefix-found l (m ∷ ms) (suc k) o a b =
    let both = and_parts (follows by_branches l m) (list_all (follows by_branches l) (take k ms)) a in
    let apart : starts l m ≡ false = starts-begins (bytes_of l) (bytes_of m) ∙ branch-apart (bytes_of m) (bytes_of l) both.0 in
    rw apart (prefix-found l ms k o.1 both.1 b)

-- what begins with l has a prefix among those that l has one among
has-trans : (ms : List Literal) (l x : Literal) → has_prefix_in ms l ≡ true → starts x l ≡ true → has_prefix_in ms x ≡ true
has-trans [] l x h s = absurd (true≢false (sym h))
has-trans (m ∷ ms) l x h s =
    by_test (starts l m)
    (λ e. rw (starts-trans x l m s e) refl)
    (λ e. rw (has-trans ms l x (rw e at h) s) (or-true (starts x m)))

pub covered-before : (ms : List Literal) (l : Literal) → has_prefix_in ms l ≡ true → (x : Literal) → has_prefix_in ms x ≡ (has_prefix_in ms x || starts x l)
covered-before ms l h x =
    by_test (starts x l)
    (λ e. rw e (has-trans ms l x h e ∙ sym (or-true (has_prefix_in ms x))))
    (λ e. rw e (or_comm false (has_prefix_in ms x)))

longer-covered : (l x : Literal) (ms : List Literal) → has_prefix_in (l ∷ past_longer l ms) x ≡ (has_prefix_in ms x || starts x l)
longer-covered l x [] = or_comm (starts x l) false
longer-covered l x (m ∷ ms) =
    by_test (starts m l)
    (λ e. rw e (longer-covered l x ms ∙ absorb (starts x m) (has_prefix_in ms x) (starts x l) (λ s. starts-trans x m l s e)))
    (λ e. rw e (or_comm (starts x l) (starts x m || has_prefix_in ms x)))

-- l in place of those that begin with it leaves the same prefixes
pub covered-after : (l x : Literal) (ks ms : List Literal) → has_prefix_in (ks ++ l ∷ past_longer l ms) x ≡ (has_prefix_in (ks ++ ms) x || starts x l)
covered-after l x [] ms = longer-covered l x ms
covered-after l x (k ∷ ks) ms =
    ap (λ t. starts x k || t) (covered-after l x ks ms) ∙ sym (or_assoc (starts x k) (has_prefix_in (ks ++ ms) x) (starts x l))

past-all : (p : Literal → Bool) (l : Literal) (ms : List Literal) → list_all p ms ≡ true → list_all p (past_longer l ms) ≡ true
past-all p l [] h = refl
past-all p l (m ∷ ms) h =
    by_test (starts m l)
    (λ e. rw e (past-all p l ms (and_parts (p m) (list_all p ms) h).1))
    (λ e. rw e h)

keep-all : (p : Literal → Bool) (l : Literal) (ks ms : List Literal) → list_all p (ks ++ ms) ≡ true → p l ≡ true
    → list_all p (ks ++ l ∷ past_longer l ms) ≡ true
keep-all p l [] ms h is = all-both (p l) (list_all p (past_longer l ms)) is (past-all p l ms h)
keep-all p l (k ∷ ks) ms h is =
    let both = and_parts (p k) (list_all p (ks ++ ms)) h in
    all-both (p k) (list_all p (ks ++ l ∷ past_longer l ms)) both.0 (keep-all p l ks ms both.1 is)

parted-after : (l : Literal) (ms : List Literal) → InOrder by_branches ms → list_any (follows by_branches l) ms ≡ false → has_prefix_in ms l ≡ false
    → InOrder by_branches (l ∷ past_longer l ms)
parted-after l [] o none apart = (refl, tt)
parted-after l (m ∷ ms) o none apart =
    let not = or_parts (follows by_branches l m) (list_any (follows by_branches l) ms) none in
    let out = or_parts (starts l m) (has_prefix_in ms l) apart in
    by_test (starts m l)
    (λ e. rw e (parted-after l ms o.1 not.1 out.1))
    (λ e.
    let here = branch-after (bytes_of m) (bytes_of l) not.0 (sym (starts-begins (bytes_of l) (bytes_of m)) ∙ out.0)
    (sym (starts-begins (bytes_of m) (bytes_of l)) ∙ e) in
    rw e (
      all-both (follows by_branches m l) (list_all (λ y. follows by_branches y l) ms) here
          (all-all (λ y. follows by_branches y m) (λ y. follows by_branches y l)
          (λ y after. before-trans by_branches (bytes_of l) (bytes_of m) (bytes_of y) here after) ms o.0),
      o,
    ))

-- l in place of those that begin with it stands in order
pub parted-whole : (l : Literal) (ks ms : List Literal) → InOrder by_branches (ks ++ ms) → list_all (follows by_branches l) ks ≡ true
    → list_any (follows by_branches l) ms ≡ false → has_prefix_in ms l ≡ false → InOrder by_branches (ks ++ l ∷ past_longer l ms)
parted-whole l [] ms o a none apart = parted-after l ms o none apart
parted-whole l (k ∷ ks) ms o a none apart =
    let both = and_parts (follows by_branches l k) (list_all (follows by_branches l) ks) a in
    (keep-all (λ y. follows by_branches y k) l ks ms o.0 both.0, parted-whole l ks ms o.1 both.1 none apart)

-- the longer ones dropped one by one
pub longer-removed : (l : Literal) (ms : List Literal) (i : ℕ) (m : Literal) → i < length ms → m ≡ get_or ms i m → starts m l ≡ true
    → take i (remove ms i) ++ past_longer l (drop i (remove ms i)) ≡ take i ms ++ past_longer l (drop i ms)
longer-removed l [] i m lt at h = absurd (omega arith)
longer-removed l (x ∷ ms) zero m lt at h = let here : starts x l ≡ true = ap (λ y. starts y l) (sym at) ∙ h in rw here refl
longer-removed l (x ∷ ms) (suc i) m lt at h = ap (λ ys. x ∷ ys) (longer-removed l ms i m (omega arith) at h)

pub longer-done : (l : Literal) (ms : List Literal) (i : ℕ) (m : Literal) → i < length ms → m ≡ get_or ms i m → starts m l ≡ false
    → ms ≡ take i ms ++ past_longer l (drop i ms)
longer-done l [] i m lt at h = absurd (omega arith)
longer-done l (x ∷ ms) zero m lt at h = let here : starts x l ≡ false = ap (λ y. starts y l) (sym at) ∙ h in rw here refl
longer-done l (x ∷ ms) (suc i) m lt at h = ap (λ ys. x ∷ ys) (longer-done l ms i m (omega arith) at h)

pub longer-over : (l : Literal) (ms : List Literal) (i : ℕ) → length ms ≤ i → ms ≡ take i ms ++ past_longer l (drop i ms)
longer-over l [] zero le = refl
longer-over l [] (suc i) le = refl
longer-over l (x ∷ ms) zero le = absurd (omega arith)
longer-over l (x ∷ ms) (suc i) le = ap (λ ys. x ∷ ys) (longer-over l ms i (omega arith))

-- one more where they were dropped
pub put-there : (l x : Literal) (ls ms new : List Literal) (k : ℕ) → k ≤ length ls → ms ≡ take k ls ++ past_longer l (drop k ls) → x ≡ l
    → new ≡ take k ms ++ x ∷ drop k ms → new ≡ take k ls ++ l ∷ past_longer l (drop k ls)
put-there l x ls ms new k le dropped is put =
    let ks = take k ls in
    let rest = past_longer l (drop k ls) in
    let long : length (take k ls) ≡ k = length-take-le k ls le in
    put ∙ ap (λ ys. take k ys ++ x ∷ drop k ys) dropped
    ∙ (λ i. take_at ks rest k long i ++ is i ∷ drop_at ks rest k long i)

pub rest-apart : (l : Literal) (ks ms : List Literal) → has_prefix_in (ks ++ ms) l ≡ false → has_prefix_in ms l ≡ false
rest-apart l [] ms h = h
rest-apart l (k ∷ ks) ms h = rest-apart l ks ms (or_parts (starts l k) (has_prefix_in (ks ++ ms) l) h).1

pub preferred-same : (es fs : List Literal) → ((x : Literal) → has_prefix_in es x ≡ has_prefix_in fs x) → (ls : List Literal)
    → preferred es ls ≡ preferred fs ls
unfolding preferred
preferred-same es fs same [] = refl
preferred-same es fs same (l ∷ ls) =
    let rest = preferred-same (l ∷ es) (l ∷ fs) (λ x. ap (λ t. starts x l || t) (same x)) ls in
    λ k. if same l k then rest k else l ∷ rest k

module _ (es fs ls : List Literal) (l : Literal) (covered : (x : Literal) → has_prefix_in fs x ≡ (has_prefix_in es x || starts x l)) where
  rest-same : preferred (l ∷ es) ls ≡ preferred fs ls
  rest-same = preferred-same (l ∷ es) fs (λ x. or_comm (starts x l) (has_prefix_in es x) ∙ sym (covered x)) ls

  pub preferred-skip : has_prefix_in es l ≡ true → preferred es (l ∷ ls) ≡ preferred fs ls
  unfolding preferred
  preferred-skip h = rw h rest-same

  pub preferred-kept : has_prefix_in es l ≡ false → preferred es (l ∷ ls) ≡ l ∷ preferred fs ls
  unfolding preferred
  preferred-kept h = rw h (ap (λ ys. l ∷ ys) rest-same)

-- a literal that is kept, and one that isn't
module _ (es fs ls : List Literal) (i : ℕ) (l : Literal) (covered : (x : Literal) → has_prefix_in fs x ≡ (has_prefix_in es x || starts x l))
    (lt : i < length ls) (at : l ≡ get_or ls i l)
    (kept new all : List Literal) (before : kept ++ preferred es (drop i ls) ≡ all) where
  here : kept ++ preferred es (l ∷ drop (i + 1) ls) ≡ all
  here = ap (λ y. kept ++ preferred es (y ∷ drop (i + 1) ls)) at ∙ ap (λ ys. kept ++ preferred es ys) (sym (drop_more ls i l lt)) ∙ before

  pub keep-step : (b : Bool) → b ≡ true → b ≡ not (has_prefix_in es l) → (x : Literal) → x ≡ l → new ≡ kept ++ x ∷ []
      → new ++ preferred fs (drop (i + 1) ls) ≡ all
  keep-step b is_yes value x is pushed =
      let none = not-true (has_prefix_in es l) (sym value ∙ is_yes) in
      let rest = preferred fs (drop (i + 1) ls) in
      ap (λ ys. ys ++ rest) pushed ∙ append_assoc kept (x ∷ []) rest ∙ ap (λ y. kept ++ y ∷ rest) is
      ∙ ap (λ ys. kept ++ ys) (sym (preferred-kept es fs (drop (i + 1) ls) l covered none)) ∙ here

  pub skip-step : (b : Bool) → b ≡ false → b ≡ not (has_prefix_in es l) → new ≡ kept → new ++ preferred fs (drop (i + 1) ls) ≡ all
  skip-step b is_no value same =
      let some = not-false (has_prefix_in es l) (sym value ∙ is_no) in
      ap (λ ys. ys ++ preferred fs (drop (i + 1) ls)) same ∙ ap (λ ys. kept ++ ys) (sym (preferred-skip es fs (drop (i + 1) ls) l covered some)) ∙ here

pub keep-end : (es ls : List Literal) (i : ℕ) (kept all : List Literal) → length ls ≤ i → kept ++ preferred es (drop i ls) ≡ all → kept ≡ all
unfolding preferred
keep-end es ls i kept all le before = sym (append-nil kept) ∙ sym (ap (λ ys. kept ++ preferred es ys) (drop-past ls i le)) ∙ before
