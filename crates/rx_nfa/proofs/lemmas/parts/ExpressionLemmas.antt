-- Lists of expressions, from the back.
use Rattle.std.proofs.Common.{◌≡◌, ℕ, zero, suc, ◌+◌, ◌-◌, ◌≤◌, ◌<◌, List, [], ◌∷◌, refl, sym, ◌∙◌, ap, arith, length, get_or, drop, drop-cons}
use Rattle.rx_model.specs.Expression.{Expression, cons}
use Rattle.rx_model.specs.Search.{greatest_group, groups_before}
use Rattle.rx_hir.specs.Cost.{accounted_states}
use Rattle.rx_nfa.specs.Compiled.{nfa_states}
use Rattle.rx_hir.specs.Normal.{expressions}
use Rattle.rx_hir.specs.Depth.{depth, greatest_depth}

-- one expression more
pub expressions-more : (hs : List Expression) (k : ℕ) (h d : Expression) → 0 < k → k ≤ length hs → h ≡ get_or hs (k - 1) d
    → expressions (drop (k - 1) hs) ≡ cons h (expressions (drop k hs))
expressions-more hs k h d some le is =
    let back : suc (k - 1) ≡ k = omega arith in
    ap expressions (drop-cons hs (k - 1) d (omega arith)) ∙ (λ i. cons (sym is i) (expressions (drop (back i) hs)))

pub depth_at : (hs : List Expression) (k : ℕ) (h d : Expression) → k < length hs → h ≡ get_or hs k d → suc (depth h) ≤ greatest_depth (expressions hs)
depth_at [] k h d lt e = absurd (omega arith)
depth_at (x ∷ hs) zero h d lt e = let same : depth h ≡ depth x = ap depth e in omega arith
depth_at (x ∷ hs) (suc k) h d lt e = let later = depth_at hs k h d (omega arith) e in omega arith

-- none are left
pub expressions-none : (hs : List Expression) → expressions (drop (length hs) hs) ≡ expressions []
expressions-none [] = refl
expressions-none (h ∷ hs) = expressions-none hs

-- the groups of one pattern more
pub groups_before-more : (hs : List Expression) (k : ℕ) (h d : Expression) → k < length hs → h ≡ get_or hs k d
    → groups_before (k + 1) hs ≡ groups_before k hs + greatest_group h
groups_before-more [] k h d lt e = absurd (omega arith)
groups_before-more (x ∷ hs) zero h d lt e = let same : greatest_group h ≡ greatest_group x = ap greatest_group e in omega arith
groups_before-more (x ∷ hs) (suc k) h d lt e =
    let later = groups_before-more hs k h d (omega arith) e in let more : suc k + 1 ≡ suc (k + 1) = omega arith in
    ap (λ n. groups_before n (x ∷ hs)) more ∙ omega arith

-- there are no more groups in the first patterns than in all
pub groups_before-within : (hs : List Expression) (j k : ℕ) → j ≤ k → groups_before j hs ≤ groups_before k hs
groups_before-within hs zero k le = omega arith
groups_before-within [] (suc j) zero le = omega arith
groups_before-within [] (suc j) (suc k) le = omega arith
groups_before-within (h ∷ hs) (suc j) zero le = absurd (omega arith)
groups_before-within (h ∷ hs) (suc j) (suc k) le = let later = groups_before-within hs j k (omega arith) in omega arith

-- the groups of a pattern and of those before it are among all
pub groups_before-all : (hs : List Expression) (k : ℕ) (h d : Expression) → k < length hs → h ≡ get_or hs k d
    → groups_before k hs + greatest_group h ≤ groups_before (length hs) hs
groups_before-all hs k h d lt e =
    let more = groups_before-more hs k h d lt e in let within = groups_before-within hs (k + 1) (length hs) (omega arith) in omega arith

-- the states of one pattern more
pub nfa_states-drop : (hs : List Expression) (k : ℕ) (h d : Expression) → k < length hs → h ≡ get_or hs k d
    → nfa_states (drop k hs) ≡ accounted_states h + 3 + nfa_states (drop (k + 1) hs)
nfa_states-drop hs k h d lt e =
    let more : suc k ≡ k + 1 = omega arith in
    ap nfa_states (drop-cons hs k d lt) ∙ (λ i. accounted_states (sym e i) + 3 + nfa_states (drop (more i) hs))

pub nfa_states-none : (hs : List Expression) (n : ℕ) → length hs ≤ n → nfa_states (drop n hs) ≡ 4
nfa_states-none [] zero le = refl
nfa_states-none [] (suc n) le = refl
nfa_states-none (h ∷ hs) zero le = absurd (omega arith)
nfa_states-none (h ∷ hs) (suc n) le = nfa_states-none hs n (omega arith)
