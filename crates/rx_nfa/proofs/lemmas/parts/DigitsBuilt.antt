-- The states of numbers that are read from their last digit on, as the compiler adds them.
use Rattle.std.proofs.Common.{◌≡◌, ℕ, zero, suc, ◌+◌, ◌-◌, ◌<◌, ◌≤◌, List, [], ◌∷◌, ◌++◌, refl, sym, ◌∙◌, ap, subst, arith, length, get_or, take, drop, drop-cons}
use Rattle.std.specs.Prelude.{map, sum_by}
use Rattle.std.proofs.lemmas.List.{map-append, take_more, take_all, drop_all}
use Rattle.std.proofs.lemmas.List.Sums.{sum_by-cons}
use Rattle.rx_model.specs.Graph as graph
use Rattle.rx_nfa.specs.Built.{Built, BuiltParts, AddsParts, AddsAll, JoinsAll}
use Rattle.rx_nfa.specs.Directed.{PartsBuilder, byte_between, build_one, build_all, build_joined, build_last, build_behind, build_digits, scalar_digits, pieces_in, lasts_of}
use Rattle.rx_nfa.specs.Draft.{Draft, pushed}
use Rattle.rx_nfa.specs.Ranges.{size_of_block, clip}
use Rattle.rx_nfa.specs.Digits.{FitsDigits, ways_of_digits, states_of_digits, states_behind}
use Rattle.rx_nfa.specs.declared.state.State.TheVariants.{ByteRange}
use Rattle.rx_nfa.proofs.lemmas.parts.AddsLemmas.{AddsAll-more, AddsAll-built, Built-byte}
use Rattle.rx_nfa.proofs.lemmas.parts.BuiltLemmas.{Built-then}
use Rattle.rx_nfa.proofs.lemmas.parts.ChoiceLemmas.{Built-joined}

-- Numbers of one digit.

abbrev pub build_first : (lead : ℕ) → ℕ × ℕ → PartsBuilder
build_first lead r = build_one (graph.build_state (byte_between (lead + r.0) (lead + r.1)))

pub digits-first : (lead : ℕ) (rs : List (ℕ × ℕ)) → build_all (map (build_first lead) rs) ≡ build_digits lead 0 rs
unfolding build_digits
digits-first lead rs = refl

pub digits-next : (lead depth : ℕ) (rs : List (ℕ × ℕ)) → 0 < depth
    → build_all (map (build_behind lead (depth - 1) (pieces_in rs)) (lasts_of (pieces_in rs))) ≡ build_digits lead depth rs
unfolding build_digits
digits-next lead zero rs some = absurd (omega arith)
digits-next lead (suc depth) rs some =
    let back : suc depth - 1 ≡ depth = omega arith in
    ap (λ d. build_all (map (build_behind lead d (pieces_in rs)) (lasts_of (pieces_in rs)))) back

pub first-bytes : (lead : ℕ) (r : ℕ × ℕ) → FitsDigits lead 0 r → (r.0 ≤ r.1) × (lead + r.1 ≤ 255)
unfolding size_of_block
first-bytes lead r fits = let bytes = fits.bytes in (fits.ordered, omega arith)

pub states-digits-first : (rs : List (ℕ × ℕ)) → states_of_digits 0 rs ≡ length rs
unfolding states_of_digits
states-digits-first rs = refl

pub ways-digits-first : (rs : List (ℕ × ℕ)) → ways_of_digits 0 rs ≡ length rs
unfolding ways_of_digits
ways-digits-first rs = refl

pub states-digits-next : (depth : ℕ) (rs : List (ℕ × ℕ)) → 0 < depth
    → sum_by (states_behind (depth - 1) (pieces_in rs)) (lasts_of (pieces_in rs)) ≡ states_of_digits depth rs
unfolding states_of_digits
states-digits-next zero rs some = absurd (omega arith)
states-digits-next (suc depth) rs some =
    let back : suc depth - 1 ≡ depth = omega arith in
    ap (λ d. sum_by (states_behind d (pieces_in rs)) (lasts_of (pieces_in rs))) back

pub ways-digits-next : (depth : ℕ) (rs : List (ℕ × ℕ)) → 0 < depth → length (lasts_of (pieces_in rs)) ≡ ways_of_digits depth rs
unfolding ways_of_digits
ways-digits-next zero rs some = absurd (omega arith)
ways-digits-next (suc depth) rs some = refl

-- one alternative more
pub adds-more : {A : Type 0} (build : A → PartsBuilder) (xs : List A) (k : ℕ) (x d : A) (next : ℕ) (old mid new : Draft) (before between after : List ℕ)
    → k < length xs
    → x ≡ get_or xs k d → AddsAll (map build (take k xs)) next old mid before between → AddsParts (build x) next mid new between after
    → AddsAll (map build (take (k + 1) xs)) next old new before after
adds-more build xs k x d next old mid new before between after lt is a p =
    let more : take (k + 1) xs ≡ take k xs ++ x ∷ [] = take_more xs k d lt ∙ ap (λ y. take k xs ++ y ∷ []) (sym is) in
    subst (λ ps. AddsAll ps next old new before after) (sym (ap (map build) more ∙ map-append build (take k xs) (x ∷ [])))
    (AddsAll-more (map build (take k xs)) (build x) next old mid new before between after a p)

pub adds-all : {A : Type 0} (build : A → PartsBuilder) (xs : List A) (k next : ℕ) (old new : Draft) (before after : List ℕ) → length xs ≤ k
    → AddsAll (map build (take k xs)) next old new before after → AddsParts (build_all (map build xs)) next old new before after
adds-all build xs k next old new before after past a =
    AddsAll-built (map build xs) next old new before after
    (subst (λ ys. AddsAll (map build ys) next old new before after) (take_all k xs past) a)

-- the state that reads last digits, and what is read before it
pub last-built : (last : ℕ × ℕ) (parts : PartsBuilder) (next rest q : ℕ) (old mid joined new : Draft) (starts : List ℕ) → last.0 ≤ last.1 → last.1 ≤ 63
    → AddsParts parts next old mid [] starts → JoinsAll mid joined starts rest → q ≡ length joined.states
    → new ≡ pushed joined (ByteRange (0x80 + last.0) (0x80 + last.1) rest) → Built (build_last last parts) next old new q
last-built last parts next rest q old mid joined new starts rise small a j id is =
    Built-then (graph.build_state (byte_between (0x80 + last.0) (0x80 + last.1))) (build_joined parts) next rest q old joined new
    (Built-joined parts next old mid joined starts rest (subst (λ qs. BuiltParts parts next old mid qs) (sym a.appended) a.built) j)
    (Built-byte (0x80 + last.0) (0x80 + last.1) rest q joined new (omega arith) (omega arith) id is)

-- all bands, and the choice between their alternatives
pub class-built : (rs : List (ℕ × ℕ)) (next q : ℕ) (old a b c d mid new : Draft) (none s t u v starts : List ℕ) → none ≡ []
    → AddsParts (build_digits 0 0 (clip 0 0x7F rs)) next old a none s → AddsParts (build_digits 0xC0 1 (clip 0x80 0x7FF rs)) next a b s t
    → AddsParts (build_digits 0xE0 2 (clip 0x800 0xD7FF rs)) next b c t u → AddsParts (build_digits 0xE0 2 (clip 0xE000 0xFFFF rs)) next c d u v
    → AddsParts (build_digits 0xF0 3 (clip 0x1_0000 0x10_FFFF rs)) next d mid v starts
    → JoinsAll mid new starts q → Built (build_joined (build_all (scalar_digits rs))) next old new q
class-built rs next q old a b c d mid new none s t u v starts empty one two three high four j =
    let all =
    AddsAll-built (scalar_digits rs) next old mid none starts (a, s, one, (b, t, two, (c, u, three, (d, v, high, (mid, starts, four, (refl, refl)))))) in
    let same : starts ≡ all.added = all.appended ∙ ap (λ xs. xs ++ all.added) empty in
    Built-joined (build_all (scalar_digits rs)) next old mid new starts q
    (subst (λ qs. BuiltParts (build_all (scalar_digits rs)) next old mid qs) (sym same) all.built) j

-- a sum, from a place on
pub sum-drop : {A : Type 0} (f : A → ℕ) (xs : List A) (k : ℕ) (x d : A) → k < length xs → x ≡ get_or xs k d
    → sum_by f (drop k xs) ≡ f x + sum_by f (drop (k + 1) xs)
sum-drop f xs k x d lt is =
    let more : suc k ≡ k + 1 = omega arith in
    ap (sum_by f) (drop-cons xs k d lt) ∙ sum_by-cons f (get_or xs k d) (drop (suc k) xs)
    ∙ (λ i. f (sym is i) + sum_by f (drop (more i) xs))

pub sum-past : {A : Type 0} (f : A → ℕ) (xs : List A) (k : ℕ) → length xs ≤ k → sum_by f (drop k xs) ≡ 0
sum-past f xs k past = ap (sum_by f) (drop_all k xs past)
