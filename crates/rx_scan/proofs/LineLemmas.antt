-- Where a text is cut into lines.
use Rattle.std.proofs.Common.{◌≡◌, ℕ, zero, suc, ◌+◌, ◌-◌, ◌<◌, ◌≤◌, ◌≢◌, false, eqb, List, [], ◌∷◌, ◌++◌, length, take, drop, get_or, refl, sym, ap, subst, ◌∙◌, length-take, drop-cons, arith}
use Rattle.std.proofs.lemmas.List.{get_or_default, get_or-take, take-append-drop}
use Rattle.std.proofs.lemmas.Bool.{ne_eqb, eqb-true, eq-eqb}
use Rattle.memchr.specs.Find.{NoneBefore, Nowhere, Passes, is_byte}
use Rattle.rx_scan.specs.Input.{lines, line_byte}
use Rattle.rx_scan.specs.Lines.{AreEnds, cut_at, line_start}

-- no byte is a newline
abbrev pub HasNoNewline : List ℕ → Type 0
HasNoNewline bytes = (i : ℕ) → i < length bytes → get_or bytes i 0 ≢ 10

rest_has_none : (b : ℕ) (bytes : List ℕ) → HasNoNewline (b ∷ bytes) → HasNoNewline bytes
rest_has_none b bytes h = λ i below. h (suc i) (omega arith)

is_none : (b : ℕ) (bytes : List ℕ) → HasNoNewline (b ∷ bytes) → eqb b 10 ≡ false
is_none b bytes h = ne_eqb b 10 (h 0 (omega arith))

-- a line that a newline ends
pub lines-cut : (line rest : List ℕ) → HasNoNewline line → lines (line ++ (10 ∷ rest)) ≡ line ∷ lines rest
unfolding lines
lines-cut [] rest h = refl
lines-cut (b ∷ bytes) rest h =
    ap (λ t. line_byte t b (lines (bytes ++ (10 ∷ rest)))) (is_none b bytes h) ∙ ap (line_byte false b) (lines-cut bytes rest (rest_has_none b bytes h))

-- the last line, which no newline ends
pub lines-last : (b : ℕ) (bytes : List ℕ) → HasNoNewline (b ∷ bytes) → lines (b ∷ bytes) ≡ (b ∷ bytes) ∷ []
unfolding lines
lines-last b [] h = ap (λ t. line_byte t b []) (is_none b [] h)
lines-last b (d ∷ bytes) h =
    ap (λ t. line_byte t b (lines (d ∷ bytes))) (is_none b (d ∷ bytes) h) ∙ ap (line_byte false b) (lines-last d bytes (rest_has_none b (d ∷ bytes) h))

-- a text without newline that is not empty is one line
pub lines-one : (bytes : List ℕ) → 0 < length bytes → HasNoNewline bytes → lines bytes ≡ bytes ∷ lines []
unfolding lines
lines-one [] some h = absurd (omega arith)
lines-one (b ∷ bytes) some h = lines-last b bytes h

-- the first newline: it is one, and none is before it
pub newline-at : (text : List ℕ) (at : ℕ) → NoneBefore (Passes (is_byte 10) text) 0 (length text) at → Passes (is_byte 10) text at
    → (at < length text) × (get_or text at 0 ≡ 10) × (text ≡ take at text ++ (10 ∷ drop (at + 1) text)) × HasNoNewline (take at text)
newline-at text at none is =
    let below = none.high in
    let byte : get_or text at 0 ≡ 10 = eqb-true (get_or text at 0) 10 is in
    let next : suc at ≡ at + 1 = omega arith in (
      below,
      byte,
      sym (take-append-drop at text) ∙ ap (λ l. take at text ++ l) (drop-cons text at 0 below ∙ (λ k. byte k ∷ drop (next k) text)),
      λ i within newline.
          let early : i < at = omega (arith, within, length-take at text) in
          none.before i (omega arith) early (eq-eqb (get_or text i 0) 10 (sym (get_or-take at text i 0 early) ∙ newline)),
    )

-- no newline
pub newline-nowhere : (text : List ℕ) → Nowhere (Passes (is_byte 10) text) 0 (length text) → HasNoNewline text
newline-nowhere text none = λ i below newline. none i (omega arith) below (eq-eqb (get_or text i 0) 10 newline)

-- the text before a newline, and its length
pub first-line : (text bytes front : List ℕ) (at : ℕ) → bytes ≡ text → at < length bytes → front ≡ take (at - 0) text
    → (front ≡ take (length front) text) × (length front ≡ at)
first-line text bytes front at same below is =
    let whole : at - 0 ≡ at = omega arith in
    let within : at < length text = subst (λ (bs : List ℕ). at < length bs) same below in
    let here : front ≡ take at text = is ∙ ap (λ n. take n text) whole in
    let long : length front ≡ at = ap length here ∙ omega (arith, length-take at text, within) in
    (here ∙ ap (λ n. take n text) (sym long), long)

-- as many pieces as ends
pub cut-length : (text : List ℕ) (from : ℕ) (ends : List ℕ) → length (cut_at text from ends) ≡ length ends
unfolding cut_at
cut-length text from [] = refl
cut-length text from (e ∷ ends) = ap suc (cut-length text (e + 1) ends)

-- the piece of a number
pub piece-at : (text : List ℕ) (from : ℕ) (ends : List ℕ) (i : ℕ) → AreEnds (length text) from ends → i < length ends
    → (line_start from ends i ≤ get_or ends i 0) × (get_or ends i 0 ≤ length text)
    × (get_or (cut_at text from ends) i [] ≡ take (get_or ends i 0 - line_start from ends i) (drop (line_start from ends i) text))
unfolding AreEnds cut_at line_start
piece-at text from [] i are below = absurd (omega (arith, below))
piece-at text from (e ∷ ends) zero are below = (are.0, are.1, refl)
piece-at text from (e ∷ ends) (suc zero) are below = piece-at text (e + 1) ends zero are.2 (omega (arith, below))
piece-at text from (e ∷ ends) (suc (suc i)) are below = piece-at text (e + 1) ends (suc i) are.2 (omega (arith, below))

-- .. lies within the text
pub piece-within : (text ends : List ℕ) (i start end : ℕ) → AreEnds (length text) 0 ends → i < length (cut_at text 0 ends) → start ≡ line_start 0 ends i
    → end ≡ get_or ends i end → (start ≤ end) × (end ≤ length text)
piece-within text ends i start end are below begins ends_at =
    let within : i < length ends = omega (arith, below, cut-length text 0 ends) in
    let here = ends_at ∙ get_or_default ends i end 0 within in
    let one = piece-at text 0 ends i are within in
    (omega (arith, begins, here, one.0), omega (arith, here, one.1))

-- where a piece begins: the first, and one that another comes before
pub start-first : (from : ℕ) (ends : List ℕ) (i : ℕ) → i ≡ 0 → line_start from ends i ≡ from
unfolding line_start
start-first from ends zero none = refl
start-first from ends (suc i) none = absurd (omega (arith, none))

pub start-after : (from : ℕ) (ends : List ℕ) (i : ℕ) → i ≢ 0 → line_start from ends i ≡ get_or ends (i - 1) 0 + 1
unfolding line_start
start-after from ends zero some = absurd (some refl)
start-after from ends (suc i) some =
    let before : suc i - 1 ≡ i = omega arith in
    ap (λ k. get_or ends k 0 + 1) (sym before)
