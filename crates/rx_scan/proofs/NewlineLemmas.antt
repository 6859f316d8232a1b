-- Where the newlines of a text are: its lines end there, and the last at its end.
use Rattle.std.proofs.Common.{◌≡◌, ◌≢◌, ℕ, zero, suc, ◌+◌, ◌-◌, ◌<◌, ◌≤◌, Bool, true, false, cond, List, [], ◌∷◌, ◌++◌, length, length-append, take, drop, drop-cons, drop_of_length-le, get_or, All, append_assoc, append-nil, refl, sym, ap, subst, ◌∙◌, arith}
use Rattle.std.specs.Prelude.{map, ◌==◌}
use Rattle.std.specs.Str.{IsUtf8}
use Rattle.std.proofs.Math.Seq.{drop-append_seam, drop-append-add, take-append_seam, get_or-append_seam}
use Rattle.std.proofs.lemmas.Bool.{eqb-true, ne_eqb}
use Rattle.std.proofs.lemmas.List.Elements.{All-cons, All-nil}
use Rattle.std.proofs.lemmas.Str.{IsCharBoundary-before_ascii, IsCharBoundary-after_ascii, IsUtf8-take, IsUtf8-drop}
use Rattle.memchr.specs.Find.{is_byte, places, places_from}
use Rattle.rx_scan.specs.Input.{lines, line_byte}
use Rattle.rx_scan.specs.Lines.{AreEnds, cut_at, newlines}

-- of two texts, one after the other
pub newlines-append : (at : ℕ) (xs ys : List ℕ) → newlines at (xs ++ ys) ≡ newlines at xs ++ newlines (at + length xs) ys
unfolding newlines
newlines-append at [] ys = ap (λ n. newlines n ys) (omega arith)
newlines-append at (b ∷ xs) ys = both (b == 10) (newlines-append (at + 1) xs ys ∙ ap (λ n. newlines (at + 1) xs ++ newlines n ys) (omega arith))
  where
    both : (t : Bool) → newlines (at + 1) (xs ++ ys) ≡ newlines (at + 1) xs ++ newlines (at + length (b ∷ xs)) ys
        → cond t (at ∷ newlines (at + 1) (xs ++ ys)) (newlines (at + 1) (xs ++ ys))
        ≡ cond t (at ∷ newlines (at + 1) xs) (newlines (at + 1) xs) ++ newlines (at + length (b ∷ xs)) ys
    both true more = ap (λ l. at ∷ l) more
    both false more = more

-- further on in a text
pub newlines-from : (start at : ℕ) (bytes : List ℕ) → map (λ n. start + n) (newlines at bytes) ≡ newlines (start + at) bytes
unfolding newlines
newlines-from start at [] = refl
newlines-from start at (b ∷ bytes) = both (b == 10) (newlines-from start (at + 1) bytes ∙ ap (λ n. newlines n bytes) (omega arith))
  where
    both : (t : Bool) → map (λ n. start + n) (newlines (at + 1) bytes) ≡ newlines (start + at + 1) bytes
        → map (λ n. start + n) (cond t (at ∷ newlines (at + 1) bytes) (newlines (at + 1) bytes))
        ≡ cond t ((start + at) ∷ newlines (start + at + 1) bytes) (newlines (start + at + 1) bytes)
    both true more = ap (λ l. (start + at) ∷ l) more
    both false more = more

-- the places that the iterator gives
places_from-newlines : (text : List ℕ) (at n : ℕ) → at + n ≡ length text → places_from (is_byte 10) text at n ≡ newlines at (drop at text)
unfolding newlines places_from
places_from-newlines text at zero over = ap (newlines at) (sym (drop_of_length-le text {i = at} (omega arith)))
places_from-newlines text at (suc n) over =
    let below : at < length text = omega (arith, over) in
    let more = places_from-newlines text (at + 1) n (omega (arith, over)) in
    let one : suc at ≡ at + 1 = omega arith in
    let next : drop at text ≡ get_or text at 0 ∷ drop (at + 1) text = drop-cons text at 0 below ∙ ap (λ n. get_or text at 0 ∷ drop n text) one in
    ap (λ l. cond (get_or text at 0 == 10) (at ∷ l) l) more ∙ ap (newlines at) (sym next)

pub places-newlines : (text : List ℕ) → places (is_byte 10) text ≡ newlines 0 text
places-newlines text = places_from-newlines text 0 (length text - 0) (omega arith)

-- the end of a last line that no newline ends, of a text that begins at this place
unfoldable pub last_end : ℕ → List ℕ → List ℕ
last_end at [] = []
last_end at (b ∷ []) = cond (b == 10) [] ((at + 1) ∷ [])
last_end at (b ∷ d ∷ bytes) = last_end (at + 1) (d ∷ bytes)

-- bytes before the first line
joined : List ℕ → List (List ℕ) → List (List ℕ)
joined front [] = front ∷ []
joined front (line ∷ more) = (front ++ line) ∷ more

joined-byte : (front : List ℕ) (b : ℕ) (more : List (List ℕ)) → joined front (line_byte false b more) ≡ joined (front ++ b ∷ []) more
unfolding joined
joined-byte front b [] = refl
joined-byte front b (line ∷ more) = ap (λ l. l ∷ more) (sym (append_assoc front (b ∷ []) line))

joined-none : (b : ℕ) (bytes : List ℕ) → joined [] (lines (b ∷ bytes)) ≡ lines (b ∷ bytes)
unfolding lines joined
joined-none b bytes = one (b == 10) (lines bytes)
  where
    one : (t : Bool) (more : List (List ℕ)) → joined [] (line_byte t b more) ≡ line_byte t b more
    one true more = refl
    one false [] = refl
    one false (line ∷ more) = refl

-- a piece of a text
piece : (text front line rest : List ℕ) (from end : ℕ) → text ≡ front ++ (line ++ rest) → from ≡ length front → end ≡ from + length line
    → take (end - from) (drop from text) ≡ line
piece text front line rest from end whole from_is end_is =
    let long : end - from ≡ length line = omega (arith, end_is) in
    (λ k. take (long k) (drop (from_is k) (whole k))) ∙ ap (take (length line)) (drop-append_seam front (line ++ rest)) ∙ take-append_seam line rest

-- the lines of a text from one that has begun: they end at the newlines, and the last at the end
cut-ends : (text front line : List ℕ) (from at b : ℕ) (bytes : List ℕ) → text ≡ front ++ (line ++ (b ∷ bytes)) → from ≡ length front
    → at ≡ from + length line
    → cut_at text from (newlines at (b ∷ bytes) ++ last_end at (b ∷ bytes)) ≡ joined line (lines (b ∷ bytes))
unfolding cut_at newlines last_end lines joined
cut-ends text front line from at b [] whole from_is at_is = one (b == 10)
  where
    longer : text ≡ front ++ ((line ++ b ∷ []) ++ [])
    longer = whole ∙ ap (λ l. front ++ l) (sym (append-nil (line ++ b ∷ [])))

    one : (t : Bool) → cut_at text from (cond t (at ∷ []) [] ++ cond t [] ((at + 1) ∷ [])) ≡ joined line (line_byte t b [])
    one true = (λ k. (piece text front line (b ∷ []) from at whole from_is at_is ∙ sym (append-nil line)) k ∷ [])
    one false =
        ap (λ l. l ∷ []) (piece text front (line ++ b ∷ []) [] from (at + 1) longer from_is (omega (arith, at_is, length-append line (b ∷ []))))
cut-ends text front line from at b (d ∷ bytes) whole from_is at_is =
    one (b == 10) (cut-ends text (front ++ begun) [] (at + 1) (at + 1) d bytes next far (omega arith))
    (cut-ends text front begun from (at + 1) d bytes longer from_is (omega (arith, at_is, length-append line (b ∷ []))))
  where
    begun : List ℕ
    begun = line ++ b ∷ []

    longer : text ≡ front ++ (begun ++ (d ∷ bytes))
    longer = whole ∙ ap (λ l. front ++ l) (sym (append_assoc line (b ∷ []) (d ∷ bytes)))

    next : text ≡ (front ++ begun) ++ (d ∷ bytes)
    next = longer ∙ sym (append_assoc front begun (d ∷ bytes))

    far : at + 1 ≡ length (front ++ begun)
    far = omega (arith, from_is, at_is, length-append front begun, length-append line (b ∷ []))

    found : List ℕ
    found = newlines (at + 1) (d ∷ bytes)

    last : List ℕ
    last = last_end (at + 1) (d ∷ bytes)

    one : (t : Bool) → cut_at text (at + 1) (found ++ last) ≡ joined [] (lines (d ∷ bytes))
        → cut_at text from (found ++ last) ≡ joined begun (lines (d ∷ bytes))
        → cut_at text from (cond t (at ∷ found) found ++ last) ≡ joined line (line_byte t b (lines (d ∷ bytes)))
    one true other same =
        λ k. (piece text front line (b ∷ d ∷ bytes) from at whole from_is at_is ∙ sym (append-nil line)) k ∷ (other ∙ joined-none d bytes) k
    one false other same = same ∙ sym (joined-byte line b (lines (d ∷ bytes)))

pub lines-cut_at : (text : List ℕ) → cut_at text 0 (newlines 0 text ++ last_end 0 text) ≡ lines text
unfolding cut_at newlines last_end lines
lines-cut_at [] = refl
lines-cut_at (b ∷ bytes) = cut-ends (b ∷ bytes) [] [] 0 0 b bytes refl refl refl ∙ joined-none b bytes

-- these are places of the text, one after another
ends-are : (len from at : ℕ) (bytes : List ℕ) → from ≤ at → at + length bytes ≤ len → AreEnds len from (newlines at bytes ++ last_end at bytes)
unfolding AreEnds newlines last_end
ends-are len from at [] low high = tt
ends-are len from at (b ∷ []) low high = one (b == 10)
  where
    one : (t : Bool) → AreEnds len from (cond t (at ∷ []) [] ++ cond t [] ((at + 1) ∷ []))
    one true = (low, omega (arith, high), tt)
    one false = (omega (arith, low), omega (arith, high), tt)
ends-are len from at (b ∷ d ∷ bytes) low high =
    one (b == 10) (ends-are len (at + 1) (at + 1) (d ∷ bytes) (omega arith) (omega (arith, high)))
    (ends-are len from (at + 1) (d ∷ bytes) (omega (arith, low)) (omega (arith, high)))
  where
    found : List ℕ
    found = newlines (at + 1) (d ∷ bytes)

    last : List ℕ
    last = last_end (at + 1) (d ∷ bytes)

    one : (t : Bool) → AreEnds len (at + 1) (found ++ last) → AreEnds len from (found ++ last) → AreEnds len from (cond t (at ∷ found) found ++ last)
    one true other same = (low, omega (arith, high), other)
    one false other same = same

line-ends : (text ends : List ℕ) → ends ≡ newlines 0 text ++ last_end 0 text → AreEnds (length text) 0 ends × (cut_at text 0 ends ≡ lines text)
line-ends text ends are = (
  subst (AreEnds (length text) 0) (sym are) (ends-are (length text) 0 0 text (omega arith) (omega arith)),
  ap (cut_at text 0) are ∙ lines-cut_at text,
)

-- the end of the last line, by the last byte
last_end-byte : (at : ℕ) (bytes : List ℕ) → last_end at bytes ≡ cond (get_or bytes (length bytes - 1) 10 == 10) [] ((at + length bytes) ∷ [])
unfolding last_end
last_end-byte at [] = refl
last_end-byte at (b ∷ []) = refl
last_end-byte at (b ∷ d ∷ bytes) =
    let last : length (b ∷ d ∷ bytes) - 1 ≡ suc (length (d ∷ bytes) - 1) = omega arith in
    let far : at + 1 + length (d ∷ bytes) ≡ at + length (b ∷ d ∷ bytes) = omega arith in
    last_end-byte (at + 1) (d ∷ bytes) ∙ (λ k. cond (get_or (b ∷ d ∷ bytes) (sym last k) 10 == 10) [] (far k ∷ []))

-- the ends of the lines of a text whose last byte is a newline, or that is empty
pub ends-closed : (text ends : List ℕ) → ends ≡ newlines 0 text → get_or text (length text - 1) 10 ≡ 10
    → AreEnds (length text) 0 ends × (cut_at text 0 ends ≡ lines text)
ends-closed text ends are closed =
    let none : last_end 0 text ≡ [] = last_end-byte 0 text ∙ ap (λ n. cond (n == 10) [] ((0 + length text) ∷ [])) closed in
    line-ends text ends (are ∙ sym (append-nil (newlines 0 text)) ∙ ap (λ l. newlines 0 text ++ l) (sym none))

-- .. and of another
pub ends-left : (text found ends : List ℕ) → found ≡ newlines 0 text → get_or text (length text - 1) 10 ≢ 10 → ends ≡ found ++ length text ∷ []
    → AreEnds (length text) 0 ends × (cut_at text 0 ends ≡ lines text)
ends-left text found ends are left more =
    let end : 0 + length text ≡ length text = omega arith in
    let last : last_end 0 text ≡ length text ∷ [] = last_end-byte 0 text ∙ (λ k. cond (ne_eqb _ 10 left k) [] (end k ∷ [])) in
    line-ends text ends (more ∙ (λ k. are k ++ sym last k))

-- the lines of a text that is UTF-8 are
all-joined : (bytes : List ℕ) → All IsUtf8 (joined [] (lines bytes)) → All IsUtf8 (lines bytes)
unfolding lines
all-joined [] h = All-nil IsUtf8
all-joined (b ∷ bytes) h = subst (All IsUtf8) (joined-none b bytes) h

joined-utf8 : (front bytes : List ℕ) → IsUtf8 (front ++ bytes) → All IsUtf8 (joined front (lines bytes))
unfolding lines joined
joined-utf8 front [] h = All-cons IsUtf8 front [] (subst IsUtf8 (append-nil front) h) (All-nil IsUtf8)
joined-utf8 front (b ∷ bytes) h = one (b == 10) refl (joined-utf8 [] bytes) (joined-utf8 (front ++ b ∷ []) bytes)
  where
    whole : List ℕ
    whole = front ++ (b ∷ bytes)

    within : length front < length whole
    within = omega (arith, length-append front (b ∷ bytes))

    byte : get_or whole (length front) 0 ≡ b
    byte = get_or-append_seam front b bytes 0

    one : (t : Bool) → (b == 10) ≡ t → (IsUtf8 bytes → All IsUtf8 (joined [] (lines bytes)))
        → (IsUtf8 ((front ++ b ∷ []) ++ bytes) → All IsUtf8 (joined (front ++ b ∷ []) (lines bytes)))
        → All IsUtf8 (joined front (line_byte t b (lines bytes)))
    one true newline other same =
        let ascii : get_or whole (length front) 0 < 128 = omega (arith, byte, eqb-true b 10 newline) in
        let line = IsUtf8-take whole (length front) h (IsCharBoundary-before_ascii whole (length front) within ascii) in
        let rest = IsUtf8-drop whole (length front + 1) h (IsCharBoundary-after_ascii whole (length front) h within ascii) in
        All-cons IsUtf8 (front ++ []) (lines bytes) (subst IsUtf8 (take-append_seam front (b ∷ bytes) ∙ sym (append-nil front)) line)
        (all-joined bytes (other (subst IsUtf8 (drop-append-add front (b ∷ bytes) 1) rest)))
    one false ended other same =
        subst (All IsUtf8) (sym (joined-byte front b (lines bytes))) (same (subst IsUtf8 (sym (append_assoc front (b ∷ []) bytes)) h))

pub lines-utf8 : (text : List ℕ) → IsUtf8 text → All IsUtf8 (lines text)
lines-utf8 text h = all-joined text (joined-utf8 [] text h)
