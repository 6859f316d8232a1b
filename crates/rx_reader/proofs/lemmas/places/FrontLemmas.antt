-- On what stands in front of a text, read character by character.
use Rattle.std.proofs.Common.{◌≡◌, ℕ, suc, ◌+◌, ◌-◌, ◌*◌, ◌<◌, ◌≤◌, Bool, true, false, not, ◌&&◌, List, [], ◌∷◌, ◌++◌, length, take, drop, get_or, ◌==◌, cond, refl, ◌∙◌, ap, sym, append_assoc, drop-cons, add-one, arith}
use Rattle.std.specs.Prelude.{if◌then◌else◌}
use Rattle.std.proofs.lemmas.Bool.Decides.{nat_tests}
use Rattle.std.proofs.lemmas.List.{append-nil, take_more, length-take-le, length_push}
use Rattle.std.proofs.lemmas.List.Sums.{take_while-cons, fold-append}
use Rattle.std.specs.List.{take_while, prefix_len}
use Rattle.rx_sets.specs.Capture.{is_capture_char}
use Rattle.rx_reader.specs.Ahead.{is_blank, is_commented, blank_len}
use Rattle.rx_reader.specs.Flags.{is_letter, has, letters_after}
use Rattle.rx_reader.specs.Names.{name_of}
use Rattle.rx_reader.specs.Counts.{numeral}

-- the characters from n on, one by one
pub drop_at : (text : List ℕ) (n c : ℕ) → n < length text → c ≡ get_or text n c → drop n text ≡ c ∷ drop (n + 1) text
drop_at text n c lt is = drop-cons text n c lt ∙ ap (λ (d : ℕ). d ∷ drop (suc n) text) (sym is) ∙ ap (λ (k : ℕ). c ∷ drop k text) (sym (add-one n))

-- one more of the front
pub front_goes : (text front rest more : List ℕ) (n c : ℕ) → n < length text → c ≡ get_or text n c → front ≡ take n text ++ rest → rest ≡ c ∷ more
    → front ≡ take (n + 1) text ++ more
front_goes text front rest more n c lt is so_far goes =
    so_far ∙ ap (λ (xs : List ℕ). take n text ++ xs) goes ∙ sym (append_assoc (take n text) (c ∷ []) more)
    ∙ ap (λ (d : ℕ). (take n text ++ d ∷ []) ++ more) is ∙ ap (λ (xs : List ℕ). xs ++ more) (sym (take_more text n c lt))

-- the front is over
pub front_stops : (text front rest : List ℕ) (n : ℕ) → front ≡ take n text ++ rest → rest ≡ [] → take n text ≡ front
front_stops text front rest n so_far ends = sym (so_far ∙ ap (λ (xs : List ℕ). take n text ++ xs) ends ∙ append-nil (take n text))

pub front_len : (text front : List ℕ) (n : ℕ) → take n text ≡ front → n ≤ length text → n ≡ length front
front_len text front n is le = sym (ap (λ (xs : List ℕ). length xs) (sym is) ∙ length-take-le n text le)

-- White space and comments.

pub blank_goes : (in_comment : Bool) (text : List ℕ) (n c : ℕ) → n < length text → c ≡ get_or text n c → is_blank in_comment c ≡ true
    → blank_len in_comment (drop n text) ≡ 1 + blank_len (is_commented in_comment c) (drop (n + 1) text)
unfolding blank_len
blank_goes in_comment text n c lt is blank = rw (drop_at text n c lt is, blank) refl

pub blank_stops : (in_comment : Bool) (text : List ℕ) (n c : ℕ) → n < length text → c ≡ get_or text n c → is_blank in_comment c ≡ false
    → blank_len in_comment (drop n text) ≡ 0
unfolding blank_len
blank_stops in_comment text n c lt is blank = rw (drop_at text n c lt is, blank) refl

pub blank_ends : (in_comment : Bool) (text : List ℕ) → text ≡ [] → blank_len in_comment text ≡ 0
unfolding blank_len
blank_ends in_comment text is = rw is refl

-- Letters of flags.

pub letters_go : (before text : List ℕ) (n c : ℕ) → n < length text → c ≡ get_or text n c → is_letter c ≡ true → has c before ≡ false
    → letters_after before (drop n text) ≡ c ∷ letters_after (before ++ c ∷ []) (drop (n + 1) text)
unfolding letters_after
letters_go before text n c lt is letter fresh = rw (drop_at text n c lt is, letter, fresh) refl

pub letters_stop : (before text : List ℕ) (n c : ℕ) → n < length text → c ≡ get_or text n c → (is_letter c && not (has c before)) ≡ false
    → letters_after before (drop n text) ≡ []
unfolding letters_after
letters_stop before text n c lt is other = rw (drop_at text n c lt is, other) refl

pub letters_end : (before text : List ℕ) → text ≡ [] → letters_after before text ≡ []
unfolding letters_after
letters_end before text is = rw is refl

pub letters_more : (whole named more text : List ℕ) (c : ℕ) → whole ≡ named ++ letters_after named (drop (length named) text)
    → letters_after named (drop (length named) text) ≡ c ∷ letters_after (named ++ c ∷ []) (drop (length named + 1) text) → more ≡ named ++ c ∷ []
    → whole ≡ more ++ letters_after more (drop (length more) text)
letters_more whole named more text c so_far goes is =
    let one : length named + 1 ≡ length more = sym (ap (λ (xs : List ℕ). length xs) is ∙ length_push named c) in
    so_far ∙ ap (λ (xs : List ℕ). named ++ xs) goes ∙ sym (append_assoc named (c ∷ []) _) ∙ (λ i. sym is i ++ letters_after (sym is i) (drop (one i) text))

-- What passes a test.

pub while_goes : (test : ℕ → Bool) (text : List ℕ) (n c : ℕ) → n < length text → c ≡ get_or text n c → test c ≡ true
    → take_while test (drop n text) ≡ c ∷ take_while test (drop (n + 1) text)
while_goes test text n c lt is passes = ap (take_while test) (drop_at text n c lt is) ∙ take_while-cons test c (drop (n + 1) text)
    ∙ ap (λ (b : Bool). cond b (c ∷ take_while test (drop (n + 1) text)) []) passes

pub while_stops : (test : ℕ → Bool) (text : List ℕ) (n c : ℕ) → n < length text → c ≡ get_or text n c → test c ≡ false → take_while test (drop n text) ≡ []
while_stops test text n c lt is fails = ap (take_while test) (drop_at text n c lt is) ∙ take_while-cons test c (drop (n + 1) text)
    ∙ ap (λ (b : Bool). cond b (c ∷ take_while test (drop (n + 1) text)) []) fails

pub prefix_goes : (test : ℕ → Bool) (text : List ℕ) (n c : ℕ) → n < length text → c ≡ get_or text n c → test c ≡ true
    → prefix_len test (drop n text) ≡ 1 + prefix_len test (drop (n + 1) text)
prefix_goes test text n c lt is passes = rw (drop_at text n c lt is, passes) refl

pub prefix_stops : (test : ℕ → Bool) (text : List ℕ) (n c : ℕ) → n < length text → c ≡ get_or text n c → test c ≡ false → prefix_len test (drop n text) ≡ 0
prefix_stops test text n c lt is fails = rw (drop_at text n c lt is, fails) refl

-- Names.

abbrev pub name_from : (first : Bool) → List ℕ → List ℕ
name_from first [] = []
name_from first (c ∷ cs) = if is_capture_char c first then c ∷ name_from false cs else []

rest_of_name : (cs : List ℕ) → name_from false cs ≡ take_while (λ d. is_capture_char d false) cs
rest_of_name [] = refl
rest_of_name (c ∷ cs) = ap (λ (xs : List ℕ). if is_capture_char c false then c ∷ xs else []) (rest_of_name cs)
    ∙ sym (take_while-cons (λ d. is_capture_char d false) c cs)

pub name_from_start : (text : List ℕ) → name_of text ≡ name_from true text
name_from_start [] = refl
name_from_start (c ∷ cs) = ap (λ (xs : List ℕ). if is_capture_char c true then c ∷ xs else []) (sym (rest_of_name cs))

pub name_goes : (first : Bool) (text : List ℕ) (n c : ℕ) → n < length text → c ≡ get_or text n c → is_capture_char c first ≡ true
    → name_from first (drop n text) ≡ c ∷ name_from false (drop (n + 1) text)
name_goes first text n c lt is passes = ap (name_from first) (drop_at text n c lt is)
    ∙ ap (λ (b : Bool). if b then c ∷ name_from false (drop (n + 1) text) else []) passes

pub name_stops : (first : Bool) (text : List ℕ) (n c : ℕ) → n < length text → c ≡ get_or text n c → is_capture_char c first ≡ false
    → name_from first (drop n text) ≡ []
name_stops first text n c lt is fails = ap (name_from first) (drop_at text n c lt is)
    ∙ ap (λ (b : Bool). if b then c ∷ name_from false (drop (n + 1) text) else []) fails

pub name_ends : (first : Bool) (text : List ℕ) → text ≡ [] → name_from first text ≡ []
name_ends first text is = ap (name_from first) is

pub name_more : (whole name more text : List ℕ) (c : ℕ) → whole ≡ name ++ name_from (length name == 0) (drop (length name) text)
    → name_from (length name == 0) (drop (length name) text) ≡ c ∷ name_from false (drop (length name + 1) text) → more ≡ name ++ c ∷ []
    → whole ≡ more ++ name_from (length more == 0) (drop (length more) text)
name_more whole name more text c so_far goes is =
    let one : length name + 1 ≡ length more = sym (ap (λ (xs : List ℕ). length xs) is ∙ length_push name c) in
    let some : false ≡ (length more == 0) = grind (arith, nat_tests) in
    so_far ∙ ap (λ (xs : List ℕ). name ++ xs) goes ∙ sym (append_assoc name (c ∷ []) _) ∙ (λ i. sym is i ++ name_from (some i) (drop (one i) text))

-- Numbers.

pub numeral_more : (text : List ℕ) (n c : ℕ) → n < length text → c ≡ get_or text n c → numeral (take (n + 1) text) ≡ numeral (take n text) * 10 + (c - 48)
numeral_more text n c lt is =
    ap numeral (take_more text n c lt ∙ ap (λ (d : ℕ). take n text ++ d ∷ []) (sym is)) ∙ fold-append (λ (m d : ℕ). m * 10 + (d - 48)) 0 (take n text) (c ∷ [])
