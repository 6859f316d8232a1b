-- Loops over slots, step by step.
use Rattle.std.proofs.Common.{◌≡◌, ℕ, ◌+◌, ◌*◌, ◌%◌, ◌<◌, ◌≤◌, All, List, [], ◌∷◌, ◌++◌, length, map, take, drop, get_or, refl, sym, ap, subst, ◌∙◌, arith, ⊎_elim}
use Rattle.std.specs.Prelude.{min}
use lib.ListN.{set}
use Rattle.std.proofs.lemmas.Bool.{cases_eq}
use Rattle.std.proofs.lemmas.List.{drop_more, length-set, get_or-set_same, get_or-set_other}
use Rattle.std.proofs.lemmas.List.Elements.{All-nil, All-cons, All-append}
use Rattle.rx_hir.proofs.JoinedLemmas.{drop-past}
use Rattle.rx_literal.specs.Literals.{Literal, bytes_of}
use Rattle.rx_literal.specs.Slots.{slot_of, slot}
use Rattle.rx_literal.proofs.lemmas.prefixes.WalkedLemmas.{map-one}
use Rattle.rx_literal.proofs.lemmas.trimming.SlotLemmas.{Counted, counted-none, counted-more}

-- no slots yet
pub slots-none : (slots : List ℕ) → slots ≡ [] → (slots ≡ []) × All (λ t. t < 4096) slots
slots-none slots none = (none, subst (All (λ t. t < 4096)) (sym none) (All-nil (λ t. t < 4096)))

-- the slot of one literal more
pub slots-more : (count : ℕ) (ls : List Literal) (i : ℕ) (l : Literal) (bytes slots more : List ℕ) (s : ℕ) → i < length ls → l ≡ get_or ls i l
    → bytes ≡ bytes_of l → s ≡ slot_of 0 (take count bytes) → s < 4096 → more ≡ slots ++ s ∷ []
    → (slots ≡ map (slot count) (take i ls)) × All (λ t. t < 4096) slots
    → (more ≡ map (slot count) (take (i + 1) ls)) × All (λ t. t < 4096) more
slots-more count ls i l bytes slots more s lt at same is below added kept = (
  map-one (slot count) ls i l slots more s lt (is ∙ ap (λ bs. slot_of 0 (take count bs)) same ∙ ap (slot count) at) added kept.0,
  subst (All (λ t. t < 4096)) (sym added)
      (All-append (λ t. t < 4096) slots (s ∷ []) kept.1 (All-cons (λ t. t < 4096) s [] below (All-nil (λ t. t < 4096)))),
)

-- the number of one byte more
pub byte-more : (bytes : List ℕ) (i n : ℕ) → i < length bytes → (n < 4096) × (slot_of n (drop i bytes) ≡ slot_of 0 bytes)
    → ((n * 31 + get_or bytes i 0) % 4096 < 4096) × (slot_of ((n * 31 + get_or bytes i 0) % 4096) (drop (i + 1) bytes) ≡ slot_of 0 bytes)
byte-more bytes i n lt kept = (omega arith, sym (ap (slot_of n) (drop_more bytes i 0 lt)) ∙ kept.1)

-- and of all
pub bytes-end : (bytes : List ℕ) (i n : ℕ) → length bytes ≤ i → slot_of n (drop i bytes) ≡ slot_of 0 bytes → n ≡ slot_of 0 bytes
bytes-end bytes i n le so_far = ap (slot_of n) (sym (drop-past bytes i le)) ∙ so_far

-- what is known of the counts while the first n slots are counted
pub record Counting (slots counts : List ℕ) (n : ℕ) : Type 0 where
  pub counted : Counted slots counts n
  pub long : length counts ≡ 4096
  pub fits : (t : ℕ) → get_or counts t 0 ≤ 255

pub counting-none : (slots counts : List ℕ) → length counts ≡ 4096 → ((t : ℕ) → get_or counts t 0 < 256) → Counting slots counts 0
counting-none slots counts long fits = record {
  counted = counted-none slots counts;
  long = long;
  fits = λ t. let h = fits t in omega (arith, h);
}

fits-more : (counts : List ℕ) (s v : ℕ) → s < length counts → v ≤ 255 → ((t : ℕ) → get_or counts t 0 ≤ 255) → (t : ℕ) → get_or (set counts s v) t 0 ≤ 255
fits-more counts s v within le fits t =
    ⊎_elim
    (λ e. let new = get_or-set_same counts s v 0 within in subst (λ u. get_or (set counts s v) u 0 ≤ 255) (sym e) (omega (arith, new, le)))
    (λ other. let same = get_or-set_other counts s t v 0 other in let old = fits t in omega (arith, same, old))
    (cases_eq t s)

-- one slot more is counted
pub counting-more : (slots counts : List ℕ) (n v : ℕ) → get_or slots n 0 < 4096 → v ≡ min (get_or counts (get_or slots n 0) 0 + 1) 255
    → Counting slots counts n → Counting slots (set counts (get_or slots n 0) v) (n + 1)
counting-more slots counts n v below is kept =
    let s = get_or slots n 0 in
    let old = kept.fits (get_or slots n 0) in
    let long = kept.long in
    let within : get_or slots n 0 < length counts = omega (arith, below, long) in
    record {
      counted = counted-more counts s v within slots n refl (omega (arith, is, old)) (omega (arith, is)) (λ one. omega (arith, is, one)) kept.counted;
      long = length-set counts s v ∙ kept.long;
      fits = fits-more counts s v within (omega (arith, is)) kept.fits;
    }
