-- What bytes may be left for.
use Rattle.std.proofs.Common.{◌≡◌, ℕ, ◌+◌, ◌-◌, ◌<◌, ◌≤◌, List, [], ◌∷◌, ◌++◌, length, drop, get_or, slice_index, refl, sym, ap, subst, ◌∙◌, arith, ⊎_elim}
use Rattle.std.proofs.lemmas.Bool.{cases_lt}
use Rattle.std.proofs.lemmas.List.{get_or_append_left, get_or-append_right, get_or_push, get_or-drop, length-append, length-drop, same_lists, get_or_default}
use Rattle.std.proofs.lemmas.List.Elements.{All-head, All-tail}
use Rattle.memchr.specs.Find.{OccursAt}
use Rattle.rx_prefilter.specs.Needles.{first_span, NoneLies}
use Rattle.rx_prefilter.specs.Automata.{NoneBegins, NoneWithin, Leads}
use Rattle.rx_prefilter.proofs.ByteLemmas.{occurs_at-false}
use Rattle.rx_prefilter.proofs.NeedleLemmas.{span_at-nil, span_at-next, first_span-next}

-- bytes that stand in bytes that stand in a text
occurs_in : (text v u : List ℕ) (s k : ℕ) → OccursAt text v s → OccursAt v u k → OccursAt text u (s + k)
occurs_in text v u s k outer inner = record {
  fits = (let a = outer.fits in let b = inner.fits in omega (arith, a, b));
  reads = λ j l.
      let b = inner.fits in
      let e : s + k + j ≡ s + (k + j) = omega arith in
      ap (slice_index text) e ∙ outer.reads (k + j) (omega (arith, b, l)) ∙ inner.reads j l;
}

occurs_at_same : (text u : List ℕ) (i j : ℕ) → i ≡ j → OccursAt text u i → OccursAt text u j
occurs_at_same text u i j e o = subst (OccursAt text u) e o

pub occurs_whole : (u : List ℕ) → OccursAt u u 0
occurs_whole u = record { fits = omega arith; reads = λ j l. let e : 0 + j ≡ j = omega arith in ap (slice_index u) e }

occurs_left : (u v : List ℕ) → OccursAt (u ++ v) u 0
occurs_left u v = record {
  fits = (let l = length-append u v in omega (arith, l));
  reads = λ j l. let e : 0 + j ≡ j = omega arith in ap (slice_index (u ++ v)) e ∙ get_or_append_left u v 0 j l;
}

occurs_rest : (u : List ℕ) → 0 < length u → OccursAt u (drop 1 u) 1
occurs_rest u some = record {
  fits = (let l = length-drop 1 u in omega (arith, l, some));
  reads = λ j l. sym (get_or-drop 1 u j 0);
}

-- one byte more
occurs_more : (text u : List ℕ) (b s : ℕ) → OccursAt text u s → s + length u < length text → slice_index text (s + length u) ≡ b → OccursAt text (u ++ b ∷ []) s
occurs_more text u b s o within is = record {
  fits = (let l = length-append u (b ∷ []) in omega (arith, l, within));
  reads = λ j l. ⊎_elim
      (λ (below : j < length u). o.reads j below ∙ sym (get_or_append_left u (b ∷ []) 0 j below))
      (λ (above : length u ≤ j).
      let long = length-append u (b ∷ []) in
      let e : j ≡ length u = omega (arith, l, long, above) in
      rw e (is ∙ sym (get_or_push u b 0 (length u) refl)))
      (cases_lt j (length u));
}

pub last_byte : (text u : List ℕ) (b s : ℕ) → OccursAt text (u ++ b ∷ []) s → (s + length u < length text) × (slice_index text (s + length u) ≡ b)
last_byte text u b s o =
    let long = length-append u (b ∷ []) in
    let fits = o.fits in
    (omega (arith, long, fits), o.reads (length u) (omega (arith, long)) ∙ get_or_push u b 0 (length u) refl)

pub occurs_before : (text u : List ℕ) (b s : ℕ) → OccursAt text (u ++ b ∷ []) s → OccursAt text u s
occurs_before text u b s o =
    let e : s + 0 ≡ s = omega arith in occurs_at_same text u (s + 0) s e (occurs_in text (u ++ b ∷ []) u s 0 o (occurs_left u (b ∷ [])))

pub occurs_next : (text u : List ℕ) (b s : ℕ) → OccursAt text u s → s + length u < length text → slice_index text (s + length u) ≡ b
    → OccursAt text (u ++ b ∷ []) s
occurs_next text u b s o within is = occurs_more text u b s o within is

-- bytes as long as those in which they stand are these
pub occurs_same : (v u : List ℕ) → length u ≡ length v → OccursAt v u 0 → u ≡ v
occurs_same v u long o = same_lists u v long (λ k d l.
    let e : 0 + k ≡ k = omega arith in
    get_or_default u k d 0 l ∙ sym (o.reads k l) ∙ ap (slice_index v) e ∙ get_or_default v k 0 d (omega (arith, long, l)))

-- bytes that no needle begins with, and the last of which is in no needle that they begin with
pub dead : (needles : List (List ℕ)) (w : List ℕ) (b : ℕ) (text : List ℕ) (s : ℕ) → NoneWithin needles w → NoneBegins needles (w ++ b ∷ [])
    → OccursAt text (w ++ b ∷ []) s → NoneLies needles text s
dead [] w b text s within begins o = span_at-nil text s
dead (n ∷ ns) w b text s within begins o =
    let W : List ℕ → Type 0 = λ needle. ¬ OccursAt w needle 0 in
    let B : List ℕ → Type 0 = λ needle. ¬ OccursAt needle (w ++ b ∷ []) 0 in
    let long = length-append w (b ∷ []) in
    span_at-next text s n ns (occurs_at-false text n s (λ lies. ⊎_elim
    (λ (less : length w < length n). All-head B n ns begins (record {
      fits = omega (arith, long, less);
      reads = λ j l. let e : 0 + j ≡ j = omega arith in ap (slice_index n) e ∙ sym (lies.reads j (omega (arith, long, less, l))) ∙ o.reads j l;
    }))
    (λ (more : length n ≤ length w). All-head W n ns within (record {
      fits = omega (arith, more);
      reads = λ j l. let e : 0 + j ≡ j = omega arith in
          ap (slice_index w) e ∙ sym (get_or_append_left w (b ∷ []) 0 j (omega (arith, more, l))) ∙ sym (o.reads j (omega (arith, long, more, l)))
          ∙ lies.reads j l;
    }))
    (cases_lt (length w) (length n))))
    ∙ dead ns w b text s (All-tail W n ns within) (All-tail B n ns begins) o

module _ (needles : List (List ℕ)) where
  pub leads-same : (v u : List ℕ) → u ≡ v → Leads needles v u
  leads-same v u e = record {
    shorter = (let l = ap (λ (w : List ℕ). length w) e in omega (arith, l));
    reads = λ text at o.
        let l = ap (λ (w : List ℕ). length w) e in
        let here : at ≡ at + (length v - length u) = omega (arith, l) in
        occurs_at_same text u at (at + (length v - length u)) here (subst (λ w. OccursAt text w at) (sym e) o);
    keeps = λ text at o.
        let l = ap (λ (w : List ℕ). length w) e in
        let here : at ≡ at + (length v - length u) = omega (arith, l) in
        ap (first_span needles text) here;
  }

  -- past bytes at whose start no needle lies
  pub leads-past : (v to : List ℕ) → 0 < length v → ((text : List ℕ) (s : ℕ) → OccursAt text v s → NoneLies needles text s) → Leads needles (drop 1 v) to
      → Leads needles v to
  leads-past v to some none rest =
      let less = length-drop 1 v in
      let low = rest.shorter in record {
        shorter = omega (arith, less, low);
        reads = λ text at o.
            let here : at + 1 + (length (drop 1 v) - length to) ≡ at + (length v - length to) = omega (arith, less, low, some) in
            occurs_at_same text to (at + 1 + (length (drop 1 v) - length to)) (at + (length v - length to)) here
            (rest.reads text (at + 1) (occurs_in text v (drop 1 v) at 1 o (occurs_rest v some)));
        keeps = λ text at o.
            let fits = o.fits in
            let here : at + 1 + (length (drop 1 v) - length to) ≡ at + (length v - length to) = omega (arith, less, low, some) in
            first_span-next needles text at (omega (arith, fits)) (none text at o)
            ∙ rest.keeps text (at + 1) (occurs_in text v (drop 1 v) at 1 o (occurs_rest v some))
            ∙ ap (first_span needles text) here;
      }

  -- one byte more, of the bytes and of those that they are left for
  pub leads-step : (v f to : List ℕ) (b : ℕ) → Leads needles v f → Leads needles (f ++ b ∷ []) to → Leads needles (v ++ b ∷ []) to
  leads-step v f to b first then =
      let long_v = length-append v (b ∷ []) in
      let long_f = length-append f (b ∷ []) in
      let low = first.shorter in
      let lower = then.shorter in
      let between : (text : List ℕ) (at : ℕ) → OccursAt text (v ++ b ∷ []) at → OccursAt text (f ++ b ∷ []) (at + (length v - length f)) = λ text at o.
      let last = last_byte text v b at o in
      let same : at + (length v - length f) + length f ≡ at + length v = omega (arith, low) in
      occurs_more text f b (at + (length v - length f)) (first.reads text at (occurs_before text v b at o)) (let l = last.0 in omega (arith, l, same))
      (ap (slice_index text) same ∙ last.1) in
      let here : (at : ℕ) → at + (length v - length f) + (length (f ++ b ∷ []) - length to) ≡ at + (length (v ++ b ∷ []) - length to) =
      λ at. omega (arith, long_v, long_f, low, lower) in record {
        shorter = omega (arith, long_v, long_f, low, lower);
        reads = λ text at o. occurs_at_same text to _ _ (here at) (then.reads text (at + (length v - length f)) (between text at o));
        keeps = λ text at o. first.keeps text at (occurs_before text v b at o) ∙ then.keeps text (at + (length v - length f)) (between text at o)
            ∙ ap (first_span needles text) (here at);
      }

-- a needle that begins with these bytes is these bytes and others
pub begins-split : (n v : List ℕ) → OccursAt n v 0 → n ≡ v ++ drop (length v) n
begins-split n v o =
    let fits = o.fits in
    let long = length-append v (drop (length v) n) in
    let rest = length-drop (length v) n in
    same_lists n (v ++ drop (length v) n) (omega (arith, fits, long, rest)) (λ k d l. ⊎_elim
    (λ (below : k < length v).
    let e : 0 + k ≡ k = omega arith in
    get_or_default n k d 0 l ∙ ap (slice_index n) (sym e) ∙ o.reads k below ∙ get_or_default v k 0 d below
    ∙ sym (get_or_append_left v (drop (length v) n) d k below))
    (λ (above : length v ≤ k).
    let e : length v + (k - length v) ≡ k = omega (arith, above) in
    sym (get_or-append_right v (drop (length v) n) (length v) k d refl above ∙ get_or-drop (length v) n (k - length v) d ∙ ap (λ i. get_or n i d) e))
    (cases_lt k (length v)))
