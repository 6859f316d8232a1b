-- A list of states for each class of bytes, as a chain.
use Rattle.std.proofs.Common.{◌≡◌, ◌≢◌, ℕ, ◌+◌, ◌-◌, ◌≤◌, ◌<◌, List, [], ◌∷◌, ◌++◌, length, set, refl, sym, ◌∙◌, ap, subst, arith, true≢false, append-nil}
use Rattle.std.specs.Prelude.{◌==◌, if◌then◌else◌, slice_index}
use Rattle.std.proofs.lemmas.Bool.Decides.{Decides-eqb}
use Rattle.std.proofs.lemmas.List.{length_push, length-set, append_assoc, get_or_append_left, get_or_push, get_or-set_same, get_or-set_other}
use Rattle.rx_model.proofs.lemmas.runs.RunLemmas.{by_test}
use Rattle.rx_dfa.specs.ClassLists.{IsChain, class_count, AreLists}
use Rattle.rx_dfa.specs.declared.dense.class_lists.ClassLists.{ClassLists}

-- one state more changes no chain
chain-more : (states links : List ℕ) (x link limit : ℕ) (xs : List ℕ) → IsChain states links limit xs
    → IsChain (states ++ x ∷ []) (links ++ link ∷ []) limit xs
chain-more states links x link limit [] c = c
chain-more states links x link limit (y ∷ ys) c =
    let l = c.1 in
    let long = length_push states x in
    let longer = length_push links link in (
      c.0,
      record {
        place = l.place;
        before = l.before;
        inside = omega (arith, l.inside);
        linked = omega (arith, l.linked);
        is = get_or_append_left states (x ∷ []) 0 l.place l.inside ∙ l.is;
        link = get_or_append_left links (link ∷ []) 0 l.place l.linked ∙ l.link;
        falls = l.falls;
      },
      chain-more states links x link c.0 ys c.2,
    )

-- a chain begins within the states
chain-within : (states links : List ℕ) (limit : ℕ) (xs : List ℕ) → IsChain states links limit xs → limit ≤ length states
chain-within states links limit [] c = omega (arith, c)
chain-within states links limit (x ∷ xs) c = let l = c.1 in omega (arith, l.before, l.inside)

chain-first : (states links : List ℕ) (x link : ℕ) (xs : List ℕ) → length states ≡ length links → IsChain states links link xs
    → IsChain (states ++ x ∷ []) (links ++ link ∷ []) (length states + 1) (x ∷ xs)
chain-first states links x link xs same c =
    let long = length_push states x in
    let longer = length_push links link in (
      link,
      record {
        place = length states;
        before = omega arith;
        inside = omega arith;
        linked = omega arith;
        is = get_or_push states x 0 (length states) refl;
        link = get_or_push links link 0 (length states) (sym same);
        falls = chain-within states links link xs c;
      },
      chain-more states links x link link xs c,
    )

-- one state more, before those of its class
pub put-lists : (l : ClassLists) (class x : ℕ) → class < class_count l → length l.states.items ≡ length l.links.items → (states links heads : List ℕ)
    → states ≡ l.states.items ++ x ∷ [] → links ≡ l.links.items ++ slice_index l.heads.items class ∷ []
    → heads ≡ set l.heads.items class (length l.states.items + 1)
    → (lists : ℕ → List ℕ) → AreLists l lists → (c : ℕ) → c < length heads
    → IsChain states links (slice_index heads c) (if c == class then x ∷ lists c else lists c)
put-lists l class x inside same states links heads is_states is_links is_heads lists are c lt =
    let count = ap length is_heads ∙ length-set l.heads.items class (length l.states.items + 1) in
    let below : c < class_count l = omega arith in
    rw (is_states, is_links, is_heads)
    (by_test (c == class)
    (λ e.
    let at : c ≡ class = (Decides-eqb c class).0 e in
    rw e
    (subst (λ (h : ℕ). IsChain (l.states.items ++ x ∷ []) (l.links.items ++ slice_index l.heads.items class ∷ []) h (x ∷ lists c))
    (sym (ap (λ i. slice_index (set l.heads.items class (length l.states.items + 1)) i) at
    ∙ get_or-set_same l.heads.items class (length l.states.items + 1) 0 inside))
    (chain-first l.states.items l.links.items x (slice_index l.heads.items class) (lists c) same
    (subst (λ i. IsChain l.states.items l.links.items (slice_index l.heads.items i) (lists c)) at (are c below)))))
    (λ e.
    let other : c ≢ class = λ at. true≢false (sym ((Decides-eqb c class).1 at) ∙ e) in
    rw e
    (subst (λ (h : ℕ). IsChain (l.states.items ++ x ∷ []) (l.links.items ++ slice_index l.heads.items class ∷ []) h (lists c))
    (sym (get_or-set_other l.heads.items class c (length l.states.items + 1) 0 other))
    (chain-more l.states.items l.links.items x (slice_index l.heads.items class) (slice_index l.heads.items c) (lists c) (are c below)))))

-- Along a chain.

-- a chain that begins somewhere
pub record Walks (states links : List ℕ) (limit : ℕ) (goal into : List ℕ) : Type 0 where
  pub rest : List ℕ
  pub chain : IsChain states links limit rest
  pub whole : into ++ rest ≡ goal

pub walks-place : (states links : List ℕ) (limit : ℕ) (xs : List ℕ) → IsChain states links limit xs → 0 < limit
    → (limit - 1 < length states) × (limit - 1 < length links)
walks-place states links limit [] c some = absurd (omega (arith, c))
walks-place states links limit (x ∷ xs) c some = let l = c.1 in (omega (arith, l.before, l.inside), omega (arith, l.before, l.linked))

pub walks-falls : (states links : List ℕ) (limit : ℕ) (xs : List ℕ) → IsChain states links limit xs → 0 < limit → slice_index links (limit - 1) < limit
walks-falls states links limit [] c some = absurd (omega (arith, c))
walks-falls states links limit (x ∷ xs) c some =
    let l = c.1 in
    let at : l.place ≡ limit - 1 = omega (arith, l.before) in
    let link = ap (slice_index links) (sym at) ∙ l.link in
    omega (arith, l.before, l.falls, link)

pub chain-behind : (states links : List ℕ) (limit : ℕ) (xs : List ℕ) → IsChain states links limit xs → 0 < limit
    → (ys : List ℕ) × IsChain states links (slice_index links (limit - 1)) ys
chain-behind states links limit [] c some = absurd (omega (arith, c))
chain-behind states links limit (x ∷ xs) c some =
    let l = c.1 in
    let at : l.place ≡ limit - 1 = omega (arith, l.before) in
    (xs, subst (λ (n : ℕ). IsChain states links n xs) (sym (ap (slice_index links) (sym at) ∙ l.link)) c.2)

pub walks-on : (states links : List ℕ) (limit : ℕ) (goal into : List ℕ) → Walks states links limit goal into → 0 < limit
    → Walks states links (slice_index links (limit - 1)) goal (into ++ slice_index states (limit - 1) ∷ [])
walks-on states links limit goal into w some = on w.rest w.chain w.whole
  where
    on : (rest : List ℕ) → IsChain states links limit rest → into ++ rest ≡ goal
        → Walks states links (slice_index links (limit - 1)) goal (into ++ slice_index states (limit - 1) ∷ [])
    on [] c whole = absurd (omega (arith, c, some))
    on (x ∷ xs) c whole =
        let l = c.1 in
        let at : l.place ≡ limit - 1 = omega (arith, l.before) in
        record {
          rest = xs;
          chain = subst (λ (n : ℕ). IsChain states links n xs) (sym (ap (slice_index links) (sym at) ∙ l.link)) c.2;
          whole = append_assoc into (slice_index states (limit - 1) ∷ []) xs
              ∙ ap (λ (y : ℕ). into ++ y ∷ xs) (ap (slice_index states) (sym at) ∙ l.is) ∙ whole;
        }

pub walks-end : (states links : List ℕ) (limit : ℕ) (goal into : List ℕ) → Walks states links limit goal into → limit ≡ 0 → into ≡ goal
walks-end states links limit goal into w none = done w.rest w.chain w.whole
  where
    done : (rest : List ℕ) → IsChain states links limit rest → into ++ rest ≡ goal → into ≡ goal
    done [] c whole = sym (append-nil into) ∙ whole
    done (x ∷ xs) c whole = let l = c.1 in absurd (omega (arith, l.before, none))

-- no list has a state
pub none-listed : (l : ClassLists) → ((class : ℕ) → class < class_count l → slice_index l.heads.items class ≡ 0) → AreLists l (λ class. [])
none-listed l zeros class lt = zeros class lt
