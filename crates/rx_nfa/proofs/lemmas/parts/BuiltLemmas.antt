-- Parts of an NFA, and how they are put together.
use Rattle.std.proofs.Common.{◌≡◌, ℕ, suc, ◌+◌, ◌-◌, ◌≤◌, ◌<◌, List, [], ◌∷◌, ◌++◌, refl, sym, ◌∙◌, ap, subst, arith, length, get_or}
use Rattle.std.specs.Prelude.{map}
use Rattle.std.specs.List.{AllZip}
use Rattle.std.proofs.lemmas.List.{length-append, get_or_append_left, get_or-append_right}
use Rattle.rx_model.specs.Text.{scalar_ranges, byte_ranges}
use Rattle.rx_model.specs.Graph as graph
use Rattle.rx_nfa.specs.Row.{HasReader}
use Rattle.rx_nfa.proofs.lemmas.classes.RowLemmas.{HasReader-map}
use Rattle.rx_nfa.proofs.lemmas.classes.ClassLemmas.{IsClass-map, IsByteClass-map}
use Rattle.rx_nfa.specs.Automaton.{state_at}
use Rattle.rx_nfa.specs.Draft.{Draft, Continues, Extends, pushed, accepting}
use Rattle.rx_nfa.specs.States.{Stands}
use Rattle.rx_nfa.specs.Built.{IsChain, IsImage, Rises, Sends, Mirrors, Built}
use Rattle.rx_nfa.specs.declared.state.State.{State}
use Rattle.rx_nfa.specs.declared.state.State.TheVariants.{ByteRange, Look, Union, Capture, Fail, Match}

-- Lists of numbers.

pub Rises-from : (low low' high : ℕ) (qs : List ℕ) → low ≤ low' → Rises low' high qs → Rises low high qs
Rises-from low low' high [] le r = omega arith
Rises-from low low' high (q ∷ qs) le r = (let first = r.0 in omega arith, r.1)

pub Rises-to : (low high high' : ℕ) (qs : List ℕ) → high ≤ high' → Rises low high qs → Rises low high' qs
Rises-to low high high' [] le r = omega arith
Rises-to low high high' (q ∷ qs) le r = (r.0, Rises-to (suc q) high high' qs le r.1)

pub Rises-append : (low middle high : ℕ) (qs rs : List ℕ) → Rises low middle qs → Rises middle high rs → Rises low high (qs ++ rs)
Rises-append low middle high [] rs a b = Rises-from low middle high rs a b
Rises-append low middle high (q ∷ qs) rs a b = (a.0, Rises-append (suc q) middle high qs rs a.1 b)

pub Sends-append : (f : ℕ → ℕ) (base : ℕ) (qs rs : List ℕ) → Sends f base (qs ++ rs) → Sends f base qs × Sends f (base + length qs) rs
Sends-append f base [] rs s = let e : base ≡ base + 0 = omega arith in (tt, subst (λ n. Sends f n rs) e s)
Sends-append f base (q ∷ qs) rs s =
    let later = Sends-append f (suc base) qs rs s.1 in
    let e : suc base + length qs ≡ base + suc (length qs) = omega arith in
    ((s.0, later.0), subst (λ n. Sends f n rs) e later.1)

-- Two lists side by side.

module _ {A B : Type 0} (R : A → B → Type 0) where
  pub AllZip-length : (xs : List A) (ys : List B) → AllZip R xs ys → length xs ≡ length ys
  AllZip-length [] [] z = refl
  AllZip-length [] (y ∷ ys) z = absurd z
  AllZip-length (x ∷ xs) [] z = absurd z
  AllZip-length (x ∷ xs) (y ∷ ys) z = ap suc (AllZip-length xs ys z.1)

  pub AllZip-append : (xs xs' : List A) (ys ys' : List B) → AllZip R xs ys → AllZip R xs' ys' → AllZip R (xs ++ xs') (ys ++ ys')
  AllZip-append [] xs' [] ys' z z' = z'
  AllZip-append [] xs' (y ∷ ys) ys' z z' = absurd z
  AllZip-append (x ∷ xs) xs' [] ys' z z' = absurd z
  AllZip-append (x ∷ xs) xs' (y ∷ ys) ys' z z' = (z.0, AllZip-append xs xs' ys ys' z.1 z')

  pub AllZip-map : (S : A → B → Type 0) → ((x : A) (y : B) → R x y → S x y) → (xs : List A) (ys : List B) → AllZip R xs ys → AllZip S xs ys
  AllZip-map S each [] [] z = z
  AllZip-map S each [] (y ∷ ys) z = absurd z
  AllZip-map S each (x ∷ xs) [] z = absurd z
  AllZip-map S each (x ∷ xs) (y ∷ ys) z = (each x y z.0, AllZip-map S each xs ys z.1)

-- Images, where states are kept.

module _ (IsAt IsAt' : ℕ → State → Type 0) (kept : (q : ℕ) (state : State) → IsAt q state → IsAt' q state) where
  pub IsChain-map : (q : ℕ) (bytes : List ℕ) (r : ℕ) → IsChain IsAt q bytes r → IsChain IsAt' q bytes r
  IsChain-map q [] r c = c
  IsChain-map q (b ∷ bytes) r c = (c.0, kept q (ByteRange b b c.0) c.1, IsChain-map c.0 bytes r c.2)

  pub IsImage-map : (f : ℕ → ℕ) (s : graph.State) (q : ℕ) → IsImage IsAt f s q → IsImage IsAt' f s q
  IsImage-map f (graph.text [] next) q h = kept q (Union (f next ∷ [])) h
  IsImage-map f (graph.text (b ∷ bytes) next) q h = IsChain-map q (b ∷ bytes) (f next) h
  IsImage-map f (graph.set (scalar_ranges ranges) next) q h = IsClass-map (HasReader IsAt) (HasReader IsAt') (f next) (HasReader-map IsAt IsAt' kept) ranges q h
  IsImage-map f (graph.set (byte_ranges ranges) next) q h = (
    h.0,
    IsByteClass-map (HasReader IsAt) (HasReader IsAt') (f next) (HasReader-map IsAt IsAt' kept)
        ranges q h.1,
  )
  IsImage-map f (graph.assertion kind next) q h = (h.0, h.1, kept q (Look h.0 (f next)) h.2)
  IsImage-map f (graph.slot number next) q h = (h.0, kept q (Capture (f next) h.0 number) h.1)
  IsImage-map f (graph.choice states) q h = kept q (Union (map f states)) h
  IsImage-map f (graph.accept pattern) q h = kept q (Match pattern) h

-- the states from the base on were kept
pub record Keeps (base : ℕ) (old new : List State) : Type 0 where
  pub longer : length old ≤ length new
  pub kept : (q : ℕ) → base ≤ q → q < length old → state_at new q ≡ state_at old q

pub Stands-kept : (low base : ℕ) (old new : List State) → low ≤ base → Keeps base old new → (q : ℕ) (state : State) → Stands base old q state
    → Stands low new q state
Stands-kept low base old new le k q state s = record {
  above = (let a = s.above in omega arith);
  inside = (let a = s.inside in let l = k.longer in omega arith);
  is = k.kept q s.above s.inside ∙ s.is;
}

pub Stands-from : (low base : ℕ) (states : List State) (q : ℕ) (state : State) → low ≤ base → Stands base states q state → Stands low states q state
Stands-from low base states q state le s = record { above = (let a = s.above in omega arith); inside = s.inside; is = s.is }

pub Mirrors-kept : (f : ℕ → ℕ) (low base : ℕ) (old new : List State) (part : graph.Part) (images : List ℕ) (start : ℕ) → low ≤ base → Keeps base old new
    → Mirrors f base old part images start → Mirrors f low new part images start
Mirrors-kept f low base old new part images start le k m = record {
  start_is = m.start_is;
  each = AllZip-map (IsImage (Stands base old) f) (IsImage (Stands low new) f)
      (IsImage-map (Stands base old) (Stands low new) (Stands-kept low base old new le k) f) part.states images m.each;
}

pub Keeps-same : (base : ℕ) (states : List State) → Keeps base states states
Keeps-same base states = record { longer = omega arith; kept = λ q above inside. refl }

pub Keeps-extends : (base : ℕ) (old new : Draft) → Extends old new → Keeps base old.states new.states
Keeps-extends base old new e = record { longer = e.longer; kept = λ q above inside. e.kept q inside }

pub Keeps-continues : (base : ℕ) (old new : Draft) → Continues old new → Keeps base old.states new.states
Keeps-continues base old new e = record { longer = e.longer; kept = λ q above inside. e.kept q inside }

pub Extends-same : (d : Draft) → Extends d d
Extends-same d = record { groups = refl; slots = refl; longer = omega arith; kept = λ q inside. refl; accepted = refl }

pub Extends-continues : (old new : Draft) → Extends old new → Continues old new
Extends-continues old new e = record { groups = e.groups; slots = e.slots; longer = e.longer; kept = e.kept }

pub Continues-same : (d : Draft) → Continues d d
Continues-same d = record { groups = refl; slots = refl; longer = omega arith; kept = λ q inside. refl }

pub Continues-trans : (a b c : Draft) → Continues a b → Continues b c → Continues a c
Continues-trans a b c x y = record {
  groups = y.groups ∙ x.groups;
  slots = y.slots ∙ x.slots;
  longer = (let p = x.longer in let q = y.longer in omega arith);
  kept = λ q inside. (let p = x.longer in y.kept q (omega arith) ∙ x.kept q inside);
}

pub Extends-trans : (a b c : Draft) → Extends a b → Extends b c → Extends a c
Extends-trans a b c x y = record {
  groups = y.groups ∙ x.groups;
  slots = y.slots ∙ x.slots;
  longer = (let p = x.longer in let q = y.longer in omega arith);
  kept = λ q inside. (let p = x.longer in y.kept q (omega arith) ∙ x.kept q inside);
  accepted = y.accepted ∙ x.accepted;
}

pub pushed-length : (d : Draft) (state : State) → length (pushed d state).states ≡ suc (length d.states)
pushed-length d state = let l = length-append d.states (state ∷ []) in omega arith

pub Extends-pushed : (d : Draft) (state : State) → Extends d (pushed d state)
Extends-pushed d state = record {
  groups = refl;
  slots = refl;
  longer = (let l = pushed-length d state in omega arith);
  kept = λ q inside. get_or_append_left d.states (state ∷ []) Fail q inside;
  accepted = refl;
}

pub Continues-accepting : (d : Draft) (p : ℕ) → Continues d (accepting d p)
Continues-accepting d p = record {
  groups = refl;
  slots = refl;
  longer = (let l = pushed-length d (Match p) in omega arith);
  kept = λ q inside. get_or_append_left d.states (Match p ∷ []) Fail q inside;
}

pub Stands-pushed : (d : Draft) (state : State) → Stands (length d.states) (pushed d state).states (length d.states) state
Stands-pushed d state = record {
  above = omega arith;
  inside = (let l = pushed-length d state in omega arith);
  is =
      (let none : length d.states - length d.states ≡ 0 = omega arith in
      get_or-append_right d.states (state ∷ []) (length d.states) (length d.states) Fail refl (omega arith) ∙ ap (λ n. get_or (state ∷ []) n Fail) none);
}

-- Parts.

-- nothing
pub Built-nothing : (next : ℕ) (d : Draft) → Built graph.build_nothing next d d next
Built-nothing next d = record {
  extends = Extends-same d;
  images = [];
  rises = omega arith;
  mirrors = λ f next' base is sends. record { start_is = is; each = tt };
}

-- one state of the graph
pub Built-state : (state : ℕ → graph.State) (next : ℕ) (old new : Draft) (q : ℕ) → Extends old new → length old.states ≤ q → q < length new.states
    → ((f : ℕ → ℕ) (next' : ℕ) → f next' ≡ next → IsImage (Stands (length old.states) new.states) f (state next') q)
    → Built (graph.build_state state) next old new q
Built-state state next old new q extends above inside image = record {
  extends = extends;
  images = q ∷ [];
  rises = (above, omega arith);
  mirrors = λ f next' base is sends. record { start_is = sends.0; each = (image f next' is, tt) };
}

-- one part after the other, which is built first
pub Built-then : (first second : graph.Builder) (next middle start : ℕ) (old mid new : Draft) → Built second next old mid middle
    → Built first middle mid new start
    → Built (graph.build_then first second) next old new start
Built-then first second next middle start old mid new s t = record {
  extends = Extends-trans old mid new s.extends t.extends;
  images = s.images ++ t.images;
  rises = Rises-append (length old.states) (length mid.states) (length new.states) s.images t.images s.rises t.rises;
  mirrors = λ f next' base is sends. mirrors f next' base is (Sends-append f base s.images t.images sends);
}
  where
    mirrors : (f : ℕ → ℕ) (next' base : ℕ) → f next' ≡ next → Sends f base s.images × Sends f (base + length s.images) t.images
        → Mirrors f (length old.states) new.states (graph.build_then first second next' base) (s.images ++ t.images) start
    mirrors f next' base is sends =
        let p = second next' base in
        let a = s.mirrors f next' base is sends.0 in
        let l = AllZip-length (IsImage (Stands (length old.states) mid.states) f) p.states s.images a.each in
        let b = t.mirrors f p.start (base + length p.states) a.start_is (subst (λ n. Sends f (base + n) t.images) (sym l) sends.1) in
        let a' = Mirrors-kept f (length old.states) (length old.states) mid.states new.states p s.images middle (omega arith)
        (Keeps-extends (length old.states) mid new t.extends) a in
        let b' = Mirrors-kept f (length old.states) (length mid.states) new.states new.states (first p.start (base + length p.states)) t.images start
        s.extends.longer (Keeps-same (length mid.states) new.states) b in
        record {
          start_is = b'.start_is;
          each = AllZip-append (IsImage (Stands (length old.states) new.states) f) p.states (first p.start (base + length p.states)).states s.images t.images
              a'.each b'.each;
        }
