-- Alternatives, added in turn.
use Rattle.std.proofs.Common.{◌≡◌, ℕ, ◌+◌, ◌≤◌, List, [], ◌∷◌, ◌++◌, refl, sym, ◌∙◌, ap, subst, arith, length, append_assoc}
use Rattle.std.specs.Prelude.{Bool, true, false, ◌&&◌, ◌||◌, Some, None, if◌then◌else◌, nat_le}
use Rattle.std.specs.List.{AllZip}
use Rattle.std.proofs.lemmas.Bool.Decides.{nat_tests}
use Rattle.std.proofs.lemmas.List.{map-append, append-nil}
use Rattle.rx_model.specs.Graph as graph
use Rattle.rx_nfa.specs.Built.{IsImage, Sends, Built, BuiltParts, AddsParts, AddsAll}
use Rattle.rx_nfa.specs.Directed.{PartsBuilder, build_both, build_all, build_one, byte_between}
use Rattle.rx_nfa.specs.Draft.{Draft, Extends, pushed}
use Rattle.rx_nfa.specs.Row.{transition_to}
use Rattle.rx_nfa.specs.States.{Stands}
use Rattle.rx_nfa.specs.declared.state.State.{State}
use Rattle.rx_nfa.specs.declared.state.State.TheVariants.{ByteRange}
use Rattle.rx_nfa.proofs.lemmas.parts.BuiltLemmas.{Rises-append, Sends-append, AllZip-length, AllZip-append, AllZip-map, IsImage-map, Stands-kept, Stands-pushed, Built-state, Keeps-same, Keeps-extends, Extends-trans, Extends-pushed, pushed-length}
use Rattle.rx_nfa.proofs.lemmas.parts.ChoiceLemmas.{BuiltParts-none}

-- the state that reads a byte of a range
pub byte-image : (IsAt : ℕ → State → Type 0) (f : ℕ → ℕ) (first last next q : ℕ) → first ≤ last → last ≤ 255 → IsAt q (ByteRange first last (f next))
    → IsImage IsAt f (byte_between first last next) q
byte-image IsAt f first last next q le small stands = (
  (small, tt),
  record {
    row = transition_to (f next) (first, last) ∷ [];
    reads = record { state = ByteRange first last (f next); stands = stands; reads = refl; ascends = (omega arith, le, omega arith) };
    each = λ b lt. ap (λ x. if x then Some (f next) else None) (plain (nat_le first b && nat_le b last));
    of_none = λ b big. (let past : (nat_le first b && nat_le b last) ≡ false = grind (arith, nat_tests) in rw past refl);
  },
)
  where
    plain : (x : Bool) → x ≡ (x || false)
    plain true = refl
    plain false = refl

-- Alternatives that were built.

module _ (f : ℕ → ℕ) (old mid new : Draft) (x : Extends old mid) (y : Extends mid new) where
  -- images among the first states, and among the later ones
  pub images-first : (xs : List graph.State) (qs : List ℕ) → AllZip (IsImage (Stands (length old.states) mid.states) f) xs qs
      → AllZip (IsImage (Stands (length old.states) new.states) f) xs qs
  images-first xs qs z =
      AllZip-map (IsImage (Stands (length old.states) mid.states) f) (IsImage (Stands (length old.states) new.states) f)
      (IsImage-map (Stands (length old.states) mid.states) (Stands (length old.states) new.states)
      (Stands-kept (length old.states) (length old.states) mid.states new.states (omega arith) (Keeps-extends (length old.states) mid new y)) f) xs qs z

  pub images-later : (xs : List graph.State) (qs : List ℕ) → AllZip (IsImage (Stands (length mid.states) new.states) f) xs qs
      → AllZip (IsImage (Stands (length old.states) new.states) f) xs qs
  images-later xs qs z =
      AllZip-map (IsImage (Stands (length mid.states) new.states) f) (IsImage (Stands (length old.states) new.states) f)
      (IsImage-map (Stands (length mid.states) new.states) (Stands (length old.states) new.states)
      (Stands-kept (length old.states) (length mid.states) new.states new.states x.longer (Keeps-same (length mid.states) new.states)) f) xs qs z

BuiltParts-both : (first second : PartsBuilder) (next : ℕ) (old mid new : Draft) (qs rs : List ℕ) → BuiltParts first next old mid qs
    → BuiltParts second next mid new rs
    → BuiltParts (build_both first second) next old new (qs ++ rs)
BuiltParts-both first second next old mid new qs rs a b = record {
  extends = Extends-trans old mid new a.extends b.extends;
  images = a.images ++ b.images;
  rises = Rises-append (length old.states) (length mid.states) (length new.states) a.images b.images a.rises b.rises;
  starts_are = λ f next' base is sends.
      (let sent = Sends-append f base a.images b.images sends in
      let x = first next' base in
      let y = second next' (base + length x.states) in
      map-append f x.starts y.starts ∙ (λ i. a.starts_are f next' base is sent.0 i ++ b.starts_are f next' (base + length x.states) is
      (later f next' base is sent) i));
  each = λ f next' base is sends.
      (let sent = Sends-append f base a.images b.images sends in
      let x = first next' base in
      let y = second next' (base + length x.states) in
      AllZip-append (IsImage (Stands (length old.states) new.states) f) x.states y.states a.images b.images
      (images-first f old mid new a.extends b.extends x.states a.images (a.each f next' base is sent.0))
      (images-later f old mid new a.extends b.extends y.states b.images (b.each f next' (base + length x.states) is (later f next' base is sent))));
}
  where
    later : (f : ℕ → ℕ) (next' base : ℕ) → f next' ≡ next → Sends f base a.images × Sends f (base + length a.images) b.images
        → Sends f (base + length (first next' base).states) b.images
    later f next' base is sent =
        let l = AllZip-length (IsImage (Stands (length old.states) mid.states) f) (first next' base).states a.images (a.each f next' base is sent.0) in
        subst (λ n. Sends f (base + n) b.images) (sym l) sent.1

-- a part as the only alternative
BuiltParts-one : (b : graph.Builder) (next q : ℕ) (old new : Draft) → Built b next old new q → BuiltParts (build_one b) next old new (q ∷ [])
BuiltParts-one b next q old new built = record {
  extends = built.extends;
  images = built.images;
  rises = built.rises;
  starts_are = λ f next' base is sends. (let m = built.mirrors f next' base is sends in ap (λ x. x ∷ []) m.start_is);
  each = λ f next' base is sends. (let m = built.mirrors f next' base is sends in m.each);
}

-- a state that reads a byte
pub Built-byte : (first last next q : ℕ) (old new : Draft) → first ≤ last → last ≤ 255 → q ≡ length old.states
    → new ≡ pushed old (ByteRange first last next) → Built (graph.build_state (byte_between first last)) next old new q
Built-byte first last next q old new le small id is =
    let grown : Draft = pushed old (ByteRange first last next) in
    let l = pushed-length old (ByteRange first last next) in
    subst (Built (graph.build_state (byte_between first last)) next old new) (sym id)
    (subst (λ d. Built (graph.build_state (byte_between first last)) next old d (length old.states)) (sym is)
    (Built-state (byte_between first last) next old grown (length old.states) (Extends-pushed old (ByteRange first last next)) (omega arith) (omega arith)
    (λ f next' e.
    byte-image (Stands (length old.states) grown.states) f first last next' (length old.states) le small
    (subst (λ n. Stands (length old.states) (pushed old (ByteRange first last next)).states (length old.states) (ByteRange first last n)) (sym e)
    (Stands-pushed old (ByteRange first last next))))))

-- Alternatives that were added.

pub Adds-built : (b : graph.Builder) (next q : ℕ) (old new : Draft) (before after : List ℕ) → Built b next old new q → after ≡ before ++ q ∷ []
    → AddsParts (build_one b) next old new before after
Adds-built b next q old new before after built grown = record { added = q ∷ []; appended = grown; built = BuiltParts-one b next q old new built }

pub Adds-one : (p : PartsBuilder) (next : ℕ) (old new : Draft) (before after : List ℕ) → AddsParts p next old new before after
    → AddsAll (p ∷ []) next old new before after
Adds-one p next old new before after a = (new, after, a, (refl, refl))

pub AddsAll-append : (ps qs : List PartsBuilder) (next : ℕ) (old mid new : Draft) (before between after : List ℕ) → AddsAll ps next old mid before between
    → AddsAll qs next mid new between after
    → AddsAll (ps ++ qs) next old new before after
AddsAll-append [] qs next old mid new before between after a b = subst (λ d. AddsAll qs next d new before after) a.1
    (subst (λ s. AddsAll qs next mid new s after) a.0 b)
AddsAll-append (p ∷ ps) qs next old mid new before between after a b = (a.0, a.1, a.2, AddsAll-append ps qs next a.0 mid new a.1 between after a.3 b)

pub AddsAll-more : (ps : List PartsBuilder) (p : PartsBuilder) (next : ℕ) (old mid new : Draft) (before between after : List ℕ)
    → AddsAll ps next old mid before between → AddsParts p next mid new between after
    → AddsAll (ps ++ p ∷ []) next old new before after
AddsAll-more ps p next old mid new before between after a b = AddsAll-append ps (p ∷ []) next old mid new before between after a
    (Adds-one p next mid new between after b)

-- together
pub AddsAll-built : (ps : List PartsBuilder) (next : ℕ) (old new : Draft) (before after : List ℕ) → AddsAll ps next old new before after
    → AddsParts (build_all ps) next old new before after
AddsAll-built [] next old new before after a = record { added = []; appended = a.0 ∙ sym (append-nil before); built = BuiltParts-none next old new [] refl a.1 }
AddsAll-built (p ∷ ps) next old new before after a =
    let rest = AddsAll-built ps next a.0 new a.1 after a.3 in
    record {
      added = a.2.added ++ rest.added;
      appended = rest.appended ∙ ap (λ s. s ++ rest.added) a.2.appended ∙ append_assoc before a.2.added rest.added;
      built = BuiltParts-both p (build_all ps) next old a.0 new a.2.added rest.added a.2.built rest.built;
    }

-- what was there stays
pub AddsAll-extends : (ps : List PartsBuilder) (next : ℕ) (old new : Draft) (before after : List ℕ) → AddsAll ps next old new before after → Extends old new
AddsAll-extends ps next old new before after a = let all = AddsAll-built ps next old new before after a in all.built.extends
