-- Alternatives, one after the other, and the choice between them.
use Rattle.std.proofs.Common.{◌≡◌, ℕ, ◌+◌, List, [], ◌∷◌, ◌++◌, refl, sym, ◌∙◌, ap, subst, arith, length, get_or}
use Rattle.std.specs.Prelude.{map}
use Rattle.std.specs.List.{AllZip}
use Rattle.std.proofs.lemmas.List.{length-map}
use Rattle.rx_model.specs.Graph as graph
use Rattle.rx_nfa.specs.Draft.{Draft, pushed}
use Rattle.rx_nfa.specs.States.{Stands}
use Rattle.rx_nfa.specs.Built.{IsImage, Rises, Sends, Mirrors, Built, BuiltParts, JoinsAll}
use Rattle.rx_nfa.specs.Directed.{build_sides, join, build_joined}
use Rattle.rx_nfa.proofs.lemmas.parts.BuiltLemmas.{Rises-append, Sends-append, AllZip-length, AllZip-append, AllZip-map, IsImage-map, Stands-kept, Keeps-same, Keeps-extends, Mirrors-kept, Extends-same, Extends-trans, Extends-pushed, Stands-pushed, Stands-from, pushed-length}
use Rattle.rx_nfa.specs.declared.state.State.TheVariants.{Union}

-- the alternatives were built in this order, each to go on to `next`
abbrev pub BuiltEach : List graph.Builder → (next : ℕ) → (old new : Draft) → (starts : List ℕ) → Type 0
BuiltEach [] next old new starts = (starts ≡ []) × (new ≡ old)
BuiltEach (b ∷ bs) next old new starts = (q : ℕ) × (mid : Draft) × (rest : List ℕ) × (starts ≡ q ∷ rest) × Built b next old mid q
    × BuiltEach bs next mid new rest

-- one more
pub BuiltEach-more : (bs : List graph.Builder) (last : graph.Builder) (next : ℕ) (old mid new : Draft) (starts : List ℕ) (q : ℕ)
    → BuiltEach bs next old mid starts
    → Built last next mid new q → BuiltEach (bs ++ last ∷ []) next old new (starts ++ q ∷ [])
BuiltEach-more [] last next old mid new starts q b built = (
  q,
  new,
  [],
  ap (λ qs. qs ++ q ∷ []) b.0,
  subst (λ d. Built last next d new q) b.1 built,
  (refl, refl),
)
BuiltEach-more (x ∷ bs) last next old mid new starts q b built =
    (b.0, b.1, b.2 ++ q ∷ [], ap (λ qs. qs ++ q ∷ []) b.3, b.4, BuiltEach-more bs last next b.1 mid new b.2 q b.5 built)

pub BuiltParts-none : (next : ℕ) (old new : Draft) (starts : List ℕ) → starts ≡ [] → new ≡ old → BuiltParts graph.no_parts next old new starts
BuiltParts-none next old new starts none same =
    subst (λ d. BuiltParts graph.no_parts next old d starts) (sym same)
    (record {
      extends = Extends-same old;
      images = [];
      rises = omega arith;
      starts_are = λ f next' base is sends. sym none;
      each = λ f next' base is sends. tt;
    })

BuiltParts-beside : (first : graph.Builder) (others : (next base : ℕ) → graph.Parts) (next q : ℕ) (old mid new : Draft) (starts rest : List ℕ)
    → starts ≡ q ∷ rest
    → Built first next old mid q → BuiltParts others next mid new rest → BuiltParts (graph.build_beside first others) next old new starts
BuiltParts-beside first others next q old mid new starts rest starts_is a b = record {
  extends = Extends-trans old mid new a.extends b.extends;
  images = a.images ++ b.images;
  rises = Rises-append (length old.states) (length mid.states) (length new.states) a.images b.images a.rises b.rises;
  starts_are = λ f next' base is sends.
      (let sent = Sends-append f base a.images b.images sends in
      let m = a.mirrors f next' base is sent.0 in
      (λ i. m.start_is i ∷ b.starts_are f next' (base + length (first next' base).states) is (later f next' base is sent) i) ∙ sym starts_is);
  each = λ f next' base is sends.
      (let sent = Sends-append f base a.images b.images sends in
      let p = first next' base in
      let o = others next' (base + length p.states) in
      let m = Mirrors-kept f (length old.states) (length old.states) mid.states new.states p a.images q (omega arith)
      (Keeps-extends (length old.states) mid new b.extends) (a.mirrors f next' base is sent.0) in
      AllZip-append (IsImage (Stands (length old.states) new.states) f) p.states o.states a.images b.images m.each
      (AllZip-map (IsImage (Stands (length mid.states) new.states) f) (IsImage (Stands (length old.states) new.states) f)
      (IsImage-map (Stands (length mid.states) new.states) (Stands (length old.states) new.states)
      (Stands-kept (length old.states) (length mid.states) new.states new.states a.extends.longer (Keeps-same (length mid.states) new.states)) f)
      o.states b.images (b.each f next' (base + length p.states) is (later f next' base is sent))));
}
  where
    later : (f : ℕ → ℕ) (next' base : ℕ) → f next' ≡ next → Sends f base a.images × Sends f (base + length a.images) b.images
        → Sends f (base + length (first next' base).states) b.images
    later f next' base is sent =
        let m = a.mirrors f next' base is sent.0 in
        let l = AllZip-length (IsImage (Stands (length old.states) mid.states) f) (first next' base).states a.images m.each in
        subst (λ n. Sends f (base + n) b.images) (sym l) sent.1

BuiltParts-each : (bs : List graph.Builder) (next : ℕ) (old new : Draft) (starts : List ℕ) → BuiltEach bs next old new starts
    → BuiltParts (build_sides bs) next old new starts
BuiltParts-each [] next old new starts b = BuiltParts-none next old new starts b.0 b.1
BuiltParts-each (x ∷ bs) next old new starts b = BuiltParts-beside x (build_sides bs) next b.0 old b.1 new starts b.2 b.3 b.4
    (BuiltParts-each bs next b.1 new b.2 b.5)

-- the choice comes last
chosen-mirrors : (parts : (next base : ℕ) → graph.Parts) (next : ℕ) (old mid : Draft) (starts : List ℕ) (p : BuiltParts parts next old mid starts)
    (f : ℕ → ℕ) (next' base : ℕ) → f next' ≡ next → Sends f base (p.images ++ length mid.states ∷ [])
    → Mirrors f (length old.states) (pushed mid (Union starts)).states (graph.build_choice parts next' base) (p.images ++ length mid.states ∷ [])
    (length mid.states)
chosen-mirrors parts next old mid starts p f next' base is' sends =
    let sent = Sends-append f base p.images (length mid.states ∷ []) sends in
    let each = p.each f next' base is' sent.0 in
    let long = AllZip-length (IsImage (Stands (length old.states) mid.states) f) (parts next' base).states p.images each in
    record {
      start_is = ap (λ n. f (base + n)) long ∙ sent.1.0;
      each =
          AllZip-append (IsImage (Stands (length old.states) (pushed mid (Union starts)).states) f) (parts next' base).states
          (graph.choice (parts next' base).starts ∷ []) p.images (length mid.states ∷ [])
          (AllZip-map (IsImage (Stands (length old.states) mid.states) f) (IsImage (Stands (length old.states) (pushed mid (Union starts)).states) f)
          (IsImage-map (Stands (length old.states) mid.states) (Stands (length old.states) (pushed mid (Union starts)).states)
          (Stands-kept (length old.states) (length old.states) mid.states (pushed mid (Union starts)).states (omega arith)
          (Keeps-extends (length old.states) mid (pushed mid (Union starts)) (Extends-pushed mid (Union starts)))) f)
          (parts next' base).states p.images each) (
            subst (λ qs. Stands (length old.states) (pushed mid (Union starts)).states (length mid.states) (Union qs))
                (sym (p.starts_are f next' base is' sent.0))
                (Stands-from (length old.states) (length mid.states) (pushed mid (Union starts)).states (length mid.states) (Union starts) p.extends.longer
                (Stands-pushed mid (Union starts))),
            tt,
          );
    }

chosen-rises : (parts : (next base : ℕ) → graph.Parts) (next : ℕ) (old mid : Draft) (starts : List ℕ) (p : BuiltParts parts next old mid starts)
    → Rises (length old.states) (length (pushed mid (Union starts)).states) (p.images ++ length mid.states ∷ [])
chosen-rises parts next old mid starts p =
    let l = pushed-length mid (Union starts) in
    Rises-append (length old.states) (length mid.states) (length (pushed mid (Union starts)).states) p.images (length mid.states ∷ []) p.rises
    (omega arith, omega arith)

pub Built-chosen : (parts : (next base : ℕ) → graph.Parts) (next : ℕ) (old mid new : Draft) (starts : List ℕ) (q : ℕ) → BuiltParts parts next old mid starts
    → q ≡ length mid.states
    → new ≡ pushed mid (Union starts) → Built (graph.build_choice parts) next old new q
Built-chosen parts next old mid new starts q p id is =
    subst (Built (graph.build_choice parts) next old new) (sym id)
    (subst (λ d. Built (graph.build_choice parts) next old d (length mid.states)) (sym is)
    (record {
      extends = Extends-trans old mid (pushed mid (Union starts)) p.extends (Extends-pushed mid (Union starts));
      images = p.images ++ length mid.states ∷ [];
      rises = chosen-rises parts next old mid starts p;
      mirrors = chosen-mirrors parts next old mid starts p;
    }))

-- The only alternative, or a choice.

join-one : (f : ℕ → ℕ) (starts : List ℕ) (states : List graph.State) (base s : ℕ) → map f starts ≡ s ∷ []
    → (f (join starts states base).start ≡ s) × ((join starts states base).states ≡ states)
join-one f [] states base s e = let l = ap length e in absurd (omega arith)
join-one f (q ∷ []) states base s e = (ap (λ qs. get_or qs 0 (f q)) e, refl)
join-one f (q ∷ r ∷ qs) states base s e = let l = ap length e in absurd (omega arith)

join-choice : (starts : List ℕ) (states : List graph.State) (base : ℕ) → (length starts ≡ 1 → ⊥)
    → record { start = base + length states; states = states ++ graph.choice starts ∷ [] } ≡ join starts states base
join-choice [] states base many = refl
join-choice (q ∷ []) states base many = absurd (many refl)
join-choice (q ∷ r ∷ qs) states base many = refl

joined-one : (parts : (next base : ℕ) → graph.Parts) (next s : ℕ) (old mid : Draft) → BuiltParts parts next old mid (s ∷ [])
    → Built (build_joined parts) next old mid s
joined-one parts next s old mid p = record {
  extends = p.extends;
  images = p.images;
  rises = p.rises;
  mirrors = λ f next' base is sends.
      (let one = join-one f (parts next' base).starts (parts next' base).states base s (p.starts_are f next' base is sends) in
      record {
        start_is = one.0;
        each = subst (λ ss. AllZip (IsImage (Stands (length old.states) mid.states) f) ss p.images) (sym one.1) (p.each f next' base is sends);
      });
}

joined-choice : (parts : (next base : ℕ) → graph.Parts) (next : ℕ) (old mid : Draft) (starts : List ℕ) → (length starts ≡ 1 → ⊥)
    → BuiltParts parts next old mid starts
    → Built (build_joined parts) next old (pushed mid (Union starts)) (length mid.states)
joined-choice parts next old mid starts many p = record {
  extends = Extends-trans old mid (pushed mid (Union starts)) p.extends (Extends-pushed mid (Union starts));
  images = p.images ++ length mid.states ∷ [];
  rises = chosen-rises parts next old mid starts p;
  mirrors = λ f next' base is sends.
      (let sent = Sends-append f base p.images (length mid.states ∷ []) sends in
      let long : length (parts next' base).starts ≡ length starts =
      sym (length-map (parts next' base).starts f) ∙ ap length (p.starts_are f next' base is sent.0) in
      subst (λ part. Mirrors f (length old.states) (pushed mid (Union starts)).states part (p.images ++ length mid.states ∷ []) (length mid.states))
      (join-choice (parts next' base).starts (parts next' base).states base (λ one. many (sym long ∙ one)))
      (chosen-mirrors parts next old mid starts p f next' base is sends));
}

pub Built-joined : (parts : (next base : ℕ) → graph.Parts) (next : ℕ) (old mid new : Draft) (starts : List ℕ) (q : ℕ) → BuiltParts parts next old mid starts
    → JoinsAll mid new starts q → Built (build_joined parts) next old new q
Built-joined parts next old mid new [] q p j =
    subst (Built (build_joined parts) next old new) (sym j.0)
    (subst (λ d. Built (build_joined parts) next old d (length mid.states)) (sym j.1)
    (joined-choice parts next old mid [] (λ e. absurd (omega arith)) p))
Built-joined parts next old mid new (s ∷ []) q p j =
    subst (Built (build_joined parts) next old new) (sym j.0) (subst (λ d. Built (build_joined parts) next old d s) (sym j.1)
    (joined-one parts next s old mid p))
Built-joined parts next old mid new (s ∷ t ∷ ss) q p j =
    subst (Built (build_joined parts) next old new) (sym j.0)
    (subst (λ d. Built (build_joined parts) next old d (length mid.states)) (sym j.1)
    (joined-choice parts next old mid (s ∷ t ∷ ss) (λ e. absurd (omega arith)) p))

-- the only state
pub joins-one : (d : Draft) (starts : List ℕ) (q default : ℕ) → length starts ≡ 1 → q ≡ get_or starts 0 default → JoinsAll d d starts q
joins-one d [] q default one is = absurd (omega arith)
joins-one d (s ∷ []) q default one is = (is, refl)
joins-one d (s ∷ t ∷ ss) q default one is = absurd (omega arith)

-- a choice
pub joins-many : (old new : Draft) (starts : List ℕ) (q : ℕ) → (length starts ≡ 1 → ⊥) → q ≡ length old.states → new ≡ pushed old (Union starts)
    → JoinsAll old new starts q
joins-many old new [] q many id is = (id, is)
joins-many old new (s ∷ []) q many id is = absurd (many refl)
joins-many old new (s ∷ t ∷ ss) q many id is = (id, is)

pub Built-choice : (bs : List graph.Builder) (next : ℕ) (old mid new : Draft) (starts : List ℕ) (q : ℕ) → BuiltEach bs next old mid starts
    → q ≡ length mid.states
    → new ≡ pushed mid (Union starts) → Built (graph.build_choice (build_sides bs)) next old new q
Built-choice bs next old mid new starts q b id is = Built-chosen (build_sides bs) next old mid new starts q (BuiltParts-each bs next old mid starts b) id is
