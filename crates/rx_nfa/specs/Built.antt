-- What a compile function says of the states that it added for a part of the graph.
use Rattle.std.specs.Prelude.{◌≡◌, ℕ, suc, ◌+◌, ◌-◌, ◌*◌, ◌<◌, ◌≤◌, Bool, List, [], ◌∷◌, ◌++◌, length, map, ⊤, Option, Some, None, option_map, if◌then◌else◌, slice_get, slice_index, ◌⊎◌}
use Rattle.std.specs.List.{AllZip}
use Rattle.rx_model.specs.Expression.{Expression}
use Rattle.rx_model.specs.Text.{scalar_ranges, byte_ranges}
use Rattle.rx_model.specs.Graph as graph
use Rattle.rx_model.specs.Search.{Patterns, WhichCaptures, all, implicit, none, slot_of}
use Rattle.rx_search.specs.Look.{kind_of}
use Rattle.rx_search.specs.declared.look.Look.{Look}
use Rattle.rx_nfa.specs.Ranges.{StaysBelow}
use Rattle.rx_nfa.specs.Row.{HasReader}
use Rattle.rx_nfa.specs.States.{Stands}
use Rattle.rx_nfa.specs.Trie.{IsClass, IsByteClass}
use Rattle.rx_nfa.specs.Draft.{Draft, Extends, pushed}
use Rattle.rx_nfa.specs.declared.state.State.{State}
use Rattle.rx_nfa.specs.declared.state.State.TheVariants.{ByteRange, Look as Looks, Union, Capture, Match}

-- byte by byte from state q to state r
abbrev pub IsChain : (IsAt : ℕ → State → Type 0) → ℕ → List ℕ → ℕ → Type 0
IsChain IsAt q [] r = q ≡ r
IsChain IsAt q (b ∷ bytes) r = (next : ℕ) × IsAt q (ByteRange b b next) × IsChain IsAt next bytes r

-- State q does what the state of the graph does, where f sends the states of the graph to their images.
abbrev pub IsImage : (IsAt : ℕ → State → Type 0) → (f : ℕ → ℕ) → graph.State → ℕ → Type 0
IsImage IsAt f (graph.text [] next) q = IsAt q (Union (f next ∷ []))
IsImage IsAt f (graph.text (b ∷ bytes) next) q = IsChain IsAt q (b ∷ bytes) (f next)
IsImage IsAt f (graph.set (scalar_ranges ranges) next) q = IsClass (HasReader IsAt) (f next) ranges q
IsImage IsAt f (graph.set (byte_ranges ranges) next) q = StaysBelow 255 ranges × IsByteClass (HasReader IsAt) (f next) ranges q
IsImage IsAt f (graph.assertion kind next) q = (look : Look) × (kind_of look ≡ kind) × IsAt q (Looks look (f next))
IsImage IsAt f (graph.slot number next) q = (pattern : ℕ) × IsAt q (Capture (f next) pattern number)
IsImage IsAt f (graph.choice states) q = IsAt q (Union (map f states))
IsImage IsAt f (graph.accept pattern) q = IsAt q (Match pattern)

-- the numbers rise from `low` on, below `high`
abbrev pub Rises : (low high : ℕ) → List ℕ → Type 0
Rises low high [] = low ≤ high
Rises low high (q ∷ qs) = (low ≤ q) × Rises (suc q) high qs

-- f sends the numbers from the base on to these
abbrev pub Sends : (f : ℕ → ℕ) → (base : ℕ) → List ℕ → Type 0
Sends f base [] = ⊤
Sends f base (q ∷ qs) = (f base ≡ q) × Sends f (suc base) qs

-- f sends the start of the part to `start`, and its states to images among the states from `low` on
pub record Mirrors (f : ℕ → ℕ) (low : ℕ) (states : List State) (part : graph.Part) (images : List ℕ) (start : ℕ) : Type 0 where
  pub start_is : f part.start ≡ start
  pub each : AllZip (IsImage (Stands low states) f) part.states images

-- The states after `old` are those of the part, which goes on to state `next`. Each state of the part has its image
-- among them, whatever numbers the graph gives to the part and to its next state.
pub record Built (part : graph.Builder) (next : ℕ) (old new : Draft) (start : ℕ) : Type 0 where
  pub extends : Extends old new
  pub images : List ℕ
  pub rises : Rises (length old.states) (length new.states) images
  pub mirrors : (f : ℕ → ℕ) (next' base : ℕ) → f next' ≡ next → Sends f base images
      → Mirrors f (length old.states) new.states (part next' base) images start

-- The same of alternatives, which start at these states.
pub record BuiltParts (parts : (next base : ℕ) → graph.Parts) (next : ℕ) (old new : Draft) (starts : List ℕ) : Type 0 where
  pub extends : Extends old new
  pub images : List ℕ
  pub rises : Rises (length old.states) (length new.states) images
  pub starts_are : (f : ℕ → ℕ) (next' base : ℕ) → f next' ≡ next → Sends f base images → map f (parts next' base).starts ≡ starts
  pub each : (f : ℕ → ℕ) (next' base : ℕ) → f next' ≡ next → Sends f base images
      → AllZip (IsImage (Stands (length old.states) new.states) f) (parts next' base).states images

-- the alternatives were built, and their starts were appended
pub record AddsParts (parts : (next base : ℕ) → graph.Parts) (next : ℕ) (old new : Draft) (before after : List ℕ) : Type 0 where
  pub added : List ℕ
  pub appended : after ≡ before ++ added
  pub built : BuiltParts parts next old new added

-- those of each, in turn
abbrev pub AddsAll : List ((next base : ℕ) → graph.Parts) → (next : ℕ) → (old new : Draft) → (before after : List ℕ) → Type 0
AddsAll [] next old new before after = (after ≡ before) × (new ≡ old)
AddsAll (p ∷ ps) next old new before after = (mid : Draft) × (between : List ℕ) × AddsParts p next old mid before between
    × AddsAll ps next mid new between after

-- the body and the exit of a choice, the preferred one first
abbrev pub ways : (greedy : Bool) → (body exit : ℕ) → List ℕ
ways greedy body exit = if greedy then body ∷ exit ∷ [] else exit ∷ body ∷ []

-- the first slot of each group; `first` is that of group 1, if groups are told
abbrev pub slot_from : (first : Option ℕ) → ℕ → Option ℕ
slot_from None group = None
slot_from (Some first) group = Some (first + 2 * (group - 1))

-- the state that writes a slot, or one that just goes on where there is none
abbrev pub bound : Option ℕ → (next : ℕ) → graph.State
bound None next = graph.choice (next ∷ [])
bound (Some number) next = graph.slot number next

-- the part between its two slots, the first of which is this one; where there is none, between states that just go on
abbrev pub build_bounds : Option ℕ → graph.Builder → graph.Builder
build_bounds slot body = graph.build_then (graph.build_state (bound slot)) (graph.build_then body (graph.build_state (bound (option_map suc slot))))

-- As the graph of pattern p, whose expression has this part, with the slots of its whole match from `whole` on, if there
-- are any.
unfoldable pub compiled_pattern : (whole : Option ℕ) → graph.Builder → (p : ℕ) → graph.Part
compiled_pattern whole body p = graph.build_then (build_bounds whole body) (graph.build_state (λ next. graph.accept p)) 0 0

-- the first slot of the whole match of pattern p
abbrev pub whole_slot : WhichCaptures → ℕ → Option ℕ
whole_slot all p = Some (2 * p)
whole_slot implicit p = Some (2 * p)
whole_slot none p = None

-- the part that stands for pattern p
abbrev pub part_of : Patterns → ℕ → Expression → graph.Part
part_of r p h = compiled_pattern (whole_slot r.which_captures p) (graph.build (slot_of r p) h) p

-- The part stands among the states, and starts at `start`.
pub record HasPart (states : List State) (part : graph.Part) (start : ℕ) : Type 0 where
  pub images : List ℕ
  pub rises : Rises 0 (length states) images
  pub mirrors : (f : ℕ → ℕ) → Sends f 0 images → Mirrors f 0 states part images start

-- The first n patterns stand among the states, each by its part, from its start on.
abbrev pub HasParts : List State → (ℕ → Expression → graph.Part) → List Expression → (n : ℕ) → (starts : List ℕ) → Type 0
HasParts states part hs n starts = (p : ℕ) (h : Expression) → p < n → slice_get hs p ≡ Some h → HasPart states (part p h) (slice_index starts p)

abbrev pub HasPatterns : List State → Patterns → (n : ℕ) → (starts : List ℕ) → Type 0
HasPatterns states r n starts = HasParts states (part_of r) r.expressions n starts

-- State q starts the runs from all of these starts, the first preferred: it is the only one of them, or a choice between
-- them, which was added.
abbrev pub StartsAll : (old new : Draft) → (starts : List ℕ) → (q : ℕ) → Type 0
StartsAll old new starts q = ((starts ≡ q ∷ []) × (new ≡ old)) ⊎ ((q ≡ length old.states) × (new ≡ pushed old (Union starts)))

-- State q goes on to these states: it is the only one of them, or else a choice between them, which was added.
abbrev pub JoinsAll : (old new : Draft) → (starts : List ℕ) → (q : ℕ) → Type 0
JoinsAll old new [] q = (q ≡ length old.states) × (new ≡ pushed old (Union []))
JoinsAll old new (s ∷ []) q = (q ≡ s) × (new ≡ old)
JoinsAll old new (s ∷ t ∷ ss) q = (q ≡ length old.states) × (new ≡ pushed old (Union (s ∷ t ∷ ss)))
