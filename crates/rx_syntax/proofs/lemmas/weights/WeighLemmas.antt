-- What is weighed over a syntax is the weight of what the syntax stands for.
use Rattle.std.proofs.Common.{◌≡◌, ℕ, ◌+◌, ◌*◌, ◌<◌, ◌≤◌, Bool, true, false, List, [], ◌∷◌, ◌++◌, length, take, drop, get_or, flat_map, map, refl, sym, ap, ◌∙◌, subst, arith, append_assoc, append-nil}
use Rattle.std.specs.Prelude.{min, Option, Some, None, Result, Ok, Err, IfSome, if◌then◌else◌, nat_le, encode_utf8}
use Rattle.std.specs.Int.NonZero.{non_zero_usize_get}
use Rattle.std.proofs.lemmas.List.{take_more, map-append}
use Rattle.std.proofs.lemmas.Grind.{flat_map-append}
use lib.Utf8.{encodes}
use Rattle.rx_model.specs.Text.{Class, scalar_ranges, byte_ranges}
use Rattle.rx_model.specs.Look.{Look}
use Rattle.rx_model.specs.Expression.{Expression, empty, literal, class, look, repetition, capture, concat, alternation}
use Rattle.rx_model.specs.Search.{greatest_group, groups_before}
use Rattle.rx_class.specs.Bytes.{byte_folded}
use Rattle.rx_class.specs.Folding.{folded}
use Rattle.rx_hir.specs.Cost.{accounted_states, nfa_states, slots_of, capped}
use Rattle.rx_hir.specs.Normal.{fail, set_of, only_encoding, literal_or, class_of, literal_of, repetition_of, parts_of, concat_of, alternatives_of, choice_of, alternation_of}
use Rattle.rx_reader.specs.Reading.{◌>>=◌}
use Rattle.rx_reader.specs.Refusal.{Refuses}
use Rattle.rx_reader.specs.Syntax.{Syntax, repeated as copied, group, cat, alt, syntaxes}
use Rattle.rx_reader.specs.AstViews.{expanded, only_branch as written_branch}
use Rattle.rx_reader.specs.declared.config.Config.{Config}
use Rattle.rx_reader.specs.declared.flags.Flags.{Flags}
use Rattle.rx_reader.specs.declared.piece.Piece.{Piece}
use Rattle.rx_reader.specs.declared.atom.Atom.{Atom}
use Rattle.rx_reader.specs.declared.group_kind.GroupKind.{GroupKind}
use Rattle.rx_reader.specs.declared.group_kind.GroupKind.TheVariants.{NonCapturing, CaptureIndex, CaptureName}
use Rattle.rx_reader.specs.declared.error.ParseError.{ParseError}
use Rattle.rx_reader.specs.declared.error.ParseError.TheVariants.{Syntax as Refused, Memory}
use Rattle.rx_reader.specs.declared.error.SyntaxError.{SyntaxError}
use Rattle.rx_reader.specs.declared.ast.Item.{Item}
use Rattle.rx_reader.specs.declared.ast.Item.TheVariants.{Literals, One}
use Rattle.rx_syntax.specs.Refused.{gathered, before}
use Rattle.rx_syntax.specs.Patterns.{all_of}
use Rattle.rx_syntax.specs.Literals.{in_either_case, character}
use Rattle.rx_syntax.specs.Translation.{atom_of, group_of, translated}
use Rattle.rx_syntax.specs.ItemViews.{run_parts, item_parts, all_parts, branch_parts, row_of, choice_of as choice_of_branches, only_branch}
use Rattle.rx_syntax.specs.Weight.{weight_of, followed, either_of, choice_weight, repeated, grouped, IsAtom, IsNormal, IsWeightOf, Weighs, AreWeightsOf}
use Rattle.rx_syntax.specs.Row.{IsRow, IsChoice, IsChoiceSoFar}
use Rattle.rx_syntax.specs.declared.weight.Weight.{Weight}
use Rattle.rx_syntax.specs.declared.weight.Weights.{Weights}
use Rattle.rx_syntax.proofs.lemmas.translation.AtomLemmas.{character-is, atom-is}
use Rattle.rx_syntax.proofs.lemmas.translation.GatherLemmas.{before-none, gathered-step, gathered-refused, gathered-end}
use Rattle.rx_syntax.proofs.lemmas.patterns.PatternsLemmas.{Gathers, Gathers-begun, Gathers-more, Gathers-over}
use Rattle.rx_syntax.proofs.lemmas.patterns.RefusalLemmas.{refuses-then}
use Rattle.rx_syntax.proofs.lemmas.translation.TranslationLemmas.{concat-items, branches-same, branch-items}
use Rattle.rx_syntax.proofs.lemmas.weights.WeightLemmas.{row-sequence, row-append, row-parts, choice-append, choice-alternatives, choice-of, repeated-weight, repetition-normal, captured-weight}

-- Atoms.

set-atom : (members : Class) → IsAtom (set_of members)
set-atom (scalar_ranges []) = tt
set-atom (scalar_ranges (r ∷ rs)) = tt
set-atom (byte_ranges rs) = tt

or-atom : (h : Expression) (encoding : Option (List ℕ)) → IsAtom h → IsAtom (literal_or h encoding)
or-atom h None is = is
or-atom h (Some bytes) is = tt

class-atom : (members : Class) → IsAtom (class_of members)
class-atom members = or-atom (set_of members) (only_encoding members) (set-atom members)

pub literal-atom : (bytes : List ℕ) → IsAtom (literal_of bytes)
literal-atom [] = tt
literal-atom (b ∷ bytes) = tt

look-atom : (kind : Look) → IsAtom (look kind)
look-atom kind = tt

pub character-atom : (flags : Flags) (c : ℕ) → IsAtom (character flags c)
character-atom flags c = character-is IsAtom class-atom literal-atom look-atom flags c

pub atom-atom : (config : Config) (flags : Flags) (piece : Piece) (a : Atom) (h : Expression) → atom_of config flags piece a ≡ Ok h → IsAtom h
atom-atom config flags piece a h is = (atom-is IsAtom class-atom literal-atom look-atom config flags piece a).given h is

one-of : (b : Bool) (x y : Expression) → IsAtom x → IsAtom y → IsAtom (if b then x else y)
one-of true x y p q = p
one-of false x y p q = q

pub folded-atom : (flags : Flags) (c : ℕ) → IsAtom (in_either_case flags c)
folded-atom flags c =
    one-of flags.unicode _ _ (class-atom (scalar_ranges (folded ((c, c) ∷ []))))
    (one-of (nat_le c 0x7F) _ _ (class-atom (byte_ranges (byte_folded ((c, c) ∷ [])))) (literal-atom (encode_utf8 c)))

pub atom-normal : (h : Expression) → IsAtom h → IsNormal h
atom-normal empty is = tt
atom-normal (literal bytes) is = tt
atom-normal (class members) is = tt
atom-normal (look kind) is = tt
atom-normal (repetition least greatest greedy sub) is = tt
atom-normal (capture number name sub) is = tt
atom-normal (concat subs) is = absurd is
atom-normal (alternation subs) is = absurd is

pub atom-no_group : (h : Expression) → IsAtom h → 0 ≡ greatest_group h
unfolding greatest_group
atom-no_group empty is = refl
atom-no_group (literal bytes) is = refl
atom-no_group (class members) is = refl
atom-no_group (look kind) is = refl
atom-no_group (repetition least greatest greedy sub) is = absurd is
atom-no_group (capture number name sub) is = absurd is
atom-no_group (concat subs) is = absurd is
atom-no_group (alternation subs) is = absurd is

pub weighs-atom : (asked : Result Expression SyntaxError) (h : Expression) (w : Weight) → asked ≡ Ok h → IsAtom h → w ≡ weight_of h → IsWeightOf asked w
weighs-atom asked h w is atom weight = record { expression = h; is = is; weight = weight; normal = atom-normal h atom }

-- Copies and groups.

pub weighs-copies : (asked : Result Expression SyntaxError) (w : Weight) (least : ℕ) (greatest : Option ℕ) (greedy : Bool) → IsWeightOf asked w
    → IfSome greatest (λ m. least ≤ m)
    → IsWeightOf (asked >>= λ e. Ok (repetition_of least greatest greedy e)) (repeated least greatest w)
weighs-copies asked w least greatest greedy own order = record {
  expression = repetition_of least greatest greedy own.expression;
  is = ap (λ r. r >>= λ e. Ok (repetition_of least greatest greedy e)) own.is;
  weight = ap (repeated least greatest) own.weight ∙ sym (repeated-weight least greatest greedy own.expression order);
  normal = repetition-normal least greatest greedy own.expression own.normal;
}

group-weight : (kind : GroupKind) (h : Expression) → weight_of (group_of kind h) ≡ grouped kind (weight_of h)
group-weight NonCapturing h = refl
group-weight (CaptureIndex number) h = captured-weight (non_zero_usize_get number) None h
group-weight (CaptureName number name) h = captured-weight (non_zero_usize_get number) (Some (encodes name)) h

group-normal : (kind : GroupKind) (h : Expression) → IsNormal h → IsNormal (group_of kind h)
group-normal NonCapturing h normal = normal
group-normal (CaptureIndex number) h normal = tt
group-normal (CaptureName number name) h normal = tt

pub weighs-group : (asked : Result Expression SyntaxError) (w : Weight) (kind : GroupKind) → IsWeightOf asked w
    → IsWeightOf (asked >>= λ e. Ok (group_of kind e)) (grouped kind w)
weighs-group asked w kind own = record {
  expression = group_of kind own.expression;
  is = ap (λ r. r >>= λ e. Ok (group_of kind e)) own.is;
  weight = ap (grouped kind) own.weight ∙ sym (group-weight kind own.expression);
  normal = group-normal kind own.expression own.normal;
}

-- Characters in a row.

-- the row, and one part more
pub row-more : (ps : List Expression) (h : Expression) (w v : Weight) → IsNormal h → v ≡ weight_of h → IsRow ps w
    → IsRow (ps ++ flat_map parts_of (h ∷ [])) (followed w v)
row-more ps h w v normal is row =
    let alone : parts_of h ≡ flat_map parts_of (h ∷ []) = sym (append-nil (parts_of h)) in
    let own : IsRow (parts_of h) v = subst (λ x. IsRow (parts_of h) x) (sym is) (row-parts h normal) in
    subst (λ qs. IsRow (ps ++ qs) (followed w v)) alone (row-append ps (parts_of h) w v row own)

pub run-folded : (flags : Flags) (run : List ℕ) → flags.case_insensitive ≡ true → run_parts flags run ≡ map (in_either_case flags) run
run-folded flags run on = ap (λ b. if b then map (in_either_case flags) run else literal_of (encodes run) ∷ []) on

pub run-plain : (flags : Flags) (run : List ℕ) → flags.case_insensitive ≡ false → run_parts flags run ≡ literal_of (encodes run) ∷ []
run-plain flags run off = ap (λ b. if b then map (in_either_case flags) run else literal_of (encodes run) ∷ []) off

pub run-more : (f : ℕ → Expression) (run : List ℕ) (k : ℕ) (ps : List Expression) (w v : Weight) (c d : ℕ) → k < length run → c ≡ get_or run k d
    → IsNormal (f c) → v ≡ weight_of (f c)
    → IsRow (ps ++ flat_map parts_of (map f (take k run))) w → IsRow (ps ++ flat_map parts_of (map f (take (k + 1) run))) (followed w v)
run-more f run k ps w v c d lt at normal is row =
    let so_far = flat_map parts_of (map f (take k run)) in
    let longer : take (k + 1) run ≡ take k run ++ c ∷ [] = take_more run k d lt ∙ ap (λ x. take k run ++ x ∷ []) (sym at) in
    let flat : flat_map parts_of (map f (take (k + 1) run)) ≡ so_far ++ flat_map parts_of (f c ∷ []) =
    ap (λ xs. flat_map parts_of (map f xs)) longer ∙ ap (flat_map parts_of) (map-append f (take k run) (c ∷ []))
    ∙ flat_map-append parts_of (map f (take k run)) (f c ∷ []) in
    let more = row-more (ps ++ so_far) (f c) w v normal is row in
    subst (λ qs. IsRow qs (followed w v)) (append_assoc ps so_far (flat_map parts_of (f c ∷ [])) ∙ ap (λ qs. ps ++ qs) (sym flat)) more

-- Items.

pub record ItemsWeighed (config : Config) (items : List Item) (k : ℕ) (w : Weight) : Type 0 where
  pub parts : List Expression
  pub whole : before parts (all_parts config (drop k items)) ≡ all_parts config items
  pub row : IsRow (flat_map parts_of parts) w

pub items-begun : (config : Config) (items : List Item) (w : Weight) → w ≡ weight_of empty → ItemsWeighed config items 0 w
items-begun config items w is = record { parts = []; whole = before-none (all_parts config items); row = is }

items-more : (config : Config) (items : List Item) (k : ℕ) (item : Item) (w w' : Weight) (first : List Expression) → ItemsWeighed config items k w
    → k < length items
    → item ≡ get_or items k item → item_parts config item ≡ Ok first → ((ps : List Expression) → IsRow ps w → IsRow (ps ++ flat_map parts_of first) w')
    → ItemsWeighed config items (k + 1) w'
items-more config items k item w w' first so lt at gives more = record {
  parts = so.parts ++ first;
  whole = gathered-step (item_parts config) items k item item so.parts first (so.parts ++ first) lt at gives refl ∙ so.whole;
  row = subst (λ ps. IsRow ps w') (sym (flat_map-append parts_of so.parts first)) (more (flat_map parts_of so.parts) so.row);
}

pub items-run : (config : Config) (items : List Item) (k : ℕ) (item : Item) (w w' : Weight) (flags : Flags) (run : _) → ItemsWeighed config items k w
    → k < length items
    → item ≡ get_or items k item → item ≡ Literals flags run
    → ((ps : List Expression) → IsRow ps w → IsRow (ps ++ flat_map parts_of (run_parts flags run.items)) w')
    → ItemsWeighed config items (k + 1) w'
items-run config items k item w w' flags run so lt at is more =
    items-more config items k item w w' (run_parts flags run.items) so lt at (ap (item_parts config) is) more

pub items-one : (config : Config) (items : List Item) (k : ℕ) (item : Item) (w v : Weight) (s : Syntax) → ItemsWeighed config items k w → k < length items
    → item ≡ get_or items k item → item ≡ One s → IsWeightOf (translated config s) v → ItemsWeighed config items (k + 1) (followed w v)
items-one config items k item w v s so lt at is own =
    let gives : item_parts config item ≡ Ok (own.expression ∷ []) = ap (item_parts config) is ∙ ap (λ r. r >>= λ e. Ok (e ∷ [])) own.is in
    items-more config items k item w (followed w v) (own.expression ∷ []) so lt at gives (λ ps row. row-more ps own.expression w v own.normal own.weight row)

pub items-refused : (config : Config) (items : List Item) (k : ℕ) (item : Item) (w : Weight) (s : Syntax) (e : ParseError) → ItemsWeighed config items k w
    → k < length items
    → item ≡ get_or items k item → item ≡ One s → Refuses e (translated config s) → Refuses e (all_parts config items >>= λ es. Ok (concat_of es))
items-refused config items k item w s (Refused x) so lt at is refused =
    let own : item_parts config item ≡ Err x = ap (item_parts config) is ∙ ap (λ r. r >>= λ e. Ok (e ∷ [])) refused in
    ap (λ r. r >>= λ es. Ok (concat_of es)) (sym so.whole ∙ gathered-refused (item_parts config) items k item item so.parts x lt at own)
items-refused config items k item w s Memory so lt at is refused = tt

pub items-end : (config : Config) (items : List Item) (k : ℕ) (w : Weight) → ItemsWeighed config items k w → length items ≤ k
    → IsWeightOf (all_parts config items >>= λ es. Ok (concat_of es)) w
items-end config items k w so le =
    let whole = row-sequence (flat_map parts_of so.parts) w so.row in
    record {
      expression = concat_of so.parts;
      is = ap (λ r. r >>= λ es. Ok (concat_of es)) (sym so.whole ∙ gathered-end (item_parts config) items k so.parts le);
      weight = whole.0;
      normal = whole.1;
    }

-- Branches.

pub record BranchesWeighed (config : Config) (branches : List Syntax) (k : ℕ) (w : Option Weight) : Type 0 where
  pub parts : List Expression
  pub whole : before parts (gathered (branch_parts config) (drop k branches)) ≡ gathered (branch_parts config) branches
  pub choice : IsChoiceSoFar (flat_map alternatives_of parts) w

pub branches-begun : (config : Config) (branches : List Syntax) → BranchesWeighed config branches 0 None
branches-begun config branches = record { parts = []; whole = before-none (gathered (branch_parts config) branches); choice = refl }

choice-more : (hs : List Expression) (h : Expression) (w : Option Weight) (v : Weight) → IsNormal h → v ≡ weight_of h → IsChoiceSoFar hs w
    → IsChoice (hs ++ flat_map alternatives_of (h ∷ [])) (either_of w v)
choice-more hs h w v normal is so =
    let alone : alternatives_of h ≡ flat_map alternatives_of (h ∷ []) = sym (append-nil (alternatives_of h)) in
    let own : IsChoice (alternatives_of h) v = subst (λ x. IsChoice (alternatives_of h) x) (sym is) (choice-alternatives h normal) in
    subst (λ qs. IsChoice (hs ++ qs) (either_of w v)) alone (onto hs w so (alternatives_of h) own)
  where
    onto : (hs : List Expression) (w : Option Weight) → IsChoiceSoFar hs w → (qs : List Expression) → IsChoice qs v → IsChoice (hs ++ qs) (either_of w v)
    onto hs None so qs own = subst (λ xs. IsChoice (xs ++ qs) v) (sym so) own
    onto hs (Some u) so qs own = choice-append hs qs u v so own

pub branches-more : (config : Config) (branches : List Syntax) (k : ℕ) (s : Syntax) (w : Option Weight) (v : Weight) → BranchesWeighed config branches k w
    → k < length branches
    → s ≡ get_or branches k s → IsWeightOf (translated config s) v → BranchesWeighed config branches (k + 1) (Some (either_of w v))
branches-more config branches k s w v so lt at own = record {
  parts = so.parts ++ own.expression ∷ [];
  whole =
      gathered-step (branch_parts config) branches k s s so.parts (own.expression ∷ []) (so.parts ++ own.expression ∷ []) lt at
      (ap (λ r. r >>= λ e. Ok (e ∷ [])) own.is) refl
      ∙ so.whole;
  choice =
      subst (λ hs. IsChoice hs (either_of w v)) (sym (flat_map-append alternatives_of so.parts (own.expression ∷ [])))
      (choice-more (flat_map alternatives_of so.parts) own.expression w v own.normal own.weight so.choice);
}

pub branches-refused : (config : Config) (branches : List Syntax) (k : ℕ) (s : Syntax) (w : Option Weight) (e : ParseError)
    → BranchesWeighed config branches k w → k < length branches
    → s ≡ get_or branches k s → Refuses e (translated config s) → Refuses e (gathered (branch_parts config) branches >>= λ es. Ok (alternation_of es))
branches-refused config branches k s w (Refused x) so lt at refused =
    ap (λ r. r >>= λ es. Ok (alternation_of es))
    (sym so.whole ∙ gathered-refused (branch_parts config) branches k s s so.parts x lt at (ap (λ r. r >>= λ e. Ok (e ∷ [])) refused))
branches-refused config branches k s w Memory so lt at refused = tt

choice-end : (hs : List Expression) (w : Option Weight) → IsChoiceSoFar hs w → (choice_weight w ≡ weight_of (choice_of hs)) × IsNormal (choice_of hs)
choice-end hs None so =
    let P : List Expression → Type 0 = λ xs. (weight_of fail ≡ weight_of (choice_of xs)) × IsNormal (choice_of xs) in
    subst P (sym so) (refl, tt)
choice-end hs (Some w) so = choice-of hs w so

pub branches-end : (config : Config) (branches : List Syntax) (k : ℕ) (w : Option Weight) → BranchesWeighed config branches k w → length branches ≤ k
    → IsWeightOf (gathered (branch_parts config) branches >>= λ es. Ok (alternation_of es)) (choice_weight w)
branches-end config branches k w so le =
    let whole = choice-end (flat_map alternatives_of so.parts) w so.choice in
    record {
      expression = alternation_of so.parts;
      is = ap (λ r. r >>= λ es. Ok (alternation_of es)) (sym so.whole ∙ gathered-end (branch_parts config) branches k so.parts le);
      weight = whole.0;
      normal = whole.1;
    }

-- A syntax and its parts.

pub repetition-is : (config : Config) (min : ℕ) (max : Option ℕ) (greedy : Bool) (shown sub s : Syntax) (w : Weight) → shown ≡ sub
    → copied min max greedy sub ≡ s
    → IsWeightOf (translated config shown >>= λ e. Ok (repetition_of min max greedy e)) w → IsWeightOf (translated config s) w
repetition-is config min max greedy shown sub s w same is own =
    let e : (translated config shown >>= λ e. Ok (repetition_of min max greedy e)) ≡ translated config s =
    ap (λ x. translated config (copied min max greedy x)) same ∙ ap (translated config) is in
    subst (λ r. IsWeightOf r w) e own

pub group-is : (config : Config) (kind : GroupKind) (shown sub s : Syntax) (w : Weight) → shown ≡ sub → group kind sub ≡ s
    → IsWeightOf (translated config shown >>= λ e. Ok (group_of kind e)) w → IsWeightOf (translated config s) w
group-is config kind shown sub s w same is own =
    let e : (translated config shown >>= λ e. Ok (group_of kind e)) ≡ translated config s =
    ap (λ x. translated config (group kind x)) same ∙ ap (translated config) is in
    subst (λ r. IsWeightOf r w) e own

pub row-is : (config : Config) (items shown : List Item) (s : Syntax) → shown ≡ items → cat (syntaxes (expanded items)) ≡ s
    → row_of config shown ≡ translated config s
row-is config items shown s same is = ap (row_of config) same ∙ concat-items config items ∙ ap (translated config) is

pub choice-is : (config : Config) (branches shown : List Syntax) (s : Syntax) → shown ≡ branches → alt (syntaxes branches) ≡ s
    → choice_of_branches config shown ≡ translated config s
choice-is config branches shown s same is =
    ap (choice_of_branches config) same ∙ ap (λ r. r >>= λ es. Ok (alternation_of es)) (branches-same config branches) ∙ ap (translated config) is

row-only : (r : Result (List Expression) SyntaxError)
    → ((r >>= λ es. Ok (concat_of es)) >>= λ e. Ok (alternation_of (e ∷ []))) ≡ (r >>= λ es. Ok (only_branch es))
row-only (Ok es) = refl
row-only (Err e) = refl

pub branch-is : (config : Config) (items shown : List Item) (s : Syntax) → shown ≡ items → written_branch items ≡ s
    → (row_of config shown >>= λ e. Ok (alternation_of (e ∷ []))) ≡ translated config s
branch-is config items shown s same is =
    ap (λ xs. row_of config xs >>= λ e. Ok (alternation_of (e ∷ []))) same ∙ row-only (all_parts config items) ∙ branch-items config items
    ∙ ap (translated config) is

-- an alternation of one branch weighs what the branch weighs
pub only-weighs : (result : Result Weight ParseError) (asked whole : Result Expression SyntaxError) → (asked >>= λ e. Ok (alternation_of (e ∷ []))) ≡ whole
    → Weighs result asked
    → Weighs result whole
only-weighs (Ok w) asked whole same own =
    let h = own.expression in
    let alone : alternatives_of h ≡ flat_map alternatives_of (h ∷ []) = sym (append-nil (alternatives_of h)) in
    let chosen =
    choice-of (flat_map alternatives_of (h ∷ [])) (weight_of h) (subst (λ hs. IsChoice hs (weight_of h)) alone (choice-alternatives h own.normal)) in
    record {
      expression = alternation_of (h ∷ []);
      is = sym same ∙ ap (λ r. r >>= λ e. Ok (alternation_of (e ∷ []))) own.is;
      weight = own.weight ∙ chosen.0;
      normal = chosen.1;
    }
only-weighs (Err e) asked whole same refused = refuses-then e asked (λ h. Ok (alternation_of (h ∷ []))) whole same refused

-- Several patterns.

-- one for each pattern, and one for each group that one names
abbrev halves : List Expression → ℕ
halves [] = 0
halves (h ∷ hs) = 1 + greatest_group h + halves hs

halves-groups : (hs : List Expression) → halves hs ≡ length hs + groups_before (length hs) hs
halves-groups [] = omega arith
halves-groups (h ∷ hs) = omega (arith, halves-groups hs)

halves-more : (hs : List Expression) (h : Expression) → halves (hs ++ h ∷ []) ≡ halves hs + 1 + greatest_group h
halves-more [] h = omega arith
halves-more (g ∷ hs) h = omega (arith, halves-more hs h)

states-more : (hs : List Expression) (h : Expression) → nfa_states (hs ++ h ∷ []) ≡ nfa_states hs + accounted_states h + 3
states-more [] h = omega arith
states-more (g ∷ hs) h = omega (arith, states-more hs h)

pub record AllWeighed (rs : List (Result Expression SyntaxError)) (k : ℕ) (groups states : ℕ) : Type 0 where
  pub expressions : List Expression
  pub gathers : Gathers rs k expressions
  pub groups_are : groups ≡ capped (halves expressions)
  pub states_are : states ≡ capped (nfa_states expressions)

pub all-begun : (rs : List (Result Expression SyntaxError)) → AllWeighed rs 0 0 4
all-begun rs = record { expressions = []; gathers = Gathers-begun rs [] refl; groups_are = refl; states_are = refl }

pub all-more : (rs : List (Result Expression SyntaxError)) (k groups states groups' states' : ℕ) (r : Result Expression SyntaxError) (w : Weight)
    → AllWeighed rs k groups states → k < length rs
    → get_or rs k r ≡ r → IsWeightOf r w → groups' ≡ capped (capped (groups + 1) + w.greatest_group) → states' ≡ capped (capped (states + w.states) + 3)
    → AllWeighed rs (k + 1) groups' states'
all-more rs k groups states groups' states' r w so lt at own more_groups more_states =
    let hs = so.expressions in
    let h = own.expression in
    let g : w.greatest_group ≡ greatest_group h = ap (λ x. x.greatest_group) own.weight in
    let s : w.states ≡ capped (accounted_states h) = ap (λ x. x.states) own.weight in
    record {
      expressions = hs ++ h ∷ [];
      gathers = Gathers-more rs k hs (hs ++ h ∷ []) r h so.gathers lt at own.is refl;
      groups_are = omega (arith, halves-more hs h, so.groups_are);
      states_are = omega (arith, states-more hs h, so.states_are);
    }

pub all-end : (rs : List (Result Expression SyntaxError)) (k groups states : ℕ) (w : Weights) → AllWeighed rs k groups states → length rs ≤ k → k ≤ length rs
    → w.slots ≡ capped (groups * 2) → w.states ≡ states → AreWeightsOf (all_of 0 rs) (length rs) w
all-end rs k groups states w so le ge slots own =
    let hs = so.expressions in
    let count : length hs ≡ length rs = omega (arith, so.gathers.count) in
    let s : w.slots ≡ capped (slots_of hs) = omega (arith, halves-groups hs, so.groups_are) in
    let n : w.states ≡ capped (nfa_states hs) = own ∙ so.states_are in
    record { expressions = hs; are = Gathers-over rs k hs so.gathers le; counted = count; weights = λ i. record { slots = s i; states = n i } }
