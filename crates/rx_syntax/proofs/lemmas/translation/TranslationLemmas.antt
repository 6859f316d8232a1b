-- A run of characters is translated as its characters are, and a list as its parts are.
use Rattle.std.proofs.Common.{◌≡◌, ℕ, Bool, true, false, List, [], ◌∷◌, ◌++◌, refl, ◌∙◌, ap, sym, append_assoc}
use Rattle.std.proofs.lemmas.List.{append-nil}
use Rattle.std.specs.Prelude.{map, flat_map, encode_utf8, Result, Ok, Err, if◌then◌else◌}
use lib.Utf8.{encodes}
use Rattle.rx_model.specs.Expression.{Expression, literal}
use Rattle.rx_hir.specs.Normal.{literal_of, parts_of, join_literals, joined, sequence_of, concat_of, alternation_of}
use Rattle.rx_reader.specs.Reading.{◌>>=◌}
use Rattle.rx_reader.specs.Syntax.{Syntax, literal as written, syntaxes}
use Rattle.rx_reader.specs.AstViews.{expanded, only_branch as written_branch}
use Rattle.rx_reader.specs.declared.config.Config.{Config}
use Rattle.rx_reader.specs.declared.flags.Flags.{Flags}
use Rattle.rx_reader.specs.declared.error.SyntaxError.{SyntaxError}
use Rattle.rx_reader.specs.declared.ast.Item.{Item}
use Rattle.rx_reader.specs.declared.ast.Item.TheVariants.{Literals, One}
use Rattle.rx_syntax.specs.Refused.{gathered, before}
use Rattle.rx_syntax.specs.Literals.{in_either_case, character}
use Rattle.rx_syntax.specs.Translation.{translated, all_translated}
use Rattle.rx_syntax.specs.ItemViews.{run_parts, all_parts, branch_parts, only_branch}

-- parts before parts that are joined already
abbrev after : List Expression → List Expression → List Expression
after [] hs = hs
after (g ∷ gs) hs = join_literals g (after gs hs)

joined-append : (gs hs : List Expression) → joined (gs ++ hs) ≡ after gs (joined hs)
joined-append [] hs = refl
joined-append (g ∷ gs) hs = ap (join_literals g) (joined-append gs hs)

after-append : (gs hs is : List Expression) → after (gs ++ hs) is ≡ after gs (after hs is)
after-append [] hs is = refl
after-append (g ∷ gs) hs is = ap (join_literals g) (after-append gs hs is)

parts-append : (gs hs : List Expression) → flat_map parts_of (gs ++ hs) ≡ flat_map parts_of gs ++ flat_map parts_of hs
parts-append [] hs = refl
parts-append (g ∷ gs) hs = ap (λ (xs : List Expression). parts_of g ++ xs) (parts-append gs hs)
    ∙ sym (append_assoc (parts_of g) (flat_map parts_of gs) (flat_map parts_of hs))

-- Runs of characters.

join-literals : (a b : List ℕ) (hs : List Expression) → join_literals (literal (a ++ b)) hs ≡ join_literals (literal a) (join_literals (literal b) hs)
join-literals a b [] = refl
join-literals a b (literal c ∷ hs) = ap (λ (bytes : List ℕ). literal bytes ∷ hs) (append_assoc a b c)
join-literals a b (h ∷ hs) = refl

after-literals : (a b : List ℕ) (hs : List Expression) → after (parts_of (literal_of (a ++ b))) hs ≡ after (parts_of (literal_of a))
    (after (parts_of (literal_of b)) hs)
after-literals [] b hs = refl
after-literals (x ∷ a) [] hs = ap (λ (bytes : List ℕ). join_literals (literal (x ∷ bytes)) hs) (append-nil a)
after-literals (x ∷ a) (y ∷ b) hs = join-literals (x ∷ a) (y ∷ b) hs

after-run : (cs : List ℕ) (hs : List Expression) → after (parts_of (literal_of (encodes cs))) hs ≡ after
    (flat_map parts_of (map (λ c. literal_of (encode_utf8 c)) cs)) hs
after-run [] hs = refl
after-run (c ∷ cs) hs =
    let own = parts_of (literal_of (encode_utf8 c)) in
    after-literals (encode_utf8 c) (encodes cs) hs ∙ ap (after own) (after-run cs hs)
    ∙ sym (after-append own (flat_map parts_of (map (λ c. literal_of (encode_utf8 c)) cs)) hs)

-- the literals of the characters join to one
pub joined-run : (cs : List ℕ) → joined (flat_map parts_of (map (λ c. literal_of (encode_utf8 c)) cs)) ≡ parts_of (literal_of (encodes cs))
joined-run cs =
    let own = flat_map parts_of (map (λ c. literal_of (encode_utf8 c)) cs) in
    ap joined (sym (append-nil own)) ∙ joined-append own [] ∙ sym (after-run cs []) ∙ alone (encodes cs)
  where
    alone : (bytes : List ℕ) → after (parts_of (literal_of bytes)) [] ≡ parts_of (literal_of bytes)
    alone [] = refl
    alone (b ∷ bytes) = refl

run-same : (b : Bool) (f : ℕ → Expression) (cs : List ℕ) (hs : List Expression)
    → after (flat_map parts_of (if b then map f cs else literal_of (encodes cs) ∷ [])) hs
    ≡ after (flat_map parts_of (map (λ c. if b then f c else literal_of (encode_utf8 c)) cs)) hs
run-same true f cs hs = refl
run-same false f cs hs = ap (λ gs. after gs hs) (append-nil (parts_of (literal_of (encodes cs)))) ∙ after-run cs hs

-- Lists.

-- the parts that a list of expressions gives to a concatenation
abbrev parts : Result (List Expression) SyntaxError → Result (List Expression) SyntaxError
parts r = r >>= λ es. Ok (joined (flat_map parts_of es))

parts-before : (xs : List Expression) (rest : Result (List Expression) SyntaxError)
    → parts (before xs rest) ≡ (parts rest >>= λ hs. Ok (after (flat_map parts_of xs) hs))
parts-before xs (Ok ys) = ap (λ zs. Ok zs) (ap joined (parts-append xs ys) ∙ joined-append (flat_map parts_of xs) (flat_map parts_of ys))
parts-before xs (Err e) = refl

one-before : (r : Result Expression SyntaxError) (rest : Result (List Expression) SyntaxError)
    → ((r >>= λ e. Ok (e ∷ [])) >>= λ first. before first rest) ≡ (r >>= λ e. rest >>= λ es. Ok (e ∷ es))
one-before (Ok e) rest = refl
one-before (Err e) rest = refl

before-nothing : (rest : Result (List Expression) SyntaxError) → rest ≡ before [] rest
before-nothing (Ok ys) = refl
before-nothing (Err e) = refl

before-cons : (e : Expression) (xs : List Expression) (rest : Result (List Expression) SyntaxError)
    → (before xs rest >>= λ es. Ok (e ∷ es)) ≡ before (e ∷ xs) rest
before-cons e xs (Ok ys) = refl
before-cons e xs (Err f) = refl

run-translated : (config : Config) (flags : Flags) (cs : List ℕ) (ss : List Syntax)
    → all_translated config (syntaxes (map (written flags) cs ++ ss)) ≡ before (map (character flags) cs) (all_translated config (syntaxes ss))
run-translated config flags [] ss = before-nothing (all_translated config (syntaxes ss))
run-translated config flags (c ∷ cs) ss =
    ap (λ r. r >>= λ es. Ok (character flags c ∷ es)) (run-translated config flags cs ss)
    ∙ before-cons (character flags c) (map (character flags) cs) (all_translated config (syntaxes ss))

-- a run alone
pub run-alone : (config : Config) (flags : Flags) (cs : List ℕ) → all_translated config (syntaxes (map (written flags) cs)) ≡ Ok (map (character flags) cs)
run-alone config flags [] = refl
run-alone config flags (c ∷ cs) = ap (λ r. r >>= λ es. Ok (character flags c ∷ es)) (run-alone config flags cs)

same-after : (f g : List Expression → List Expression) (r : Result (List Expression) SyntaxError) → ((hs : List Expression) → f hs ≡ g hs)
    → (r >>= λ hs. Ok (f hs)) ≡ (r >>= λ hs. Ok (g hs))
same-after f g (Ok hs) same = ap (λ zs. Ok zs) (same hs)
same-after f g (Err e) same = refl

one-parts : (r : Result Expression SyntaxError) (rest other : Result (List Expression) SyntaxError) → parts rest ≡ parts other
    → parts (r >>= λ e. rest >>= λ es. Ok (e ∷ es)) ≡ parts (r >>= λ e. other >>= λ es. Ok (e ∷ es))
one-parts (Ok e) rest other same =
    parts-before (e ∷ []) rest ∙ ap (λ r. r >>= λ hs. Ok (after (flat_map parts_of (e ∷ [])) hs)) same ∙ sym (parts-before (e ∷ []) other)
one-parts (Err e) rest other same = refl

items-parts : (config : Config) (items : List Item) → parts (all_parts config items) ≡ parts (all_translated config (syntaxes (expanded items)))
items-parts config [] = refl
items-parts config (Literals flags run ∷ items) =
    let rest = all_parts config items in
    let others = all_translated config (syntaxes (expanded items)) in
    let own = map (character flags) run.items in
    parts-before (run_parts flags run.items) rest
    ∙ same-after (after (flat_map parts_of (run_parts flags run.items))) (after (flat_map parts_of own)) (parts rest)
    (run-same flags.case_insensitive (in_either_case flags) run.items)
    ∙ ap (λ r. r >>= λ hs. Ok (after (flat_map parts_of own) hs)) (items-parts config items)
    ∙ sym (parts-before own others)
    ∙ sym (ap parts (run-translated config flags run.items (expanded items)))
items-parts config (One item ∷ items) =
    let rest = all_parts config items in
    let others = all_translated config (syntaxes (expanded items)) in
    ap parts (one-before (translated config item) rest)
    ∙ one-parts (translated config item) rest others (items-parts config items)

concat-parts : (r : Result (List Expression) SyntaxError) → (r >>= λ es. Ok (concat_of es)) ≡ (parts r >>= λ hs. Ok (sequence_of hs))
concat-parts (Ok es) = refl
concat-parts (Err e) = refl

-- the items of the program are translated as their syntax is
pub concat-items : (config : Config) (items : List Item)
    → (all_parts config items >>= λ es. Ok (concat_of es)) ≡ (all_translated config (syntaxes (expanded items)) >>= λ es. Ok (concat_of es))
concat-items config items =
    concat-parts (all_parts config items) ∙ ap (λ r. r >>= λ hs. Ok (sequence_of hs)) (items-parts config items)
    ∙ sym (concat-parts (all_translated config (syntaxes (expanded items))))

only-one : (r : Result (List Expression) SyntaxError)
    → (r >>= λ es. Ok (only_branch es)) ≡ (((r >>= λ es. Ok (concat_of es)) >>= λ e. Ok (e ∷ [])) >>= λ es. Ok (alternation_of es))
only-one (Ok es) = refl
only-one (Err e) = refl

-- the same, where they are the only branch
pub branch-items : (config : Config) (items : List Item) → (all_parts config items >>= λ es. Ok (only_branch es)) ≡ translated config (written_branch items)
branch-items config items =
    only-one (all_parts config items) ∙ ap (λ r. (r >>= λ e. Ok (e ∷ [])) >>= λ es. Ok (alternation_of es)) (concat-items config items)

pub branches-same : (config : Config) (ss : List Syntax) → gathered (branch_parts config) ss ≡ all_translated config (syntaxes ss)
branches-same config [] = refl
branches-same config (s ∷ ss) =
    one-before (translated config s) (gathered (branch_parts config) ss)
    ∙ ap (λ rest. translated config s >>= λ e. rest >>= λ es. Ok (e ∷ es)) (branches-same config ss)
