-- On the items of a branch.
use Rattle.std.proofs.Common.{◌≡◌, ℕ, ◌+◌, ◌<◌, suc, List, [], ◌∷◌, ◌++◌, length, drop, refl, ◌∙◌, ap, sym, arith, max, get_or, append_assoc, drop-cons, add-one}
use Rattle.std.specs.Prelude.{map}
use Rattle.std.proofs.lemmas.List.{append-nil}
use Rattle.rx_reader.specs.declared.ast.Item.{Item}
use Rattle.rx_reader.specs.declared.ast.Item.TheVariants.{Literals, One}
use Rattle.rx_reader.specs.Syntax.{Syntax, literal, cat, alt, syntaxes, deepest}
use Rattle.rx_reader.specs.AstViews.{expanded, with_run, only_branch}
use Rattle.rx_reader.specs.declared.flags.Flags.{Flags}
use Rattle.rx_reader.specs.Gathered.{Gathered, push_item, gathered_whole}

pub expanded-append : (xs ys : List Item) → expanded (xs ++ ys) ≡ expanded xs ++ expanded ys
expanded-append [] ys = refl
expanded-append (Literals flags run ∷ xs) ys = ap (λ (ss : List Syntax). map (literal flags) run.items ++ ss) (expanded-append xs ys)
    ∙ sym (append_assoc (map (literal flags) run.items) (expanded xs) (expanded ys))
expanded-append (One item ∷ xs) ys = ap (λ (ss : List Syntax). item ∷ ss) (expanded-append xs ys)

pub deepest-append : (ss ts : List Syntax) → deepest (syntaxes (ss ++ ts)) ≡ max (deepest (syntaxes ss)) (deepest (syntaxes ts))
deepest-append [] ts = omega arith
deepest-append (s ∷ ss) ts = omega (arith, deepest-append ss ts)

pub deepest-expanded : (item : Item) (items : List Item) → deepest (syntaxes (expanded (item ∷ items))) ≡ max (deepest (syntaxes (expanded (item ∷ []))))
    (deepest (syntaxes (expanded items)))
deepest-expanded item items = ap (λ (ss : List Syntax). deepest (syntaxes ss)) (expanded-append (item ∷ []) items)
    ∙ deepest-append (expanded (item ∷ [])) (expanded items)

deepest-characters : (flags : Flags) (cs : List ℕ) → deepest (syntaxes (map (literal flags) cs ++ [])) ≡ 0
deepest-characters flags [] = refl
deepest-characters flags (c ∷ cs) = omega (arith, deepest-characters flags cs)

pub deepest-run : (item : Item) (flags : Flags) (cs : List ℕ) → expanded (item ∷ []) ≡ map (literal flags) cs ++ []
    → deepest (syntaxes (expanded (item ∷ []))) ≡ 0
deepest-run item flags cs is = ap (λ (ss : List Syntax). deepest (syntaxes ss)) is ∙ deepest-characters flags cs

-- the depths of the items from n on, one item further
pub deepest-step : (items : List Item) (n : ℕ) (item : Item) (most d total : ℕ) → n < length items → item ≡ get_or items n item
    → d ≡ deepest (syntaxes (expanded (item ∷ []))) → max most (deepest (syntaxes (expanded (drop n items)))) ≡ total
    → max (max most d) (deepest (syntaxes (expanded (drop (n + 1) items)))) ≡ total
deepest-step items n item most d total lt is depth before =
    let rest = drop (n + 1) items in
    let here : drop n items ≡ item ∷ rest =
    drop-cons items n item lt ∙ ap (λ (i : Item). i ∷ drop (suc n) items) (sym is) ∙ ap (λ (k : ℕ). item ∷ drop k items) (sym (add-one n)) in
    let split : deepest (syntaxes (expanded (drop n items))) ≡ max (deepest (syntaxes (expanded (item ∷ [])))) (deepest (syntaxes (expanded rest))) =
    ap (λ (is : List Item). deepest (syntaxes (expanded is))) here ∙ deepest-expanded item rest in
    omega arith

map-append : (flags : Flags) (cs : List ℕ) (c : ℕ) → map (literal flags) (cs ++ c ∷ []) ≡ map (literal flags) cs ++ literal flags c ∷ []
map-append flags [] c = refl
map-append flags (d ∷ cs) c = ap (λ (ss : List Syntax). literal flags d ∷ ss) (map-append flags cs c)

-- a character more in the run
pub with_run-character : (items : List Item) (flags : Flags) (cs run : List ℕ) (c : ℕ) → run ≡ cs ++ c ∷ []
    → with_run items flags run ≡ with_run items flags cs ++ literal flags c ∷ []
with_run-character items flags cs run c is =
    ap (with_run items flags) is ∙ ap (λ (ss : List Syntax). expanded items ++ ss) (map-append flags cs c)
    ∙ sym (append_assoc (expanded items) (map (literal flags) cs) (literal flags c ∷ []))

-- the run is an item
pub with_run-ended : (items later : List Item) (item : Item) (flags : Flags) (cs ds run : List ℕ) → later ≡ items ++ item ∷ [] → run ≡ []
    → expanded (item ∷ []) ≡ map (literal flags) ds ++ [] → ds ≡ cs → with_run later flags run ≡ with_run items flags cs
with_run-ended items later item flags cs ds run pushed empty is same =
    rw (pushed, empty) (append-nil (expanded (items ++ item ∷ [])) ∙ expanded-append items (item ∷ [])
    ∙ ap (λ (ss : List Syntax). expanded items ++ ss) (is ∙ append-nil (map (literal flags) ds)) ∙ ap (with_run items flags) same)

-- where there is no run, the flags don't matter
pub with_run-none : (items : List Item) (f g : Flags) (run : List ℕ) → run ≡ [] → with_run items f run ≡ with_run items g run
with_run-none items f g run empty = rw empty refl

-- an item more, where there is no run
pub with_run-item : (items later : List Item) (item : Syntax) (flags : Flags) (run : List ℕ) → later ≡ items ++ One item ∷ [] → run ≡ []
    → with_run later flags run ≡ with_run items flags run ++ item ∷ []
with_run-item items later item flags run pushed empty =
    rw (pushed, empty) (append-nil (expanded (items ++ One item ∷ [])) ∙ expanded-append items (One item ∷ [])
    ∙ ap (λ (ss : List Syntax). ss ++ item ∷ []) (sym (append-nil (expanded items))))

-- what was gathered, and an item more
pub gathered-item : (g : Gathered) (branches : List Syntax) (items later : List Item) (item : Syntax) (flags : Flags) (run : List ℕ)
    → ◌≡◌ {A = Gathered} (record { branches = branches; items = with_run items flags run }) g → later ≡ items ++ One item ∷ [] → run ≡ []
    → ◌≡◌ {A = Gathered} (record { branches = branches; items = with_run later flags run }) (push_item g item)
gathered-item g branches items later item flags run same pushed empty =
    ap (λ (ss : List Syntax). record { branches = branches; items = ss }) (with_run-item items later item flags run pushed empty)
    ∙ ap (λ (h : Gathered). push_item h item) same

-- the only branch, where no run is left
pub whole-branch : (g : Gathered) (branches : List Syntax) (items : List Item) (flags : Flags) (run : List ℕ)
    → ◌≡◌ {A = Gathered} (record { branches = branches; items = with_run items flags run }) g → g.branches ≡ [] → run ≡ []
    → only_branch items ≡ gathered_whole g
whole-branch g branches items flags run same none empty =
    let alone : branches ≡ [] = ap (λ (h : Gathered). h.branches) same ∙ none in
    let own : with_run items flags run ≡ expanded items = ap (with_run items flags) empty ∙ append-nil (expanded items) in
    ap (λ (ss : List Syntax). alt (syntaxes (cat (syntaxes ss) ∷ []))) (sym own)
    ∙ ap (λ (bs : List Syntax). alt (syntaxes (bs ++ cat (syntaxes (with_run items flags run)) ∷ []))) (sym alone)
    ∙ ap gathered_whole same
