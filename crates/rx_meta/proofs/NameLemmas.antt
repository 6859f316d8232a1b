-- Which strategy a regex has, by which DFAs it has.
use Rattle.std.proofs.Common.{◌≡◌, ℕ, List, refl, sym, ap, ◌∙◌, true≢false}
use Rattle.std.proofs.lemmas.Option.{none-some, same_Some}
use Rattle.std.specs.Prelude.{Bool, true, false, ◌||◌, Option, Some, None, codes, length, nat_eq}
use Rattle.rx_model.specs.Expression.{Expression}
use Rattle.rx_prefilter.specs.declared.choice.Choice.{Choice}
use Rattle.rx_prefilter.specs.declared.choice.Choice.TheVariants.{Memchr, Memchr2, Memchr3, Memmem, Multi, ByteSet, AhoCorasick}
use Rattle.rx_prefilter.specs.Choices.{chosen}
use Rattle.rx_strategies.specs.Attempting.{is_by_suffix, is_by_inner}
use Rattle.rx_strategies.specs.Strategy.{literal_name, name_of}
use Rattle.rx_strategies.specs.declared.strategy.Strategy.{Strategy}
use Rattle.rx_strategies.specs.declared.strategy.Strategy.TheVariants.{Pre, Core, ReverseAnchored, ReverseSuffix, ReverseInner}
use Rattle.rx_meta.specs.Name.{Way, by_literals, from_end, by_suffix, by_inner, plain, literals_or, from_end_or, suffix_or, inner_if, inner_or_plain}

-- what stands before the literals of a search by literals within, if it is one
abbrev prefix_in : Way → Option Expression
prefix_in (by_literals needles) = None
prefix_in from_end = None
prefix_in (by_suffix suffix) = None
prefix_in (by_inner prefix needles) = Some prefix
prefix_in plain = None

-- another strategy is none by literals within
pub not-inner : {P : Type 0} (w other : Way) → other ≡ w → prefix_in w ≡ None → (prefix : Expression) (needles : List (List ℕ))
    → other ≡ by_inner prefix needles → P
not-inner w other is none prefix needles inner = absurd (none-some prefix (sym none ∙ ap prefix_in (sym is ∙ inner)))

-- of two that are the same, the prefixes are
pub same-prefix : (prefix p : Expression) (needles ns : List (List ℕ)) → by_inner prefix needles ≡ by_inner p ns → prefix ≡ p
same-prefix prefix p needles ns is = same_Some prefix p (ap prefix_in is)

-- without a DFA of a prefix there is no search by literals within
pub none-reads : (o : Option (Expression × List (List ℕ))) → inner_or_plain o (λ prefix. false) ≡ plain
none-reads None = refl
none-reads (Some found) = refl

-- The strategy is the same by two answers to whether a DFA of a prefix is there, where these agree on the prefix that counts.
pub same-way : (literals : Option (List (List ℕ))) (ends : Bool) (suffix : Option (List ℕ)) (inner : Option (Expression × List (List ℕ)))
    → (f g : Expression → Bool)
    → ((prefix : Expression) (needles : List (List ℕ))
    → literals_or literals (from_end_or ends (suffix_or suffix (inner_or_plain inner (λ p. true)))) ≡ by_inner prefix needles → f prefix ≡ g prefix)
    → literals_or literals (from_end_or ends (suffix_or suffix (inner_or_plain inner f)))
    ≡ literals_or literals (from_end_or ends (suffix_or suffix (inner_or_plain inner g)))
same-way (Some needles) ends suffix inner f g agree = refl
same-way None true suffix inner f g agree = refl
same-way None false (Some suffix) inner f g agree = refl
same-way None false None None f g agree = refl
same-way None false None (Some found) f g agree = ap (λ b. inner_if b found) (agree found.0 found.1 refl)

-- a name tells the strategy

-- two texts of which one alone has this length differ
differ : (n : ℕ) (xs ys : List ℕ) → nat_eq (length xs) n ≡ false → nat_eq (length ys) n ≡ true → xs ≡ ys → ⊥
differ n xs ys not is e = true≢false (sym is ∙ ap (λ (zs : List ℕ). nat_eq (length zs) n) (sym e) ∙ not)

both-differ : (xs ys : List ℕ) → (nat_eq (length xs) 14 || nat_eq (length xs) 13) ≡ false → (nat_eq (length ys) 14 || nat_eq (length ys) 13) ≡ true
    → xs ≡ ys → ⊥
both-differ xs ys not is e = true≢false (sym is ∙ ap (λ (zs : List ℕ). nat_eq (length zs) 14 || nat_eq (length zs) 13) (sym e) ∙ not)

-- that of a search for literals has another length than that of one by candidates
literal-differs : (choice : Choice) (ys : List ℕ) → (nat_eq (length ys) 14 || nat_eq (length ys) 13) ≡ true → literal_name choice ≡ ys → ⊥
unfolding literal_name
literal-differs Memchr ys is e = both-differ (codes "prefilter memchr") ys refl is e
literal-differs Memchr2 ys is e = both-differ (codes "prefilter memchr2") ys refl is e
literal-differs Memchr3 ys is e = both-differ (codes "prefilter memchr3") ys refl is e
literal-differs Memmem ys is e = both-differ (codes "prefilter memmem") ys refl is e
literal-differs Multi ys is e = both-differ (codes "prefilter multi") ys refl is e
literal-differs ByteSet ys is e = both-differ (codes "prefilter byteset") ys refl is e
literal-differs AhoCorasick ys is e = both-differ (codes "prefilter aho-corasick") ys refl is e

pub named-suffix : (s : Strategy) → name_of s ≡ codes "reverse suffix" → is_by_suffix s ≡ true
unfolding name_of
named-suffix (Pre p) e = absurd (literal-differs (chosen p.needles) (codes "reverse suffix") refl e)
named-suffix (Core c) e = absurd (differ 14 (codes "core") (codes "reverse suffix") refl refl e)
named-suffix (ReverseAnchored c) e = absurd (differ 14 (codes "reverse anchored") (codes "reverse suffix") refl refl e)
named-suffix (ReverseSuffix s) e = refl
named-suffix (ReverseInner i) e = absurd (differ 14 (codes "reverse inner") (codes "reverse suffix") refl refl e)

pub named-inner : (s : Strategy) → name_of s ≡ codes "reverse inner" → is_by_inner s ≡ true
unfolding name_of
named-inner (Pre p) e = absurd (literal-differs (chosen p.needles) (codes "reverse inner") refl e)
named-inner (Core c) e = absurd (differ 13 (codes "core") (codes "reverse inner") refl refl e)
named-inner (ReverseAnchored c) e = absurd (differ 13 (codes "reverse anchored") (codes "reverse inner") refl refl e)
named-inner (ReverseSuffix s) e = absurd (differ 13 (codes "reverse suffix") (codes "reverse inner") refl refl e)
named-inner (ReverseInner i) e = refl
