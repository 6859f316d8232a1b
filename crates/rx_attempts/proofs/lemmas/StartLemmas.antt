-- What a search backwards from a candidate tells: whether it is confirmed, and its start.
use Rattle.std.proofs.Common.{◌≡◌, ℕ, zero, suc, ◌+◌, ◌<◌, ◌≤◌, List, [], ◌∷◌, length, refl, sym, ◌∙◌, ap, subst, arith}
use Rattle.std.specs.Prelude.{true, Some, None, Contains, nat_lt, slice_get}
use Rattle.std.proofs.lemmas.Bool.Decides.{nat_tests}
use Rattle.std.proofs.lemmas.List.Elements.{All-contains}
use Rattle.std.proofs.lemmas.Option.{none-some, same_Some}
use Rattle.rx_model.specs.Expression.{Expression}
use Rattle.rx_model.specs.Meaning.{Means}
use Rattle.rx_model.specs.Text.{stands_at}
use Rattle.rx_model.specs.Search.{anchored, Patterns, is_permitted}
use Rattle.rx_model.specs.Utf8.{MeansUtf8}
use Rattle.rx_model.proofs.lemmas.runs.RunLemmas.{by_test}
use Rattle.rx_model.proofs.lemmas.meaning.EmptyLemmas.{means-rises}
use Rattle.rx_model.proofs.lemmas.meaning.BoundaryLemmas.{part-permitted}
use Rattle.rx_search.specs.Input.{InputValue}
use Rattle.rx_search.specs.Matches.{HalfMatchValue}
use Rattle.rx_search.specs.declared.span.Span.{Span}
use Rattle.rx_determinize.specs.Told.{MeansUpTo, IsLeastStartWhere}
use Rattle.rx_dfa.specs.Automaton.{Dfa}
use Rattle.rx_dfa.specs.Search.{IsReverseAnswer}
use Rattle.rx_limited.specs.Limited.{each_in, FindsStart}
use Rattle.rx_order.specs.Order.{SuffixIsNoEarlier, InnerIsNoEarlier, StartsArePermitted}
use Rattle.rx_order.proofs.lemmas.Forms.{only-one}
use Rattle.rx_attempts.specs.Inputs.{up_to}
use Rattle.rx_attempts.specs.Candidates.{AreNotEmpty, IsTaken}
use Rattle.rx_attempts.specs.Premises.{IsBySuffix, IsByInner, IsSuffixOf, IsInnerOf}
use Rattle.rx_attempts.specs.Inner.{IsPrefixStart}
use Rattle.rx_attempts.proofs.lemmas.NeedleLemmas.{taken-is}

-- the only expression of a list of one
pub only : (h g : Expression) (p : ℕ) → slice_get (h ∷ []) p ≡ Some g → (p ≡ 0) × (h ≡ g)
only h g zero e = (refl, same_Some h g e)
only h g (suc p) e = absurd (none-some g e)

-- A match in which a literal lies has a byte.
pub suffix-long : (h : Expression) (s : List ℕ) → 0 < length s → SuffixIsNoEarlier h s → (t : ℕ) (text : List ℕ) (i j : ℕ) → Means t text h i j → i < j
suffix-long h s some order t text i j m =
    let up = means-rises t text h i j m in
    by_test (nat_lt i j)
    (λ e. grind (arith, nat_tests))
    (λ e.
    let flat : j ≤ i = grind (arith, nat_tests) in
    absurd ((order t text i j).none (λ c k conf. let low = conf.candidate.0 in let fits = conf.candidate.2 in omega arith) i (omega arith) (j, omega arith, m)))

pub inner-long : (h p : Expression) (ls : List (List ℕ)) → AreNotEmpty ls → InnerIsNoEarlier h p ls → (t : ℕ) (text : List ℕ) (i j : ℕ) → Means t text h i j
    → i < j
inner-long h p ls some order t text i j m =
    let up = means-rises t text h i j m in
    by_test (nat_lt i j)
    (λ e. grind (arith, nat_tests))
    (λ e.
    let flat : j ≤ i = grind (arith, nat_tests) in
    absurd ((order t text i j).none
    (λ c k conf.
    let o = conf.candidate in
    let low = o.2.0 in
    let fits = o.2.2 in
    let long : 0 < length o.0 = All-contains (λ needle. 0 < length needle) ls o.0 some o.1 in
    omega arith) i (omega arith) (j, omega arith, m)))

-- So it starts where a match may start.
module _ (r : Patterns) (h : Expression) (one : r.expressions ≡ h ∷ []) (text : List ℕ) (utf8 : r.utf8_empty ≡ true → MeansUtf8 r text)
    (long : (i j : ℕ) → Means r.terminator text h i j → i < j) where
  pub the-one-is : slice_get r.expressions 0 ≡ Some h
  the-one-is = ap (λ hs. slice_get hs 0) one

  pub permitted : (a b : ℕ) → StartsArePermitted r text a b h
  permitted a b i low m =
      let lt = long i m.0 m.2 in
      by_test r.utf8_empty
      (λ on. rw on (part-permitted text (utf8 on).whole i m.0 lt ((utf8 on).parts 0 h the-one-is i m.0 lt m.2)).0)
      (λ off. rw off refl)

module _ (rev : Dfa) (needles : List (List ℕ)) (some : AreNotEmpty needles) (v : InputValue) (within : v.end ≤ length v.haystack) where
  -- of a suffix
  module _ (r : Patterns) (p : IsBySuffix rev needles r v) where
    suffix-bytes : 0 < length p.suffix
    suffix-bytes = All-contains (λ needle. 0 < length needle) (p.suffix ∷ []) p.suffix (subst AreNotEmpty p.needle some) (0, omega arith, refl)

    pub suffix-permitted : StartsArePermitted r v.haystack v.start v.end p.expression
    suffix-permitted =
        permitted r p.expression p.is v.haystack p.utf8
        (λ i j m. suffix-long p.expression p.suffix suffix-bytes p.order r.terminator v.haystack i j m)
        v.start v.end

    module _ (now : Span) (taken : IsTaken needles v now) where
      ends : now.end ≡ now.start + length p.suffix
      ends =
          let h = taken-is needles v within now taken in
          let same : p.suffix ≡ h.0 = only-one p.suffix h.0 (subst (λ ns. Contains ns h.0) p.needle h.1) in
          h.3 ∙ ap (λ (l : List ℕ). now.start + length l) (sym same)

      fits : now.start + length p.suffix ≤ v.end
      fits =
          let h = taken-is needles v within now taken in
          let e = ends in
          let last = h.3 in
          let high = h.2.2 in
          omega arith

      -- each start that the expression has from there
      up-to : (i : ℕ) → v.start ≤ i → Means r.terminator v.haystack p.expression i (now.start + length p.suffix)
          → (i ≤ now.end) × (is_permitted rev.nfa.utf8 v.haystack i ≡ true) × MeansUpTo r v.haystack anchored now.end 0 i
      up-to i low m =
          let up = means-rises r.terminator v.haystack p.expression i (now.start + length p.suffix) m in
          let e = ends in (
            omega arith,
            ap (λ u. is_permitted u v.haystack i) (sym p.starts.utf8) ∙ suffix-permitted i low (now.start + length p.suffix, fits, m),
            record {
              sought = tt;
              expression = p.expression;
              is = the-one-is r p.expression p.is v.haystack p.utf8
                  (λ i j m. suffix-long p.expression p.suffix suffix-bytes p.order r.terminator v.haystack i j m);
              means = subst (λ j. Means r.terminator v.haystack p.expression i j) (sym e) m;
            },
          )

      pub suffix-none : FindsStart rev (up_to v now.end) None → (i : ℕ) → IsSuffixOf p now.start i → ⊥
      suffix-none finds i conf =
          let back : IsReverseAnswer rev.nfa r (each_in (up_to v now.end)) None = finds r p.starts.runs p.starts.kind in
          let u = up-to i conf.start.inside conf.start.has in
          back.none 0 i conf.start.inside u.0 u.1 u.2

      pub suffix-some : (start : HalfMatchValue) → FindsStart rev (up_to v now.end) (Some start) → IsSuffixOf p now.start start.offset × (start.pattern ≡ 0)
      suffix-some start finds =
          let back : IsReverseAnswer rev.nfa r (each_in (up_to v now.end)) (Some start) = finds r p.starts.runs p.starts.kind in
          let least : IsLeastStartWhere r rev.nfa.utf8 v.haystack anchored now.end v.start start = back.value refl in
          let u = least.means in
          let is = only p.expression u.expression start.pattern (ap (λ hs. slice_get hs start.pattern) (sym p.is) ∙ u.is) in
          let taken_is = taken-is needles v within now taken in
          let means = subst (λ j. Means r.terminator v.haystack p.expression start.offset j) ends
          (subst (λ g. Means r.terminator v.haystack g start.offset now.end) (sym is.1) u.means) in
          let same : taken_is.0 ≡ p.suffix = sym (only-one p.suffix taken_is.0 (subst (λ ns. Contains ns taken_is.0) p.needle taken_is.1)) in (
            record {
              candidate = (taken.inside, subst (λ l. stands_at v.haystack now.start l ≡ true) same taken_is.2.1, fits);
              start = record {
                inside = least.from;
                has = means;
                least = λ k low m. let x = up-to k low m in least.longest 0 k low x.0 x.1 x.2;
              };
            },
            is.0,
          )

  -- of literals within
  module _ (r : Patterns) (p : IsByInner rev needles r v) where
    pub inner-permitted : StartsArePermitted r v.haystack v.start v.end p.expression
    inner-permitted =
        permitted r p.expression p.is v.haystack p.utf8
        (λ i j m. inner-long p.expression p.prefix needles some p.order r.terminator v.haystack i j m)
        v.start v.end

    module _ (now : Span) where
      prefix-up-to : (i : ℕ) → Means r.terminator v.haystack p.prefix i now.start
          → (i ≤ now.start) × (is_permitted rev.nfa.utf8 v.haystack i ≡ true) × MeansUpTo p.prefixes v.haystack anchored now.start 0 i
      prefix-up-to i m = (
        means-rises r.terminator v.haystack p.prefix i now.start m,
        ap (λ u. is_permitted u v.haystack i) p.anywhere,
        record {
          sought = tt;
          expression = p.prefix;
          is = ap (λ hs. slice_get hs 0) p.prefix_is;
          means = subst (λ t. Means t v.haystack p.prefix i now.start) (sym p.terminator) m;
        },
      )

      pub prefix-none : FindsStart rev (up_to v now.start) None → (i : ℕ) → IsInnerOf p now.start i → ⊥
      prefix-none finds i conf =
          let back : IsReverseAnswer rev.nfa p.prefixes (each_in (up_to v now.start)) None = finds p.prefixes p.runs p.kind in
          let u = prefix-up-to i conf.start.has in
          back.none 0 i conf.start.inside u.0 u.1 u.2

  pub prefix-some : (now : Span) (start : HalfMatchValue) → FindsStart rev (up_to v now.start) (Some start) → IsPrefixStart rev needles v now start
  prefix-some now start finds r p =
      let back : IsReverseAnswer rev.nfa p.prefixes (each_in (up_to v now.start)) (Some start) = finds p.prefixes p.runs p.kind in
      let least : IsLeastStartWhere p.prefixes rev.nfa.utf8 v.haystack anchored now.start v.start start = back.value refl in
      let u = least.means in
      let is = only p.prefix u.expression start.pattern (ap (λ hs. slice_get hs start.pattern) (sym p.prefix_is) ∙ u.is) in (
        record {
          inside = least.from;
          has = subst (λ t. Means t v.haystack p.prefix start.offset now.start) p.terminator
              (subst (λ g. Means p.prefixes.terminator v.haystack g start.offset now.start) (sym is.1) u.means);
          least = λ k low m. let x = prefix-up-to r p now k m in least.longest 0 k low x.0 x.1 x.2;
        },
        is.0,
      )
