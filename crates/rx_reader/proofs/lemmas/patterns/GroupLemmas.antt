-- The groups of what is read.
use Rattle.std.proofs.Common.{◌≡◌, ℕ, zero, suc, ◌+◌, ◌≤◌, Bool, true, false, List, [], length, Option, Some, Ok, Err, inl, inr, refl, append_assoc, sym, subst, arith}
use Rattle.std.specs.Prelude.{if◌then◌else◌, nat_lt}
use Rattle.std.specs.List.{range_with_len}
use Rattle.rx_reader.specs.declared.config.Config.{Config}
use Rattle.rx_reader.specs.declared.error.SyntaxErrorKind.TheVariants.{UnopenedGroup}
use Rattle.rx_reader.specs.declared.flags.Flags.{Flags}
use Rattle.rx_reader.specs.declared.group_kind.GroupKind.{GroupKind}
use Rattle.rx_reader.specs.declared.token.Token.{Token}
use Rattle.rx_reader.specs.declared.token.Token.TheVariants.{End, Bar, Close, Opens, Directive, Atom as One}
use Rattle.rx_reader.specs.Config.{flags_of, limit_of}
use Rattle.rx_reader.specs.Reading.{Place, Read, ◌>>=◌, at_end, past, refuse}
use Rattle.rx_reader.specs.Ahead.{skip}
use Rattle.rx_reader.specs.Syntax.{Syntax, group, syntaxes, depth}
use Rattle.rx_reader.specs.Grammar.{is_operator, repeated_by, Branches, no_items, whole, within_limit, repeat_if, repetitions, close_group, item_then, group_then, branches_at, branches, to_end, read}
use Rattle.rx_reader.specs.Groups.{Captures, IsGroup, own_number, group_numbers, all_group_numbers}
use Rattle.rx_reader.proofs.lemmas.places.GivesLemmas.{Gives, refused, reads, bind, test, weaker, IsAt, groups-carry}
use Rattle.rx_reader.proofs.lemmas.patterns.CountedLemmas.{row_is, Counts, none, joined, alike, later, sooner}
use Rattle.rx_reader.proofs.lemmas.tokens.TokenKeeps.{skip-keeps, operator-keeps}
use Rattle.rx_reader.proofs.lemmas.tokens.TokenGroups.{TokenGroups, token_numbers, token-counts}

-- from g groups with these names on, the groups of an item, and of branches
abbrev CountsItem : (g : ℕ) (ns : List (List ℕ)) → Syntax → Place → Type 0
CountsItem g ns s q = Counts g ns q (λ k n. IsGroup k n s) (group_numbers s)

abbrev CountsBranches : (g : ℕ) (ns : List (List ℕ)) → Branches → Place → Type 0
CountsBranches g ns b q = Counts g ns q (λ k n. IsGroup k n (whole b)) (group_numbers (whole b))

no_groups : (g : ℕ) (ns : List (List ℕ)) (p : Place) → IsAt g ns p → CountsBranches g ns no_items p
unfolding IsGroup group_numbers
no_groups g ns p at = alike (none at) refl (λ k n s. elim s [ inl a ↦ a | inr b ↦ b ]) (λ k n s. absurd s)

module _ (config : Config) where
  limit-counts : (g : ℕ) (ns : List (List ℕ)) (s : Syntax) (p q : Place) → CountsItem g ns s q → Gives (CountsItem g ns) (within_limit config s p q)
  limit-counts g ns s p q counts = test (nat_lt (limit_of config) (depth s)) (λ _. refused) (λ _. reads counts)

  repeat_if-counts : (g : ℕ) (ns : List (List ℕ)) (more : Syntax → Place → Read Syntax)
      → ((s : Syntax) (q : Place) → CountsItem g ns s q → Gives (CountsItem g ns) (more s q))
      → (flags : Flags) (item : Syntax) (p : Place) (b : Bool) → CountsItem g ns item p → Gives (CountsItem g ns) (repeat_if config more flags item p b)
  unfolding IsGroup group_numbers
  repeat_if-counts g ns more h flags item p false counts = reads counts
  repeat_if-counts g ns more h flags item p true counts =
      bind _ (operator-keeps (IsAt p.groups p.names) _ (groups-carry p.groups p.names) flags p (refl, refl)) (λ o q at.
      bind _ (limit-counts g ns (repeated_by o item) p q (later counts at)) (λ s r there. h s r there))

  repetitions-counts : (g : ℕ) (ns : List (List ℕ)) (n : ℕ) (flags : Flags) (item : Syntax) (p : Place) → CountsItem g ns item p
      → Gives (CountsItem g ns) (repetitions config n flags item p)
  unfolding repetitions
  repetitions-counts g ns zero flags item p counts = reads counts
  repetitions-counts g ns (suc n) flags item p counts =
      let q : Place = skip flags p in
      repeat_if-counts g ns (repetitions config n flags) (repetitions-counts g ns n flags) flags item q (is_operator q)
      (later counts (skip-keeps (IsAt p.groups p.names) _ (groups-carry p.groups p.names) flags p (refl, refl)))

  close-counts : (g : ℕ) (ns : List (List ℕ)) (kind : GroupKind) (p : Place) (body : Syntax) (r : Place) → CountsItem g ns (group kind body) r
      → Gives (CountsItem g ns) (close_group config kind p body r)
  close-counts g ns kind p body r counts =
      test (at_end r) (λ _. refused) (λ _. limit-counts g ns (group kind body) r (past r) (later counts (refl, refl)))

  item_then-counts : (g : ℕ) (ns : List (List ℕ)) (more : Place → Read Branches) → ((q : Place) → Gives (CountsBranches q.groups q.names) (more q))
      → (flags : Flags) (item : Syntax) (p : Place) → CountsItem g ns item p → Gives (CountsBranches g ns) (item_then config more flags item p)
  unfolding IsGroup group_numbers
  item_then-counts g ns more h flags item p counts =
      bind _ (repetitions-counts g ns (length p.text + 1) flags item p counts) (λ whole_item q first.
      bind _ (h q)
      (λ b r rest. reads
      (alike (joined first rest)
      (sym (append_assoc (group_numbers whole_item) (all_group_numbers (syntaxes b.items)) (all_group_numbers (syntaxes b.others))))
      (λ k n s. elim s [ inl here ↦ elim here [ inl one ↦ inl one | inr among ↦ inr (inl among) ] | inr others ↦ inr (inr others) ])
      (λ k n s. elim s [ inl one ↦ inl (inl one) | inr behind ↦ elim behind [ inl among ↦ inl (inr among) | inr others ↦ inr others ] ]))))

  -- what is read from each place on
  abbrev CountsOn : (Flags → ℕ → Place → Read Branches) → Type 0
  CountsOn more = (flags : Flags) (opened : ℕ) (q : Place) → Gives (CountsBranches q.groups q.names) (more flags opened q)

  group_then-counts : (g : ℕ) (ns : List (List ℕ)) (more : Flags → ℕ → Place → Read Branches) → CountsOn more
      → (flags : Flags) (opened : ℕ) (p : Place) (kind : GroupKind) (inside : Flags) (q : Place) (too_many : Bool)
      → Counts g ns q (λ k n. Captures k n kind) (own_number kind)
      → Gives (CountsBranches g ns) (group_then config more flags opened p kind inside q too_many)
  unfolding IsGroup group_numbers
  group_then-counts g ns more h flags opened p kind inside q true counts = refused
  group_then-counts g ns more h flags opened p kind inside q false counts =
      bind _ (h inside (opened + 1) q) (λ body r within.
      bind _ (close-counts g ns kind p (whole body) r (joined counts within)) (λ item after done.
      item_then-counts g ns (more flags opened) (h flags opened) flags item after done))

  branches_at-counts : (g : ℕ) (ns : List (List ℕ)) (more : Flags → ℕ → Place → Read Branches) → CountsOn more
      → (flags : Flags) (opened : ℕ) (p : Place) (t : Token) (q : Place) → IsAt g ns p → Counts g ns q (λ k n. TokenGroups t k n) (token_numbers t)
      → Gives (CountsBranches g ns) (branches_at config more flags opened p (t, q))
  unfolding IsGroup group_numbers
  branches_at-counts g ns more h flags opened p End q at counts = reads (no_groups g ns p at)
  branches_at-counts g ns more h flags opened p Close q at counts = reads (no_groups g ns p at)
  branches_at-counts g ns more h flags opened p Bar q at counts = bind _ (h flags opened q) (λ b r rest. reads (joined counts rest))
  branches_at-counts g ns more h flags opened p (Directive next) q at counts = weaker (h next opened q) (λ b r rest. sooner counts rest)
  branches_at-counts g ns more h flags opened p (One item) q at counts = item_then-counts g ns (more flags opened) (h flags opened) flags item q counts
  branches_at-counts g ns more h flags opened p (Opens kind inside) q at counts =
      group_then-counts g ns more h flags opened p kind inside q (nat_lt (limit_of config) (opened + 1)) counts

  branches-counts : (n : ℕ) (flags : Flags) (opened : ℕ) (p : Place) → Gives (CountsBranches p.groups p.names) (branches config n flags opened p)
  unfolding branches
  branches-counts zero flags opened p = reads (no_groups p.groups p.names p (refl, refl))
  branches-counts (suc n) flags opened p =
      let q : Place = skip flags p in
      let at : IsAt p.groups p.names q = skip-keeps (IsAt p.groups p.names) _ (groups-carry p.groups p.names) flags p (refl, refl) in
      bind _ (token-counts p.groups p.names config flags q at) (λ t r counts.
      branches_at-counts p.groups p.names (branches config n) (branches-counts n) flags opened q t r at counts)

-- The whole pattern.

pub to-whole : (b : Branches) (q : Place) (ends : Bool) (s : Syntax) → (if ends then Ok (whole b) else refuse UnopenedGroup q (past q)) ≡ Ok s → whole b ≡ s
to-whole b q true s is = cc
to-whole b q false s is = cc

-- the groups of the pattern, with the place where it ends
pub record HasCounts (s : Syntax) : Type 0 where
  pub end : Place
  pub counts : Counts 0 [] end (λ k n. IsGroup k n s) (group_numbers s)

end-counts : (config : Config) (r : Read Branches) (s : Syntax) → Gives (CountsBranches 0 []) r → r >>= to_end config ≡ Ok s → HasCounts s
end-counts config (Ok (b, q)) s h is =
    record {
      end = q;
      counts = subst (λ (t : Syntax). Counts 0 [] q (λ k n. IsGroup k n t) (group_numbers t)) (to-whole b q (at_end q) s is)
          (h.given b q refl);
    }
end-counts config (Err e) s h is = cc

read-counts : (config : Config) (text : List ℕ) (s : Syntax) → read config text ≡ Ok s → HasCounts s
unfolding read
read-counts config text s is =
    end-counts config _ s (branches-counts config (length text + 1) (flags_of config) 0 (record { text = text; at = 0; groups = 0; names = [] })) is

module _ (config : Config) (text : List ℕ) (s : Syntax) (is : read config text ≡ Ok s) where
  pub from_one : (g : ℕ) (n : Option (List ℕ)) → IsGroup g n s → 1 ≤ g
  from_one g n here = let above = ((read-counts config text s is).counts.numbers g n here).0 in omega arith

  pub in_order : group_numbers s ≡ range_with_len 1 (length (group_numbers s))
  in_order = let all = read-counts config text s is in row_is 0 (group_numbers s) all.end.groups all.counts.row

  -- no number is left out below one that stands
  pub none_left_out : (g k : ℕ) (n : Option (List ℕ)) → IsGroup g n s → 1 ≤ k → k ≤ g → (m : Option (List ℕ)) × IsGroup k m s
  none_left_out g k n here least most =
      let all = read-counts config text s is in
      let within = (all.counts.numbers g n here).1 in
      all.counts.filled k (omega arith) (omega arith)

  pub one_name : (g : ℕ) (m n : Option (List ℕ)) → IsGroup g m s → IsGroup g n s → m ≡ n
  one_name = (read-counts config text s is).counts.one_name

  pub one_number : (g k : ℕ) (name : List ℕ) → IsGroup g (Some name) s → IsGroup k (Some name) s → g ≡ k
  one_number = (read-counts config text s is).counts.one_number
