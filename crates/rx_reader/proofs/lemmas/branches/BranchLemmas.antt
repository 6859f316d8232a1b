-- Repetitions and branches: where they end, and each step without the number that bounds the calls.
use Rattle.std.proofs.Common.{◌≡◌, ℕ, zero, suc, ◌+◌, ◌<◌, ◌≤◌, Bool, true, false, length, Ok, refl, ◌∙◌, ap, subst, sym, arith, add-one}
use Rattle.std.proofs.lemmas.Bool.Decides.{nat_tests}
use Rattle.std.specs.Prelude.{if◌then◌else◌, nat_lt}
use Rattle.rx_reader.specs.declared.config.Config.{Config}
use Rattle.rx_reader.specs.declared.flags.Flags.{Flags}
use Rattle.rx_reader.specs.declared.group_kind.GroupKind.{GroupKind}
use Rattle.rx_reader.specs.declared.token.Token.{Token}
use Rattle.rx_reader.specs.declared.token.Token.TheVariants.{End, Bar, Close, Opens, Directive, Atom}
use Rattle.rx_reader.specs.Config.{limit_of}
use Rattle.rx_reader.specs.Reading.{Place, Read, ◌>>=◌, at_end, first, past}
use Rattle.rx_reader.specs.Ahead.{skip}
use Rattle.rx_reader.specs.Counts.{operator}
use Rattle.rx_reader.specs.Syntax.{Syntax, group, depth}
use Rattle.rx_reader.specs.Grammar.{is_operator, stray_operator, token_of, token, within_limit, repeated_by, repeat_if, repetitions, all_repetitions, Branches, add_item, add_branch, whole, close_group, item_then, group_then, branches_at, token_then, branches, all_branches}
use Rattle.rx_reader.proofs.lemmas.branches.EndLemmas.{EndsBelow, refused, reads, bind, test, same_bind, weaker, past_le}
use Rattle.rx_reader.proofs.lemmas.tokens.TokenEnds.{skip-le, operator-ends, token-ends}

is_operator-more : (p : Place) → is_operator p ≡ true → 0 < length p.text
is_operator-more p h = grind (arith, nat_tests)

module _ (config : Config) where
  within_limit-ends : (s : Syntax) (p q : Place) → EndsBelow (suc (length q.text)) (within_limit config s p q)
  within_limit-ends s p q = test (nat_lt (limit_of config) (depth s)) (λ _. refused _ _) (λ _. reads (omega arith))

  -- at an operator, and elsewhere
  repeat_if-ends : (more : Syntax → Place → Read Syntax) → ((s : Syntax) (q : Place) → EndsBelow (suc (length q.text)) (more s q))
      → (flags : Flags) (item : Syntax) (p : Place) (b : Bool) → (b ≡ true → 0 < length p.text)
      → EndsBelow (suc (length p.text)) (repeat_if config more flags item p b)
  repeat_if-ends more ends flags item p false h = reads (omega arith)
  repeat_if-ends more ends flags item p true h =
      bind _ (operator-ends flags p (h refl)) (λ o q lt.
      bind (λ (x : Syntax × Place). more x.0 x.1) (within_limit-ends (repeated_by o item) p q) (λ s r le. weaker (omega arith) (ends s r)))

  pub repetitions-ends : (n : ℕ) (flags : Flags) (item : Syntax) (p : Place) → EndsBelow (suc (length p.text)) (repetitions config n flags item p)
  unfolding repetitions
  repetitions-ends zero flags item p = reads (omega arith)
  repetitions-ends (suc n) flags item p =
      let q : Place = skip flags p in
      weaker (omega (arith, skip-le flags p)) (repeat_if-ends (repetitions config n flags) (repetitions-ends n flags) flags item q (is_operator q)
      (is_operator-more q))

  repeat_if-same : (f g : Syntax → Place → Read Syntax) (flags : Flags) (item : Syntax) (p : Place) (b : Bool) → (b ≡ true → 0 < length p.text)
      → ((s : Syntax) (q : Place) → length q.text < length p.text → f s q ≡ g s q) → repeat_if config f flags item p b ≡ repeat_if config g flags item p b
  repeat_if-same f g flags item p false h same = refl
  repeat_if-same f g flags item p true h same =
      same_bind (operator flags p) _ _ (operator-ends flags p (h refl)) (λ o q lt.
      same_bind (within_limit config (repeated_by o item) p q) (λ (x : Syntax × Place). f x.0 x.1) (λ (x : Syntax × Place). g x.0 x.1)
      (within_limit-ends (repeated_by o item) p q) (λ s r le. same s r (omega arith)))

  pub repetitions-same : (n m : ℕ) (flags : Flags) (item : Syntax) (p : Place) → length p.text < n → length p.text < m
      → repetitions config n flags item p ≡ repetitions config m flags item p
  unfolding repetitions
  repetitions-same zero m flags item p a b = absurd (omega arith)
  repetitions-same (suc n) zero flags item p a b = absurd (omega arith)
  repetitions-same (suc n) (suc m) flags item p a b =
      let q : Place = skip flags p in
      let le : length q.text ≤ length p.text = skip-le flags p in
      repeat_if-same _ _ flags item q (is_operator q) (is_operator-more q) (λ s r lt. repetitions-same n m flags s r (omega arith) (omega arith))

  repetitions-suc : (n : ℕ) (flags : Flags) (item : Syntax) (p : Place)
      → repetitions config (n + 1) flags item p ≡ repeat_if config (repetitions config n flags) flags item (skip flags p) (is_operator (skip flags p))
  unfolding repetitions
  repetitions-suc n flags item p = rw add-one refl

  pub all_repetitions-step : (flags : Flags) (item : Syntax) (p : Place) → all_repetitions config flags item p ≡ repeat_if config (all_repetitions config flags)
      flags item (skip flags p) (is_operator (skip flags p))
  all_repetitions-step flags item p =
      let le : length (skip flags p).text ≤ length p.text = skip-le flags p in
      repetitions-suc (length p.text) flags item p ∙ repeat_if-same (repetitions config (length p.text) flags) (all_repetitions config flags) flags item
      (skip flags p) (is_operator (skip flags p)) (is_operator-more (skip flags p)) (λ s q lt.
      repetitions-same (length p.text) (length q.text + 1) flags s q (omega arith) (omega arith))

  close_group-ends : (kind : GroupKind) (p : Place) (body : Syntax) (r : Place) → EndsBelow (suc (length r.text)) (close_group config kind p body r)
  close_group-ends kind p body r =
      test (at_end r) (λ _. refused _ _) (λ _. weaker (omega (arith, past_le r)) (within_limit-ends (group kind body) r (past r)))

  item_then-ends : (more : Place → Read Branches) → ((q : Place) → EndsBelow (suc (length q.text)) (more q)) → (flags : Flags) (item : Syntax) (p : Place)
      → EndsBelow (suc (length p.text)) (item_then config more flags item p)
  item_then-ends more ends flags item p =
      bind _ (repetitions-ends (length p.text + 1) flags item p) (λ s q lt. bind _ (ends q) (λ b r le. reads (omega arith)))

  -- what reads branches, wherever it begins
  Ends : (Flags → ℕ → Place → Read Branches) → Type 0
  Ends more = (flags : Flags) (opened : ℕ) (q : Place) → EndsBelow (suc (length q.text)) (more flags opened q)

  group_then-ends : (more : Flags → ℕ → Place → Read Branches) → Ends more
      → (flags : Flags) (opened : ℕ) (p : Place) (kind : GroupKind) (inside : Flags) (q : Place) (too_many : Bool)
      → EndsBelow (suc (length q.text)) (group_then config more flags opened p kind inside q too_many)
  unfolding Ends
  group_then-ends more ends flags opened p kind inside q true = refused _ _
  group_then-ends more ends flags opened p kind inside q false =
      bind _ (ends inside (opened + 1) q) (λ body r lt. bind _ (close_group-ends kind p (whole body) r) (λ item after le.
      weaker (omega arith) (item_then-ends (more flags opened) (ends flags opened) flags item after)))

  branches_at-ends : (more : Flags → ℕ → Place → Read Branches) → Ends more → (flags : Flags) (opened : ℕ) (p : Place) (t : Token) (q : Place)
      → length q.text ≤ length p.text → EndsBelow (suc (length p.text)) (branches_at config more flags opened p (t, q))
  unfolding Ends
  branches_at-ends more ends flags opened p End q lt = reads (omega arith)
  branches_at-ends more ends flags opened p Close q lt = reads (omega arith)
  branches_at-ends more ends flags opened p Bar q lt = bind _ (ends flags opened q) (λ b r le. reads (omega arith))
  branches_at-ends more ends flags opened p (Directive next) q lt = weaker (omega arith) (ends next opened q)
  branches_at-ends more ends flags opened p (Atom item) q lt = weaker (omega arith) (item_then-ends (more flags opened) (ends flags opened) flags item q)
  branches_at-ends more ends flags opened p (Opens kind inside) q lt = weaker (omega arith) (group_then-ends more ends flags opened p kind inside q
      (nat_lt (limit_of config) (opened + 1)))

  -- the token at the end, and elsewhere
  pub token-end : (flags : Flags) (p : Place) → at_end p ≡ true → token config flags p ≡ Ok (End, p)
  unfolding token
  token-end flags p h = ap (λ (b : Bool). if b then Ok (End, p) else if is_operator p then stray_operator p else token_of config (first p) flags p) h

  token-within : (flags : Flags) (p : Place) (b : Bool) → at_end p ≡ b → EndsBelow (suc (length p.text)) (token config flags p)
  token-within flags p true h = subst (λ (r : Read Token). EndsBelow (suc (length p.text)) r) (sym (token-end flags p h)) (reads (omega arith))
  token-within flags p false h = weaker (omega arith) (token-ends config flags p h)

  pub branches-ends : (n : ℕ) (flags : Flags) (opened : ℕ) (p : Place) → EndsBelow (suc (length p.text)) (branches config n flags opened p)
  unfolding branches Ends
  branches-ends zero flags opened p = reads (omega arith)
  branches-ends (suc n) flags opened p =
      let at : Place = skip flags p in
      let le : length at.text ≤ length p.text = skip-le flags p in
      weaker (omega arith) (bind (branches_at config (branches config n) flags opened at) (token-within flags at (at_end at) refl)
      (λ t q lt. branches_at-ends (branches config n) (branches-ends n) flags opened at t q (omega arith)))

  -- both read the same of what is shorter
  Same : (f g : Flags → ℕ → Place → Read Branches) → ℕ → Type 0
  Same f g n = (flags : Flags) (opened : ℕ) (q : Place) → length q.text < n → f flags opened q ≡ g flags opened q

  item_then-same : (f g : Place → Read Branches) (flags : Flags) (item : Syntax) (p : Place) → ((q : Place) → length q.text ≤ length p.text → f q ≡ g q)
      → item_then config f flags item p ≡ item_then config g flags item p
  item_then-same f g flags item p same =
      same_bind (all_repetitions config flags item p) _ _ (repetitions-ends (length p.text + 1) flags item p) (λ s q lt.
      ap (λ (reading : Read Branches). reading >>= λ (b, r). Ok (add_item s b, r)) (same q (omega arith)))

  group_then-same : (f g : Flags → ℕ → Place → Read Branches) (flags : Flags) (opened : ℕ) (p : Place) (kind : GroupKind) (inside : Flags) (q : Place) → Ends f
      → Same f g (suc (length q.text)) → (b : Bool) → group_then config f flags opened p kind inside q b ≡ group_then config g flags opened p kind inside q b
  unfolding Ends Same
  group_then-same f g flags opened p kind inside q ends same true = refl
  group_then-same f g flags opened p kind inside q ends same false =
      let body_same : f inside (opened + 1) q ≡ g inside (opened + 1) q = same inside (opened + 1) q (omega arith) in
      ap (λ (reading : Read Branches). reading >>= λ (body, r). close_group config kind p (whole body) r >>= λ (item, after). item_then config (f flags opened)
      flags item after) body_same
      ∙ same_bind (g inside (opened + 1) q) _ _ (subst (λ (reading : Read Branches). EndsBelow (suc (length q.text)) reading) body_same
      (ends inside (opened + 1) q)) (λ body r lt.
      same_bind (close_group config kind p (whole body) r) _ _ (close_group-ends kind p (whole body) r) (λ item after le.
      item_then-same (f flags opened) (g flags opened) flags item after (λ s lt'. same flags opened s (omega arith))))

  branches_at-same : (f g : Flags → ℕ → Place → Read Branches) (flags : Flags) (opened : ℕ) (p : Place) (t : Token) (q : Place) → Ends f
      → Same f g (suc (length q.text)) → branches_at config f flags opened p (t, q) ≡ branches_at config g flags opened p (t, q)
  unfolding Same
  branches_at-same f g flags opened p End q ends same = refl
  branches_at-same f g flags opened p Close q ends same = refl
  branches_at-same f g flags opened p Bar q ends same = ap (λ (reading : Read Branches). reading >>= λ (b, r). Ok (add_branch b, r))
      (same flags opened q (omega arith))
  branches_at-same f g flags opened p (Directive next) q ends same = same next opened q (omega arith)
  branches_at-same f g flags opened p (Atom item) q ends same = item_then-same (f flags opened) (g flags opened) flags item q
      (λ r le. same flags opened r (omega arith))
  branches_at-same f g flags opened p (Opens kind inside) q ends same = group_then-same f g flags opened p kind inside q ends same
      (nat_lt (limit_of config) (opened + 1))

  token_then-same : (f g : Flags → ℕ → Place → Read Branches) (flags : Flags) (opened : ℕ) (p : Place) (b : Bool) → at_end p ≡ b → Ends f
      → Same f g (length p.text) → token_then config f flags opened p ≡ token_then config g flags opened p
  unfolding Same
  token_then-same f g flags opened p true h ends same =
      ap (λ (r : Read Token). r >>= branches_at config f flags opened p) (token-end flags p h)
      ∙ sym (ap (λ (r : Read Token). r >>= branches_at config g flags opened p) (token-end flags p h))
  token_then-same f g flags opened p false h ends same =
      same_bind (token config flags p) _ _ (token-ends config flags p h)
      (λ t q lt. branches_at-same f g flags opened p t q ends (λ k o r le. same k o r (omega arith)))

  pub branches-same : (n m : ℕ) (flags : Flags) (opened : ℕ) (p : Place) → length p.text < n → length p.text < m
      → branches config n flags opened p ≡ branches config m flags opened p
  unfolding branches Same Ends
  branches-same zero m flags opened p a b = absurd (omega arith)
  branches-same (suc n) zero flags opened p a b = absurd (omega arith)
  branches-same (suc n) (suc m) flags opened p a b =
      let le : length (skip flags p).text ≤ length p.text = skip-le flags p in
      token_then-same (branches config n) (branches config m) flags opened (skip flags p) (at_end (skip flags p)) refl (branches-ends n)
      (λ k o r lt. branches-same n m k o r (omega arith) (omega arith))

  branches-suc : (n : ℕ) (flags : Flags) (opened : ℕ) (p : Place) → branches config (n + 1) flags opened p ≡ token_then config (branches config n) flags opened
      (skip flags p)
  unfolding branches
  branches-suc n flags opened p = rw add-one refl

  pub all_branches-step : (flags : Flags) (opened : ℕ) (p : Place) → all_branches config flags opened p ≡ token_then config (all_branches config) flags opened
      (skip flags p)
  unfolding Same Ends
  all_branches-step flags opened p =
      let le : length (skip flags p).text ≤ length p.text = skip-le flags p in
      branches-suc (length p.text) flags opened p ∙ token_then-same (branches config (length p.text)) (all_branches config) flags opened (skip flags p)
      (at_end (skip flags p)) refl (branches-ends (length p.text)) (λ k o r lt.
      branches-same (length p.text) (length r.text + 1) k o r (omega arith) (omega arith))
