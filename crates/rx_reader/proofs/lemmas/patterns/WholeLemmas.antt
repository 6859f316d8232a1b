-- What is so of each token, and of all that is made of parts of which it is so, is so of what is read.
use Rattle.std.proofs.Common.{◌≡◌, ℕ, zero, suc, ◌+◌, Bool, true, false, List, [], ◌∷◌, length, Ok, Err, refl, subst}
use Rattle.std.specs.Prelude.{nat_lt}
use Rattle.rx_reader.specs.declared.config.Config.{Config}
use Rattle.rx_reader.specs.declared.flags.Flags.{Flags}
use Rattle.rx_reader.specs.declared.group_kind.GroupKind.{GroupKind}
use Rattle.rx_reader.specs.declared.operator.Operator.{Operator}
use Rattle.rx_reader.specs.declared.token.Token.{Token}
use Rattle.rx_reader.specs.declared.token.Token.TheVariants.{End, Bar, Close, Opens, Directive, Atom as One}
use Rattle.rx_reader.specs.Config.{flags_of, limit_of}
use Rattle.rx_reader.specs.Reading.{Place, Read, ◌>>=◌, at_end, past}
use Rattle.rx_reader.specs.Ahead.{skip}
use Rattle.rx_reader.specs.Counts.{operator, AreInOrder}
use Rattle.rx_reader.specs.Syntax.{Syntax, Syntaxes, group, cat, alt, nil, cons, syntaxes, depth}
use Rattle.rx_reader.specs.Grammar.{is_operator, token, repeated_by, Branches, whole, within_limit, repeat_if, repetitions, close_group, item_then, group_then, branches_at, branches, to_end, read}
use Rattle.rx_reader.proofs.lemmas.places.GivesLemmas.{Gives, refused, reads, bind, test}
use Rattle.rx_reader.proofs.lemmas.patterns.GroupLemmas.{to-whole}

-- of the atom that a token is
abbrev pub InToken : (Syntax → Type 0) → Token → Type 0
InToken P (One item) = P item
InToken P (Opens kind inside) = Unit {0}
InToken P End = Unit {0}
InToken P Bar = Unit {0}
InToken P Close = Unit {0}
InToken P (Directive next) = Unit {0}

-- K is so of the places, P of the atoms and of all that is made of parts of which it is so, Each of lists of these
pub record Stays (config : Config) (K : Place → Type 0) (P : Syntax → Type 0) (Each : Syntaxes → Type 0) : Type 0 where
  pub on : (p : Place) → K p → K (past p)
  pub over : (flags : Flags) (p : Place) → K p → K (skip flags p)
  pub tokens : (flags : Flags) (p : Place) → K p → Gives (λ t q. InToken P t × K q) (token config flags p)
  pub operators : (flags : Flags) (p : Place) → K p → Gives (λ o q. AreInOrder o.min o.max × K q) (operator flags p)
  pub repeats : (o : Operator) (s : Syntax) → AreInOrder o.min o.max → P s → P (repeated_by o s)
  pub groups : (kind : GroupKind) (s : Syntax) → P s → P (group kind s)
  pub cats : (ss : Syntaxes) → Each ss → P (cat ss)
  pub alts : (ss : Syntaxes) → Each ss → P (alt ss)
  pub none : Each nil
  pub more : (s : Syntax) (ss : Syntaxes) → P s → Each ss → Each (cons s ss)

module _ (config : Config) (K : Place → Type 0) (P : Syntax → Type 0) (Each : Syntaxes → Type 0) (stays : Stays config K P Each) where
  abbrev StaysItem : Read Syntax → Type 0
  StaysItem r = Gives (λ s q. P s × K q) r

  -- of each item, and of each branch after them
  abbrev InBranches : Branches → Type 0
  InBranches b = Each (syntaxes b.items) × Each (syntaxes b.others)

  abbrev StaysBranches : Read Branches → Type 0
  StaysBranches r = Gives (λ b q. InBranches b × K q) r

  in-whole : (b : Branches) → InBranches b → P (whole b)
  in-whole b own = stays.alts (syntaxes (cat (syntaxes b.items) ∷ b.others))
      (stays.more (cat (syntaxes b.items)) (syntaxes b.others) (stays.cats (syntaxes b.items) own.0) own.1)

  limit-stays : (s : Syntax) (p q : Place) → P s → K q → StaysItem (within_limit config s p q)
  limit-stays s p q own at = test (nat_lt (limit_of config) (depth s)) (λ _. refused) (λ _. reads (own, at))

  repeat_if-stays : (more : Syntax → Place → Read Syntax) → ((s : Syntax) (q : Place) → P s → K q → StaysItem (more s q))
      → (flags : Flags) (item : Syntax) (p : Place) (b : Bool) → P item → K p → StaysItem (repeat_if config more flags item p b)
  repeat_if-stays more h flags item p false own at = reads (own, at)
  repeat_if-stays more h flags item p true own at =
      bind _ (stays.operators flags p at) (λ o q here.
      bind _ (limit-stays (repeated_by o item) p q (stays.repeats o item here.0 own) here.1) (λ s r there. h s r there.0 there.1))

  repetitions-stays : (n : ℕ) (flags : Flags) (item : Syntax) (p : Place) → P item → K p → StaysItem (repetitions config n flags item p)
  unfolding repetitions
  repetitions-stays zero flags item p own at = reads (own, at)
  repetitions-stays (suc n) flags item p own at =
      let q : Place = skip flags p in
      repeat_if-stays (repetitions config n flags) (repetitions-stays n flags) flags item q (is_operator q) own (stays.over flags p at)

  close-stays : (kind : GroupKind) (p : Place) (body : Syntax) (r : Place) → P body → K r → StaysItem (close_group config kind p body r)
  close-stays kind p body r own at = test (at_end r) (λ _. refused) (λ _. limit-stays (group kind body) r (past r) (stays.groups kind body own) (stays.on r at))

  item_then-stays : (more : Place → Read Branches) → ((q : Place) → K q → StaysBranches (more q))
      → (flags : Flags) (item : Syntax) (p : Place) → P item → K p → StaysBranches (item_then config more flags item p)
  item_then-stays more h flags item p own at =
      bind _ (repetitions-stays (length p.text + 1) flags item p own at) (λ whole_item q one.
      bind _ (h q one.1) (λ b r rest. reads ((stays.more whole_item (syntaxes b.items) one.0 rest.0.0, rest.0.1), rest.1)))

  -- what is read from each place on
  abbrev StaysOn : (Flags → ℕ → Place → Read Branches) → Type 0
  StaysOn more = (flags : Flags) (opened : ℕ) (q : Place) → K q → StaysBranches (more flags opened q)

  group_then-stays : (more : Flags → ℕ → Place → Read Branches) → StaysOn more
      → (flags : Flags) (opened : ℕ) (p : Place) (kind : GroupKind) (inside : Flags) (q : Place) (too_many : Bool) → K q
      → StaysBranches (group_then config more flags opened p kind inside q too_many)
  group_then-stays more h flags opened p kind inside q true at = refused
  group_then-stays more h flags opened p kind inside q false at =
      bind _ (h inside (opened + 1) q at) (λ body r within.
      bind _ (close-stays kind p (whole body) r (in-whole body within.0) within.1) (λ item after done.
      item_then-stays (more flags opened) (h flags opened) flags item after done.0 done.1))

  branches_at-stays : (more : Flags → ℕ → Place → Read Branches) → StaysOn more
      → (flags : Flags) (opened : ℕ) (p : Place) (t : Token) (q : Place) → K p → InToken P t → K q
      → StaysBranches (branches_at config more flags opened p (t, q))
  branches_at-stays more h flags opened p End q here own at = reads ((stays.none, stays.none), here)
  branches_at-stays more h flags opened p Close q here own at = reads ((stays.none, stays.none), here)
  branches_at-stays more h flags opened p Bar q here own at =
      bind _ (h flags opened q at) (λ b r rest.
      reads ((stays.none, stays.more (cat (syntaxes b.items)) (syntaxes b.others) (stays.cats (syntaxes b.items) rest.0.0) rest.0.1), rest.1))
  branches_at-stays more h flags opened p (Directive next) q here own at = h next opened q at
  branches_at-stays more h flags opened p (One item) q here own at = item_then-stays (more flags opened) (h flags opened) flags item q own at
  branches_at-stays more h flags opened p (Opens kind inside) q here own at =
      group_then-stays more h flags opened p kind inside q (nat_lt (limit_of config) (opened + 1)) at

  branches-stays : (n : ℕ) (flags : Flags) (opened : ℕ) (p : Place) → K p → StaysBranches (branches config n flags opened p)
  unfolding branches
  branches-stays zero flags opened p at = reads ((stays.none, stays.none), at)
  branches-stays (suc n) flags opened p at =
      let q : Place = skip flags p in
      let here : K q = stays.over flags p at in
      bind _ (stays.tokens flags q here) (λ t r own.
      branches_at-stays (branches config n) (branches-stays n) flags opened q t r here own.0 own.1)

  end-stays : (r : Read Branches) (s : Syntax) → StaysBranches r → r >>= to_end config ≡ Ok s → P s
  end-stays (Ok (b, q)) s h is = subst P (to-whole b q (at_end q) s is) (in-whole b (h.given b q refl).0)
  end-stays (Err e) s h is = cc

  pub read-stays : (text : List ℕ) (s : Syntax) → K (record { text = text; at = 0; groups = 0; names = [] }) → read config text ≡ Ok s → P s
  unfolding read
  read-stays text s at is =
      end-stays _ s (branches-stays (length text + 1) (flags_of config) 0 (record { text = text; at = 0; groups = 0; names = [] }) at) is
