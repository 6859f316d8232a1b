-- The groups of a pattern's expression are those of its syntax, and so are their names.
use Rattle.std.proofs.Common.{◌≡◌, ℕ, Bool, false, List, [], ◌∷◌, Option, Some, None, option_map, Ok, inl, inr, refl, sym, ap, subst, ◌∙◌}
use Rattle.std.proofs.lemmas.Str.{encodes_same}
use Rattle.std.specs.Prelude.{◌≤◌, slice_get}
use lib.Utf8.{encodes}
use Rattle.rx_model.specs.Expression.{Expression}
use Rattle.rx_search.specs.GroupInfo.{has_duplicate}
use Rattle.rx_hir.specs.Names.{IsNamed, IsNamedAmong, HasOneNameEach, name_in, group_names}
use Rattle.rx_hir.proofs.NamedLemmas.{one-told, names-apart}
use Rattle.rx_hir.specs.Normal.{expressions, repetition_of, concat_of, alternation_of}
use Rattle.rx_hir.proofs.NamedFormsLemmas.{repetition-named, concat-named, alternation-named}
use Rattle.rx_reader.specs.declared.config.Config.{Config}
use Rattle.rx_reader.specs.declared.group_kind.GroupKind.{GroupKind}
use Rattle.rx_reader.specs.declared.group_kind.GroupKind.TheVariants.{NonCapturing, CaptureIndex, CaptureName}
use Rattle.rx_reader.specs.Grammar.{read}
use Rattle.rx_reader.specs.Groups.{IsGroup, IsGroupAmong}
use Rattle.rx_reader.specs.Syntax.{Syntax, Syntaxes, literal, atom, repeated, group, cat, alt, nil, cons}
use Rattle.rx_reader.proofs.lemmas.patterns.GroupLemmas.{from_one, one_name, one_number}
use Rattle.rx_syntax.specs.Literals.{character}
use Rattle.rx_syntax.specs.Translation.{group_of, translated, all_translated}
use Rattle.rx_syntax.specs.Pattern.{reads}
use Rattle.rx_syntax.proofs.lemmas.translation.GivesLemmas.{Gives, gives, bind}
use Rattle.rx_syntax.proofs.lemmas.groups.ToldLemmas.{named-within, told-at}
use Rattle.rx_syntax.proofs.lemmas.groups.AtomGroups.{HasNone, character-none, atom-none}

-- Each group of the expression is one of the syntax.

-- a group of the syntax has this number and, in characters, this name
record Stands (s : Syntax) (g : ℕ) (n : Option (List ℕ)) : Type 0 where
  pub name : Option (List ℕ)
  pub group : IsGroup g name s
  pub same : n ≡ option_map encodes name

record StandsAmong (ss : Syntaxes) (g : ℕ) (n : Option (List ℕ)) : Type 0 where
  pub name : Option (List ℕ)
  pub group : IsGroupAmong g name ss
  pub same : n ≡ option_map encodes name

-- the groups of the expression stand in the syntax
record ComesFrom (s : Syntax) (h : Expression) : Type 0 where
  pub stands : (g : ℕ) (n : Option (List ℕ)) → IsNamed g n h → Stands s g n

record ComeFrom (ss : Syntaxes) (hs : List Expression) : Type 0 where
  pub stands : (g : ℕ) (n : Option (List ℕ)) → IsNamedAmong g n (expressions hs) → StandsAmong ss g n

within-group : (kind : GroupKind) (body : Syntax) (g : ℕ) (n : Option (List ℕ)) → Stands body g n → Stands (group kind body) g n
unfolding IsGroup
within-group kind body g n s = record { name = s.name; group = inr s.group; same = s.same }

group-from : (kind : GroupKind) (body : Syntax) (h : Expression) → ComesFrom body h → ComesFrom (group kind body) (group_of kind h)
unfolding IsGroup IsNamed
group-from NonCapturing body h from = record { stands = λ g n s. within-group NonCapturing body g n (from.stands g n s) }
group-from (CaptureIndex number) body h from = record {
  stands = λ g n s. elim s [
    | inl own ↦ record { name = None; group = inl (own.0, refl); same = own.1 }
    | inr inside ↦ within-group (CaptureIndex number) body g n (from.stands g n inside)
  ];
}
group-from (CaptureName number name) body h from = record {
  stands = λ g n s. elim s [
    | inl own ↦ record { name = Some name; group = inl (own.0, refl); same = own.1 }
    | inr inside ↦ within-group (CaptureName number name) body g n (from.stands g n inside)
  ];
}

none-from : (s : Syntax) (h : Expression) → HasNone h → ComesFrom s h
none-from s h none = record { stands = λ g n named. absurd (none.none g n named) }

repeated-from : (min : ℕ) (max : Option ℕ) (greedy : Bool) (body : Syntax) (h : Expression) → ComesFrom body h
    → ComesFrom (repeated min max greedy body) (repetition_of min max greedy h)
unfolding IsGroup
repeated-from min max greedy body h from = record {
  stands = λ g n s.
      let inside = from.stands g n (repetition-named g n min max greedy h s) in record { name = inside.name; group = inside.group; same = inside.same };
}

cat-from : (items : Syntaxes) (hs : List Expression) → ComeFrom items hs → ComesFrom (cat items) (concat_of hs)
unfolding IsGroup
cat-from items hs from = record {
  stands = λ g n s. let among = from.stands g n (concat-named g n hs s) in record { name = among.name; group = among.group; same = among.same };
}

alt-from : (branches : Syntaxes) (hs : List Expression) → ComeFrom branches hs → ComesFrom (alt branches) (alternation_of hs)
unfolding IsGroup
alt-from branches hs from = record {
  stands = λ g n s. let among = from.stands g n (alternation-named g n hs s) in record { name = among.name; group = among.group; same = among.same };
}

nil-from : ComeFrom nil []
unfolding IsNamed
nil-from = record { stands = λ g n s. absurd s }

cons-from : (s : Syntax) (ss : Syntaxes) (h : Expression) (hs : List Expression) → ComesFrom s h → ComeFrom ss hs → ComeFrom (cons s ss) (h ∷ hs)
unfolding IsGroup IsNamed
cons-from s ss h hs first rest = record {
  stands = λ g n named. elim named [
    | inl here ↦ (let one = first.stands g n here in record { name = one.name; group = inl one.group; same = one.same })
    | inr later ↦ (let other = rest.stands g n later in record { name = other.name; group = inr other.group; same = other.same })
  ];
}

mutual
  translated-from : (config : Config) (s : Syntax) → Gives (ComesFrom s) (translated config s)
  translated-from config (literal flags c) = gives (none-from (literal flags c) (character flags c) (character-none flags c))
  translated-from config (atom flags piece a) = record { given = λ h is. none-from (atom flags piece a) h ((atom-none config flags piece a).given h is) }
  translated-from config (repeated min max greedy body) = bind _ (translated-from config body) (λ h from. gives (repeated-from min max greedy body h from))
  translated-from config (group kind body) = bind _ (translated-from config body) (λ h from. gives (group-from kind body h from))
  translated-from config (cat items) = bind _ (all-from config items) (λ hs from. gives (cat-from items hs from))
  translated-from config (alt branches) = bind _ (all-from config branches) (λ hs from. gives (alt-from branches hs from))

  all-from : (config : Config) (ss : Syntaxes) → Gives (ComeFrom ss) (all_translated config ss)
  all-from config nil = gives nil-from
  all-from config (cons s ss) =
      bind _ (translated-from config s) (λ h first. bind _ (all-from config ss) (λ hs rest. gives (cons-from s ss h hs first rest)))

-- So the law of the syntax's groups is one of the expression's.

-- the characters of a name
record Spells (written : Option (List ℕ)) (name : List ℕ) : Type 0 where
  pub text : List ℕ
  pub is : written ≡ Some text
  pub same : encodes text ≡ name

spelled : (written : Option (List ℕ)) (name : List ℕ) → Some name ≡ option_map encodes written → Spells written name
spelled (Some text) name e = record { text = text; is = refl; same = cc }
spelled None name e = cc

named-group : (s : Syntax) (g : ℕ) (name : List ℕ) (stands : Stands s g (Some name)) → (text : List ℕ) × IsGroup g (Some text) s × (encodes text ≡ name)
named-group s g name stands =
    let spells = spelled stands.name name stands.same in
    (spells.text, (subst (λ (n : Option (List ℕ)). IsGroup g n s) spells.is stands.group), spells.same)

each-of : (config : Config) (text : List ℕ) (s : Syntax) (h : Expression) → read config text ≡ Ok s → ComesFrom s h → HasOneNameEach h
each-of config text s h is from = record {
  one_name = λ g m n a b.
      let left = from.stands g m a in
      let right = from.stands g n b in
      left.same ∙ ap (option_map encodes) (one_name config text s is g left.name right.name left.group right.group) ∙ sym right.same;
  one_number = λ g k name a b.
      let left = named-group s g name (from.stands g (Some name) a) in
      let right = named-group s k name (from.stands k (Some name) b) in
      let same : left.0 ≡ right.0 = encodes_same left.0 right.0 (left.2 ∙ sym right.2) in
      one_number config text s is g k right.0 (subst (λ (x : List ℕ). IsGroup g (Some x) s) same left.1) right.1;
}

-- the syntax that the pattern reads as, where the expression's groups stand
record IsReadOf (config : Config) (text : List ℕ) (h : Expression) : Type 0 where
  pub syntax : Syntax
  pub reads_as : read config text ≡ Ok syntax
  pub from : ComesFrom syntax h

read-gives : (config : Config) (text : List ℕ) → Gives (λ s. read config text ≡ Ok s) (read config text)
read-gives config text = record { given = λ s is. is }

reads-gives : (config : Config) (text : List ℕ) → Gives (IsReadOf config text) (reads config text)
unfolding reads
reads-gives config text =
    bind _ (read-gives config text) (λ s reads_as. record {
      given = λ h is. record { syntax = s; reads_as = reads_as; from = (translated-from config s).given h is };
    })

module _ (config : Config) (text : List ℕ) (h : Expression) (is : reads config text ≡ Ok h) where
  pub one_name_each : HasOneNameEach h
  one_name_each = let all = (reads-gives config text).given h is in each-of config text all.syntax h all.reads_as all.from

  pub from_one_on : (g : ℕ) (name : Option (List ℕ)) → IsNamed g name h → 1 ≤ g
  from_one_on g name named =
      let all = (reads-gives config text).given h is in
      let stands = all.from.stands g name named in
      from_one config text all.syntax all.reads_as g stands.name stands.group

  pub told_at_its_number : (g : ℕ) (name : List ℕ) → IsNamed g (Some name) h → slice_get (group_names h) g ≡ Some (Some name)
  told_at_its_number g name named =
      told-at h g (name_in g h) (from_one_on g (Some name) named) (named-within h g (Some name) named) refl
      ∙ ap Some (one-told h one_name_each g name named)

  pub told_once : has_duplicate (group_names h) ≡ false
  told_once = names-apart h one_name_each
