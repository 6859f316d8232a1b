-- What the calls that fill in a template append, and where they end for want of memory.
use Rattle.std.specs.Prelude.{◌≡◌, ℕ, ◌++◌, ◌⊎◌, List, Option, Result, Err, MatchResult, OnOk}
use denote.Ref.{Bor, MutBor}
use Rattle.std.specs.Fn.{Mut, Called}
use Rattle.rx_memory.specs.declared.memory.Memory.{Memory}
use Rattle.rx_util.specs.Template.{IsTextOf, IsFrontOf, at_dollar}

-- the text of the template is appended
pub record IsWritten (piece : ℕ → List ℕ) (index : List ℕ → Option ℕ) (template old new : List ℕ) : Type 0 where
  pub text : List ℕ
  pub is : IsTextOf piece index template text
  pub appended : new ≡ old ++ text

module _ {A N D : Type 0} (append : Mut A (ℕ × (MutBor D × Unit {0})) (Result (Unit {0}) Memory × (MutBor D × Unit {0}))) (find : Mut N (Bor
    (List ℕ) × Unit {0}) (Option ℕ)) (bytes : D → List ℕ) where
  -- each call that succeeds appends the piece of the number that it is given
  abbrev pub Appends : (piece : ℕ → List ℕ) → Type 0
  Appends piece = (f f' : A) (i : ℕ) (d d' : MutBor D) (r : Result (Unit {0}) Memory) → Called append f (i, (d, tt)) (r, (d', tt)) f'
      → OnOk r (bytes d'.now ≡ bytes d.now ++ piece i)

  -- each call answers the number of the name that it is given
  abbrev pub Finds : (index : List ℕ → Option ℕ) → Type 0
  Finds index = (f f' : N) (name : Bor (List ℕ)) (r : Option ℕ) → Called find f (name, tt) r f' → r ≡ index name.now

  -- a call of `append` found these bytes, ended for want of memory, and left those
  pub record IsLeft (found left : List ℕ) : Type 0 where
    pub by : A
    pub after : A
    pub number : ℕ
    pub want : Memory
    pub given : MutBor D
    pub gone : MutBor D
    pub called : Called append by (number, (given, tt)) (Err want, (gone, tt)) after
    pub finds : bytes given.now ≡ found
    pub leaves : bytes gone.now ≡ left

  module _ (piece : ℕ → List ℕ) (index : List ℕ → Option ℕ) (template old new : List ℕ) where
    -- some pieces of the template are appended, from its front on, and then what the call of `append` left at which it ends, if it ends at one
    pub record IsCutShort : Type 0 where
      pub front : List ℕ
      pub is : IsFrontOf piece index template front
      pub left : (new ≡ old ++ front) ⊎ IsLeft (old ++ front) new

  -- the text of the template is appended; after want of memory what was appended so far
  abbrev pub Interpolates : (template old new : List ℕ) → Result (Unit {0}) Memory → Type 0
  Interpolates template old new result = (piece : ℕ → List ℕ) (index : List ℕ → Option ℕ) → Appends piece → Finds index
      → MatchResult result (λ _. IsWritten piece index template old new) (λ _. IsCutShort piece index template old new)

  -- what follows a `$` is taken so far, and what it stands for with the `$` is appended; after want of memory a part of it at most
  abbrev pub PassesDollar : (after old new : List ℕ) → Result ℕ Memory → Type 0
  PassesDollar after old new result = (piece : ℕ → List ℕ) (index : List ℕ → Option ℕ) → Appends piece → Finds index
      → MatchResult result (λ taken. (taken ≡ (at_dollar piece index after).1) × (new ≡ old ++ (at_dollar piece index after).0)) (λ _.
      (new ≡ old) ⊎ IsLeft old new)
