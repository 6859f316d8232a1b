-- What a start or a step leads to is a state.
use Rattle.std.proofs.Common.{◌≡◌, ℕ, ◌<◌, [], ◌∷◌, length, refl, sym, ◌∙◌, ap, subst, arith, true≢false}
use Rattle.std.specs.Prelude.{Bool, true, false, Option, Some, None, if◌then◌else◌, slice_index}
use Rattle.std.proofs.lemmas.List.Elements.{All-nil, All-cons, All-get_or}
use Rattle.std.proofs.lemmas.Option.{get_or_from_slice_get, slice_get_within}
use Rattle.rx_model.proofs.lemmas.runs.RunLemmas.{by_test}
use Rattle.rx_model.specs.Search.{Anchor, free, anchored, anchored_to}
use Rattle.rx_model.proofs.lemmas.runs.FirstLemmas.{some-is}
use Rattle.rx_nfa.specs.NextMatch.{start_of}
use Rattle.rx_nfa.specs.Ordered.{AreBelow}
use Rattle.rx_determinize.specs.Key.{Key, is_dead, start_key, step_key, end_key}
use Rattle.rx_determinize.specs.Sight.{class_kept}
use Rattle.rx_dfa.specs.Automaton.{Dfa, IsSound, IsReadable, no_key, key_from, first_key, next_key, last_key}
use Rattle.rx_dfa.specs.States.{IsRead, key_after, IsReached, IsState}
use Rattle.rx_dfa.specs.Work.{IsStart, IsContext}
use Rattle.rx_dfa.proofs.lemmas.StateLemmas.{next-dead, last-dead}

read-none : (d : Dfa) → IsRead d.nfa None
read-none d = record { is_byte = tt; readable = λ kind asked word. tt }

pub reached-next : (d : Dfa) (k : Key) (byte : ℕ) → IsReached d k → IsRead d.nfa (Some byte) → IsReached d (next_key d k byte)
unfolding key_after
reached-next d k byte r read = record {
  anchor = r.anchor;
  beside = r.beside;
  items = Some byte ∷ r.items;
  begins = r.begins;
  bytes = All-cons (IsRead d.nfa) (Some byte) r.items read r.bytes;
  is = ap (λ (x : Key). next_key d x byte) r.is;
}

pub reached-last : (d : Dfa) (k : Key) → IsReached d k → IsReached d (last_key d k)
unfolding key_after
reached-last d k r = record {
  anchor = r.anchor;
  beside = r.beside;
  items = None ∷ r.items;
  begins = r.begins;
  bytes = All-cons (IsRead d.nfa) None r.items (read-none d) r.bytes;
  is = ap (λ (x : Key). last_key d x) r.is;
}

pub reached-first : (d : Dfa) (anchor : Anchor) (beside : Option ℕ) → IsRead d.nfa beside → IsReached d (first_key d anchor beside)
unfolding key_after
reached-first d anchor beside read = record {
  anchor = anchor;
  beside = beside;
  items = [];
  begins = read;
  bytes = All-nil (IsRead d.nfa);
  is = refl;
}

before-next : (d : Dfa) (k : Key) (byte : ℕ) → (next_key d k byte).before ≡ class_kept d.keeps d.classes d.bytes byte
unfolding step_key
before-next d k byte = refl

before-last : (d : Dfa) (k : Key) → (last_key d k).before ≡ None
unfolding end_key
before-last d k = refl

before-start : (d : Dfa) (start : ℕ) (loops : Bool) (before : Option ℕ) → (start_key d.kind d.nfa.states start loops before).before ≡ before
unfolding start_key
before-start d start loops before = refl

-- what is kept of a byte that stands for its class
pub kept-stand : (d : Dfa) (sound : IsSound d) (class : ℕ) → class < length d.bytes
    → class_kept d.keeps d.classes d.bytes (slice_index d.bytes class) ≡ (if d.keeps then Some (slice_index d.bytes class) else None)
kept-stand d sound class lt =
    ap (λ (n : ℕ). if d.keeps then Some (slice_index d.bytes n) else None) (sound.serve.stand.own class lt)

kept-read : (d : Dfa) (keeps : Bool) (byte : ℕ) → IsRead d.nfa (Some byte) → IsRead d.nfa (if keeps then Some byte else None)
kept-read d true byte read = read
kept-read d false byte read = read-none d

pub next-state : (d : Dfa) (sound : IsSound d) (k : Key) (class : ℕ) → class < length d.bytes → IsState d k
    → IsReadable d.nfa (Some (slice_index d.bytes class))
    → AreBelow (length d.nfa.states) (next_key d k (slice_index d.bytes class)).threads → is_dead (next_key d k (slice_index d.bytes class)) ≡ false
    → IsState d (next_key d k (slice_index d.bytes class))
next-state d sound k class lt state readable below live =
    let byte = slice_index d.bytes class in
    let read : IsRead d.nfa (Some byte) = record { is_byte = sound.serve.stand.inside class lt; readable = readable } in
    record {
      dead = λ e. absurd (true≢false (sym e ∙ live));
      reached = λ e. by_test (is_dead k)
          (λ dead. absurd (true≢false (sym (next-dead d k byte dead) ∙ live)))
          (λ alive. reached-next d k byte (state.reached alive) read);
      below = below;
      before = subst (IsRead d.nfa) (sym (before-next d k byte ∙ kept-stand d sound class lt)) (kept-read d d.keeps byte read);
    }

pub last-state : (d : Dfa) (k : Key) → IsState d k → AreBelow (length d.nfa.states) (last_key d k).threads → is_dead (last_key d k) ≡ false
    → IsState d (last_key d k)
last-state d k state below live = record {
  dead = λ e. absurd (true≢false (sym e ∙ live));
  reached = λ e. by_test (is_dead k)
      (λ dead. absurd (true≢false (sym (last-dead d k dead) ∙ live)))
      (λ alive. reached-last d k (state.reached alive));
  below = below;
  before = subst (IsRead d.nfa) (sym (before-last d k)) (read-none d);
}

pub first-state : (d : Dfa) (start : ℕ) (loops : Bool) (before : Option ℕ) → IsStart d start loops → IsContext d before → IsRead d.nfa before
    → AreBelow (length d.nfa.states) (start_key d.kind d.nfa.states start loops before).threads
    → is_dead (start_key d.kind d.nfa.states start loops before) ≡ false → IsState d (start_key d.kind d.nfa.states start loops before)
first-state d start loops before begins context read below live =
    let anchor = begins.0 in
    let beside = context.0 in
    let same : first_key d anchor beside ≡ start_key d.kind d.nfa.states start loops before =
    (λ j. key_from d.kind d.nfa.states (begins.2 j) (context.1 j) (begins.1 j)) in
    record {
      dead = λ e. absurd (true≢false (sym e ∙ live));
      reached = λ e. subst (IsReached d) same (reached-first d anchor beside (context.2 read));
      below = below;
      before = subst (IsRead d.nfa) (sym (before-start d start loops before)) read;
    }

pub dead-state : (d : Dfa) → AreBelow (length d.nfa.states) [] → IsReached d (no_key None) → IsState d (no_key None)
dead-state d below reached = record { dead = λ e. refl; reached = λ e. reached; below = below; before = read-none d }

-- runs of a mode start at a state that is there
pub start-inside : (d : Dfa) → IsSound d → (start : ℕ) (loops : Bool) → IsStart d start loops → start < length d.nfa.states
start-inside d sound start loops begins = of_mode begins.0 begins.1
  where
    of_mode : (anchor : Anchor) → start_of d.nfa anchor ≡ Some start → start < length d.nfa.states
    of_mode free is = let same : d.nfa.start_anchored ≡ start = some-is is in let lt = sound.in_range.start_anchored in omega arith
    of_mode anchored is = let same : d.nfa.start_anchored ≡ start = some-is is in let lt = sound.in_range.start_anchored in omega arith
    of_mode (anchored_to p) is =
        let same = get_or_from_slice_get d.nfa.starts p start 0 is in
        let lt = All-get_or (λ q. q < length d.nfa.states) d.nfa.starts p 0 (slice_get_within d.nfa.starts p start is) sound.in_range.starts in
        omega arith
