-- Dead keys, and bytes that a DFA reads.
use Rattle.std.proofs.Common.{◌≡◌, ℕ, ◌<◌, List, [], ◌∷◌, length, refl, sym, ◌∙◌, ap, arith, true≢false}
use Rattle.std.specs.Prelude.{Bool, true, false, not, ◌||◌, ◌&&◌, Option, Some, None, IsTrue, nat_lt, if◌then◌else◌, slice_index}
use Rattle.std.proofs.lemmas.Bool.Decides.{nat_tests}
use Rattle.rx_model.specs.Look.{Look, start_text, end_text, start_lf, end_lf, start_crlf, end_crlf, word_ascii, word_ascii_negate, word_unicode, word_unicode_negate, word_start_ascii, word_end_ascii, word_start_unicode, word_end_unicode, word_start_half_ascii, word_end_half_ascii, word_start_half_unicode, word_end_half_unicode}
use Rattle.rx_model.specs.Beside.{is_unicode_word, AreAlike}
use Rattle.rx_model.proofs.lemmas.runs.RunLemmas.{by_test}
use Rattle.rx_search.specs.LookSet.{has}
use Rattle.rx_search.specs.declared.anchored.MatchKind.{MatchKind}
use Rattle.rx_search.specs.declared.anchored.MatchKind.TheVariants.{All, LeftmostFirst}
use Rattle.rx_nfa.specs.ByteClasses.{AreOfOneClass}
use Rattle.rx_nfa.specs.Nfa.{Nfa}
use Rattle.rx_nfa.specs.Ordered.{threads_from}
use Rattle.rx_nfa.specs.declared.state.State.{State}
use Rattle.rx_nfa.proofs.lemmas.classes.ApartLemmas.{one-class-looks}
use Rattle.rx_determinize.specs.Key.{Key, Sight, is_dead, is_empty, matching, end_key}
use Rattle.rx_determinize.proofs.lemmas.DeadLemmas.{no-thread, threads-nil}
use Rattle.rx_determinize.proofs.lemmas.SightLemmas.{class-steps}
use Rattle.rx_dfa.specs.Automaton.{Dfa, IsSound, IsReadable, MakesQuit, sight_of, no_key, next_key, last_key}
use Rattle.rx_dfa.specs.Alphabet.{reads}
use Rattle.rx_dfa.specs.States.{canonical, is_special, IsRead}
use Rattle.rx_dfa.specs.Job.{IsServed}

parts-dead : (threads : List ℕ) (loops : Bool) (matches : List ℕ) → (is_empty threads && not loops && is_empty matches) ≡ true
    → (threads ≡ []) × (loops ≡ false) × (matches ≡ [])
parts-dead [] false [] e = (refl, refl, refl)
parts-dead [] false (m ∷ ms) e = absurd (true≢false (sym e))
parts-dead [] true matches e = absurd (true≢false (sym e))
parts-dead (t ∷ ts) loops matches e = absurd (true≢false (sym e))

pub dead-parts : (k : Key) → is_dead k ≡ true → (k.threads ≡ []) × (k.loops ≡ false) × (k.matches ≡ [])
dead-parts k e = parts-dead k.threads k.loops k.matches e

pub canonical-dead : (k : Key) → is_dead k ≡ true → canonical k ≡ no_key None
canonical-dead k e = ap (λ (b : Bool). if b then no_key None else k) e

pub canonical-live : (k : Key) → is_dead k ≡ false → canonical k ≡ k
canonical-live k e = ap (λ (b : Bool). if b then no_key None else k) e

pub dead-canonical : (k : Key) → is_dead (canonical k) ≡ is_dead k
dead-canonical k = by_test (is_dead k) (λ e. ap is_dead (canonical-dead k e) ∙ sym e) (λ e. ap is_dead (canonical-live k e))

pub special-canonical : (k : Key) → is_special (canonical k) ≡ is_special k
special-canonical k =
    by_test (is_dead k)
    (λ e. ap is_special (canonical-dead k e) ∙ sym (ap (λ (b : Bool). b || not (is_empty k.matches)) e))
    (λ e. ap is_special (canonical-live k e))

pub matches-canonical : (k : Key) → (canonical k).matches ≡ k.matches
matches-canonical k =
    by_test (is_dead k)
    (λ e. let p = dead-parts k e in ap (λ (x : Key). x.matches) (canonical-dead k e) ∙ sym p.2)
    (λ e. ap (λ (x : Key). x.matches) (canonical-live k e))

pub next-dead : (d : Dfa) (k : Key) (byte : ℕ) → is_dead k ≡ true → is_dead (next_key d k byte) ≡ true
next-dead d k byte e = let p = dead-parts k e in ap is_dead (no-thread d.kind d.nfa.states d.nfa.start_anchored (sight_of d) k p.0 p.1 byte)

matching-none : (kind : MatchKind) (states : List State) → is_empty (matching kind states []) ≡ true
matching-none All states = refl
matching-none LeftmostFirst states = refl

end-dead : (kind : MatchKind) (states : List State) (sight : Sight) (k : Key) (after : Option ℕ) → k.threads ≡ []
    → is_dead (end_key kind states sight k after) ≡ true
unfolding end_key
end-dead kind states sight k after none =
    ap (λ ts. is_empty (matching kind states (threads_from states (sight.holds k.before after) ts))) none
    ∙ ap (λ qs. is_empty (matching kind states qs)) (threads-nil states (sight.holds k.before after))
    ∙ matching-none kind states

pub last-dead : (d : Dfa) (k : Key) → is_dead k ≡ true → is_dead (last_key d k) ≡ true
last-dead d k e = let p = dead-parts k e in end-dead d.kind d.nfa.states (sight_of d) k None p.0

pub canonical-next : (d : Dfa) (k : Key) (byte : ℕ) → canonical (next_key d (canonical k) byte) ≡ canonical (next_key d k byte)
canonical-next d k byte =
    by_test (is_dead k)
    (λ e. canonical-dead (next_key d (canonical k) byte) (next-dead d (canonical k) byte (dead-canonical k ∙ e))
    ∙ sym (canonical-dead (next_key d k byte) (next-dead d k byte e)))
    (λ e. ap (λ (x : Key). canonical (next_key d x byte)) (canonical-live k e))

pub canonical-last : (d : Dfa) (k : Key) → canonical (last_key d (canonical k)) ≡ canonical (last_key d k)
canonical-last d k =
    by_test (is_dead k)
    (λ e. canonical-dead (last_key d (canonical k)) (last-dead d (canonical k) (dead-canonical k ∙ e))
    ∙ sym (canonical-dead (last_key d k) (last-dead d k e)))
    (λ e. ap (λ (x : Key). canonical (last_key d x)) (canonical-live k e))

pub reads-readable : (d : Dfa) (asks : Bool) → IsServed d asks → (byte : ℕ) → reads asks byte ≡ true → IsReadable d.nfa (Some byte)
reads-readable d false served byte e = λ kind asked word. absurd (served.no_words refl (kind, asked, word))
reads-readable d true served byte e = λ kind asked word. let lt : byte < 128 = grind (arith, nat_tests) in lt

pub unread-quits : (d : Dfa) (asks : Bool) → IsServed d asks → (byte : ℕ) → reads asks byte ≡ false → MakesQuit d.nfa byte
unread-quits d false served byte e = absurd (true≢false e)
unread-quits d true served byte e = let gt : 127 < byte = grind (arith, nat_tests) in (served.words refl, gt)

pub quit-unreadable : (nfa : Nfa) (byte : ℕ) → MakesQuit nfa byte → IsReadable nfa (Some byte) → ⊥
quit-unreadable nfa byte quits readable =
    let asks = quits.0 in
    let high : 127 < byte = quits.1 in
    let lt : byte < 128 = readable asks.0 asks.1 asks.2 in
    omega arith

alike-high : (terminator : ℕ) (kind : Look) (b c : ℕ) → IsTrue (is_unicode_word kind) → AreAlike terminator kind b c → nat_lt 127 b ≡ nat_lt 127 c
alike-high terminator start_text b c word alike = absurd (true≢false (sym word))
alike-high terminator end_text b c word alike = absurd (true≢false (sym word))
alike-high terminator start_lf b c word alike = absurd (true≢false (sym word))
alike-high terminator end_lf b c word alike = absurd (true≢false (sym word))
alike-high terminator start_crlf b c word alike = absurd (true≢false (sym word))
alike-high terminator end_crlf b c word alike = absurd (true≢false (sym word))
alike-high terminator word_ascii b c word alike = absurd (true≢false (sym word))
alike-high terminator word_ascii_negate b c word alike = absurd (true≢false (sym word))
alike-high terminator word_unicode b c word alike = alike.1
alike-high terminator word_unicode_negate b c word alike = alike.1
alike-high terminator word_start_ascii b c word alike = absurd (true≢false (sym word))
alike-high terminator word_end_ascii b c word alike = absurd (true≢false (sym word))
alike-high terminator word_start_unicode b c word alike = alike.1
alike-high terminator word_end_unicode b c word alike = alike.1
alike-high terminator word_start_half_ascii b c word alike = absurd (true≢false (sym word))
alike-high terminator word_end_half_ascii b c word alike = absurd (true≢false (sym word))
alike-high terminator word_start_half_unicode b c word alike = alike.1
alike-high terminator word_end_half_unicode b c word alike = alike.1

-- a byte, and the one that stands for its class
module _ (d : Dfa) (sound : IsSound d) (byte : ℕ) (small : byte < 256) where
  abbrev pub stand : ℕ
  stand = slice_index d.bytes (slice_index d.classes byte)

  pub class-inside : slice_index d.classes byte < length d.bytes
  class-inside = sound.serve.in_order byte small

  one-class : AreOfOneClass d.classes byte stand
  one-class = record {
    first = small;
    second = sound.serve.stand.inside (slice_index d.classes byte) class-inside;
    same = sym (sound.serve.stand.own (slice_index d.classes byte) class-inside);
  }

  stand-high : (kind : Look) → has d.nfa.looks kind ≡ true → IsTrue (is_unicode_word kind) → nat_lt 127 byte ≡ nat_lt 127 stand
  stand-high kind asked word =
      alike-high d.nfa.terminator kind byte stand word (one-class-looks d.nfa sound.in_range byte stand kind (sound.serve.finer byte stand one-class) asked)

  pub stand-readable : IsReadable d.nfa (Some byte) → IsReadable d.nfa (Some stand)
  stand-readable readable = λ kind asked word.
      let same = stand-high kind asked word in
      let lt : byte < 128 = readable kind asked word in
      let there : stand < 128 = grind (arith, nat_tests) in
      there

  pub stand-quits : MakesQuit d.nfa byte → MakesQuit d.nfa stand
  stand-quits quits =
      let asks = quits.0 in
      let high : 127 < byte = quits.1 in
      let same = stand-high asks.0 asks.1 asks.2 in
      let there : 127 < stand = grind (arith, nat_tests) in
      (asks, there)

  pub quits-stand : MakesQuit d.nfa stand → MakesQuit d.nfa byte
  quits-stand quits =
      let asks = quits.0 in
      let high : 127 < stand = quits.1 in
      let same = stand-high asks.0 asks.1 asks.2 in
      let there : 127 < byte = grind (arith, nat_tests) in
      (asks, there)

  pub stand-next : (k : Key) → IsRead d.nfa k.before → IsReadable d.nfa (Some byte) → next_key d k byte ≡ next_key d k stand
  stand-next k before readable =
      class-steps d.nfa sound.in_range d.keeps d.classes d.bytes sound.serve byte stand one-class d.nfa.reverse d.kind d.nfa.start_anchored k before.is_byte
      (λ look asked word. (before.readable look asked word, readable look asked word))
