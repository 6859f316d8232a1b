-- What flags, names, counts and openings read as, case by case.
use Rattle.std.proofs.Common.{◌≡◌, ℕ, ◌==◌, Bool, true, false, not, ◌&&◌, ◌||◌, List, length, Option, Some, None, Ok, Err, refl, ◌∙◌, ap, sym}
use Rattle.std.specs.Prelude.{if◌then◌else◌}
use Rattle.std.specs.List.{take_while}
use Rattle.std.specs.Char.{is_ascii_digit}
use Rattle.rx_reader.specs.declared.error.SyntaxError.{SyntaxError}
use Rattle.rx_reader.specs.declared.error.SyntaxErrorKind.TheVariants.{UnclosedGroup, Flag, GroupName, GroupNameTwice, Unsupported}
use Rattle.rx_reader.specs.declared.flags.Flags.{Flags}
use Rattle.rx_reader.specs.declared.operator.Counts.{Counts}
use Rattle.rx_reader.specs.declared.operator.Operator.{Operator}
use Rattle.rx_reader.specs.declared.opening.Opening.TheVariants.{Group, Directive}
use Rattle.rx_reader.specs.declared.group_kind.GroupKind.TheVariants.{NonCapturing, CaptureName}
use Rattle.rx_reader.specs.Reading.{Place, Read, refuse, at_end, first, past, past_white, is_at, begins, has_name, add_name, count_group}
use Rattle.rx_reader.specs.Ahead.{past_n, skip}
use Rattle.rx_reader.specs.Flags.{letters, ends_with_hyphen, may_end_at, changed, read_flags}
use Rattle.rx_reader.specs.Names.{name_of, read_name}
use Rattle.rx_reader.specs.Counts.{number_of, number_at, read_number, read_max, max_after, close_counts, read_counts, counts_of, with_greed, operator_of, operator}
use Rattle.rx_reader.specs.Groups.{number_after}
use Rattle.rx_reader.specs.Openings.{is_look_ahead, is_look_behind, is_reference, named, flagged, plain, opening}

-- Flags, whose letters end at q.

pub flags_cut : (from p q : Place) (flags : Flags) (n : ℕ) → n ≡ length (letters p.text) → q ≡ past_n n p → at_end q ≡ true
    → read_flags from flags p ≡ refuse UnclosedGroup from (past from)
unfolding read_flags
flags_cut from p q flags n len here cut = rw (← len, ← here, cut) refl

abbrev flags_by : (from q : Place) → Flags → (cut ends : Bool) → Read Flags
flags_by from q flags cut ends =
    if cut then refuse UnclosedGroup from (past from) else if ends then Ok (flags, q) else refuse Flag q (past q)

abbrev ends_at : (named : List ℕ) → (n : ℕ) → Place → Bool
ends_at named n q = not (ends_with_hyphen named) && may_end_at n q

flags_read : (from p q : Place) (flags : Flags) (n : ℕ) → n ≡ length (letters p.text) → q ≡ past_n n p
    → read_flags from flags p ≡ flags_by from q (changed (letters p.text) flags) (at_end q) (ends_at (letters p.text) n q)
unfolding read_flags
flags_read from p q flags n len here =
    let there : q ≡ past_n (length (letters p.text)) p = here ∙ ap (λ (k : ℕ). past_n k p) len in
    let by : Place → ℕ → Read Flags = λ x k. flags_by from x (changed (letters p.text) flags) (at_end x) (ends_at (letters p.text) k x) in
    ap (λ (x : Place). by x (length (letters p.text))) (sym there) ∙ ap (by q) (sym len)

flags_by_tests : (from q : Place) (flags : Flags) (a b c d : Bool) → a ≡ b → c ≡ d → flags_by from q flags a c ≡ flags_by from q flags b d
flags_by_tests from q flags a b c d cut ends = λ i. flags_by from q flags (cut i) (ends i)

pub flags_fail : (from p q : Place) (flags : Flags) (n : ℕ) → n ≡ length (letters p.text) → q ≡ past_n n p → at_end q ≡ false
    → (not (ends_with_hyphen (letters p.text)) && may_end_at n q) ≡ false → read_flags from flags p ≡ refuse Flag q (past q)
flags_fail from p q flags n len here cut ends =
    flags_read from p q flags n len here ∙ flags_by_tests from q (changed (letters p.text) flags) (at_end q) false (ends_at (letters p.text) n q) false cut ends

pub flags_done : (from p q : Place) (flags : Flags) (n : ℕ) → n ≡ length (letters p.text) → q ≡ past_n n p → at_end q ≡ false
    → (not (ends_with_hyphen (letters p.text)) && may_end_at n q) ≡ true → read_flags from flags p ≡ Ok (changed (letters p.text) flags, q)
flags_done from p q flags n len here cut ends =
    flags_read from p q flags n len here ∙ flags_by_tests from q (changed (letters p.text) flags) (at_end q) false (ends_at (letters p.text) n q) true cut ends

-- A name that ends at q.

pub name_fails : (p q : Place) (n : ℕ) → n ≡ length (name_of p.text) → q ≡ past_n n p → ((n == 0) || not (is_at ">" q)) ≡ true
    → read_name p ≡ refuse GroupName p q
unfolding read_name
name_fails p q n len here fails = rw (← len, ← here, fails) refl

pub name_taken : (p q : Place) (n : ℕ) → n ≡ length (name_of p.text) → q ≡ past_n n p → ((n == 0) || not (is_at ">" q)) ≡ false
    → has_name (name_of p.text) q ≡ true → read_name p ≡ refuse GroupNameTwice p q
unfolding read_name
name_taken p q n len here fails taken = rw (← len, ← here, fails, taken) refl

pub name_read : (p q : Place) (n : ℕ) → n ≡ length (name_of p.text) → q ≡ past_n n p → ((n == 0) || not (is_at ">" q)) ≡ false
    → has_name (name_of p.text) q ≡ false → read_name p ≡ Ok (name_of p.text, add_name (name_of p.text) (past q))
unfolding read_name
name_read p q n len here fails taken = rw (← len, ← here, fails, taken) refl

-- A count whose digits end at q.

pub number_read : (from p begun q : Place) (flags : Flags) (n : ℕ) → begun ≡ past_white flags.ignore_whitespace p
    → n ≡ length (take_while is_ascii_digit begun.text) → q ≡ past_n n begun
    → read_number from flags p ≡ number_at from flags (number_of (take_while is_ascii_digit begun.text)) q
unfolding read_number
number_read from p begun q flags n white len here = rw (← white, ← len, ← here) refl

-- The greatest count, where the white space ends at q.

pub max_none : (from p q : Place) (flags : Flags) → q ≡ past_white flags.ignore_whitespace p → is_at "}" q ≡ true → read_max from flags p ≡ Ok (None, q)
unfolding read_max
max_none from p q flags white ends = rw (← white, ends) refl

pub max_refused : (from p q : Place) (flags : Flags) (e : SyntaxError) → q ≡ past_white flags.ignore_whitespace p → is_at "}" q ≡ false
    → read_number from flags q ≡ Err e → read_max from flags p ≡ Err e
unfolding read_max
max_refused from p q flags e white ends refused = rw (← white, ends, refused) refl

pub max_some : (from p q r : Place) (flags : Flags) (n : ℕ) → q ≡ past_white flags.ignore_whitespace p → is_at "}" q ≡ false
    → read_number from flags q ≡ Ok (n, r) → read_max from flags p ≡ Ok (Some n, r)
unfolding read_max
max_some from p q r flags n white ends found = rw (← white, ends, found) refl

-- Counts.

pub counts_refused : (p begun : Place) (flags : Flags) (e : SyntaxError) → begun ≡ past p → read_number p flags begun ≡ Err e → read_counts flags p ≡ Err e
unfolding read_counts
counts_refused p begun flags e next refused = rw (← next, refused) refl

pub counts_max_refused : (p begun q : Place) (flags : Flags) (min : ℕ) (e : SyntaxError) → begun ≡ past p → read_number p flags begun ≡ Ok (min, q)
    → max_after p flags min q ≡ Err e → read_counts flags p ≡ Err e
unfolding read_counts
counts_max_refused p begun q flags min e next found refused = rw (← next, found, refused) refl

pub counts_closed : (p begun q r : Place) (flags : Flags) (min : ℕ) (max : Option ℕ) → begun ≡ past p → read_number p flags begun ≡ Ok (min, q)
    → max_after p flags min q ≡ Ok (max, r) → read_counts flags p ≡ close_counts p min max r
unfolding read_counts
counts_closed p begun q r flags min max next found most = rw (← next, found, most) refl

-- Operators.

pub operator_simple : (p q : Place) (flags : Flags) → q ≡ past p → is_at "*+?" p ≡ true → operator flags p ≡ Ok (operator_of flags (counts_of (first p)) q q)
unfolding operator
operator_simple p q flags next simple = rw (simple, next) refl

pub operator_without_min : (p : Place) (flags : Flags) → is_at "*+?" p ≡ false → begins "{," p ≡ true → operator flags p ≡ refuse Unsupported p (past_n 2 p)
unfolding operator
operator_without_min p flags simple without = rw (simple, without) refl

pub operator_refused : (p : Place) (flags : Flags) (e : SyntaxError) → is_at "*+?" p ≡ false → begins "{," p ≡ false → read_counts flags p ≡ Err e
    → operator flags p ≡ Err e
unfolding operator
operator_refused p flags e simple without refused = rw (simple, without, refused) refl

pub operator_counted : (p q : Place) (flags : Flags) (counts : Counts) → is_at "*+?" p ≡ false → begins "{," p ≡ false → read_counts flags p ≡ Ok (counts, q)
    → operator flags p ≡ Ok (operator_of flags counts q (skip flags q))
unfolding operator
operator_counted p q flags counts simple without found = rw (simple, without, found) refl

-- the operator and the place that were found
pub operator_is : (flags : Flags) (found counts : Counts) (q r after : Place) (lazy : Bool) (o : Operator) → found ≡ counts → lazy ≡ begins "?" r
    → o ≡ with_greed found lazy flags → after ≡ (if lazy then past r else q) → ◌≡◌ {A = Read Operator} (Ok (operator_of flags counts q r)) (Ok (o, after))
operator_is flags found counts q r after lazy o same is made there =
    let by : Counts → Bool → Read Operator = λ k b. Ok (with_greed k b flags, if b then past r else q) in
    ap (λ (k : Counts). by k (begins "?" r)) (sym same) ∙ ap (by found) (sym is) ∙ (λ i. Ok (sym made i, sym there i))

-- Openings.

pub named_refused : (p : Place) (flags : Flags) (e : SyntaxError) → read_name p ≡ Err e → named flags p ≡ Err e
unfolding named
named_refused p flags e refused = rw refused refl

pub named_read : (p q : Place) (flags : Flags) (name : List ℕ) → read_name p ≡ Ok (name, q)
    → named flags p ≡ Ok (Group (CaptureName (number_after q.groups) name) flags, count_group q)
unfolding named
named_read p q flags name found = rw found refl

pub flagged_refused : (p begun : Place) (flags : Flags) (e : SyntaxError) → begun ≡ past_n 2 p → read_flags p flags begun ≡ Err e → flagged flags p ≡ Err e
unfolding flagged
flagged_refused p begun flags e next refused = rw (← next, refused) refl

pub flagged_read : (p begun q : Place) (flags inside : Flags) → begun ≡ past_n 2 p → read_flags p flags begun ≡ Ok (inside, q)
    → flagged flags p ≡ Ok (if is_at ":" q then Group NonCapturing inside else Directive inside, past q)
unfolding flagged
flagged_read p begun q flags inside next found = rw (← next, found) refl

pub opens_ahead : (p : Place) (flags : Flags) → is_look_ahead p ≡ true → opening flags p ≡ refuse Unsupported p (past_n 3 p)
unfolding opening
opens_ahead p flags ahead = rw ahead refl

pub opens_behind : (p : Place) (flags : Flags) → is_look_ahead p ≡ false → is_look_behind p ≡ true → opening flags p ≡ refuse Unsupported p (past_n 4 p)
unfolding opening
opens_behind p flags ahead behind = rw (ahead, behind) refl

pub opens_reference : (p : Place) (flags : Flags) → is_look_ahead p ≡ false → is_look_behind p ≡ false → is_reference p ≡ true
    → opening flags p ≡ refuse Unsupported p (past_n 4 p)
unfolding opening
opens_reference p flags ahead behind back = rw (ahead, behind, back) refl

pub opens_named : (p : Place) (flags : Flags) → is_look_ahead p ≡ false → is_look_behind p ≡ false → is_reference p ≡ false → begins "(?P<" p ≡ true
    → opening flags p ≡ named flags (past_n 4 p)
unfolding opening
opens_named p flags ahead behind back found = rw (ahead, behind, back, found) refl

pub opens_short : (p : Place) (flags : Flags) → is_look_ahead p ≡ false → is_look_behind p ≡ false → is_reference p ≡ false → begins "(?P<" p ≡ false
    → begins "(?<" p ≡ true → opening flags p ≡ named flags (past_n 3 p)
unfolding opening
opens_short p flags ahead behind back long found = rw (ahead, behind, back, long, found) refl

pub opens_flagged : (p : Place) (flags : Flags) → is_look_ahead p ≡ false → is_look_behind p ≡ false → is_reference p ≡ false → begins "(?P<" p ≡ false
    → begins "(?<" p ≡ false → begins "(?" p ≡ true → opening flags p ≡ flagged flags p
unfolding opening
opens_flagged p flags ahead behind back long short found = rw (ahead, behind, back, long, short, found) refl

pub opens_plain : (p : Place) (flags : Flags) → is_look_ahead p ≡ false → is_look_behind p ≡ false → is_reference p ≡ false → begins "(?P<" p ≡ false
    → begins "(?<" p ≡ false → begins "(?" p ≡ false → opening flags p ≡ Ok (plain flags p)
unfolding opening
opens_plain p flags ahead behind back long short none = rw (ahead, behind, back, long, short, none) refl
