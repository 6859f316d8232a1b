-- Flags that are compared.
use Rattle.std.proofs.Common.{◌≡◌, Bool, true, false, ◌&&◌, refl, sym, true≢false}
use Rattle.std.proofs.lemmas.Bool.{and_parts}
use Rattle.std.specs.Bool.{beq}
use Rattle.rx_reader.specs.declared.flags.Flags.{Flags}

beq-same : (a b : Bool) → beq a b ≡ true → a ≡ b
beq-same true true h = refl
beq-same false false h = refl
beq-same true false h = absurd (true≢false (sym h))
beq-same false true h = absurd (true≢false (sym h))

-- equal in each flag
pub flags-same : (f g : Flags)
    → (beq f.case_insensitive g.case_insensitive && (beq f.multi_line
    g.multi_line && (beq f.dot_matches_new_line g.dot_matches_new_line
    && (beq f.swap_greed g.swap_greed && (beq f.unicode g.unicode && (beq f.crlf g.crlf && beq f.ignore_whitespace g.ignore_whitespace)))))) ≡ true → f ≡ g
flags-same f g h =
    let a = and_parts (beq f.case_insensitive g.case_insensitive) (beq f.multi_line g.multi_line
    && (beq f.dot_matches_new_line g.dot_matches_new_line
    && (beq f.swap_greed g.swap_greed && (beq f.unicode g.unicode && (beq f.crlf g.crlf && beq f.ignore_whitespace g.ignore_whitespace))))) h in
    let b = and_parts (beq f.multi_line g.multi_line) (beq f.dot_matches_new_line g.dot_matches_new_line
    && (beq f.swap_greed g.swap_greed && (beq f.unicode g.unicode && (beq f.crlf g.crlf && beq f.ignore_whitespace g.ignore_whitespace)))) a.1 in
    let c = and_parts (beq f.dot_matches_new_line g.dot_matches_new_line) (beq f.swap_greed g.swap_greed
    && (beq f.unicode g.unicode && (beq f.crlf g.crlf && beq f.ignore_whitespace g.ignore_whitespace))) b.1 in
    let d = and_parts (beq f.swap_greed g.swap_greed) (beq f.unicode g.unicode && (beq f.crlf g.crlf && beq f.ignore_whitespace g.ignore_whitespace)) c.1 in
    let e = and_parts (beq f.unicode g.unicode) (beq f.crlf g.crlf && beq f.ignore_whitespace g.ignore_whitespace) d.1 in
    let k = and_parts (beq f.crlf g.crlf) (beq f.ignore_whitespace g.ignore_whitespace) e.1 in
    λ i. record {
      case_insensitive = beq-same f.case_insensitive g.case_insensitive a.0 i;
      multi_line = beq-same f.multi_line g.multi_line b.0 i;
      dot_matches_new_line = beq-same f.dot_matches_new_line g.dot_matches_new_line c.0 i;
      swap_greed = beq-same f.swap_greed g.swap_greed d.0 i;
      unicode = beq-same f.unicode g.unicode e.0 i;
      crlf = beq-same f.crlf g.crlf k.0 i;
      ignore_whitespace = beq-same f.ignore_whitespace g.ignore_whitespace k.1 i;
    }
