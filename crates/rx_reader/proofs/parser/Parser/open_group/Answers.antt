use Rattle.std.proofs.Common.{arith, true, false, ◌≡◌, ℕ, ◌+◌, Bool, length, ◌∙◌, ap, refl}
use Rattle.std.specs.Prelude.{nat_lt}
use Rattle.std.proofs.lemmas.Bool.Decides.{nat_tests}
use Rattle.rx_reader.specs.Input.{place}
use Rattle.rx_reader.specs.declared.flags.Flags.{Flags}
use Rattle.rx_reader.specs.declared.group_kind.GroupKind.{GroupKind}
use Rattle.rx_reader.specs.declared.error.SyntaxErrorKind.TheVariants.{NestLimit}
use Rattle.rx_reader.specs.Config.{limit_of}
use Rattle.rx_reader.specs.Grammar.{all_branches, group_then}
use Rattle.rx_reader.specs.Stack.{Gathered, Around, gathered, innermost, resume}
use Rattle.rx_reader.proofs.lemmas.places.ReadsLemmas.{refuse_at}
use Rattle.rx_reader.proofs.lemmas.branches.StackLemmas.{stack_of, innermost-length, resume-too_many, resume-pushed}
use Rattle.rx_reader.proofs.parser.Parser.open_group.Goals as goal

around_same : (g h : Gathered) (s t e f : ℕ) (kind : GroupKind) (flags : Flags) → g ≡ h → s ≡ t → e ≡ f
    → ◌≡◌ {A = Around} (record { gathered = g; start = s; end = e; kind = kind; flags = flags })
    (record { gathered = h; start = t; end = f; kind = kind; flags = flags })
around_same g h s t e f kind flags a b c = λ i. record { gathered = a i; start = b i; end = c i; kind = kind; flags = flags }

pub returns-then-len-get_nest_limit-clause-value : goal.returns-then-len-get_nest_limit-clause-value
returns-then-len-get_nest_limit-clause-value c p piece =
    let s = c.args.self.now in
    let fs = innermost s.frames.items in
    let q = place s.cursor in
    let same = innermost-length s.frames.items in
    let many : nat_lt (limit_of s.config) (length fs + 1) ≡ true = grind (arith, nat_tests) in
    rw c.refuse_from.ensures (
    ap (λ (b : Bool). resume s.config fs (gathered s.level) (group_then s.config (all_branches s.config) s.flags (length fs) p c.args.kind c.args.flags q b))
    many
    ∙ resume-too_many s.config fs (gathered s.level) s.flags (length fs) p c.args.kind c.args.flags q
    ∙ refuse_at NestLimit p q c.args.opening.start q.at piece.0 refl)

pub returns-clause-value : goal.returns-clause-value
returns-clause-value c p piece =
    let s = c.args.self.now in
    let fs = innermost s.frames.items in
    let same = innermost-length s.frames.items in
    let few : nat_lt (limit_of s.config) (length fs + 1) ≡ false = grind (arith, nat_tests) in
    resume-pushed s.config fs (innermost c.push.new.self.items) _ (gathered s.level) (gathered c.replace-level.new.dest) s.flags p c.args.kind c.args.flags
    (place s.cursor)
    (stack_of c.push.new.self.items s.frames.items _ c.in_ok-push.ensures.items) (ap gathered c.replace-level.ensures.after ∙ c.new.ensures)
    (around_same _ (gathered s.level) _ _ _ _ _ _ (ap gathered c.replace-level.ensures.value) piece.0 piece.1) few
