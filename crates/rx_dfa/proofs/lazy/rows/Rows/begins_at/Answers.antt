use Rattle.std.proofs.Common.{true, subst}
use Rattle.rx_dfa.specs.Lazy.{StandsFor, begun_key}
use Rattle.rx_dfa.proofs.lazy.rows.Rows.begins_at.Goals as goal

pub returns : goal.returns
returns c yes_is =
    let l = c.args.lazy.now in
    let keys = c.args.self.now.keys in
    let known = c.args.known in
    let same = c.is_start_at.ensures yes_is in (
      known.before,
      subst (λ n. StandsFor l.stride keys n (begun_key l.dfa c.args.start true known.before)) same.0
          (subst (λ q. StandsFor l.stride keys known.state (begun_key l.dfa q true known.before)) same.1
          (subst (λ b. StandsFor l.stride keys known.state (begun_key l.dfa known.start b known.before)) same.2 c.requires)),
    )
