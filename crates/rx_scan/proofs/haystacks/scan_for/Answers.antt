use denote.Param.Send.{sendable}
use Rattle.std.proofs.Crossing.{crosses}
use Rattle.std.proofs.Common.{◌≡◌, true, false, sym, ◌∙◌, ap, subst}
use Rattle.rx_search.specs.Needles.{BeginsEachMatch}
use Rattle.rx_search.specs.Told.{tells}
use Rattle.rx_meta.specs.Build.{patterns_for}
use Rattle.rx_meta.specs.Config.{ConfigValue, captures_of, prefilter_of}
use Rattle.rx_meta.proofs.cache.Cache.TheSendSync as cache
use Rattle.rx_meta.proofs.ThreadLemmas.{regex_sync}
use Rattle.rx_scan.proofs.ThreadLemmas.{works_sync}
use Rattle.rx_scan.proofs.HaystackLemmas.{outcomes-whole, outcomes-silent, serves-finds}
use Rattle.rx_scan.proofs.haystacks.scan_for.Goals as goal

pub returns : goal.returns
returns g c = λ config hs built leftmost begins utf8.
    let r = patterns_for config hs in
    let told : tells (captures_of config) ≡ true = ap (λ k. tells (captures_of k)) (sym built.config) ∙ sym c.if-not-tells_matches.ensures in
    let given : BeginsEachMatch (prefilter_of c.args.regex.now.config) r =
    subst (λ (k : ConfigValue). BeginsEachMatch (prefilter_of k) r) (sym built.config) begins in
    outcomes-whole (g.O.Outcome.are c.args.outcome.now) c.args.regex.now (g.H.Haystacks.texts c.args.haystacks.now) r c.do_all.result c.do_all.ensures
    (λ k d below. serves-finds c.args.regex.now r _ built.serves given (built.kind ∙ leftmost) built.groups told (λ on. utf8 on k d below))

pub returns-then-not-tells_matches : goal.returns-then-not-tells_matches
returns-then-not-tells_matches g c = λ config hs built leftmost begins utf8.
    let silent : tells (captures_of config) ≡ false = ap (λ k. tells (captures_of k)) (sym built.config) ∙ sym c.if-not-tells_matches.ensures in
    let texts = g.H.Haystacks.texts c.args.haystacks.now in
    outcomes-silent (g.O.Outcome.are c.args.outcome.now) c.args.regex.now texts (patterns_for config hs) c.no_rows.result silent c.no_rows.ensures

pub do_all-requires-send-T-Scratch : goal.do_all-requires-send-T-Scratch
do_all-requires-send-T-Scratch g c κs within = search (sendable, crosses, regex_sync, cache.the_send) fits 5000 depth 40

pub do_all-requires-sync-T : goal.do_all-requires-sync-T
do_all-requires-sync-T g c κs within = search (sendable, works_sync)
