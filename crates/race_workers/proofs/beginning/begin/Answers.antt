use Rattle.std.proofs.Common.{◌≡◌, ◌∙◌, length, sym, ap, true≢false, arith}
use Rattle.std.specs.Arc.{arc_value}
use Rattle.nwa_base.specs.Acceptance.{Accepts}
use Rattle.race_core.specs.declared.events.Entry.{Entry}
use Rattle.itp_automaton.specs.Certified.{Certificate}
use Rattle.race_rounds.specs.Rounds.{automaton_in}
use Rattle.version_cell.specs.Passes.{Known}
use Rattle.race_workers.proofs.Givens.{fair_first, known_of, opened}
use Rattle.race_workers.proofs.beginning.begin.Goals as goal

pub publish-requires-clause-cell : goal.publish-requires-clause-cell
publish-requires-clause-cell g c κs within = c.requires.pass.1

pub publish-requires-clause-fair : goal.publish-requires-clause-fair
publish-requires-clause-fair g c κs within =
    let a = known_of (λ (e : Entry Certificate). Accepts c.args.icfg.now.automaton e.word × Accepts (automaton_in e.evidence) e.word) c.args.first c.in-Some.entry
    c.in-Some.is c.requires.given in
    fair_first c.args.cell.now c.args.pass.now c.args.icfg.now.automaton c.nwa.result.now (arc_value c.in-Ok.kept) c.in-Some.entry c.requires.pass.0
    c.requires.cell.0 c.nwa.ensures.value a.0 a.1 c.in-Ok.ensures.words

-- the pass has all shares, so no other stands in its way
pub unreachable-requires : goal.unreachable-requires
unreachable-requires g c =
    let first = c.requires.pass.0 in
    let whole : c.args.pass.now.shares ≡ c.args.pass.now.total =
    ap (λ (k : Known Certificate). k.shares) first ∙ sym (ap (λ (k : Known Certificate). k.total) first) in
    let open_ = ap (λ (k : Known Certificate). k.finish) first in
    let seen : 0 ≡ length c.args.pass.now.seen = sym (ap (λ (k : Known Certificate). length k.seen) first) in
    let limit = ap (λ (k : Known Certificate). k.limit) first in
    let some = c.requires.cell.1 in
    true≢false (sym (c.in-Err.ensures.whole whole open_ seen (omega (arith, limit, some))))

pub returns-clause-pass : goal.returns-clause-pass
returns-clause-pass g c =
    let m = c.in-Ok-publish.ensures.moment in
    opened c.args.first c.args.pass.now c.publish.new.pass m.0 c.in-Some.entry c.in-Some.is m.3.2 m.3.3
