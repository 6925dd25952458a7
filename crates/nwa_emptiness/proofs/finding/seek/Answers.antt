use Rattle.std.proofs.Common.{◌∙◌, sym, subst}
use Rattle.std.specs.Prelude.{IfOk}
use Rattle.nwa_base.specs.Members.{Member}
use Rattle.nwa_base.specs.Automata.{Automaton}
use Rattle.nwa_emptiness.specs.Ties.Seen.{seen}
use Rattle.nwa_emptiness.specs.Found.{IsFound}
use Rattle.nwa_emptiness.proofs.FoundLemmas.{done_begin, done_at, none_found}
use Rattle.nwa_emptiness.proofs.finding.seek.Goals as goal

pub loop-point-init : goal.loop-point-init
loop-point-init c =
    let b = c.in_ok-begin.ensures in
    record {
      search = b.0.search;
      nwa = b.0.nwa ∙ sym c.nwa-nwa.ensures;
      done = done_begin (seen c.begin.new.search) (seen c.args.search.now).nwa b.0.nwa b.1;
    }

pub loop-point-preserved : goal.loop-point-preserved
loop-point-preserved c =
    let i = c.loop-point.invariant in
    let s = c.in_ok-expand.ensures in
    record {
      search = s.keeps.search;
      nwa = s.keeps.nwa ∙ i.nwa;
      done =
          done_at (seen c.loop-point.search) (seen c.expand.new.search) c.nwa-nwa.result.now c.in-Some.point c.loop-point.place c.is_final.result i.nwa
          c.in-Some.ensures.point.0 c.in-Some.ensures.point.1 i.done c.is_final.ensures c.if-is_final.false s;
    }

pub spelled-requires-clause-ends : goal.spelled-requires-clause-ends
spelled-requires-clause-ends c =
    subst (λ (m : Automaton). Member m.finals c.in-Some.point.state) (sym c.loop-point.invariant.nwa) (c.is_final.ensures.0 c.if-is_final.true)

pub returns : goal.returns
returns c =
    none_found (seen c.loop-point.search) (seen c.args.search.now).nwa c.loop-point.place (c.loop-point.invariant.nwa ∙ c.nwa-nwa.ensures)
    c.in_default.ensures.point c.loop-point.invariant.done

pub returns-then-is_final : goal.returns-then-is_final
returns-then-is_final c =
    subst (λ (m : Automaton). IfOk c.spelled.result (IsFound m)) (c.loop-point.invariant.nwa ∙ c.nwa-nwa.ensures) c.spelled.ensures
