use Rattle.std.proofs.Common.{◌≡◌, List, Option, sym, subst}
use Rattle.std.specs.Prelude.{Ok, IfSome}
use Rattle.lin_rows.specs.Points.{point_of}
use Rattle.letter_acts.specs.Invariant.{Graph}
use Rattle.itp_automaton.specs.Certified.{Certificate}
use Rattle.int_decide.specs.declared.types.Answer.{Answer}
use Rattle.path_decide.specs.Decided.{IsAnswer, IsOwn}
use Rattle.race_rounds.specs.Rounds.{IsEvidence}
use Rattle.race_rounds.proofs.TreeCuts.{few_cuts}
use Rattle.race_rounds.proofs.NoPoints.{no_point}
use Rattle.race_rounds.proofs.Says.{predicates_pass}
use Rattle.race_rounds.proofs.refining.refine.Goals as goal

pub returns-in-Some : goal.returns-in-Some
returns-in-Some g c = λ t e n. subst (λ (x : Graph). IsEvidence x c.args.path.now.word c.in-Some.automaton) e
    (subst (λ (x : Option Certificate). IfSome x (IsEvidence c.args.icfg.now c.args.path.now.word)) c.in-Some.is c.in_ok-automaton.ensures)

pub automaton_under-requires-clause-cuts : goal.automaton_under-requires-clause-cuts
automaton_under-requires-clause-cuts g c κs within =
    let found = subst (λ (a : Answer). IsAnswer c.args.icfg.now c.args.limits.depth c.args.path.now.word (Ok a)) c.in-Ok-Refuted.field-0-is (c.in-Ok-Refuted.ensures.answer c.args.icfg.now c.requires.path) in
    few_cuts c.args.limits.depth c.in-Ok-Refuted.own c.requires.depth found.tree

pub returns-in-Some-2 : goal.returns-in-Some-2
returns-in-Some-2 g c = λ t e n. subst (λ (x : Graph). IsEvidence x c.args.path.now.word c.in-Some-2.automaton) e
    (subst (λ (x : Option Certificate). IfSome x (IsEvidence c.args.icfg.now c.args.path.now.word)) c.in-Some-2.is c.in_ok-automaton-in-Ok-Refuted.ensures.evidence)

pub returns-in-Ok-Refuted : goal.returns-in-Ok-Refuted
returns-in-Ok-Refuted g c = λ t e n.
    let own = subst (λ (a : Answer). IsOwn c.args.icfg.now c.args.limits.depth c.args.path.now.word (Ok a)) c.in-Ok-Refuted.field-0-is (c.in-Ok-Refuted.ensures.own c.args.icfg.now c.requires.path) in
    predicates_pass t c.args.icfg.now c.args.limits.depth c.args.path.now.word c.in-Ok-Refuted.own e own (c.in_ok-automaton-in-Ok-Refuted.ensures.passes c.in-None.is)

pub unreachable-requires : goal.unreachable-requires
unreachable-requires g c =
    let found = subst (λ (a : Answer). IsAnswer c.args.icfg.now c.args.limits.depth c.args.path.now.word (Ok a)) c.in-Ok-Whole.field-0-is (c.in-Ok-Whole.ensures.answer c.args.icfg.now c.requires.path) in
    no_point c.args.icfg.now c.args.path.now.word c.args.refutation.now (point_of c.in-Ok-Whole.field-0-0.items) c.requires.refutation.refutes found.meets
