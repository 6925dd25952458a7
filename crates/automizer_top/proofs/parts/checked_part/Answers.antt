use Rattle.std.proofs.Common.{◌+◌, ℕ, List, sym, ap, subst, arith}
use Rattle.letter_acts.specs.Invariant.{Graph}
use Rattle.lowered_graph.specs.Lowered.{lowered}
use Rattle.modular_cut.specs.View.{plain_part}
use Rattle.text_reports.specs.Answers.{answer_of}
use Rattle.automizer_top.specs.Parts.{RejectsPart, ProvesPart, wrong_part}
use Rattle.automizer_top.proofs.PartLines.{left_is_less}
use Rattle.automizer_top.proofs.parts.checked_part.Goals as goal

pub returns-in-Some-2 : goal.returns-in-Some-2
returns-in-Some-2 c =
    let before = c.args.left.before + 1 in
    let wrong : RejectsPart c.args.icfg.now before c.front_of-lines.result.own.now (answer_of c.in-Some-2.answer) = rw c.in-Some-2.is at c.in_ok-answer.ensures.reported in
    wrong_part c.in-Some.text.now (sym c.in-Some.ensures)
    (subst (λ (x : List ℕ). RejectsPart (lowered (plain_part c.args.part.now).program) before x (answer_of c.in-Some-2.answer)) c.front_of-lines.ensures.own
    (subst (λ (g : Graph). RejectsPart g before c.front_of-lines.result.own.now (answer_of c.in-Some-2.answer)) c.requires.graph wrong))

pub returns-in-None : goal.returns-in-None
returns-in-None c =
    let right : ProvesPart c.args.icfg.now c.front_of-lines.result.own.now = rw c.in-None.is at c.in_ok-answer.ensures.reported in
    let less = left_is_less (plain_part c.args.part.now).name c.args.left.text.now c.in-Some.text.now c.front_of-lines.result.own.now c.front_of-lines.result.rest.now c.front_of-lines.result.lines
    (sym c.in-Some.ensures) c.front_of-lines.ensures.own c.front_of-lines.ensures.rest c.front_of-lines.ensures.few in
    record {
      text = c.in-Some.text.now;
      line = sym c.in-Some.ensures;
      proved = subst (ProvesPart c.args.icfg.now) c.front_of-lines.ensures.own right;
      before = ap (λ (n : ℕ). c.args.left.before + 1 + n) c.front_of-lines.ensures.lines;
      rest = c.front_of-lines.ensures.rest;
      safe = c.in_ok-answer.ensures.proved c.in-None.is;
      few = omega (arith, less);
      short = omega (arith, less);
    }
