use Rattle.std.proofs.Common.{sym, refl}
use Rattle.proof_form.proofs.AfterLaws.{texts_agree, texts_differ}
use Rattle.proof_form.proofs.HeaderLaws.{no_line_lacks, other_line_lacks, line_taken}
use Rattle.proof_form.proofs.texts.behind_line.Goals as goal

pub returns-in_default : goal.returns-in_default
returns-in_default c = no_line_lacks c.args.line.now c.args.text.now (sym c.in_default.ensures)

pub returns-then-eq : goal.returns-then-eq
returns-then-eq c =
    line_taken c.args.line.now c.args.text.now c.in-Some.bytes.now c.in-Some.behind.now (sym c.in-Some.ensures) (texts_agree c.in-Some.bytes.now c.args.line.now _ c.if-eq.ensures refl)

pub returns-else-eq : goal.returns-else-eq
returns-else-eq c =
    other_line_lacks c.args.line.now c.args.text.now c.in-Some.bytes.now c.in-Some.behind.now (sym c.in-Some.ensures) (texts_differ c.in-Some.bytes.now c.args.line.now _ c.if-eq.ensures refl)
