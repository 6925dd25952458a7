use Rattle.std.proofs.Common.{◌+◌, arith, sym, Ok, Err}
use Rattle.proof_form.specs.declared.fault.ProofFault.TheVariants as faults
use Rattle.proof_form.specs.TextReading.{content_of}
use Rattle.proof_form.proofs.AfterLaws.{texts_agree, texts_differ, refused_form}
use Rattle.proof_form.proofs.ManyLaws.{nothing_follows, something_follows}
use Rattle.proof_form.proofs.StandingLaws.{line_shortens}
use Rattle.proof_form.proofs.StandingSteps.{stops_here, ends_here, ends_too_early, lines_end, leads_begin, leads_on}
use Rattle.proof_form.proofs.text_reading.items_of.Goals as goal

pub loop-bytes-init : goal.loop-bytes-init
loop-bytes-init c = leads_begin _ _ _ c.new-draft.ensures

pub returns-then-more_follow : goal.returns-then-more_follow
returns-then-more_follow c =
    c.loop-bytes.invariant.leads (Err (faults.Syntax (c.loop-bytes.line + 1)))
    (ends_too_early c.loop-bytes.line (content_of c.loop-bytes.draft) c.loop-bytes.rest.now _ _ (sym c.in-Some.ensures) (texts_agree c.in-Some.bytes.now c.as_slice.result.now _ c.if-eq.ensures c.as_slice.ensures) (something_follows _ c.if-more_follow.ensures))

pub returns-then-eq : goal.returns-then-eq
returns-then-eq c =
    c.loop-bytes.invariant.leads (Ok c.loop-bytes.draft)
    (ends_here c.loop-bytes.line c.loop-bytes.draft c.loop-bytes.rest.now _ _ (sym c.in-Some.ensures) (texts_agree c.in-Some.bytes.now c.as_slice.result.now _ c.if-eq.ensures c.as_slice.ensures) (nothing_follows _ c.if-more_follow.ensures))

pub returns-in-Err-Form : goal.returns-in-Err-Form
returns-in-Err-Form c =
    c.loop-bytes.invariant.leads (Err (faults.Syntax c.loop-bytes.line))
    (stops_here c.loop-bytes.line (content_of c.loop-bytes.draft) c.loop-bytes.rest.now _ _ (sym c.in-Some.ensures) (texts_differ c.in-Some.bytes.now c.as_slice.result.now _ c.if-eq.ensures c.as_slice.ensures)
    (refused_form c.in-Err-Form.field-0 _ c.in-Err-Form.field-0-is c.in-Err-Form.ensures))

pub loop-bytes-smaller : goal.loop-bytes-smaller
loop-bytes-smaller c = let s = line_shortens c.loop-bytes.rest.now c.in-Some.bytes.now c.in-Some.behind.now (sym c.in-Some.ensures) in omega arith

pub loop-bytes-preserved : goal.loop-bytes-preserved
loop-bytes-preserved c = leads_on c.loop-bytes.line c.args.first (content_of c.loop-bytes.draft) (content_of c.add.new.self) c.loop-bytes.rest.now c.in-Some.bytes.now c.in-Some.behind.now c.args.text.now (sym c.in-Some.ensures) c.in-Ok.ensures c.loop-bytes.invariant

pub returns : goal.returns
returns c = c.loop-bytes.invariant.leads (Err (faults.Syntax c.loop-bytes.line)) (lines_end c.loop-bytes.line (content_of c.loop-bytes.draft) c.loop-bytes.rest.now (sym c.in_default.ensures))
