use Rattle.std.proofs.Common.{length, refl, ap, sym, ◌∙◌, arith}
use Rattle.std.proofs.lemmas.Result.{err_from_is_err_and}
use Rattle.proof_form.specs.Annotations.{safe_text}
use Rattle.proof_form.proofs.ReadLaws.{read_spells, spelled_is_read, spelled_is_no_fault}
use Rattle.proof_form.proofs.texts.read_safe.Goals as goal

pub returns-in_err-rounds-clause-only : goal.returns-in_err-rounds-clause-only
returns-in_err-rounds-clause-only c rounds coarse a small short valid spelled =
    let p = err_from_is_err_and c.from_residual.result c.from_residual.ensures.1 in
    rw (p.1, p.2) (spelled_is_no_fault c.args.text.now rounds coarse a (length c.args.text.now) small short valid spelled refl (omega arith) c.in_err-rounds.field-0.0 c.in_err-rounds.ensures)

pub of_draft-requires : goal.of_draft-requires
of_draft-requires c = (read_spells c.args.text.now c.in_ok-rounds.rounds c.in_ok-rounds.coarse c.in_ok-rounds.draft c.in_ok-rounds.ensures).1

pub returns-clause-found : goal.returns-clause-found
returns-clause-found c =
    (read_spells c.args.text.now c.in_ok-rounds.rounds c.in_ok-rounds.coarse c.in_ok-rounds.draft c.in_ok-rounds.ensures).0 ∙ ap (safe_text c.in_ok-rounds.rounds c.in_ok-rounds.coarse.items) (sym c.of_draft.ensures)

pub returns-clause-only : goal.returns-clause-only
returns-clause-only c rounds coarse a small short valid spelled =
    let r = spelled_is_read c.args.text.now rounds coarse a (length c.args.text.now) small short valid spelled refl (omega arith) c.in_ok-rounds.rounds c.in_ok-rounds.coarse c.in_ok-rounds.draft (omega arith) c.in_ok-rounds.ensures in
    (r.0, r.1, c.of_draft.ensures ∙ r.2)
