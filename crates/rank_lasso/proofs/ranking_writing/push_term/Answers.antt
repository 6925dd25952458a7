use Rattle.std.proofs.Common.{◌<◌, ◌^◌, ◌∙◌, FitsSigned, rules}
use Rattle.std.specs.Int.{w128}
use Rattle.std.proofs.lemmas.Int.{to_z-of_z}
use Rattle.proof_names.proofs.ProofSpell.CorrespondLaws.{got}
use Rattle.rank_lasso.proofs.WritingLaws.{term_spelled, term_written, appended}
use Rattle.rank_lasso.proofs.ranking_writing.push_term.Goals as goal

pub returns-clause-written : goal.returns-clause-written
returns-clause-written c =
    let frame = c.args.frame.now in
    let column = c.index-frame-column.result in
    let fits : FitsSigned w128 c.args.term.1 = search rules in
    let printed = simp to_z-of_z at c.in_ok-number.ensures.ok in
    appended c.extend_from_slice-2.result c.extend_from_slice-2.new.self.items _ _ _ c.extend_from_slice-2.ensures.items
    (term_written frame c.args.term column c.args.out.now.items c.extend_from_slice.new.self.items c.extend_from_slice-2.new.self.items c.as_bytes.result.now c.bytes.result.now
    (got frame c.args.term.0 column column c.requires.within c.index-frame-column.is)
    (c.as_bytes.ensures.value ∙ printed) (c.bytes.ensures ∙ c.in_ok-name.ensures) c.in_ok-extend_from_slice.ensures.items)

pub returns-clause-spelled : goal.returns-clause-spelled
returns-clause-spelled c =
    let frame = c.args.frame.now in
    let column = c.index-frame-column.result in
    let short : c.args.term.0 < 2 ^ 32 = search rules in
    appended c.extend_from_slice-2.result c.extend_from_slice-2.new.self.items _ _ _ c.extend_from_slice-2.ensures.items
    (λ x. term_spelled frame c.args.term column c.requires.readable (got frame c.args.term.0 column column c.requires.within c.index-frame-column.is) short c.requires.fits)
