use Rattle.std.proofs.Common.{◌≡◌, ◌≢◌, length, sym, ◌∙◌, map}
use Rattle.std.proofs.lemmas.List.{nil_from_length}
use Rattle.std.proofs.lemmas.Result.{err_from_is_err_and}
use Rattle.proof_form.specs.Refutations.{plain_refutation_node}
use Rattle.proof_form.specs.RefutationReading.{with_parts}
use Rattle.proof_form.specs.TreeReading.{with_part, nodes_of}
use Rattle.proof_form.specs.Ties.TreeViews.{part, built}
use Rattle.proof_form.proofs.AfterLaws.{refused}
use Rattle.proof_form.proofs.BuiltLaws.{begins, goes_on, fails, ends, left_open}
use Rattle.proof_form.proofs.refutations.nodes_of.Goals as goal

pub loop-piece-init : goal.loop-piece-init
loop-piece-init c = begins plain_refutation_node with_parts _ _ _ _ c.new-counts.ensures.items c.in_ok-push.ensures.items c.new-nodes.ensures.items

pub loop-piece-preserved : goal.loop-piece-preserved
loop-piece-preserved c =
    goes_on plain_refutation_node with_parts _ _ _ c.loop-piece.counts.items c.add_piece.new.counts.items c.loop-piece.nodes.items c.add_piece.new.nodes.items _ c.in-Some.ensures.items c.loop-piece.invariant c.in_ok-add_piece.ensures

pub returns-in_err-add_piece : goal.returns-in_err-add_piece
returns-in_err-add_piece c =
    let p = err_from_is_err_and c.from_residual-in_err-add_piece.result c.from_residual-in_err-add_piece.ensures.1 in
    rw (p.1, p.2) (refused c.in_err-add_piece.field-0.0 (with_part with_parts (part plain_refutation_node c.in-Some.piece) (built plain_refutation_node c.loop-piece.counts.items c.loop-piece.nodes.items))
    (nodes_of with_parts (map (part plain_refutation_node) c.args.pieces.items))
    (fails plain_refutation_node with_parts _ _ _ c.loop-piece.counts.items c.loop-piece.nodes.items _ c.in-Some.ensures.items c.loop-piece.invariant) c.in_err-add_piece.ensures)

pub returns-then-len-ne1 : goal.returns-then-len-ne1
returns-then-len-ne1 c =
    let many : length c.loop-piece.counts.items ≢ 1 = λ one. c.if-len-ne1.true (c.len.ensures ∙ c.loop-piece.counts.ok.0 ∙ one) in
    left_open plain_refutation_node with_parts _ c.loop-piece.counts.items c.loop-piece.nodes.items _ (nil_from_length c.loop-piece.pieces.items (sym c.loop-piece.pieces.ok.0 ∙ c.in_default.ensures.cases.0)) c.loop-piece.invariant many

pub returns : goal.returns
returns c =
    let one : length c.loop-piece.counts.items ≡ 1 = sym c.loop-piece.counts.ok.0 ∙ sym c.len.ensures ∙ c.if-len-ne1.false in
    ends plain_refutation_node with_parts _ c.loop-piece.counts.items c.loop-piece.nodes.items c.reverse.new.self.items _ (nil_from_length c.loop-piece.pieces.items (sym c.loop-piece.pieces.ok.0 ∙ c.in_default.ensures.cases.0)) c.loop-piece.invariant one c.reverse.ensures.items
