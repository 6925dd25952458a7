use Rattle.std.proofs.Common.{◌∙◌, ◌-◌, List, ◌∷◌, MatchOption, subst, sym, arith}
use Rattle.std.proofs.lemmas.Bool.{false≢true}
use Rattle.triple_rows.specs.declared.predicates.PredNode.{PredNode}
use Rattle.triple_rows.specs.Reading.{IsAfterTree, AreAfterParts, HasNoTree, HasNoParts}
use Rattle.triple_rows.specs.declared.predicates.PredNode.TheVariants.{Truth, Atom, And, Or}
use Rattle.triple_rows.proofs.ReadingLaws.{trees_start, trees_more, parts_stop, no_tree_empty, no_tree_truth, no_tree_atom, after_atom, after_and, after_or, no_tree_and, no_tree_or, answer_weaker, front_is, none_in}
use Rattle.triple_rows.proofs.reading.+trees.Goals as goal

pub after_parts-loop-i-init : goal.after_parts-loop-i-init
after_parts-loop-i-init t c = (omega arith, omega arith, trees_start (c.args.depth - 1) c.args.nodes.now)

pub after_parts-returns-in_err-left : goal.after_parts-returns-in_err-left
after_parts-returns-in_err-left t c =
    rw c.from_residual.ensures
    (parts_stop c.loop-i._i c.args.count c.args.depth c.args.nodes.now c.loop-i.left.now c.loop-i.invariant.2 c.loop-i-test.true c.in_err-left.ensures)

pub after_parts-loop-i-preserved : goal.after_parts-loop-i-preserved
after_parts-loop-i-preserved t c = (
  c.loop-i.invariant.0,
  c.loop-i.invariant.1,
  trees_more c.loop-i._i (c.args.depth - 1) c.args.nodes.now c.loop-i.left.now c.in_ok-left.left.now c.loop-i.invariant.2 c.in_ok-left.ensures,
)

pub after_tree-returns-in_err-first : goal.after_tree-returns-in_err-first
after_tree-returns-in_err-first t c =
    rw c.from_residual.ensures (no_tree_empty c.args.depth c.args.nodes.now (none_in c.args.nodes.now c.in_err-first.ensures.cases))

pub after_tree-returns-in-Truth : goal.after_tree-returns-in-Truth
after_tree-returns-in-Truth t c =
    let rest = c.in_ok-first.rest.now in
    subst (HasNoTree c.args.depth) (sym (front_is c.args.nodes.now rest c.in_ok-first.first.now (Truth c.in-Truth.field-0) c.in_ok-first.ensures.cases.0 c.in-Truth.is))
    (no_tree_truth c.args.depth c.in-Truth.field-0 rest)

pub after_tree-returns-then-is_atom : goal.after_tree-returns-then-is_atom
after_tree-returns-then-is_atom t c =
    let rest = c.in_ok-first.rest.now in
    subst (λ (ns : List PredNode). IsAfterTree c.args.depth ns rest)
    (sym (front_is c.args.nodes.now rest c.in_ok-first.first.now (Atom c.in-Atom.row) c.in_ok-first.ensures.cases.0 c.in-Atom.is))
    (after_atom c.args.depth c.in-Atom.row rest (c.is_atom.ensures.0 c.if-is_atom.true))

pub after_tree-returns-else-is_atom : goal.after_tree-returns-else-is_atom
after_tree-returns-else-is_atom t c =
    let rest = c.in_ok-first.rest.now in
    subst (HasNoTree c.args.depth) (sym (front_is c.args.nodes.now rest c.in_ok-first.first.now (Atom c.in-Atom.row) c.in_ok-first.ensures.cases.0 c.in-Atom.is))
    (no_tree_atom c.args.depth c.in-Atom.row rest (λ h. false≢true (sym c.if-is_atom.false ∙ c.is_atom.ensures.1 h)))

pub after_tree-returns-in-And : goal.after_tree-returns-in-And
after_tree-returns-in-And t c =
    let rest = c.in_ok-first.rest.now in
    subst (λ (ns : List PredNode). MatchOption c.after_parts.result (HasNoTree c.args.depth ns) (λ after. IsAfterTree c.args.depth ns after.now))
    (sym (front_is c.args.nodes.now rest c.in_ok-first.first.now (And c.in-And.parts) c.in_ok-first.ensures.cases.0 c.in-And.is))
    (answer_weaker c.after_parts.result (HasNoParts c.in-And.parts c.args.depth rest) (HasNoTree c.args.depth (And c.in-And.parts ∷ rest))
    (λ after. AreAfterParts c.in-And.parts c.args.depth rest after.now) (λ after. IsAfterTree c.args.depth (And c.in-And.parts ∷ rest) after.now)
    (no_tree_and c.in-And.parts c.args.depth rest) (λ after h. after_and c.in-And.parts c.args.depth rest after.now h) c.after_parts.ensures)

pub after_tree-returns-in-Or : goal.after_tree-returns-in-Or
after_tree-returns-in-Or t c =
    let rest = c.in_ok-first.rest.now in
    subst (λ (ns : List PredNode). MatchOption c.after_parts-in-Or.result (HasNoTree c.args.depth ns) (λ after. IsAfterTree c.args.depth ns after.now))
    (sym (front_is c.args.nodes.now rest c.in_ok-first.first.now (Or c.in-Or.parts) c.in_ok-first.ensures.cases.0 c.in-Or.is))
    (answer_weaker c.after_parts-in-Or.result (HasNoParts c.in-Or.parts c.args.depth rest) (HasNoTree c.args.depth (Or c.in-Or.parts ∷ rest))
    (λ after. AreAfterParts c.in-Or.parts c.args.depth rest after.now) (λ after. IsAfterTree c.args.depth (Or c.in-Or.parts ∷ rest) after.now)
    (no_tree_or c.in-Or.parts c.args.depth rest) (λ after h. after_or c.in-Or.parts c.args.depth rest after.now h) c.after_parts-in-Or.ensures)
