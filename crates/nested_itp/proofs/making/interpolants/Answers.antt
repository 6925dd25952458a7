use Rattle.std.proofs.Common.{◌≡◌, ◌∙◌, List, [], length, map, refl, sym, ap, subst, rules}
use Rattle.std.specs.List.{AllByRecursion}
use Rattle.std.specs.Global.{Vec}
use Rattle.std.proofs.lemmas.Bool.{false≢true}
use Rattle.nwa_base.specs.declared.letters.Letter.{Letter}
use Rattle.letter_acts.specs.Invariant.{Graph, alphabet_of}
use Rattle.farkas_check.specs.Nodes.{plain_nodes}
use Rattle.farkas_check.specs.Trees.{IsPrefixList}
use Rattle.farkas_check.proofs.TreeLaws.{is_tree_is}
use Rattle.triple_rows.specs.declared.predicates.PredNode.{PredNode}
use Rattle.triple_rows.specs.declared.triples.Scoped.{Scoped}
use Rattle.triple_rows.specs.Proofs.{PlainProof}
use Rattle.nested_itp.specs.NestedPredicates.Stamps.{stamps_of}
use Rattle.nested_itp.specs.NestedPredicates.Interpolants.{PlainInterpolants, AreInterpolants, RefutesRows, BeginsTrue, EndsFalse, triples_along}
use Rattle.nested_itp.specs.NestedRefutations.Numbers.{steps_of}
use Rattle.nested_itp.specs.declared.triple_steps.making.Step.{Step}
use Rattle.nested_itp.specs.TripleSteps.Steps.{FitColumns, AreSteps}
use Rattle.nested_itp.proofs.TripleSteps.StepLaws.{total_is}
use Rattle.nested_itp.proofs.TripleWalks.TableLaws.{tree_is}
use Rattle.hoare_check.specs.Decided.{IsProofFor}
use Rattle.nested_itp.proofs.CountLaws.{proved_over}
use Rattle.nested_itp.proofs.CutLaws.{cuts_moved, fit_cuts}
use Rattle.nested_itp.proofs.making.interpolants.Goals as goal

pub proofs-requires-clause-cuts : goal.proofs-requires-clause-cuts
proofs-requires-clause-cuts c =
    cuts_moved (length c.column_at.result.now) (length (stamps_of c.args.icfg.now c.args.path.now.word).columns) (plain_nodes c.nodes-nodes.result.now) c.args.proof.now
    (total_is c.args.icfg.now c.args.path.now.word c.column_at.result.now (length c.column_at.result.now) (c.column_at.ensures ∙ c.requires.path.column_at) refl) c.nodes-nodes.ensures.value
    (c.are_cuts_within_columns.ensures.0 c.if-not-are_cuts_within_columns.false)

pub proofs-requires-clause-tree : goal.proofs-requires-clause-tree
proofs-requires-clause-tree c = λ t e.
    tree_is c.args.icfg.now c.args.path.now.word t c.args.proof.now c.in_ok-tree.tree (subst (RefutesRows c.args.proof.now) c.requires.path.rows c.requires.refutes) e
    (λ u un p. c.in_ok-tree.ensures.seconds u un (p ∙ sym c.nodes-nodes.ensures.value))
    (ap (λ (v : Vec (Vec PredNode)). map (λ (r : Vec PredNode). r.items) v.items) c.in_ok-tree.ensures.table ∙ c.in_ok-sums.ensures.table)

pub proofs-requires-clause-steps : goal.proofs-requires-clause-steps
proofs-requires-clause-steps c = λ t.
    subst (AreSteps c.args.icfg.now c.args.path.now.word t (steps_of c.args.icfg.now c.args.path.now.word t)) (sym c.deref-3.ensures.value) (c.in_ok-steps.ensures.steps t)

pub proofs-requires-clause-fit : goal.proofs-requires-clause-fit
proofs-requires-clause-fit c =
    subst (AllByRecursion (λ (s : Step). FitColumns (length (stamps_of c.args.icfg.now c.args.path.now.word).columns) s.columns)) (sym c.deref-3.ensures.value) c.in_ok-steps.ensures.fit

pub proofs-requires-clause-triples : goal.proofs-requires-clause-triples
proofs-requires-clause-triples c =
    let v = c.in_ok-sums.ensures.value in
    record {
      tree = v.tree;
      spelled = v.spelled;
      triples_are = c.deref-4.ensures.value ∙ c.in_ok-triples.ensures ∙ ap (λ (u : List Letter). triples_along u c.deref.result.now []) c.word.ensures ∙
          ap (λ (ps : List Scoped). triples_along c.args.path.now.word ps []) (c.deref.ensures.value ∙ v.preds_are);
    }

pub returns-in_err-sums-clause-past : goal.returns-in_err-sums-clause-past
returns-in_err-sums-clause-past c was = λ fits.
    let t : IsPrefixList c.args.proof.now = (is_tree_is c.args.proof.now).0 c.nodes-nodes.ensures.whole in
    c.in_err-sums.ensures.past (search rules) t.0 t.1 (fits.sums t.0 t.1)

pub returns-then-not-are_cuts_within_columns-clause-past : goal.returns-then-not-are_cuts_within_columns-clause-past
returns-then-not-are_cuts_within_columns-clause-past c was = λ fits.
    let g : Graph = c.args.icfg.now in
    let w : List Letter = c.args.path.now.word in
    let t : IsPrefixList c.args.proof.now = (is_tree_is c.args.proof.now).0 c.nodes-nodes.ensures.whole in
    let n = total_is g w c.column_at.result.now (length c.column_at.result.now) (c.column_at.ensures ∙ c.requires.path.column_at) refl in
    absurd
    (false≢true
    (sym c.if-not-are_cuts_within_columns.true ∙
    c.are_cuts_within_columns.ensures.1
    (cuts_moved (length (stamps_of g w).columns) (length c.column_at.result.now) c.args.proof.now (plain_nodes c.nodes-nodes.result.now) (sym n) (sym c.nodes-nodes.ensures.value)
    (fit_cuts g w c.args.proof.now c.args.path.now.rows t c.requires.path.rows c.requires.refutes fits.cuts))))

pub returns-in_err-proofs-clause-past : goal.returns-in_err-proofs-clause-past
returns-in_err-proofs-clause-past c was = λ fits. c.in_err-proofs.ensures.past (search rules) fits.steps

pub returns-clause-value : goal.returns-clause-value
returns-clause-value c =
    let v = c.in_ok-sums.ensures.value in
    let p = c.in_ok-proofs.ensures.proofs in
    let t = c.in_ok-triples.ensures in
    let ts : map (λ (q : PlainProof). q.triple) c.in_ok-proofs.proofs.items ≡ triples_along c.args.path.now.word c.in_ok-sums.sums.preds.items [] =
    p.triples ∙ c.deref-4.ensures.value ∙ t ∙ ap (λ (w : List Letter). triples_along w c.deref.result.now []) c.word.ensures ∙
    ap (λ (ps : List Scoped). triples_along c.args.path.now.word ps []) c.deref.ensures.value in
    subst (AreInterpolants c.args.icfg.now c.args.path.now.word c.args.proof.now) (sym c.new.ensures)
    (record { tree = v.tree; spelled = v.spelled; preds = v.preds_are; triples = ts; proved = proved_over (alphabet_of c.args.icfg.now) c.in_ok-proofs.proofs.items p.proved })

pub returns-clause-first : goal.returns-clause-first
returns-clause-first c = subst (λ (i : PlainInterpolants). BeginsTrue i.preds) (sym c.new.ensures) c.in_ok-sums.ensures.first

pub returns-clause-last : goal.returns-clause-last
returns-clause-last c = subst (λ (i : PlainInterpolants). EndsFalse i.preds) (sym c.new.ensures) c.in_ok-sums.ensures.last

pub returns-clause-predicates : goal.returns-clause-predicates
returns-clause-predicates c = ap (λ (i : PlainInterpolants). length i.preds) c.new.ensures ∙ c.in_ok-sums.ensures.predicates

pub returns-clause-proved : goal.returns-clause-proved
returns-clause-proved c = subst (λ (i : PlainInterpolants). AllByRecursion (IsProofFor (alphabet_of c.args.icfg.now)) i.proofs) (sym c.new.ensures) c.in_ok-proofs.ensures.proofs.proved

pub returns-clause-triples : goal.returns-clause-triples
returns-clause-triples c =
    ap (λ (i : PlainInterpolants). length i.proofs) c.new.ensures ∙ c.in_ok-proofs.ensures.count ∙ ap (λ (l : List Step). length l) c.deref-3.ensures.value ∙ c.in_ok-steps.ensures.count
