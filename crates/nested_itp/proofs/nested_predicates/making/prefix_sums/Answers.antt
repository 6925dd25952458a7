use Rattle.std.proofs.Common.{◌∙◌, List, [], ◌∷◌, ap, sym, subst, map, length, rules}
use Rattle.std.specs.Global.{Vec}
use Rattle.farkas_check.specs.Nodes.{PlainNode}
use Rattle.farkas_check.specs.Trees.{IsPrefixList}
use Rattle.farkas_check.proofs.TreeLaws.{is_tree_is}
use Rattle.triple_rows.specs.declared.predicates.PredNode.{PredNode}
use Rattle.triple_rows.specs.declared.triples.Scoped.{Scoped}
use Rattle.nested_itp.specs.NestedPredicates.Stamps.{stamps_of}
use Rattle.nested_itp.specs.NestedPredicates.Positions.{positions_of}
use Rattle.nested_itp.specs.NestedPredicates.Sums.{root_of}
use Rattle.nested_itp.specs.NestedPredicates.Interpolants.{RefutesRows, BeginsTrue, EndsFalse}
use Rattle.nested_itp.specs.NestedPredicates.Tables.{table_along}
use Rattle.nested_itp.specs.NestedPredicates.Ties.Spelled.{IsTableOf}
use Rattle.nested_itp.proofs.NestedPredicates.EndLaws.{begins_true}
use Rattle.nested_itp.proofs.NestedPredicates.MakingLaws.{table_of_tree, ends, predicates_counted}
use Rattle.nested_itp.proofs.nested_predicates.making.prefix_sums.Goals as goal

pub node_table-requires-clause-refutes : goal.node_table-requires-clause-refutes
node_table-requires-clause-refutes c = subst (λ (ns : List PlainNode). RefutesRows ns c.args.path.now.rows) (sym c.nodes.ensures.value) c.requires.refutes

pub predicates-requires-clause-table : goal.predicates-requires-clause-table
predicates-requires-clause-table c =
    let t : IsPrefixList c.args.proof.now = (is_tree_is c.args.proof.now).0 c.nodes.ensures.whole in (
      t.0,
      table_of_tree c.args.icfg.now c.args.path.now.word t.0 c.args.proof.now c.deref.result.now c.args.path.now.rows t.1 c.requires.path.rows c.requires.refutes c.requires.cuts
          (ap (λ (l : List (Vec PredNode)). map (λ (v : Vec PredNode). v.items) l) c.deref.ensures.value ∙ c.in_ok-table.ensures.value ∙
          ap (λ (ns : List PlainNode). table_along (stamps_of c.args.icfg.now c.args.path.now.word).columns (positions_of c.args.icfg.now c.args.path.now.word) ns
          (root_of c.args.icfg.now c.args.path.now.word ∷ [])) c.nodes.ensures.value),
    )

pub returns-clause-value : goal.returns-clause-value
returns-clause-value c =
    let t : IsPrefixList c.args.proof.now = (is_tree_is c.args.proof.now).0 c.nodes.ensures.whole in
    let h : IsTableOf c.args.icfg.now c.args.path.now.word t.0 c.deref.result.now =
    table_of_tree c.args.icfg.now c.args.path.now.word t.0 c.args.proof.now c.deref.result.now c.args.path.now.rows t.1 c.requires.path.rows c.requires.refutes c.requires.cuts
    (ap (λ (l : List (Vec PredNode)). map (λ (v : Vec PredNode). v.items) l) c.deref.ensures.value ∙ c.in_ok-table.ensures.value ∙
    ap (λ (ns : List PlainNode). table_along (stamps_of c.args.icfg.now c.args.path.now.word).columns (positions_of c.args.icfg.now c.args.path.now.word) ns
    (root_of c.args.icfg.now c.args.path.now.word ∷ [])) c.nodes.ensures.value) in
    record { tree = t.0; spelled = t.1; preds_are = c.in_ok-preds.ensures t.0 h }

pub returns-clause-first : goal.returns-clause-first
returns-clause-first c =
    let t : IsPrefixList c.args.proof.now = (is_tree_is c.args.proof.now).0 c.nodes.ensures.whole in
    let h : IsTableOf c.args.icfg.now c.args.path.now.word t.0 c.deref.result.now =
    table_of_tree c.args.icfg.now c.args.path.now.word t.0 c.args.proof.now c.deref.result.now c.args.path.now.rows t.1 c.requires.path.rows c.requires.refutes c.requires.cuts
    (ap (λ (l : List (Vec PredNode)). map (λ (v : Vec PredNode). v.items) l) c.deref.ensures.value ∙ c.in_ok-table.ensures.value ∙
    ap (λ (ns : List PlainNode). table_along (stamps_of c.args.icfg.now c.args.path.now.word).columns (positions_of c.args.icfg.now c.args.path.now.word) ns
    (root_of c.args.icfg.now c.args.path.now.word ∷ [])) c.nodes.ensures.value) in
    subst BeginsTrue (sym (c.in_ok-preds.ensures t.0 h)) (begins_true c.args.icfg.now c.args.path.now.word t.0 h.refutes)

pub returns-clause-last : goal.returns-clause-last
returns-clause-last c =
    let t : IsPrefixList c.args.proof.now = (is_tree_is c.args.proof.now).0 c.nodes.ensures.whole in
    let h : IsTableOf c.args.icfg.now c.args.path.now.word t.0 c.deref.result.now =
    table_of_tree c.args.icfg.now c.args.path.now.word t.0 c.args.proof.now c.deref.result.now c.args.path.now.rows t.1 c.requires.path.rows c.requires.refutes c.requires.cuts
    (ap (λ (l : List (Vec PredNode)). map (λ (v : Vec PredNode). v.items) l) c.deref.ensures.value ∙ c.in_ok-table.ensures.value ∙
    ap (λ (ns : List PlainNode). table_along (stamps_of c.args.icfg.now c.args.path.now.word).columns (positions_of c.args.icfg.now c.args.path.now.word) ns
    (root_of c.args.icfg.now c.args.path.now.word ∷ [])) c.nodes.ensures.value) in
    subst EndsFalse (sym (c.in_ok-preds.ensures t.0 h)) (ends c.args.icfg.now c.args.path.now.word t.0 h.refutes)

pub returns-clause-predicates : goal.returns-clause-predicates
returns-clause-predicates c =
    let t : IsPrefixList c.args.proof.now = (is_tree_is c.args.proof.now).0 c.nodes.ensures.whole in
    let h : IsTableOf c.args.icfg.now c.args.path.now.word t.0 c.deref.result.now =
    table_of_tree c.args.icfg.now c.args.path.now.word t.0 c.args.proof.now c.deref.result.now c.args.path.now.rows t.1 c.requires.path.rows c.requires.refutes c.requires.cuts
    (ap (λ (l : List (Vec PredNode)). map (λ (v : Vec PredNode). v.items) l) c.deref.ensures.value ∙ c.in_ok-table.ensures.value ∙
    ap (λ (ns : List PlainNode). table_along (stamps_of c.args.icfg.now c.args.path.now.word).columns (positions_of c.args.icfg.now c.args.path.now.word) ns
    (root_of c.args.icfg.now c.args.path.now.word ∷ [])) c.nodes.ensures.value) in
    ap (λ (l : List Scoped). length l) (c.in_ok-preds.ensures t.0 h) ∙ predicates_counted c.args.icfg.now c.args.path.now.word t.0

pub returns-clause-returned : goal.returns-clause-returned
returns-clause-returned c = c.in_ok-layout.ensures.returned

pub returns-clause-table : goal.returns-clause-table
returns-clause-table c =
    c.in_ok-table.ensures.value ∙
    ap (λ (ns : List PlainNode). table_along (stamps_of c.args.icfg.now c.args.path.now.word).columns (positions_of c.args.icfg.now c.args.path.now.word) ns
    (root_of c.args.icfg.now c.args.path.now.word ∷ [])) c.nodes.ensures.value

pub returns-in_err-table-clause-past : goal.returns-in_err-table-clause-past
returns-in_err-table-clause-past c was = λ t e fits. c.in_err-table.ensures.past (search rules) t (e ∙ sym c.nodes.ensures.value) fits
