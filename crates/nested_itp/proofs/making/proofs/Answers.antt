use Rattle.std.proofs.Common.{◌≡◌, ◌∙◌, ◌<◌, List, length, sym, ap, subst, arith, rules}
use Rattle.std.specs.List.{AllByRecursion}
use Rattle.farkas_check.specs.Nodes.{PlainNode, plain_nodes}
use Rattle.letter_acts.specs.Invariant.{Graph, alphabet_of}
use Rattle.nwa_base.specs.declared.letters.Letter.{Letter}
use Rattle.nwa_base.specs.Automata.{IsAutomaton}
use Rattle.nested_itp.specs.NestedPredicates.Stamps.{stamps_of}
use Rattle.triple_rows.specs.Triples.{Agrees}
use Rattle.nested_itp.specs.TripleSteps.Steps.{FitColumns}
use Rattle.nested_itp.specs.TripleWalks.Leaves.{Ascends}
use Rattle.nested_itp.specs.TripleWalks.Putting.{IsPlaced}
use Rattle.nested_itp.proofs.TripleWalks.AscendLaws.{refutation_ascends}
use Rattle.nested_itp.proofs.AgreeingLaws.{kept_graph}
use Rattle.nested_itp.proofs.CountLaws.{proofs_counted}
use Rattle.nested_itp.proofs.CutLaws.{nodes_placed}
use Rattle.nested_itp.proofs.PastLaws.{item_at, letter_step, letters_counted, letters_agree, letters_wait, letter_put, put_whole, put_proved}
use Rattle.nested_itp.proofs.making.proofs.Goals as goal

pub bounds-steps-at : goal.bounds-steps-at
bounds-steps-at c =
    let n : length c.args.steps.now ≡ length c.args.triples.now =
    letters_counted c.args.icfg.now c.args.path.now.word (kept_graph c.args.icfg.now c.nwa.ensures.valid) c.requires.path.accepted c.args.proof.now c.args.steps.now c.args.triples.now
    c.requires.steps c.requires.triples in
    let l : c.loop-at.at < length c.args.triples.now = c.loop-at-test.true in
    omega (arith, n, l)

pub refutation-requires : goal.refutation-requires
refutation-requires c =
    let n = length (stamps_of c.args.icfg.now c.args.path.now.word).columns in
    let m : length c.args.steps.now ≡ length c.args.triples.now =
    letters_counted c.args.icfg.now c.args.path.now.word (kept_graph c.args.icfg.now c.nwa.ensures.valid) c.requires.path.accepted c.args.proof.now c.args.steps.now c.args.triples.now
    c.requires.steps c.requires.triples in
    let l : c.loop-at.at < length c.args.triples.now = c.loop-at-test.true in
    record {
      placed = subst (AllByRecursion (IsPlaced c.index-steps-at.result.columns)) (sym c.nodes-nodes.ensures.value)
          (nodes_placed n c.index-steps-at.result.columns
          (item_at (λ s. FitColumns n s.columns) c.args.steps.now c.loop-at.at c.index-steps-at.result (omega (arith, m, l)) c.index-steps-at.is c.requires.fit)
          c.args.proof.now c.requires.cuts);
      ascend = subst (AllByRecursion Ascends) (sym c.nodes-nodes.ensures.value) (refutation_ascends c.args.proof.now c.args.path.now.rows c.requires.refutes);
    }

pub proved-requires-clause-agrees : goal.proved-requires-clause-agrees
proved-requires-clause-agrees c =
    item_at (Agrees (alphabet_of c.args.icfg.now)) c.args.triples.now c.loop-at.at c.index-triples-at.result c.loop-at-test.true c.index-triples-at.is
    (letters_agree c.args.icfg.now c.args.path.now.word (kept_graph c.args.icfg.now c.nwa.ensures.valid) c.requires.path.accepted c.args.proof.now c.args.triples.now c.requires.triples)

pub proved-requires-clause-tree : goal.proved-requires-clause-tree
proved-requires-clause-tree c =
    let g : Graph = c.args.icfg.now in
    let w : List Letter = c.args.path.now.word in
    let h = c.requires.triples in
    let nodes : List PlainNode = plain_nodes c.in_ok-refuting.refuting.items in
    let m : IsAutomaton g.automaton = subst IsAutomaton c.nwa.ensures.value c.states-states.ensures.valid in
    let s = letter_step g w (kept_graph g c.nwa.ensures.valid) c.requires.path.accepted c.args.proof.now c.args.steps.now c.args.triples.now c.requires.steps h c.loop-at.at c.index-steps-at.result
    c.index-triples-at.result c.index-steps-at.is c.index-triples-at.is c.loop-at-test.true in
    put_whole g w h.tree c.loop-at.at c.index-triples-at.result nodes
    (letter_put g w h.tree c.args.proof.now (plain_nodes c.nodes-nodes.result.now) nodes c.args.tree.now c.loop-at.at c.index-steps-at.result c.index-triples-at.result (length c.row_at-rows.result.now)
    c.args.path.now.row_at s (c.requires.tree h.tree h.spelled) c.nodes-nodes.ensures.value (ap length c.row_at-rows.ensures) c.requires.path.row_at
    (letters_wait g w (kept_graph g c.nwa.ensures.valid) m c.requires.path.accepted c.args.proof.now c.args.path.now.rows c.requires.path.rows c.requires.refutes h.tree h.spelled)
    c.in_ok-refuting.ensures)

pub returns-in_err-proved-clause-past : goal.returns-in_err-proved-clause-past
returns-in_err-proved-clause-past c was = λ fit.
    let g : Graph = c.args.icfg.now in
    let w : List Letter = c.args.path.now.word in
    let h = c.requires.triples in
    let nodes : List PlainNode = plain_nodes c.in_ok-refuting.refuting.items in
    let m : IsAutomaton g.automaton = subst IsAutomaton c.nwa.ensures.value c.states-states.ensures.valid in
    let s = letter_step g w (kept_graph g c.nwa.ensures.valid) c.requires.path.accepted c.args.proof.now c.args.steps.now c.args.triples.now c.requires.steps h c.loop-at.at c.index-steps-at.result
    c.index-triples-at.result c.index-steps-at.is c.index-triples-at.is c.loop-at-test.true in
    put_proved g w (kept_graph g c.nwa.ensures.valid) m c.requires.path.accepted c.args.proof.now c.args.path.now.rows c.requires.path.rows c.requires.refutes c.requires.cuts h.tree h.spelled
    c.loop-at.at c.index-triples-at.result nodes
    (letter_put g w h.tree c.args.proof.now (plain_nodes c.nodes-nodes.result.now) nodes c.args.tree.now c.loop-at.at c.index-steps-at.result c.index-triples-at.result (length c.row_at-rows.result.now)
    c.args.path.now.row_at s (c.requires.tree h.tree h.spelled) c.nodes-nodes.ensures.value (ap length c.row_at-rows.ensures) c.requires.path.row_at
    (letters_wait g w (kept_graph g c.nwa.ensures.valid) m c.requires.path.accepted c.args.proof.now c.args.path.now.rows c.requires.path.rows c.requires.refutes h.tree h.spelled)
    c.in_ok-refuting.ensures)
    (c.in_err-proved.ensures.past (search rules)) (fit h.tree h.spelled)

pub returns-clause-count : goal.returns-clause-count
returns-clause-count c =
    let n : length c.args.steps.now ≡ length c.args.triples.now =
    letters_counted c.args.icfg.now c.args.path.now.word (kept_graph c.args.icfg.now c.nwa.ensures.valid) c.requires.path.accepted c.args.proof.now c.args.steps.now c.args.triples.now
    c.requires.steps c.requires.triples in
    proofs_counted c.loop-at.at c.args.triples.now c.loop-at.proofs.items c.loop-at.invariant.triples c.loop-at-test.false ∙ sym n
