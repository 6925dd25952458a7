use Rattle.std.proofs.Common.{◌≡◌, ◌+◌, ◌∷◌, [], ◌++◌, ℕ, cond, eqb, ◌∙◌, ap}
use Rattle.nwa_base.specs.Edges.{backs_leaving}
use Rattle.proof_build.specs.ProofUnwind.Unwindings.{node_place_in}
use Rattle.proof_build.specs.ProofUnwind.Exploring.{Stage, AreExits}
use Rattle.proof_build.specs.ProofUnwind.Ties.Searches.{stage_of, exits_of}
use Rattle.proof_build.proofs.ProofUnwind.LoopLaws.{none_leave}
use Rattle.proof_build.proofs.ProofUnwind.OpenedLaws.{on_ok, none_found, exits_same, exits_more}
use Rattle.proof_build.proofs.proof_unwind.opening.note_exit.Goals as goal

pub returns-then-is_empty : goal.returns-then-is_empty
returns-then-is_empty c =
    let s : Stage = stage_of c.args.search.now in
    let none : backs_leaving (node_place_in s.nodes c.args.number) c.args.graph.now.backs ≡ [] =
    none_found c.backs_leaving.result.now (backs_leaving (node_place_in s.nodes c.args.number) c.args.graph.now.backs) c.is_empty.result
    (c.backs_leaving.ensures ∙ ap (λ (p : ℕ). backs_leaving p c.args.graph.now.backs) c.place.ensures) c.is_empty.ensures c.if-is_empty.true in
    exits_same c.args.graph.now s.nodes c.args.number (exits_of c.args.exits.now)
    (λ o p a e i. none_leave (node_place_in s.nodes c.args.number) c.args.graph.now.backs p a e none i) c.requires.exits

pub returns : goal.returns
returns c =
    let s : Stage = stage_of c.args.search.now in
    on_ok c.add.result ((k : ℕ) → exits_of c.add.new.self k ≡ cond (eqb c.entry.result k) (exits_of c.args.exits.now k ++ c.args.number ∷ []) (exits_of c.args.exits.now k))
    (AreExits c.args.graph.now s.nodes (c.args.number + 1) (exits_of c.add.new.self))
    (λ f. exits_more c.args.graph.now s.nodes c.args.number c.entry.result (exits_of c.args.exits.now) (exits_of c.add.new.self) c.requires.there c.requires.opens c.entry.ensures f
    c.requires.exits) c.add.ensures
