use mir.Syntax.{w128}
use mir.Val.{SFits, to_z, of_z}
use Rattle.std.proofs.Common.{rules, ℤ, ◌≡◌, ◌∙◌, ◌++◌, ◌∷◌, [], List, refl, sym, ap}
use Rattle.std.proofs.lemmas.Int.{to_z-of_z}
use Rattle.farkas_check.specs.Nodes.{plain_nodes}
use Rattle.farkas_check.specs.declared.refutations.Node.TheVariants.{Cut}
use Rattle.nested_itp.specs.TripleWalks.Goals.{plain_goal, mark_of}
use Rattle.nested_itp.specs.declared.triple_walks.goals.Goal as goals
use Rattle.nested_itp.specs.declared.triple_walks.walks.Begin.TheVariants.{Side}
use Rattle.nested_itp.specs.declared.triple_walks.walks.Waiting as part
use Rattle.nested_itp.proofs.TripleWalks.WalkLaws.{cut_there, cut_sided, cut_placed, cut_put}
use Rattle.nested_itp.proofs.triple_walks.walks.Walk.put_cut.Goals as goal

pub returns-in_default : goal.returns-in_default
returns-in_default c = λ v first h from stop led at coming. absurd (cut_there v c.args.guide.now stop c.args.place at (sym c.in_default.ensures))

pub returns-in_default-sides : goal.returns-in_default-sides
returns-in_default-sides c = λ v first h from stop led at coming. absurd (cut_sided v c.args.guide.now stop c.args.place led at (sym c.in_default-sides.ensures))

pub place-col-requires : goal.place-col-requires
place-col-requires c = cut_placed c.args.guide.now.columns.now (plain_nodes c.args.guide.now.nodes.now) c.args.place.node c.in-Some.col c.in-Some.k c.requires.placed (sym c.in-Some.ensures)

pub returns : goal.returns
returns c = λ v first h from stop led at coming.
    let fits : SFits w128 c.in-Some.k = search rules in
    let same : to_z w128 (of_z w128 c.in-Some.k) ≡ c.in-Some.k = to_z-of_z w128 c.in-Some.k fits in
    let low : part.Waiting = record { spot = c.in_ok-part-2.field-0; begin = Side c.in_ok-row.row; mark = mark_of (plain_goal c.wait.new.self.goal) } in
    cut_put v c.args.guide.now first h from stop c.args.place c.args.self.now c.wait-2.new.self c.in-Some.col c.place-col.result c.in_ok-row.row c.in-Some.k c.in-Some-sides.sides
    (Cut c.place-col.result c.in-Some.k) c.in_ok-part-2.field-0 c.in_ok-part.field-0 low
    (record { spot = c.in_ok-part.field-0; begin = Side c.in_ok-row.row; mark = mark_of (plain_goal c.args.self.now.goal) }) led at coming (sym c.in-Some.ensures) (sym c.in-Some-sides.ensures)
    c.place-col.ensures refl c.in_ok-row.ensures c.in_ok-part-2.ensures.node c.in_ok-part-2.ensures.depth c.in_ok-part.ensures.node
    c.in_ok-part.ensures.depth
    (ap (λ (g : goals.Goal). record low { mark = mark_of (plain_goal g) }) c.in_ok-wait.ensures.goal) refl
    (ap (λ l. l.items) (c.in_ok-wait-2.ensures.nodes ∙ c.in_ok-wait.ensures.nodes) ∙ c.in_ok-push.ensures.items ∙ ap (λ (z : ℤ). c.args.self.now.nodes.items ++ Cut c.place-col.result z ∷ []) same) (c.in_ok-wait-2.ensures.goal ∙ c.in_ok-wait.ensures.goal)
    (c.in_ok-wait-2.ensures.waiting ∙ ap (λ (l : List part.Waiting). l ++ low ∷ []) c.in_ok-wait.ensures.waiting)
