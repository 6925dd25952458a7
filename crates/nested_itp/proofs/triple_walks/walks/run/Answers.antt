use Rattle.std.proofs.Common.{◌≡◌, ◌∙◌, ◌++◌, ◌∷◌, [], List, length, reverse, refl, ap, rules}
use Rattle.std.proofs.lemmas.List.{reverse-append, nil_from_length}
use Rattle.nested_itp.specs.NestedRefutations.Refutations.{stops_at}
use Rattle.nested_itp.specs.TripleWalks.Goals.{plain_goal, mark_of}
use Rattle.nested_itp.specs.declared.triple_walks.walks.Begin.TheVariants.{Root}
use Rattle.nested_itp.specs.declared.triple_walks.walks.Waiting as part
use Rattle.nested_itp.specs.declared.triple_walks.walks.Walk as walks
use Rattle.nested_itp.proofs.TripleWalks.WalkLaws.{walk_begins, walk_next, walk_ends}
use Rattle.nested_itp.proofs.triple_walks.walks.run.Goals as goal

pub loop-i-init : goal.loop-i-init
loop-i-init c = λ v h s led at there groups.
    let w : part.Waiting = record { spot = record { node = 0; depth = 0 }; begin = Root; mark = mark_of (plain_goal c.args.goal) } in
    walk_begins v c.args.guide.now h s c.args.goal c.wait.new.self at there groups c.in_ok-wait.ensures.goal (ap (λ l. l.items) c.in_ok-wait.ensures.nodes ∙ c.new-2.ensures.items)
    (c.in_ok-wait.ensures.waiting ∙ ap (λ (l : List part.Waiting). l ++ w ∷ []) c.new.ensures.items)

pub loop-i-preserved : goal.loop-i-preserved
loop-i-preserved c = λ v h s led at there groups.
    let new : walks.Walk = record { goal = c.loop-i.walk.goal; waiting = c.pop.new.self; nodes = c.loop-i.walk.nodes } in
    c.in_ok-go_on.ensures v h (stops_at v h.taken s) led
    (walk_next v c.args.guide.now h (stops_at v h.taken s) c.in-Some.next c.loop-i.walk new (c.loop-i.invariant v h s led at there groups)
    (ap reverse c.in-Some.ensures.items ∙ reverse-append c.pop.new.self.items (c.in-Some.next ∷ [])) refl refl)

pub returns-in_default : goal.returns-in_default
returns-in_default c = λ v h s led at there groups.
    let none : length c.loop-i.walk.waiting.items ≡ 0 = search rules in
    walk_ends v c.args.guide.now h (stops_at v h.taken s) c.loop-i.walk (c.loop-i.invariant v h s led at there groups) (nil_from_length c.loop-i.walk.waiting.items none)
