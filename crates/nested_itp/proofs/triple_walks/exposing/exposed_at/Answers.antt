use Rattle.std.proofs.Common.{◌≡◌, ◌∙◌, ◌∷◌, ◌++◌, [], ℕ, List, ap}
use Rattle.nested_itp.specs.TripleWalks.Ties.Exposing.{found_of, none_found}
use Rattle.nested_itp.proofs.TripleWalks.ExposeLaws.{left_first, left_next, left_done, none_left}
use Rattle.nested_itp.proofs.triple_walks.exposing.exposed_at.Goals as goal

pub loop-i-init : goal.loop-i-init
loop-i-init c = λ columns d s n h.
    let leaves = c.new.ensures.items in
    let groups = c.new-2.ensures.items in
    let found : found_of (record { leaves = c.new.result; groups = c.new-2.result }) ≡ none_found =
    ap (λ (l : List ℕ). record { leaves = l; groups = c.new-2.result.items }) leaves ∙ ap (λ (l : List ℕ). record { leaves = []; groups = l }) groups in
    left_first columns c.args.tree.now d c.args.claim.now s c.args.node c.push.new.self.items (found_of (record { leaves = c.new.result; groups = c.new-2.result })) n h
    (c.in_ok-push.ensures.items ∙ ap (λ (l : List ℕ). l ++ c.args.node ∷ []) c.new-left.ensures.items) found

pub loop-i-preserved : goal.loop-i-preserved
loop-i-preserved c = λ columns d s n h.
    left_next columns c.args.tree.now d c.args.claim.now s c.in-Some.at c.loop-i.left.items c.pop.new.self.items c.expose.new.left.items (found_of c.loop-i.found) (found_of c.expose.new.self)
    c.in-Some.ensures.items c.in_ok-expose.ensures.left c.in_ok-expose.ensures.found (c.loop-i.invariant columns d s n h)

pub returns-in_default : goal.returns-in_default
returns-in_default c = λ columns d s n h.
    let p = c.in_default.ensures in
    left_done columns c.args.tree.now d c.args.claim.now s c.loop-i.left.items c.loop-i.found (none_left c.loop-i.left.items c.pop.new.self.items _ p.cases.0 p.rest p.items)
    (c.loop-i.invariant columns d s n h)
