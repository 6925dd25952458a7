use Rattle.std.proofs.Common.{◌≡◌, ◌∙◌, ◌<◌, ◌≤◌, ◌∷◌, [], ℕ, length, get_or, ap, rules, if◌then◌else◌}
use Rattle.std.proofs.lemmas.List.{get_or_read}
use Rattle.nested_itp.specs.NestedRefutations.Refutations.{spare, atom_at}
use Rattle.nested_itp.proofs.TripleWalks.GoalLaws.{rows_first, rows_more, rows_all, groups_more, groups_all}
use Rattle.nested_itp.specs.TripleWalks.Goals.{plain_goal, role_of, with_groups}
use Rattle.nested_itp.proofs.triple_walks.goals.Goal.give.Goals as goal

pub loop-i-init : goal.loop-i-init
loop-i-init c = rows_first (plain_goal c.args.self.now) c.args.is_used c.args.claim c.args.exposed.now.leaves.items

pub loop-i-preserved : goal.loop-i-preserved
loop-i-preserved c =
    let h : c.loop-i.i < length c.args.exposed.now.leaves.items = search rules in
    let e : c.index-leaf.result.now ≡ get_or c.args.exposed.now.leaves.items c.loop-i.i 0 = get_or_read c.args.exposed.now.leaves.items c.loop-i.i c.index-leaf.result.now h c.index-leaf.ensures 0 in
    rows_more (plain_goal c.args.self.now) (plain_goal c.loop-i.self) (plain_goal c.add.new.self) c.args.is_used c.args.claim c.args.exposed.now.leaves.items c.loop-i.i (role_of c.atom_role.result) h
    (c.atom_role.ensures ∙ ap (λ (n : ℕ). if c.args.is_used then atom_at c.args.claim n else spare) e) c.loop-i.invariant (c.in_ok-add.ensures)

pub loop-i-2-init : goal.loop-i-2-init
loop-i-2-init c =
    let h : length c.args.exposed.now.leaves.items ≤ c.loop-i.i = search rules in
    rows_all (plain_goal c.args.self.now) (plain_goal c.loop-i.self) c.args.is_used c.args.claim c.args.exposed.now.leaves.items c.args.exposed.now.groups.items c.loop-i.i h c.loop-i.invariant

pub loop-i-2-preserved : goal.loop-i-2-preserved
loop-i-2-preserved c =
    let h : c.loop-i-2.i < length c.args.exposed.now.groups.items = search rules in
    let e : c.index-node.result.now ≡ get_or c.args.exposed.now.groups.items c.loop-i-2.i 0 = get_or_read c.args.exposed.now.groups.items c.loop-i-2.i c.index-node.result.now h c.index-node.ensures 0 in
    groups_more (plain_goal c.args.self.now) (plain_goal c.loop-i-2.self) (plain_goal c.add_group.new.self) c.args.is_used c.args.claim c.args.exposed.now.leaves.items c.args.exposed.now.groups.items c.loop-i-2.i h c.loop-i-2.invariant
    (c.in_ok-add_group.ensures ∙ ap (λ (n : ℕ). with_groups ((c.args.claim, n) ∷ []) (plain_goal c.loop-i-2.self)) e)

pub returns : goal.returns
returns c =
    let h : length c.args.exposed.now.groups.items ≤ c.loop-i-2.i = search rules in
    groups_all (plain_goal c.args.self.now) (plain_goal c.loop-i-2.self) c.args.is_used c.args.claim c.args.exposed.now.leaves.items c.args.exposed.now.groups.items c.loop-i-2.i h c.loop-i-2.invariant
