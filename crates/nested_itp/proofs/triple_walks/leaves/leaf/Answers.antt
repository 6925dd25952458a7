use Rattle.std.proofs.Common.{◌≡◌, ◌∙◌, ◌-◌, ◌+◌, ℕ, false, length, reverse, replicate, ap, arith, rules, to_z-of_z, FitsSigned}
use Rattle.std.specs.Int.{w128}
use Rattle.nested_itp.specs.declared.triple_walks.goals.Role.TheVariants.{Spare}
use Rattle.nested_itp.proofs.TripleWalks.LeafLaws.{rows_from, seen_first, parts_first, seen_more, parts_more, parts_all}
use Rattle.nested_itp.proofs.triple_walks.leaves.leaf.Goals as goal

pub loop-i-init : goal.loop-i-init
loop-i-init c =
    let e : c.in_ok-seen.seen.items ≡ replicate (length c.args.claims.now) false = search rules in (
      seen_first (length c.args.claims.now) c.args.node c.args.roles.now c.in_ok-seen.seen.items e,
      λ v b h. ap reverse c.new-added.ensures.items ∙ parts_first v c.args.node b c.args.parts.now c.args.roles.now (length c.args.roles.now - 0),
    )

pub loop-i-preserved : goal.loop-i-preserved
loop-i-preserved c =
    let n : ℕ = length c.args.roles.now in
    let at : ℕ = n - 1 - c.loop-i.i in
    let next : ℕ = n - (c.loop-i.i + 1) in
    let k : ℕ = n - c.loop-i.i in
    let f : FitsSigned w128 c.row_multiplier-multiplier.result = search rules in
    let added = simp to_z-of_z at c.in_ok-add.ensures in (
      seen_more (length c.args.claims.now) c.args.node c.args.roles.now at next k Spare c.loop-i.seen.items c.row_multiplier-multiplier.new.seen.items (omega arith) (omega arith) (omega arith)
          c.row_multiplier-multiplier.ensures.seen c.loop-i.invariant.0,
      λ v b h. parts_more v c.args.node b c.args.parts.now c.args.roles.now at next k Spare c.row_multiplier-multiplier.result c.loop-i.added.items c.add.new.parts.items (omega arith) (omega arith) (omega arith)
          (c.row_multiplier-multiplier.ensures.value v b (rows_from k c.args.roles.now) h c.loop-i.invariant.0) added (c.loop-i.invariant.1 v b h),
    )

pub returns : goal.returns
returns c = λ v b h.
    c.turned.ensures ∙ c.loop-i.invariant.1 v b h ∙
    parts_all v c.args.node b c.args.parts.now c.args.roles.now (length c.args.roles.now - c.loop-i.i) (omega arith)
