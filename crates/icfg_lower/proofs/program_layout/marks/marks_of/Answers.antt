use Rattle.std.proofs.Common.{◌+◌, ◌<◌, ◌^◌, List, Option, map, ap, sym, subst, arith}
use Rattle.std.specs.Option.{option_map}
use Rattle.typed_tree.specs.declared.types.TStmt.{TStmt}
use Rattle.typed_tree.specs.declared.types.TSpec.{TSpec}
use Rattle.typed_tree.specs.TypedTree.{TypedBlock, TypedProcedure, TypedSpecification}
use Rattle.typed_tree.specs.TypedView as view
use Rattle.typed_tree.specs.TypingRules.Counts.{all_ensures, block_assertions, block_points, body_assertions, body_points, free_requires, plain_ensures}
use Rattle.icfg_lower.proofs.program_layout.marks.marks_of.Goals as goal

pub block_assertions-requires : goal.block_assertions-requires
block_assertions-requires c =
    let ps : List TypedProcedure = map view.procedure c.args.procs.now in
    let ss : List TypedSpecification = map view.specification c.args.counted.now.specs.items in
    let all : c.args.first + (block_assertions ps (view.statements c.in-Some.statements.items) + plain_ensures ss) < 2 ^ 32 =
    subst (λ (o : Option TypedBlock). c.args.first + body_assertions ps ss o < 2 ^ 32) (ap (λ o. option_map (λ b. view.statements b.items) o) c.in-Some.is) c.requires.assertions in
    subst (λ (xs : List TStmt). block_assertions ps (view.statements xs) < 2 ^ 32) (sym c.deref-2.ensures.value) (omega (arith, all))

pub block_points-requires : goal.block_points-requires
block_points-requires c =
    let ps : List TypedProcedure = map view.procedure c.args.procs.now in
    let ss : List TypedSpecification = map view.specification c.args.counted.now.specs.items in
    let all : c.args.entry + (free_requires ss + (block_points ps (view.statements c.in-Some.statements.items) + (all_ensures ss + 1))) < 2 ^ 32 =
    subst (λ (o : Option TypedBlock). c.args.entry + body_points ps ss o < 2 ^ 32) (ap (λ o. option_map (λ b. view.statements b.items) o) c.in-Some.is) c.requires.places in
    subst (λ (xs : List TStmt). block_points ps (view.statements xs) < 2 ^ 32) (sym c.deref-3.ensures.value) (omega (arith, all))

pub all_ensures-requires : goal.all_ensures-requires
all_ensures-requires c =
    let ps : List TypedProcedure = map view.procedure c.args.procs.now in
    let ss : List TypedSpecification = map view.specification c.args.counted.now.specs.items in
    let all : c.args.entry + (free_requires ss + (block_points ps (view.statements c.in-Some.statements.items) + (all_ensures ss + 1))) < 2 ^ 32 =
    subst (λ (o : Option TypedBlock). c.args.entry + body_points ps ss o < 2 ^ 32) (ap (λ o. option_map (λ b. view.statements b.items) o) c.in-Some.is) c.requires.places in
    subst (λ (xs : List TSpec). all_ensures (map view.specification xs) < 2 ^ 32) (sym c.deref-4.ensures.value) (omega (arith, all))

pub plain_ensures-requires : goal.plain_ensures-requires
plain_ensures-requires c =
    let ps : List TypedProcedure = map view.procedure c.args.procs.now in
    let ss : List TypedSpecification = map view.specification c.args.counted.now.specs.items in
    let all : c.args.first + (block_assertions ps (view.statements c.in-Some.statements.items) + plain_ensures ss) < 2 ^ 32 =
    subst (λ (o : Option TypedBlock). c.args.first + body_assertions ps ss o < 2 ^ 32) (ap (λ o. option_map (λ b. view.statements b.items) o) c.in-Some.is) c.requires.assertions in
    subst (λ (xs : List TSpec). plain_ensures (map view.specification xs) < 2 ^ 32) (sym c.deref-5.ensures.value) (omega (arith, all))
