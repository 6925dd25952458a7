-- The typed trees of the code as contracts see them.
use Rattle.std.specs.Prelude.{List, [], ◌∷◌, map}
use Rattle.std.specs.Option.{option_map}
use Rattle.boogie_tree.specs.declared.span.Span.{Span}
use Rattle.typed_tree.specs.declared.types.TExpr.{TExpr}
use Rattle.typed_tree.specs.declared.types.TExprKind.{TExprKind}
use Rattle.typed_tree.specs.declared.types.TExprKind.TheVariants as kinds
use Rattle.typed_tree.specs.declared.types.TGuard.{TGuard}
use Rattle.typed_tree.specs.declared.types.TGuard.TheVariants as guards
use Rattle.typed_tree.specs.declared.types.TInv.{TInv}
use Rattle.typed_tree.specs.declared.types.TStmt.{TStmt, TStmt-F, fold-TStmt}
use Rattle.typed_tree.specs.declared.types.TSpec.{TSpec}
use Rattle.typed_tree.specs.declared.types.TSpec.TheVariants as specs
use Rattle.typed_tree.specs.declared.types.TProc.{TProc}
use Rattle.typed_tree.specs.TypedTree as tree

abbrev pub kind_view : Span → TExprKind → tree.TypedExpression
kind_view s (kinds.Lit n) = tree.Lit s n
kind_view s (kinds.Truth b) = tree.Truth s b
kind_view s (kinds.Var c) = tree.Var s c
kind_view s (kinds.Old' p s1 k) = tree.Old s (kind_view s1 k)
kind_view s (kinds.Not' p s1 k) = tree.Not s (kind_view s1 k)
kind_view s (kinds.Neg' p s1 k) = tree.Neg s (kind_view s1 k)
kind_view s (kinds.Bin' op p s1 a q s2 b) = tree.Bin s op (kind_view s1 a) (kind_view s2 b)

abbrev pub expression : TExpr → tree.TypedExpression
expression e = kind_view e.span e.kind

abbrev pub guard : TGuard → tree.TypedGuard
guard guards.Any = tree.Any
guard (guards.Cond e) = tree.Cond (expression e)

abbrev pub invariant : TInv → tree.TypedInvariant
invariant i = record { span = i.span; free = i.free; cond = expression i.cond }

abbrev pub block : List tree.TypedStatement → tree.TypedBlock
block [] = tree.Empty
block (s ∷ ss) = tree.Then s (block ss)

-- one statement whose inner statements are seen already
abbrev pub statement_step : TStmt-F tree.TypedStatement → tree.TypedStatement
statement_step (TStmt-F.Assert s e) = tree.Assert s (expression e)
statement_step (TStmt-F.Assume s e) = tree.Assume s (expression e)
statement_step (TStmt-F.Havoc s xs) = tree.Havoc s xs.items
statement_step (TStmt-F.Assign s xs es) = tree.Assign s xs.items (map expression es.items)
statement_step (TStmt-F.Call s xs f es) = tree.Call s xs.items f (map expression es.items)
statement_step (TStmt-F.If s g a b) = tree.If s (guard g) (block a.items) (block b.items)
statement_step (TStmt-F.While s g is b) = tree.While s (guard g) (map invariant is.items) (block b.items)
statement_step (TStmt-F.Break s n) = tree.Break s n
statement_step (TStmt-F.Goto s ns) = tree.Goto s ns.items
statement_step (TStmt-F.Return s) = tree.Return s
statement_step (TStmt-F.Label n) = tree.Label n

abbrev pub statement : TStmt → tree.TypedStatement
statement = fold-TStmt tree.TypedStatement statement_step

abbrev pub statements : List TStmt → tree.TypedBlock
statements ss = block (map statement ss)

abbrev pub specification : TSpec → tree.TypedSpecification
specification (specs.Requires i) = tree.Requires (invariant i)
specification (specs.Ensures i) = tree.Ensures (invariant i)

abbrev pub procedure : TProc → tree.TypedProcedure
procedure p =
    record {
      name = p.name;
      params = p.params;
      results = p.results;
      locals = p.locals.items;
      modifies = p.modifies.items;
      specs = map specification p.specs.items;
      body = option_map (λ b. statements b.items) p.body;
    }
