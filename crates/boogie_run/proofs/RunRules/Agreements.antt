-- The machine and the rules agree about each statement, about each return and about the start.
use Rattle.std.proofs.Common.{◌≡◌, ℕ, false, true≢false, List, Option, None, Some, refl}
use Rattle.boogie_tree.specs.declared.span.Span.{Span}
use Rattle.boogie_tree.specs.declared.tree.Column.{Column}
use Rattle.typed_tree.specs.TypedTree.{TypedExpression, TypedStatement, Assert, Assume, Havoc, Assign, Call, If, While, Break, Goto, Return, Label, TypedBlock, TypedProgram}
use Rattle.boogie_run.specs.BoogiePoints.Stacks.{is_label}
use Rattle.boogie_run.specs.RunRules.Steps.{procedure_numbered}
use Rattle.boogie_run.specs.RunRules.Ties.Scenes.{Scene, SceneHolds, StatementAgrees}
use Rattle.boogie_run.proofs.RunRules.Simple.{assert_agrees, assume_agrees, assign_agrees, if_agrees, break_agrees, goto_agrees, return_agrees}
use Rattle.boogie_run.proofs.RunRules.Loops.{havoc_agrees, while_agrees}
use Rattle.boogie_run.proofs.RunRules.Calls.{call_agrees}
use Rattle.boogie_run.proofs.RunRules.Returns.{returns}
use Rattle.boogie_run.proofs.RunRules.Unseen.{unseen_agrees}
use Rattle.boogie_run.proofs.RunRules.Starting.{start_agrees}
use Rattle.boogie_run.proofs.RunRules.Whole.{Agrees}

-- a call, by whether the procedure has a body
call_by : (t : TypedProgram) (sc : Scene) (at : Span) (cs : List Column) (f : ℕ) (es : List TypedExpression) (b : TypedBlock) → SceneHolds t sc →
    (o : Option TypedBlock) → (procedure_numbered t f).body ≡ o → StatementAgrees t sc (Call at cs f es) b
call_by t sc at cs f es b h None has = unseen_agrees t sc at cs f es b h has
call_by t sc at cs f es b h (Some body) has = call_agrees t sc at cs f es b h body has

-- every statement but labels, at which the machine never stands
statement_agrees : (t : TypedProgram) (sc : Scene) (s : TypedStatement) (b : TypedBlock) → SceneHolds t sc → is_label s ≡ false → StatementAgrees t sc s b
statement_agrees t sc (Assert at e) b h takes = assert_agrees t sc at e b h
statement_agrees t sc (Assume at e) b h takes = assume_agrees t sc at e b h
statement_agrees t sc (Havoc at cs) b h takes = havoc_agrees t sc at cs b h
statement_agrees t sc (Assign at cs es) b h takes = assign_agrees t sc at cs es b h
statement_agrees t sc (Call at cs f es) b h takes = call_by t sc at cs f es b h (procedure_numbered t f).body refl
statement_agrees t sc (If at g x y) b h takes = if_agrees t sc at g x y b h
statement_agrees t sc (While at g is x) b h takes = while_agrees t sc at g is x b h
statement_agrees t sc (Break at n) b h takes = break_agrees t sc at n b h
statement_agrees t sc (Goto at ks) b h takes = goto_agrees t sc at ks b h
statement_agrees t sc (Return at) b h takes = return_agrees t sc at b h
statement_agrees t sc (Label n) b h takes = absurd (true≢false takes)

-- all of them
pub all_agree : (t : TypedProgram) → Agrees t
all_agree t = record { starts = start_agrees t; returns = returns t; statements = statement_agrees t }
