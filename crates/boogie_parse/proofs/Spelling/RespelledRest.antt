-- Where no number of the symbols is below 0, none is of those behind what was read.
use Rattle.std.proofs.Common.{ℕ, List}
use Rattle.boogie_tree.specs.declared.tree.Name.{Name}
use Rattle.boogie_tree.specs.declared.tree.Vary.{Vary}
use Rattle.boogie_tree.specs.declared.level.Level.{Level}
use Rattle.boogie_tree.specs.Tree.{Expression, Guard, Invariant, Statement, Block, Specification, ProcedureBody, Declaration}
use Rattle.boogie_parse.specs.declared.symbols.Fixed.{Fixed}
use Rattle.boogie_parse.specs.declared.symbols.Symbol.{Symbol}
use Rattle.boogie_parse.specs.Rules.Grammar
use Rattle.boogie_parse.specs.Rules.Grammar.{Reads}
use Rattle.boogie_parse.specs.Rules.GrammarLists as lists
use Rattle.boogie_parse.specs.Rules.GrammarLists.{ReadsNames, ReadsExpressions, ReadsArguments, ReadsGuard, ReadsCondition, ReadsInvariants, ReadsGroup, ReadsVariables, ReadsDeclared, ReadsFormals, ReadsResults}
use Rattle.boogie_parse.specs.Rules.GrammarStatements as statements
use Rattle.boogie_parse.specs.Rules.GrammarStatements.{ReadsStatement, ReadsIf, ReadsBlock, ReadsList}
use Rattle.boogie_parse.specs.Rules.GrammarProgram as programs
use Rattle.boogie_parse.specs.Rules.GrammarProgram.{Head, ReadsSpecification, ReadsSpecifications, ReadsLocals, ReadsBody, ReadsHead, ReadsDeclaration}
use Rattle.boogie_parse.specs.Spelling.Respelled.{AreUnsigned}

pub expression-rest : {p : ℕ} {l : Level} {ts r : List Symbol} {e : Expression} → Reads p l ts e r → AreUnsigned ts → AreUnsigned r
expression-rest (Grammar.one c h) w = expression-rest h w
expression-rest (Grammar.more t h is k g) w = expression-rest g (expression-rest h w).1
expression-rest (Grammar.unimplied h) w = expression-rest h w
expression-rest (Grammar.implied t h is g) w = expression-rest g (expression-rest h w).1
expression-rest (Grammar.conjoined h) w = expression-rest h w
expression-rest (Grammar.disjoined h) w = expression-rest h w
expression-rest (Grammar.uncompared h) w = expression-rest h w
expression-rest (Grammar.compared t h is k g) w = expression-rest g (expression-rest h w).1
expression-rest (Grammar.unsigned h) w = expression-rest h w
expression-rest (Grammar.negated t is h) w = expression-rest h w.1
expression-rest (Grammar.denied t is h) w = expression-rest h w.1
expression-rest (Grammar.number t is) w = w.1
expression-rest (Grammar.true_word t is) w = w.1
expression-rest (Grammar.false_word t is) w = w.1
expression-rest (Grammar.name t is) w = w.1
expression-rest (Grammar.old_value t u v a b h c) w = (expression-rest h w.1.1).1
expression-rest (Grammar.grouped u v b h c) w = (expression-rest h w.1).1

pub names-rest : {ts r : List Symbol} {xs : List Name} → ReadsNames ts xs r → AreUnsigned ts → AreUnsigned r
names-rest (lists.last_name t n) w = w.1
names-rest (lists.next_name t u n c d) w = names-rest d w.1.1

pub expressions-rest : {p : ℕ} {ts r : List Symbol} {es : List Expression} → ReadsExpressions p ts es r → AreUnsigned ts → AreUnsigned r
expressions-rest (lists.last_expression d) w = expression-rest d w
expressions-rest (lists.next_expression u d c ds) w = expressions-rest ds (expression-rest d w).1

pub arguments-rest : {p : ℕ} {ts r : List Symbol} {es : List Expression} → ReadsArguments p ts es r → AreUnsigned ts → AreUnsigned r
arguments-rest (lists.no_argument u v iu iv) w = w.1.1
arguments-rest (lists.arguments u v iu d iv) w = (expressions-rest d w.1).1

pub guard-rest : {p : ℕ} {ts r : List Symbol} {g : Guard} → ReadsGuard p ts g r → AreUnsigned ts → AreUnsigned r
guard-rest (lists.either_way u t v iu it iv) w = w.1.1.1
guard-rest (lists.condition u v iu d iv) w = (expression-rest d w.1).1

pub condition-rest : {p : ℕ} {f : Fixed} {ts r : List Symbol} {i : Invariant} → ReadsCondition p f ts i r → AreUnsigned ts → AreUnsigned r
condition-rest (lists.checked t u it d iu) w = (expression-rest d w.1).1
condition-rest (lists.free s t u is it d iu) w = (expression-rest d w.1.1).1

pub invariants-rest : {p : ℕ} {ts r : List Symbol} {is : List Invariant} → ReadsInvariants p ts is r → AreUnsigned ts → AreUnsigned r
invariants-rest lists.no_invariant w = w
invariants-rest (lists.next_invariant d ds) w = invariants-rest ds (condition-rest d w)

group-rest : {ts r : List Symbol} {vs : List Vary} → ReadsGroup ts vs r → AreUnsigned ts → AreUnsigned r
group-rest (lists.group t u d it iu e) w = (names-rest d w).1.1

variables-rest : {ts r : List Symbol} {vs : List Vary} → ReadsVariables ts vs r → AreUnsigned ts → AreUnsigned r
variables-rest (lists.last_group d) w = group-rest d w
variables-rest (lists.next_group u d c ds) w = variables-rest ds (group-rest d w).1

pub declared-rest : {f : Fixed} {ts r : List Symbol} {vs : List Vary} → ReadsDeclared f ts vs r → AreUnsigned ts → AreUnsigned r
declared-rest (lists.declared t u it d iu) w = (variables-rest d w.1).1

pub formals-rest : {p : ℕ} {ts r : List Symbol} {vs : List Vary} → ReadsFormals p ts vs r → AreUnsigned ts → AreUnsigned r
formals-rest (lists.no_formal u v iu iv) w = w.1.1
formals-rest (lists.formals u v iu d iv) w = (variables-rest d w.1).1

pub results-rest : {p : ℕ} {ts r : List Symbol} {vs : List Vary} → ReadsResults p ts vs r → AreUnsigned ts → AreUnsigned r
results-rest lists.no_result w = w
results-rest (lists.results t it d) w = formals-rest d w.1

mutual
  pub statement-rest : {p b : ℕ} {ts r : List Symbol} {s : Statement} → ReadsStatement p b ts s r → AreUnsigned ts → AreUnsigned r
  statement-rest (statements.asserts t u is d iu) w = (expression-rest d w.1).1
  statement-rest (statements.assumes t u is d iu) w = (expression-rest d w.1).1
  statement-rest (statements.havocs t u is d iu) w = (names-rest d w.1).1
  statement-rest (statements.assigns t u d is e iu) w = (expressions-rest e (names-rest d w).1).1
  statement-rest (statements.calls t n u is f d iu) w = (arguments-rest d w.1.1).1
  statement-rest (statements.calls_into t c n u is d ic f e iu) w = (arguments-rest e (names-rest d w.1).1.1).1
  statement-rest (statements.branches d) w = if-rest d w
  statement-rest (statements.loops t is g i x) w = block-rest x (invariants-rest i (guard-rest g w.1))
  statement-rest (statements.breaks t u is iu) w = w.1.1
  statement-rest (statements.breaks_from t n u is f iu) w = w.1.1.1
  statement-rest (statements.goes_to t u is d iu) w = (names-rest d w.1).1
  statement-rest (statements.returns t u is iu) w = w.1.1
  statement-rest (statements.labels n u f iu) w = w.1.1

  pub if-rest : {p b : ℕ} {ts r : List Symbol} {s : Statement} → ReadsIf p b ts s r → AreUnsigned ts → AreUnsigned r
  if-rest (statements.without_else t is g x) w = block-rest x (guard-rest g w.1)
  if-rest (statements.with_else t u is g x iu y) w = block-rest y (block-rest x (guard-rest g w.1)).1
  if-rest (statements.with_else_if t u is g x iu y) w = if-rest y (block-rest x (guard-rest g w.1)).1

  pub block-rest : {p b : ℕ} {ts r : List Symbol} {x : Block} → ReadsBlock p b ts x r → AreUnsigned ts → AreUnsigned r
  block-rest (statements.block u v iu d iv) w = (list-rest d w.1).1

  pub list-rest : {p b : ℕ} {ts r : List Symbol} {x : Block} → ReadsList p b ts x r → AreUnsigned ts → AreUnsigned r
  list-rest statements.no_statement w = w
  list-rest (statements.next_statement d ds) w = list-rest ds (statement-rest d w)

pub specification-rest : {p : ℕ} {ts r : List Symbol} {s : Specification} → ReadsSpecification p ts s r → AreUnsigned ts → AreUnsigned r
specification-rest (programs.requires d) w = condition-rest d w
specification-rest (programs.ensures d) w = condition-rest d w
specification-rest (programs.modifies_nothing t u it iu) w = w.1.1
specification-rest (programs.modifies t u it d iu) w = (names-rest d w.1).1

pub specifications-rest : {p : ℕ} {ts r : List Symbol} {ss : List Specification} → ReadsSpecifications p ts ss r → AreUnsigned ts → AreUnsigned r
specifications-rest programs.no_specification w = w
specifications-rest (programs.next_specification d ds) w = specifications-rest ds (specification-rest d w)

pub locals-rest : {ts r : List Symbol} {vs : List Vary} → ReadsLocals ts vs r → AreUnsigned ts → AreUnsigned r
locals-rest programs.no_local w = w
locals-rest (programs.next_locals d ds) w = locals-rest ds (declared-rest d w)

body-rest : {p b : ℕ} {ts r : List Symbol} {x : ProcedureBody} → ReadsBody p b ts x r → AreUnsigned ts → AreUnsigned r
body-rest (programs.body u v iu d ds iv) w = (list-rest ds (locals-rest d w.1)).1

pub head-rest : {p : ℕ} {f : Fixed} {ts r : List Symbol} {h : Head} → ReadsHead p f ts h r → AreUnsigned ts → AreUnsigned r
head-rest (programs.head t n it name d ds) w = results-rest ds (formals-rest d w.1.1)

pub declaration-rest : {p b : ℕ} {ts r : List Symbol} {ds : List Declaration} → ReadsDeclaration p b ts ds r → AreUnsigned ts → AreUnsigned r
declaration-rest (programs.constants d) w = declared-rest d w
declaration-rest (programs.variables d) w = declared-rest d w
declaration-rest (programs.axioms t u it d iu) w = (expression-rest d w.1).1
declaration-rest (programs.without_body u d iu ss) w = specifications-rest ss (head-rest d w).1
declaration-rest (programs.with_body d ss x) w = body-rest x (specifications-rest ss (head-rest d w))
declaration-rest (programs.implementation d x) w = body-rest x (head-rest d w)
