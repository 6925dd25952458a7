-- What is read by the grammar from signs that can be written can be written.
use Rattle.std.proofs.Common.{ℕ, List, [], ◌∷◌, ◌++◌, map, Some, subst}
use Rattle.std.specs.List.{AllByRecursion}
use Rattle.boogie_tree.specs.declared.level.Level.{Level}
use Rattle.boogie_tree.specs.declared.tree.Name.{Name}
use Rattle.boogie_tree.specs.declared.tree.Ty.{Ty}
use Rattle.boogie_tree.specs.declared.tree.Vary.{Vary}
use Rattle.boogie_tree.specs.Tree.{Expression, Guard, Invariant, Statement, Block, Specification, ProcedureBody, Declaration, Const, Global}
use Rattle.boogie_parse.specs.declared.symbols.Fixed.{Fixed}
use Rattle.boogie_parse.specs.declared.symbols.Sign.{Sign}
use Rattle.boogie_parse.specs.declared.symbols.Sign.TheVariants as signs
use Rattle.boogie_parse.specs.declared.symbols.Symbol.{Symbol}
use Rattle.boogie_parse.specs.Rules.Grammar as expressions
use Rattle.boogie_parse.specs.Rules.Grammar.{Reads}
use Rattle.boogie_parse.specs.Rules.GrammarLists as lists
use Rattle.boogie_parse.specs.Rules.GrammarLists.{ReadsNames, ReadsExpressions, ReadsArguments, ReadsGuard, ReadsCondition, ReadsInvariants, of_type, ReadsGroup, ReadsVariables, ReadsDeclared, ReadsFormals, ReadsResults}
use Rattle.boogie_parse.specs.Rules.GrammarStatements as statements
use Rattle.boogie_parse.specs.Rules.GrammarStatements.{ReadsStatement, ReadsIf, ReadsBlock, ReadsList}
use Rattle.boogie_parse.specs.Rules.GrammarProgram as programs
use Rattle.boogie_parse.specs.Rules.GrammarProgram.{ReadsSpecification, ReadsSpecifications, ReadsLocals, ReadsBody, Head, ReadsHead, ReadsDeclaration, ReadsProgram, joined_groups}
use Rattle.boogie_parse.specs.Spelling.PrintedTokens.{IsFreeWord, AreNames, IsLiteral, IsSpellable, AreSpellable, IsSpellableGuard, AreSpellableInvariants, IsSpellableStatement, IsSpellableBlock, IsSpellableSpecification, IsSpellableVariable, AreSpellableVariables, IsSpellableBody, IsSpellableDeclaration, IsSpellableProgram}

-- a name is a free word, and a literal is in range
abbrev pub IsSpellableSign : Sign → Type 0
IsSpellableSign (signs.Fixed f) = Unit {0}
IsSpellableSign (signs.Number n) = IsLiteral n
IsSpellableSign (signs.Name x) = IsFreeWord x

abbrev pub AreSpellableSymbols : List Symbol → Type 0
AreSpellableSymbols ts = AllByRecursion (λ (t : Symbol). IsSpellableSign t.sign) ts

all-append : {X : Type 0} (P : X → Type 0) (xs ys : List X) → AllByRecursion P xs → AllByRecursion P ys → AllByRecursion P (xs ++ ys)
all-append P [] ys h k = k
all-append P (x ∷ xs) ys h k = (h.0, all-append P xs ys h.1 k)

-- ---- expressions

expression_of : {p : ℕ} {l : Level} {ts r : List Symbol} {e : Expression} → Reads p l ts e r → AreSpellableSymbols ts → IsSpellable e × AreSpellableSymbols r
expression_of (expressions.one c d) h = expression_of d h
expression_of (expressions.more t d is k g) h = let a = expression_of d h in let b = expression_of g a.1.1 in ((a.0, b.0), b.1)
expression_of (expressions.unimplied d) h = expression_of d h
expression_of (expressions.implied t d is g) h = let a = expression_of d h in let b = expression_of g a.1.1 in ((a.0, b.0), b.1)
expression_of (expressions.conjoined d) h = expression_of d h
expression_of (expressions.disjoined d) h = expression_of d h
expression_of (expressions.uncompared d) h = expression_of d h
expression_of (expressions.compared t d is k g) h = let a = expression_of d h in let b = expression_of g a.1.1 in ((a.0, b.0), b.1)
expression_of (expressions.unsigned d) h = expression_of d h
expression_of (expressions.negated t is d) h = expression_of d h.1
expression_of (expressions.denied t is d) h = expression_of d h.1
expression_of (expressions.number t is) h = (subst IsSpellableSign is h.0, h.1)
expression_of (expressions.true_word t is) h = (tt, h.1)
expression_of (expressions.false_word t is) h = (tt, h.1)
expression_of (expressions.name t is) h = (subst IsSpellableSign is h.0, h.1)
expression_of (expressions.old_value t u v is iu d iv) h = let a = expression_of d h.1.1 in (a.0, a.1.1)
expression_of (expressions.grouped u v iu d iv) h = let a = expression_of d h.1 in (a.0, a.1.1)

-- ---- lists

name_of : (t : Symbol) (x : Name) → lists.IsName t x → IsSpellableSign t.sign → IsFreeWord x.text
name_of t x is h = subst IsSpellableSign is.sign h

names_of : {ts r : List Symbol} {xs : List Name} → ReadsNames ts xs r → AreSpellableSymbols ts → AreNames xs × AreSpellableSymbols r
names_of (lists.last_name {r} {x} t is) h = ((name_of t x is h.0, tt), h.1)
names_of (lists.next_name {m} {r} {x} {xs} t u is iu d) h = let a = names_of d h.1.1 in ((name_of t x is h.0, a.0), a.1)

expressions_of : {p : ℕ} {ts r : List Symbol} {es : List Expression} → ReadsExpressions p ts es r → AreSpellableSymbols ts → AreSpellable es × AreSpellableSymbols r
expressions_of (lists.last_expression d) h = let a = expression_of d h in ((a.0, tt), a.1)
expressions_of (lists.next_expression u d iu ds) h = let a = expression_of d h in let b = expressions_of ds a.1.1 in ((a.0, b.0), b.1)

arguments_of : {p : ℕ} {ts r : List Symbol} {es : List Expression} → ReadsArguments p ts es r → AreSpellableSymbols ts → AreSpellable es × AreSpellableSymbols r
arguments_of (lists.no_argument u v iu iv) h = (tt, h.1.1)
arguments_of (lists.arguments u v iu d iv) h = let a = expressions_of d h.1 in (a.0, a.1.1)

guard_of : {p : ℕ} {ts r : List Symbol} {g : Guard} → ReadsGuard p ts g r → AreSpellableSymbols ts → IsSpellableGuard g × AreSpellableSymbols r
guard_of (lists.either_way u t v iu it iv) h = (tt, h.1.1.1)
guard_of (lists.condition u v iu d iv) h = let a = expression_of d h.1 in (a.0, a.1.1)

condition_of : {p : ℕ} {f : Fixed} {ts r : List Symbol} {i : Invariant} → ReadsCondition p f ts i r → AreSpellableSymbols ts → IsSpellable i.cond × AreSpellableSymbols r
condition_of (lists.checked t u is d iu) h = let a = expression_of d h.1 in (a.0, a.1.1)
condition_of (lists.free s t u is it d iu) h = let a = expression_of d h.1.1 in (a.0, a.1.1)

invariants_of : {p : ℕ} {ts r : List Symbol} {is : List Invariant} → ReadsInvariants p ts is r → AreSpellableSymbols ts → AreSpellableInvariants is × AreSpellableSymbols r
invariants_of lists.no_invariant h = (tt, h)
invariants_of (lists.next_invariant d ds) h = let a = condition_of d h in let b = invariants_of ds a.1 in ((a.0, b.0), b.1)

typed : (ty : Ty) (xs : List Name) → AreNames xs → AreSpellableVariables (of_type ty xs)
typed ty [] h = tt
typed ty (x ∷ xs) h = (h.0, typed ty xs h.1)

group_of : {ts r : List Symbol} {vs : List Vary} → ReadsGroup ts vs r → AreSpellableSymbols ts → AreSpellableVariables vs × AreSpellableSymbols r
group_of (lists.group {ts} {r} {xs} {f} {ty} t u d it iu k) h = let a = names_of d h in (typed ty xs a.0, a.1.1.1)

variables_of : {ts r : List Symbol} {vs : List Vary} → ReadsVariables ts vs r → AreSpellableSymbols ts → AreSpellableVariables vs × AreSpellableSymbols r
variables_of (lists.last_group d) h = group_of d h
variables_of (lists.next_group {ts} {m} {r} {vs} {ws} u d iu ds) h =
    let a = group_of d h in
    let b = variables_of ds a.1.1 in
    (all-append IsSpellableVariable vs ws a.0 b.0, b.1)

declared_of : {f : Fixed} {ts r : List Symbol} {vs : List Vary} → ReadsDeclared f ts vs r → AreSpellableSymbols ts → AreSpellableVariables vs × AreSpellableSymbols r
declared_of (lists.declared t u is d iu) h = let a = variables_of d h.1 in (a.0, a.1.1)

formals_of : {p : ℕ} {ts r : List Symbol} {vs : List Vary} → ReadsFormals p ts vs r → AreSpellableSymbols ts → AreSpellableVariables vs × AreSpellableSymbols r
formals_of (lists.no_formal u v iu iv) h = (tt, h.1.1)
formals_of (lists.formals u v iu d iv) h = let a = variables_of d h.1 in (a.0, a.1.1)

results_of : {p : ℕ} {ts r : List Symbol} {vs : List Vary} → ReadsResults p ts vs r → AreSpellableSymbols ts → AreSpellableVariables vs × AreSpellableSymbols r
results_of lists.no_result h = (tt, h)
results_of (lists.results t is d) h = formals_of d h.1

-- ---- statements

mutual
  statement_of : {p b : ℕ} {ts r : List Symbol} {s : Statement} → ReadsStatement p b ts s r → AreSpellableSymbols ts → IsSpellableStatement s × AreSpellableSymbols r
  statement_of (statements.asserts t u is d iu) h = let a = expression_of d h.1 in (a.0, a.1.1)
  statement_of (statements.assumes t u is d iu) h = let a = expression_of d h.1 in (a.0, a.1.1)
  statement_of (statements.havocs t u is d iu) h = let a = names_of d h.1 in (a.0, a.1.1)
  statement_of (statements.assigns t u d is e iu) h = let a = names_of d h in let b = expressions_of e a.1.1 in ((a.0, b.0), b.1.1)
  statement_of (statements.calls {f = f} t n u is name d iu) h = let a = arguments_of d h.1.1 in ((tt, name_of n f name h.1.0, a.0), a.1.1)
  statement_of (statements.calls_into {f = f} t c n u is d ic name e iu) h =
      let a = names_of d h.1 in
      let b = arguments_of e a.1.1.1 in
      ((a.0, name_of n f name a.1.1.0, b.0), b.1.1)
  statement_of (statements.branches d) h = if_of d h
  statement_of (statements.loops t is g i x) h =
      let a = guard_of g h.1 in
      let b = invariants_of i a.1 in
      let c = block_of x b.1 in
      ((a.0, b.0, c.0), c.1)
  statement_of (statements.breaks t u is iu) h = (tt, h.1.1)
  statement_of (statements.breaks_from {x = x} t n u is name iu) h = (name_of n x name h.1.0, h.1.1.1)
  statement_of (statements.goes_to t u is d iu) h = let a = names_of d h.1 in (a.0, a.1.1)
  statement_of (statements.returns t u is iu) h = (tt, h.1.1)
  statement_of (statements.labels {x = x} n u name iu) h = (name_of n x name h.0, h.1.1)

  if_of : {p b : ℕ} {ts r : List Symbol} {s : Statement} → ReadsIf p b ts s r → AreSpellableSymbols ts → IsSpellableStatement s × AreSpellableSymbols r
  if_of (statements.without_else t is g x) h = let a = guard_of g h.1 in let b = block_of x a.1 in ((a.0, b.0, tt), b.1)
  if_of (statements.with_else t u is g x iu y) h =
      let a = guard_of g h.1 in
      let b = block_of x a.1 in
      let c = block_of y b.1.1 in
      ((a.0, b.0, c.0), c.1)
  if_of (statements.with_else_if t u is g x iu y) h =
      let a = guard_of g h.1 in
      let b = block_of x a.1 in
      let c = if_of y b.1.1 in
      ((a.0, b.0, (c.0, tt)), c.1)

  block_of : {p b : ℕ} {ts r : List Symbol} {x : Block} → ReadsBlock p b ts x r → AreSpellableSymbols ts → IsSpellableBlock x × AreSpellableSymbols r
  block_of (statements.block u v iu d iv) h = let a = list_of d h.1 in (a.0, a.1.1)

  list_of : {p b : ℕ} {ts r : List Symbol} {x : Block} → ReadsList p b ts x r → AreSpellableSymbols ts → IsSpellableBlock x × AreSpellableSymbols r
  list_of statements.no_statement h = (tt, h)
  list_of (statements.next_statement d ds) h = let a = statement_of d h in let b = list_of ds a.1 in ((a.0, b.0), b.1)

-- ---- declarations

specification_of : {p : ℕ} {ts r : List Symbol} {s : Specification} → ReadsSpecification p ts s r → AreSpellableSymbols ts → IsSpellableSpecification s × AreSpellableSymbols r
specification_of (programs.requires d) h = condition_of d h
specification_of (programs.ensures d) h = condition_of d h
specification_of (programs.modifies_nothing t u is iu) h = (tt, h.1.1)
specification_of (programs.modifies t u is d iu) h = let a = names_of d h.1 in (a.0, a.1.1)

specifications_of : {p : ℕ} {ts r : List Symbol} {ss : List Specification} → ReadsSpecifications p ts ss r → AreSpellableSymbols ts →
    AllByRecursion IsSpellableSpecification ss × AreSpellableSymbols r
specifications_of programs.no_specification h = (tt, h)
specifications_of (programs.next_specification d ds) h = let a = specification_of d h in let b = specifications_of ds a.1 in ((a.0, b.0), b.1)

locals_of : {ts r : List Symbol} {vs : List Vary} → ReadsLocals ts vs r → AreSpellableSymbols ts → AreSpellableVariables vs × AreSpellableSymbols r
locals_of programs.no_local h = (tt, h)
locals_of (programs.next_locals {ts} {m} {r} {vs} {ws} d ds) h =
    let a = declared_of d h in
    let b = locals_of ds a.1 in
    (all-append IsSpellableVariable vs ws a.0 b.0, b.1)

body_of : {p b : ℕ} {ts r : List Symbol} {x : ProcedureBody} → ReadsBody p b ts x r → AreSpellableSymbols ts → IsSpellableBody (Some x) × AreSpellableSymbols r
body_of (programs.body u v iu d x iv) h = let a = locals_of d h.1 in let b = list_of x a.1 in ((a.0, b.0), b.1.1)

record IsSpellableHead (x : Head) : Type 0 where
  pub name : IsFreeWord x.name.text
  pub params : AreSpellableVariables x.params
  pub results : AreSpellableVariables x.results

head_of : {p : ℕ} {f : Fixed} {ts r : List Symbol} {x : Head} → ReadsHead p f ts x r → AreSpellableSymbols ts → IsSpellableHead x × AreSpellableSymbols r
head_of (programs.head {x = x} t n is name d e) h =
    let a = formals_of d h.1.1 in
    let b = results_of e a.1 in
    ((record { name = name_of n x name h.1.0; params = a.0; results = b.0 }), b.1)

constants_of : (vs : List Vary) → AreSpellableVariables vs → IsSpellableProgram (map Const vs)
constants_of [] h = tt
constants_of (v ∷ vs) h = (h.0, constants_of vs h.1)

globals_of : (vs : List Vary) → AreSpellableVariables vs → IsSpellableProgram (map Global vs)
globals_of [] h = tt
globals_of (v ∷ vs) h = (h.0, globals_of vs h.1)

declaration_of : {p b : ℕ} {ts r : List Symbol} {ds : List Declaration} → ReadsDeclaration p b ts ds r → AreSpellableSymbols ts → IsSpellableProgram ds × AreSpellableSymbols r
declaration_of (programs.constants {vs = vs} d) h = let a = declared_of d h in (constants_of vs a.0, a.1)
declaration_of (programs.variables {vs = vs} d) h = let a = declared_of d h in (globals_of vs a.0, a.1)
declaration_of (programs.axioms t u is d iu) h = let a = expression_of d h.1 in ((a.0, tt), a.1.1)
declaration_of (programs.without_body u x iu d) h =
    let a = head_of x h in
    let b = specifications_of d a.1.1 in
    ((record { name = a.0.name; params = a.0.params; results = a.0.results; specs = b.0; body = tt }, tt), b.1)
declaration_of (programs.with_body x d y) h =
    let a = head_of x h in
    let b = specifications_of d a.1 in
    let c = body_of y b.1 in
    ((record { name = a.0.name; params = a.0.params; results = a.0.results; specs = b.0; body = c.0 }, tt), c.1)
declaration_of (programs.implementation x y) h =
    let a = head_of x h in
    let c = body_of y a.1 in
    ((record { name = a.0.name; params = a.0.params; results = a.0.results; specs = tt; body = c.0 }, tt), c.1)

pub program_of : {p b : ℕ} {ts : List Symbol} {groups : List (List Declaration)} → ReadsProgram p b ts groups → AreSpellableSymbols ts → IsSpellableProgram (joined_groups groups)
program_of programs.no_declaration h = tt
program_of (programs.next_declaration {ts = ts} {ds = ds} {groups = groups} d rest) h =
    let a = declaration_of d h in
    all-append IsSpellableDeclaration ds (joined_groups groups) a.0 (program_of rest a.1)
