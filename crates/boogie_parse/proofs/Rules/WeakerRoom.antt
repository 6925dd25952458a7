-- What is read with so many parentheses and blocks is read with one more parenthesis and two more blocks.
use Rattle.std.specs.Prelude.{ℕ, suc, List}
use Rattle.boogie_tree.specs.declared.level.Level.{Level}
use Rattle.boogie_tree.specs.declared.tree.Vary.{Vary}
use Rattle.boogie_tree.specs.Tree.{Expression, Guard, Invariant, Statement, Block, Specification, ProcedureBody, Declaration}
use Rattle.boogie_parse.specs.declared.symbols.Fixed.{Fixed}
use Rattle.boogie_parse.specs.declared.symbols.Symbol.{Symbol}
use Rattle.boogie_parse.specs.Rules.Grammar.{Reads, one, more, unimplied, implied, conjoined, disjoined, uncompared, compared, unsigned, negated, denied, number, true_word, false_word, name, old_value, grouped}
use Rattle.boogie_parse.specs.Rules.GrammarLists as lists
use Rattle.boogie_parse.specs.Rules.GrammarLists.{ReadsExpressions, ReadsArguments, ReadsGuard, ReadsCondition, ReadsInvariants, ReadsFormals, ReadsResults}
use Rattle.boogie_parse.specs.Rules.GrammarStatements as statements
use Rattle.boogie_parse.specs.Rules.GrammarStatements.{ReadsStatement, ReadsIf, ReadsBlock, ReadsList}
use Rattle.boogie_parse.specs.Rules.GrammarProgram as programs
use Rattle.boogie_parse.specs.Rules.GrammarProgram.{ReadsSpecification, ReadsSpecifications, ReadsBody, Head, ReadsHead, ReadsDeclaration, ReadsProgram}

pub weak : {p : ℕ} {l : Level} {ts r : List Symbol} {e : Expression} → Reads p l ts e r → Reads (suc p) l ts e r
weak (one c d) = one c (weak d)
weak (more t a is l b) = more t (weak a) is l (weak b)
weak (unimplied d) = unimplied (weak d)
weak (implied t a is b) = implied t (weak a) is (weak b)
weak (conjoined d) = conjoined (weak d)
weak (disjoined d) = disjoined (weak d)
weak (uncompared d) = uncompared (weak d)
weak (compared t a is c b) = compared t (weak a) is c (weak b)
weak (unsigned d) = unsigned (weak d)
weak (negated t is d) = negated t is (weak d)
weak (denied t is d) = denied t is (weak d)
weak (number t is) = number t is
weak (true_word t is) = true_word t is
weak (false_word t is) = false_word t is
weak (name t is) = name t is
weak (old_value t u v it iu d iv) = old_value t u v it iu (weak d) iv
weak (grouped u v iu d iv) = grouped u v iu (weak d) iv

pub weak_expressions : {p : ℕ} {ts r : List Symbol} {es : List Expression} → ReadsExpressions p ts es r → ReadsExpressions (suc p) ts es r
weak_expressions (lists.last_expression d) = lists.last_expression (weak d)
weak_expressions (lists.next_expression u d iu ds) = lists.next_expression u (weak d) iu (weak_expressions ds)

pub weak_arguments : {p : ℕ} {ts r : List Symbol} {es : List Expression} → ReadsArguments p ts es r → ReadsArguments (suc p) ts es r
weak_arguments (lists.no_argument u v iu iv) = lists.no_argument u v iu iv
weak_arguments (lists.arguments u v iu d iv) = lists.arguments u v iu (weak_expressions d) iv

pub weak_guard : {p : ℕ} {ts r : List Symbol} {g : Guard} → ReadsGuard p ts g r → ReadsGuard (suc p) ts g r
weak_guard (lists.either_way u t v iu it iv) = lists.either_way u t v iu it iv
weak_guard (lists.condition u v iu d iv) = lists.condition u v iu (weak d) iv

pub weak_condition : {p : ℕ} {f : Fixed} {ts r : List Symbol} {i : Invariant} → ReadsCondition p f ts i r → ReadsCondition (suc p) f ts i r
weak_condition (lists.checked t u it d iu) = lists.checked t u it (weak d) iu
weak_condition (lists.free s t u is it d iu) = lists.free s t u is it (weak d) iu

pub weak_invariants : {p : ℕ} {ts r : List Symbol} {is : List Invariant} → ReadsInvariants p ts is r → ReadsInvariants (suc p) ts is r
weak_invariants lists.no_invariant = lists.no_invariant
weak_invariants (lists.next_invariant d ds) = lists.next_invariant (weak_condition d) (weak_invariants ds)

pub weak_formals : {p : ℕ} {ts r : List Symbol} {vs : List Vary} → ReadsFormals p ts vs r → ReadsFormals (suc p) ts vs r
weak_formals (lists.no_formal u v iu iv) = lists.no_formal u v iu iv
weak_formals (lists.formals u v iu d iv) = lists.formals u v iu d iv

pub weak_results : {p : ℕ} {ts r : List Symbol} {vs : List Vary} → ReadsResults p ts vs r → ReadsResults (suc p) ts vs r
weak_results lists.no_result = lists.no_result
weak_results (lists.results t it d) = lists.results t it (weak_formals d)

mutual
  pub weak_statement : {p b : ℕ} {ts r : List Symbol} {s : Statement} → ReadsStatement p b ts s r → ReadsStatement (suc p) (suc (suc b)) ts s r
  weak_statement (statements.asserts t u it d iu) = statements.asserts t u it (weak d) iu
  weak_statement (statements.assumes t u it d iu) = statements.assumes t u it (weak d) iu
  weak_statement (statements.havocs t u it d iu) = statements.havocs t u it d iu
  weak_statement (statements.assigns t u d it es iu) = statements.assigns t u d it (weak_expressions es) iu
  weak_statement (statements.calls t n u it nm es iu) = statements.calls t n u it nm (weak_arguments es) iu
  weak_statement (statements.calls_into t c n u it d ic nm es iu) = statements.calls_into t c n u it d ic nm (weak_arguments es) iu
  weak_statement (statements.branches d) = statements.branches (weak_if d)
  weak_statement (statements.loops t it g is d) = statements.loops t it (weak_guard g) (weak_invariants is) (weak_block d)
  weak_statement (statements.breaks t u it iu) = statements.breaks t u it iu
  weak_statement (statements.breaks_from t n u it nm iu) = statements.breaks_from t n u it nm iu
  weak_statement (statements.goes_to t u it d iu) = statements.goes_to t u it d iu
  weak_statement (statements.returns t u it iu) = statements.returns t u it iu
  weak_statement (statements.labels n u nm iu) = statements.labels n u nm iu

  pub weak_if : {p b : ℕ} {ts r : List Symbol} {s : Statement} → ReadsIf p b ts s r → ReadsIf (suc p) (suc (suc b)) ts s r
  weak_if (statements.without_else t it g d) = statements.without_else t it (weak_guard g) (weak_block d)
  weak_if (statements.with_else t u it g d iu e) = statements.with_else t u it (weak_guard g) (weak_block d) iu (weak_block e)
  weak_if (statements.with_else_if t u it g d iu e) = statements.with_else_if t u it (weak_guard g) (weak_block d) iu (weak_if e)

  pub weak_block : {p b : ℕ} {ts r : List Symbol} {x : Block} → ReadsBlock p b ts x r → ReadsBlock (suc p) (suc (suc b)) ts x r
  weak_block (statements.block u v iu d iv) = statements.block u v iu (weak_list d) iv

  pub weak_list : {p b : ℕ} {ts r : List Symbol} {x : Block} → ReadsList p b ts x r → ReadsList (suc p) (suc (suc b)) ts x r
  weak_list statements.no_statement = statements.no_statement
  weak_list (statements.next_statement d ds) = statements.next_statement (weak_statement d) (weak_list ds)

pub weak_specification : {p : ℕ} {ts r : List Symbol} {s : Specification} → ReadsSpecification p ts s r → ReadsSpecification (suc p) ts s r
weak_specification (programs.requires d) = programs.requires (weak_condition d)
weak_specification (programs.ensures d) = programs.ensures (weak_condition d)
weak_specification (programs.modifies_nothing t u it iu) = programs.modifies_nothing t u it iu
weak_specification (programs.modifies t u it d iu) = programs.modifies t u it d iu

pub weak_specifications : {p : ℕ} {ts r : List Symbol} {ss : List Specification} → ReadsSpecifications p ts ss r → ReadsSpecifications (suc p) ts ss r
weak_specifications programs.no_specification = programs.no_specification
weak_specifications (programs.next_specification d ds) = programs.next_specification (weak_specification d) (weak_specifications ds)

pub weak_body : {p b : ℕ} {ts r : List Symbol} {x : ProcedureBody} → ReadsBody p b ts x r → ReadsBody (suc p) (suc (suc b)) ts x r
weak_body (programs.body u v iu ls d iv) = programs.body u v iu ls (weak_list d) iv

pub weak_head : {p : ℕ} {f : Fixed} {ts r : List Symbol} {h : Head} → ReadsHead p f ts h r → ReadsHead (suc p) f ts h r
weak_head (programs.head t n it nm ps rs) = programs.head t n it nm (weak_formals ps) (weak_results rs)

pub weak_declaration : {p b : ℕ} {ts r : List Symbol} {ds : List Declaration} → ReadsDeclaration p b ts ds r → ReadsDeclaration (suc p) (suc (suc b)) ts ds r
weak_declaration (programs.constants d) = programs.constants d
weak_declaration (programs.variables d) = programs.variables d
weak_declaration (programs.axioms t u it d iu) = programs.axioms t u it (weak d) iu
weak_declaration (programs.without_body u h iu ss) = programs.without_body u (weak_head h) iu (weak_specifications ss)
weak_declaration (programs.with_body h ss x) = programs.with_body (weak_head h) (weak_specifications ss) (weak_body x)
weak_declaration (programs.implementation h x) = programs.implementation (weak_head h) (weak_body x)
