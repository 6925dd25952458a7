-- The canonical text of a program opens no more parentheses than any text of it.
use Rattle.std.proofs.Common.{◌≡◌, ℕ, ◌+◌, ◌≤◌, List, [], ◌∷◌, ◌++◌, map, Option, None, Some, refl, sym, subst, arith}
use Rattle.std.specs.List.{AllByRecursion}
use Rattle.boogie_tree.specs.declared.span.Span.{Span}
use Rattle.boogie_tree.specs.declared.tree.Vary.{Vary}
use Rattle.boogie_tree.specs.Tree.{Guard, Statement, If, Block, Empty, Then, Specification, ProcedureBody, Procedure, Declaration, Const, Global, Declares, Implements}
use Rattle.boogie_parse.specs.declared.symbols.Fixed.{Fixed}
use Rattle.boogie_parse.specs.declared.symbols.Fixed.TheVariants as fixed
use Rattle.boogie_parse.specs.declared.symbols.Sign.{Sign}
use Rattle.boogie_parse.specs.declared.symbols.Symbol.{Symbol}
use Rattle.boogie_parse.specs.Rules.GrammarStatements as statements
use Rattle.boogie_parse.specs.Rules.GrammarStatements.{ReadsStatement, ReadsIf, ReadsBlock, ReadsList}
use Rattle.boogie_parse.specs.Rules.GrammarProgram as programs
use Rattle.boogie_parse.specs.Rules.GrammarProgram.{ReadsSpecification, ReadsSpecifications, ReadsLocals, ReadsBody, Head, ReadsHead, procedure_read, ReadsDeclaration, ReadsProgram, joined_groups}
use Rattle.boogie_parse.specs.Rules.GrammarLists.{ReadsResults, no_result, results}
use Rattle.boogie_parse.specs.Lexing.Symbols.{symbol}
use Rattle.boogie_parse.specs.Spelling.Spelled.{led, name_sign, expression_signs, expressions_signs, names_signs, variables_signs, variable_signs, enclosed_signs, ended_signs, guard_signs, invariants_signs, targets_signs, else_signs, statement_signs, block_signs, specification_signs, specifications_signs, declared_signs, locals_signs, results_signs, end_of_head_signs, body_signs, procedure_signs, declaration_signs, program_signs}
use Rattle.boogie_parse.specs.Spelling.PrintedTokens.{IsSpellableStatement, IsSpellableBlock, IsSpellableSpecification, IsSpellableBody, IsSpellableProgram}
use Rattle.boogie_parse.specs.Spelling.Respelled.{signs_of}
use Rattle.boogie_parse.specs.Spelling.Parentheses.{opens_one, opened_in, ParenthesesAreNeeded}
use Rattle.boogie_parse.proofs.Spelling.FewestParentheses.{append_opened, count, few_whole, few_expressions, few_names, no_names, no_targets, no_variable, few_declared, few_formals, few_arguments, few_guard, ended_opened, few_condition, few_invariants}
use Rattle.boogie_parse.proofs.Spelling.RoundTrip.{program_is_spellable}

abbrev Fewer : List Sign → List Symbol → List Symbol → Type 0
Fewer ss ts r = opened_in ss + count r ≤ count ts

-- ---- statements

braced_opened : (ss : List Sign) → opened_in (ss ++ led fixed.CloseBrace []) ≡ opened_in ss
braced_opened ss = let h = append_opened ss (led fixed.CloseBrace []) in omega arith

else_opened : (b : Block) → opened_in (else_signs b (block_signs b)) ≤ opened_in (block_signs b)
else_opened Empty = omega arith
else_opened (Then s b) = let h = braced_opened (block_signs (Then s b)) in omega arith

-- the signs of a branch, by its guard and its blocks
if_opened : (s : Span) (g : Guard) (a b : Block) → opened_in (statement_signs (If s g a b)) ≤ opened_in (enclosed_signs (guard_signs g)) + (opened_in (block_signs a) + opened_in (block_signs b))
if_opened s g a b =
    let rest : List Sign = else_signs b (block_signs b) in
    let first = append_opened (enclosed_signs (guard_signs g)) (led fixed.OpenBrace (block_signs a ++ led fixed.CloseBrace rest)) in
    let second = append_opened (block_signs a) (led fixed.CloseBrace rest) in
    let last = else_opened b in
    omega arith

one_statement : (s : Statement) → opened_in (block_signs (Then s Empty)) ≡ opened_in (statement_signs s)
one_statement s = let h = append_opened (statement_signs s) [] in omega arith

mutual
  few_statement : {p b : ℕ} {ts r : List Symbol} {s : Statement} → ReadsStatement p b ts s r → IsSpellableStatement s → Fewer (statement_signs s) ts r
  few_statement (statements.asserts {e = e} t u it h iu) w = let x = few_whole h w in let parts = ended_opened (expression_signs e) in omega arith
  few_statement (statements.assumes {e = e} t u it h iu) w = let x = few_whole h w in let parts = ended_opened (expression_signs e) in omega arith
  few_statement (statements.havocs {xs = xs} t u it h iu) w = let x = few_names h in let none = no_names xs in let parts = ended_opened (names_signs xs) in omega arith
  few_statement (statements.assigns {xs = xs} {es = es} t u h it g iu) w =
      let x = few_names h in
      let none = no_names xs in
      let y = few_expressions g w.1 in
      let parts = append_opened (names_signs xs) (led fixed.Becomes (ended_signs (expressions_signs es))) in
      let ended = ended_opened (expressions_signs es) in
      omega arith
  few_statement (statements.calls {es = es} t n u it nm h iu) w = let x = few_arguments h w.2 in let parts = ended_opened (enclosed_signs (expressions_signs es)) in omega arith
  few_statement (statements.calls_into {xs = xs} {f = f} {es = es} t c n u it h ic nm g iu) w =
      let x = few_names h in
      let none = no_targets xs in
      let y = few_arguments g w.2 in
      let parts = append_opened (targets_signs xs) (name_sign f ∷ ended_signs (enclosed_signs (expressions_signs es))) in
      let ended = ended_opened (enclosed_signs (expressions_signs es)) in
      omega arith
  few_statement (statements.branches h) w = few_if h w
  few_statement (statements.loops {g = g} {is = is} {x = x} t it h is_h k) w =
      let a = few_guard h w.0 in
      let b = few_invariants is_h w.1 in
      let c = few_block k w.2 in
      let first = append_opened (enclosed_signs (guard_signs g) ++ invariants_signs is) (led fixed.OpenBrace (block_signs x ++ led fixed.CloseBrace [])) in
      let second = append_opened (enclosed_signs (guard_signs g)) (invariants_signs is) in
      let braced = braced_opened (block_signs x) in
      omega arith
  few_statement (statements.breaks t u it iu) w = omega arith
  few_statement (statements.breaks_from t n u it nm iu) w = omega arith
  few_statement (statements.goes_to {xs = xs} t u it h iu) w = let x = few_names h in let none = no_names xs in let parts = ended_opened (names_signs xs) in omega arith
  few_statement (statements.returns t u it iu) w = omega arith
  few_statement (statements.labels n u nm iu) w = omega arith

  few_if : {p b : ℕ} {ts r : List Symbol} {s : Statement} → ReadsIf p b ts s r → IsSpellableStatement s → Fewer (statement_signs s) ts r
  few_if (statements.without_else {g = g} {x = x} t it h k) w = let a = few_guard h w.0 in let b = few_block k w.1 in let c = if_opened t.span g x Empty in omega arith
  few_if (statements.with_else {g = g} {x = x} {y = y} t u it h k iu l) w =
      let a = few_guard h w.0 in let b = few_block k w.1 in let d = few_block l w.2 in let c = if_opened t.span g x y in omega arith
  few_if (statements.with_else_if {g = g} {x = x} {s = s} t u it h k iu l) w =
      let a = few_guard h w.0 in let b = few_block k w.1 in let d = few_if l w.2.0 in let e = one_statement s in let c = if_opened t.span g x (Then s Empty) in omega arith

  few_block : {p b : ℕ} {ts r : List Symbol} {x : Block} → ReadsBlock p b ts x r → IsSpellableBlock x → Fewer (block_signs x) ts r
  few_block (statements.block u v iu h iv) w = let x = few_list h w in omega arith

  few_list : {p b : ℕ} {ts r : List Symbol} {x : Block} → ReadsList p b ts x r → IsSpellableBlock x → Fewer (block_signs x) ts r
  few_list statements.no_statement w = omega arith
  few_list (statements.next_statement {s = s} {x = x} h k) w =
      let a = few_statement h w.0 in let b = few_list k w.1 in let parts = append_opened (statement_signs s) (block_signs x) in omega arith

-- ---- declarations

few_specification : {p : ℕ} {ts r : List Symbol} {s : Specification} → ReadsSpecification p ts s r → IsSpellableSpecification s → Fewer (specification_signs s) ts r
few_specification (programs.requires h) w = few_condition refl h w
few_specification (programs.ensures h) w = few_condition refl h w
few_specification (programs.modifies_nothing t u it iu) w = omega arith
few_specification (programs.modifies {xs = xs} t u it h iu) w = let x = few_names h in let none = no_names xs in let parts = ended_opened (names_signs xs) in omega arith

few_specifications : {p : ℕ} {ts r : List Symbol} {ss : List Specification} → ReadsSpecifications p ts ss r → AllByRecursion IsSpellableSpecification ss → Fewer (specifications_signs ss) ts r
few_specifications programs.no_specification w = omega arith
few_specifications (programs.next_specification {s = s} {ss = ss} h k) w =
    let a = few_specification h w.0 in let b = few_specifications k w.1 in let parts = append_opened (specification_signs s) (specifications_signs ss) in omega arith

no_declared : (f : Fixed) → opens_one f ≡ 0 → (v : Vary) → opened_in (declared_signs f v) ≡ 0
no_declared f none v = let parts = ended_opened (variable_signs v) in let x = no_variable v in omega arith

no_locals : (vs : List Vary) → opened_in (locals_signs vs) ≡ 0
no_locals [] = refl
no_locals (v ∷ vs) =
    let parts = append_opened (declared_signs fixed.Var v) (locals_signs vs) in let first = no_declared fixed.Var refl v in let rest = no_locals vs in omega arith

few_locals : {ts r : List Symbol} {vs : List Vary} → ReadsLocals ts vs r → count r ≤ count ts
few_locals programs.no_local = omega arith
few_locals (programs.next_locals h k) = let a = few_declared h in let b = few_locals k in omega arith

few_body : {p b : ℕ} {ts r : List Symbol} {x : ProcedureBody} → ReadsBody p b ts x r → IsSpellableBody (Some x) → Fewer (body_signs (Some x)) ts r
few_body (programs.body {vs = vs} {x = x} u v iu ls h iv) w =
    let a = few_locals ls in
    let b = few_list h w.1 in
    let none = no_locals vs in
    let first = append_opened (locals_signs vs ++ block_signs x) (led fixed.CloseBrace []) in
    let second = append_opened (locals_signs vs) (block_signs x) in
    omega arith

results_opened : (vs : List Vary) → opened_in (results_signs vs) ≤ opened_in (enclosed_signs (variables_signs vs))
results_opened [] = omega arith
results_opened (v ∷ vs) = omega arith

few_results : {p : ℕ} {ts r : List Symbol} {vs : List Vary} → ReadsResults p ts vs r → Fewer (results_signs vs) ts r
few_results no_result = omega arith
few_results (results {vs = vs} t it h) = let x = few_formals h in let most = results_opened vs in omega arith

-- the signs of a procedure, by its parts
procedure_opened : (f : Fixed) → opens_one f ≡ 0 → (p : Procedure) → opened_in (procedure_signs f p) ≡
    opened_in (enclosed_signs (variables_signs p.params)) + (opened_in (results_signs p.results) + (opened_in (specifications_signs p.specs) + opened_in (body_signs p.body)))
procedure_opened f none p =
    let a : List Sign = enclosed_signs (variables_signs p.params) in
    let b : List Sign = results_signs p.results in
    let c : List Sign = end_of_head_signs p.body in
    let d : List Sign = specifications_signs p.specs in
    let e : List Sign = body_signs p.body in
    let w = append_opened (((a ++ b) ++ c) ++ d) e in
    let x = append_opened ((a ++ b) ++ c) d in
    let y = append_opened (a ++ b) c in
    let z = append_opened a b in
    let none_more = no_end p.body in
    omega arith
  where
    no_end : (o : Option ProcedureBody) → opened_in (end_of_head_signs o) ≡ 0
    no_end None = refl
    no_end (Some b) = refl

few_head : {p : ℕ} {f : Fixed} {ts r : List Symbol} {h : Head} → ReadsHead p f ts h r → opened_in (enclosed_signs (variables_signs h.params)) + (opened_in (results_signs h.results) + count r) ≤ count ts
few_head (programs.head t n it nm ps rs) = let a = few_formals ps in let b = few_results rs in omega arith

no_constants : (f : Vary → Declaration) → ((v : Vary) → opened_in (declaration_signs (f v)) ≡ 0) → (vs : List Vary) → opened_in (program_signs (map f vs)) ≡ 0
no_constants f each [] = refl
no_constants f each (v ∷ vs) =
    let parts = append_opened (declaration_signs (f v)) (program_signs (map f vs)) in let first = each v in let rest = no_constants f each vs in omega arith

alone_opened : (d : Declaration) → opened_in (program_signs (d ∷ [])) ≡ opened_in (declaration_signs d)
alone_opened d = let h = append_opened (declaration_signs d) [] in omega arith

few_declaration : {p b : ℕ} {ts r : List Symbol} {ds : List Declaration} → ReadsDeclaration p b ts ds r → IsSpellableProgram ds → Fewer (program_signs ds) ts r
few_declaration (programs.constants {vs = vs} h) w = let x = few_declared h in let none = no_constants Const (no_declared fixed.Const refl) vs in omega arith
few_declaration (programs.variables {vs = vs} h) w = let x = few_declared h in let none = no_constants Global (no_declared fixed.Var refl) vs in omega arith
few_declaration (programs.axioms {e = e} t u it h iu) w =
    let x = few_whole h w.0 in let parts = ended_opened (expression_signs e) in let one = append_opened (ended_signs (expression_signs e)) [] in omega arith
few_declaration (programs.without_body {h = h} {ss = ss} u front iu specs) w =
    let q : Procedure = procedure_read h ss None in
    let a = few_head front in let b = few_specifications specs w.0.specs in let parts = procedure_opened fixed.Procedure refl q in let one = alone_opened (Declares q) in omega arith
few_declaration (programs.with_body {h = h} {ss = ss} {x = x} front specs body) w =
    let q : Procedure = procedure_read h ss (Some x) in
    let a = few_head front in let b = few_specifications specs w.0.specs in let c = few_body body w.0.body in
    let parts = procedure_opened fixed.Procedure refl q in let one = alone_opened (Declares q) in omega arith
few_declaration (programs.implementation {h = h} {x = x} front body) w =
    let q : Procedure = procedure_read h [] (Some x) in
    let a = few_head front in let c = few_body body w.0.body in
    let parts = procedure_opened fixed.Implementation refl q in let one = alone_opened (Implements q) in omega arith

program_joined : (ds es : List Declaration) → opened_in (program_signs (ds ++ es)) ≡ opened_in (program_signs ds) + opened_in (program_signs es)
program_joined [] es = omega arith
program_joined (d ∷ ds) es =
    let a = append_opened (declaration_signs d) (program_signs (ds ++ es)) in
    let b = append_opened (declaration_signs d) (program_signs ds) in
    let c = program_joined ds es in
    omega arith

spellable_parts : (ds es : List Declaration) → IsSpellableProgram (ds ++ es) → IsSpellableProgram ds × IsSpellableProgram es
spellable_parts [] es w = (tt, w)
spellable_parts (d ∷ ds) es w = let p = spellable_parts ds es w.1 in ((w.0, p.0), p.1)

few_program : {p b : ℕ} {ts : List Symbol} {groups : List (List Declaration)} → ReadsProgram p b ts groups → IsSpellableProgram (joined_groups groups) → opened_in (program_signs (joined_groups groups)) ≤ count ts
few_program programs.no_declaration w = omega arith
few_program (programs.next_declaration {ds = ds} {groups = groups} h k) w =
    let p = spellable_parts ds (joined_groups groups) w in
    let a = few_declaration h p.0 in
    let b = few_program k p.1 in
    let parts = program_joined ds (joined_groups groups) in
    omega arith

pub parentheses_are_needed : ParenthesesAreNeeded
parentheses_are_needed text ds is =
    let w : IsSpellableProgram (joined_groups is.groups) = subst IsSpellableProgram is.declarations (program_is_spellable text ds is) in
    let few = few_program is.spelled w in
    subst (λ (es : List Declaration). opened_in (program_signs es) ≤ opened_in (signs_of (map symbol is.tokens))) (sym is.declarations) few
