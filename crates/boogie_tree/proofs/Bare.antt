-- Places leave no mark in the text: each part without places has the text that it has with them.
use Rattle.std.proofs.Common.{◌≡◌, ℕ, suc, List, [], ◌∷◌, Option, None, Some, codes, map, refl, ap, sym, ◌∙◌}
use Rattle.boogie_tree.specs.declared.tree.Name.{Name}
use Rattle.boogie_tree.specs.declared.tree.Vary.{Vary}
use Rattle.boogie_tree.specs.Tree.{Expression, Lit, Truth, Var, Old, Not, Neg, Bin, Guard, Any, Cond, Invariant, Statement, Assert, Assume, Havoc, Assign, Call, If, While, Break, Goto, Return, Label, Block, Empty, Then, Specification, Requires, Ensures, Modifies, ProcedureBody, Procedure, Declaration, Const, Global, Axiom, Declares, Implements}
use Rattle.boogie_tree.specs.Levels.{level_of}
use Rattle.boogie_tree.specs.Printing.{expression_text, variable_text, guard_text, condition_line, invariants_text, targets_text, break_text, else_text, statement_text, block_text, modified_text, specification_text, specifications_text, locals_text, results_text, end_of_head, body_text, head_text, procedure_text, declaration_text, program_text}
use Rattle.boogie_tree.specs.Apart.{bare_name, bare_variable, bare, bare_guard, bare_invariant, bare_label, bare_statement, bare_block, bare_specification, bare_body, bare_procedure, bare_declaration, AreAlike}

level_bare : (e : Expression) → level_of (bare e) ≡ level_of e
level_bare (Lit s n) = refl
level_bare (Truth s b) = refl
level_bare (Var s x) = refl
level_bare (Old s e) = refl
level_bare (Not s e) = refl
level_bare (Neg s e) = refl
level_bare (Bin s op a b) = refl

text_bare : (e : Expression) → expression_text (bare e) ≡ expression_text e
text_bare (Lit s n) = refl
text_bare (Truth s b) = refl
text_bare (Var s x) = refl
text_bare (Old s e) = rw (text_bare e) refl
text_bare (Not s e) = rw (level_bare e, text_bare e) refl
text_bare (Neg s e) = rw (level_bare e, text_bare e) refl
text_bare (Bin s op a b) = simp (level_bare a, text_bare a, level_bare b, text_bare b)

names_bare : (xs : List Name) → map (λ (x : Name). x.text) (map bare_name xs) ≡ map (λ (x : Name). x.text) xs
names_bare [] = refl
names_bare (x ∷ xs) = ap (λ t. x.text ∷ t) (names_bare xs)

texts_bare : (es : List Expression) → map expression_text (map bare es) ≡ map expression_text es
texts_bare [] = refl
texts_bare (e ∷ es) = simp (text_bare e, texts_bare es)

variables_bare : (xs : List Vary) → map variable_text (map bare_variable xs) ≡ map variable_text xs
variables_bare [] = refl
variables_bare (x ∷ xs) = ap (λ t. variable_text x ∷ t) (variables_bare xs)

guard_bare : (g : Guard) → guard_text (bare_guard g) ≡ guard_text g
guard_bare Any = refl
guard_bare (Cond e) = text_bare e

condition_bare : (n : ℕ) (word : List ℕ) (i : Invariant) → condition_line n word (bare_invariant i) ≡ condition_line n word i
condition_bare n word i = rw (text_bare i.cond) refl

invariants_bare : (n : ℕ) (is : List Invariant) → invariants_text n (map bare_invariant is) ≡ invariants_text n is
invariants_bare n [] = refl
invariants_bare n (i ∷ is) = rw (condition_bare n (codes "invariant") i, invariants_bare n is) refl

targets_bare : (xs : List Name) → targets_text (map bare_name xs) ≡ targets_text xs
targets_bare [] = refl
targets_bare (x ∷ xs) = rw (names_bare xs) refl

break_bare : (x : Option Name) → break_text (bare_label x) ≡ break_text x
break_bare None = refl
break_bare (Some x) = refl

else_bare : (n : ℕ) (b : Block) (t : List ℕ) → else_text n (bare_block b) t ≡ else_text n b t
else_bare n Empty t = refl
else_bare n (Then s b) t = refl

mutual
  statement_bare : (n : ℕ) (s : Statement) → statement_text n (bare_statement s) ≡ statement_text n s
  statement_bare n (Assert s e) = rw (text_bare e) refl
  statement_bare n (Assume s e) = rw (text_bare e) refl
  statement_bare n (Havoc s xs) = rw (names_bare xs) refl
  statement_bare n (Assign s xs es) = rw (names_bare xs, texts_bare es) refl
  statement_bare n (Call s xs f es) = rw (targets_bare xs, texts_bare es) refl
  statement_bare n (If s g a b) = rw (guard_bare g, block_bare (suc n) a, block_bare (suc n) b, else_bare n b (block_text (suc n) b)) refl
  statement_bare n (While s g is b) = rw (guard_bare g, invariants_bare (suc n) is, block_bare (suc n) b) refl
  statement_bare n (Break s x) = rw (break_bare x) refl
  statement_bare n (Goto s xs) = rw (names_bare xs) refl
  statement_bare n (Return s) = refl
  statement_bare n (Label x) = refl

  block_bare : (n : ℕ) (b : Block) → block_text n (bare_block b) ≡ block_text n b
  block_bare n Empty = refl
  block_bare n (Then s b) = rw (statement_bare n s, block_bare n b) refl

modified_bare : (xs : List Name) → modified_text (map bare_name xs) ≡ modified_text xs
modified_bare [] = refl
modified_bare (x ∷ xs) = rw (names_bare xs) refl

specification_bare : (x : Specification) → specification_text (bare_specification x) ≡ specification_text x
specification_bare (Requires i) = condition_bare 1 (codes "requires") i
specification_bare (Ensures i) = condition_bare 1 (codes "ensures") i
specification_bare (Modifies xs) = rw (modified_bare xs) refl

specifications_bare : (xs : List Specification) → specifications_text (map bare_specification xs) ≡ specifications_text xs
specifications_bare [] = refl
specifications_bare (x ∷ xs) = rw (specification_bare x, specifications_bare xs) refl

locals_bare : (xs : List Vary) → locals_text (map bare_variable xs) ≡ locals_text xs
locals_bare [] = refl
locals_bare (x ∷ xs) = rw (locals_bare xs) refl

results_bare : (xs : List Vary) → results_text (map bare_variable xs) ≡ results_text xs
results_bare [] = refl
results_bare (x ∷ xs) = rw (variables_bare xs) refl

end_bare : (b : Option ProcedureBody) → end_of_head (bare_body b) ≡ end_of_head b
end_bare None = refl
end_bare (Some b) = refl

body_bare : (b : Option ProcedureBody) → body_text (bare_body b) ≡ body_text b
body_bare None = refl
body_bare (Some b) = rw (locals_bare b.locals, block_bare 1 b.stmts) refl

head_bare : (word : List ℕ) (p : Procedure) → head_text word (bare_procedure p) ≡ head_text word p
head_bare word p = rw (variables_bare p.params, results_bare p.results, end_bare p.body) refl

procedure_bare : (word : List ℕ) (p : Procedure) → procedure_text word (bare_procedure p) ≡ procedure_text word p
procedure_bare word p = rw (head_bare word p, specifications_bare p.specs, body_bare p.body) refl

declaration_bare : (d : Declaration) → declaration_text (bare_declaration d) ≡ declaration_text d
declaration_bare (Const x) = refl
declaration_bare (Global x) = refl
declaration_bare (Axiom s e) = rw (text_bare e) refl
declaration_bare (Declares p) = procedure_bare (codes "procedure") p
declaration_bare (Implements p) = procedure_bare (codes "implementation") p

program_bare : (p : List Declaration) → program_text (map bare_declaration p) ≡ program_text p
program_bare [] = refl
program_bare (d ∷ p) = rw (declaration_bare d, program_bare p) refl

pub alike_texts : (p q : List Declaration) → AreAlike p q → program_text p ≡ program_text q
alike_texts p q alike = sym (program_bare p) ∙ (ap program_text alike ∙ program_bare q)
