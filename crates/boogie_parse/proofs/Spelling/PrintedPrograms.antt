-- The text of a program has the program's signs.
use Rattle.std.proofs.Common.{ℕ, List, [], ◌∷◌, ◌++◌, Option, None, Some, codes, refl, subst, append_assoc}
use Rattle.std.specs.List.{AllByRecursion}
use Rattle.std.proofs.lemmas.List.{append-nil}
use Rattle.boogie_tree.specs.declared.tree.Name.{Name}
use Rattle.boogie_tree.specs.declared.tree.Vary.{Vary}
use Rattle.boogie_tree.specs.Tree.{Specification, Requires, Ensures, Modifies, ProcedureBody, Procedure, Declaration, Const, Global, Axiom, Declares, Implements}
use Rattle.boogie_tree.specs.Printing.{line, variable_text, variables_text, modified_text, specification_text, specifications_text, locals_text, results_text, end_of_head, body_text, procedure_text, declaration_text, program_text}
use Rattle.boogie_tree.specs.Places.{beginning}
use Rattle.boogie_parse.specs.declared.symbols.Fixed.{Fixed}
use Rattle.boogie_parse.specs.declared.symbols.Fixed.TheVariants as fixed
use Rattle.boogie_parse.specs.declared.symbols.Sign.TheVariants as signs
use Rattle.boogie_parse.specs.Lexing.Lexed.{left_out}
use Rattle.boogie_parse.specs.Spelling.Spelled.{led, ended_signs, variables_signs, names_signs, specification_signs, specifications_signs, declared_signs, locals_signs, results_signs, end_of_head_signs, body_signs, procedure_signs, declaration_signs, program_signs}
use Rattle.boogie_parse.specs.Spelling.PrintedTokens.{AreNames, IsSpellableSpecification, IsSpellableVariable, AreSpellableVariables, IsSpellableBody, IsSpellableProcedure, IsSpellableDeclaration, IsSpellableProgram, HasSigns}
use Rattle.boogie_parse.specs.Lexing.Symbols.{spellings}
use Rattle.boogie_parse.proofs.Spelling.PrintedPieces.{IsRead, nothing_read}
use Rattle.boogie_parse.proofs.Spelling.PrintedTexts.{Tells, next, ended, same, blank, nothing_told, IsWord, name_word, keyword, word, word_space}
use Rattle.boogie_parse.proofs.Spelling.PrintedExpressions.{open_told, close_told}
use Rattle.boogie_parse.proofs.Spelling.PrintedLists.{semicolon_told, variable_told, variables_told, names_told, line_told, claim_told, condition_told}
use Rattle.boogie_parse.proofs.Spelling.PrintedStatements.{open_brace_told, close_brace_told, block_told}

-- ---- specifications

modified_told : (xs : List Name) → AreNames xs → Tells (codes "modifies" ++ modified_text xs ++ codes ";") (led fixed.Modifies (ended_signs (names_signs xs)))
unfolding left_out spellings
modified_told [] h = ended (word (keyword (codes "modifies") refl refl refl refl)) (λ rest. refl) semicolon_told
modified_told (x ∷ xs) h = next (word_space (keyword (codes "modifies") refl refl refl refl)) (ended (names_told (x ∷ xs) h) (λ rest. refl) semicolon_told)

specification_told : (x : Specification) → IsSpellableSpecification x → Tells (specification_text x) (specification_signs x)
unfolding left_out spellings
specification_told (Requires i) h = condition_told 1 (codes "requires") fixed.Requires (keyword (codes "requires") refl refl refl refl) i h
specification_told (Ensures i) h = condition_told 1 (codes "ensures") fixed.Ensures (keyword (codes "ensures") refl refl refl refl) i h
specification_told (Modifies xs) h = line_told 1 (modified_told xs h)

specifications_told : (xs : List Specification) → AllByRecursion IsSpellableSpecification xs → Tells (specifications_text xs) (specifications_signs xs)
specifications_told [] h = nothing_told
specifications_told (x ∷ xs) h = next (specification_told x h.0) (specifications_told xs h.1)

-- ---- bodies

-- a word, a variable and a semicolon
declared_told : {w : List ℕ} (f : Fixed) (n : ℕ) → IsWord w (signs.Fixed f) → (x : Vary) → IsSpellableVariable x → Tells (line n ((w ++ 32 ∷ []) ++ (variable_text x ++ codes ";"))) (declared_signs f x)
declared_told {w} f n is x h = line_told n (next (word_space is) (ended (variable_told x h) (λ rest. refl) semicolon_told))

locals_told : (xs : List Vary) → AreSpellableVariables xs → Tells (locals_text xs) (locals_signs xs)
unfolding left_out spellings
locals_told [] h = nothing_told
locals_told (x ∷ xs) h = next (declared_told fixed.Var 1 (keyword (codes "var") refl refl refl refl) x h.0) (locals_told xs h.1)

body_told : (b : Option ProcedureBody) → IsSpellableBody b → Tells (body_text b) (body_signs b)
body_told None h = nothing_told
body_told (Some b) h =
    next (line_told 0 open_brace_told) (next (next (locals_told b.locals h.0) (block_told 1 b.stmts h.1)) (line_told 0 close_brace_told))

-- ---- procedures

results_told : (xs : List Vary) → AreSpellableVariables xs → Tells (results_text xs) (results_signs xs)
unfolding left_out spellings
results_told [] h = nothing_told
results_told (x ∷ xs) h =
    next (blank 32 refl) (next (word_space (keyword (codes "returns") refl refl refl refl)) (next open_told (ended (variables_told (x ∷ xs) h) (λ rest. refl) close_told)))

end_of_head_told : (b : Option ProcedureBody) → Tells (end_of_head b) (end_of_head_signs b)
end_of_head_told None = semicolon_told
end_of_head_told (Some b) = nothing_told

signature_told : (w : List ℕ) (f : Fixed) → IsWord w (signs.Fixed f) → (p : Procedure) → IsSpellableProcedure p →
    Tells ((w ++ 32 ∷ []) ++ (p.name.text ++ (codes "(" ++ (variables_text p.params ++ codes ")"))))
    (led f (signs.Name p.name.text ∷ led fixed.OpenParenthesis (variables_signs p.params ++ led fixed.CloseParenthesis [])))
signature_told w f is p h =
    next (word_space is) (ended (word (name_word h.name)) (λ rest. refl) (next open_told (ended (variables_told p.params h.params) (λ rest. refl) close_told)))

procedure_told : (w : List ℕ) (f : Fixed) → IsWord w (signs.Fixed f) → (p : Procedure) → IsSpellableProcedure p → Tells (procedure_text w p) (procedure_signs f p)
procedure_told w f is p h =
    same (next (line_told 0 (next (signature_told w f is p h) (next (results_told p.results h.results) (end_of_head_told p.body)))) (next (specifications_told p.specs h.specs) (body_told p.body h.body)))
    (simp append_assoc) (simp append_assoc)

-- ---- declarations

declaration_told : (d : Declaration) → IsSpellableDeclaration d → Tells (declaration_text d) (declaration_signs d)
unfolding left_out spellings
declaration_told (Const x) h = declared_told fixed.Const 0 (keyword (codes "const") refl refl refl refl) x h
declaration_told (Global x) h = declared_told fixed.Var 0 (keyword (codes "var") refl refl refl refl) x h
declaration_told (Axiom s e) h = line_told 0 (next (word_space (keyword (codes "axiom") refl refl refl refl)) (claim_told e h))
declaration_told (Declares p) h = procedure_told (codes "procedure") fixed.Procedure (keyword (codes "procedure") refl refl refl refl) p h
declaration_told (Implements p) h = procedure_told (codes "implementation") fixed.Implementation (keyword (codes "implementation") refl refl refl refl) p h

program_told : (ds : List Declaration) → IsSpellableProgram ds → Tells (program_text ds) (program_signs ds)
program_told [] h = nothing_told
program_told (d ∷ ds) h = next (declaration_told d h.0) (program_told ds h.1)

pub program_has_signs : (ds : List Declaration) → IsSpellableProgram ds → HasSigns ds
program_has_signs ds h =
    let whole : IsRead (program_text ds ++ []) (program_signs ds ++ []) = (program_told ds h).go [] [] nothing_read in
    let read : IsRead (program_text ds) (program_signs ds) =
    subst (λ t. IsRead t (program_signs ds)) (append-nil (program_text ds)) (subst (IsRead (program_text ds ++ [])) (append-nil (program_signs ds)) whole) in
    read.has.read beginning
