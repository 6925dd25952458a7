-- The texts of statements and blocks have their signs.
use Rattle.std.proofs.Common.{ℕ, suc, List, [], ◌∷◌, ◌++◌, Option, None, Some, codes, refl, append_assoc}
use Rattle.boogie_tree.specs.declared.tree.Name.{Name}
use Rattle.boogie_tree.specs.Tree.{Guard, Statement, Assert, Assume, Havoc, Assign, Call, If, While, Break, Goto, Return, Label, Block, Empty, Then}
use Rattle.boogie_tree.specs.Printing.{names_text, guard_text, line, break_text, else_text, statement_text, block_text}
use Rattle.boogie_parse.specs.declared.symbols.Fixed.TheVariants as fixed
use Rattle.boogie_parse.specs.declared.symbols.Sign.{Sign}
use Rattle.boogie_parse.specs.declared.symbols.Sign.TheVariants as signs
use Rattle.boogie_parse.specs.Lexing.Pieces.{front}
use Rattle.boogie_parse.specs.Lexing.Lexed.{left_out}
use Rattle.boogie_parse.specs.Spelling.Spelled.{led, enclosed_signs, ended_signs, guard_signs, names_signs, break_signs, else_signs, statement_signs, block_signs}
use Rattle.boogie_parse.specs.Spelling.PrintedTokens.{IsFreeWord, AreNames, IsSpellableGuard, IsSpellableLabel, IsSpellableStatement, IsSpellableBlock}
use Rattle.boogie_parse.specs.Lexing.Symbols.{spellings}
use Rattle.boogie_parse.proofs.Spelling.PrintedTexts.{Tells, TellsEnded, next, ended, same, blank, nothing_told, name_word, keyword, word, word_space, mark}
use Rattle.boogie_parse.proofs.Spelling.PrintedExpressions.{open_told, close_told}
use Rattle.boogie_parse.proofs.Spelling.PrintedLists.{semicolon_told, becomes_told, names_told, expressions_told, line_told, label_told, guard_told, claim_told, invariants_told, targets_told}

pub open_brace_told : Tells (codes "{") (signs.Fixed fixed.OpenBrace ∷ [])
unfolding front left_out spellings
open_brace_told = mark (codes "{") (λ rest. refl) refl refl

pub close_brace_told : Tells (codes "}") (signs.Fixed fixed.CloseBrace ∷ [])
unfolding front left_out spellings
close_brace_told = mark (codes "}") (λ rest. refl) refl refl

close_end_told : Tells (codes ");") (signs.Fixed fixed.CloseParenthesis ∷ signs.Fixed fixed.Semicolon ∷ [])
close_end_told = next close_told semicolon_told

close_open_told : Tells (codes ") {") (signs.Fixed fixed.CloseParenthesis ∷ signs.Fixed fixed.OpenBrace ∷ [])
close_open_told = next close_told (next (blank 32 refl) open_brace_told)

else_told : Tells (codes "} else {") (signs.Fixed fixed.CloseBrace ∷ signs.Fixed fixed.Else ∷ signs.Fixed fixed.OpenBrace ∷ [])
unfolding left_out spellings
else_told = next close_brace_told (next (blank 32 refl) (next (word_space (keyword (codes "else") refl refl refl refl)) open_brace_told))

if_told : Tells (codes "if (") (signs.Fixed fixed.If ∷ signs.Fixed fixed.OpenParenthesis ∷ [])
unfolding left_out spellings
if_told = next (word_space (keyword (codes "if") refl refl refl refl)) open_told

while_told : Tells (codes "while (") (signs.Fixed fixed.While ∷ signs.Fixed fixed.OpenParenthesis ∷ [])
unfolding left_out spellings
while_told = next (word_space (keyword (codes "while") refl refl refl refl)) open_told

-- names up to a semicolon
pub names_end_told : (xs : List Name) → AreNames xs → Tells (names_text xs ++ codes ";") (names_signs xs ++ led fixed.Semicolon [])
names_end_told xs h = ended (names_told xs h) (λ rest. refl) semicolon_told

break_told : (x : Option Name) → IsSpellableLabel x → Tells (break_text x) (ended_signs (break_signs x))
unfolding left_out spellings
break_told None h = ended (word (keyword (codes "break") refl refl refl refl)) (λ rest. refl) semicolon_told
break_told (Some x) h = next (word_space (keyword (codes "break") refl refl refl refl)) (ended (word (name_word h)) (λ rest. refl) semicolon_told)

-- what stands behind the first branch
behind_branch : (n : ℕ) (b : Block) (t : List ℕ) (ss : List Sign) → Tells t ss → Tells (else_text n b t ++ line n (codes "}")) (led fixed.CloseBrace (else_signs b ss))
behind_branch n Empty t ss x = line_told n close_brace_told
behind_branch n (Then s b) t ss x = same (next (line_told n else_told) (next x (line_told n close_brace_told))) (simp append_assoc) refl

call_told : (t : List ℕ) (ts : List Sign) (f : Name) (e : List ℕ) (es : List Sign) → Tells t ts → IsFreeWord f.text → TellsEnded e es →
    Tells (codes "call " ++ t ++ f.text ++ codes "(" ++ e ++ codes ");") (led fixed.Call (ts ++ signs.Name f.text ∷ ended_signs (enclosed_signs es)))
unfolding left_out spellings
call_told t ts f e es x n y =
    same (next (word_space (keyword (codes "call") refl refl refl refl)) (next x (ended (word (name_word n)) (λ rest. refl) (next open_told (ended y (λ rest. refl) close_end_told)))))
    (simp append_assoc) (simp append_assoc)

branch_told : (n : ℕ) (g : Guard) → IsSpellableGuard g → (a e : List ℕ) (sa se : List Sign) → Tells a sa → Tells e (led fixed.CloseBrace se) →
    Tells (line n (codes "if (" ++ guard_text g ++ codes ") {") ++ a ++ e) (led fixed.If (enclosed_signs (guard_signs g) ++ led fixed.OpenBrace (sa ++ led fixed.CloseBrace se)))
branch_told n g h a e sa se x y =
    same (next (line_told n (next if_told (guard_told g h (codes " {") _ close_open_told))) (next x y)) (simp append_assoc) (simp append_assoc)

loop_told : (n : ℕ) (g : Guard) → IsSpellableGuard g → (i b : List ℕ) (si sb : List Sign) → Tells i si → Tells b sb →
    Tells (line n (codes "while (" ++ guard_text g ++ codes ")") ++ i ++ line n (codes "{") ++ b ++ line n (codes "}"))
    (led fixed.While (enclosed_signs (guard_signs g) ++ si ++ led fixed.OpenBrace (sb ++ led fixed.CloseBrace [])))
loop_told n g h i b si sb x y =
    same (next (line_told n (next while_told (guard_told g h [] _ close_told))) (next x (next (line_told n open_brace_told) (next y (line_told n close_brace_told)))))
    (simp append_assoc) (simp append_assoc)

mutual
  unfolding left_out spellings

  pub statement_told : (n : ℕ) (s : Statement) → IsSpellableStatement s → Tells (statement_text n s) (statement_signs s)
  statement_told n (Assert s e) h = line_told n (next (word_space (keyword (codes "assert") refl refl refl refl)) (claim_told e h))
  statement_told n (Assume s e) h = line_told n (next (word_space (keyword (codes "assume") refl refl refl refl)) (claim_told e h))
  statement_told n (Havoc s xs) h = line_told n (next (word_space (keyword (codes "havoc") refl refl refl refl)) (names_end_told xs h))
  statement_told n (Assign s xs es) h =
      line_told n (same (ended (names_told xs h.0) (λ rest. refl) (next becomes_told (ended (expressions_told es h.1) (λ rest. refl) semicolon_told))) (simp append_assoc) refl)
  statement_told n (Call s xs f es) h = line_told n (call_told _ _ f _ _ (targets_told xs h.0) h.1 (expressions_told es h.2))
  statement_told n (If s g a b) h =
      same (branch_told n g h.0 _ _ _ _ (block_told (suc n) a h.1) (behind_branch n b _ _ (block_told (suc n) b h.2))) (simp append_assoc) refl
  statement_told n (While s g is b) h = loop_told n g h.0 _ _ _ _ (invariants_told (suc n) is h.1) (block_told (suc n) b h.2)
  statement_told n (Break s x) h = line_told n (break_told x h)
  statement_told n (Goto s xs) h = line_told n (next (word_space (keyword (codes "goto") refl refl refl refl)) (names_end_told xs h))
  statement_told n (Return s) h = line_told n (ended (word (keyword (codes "return") refl refl refl refl)) (λ rest. refl) semicolon_told)
  statement_told n (Label x) h = label_told n x.text h

  pub block_told : (n : ℕ) (b : Block) → IsSpellableBlock b → Tells (block_text n b) (block_signs b)
  block_told n Empty h = nothing_told
  block_told n (Then s b) h = next (statement_told n s h.0) (block_told n b h.1)
