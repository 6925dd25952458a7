-- The texts of lists and of lines have the signs of what they list.
use Rattle.std.proofs.Common.{ℕ, zero, suc, Bool, true, false, List, [], ◌∷◌, ◌++◌, map, codes, refl, append_assoc}
use Rattle.std.specs.List.{AllByRecursion}
use Rattle.boogie_tree.specs.declared.tree.Name.{Name}
use Rattle.boogie_tree.specs.declared.tree.Ty.{Ty}
use Rattle.boogie_tree.specs.declared.tree.Ty.TheVariants as types
use Rattle.boogie_tree.specs.declared.tree.Vary.{Vary}
use Rattle.boogie_tree.specs.Tree.{Expression, Guard, Any, Cond, Invariant}
use Rattle.boogie_tree.specs.Printing.{expression_text, continued, listed, names_text, expressions_text, type_text, variable_text, variables_text, indent, line, guard_text, free_text, condition_line, invariants_text, targets_text}
use Rattle.boogie_parse.specs.declared.symbols.Fixed.{Fixed}
use Rattle.boogie_parse.specs.declared.symbols.Fixed.TheVariants as fixed
use Rattle.boogie_parse.specs.declared.symbols.Sign.{Sign}
use Rattle.boogie_parse.specs.declared.symbols.Sign.TheVariants as signs
use Rattle.boogie_parse.specs.Lexing.Pieces.{front}
use Rattle.boogie_parse.specs.Lexing.Lexed.{left_out}
use Rattle.boogie_parse.specs.Spelling.Spelled.{led, name_sign, expression_signs, continued_signs, listed_signs, names_signs, expressions_signs, type_sign, variable_signs, variables_signs, guard_signs, free_signs, condition_signs, invariants_signs, targets_signs}
use Rattle.boogie_parse.specs.Spelling.PrintedTokens.{IsFreeWord, AreNames, IsSpellable, AreSpellable, IsSpellableGuard, AreSpellableInvariants, IsSpellableVariable, AreSpellableVariables}
use Rattle.boogie_parse.specs.Lexing.Symbols.{spellings}
use Rattle.boogie_parse.proofs.Spelling.PrintedPieces.{IsRead, blank_before}
use Rattle.boogie_parse.proofs.Spelling.PrintedTexts.{Ends, Tells, TellsEnded, weaker, next, next_ended, ended, both_ended, same, blank, nothing_told, IsWord, name_word, keyword, word, word_space, mark, mark_read, mark_space, name_colon}
use Rattle.boogie_parse.proofs.Spelling.PrintedExpressions.{expression_told}

pub semicolon_told : Tells (codes ";") (signs.Fixed fixed.Semicolon ∷ [])
unfolding front left_out spellings
semicolon_told = mark (codes ";") (λ rest. refl) refl refl

comma_told : Tells (codes ", ") (signs.Fixed fixed.Comma ∷ [])
unfolding front left_out spellings
comma_told = mark_space (codes ",") (λ rest. refl) refl refl

pub becomes_told : Tells (codes " := ") (signs.Fixed fixed.Becomes ∷ [])
unfolding front left_out spellings
becomes_told = next (blank 32 refl) (mark_space (codes ":=") (λ rest. refl) refl refl)

-- ---- with commas

continued_ends : (ts : List (List ℕ)) (rest : List ℕ) → Ends rest → Ends (continued ts ++ rest)
continued_ends [] rest ends = ends
continued_ends (t ∷ ts) rest ends = refl

module _ {X : Type 0} (P : X → Type 0) (f : X → List ℕ) (g : X → List Sign) (tell : (x : X) → P x → TellsEnded (f x) (g x)) where
  continued_told : (xs : List X) → AllByRecursion P xs → TellsEnded (continued (map f xs)) (continued_signs (map g xs))
  continued_told [] h = weaker nothing_told
  continued_told (x ∷ xs) h = next_ended comma_told (both_ended (tell x h.0) (continued_ends (map f xs)) (continued_told xs h.1))

  listed_told : (xs : List X) → AllByRecursion P xs → TellsEnded (listed (map f xs)) (listed_signs (map g xs))
  listed_told [] h = weaker nothing_told
  listed_told (x ∷ xs) h = both_ended (tell x h.0) (continued_ends (map f xs)) (continued_told xs h.1)

pub names_told : (xs : List Name) → AreNames xs → TellsEnded (names_text xs) (names_signs xs)
names_told xs h = listed_told (λ (x : Name). IsFreeWord x.text) (λ x. x.text) (λ x. name_sign x ∷ []) (λ x n. word (name_word n)) xs h

pub expressions_told : (es : List Expression) → AreSpellable es → TellsEnded (expressions_text es) (expressions_signs es)
expressions_told es h = listed_told IsSpellable expression_text expression_signs expression_told es h

type_told : (t : Ty) → TellsEnded (type_text t) (signs.Fixed (type_sign t) ∷ [])
unfolding left_out spellings
type_told types.Int = word (keyword (codes "int") refl refl refl refl)
type_told types.Bool = word (keyword (codes "bool") refl refl refl refl)

colon_told : (w : List ℕ) → IsFreeWord w → Tells (w ++ codes ": ") (signs.Name w ∷ signs.Fixed fixed.Colon ∷ [])
unfolding front
colon_told w n = record { go = λ rest more r. rw (append_assoc w (58 ∷ 32 ∷ []) rest) (name_colon w 32 n refl (λ behind. refl) rest more r) }

pub variable_told : (x : Vary) → IsSpellableVariable x → TellsEnded (variable_text x) (variable_signs x)
variable_told x h = next_ended (colon_told x.name.text h) (type_told x.ty)

pub variables_told : (xs : List Vary) → AreSpellableVariables xs → TellsEnded (variables_text xs) (variables_signs xs)
variables_told xs h = listed_told IsSpellableVariable variable_text variable_signs variable_told xs h

-- ---- lines

indented : (n : ℕ) → Tells (indent n) []
indented zero = nothing_told
indented (suc n) = next (blank 32 refl) (next (blank 32 refl) (indented n))

line_by : (n : ℕ) (t : List ℕ) (ss : List Sign) → ((rest : List ℕ) (more : List Sign) → IsRead rest more → IsRead (t ++ 10 ∷ rest) (ss ++ more)) → Tells (line n t) ss
line_by n t ss tell = record {
  go = λ rest more r. rw (append_assoc (indent n ++ t) (10 ∷ []) rest, append_assoc (indent n) t (10 ∷ rest)) ((indented n).go (t ++ 10 ∷ rest) (ss ++ more) (tell rest more r));
}

pub line_told : (n : ℕ) {t : List ℕ} {ss : List Sign} → Tells t ss → Tells (line n t) ss
line_told n {t} {ss} x = line_by n t ss (λ rest more r. x.go (10 ∷ rest) more (blank_before 10 rest more refl r))

pub label_told : (n : ℕ) (w : List ℕ) → IsFreeWord w → Tells (line n (w ++ codes ":")) (signs.Name w ∷ signs.Fixed fixed.Colon ∷ [])
unfolding front
label_told n w h =
    line_by n (w ++ codes ":") (signs.Name w ∷ signs.Fixed fixed.Colon ∷ [])
    (λ rest more r. rw (append_assoc w (58 ∷ []) (10 ∷ rest)) (name_colon w 10 h refl (λ behind. refl) rest more r))

-- ---- parts of lines

-- a guard before what begins with a closing parenthesis
pub guard_told : (g : Guard) → IsSpellableGuard g → (u : List ℕ) (us : List Sign) → Tells (41 ∷ u) us → Tells (guard_text g ++ 41 ∷ u) (guard_signs g ++ us)
unfolding front left_out spellings
guard_told Any h u us x = record { go = λ rest more r. mark_read (codes "*") (41 ∷ (u ++ rest)) (us ++ more) refl refl refl (x.go rest more r) }
guard_told (Cond e) h u us x = ended (expression_told e h) (λ rest. refl) x

freed : (b : Bool) {t : List ℕ} {ss : List Sign} → Tells t ss → Tells (free_text b ++ t) (free_signs b ss)
unfolding left_out spellings
freed true {t} {ss} x = next (word_space (keyword (codes "free") refl refl refl refl)) x
freed false {t} {ss} x = x

pub claim_told : (e : Expression) → IsSpellable e → Tells (expression_text e ++ codes ";") (expression_signs e ++ led fixed.Semicolon [])
claim_told e h = ended (expression_told e h) (λ rest. refl) semicolon_told

pub condition_told : (n : ℕ) (w : List ℕ) (f : Fixed) → IsWord w (signs.Fixed f) → (i : Invariant) → IsSpellable i.cond → Tells (condition_line n w i) (condition_signs f i)
condition_told n w f is i h =
    line_told n (same (freed i.free (next (word_space is) (claim_told i.cond h))) (simp append_assoc) refl)

pub invariants_told : (n : ℕ) (is : List Invariant) → AreSpellableInvariants is → Tells (invariants_text n is) (invariants_signs is)
unfolding left_out spellings
invariants_told n [] h = nothing_told
invariants_told n (i ∷ is) h = next (condition_told n (codes "invariant") fixed.Invariant (keyword (codes "invariant") refl refl refl refl) i h.0) (invariants_told n is h.1)

pub targets_told : (xs : List Name) → AreNames xs → Tells (targets_text xs) (targets_signs xs)
targets_told [] h = nothing_told
targets_told (x ∷ xs) h = ended (names_told (x ∷ xs) h) (λ rest. refl) becomes_told
