-- The text of an expression has the expression's signs.
use Rattle.std.proofs.Common.{◌≡◌, ℕ, ◌==◌, pos, negsuc, Bool, true, false, nat_eq, if◌then◌else◌, List, [], ◌∷◌, ◌++◌, Some, codes, refl, ap, sym, ◌∙◌, append_assoc}
use Rattle.std.specs.List.{list_all, starts_with}
use Rattle.std.specs.Fmt.{decimal}
use Rattle.std.proofs.lemmas.Bool.{and_parts, and_left, eqb-true, false≢true}
use Rattle.boogie_tree.specs.declared.level.Level.TheVariants.{Unary}
use Rattle.boogie_tree.specs.declared.tree.Op.{Op}
use Rattle.boogie_tree.specs.declared.tree.Op.TheVariants.{Iff, Implies, And, Or, Eq, Ne, Lt, Le, Gt, Ge, Add, Sub, Mul, Div, Mod}
use Rattle.boogie_tree.specs.Levels.{may_stand, level_of, level_of_operator, left_of, right_of}
use Rattle.boogie_tree.specs.Tree.{Expression, Lit, Truth, Var, Old, Not, Neg, Bin}
use Rattle.boogie_tree.specs.Printing.{operator_text, grouped, expression_text}
use Rattle.boogie_tree.specs.Names.{is_digit, is_name_byte}
use Rattle.boogie_parse.specs.declared.token.TokenKind.TheVariants as kinds
use Rattle.boogie_parse.specs.declared.symbols.Fixed.TheVariants as fixed
use Rattle.boogie_parse.specs.declared.symbols.Sign.{Sign}
use Rattle.boogie_parse.specs.declared.symbols.Sign.TheVariants as signs
use Rattle.boogie_parse.specs.Lexing.Tokens.{begins_with}
use Rattle.boogie_parse.specs.Lexing.Pieces.{Found, Lexeme, mark_front, front}
use Rattle.boogie_parse.specs.Lexing.Lexed.{left_out}
use Rattle.boogie_parse.specs.Ties.Turns.{front_of}
use Rattle.boogie_parse.specs.Spelling.Spelled.{led, operator_sign, grouped_signs, expression_signs}
use Rattle.boogie_parse.specs.Spelling.PrintedTokens.{IsFreeWord, IsSpellable}
use Rattle.boogie_parse.specs.Lexing.Symbols.{spellings}
use Rattle.boogie_parse.proofs.Spelling.PrintedTexts.{Tells, TellsEnded, Stops, weaker, next, next_ended, ended, both_ended, blank, name_word, keyword, word, word_space, literal, decimal_digits, mark, mark_read, mark_space}

pub open_told : Tells (codes "(") (signs.Fixed fixed.OpenParenthesis ∷ [])
unfolding front left_out spellings
open_told = mark (codes "(") (λ rest. refl) refl refl

pub close_told : Tells (codes ")") (signs.Fixed fixed.CloseParenthesis ∷ [])
unfolding front left_out spellings
close_told = mark (codes ")") (λ rest. refl) refl refl

pub stops_first : (a b : List ℕ) → Stops a → Stops (a ++ b)
stops_first a b stops rest = rw (append_assoc a b rest) (stops (b ++ rest))

-- ---- operators

operator_told : (op : Op) → Tells (operator_text op) (signs.Fixed (operator_sign op) ∷ [])
unfolding front left_out spellings
operator_told Iff = next (blank 32 refl) (mark_space (codes "<==>") (λ rest. refl) refl refl)
operator_told Implies = next (blank 32 refl) (mark_space (codes "==>") (λ rest. refl) refl refl)
operator_told And = next (blank 32 refl) (mark_space (codes "&&") (λ rest. refl) refl refl)
operator_told Or = next (blank 32 refl) (mark_space (codes "||") (λ rest. refl) refl refl)
operator_told Eq = next (blank 32 refl) (mark_space (codes "==") (λ rest. refl) refl refl)
operator_told Ne = next (blank 32 refl) (mark_space (codes "!=") (λ rest. refl) refl refl)
operator_told Lt = next (blank 32 refl) (mark_space (codes "<") (λ rest. refl) refl refl)
operator_told Le = next (blank 32 refl) (mark_space (codes "<=") (λ rest. refl) refl refl)
operator_told Gt = next (blank 32 refl) (mark_space (codes ">") (λ rest. refl) refl refl)
operator_told Ge = next (blank 32 refl) (mark_space (codes ">=") (λ rest. refl) refl refl)
operator_told Add = next (blank 32 refl) (mark_space (codes "+") (λ rest. refl) refl refl)
operator_told Sub = next (blank 32 refl) (mark_space (codes "-") (λ rest. refl) refl refl)
operator_told Mul = next (blank 32 refl) (mark_space (codes "*") (λ rest. refl) refl refl)
operator_told Div = next (blank 32 refl) (word_space (keyword (codes "div") refl refl refl refl))
operator_told Mod = next (blank 32 refl) (word_space (keyword (codes "mod") refl refl refl refl))

operator_stops : (op : Op) → Stops (operator_text op)
operator_stops Iff rest = refl
operator_stops Implies rest = refl
operator_stops And rest = refl
operator_stops Or rest = refl
operator_stops Eq rest = refl
operator_stops Ne rest = refl
operator_stops Lt rest = refl
operator_stops Le rest = refl
operator_stops Gt rest = refl
operator_stops Ge rest = refl
operator_stops Add rest = refl
operator_stops Sub rest = refl
operator_stops Mul rest = refl
operator_stops Div rest = refl
operator_stops Mod rest = refl

-- ---- `!`, which is no token by itself before `=`

is_equals : ℕ → Bool
is_equals b = 61 == b

-- no `=` is the first byte of the text
BeginsNoEquals : List ℕ → Type 0
BeginsNoEquals text = (rest : List ℕ) → begins_with is_equals (text ++ rest) ≡ false

-- a byte of a class without `=` is none
not_equals : (p : ℕ → Bool) (b : ℕ) → p 61 ≡ false → p b ≡ true → is_equals b ≡ false
unfolding is_equals
not_equals p b none passes = by_case (61 == b) refl
  where
    by_case : (t : Bool) → (61 == b) ≡ t → t ≡ false
    by_case false is = refl
    by_case true is = sym passes ∙ ap p (sym (eqb-true 61 b is)) ∙ none

class_no_equals : (p : ℕ → Bool) (w : List ℕ) → p 61 ≡ false → begins_with p w ≡ true → BeginsNoEquals w
unfolding BeginsNoEquals
class_no_equals p [] none begins rest = absurd (false≢true begins)
class_no_equals p (b ∷ w) none begins rest = not_equals p b none begins

name_begins : (w : List ℕ) → IsFreeWord w → begins_with is_name_byte w ≡ true
name_begins [] n = n.begins
name_begins (b ∷ w) n = (and_parts (is_name_byte b) (list_all is_name_byte w) n.bytes).0

grouped_no_equals : (b : Bool) (t : List ℕ) → BeginsNoEquals t → BeginsNoEquals (grouped b t)
unfolding BeginsNoEquals is_equals
grouped_no_equals true t h rest = h rest
grouped_no_equals false t h rest = refl

first_no_equals : (a b : List ℕ) → BeginsNoEquals a → BeginsNoEquals (a ++ b)
unfolding BeginsNoEquals
first_no_equals a b h rest = rw (append_assoc a b rest) (h (b ++ rest))

expression_no_equals : (e : Expression) → IsSpellable e → BeginsNoEquals (expression_text e)
unfolding BeginsNoEquals is_equals
expression_no_equals (Lit s (pos n)) h rest = class_no_equals is_digit (decimal n) refl (decimal_digits n h) rest
expression_no_equals (Lit s (negsuc n)) h rest = absurd h
expression_no_equals (Truth s true) h rest = refl
expression_no_equals (Truth s false) h rest = refl
expression_no_equals (Var s x) h rest = class_no_equals is_name_byte x.text refl (name_begins x.text h) rest
expression_no_equals (Old s e) h rest = refl
expression_no_equals (Not s e) h rest = refl
expression_no_equals (Neg s e) h rest = refl
expression_no_equals (Bin s op a b) h rest =
    let left : List ℕ = grouped (may_stand (left_of (level_of_operator op)) (level_of a)) (expression_text a) in
    let right : List ℕ = grouped (may_stand (right_of (level_of_operator op)) (level_of b)) (expression_text b) in
    first_no_equals (left ++ operator_text op) right
    (first_no_equals left (operator_text op) (grouped_no_equals (may_stand (left_of (level_of_operator op)) (level_of a)) (expression_text a) (expression_no_equals a h.0))) rest

not_front : (rest : List ℕ) → begins_with is_equals rest ≡ false → Some (Found (Lexeme kinds.Mark) 1) ≡ front_of (33 ∷ rest)
unfolding front is_equals
not_front [] h = refl
not_front (b ∷ r) h =
    let shorter : starts_with nat_eq (33 ∷ b ∷ r) (codes "!=") ≡ false = and_left (nat_eq 61 b) true h in
    ap (λ t. Some (mark_front (if t then Some (codes "!=") else Some (codes "!")))) (sym shorter)

not_told : {t : List ℕ} {ss : List Sign} → BeginsNoEquals t → TellsEnded t ss → TellsEnded (codes "!" ++ t) (led fixed.Not ss)
unfolding BeginsNoEquals left_out spellings
not_told {t} {ss} h x = record { go = λ rest more ends r. mark_read (codes "!") (t ++ rest) (ss ++ more) (not_front (t ++ rest) (h rest)) refl refl (x.go rest more ends r) }

minus_told : Tells (codes "-") (signs.Fixed fixed.Minus ∷ [])
unfolding front left_out spellings
minus_told = mark (codes "-") (λ rest. refl) refl refl

-- ---- expressions

grouped_told : (b : Bool) {t : List ℕ} {ss : List Sign} → TellsEnded t ss → TellsEnded (grouped b t) (grouped_signs b ss)
grouped_told true {t} {ss} x = x
grouped_told false {t} {ss} x = weaker (next open_told (ended x (λ rest. refl) close_told))

old_told : Tells (codes "old(") (signs.Fixed fixed.Old ∷ signs.Fixed fixed.OpenParenthesis ∷ [])
unfolding left_out spellings
old_told = ended (word (keyword (codes "old") refl refl refl refl)) (λ rest. refl) open_told

pub expression_told : (e : Expression) → IsSpellable e → TellsEnded (expression_text e) (expression_signs e)
unfolding left_out spellings
expression_told (Lit s (pos n)) h = literal n h
expression_told (Lit s (negsuc n)) h = absurd h
expression_told (Truth s true) h = word (keyword (codes "true") refl refl refl refl)
expression_told (Truth s false) h = word (keyword (codes "false") refl refl refl refl)
expression_told (Var s x) h = word (name_word h)
expression_told (Old s e) h = weaker (next old_told (ended (expression_told e h) (λ rest. refl) close_told))
expression_told (Not s e) h =
    not_told (grouped_no_equals (may_stand Unary (level_of e)) (expression_text e) (expression_no_equals e h)) (grouped_told (may_stand Unary (level_of e)) (expression_told e h))
expression_told (Neg s e) h = next_ended minus_told (grouped_told (may_stand Unary (level_of e)) (expression_told e h))
expression_told (Bin s op a b) h =
    rw (append_assoc (grouped (may_stand (left_of (level_of_operator op)) (level_of a)) (expression_text a)) (operator_text op)
    (grouped (may_stand (right_of (level_of_operator op)) (level_of b)) (expression_text b)))
    (both_ended (grouped_told (may_stand (left_of (level_of_operator op)) (level_of a)) (expression_told a h.0))
    (λ rest ends. stops_first (operator_text op) (grouped (may_stand (right_of (level_of_operator op)) (level_of b)) (expression_text b)) (operator_stops op) rest)
    (next_ended (operator_told op) (grouped_told (may_stand (right_of (level_of_operator op)) (level_of b)) (expression_told b h.1))))
