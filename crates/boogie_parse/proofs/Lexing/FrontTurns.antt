-- What a text begins with, by what its first bytes are.
use Rattle.std.proofs.Common.{◌≡◌, ℕ, Bool, true, false, nat_eq, List, ◌∷◌, length, drop, Option, None, Some, codes, if◌then◌else◌, refl, ap, sym, subst, ◌∙◌, arith}
use Rattle.std.specs.List.{find, starts_with}
use Rattle.std.proofs.lemmas.Bool.Decides.{nat_tests}
use Rattle.std.proofs.lemmas.Option.{some_pair_parts}
use Rattle.boogie_tree.specs.Names.{is_digit, is_name_byte}
use Rattle.boogie_parse.specs.declared.token.TokenKind.{TokenKind}
use Rattle.boogie_parse.specs.declared.token.TokenKind.TheVariants as kinds
use Rattle.boogie_parse.specs.Lexing.Bytes.{is_blank}
use Rattle.boogie_parse.specs.Lexing.Tokens.{passing_length, marks, mark_of, mark_at}
use Rattle.boogie_parse.specs.Lexing.Pieces.{Front, Skipped, Found, Lexeme, Stray, is_in_line, comment_length, string_length, literal_front, comment_front, string_front, mark_front, front}
use Rattle.boogie_parse.specs.Ties.Turns.{front_of, first_mark}

-- a mark that was found
pub mark_found : (text : List ℕ) (kind : TokenKind) (n : ℕ) → Some (kind, n) ≡ mark_at text → Found (Lexeme kind) n ≡ first_mark text
mark_found text kind n is = by_mark (find (λ m. starts_with nat_eq text m) marks) kind n is
  where
    by_mark : (o : Option (List ℕ)) (kind : TokenKind) (n : ℕ) → Some (kind, n) ≡ mark_of o → Found (Lexeme kind) n ≡ mark_front o
    by_mark None kind n is = cc
    by_mark (Some m) kind n is =
        let parts : (kind ≡ kinds.Mark) × (n ≡ length m) = some_pair_parts kind kinds.Mark n (length m) is in
        let same_kind : kind ≡ kinds.Mark = parts.0 in
        let same_length : n ≡ length m = parts.1 in
        cc

pub no_mark : (text : List ℕ) → None ≡ mark_at text → Found Stray 1 ≡ first_mark text
no_mark text is = by_mark (find (λ m. starts_with nat_eq text m) marks) is
  where
    by_mark : (o : Option (List ℕ)) → None ≡ mark_of o → Found Stray 1 ≡ mark_front o
    by_mark None is = refl
    by_mark (Some m) is = cc

at_first : (text : List ℕ) (b : ℕ) (r : List ℕ) (f : Front) → text ≡ b ∷ r → f ≡ front b r → Some f ≡ front_of text
at_first text b r f e is = ap (λ (g : Front). Some g) is ∙ ap front_of (sym e)

-- a choice whose test holds, and one whose test fails
taken : {X : Type 0} (t : Bool) (x y : X) → t ≡ true → (if t then x else y) ≡ x
taken true x y h = refl
taken false x y h = cc

passed : {X : Type 0} (t : Bool) (x y : X) → t ≡ false → (if t then x else y) ≡ y
passed true x y h = cc
passed false x y h = refl

pub blank_first : (text : List ℕ) (b : ℕ) (r : List ℕ) → text ≡ b ∷ r → is_blank b ≡ true → Some (Skipped 1) ≡ front_of text
unfolding front
blank_first text b r e blank = at_first text b r (Skipped 1) e (sym (front_is b r blank))
  where
    front_is : (b : ℕ) (r : List ℕ) → is_blank b ≡ true → front b r ≡ Skipped 1
    front_is b r blank = taken (is_blank b) _ _ blank

pub digit_first : (text : List ℕ) (b : ℕ) (r : List ℕ) (f : Front) → text ≡ b ∷ r → is_blank b ≡ false → is_digit b ≡ true →
    f ≡ literal_front (passing_length is_digit text) text → Some f ≡ front_of text
unfolding front
digit_first text b r f e blank digit is = at_first text b r f e (is ∙ ap (λ t. literal_front (passing_length is_digit t) t) e ∙ sym (front_is b r blank digit))
  where
    front_is : (b : ℕ) (r : List ℕ) → is_blank b ≡ false → is_digit b ≡ true → front b r ≡ literal_front (passing_length is_digit (b ∷ r)) (b ∷ r)
    front_is b r blank digit = passed (is_blank b) _ _ blank ∙ taken (is_digit b) _ _ digit

pub name_first : (text : List ℕ) (b : ℕ) (r : List ℕ) (n : ℕ) → text ≡ b ∷ r → is_blank b ≡ false → is_digit b ≡ false → is_name_byte b ≡ true →
    n ≡ passing_length is_name_byte text → Some (Found (Lexeme kinds.Word) n) ≡ front_of text
unfolding front
name_first text b r n e blank digit name is =
    at_first text b r (Found (Lexeme kinds.Word) n) e (ap (λ k. Found (Lexeme kinds.Word) k) (is ∙ ap (passing_length is_name_byte) e) ∙ sym (front_is b r blank digit name))
  where
    front_is : (b : ℕ) (r : List ℕ) → is_blank b ≡ false → is_digit b ≡ false → is_name_byte b ≡ true → front b r ≡ Found (Lexeme kinds.Word) (passing_length is_name_byte (b ∷ r))
    front_is b r blank digit name = passed (is_blank b) _ _ blank ∙ passed (is_digit b) _ _ digit ∙ taken (is_name_byte b) _ _ name

-- the first byte is no blank and no byte of a name
pub record IsOther (b : ℕ) : Type 0 where
  pub blank : is_blank b ≡ false
  pub digit : is_digit b ≡ false
  pub name : is_name_byte b ≡ false

others : (b : ℕ) (r : List ℕ) → IsOther b → front b r
    ≡ (if nat_eq b 34 then string_front (passing_length is_in_line r) (string_length 34 r)
    else (if starts_with nat_eq (b ∷ r) (codes "//") then Skipped (passing_length is_in_line (b ∷ r))
    else (if starts_with nat_eq (b ∷ r) (codes "/*") then comment_front (length (b ∷ r)) (comment_length 0 (drop 1 r))
    else mark_front (find (λ m. starts_with nat_eq (b ∷ r) m) marks))))
unfolding front
others b r h = passed (is_blank b) _ _ h.blank ∙ passed (is_digit b) _ _ h.digit ∙ passed (is_name_byte b) _ _ h.name

pub quote_first : (text : List ℕ) (b : ℕ) (r : List ℕ) (f : Front) → text ≡ b ∷ r → IsOther b → b ≡ 34 →
    f ≡ string_front (passing_length is_in_line r) (string_length 34 r) → Some f ≡ front_of text
quote_first text b r f e other quote is =
    let test : nat_eq b 34 ≡ true = grind (arith, nat_tests) in
    at_first text b r f e (is ∙ sym (others b r other ∙ taken (nat_eq b 34) _ _ test))

no_quote : (b : ℕ) → (b ≡ 34 → ⊥) → nat_eq b 34 ≡ false
no_quote b h = grind (arith, nat_tests)

pub line_comment_first : (text : List ℕ) (b : ℕ) (r : List ℕ) (n : ℕ) → text ≡ b ∷ r → IsOther b → (b ≡ 34 → ⊥) →
    starts_with nat_eq text (codes "//") ≡ true → n ≡ passing_length is_in_line text → Some (Skipped n) ≡ front_of text
line_comment_first text b r n e other quote line is =
    let begins : starts_with nat_eq (b ∷ r) (codes "//") ≡ true = subst (λ t. starts_with nat_eq t (codes "//") ≡ true) e line in
    at_first text b r (Skipped n) e
    (ap (λ k. Skipped k) (is ∙ ap (passing_length is_in_line) e) ∙ sym (others b r other ∙ passed (nat_eq b 34) _ _ (no_quote b quote) ∙ taken (starts_with nat_eq (b ∷ r) (codes "//")) _ _ begins))

pub comment_first : (text : List ℕ) (b : ℕ) (r : List ℕ) (f : Front) → text ≡ b ∷ r → IsOther b → (b ≡ 34 → ⊥) →
    starts_with nat_eq text (codes "//") ≡ false → starts_with nat_eq text (codes "/*") ≡ true →
    f ≡ comment_front (length text) (comment_length 0 (drop 2 text)) → Some f ≡ front_of text
comment_first text b r f e other quote line nested is =
    let no_line : starts_with nat_eq (b ∷ r) (codes "//") ≡ false = subst (λ t. starts_with nat_eq t (codes "//") ≡ false) e line in
    let begins : starts_with nat_eq (b ∷ r) (codes "/*") ≡ true = subst (λ t. starts_with nat_eq t (codes "/*") ≡ true) e nested in
    at_first text b r f e
    (is ∙ ap (λ t. comment_front (length t) (comment_length 0 (drop 2 t))) e
    ∙ sym (others b r other ∙ passed (nat_eq b 34) _ _ (no_quote b quote) ∙ passed (starts_with nat_eq (b ∷ r) (codes "//")) _ _ no_line ∙ taken (starts_with nat_eq (b ∷ r) (codes "/*")) _ _ begins))

pub other_first : (text : List ℕ) (b : ℕ) (r : List ℕ) (f : Front) → text ≡ b ∷ r → IsOther b → (b ≡ 34 → ⊥) →
    starts_with nat_eq text (codes "//") ≡ false → starts_with nat_eq text (codes "/*") ≡ false →
    f ≡ first_mark text → Some f ≡ front_of text
other_first text b r f e other quote line nested is =
    let no_line : starts_with nat_eq (b ∷ r) (codes "//") ≡ false = subst (λ t. starts_with nat_eq t (codes "//") ≡ false) e line in
    let no_comment : starts_with nat_eq (b ∷ r) (codes "/*") ≡ false = subst (λ t. starts_with nat_eq t (codes "/*") ≡ false) e nested in
    at_first text b r f e
    (is ∙ ap first_mark e
    ∙ sym (others b r other ∙ passed (nat_eq b 34) _ _ (no_quote b quote) ∙ passed (starts_with nat_eq (b ∷ r) (codes "//")) _ _ no_line ∙ passed (starts_with nat_eq (b ∷ r) (codes "/*")) _ _ no_comment))
