-- A text that begins with a token's text has that token first, and a text that follows a blank has its own tokens.
use Rattle.std.proofs.Common.{◌≡◌, ℕ, Bool, true, false, List, [], ◌∷◌, ◌++◌, map, length, None, Some, Result, Ok, Err, codes, refl, ap, sym, ◌∙◌, subst}
use Rattle.std.specs.Str.{bytes_eq}
use Rattle.std.proofs.Math.Seq.{take-append_seam, drop-append_seam}
use Rattle.std.proofs.lemmas.Bool.{and_parts, and_left, and_right}
use Rattle.std.proofs.lemmas.Slice.Eq.{bytes_eq-Decides}
use Rattle.boogie_tree.specs.declared.span.Span.{Span}
use Rattle.boogie_parse.specs.declared.token.TokenKind.{TokenKind}
use Rattle.boogie_parse.specs.declared.token.TokenKind.TheVariants as kinds
use Rattle.boogie_parse.specs.declared.lexer.token.Token.{Token}
use Rattle.boogie_parse.specs.declared.fault.Fault.{Fault}
use Rattle.boogie_parse.specs.declared.symbols.Fixed.TheVariants as fixed
use Rattle.boogie_parse.specs.declared.symbols.Sign.{Sign}
use Rattle.boogie_parse.specs.declared.symbols.Sign.TheVariants as signs
use Rattle.boogie_parse.specs.Lexing.Bytes.{is_blank}
use Rattle.boogie_parse.specs.Lexing.Places.{behind_byte, behind}
use Rattle.boogie_parse.specs.Lexing.Pieces.{Shape, Lexeme, Quoted, RealLiteral, LargeLiteral, Stray, Skipped, Found, Piece, pieces_from}
use Rattle.boogie_parse.specs.Lexing.Attributes.{is_mark, is_mark_shape, opens_brace, begins_attribute}
use Rattle.boogie_parse.specs.Lexing.Lexed.{left_out, beside_text, supported, found_in, with_token}
use Rattle.boogie_parse.specs.Lexing.Symbols.{spellings, sign_of, symbol}
use Rattle.boogie_parse.specs.Ties.Turns.{front_of}
use Rattle.boogie_parse.proofs.Lexing.PieceTurns.{pieces_at}
use Rattle.boogie_parse.proofs.Lexing.FrontTurns.{blank_first}
use Rattle.boogie_parse.proofs.Lexing.LexedTurns.{read, behind_piece, read_piece}

abbrev pub sign : Token → Sign
sign t = (symbol t).sign

abbrev pub is_colon : Sign → Bool
is_colon (signs.Fixed fixed.Colon) = true
is_colon s = false

-- a colon is the first of the signs
abbrev pub begins_colon : List Sign → Bool
begins_colon [] = false
begins_colon (s ∷ ss) = is_colon s

-- wherever the text stands, it has tokens with these signs
pub record HasTokens (text : List ℕ) (ss : List Sign) : Type 0 where
  pub read : (here : Span) → (ts : List Token) × (read (pieces_from 0 here text) ≡ Ok ts) × (map sign ts ≡ ss)

-- the same, and the first of them is no colon
pub record IsRead (text : List ℕ) (ss : List Sign) : Type 0 where
  pub has : HasTokens text ss
  pub plain : begins_colon ss ≡ false

-- ---- no attribute begins before such a text

colon_opens_none : (here : Span) (qs : List Piece) → begins_attribute (record { span = here; shape = Lexeme kinds.Mark; text = codes ":" }) qs ≡ false
colon_opens_none here [] = refl
colon_opens_none here (q ∷ qs) = refl

-- a colon that is read is the first of the signs
colon_behind : (here : Span) (r : Result (List Token) Fault) (ts : List Token) → with_token (record { span = here; kind = kinds.Mark; text = codes ":" }) r ≡ Ok ts → begins_colon (map sign ts) ≡ true
unfolding spellings
colon_behind here (Err f) ts e = cc
colon_behind here (Ok us) ts e =
    let same : ◌≡◌ {A = List Token} ((record { span = here; kind = kinds.Mark; text = codes ":" }) ∷ us) ts = cc in
    ap (λ vs. begins_colon (map sign vs)) (sym same)

colon_read : (here : Span) (qs : List Piece) (ts : List Token) → read ((record { span = here; shape = Lexeme kinds.Mark; text = codes ":" }) ∷ qs) ≡ Ok ts → begins_colon (map sign ts) ≡ true
unfolding left_out
colon_read here qs ts e =
    colon_behind here (read qs) ts (sym (read_piece (record { span = here; shape = Lexeme kinds.Mark; text = codes ":" }) qs (colon_opens_none here qs)) ∙ e)

colon_first : (here : Span) (shape : Shape) (text : List ℕ) (qs : List Piece) (ts : List Token) → is_mark_shape shape ≡ true → text ≡ codes ":" →
    read ((record { span = here; shape = shape; text = text }) ∷ qs) ≡ Ok ts → begins_colon (map sign ts) ≡ true
colon_first here (Lexeme kinds.Mark) text qs ts mark is e =
    colon_read here qs ts (subst (λ t. read ((record { span = here; shape = Lexeme kinds.Mark; text = t }) ∷ qs) ≡ Ok ts) is e)
colon_first here (Lexeme kinds.Word) text qs ts mark is e = cc
colon_first here (Lexeme kinds.Literal) text qs ts mark is e = cc
colon_first here Quoted text qs ts mark is e = cc
colon_first here RealLiteral text qs ts mark is e = cc
colon_first here LargeLiteral text qs ts mark is e = cc
colon_first here Stray text qs ts mark is e = cc

no_colon : (q : Piece) (qs : List Piece) (ts : List Token) → read (q ∷ qs) ≡ Ok ts → begins_colon (map sign ts) ≡ false → (b : Bool) → is_mark (codes ":") q ≡ b → b ≡ false
no_colon q qs ts e plain false is = refl
no_colon q qs ts e plain true is =
    let parts = and_parts (is_mark_shape q.shape) (bytes_eq q.text (codes ":")) is in
    let colon : begins_colon (map sign ts) ≡ true = colon_first q.span q.shape q.text qs ts parts.0 ((bytes_eq-Decides q.text (codes ":")).0 parts.1) e in
    sym colon ∙ plain

no_attribute : (p : Piece) (ps : List Piece) (ts : List Token) → read ps ≡ Ok ts → begins_colon (map sign ts) ≡ false → begins_attribute p ps ≡ false
no_attribute p [] ts e plain = refl
no_attribute p (q ∷ qs) ts e plain = and_right (opens_brace p) (is_mark (codes ":") q) (no_colon q qs ts e plain (is_mark (codes ":") q) refl)

-- ---- the first token

first_piece : (kind : TokenKind) (w rest : List ℕ) (here : Span) → Some (Found (Lexeme kind) (length w)) ≡ front_of (w ++ rest) →
    pieces_from 0 here (w ++ rest) ≡ (record { span = here; shape = Lexeme kind; text = w }) ∷ pieces_from 0 (behind w here) rest
first_piece kind w rest here is =
    pieces_at (Found (Lexeme kind) (length w)) here (w ++ rest) is ∙ rw (take-append_seam w rest, drop-append_seam w rest) refl

-- behind a token that is no opening brace every text may stand
module _ (kind : TokenKind) (w rest : List ℕ) (ss : List Sign) (is : Some (Found (Lexeme kind) (length w)) ≡ front_of (w ++ rest)) (supports : beside_text w left_out ≡ None) where
  by_attribute : (here : Span) (ts : List Token) → read (pieces_from 0 (behind w here) rest) ≡ Ok ts →
      begins_attribute (record { span = here; shape = Lexeme kind; text = w }) (pieces_from 0 (behind w here) rest) ≡ false →
      read (pieces_from 0 here (w ++ rest)) ≡ Ok ((record { span = here; kind = kind; text = w }) ∷ ts)
  by_attribute here ts e none =
      ap read (first_piece kind w rest here is)
      ∙ read_piece (record { span = here; shape = Lexeme kind; text = w }) (pieces_from 0 (behind w here) rest) none
      ∙ ap (λ o. behind_piece (supported here kind w o) (read (pieces_from 0 (behind w here) rest))) supports
      ∙ ap (with_token (record { span = here; kind = kind; text = w })) e

  pub token_first : IsRead rest ss → HasTokens (w ++ rest) (sign_of kind w ∷ ss)
  token_first r = record {
    read = λ here.
        let behind_it = r.has.read (behind w here) in
        let none = no_attribute (record { span = here; shape = Lexeme kind; text = w }) (pieces_from 0 (behind w here) rest) behind_it.0 behind_it.1 (ap begins_colon behind_it.2 ∙ r.plain) in
        ((record { span = here; kind = kind; text = w }) ∷ behind_it.0, by_attribute here behind_it.0 behind_it.1 none, ap (λ us. sign_of kind w ∷ us) behind_it.2);
  }

  no_brace : (here : Span) (ps : List Piece) → opens_brace (record { span = here; shape = Lexeme kind; text = w }) ≡ false → begins_attribute (record { span = here; shape = Lexeme kind; text = w }) ps ≡ false
  no_brace here [] h = refl
  no_brace here (q ∷ qs) h = and_left (opens_brace (record { span = here; shape = Lexeme kind; text = w })) (is_mark (codes ":") q) h

  pub token_before_colon : ((here : Span) → opens_brace (record { span = here; shape = Lexeme kind; text = w }) ≡ false) → HasTokens rest ss → HasTokens (w ++ rest) (sign_of kind w ∷ ss)
  token_before_colon brace r = record {
    read = λ here.
        let behind_it = r.read (behind w here) in (
          (record { span = here; kind = kind; text = w }) ∷ behind_it.0,
          by_attribute here behind_it.0 behind_it.1 (no_brace here (pieces_from 0 (behind w here) rest) (brace here)),
          ap (λ us. sign_of kind w ∷ us) behind_it.2,
        );
  }

-- a blank before a text
pub blank_before : (b : ℕ) (rest : List ℕ) (ss : List Sign) → is_blank b ≡ true → IsRead rest ss → IsRead (b ∷ rest) ss
blank_before b rest ss blank r = record {
  has = record {
    read = λ here.
        let behind_it = r.has.read (behind_byte b here) in
        (behind_it.0, ap read (pieces_at (Skipped 1) here (b ∷ rest) (blank_first (b ∷ rest) b rest refl blank)) ∙ behind_it.1, behind_it.2);
  };
  plain = r.plain;
}

-- no bytes have no tokens
pub nothing_read : IsRead [] []
unfolding pieces_from found_in
nothing_read = record { has = record { read = λ here. ([], refl, refl) }; plain = refl }
