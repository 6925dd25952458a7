-- The tokens of a text are slices of it, in order.
use Rattle.std.proofs.Common.{◌≡◌, ℕ, zero, suc, ◌+◌, ◌<◌, ◌≤◌, Bool, true, false, List, [], ◌∷◌, ◌++◌, length, take, drop, get_or, Option, None, Some, Result, Ok, Err, ◌⊎◌, inl, inr, ⊎_elim, if◌then◌else◌, ◌∙◌, sym, ap, refl, subst, arith, length-drop}
use Rattle.std.proofs.Math.Seq.{drop-cons, take-suc}
use Rattle.std.proofs.lemmas.List.{length-take-le}
use Rattle.boogie_tree.specs.declared.span.Span.{Span}
use Rattle.boogie_tree.specs.Places.{beginning}
use Rattle.boogie_parse.specs.declared.token.TokenKind.{TokenKind}
use Rattle.boogie_parse.specs.declared.fault.Fault.{Fault}
use Rattle.boogie_parse.specs.declared.fault.What.{What}
use Rattle.boogie_parse.specs.declared.lexer.token.Token.{Token}
use Rattle.boogie_parse.specs.Lexing.Places.{behind_byte, behind}
use Rattle.boogie_parse.specs.Lexing.Pieces.{Shape, Lexeme, Quoted, RealLiteral, LargeLiteral, Stray, Front, Skipped, Found, front, Piece, more_bytes, with_piece, pieces_from, pieces}
use Rattle.boogie_parse.specs.Lexing.Attributes.{begins_attribute, braced_length}
use Rattle.boogie_parse.specs.Lexing.Lexed.{left_out, beside_text, supported, judged, inside_attribute, attribute, found_in, with_token, tokens_or_fault, lexed}
use Rattle.boogie_parse.specs.Lexing.Slices.{IsSlice, AreSlices}
use Rattle.boogie_parse.specs.Ties.Turns.{length_of}
use Rattle.boogie_parse.proofs.Lexing.FrontLaws.{Fits, front_fits}

-- ---- pieces

-- the piece is the slice of the text behind n bytes, and stands there
pub record IsCut (text : List ℕ) (n : ℕ) (p : Piece) : Type 0 where
  pub within : n + length p.text ≤ length text
  pub is_some : 0 < length p.text
  pub bytes : take (length p.text) (drop n text) ≡ p.text
  pub place : p.span ≡ behind (take n text) beginning

-- the pieces are slices in order, none of which begins before n bytes
abbrev pub AreCuts : ℕ → List ℕ → List Piece → Type 0
AreCuts n text [] = Unit {0}
AreCuts n text (p ∷ ps) = (m : ℕ) × (n ≤ m) × IsCut text m p × AreCuts (m + length p.text) text ps

cuts_earlier : (n k : ℕ) (text : List ℕ) (ps : List Piece) → n ≤ k → AreCuts k text ps → AreCuts n text ps
cuts_earlier n k text [] h cuts = tt
cuts_earlier n k text (p ∷ ps) h cuts = let from : k ≤ cuts.0 = cuts.1 in (cuts.0, omega arith, cuts.2, cuts.3)

behind-append : (xs ys : List ℕ) (here : Span) → behind (xs ++ ys) here ≡ behind ys (behind xs here)
behind-append [] ys here = refl
behind-append (x ∷ xs) ys here = behind-append xs ys (behind_byte x here)

-- a place in the text: what is left there, and where it stands
record IsPlace (text : List ℕ) (i : ℕ) (here : Span) (bs : List ℕ) : Type 0 where
  rest : bs ≡ drop i text
  place : here ≡ behind (take i text) beginning

next_place : (text : List ℕ) (i : ℕ) (here : Span) (b : ℕ) (r : List ℕ) → IsPlace text i here (b ∷ r) → IsPlace text (suc i) (behind_byte b here) r
next_place text i here b r at =
    let long : length (b ∷ r) ≡ length (drop i text) = ap length at.rest in
    let inside : i < length text = omega (arith, length-drop i text) in
    let split : drop i text ≡ get_or text i 0 ∷ drop (suc i) text = drop-cons text i 0 inside in
    let both : b ∷ r ≡ get_or text i 0 ∷ drop (suc i) text = at.rest ∙ split in
    let same : b ≡ get_or text i 0 = cc in
    let more : take (suc i) text ≡ take i text ++ get_or text i 0 ∷ [] = take-suc text i 0 inside in
    record {
      rest = cc;
      place =
          ap (behind_byte b) at.place ∙ ap (λ c. behind_byte c (behind (take i text) beginning)) same
          ∙ sym (behind-append (take i text) (get_or text i 0 ∷ []) beginning)
          ∙ ap (λ bs. behind bs beginning) (sym more);
    }

found_cut : (text : List ℕ) (i n : ℕ) (here : Span) (bs : List ℕ) (shape : Shape) → IsPlace text i here bs → 0 < n → n ≤ length bs → IsCut text i (record { span = here; shape = shape; text = take n bs })
found_cut text i n here bs shape at positive short =
    let size : length (take n bs) ≡ n = length-take-le n bs short in
    let long : length bs ≡ length (drop i text) = ap length at.rest in
    record {
      within = omega (arith, length-drop i text);
      is_some = omega arith;
      bytes = ap (λ k. take k (drop i text)) size ∙ ap (take n) (sym at.rest);
      place = at.place;
    }

with_cut : (text : List ℕ) (i : ℕ) (here : Span) (bs : List ℕ) (f : Front) (ps : List Piece) → IsPlace text i here bs → Fits bs f → AreCuts (i + length_of f) text ps → AreCuts (i + 0) text (with_piece here bs f ps)
with_cut text i here bs (Skipped n) ps at fits cuts = cuts_earlier (i + 0) (i + n) text ps (omega arith) cuts
with_cut text i here bs (Found shape n) ps at fits cuts =
    let size : length (take n bs) ≡ n = length-take-le n bs fits.1 in
    (i, omega arith, found_cut text i n here bs shape at fits.0 fits.1, cuts_earlier (i + length (take n bs)) (i + n) text ps (omega arith) cuts)

more_is : (f : Front) → 0 < length_of f → suc (more_bytes f) ≡ length_of f
more_is (Skipped n) positive = omega arith
more_is (Found shape n) positive = omega arith

cuts_from : (pending i : ℕ) (here : Span) (bs text : List ℕ) → IsPlace text i here bs → pending ≤ length bs → AreCuts (i + pending) text (pieces_from pending here bs)
unfolding pieces_from
cuts_from pending i here [] text at short = tt
cuts_from zero i here (b ∷ r) text at short =
    let fits : Fits (b ∷ r) (front b r) = front_fits b r in
    let size : suc (more_bytes (front b r)) ≡ length_of (front b r) = more_is (front b r) fits.0 in
    let more : AreCuts (suc i + more_bytes (front b r)) text (pieces_from (more_bytes (front b r)) (behind_byte b here) r) =
    cuts_from (more_bytes (front b r)) (suc i) (behind_byte b here) r text (next_place text i here b r at) (omega (arith, fits)) in
    with_cut text i here (b ∷ r) (front b r) (pieces_from (more_bytes (front b r)) (behind_byte b here) r) at fits (cuts_earlier (i + length_of (front b r)) (suc i + more_bytes (front b r)) text _ (omega arith) more)
cuts_from (suc pending) i here (b ∷ r) text at short =
    cuts_earlier (i + suc pending) (suc i + pending) text _ (omega arith)
    (cuts_from pending (suc i) (behind_byte b here) r text (next_place text i here b r at) (omega arith))

-- ---- tokens

slices_earlier : (n k : ℕ) (text : List ℕ) (ts : List Token) → n ≤ k → AreSlices k text ts → AreSlices n text ts
slices_earlier n k text [] h slices = tt
slices_earlier n k text (t ∷ ts) h slices = let from : k ≤ slices.0 = slices.1 in (slices.0, omega arith, slices.2, slices.3)

-- a token has the place and the bytes of its piece
supported_piece : (here : Span) (kind : TokenKind) (text : List ℕ) (o : Option What) (t : Token) → supported here kind text o ≡ Ok t → (t.span ≡ here) × (t.text ≡ text)
supported_piece here kind text None t is = let same : record { span = here; kind = kind; text = text } ≡ t = cc in (ap (λ (u : Token). u.span) (sym same), ap (λ (u : Token). u.text) (sym same))
supported_piece here kind text (Some what) t is = cc

judged_piece : (here : Span) (text : List ℕ) (shape : Shape) (t : Token) → judged here text shape ≡ Ok t → (t.span ≡ here) × (t.text ≡ text)
judged_piece here text (Lexeme kind) t is = supported_piece here kind text (beside_text text left_out) t is
judged_piece here text Quoted t is = (cc, cc)
judged_piece here text RealLiteral t is = (cc, cc)
judged_piece here text LargeLiteral t is = (cc, cc)
judged_piece here text Stray t is = (cc, cc)

token_cut : (text : List ℕ) (m : ℕ) (p : Piece) (t : Token) → IsCut text m p → t.span ≡ p.span → t.text ≡ p.text → IsSlice text m t
token_cut text m p t cut span same =
    let long : length t.text ≡ length p.text = ap length same in
    record {
      within = omega (arith, cut.within);
      is_some = omega (arith, cut.is_some);
      bytes = ap (λ k. take k (drop m text)) long ∙ cut.bytes ∙ sym same;
      place = span ∙ cut.place;
    }

-- a fault makes no tokens
no_fault : (f : Fault) (found : List (Result Token Fault)) (ts : List Token) → tokens_or_fault (Err f ∷ found) ≡ Ok ts → ⊥
no_fault f found ts is = let P : Result (List Token) Fault → Type 0 = λ r. elim r [ Ok us ↦ ⊥ | Err g ↦ Unit {0} ] in subst P is tt

-- a first token stands before the others
parts_of : (t : Token) (r : Result (List Token) Fault) (ts : List Token) → with_token t r ≡ Ok ts → (us : List Token) × (r ≡ Ok us) × (ts ≡ t ∷ us)
parts_of t (Ok us) ts is = (us, refl, cc)
parts_of t (Err f) ts is = absurd (no_fault f [] ts is)

-- a fault inside an attribute makes no tokens
behind_inside : (here : Span) (shape : Shape) (found : List (Result Token Fault)) (ts : List Token) → tokens_or_fault (inside_attribute here shape found) ≡ Ok ts → tokens_or_fault found ≡ Ok ts
behind_inside here (Lexeme kind) found ts is = is
behind_inside here Quoted found ts is = is
behind_inside here RealLiteral found ts is = is
behind_inside here LargeLiteral found ts is = is
behind_inside here Stray found ts is = absurd (no_fault _ found ts is)

either_found : (b : Bool) (x y : List (Result Token Fault)) (ts : List Token) → tokens_or_fault (if b then x else y) ≡ Ok ts → (tokens_or_fault x ≡ Ok ts) ⊎ (tokens_or_fault y ≡ Ok ts)
either_found true x y ts is = inl is
either_found false x y ts is = inr is

behind_attribute : (here : Span) (ps : List Piece) (o : Option ℕ) (ts : List Token) → tokens_or_fault (attribute here (λ k. found_in k ps) o) ≡ Ok ts → (k : ℕ) × (tokens_or_fault (found_in k ps) ≡ Ok ts)
behind_attribute here ps None ts is = absurd (no_fault _ [] ts is)
behind_attribute here ps (Some k) ts is = (k, is)

-- a piece that is a token stands in the text as that token
judged_slices : (n m : ℕ) (p : Piece) (j : Result Token Fault) (found : List (Result Token Fault)) (ts : List Token) (text : List ℕ) → n ≤ m → IsCut text m p →
    ((t : Token) → j ≡ Ok t → (t.span ≡ p.span) × (t.text ≡ p.text)) →
    ((us : List Token) → tokens_or_fault found ≡ Ok us → AreSlices (m + length p.text) text us) →
    tokens_or_fault (j ∷ found) ≡ Ok ts → AreSlices n text ts
judged_slices n m p (Err f) found ts text h cut same more is = absurd (no_fault f found ts is)
judged_slices n m p (Ok t) found ts text h cut same more is =
    let parts : (us : List Token) × (tokens_or_fault found ≡ Ok us) × (ts ≡ t ∷ us) = parts_of t (tokens_or_fault found) ts is in
    let is_piece : (t.span ≡ p.span) × (t.text ≡ p.text) = same t refl in
    let long : length t.text ≡ length p.text = ap length is_piece.1 in
    let behind_it : AreSlices (m + length t.text) text parts.0 =
    subst (λ k. AreSlices (m + k) text parts.0) (sym long) (more parts.0 parts.1) in
    subst (λ us. AreSlices n text us) (sym parts.2) (m, h, token_cut text m p t cut is_piece.0 is_piece.1, behind_it)

slices_from : (k n : ℕ) (ps : List Piece) (ts : List Token) (text : List ℕ) → AreCuts n text ps → tokens_or_fault (found_in k ps) ≡ Ok ts → AreSlices n text ts
unfolding found_in
slices_from k n [] ts text cuts is = let none : [] ≡ ts = cc in subst (λ us. AreSlices n text us) none tt
slices_from (suc k) n (p ∷ ps) ts text cuts is =
    let from : n ≤ cuts.0 = cuts.1 in
    slices_earlier n (cuts.0 + length p.text) text ts (omega arith)
    (slices_from k (cuts.0 + length p.text) ps ts text cuts.3 (behind_inside p.span p.shape (found_in k ps) ts is))
slices_from zero n (p ∷ ps) ts text cuts is =
    let from : n ≤ cuts.0 = cuts.1 in
    ⊎_elim
    (λ (h : tokens_or_fault (attribute p.span (λ k. found_in k ps) (braced_length 0 ps)) ≡ Ok ts).
    let left : (k : ℕ) × (tokens_or_fault (found_in k ps) ≡ Ok ts) = behind_attribute p.span ps (braced_length 0 ps) ts h in
    slices_earlier n (cuts.0 + length p.text) text ts (omega arith) (slices_from left.0 (cuts.0 + length p.text) ps ts text cuts.3 left.1))
    (λ (h : tokens_or_fault (judged p.span p.text p.shape ∷ found_in zero ps) ≡ Ok ts).
    judged_slices n cuts.0 p (judged p.span p.text p.shape) (found_in zero ps) ts text cuts.1 cuts.2 (judged_piece p.span p.text p.shape)
    (λ us e. slices_from zero (cuts.0 + length p.text) ps us text cuts.3 e) h)
    (either_found (begins_attribute p ps) (attribute p.span (λ k. found_in k ps) (braced_length 0 ps)) (judged p.span p.text p.shape ∷ found_in zero ps) ts is)

pub lexed_slices : (text : List ℕ) (ts : List Token) → lexed text ≡ Ok ts → AreSlices 0 text ts
lexed_slices text ts is = slices_from 0 0 (pieces text) ts text (cuts_from 0 0 beginning text text (record { rest = refl; place = refl }) (omega arith)) is
