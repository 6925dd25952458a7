-- Comments, attributes and what may not stand in them, one turn after another.
use Rattle.std.proofs.Common.{◌≡◌, ℕ, zero, suc, ◌+◌, ◌<◌, ◌≤◌, Bool, true, false, List, [], ◌∷◌, length, drop, get_or, Option, None, Some, if◌then◌else◌, refl, ap, sym, ◌∙◌, arith, add-one, length-drop}
use Rattle.std.proofs.Math.Seq.{drop-cons}
use Rattle.std.proofs.lemmas.List.{drop-drop}
use Rattle.boogie_tree.specs.declared.span.Span.{Span}
use Rattle.boogie_parse.specs.Lexing.Pieces.{Piece, Shape, Lexeme, Quoted, RealLiteral, LargeLiteral, Stray, longer, opens_comment, closes_comment, comment_length}
use Rattle.boogie_parse.specs.Lexing.Attributes.{opens_brace, closes_brace, braced_length}
use Rattle.boogie_parse.specs.Ties.Turns.{one_less, with_length, comment_turn, open_behind, stray_or, first_stray}

pub longer_zero : (o : Option ℕ) → longer 0 o ≡ o
longer_zero None = refl
longer_zero (Some n) = ap (λ (m : ℕ). Some m) (omega arith)

pub longer-longer : (m n : ℕ) (o : Option ℕ) → longer m (longer n o) ≡ longer (m + n) o
longer-longer m n None = refl
longer-longer m n (Some k) = ap (λ (j : ℕ). Some j) (omega arith)

-- how far a comment reaches, by what its first two bytes do
abbrev pub comment_by : List ℕ → Option (ℕ × ℕ) → Option ℕ
comment_by bs None = Some 2
comment_by bs (Some turn) = longer turn.1 (comment_length turn.0 (drop turn.1 bs))

pub comment_length-turn : (inner a b : ℕ) (r : List ℕ) → comment_length inner (a ∷ b ∷ r) ≡ comment_by (a ∷ b ∷ r) (comment_turn inner a b)
comment_length-turn zero a b r = at_tests a b r (opens_comment a b) (closes_comment a b)
  where
    at_tests : (a b : ℕ) (r : List ℕ) (opens closes : Bool) →
        (if opens then longer 2 (comment_length 1 r) else (if closes then Some 2 else longer 1 (comment_length zero (b ∷ r))))
        ≡ comment_by (a ∷ b ∷ r) (if opens then Some (zero + 1, 2) else (if closes then with_length 2 (one_less zero) else Some (zero, 1)))
    at_tests a b r true closes = refl
    at_tests a b r false true = refl
    at_tests a b r false false = refl
comment_length-turn (suc inner) a b r = at_tests inner a b r (opens_comment a b) (closes_comment a b)
  where
    at_tests : (inner a b : ℕ) (r : List ℕ) (opens closes : Bool) →
        (if opens then longer 2 (comment_length (suc (suc inner)) r) else (if closes then longer 2 (comment_length inner r) else longer 1 (comment_length (suc inner) (b ∷ r))))
        ≡ comment_by (a ∷ b ∷ r) (if opens then Some (suc inner + 1, 2) else (if closes then with_length 2 (one_less (suc inner)) else Some (suc inner, 1)))
    at_tests inner a b r true closes = rw add-one refl
    at_tests inner a b r false true = refl
    at_tests inner a b r false false = refl

comment_length-at : (text : List ℕ) (at inner : ℕ) → at + 1 < length text →
    comment_length inner (drop at text) ≡ comment_by (drop at text) (comment_turn inner (get_or text at 0) (get_or text (at + 1) 0))
comment_length-at text at inner h =
    let second : drop (suc at) text ≡ get_or text (suc at) 0 ∷ drop (suc (suc at)) text = drop-cons text (suc at) 0 (omega arith) in
    let both : drop at text ≡ get_or text at 0 ∷ get_or text (suc at) 0 ∷ drop (suc (suc at)) text = drop-cons text at 0 (omega arith) ∙ ap (λ bs. get_or text at 0 ∷ bs) second in
    ap (comment_length inner) both
    ∙ comment_length-turn inner (get_or text at 0) (get_or text (suc at) 0) (drop (suc (suc at)) text)
    ∙ ap (λ bs. comment_by bs (comment_turn inner (get_or text at 0) (get_or text (suc at) 0))) (sym both)
    ∙ ap (λ k. comment_by (drop at text) (comment_turn inner (get_or text at 0) (get_or text k 0))) (sym (add-one at))

pub comment_goes : (text : List ℕ) (at inner more n : ℕ) → at + 1 < length text → Some (more, n) ≡ comment_turn inner (get_or text at 0) (get_or text (at + 1) 0) →
    longer at (comment_length inner (drop at text)) ≡ longer (at + n) (comment_length more (drop (at + n) text))
comment_goes text at inner more n h turn =
    ap (longer at) (comment_length-at text at inner h ∙ ap (comment_by (drop at text)) (sym turn))
    ∙ longer-longer at n (comment_length more (drop n (drop at text)))
    ∙ ap (λ bs. longer (at + n) (comment_length more bs)) (drop-drop n at text)

pub comment_closes : (text : List ℕ) (at inner : ℕ) → at + 1 < length text → None ≡ comment_turn inner (get_or text at 0) (get_or text (at + 1) 0) →
    longer at (comment_length inner (drop at text)) ≡ Some (at + 2)
comment_closes text at inner h turn = ap (longer at) (comment_length-at text at inner h ∙ ap (comment_by (drop at text)) (sym turn))

-- too few bytes close no comment
pub comment_stays : (text : List ℕ) (at inner : ℕ) → length text ≤ at + 1 → longer at (comment_length inner (drop at text)) ≡ None
comment_stays text at inner h = short inner at (drop at text) (omega (arith, length-drop at text))
  where
    short : (inner at : ℕ) (bs : List ℕ) → length bs ≤ 1 → longer at (comment_length inner bs) ≡ None
    short inner at [] h = refl
    short inner at (a ∷ []) h = refl
    short inner at (a ∷ b ∷ r) h = absurd (omega arith)

-- how far an attribute reaches, by what its first piece does
abbrev pub braced_by : List Piece → Option ℕ → Option ℕ
braced_by ps None = Some 1
braced_by ps (Some more) = longer 1 (braced_length more ps)

pub braced_length-turn : (inner : ℕ) (p : Piece) (ps : List Piece) → braced_length inner (p ∷ ps) ≡ braced_by ps (open_behind inner p)
braced_length-turn zero p ps = at_tests ps (opens_brace p) (closes_brace p)
  where
    at_tests : (ps : List Piece) (opens closes : Bool) →
        (if opens then longer 1 (braced_length 1 ps) else (if closes then Some 1 else longer 1 (braced_length zero ps)))
        ≡ braced_by ps (if opens then Some (zero + 1) else (if closes then one_less zero else Some zero))
    at_tests ps true closes = refl
    at_tests ps false true = refl
    at_tests ps false false = refl
braced_length-turn (suc inner) p ps = at_tests inner ps (opens_brace p) (closes_brace p)
  where
    at_tests : (inner : ℕ) (ps : List Piece) (opens closes : Bool) →
        (if opens then longer 1 (braced_length (suc (suc inner)) ps) else (if closes then longer 1 (braced_length inner ps) else longer 1 (braced_length (suc inner) ps)))
        ≡ braced_by ps (if opens then Some (suc inner + 1) else (if closes then one_less (suc inner) else Some (suc inner)))
    at_tests inner ps true closes = rw add-one refl
    at_tests inner ps false true = refl
    at_tests inner ps false false = refl

braced_length-at : (ps : List Piece) (at inner : ℕ) (p : Piece) → at < length ps → p ≡ get_or ps at p →
    braced_length inner (drop at ps) ≡ braced_by (drop (at + 1) ps) (open_behind inner p)
braced_length-at ps at inner p h is =
    ap (braced_length inner) (drop-cons ps at p h ∙ ap (λ q. q ∷ drop (suc at) ps) (sym is))
    ∙ braced_length-turn inner p (drop (suc at) ps)
    ∙ ap (λ k. braced_by (drop k ps) (open_behind inner p)) (sym (add-one at))

pub braces_go : (ps : List Piece) (at inner more : ℕ) (p : Piece) → at < length ps → p ≡ get_or ps at p → Some more ≡ open_behind inner p →
    longer at (braced_length inner (drop at ps)) ≡ longer (at + 1) (braced_length more (drop (at + 1) ps))
braces_go ps at inner more p h is turn =
    ap (longer at) (braced_length-at ps at inner p h is ∙ ap (braced_by (drop (at + 1) ps)) (sym turn))
    ∙ longer-longer at 1 (braced_length more (drop (at + 1) ps))

pub braces_close : (ps : List Piece) (at inner : ℕ) (p : Piece) → at < length ps → p ≡ get_or ps at p → None ≡ open_behind inner p →
    longer at (braced_length inner (drop at ps)) ≡ Some (at + 1)
braces_close ps at inner p h is turn = ap (longer at) (braced_length-at ps at inner p h is ∙ ap (braced_by (drop (at + 1) ps)) (sym turn))

first_stray-at : (ps : List Piece) (at : ℕ) (p : Piece) → at < length ps → p ≡ get_or ps at p →
    first_stray (drop at ps) ≡ stray_or p.span p.shape (first_stray (drop (at + 1) ps))
first_stray-at ps at p h is =
    ap first_stray (drop-cons ps at p h ∙ ap (λ q. q ∷ drop (suc at) ps) (sym is))
    ∙ ap (λ k. stray_or p.span p.shape (first_stray (drop k ps))) (sym (add-one at))

-- a piece that may stand there
pub stray_goes : (ps : List Piece) (at : ℕ) (p : Piece) → at < length ps → p ≡ get_or ps at p → (p.shape ≡ Stray → ⊥) → first_stray (drop at ps) ≡ first_stray (drop (at + 1) ps)
stray_goes ps at p h is fine = first_stray-at ps at p h is ∙ at_shape p.span p.shape (first_stray (drop (at + 1) ps)) fine
  where
    at_shape : (here : Span) (shape : Shape) (more : Option Span) → (shape ≡ Stray → ⊥) → stray_or here shape more ≡ more
    at_shape here (Lexeme kind) more fine = refl
    at_shape here Quoted more fine = refl
    at_shape here RealLiteral more fine = refl
    at_shape here LargeLiteral more fine = refl
    at_shape here Stray more fine = absurd (fine refl)

pub stray_found : (ps : List Piece) (at : ℕ) (p : Piece) → at < length ps → p ≡ get_or ps at p → p.shape ≡ Stray → first_stray (drop at ps) ≡ Some p.span
stray_found ps at p h is stray = first_stray-at ps at p h is ∙ ap (λ shape. stray_or p.span shape (first_stray (drop (at + 1) ps))) stray
