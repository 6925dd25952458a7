-- The text of an annotation is the front of a text that begins with it.
use Rattle.std.proofs.Common.{◌≡◌, ℕ, ◌^◌, ◌<◌, List, [], ◌∷◌, ◌++◌, map, length, Bool, true, false, cond, None, Some, codes, ap, refl, sym, ◌∙◌, inl, inr, append_assoc, nat_eq}
use Rattle.std.specs.List.{concat, flat_map}
use Rattle.std.specs.Str.{bytes_eq}
use Rattle.std.proofs.lemmas.Bool.{eq-eqb, false_from_ne_true}
use Rattle.std.proofs.lemmas.Slice.Eq.{bytes_eq-Decides}
use Rattle.outer_io.specs.Lines.{onto_first, lines_of}
use Rattle.proof_form.specs.Annotations.{Content, is_annotation, ended, rounds_line, coarse_line, form_lines, item_lines, AreShort, safe_text}
use Rattle.proof_form.specs.Beginnings.{with_header}
use Rattle.proof_form.specs.Standing.{end_line, Completes, no_content}
use Rattle.proof_form.proofs.StandingLaws.{lines_joined}
use Rattle.proof_form.proofs.StandingSteps.{adds_no_end}
use Rattle.proof_form.proofs.ReadLaws.{body_fits}
use Rattle.proof_form.proofs.SpelledLaws.{body_text, spelled_header, spelled_completes}
use Rattle.automizer_top.specs.PartTexts.{text_behind, through_end, behind_end, front_text, rest_text}

-- what stands behind a line is found there
pub behind_append : (line rest : List ℕ) → text_behind line (line ++ rest) ≡ Some rest
behind_append [] rest = refl
behind_append (b ∷ bs) rest = ap (λ (t : Bool). cond t (text_behind bs (bs ++ rest)) None) (eq-eqb b b refl) ∙ behind_append bs rest

-- ---- the lines of a text that ends with a newline, and of what follows

onto_append : (b : ℕ) (ls ms : List (List ℕ)) → (ls ≡ [] → ⊥) → onto_first b (ls ++ ms) ≡ onto_first b ls ++ ms
onto_append b [] ms some = absurd (some refl)
onto_append b (l ∷ ls) ms some = refl

onto_some : (b : ℕ) (ls : List (List ℕ)) → onto_first b ls ≡ [] → ⊥
onto_some b [] e = let no : ⊥ = cc in no
onto_some b (l ∷ ls) e = let no : ⊥ = cc in no

some_by : (b : ℕ) (ls : List (List ℕ)) (t : Bool) → cond t ((b ∷ []) ∷ ls) (onto_first b ls) ≡ [] → ⊥
some_by b ls true e = let no : ⊥ = cc in no
some_by b ls false e = onto_some b ls e

some_line : (bs : List ℕ) → lines_of (bs ++ 10 ∷ []) ≡ [] → ⊥
some_line [] e = let no : ⊥ = cc in no
some_line (b ∷ bs) e = some_by b (lines_of (bs ++ 10 ∷ [])) (nat_eq b 10) e

go_on_by : (b : ℕ) (whole ls ms : List (List ℕ)) (t : Bool) → (ls ≡ [] → ⊥) → whole ≡ ls ++ ms →
    cond t ((b ∷ []) ∷ whole) (onto_first b whole) ≡ cond t ((b ∷ []) ∷ ls) (onto_first b ls) ++ ms
go_on_by b whole ls ms true some e = ap (λ (ks : List (List ℕ)). (b ∷ []) ∷ ks) e
go_on_by b whole ls ms false some e = ap (onto_first b) e ∙ onto_append b ls ms some

lines_go_on : (bs more : List ℕ) → lines_of (bs ++ 10 ∷ more) ≡ lines_of (bs ++ 10 ∷ []) ++ lines_of more
lines_go_on [] more = refl
lines_go_on (b ∷ bs) more = go_on_by b (lines_of (bs ++ 10 ∷ more)) (lines_of (bs ++ 10 ∷ [])) (lines_of more) (nat_eq b 10) (some_line bs) (lines_go_on bs more)

newline_last : (a b c d e : List ℕ) → a ++ (b ++ (c ++ (d ++ (e ++ 10 ∷ [])))) ≡ (a ++ (b ++ (c ++ (d ++ e)))) ++ 10 ∷ []
newline_last a b c d e = simp append_assoc

newline_before : (a b c d e more : List ℕ) → (a ++ (b ++ (c ++ (d ++ (e ++ 10 ∷ []))))) ++ more ≡ (a ++ (b ++ (c ++ (d ++ e)))) ++ 10 ∷ more
newline_before a b c d e more = simp append_assoc

lines_append : (a b c d e more : List ℕ) → lines_of ((a ++ (b ++ (c ++ (d ++ (e ++ 10 ∷ []))))) ++ more) ≡ lines_of (a ++ (b ++ (c ++ (d ++ (e ++ 10 ∷ []))))) ++ lines_of more
lines_append a b c d e more =
    ap lines_of (newline_before a b c d e more) ∙ lines_go_on (a ++ (b ++ (c ++ (d ++ e)))) more
    ∙ ap (λ (bs : List ℕ). lines_of bs ++ lines_of more) (sym (newline_last a b c d e))

safe_lines : (rounds : ℕ) (coarse : List ℕ) (w : Content) (more : List ℕ) → lines_of (safe_text rounds coarse w ++ more) ≡ lines_of (safe_text rounds coarse w) ++ lines_of more
safe_lines rounds coarse w more =
    lines_append (ended (codes "safe")) (ended (rounds_line rounds)) (flat_map ended (form_lines coarse)) (flat_map ended (item_lines w)) (codes "end") more

-- ---- its first line `end` is its last

abbrev IsFront : List (List ℕ) → List (List ℕ) → List (List ℕ) → Type 0
IsFront whole own rest = (through_end whole ≡ own) × (behind_end whole ≡ rest)

front_by : (l : List ℕ) (ls : List (List ℕ)) (t : Bool) → bytes_eq l end_line ≡ t → IsFront (l ∷ ls) (cond t (l ∷ []) (l ∷ through_end ls)) (cond t ls (behind_end ls))
front_by l ls t e = (ap (λ (u : Bool). cond u (l ∷ []) (l ∷ through_end ls)) e, ap (λ (u : Bool). cond u ls (behind_end ls)) e)

front_completes : (a w : Content) (ls more : List (List ℕ)) → Completes a ls w → IsFront (ls ++ more) ls more
front_completes a w [] more h = absurd h
front_completes a w (l ∷ ls) more (inl h) =
    let f = front_by l (ls ++ more) true ((bytes_eq-Decides l end_line).1 h.0) in
    (f.0 ∙ ap (λ (ks : List (List ℕ)). l ∷ ks) (sym h.1), f.1 ∙ ap (λ (ks : List (List ℕ)). ks ++ more) h.1)
front_completes a w (l ∷ ls) more (inr h) =
    let f = front_by l (ls ++ more) false (false_from_ne_true (bytes_eq l end_line) (λ e. adds_no_end a h.0 l h.1 ((bytes_eq-Decides l end_line).0 e))) in
    let k = front_completes h.0 w ls more h.2 in
    (f.0 ∙ ap (λ (ks : List (List ℕ)). l ∷ ks) k.0, f.1 ∙ k.1)

front_coarse : (cs : List ℕ) (whole own rest : List (List ℕ)) → IsFront whole own rest → IsFront (map ended (map coarse_line cs) ++ whole) (map ended (map coarse_line cs) ++ own) rest
front_coarse [] whole own rest h = h
front_coarse (c ∷ cs) whole own rest h =
    let k = front_coarse cs whole own rest h in
    (ap (λ (ks : List (List ℕ)). ended (coarse_line c) ∷ ks) k.0, k.1)

front_form : (cs : List ℕ) (whole own rest : List (List ℕ)) → IsFront whole own rest → IsFront (map ended (form_lines cs) ++ whole) (map ended (form_lines cs) ++ own) rest
front_form [] whole own rest h = (ap (λ (ks : List (List ℕ)). ended (codes "annotation 1") ∷ ks) h.0, h.1)
front_form (c ∷ cs) whole own rest h =
    let k = front_coarse (c ∷ cs) whole own rest h in
    (ap (λ (ks : List (List ℕ)). ended (codes "annotation 2") ∷ ks) k.0, k.1)

front_header : (rounds : ℕ) (cs : List ℕ) (whole own rest : List (List ℕ)) → IsFront whole own rest → IsFront (with_header rounds cs whole) (with_header rounds cs own) rest
front_header rounds cs whole own rest h =
    let k = front_form cs whole own rest h in
    (ap (λ (ks : List (List ℕ)). ended (codes "safe") ∷ (ended (rounds_line rounds) ∷ ks)) k.0, k.1)

header_append : (rounds : ℕ) (cs : List ℕ) (ls ms : List (List ℕ)) → with_header rounds cs ls ++ ms ≡ with_header rounds cs (ls ++ ms)
header_append rounds cs ls ms = ap (λ (ks : List (List ℕ)). ended (codes "safe") ∷ (ended (rounds_line rounds) ∷ ks)) (append_assoc (map ended (form_lines cs)) ls ms)

-- the text of an annotation is the front of a text that begins with it, and what follows is the rest
pub safe_is_front : (rounds : ℕ) (coarse : List ℕ) (w : Content) (more : List ℕ) → rounds < 2 ^ 64 → AreShort coarse → is_annotation w ≡ true → length (safe_text rounds coarse w) < 2 ^ 64 →
    (front_text (safe_text rounds coarse w ++ more) ≡ safe_text rounds coarse w) × (rest_text (safe_text rounds coarse w ++ more) ≡ more)
safe_is_front rounds coarse w more small short valid few =
    let text : List ℕ = safe_text rounds coarse w in
    let own : List (List ℕ) = lines_of (body_text w) in
    let lines : lines_of text ≡ with_header rounds coarse own = (spelled_header rounds coarse w small short).lines in
    let completes : Completes no_content own w = spelled_completes w valid (body_fits text rounds coarse w (length text) refl refl few) in
    let whole : lines_of (text ++ more) ≡ with_header rounds coarse (own ++ lines_of more) =
    safe_lines rounds coarse w more ∙ ap (λ (ls : List (List ℕ)). ls ++ lines_of more) lines ∙ header_append rounds coarse own (lines_of more) in
    let front = front_header rounds coarse (own ++ lines_of more) own (lines_of more) (front_completes no_content w own (lines_of more) completes) in (
      ap (λ (ls : List (List ℕ)). concat (through_end ls)) whole ∙ ap concat (front.0 ∙ sym lines) ∙ lines_joined text,
      ap (λ (ls : List (List ℕ)). concat (behind_end ls)) whole ∙ ap concat front.1 ∙ lines_joined more,
    )
