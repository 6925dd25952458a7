-- What is read behind the line of the rounds, and of a whole text.
use Rattle.std.proofs.Common.{◌≡◌, ◌≢◌, ℕ, ◌+◌, ◌^◌, ◌<◌, true, false, List, [], ◌∷◌, length, map, codes, Result, Ok, Err, inl, inr, refl, sym, ap, ◌∙◌, subst, arith}
use Rattle.std.specs.Prelude.{◌==◌}
use Rattle.std.proofs.lemmas.Bool.{false≢true, eqb-true, eq-eqb}
use Rattle.std.specs.declared.vec.Vec.{Vec}
use Rattle.std.specs.declared.alloc.Global.{Global}
use Rattle.outer_io.specs.Lines.{lines_of}
use Rattle.proof_form.specs.declared.drafts.Draft.{Draft}
use Rattle.proof_form.specs.declared.fault.ProofFault.{ProofFault}
use Rattle.proof_form.specs.declared.fault.ProofFault.TheVariants as faults
use Rattle.proof_form.specs.Annotations.{ended, rounds_line, form_lines, AreShort}
use Rattle.proof_form.specs.Standing.{FirstWrong, no_content, WrongBehindForm, WrongBehindRounds, FirstWrongOfText}
use Rattle.proof_form.specs.TextReading.{ReadsFrom}
use Rattle.proof_form.specs.TextOutcomes.{Lacks, coarse_lines, TakesFront, HasForm, ReadsCoarse, ReadsForm, ReadsText}
use Rattle.proof_form.proofs.CoarseLaws.{form_wrong, no_front_wrong}

-- ---- behind `annotation 2`

no_length : (xs : List ℕ) → length xs ≡ 0 → xs ≡ []
no_length [] e = refl
no_length (x ∷ xs) e = absurd (omega (arith, e))

pub no_letters : (v : Vec ℕ Global) → (v.len == 0) ≡ true → v.items ≡ []
no_letters v e = no_length v.items (let z = eqb-true v.len 0 e in omega (arith, z, v.ok.0, v.ok.1))

pub some_letters_are : (v : Vec ℕ Global) → (v.len == 0) ≡ false → v.items ≢ []
some_letters_are v e none =
    let z : length v.items ≡ 0 = ap length none in
    false≢true (sym e ∙ eq-eqb v.len 0 (omega (arith, z, v.ok.0, v.ok.1)))

pub form_empty : (text letters rest : List ℕ) → TakesFront text letters rest → letters ≡ [] → WrongBehindForm (lines_of text) 4
form_empty text letters rest f e = subst (λ ls. WrongBehindForm ls 4) (sym f.lines) (no_front_wrong letters (lines_of rest) e f.last)

pub form_refused : (text letters rest : List ℕ) (first : ℕ) (e : ProofFault) → TakesFront text letters rest → letters ≢ [] → first ≡ length letters + 4 → ReadsFrom first no_content (lines_of rest) (Err e) → ReadsCoarse text (Err e)
form_refused text letters rest first (faults.Syntax line) f some is h = subst (λ ls. WrongBehindForm ls line) (sym f.lines)
    (form_wrong letters (lines_of rest) line some f.short f.last (subst (λ (k : ℕ). FirstWrong k no_content (lines_of rest) line) is h))
form_refused text letters rest first faults.Memory f some is h = tt

pub form_read : (text rest : List ℕ) (v : Vec ℕ Global) (d : Draft) (first : ℕ) → TakesFront text v.items rest → v.items ≢ [] → ReadsFrom first no_content (lines_of rest) (Ok d) → ReadsCoarse text (Ok (v, d))
form_read text rest v d first f some h = (f.short, some, record { rest = rest; lines = f.lines; items = h })

-- ---- behind the line of the rounds

pub no_form : (text : List ℕ) → Lacks (codes "annotation 1") (lines_of text) → Lacks (codes "annotation 2") (lines_of text) → WrongBehindRounds (lines_of text) 3
no_form text h k = here (lines_of text) h k
  where
    here : (ls : List (List ℕ)) → Lacks (codes "annotation 1") ls → Lacks (codes "annotation 2") ls → WrongBehindRounds ls 3
    here [] h k = refl
    here (l ∷ ls) h k = inl (h, k, refl)

pub first_form_read : (text rest : List ℕ) (v : Vec ℕ Global) (d : Draft) → lines_of text ≡ ended (codes "annotation 1") ∷ lines_of rest → v.items ≡ [] → ReadsFrom 4 no_content (lines_of rest) (Ok d) → ReadsForm text (Ok (v, d))
first_form_read text rest v d e none h =
    (subst (λ ns. AreShort ns) (sym none) tt, subst (λ ns. HasForm text (map ended (form_lines ns)) d) (sym none) (record { rest = rest; lines = e; items = h }))

pub first_form_refused : (text rest : List ℕ) (e : ProofFault) → lines_of text ≡ ended (codes "annotation 1") ∷ lines_of rest → ReadsFrom 4 no_content (lines_of rest) (Err e) → ReadsForm text (Err e)
first_form_refused text rest (faults.Syntax line) is h = subst (λ ls. WrongBehindRounds ls line) (sym is) (inr (inl (refl, h)))
first_form_refused text rest faults.Memory is h = tt

some_letters : (text rest letters : List ℕ) (d : Draft) → lines_of text ≡ ended (codes "annotation 2") ∷ lines_of rest → letters ≢ [] → HasForm rest (coarse_lines letters) d → HasForm text (map ended (form_lines letters)) d
some_letters text rest [] d is some h = absurd (some refl)
some_letters text rest (c ∷ cs) d is some h = record { rest = h.rest; lines = is ∙ ap (λ ls. ended (codes "annotation 2") ∷ ls) h.lines; items = h.items }

pub second_form_reads : (text rest : List ℕ) (r : Result (Vec ℕ Global × Draft) ProofFault) → lines_of text ≡ ended (codes "annotation 2") ∷ lines_of rest → ReadsCoarse rest r → ReadsForm text r
second_form_reads text rest (Ok x) is h = (h.0, some_letters text rest x.0.items x.1 is h.1 h.2)
second_form_reads text rest (Err (faults.Syntax line)) is h = subst (λ ls. WrongBehindRounds ls line) (sym is) (inr (inr (refl, h)))
second_form_reads text rest (Err faults.Memory) is h = tt

-- ---- of a whole text

pub text_read : (text second third : List ℕ) (rounds : ℕ) (v : Vec ℕ Global) (d : Draft) → lines_of text ≡ ended (codes "safe") ∷ lines_of second → lines_of second ≡ ended (rounds_line rounds) ∷ lines_of third
    → ReadsForm third (Ok (v, d)) → ReadsText text (Ok (rounds, v, d))
text_read text second third rounds v d e f h = (
  h.0,
  record {
    rest = h.1.rest;
    lines = e ∙ ap (λ ls. ended (codes "safe") ∷ ls) (f ∙ ap (λ ls. ended (rounds_line rounds) ∷ ls) h.1.lines);
    items = h.1.items;
  },
)

pub text_refused : (text second third : List ℕ) (rounds : ℕ) (e : ProofFault) → rounds < 2 ^ 64 → lines_of text ≡ ended (codes "safe") ∷ lines_of second → lines_of second ≡ ended (rounds_line rounds) ∷ lines_of third
    → ReadsForm third (Err e) → ReadsText text (Err e)
text_refused text second third rounds (faults.Syntax line) small e f h =
    subst (λ ls. FirstWrongOfText ls line) (sym (e ∙ ap (λ ls. ended (codes "safe") ∷ ls) f)) (inr (refl, inr (rounds, small, refl, h)))
text_refused text second third rounds faults.Memory small e f h = tt
