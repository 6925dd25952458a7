-- The reader of whole texts: what it answers on the text of an annotation.
use Rattle.std.proofs.Common.{◌≡◌, ℕ, ◌+◌, ◌^◌, ◌<◌, ◌≤◌, true, List, ◌∷◌, ◌++◌, length, map, codes, Ok, Err, refl, sym, ap, subst, arith, length-append}
use Rattle.std.specs.List.{flat_map}
use Rattle.std.specs.declared.vec.Vec.{Vec}
use Rattle.std.specs.declared.alloc.Global.{Global}
use Rattle.outer_io.specs.Lines.{lines_of}
use Rattle.proof_form.specs.declared.drafts.Draft.{Draft}
use Rattle.proof_form.specs.declared.fault.ProofFault.{ProofFault}
use Rattle.proof_form.specs.declared.fault.ProofFault.TheVariants as faults
use Rattle.proof_form.specs.Annotations.{Content, is_annotation, ended, rounds_line, form_lines, AreShort, safe_text}
use Rattle.proof_form.specs.Standing.{Completes, no_content}
use Rattle.proof_form.specs.TextReading.{content_of}
use Rattle.proof_form.specs.TextOutcomes.{HasForm, ReadsText}
use Rattle.proof_form.proofs.CoarseLaws.{completes_lacks}
use Rattle.proof_form.proofs.SpelledLaws.{body_text, HasHeader, spelled_header, spelled_completes, header_spells, one_header, spelled_not_wrong}
use Rattle.proof_form.proofs.WholeLaws.{completes_once}

header : (text : List ℕ) (rounds : ℕ) (coarse : List ℕ) (d : Draft) (h : HasForm text (ended (codes "safe") ∷ (ended (rounds_line rounds) ∷ map ended (form_lines coarse))) d) → HasHeader text rounds coarse h.rest
header text rounds coarse d h = record { lines = h.lines }

-- what is read is spelled so
pub read_spells : (text : List ℕ) (rounds : ℕ) (v : Vec ℕ Global) (d : Draft) → ReadsText text (Ok (rounds, v, d)) → (text ≡ safe_text rounds v.items (content_of d)) × (is_annotation (content_of d) ≡ true)
read_spells text rounds v d h = header_spells text h.1.rest rounds v.items (content_of d) (header text rounds v.items d h.1) h.1.items

-- the text behind the header is no longer than the text
pub body_fits : (text : List ℕ) (rounds : ℕ) (coarse : List ℕ) (a : Content) (size : ℕ) → text ≡ safe_text rounds coarse a → size ≡ length text → size < 2 ^ 64 → length (body_text a) + 2 ≤ 2 ^ 64
body_fits text rounds coarse a size e s small =
    let form = flat_map ended (form_lines coarse) in
    let third = form ++ body_text a in
    let second = ended (rounds_line rounds) ++ third in
    let x = ap length e in
    let y : length (safe_text rounds coarse a) ≡ 5 + length second = length-append (ended (codes "safe")) second in
    let z = length-append (ended (rounds_line rounds)) third in
    let u = length-append form (body_text a) in omega arith

module _ (text : List ℕ) (rounds : ℕ) (coarse : List ℕ) (a : Content) (size : ℕ) (small : rounds < 2 ^ 64) (short : AreShort coarse) (valid : is_annotation a ≡ true) (spelled : text ≡ safe_text rounds coarse a) (is_size : size ≡ length text) (fits : size < 2 ^ 64) where
  its_header : HasHeader text rounds coarse (body_text a)
  its_header = subst (λ t. HasHeader t rounds coarse (body_text a)) (sym spelled) (spelled_header rounds coarse a small short)

  its_lines : Completes no_content (lines_of (body_text a)) a
  its_lines = spelled_completes a valid (body_fits text rounds coarse a size spelled is_size fits)

  -- what is spelled so is read
  pub spelled_is_read : (n : ℕ) (v : Vec ℕ Global) (d : Draft) → n < 2 ^ 64 → ReadsText text (Ok (n, v, d)) → (n ≡ rounds) × (v.items ≡ coarse) × (content_of d ≡ a)
  spelled_is_read n v d low h =
      let last = completes_lacks (lines_of h.1.rest) no_content (content_of d) h.1.items in
      let end = completes_lacks (lines_of (body_text a)) no_content a its_lines in
      let same = one_header text h.1.rest (body_text a) n rounds v.items coarse low small h.0 short last end (header text n v.items d h.1) its_header in
      (same.0, same.1, completes_once (lines_of (body_text a)) no_content (content_of d) a (subst (λ ls. Completes no_content ls (content_of d)) same.2 h.1.items) its_lines)

  pub spelled_is_no_fault : (e : ProofFault) → ReadsText text (Err e) → e ≡ faults.Memory
  spelled_is_no_fault (faults.Syntax line) h = absurd (spelled_not_wrong text (body_text a) rounds coarse line a small short its_header its_lines h)
  spelled_is_no_fault faults.Memory h = refl
