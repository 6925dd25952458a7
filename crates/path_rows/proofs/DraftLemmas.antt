-- Drafts that read letters, and the path that a draft leads to.
use Rattle.std.proofs.Common.{◌≡◌, ◌∙◌, ℕ, zero, suc, ◌+◌, List, [], ◌∷◌, ◌++◌, length, Result, Ok, Err, Option, None, Some, length-append, refl, sym, ap, arith, append_assoc}
use Rattle.std.specs.Prelude.{map, reverse, OnOk, slice_get}
use Rattle.std.specs.Global.{Vec}
use Rattle.std.proofs.lemmas.List.{append-nil}
use Rattle.lin_rows.specs.Rows.{LinearRow}
use Rattle.nwa_base.specs.declared.letters.Letter.{Letter}
use Rattle.letter_acts.specs.Frames.{Columns}
use Rattle.letter_acts.specs.Acts.{PlainAct, inside_act, call_act, back_act, Alphabet, frame_of, act_of}
use Rattle.letter_acts.specs.Invariant.{Graph, alphabet_of}
use Rattle.path_rows.specs.declared.parts.Made.{Made}
use Rattle.path_rows.specs.declared.drafts.Draft.{Draft}
use Rattle.path_rows.specs.Versions.{PathStage, Part, part_rows, part_of, act_part, return_part, back_part, call_part}
use Rattle.path_rows.specs.Paths.{Path, repeated, path_along, path_of, start_frame, first_stage}
use Rattle.path_rows.specs.Drafts.{IsMade, Added, Reads, LeadsTo, IsDone, IsStart, stage_of}
use Rattle.path_rows.proofs.LoopLemmas.{same_stage, saved_pushed}

pub on_ok : {T E : Type 0} (P Q : Type 0) (r : Result T E) → (P → Q) → OnOk r P → OnOk r Q
on_ok P Q (Ok x) f h = f h
on_ok P Q (Err e) f h = tt

pub call_reads : (callee : Columns) (helpers : ℕ) (rows : List LinearRow) (number : ℕ) (old new : Draft) (saved : Vec (Vec ℕ)) (m : Made) (v : Vec ℕ) →
    IsMade (call_part callee helpers rows (record { made = old.made; here = old.here.items; saved = [] })) m → v.items ≡ old.here.items → saved.items ≡ old.saved.items ++ v ∷ [] →
    Added m.rows.items m.columns m.here.items number (record old { saved = saved }) new → Reads (call_part callee helpers rows (stage_of old)) number old new
call_reads callee helpers rows number old new saved m v i e f a =
    let part : Part = call_part callee helpers rows (stage_of old) in
    record {
      stage = same_stage (stage_of new) part.after (a.made ∙ ap (λ (n : ℕ). old.made + n) i.columns) (a.here ∙ i.here)
          (ap (λ (l : List (Vec ℕ)). reverse (map (λ (x : Vec ℕ). x.items) l)) a.saved ∙ saved_pushed old.saved.items saved.items v f ∙
          ap (λ (l : List ℕ). l ∷ reverse (map (λ (x : Vec ℕ). x.items) old.saved.items)) e);
      rows = a.rows ∙ ap (λ (l : List LinearRow). old.rows.items ++ l) i.rows;
      row_at = a.row_at ∙ ap (λ (l : List LinearRow). old.row_at.items ++ repeated number (length l)) i.rows;
      column_at = a.column_at ∙ ap (λ (n : ℕ). old.column_at.items ++ repeated number n) i.columns;
      states = a.states;
    }

-- ---- the path that a draft leads to

-- what stands behind a list, moved on
moved : {X : Type 0} (old new piece rest whole : List X) → new ≡ old ++ piece → old ++ (piece ++ rest) ≡ whole → new ++ rest ≡ whole
moved {X} old new piece rest whole e h = ap (λ (l : List X). l ++ rest) e ∙ append_assoc old piece rest ∙ h

pub leads_on : (g : Graph) (n : ℕ) (a : Letter) (w : List Letter) (old new : Draft) (path : Path) → Reads (part_of (alphabet_of g) a (stage_of old)) n old new →
    LeadsTo g n old (a ∷ w) path → LeadsTo g (suc n) new w path
leads_on g n a w old new path r h =
    let al = alphabet_of g in
    let part : Part = part_of al a (stage_of old) in
    let there : path_along al (suc n) (stage_of new) w ≡ path_along al (suc n) part.after w = ap (λ (p : PathStage). path_along al (suc n) p w) r.stage in
    let rest : Path = path_along al (suc n) part.after w in
    record {
      rows = ap (λ (p : Path). new.rows.items ++ p.rows) there ∙ moved old.rows.items new.rows.items (part_rows part) rest.rows path.rows r.rows h.rows;
      row_at = ap (λ (p : Path). new.row_at.items ++ p.row_at) there ∙
          moved old.row_at.items new.row_at.items (repeated n (length (part_rows part))) rest.row_at path.row_at r.row_at h.row_at;
      column_at = ap (λ (p : Path). new.column_at.items ++ p.column_at) there ∙
          moved old.column_at.items new.column_at.items (repeated n part.columns) rest.column_at path.column_at r.column_at h.column_at;
      states = ap (λ (p : Path). map (λ (v : Vec ℕ). v.items) new.states.items ++ p.states) there ∙
          moved (map (λ (v : Vec ℕ). v.items) old.states.items) (map (λ (v : Vec ℕ). v.items) new.states.items) (old.here.items ∷ []) rest.states path.states r.states h.states;
    }

pub leads_first : (g : Graph) (w : List Letter) (d : Draft) → IsStart (start_frame g) d → LeadsTo g 1 d w (path_of g w)
leads_first g w d s =
    let frame : Columns = start_frame g in
    let there : path_along (alphabet_of g) 1 (stage_of d) w ≡ path_along (alphabet_of g) 1 (first_stage frame) w = ap (λ (p : PathStage). path_along (alphabet_of g) 1 p w) s.stage in
    let rest : Path = path_along (alphabet_of g) 1 (first_stage frame) w in
    record {
      rows = ap (λ (p : Path). d.rows.items ++ p.rows) there ∙ ap (λ (l : List LinearRow). l ++ rest.rows) s.rows;
      row_at = ap (λ (p : Path). d.row_at.items ++ p.row_at) there ∙ ap (λ (l : List ℕ). l ++ rest.row_at) s.row_at;
      column_at = ap (λ (p : Path). d.column_at.items ++ p.column_at) there ∙ ap (λ (l : List ℕ). l ++ rest.column_at) s.column_at;
      states = ap (λ (p : Path). map (λ (v : Vec ℕ). v.items) d.states.items ++ p.states) there ∙
          ap (λ (l : List (Vec ℕ)). map (λ (v : Vec ℕ). v.items) l ++ rest.states) s.states;
    }

pub all_read : (g : Graph) (n : ℕ) (d : Draft) (path : Path) → LeadsTo g n d [] path → IsDone d path
all_read g n d path h = record {
  rows = sym (append-nil d.rows.items) ∙ h.rows;
  row_at = sym (append-nil d.row_at.items) ∙ h.row_at;
  column_at = sym (append-nil d.column_at.items) ∙ h.column_at;
  states = h.states;
}

-- ---- how many columns are made

back_made : (caller callee : Columns) (targets : List ℕ) (made : ℕ) (here : List ℕ) (saved : List (List ℕ)) →
    (back_part caller callee targets made here saved).after.made ≡ made + (back_part caller callee targets made here saved).columns
back_made caller callee targets made here [] = omega arith
back_made caller callee targets made here (v ∷ saved) = omega arith

return_made : (al : Alphabet) (targets : List ℕ) (o : Option PlainAct) (p : PathStage) → (return_part al targets o p).after.made ≡ p.made + (return_part al targets o p).columns
return_made al targets None p = omega arith
return_made al targets (Some (inside_act q written helpers rows)) p = omega arith
return_made al targets (Some (call_act caller callee helpers rows)) p = back_made (frame_of al caller) (frame_of al callee) targets p.made p.here p.saved
return_made al targets (Some (back_act c more)) p = omega arith

act_made : (al : Alphabet) (o : Option PlainAct) (p : PathStage) → (act_part al o p).after.made ≡ p.made + (act_part al o p).columns
act_made al None p = omega arith
act_made al (Some (inside_act q written helpers rows)) p = refl
act_made al (Some (call_act caller callee helpers rows)) p = refl
act_made al (Some (back_act c targets)) p = return_made al targets (slice_get al.acts c) p

length-repeated : (n k : ℕ) → length (repeated n k) ≡ k
length-repeated n zero = refl
length-repeated n (suc k) = ap suc (length-repeated n k)

pub counted_first : (frame : Columns) (d : Draft) → IsStart frame d → d.made ≡ length d.column_at.items
counted_first frame d s = ap (λ (p : PathStage). p.made) s.stage ∙ sym (ap length s.column_at ∙ length-repeated 0 (length frame))

pub counted_next : (al : Alphabet) (a : Letter) (n : ℕ) (old new : Draft) → Reads (part_of al a (stage_of old)) n old new → old.made ≡ length old.column_at.items → new.made ≡ length new.column_at.items
counted_next al a n old new r h =
    let part : Part = part_of al a (stage_of old) in
    let m : new.made ≡ old.made + part.columns = ap (λ (p : PathStage). p.made) r.stage ∙ act_made al (act_of al a) (stage_of old) in
    let l : length new.column_at.items ≡ length old.column_at.items + part.columns =
    ap length r.column_at ∙ length-append old.column_at.items (repeated n part.columns) ∙ ap (λ (k : ℕ). length old.column_at.items + k) (length-repeated n part.columns) in
    omega (arith, m, l, h)
