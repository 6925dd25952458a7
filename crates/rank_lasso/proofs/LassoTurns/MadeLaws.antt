-- Turns that are made letter by letter.
use Rattle.std.proofs.Common.{◌≡◌, ◌∙◌, ℕ, suc, ◌+◌, ◌-◌, ◌<◌, ◌≤◌, ◌^◌, List, [], ◌∷◌, ◌++◌, length, drop, get_or, Some, refl, sym, ap, subst, arith, append_assoc, append-nil, add-one, drop-cons}
use Rattle.std.specs.Prelude.{slice_get, slice_set}
use Rattle.std.proofs.lemmas.List.{drop_all}
use Rattle.lin_rows.specs.Rows.{LinearRow}
use Rattle.nwa_base.specs.declared.letters.Letter.{Letter}
use Rattle.letter_acts.specs.Acts.{inside_act, Alphabet, frame_of}
use Rattle.letter_acts.specs.Invariant.{Graph, IsGraph, alphabet_of}
use Rattle.letter_acts.specs.FrameRows.Rows.{bounds, types_of, columns_from}
use Rattle.path_rows.specs.Versions.{PathStage, Part, part_rows, inside_part, part_of, written_over}
use Rattle.path_rows.specs.Paths.{first_stage, path_along}
use Rattle.path_rows.specs.Stages.{InsideFits}
use Rattle.rank_lasso.specs.declared.lasso_turns.made.MadeTurn.{MadeTurn}
use Rattle.rank_lasso.specs.LassoTurns.Turns.{inside_letter, inside_letters, AreInside, stage_after, Turn, turn_of}
use Rattle.rank_lasso.specs.LassoTurns.Stages.{AreFirstOrNew, StageIs}
use Rattle.rank_lasso.specs.LassoTurns.Made.{stage_of, plain_turn, Reads, CanBeRanked}
use Rattle.rank_lasso.proofs.LassoTurns.TurnLaws.{InsideAct, known_act, inside_act_of}
use Rattle.rank_lasso.proofs.LassoTurns.KeptLaws.{first_is, letter_keeps}

-- ---- the rows of a path do not depend on the numbers of its letters

rows_any : (al : Alphabet) (n m : ℕ) (st : PathStage) (w : List Letter) → (path_along al n st w).rows ≡ (path_along al m st w).rows
rows_any al n m st [] = refl
rows_any al n m st (a ∷ w) = ap (λ (v : List LinearRow). part_rows (part_of al a st) ++ v) (rows_any al (suc n) (suc m) (part_of al a st).after w)

-- ---- one letter

pub record ReadFits (g : Graph) (p n : ℕ) (st : PathStage) (written : List ℕ) (helpers : ℕ) (rows : List LinearRow) : Type 0 where
  pub fits : InsideFits written helpers rows st.made st.here
  pub part : part_of (alphabet_of g) (inside_letter n) st ≡ inside_part (frame_of (alphabet_of g) p) written helpers rows st

pub read_fits : (g : Graph) → IsGraph g → (p n q : ℕ) (st : PathStage) (written : List ℕ) (helpers : ℕ) (rows : List LinearRow) → AreInside (alphabet_of g) p (n ∷ []) →
    slice_get g.acts n ≡ Some (inside_act q written helpers rows) → StageIs (frame_of (alphabet_of g) p) st → ReadFits g p n st written helpers rows
read_fits g ok p n q st written helpers rows i e h =
    let a : InsideAct (alphabet_of g) p n = record { written = written; helpers = helpers; rows = rows; is = known_act (alphabet_of g) p n q written helpers rows i.0 e } in
    let k = letter_keeps g ok p n st a h in
    record { fits = k.fits; part = k.part }

-- ---- letters

-- the turn made so far, with the turn of what is left behind it, is the turn of all letters
pub record TurnOn (g : Graph) (p : ℕ) (letters : List ℕ) (d : MadeTurn) (rest : List ℕ) : Type 0 where
  pub rows : d.rows.items ++ (path_along (alphabet_of g) 1 (stage_of d) (inside_letters rest)).rows ≡ (turn_of (alphabet_of g) p letters).rows
  pub stage : stage_after (alphabet_of g) (stage_of d) (inside_letters rest) ≡ stage_after (alphabet_of g) (first_stage (frame_of (alphabet_of g) p)) (inside_letters letters)
  pub is : StageIs (frame_of (alphabet_of g) p) (stage_of d)
  pub width : d.width ≡ length (frame_of (alphabet_of g) p)
  pub inside : AreInside (alphabet_of g) p rest
  pub room : d.made ≤ 2 ^ 32

pub turn_starts : (g : Graph) (p : ℕ) (letters : List ℕ) (d : MadeTurn) → stage_of d ≡ first_stage (frame_of (alphabet_of g) p) →
    d.rows.items ≡ bounds 0 (types_of (frame_of (alphabet_of g) p)) → d.width ≡ length (frame_of (alphabet_of g) p) → d.made ≤ 2 ^ 32 →
    AreInside (alphabet_of g) p letters → TurnOn g p letters d letters
turn_starts g p letters d s r w m i = record {
  rows =
      ap (λ (st : PathStage). d.rows.items ++ (path_along (alphabet_of g) 1 st (inside_letters letters)).rows) s ∙
      ap (λ (v : List LinearRow). v ++ (path_along (alphabet_of g) 1 (first_stage (frame_of (alphabet_of g) p)) (inside_letters letters)).rows) r;
  stage = ap (λ (st : PathStage). stage_after (alphabet_of g) st (inside_letters letters)) s;
  is = subst (StageIs (frame_of (alphabet_of g) p)) (sym s) (first_is (frame_of (alphabet_of g) p));
  width = w;
  inside = i;
  room = m;
}

turn_on : (g : Graph) → IsGraph g → (p : ℕ) (letters : List ℕ) (old new : MadeTurn) (n : ℕ) (rest : List ℕ) → TurnOn g p letters old (n ∷ rest) →
    Reads (part_of (alphabet_of g) (inside_letter n) (stage_of old)) old new → new.made ≤ 2 ^ 32 → TurnOn g p letters new rest
turn_on g ok p letters old new n rest h r m =
    let al : Alphabet = alphabet_of g in
    let part : Part = part_of al (inside_letter n) (stage_of old) in
    let k = letter_keeps g ok p n (stage_of old) (inside_act_of al p n h.inside.0) h.is in
    record {
      rows =
          ap (λ (st : PathStage). new.rows.items ++ (path_along al 1 st (inside_letters rest)).rows) r.stage ∙
          ap (λ (v : List LinearRow). v ++ (path_along al 1 part.after (inside_letters rest)).rows) r.rows ∙
          append_assoc old.rows.items (part_rows part) (path_along al 1 part.after (inside_letters rest)).rows ∙
          ap (λ (v : List LinearRow). old.rows.items ++ (part_rows part ++ v)) (rows_any al 1 2 part.after (inside_letters rest)) ∙ h.rows;
      stage = ap (λ (st : PathStage). stage_after al st (inside_letters rest)) r.stage ∙ h.stage;
      is = subst (StageIs (frame_of al p)) (sym r.stage) k.after;
      width = r.width ∙ h.width;
      inside = h.inside.1;
      room = m;
    }

split_at : (letters : List ℕ) (i d : ℕ) → i < length letters → drop i letters ≡ get_or letters i d ∷ drop (i + 1) letters
split_at letters i d l = rw (add-one, drop-cons letters i d) refl

pub turn_here : (g : Graph) (p : ℕ) (letters : List ℕ) (d : MadeTurn) (i n e : ℕ) → i < length letters → n ≡ get_or letters i e → TurnOn g p letters d (drop i letters) →
    AreInside (alphabet_of g) p (n ∷ [])
turn_here g p letters d i n e l z h =
    let k : AreInside (alphabet_of g) p (get_or letters i e ∷ drop (i + 1) letters) = subst (AreInside (alphabet_of g) p) (split_at letters i e l) h.inside in
    subst (λ (x : ℕ). AreInside (alphabet_of g) p (x ∷ [])) (sym z) (k.0, tt)

pub turn_goes : (g : Graph) → IsGraph g → (p : ℕ) (letters : List ℕ) (old new : MadeTurn) (i n e : ℕ) → i < length letters → n ≡ get_or letters i e →
    TurnOn g p letters old (drop i letters) → Reads (part_of (alphabet_of g) (inside_letter n) (stage_of old)) old new → new.made ≤ 2 ^ 32 →
    TurnOn g p letters new (drop (i + 1) letters)
turn_goes g ok p letters old new i n e l z h r m =
    let split : drop i letters ≡ n ∷ drop (i + 1) letters = split_at letters i e l ∙ ap (λ (x : ℕ). x ∷ drop (i + 1) letters) (sym z) in
    turn_on g ok p letters old new n (drop (i + 1) letters) (subst (TurnOn g p letters old) split h) r m

-- a turn made of all letters
pub record TurnDone (g : Graph) (p : ℕ) (letters : List ℕ) (d : MadeTurn) : Type 0 where
  pub value : plain_turn d ≡ turn_of (alphabet_of g) p letters
  pub ranked : CanBeRanked d

same_turn : (rows : List LinearRow) (st : PathStage) (width : ℕ) (t : Turn) → rows ≡ t.rows → st.made ≡ t.columns → columns_from 0 width ≡ t.before → st.here ≡ t.after →
    record { rows = rows; columns = st.made; before = columns_from 0 width; after = st.here } ≡ t
same_turn rows st width t a b c e = λ i. record { rows = a i; columns = b i; before = c i; after = e i }

pub turn_ends : (g : Graph) (p : ℕ) (letters : List ℕ) (d : MadeTurn) (i : ℕ) → length letters ≤ i → TurnOn g p letters d (drop i letters) → TurnDone g p letters d
turn_ends g p letters d i l h =
    let k : TurnOn g p letters d [] = subst (TurnOn g p letters d) (drop_all i letters l) h in
    record {
      value = same_turn d.rows.items (stage_of d) d.width (turn_of (alphabet_of g) p letters) (sym (append-nil d.rows.items) ∙ k.rows)
          (ap (λ (st : PathStage). st.made) k.stage) (ap (columns_from 0) k.width) (ap (λ (st : PathStage). st.here) k.stage);
      ranked = record {
        long = k.is.versions.long ∙ sym k.width;
        differ = k.is.versions.differ;
        fresh = subst (λ (n : ℕ). AreFirstOrNew n d.here.items) (sym k.width) k.is.fresh;
      };
    }

-- rows that are added in two steps
pub rows_added : (old first second x y u v : List LinearRow) → first ≡ old ++ x → second ≡ first ++ y → x ≡ u → y ≡ v → second ≡ old ++ (u ++ v)
rows_added old first second x y u v e f i j =
    f ∙ ap (λ (w : List LinearRow). w ++ y) e ∙ append_assoc old x y ∙ ap (λ (w : List LinearRow). old ++ (w ++ y)) i ∙ ap (λ (w : List LinearRow). old ++ (u ++ w)) j

-- ---- writing

-- new versions are written one after the other
pub writes_on : (start now written : List ℕ) (from i c d : ℕ) → i < length written → c ≡ get_or written i d →
    written_over now (drop i written) (columns_from (from + i) (length written - i)) ≡ written_over start written (columns_from from (length written)) →
    written_over (slice_set now c (from + i)) (drop (i + 1) written) (columns_from (from + (i + 1)) (length written - (i + 1))) ≡ written_over start written (columns_from from (length written))
writes_on start now written from i c d l z h =
    let split : drop i written ≡ c ∷ drop (i + 1) written = split_at written i d l ∙ ap (λ (x : ℕ). x ∷ drop (i + 1) written) (sym z) in
    let count : columns_from (from + i) (length written - i) ≡ (from + i) ∷ columns_from (from + (i + 1)) (length written - (i + 1)) =
    ap (columns_from (from + i)) (let e : length written - i ≡ suc (length written - (i + 1)) = omega arith in e) ∙
    ap (λ (x : ℕ). (from + i) ∷ columns_from x (length written - (i + 1))) (let e : suc (from + i) ≡ from + (i + 1) = omega arith in e) in
    let both : written_over now (drop i written) (columns_from (from + i) (length written - i)) ≡
    written_over now (c ∷ drop (i + 1) written) ((from + i) ∷ columns_from (from + (i + 1)) (length written - (i + 1))) =
    ap (λ (x : List ℕ). written_over now x (columns_from (from + i) (length written - i))) split ∙ ap (written_over now (c ∷ drop (i + 1) written)) count in
    sym both ∙ h

pub writes_end : (start now written : List ℕ) (from i : ℕ) → length written ≤ i →
    written_over now (drop i written) (columns_from (from + i) (length written - i)) ≡ written_over start written (columns_from from (length written)) →
    now ≡ written_over start written (columns_from from (length written))
writes_end start now written from i l h =
    sym (ap (λ (x : List ℕ). written_over now x (columns_from (from + i) (length written - i))) (drop_all i written l)) ∙ h
