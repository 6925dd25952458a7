-- States obey inside letters exactly where a whole point meets the rows of their turn, with the states before and after it.
use Rattle.std.proofs.Common.{◌≡◌, ◌↔◌, ◌∙◌, ℕ, suc, ◌<◌, true, ℤ, List, [], ◌∷◌, ◌++◌, length, Option, None, Some, refl, sym, ap, subst}
use Rattle.std.specs.Prelude.{map, slice_get}
use Rattle.std.specs.List.{AllByRecursion}
use Rattle.std.proofs.lemmas.Bool.{eq-eqb, and_from}
use Rattle.lin_rows.specs.Rows.{LinearRow, Holds}
use Rattle.lin_rows.specs.Points.{point_of}
use Rattle.nwa_base.specs.declared.letters.Letter.{Letter}
use Rattle.nwa_base.specs.Letters.{same_letter}
use Rattle.letter_acts.specs.Frames.{Columns, IsState}
use Rattle.letter_acts.specs.Acts.{PlainAct, inside_act, call_act, back_act, Alphabet, frame_of, named_act, letter_of, act_of}
use Rattle.letter_acts.specs.Meaning.{Situation, ActInside, InsideLeads}
use Rattle.letter_acts.specs.Ways.{GoesThrough}
use Rattle.letter_acts.specs.Feasible.{meaning}
use Rattle.letter_acts.specs.Invariant.{Graph, IsGraph, alphabet_of, InsideIsActed}
use Rattle.letter_acts.proofs.PointLemmas.{state_length}
use Rattle.letter_acts.proofs.WayLemmas.{along_by_stack}
use Rattle.letter_acts.specs.FrameRows.Rows.{bounds, types_of, columns_from}
use Rattle.path_rows.specs.Versions.{PathStage, Part, part_rows, inside_part, part_of, act_part}
use Rattle.path_rows.specs.Paths.{first_stage, path_along}
use Rattle.path_rows.specs.Solutions.{read}
use Rattle.path_rows.proofs.ListLemmas.{all_joined}
use Rattle.path_rows.proofs.RowLemmas.{bounds_read}
use Rattle.path_rows.proofs.InsideLaws.{inside_heard}
use Rattle.path_rows.proofs.SaidLaws.{acted, said}
use Rattle.path_rows.proofs.SolvedLaws.{Built, first_read, built_first, extends}
use Rattle.rank_lasso.specs.LassoTurns.Turns.{inside_letter, inside_letters, StaysIn, AreInside, stage_after, turn_of, last_or, LeadsAlong, IsSolvedTurn}

-- ---- the act of an inside letter

pub record InsideAct (al : Alphabet) (p n : ℕ) : Type 0 where
  pub written : List ℕ
  pub helpers : ℕ
  pub rows : List LinearRow
  pub is : act_of al (inside_letter n) ≡ Some (inside_act p written helpers rows)

same_inside : (n q : ℕ) (written : List ℕ) (helpers : ℕ) (rows : List LinearRow) →
    named_act (inside_letter n) (Some (inside_act q written helpers rows)) ≡ Some (inside_act q written helpers rows)
same_inside n q written helpers rows =
    let e : same_letter (inside_letter n) (letter_of n (inside_act q written helpers rows)) ≡ true = and_from _ true (eq-eqb n n refl) refl in
    rw e refl

pub inside_act_of : (al : Alphabet) (p n : ℕ) → StaysIn p (slice_get al.acts n) → InsideAct al p n
inside_act_of al p n h = by_act (slice_get al.acts n) refl h
  where
    by_act : (o : Option PlainAct) → slice_get al.acts n ≡ o → StaysIn p o → InsideAct al p n
    by_act None e h = absurd h
    by_act (Some (inside_act q written helpers rows)) e h = record {
      written = written;
      helpers = helpers;
      rows = rows;
      is =
          ap (named_act (inside_letter n)) e ∙ same_inside n q written helpers rows ∙
          ap (λ (k : ℕ). Some (inside_act k written helpers rows)) h;
    }
    by_act (Some (call_act caller callee helpers rows)) e h = absurd h
    by_act (Some (back_act c targets)) e h = absurd h

-- the same where it is known what it does
pub known_act : (al : Alphabet) (p n q : ℕ) (written : List ℕ) (helpers : ℕ) (rows : List LinearRow) → StaysIn p (slice_get al.acts n) →
    slice_get al.acts n ≡ Some (inside_act q written helpers rows) → act_of al (inside_letter n) ≡ Some (inside_act p written helpers rows)
known_act al p n q written helpers rows h e =
    ap (named_act (inside_letter n)) e ∙ same_inside n q written helpers rows ∙ ap (λ (k : ℕ). Some (inside_act k written helpers rows)) (subst (StaysIn p) e h)

-- the part that it makes
pub inside_part_of : (al : Alphabet) (p n : ℕ) (a : InsideAct al p n) (st : PathStage) →
    part_of al (inside_letter n) st ≡ inside_part (frame_of al p) a.written a.helpers a.rows st
inside_part_of al p n a st = ap (λ (o : Option PlainAct). act_part al o st) a.is

-- ---- from states to a point

-- states that are read off end as the last versions say
last_read : (al : Alphabet) (point : ℕ → ℤ) (n : ℕ) (st : PathStage) (w : List Letter) (first : Situation) (more : List Situation) →
    map (λ t. t.values) (first ∷ more) ≡ map (read point) (path_along al n st w).states → (last_or first more).values ≡ read point (stage_after al st w).here
last_read al point n st [] first [] e = cc
last_read al point n st [] first (t ∷ more) e = absurd (cc)
last_read al point n st (a ∷ []) first [] e = absurd (cc)
last_read al point n st (a ∷ b ∷ w) first [] e = absurd (cc)
last_read al point n st (a ∷ w) first (t ∷ more) e =
    let f : map (λ t. t.values) (t ∷ more) ≡ map (read point) (path_along al (suc n) (part_of al a st).after w).states = cc in
    last_read al point (suc n) (part_of al a st).after w t more f

pub turns_are_solved : (g : Graph) → IsGraph g → (p : ℕ) (ns : List ℕ) (s u : List ℤ) → LeadsAlong (alphabet_of g) p ns s u → IsSolvedTurn (turn_of (alphabet_of g) p ns) s u
turns_are_solved g ok p ns s u h =
    let al : Alphabet = alphabet_of g in
    let frame : Columns = frame_of al p in
    let w : List Letter = inside_letters ns in
    let here : Situation = record { proc = p; values = s } in
    let state : IsState frame s = h.obey.begins.1 in
    let long : length s ≡ length frame = state_length frame s state in
    let b : Built s (first_stage frame) [] here = built_first frame here long in
    let x = extends g ok w 1 s (first_stage frame) [] here h.more b ((along_by_stack (meaning al) w here h.more).0 h.obey.along) in
    let point : ℕ → ℤ = point_of (s ++ x.rest) in
    let first : s ≡ read point (columns_from 0 (length frame)) = first_read s x.rest (length frame) long in
    record {
      point = point;
      meets = (all_joined (Holds point) (bounds 0 (types_of frame)) (path_along al 1 (first_stage frame) w).rows).1
          ((bounds_read point 0 frame).1 (subst (IsState frame) first state), said g ok point w 1 (first_stage frame) x.obeyed);
      before = first;
      after = sym h.ends ∙ last_read al point 1 (first_stage frame) w here h.more x.read_off;
    }

-- ---- from a point to states

-- states from where a path has come to, at which the point is read
record HeardAlong (al : Alphabet) (p : ℕ) (point : ℕ → ℤ) (st : PathStage) (ns : List ℕ) : Type 0 where
  more : List Situation
  goes : GoesThrough (meaning al) [] (record { proc = p; values = read point st.here }) (inside_letters ns) more
  ends : (last_or (record { proc = p; values = read point st.here }) more).values ≡ read point (stage_after al st (inside_letters ns)).here

heard_along : (g : Graph) → IsGraph g → (p : ℕ) → p < length g.frames → (point : ℕ → ℤ) (n : ℕ) (st : PathStage) (ns : List ℕ) → AreInside (alphabet_of g) p ns →
    IsState (frame_of (alphabet_of g) p) (read point st.here) → AllByRecursion (Holds point) (path_along (alphabet_of g) n st (inside_letters ns)).rows →
    HeardAlong (alphabet_of g) p point st ns
heard_along g ok p l point n st [] i s h = record { more = []; goes = tt; ends = refl }
heard_along g ok p l point n st (m ∷ ns) i s h =
    let al : Alphabet = alphabet_of g in
    let frame : Columns = frame_of al p in
    let a = inside_act_of al p m i.0 in
    let is = inside_part_of al p m a st in
    let act : PlainAct = inside_act p a.written a.helpers a.rows in
    let kept : InsideIsActed al p a.written a.helpers a.rows = acted g ok (inside_letter m) act a.is in
    let parts =
    (all_joined (Holds point) (part_rows (part_of al (inside_letter m) st)) (path_along al (suc n) (part_of al (inside_letter m) st).after (inside_letters ns)).rows).0 h in
    let led = inside_heard point al p a.written a.helpers a.rows st kept s
    (subst (λ (r : Part). AllByRecursion (Holds point) (part_rows r)) is parts.0) in
    let after : PathStage = (part_of al (inside_letter m) st).after in
    let here : (inside_part frame a.written a.helpers a.rows st).after.here ≡ after.here = ap (λ (r : Part). r.after.here) (sym is) in
    let from : Situation = record { proc = p; values = read point st.here } in
    let to : Situation = record { proc = p; values = read point after.here } in
    let leads : ActInside al (Some act) from to =
    ((refl, l), (refl, l), subst (λ (z : List ℕ). InsideLeads frame a.written a.helpers a.rows (read point st.here) (read point z)) here led.leads) in
    let next = heard_along g ok p l point (suc n) after ns i.1 (subst (λ (z : List ℕ). IsState frame (read point z)) here led.leads.after) parts.1 in
    record {
      more = to ∷ next.more;
      goes = (subst (λ (o : Option PlainAct). ActInside al o from to) (sym a.is) leads, next.goes);
      ends = next.ends;
    }

pub solved_turns_lead : (g : Graph) → IsGraph g → (p : ℕ) → p < length g.frames → (ns : List ℕ) → AreInside (alphabet_of g) p ns → (s u : List ℤ) →
    IsSolvedTurn (turn_of (alphabet_of g) p ns) s u → LeadsAlong (alphabet_of g) p ns s u
solved_turns_lead g ok p l ns i s u t =
    let al : Alphabet = alphabet_of g in
    let frame : Columns = frame_of al p in
    let first : PathStage = first_stage frame in
    let parts = (all_joined (Holds t.point) (bounds 0 (types_of frame)) (path_along al 1 first (inside_letters ns)).rows).0 t.meets in
    let state : IsState frame (read t.point first.here) = (bounds_read t.point 0 frame).0 parts.0 in
    let h = heard_along g ok p l t.point 1 first ns i state parts.1 in
    let here : read t.point first.here ≡ s = sym t.before in
    subst (λ (z : List ℤ). LeadsAlong al p ns z u) here (record {
      more = h.more;
      obey = record { begins = (l, state); along = (along_by_stack (meaning al) (inside_letters ns) (record { proc = p; values = read t.point first.here }) h.more).1 h.goes };
      ends = h.ends ∙ sym t.after;
    })

-- states obey inside letters exactly where a whole point meets their turn
pub turns_are_exact : (g : Graph) → IsGraph g → (p : ℕ) → p < length g.frames → (ns : List ℕ) → AreInside (alphabet_of g) p ns → (s u : List ℤ) →
    LeadsAlong (alphabet_of g) p ns s u ↔ IsSolvedTurn (turn_of (alphabet_of g) p ns) s u
turns_are_exact g ok p l ns i s u = (turns_are_solved g ok p ns s u, solved_turns_lead g ok p l ns i s u)
