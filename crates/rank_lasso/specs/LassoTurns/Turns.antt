-- Turns: the rows of a list of inside letters of one procedure, begun at any state of its frame.
use Rattle.std.specs.Prelude.{◌≡◌, ℕ, ℤ, List, [], ◌∷◌, ◌++◌, map, length, Option, None, Some, slice_get}
use Rattle.std.specs.List.{AllByRecursion}
use Rattle.lin_rows.specs.Rows.{LinearRow, Holds}
use Rattle.nwa_base.specs.declared.letters.Kind.TheVariants.{Inside}
use Rattle.nwa_base.specs.declared.letters.Letter.{Letter}
use Rattle.letter_acts.specs.Acts.{PlainAct, inside_act, call_act, back_act, Alphabet, frame_of}
use Rattle.letter_acts.specs.Meaning.{Situation}
use Rattle.letter_acts.specs.Feasible.{Obeys}
use Rattle.letter_acts.specs.FrameRows.Rows.{bounds, types_of, columns_from}
use Rattle.path_rows.specs.Versions.{PathStage, part_of}
use Rattle.path_rows.specs.Paths.{first_stage, path_along}

-- the inside letter of that number
abbrev pub inside_letter : ℕ → Letter
inside_letter n = record { id = n; kind = Inside; call = 0 }

abbrev pub inside_letters : List ℕ → List Letter
inside_letters ns = map inside_letter ns

-- the act is an inside one of procedure p
abbrev pub StaysIn : ℕ → Option PlainAct → Type 0
StaysIn p None = ⊥
StaysIn p (Some (inside_act q written helpers rows)) = q ≡ p
StaysIn p (Some (call_act caller callee helpers rows)) = ⊥
StaysIn p (Some (back_act c targets)) = ⊥

-- letters with these numbers exist, and each is an inside letter of procedure p
abbrev pub AreInside : Alphabet → ℕ → List ℕ → Type 0
AreInside al p ns = AllByRecursion (λ n. StaysIn p (slice_get al.acts n)) ns

-- The rows of a list of letters, how many columns they are over, and which of them stand for the columns of the frame before
-- the first letter and after the last.
pub record Turn : Type 0 where
  pub rows : List LinearRow
  pub columns : ℕ
  pub before : List ℕ
  pub after : List ℕ

-- where a path has come to behind these letters
abbrev pub stage_after : Alphabet → PathStage → List Letter → PathStage
stage_after al p [] = p
stage_after al p (a ∷ w) = stage_after al (part_of al a p).after w

-- the turn of inside letters of procedure p: the bounds of the frame's booleans, and the rows of a path through the letters
abbrev pub turn_of : Alphabet → ℕ → List ℕ → Turn
turn_of al p ns =
    let first = first_stage (frame_of al p) in
    let last = stage_after al first (inside_letters ns) in
    record {
      rows = bounds 0 (types_of (frame_of al p)) ++ (path_along al 1 first (inside_letters ns)).rows;
      columns = last.made;
      before = columns_from 0 (length (frame_of al p));
      after = last.here;
    }

-- ---- what turns stand for

-- the last of these, or x where there is none
abbrev pub last_or : {X : Type 0} → X → List X → X
last_or x [] = x
last_or x (y ∷ ys) = last_or y ys

-- states of the frame of procedure p obey the letters, from s to u
pub record LeadsAlong (al : Alphabet) (p : ℕ) (ns : List ℕ) (s u : List ℤ) : Type 0 where
  pub more : List Situation
  pub obey : Obeys al (inside_letters ns) (record { proc = p; values = s }) more
  pub ends : (last_or (record { proc = p; values = s }) more).values ≡ u

-- a whole point meets the rows of the turn, with the values s before it and u after it
pub record IsSolvedTurn (t : Turn) (s u : List ℤ) : Type 0 where
  pub point : ℕ → ℤ
  pub meets : AllByRecursion (Holds point) t.rows
  pub before : s ≡ map point t.before
  pub after : u ≡ map point t.after
