-- The trace that a whole point tells of a word and a run over it.
use Rattle.std.specs.Prelude.{◌≡◌, ℕ, ◌+◌, ℤ, List, [], ◌∷◌, length, Option, None, Some}
use Rattle.nwa_base.specs.declared.letters.Letter.{Letter}
use Rattle.letter_acts.specs.Acts.{PlainAct, inside_act, call_act, back_act, Alphabet, act_of}
use Rattle.letter_acts.specs.Invariant.{Graph, alphabet_of}
use Rattle.path_rows.specs.Versions.{PathStage, part_of}
use Rattle.letter_acts.specs.FrameRows.Rows.{columns_from}
use Rattle.path_rows.specs.Paths.{start_frame, first_stage}
use Rattle.path_rows.specs.Solutions.{read}
use Rattle.lowered_graph.specs.LoweredChoices.Traces.{TracePosition}

-- the columns of the helpers of a letter with this act, which makes its columns from this number on
abbrev pub helper_columns : Option PlainAct → ℕ → List ℕ
helper_columns None made = []
helper_columns (Some (inside_act p written helpers rows)) made = columns_from (made + length written) helpers
helper_columns (Some (call_act caller callee helpers rows)) made = []
helper_columns (Some (back_act c targets)) made = []

-- the position in this state where the path has come to this stage, with these helpers
abbrev pub solved_position : (ℕ → ℤ) → ℕ → List ℤ → PathStage → TracePosition
solved_position point q helpers p = record { place = q; values = read point p.here; helpers = helpers }

-- the positions behind the letters, in these states, from where the path has come to
abbrev pub positions_from : (ℕ → ℤ) → Alphabet → PathStage → List Letter → List ℕ → List TracePosition
positions_from point al p [] states = []
positions_from point al p (a ∷ w) [] = []
positions_from point al p (a ∷ w) (q ∷ states) =
    solved_position point q (read point (helper_columns (act_of al a) p.made)) (part_of al a p).after ∷ positions_from point al (part_of al a p).after w states

-- the position before the first letter
abbrev pub first_position : (ℕ → ℤ) → Graph → TracePosition
first_position point g = solved_position point g.automaton.start [] (first_stage (start_frame g))

-- those behind the letters of a word, along a run
abbrev pub next_positions : (ℕ → ℤ) → Graph → List Letter → List ℕ → List TracePosition
next_positions point g w [] = []
next_positions point g w (q ∷ states) = positions_from point (alphabet_of g) (first_stage (start_frame g)) w states

-- the last of the states is e
abbrev pub EndsIn : ℕ → List ℕ → Type 0
EndsIn e [] = ⊥
EndsIn e (q ∷ []) = q ≡ e
EndsIn e (q ∷ r ∷ more) = EndsIn e (r ∷ more)
