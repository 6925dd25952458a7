-- The text of a trace of which nothing is known, a line each: `unknown` and its cause, `rounds N`, `trace` and its letters.
use Rattle.std.specs.Prelude.{ℕ, ◌^◌, ◌<◌, List, [], ◌∷◌, ◌++◌, codes}
use Rattle.std.specs.List.{concat}
use Rattle.trace_replay.specs.FailureText.{numbered_line}
use Rattle.race_core.specs.declared.ends.Cause.{Cause}
use Rattle.race_verdicts.specs.Texts.{cause_name}
use Rattle.rank_lasso.specs.LassoText.{AreShort, letters_line}
use Rattle.explain_top.specs.declared.trace_story.traces.Trace.{Trace}

-- the cause, after how many rounds, and the numbers of the letters
pub record PlainTrace : Type 0 where
  pub cause : Cause
  pub rounds : ℕ
  pub letters : List ℕ

-- its numbers have the 64 or 32 bits of their lines
pub record IsInBounds (u : PlainTrace) : Type 0 where
  pub rounds : u.rounds < 2 ^ 64
  pub letters : AreShort u.letters

abbrev pub trace_lines : PlainTrace → List (List ℕ)
trace_lines u = (codes "unknown " ++ (cause_name u.cause ++ 10 ∷ [])) ∷ numbered_line (codes "rounds ") u.rounds ∷ letters_line (codes "trace") u.letters ∷ []

abbrev pub trace_text : PlainTrace → List ℕ
trace_text u = concat (trace_lines u)

-- a trace of the program
abbrev pub plain : Trace → PlainTrace
plain t = record { cause = t.cause; rounds = t.rounds; letters = t.letters.items }
