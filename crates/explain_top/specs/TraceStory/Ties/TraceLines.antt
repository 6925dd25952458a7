-- The lines of the text of a trace by their kinds.
use Rattle.std.specs.Prelude.{List, [], ◌∷◌, ◌++◌, ℕ, codes}
use Rattle.race_core.specs.declared.ends.Cause.{Cause}
use Rattle.race_verdicts.specs.Texts.{cause_name}
use Rattle.rank_lasso.specs.Lines.{LineKind, kind, nothing, natural, letters}

abbrev pub cause_word : Cause → List ℕ
cause_word cause = codes "unknown " ++ cause_name cause

abbrev pub cause_kind : Cause → LineKind
cause_kind cause = kind (cause_word cause) nothing

abbrev pub rounds_kind : LineKind
rounds_kind = kind (codes "rounds ") natural

abbrev pub letters_kind : LineKind
letters_kind = kind (codes "trace") letters

-- the lines of a text with this cause
abbrev pub trace_kinds : Cause → List LineKind
trace_kinds cause = cause_kind cause ∷ rounds_kind ∷ letters_kind ∷ []
