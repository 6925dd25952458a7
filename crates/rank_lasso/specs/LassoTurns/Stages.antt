-- What is known where a path of inside letters has come to.
use Rattle.std.specs.Prelude.{◌≡◌, ◌⊎◌, ℕ, ◌<◌, ◌≤◌, List, length, slice_index}
use Rattle.letter_acts.specs.Frames.{Columns}
use Rattle.path_rows.specs.Versions.{PathStage}
use Rattle.path_rows.specs.Stages.{AreVersions}

-- each version is the first of its column, or was made behind the first ones
abbrev pub AreFirstOrNew : ℕ → List ℕ → Type 0
AreFirstOrNew width here = (j : ℕ) → j < width → (slice_index here j ≡ j) ⊎ (width ≤ slice_index here j)

-- what is known where a path of inside letters has come to
pub record StageIs (frame : Columns) (st : PathStage) : Type 0 where
  pub versions : AreVersions st.made frame st.here
  pub wide : length frame ≤ st.made
  pub fresh : AreFirstOrNew (length frame) st.here
