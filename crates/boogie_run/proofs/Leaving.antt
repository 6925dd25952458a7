-- Returns to the frame below.
use Rattle.std.proofs.Common.{◌≡◌, ◌<◌, ℤ, List, [], ◌∷◌, ◌++◌, length, refl, arith}
use Rattle.typed_tree.specs.TypedTree.{TypedProgram}
use Rattle.boogie_run.specs.declared.configurations.RunFrame.{RunFrame}
use Rattle.boogie_run.specs.Configurations.{Frame, Config}
use Rattle.boogie_run.specs.Steps.{Went, left, results_left}
use Rattle.boogie_run.specs.RunView.{frame_of, frames_of, config_with}
use Rattle.boogie_run.specs.StepView.{returned}
use Rattle.boogie_run.proofs.FrameLemmas.{frames_of-append, length-frames_of}

-- the first frame has none below
none_below : (gs : List ℤ) (fs : List Frame) → length fs < 2 → (config_with gs fs).below ≡ []
none_below gs [] h = refl
none_below gs (f ∷ []) h = refl
none_below gs (f ∷ g ∷ fs) h = absurd (omega arith)

pub first_frame : (gs : List ℤ) (fs : List RunFrame) → length fs < 2 → (config_with gs (frames_of fs)).below ≡ []
first_frame gs fs h = none_below gs (frames_of fs) (rw length-frames_of h)

left_to : (t : TypedProgram) (gs : List ℤ) (fs : List Frame) (g : Frame) (d : Config) → 0 < length fs → d ≡ returned t (config_with gs fs) (results_left t g) →
    left t (config_with gs (g ∷ fs)) fs ≡ Went d
left_to t gs [] g d h e = absurd (omega arith)
left_to t gs (f ∷ fs) g d h e = rw e

-- the frame that runs returns to the one below
pub left_below : (t : TypedProgram) (gs : List ℤ) (all rest : List RunFrame) (g : RunFrame) (d : Config) → all ≡ rest ++ g ∷ [] → 0 < length rest →
    d ≡ returned t (config_with gs (frames_of rest)) (results_left t (frame_of g)) →
    left t (config_with gs (frames_of all)) (config_with gs (frames_of all)).below ≡ Went d
left_below t gs all rest g d s h e =
    let more : frames_of all ≡ frame_of g ∷ frames_of rest = rw s (frames_of-append rest g) in
    rw more (left_to t gs (frames_of rest) (frame_of g) d (rw length-frames_of h) e)
