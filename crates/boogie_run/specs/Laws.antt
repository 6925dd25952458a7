-- What holds in runs of valid programs.
use Rattle.std.specs.Prelude.{◌≡◌, ℕ, ℤ, List, Option, true, IsTrue, Some, slice_get}
use Rattle.std.specs.List.{AllByRecursion}
use Rattle.boogie_tree.specs.declared.tree.Ty.TheVariants as types
use Rattle.boogie_tree.specs.declared.tree.VarInfo.{VarInfo}
use Rattle.typed_tree.specs.TypedTree.{TypedProgram}
use Rattle.typed_tree.specs.Values.{member}
use Rattle.typed_tree.specs.Laws.{IsTruth}
use Rattle.typed_tree.specs.TypingRules.ValidProgram.{is_valid}
use Rattle.boogie_run.specs.Configurations.{Frame, Config}
use Rattle.boogie_run.specs.Needs.{locals_at}
use Rattle.boogie_run.specs.Steps.{Went, start}
use Rattle.boogie_run.specs.Runs.{run}

-- each constant has the same value in both lists
abbrev pub SameConstants : TypedProgram → List ℤ → List ℤ → Type 0
SameConstants t xs ys = (n : ℕ) (v : VarInfo) → slice_get t.globals n ≡ Some v → v.constant ≡ true → member xs n ≡ member ys n

-- In a run of a valid program the constants at the entry of each frame are the constants now.
abbrev pub ConstantsStay : Type 0
ConstantsStay = (t : TypedProgram) (choices : List (Option ℤ)) (c : Config) → IsTrue (is_valid t) → run t (start t) choices ≡ Went c →
    SameConstants t c.globals c.top.entry × AllByRecursion (λ (f : Frame). SameConstants t c.globals f.entry) c.below

-- each of these variables that is boolean holds 0 or 1
abbrev pub TruthsHold : List VarInfo → List ℤ → Type 0
TruthsHold vs zs = (n : ℕ) (v : VarInfo) → slice_get vs n ≡ Some v → v.ty ≡ types.Bool → IsTruth (member zs n)

abbrev pub FrameHolds : TypedProgram → Frame → Type 0
FrameHolds t f = TruthsHold t.globals f.entry × TruthsHold (locals_at t f.proc) f.locals

-- In a run of a valid program boolean variables hold 0 or 1: the globals now and at the entry of each frame, and the locals of each frame.
abbrev pub TruthsStay : Type 0
TruthsStay = (t : TypedProgram) (choices : List (Option ℤ)) (c : Config) → IsTrue (is_valid t) → run t (start t) choices ≡ Went c →
    TruthsHold t.globals c.globals × FrameHolds t c.top × AllByRecursion (FrameHolds t) c.below
