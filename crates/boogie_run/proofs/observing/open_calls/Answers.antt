use Rattle.std.proofs.Common.{◌≡◌, ◌-◌, ℤ, List, [], ◌∷◌, length, arith}
use Rattle.boogie_run.specs.Configurations.{Frame}
use Rattle.boogie_run.specs.RunView.{frames_of, config_with}
use Rattle.boogie_run.proofs.FrameLemmas.{length-frames_of}
use Rattle.boogie_run.proofs.observing.open_calls.Goals as goal

counted_below : (gs : List ℤ) (fs : List Frame) → length (config_with gs fs).below ≡ length fs - 1
counted_below gs [] = omega arith
counted_below gs (f ∷ fs) = omega arith

pub returns : goal.returns
returns c =
    let old = c.args.config.now in
    omega (arith, c.len.ensures, counted_below old.globals.items (frames_of old.frames.items), length-frames_of old.frames.items)
