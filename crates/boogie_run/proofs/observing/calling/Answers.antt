use Rattle.std.proofs.Common.{◌≡◌, ◌∙◌, ◌+◌, ◌-◌, ℕ, zero, suc, ℤ, List, [], ◌∷◌, ◌++◌, take, length, slice_index_or, ap, sym, arith}
use Rattle.boogie_run.specs.declared.configurations.RunFrame.{RunFrame}
use Rattle.boogie_run.specs.Configurations.{Frame}
use Rattle.boogie_run.specs.RunView.{frame_of, frames_of, config_with}
use Rattle.boogie_run.proofs.FrameLemmas.{frames_of-append}
use Rattle.boogie_run.proofs.Leaving.{first_frame}
use Rattle.boogie_run.proofs.observing.calling.Goals as goal

-- the last member but one, and those before it
last_but_one : (fs : List RunFrame) (n : ℕ) (f : RunFrame) → length fs ≡ n + 2 → f ≡ slice_index_or fs n f → (g : RunFrame) × (fs ≡ (take n fs ++ f ∷ []) ++ g ∷ [])
last_but_one [] n f h e = absurd (omega arith)
last_but_one (x ∷ []) n f h e = absurd (omega arith)
last_but_one (x ∷ y ∷ []) zero f h e = (y, ap (λ (z : RunFrame). z ∷ (y ∷ [])) (sym e))
last_but_one (x ∷ y ∷ z ∷ zs) zero f h e = absurd (omega arith)
last_but_one (x ∷ y ∷ ys) (suc n) f h e =
    let more = last_but_one (y ∷ ys) n f (omega arith) e in
    (more.0, ap (λ (zs : List RunFrame). x ∷ zs) more.1)

below_is : (gs : List ℤ) (fs : List RunFrame) (n : ℕ) (f : RunFrame) → length fs ≡ n + 2 → f ≡ slice_index_or fs n f →
    (rest : List Frame) × ((config_with gs (frames_of fs)).below ≡ frame_of f ∷ rest)
below_is gs fs n f h e =
    let found = last_but_one fs n f h e in
    let all : frames_of fs ≡ frame_of found.0 ∷ (frame_of f ∷ frames_of (take n fs)) =
    ap frames_of found.1 ∙ frames_of-append (take n fs ++ f ∷ []) found.0 ∙ ap (λ (rest : List Frame). frame_of found.0 ∷ rest) (frames_of-append (take n fs) f) in
    (frames_of (take n fs), ap (λ (all : List Frame). (config_with gs all).below) all)

pub returns-then-count-lt2 : goal.returns-then-count-lt2
returns-then-count-lt2 c = first_frame c.args.config.now.globals.items c.args.config.now.frames.items (omega (arith, c.len-count.ensures))

pub returns : goal.returns
returns c =
    below_is c.args.config.now.globals.items c.args.config.now.frames.items (c.len-count.result - 2) c.index.result.now (omega (arith, c.len-count.ensures)) c.index.ensures
