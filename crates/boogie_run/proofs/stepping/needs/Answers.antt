use Rattle.std.proofs.Common.{◌≡◌, ◌<◌, ◌≤◌, ℕ, List, length, slice_get, ap, sym, ◌∙◌, arith}
use Rattle.boogie_tree.specs.declared.tree.VarInfo.{VarInfo}
use Rattle.typed_tree.specs.TypingRules.TypedParts.{TypedParts, typed_program}
use Rattle.boogie_run.specs.BoogiePoints.Actions.{action_at}
use Rattle.boogie_run.specs.BoogiePoints.Told.{Told, told}
use Rattle.boogie_run.specs.Configurations.{Frame}
use Rattle.boogie_run.specs.Needs.{need_of, locals_at}
use Rattle.boogie_run.specs.ToldActs.{told_need}
use Rattle.boogie_run.specs.RunView.{frames_of, config_of}
use Rattle.boogie_run.proofs.FrameLemmas.{globals_are}
use Rattle.boogie_run.proofs.NextLemmas.{need_local, need_action}
use Rattle.boogie_run.proofs.stepping.needs.Goals as goal

pub returns-then-chosen-locals : goal.returns-then-chosen-locals
returns-then-chosen-locals c =
    let old = c.args.config.now in
    let t = typed_program c.args.program.now in
    let d = config_of old in
    let here = c.top-frame.ensures in
    let global = globals_are old.globals.items (frames_of old.frames.items) in
    let g : length t.globals ≤ length d.globals = omega (arith, ap length global, ap length c.globals-globals.ensures.value) in
    let l : length d.top.locals < length (locals_at t d.top.proc) =
    omega (arith, ap length c.locals_at-locals.ensures, ap (λ (f : Frame). length f.locals) here, ap (λ (f : Frame). length (locals_at t f.proc)) here) in
    let count : c.len-chosen-2.result ≡ length d.top.locals = omega (arith, ap (λ (f : Frame). length f.locals) here) in
    let locals = c.locals_at-locals.ensures ∙ ap (λ (f : Frame). locals_at t f.proc) here in
    c.need_at-then-chosen-locals.ensures ∙ ap (λ (n : ℕ). need_of (slice_get c.locals_at-locals.result.now n)) count
    ∙ ap (λ (vs : List VarInfo). need_of (slice_get vs (length d.top.locals))) locals ∙ sym (need_local t d g l)

pub returns : goal.returns
returns c =
    let old = c.args.config.now in
    let t = typed_program c.args.program.now in
    let d = config_of old in
    let here = c.top-frame.ensures in
    let global = globals_are old.globals.items (frames_of old.frames.items) in
    let g : length t.globals ≤ length d.globals = omega (arith, ap length global, ap length c.globals-globals.ensures.value) in
    let l : length (locals_at t d.top.proc) ≤ length d.top.locals =
    omega (arith, ap length c.locals_at-locals.ensures, ap (λ (f : Frame). length f.locals) here, ap (λ (f : Frame). length (locals_at t f.proc)) here) in
    let told_here = c.action_here.ensures ∙ ap (λ (p : TypedParts). told (action_at (typed_program p) d.top.proc d.top.point)) c.requires.fits.program in
    c.need_of_action.ensures ∙ ap (λ (a : Told). told_need t c.top-frame.result.now.proc a) told_here
    ∙ ap (λ (f : Frame). told_need t f.proc (told (action_at t d.top.proc d.top.point))) here ∙ sym (need_action t d g l)
