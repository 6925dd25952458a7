use Rattle.std.proofs.Common.{◌≡◌, ◌<◌, ◌≤◌, true, length, ap, subst, refl, arith, rules, FitsSigned, to_z-of_z}
use Rattle.std.specs.Int.{w128}
use Rattle.typed_tree.specs.TypingRules.TypedParts.{typed_program}
use Rattle.boogie_run.specs.Configurations.{Frame}
use Rattle.boogie_run.specs.Needs.{Need, locals_at}
use Rattle.boogie_run.specs.RunView.{frames_of, config_of}
use Rattle.boogie_run.specs.StepView.{is_way}
use Rattle.boogie_run.specs.Steps.{with_global, with_local}
use Rattle.boogie_run.proofs.FrameLemmas.{globals_are}
use Rattle.boogie_run.proofs.NextLemmas.{next_global, fits_global, next_local, fits_local, need_action, steps_by_action}
use Rattle.boogie_run.proofs.stepping.next.Goals as goal

pub returns-clause-answer : goal.returns-clause-answer
returns-clause-answer c =
    let old = c.args.config.now in
    let t = typed_program old.program.now in
    let d = config_of old in
    let here = c.top-frame.ensures in
    let global = globals_are old.globals.items (frames_of old.frames.items) in
    let g : length t.globals ≤ length d.globals = omega (arith, ap length global, ap length c.globals.ensures.value) in
    let l : length (locals_at t d.top.proc) ≤ length d.top.locals =
    omega (arith, ap length c.locals_at.ensures, ap (λ (f : Frame). length f.locals) here, ap (λ (f : Frame). length (locals_at t f.proc)) here) in
    let f : FitsSigned w128 c.args.chosen = search rules in
    steps_by_action t d (config_of c.act.new.config) c.args.chosen c.act.result g l (simp to_z-of_z at c.act.ensures.answer)

pub returns-then-len-globals-clause-answer : goal.returns-then-len-globals-clause-answer
returns-then-len-globals-clause-answer c =
    let old = c.args.config.now in
    let t = typed_program old.program.now in
    let d = config_of old in
    let global = globals_are old.globals.items (frames_of old.frames.items) in
    let h : length d.globals < length t.globals = omega (arith, ap length global, ap length c.globals.ensures.value) in
    let f : FitsSigned w128 c.args.chosen = search rules in
    let e : config_of c.choose_global.new.config ≡ with_global d c.args.chosen = (simp to_z-of_z at c.in_ok-choose_global.ensures.value) refl in
    (fits_global t d h, rw (next_global t d c.args.chosen h) e)

pub returns-then-len-locals_at-clause-answer : goal.returns-then-len-locals_at-clause-answer
returns-then-len-locals_at-clause-answer c =
    let old = c.args.config.now in
    let t = typed_program old.program.now in
    let d = config_of old in
    let here = c.top-frame.ensures in
    let global = globals_are old.globals.items (frames_of old.frames.items) in
    let g : length t.globals ≤ length d.globals = omega (arith, ap length global, ap length c.globals.ensures.value) in
    let l : length d.top.locals < length (locals_at t d.top.proc) =
    omega (arith, ap length c.locals_at.ensures, ap (λ (f : Frame). length f.locals) here, ap (λ (f : Frame). length (locals_at t f.proc)) here) in
    let f : FitsSigned w128 c.args.chosen = search rules in
    let e : config_of c.choose_local.new.config ≡ with_local d c.args.chosen = (simp to_z-of_z at c.in_ok-choose_local.ensures.value) refl in
    (fits_local t d g l, rw (next_local t d c.args.chosen g l) e)

pub act-requires-clause-way : goal.act-requires-clause-way
act-requires-clause-way c =
    let old = c.args.config.now in
    let t = typed_program old.program.now in
    let d = config_of old in
    let here = c.top-frame.ensures in
    let global = globals_are old.globals.items (frames_of old.frames.items) in
    let g : length t.globals ≤ length d.globals = omega (arith, ap length global, ap length c.globals.ensures.value) in
    let l : length (locals_at t d.top.proc) ≤ length d.top.locals =
    omega (arith, ap length c.locals_at.ensures, ap (λ (f : Frame). length f.locals) here, ap (λ (f : Frame). length (locals_at t f.proc)) here) in
    let f : FitsSigned w128 c.args.chosen = search rules in
    simp to_z-of_z (subst (λ (n : Need). is_way n c.args.chosen ≡ true) (need_action t d g l) c.requires.way)
