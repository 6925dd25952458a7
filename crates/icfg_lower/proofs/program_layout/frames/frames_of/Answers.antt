use Rattle.std.proofs.Common.{◌≡◌, ◌<◌, ◌^◌, length, ap, arith}
use Rattle.icfg_lower.proofs.ProgramLayout.ListLaws.{item_fits}
use Rattle.icfg_lower.proofs.program_layout.frames.frames_of.Goals as goal

pub frame_of-requires-clause-locals : goal.frame_of-requires-clause-locals
frame_of-requires-clause-locals c =
    let e : length c.deref.result.now ≡ length c.listed-item.result.locals.items = ap length c.deref.ensures.value in
    let h : length c.listed-item.result.locals.items < 2 ^ 32 = item_fits c.args.procs.now c.loop-listed.listed-index c.listed-item.result c.loop-listed-test.true c.listed-item.is c.requires.locals in
    omega arith
