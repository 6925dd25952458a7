use Rattle.std.proofs.Common.{◌≡◌, ◌<◌, ◌≤◌, ◌∙◌, ℕ, length, ap, sym, arith}
use Rattle.typed_tree.specs.TypingRules.TypedParts.{typed_program}
use Rattle.boogie_run.specs.BoogiePoints.Sites.{span_at}
use Rattle.boogie_run.specs.Configurations.{Frame}
use Rattle.boogie_run.specs.Needs.{locals_at}
use Rattle.boogie_run.specs.RunView.{config_of}
use Rattle.explain_top.specs.RunStory.Seen.{item_of}
use Rattle.explain_top.proofs.RunStory.ChoosingLemmas.{local_here, return_here}
use Rattle.explain_top.proofs.run_story.sites.site.Goals as goal

pub returns-then-chosen-locals_at : goal.returns-then-chosen-locals_at
returns-then-chosen-locals_at c = λ ds is.
    let t = typed_program c.args.program.now in
    let d = config_of c.args.config.now in
    let here = c.running-frame.ensures in
    let g : length t.globals ≤ length d.globals = omega (arith, ap length c.globals-chosen.ensures, ap length c.globals.ensures.value, c.if-chosen-globals.false) in
    let count : length c.locals-chosen.result.now ≡ length d.top.locals = ap length c.locals-chosen.ensures ∙ ap (λ (f : Frame). length f.locals) here in
    let all : length c.locals_at.result.now ≡ length (locals_at t d.top.proc) =
    ap length c.locals_at.ensures ∙ ap (λ (n : ℕ). length (locals_at t n)) (c.proc-2.ensures ∙ ap (λ (f : Frame). f.proc) here) in
    let l : length d.top.locals < length (locals_at t d.top.proc) = omega (arith, count, all, c.if-chosen-locals_at.true) in
    local_here t ds d (length c.locals-chosen.result.now) c.proc.result _ (item_of c.local_site.result) g l c.local_site.ensures (c.heading_at-heading.ensures ds is)
    (c.proc.ensures ∙ ap (λ (f : Frame). f.proc) here) count

pub returns-in-None : goal.returns-in-None
returns-in-None c = λ ds is.
    let t = typed_program c.args.program.now in
    let d = config_of c.args.config.now in
    let here = c.running-frame.ensures in
    let g : length t.globals ≤ length d.globals = omega (arith, ap length c.globals-chosen.ensures, ap length c.globals.ensures.value, c.if-chosen-globals.false) in
    let count : length c.locals-chosen.result.now ≡ length d.top.locals = ap length c.locals-chosen.ensures ∙ ap (λ (f : Frame). length f.locals) here in
    let all : length c.locals_at.result.now ≡ length (locals_at t d.top.proc) =
    ap length c.locals_at.ensures ∙ ap (λ (n : ℕ). length (locals_at t n)) (c.proc-2.ensures ∙ ap (λ (f : Frame). f.proc) here) in
    let l : length (locals_at t d.top.proc) ≤ length d.top.locals = omega (arith, count, all, c.if-chosen-locals_at.false) in
    let there = c.proc-3.ensures ∙ ap (λ (f : Frame). f.proc) here in
    let stands = c.point.ensures ∙ ap (λ (f : Frame). f.point) here in
    return_here t ds d c.proc.result _ (item_of c.return_site.result) g l c.return_site.ensures (c.heading_at-heading.ensures ds is) (c.proc.ensures ∙ ap (λ (f : Frame). f.proc) here)
    (sym (sym c.in-None.is ∙ c.span_at.ensures ∙ (λ i. span_at t (there i) (stands i))))
