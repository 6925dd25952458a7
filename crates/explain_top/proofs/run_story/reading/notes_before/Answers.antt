use Rattle.std.proofs.Common.{◌≡◌, ◌≤◌, ◌∙◌, ℕ, List, length, ap, sym, arith, subst, FitsSigned}
use Rattle.std.specs.Int.{w128}
use Rattle.std.proofs.lemmas.Int.{to_z-of_z}
use Rattle.std.proofs.lemmas.Result.{on_ok_weaker}
use Rattle.typed_tree.specs.TypingRules.TypedParts.{typed_program}
use Rattle.boogie_run.specs.Configurations.{Frame}
use Rattle.boogie_run.specs.Needs.{locals_at}
use Rattle.boogie_run.specs.RunView.{config_of}
use Rattle.explain_top.specs.RunStory.Lines.{Adds}
use Rattle.explain_top.specs.RunStory.Seen.{item_of}
use Rattle.explain_top.proofs.RunStory.ChoosingLemmas.{notes_action, action_fits}
use Rattle.explain_top.proofs.run_story.reading.notes_before.Goals as goal

pub returns : goal.returns
returns c =
    let t = typed_program c.args.program.now in
    let d = config_of c.args.config.now in
    let f : FitsSigned w128 c.args.chosen = c.ranges.chosen in
    let here = c.running-frame.ensures in
    let g : length t.globals ≤ length d.globals = omega (arith, ap length c.globals-globals.ensures, ap length c.globals.ensures.value, c.if-globals.false) in
    let count : length c.locals-locals.result.now ≡ length d.top.locals = ap length c.locals-locals.ensures ∙ ap (λ (f : Frame). length f.locals) here in
    let all : length c.locals_at.result.now ≡ length (locals_at t d.top.proc) =
    ap length c.locals_at.ensures ∙ ap (λ (n : ℕ). length (locals_at t n)) (c.proc.ensures ∙ ap (λ (f : Frame). f.proc) here) in
    let l : length (locals_at t d.top.proc) ≤ length d.top.locals = omega (arith, count, all, c.if-locals-locals_at.false) in
    on_ok_weaker c.read_by.result
    (λ h ds is fits. subst (λ (ns : List (List ℕ)). Adds c.args.line.now ns c.read_by.new.line) (sym (notes_action t ds (item_of c.args.source) d c.args.chosen g l)) (h ds is (action_fits t d g l fits)))
    (simp to_z-of_z at c.read_by.ensures)
