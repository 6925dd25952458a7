use Rattle.std.proofs.Common.{◌≡◌, ◌∙◌, ap}
use Rattle.typed_tree.specs.TypingRules.TypedParts.{typed_program}
use Rattle.icfg_lower.specs.PlaceEdges.WalkedParts.{walked}
use Rattle.icfg_lower.proofs.ProgramWalk.LoopSteps.{on_ok}
use Rattle.icfg_lower.proofs.ProgramWalk.WholeSteps.{whole_program}
use Rattle.icfg_lower.proofs.program_walk.programs.whole.Goals as goal

pub returns : goal.returns
returns c =
    let entry = c.kept.ensures.entry in
    let blank : typed_program c.args.lowering.now.parts ≡ typed_program c.args.layout.now = ap typed_program c.requires in
    let begun : typed_program c.begin.new.lowering.parts ≡ typed_program c.args.layout.now = c.in_ok-begin.ensures.program ∙ blank in
    let started : typed_program c.start_conditions.new.lowering.parts ≡ typed_program c.args.layout.now = c.in_ok-start_conditions.ensures.program ∙ begun in
    on_ok _ _ c.procedures.result
    (λ added nothing. whole_program (typed_program c.args.layout.now) (typed_program c.args.lowering.now.parts) (typed_program c.begin.new.lowering.parts) (typed_program c.start_conditions.new.lowering.parts)
    entry.0 entry.1 (walked c.args.lowering.now) (walked c.begin.new.lowering) (walked c.start_conditions.new.lowering) (walked c.procedures.new.lowering) entry.2 entry.3 blank begun started nothing
    c.in_ok-begin.ensures.begins c.in_ok-start_conditions.ensures.starts added)
    c.procedures.ensures.added
