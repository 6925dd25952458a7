use Rattle.std.proofs.Common.{◌∙◌, sym}
use Rattle.typed_tree.specs.TypingRules.TypedParts.{typed_program}
use Rattle.icfg_lower.proofs.PlaceOwners.{assertions_added, on_ok}
use Rattle.icfg_lower.proofs.building.add_sites.Goals as goal

pub returns : goal.returns
returns c =
    on_ok c.add_owner.result
    (assertions_added (typed_program c.args.layout.now) c.args.proc c.in-Some.marks c.args.owners.now.items c.add_owner.new.owners.items (sym c.marks.ensures ∙ c.in-Some.is)) c.add_owner.ensures
