use Rattle.std.proofs.Common.{FitsSigned}
use Rattle.std.specs.Int.{w128}
use Rattle.std.proofs.lemmas.Int.{to_z-of_z}
use Rattle.fm_elim.proofs.ValueLemmas.{gives_whole, whole_past}
use Rattle.fm_elim.proofs.fractions.whole.Goals as goal

pub returns-in_err-value : goal.returns-in_err-value
returns-in_err-value c =
    let f : FitsSigned w128 c.args.z = c.ranges.z in
    absurd (whole_past c.args.z c.requires (simp to_z-of_z at c.in_err-value.ensures.past))

pub returns : goal.returns
returns c =
    let f : FitsSigned w128 c.args.z = c.ranges.z in
    (tt, gives_whole c.args.z c.in_ok-value.value c.requires c.in_ok-value.ensures.valid (simp to_z-of_z at c.in_ok-value.ensures.value))
