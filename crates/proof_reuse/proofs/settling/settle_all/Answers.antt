use Rattle.std.proofs.Common.{◌≡◌, ◌∙◌, List, length, sym, ap}
use Rattle.std.proofs.lemmas.List.{length-map}
use Rattle.letter_acts.specs.declared.acts.Act.{Act}
use Rattle.letter_acts.specs.Acts.{PlainAct, plain_act, plain_acts}
use Rattle.proof_reuse.proofs.settling.settle_all.Goals as goal

act_count : (acts : List Act) (plain : List PlainAct) → plain_acts acts ≡ plain → length acts ≡ length plain
act_count acts plain e = sym (length-map acts plain_act) ∙ ap length e

pub settle_letters-requires-clause-count : goal.settle_letters-requires-clause-count
settle_letters-requires-clause-count g c κs within = c.in-Ok.ensures.1 ∙ act_count c.acts.result.now c.args.icfg.now.acts c.acts.ensures.value
