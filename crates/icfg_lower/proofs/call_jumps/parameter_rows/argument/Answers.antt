use Rattle.std.proofs.Common.{◌≡◌, true, false, [], ◌∷◌, Err, ◌∙◌, ap, subst}
use Rattle.std.specs.Prelude.{IfOk, IsOk}
use Rattle.typed_tree.specs.TypedView.{expression}
use Rattle.cond_jumps.specs.declared.fault.JumpFault.TheVariants.{TooBig}
use Rattle.cond_jumps.specs.Comparisons.{compared, equal}
use Rattle.cond_jumps.specs.Conjs.{conjunction}
use Rattle.cond_jumps.specs.Conjunctions.{list_fits}
use Rattle.cond_jumps.specs.Environments.{Environment}
use Rattle.cond_jumps.specs.Forms.{Linears, column}
use Rattle.cond_jumps.specs.Frames.{frame_environment}
use Rattle.cond_jumps.specs.Paths.{linear}
use Rattle.icfg_lower.proofs.CallJumps.ParameterLemmas.{whole_sum}
use Rattle.icfg_lower.proofs.call_jumps.parameter_rows.argument.Goals as goal

pub returns-clause-list : goal.returns-clause-list
returns-clause-list c =
    let v : Environment = frame_environment c.args.frame.now.columns.items in
    let P : Linears → Type 0 = λ a. IfOk c.equal_to.result (λ k. conjunction k ∷ [] ≡ compared equal (column c.args.number) a c.args.base) in
    subst P (ap (linear v false) c.in_ok-value.ensures ∙ whole_sum v (expression c.args.arg.now)) c.equal_to.ensures.list

pub returns-clause-fits : goal.returns-clause-fits
returns-clause-fits c =
    let v : Environment = frame_environment c.args.frame.now.columns.items in
    let P : Linears → Type 0 = λ a. IsOk c.equal_to.result → list_fits (compared equal (column c.args.number) a c.args.base) ≡ true in
    subst P (ap (linear v false) c.in_ok-value.ensures ∙ whole_sum v (expression c.args.arg.now)) c.equal_to.ensures.fits

pub returns-clause-too_big : goal.returns-clause-too_big
returns-clause-too_big c =
    let v : Environment = frame_environment c.args.frame.now.columns.items in
    let P : Linears → Type 0 = λ a. c.equal_to.result ≡ Err TooBig → list_fits (compared equal (column c.args.number) a c.args.base) ≡ false in
    subst P (ap (linear v false) c.in_ok-value.ensures ∙ whole_sum v (expression c.args.arg.now)) c.equal_to.ensures.too_big
