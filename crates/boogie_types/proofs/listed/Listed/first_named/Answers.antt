use Rattle.std.proofs.Common.{◌∙◌, ap, sym, slice_get, Option}
use Rattle.std.specs.Borrow.{Bor}
use Rattle.std.specs.Option.{option_map}
use Rattle.boogie_tree.specs.declared.tree.Proc.{Proc}
use Rattle.boogie_tree.specs.View as view
use Rattle.boogie_types.specs.Ties.Referred.{procedures_by}
use Rattle.boogie_types.proofs.ListedLaws.{no_first, first_by, got}
use Rattle.boogie_types.proofs.listed.Listed.first_named.Goals as goal

pub returns-in_err-number : goal.returns-in_err-number
returns-in_err-number c =
    rw c.from_residual.ensures (sym (no_first c.args.name.now (procedures_by c.args.self.now.procs.items) (sym c.number.ensures ∙ c.in_err-number.was)))

pub returns : goal.returns
returns c =
    let procs = c.args.self.now.procs.items in
    let number = c.in_ok-number.number in
    let e = c.copied.ensures ∙ got c.deref.result.now number c.get.result c.get.ensures.lookup ∙ ap (λ ps. slice_get ps number) c.deref.ensures.value in
    ap (λ (o : Option (Bor Proc)). option_map (λ (p : Bor Proc). view.procedure p.now) o) e ∙ first_by c.args.name.now procs number (sym c.number.ensures ∙ c.in_ok-number.was)
