use Rattle.std.proofs.Common.{◌≡◌, ◌∙◌, negsuc, sym, arith}
use Rattle.std.proofs.lemmas.Int.{ints}
use Rattle.hoare_check.proofs.FalseRowLaws.{is_never}
use Rattle.hoare_check.proofs.false_rows.is_false.Goals as goal

pub returns-in-Le : goal.returns-in-Le
returns-in-Le c =
    let bound : c.args.row.now.bound ≡ negsuc 0 = omega (arith, ints) in
    λ yes. is_never c.args.row.now c.terms.result.now (sym c.is_empty.ensures ∙ c.if-not-is_empty.false) c.terms.ensures.value (sym c.kind.ensures ∙ c.in-Le.is) bound
