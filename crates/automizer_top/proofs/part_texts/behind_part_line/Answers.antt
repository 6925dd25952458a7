use Rattle.std.proofs.Common.{◌≡◌, ◌∙◌, List, ℕ, None, Some, sym, subst}
use Rattle.automizer_top.specs.PartTexts.{text_behind}
use Rattle.automizer_top.proofs.PartLines.{no_name_behind, name_behind}
use Rattle.automizer_top.proofs.part_texts.behind_part_line.Goals as goal

pub returns-in_err-rest-2 : goal.returns-in_err-rest-2
returns-in_err-rest-2 c =
    rw c.from_residual-in_err-rest-2.ensures
    (sym (no_name_behind c.args.name.now c.args.text.now c.in_ok-rest.rest.now (sym c.in_ok-rest.ensures)
    (subst (λ (x : List ℕ). text_behind x c.in_ok-rest.rest.now ≡ None) c.bytes.ensures (sym c.in_err-rest-2.ensures))))

pub returns : goal.returns
returns c =
    c.behind-3.ensures
    ∙ sym (name_behind c.args.name.now c.args.text.now c.in_ok-rest.rest.now c.in_ok-rest-2.rest.now (sym c.in_ok-rest.ensures)
    (subst (λ (x : List ℕ). text_behind x c.in_ok-rest.rest.now ≡ Some c.in_ok-rest-2.rest.now) c.bytes.ensures (sym c.in_ok-rest-2.ensures)))
