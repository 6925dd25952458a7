use Rattle.std.proofs.Common.{◌≡◌, [], refl, sym, ap, ◌∙◌, arith}
use Rattle.std.proofs.lemmas.Bool.{eqb-true}
use Rattle.rank_lasso.specs.LassoText.{letters_text, AreShort}
use Rattle.rank_lasso.specs.Lines.{loop_kind}
use Rattle.rank_lasso.proofs.LineLaws.{no_line, other_content, unread, read_as, no_letters, no_members}
use Rattle.rank_lasso.proofs.lines.loop_line.Goals as goal

pub returns-in_default-clause-fault : goal.returns-in_default-clause-fault
returns-in_default-clause-fault c = (refl, no_line loop_kind c.args.text.now c.in_default.ensures)

pub returns-in_default-2-clause-fault : goal.returns-in_default-2-clause-fault
returns-in_default-2-clause-fault c = (
  refl,
  other_content loop_kind c.args.text.now c.in-Some.content.now c.in-Some.rest.now c.in-Some.ensures.0 c.in-Some.ensures.1
      (λ h. unread (λ v. v.items) AreShort letters_text c.in-Some.content.now c.in_ok-letters.field-0 c.in_default-2.is c.in_ok-letters.ensures (h.0, h.1.0, h.2)),
)

pub returns-then-is_empty-clause-fault : goal.returns-then-is_empty-clause-fault
returns-then-is_empty-clause-fault c =
    let v = c.in-Some-2.letters in
    let zero = eqb-true v.len 0 (sym c.if-is_empty.ensures) in
    let none : v.items ≡ [] = no_members v.items (omega (arith, zero, v.ok.0)) in
    let read = read_as (λ v. v.items) AreShort letters_text c.in-Some.content.now c.in_ok-letters.field-0 v c.in-Some-2.is c.in_ok-letters.ensures in (
      refl,
      other_content loop_kind c.args.text.now c.in-Some.content.now c.in-Some.rest.now c.in-Some.ensures.0 c.in-Some.ensures.1
          (no_letters c.in-Some.content.now (read.1 ∙ ap letters_text none)),
    )
