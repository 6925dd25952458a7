use Rattle.std.proofs.Common.{◌∙◌, ◌<◌, ℕ, List, length, sym, ap, subst}
use Rattle.std.specs.Prelude.{map, slice_index, OnOk}
use Rattle.std.specs.List.{AllByRecursion}
use Rattle.lin_rows.specs.Rows.{LinearRow}
use Rattle.triple_rows.specs.Systems.{PlainFits, only_rows}
use Rattle.letter_acts.specs.FrameRows.Rows.{equal_row}
use Rattle.triple_rows.specs.Ties.Drafts.{Adds}
use Rattle.triple_rows.proofs.ListLaws.{all_mapped}
use Rattle.triple_rows.proofs.PieceLaws.{doubled_ties}
use Rattle.triple_rows.proofs.ties.add_ties.Goals as goal

pub add_pairs-requires : goal.add_pairs-requires
add_pairs-requires c =
    let n = length c.args.left.now in
    let k = length c.args.right.now in
    subst (AllByRecursion (λ (p : ℕ × ℕ). (p.0 < n) × (p.1 < k))) (sym (c.deref.ensures.value ∙ c.in_ok-doubled.ensures))
    ((all_mapped (λ (p : ℕ × ℕ). (p.0 < n) × (p.1 < k)) (λ (c : ℕ). (c, c)) c.args.columns.now).1 c.requires)

pub returns-clause-adds : goal.returns-clause-adds
returns-clause-adds c =
    let ties : List (ℕ × ℕ) → List LinearRow = λ ps. map (λ p. equal_row (slice_index c.args.left.now p.0) (slice_index c.args.right.now p.1)) ps in
    subst (λ (rows : List LinearRow). OnOk c.add_pairs.result (Adds (only_rows rows) c.args.draft.now c.add_pairs.new.draft))
    (ap ties (c.deref.ensures.value ∙ c.in_ok-doubled.ensures) ∙ doubled_ties c.args.left.now c.args.right.now c.args.columns.now) c.add_pairs.ensures.adds

pub returns-clause-fits : goal.returns-clause-fits
returns-clause-fits c =
    let ties : List (ℕ × ℕ) → List LinearRow = λ ps. map (λ p. equal_row (slice_index c.args.left.now p.0) (slice_index c.args.right.now p.1)) ps in
    subst (λ (rows : List LinearRow). OnOk c.add_pairs.result (PlainFits (only_rows rows)))
    (ap ties (c.deref.ensures.value ∙ c.in_ok-doubled.ensures) ∙ doubled_ties c.args.left.now c.args.right.now c.args.columns.now) c.add_pairs.ensures.fits
