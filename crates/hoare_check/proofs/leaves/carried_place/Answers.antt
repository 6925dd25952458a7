use Rattle.std.proofs.Common.{◌≡◌, ◌∙◌, ◌+◌, ◌-◌, ◌<◌, ◌≤◌, length, arith}
use Rattle.lin_rows.specs.Combinations.{row_at}
use Rattle.hoare_check.proofs.FalseRowLaws.{row_at_is}
use Rattle.hoare_check.proofs.LeafLaws.{fits_at, carried_front, carried_behind}
use Rattle.hoare_check.proofs.leaves.carried_place.Goals as goal

pub returns-then-next-place : goal.returns-then-next-place
returns-then-next-place c =
    let low : c.args.next ≤ c.args.place = omega arith in
    let within : c.args.place < c.args.count = omega arith in
    fits_at c.try_from.result c.args.place c.ok.result _ c.ok.ensures.value c.try_from.ensures (low, carried_front c.args.count c.args.from.now c.args.to.now c.args.place within)

pub returns : goal.returns
returns c =
    let likely = c.args.place - c.args.count in
    let found = c.in_ok-found.found in
    let sum = c.in_ok-checked_add.field-0 in
    let is : sum ≡ c.args.count + found = omega (arith, c.in_ok-checked_add.ensures) in
    let low : c.args.next ≤ sum = (let l = c.in_ok-found.ensures.0 in omega (arith, l, c.saturating_sub.ensures, is)) in
    let at : c.args.place ≡ c.args.count + likely = omega arith in
    let within : likely < length c.args.from.now = omega arith in
    let here : row_at c.args.from.now likely ≡ c.index-from-likely.result = row_at_is c.args.from.now likely c.index-from-likely.result within c.index-from-likely.is in
    fits_at c.try_from-2.result sum c.ok-2.result _ c.ok-2.ensures.value c.try_from-2.ensures
    (low, carried_behind c.args.count c.args.from.now c.args.to.now c.args.place likely found sum at is c.in_ok-found.ensures.1 (here ∙ c.in_ok-found.ensures.2))
