use Rattle.std.proofs.Common.{◌≡◌, ◌∙◌, ℕ, List, [], length, ap, sym, subst, refl, arith, rules}
use Rattle.std.specs.List.{AllByRecursion}
use Rattle.itp_automaton.specs.Certified.{Certificate}
use Rattle.version_cell.specs.Passes.{Known, lessened_pass}
use Rattle.race_workers.specs.Ties.Parts.{IsFresh}
use Rattle.race_workers.proofs.Lists.{all_more, popped_length}
use Rattle.race_workers.proofs.Parts.{fresh_part}
use Rattle.race_workers.proofs.splitting.split_all.Goals as goal

pub parts-init : goal.parts-init
parts-init c =
    let s = c.requires.1 in
    let e : c.new-parts.result.items ≡ [] = search rules in
    let n = ap length e in (
      omega (arith, n),
      subst (λ (k : List (Known Certificate)). AllByRecursion (IsFresh c.args.cell.now 1) k) (sym e) tt,
      c.requires.0,
      refl,
      omega (arith, s, n),
    )

pub split-part-requires-clause-cell : goal.split-part-requires-clause-cell
split-part-requires-clause-cell c κs = c.parts.invariant.2

pub parts-preserved : goal.parts-preserved
parts-preserved c =
    let e = c.in_ok-push.ensures.items in
    let n = popped_length c.push.new.self.items c.parts.parts.items c.split-part.result e in
    let given = c.split-part.ensures.given in
    let s = ap (λ (k : Known Certificate). k.shares) given in
    let i = c.parts.invariant.4 in
    let same = given ∙ ap lessened_pass c.parts.invariant.3 in (
      omega (arith, n),
      subst (λ (k : List (Known Certificate)). AllByRecursion (IsFresh c.args.cell.now 1) k) (sym e)
          (all_more (IsFresh c.args.cell.now 1) c.parts.parts.items c.split-part.result c.parts.invariant.1
          (fresh_part c.args.cell.now c.parts.pass c.split-part.result c.split-part.ensures.part c.split-part.ensures.of_cell.1)),
      c.split-part.ensures.of_cell.0,
      same ∙ ap (λ (m : ℕ). record c.args.pass.now { shares = m }) (sym s),
      omega (arith, n, s, i),
    )

pub returns-clause-pass : goal.returns-clause-pass
returns-clause-pass c =
    let i = c.parts.invariant.4 in
    c.parts.invariant.3 ∙ ap (λ (m : ℕ). record c.args.pass.now { shares = m }) (omega (arith, i))

pub returns-clause-of_cell : goal.returns-clause-of_cell
returns-clause-of_cell c = c.parts.invariant.2

pub returns-clause-parts : goal.returns-clause-parts
returns-clause-parts c = (omega arith, c.parts.invariant.1)
