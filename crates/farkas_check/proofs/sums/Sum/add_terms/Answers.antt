use Rattle.std.proofs.Common.{rules, pos, FitsSigned, get_or, refl, ◌∙◌, ℕ, ℤ, List, subst}
use Rattle.std.specs.Int.{w128}
use Rattle.std.proofs.lemmas.Int.{to_z-of_z}
use Rattle.farkas_check.specs.Ties.Leaves.{columns_of, AddsTerms}
use Rattle.farkas_check.proofs.SumLaws.{AddsTerms_start, AddsTerms_more, AddsTerms_none}
use Rattle.std.proofs.lemmas.List.{take_all}
use Rattle.farkas_check.proofs.sums.Sum.add_terms.Goals as goal

pub loop-column-init : goal.loop-column-init
loop-column-init c =
    let f : FitsSigned w128 c.args.m = c.ranges.m in
    record {
      added = simp to_z-of_z (AddsTerms_start (columns_of c.args.self.now) c.args.m c.args.terms.now c.requires.fits);
      bound = refl;
    }

pub returns-in_default-clause-columns : goal.returns-in_default-clause-columns
returns-in_default-clause-columns c =
    let f : FitsSigned w128 c.args.m = c.ranges.m in
    let q : FitsSigned w128 (get_or c.args.terms.now c.loop-column.column-index (0, pos 0)).1 = search rules in
    let r : FitsSigned w128 c.at.result = search rules in
    let none = rw c.at.ensures.value at (simp to_z-of_z at c.in_default.ensures) in
    AddsTerms_none (columns_of c.args.self.now) (columns_of c.loop-column.self) c.args.m c.args.terms.now c.loop-column.column-index (0, pos 0) c.requires.ascends
    c.loop-column-test.true (simp to_z-of_z at c.loop-column.invariant.added) none

pub loop-column-preserved : goal.loop-column-preserved
loop-column-preserved c =
    let f : FitsSigned w128 c.args.m = c.ranges.m in
    let q : FitsSigned w128 (get_or c.args.terms.now c.loop-column.column-index (0, pos 0)).1 = search rules in
    let r : FitsSigned w128 c.at.result = search rules in
    let s : FitsSigned w128 c.in-Some.number = search rules in
    let p = rw c.at.ensures.value at (simp to_z-of_z at c.in-Some.ensures) in
    record {
      added =
          simp to_z-of_z
          (AddsTerms_more (columns_of c.args.self.now) (columns_of c.loop-column.self) (columns_of c.put.new.self) c.args.m c.args.terms.now c.loop-column.column-index (0, pos 0)
          c.in-Some.number c.requires.ascends c.loop-column-test.true (simp to_z-of_z at c.loop-column.invariant.added) p.0 p.1 (simp to_z-of_z at c.in_ok-put.ensures.columns));
      bound = c.in_ok-put.ensures.bound ∙ c.loop-column.invariant.bound;
    }

pub returns : goal.returns
returns c =
    let f : FitsSigned w128 c.args.m = c.ranges.m in
    record {
      columns = subst (λ (ts : List (ℕ × ℤ)). AddsTerms (columns_of c.args.self.now) c.args.m ts (columns_of c.loop-column.self))
          (take_all c.loop-column.column-index c.args.terms.now c.loop-column-test.false) (simp to_z-of_z at c.loop-column.invariant.added);
      bound = c.loop-column.invariant.bound;
    }
