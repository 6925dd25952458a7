use Rattle.std.proofs.Common.{List, ℕ, ◌∷◌, [], ◌++◌, FitsSigned, ap, ◌∙◌, refl}
use Rattle.std.specs.Int.{w128}
use Rattle.std.proofs.lemmas.Int.{to_z-of_z}
use Rattle.int_decide.proofs.SearchSteps.{cut_stands, cut_paired}
use Rattle.int_decide.proofs.search.Search.cut.Goals as goal

pub returns-clause-stands : goal.returns-clause-stands
returns-clause-stands c =
    let f : FitsSigned w128 c.args.k = c.ranges.k in
    cut_stands c.args.left c.args.column c.args.k c.args.self.now (record { walk = c.open_cut.new.self; lefts = c.push-3.new.self; nodes = c.push.new.self; gap = c.args.self.now.gap })
    (simp to_z-of_z at c.in_ok-push.ensures.items) (simp to_z-of_z at c.in_ok-open_cut.ensures.cuts)
    (c.in_ok-push-3.ensures.items ∙ ap (λ (xs : List ℕ). xs ++ c.args.left ∷ []) c.in_ok-push-2.ensures.items) refl

pub returns-clause-paired : goal.returns-clause-paired
returns-clause-paired c =
    let f : FitsSigned w128 c.args.k = c.ranges.k in
    cut_paired c.args.left c.args.column c.args.k c.args.self.now (record { walk = c.open_cut.new.self; lefts = c.push-3.new.self; nodes = c.push.new.self; gap = c.args.self.now.gap })
    (simp to_z-of_z at c.in_ok-push.ensures.items) (simp to_z-of_z at c.in_ok-open_cut.ensures.cuts)
    (c.in_ok-push-3.ensures.items ∙ ap (λ (xs : List ℕ). xs ++ c.args.left ∷ []) c.in_ok-push-2.ensures.items) c.requires.paired
