use Rattle.std.proofs.Common.{◌≡◌, take}
use Rattle.farkas_check.specs.Ties.Leaves.{columns_of, AddsTerms}
use Rattle.farkas_check.proofs.sums.Sum.add_terms.Given as goal

-- the terms so far were added
abbrev pub invariant-loop-column : goal.invariant-loop-column
invariant-loop-column l = record {
  added : AddsTerms (columns_of l.initial.self) l.m (take l.column-index l.terms) (columns_of l.self);
  bound : l.self.bound ≡ l.initial.self.bound;
}
