-- At which columns the trees cut that are put down for triples.
use Rattle.std.specs.Prelude.{◌+◌, ◌<◌, List}
use Rattle.std.specs.List.{AllByRecursion}
use Rattle.farkas_check.specs.Trees.{Tree, prefix_of}
use Rattle.nwa_base.specs.declared.letters.Letter.{Letter}
use Rattle.letter_acts.specs.Invariant.{Graph, alphabet_of}
use Rattle.triple_rows.specs.Cuts.{columns_of, IsCutWithin}
use Rattle.nested_itp.specs.NestedRefutations.Numbers.{Step}
use Rattle.nested_itp.specs.NestedRefutations.Walked.{IsPutDown}

-- a tree that is put down for the step's triple cuts at columns of the triple's system
abbrev pub WalkedCuts : Graph → List Letter → Tree → Step → Type 0
WalkedCuts g w t s = (found : Tree) → IsPutDown g w t s found → AllByRecursion (IsCutWithin (columns_of (alphabet_of g) s.triple)) (prefix_of found)
