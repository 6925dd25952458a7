-- A list, or why it was not made, as the functions that make lists answer.
use Rattle.std.specs.Prelude.{◌≡◌, ℕ, ◌+◌, true, false, List, [], ◌∷◌, length, Result, MatchResult, Vec}
use Rattle.std.specs.Global.{Global}
use Rattle.cond_jumps.specs.declared.fault.JumpFault.{JumpFault}
use Rattle.cond_jumps.specs.declared.fault.JumpFault.TheVariants.{TooWide, TooBig, Memory}
use Rattle.boogie_tree.specs.declared.tree.VarInfo.{VarInfo}
use Rattle.typed_tree.specs.TypedTree.{TypedExpression, TypedProcedure}
use Rattle.letter_acts.specs.Frames.{Columns}
use Rattle.cond_jumps.specs.Conjunctions.{is_wide, all_fit}
use Rattle.cond_jumps.specs.declared.free_products.letters.MarkedConj.{MarkedConj}
use Rattle.cond_jumps.specs.FreeProducts.Letters.{MarkedConjunction}
use Rattle.cond_jumps.specs.FreeProducts.LetterView.{marked, all_marked}
use Rattle.lowered_graph.specs.LoweredSteps.Edges.{import_letters, import_plan, import_products, import_written, those_in}
use Rattle.icfg_lower.specs.declared.call_jumps.imports.Import.{Import}
use Rattle.lowered_graph.specs.Items.{Needed}
use Rattle.icfg_lower.specs.declared.place_edges.faults.Trouble.{Trouble}

-- the trouble of a refusal
abbrev pub IsTold : JumpFault → Trouble → Type 0
IsTold TooWide x = (x.wide ≡ true) × (x.big ≡ false)
IsTold TooBig x = (x.wide ≡ false) × (x.big ≡ true)
IsTold Memory x = ⊥

-- nothing is wrong with the list
abbrev pub IsMade : Needed → Type 0
IsMade k = (is_wide k.plan k.base ≡ false) × (all_fit k.plan k.base ≡ true)

-- it is too wide or, else, has a number that does not fit; or memory is short
abbrev pub IsRefused : Needed → JumpFault → Type 0
IsRefused k TooWide = is_wide k.plan k.base ≡ true
IsRefused k TooBig = (is_wide k.plan k.base ≡ false) × (all_fit k.plan k.base ≡ false)
IsRefused k Memory = Unit {0}

-- these letters, whose list is put together so; or why it was not made
abbrev pub IsAnswer : List MarkedConjunction → Needed → Result (Vec MarkedConj Global) JumpFault → Type 0
IsAnswer ls k r = MatchResult r (λ v. (all_marked v.items ≡ ls) × IsMade k) (IsRefused k)

-- the letter of a call, of which this is the list; or why it was not made
abbrev pub IsPassed : List MarkedConjunction → Needed → Result MarkedConj JumpFault → Type 0
IsPassed ls k r = MatchResult r (λ c. (marked c ∷ [] ≡ ls) × IsMade k) (IsRefused k)

-- what the ensures of a called procedure without body need, over a frame whose locals have numbers below m
abbrev pub ensures_needed : Columns → ℕ → List VarInfo → TypedProcedure → List TypedExpression → List ℕ → Needed
ensures_needed frame m globals q args targets = record {
  plan = import_plan frame m globals q args targets;
  base = length frame + import_products frame q args + length (import_written q.modifies targets) + length (those_in targets q.modifies);
}

-- what such a procedure may do: the columns that it writes, and its letters; or why these were not made
abbrev pub IsImported : Columns → ℕ → List VarInfo → TypedProcedure → List TypedExpression → List ℕ → Result Import JumpFault → Type 0
IsImported frame m globals q args targets r =
    MatchResult r
    (λ i. (i.written.items ≡ import_written q.modifies targets) × (all_marked i.conjs.items ≡ import_letters frame m globals q args targets)
    × IsMade (ensures_needed frame m globals q args targets))
    (IsRefused (ensures_needed frame m globals q args targets))
