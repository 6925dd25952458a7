-- The columns that a call made, and the rows that it gives, from what the code has.
use Rattle.std.proofs.Common.{◌≡◌, ◌∙◌, ℕ, ◌+◌, Bool, List, [], ◌++◌, length, map, append_assoc, ap, subst}
use Rattle.std.specs.Prelude.{if◌then◌else◌}
use Rattle.letter_acts.specs.Frames.{Columns, is_local, places as frame_places, olds_of}
use Rattle.letter_acts.specs.FrameRows.Rows.{columns_from}
use Rattle.letter_acts.specs.FrameRows.Frames.{is_old}
use Rattle.nested_itp.specs.NestedRefutations.Refutations.{opposite_tie}
use Rattle.nested_itp.specs.NestedRefutations.Numbers.{branch_rows, callee_bounds, made_by_call}
use Rattle.nested_itp.specs.declared.triple_steps.sections.Section.{Section}
use Rattle.nested_itp.specs.TripleSteps.Sections.{AddsRoles}

pub made_three : (at helpers_at helpers : ℕ) (callee : Columns) (start first second third locals olds : List ℕ) → start ≡ [] → locals ≡ frame_places is_local 0 callee → olds ≡ frame_places is_old 0 callee →
    first ≡ start ++ map (λ (c : ℕ). at + c) locals → second ≡ first ++ columns_from helpers_at helpers → third ≡ second ++ map (λ (c : ℕ). at + c) olds → third ≡ made_by_call at helpers_at helpers callee
made_three at helpers_at helpers callee start first second third locals olds s l o e f h =
    let ls : List ℕ = map (λ (c : ℕ). at + c) (frame_places is_local 0 callee) in
    let os : List ℕ = map (λ (c : ℕ). at + c) (frame_places is_old 0 callee) in
    let hs : List ℕ = columns_from helpers_at helpers in
    h ∙ ap (λ (x : List ℕ). second ++ map (λ (c : ℕ). at + c) x) o ∙ ap (λ (x : List ℕ). x ++ os) f ∙ ap (λ (x : List ℕ). (x ++ hs) ++ os) e ∙
    ap (λ (x : List ℕ). ((x ++ map (λ (c : ℕ). at + c) locals) ++ hs) ++ os) s ∙ ap (λ (x : List ℕ). (map (λ (c : ℕ). at + c) x ++ hs) ++ os) l ∙ append_assoc ls hs os

-- entry rows, and a callee's bounds, from a row on that is known
pub entries_at : (returns : Bool) (callee : Columns) (first row : ℕ) (old new : List Section) → first ≡ row →
    AddsRoles old new (if returns then map (λ o. opposite_tie o.1) (olds_of callee) else branch_rows first (length (olds_of callee))) →
    AddsRoles old new (if returns then map (λ o. opposite_tie o.1) (olds_of callee) else branch_rows row (length (olds_of callee)))
entries_at returns callee first row old new e h =
    subst (λ (n : ℕ). AddsRoles old new (if returns then map (λ o. opposite_tie o.1) (olds_of callee) else branch_rows n (length (olds_of callee)))) e h

pub callee_at : (callee : Columns) (local local_row before before_row : ℕ) (old new : List Section) → local ≡ local_row → before ≡ before_row → AddsRoles old new (callee_bounds local before callee) →
    AddsRoles old new (callee_bounds local_row before_row callee)
callee_at callee local local_row before before_row old new e f h =
    subst (λ (n : ℕ). AddsRoles old new (callee_bounds n before_row callee)) e (subst (λ (n : ℕ). AddsRoles old new (callee_bounds local n callee)) f h)
