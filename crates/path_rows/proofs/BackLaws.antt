-- A return at a point: where the call is open, it leads from the states at the exit and before the call to the state after.
use Rattle.std.proofs.Common.{◌≡◌, ◌∙◌, ℕ, ℤ, List, ◌++◌, length, take, drop, sym, ap, subst}
use Rattle.std.specs.Prelude.{map, slice_index}
use Rattle.std.proofs.lemmas.List.{map-append, take-map, drop-map}
use Rattle.boogie_tree.specs.declared.tree.VarInfo.{VarInfo}
use Rattle.lin_rows.specs.Rows.{LinearRow}
use Rattle.lin_rows.specs.Points.{point_of}
use Rattle.letter_acts.specs.Frames.{Columns, IsState, IsFrame, globals_of, constants_of, result_columns, olds_of, globals_from}
use Rattle.letter_acts.specs.Values.{picked, put_all}
use Rattle.letter_acts.specs.Meaning.{returned_values, BackLeads}
use Rattle.letter_acts.specs.Invariant.{BackIsActed}
use Rattle.letter_acts.proofs.ListLemmas.{maps_equal, map_map}
use Rattle.path_rows.specs.Versions.{returned, old_part, local_columns}
use Rattle.path_rows.specs.Solutions.{read}
use Rattle.path_rows.proofs.ListLemmas.{read_written, read_picked}
use Rattle.path_rows.proofs.RowLemmas.{taken_typed, states_joined}
use Rattle.path_rows.proofs.LayoutLemmas.{laid_out}
use Rattle.path_rows.proofs.CallLaws.{globals_of_state}
use Rattle.path_rows.proofs.OpenLemmas.{IsOpen, results_within}

pub returned_read : (point : ℕ → ℤ) (caller callee : Columns) (targets exit before : List ℕ) → length exit ≡ length callee →
    read point (returned caller callee targets exit before) ≡ returned_values caller callee targets (read point exit) (read point before)
returned_read point caller callee targets exit before l =
    let n : ℕ = length (globals_of caller) in
    let base : List ℕ = take n exit ++ drop n before in
    read_written point base targets (map (slice_index exit) (result_columns callee)) ∙
    ap (λ (v : List ℤ). put_all (read point base) targets v) (read_picked point exit (result_columns callee) (results_within callee (length exit) (sym l))) ∙
    ap (λ (v : List ℤ). put_all v targets (picked (read point exit) (result_columns callee)))
    (map-append point (take n exit) (drop n before) ∙
    ap (λ (v : List ℤ). v ++ read point (drop n before)) (sym (take-map point n exit)) ∙
    ap (λ (v : List ℤ). take n (read point exit) ++ v) (sym (drop-map point n before)))

pub back_heard : (globals : List VarInfo) (caller callee : Columns) (helpers : ℕ) (rows : List LinearRow) (targets : List ℕ) (x b t : List ℤ) →
    IsFrame globals caller → IsFrame globals callee → BackIsActed caller callee helpers targets → IsState callee x → IsState caller b →
    IsOpen callee helpers rows b x → t ≡ returned_values caller callee targets x b → BackLeads caller callee helpers rows targets x b t
back_heard globals caller callee helpers rows targets x b t f g act hx hb o e =
    let n : ℕ = length (globals_of caller) in
    let lay = laid_out globals caller f in
    let base : IsState caller (take n x ++ drop n b) =
    subst (λ (columns : Columns). IsState columns (take n x ++ drop n b)) (sym lay.parts)
    (states_joined (globals_from 0 globals) (old_part caller ++ local_columns caller) (take n x) (drop n b)
    (globals_of_state globals callee g x n lay.global_count hx).0 (globals_of_state globals caller f b n lay.global_count hb).1) in
    record {
      at_exit = hx;
      at_call = hb;
      at_end = subst (IsState caller) (sym e) (taken_typed caller callee (take n x ++ drop n b) x targets (result_columns callee) base hx act.take);
      constants = (maps_equal (point_of x) (point_of b) (constants_of callee)).1 o.constants;
      olds = map_map (λ (p : ℕ × ℕ). p.0) (point_of x) (olds_of callee) ∙
          (maps_equal (λ (p : ℕ × ℕ). point_of x p.0) (λ p. point_of b p.1) (olds_of callee)).1 o.olds ∙
          sym (map_map (λ (p : ℕ × ℕ). p.1) (point_of b) (olds_of callee));
      rows_hold = o.rows_hold;
      returned = e;
    }
