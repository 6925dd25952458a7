-- What is known of a graph's frames, and of the letters on its edges.
use Rattle.std.specs.Prelude.{◌≡◌, ℕ, List, map, Some, slice_get}
use Rattle.lin_rows.specs.Rows.{LinearRow}
use Rattle.nwa_base.specs.declared.letters.Letter.{Letter}
use Rattle.letter_acts.specs.Frames.{Columns, globals_of, constants_of, variables_of, olds_of}
use Rattle.letter_acts.specs.Acts.{inside_act, call_act, back_act, frame_of}
use Rattle.letter_acts.specs.Invariant.{Graph, alphabet_of, IsPlaceOf, InsideIsActed, CallIsActed, BackIsActed}

-- two frames have their constants, globals and old columns at the same places, and the old columns are those of the
-- globals that may change, in order
pub record FramesAgree (a b : Columns) : Type 0 where
  pub globals : globals_of a ≡ globals_of b
  pub constants : constants_of a ≡ constants_of b
  pub variables : variables_of a ≡ variables_of b
  pub olds : olds_of a ≡ olds_of b
  pub olds_are_variables : map (λ o. o.1) (olds_of a) ≡ variables_of a

-- the letter of an inside edge: its act, and the procedure that it stays in
pub record InsideKnown (g : Graph) (q : ℕ) (a : Letter) (e : ℕ) : Type 0 where
  pub proc : ℕ
  pub written : List ℕ
  pub helpers : ℕ
  pub rows : List LinearRow
  pub act : slice_get g.acts a.id ≡ Some (inside_act proc written helpers rows)
  pub call : a.call ≡ 0
  pub acted : InsideIsActed (alphabet_of g) proc written helpers rows
  pub starts : IsPlaceOf g.place_procs proc q
  pub ends : IsPlaceOf g.place_procs proc e

-- the letter of a call edge: its act, from a place of the caller to the callee's entry place
pub record CallKnown (g : Graph) (q : ℕ) (a : Letter) (e : ℕ) : Type 0 where
  pub caller : ℕ
  pub callee : ℕ
  pub helpers : ℕ
  pub rows : List LinearRow
  pub act : slice_get g.acts a.id ≡ Some (call_act caller callee helpers rows)
  pub call : a.call ≡ 0
  pub acted : CallIsActed (alphabet_of g) caller callee helpers rows
  pub starts : IsPlaceOf g.place_procs caller q
  pub enters : slice_get g.entries callee ≡ Some (Some e)

-- the letter of a return edge: its act, and that of the call letter that it names; it leaves the callee's exit place with
-- a place of the caller before it, and leads to the caller
pub record BackKnown (g : Graph) (q p : ℕ) (r : Letter) (e : ℕ) : Type 0 where
  pub targets : List ℕ
  pub caller : ℕ
  pub callee : ℕ
  pub helpers : ℕ
  pub rows : List LinearRow
  pub act : slice_get g.acts r.id ≡ Some (back_act r.call targets)
  pub call : slice_get g.acts r.call ≡ Some (call_act caller callee helpers rows)
  pub call_acted : CallIsActed (alphabet_of g) caller callee helpers rows
  pub acted : BackIsActed (frame_of (alphabet_of g) caller) (frame_of (alphabet_of g) callee) helpers targets
  pub leaves : slice_get g.exits callee ≡ Some (Some q)
  pub before : IsPlaceOf g.place_procs caller p
  pub ends : IsPlaceOf g.place_procs caller e
