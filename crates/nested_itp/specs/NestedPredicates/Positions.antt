-- Positions of a word, and what is counted at each: the letters before it and after the innermost call that is open there and
-- has a return in the word, or all letters before it where there is no such call.
use Rattle.std.specs.Prelude.{ℕ, zero, suc, Bool, true, false, ◌&&◌, List, [], ◌∷◌, nat_lt, Option, None, Some, unwrap_or, slice_get, if◌then◌else◌}
use Rattle.boogie_tree.specs.declared.tree.Column.{Column}
use Rattle.boogie_tree.specs.declared.tree.Column.TheVariants.{Global, Old, Local}
use Rattle.nwa_base.specs.declared.letters.Kind.{Kind}
use Rattle.nwa_base.specs.declared.letters.Kind.TheVariants.{Inside, Call, Back}
use Rattle.nwa_base.specs.declared.letters.Letter.{Letter}
use Rattle.letter_acts.specs.Frames.{Columns}
use Rattle.letter_acts.specs.Acts.{PlainAct, inside_act, call_act, back_act, Alphabet, frame_of, act_of}
use Rattle.letter_acts.specs.Invariant.{Graph, alphabet_of}
use Rattle.path_rows.specs.Versions.{PathStage, part_of}
use Rattle.path_rows.specs.Paths.{start_frame, first_stage}
use Rattle.nested_itp.specs.NestedPredicates.Stamps.{stamp_of}

-- what a letter of that kind says of a call that is open before it, where so many later calls are open
abbrev pub returned_by : Kind → ℕ → (ℕ → Bool) → Bool
returned_by Inside later rest = rest later
returned_by Call later rest = rest (suc later)
returned_by Back zero rest = true
returned_by Back (suc later) rest = rest later

-- the word has a return from a call that is open before it
abbrev pub has_return : ℕ → List Letter → Bool
has_return later [] = false
has_return later (a ∷ w) = returned_by a.kind later (λ n. has_return n w)

-- What is known of the open frame at a position: its procedure; the stamp up to which all counts in the caller, 0 where no
-- call that is open here returns; and for each column the version by which the caller's sum at the call speaks of it, if it does.
pub record CallScope : Type 0 where
  pub proc : ℕ
  pub own : ℕ
  pub known : List (Option ℕ)

-- a constant or parameter, which has one version in all of the callee, is known by it
abbrev pub if_constant_version : Bool → ℕ → Option ℕ
if_constant_version true version = Some version
if_constant_version false version = None

-- an old column is known by the version that its global had before the call
abbrev pub known_at : Column → Bool → ℕ → List ℕ → Option ℕ
known_at (Global g) constant version before = if_constant_version constant version
known_at (Old g) constant version before = slice_get before g
known_at (Local l) constant version before = if_constant_version constant version

-- the same for each column, where the callee is entered with these versions from a caller with those before
abbrev pub known_columns : Columns → List ℕ → List ℕ → List (Option ℕ)
known_columns [] entry before = []
known_columns (c ∷ cs) [] before = []
known_columns (c ∷ cs) (v ∷ vs) before = known_at c.0 c.1.constant v before ∷ known_columns cs vs before

-- the callee of letter n, which is entered with these versions
abbrev pub callee_scope : Alphabet → ℕ → ℕ → Bool → List ℕ → List ℕ → CallScope
callee_scope al n callee returns entry before = record {
  proc = callee;
  own = if returns then stamp_of n else 0;
  known = known_columns (frame_of al callee) entry before;
}

-- without the innermost scope
abbrev pub left_scopes : List CallScope → List CallScope
left_scopes [] = []
left_scopes (s ∷ scopes) = scopes

-- the callee of a letter with this act
abbrev pub callee_of : Option PlainAct → ℕ
callee_of None = 0
callee_of (Some (inside_act q written helpers rows)) = 0
callee_of (Some (call_act caller callee helpers rows)) = callee
callee_of (Some (back_act c targets)) = 0

-- the scopes after letter n, of this kind, innermost first; the rest of the word tells whether a call returns
abbrev pub scopes_after : Alphabet → ℕ → Kind → Option PlainAct → List Letter → List ℕ → List ℕ → List CallScope → List CallScope
scopes_after al n Inside act rest entry before scopes = scopes
scopes_after al n Call act rest entry before scopes = callee_scope al n (callee_of act) (has_return 0 rest) entry before ∷ scopes
scopes_after al n Back act rest entry before scopes = left_scopes scopes

-- a position: the open frame with the versions of its columns; the stamps above `own` and up to `upto` are counted
pub record Position : Type 0 where
  pub scope : CallScope
  pub here : List ℕ
  pub upto : ℕ

-- in no frame
abbrev pub no_scope : CallScope
no_scope = record { proc = 0; own = 0; known = [] }

abbrev pub innermost : List CallScope → CallScope
innermost [] = no_scope
innermost (s ∷ scopes) = s

-- the position after so many letters
abbrev pub position_at : ℕ → PathStage → List CallScope → Position
position_at letters p scopes = record { scope = innermost scopes; here = p.here; upto = suc (stamp_of letters) }

-- the positions from the one after so many letters on
abbrev pub positions_along : Alphabet → ℕ → PathStage → List CallScope → List Letter → List Position
positions_along al letters p scopes [] = position_at letters p scopes ∷ []
positions_along al letters p scopes (a ∷ w) =
    let after = (part_of al a p).after in
    position_at letters p scopes ∷
    positions_along al (suc letters) after (scopes_after al (suc letters) a.kind (act_of al a) w after.here p.here scopes) w

-- the procedure of the start
abbrev pub start_proc : Graph → ℕ
start_proc g = unwrap_or (slice_get g.place_procs g.automaton.start) 0

-- the frame at the start, of which no call is open
abbrev pub start_scope : Graph → CallScope
start_scope g = record { proc = start_proc g; own = 0; known = [] }

-- the positions of a word
abbrev pub positions_of : Graph → List Letter → List Position
positions_of g w = positions_along (alphabet_of g) 0 (first_stage (start_frame g)) (start_scope g ∷ []) w

-- what has the stamp is counted at the position
abbrev pub is_counted : Position → ℕ → Bool
is_counted q stamp = nat_lt q.scope.own stamp && nat_lt stamp (suc q.upto)
