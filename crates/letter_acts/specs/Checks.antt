-- Words for the functions that test the parts of a graph.
use Rattle.std.specs.Prelude.{◌≡◌, ℕ, Bool, true, false, not, List, [], ◌∷◌, map, filter, IsTrue}
use Rattle.std.specs.List.{AllByRecursion}
use Rattle.boogie_tree.specs.declared.tree.Column.{Column}
use Rattle.boogie_tree.specs.declared.tree.VarInfo.{VarInfo}
use Rattle.boogie_tree.specs.Names.{is_spelled}
use Rattle.nwa_base.specs.declared.letters.Letter.{Letter}
use Rattle.nwa_base.specs.Edges.{leaving}
use Rattle.nwa_base.specs.Automata.{Automaton}
use Rattle.letter_acts.specs.Frames.{Columns, ConstantsFirst, is_global, is_local}
use Rattle.letter_acts.specs.Invariant.{AreDistinct, names_where, is_global_at}

-- the columns of one of two kinds: the constants and globals, or the locals
abbrev pub is_named_by : Bool → (Column × VarInfo) → Bool
is_named_by true = is_global
is_named_by false = is_local

-- what the names of a frame keep apart from its constants and globals, which all frames share: those of its locals differ,
-- and each is spelled as a name
pub record HasOwnNames (frame : Columns) : Type 0 where
  pub locals : AreDistinct (names_where is_local frame)
  pub spelled : AllByRecursion (λ c. IsTrue (is_spelled c.1.name)) frame

-- the targets that are no globals
abbrev pub local_targets : Columns → List ℕ → List ℕ
local_targets frame targets = filter (λ t. not (is_global_at frame t)) targets

-- what is known of columns
abbrev pub infos : Columns → List VarInfo
infos columns = map (λ c. c.1) columns

-- what is left to show that the constant ones stand first, once one that is not constant was met or not
abbrev pub ConstantsLeft : Bool → List VarInfo → Type 0
ConstantsLeft true vs = AllByRecursion (λ v. v.constant ≡ false) vs
ConstantsLeft false vs = ConstantsFirst vs

-- the first of the edges, if there is one, is by the call letter
abbrev pub FirstIsBy : ℕ → List (ℕ × Letter × ℕ) → Type 0
FirstIsBy call [] = Unit {0}
FirstIsBy call (e ∷ es) = e.1.id ≡ call

-- the first call edge from the place, if there is one, is by the call letter
abbrev pub AgreesWithCall : Automaton → ℕ → ℕ → Type 0
AgreesWithCall m q call = FirstIsBy call (leaving q m.calls)

-- the return edges with the place before them name the call, where these are the call edges from there
abbrev pub ReturnsAgree : List (ℕ × ℕ × Letter × ℕ) → ℕ → ℕ → List (ℕ × Letter × ℕ) → Type 0
ReturnsAgree backs q call [] = AllByRecursion (λ b. b.1 ≡ q → b.2.call ≡ call) backs
ReturnsAgree backs q call (e ∷ es) = e.1.id ≡ call

-- A return names the call letter of the place before it: that of the first call edge from there, or, where none leaves
-- that place, of each other return with it.
abbrev pub BackAgrees : Automaton → ℕ × ℕ × Letter × ℕ → Type 0
BackAgrees m b = ReturnsAgree m.backs b.1 b.2.call (leaving b.1 m.calls)
