-- What the code keeps of a program, as the definitions see it.
use Rattle.std.specs.Prelude.{ℕ, List, map}
use Rattle.boogie_tree.specs.Tree.{Declaration}
use Rattle.boogie_tree.specs.View as view
use Rattle.boogie_tree.specs.declared.tree.VarInfo.{VarInfo}
use Rattle.boogie_types.specs.Ties.Referred.{procedures_by}
use Rattle.boogie_types.specs.Naming.{NamingPlace}
use Rattle.boogie_types.specs.Ties.Bodies.{place_among}
use Rattle.boogie_types.specs.declared.declared.Declared.{Declared}

-- the declarations of the program
abbrev pub declarations_of : Declared → List Declaration
declarations_of d = map view.declaration d.decls.now

-- the place at which the statements of a body with these locals and labels begin
abbrev pub place_in : Declared → List VarInfo → List (List ℕ) → NamingPlace
place_in d locals labels = place_among d.globals.now (procedures_by d.procs.now) locals labels
