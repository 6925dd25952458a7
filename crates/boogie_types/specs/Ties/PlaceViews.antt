-- A place of the code as the definitions see it.
use Rattle.std.specs.Prelude.{ℕ, List, [], Option}
use Rattle.std.specs.Borrow.{Bor}
use Rattle.typed_tree.specs.Scope.{seen}
use Rattle.boogie_types.specs.declared.places.Placed.{Placed}
use Rattle.boogie_types.specs.Ties.Referred.{procedures_by}
use Rattle.boogie_types.specs.Ties.Places.{loops_by}
use Rattle.boogie_types.specs.Naming.{NamingPlace}

-- a place inside these loops
abbrev pub place_at : Placed → List (Option (Bor (List ℕ))) → NamingPlace
place_at p loops =
    record {
      scope = seen p.names.scope;
      procs = procedures_by p.procs.now;
      declared = p.declared;
      labels = p.labels.now;
      loops = loops_by loops;
    }

-- outside all loops
abbrev pub place_outside : Placed → NamingPlace
place_outside p = place_at p []
