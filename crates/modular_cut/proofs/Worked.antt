-- A recursive procedure in its own part, and which of its conditions are free, by computation.
use Rattle.std.proofs.Common.{◌≡◌, ℕ, true, false, List, [], ◌∷◌, ◌++◌, map, Option, None, Some, refl, ap, if◌then◌else◌}
use Rattle.std.specs.Prelude.{codes}
use Rattle.boogie_tree.specs.declared.span.Span.{Span}
use Rattle.boogie_tree.specs.declared.tree.Column.TheVariants as columns
use Rattle.boogie_tree.specs.declared.tree.VarInfo.{VarInfo}
use Rattle.typed_tree.specs.TypedTree.{TypedExpression, Cond, TypedInvariant, Assert, Assign, Call, If, TypedBlock, Empty, Then, Ensures, TypedProcedure, TypedProgram}
use Rattle.modular_cut.specs.Parts.{without_body, procedure_part, parts_of}
use Rattle.modular_cut.specs.FreeConditions.{free_spans}

module _ (at : Span) (five enough positive zero less more : TypedExpression) (main_locals sum_locals : List VarInfo) (ensured : TypedInvariant) where
  -- if (n <= 0) { s := 0; } else { call s := sum(n - 1); s := s + n; }, where calls of sum have that number
  abbrev sum_body : ℕ → TypedBlock
  sum_body f =
      Then (If at (Cond positive) (Then (Assign at (columns.Local 1 ∷ []) (zero ∷ [])) Empty) (Then (Call at (columns.Local 1 ∷ []) f (less ∷ [])) (Then (Assign at (columns.Local 1 ∷ []) (more ∷ [])) Empty)))
      Empty

  abbrev sum_as : List ℕ → Option TypedBlock → TypedProcedure
  sum_as name body = record { name = name; params = 1; results = 1; locals = sum_locals; modifies = []; specs = Ensures ensured ∷ []; body = body }

  -- call r := sum(5); assert r >= 5;
  abbrev main : TypedProcedure
  main =
      record {
        name = codes "main";
        params = 0;
        results = 0;
        locals = main_locals;
        modifies = [];
        specs = [];
        body = Some (Then (Call at (columns.Local 0 ∷ []) 1 (five ∷ [])) (Then (Assert at enough) Empty));
      }

  abbrev recursion : TypedProgram
  recursion = record { globals = []; axioms = []; procs = main ∷ sum_as (codes "sum") (Some (sum_body 1)) ∷ []; entry = 0 }

  two_parts : map (λ p. p.name) (parts_of recursion) ≡ codes "main" ∷ codes "sum" ∷ []
  two_parts = refl

  -- in its own part it calls its copy
  own_part : (procedure_part recursion 1).procs ≡ without_body main ∷ sum_as (codes "sum") (Some (sum_body 2)) ∷ sum_as (codes "m:sum") None ∷ []
  own_part = refl

  -- main calls it by its number
  other_part : (procedure_part recursion 0).procs ≡ main ∷ sum_as (codes "sum") None ∷ record main { name = codes "m:main"; body = None } ∷ []
  other_part = refl

  -- an ensures that is free stands at its place
  free_there : ensured.free ≡ true → free_spans recursion ≡ ensured.span ∷ []
  free_there e = ap (λ b. (((if b then ensured.span ∷ [] else []) ++ []) ++ []) ++ []) e

  none_free : ensured.free ≡ false → free_spans recursion ≡ []
  none_free e = ap (λ b. (((if b then ensured.span ∷ [] else []) ++ []) ++ []) ++ []) e
