-- How Tried ends, worked out on one program: x, y are whole numbers of a procedure `assert x*x < 10; havoc y; assume x*y == 6;`. Its steps: x and y are
-- chosen, the assertion, the havoc, the assumption, the return.
use Rattle.std.proofs.Common.{◌≡◌, ℕ, ◌+◌, ◌^◌, ◌<◌, ℤ, pos, false, inl, inr, List, [], ◌∷◌, ◌++◌, Option, None, Some, refl, lit<, arith}
use Rattle.std.specs.Option.{option_to_list}
use Rattle.boogie_tree.specs.declared.span.Span.{Span}
use Rattle.boogie_tree.specs.declared.tree.Op.TheVariants as ops
use Rattle.boogie_tree.specs.declared.tree.Ty.TheVariants as types
use Rattle.boogie_tree.specs.declared.tree.Column.TheVariants as columns
use Rattle.boogie_tree.specs.declared.tree.VarInfo.{VarInfo}
use Rattle.typed_tree.specs.TypedTree.{TypedExpression, Lit, Var, Bin, Assert, Assume, Havoc, TypedBlock, Empty, Then, TypedProcedure, TypedProgram}
use Rattle.boogie_run.specs.Configurations.{Config}
use Rattle.boogie_run.specs.Steps.{Outcome, Went, start, step}
use Rattle.boogie_run.specs.Steps as outcomes
use Rattle.boogie_run.specs.Fitting.{NextFits}
use Rattle.trace_replay.specs.ReplayCauses.{HasMade}
use Rattle.trace_replay.specs.Tried.{blocks, returns, needs, IsTriedEnd, Fails, Passes, Stops}
use Rattle.trace_replay.proofs.ReplaySteps.{none_made, one_more_made}

abbrev here : Span
here = record { line = 1; col = 1 }

abbrev number : VarInfo
number = record { name = []; ty = types.Int; constant = false }

abbrev x : TypedExpression
x = Var here (columns.Local 0)

abbrev y : TypedExpression
y = Var here (columns.Local 1)

abbrev squares : TypedBlock
squares =
    Then (Assert here (Bin here ops.Lt (Bin here ops.Mul x x) (Lit here (pos 10))))
    (Then (Havoc here (columns.Local 1 ∷ []))
    (Then (Assume here (Bin here ops.Eq (Bin here ops.Mul x y) (Lit here (pos 6)))) Empty))

abbrev only : TypedProcedure
only = record { name = []; params = 0; results = 0; locals = number ∷ (number ∷ []); modifies = []; specs = []; body = Some squares }

abbrev t : TypedProgram
t = record { globals = []; axioms = []; procs = only ∷ []; entry = 0 }

-- where an outcome goes on
abbrev at : Outcome → Config
at (Went c) = c
at o = start t

abbrev by : Config → Option ℤ → Config
by c choice = at (step t c choice)

goes : (choices : List ℤ) (made : ℕ) (c : Config) (left : List ℤ) (choice : Option ℤ) (rest : List ℤ) → HasMade t choices made c left → left ≡ option_to_list choice ++ rest → NextFits t c →
    step t c choice ≡ Went (by c choice) → HasMade t choices (made + 1) (by c choice) rest
goes choices made c left choice rest h first fit e =
    one_more_made t choices made c (by c choice) left rest h (record { choice = choice; first = first; fit = fit; ends = e })

-- ---- behind the choices of x and y

abbrev chosen : ℤ → Config
chosen v = by (by (start t) (Some v)) (Some (pos 0))

both : (v : ℤ) (rest : List ℤ) → HasMade t (v ∷ (pos 0 ∷ rest)) 2 (chosen v) rest
both v rest =
    goes (v ∷ (pos 0 ∷ rest)) 1 (by (start t) (Some v)) (pos 0 ∷ rest) (Some (pos 0)) rest
    (goes (v ∷ (pos 0 ∷ rest)) 0 (start t) (v ∷ (pos 0 ∷ rest)) (Some v) (pos 0 ∷ rest) (none_made t (v ∷ (pos 0 ∷ rest))) refl tt refl)
    refl tt refl

-- 16 < 10 is false: it fails with its third step, and the choice of the havoc is left
fails_early : IsTriedEnd t 7 (pos 4 ∷ (pos 0 ∷ (pos 2 ∷ []))) (Fails 3 (pos 4 ∷ (pos 0 ∷ [])) 1)
fails_early = record {
  made = 2;
  number = refl;
  in_time = lit< tt;
  here = chosen (pos 4);
  left = pos 2 ∷ [];
  rest = pos 2 ∷ [];
  comes = both (pos 4) (pos 2 ∷ []);
  fails = record { choice = None; first = refl; fit = ((lit< tt, lit< tt, lit< tt), lit< tt, lit< tt); ends = refl };
  used_is = refl;
}

-- 2^140 does not fit
passes : IsTriedEnd t 7 (pos (2 ^ 70) ∷ (pos 0 ∷ (pos 2 ∷ []))) (Passes 3)
passes = record {
  made = 2;
  number = refl;
  in_time = lit< tt;
  here = chosen (pos (2 ^ 70));
  left = pos 2 ∷ [];
  comes = both (pos (2 ^ 70)) (pos 2 ∷ []);
  stops = record { choice = None; rest = pos 2 ∷ []; first = refl; taken = refl; past = λ fit. (let less : 2 ^ 140 < 2 ^ 127 = fit.0.2 in let no : ⊥ = omega arith in no) };
}

-- 1 < 10 holds; then the assertion is behind it
asserted : (rest : List ℤ) → HasMade t (pos 1 ∷ (pos 0 ∷ rest)) 3 (by (chosen (pos 1)) None) rest
asserted rest = goes (pos 1 ∷ (pos 0 ∷ rest)) 2 (chosen (pos 1)) rest None rest (both (pos 1) rest) refl ((lit< tt, lit< tt, lit< tt), lit< tt, lit< tt) refl

-- no choice is left for the havoc
short : IsTriedEnd t 7 (pos 1 ∷ (pos 0 ∷ [])) (Stops 4)
short = inl (record { made = 3; number = refl; in_time = lit< tt; here = by (chosen (pos 1)) None; left = []; comes = asserted []; ends = needs refl refl })

abbrev behind : ℤ → Config
behind v = by (by (chosen (pos 1)) None) (Some v)

havocked : (v : ℤ) → HasMade t (pos 1 ∷ (pos 0 ∷ (v ∷ []))) 4 (behind v) []
havocked v = goes (pos 1 ∷ (pos 0 ∷ (v ∷ []))) 3 (by (chosen (pos 1)) None) (v ∷ []) (Some v) [] (asserted (v ∷ [])) refl tt refl

-- 1*5 == 6 is false: it is blocked
blocked : IsTriedEnd t 7 (pos 1 ∷ (pos 0 ∷ (pos 5 ∷ []))) (Stops 5)
blocked =
    inl (record {
      made = 4;
      number = refl;
      in_time = lit< tt;
      here = behind (pos 5);
      left = [];
      comes = havocked (pos 5);
      ends = blocks (record { rest = []; blocks = record { choice = None; first = refl; fit = ((lit< tt, lit< tt, lit< tt), lit< tt, lit< tt); ends = refl } });
    })

assumed : HasMade t (pos 1 ∷ (pos 0 ∷ (pos 6 ∷ []))) 5 (by (behind (pos 6)) None) []
assumed = goes (pos 1 ∷ (pos 0 ∷ (pos 6 ∷ []))) 4 (behind (pos 6)) [] None [] (havocked (pos 6)) refl ((lit< tt, lit< tt, lit< tt), lit< tt, lit< tt) refl

-- 1*6 == 6 holds: five steps are made, and the sixth ends the run
made_all : IsTriedEnd t 5 (pos 1 ∷ (pos 0 ∷ (pos 6 ∷ []))) (Stops 5)
made_all = inr (refl, record { here = by (behind (pos 6)) None; left = []; comes = assumed })

ended : IsTriedEnd t 7 (pos 1 ∷ (pos 0 ∷ (pos 6 ∷ []))) (Stops 6)
ended =
    inl (record {
      made = 5;
      number = refl;
      in_time = lit< tt;
      here = by (behind (pos 6)) None;
      left = [];
      comes = assumed;
      ends = returns (record { rest = []; ends = record { choice = None; first = refl; fit = tt; ends = refl } });
    })
