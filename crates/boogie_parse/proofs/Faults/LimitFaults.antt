-- A limit is a fault only where the program is past it: with the same room of that kind and more of the others it stays one, and what is in the grammar and
-- within that limit is read.
use Rattle.std.proofs.Common.{◌≡◌, ℕ, ◌+◌, ◌<◌, ◌≤◌, List, Result, Ok, Err, IfErr, inl, inr, subst, arith}
use Rattle.std.specs.List.{AllByRecursion}
use Rattle.std.proofs.lemmas.Bool.{cases_lt}
use Rattle.boogie_tree.specs.declared.span.Span.{Span}
use Rattle.boogie_tree.specs.Tree.{Declaration}
use Rattle.boogie_parse.specs.declared.fault.Fault.{Fault}
use Rattle.boogie_parse.specs.declared.fault.Fault.TheVariants as faults
use Rattle.boogie_parse.specs.declared.fault.Which.{Which}
use Rattle.boogie_parse.specs.declared.fault.Which.TheVariants as limits
use Rattle.boogie_parse.specs.declared.symbols.Symbol.{Symbol}
use Rattle.boogie_parse.specs.Rules.GrammarProgram.{ReadsProgram, joined_groups}
use Rattle.boogie_parse.specs.Rules.GrammarLimits.{IsShallow, IsShallowDeclaration, variables_counted, procedures_counted}
use Rattle.boogie_parse.specs.Reading.ListReading.{expression_at}
use Rattle.boogie_parse.specs.Reading.ProgramReading.{program_at}
use Rattle.boogie_parse.specs.Ties.ProgramGrowth.{Keeps}
use Rattle.boogie_parse.specs.Rules.WholeText.{IsPast}
use Rattle.boogie_parse.proofs.Rules.ConditionComplete.{expression_at-complete}
use Rattle.boogie_parse.proofs.Rules.ProgramComplete.{program-joined}
use Rattle.boogie_parse.proofs.Rules.ProgramRoom.{same, program_keeps}
use Rattle.boogie_parse.proofs.Faults.ExpressionRefusals.{IsRefusal}
use Rattle.boogie_parse.proofs.Faults.ProgramRefusals.{IsOfPrograms, program_refusals}
use Rattle.boogie_parse.proofs.Faults.SyntaxFaults.{all_variables, few_enough, Kinds, roomier, level, wide, wide-read, wide-keeps, no_fault, Faults}

many_variables : (end : Span) (p b : ℕ) (ts : List Symbol) (groups : List (List Declaration)) (line col : ℕ) → ReadsProgram p b ts groups → Faults end ts (faults.Limit limits.Variables line col) →
    AllByRecursion (λ ds. variables_counted ds ≤ 1000) groups → ⊥
many_variables end p b ts groups line col d is few =
    let m : ℕ = 1000 + procedures_counted (joined_groups groups) in
    let keeps = wide-keeps ⊥ (Unit {0}) end p b 1000 m ts (level (Unit {0}) 1000) (roomier ⊥ 1000 (procedures_counted (joined_groups groups)) (λ s. s)) in
    let refused : Unit {0} → wide end p b 1000 m ts ≡ Err (faults.Limit limits.Variables line col) = subst (λ r. Keeps (Kinds ⊥ ⊥ (Unit {0})) r (wide end p b 1000 m ts)) is keeps in
    no_fault (wide end p b 1000 m ts) (faults.Limit limits.Variables line col) (joined_groups groups) (wide-read end p b 1000 m ts groups d few (omega arith)) (refused tt)

many_procedures : (end : Span) (p b : ℕ) (ts : List Symbol) (groups : List (List Declaration)) (line col : ℕ) → ReadsProgram p b ts groups → Faults end ts (faults.Limit limits.Procedures line col) →
    procedures_counted (joined_groups groups) ≤ 1000 → ⊥
many_procedures end p b ts groups line col d is few =
    let w : ℕ = 1000 + all_variables groups in
    let keeps = wide-keeps (Unit {0}) ⊥ end p b w 1000 ts (roomier ⊥ 1000 (all_variables groups) (λ s. s)) (level (Unit {0}) 1000) in
    let refused : Unit {0} → wide end p b w 1000 ts ≡ Err (faults.Limit limits.Procedures line col) = subst (λ r. Keeps (Kinds ⊥ (Unit {0}) ⊥) r (wide end p b w 1000 ts)) is keeps in
    no_fault (wide end p b w 1000 ts) (faults.Limit limits.Procedures line col) (joined_groups groups) (wide-read end p b w 1000 ts groups d (few_enough w groups (omega arith)) few) (refused tt)

past_procedures : (n : ℕ) → (n ≤ 1000 → ⊥) → 1000 < n
past_procedures n many = elim (cases_lt 1000 n) [ inl less ↦ less | inr few ↦ absurd (many few) ]

-- with the same room for nesting, and for all variables and procedures
much_nesting : (end : Span) (ts : List Symbol) (groups : List (List Declaration)) (line col : ℕ) → ReadsProgram 200 200 ts groups → Faults end ts (faults.Limit limits.Nesting line col) →
    AllByRecursion IsShallowDeclaration (joined_groups groups) → ⊥
much_nesting end ts groups line col d is shallow =
    let IsSame : Which → Type 0 = Kinds (Unit {0}) ⊥ ⊥ in
    let w : ℕ = 1000 + all_variables groups in
    let m : ℕ = 1000 + procedures_counted (joined_groups groups) in
    let level_wide : Result (List Declaration) Fault = program_at (expression_at end) end 200 200 w m ts in
    let read_all : level_wide ≡ Ok (joined_groups groups) =
    program-joined (expression_at end) end IsShallow (expression_at-complete end) 200 200 w m ts groups d shallow (few_enough w groups (omega arith)) (omega arith) in
    let keeps : Keeps IsSame (program_at (expression_at end) end 200 200 1000 1000 ts) level_wide =
    program_keeps IsSame (expression_at end) (expression_at end) end
    (λ i j us more. subst (λ k. Keeps IsSame (expression_at end i us) (expression_at end k us)) (more.equal tt) (same IsSame (expression_at end i us)))
    200 200 (level (Unit {0}) 200) 200 200 (level (Unit {0}) 200) 1000 w (roomier ⊥ 1000 (all_variables groups) (λ s. s)) 1000 m ts (roomier ⊥ 1000 (procedures_counted (joined_groups groups)) (λ s. s)) in
    let refused : Unit {0} → level_wide ≡ Err (faults.Limit limits.Nesting line col) = subst (λ r. Keeps IsSame r level_wide) is keeps in
    no_fault level_wide (faults.Limit limits.Nesting line col) (joined_groups groups) read_all (refused tt)

literals_fit : (end : Span) (ts : List Symbol) (line col : ℕ) → Faults end ts (faults.Limit limits.Literal line col) → ⊥
literals_fit end ts line col is = subst (λ r. IfErr r (IsRefusal IsOfPrograms)) is (program_refusals end 200 200 1000 1000 ts)

-- a program that is in the grammar, and refused for a limit, is past that limit
pub limit_past : (end : Span) (ts : List Symbol) (which : Which) (line col : ℕ) → Faults end ts (faults.Limit which line col) →
    (p b : ℕ) (groups : List (List Declaration)) → ReadsProgram p b ts groups → IsPast which ts groups
limit_past end ts limits.Literal line col is p b groups d = literals_fit end ts line col is
limit_past end ts limits.Nesting line col is p b groups d = λ spelled shallow. much_nesting end ts groups line col spelled is shallow
limit_past end ts limits.Procedures line col is p b groups d = past_procedures (procedures_counted (joined_groups groups)) (many_procedures end p b ts groups line col d is)
limit_past end ts limits.Variables line col is p b groups d = many_variables end p b ts groups line col d is
