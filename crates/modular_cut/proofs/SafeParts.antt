-- A program is safe where all parts of its list are.
use Rattle.std.proofs.Common.{◌≡◌, ℕ, zero, suc, ◌+◌, List, [], ◌∷◌, ◌++◌, Option, Some, slice_get, IsTrue, subst, arith}
use Rattle.std.specs.List.{AllByRecursion}
use Rattle.typed_tree.specs.TypedTree.{TypedBlock, TypedProcedure, TypedProgram}
use Rattle.typed_tree.specs.TypingRules.ValidProgram.{is_valid}
use Rattle.boogie_run.specs.RunRules.Runs.{IsSafe}
use Rattle.modular_cut.specs.Parts.{PlainPart, procedure_part, part_if, parts_from_number, parts_of}
use Rattle.modular_cut.proofs.Whole.{parts_suffice}

all_behind : (P : PlainPart → Type 0) (xs ys : List PlainPart) → AllByRecursion P (xs ++ ys) → AllByRecursion P ys
all_behind P [] ys h = h
all_behind P (x ∷ xs) ys h = all_behind P xs ys h.1

part_in : (t : TypedProgram) (P : PlainPart → Type 0) (m : ℕ) (qs : List TypedProcedure) → AllByRecursion P (parts_from_number t m qs) → (n : ℕ) (q : TypedProcedure) (b : TypedBlock) → slice_get qs n ≡ Some q →
    q.body ≡ Some b → P (record { name = q.name; program = procedure_part t (m + n) })
part_in t P m [] h n q b is has = absurd (cc)
part_in t P m (p ∷ ps) h zero q b is has =
    let same : p ≡ q = cc in
    let none : m ≡ m + 0 = omega arith in
    let here : AllByRecursion P (part_if t m q (Some b) ++ parts_from_number t (m + 1) ps) =
    subst (λ (o : Option TypedBlock). AllByRecursion P (part_if t m q o ++ parts_from_number t (m + 1) ps)) has (subst (λ (x : TypedProcedure). AllByRecursion P (part_if t m x x.body ++ parts_from_number t (m + 1) ps)) same h) in
    subst (λ (k : ℕ). P (record { name = q.name; program = procedure_part t k })) none here.0
part_in t P m (p ∷ ps) h (suc n) q b is has =
    let next : m + 1 + n ≡ m + suc n = omega arith in
    subst (λ (k : ℕ). P (record { name = q.name; program = procedure_part t k })) next
    (part_in t P (m + 1) ps (all_behind P (part_if t m p p.body) (parts_from_number t (m + 1) ps) h) n q b is has)

pub safe_by_parts : (t : TypedProgram) → IsTrue (is_valid t) → (ps : List PlainPart) → ps ≡ parts_of t → AllByRecursion (λ p. IsTrue (is_valid p.program)) ps → AllByRecursion (λ p. IsSafe p.program) ps → IsSafe t
safe_by_parts t valid ps same valids safes =
    parts_suffice t valid
    (λ n q b is has. let none : 0 + n ≡ n = omega arith in (
      subst (λ (k : ℕ). IsTrue (is_valid (procedure_part t k))) none (part_in t (λ p. IsTrue (is_valid p.program)) 0 t.procs (subst (AllByRecursion (λ p. IsTrue (is_valid p.program))) same valids) n q b is has),
      subst (λ (k : ℕ). IsSafe (procedure_part t k)) none (part_in t (λ p. IsSafe p.program) 0 t.procs (subst (AllByRecursion (λ p. IsSafe p.program)) same safes) n q b is has),
    ))
