-- The numbers of a typed program are of 32 bits.
use Rattle.std.proofs.Common.{◌≡◌, ℕ, ◌+◌, ◌<◌, ◌^◌, List, length, Option, None, Some, slice_get, refl, arith, IsTrue, Contains}
use Rattle.std.specs.Prelude.{IfSome}
use Rattle.std.proofs.lemmas.Option.{slice_get_within, get_or_from_slice_get}
use Rattle.typed_tree.specs.TypedTree.{TypedProcedure, TypedProgram}
use Rattle.typed_tree.specs.TypingRules.Counts.{places}
use Rattle.typed_tree.specs.TypingRules.ValidProgram.{is_valid}
use Rattle.typed_tree.proofs.TypingRules.ValidLaws as valid
use Rattle.boogie_run.specs.Needs.{locals_if_any}
use Rattle.lowered_graph.specs.Arcs.{first_error}
use Rattle.lowered_graph.specs.Lowered.{program_sites}
use Rattle.icfg_lower.proofs.ProgramLayout.CountLaws.{places_apart}
use Rattle.icfg_lower.proofs.ProgramLayout.PlaceCounts.{errors_behind, sites_behind}

contained : {X : Type 0} (xs : List X) (n : ℕ) (x : X) → slice_get xs n ≡ Some x → Contains xs x
contained xs n x e = (n, slice_get_within xs n x e, get_or_from_slice_get xs n x x e)

pub places_fit : (t : TypedProgram) → IsTrue (is_valid t) → places t < 2 ^ 32
places_fit t v = (valid.numbers t v).0

pub globals_fit : (t : TypedProgram) → IsTrue (is_valid t) → length t.globals + length t.globals < 2 ^ 32
globals_fit t v =
    let entry = valid.entry t v in
    let held : Contains t.procs entry.0 = contained t.procs t.entry entry.0 entry.2 in
    let h : length t.globals + (length t.globals + length entry.0.locals) < 2 ^ 32 = (valid.numbers t v).2 entry.0 held in
    omega arith

columns_of : (t : TypedProgram) → IsTrue (is_valid t) → (n : ℕ) (o : Option TypedProcedure) → slice_get t.procs n ≡ o →
    IfSome o (λ q. length t.globals + (length t.globals + length q.locals) < 2 ^ 32)
columns_of t v n None e = tt
columns_of t v n (Some q) e = (valid.numbers t v).2 q (contained t.procs n q e)

pub columns_fit : (t : TypedProgram) → IsTrue (is_valid t) → (n : ℕ) → IfSome (slice_get t.procs n) (λ q. length t.globals + (length t.globals + length q.locals) < 2 ^ 32)
columns_fit t v n = columns_of t v n (slice_get t.procs n) refl

locals_of : (m : ℕ) (o : Option TypedProcedure) → IfSome o (λ q. m + (m + length q.locals) < 2 ^ 32) → IfSome o (λ q. length q.locals < 2 ^ 32)
locals_of m None h = tt
locals_of m (Some q) h = omega arith

pub locals_fit : (t : TypedProgram) → IsTrue (is_valid t) → (n : ℕ) → IfSome (slice_get t.procs n) (λ q. length q.locals < 2 ^ 32)
locals_fit t v n = locals_of (length t.globals) (slice_get t.procs n) (columns_fit t v n)

local_within : (m n : ℕ) (o : Option TypedProcedure) → IfSome o (λ q. m + (m + length q.locals) < 2 ^ 32) → n < length (locals_if_any o) → m + (m + n) < 2 ^ 32
local_within m n None h l = absurd (omega arith)
local_within m n (Some q) h l = omega arith

pub local_fits : (t : TypedProgram) → IsTrue (is_valid t) → (p n : ℕ) → n < length (locals_if_any (slice_get t.procs p)) → length t.globals + (length t.globals + n) < 2 ^ 32
local_fits t v p n l = local_within (length t.globals) n (slice_get t.procs p) (columns_fit t v p) l

-- the places where assertions fail have numbers, too
pub errors_fit : (t : TypedProgram) → IsTrue (is_valid t) → first_error t + length (program_sites t) < 2 ^ 32
errors_fit t v = omega (arith, places_fit t v, errors_behind t v, sites_behind t v, places_apart t.procs t.procs)
