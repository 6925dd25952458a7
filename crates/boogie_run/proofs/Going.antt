-- Writing behind a step on is the step on behind the writing.
use Rattle.std.proofs.Common.{◌≡◌, ◌∙◌, ℕ, ℤ, List, [], ◌∷◌, length, drop, Option, None, Some, slice_get, refl}
use Rattle.boogie_tree.specs.declared.tree.Column.{Column}
use Rattle.boogie_tree.specs.declared.tree.Column.TheVariants as columns
use Rattle.typed_tree.specs.TypedTree.{TypedProgram}
use Rattle.boogie_run.specs.BoogiePoints.Points.{Point}
use Rattle.boogie_run.specs.Configurations.{Config}
use Rattle.boogie_run.specs.Steps.{Went, written, all_written, all_put, modifies_of, finished, moved_to, kept_on, went_if}
use Rattle.boogie_run.specs.ToldActs.{kept_on_if}

written_moved : (c : Config) (p : Point) (x : Column) (v : ℤ) → written (moved_to c p) x v ≡ moved_to (written c x v) p
written_moved c p (columns.Global n) v = refl
written_moved c p (columns.Old n) v = refl
written_moved c p (columns.Local n) v = refl

pub all_written_moved : (c : Config) (p : Point) (xs : List Column) (vs : List ℤ) → all_written (moved_to c p) xs vs ≡ moved_to (all_written c xs vs) p
all_written_moved c p [] vs = refl
all_written_moved c p (x ∷ xs) [] = refl
all_written_moved c p (x ∷ xs) (v ∷ vs) = rw (written_moved c p x v, all_written_moved (written c x v) p xs vs)

pub written_after : (w : Option Point) (c d : Config) (x : Column) (v : ℤ) → went_if w c ≡ Went d → went_if w (written c x v) ≡ Went (written d x v)
written_after None c d x v h = cc
written_after (Some p) c d x v h = let e : moved_to c p ≡ d = cc in rw (← e, written_moved c p x v)

pub all_written_after : (w : Option Point) (c d : Config) (xs : List Column) (vs : List ℤ) → went_if w c ≡ Went d →
    went_if w (all_written c xs vs) ≡ Went (all_written d xs vs)
all_written_after None c d xs vs h = cc
all_written_after (Some p) c d xs vs h = let e : moved_to c p ≡ d = cc in rw (← e, all_written_moved c p xs vs)

-- what a call without body makes, behind the step on
pub finished_after : (t : TypedProgram) (w : Option Point) (c d : Config) (f : ℕ) (targets : List Column) → kept_on_if w c ≡ Went d →
    went_if w (finished t c f targets) ≡
    Went (all_written (record d { globals = all_put d.globals (modifies_of (slice_get t.procs f)) d.top.kept; top = record d.top { kept = [] } }) targets
    (drop (length (modifies_of (slice_get t.procs f))) d.top.kept))
finished_after t None c d f targets h = cc
finished_after t (Some p) c d f targets h =
    let e : kept_on c p ≡ d = cc in
    let ns : List ℕ = modifies_of (slice_get t.procs f) in
    rw (← e, all_written_moved (record c { globals = all_put c.globals ns c.top.kept }) p targets (drop (length ns) c.top.kept))

-- writing leaves the point
written_point : (c : Config) (x : Column) (v : ℤ) → (written c x v).top.point ≡ c.top.point
written_point c (columns.Global n) v = refl
written_point c (columns.Old n) v = refl
written_point c (columns.Local n) v = refl

pub all_written_point : (c : Config) (xs : List Column) (vs : List ℤ) → (all_written c xs vs).top.point ≡ c.top.point
all_written_point c [] vs = refl
all_written_point c (x ∷ xs) [] = refl
all_written_point c (x ∷ xs) (v ∷ vs) = all_written_point (written c x v) xs vs ∙ written_point c x v

-- a call without body whose values are written one list after the other
pub finished_by : (t : TypedProgram) (w : Option Point) (c d e g h : Config) (f : ℕ) (targets : List Column) (ns : List ℕ) (kept rest : List ℤ) →
    kept_on_if w c ≡ Went d → kept ≡ d.top.kept → e ≡ record d { top = record d.top { kept = [] } } → ns ≡ modifies_of (slice_get t.procs f) →
    g ≡ record e { globals = all_put e.globals ns kept } → rest ≡ drop (length ns) kept → h ≡ all_written g targets rest →
    went_if w (finished t c f targets) ≡ Went h
finished_by t w c d e g h f targets ns kept rest went at_kept at_e at_ns at_g at_rest at_h =
    finished_after t w c d f targets went ∙ rw (at_h, at_rest, at_g, at_e, at_kept, at_ns)
