-- What is written keeps the lengths of lists.
use Rattle.std.proofs.Common.{◌≡◌, ℕ, zero, suc, ℤ, List, [], ◌∷◌, length, drop, refl, ap, ◌∙◌, slice_get}
use Rattle.boogie_tree.specs.declared.tree.Column.{Column}
use Rattle.boogie_tree.specs.declared.tree.Column.TheVariants as columns
use Rattle.typed_tree.specs.TypedTree.{TypedProgram}
use Rattle.boogie_run.specs.Configurations.{Config}
use Rattle.boogie_run.specs.Steps.{put, written, all_written, all_put, modifies_of, finished}

length-put : (zs : List ℤ) (n : ℕ) (v : ℤ) → length (put zs n v) ≡ length zs
length-put [] n v = refl
length-put (z ∷ zs) zero v = refl
length-put (z ∷ zs) (suc n) v = ap suc (length-put zs n v)

pub length-all_put : (zs : List ℤ) (ns : List ℕ) (vs : List ℤ) → length (all_put zs ns vs) ≡ length zs
length-all_put zs [] vs = refl
length-all_put zs (n ∷ ns) [] = refl
length-all_put zs (n ∷ ns) (v ∷ vs) = length-all_put (put zs n v) ns vs ∙ length-put zs n v

-- the lists are as long as before; the frame is the same, and so are those below
pub record SameShape (c d : Config) : Type 0 where
  pub globals : length d.globals ≡ length c.globals
  pub locals : length d.top.locals ≡ length c.top.locals
  pub entry : d.top.entry ≡ c.top.entry
  pub proc : d.top.proc ≡ c.top.proc
  pub below : d.below ≡ c.below

pub same_self : (c : Config) → SameShape c c
same_self c = record { globals = refl; locals = refl; entry = refl; proc = refl; below = refl }

same_on : (c d e : Config) → SameShape c d → SameShape d e → SameShape c e
same_on c d e f g =
    record { globals = g.globals ∙ f.globals; locals = g.locals ∙ f.locals; entry = g.entry ∙ f.entry; proc = g.proc ∙ f.proc; below = g.below ∙ f.below }

pub same_written : (c : Config) (x : Column) (v : ℤ) → SameShape c (written c x v)
same_written c (columns.Global n) v = record { globals = length-put c.globals n v; locals = refl; entry = refl; proc = refl; below = refl }
same_written c (columns.Old n) v = same_self c
same_written c (columns.Local n) v = record { globals = refl; locals = length-put c.top.locals n v; entry = refl; proc = refl; below = refl }

pub same_all_written : (c : Config) (xs : List Column) (vs : List ℤ) → SameShape c (all_written c xs vs)
same_all_written c [] vs = same_self c
same_all_written c (x ∷ xs) [] = same_self c
same_all_written c (x ∷ xs) (v ∷ vs) =
    same_on c (written c x v) (all_written (written c x v) xs vs) (same_written c x v) (same_all_written (written c x v) xs vs)

pub same_finished : (t : TypedProgram) (c : Config) (f : ℕ) (targets : List Column) → SameShape c (finished t c f targets)
same_finished t c f targets =
    let ns : List ℕ = modifies_of (slice_get t.procs f) in
    let d : Config = record c { globals = all_put c.globals ns c.top.kept } in
    same_on c d (finished t c f targets) (record { globals = length-all_put c.globals ns c.top.kept; locals = refl; entry = refl; proc = refl; below = refl })
    (same_all_written d targets (drop (length ns) c.top.kept))
