-- Written columns, in a configuration and in the moment that it mirrors.
use Rattle.std.proofs.Common.{◌≡◌, ◌∙◌, ℕ, zero, suc, ℤ, nat_lt, List, [], ◌∷◌, length, slice_set, refl, ap, sym, subst}
use Rattle.boogie_tree.specs.declared.tree.Column.{Column}
use Rattle.boogie_tree.specs.declared.tree.Column.TheVariants as columns
use Rattle.typed_tree.specs.TypedTree.{TypedProgram}
use Rattle.boogie_run.specs.BoogiePoints.Points.{Todo, settled}
use Rattle.boogie_run.specs.Configurations.{Frame, Config}
use Rattle.boogie_run.specs.Needs.{locals_at}
use Rattle.boogie_run.specs.Steps.{put, written, all_written, moved_to}
use Rattle.boogie_run.proofs.RunDefaults.Lengths.{SameShape, same_all_written}
use Rattle.boogie_run.specs.RunRules.Moments.{OpenBlock, Activation, Moment, with_value, with_values}
use Rattle.boogie_run.specs.RunRules.Ties.Mirrors.{pendings, moment_of, HasBody, IsFull, WaitAll, Mirrors}

-- the two ways to set a member
pub put_is_set : (zs : List ℤ) (n : ℕ) (v : ℤ) → put zs n v ≡ slice_set zs n v
put_is_set [] n v = refl
put_is_set (z ∷ zs) zero v = refl
put_is_set (z ∷ zs) (suc n) v = ap (λ (ys : List ℤ). z ∷ ys) (put_is_set zs n v)

-- the moment behind the writing of one column
pub one_written_moment : (c : Config) (targets : List Column) (below : List Activation) (ps : List OpenBlock) (x : Column) (v : ℤ) →
    moment_of (written c x v) targets below ps ≡ with_value (moment_of c targets below ps) x v
one_written_moment c targets below ps (columns.Global n) v = rw (put_is_set c.globals n v)
one_written_moment c targets below ps (columns.Old n) v = refl
one_written_moment c targets below ps (columns.Local n) v = rw (put_is_set c.top.locals n v)

-- the moment behind the writing of several
pub written_moment : (c : Config) (targets : List Column) (below : List Activation) (ps : List OpenBlock) (xs : List Column) (vs : List ℤ) →
    moment_of (all_written c xs vs) targets below ps ≡ with_values (moment_of c targets below ps) xs vs
written_moment c targets below ps [] vs = refl
written_moment c targets below ps (x ∷ xs) [] = refl
written_moment c targets below ps (x ∷ xs) (v ∷ vs) =
    written_moment (written c x v) targets below ps xs vs ∙ ap (λ (m : Moment). with_values m xs vs) (one_written_moment c targets below ps x v)

-- what has the same shape is as full
pub same_full : (t : TypedProgram) (c d : Config) → SameShape c d → IsFull t c → IsFull t d
same_full t c d same full =
    record {
      all_globals = ap (λ (n : ℕ). nat_lt n (length t.globals)) same.globals ∙ full.all_globals;
      all_locals =
          ap (λ (n : ℕ). nat_lt (length d.top.locals) (length (locals_at t n))) same.proc
          ∙ ap (λ (n : ℕ). nat_lt n (length (locals_at t c.top.proc))) same.locals ∙ full.all_locals;
      body = subst (HasBody t) (sym same.proc) full.body;
    }

-- A configuration behind the writing of columns mirrors the moment behind it.
pub written_mirrors : (t : TypedProgram) (c : Config) (targets : List Column) (below : List Activation) (todo : List Todo) (xs : List Column) (vs : List ℤ) →
    WaitAll t c.below targets below → IsFull t c → Mirrors t (moved_to (all_written c xs vs) (settled todo)) (with_values (moment_of c targets below (pendings todo)) xs vs)
written_mirrors t c targets below todo xs vs waits full =
    let same : SameShape c (all_written c xs vs) = same_all_written c xs vs in
    record {
      values = all_written c xs vs;
      todo = todo;
      targets = targets;
      below = below;
      config = refl;
      moment = sym (written_moment c targets below (pendings todo) xs vs);
      waits = subst (λ (fs : List Frame). WaitAll t fs targets below) (sym same.below) waits;
      full = same_full t c (all_written c xs vs) same full;
    }
